use Rattle.why_engine.proofs.OneText.{explains_one}
use Rattle.why_engine.proofs.laws.each_router_has_one_text.Goals as goal

pub returns : goal.returns
returns c = explains_one
