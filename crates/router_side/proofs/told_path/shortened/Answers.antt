use Rattle.std.proofs.Common.{◌∙◌}
use Rattle.router_side.proofs.Spelt.{frame_spelt}
use Rattle.router_side.proofs.told_path.shortened.Goals as goal

pub returns-then-are-clause-spells : goal.returns-then-are-clause-spells
returns-then-are-clause-spells c = frame_spelt c.args.frame.now c.in-Some.front.now c.in-Some.rest.now c.in-Some.ensures.cases (c.are.ensures c.if-are.true ∙ c.announcement_start.ensures)
