use Rattle.std.proofs.lemmas.Bool.{false≢true}
use Rattle.text_engines.specs.Decoding.{output}
use Rattle.text_engines.proofs.CheckLemmas.{if_ok}
use Rattle.why_engine.proofs.WhyLemmas.{explained, nobody}
use Rattle.why_engine.proofs.why.why_output.Goals as goal

pub returns-in-Some-router : goal.returns-in-Some-router
returns-in-Some-router c =
    if_ok _ _ c.router_output.result
    (λ printed is. explained c.args.world.now c.args.network.now c.args.number c.in-Some.table c.in-Some-router.router.now (output printed.0.items printed.1) c.requires c.in-Some.ensures.value c.in-Some.ensures.table c.in-Some-router.ensures is)
    c.router_output.ensures

pub returns-in-None : goal.returns-in-None
returns-in-None c =
    if_ok _ _ c.refused_output.result
    (λ printed is. nobody c.args.world.now c.args.network.now c.args.number _ (output printed.0.items printed.1) c.requires (λ h. false≢true (c.in-None.ensures.some.1 h)) c.text.ensures is)
    c.refused_output.ensures
