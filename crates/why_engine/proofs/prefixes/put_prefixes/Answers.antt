use Rattle.router_core.specs.Views.{plain_of}
use Rattle.why_engine.specs.Explaining.{prefix_lines}
use Rattle.why_engine.proofs.WhyLemmas.{text_on}
use Rattle.why_engine.proofs.prefixes.put_prefixes.Goals as goal

pub loop-origin-preserved : goal.loop-origin-preserved
loop-origin-preserved c =
    text_on (λ o. prefix_lines c.args.table.now (plain_of c.args.router.now).router c.args.peers.now o.prefix) c.args.origins.now c.loop-origin.origin-index c.origin-item.result c.loop-origin.out.items c.put_prefix.new.out.items _
    c.loop-origin-test.true c.origin-item.is c.in_ok-put_prefix.ensures c.loop-origin.invariant
