use Rattle.rib_tables.proofs.OpeningLemmas.{key_more}
use Rattle.rib_tables.proofs.opening.keys_of.Goals as goal

pub loop-origin-preserved : goal.loop-origin-preserved
loop-origin-preserved c =
    key_more c.args.origins.now c.requires c.loop-origin.origin-index c.origin-item.result c.loop-origin-test.true c.origin-item.is c.loop-origin.keys.keys c.insert.new.self.keys c.loop-origin.invariant c.in_ok-insert.ensures.keys
