use Rattle.ranked_policy.specs.Policies.{Table}
use Rattle.ranked_policy.proofs.TableLemmas.{each_one_rule}
use Rattle.ranked_policy.proofs.TestLemmas.{rule_is}
use Rattle.ranked_policy.proofs.table.PolicyTable.rule.Goals as goal

pub returns : goal.returns
returns c =
    let t : Table = record { router = c.self.inside.router; rules = c.self.inside.rules.now; origins = c.self.inside.origins.now } in
    let bits = c.a_prefix_is_its_bits.ensures in
    rw (← c.self.view_is) (rule_is (each_one_rule bits.length bits.once) t c.self.invariant c.args.prefix.now (λ r. r.now) c.longest.result c.longest.ensures)
