use Rattle.std.proofs.Common.{sym, ◌∙◌, inl}
use Rattle.rib_tables.specs.Least.{HoldsOfAll}
use Rattle.rib_tables.specs.Owners.{IsSettled}
use Rattle.rib_tables.proofs.AskingLemmas.{found_least}
use Rattle.rib_tables.proofs.rib.Rib.is_pending.Goals as goal

pub returns-then-is_some-clause-some : goal.returns-then-is_some-clause-some
returns-then-is_some-clause-some c = λ yes.
    let s = c.args.self.now in
    inl (found_least s.net.origins (HoldsOfAll s.net.origins (IsSettled s)) (IsSettled s) c.dirty.result (sym c.is_some.ensures ∙ c.if-is_some.true) c.dirty.ensures)
