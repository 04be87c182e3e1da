use Rattle.std.proofs.Common.{ℕ, subst}
use Rattle.std.specs.List.{Contains}
use Rattle.std.specs.Int.RustNames.{bit_and}
use Rattle.stable_search.proofs.PartLemmas.{if_ok}
use Rattle.stable_search.proofs.following.add_met.Goals as goal

pub returns-clause-added : goal.returns-clause-added
returns-clause-added c =
    if_ok c.add_common.result (λ all added yes has set inside.
    subst (λ (n : ℕ). Contains c.add_common.new.met.items (bit_and set n)) c.fitting.ensures (added yes set inside)) c.add_common.ensures.added
