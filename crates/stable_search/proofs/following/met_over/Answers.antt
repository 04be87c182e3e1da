use Rattle.std.proofs.Common.{ℕ, get_or}
use Rattle.std.specs.List.{Contains}
use Rattle.std.specs.Int.RustNames.{bit_and}
use Rattle.stable_search.specs.Picks.{Has}
use Rattle.stable_search.proofs.FollowLemmas.{one_more}
use Rattle.stable_search.proofs.following.met_over.Goals as goal

pub loop-value-preserved : goal.loop-value-preserved
loop-value-preserved c = λ value lt has set inside.
    one_more (λ (v : ℕ). Has c.args.theirs v → (s : ℕ) → Contains c.args.sets.now s → Contains c.add_met.new.met.items (bit_and s (get_or c.args.end.now.fits.items v 0))) c.loop-value.value
    (c.in_ok-add_met.ensures.added c.if-not-branch.false) (λ v vlt h s is. c.in_ok-add_met.ensures.kept _ (c.loop-value.invariant v vlt h s is)) value lt has set inside
