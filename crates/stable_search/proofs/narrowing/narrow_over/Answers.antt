use Rattle.std.proofs.Common.{get_or, List, ℕ, subst}
use Rattle.stable_search.proofs.NarrowLemmas.{narrowed, Kept}
use Rattle.stable_search.proofs.narrowing.narrow_over.Goals as goal

pub returns : goal.returns
returns c =
    narrowed c.args.way.now c.args.sets.now c.with_partner-left.result c.requires
    (subst (λ (fits : List ℕ). Kept fits (get_or c.args.sets.now c.args.way.now.from 0) (get_or c.args.sets.now c.args.way.now.to 0) c.with_partner-left.result) c.as_slice.ensures.value (c.with_partner-left.ensures.fewer, c.with_partner-left.ensures.kept))
