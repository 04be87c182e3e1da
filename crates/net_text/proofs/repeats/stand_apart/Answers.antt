use Rattle.std.proofs.Common.{rules}
use Rattle.std.proofs.lemmas.Fn.{always_returns_same}
use Rattle.std.specs.Ordering.{nat_cmp, is_lt}
use Rattle.std.specs.Cmp.Lexicographic.{slice_cmp}
use Rattle.net_text.specs.Repeating.{path_in}
use Rattle.net_text.proofs.RepeatLemmas.{neighbours}
use Rattle.net_text.proofs.repeats.stand_apart.Goals as goal

pub returns : goal.returns
returns c =
    neighbours c.args.paths.now c.is_sorted_by.result c.requires
    (c.is_sorted_by.ensures.cases (λ x y. is_lt (slice_cmp nat_cmp (path_in x) (path_in y))) (always_returns_same _ _ _ (λ a r g k. search rules)))
