use Rattle.std.proofs.Common.{rules}
use Rattle.std.proofs.lemmas.Fn.{always_returns_same}
use Rattle.std.proofs.lemmas.List.Sorted.{ranks_by}
use Rattle.std.specs.Ordering.{nat_cmp, is_lt}
use Rattle.std.specs.Cmp.Lexicographic.{slice_cmp, nat_list_cmp_total}
use Rattle.net_text.specs.Repeating.{path_in}
use Rattle.net_text.proofs.RepeatLemmas.{in_order, distinct_moved}
use Rattle.net_text.proofs.repeats.put_in_order.Goals as goal

pub returns-clause-order : goal.returns-clause-order
returns-clause-order c =
    in_order c.sort_unstable_by.new.self.items
    (c.sort_unstable_by.ensures.sorted (λ x y. is_lt (slice_cmp nat_cmp (path_in x) (path_in y))) (ranks_by nat_list_cmp_total path_in) (always_returns_same _ _ _ (λ a r g k. search rules)))

pub returns-clause-same : goal.returns-clause-same
returns-clause-same c = distinct_moved c.args.room.now.items c.sort_unstable_by.new.self.items c.sort_unstable_by.ensures.permutation
