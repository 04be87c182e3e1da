-- so many were made, and nothing passed
use Rattle.std.proofs.Common.{◌≡◌, [], length}
use Rattle.std.specs.List.{AllByRecursion}
use Rattle.net_workers.specs.Lanes.{AreNew}
use Rattle.net_workers.proofs.dealing.no_pairs.Given as goal

abbrev pub invariant-loop-made : goal.invariant-loop-made
invariant-loop-made l = record {
  many : length l.ends.items ≡ l.made;
  new : AllByRecursion AreNew l.ends.items;
  none : AllByRecursion (λ e. e.pairs.items ≡ []) l.ends.items;
}
