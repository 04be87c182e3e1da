-- what was written, before the choices that are left, is what all are written as
use Rattle.std.proofs.Common.{◌≡◌, ◌++◌, drop, flat_map}
use Rattle.stable_search.specs.Every.{choices_of}
use Rattle.stable_engine.specs.Listing.{paths_behind}
use Rattle.stable_engine.proofs.lines.put_all_paths.Given as goal

abbrev pub invariant-loop-choice : goal.invariant-loop-choice
invariant-loop-choice l =
    l.out.items ++ flat_map paths_behind (drop l.choice (choices_of l.part)) ≡ l.fn.out.items ++ flat_map paths_behind (choices_of l.part)
