-- what was written, before the paths that are left, is what all are written as
use Rattle.std.proofs.Common.{◌≡◌, ◌++◌, [], drop, get_or}
use Rattle.stable_search.specs.Every.{choices_of}
use Rattle.stable_engine.specs.Listing.{paths_behind}
use Rattle.stable_engine.proofs.lines.put_paths.Given as goal

abbrev pub invariant-loop-router : goal.invariant-loop-router
invariant-loop-router l =
    l.out.items ++ paths_behind (drop l.router (get_or (choices_of l.part) l.choice []))
    ≡ l.fn.out.items ++ paths_behind (get_or (choices_of l.part) l.choice [])
