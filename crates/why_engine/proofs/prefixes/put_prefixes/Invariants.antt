-- what was put, before what is left, is what all are printed as
use Rattle.std.proofs.Common.{◌≡◌, ◌++◌, drop}
use Rattle.router_core.specs.Views.{plain_of}
use Rattle.why_engine.specs.Explaining.{prefixes_lines}
use Rattle.why_engine.proofs.prefixes.put_prefixes.Given as goal

abbrev pub invariant-loop-origin : goal.invariant-loop-origin
invariant-loop-origin l =
    l.out.items ++ prefixes_lines l.table (plain_of l.router).router l.peers (drop l.origin-index l.origins)
    ≡ l.fn.out.items ++ prefixes_lines l.table (plain_of l.router).router l.peers l.origins
