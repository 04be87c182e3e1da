-- what was put, before what is left, is the kept path and what all are printed as
use Rattle.std.proofs.Common.{◌≡◌, ◌++◌, drop}
use Rattle.router_core.specs.Views.{plain_of, sides_of}
use Rattle.why_engine.specs.Explaining.{kept_line, words_text}
use Rattle.why_engine.proofs.prefixes.put_prefix.Given as goal

abbrev pub invariant-loop-peer : goal.invariant-loop-peer
invariant-loop-peer l =
    l.out.items ++ words_text l.table l.prefix ((plain_of l.router).router.kept l.prefix) (sides_of l.router) (drop l.peer-index l.peers)
    ≡ l.fn.out.items
    ++ (kept_line l.prefix ((plain_of l.router).router.kept l.prefix) ((plain_of l.router).router.originated l.prefix)
    ++ words_text l.table l.prefix ((plain_of l.router).router.kept l.prefix) (sides_of l.router) l.peers)
