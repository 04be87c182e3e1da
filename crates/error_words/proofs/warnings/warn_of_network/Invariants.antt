-- what was said, and the warnings of the routers that are left, are what is said of all
use Rattle.std.proofs.Common.{◌≡◌, drop, flat_map}
use Rattle.error_words.specs.Warnings.{all_more, router_warnings, warnings}
use Rattle.error_words.proofs.warnings.warn_of_network.Given as goal

abbrev pub invariant-loop-router : goal.invariant-loop-router
invariant-loop-router l =
    all_more (flat_map (router_warnings l.network) (drop l.router-index l.network.routers)) l.out ≡ all_more (warnings l.network) l.fn.out
