-- what was said, and the warnings of the paths that are left, are what is said of all
use Rattle.std.proofs.Common.{◌≡◌, drop, flat_map}
use Rattle.error_words.specs.Warnings.{all_more, path_warnings}
use Rattle.error_words.proofs.warnings.warn_of_paths.Given as goal

abbrev pub invariant-loop-path : goal.invariant-loop-path
invariant-loop-path l =
    all_more (flat_map (path_warnings l.network l.asn l.rule.prefix) (drop l.path-index l.rule.paths)) l.out
    ≡ all_more (flat_map (path_warnings l.network l.asn l.rule.prefix) l.rule.paths) l.fn.out
