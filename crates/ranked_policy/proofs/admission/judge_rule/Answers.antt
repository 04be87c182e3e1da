use Rattle.std.proofs.Common.{arith}
use Rattle.std.proofs.lemmas.Bool.{iff_false}
use Rattle.ranked_policy.specs.Adding.{RuleMeets}
use Rattle.ranked_policy.proofs.Judged.{refused_long, refused_repeated, refused_unknown, refused_limit, meets_all}
use Rattle.ranked_policy.proofs.admission.judge_rule.Goals as goal
use Rattle.ranked_policy.proofs.admission.judge_rule.Goals.{then-not-are_distinct-via-then-not-are_distinct, then-not-are_distinct-via-else-not-are_distinct+then-not-is_unruled, then-not-is_router-via-then-not-is_router, then-not-is_router-via-else-not-is_router+then-not-are_known, then-paths-gt-MOST_PATHS-via-then-paths-gt-MOST_PATHS, then-paths-gt-MOST_PATHS-via-else-paths-gt-MOST_PATHS+then-not-has_room}

pub returns-then-not-are_short : goal.returns-then-not-are_short
returns-then-not-are_short c =
    refused_long (RuleMeets c.args.routers.now c.args.asn c.args.prefix.now c.args.paths.now) (c.are_simple.ensures.0 c.if-not-are_simple.false)
    (iff_false c.are_short.ensures c.if-not-are_short.true)

pub returns-then-not-are_distinct : goal.returns-then-not-are_distinct
returns-then-not-are_distinct c =
    refused_repeated (RuleMeets c.args.routers.now c.args.asn c.args.prefix.now c.args.paths.now) (c.are_simple.ensures.0 c.if-not-are_simple.false)
    (c.are_short.ensures.0 c.if-not-are_short.false)
    (elim c.then-not-are_distinct.branch [
      | then-not-are_distinct-via-then-not-are_distinct w ↦ λ h. iff_false c.are_distinct.ensures w.if-not-are_distinct.true h.0
      | then-not-are_distinct-via-else-not-are_distinct+then-not-is_unruled w ↦ λ h. iff_false w.is_unruled.ensures w.if-not-is_unruled.true h.1
    ])

pub returns-then-not-is_router : goal.returns-then-not-is_router
returns-then-not-is_router c =
    refused_unknown (RuleMeets c.args.routers.now c.args.asn c.args.prefix.now c.args.paths.now) (c.are_simple.ensures.0 c.if-not-are_simple.false)
    (c.are_short.ensures.0 c.if-not-are_short.false) (c.are_distinct.ensures.0 c.if-not-are_distinct.false, c.is_unruled.ensures.0 c.if-not-is_unruled.false)
    (elim c.then-not-is_router.branch [
      | then-not-is_router-via-then-not-is_router w ↦ λ h. iff_false c.is_router.ensures w.if-not-is_router.true h.0
      | then-not-is_router-via-else-not-is_router+then-not-are_known w ↦ λ h. iff_false w.are_known.ensures w.if-not-are_known.true h.1
    ])

pub returns-then-paths-gt-MOST_PATHS : goal.returns-then-paths-gt-MOST_PATHS
returns-then-paths-gt-MOST_PATHS c =
    refused_limit (RuleMeets c.args.routers.now c.args.asn c.args.prefix.now c.args.paths.now) (c.are_simple.ensures.0 c.if-not-are_simple.false)
    (c.are_short.ensures.0 c.if-not-are_short.false) (c.are_distinct.ensures.0 c.if-not-are_distinct.false, c.is_unruled.ensures.0 c.if-not-is_unruled.false)
    (c.is_router.ensures.0 c.if-not-is_router.false, c.are_known.ensures.0 c.if-not-are_known.false)
    (elim c.then-paths-gt-MOST_PATHS.branch [
      | then-paths-gt-MOST_PATHS-via-then-paths-gt-MOST_PATHS w ↦ λ h. omega (arith, h.0, w.if-paths-gt-MOST_PATHS.true)
      | then-paths-gt-MOST_PATHS-via-else-paths-gt-MOST_PATHS+then-not-has_room w ↦ λ h. iff_false w.has_room.ensures w.if-not-has_room.true h.1
    ])

pub returns : goal.returns
returns c =
    meets_all (RuleMeets c.args.routers.now c.args.asn c.args.prefix.now c.args.paths.now) (c.are_simple.ensures.0 c.if-not-are_simple.false)
    (c.are_short.ensures.0 c.if-not-are_short.false) (c.are_distinct.ensures.0 c.if-not-are_distinct.false, c.is_unruled.ensures.0 c.if-not-is_unruled.false)
    (c.is_router.ensures.0 c.if-not-is_router.false, c.are_known.ensures.0 c.if-not-are_known.false)
    (omega (arith, c.if-paths-gt-MOST_PATHS.false), c.has_room.ensures.0 c.if-not-has_room.false) tt tt tt
