use Rattle.std.proofs.Common.{◌∙◌, length, ap, arith}
use Rattle.std.proofs.lemmas.List.{length_push}
use Rattle.wheel_search.specs.Lists.{level}
use Rattle.wheel_search.proofs.ListLemmas.{levels_more}
use Rattle.wheel_search.proofs.listing.levels.Goals as goal

pub loop-length-preserved : goal.loop-length-preserved
loop-length-preserved c =
    let p = c.args.instance.now in
    let old = c.loop-length.levels.items in
    let items = c.in_ok-push.ensures.items in (
      levels_more p old c.loop-length.invariant.0 c.push.new.self.items c.in_ok-level.level items (c.in_ok-level.ensures.level ∙ ap (λ xs. level p.net p.prefix (length xs)) c.as_slice.ensures.value),
      omega (arith, ap length items, length_push old c.in_ok-level.level, c.loop-length.invariant.1),
    )
