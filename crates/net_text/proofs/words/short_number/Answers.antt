use Rattle.std.proofs.Common.{arith}
use Rattle.net_text.proofs.WordLemmas.{short_fits}
use Rattle.net_text.proofs.words.short_number.Goals as goal

pub overflow_mul-value : goal.overflow_mul-value
overflow_mul-value c =
    let fits = short_fits c.loop-x.x-index c.loop-x.value (omega (arith, c.requires)) c.loop-x.invariant.small in
    omega (arith, fits)

pub overflow_add-value : goal.overflow_add-value
overflow_add-value c =
    let fits = short_fits c.loop-x.x-index c.loop-x.value (omega (arith, c.requires)) c.loop-x.invariant.small in
    omega (arith, fits, c.from.ensures)
