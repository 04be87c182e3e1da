use Rattle.std.proofs.Common.{ℕ, List, ◌++◌, take, drop, not, arith, sym, subst, ◌∙◌}
use Rattle.std.proofs.KnownBytes.{Consumes-trans}
use Rattle.std.proofs.lemmas.List.{length-append, length-drop, length-take-le}
use Rattle.std.proofs.lemmas.List.Elements.{filter-append}
use Rattle.text_engines.specs.Decoding.{is_blank}
use Rattle.text_engines.specs.Digits.{without_blanks}
use Rattle.text_engines.specs.Hearing.{Hears}
use Rattle.text_engines.proofs.DigitLemmas.{was_ok}
use Rattle.text_engines.proofs.hex_input.hear_by.Goals as goal

pub chunks-preserved : goal.chunks-preserved
chunks-preserved g c =
    let before = c.chunks.invariant.0 in
    let piece : List ℕ = take c.in-Ok.n c.take.new.buf in
    let read = was_ok c.feed.result (sym c.is_err.ensures.value ∙ c.if-is_err.false) c.feed.ensures (without_blanks before.0) before.3 in (
      (
        before.0 ++ piece,
        Consumes-trans _ _ _ before.0 piece before.1 c.in-Ok.ensures.bytes.0,
        omega (arith, length-append before.0 piece, length-take-le c.in-Ok.n c.take.new.buf c.in-Ok.ensures.bound.0, before.2),
        subst (Hears c.args.rule.now c.feed.new.self) (sym (filter-append (λ octet. not (is_blank octet)) before.0 piece)) read,
      ),
      c.in-Ok.ensures.ok ∙ c.chunks.invariant.1,
      omega (arith, length-append c.feed.new.text (drop c.in-Ok.n c.take.new.buf), length-drop c.in-Ok.n c.take.new.buf, c.feed.auto.text, length-take-le c.in-Ok.n c.take.new.buf c.in-Ok.ensures.bound.0, c.take.auto.buf, c.chunks.invariant.2),
    )
