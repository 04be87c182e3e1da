-- the digits are those of what was taken
use Rattle.std.proofs.Common.{◌+◌, ◌-◌, ◌≡◌, ◌<◌, ℕ, List, length}
use Rattle.std.specs.Io.KnownBytes.{Consumes}
use Rattle.text_engines.specs.Digits.{without_blanks}
use Rattle.text_engines.specs.Hearing.{Hears}
use Rattle.text_engines.specs.declared.transfer.TheConstants.{INPUT_LIMIT}
use Rattle.text_engines.proofs.hex_input.hear_by.Given as goal

abbrev pub invariant-chunks : goal.invariant-chunks
invariant-chunks g l =
    ((seen : List ℕ) × Consumes (g.S.Source.remaining l.fn.source) (g.S.Source.remaining l.source) seen × (length seen ≡ l.total) × Hears l.rule l.hearing (without_blanks seen))
    × (g.S.Source.failed l.source ≡ g.S.Source.failed l.fn.source) × (0 < length l.chunk)

abbrev pub decreases-chunks : goal.decreases-chunks
decreases-chunks g l = INPUT_LIMIT + 1 - l.total
