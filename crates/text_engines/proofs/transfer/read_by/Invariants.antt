use Rattle.std.proofs.Common.{◌+◌, ◌-◌, ◌≡◌, vec_len}
use Rattle.std.specs.Io.KnownBytes.{Consumes}
use Rattle.text_engines.specs.declared.transfer.TheConstants.{INPUT_LIMIT}
use Rattle.text_engines.proofs.transfer.read_by.Given as goal

abbrev pub invariant-chunks : goal.invariant-chunks
invariant-chunks g l = Consumes (g.S.Source.remaining l.fn.source) (g.S.Source.remaining l.source) l.input.items × (g.S.Source.failed l.source ≡ g.S.Source.failed l.fn.source)

abbrev pub decreases-chunks : goal.decreases-chunks
decreases-chunks g l = INPUT_LIMIT + 1 - vec_len l.input
