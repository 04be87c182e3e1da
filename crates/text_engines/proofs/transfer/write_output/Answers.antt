use Rattle.std.proofs.Common.{refl}
use Rattle.text_engines.specs.Decoding.{output}
use Rattle.text_engines.specs.Engine.{IsMade}
use Rattle.text_engines.proofs.WritingLemmas.{memory_front, on_err}
use Rattle.text_engines.proofs.transfer.write_output.Goals as goal

pub returns-in_err-write_out-in-Ok-clause-stopped : goal.returns-in_err-write_out-in-Ok-clause-stopped
returns-in_err-write_out-in-Ok-clause-stopped g c =
    on_err c.from_residual.result (output c.in-Ok.text.items c.in-Ok.status, rw c.in-Ok.is refl, rw c.as_slice.ensures.value at c.in_err-write_out-in-Ok.ensures.stopped)

pub returns-in-Err-clause-stopped : goal.returns-in-Err-clause-stopped
returns-in-Err-clause-stopped g c = memory_front (IsMade c.args.made) _ _ c.want_of_memory.result (rw c.in-Err.is refl) c.want_of_memory.ensures.stopped

pub returns-in_ok-write_out-in-Ok-clause-done : goal.returns-in_ok-write_out-in-Ok-clause-done
returns-in_ok-write_out-in-Ok-clause-done g c = (c.in-Ok.text.items, rw c.in-Ok.is refl, rw c.as_slice.ensures.value at c.in_ok-write_out-in-Ok.ensures.ok)
