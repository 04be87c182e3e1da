use Rattle.std.proofs.Common.{Ok, Err, ap, inr, refl}
use Rattle.text_engines.specs.Decoding.{Prints}
use Rattle.text_engines.proofs.WritingLemmas.{unread_answered, memory_answered, made_answered, given_made}
use Rattle.text_engines.proofs.decode.decode_stream.Goals as goal

pub returns-in-Err-Stopped : goal.returns-in-Err-Stopped
returns-in-Err-Stopped g c = unread_answered (Prints c.args.rule.now) _ _ _ _ _ _ (λ input. inr refl) (c.in-Err-Stopped.ensures.stopped (ap Err c.in-Err-Stopped.field-0-is))

pub returns-in-Err-Memory : goal.returns-in-Err-Memory
returns-in-Err-Memory g c =
    let memory = c.want_of_memory.ensures in
    memory_answered (Prints c.args.rule.now) _ _ _ _ _ _ _ c.want_of_memory.result (λ input. inr refl) (c.in-Err-Memory.ensures.short (ap Err c.in-Err-Memory.field-0-is)) memory.ok memory.stopped memory.failed memory.unfailed

pub returns-in-Ok : goal.returns-in-Ok
returns-in-Ok g c =
    let written = c.write_output.ensures in
    made_answered (Prints c.args.rule.now) _ _ _ _ _ _ _ (Ok c.in-Ok.printed) c.write_output.result c.in-Ok.ensures.unfailed (given_made c.args.rule.now _ c.in-Ok.printed c.in-Ok.ensures.ok) written.done written.stopped written.failed written.unfailed
