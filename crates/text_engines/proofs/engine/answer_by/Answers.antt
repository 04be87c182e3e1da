use Rattle.std.proofs.Common.{Err, ap, inr, refl}
use Rattle.text_engines.specs.Decoding.{WithinLimit, OrMemory}
use Rattle.text_engines.specs.Engine.{gives_by}
use Rattle.text_engines.proofs.WritingLemmas.{unread_answered, memory_answered, made_answered, limited_made}
use Rattle.text_engines.proofs.engine.answer_by.Goals as goal

pub returns : goal.returns
returns g c = unread_answered (OrMemory (WithinLimit (gives_by g.F.FnOnce c.args.answer))) _ _ _ _ _ _ (λ input. inr refl) (c.in-Err-Stopped.ensures.stopped (ap Err c.in-Err-Stopped.field-0-is))

pub returns-in-Err-Memory : goal.returns-in-Err-Memory
returns-in-Err-Memory g c =
    let memory = c.want_of_memory.ensures in
    memory_answered (OrMemory (WithinLimit (gives_by g.F.FnOnce c.args.answer))) _ _ _ _ _ _ _ c.want_of_memory.result (λ input. inr refl) (c.in-Err-Memory.ensures.short (ap Err c.in-Err-Memory.field-0-is)) memory.ok memory.stopped memory.failed memory.unfailed

pub returns-in-Ok : goal.returns-in-Ok
returns-in-Ok g c =
    let gives = gives_by g.F.FnOnce c.args.answer in
    let made = c.limited_answer.result in
    let written = c.write_output.ensures in
    made_answered (OrMemory (WithinLimit gives)) _ _ _ _ _ _ _ made c.write_output.result c.in-Ok.ensures.unfailed (limited_made gives _ c.in-Ok.input.items made c.in-Ok.ensures.ok c.limited_answer.ensures) written.done written.stopped written.failed written.unfailed
