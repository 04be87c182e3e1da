use Rattle.std.proofs.Common.{ℕ, List, Option, Bool, Result, rules, subst, sym}
use Rattle.net_text.specs.Lexing.{lines_of}
use Rattle.text_engines.specs.declared.channel.IoStopped.{IoStopped}
use Rattle.text_engines.specs.Decoding.{output, WithinLimit, OrMemory}
use Rattle.text_engines.specs.Engine.{IsAnswered}
use Rattle.text_engines.proofs.WritingLemmas.{answered_more, or_memory_more}
use Rattle.command_line.specs.declared.tasks.ThreadTask.{ThreadTask}
use Rattle.command_line.specs.declared.tasks.ThreadTask.TheVariants as threads
use Rattle.command_line.specs.Tasks.{LinesPrintBy, ThreadsPrint}
use Rattle.command_line.proofs.tasks.run_thread_task.Goals as goal

prints : (task : ThreadTask) (known old new : Option (List ℕ)) (unread now unwritten ended : Bool) (r : Result ℕ IoStopped)
    → IsAnswered (OrMemory (WithinLimit (λ text. LinesPrintBy task (lines_of text)))) known old new unread now unwritten ended r → IsAnswered (ThreadsPrint task) known old new unread now unwritten ended r
prints (threads.Run options) known old new unread now unwritten ended r h = h
prints (threads.Record options) known old new unread now unwritten ended r h = h

pub returns : goal.returns
returns g c =
    let gives = λ (text : List ℕ). LinesPrintBy c.args.task (lines_of text) in
    prints c.args.task _ _ _ _ _ _ _ _
    (answered_more _ _ (or_memory_more _ gives
    (λ text out given.
    let one : gives given.1.0.now (output given.0.0.items given.0.1) = search rules in
    subst (gives text) (sym given.2) (subst (λ (t : List ℕ). gives t (output given.0.0.items given.0.1)) given.1.2 one)))
    _ _ _ _ _ _ _ _ c.answer_by.ensures)
