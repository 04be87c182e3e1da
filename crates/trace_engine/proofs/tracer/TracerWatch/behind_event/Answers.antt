use Rattle.std.proofs.Common.{◌≡◌, ◌++◌, List, ℕ, Ok, Err, refl, ap, ◌∙◌, append_assoc}
use Rattle.std.specs.Prelude.{Result, OnOk}
use Rattle.world_core.specs.World.{World}
use Rattle.world_core.specs.Watching.{Adds}
use Rattle.net_text.specs.Lexing.{lines_of}
use Rattle.schedule_text.specs.Events.{event_line}
use Rattle.schedule_text.proofs.LineLemmas.{one_lines}
use Rattle.trace_engine.specs.Noting.{notes_text}
use Rattle.trace_engine.specs.Tracing.{EventLines}
use Rattle.trace_engine.proofs.tracer.TracerWatch.behind_event.Goals as goal

-- what follows where there is a value
on_ok : {T E : Type 0} (r : Result T E) (P Q : Type 0) → (P → Q) → OnOk r P → OnOk r Q
on_ok (Ok v) P Q f h = f h
on_ok (Err e) P Q f h = h

pub returns-clause-ok : goal.returns-clause-ok
returns-clause-ok g c =
    let old = c.args.self.now.out.items in
    let mid = c.event_line.new.out.items in
    let new = c.put_notes.new.out.items in
    let line = event_line c.args.event.now in
    let comments = notes_text _ (lines_of c.text.result.now) in
    on_ok c.put_notes.result (new ≡ mid ++ comments) ((before : World) → Unit {0} → Adds old new (EventLines _ c.args.event.now))
    (λ last before saw. (line ++ comments, (comments, record { lines = lines_of c.text.result.now; are_lines = one_lines c.text.result.now; are = refl }, refl), last ∙ ap (λ (t : List ℕ). t ++ comments) c.in_ok-event_line.ensures.ok ∙ append_assoc old line comments))
    c.put_notes.ensures
