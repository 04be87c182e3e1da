use Rattle.std.proofs.Common.{List, Bool, true, false, subst, sym}
use Rattle.std.specs.Prelude.{codes}
use Rattle.net_text.specs.Lexing.{Text, lines_of}
use Rattle.text_engines.specs.Decoding.{output}
use Rattle.text_engines.specs.Inputs.{NetworkGives, LinesGive}
use Rattle.text_engines.proofs.CheckLemmas.{if_ok, lines_give}
use Rattle.trace_engine.specs.Tracings.{ScheduleTraces, network_lines}
use Rattle.trace_engine.proofs.stream.TraceEngineEngine.answer.Goals as goal

pub returns-then-self : goal.returns-then-self
returns-then-self c =
    let split = c.split_at_section-split.ensures in
    let s = c.split_at_section-split.result in
    let text = c.args.text.now in
    if_ok _ _ c.network_output.result
    (λ printed gives.
    subst (λ (shows : Bool). LinesGive (ScheduleTraces shows (network_lines text)) (codes "schedule") (lines_of text) (output printed.0.items printed.1)) (sym c.if-self.true)
    (lines_give (ScheduleTraces true (network_lines text)) (codes "schedule") text _ _ _ _ split.front split.behind split.before
    (subst (λ (lines : List Text). NetworkGives (ScheduleTraces true lines) (lines_of s.front.now) s.before (lines_of s.behind.now) (output printed.0.items printed.1)) split.front gives)))
    c.network_output.ensures

pub returns-else-self : goal.returns-else-self
returns-else-self c =
    let split = c.split_at_section-split.ensures in
    let s = c.split_at_section-split.result in
    let text = c.args.text.now in
    if_ok _ _ c.network_output-else-self.result
    (λ printed gives.
    subst (λ (shows : Bool). LinesGive (ScheduleTraces shows (network_lines text)) (codes "schedule") (lines_of text) (output printed.0.items printed.1)) (sym c.if-self.false)
    (lines_give (ScheduleTraces false (network_lines text)) (codes "schedule") text _ _ _ _ split.front split.behind split.before
    (subst (λ (lines : List Text). NetworkGives (ScheduleTraces false lines) (lines_of s.front.now) s.before (lines_of s.behind.now) (output printed.0.items printed.1)) split.front gives)))
    c.network_output-else-self.ensures
