use Rattle.std.proofs.Common.{ap, sym, ◌∙◌}
use Rattle.snap_collector.specs.Collector.{CollectorView}
use Rattle.snap_collector.specs.Flights.{is_whole}
use Rattle.world_core.specs.Verdicts.{judged}
use Rattle.text_engines.specs.Decoding.{output}
use Rattle.text_engines.proofs.CheckLemmas.{if_ok}
use Rattle.play_engine.proofs.CutLemmas.{shows_none}
use Rattle.play_engine.proofs.cuts.cut_output.Goals as goal

pub whole_output-requires-whole : goal.whole_output-requires-whole
whole_output-requires-whole c = λ lifetimes.
    (c.requires, ap is_whole (ap (λ (j : CollectorView). judged j c.args.number) (sym c.collector.ensures.value) ∙ sym c.outcome.ensures) ∙ sym c.is_whole.ensures ∙ c.if-is_whole.true)

pub returns-else-is_whole : goal.returns-else-is_whole
returns-else-is_whole c =
    if_ok _ _ c.none_output.result
    (λ printed is. shows_none c.args.world c.args.number (output printed.0.items printed.1)
    (ap is_whole (ap (λ (j : CollectorView). judged j c.args.number) (sym c.collector.ensures.value) ∙ sym c.outcome.ensures) ∙ sym c.is_whole.ensures ∙ c.if-is_whole.false) c.collector.ensures.verdicts is)
    c.none_output.ensures
