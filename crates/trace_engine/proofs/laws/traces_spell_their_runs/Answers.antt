use Rattle.trace_engine.proofs.LawLemmas.{spell_their_runs}
use Rattle.trace_engine.proofs.laws.traces_spell_their_runs.Goals as goal

pub returns : goal.returns
returns c = spell_their_runs c.lines_end_by_line_feeds.ensures c.lines_are_read_as_they_say.ensures
