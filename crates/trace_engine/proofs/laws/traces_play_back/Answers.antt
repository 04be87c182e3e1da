use Rattle.trace_engine.proofs.LawLemmas.{play_back}
use Rattle.trace_engine.proofs.laws.traces_play_back.Goals as goal

pub returns : goal.returns
returns c =
    play_back c.lines_end_by_line_feeds.ensures c.lines_are_read_as_they_say.ensures c.texts_spell_one_network.ensures c.what_is_spelt_is_not_refused.ensures c.each_network_has_a_setting.ensures c.what_is_played_is_replayed.ensures
