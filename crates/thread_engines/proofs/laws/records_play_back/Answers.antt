use Rattle.thread_engines.proofs.PlayLemmas.{play_back}
use Rattle.thread_engines.proofs.laws.records_play_back.Goals as goal

pub returns : goal.returns
returns c =
    play_back c.spelt_settings.ensures.hold c.lines_end_by_line_feeds.ensures c.texts_spell_one_network.ensures c.what_is_spelt_is_not_refused.ensures c.linked_routers_are_peers.ensures
    c.each_network_has_a_setting.ensures c.lines_are_read_as_they_say.ensures c.called_runs_are_played.ensures c.members_are_the_routers.ensures
