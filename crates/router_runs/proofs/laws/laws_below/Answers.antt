-- Law by law.
use Rattle.router_runs.proofs.laws.laws_below.Goals as goal

pub returns : goal.returns
returns c = record {
  header = c.header_is_its_front.ensures;
  sizes = c.written_has_a_header.ensures;
  reads = c.a_peers_writing_is_read.ensures;
  facts = c.end_facts_hold.ensures;
  keeps = c.moves_keep_end_facts.ensures.keeps;
  not_shut = c.moves_keep_end_facts.ensures.not_shut;
  stays_past = c.moves_keep_end_facts.ensures.stays_past;
  entries = c.entries_add_up.ensures;
  heard = c.joined_heard_its_own.ensures;
  leads = c.session_events_lead_on.ensures.leads;
  up = c.session_events_lead_on.ensures.up;
  on = c.sessions_are_link_runs.ensures.on;
  run = c.sessions_are_link_runs.ensures.run;
  held = c.octets_are_entries.ensures.held;
  control = c.octets_are_entries.ensures.control;
  dropped = c.octets_are_entries.ensures.dropped;
  no_stale = c.no_octet_is_stale.ensures.no_stale;
  none_dropped = c.no_octet_is_stale.ensures.none_dropped;
  beginnings = c.octets_of_an_incarnation.ensures.beginnings;
  begins = c.octets_of_an_incarnation.ensures.begins;
  none_behind = c.octets_of_an_incarnation.ensures.none_behind;
  all = c.octets_of_an_incarnation.ensures.all;
  used = c.octets_of_an_incarnation.ensures.used;
  links = c.linked_routers_are_peers.ensures;
  appends = c.steps_append_what_they_say.ensures;
  left = c.drafts_leave_established.ensures;
  stable = c.stable_is_the_models.ensures;
}
