-- The laws of other crates, each the contract of a public function, in the form in which the proofs use them.
use Rattle.std.proofs.Common.{◌≡◌, ◌≢◌, ℕ, Bool, true, false, ◌||◌, cond, List, [], ◌++◌, refl, ap, sym, ◌∙◌}
use Rattle.std.specs.Prelude.{max}
use mathlib.Core.List.{IsPrefix}
use Rattle.bgp_codec.specs.declared.message.Message.{Message}
use Rattle.bgp_codec.specs.Header.{IsFrame}
use Rattle.run_model.specs.Links.{Entry, greatest_dial, has_shut, said, opening, JoinedHeardItsOwn}
use Rattle.run_model.specs.Sessions.{SessionRunsGoOn, SessionsMakeALinkRun}
use Rattle.run_model.specs.Octets.{passing, NextControlIsNextEntry, DroppedOctetsAreMessages}
use Rattle.run_model.specs.Facts.{EndFacts, PastStaysPast, SessionEventsLeadOn}
use Rattle.router_model.specs.Laws.{StepsAppendWhatTheySay}
use Rattle.router_runs.specs.LawsBelow.{LawsBelow}

abbrev pub Laws : Type 0
Laws = LawsBelow

or_cond : (p q : Bool) → (p || q) ≡ cond p true q
or_cond true q = refl
or_cond false q = refl

module _ (laws : Laws) where
  pub greatest_dial-append : (xs ys : List (Entry Message)) → greatest_dial (xs ++ ys) ≡ max (greatest_dial xs) (greatest_dial ys)
  greatest_dial-append xs ys = (laws.entries xs ys).dialled

  pub said-append : (e : ℕ) (xs ys : List (Entry Message)) → said e (xs ++ ys) ≡ said e xs ++ said e ys
  said-append e xs ys = (laws.entries xs ys).messages e

  pub shut-append : (e : ℕ) (xs ys : List (Entry Message)) → has_shut e (xs ++ ys) ≡ cond (has_shut e xs) true (has_shut e ys)
  shut-append e xs ys = (laws.entries xs ys).shut e ∙ or_cond (has_shut e xs) (has_shut e ys)

  pub passing_more : (written : Message → List ℕ) (xs ys : List (Entry Message)) → passing written (xs ++ ys) ≡ passing written xs ++ passing written ys
  passing_more written xs ys = (laws.entries xs ys).octets written

  -- what is said in a beginning is a beginning of what is said
  pub said_front : (e : ℕ) (xs ys : List (Entry Message)) → IsPrefix xs ys → IsPrefix (said e xs) (said e ys)
  said_front e xs ys p = (said e p.0, sym (said-append e xs p.0) ∙ ap (said e) p.1)

  pub first_facts : (u v : ℕ) → u ≢ v → EndFacts (opening {M = Message} u v) (opening v u)
  first_facts u v apart = laws.facts [] tt u v apart

  pub joined_heard : JoinedHeardItsOwn Message
  joined_heard = laws.heard

  pub session_runs_go_on : SessionRunsGoOn Message
  session_runs_go_on = laws.on

  pub sessions_make_a_link_run : SessionsMakeALinkRun Message
  sessions_make_a_link_run = laws.run

  pub next_item : NextControlIsNextEntry Message IsFrame
  next_item = laws.control

  pub dropped_are_messages : DroppedOctetsAreMessages Message
  dropped_are_messages = laws.dropped

  pub past_move : PastStaysPast Message
  past_move = laws.stays_past

  pub event_fits : SessionEventsLeadOn Message
  event_fits = laws.leads

  pub steps_append : StepsAppendWhatTheySay
  steps_append = laws.appends
