-- The facts of link ends, move by move and event by event.
use Rattle.std.proofs.Common.{◌≡◌, ◌||◌, Bool, true, false, cond, List, [], ◌∷◌, ◌++◌, refl, sym, ◌∙◌, subst, arith}
use Rattle.run_model.specs.Links.{Shut, greatest_dial, has_shut, End, Move, after}
use Rattle.run_model.specs.Sessions.{moves_of, afters}
use Rattle.run_model.specs.Facts.{Sound, EndFacts, MayInTurn, MovesKeepFacts, NotDialledIsNotShut, ClosingLeaves, PastStaysPast, SessionEventsLeadOn, UpByFit, EntriesAddUp}
use Rattle.run_model.proofs.EntryLists.{greatest_dial-append, said-append, sound-front}
use Rattle.run_model.proofs.LinkFacts.{own_facts, other_facts}
use Rattle.run_model.proofs.Incarnations.{shut-append, sound-no_shut}
use Rattle.run_model.proofs.AfterClose.{past_move}
use Rattle.run_model.proofs.OctetFacts.{passing_more}
use Rattle.run_model.proofs.SessionFacts.{MayAll, established_up, up_established, event_fits}

either : (p q : Bool) → cond p true q ≡ (p || q)
either true q = refl
either false q = refl

module _ {M : Type 0} where
  pub moves_keep_facts : MovesKeepFacts M
  moves_keep_facts a b m may mine theirs = (own_facts a b m may mine theirs, other_facts a b m theirs)

  pub not_dialled_is_not_shut : NotDialledIsNotShut M
  not_dialled_is_not_shut a b mine theirs e =
      let past = sound-front 0 a.taken mine.front.0 (subst (λ xs. Sound 0 xs) (sym mine.front.1) theirs.sound) in
      (λ l. sound-no_shut e 0 a.taken past (omega (arith, l)), λ l. sound-no_shut e 0 a.appended mine.sound (omega (arith, l)))

  pub closing_leaves : ClosingLeaves M
  closing_leaves e a l =
      let now : greatest_dial (a.appended ++ Shut (greatest_dial a.appended) ∷ []) ≡ greatest_dial a.appended = omega (arith, greatest_dial-append a.appended (Shut (greatest_dial a.appended) ∷ [])) in
      record { low = λ q. absurd (q refl); reached = rw now l; same = refl }

  pub past_stays_past : PastStaysPast M
  past_stays_past e us a b m may past = past_move e us a b m may past

  in_turn : (a b : End M) (ms : List (Move M)) → MayAll a b ms → MayInTurn a b ms
  in_turn a b [] h = tt
  in_turn a b (m ∷ ms) h = (h.0, in_turn (after a m) b ms h.1)

  kept_in_turn : (ms : List (Move M)) (a b : End M) → MayInTurn a b ms → EndFacts a b → EndFacts b a → EndFacts (afters a ms) b × EndFacts b (afters a ms)
  kept_in_turn [] a b may mine theirs = (mine, theirs)
  kept_in_turn (m ∷ ms) a b may mine theirs = kept_in_turn ms (after a m) b may.1 (own_facts a b m may.0 mine theirs) (other_facts a b m theirs)

  pub session_events_lead_on : SessionEventsLeadOn M
  session_events_lead_on side b event fit mine theirs may =
      let l = event_fits side b event fit mine theirs may in
      let turn = in_turn side.end b (moves_of side.end event) l.0 in
      let kept = kept_in_turn (moves_of side.end event) side.end b turn mine theirs in
      record { may = turn; fits = l.1; mine = kept.0; theirs = kept.1 }

  pub up_by_fit : UpByFit M
  up_by_fit state a fit = (established_up state a fit, up_established state a fit)

  pub entries_add_up : EntriesAddUp M
  entries_add_up xs ys = record {
    dialled = greatest_dial-append xs ys;
    messages = λ e. said-append e xs ys;
    shut = λ e. shut-append e xs ys ∙ either (has_shut e xs) (has_shut e ys);
    octets = λ written. passing_more written xs ys;
  }
