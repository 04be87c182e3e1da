-- The small runs in which a law fails of a wrong definition.
use Rattle.std.proofs.Common.{◌≡◌, ◌≢◌, ℕ, ◌==◌, Bool, true, false, cond, List, [], ◌∷◌, ◌++◌, Some, refl, sym, arith, subst, inl, inr}
use mathlib.Core.List.{IsPrefix}
use Rattle.run_model.specs.Links.{End, Move, Dial, Says, Mark, greatest_dial, said, is_up, taking, opening, IsRunBy}
use Rattle.run_model.specs.Recordings.{Recorders, RecordingStep, Begins, Follows, Finishes, EndsChannel, IgnoresMarker, Moves, MayAct, with_end, marked, first_recorders}
use Rattle.run_model.specs.Routes.{Routers, Acts, Decide, Command, updates, route, IsNetworkRun, routers_after, first_routers, NetworkStep}
use Rattle.run_model.specs.Offers.{IsIn}
use Rattle.run_model.specs.Examples.{Sample, Open, Keepalive, Update, pair}
use Rattle.run_model.specs.WrongTwins.{using_any, stale_steps, UsingAnyBreaksOrder, Rule, Guard, recorded_by, IsRecordedBy, recorders_by, acts, session_up, late_rule, late_guard, line, late_steps, LateRecordingBreaksCut, overtaking_mark, overtaking_rule, overtaking_steps, OvertakingBreaksChannel, network_up, forgetful_steps, step_by, ForgettingBreaksStability}
use Rattle.run_model.proofs.ExampleRuns.{at_only}

stale_run : IsRunBy using_any opening stale_steps
stale_run = ((λ e. absurd (cc e)), ((λ e. absurd (cc e)), (λ e. absurd (cc e))), ((λ e. absurd (cc e)), ((λ e. absurd (cc e)), (λ e. absurd (cc e))), ((λ e. absurd (cc e)), (refl, tt), ((λ e. absurd (cc e)), (refl, tt), ((λ e. absurd (cc e)), refl, ((λ e. absurd (cc e)), (λ e. absurd (cc e)), ((λ e. absurd (cc e)), ((λ e. absurd (cc e)), (λ e. absurd (cc e))), ((λ e. absurd (cc e)), (refl, tt), tt))))))))

pub using_any_breaks_order : UsingAnyBreaksOrder
using_any_breaks_order = (stale_run, (λ p. absurd (cc (p.1))))

-- a run that goes on
module _ (rule : Rule Sample) (may : Guard Sample) (linked : ℕ → ℕ → Bool) where
  pub recorded_on : (xs ys : List (RecordingStep Sample)) (w : Recorders Sample) → IsRecordedBy rule may linked w xs → IsRecordedBy rule may linked (recorders_by rule may linked w xs) ys → IsRecordedBy rule may linked w (xs ++ ys)
  recorded_on [] ys w r q = q
  recorded_on (m ∷ xs) ys w r q = (r.0, recorded_on xs ys (recorded_by rule may linked w m) r.1 q)

-- recording at the last marker
late_up : IsRecordedBy late_rule late_guard line first_recorders (session_up 1 2)
late_up = ((
  ((λ e. absurd (cc e)), tt, ((λ e. absurd (cc e)), (λ e. absurd (cc e)))),
  (
    ((λ e. absurd (cc e)), tt, ((λ e. absurd (cc e)), (λ e. absurd (cc e)))),
    (
      ((λ e. absurd (cc e)), tt, (refl, tt)),
      (
        ((λ e. absurd (cc e)), tt, (refl, tt)),
        (
          ((λ e. absurd (cc e)), tt, refl),
          (
            ((λ e. absurd (cc e)), tt, refl),
            (
              ((λ e. absurd (cc e)), tt, (refl, tt)),
              (
                ((λ e. absurd (cc e)), tt, (refl, tt)),
                (
                  ((λ e. absurd (cc e)), tt, refl),
                  (
                    ((λ e. absurd (cc e)), tt, refl),
                    (
                      ((λ e. absurd (cc e)), tt, (refl, tt)),
                      (((λ e. absurd (cc e)), tt, (refl, tt)), tt),
                    ),
                  ),
                ),
              ),
            ),
          ),
        ),
      ),
    ),
  ),
))

abbrev pub late_12 : Recorders Sample
late_12 = recorders_by late_rule late_guard line first_recorders (session_up 1 2)

late_up_too : IsRecordedBy late_rule late_guard line late_12 (session_up 3 2)
late_up_too = ((
  ((λ e. absurd (cc e)), tt, ((λ e. absurd (cc e)), (λ e. absurd (cc e)))),
  (
    ((λ e. absurd (cc e)), tt, ((λ e. absurd (cc e)), (λ e. absurd (cc e)))),
    (
      ((λ e. absurd (cc e)), tt, (refl, tt)),
      (
        ((λ e. absurd (cc e)), tt, (refl, tt)),
        (
          ((λ e. absurd (cc e)), tt, refl),
          (
            ((λ e. absurd (cc e)), tt, refl),
            (
              ((λ e. absurd (cc e)), tt, (refl, tt)),
              (
                ((λ e. absurd (cc e)), tt, (refl, tt)),
                (
                  ((λ e. absurd (cc e)), tt, refl),
                  (
                    ((λ e. absurd (cc e)), tt, refl),
                    (
                      ((λ e. absurd (cc e)), tt, (refl, tt)),
                      (((λ e. absurd (cc e)), tt, (refl, tt)), tt),
                    ),
                  ),
                ),
              ),
            ),
          ),
        ),
      ),
    ),
  ),
))

abbrev pub late_24 : Recorders Sample
late_24 = recorders_by late_rule late_guard line late_12 (session_up 3 2)

abbrev pub late_begin : List (RecordingStep Sample)
late_begin = acts 1 (Begins 5 true) ∷ []

abbrev pub late_begin_too : List (RecordingStep Sample)
late_begin_too = acts 3 (Begins 5 true) ∷ []

abbrev pub late_middle : List (RecordingStep Sample)
late_middle = acts 2 (IgnoresMarker 1 1 5) ∷ acts 1 (Moves 2 (Move.Tells (Update 7 1))) ∷ acts 2 (Moves 1 (Move.Takes (Says 1 (Update 7 1)))) ∷ []

abbrev pub late_end : List (RecordingStep Sample)
late_end = acts 2 (Follows 3 1 5 true) ∷ []

abbrev pub late_finish : List (RecordingStep Sample)
late_finish = acts 2 (Finishes 5) ∷ []

begin_runs : IsRecordedBy late_rule late_guard line late_24 late_begin
begin_runs = ((omega arith, (λ h v l. at_only (λ v. is_up ((late_24 1).ends v) ≡ true) v 2 l refl)), tt)

abbrev pub late_25 : Recorders Sample
late_25 = recorders_by late_rule late_guard line late_24 late_begin

begin_runs_too : IsRecordedBy late_rule late_guard line late_25 late_begin_too
begin_runs_too = ((omega arith, (λ h v l. at_only (λ v. is_up ((late_25 3).ends v) ≡ true) v 2 l refl)), tt)

abbrev pub late_26 : Recorders Sample
late_26 = recorders_by late_rule late_guard line late_25 late_begin_too

none_taken : IsIn (Mark 1 5) (Dial 1 ∷ Says 1 Open ∷ Says 1 Keepalive ∷ []) → ⊥
none_taken (inl e) = cc e
none_taken (inr (inl e)) = cc e
none_taken (inr (inr (inl e))) = cc e
none_taken (inr (inr (inr e))) = e

middle_runs : IsRecordedBy late_rule late_guard line late_26 late_middle
middle_runs = (((λ e. absurd (cc e)), refl, omega arith, 3, refl, (λ e. absurd (cc e)), none_taken), (((λ e. absurd (cc e)), tt, refl), (((λ e. absurd (cc e)), tt, (refl, tt)), tt)))

abbrev pub late_29 : Recorders Sample
late_29 = recorders_by late_rule late_guard line late_26 late_middle

either : (Q : ℕ → Type 0) → Q 1 → Q 3 → (v : ℕ) → cond (v == 1) true (v == 3) ≡ true → Q v
either Q one three v l = at (v == 1) refl l
  where
    at : (b : Bool) → (v == 1) ≡ b → cond b true (v == 3) ≡ true → Q v
    at true is l = at_only Q v 1 is one
    at false is l = at_only Q v 3 l three

end_runs : IsRecordedBy late_rule late_guard line late_29 late_end
end_runs = (
  (
    ((λ e. absurd (cc e)), refl, refl, refl, omega arith, (λ h v l. either (λ v. is_up ((late_29 2).ends v) ≡ true) refl refl v l)),
    (λ w l apart. either (λ w. w ≢ 3 → IsIn (Mark (greatest_dial ((late_29 2).ends w).appended) 5) ((late_29 2).ends w).taken) (λ e. inr (inr (inr (inl refl)))) (λ e. absurd (e refl)) w l apart),
  ),
  tt,
)

abbrev pub late_30 : Recorders Sample
late_30 = recorders_by late_rule late_guard line late_29 late_end

finish_runs : IsRecordedBy late_rule late_guard line late_30 late_finish
finish_runs = ((refl, (λ v l. refl)), tt)

late_run : IsRecordedBy late_rule late_guard line first_recorders late_steps
late_run =
    recorded_on late_rule late_guard line (session_up 1 2) (session_up 3 2 ++ (late_begin ++ (late_begin_too ++ (late_middle ++ (late_end ++ late_finish))))) first_recorders late_up
    (recorded_on late_rule late_guard line (session_up 3 2) (late_begin ++ (late_begin_too ++ (late_middle ++ (late_end ++ late_finish)))) late_12 late_up_too
    (recorded_on late_rule late_guard line late_begin (late_begin_too ++ (late_middle ++ (late_end ++ late_finish))) late_24 begin_runs
    (recorded_on late_rule late_guard line late_begin_too (late_middle ++ (late_end ++ late_finish)) late_25 begin_runs_too
    (recorded_on late_rule late_guard line late_middle (late_end ++ late_finish) late_26 middle_runs
    (recorded_on late_rule late_guard line late_end late_finish late_29 end_runs finish_runs)))))

abbrev pub late_31 : Recorders Sample
late_31 = recorders_by late_rule late_guard line first_recorders late_steps

some_ends : (f h : ℕ → End Sample) → Some f ≡ Some h → f ≡ h
some_ends f h e = cc e

-- the copies of routers 2 and 1
abbrev pub copy_2 : ℕ → End Sample
copy_2 = λ y. marked 5 (with_end (late_29 2).ends 3 (taking ((late_29 2).ends 3) (Mark 1 5)) y)

abbrev pub copy_1 : ℕ → End Sample
copy_1 = λ y. marked 5 ((late_24 1).ends y)

too_long : IsPrefix (copy_2 1).taken (copy_1 2).appended → ⊥
too_long p = absurd (cc (p.1))

pub late_recording_breaks_cut : LateRecordingBreaksCut
late_recording_breaks_cut = (
  late_run,
  (λ law. (
      let ch = law (λ v. []) refl in
      let cu : ch.0 ≡ copy_2 = some_ends ch.0 copy_2 (sym ch.2) in
      let cv : ch.1 ≡ copy_1 = some_ends ch.1 copy_1 (sym ch.3) in
      too_long (subst (λ (f : ℕ → End Sample). IsPrefix (f 1).taken (copy_1 2).appended) cu (subst (λ (f : ℕ → End Sample). IsPrefix (ch.0 1).taken (f 2).appended) cv ch.5))
      )),
)

-- markers ahead of waiting messages
overtaking_up : IsRecordedBy overtaking_rule MayAct pair.linked first_recorders (session_up 1 2)
overtaking_up = ((
  ((λ e. absurd (cc e)), tt, ((λ e. absurd (cc e)), (λ e. absurd (cc e)))),
  (
    ((λ e. absurd (cc e)), tt, ((λ e. absurd (cc e)), (λ e. absurd (cc e)))),
    (
      ((λ e. absurd (cc e)), tt, (refl, tt)),
      (
        ((λ e. absurd (cc e)), tt, (refl, tt)),
        (
          ((λ e. absurd (cc e)), tt, refl),
          (
            ((λ e. absurd (cc e)), tt, refl),
            (
              ((λ e. absurd (cc e)), tt, (refl, tt)),
              (
                ((λ e. absurd (cc e)), tt, (refl, tt)),
                (
                  ((λ e. absurd (cc e)), tt, refl),
                  (
                    ((λ e. absurd (cc e)), tt, refl),
                    (
                      ((λ e. absurd (cc e)), tt, (refl, tt)),
                      (((λ e. absurd (cc e)), tt, (refl, tt)), tt),
                    ),
                  ),
                ),
              ),
            ),
          ),
        ),
      ),
    ),
  ),
))

abbrev pub over_12 : Recorders Sample
over_12 = recorders_by overtaking_rule MayAct pair.linked first_recorders (session_up 1 2)

abbrev pub over_tells : List (RecordingStep Sample)
over_tells = acts 1 (Moves 2 (Move.Tells (Update 7 1))) ∷ acts 2 (Moves 1 (Move.Tells (Update 7 2))) ∷ []

over_tells_run : IsRecordedBy overtaking_rule MayAct pair.linked over_12 over_tells
over_tells_run = (((λ e. absurd (cc e)), tt, refl), (((λ e. absurd (cc e)), tt, refl), tt))

abbrev pub over_14 : Recorders Sample
over_14 = recorders_by overtaking_rule MayAct pair.linked over_12 over_tells

abbrev pub over_begins : List (RecordingStep Sample)
over_begins = acts 1 (Begins 5 true) ∷ []

over_begins_run : IsRecordedBy overtaking_rule MayAct pair.linked over_14 over_begins
over_begins_run = ((omega arith, (λ h v l. at_only (λ v. is_up ((over_14 1).ends v) ≡ true) v 2 l refl)), tt)

abbrev pub over_15 : Recorders Sample
over_15 = recorders_by overtaking_rule MayAct pair.linked over_14 over_begins

abbrev pub over_follows : List (RecordingStep Sample)
over_follows = acts 2 (Follows 1 1 5 true) ∷ []

over_follows_run : IsRecordedBy overtaking_rule MayAct pair.linked over_15 over_follows
over_follows_run = (((λ e. absurd (cc e)), refl, refl, refl, omega arith, (λ h v l. at_only (λ v. is_up ((over_15 2).ends v) ≡ true) v 1 l refl)), tt)

abbrev pub over_16 : Recorders Sample
over_16 = recorders_by overtaking_rule MayAct pair.linked over_15 over_follows

over_finish_run : IsRecordedBy overtaking_rule MayAct pair.linked over_16 (acts 2 (Finishes 5) ∷ [])
over_finish_run = ((refl, (λ v l. at_only (λ v. (over_16 2).waits v ≡ false) v 1 l refl)), tt)

overtaking_run : IsRecordedBy overtaking_rule MayAct pair.linked first_recorders overtaking_steps
overtaking_run =
    recorded_on overtaking_rule MayAct pair.linked (session_up 1 2) (over_tells ++ (over_begins ++ (over_follows ++ (acts 2 (Finishes 5) ∷ [])))) first_recorders overtaking_up
    (recorded_on overtaking_rule MayAct pair.linked over_tells (over_begins ++ (over_follows ++ (acts 2 (Finishes 5) ∷ []))) over_12 over_tells_run
    (recorded_on overtaking_rule MayAct pair.linked over_begins (over_follows ++ (acts 2 (Finishes 5) ∷ [])) over_14 over_begins_run
    (recorded_on overtaking_rule MayAct pair.linked over_follows (acts 2 (Finishes 5) ∷ []) over_15 over_follows_run over_finish_run)))

abbrev pub over_copy_2 : ℕ → End Sample
over_copy_2 = λ y. overtaking_mark 5 (with_end (over_15 2).ends 1 (taking ((over_15 2).ends 1) (Mark 1 5)) y)

abbrev pub over_copy_1 : ℕ → End Sample
over_copy_1 = λ y. overtaking_mark 5 ((over_14 1).ends y)

more_said : said (greatest_dial (over_copy_2 1).appended) (over_copy_1 2).appended ≡ said (greatest_dial (over_copy_2 1).appended) (over_copy_2 1).used ++ [] → ⊥
more_said e = cc e

pub overtaking_breaks_channel : OvertakingBreaksChannel
overtaking_breaks_channel = (
  overtaking_run,
  (λ law. (
      let ch = law (over_16 2).channel refl in
      let cu : ch.0 ≡ over_copy_2 = some_ends ch.0 over_copy_2 (sym ch.2) in
      let cv : ch.1 ≡ over_copy_1 = some_ends ch.1 over_copy_1 (sym ch.3) in
      more_said (subst (λ (f : ℕ → End Sample). said (greatest_dial (f 1).appended) (over_copy_1 2).appended ≡ said (greatest_dial (f 1).appended) (f 1).used ++ []) cu
      (subst (λ (f : ℕ → End Sample). said (greatest_dial (ch.0 1).appended) (f 2).appended ≡ said (greatest_dial (ch.0 1).appended) (ch.0 1).used ++ []) cv ch.6))
      )),
)

-- a pending flag that forgets words not told
abbrev pub Nets : Type 0
Nets = Routers Sample ℕ ℕ

network_on : (xs ys : List (NetworkStep Sample ℕ ℕ)) (w : Nets) → IsNetworkRun pair w xs → IsNetworkRun pair (routers_after pair w xs) ys → IsNetworkRun pair w (xs ++ ys)
network_on [] ys w r q = q
network_on (t ∷ xs) ys w r q = (r.0, network_on xs ys (routers_after pair w (t ∷ [])) r.1 q)

network_up_run : IsNetworkRun pair (first_routers pair) network_up
network_up_run = ((
  (((λ e. absurd (cc e)), tt, ((λ e. absurd (cc e)), (λ e. absurd (cc e)))), tt),
  (
    (((λ e. absurd (cc e)), tt, ((λ e. absurd (cc e)), (λ e. absurd (cc e)))), tt),
    (
      (((λ e. absurd (cc e)), tt, (refl, tt)), tt),
      (
        (((λ e. absurd (cc e)), tt, (refl, tt)), tt),
        (
          (((λ e. absurd (cc e)), tt, refl), refl),
          (
            (((λ e. absurd (cc e)), tt, refl), refl),
            (
              (((λ e. absurd (cc e)), tt, (refl, tt)), tt),
              (
                (((λ e. absurd (cc e)), tt, (refl, tt)), tt),
                (
                  (((λ e. absurd (cc e)), tt, refl), refl),
                  (
                    (((λ e. absurd (cc e)), tt, refl), refl),
                    (
                      (((λ e. absurd (cc e)), tt, (refl, tt)), tt),
                      ((((λ e. absurd (cc e)), tt, (refl, tt)), tt), tt),
                    ),
                  ),
                ),
              ),
            ),
          ),
        ),
      ),
    ),
  ),
))

abbrev pub net_12 : Nets
net_12 = routers_after pair (first_routers pair) network_up

abbrev pub forget_decide : List (NetworkStep Sample ℕ ℕ)
forget_decide = step_by 1 (Command (λ p. p == 7) (λ p. 0)) ∷ step_by 1 (Decide 7) ∷ []

forget_decide_run : IsNetworkRun pair net_12 forget_decide
forget_decide_run = (tt, ((refl, (λ e. absurd (cc e))), tt))

abbrev pub net_14 : Nets
net_14 = routers_after pair net_12 forget_decide

abbrev pub forget_begin : List (NetworkStep Sample ℕ ℕ)
forget_begin = step_by 1 (Acts (Begins 5 true)) ∷ []

forget_begin_run : IsNetworkRun pair net_14 forget_begin
forget_begin_run = (((omega arith, (λ h v l. at_only (λ v. is_up ((net_14 1).recorder.ends v) ≡ true) v 2 l refl)), tt), tt)

abbrev pub net_15 : Nets
net_15 = routers_after pair net_14 forget_begin

abbrev pub forget_follow : List (NetworkStep Sample ℕ ℕ)
forget_follow = step_by 2 (Acts (Follows 1 1 5 true)) ∷ []

forget_follow_run : IsNetworkRun pair net_15 forget_follow
forget_follow_run = ((((λ e. absurd (cc e)), refl, refl, refl, omega arith, (λ h v l. at_only (λ v. is_up ((net_15 2).recorder.ends v) ≡ true) v 1 l refl)), tt), tt)

abbrev pub net_16 : Nets
net_16 = routers_after pair net_15 forget_follow

abbrev pub forget_finish : List (NetworkStep Sample ℕ ℕ)
forget_finish = step_by 2 (Acts (Finishes 5)) ∷ step_by 1 (Acts (EndsChannel 2 1 5)) ∷ step_by 1 (Acts (Finishes 5)) ∷ []

forget_finish_run : IsNetworkRun pair net_16 forget_finish
forget_finish_run = (
  ((refl, (λ v l. at_only (λ v. (net_16 2).recorder.waits v ≡ false) v 1 l refl)), tt),
  (
    ((((λ e. absurd (cc e)), refl, refl, refl, refl, refl), tt)),
    ((((refl, (λ v l. at_only (λ v. cond (v == 2) false true ≡ false) v 2 l refl)), tt)), tt),
  ),
)

forgetful_run : IsNetworkRun pair (first_routers pair) forgetful_steps
forgetful_run =
    network_on network_up (forget_decide ++ (forget_begin ++ (forget_follow ++ forget_finish))) (first_routers pair) network_up_run
    (network_on forget_decide (forget_begin ++ (forget_follow ++ forget_finish)) net_12 forget_decide_run
    (network_on forget_begin (forget_follow ++ forget_finish) net_14 forget_begin_run
    (network_on forget_follow forget_finish net_15 forget_follow_run forget_finish_run)))

abbrev pub net_19 : Nets
net_19 = routers_after pair net_16 forget_finish

abbrev pub ForgetfulAt : ℕ → Type 0
ForgetfulAt u =
    (channels : ℕ → List Sample) × (c : ℕ → End Sample) × ((net_19 u).recorder.part 5 ≡ Some channels) × ((net_19 u).recorder.copy 5 ≡ Some c)
    × ((v : ℕ) → pair.linked u v ≡ true → updates pair (channels v) ≡ [])
    × ((p : ℕ) → pair.named p ≡ true → (net_19 u).kept_at 5 p ≡ route pair u c p ((net_19 u).originated_at 5 p))

abbrev pub forget_ends_1 : ℕ → End Sample
forget_ends_1 = λ y. marked 5 ((net_14 1).recorder.ends y)

abbrev pub forget_ends_2 : ℕ → End Sample
forget_ends_2 = λ y. marked 5 (with_end (net_15 2).recorder.ends 1 (taking ((net_15 2).recorder.ends 1) (Mark 1 5)) y)

forgetful_1 : ForgetfulAt 1
forgetful_1 = (
  (net_19 1).recorder.channel,
  forget_ends_1,
  refl,
  refl,
  (λ v l. at_only (λ v. updates pair ((net_19 1).recorder.channel v) ≡ []) v 2 l refl),
  (λ p n. at_only (λ p. (net_19 1).kept_at 5 p ≡ route pair 1 forget_ends_1 p ((net_19 1).originated_at 5 p)) p 7 n refl),
)

forgetful_2 : ForgetfulAt 2
forgetful_2 = (
  (net_19 2).recorder.channel,
  forget_ends_2,
  refl,
  refl,
  (λ v l. at_only (λ v. updates pair ((net_19 2).recorder.channel v) ≡ []) v 1 l refl),
  (λ p n. at_only (λ p. (net_19 2).kept_at 5 p ≡ route pair 2 forget_ends_2 p ((net_19 2).originated_at 5 p)) p 7 n refl),
)

at_either : (u : ℕ) (b : Bool) → (u == 1) ≡ b → cond b true (u == 2) ≡ true → ForgetfulAt u
at_either u true is r = at_only ForgetfulAt u 1 is forgetful_1
at_either u false is r = at_only ForgetfulAt u 2 r forgetful_2

pub forgetting_breaks_stability : ForgettingBreaksStability
forgetting_breaks_stability = (forgetful_run, (λ u r. at_either u (u == 1) refl r), (λ stable. (let none : 0 ≡ 2 = stable 2 refl in absurd (cc none))))
