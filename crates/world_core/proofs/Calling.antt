-- What is played is a run of what calls answer; where no outbox is full, of what they choose.
use Rattle.std.proofs.Common.{◌≡◌, ℕ, ◌+◌, ◌≤◌, inl, inr, arith, length-append, Bool, true, false, List, [], ◌∷◌, ◌++◌, length, refl, ap, sym, ◌∙◌, append_assoc, subst, Option, None, Some}
use Rattle.std.specs.Prelude.{Ok, slice_get, max, nat_lt}
use Rattle.std.specs.List.{find}
use Rattle.std.proofs.lemmas.List.{append-nil}
use Rattle.std.proofs.Math.Path.{fun_ext}
use Rattle.ranked_policy.specs.Plans.{IsNetwork}
use Rattle.outbox.specs.Items.{next_item}
use Rattle.outbox.specs.declared.item.Item.{Item}
use Rattle.outbox.specs.declared.item.What.{What}
use Rattle.run_model.specs.Network as runs
use Rattle.run_model.specs.Network.{NetworkEvent, alone, puts, takes, offers}
use Rattle.run_model.specs.ThroughCut.{Interleaves, first_part, second_part}
use Rattle.run_model.specs.declared.stamps.TheConstants.{GREATEST_STAMP}
use Rattle.snap_marker.specs.Recordings.{RouterOffer, MadeOffer}
use Rattle.router_model.specs.declared.refusal.RouterError.{RouterError}
use Rattle.router_model.specs.Settings.{Setting, is_router, linked, peers}
use Rattle.router_model.specs.Step.{Own, RouterEvent, Obeys, Ticks, Handles, Decides, Advertises}
use Rattle.router_model.specs.Calls.{Stamped, Call, Obey, Tick, Put, Take, Handle, Decide, Advertise, Steps, answer, judged, put_event, advertise_event, has_room, stamp_of, IsEventOf}
use Rattle.router_model.specs.Laws.{AnswersAreSteps, LinkedRoutersArePeers}
use Rattle.router_runs.specs.Runs.{RunOrder, RunState, IsRunTo, new_logged, logged_steps}
use Rattle.run_cuts.specs.Choices.{IsChosen, HasRoom, IsChosenRun, ChosenRunsPassThrough}
use Rattle.world_core.specs.declared.schedule.Event.{Event}
use Rattle.world_core.specs.declared.schedule.Event.TheVariants as schedule
use Rattle.world_core.specs.World.{World, new_world, WorldAnswer, Does, Nothing, Stops, of_offer, called, taking_of, world_answer, world_after, world_of, onward, played, named, AgreesWith}
use Rattle.world_core.specs.Keeping.{WhatIsPlayedIsARun}
use Rattle.world_core.specs.Tested.{test_of, world_next, tested}
use Rattle.world_core.specs.Replays.{IsCalled, IsCalledRun, AnswersAreCalled, WorldsHaveTheirRuns, NoneIsFull, CutsArePlayed}
use Rattle.world_core.proofs.Playing.{doing, followed, answered, router_there, link_there, is_there}
use Rattle.world_core.proofs.Replaying.{same_test, chosen_runs_are_played}

-- ---- what a call answers is called

judged_event : (b : Option RouterError) (o : Option RouterEvent) (s k : Bool) (e : RouterEvent) → judged b o s k ≡ Steps e → o ≡ Some e
judged_event (Some why) o s k e h = absurd cc
judged_event None None s k e h = absurd cc
judged_event None (Some d) true k e h = absurd cc
judged_event None (Some d) false true e h = absurd cc
judged_event None (Some d) false false e h = (let same : d ≡ e = cc in ap (λ (i : RouterEvent). Some i) same)

module _ (g : Setting) (u : ℕ) (x : Stamped) where
  put_called : (v : ℕ) (o : Option What) (e : RouterEvent) → next_item g.net.settings.cut (x.router.sides v).outbox ≡ o → put_event v o ≡ Some e → IsCalled g u x.router e
  put_called v None e is h = absurd cc
  put_called v (Some i) e is h = (let same : puts v i ≡ e = cc in subst (IsCalled g u x.router) same is)

  told_called : (o : Option ℕ) (e : RouterEvent) → find (has_room g u x.router) (peers g.net u) ≡ o → advertise_event o ≡ Some e → IsCalled g u x.router e
  told_called None e is h = absurd cc
  told_called (Some v) e is h = (let same : alone (Advertises v) ≡ e = cc in subst (IsCalled g u x.router) same is)

  called_by : (call : Call) (e : RouterEvent) → answer g u x call ≡ Steps e → IsEventOf call e → IsCalled g u x.router e
  called_by (Obey c) e h is = subst (IsCalled g u x.router) (sym is) tt
  called_by Tick e h is = subst (IsCalled g u x.router) (sym is) tt
  called_by (Put v) e h is = put_called v (next_item g.net.settings.cut (x.router.sides v).outbox) e refl (judged_event _ _ _ _ e h)
  called_by (Take v stamp what) e h is = subst (IsCalled g u x.router) (sym is) tt
  called_by (Handle v) e h is = subst (IsCalled g u x.router) (sym is) tt
  called_by Decide e h is = subst (IsCalled g u x.router) (sym is) tt
  called_by Advertise e h is = told_called (find (has_room g u x.router) (peers g.net u)) e refl (judged_event _ _ _ _ e h)

pub answers_are_called : AnswersAreSteps → AnswersAreCalled
answers_are_called answers g net u x call e h = called_by g u x call e h (answers g net u x call e h).0

module _ (answers : AnswersAreSteps) (g : Setting) (net : IsNetwork g.net) (w : World) where
  by_call : (k : ℕ) (call : Call) (u : ℕ) (e : RouterEvent) (stamp : ℕ) → called g w k call ≡ Does u e stamp → IsCalled g u (w.routers u).router e
  by_call k call u e stamp h =
      let a = answered k (stamp_of g k (w.routers k) call) (answer g k (w.routers k) call) u e stamp h in
      subst (λ j. IsCalled g j (w.routers j).router e) a.1 (called_by g k (w.routers k) call e a.0 (answers g net k (w.routers k) call e a.0).0)

  by_item : (k v : ℕ) (items : List Item) (u : ℕ) (e : RouterEvent) (stamp : ℕ) → taking_of g w k v (slice_get items 0) ≡ Does u e stamp → IsCalled g u (w.routers u).router e
  by_item k v [] u e stamp h = absurd cc
  by_item k v (p ∷ rest) u e stamp h = by_call k (Take v p.stamp p.what) u e stamp h

  by_offer : (k at : ℕ) (o : Option RouterOffer) (b : Bool) (u : ℕ) (e : RouterEvent) (stamp : ℕ) → nat_lt GREATEST_STAMP at ≡ b → of_offer k at o ≡ Does u e stamp → IsCalled g u (w.routers u).router e
  by_offer k at None b u e stamp late h = absurd cc
  by_offer k at (Some o) true u e stamp late h = absurd (let x : Stops _ ≡ Does u e stamp = rw late at h in cc)
  by_offer k at (Some o) false u e stamp late h =
      let x : Does k (offers (record { router = k; offer = o })) at ≡ Does u e stamp = rw late at h in
      let d : offers (record { router = k; offer = o }) ≡ e = cc in
      subst (IsCalled g u (w.routers u).router) d tt

  pub calling : (event : Event) (u : ℕ) (e : RouterEvent) (stamp : ℕ) → world_answer g w event ≡ Does u e stamp → IsCalled g u (w.routers u).router e
  calling (schedule.Command k c) u e stamp h = by_call k (Obey c) u e stamp (router_there (is_router g k) (called g w k (Obey c)) u e stamp h).1
  calling (schedule.Tick k) u e stamp h = by_call k Tick u e stamp (router_there (is_router g k) (called g w k Tick) u e stamp h).1
  calling (schedule.Put k v) u e stamp h = by_call k (Put v) u e stamp (link_there (is_router g k) (is_router g v) (linked g.net k v) (called g w k (Put v)) u e stamp h).1
  calling (schedule.Take k v) u e stamp h = by_item k v (w.pipes v k) u e stamp (link_there (is_router g k) (is_router g v) (linked g.net k v) (taking_of g w k v (slice_get (w.pipes v k) 0)) u e stamp h).1
  calling (schedule.Handle k v) u e stamp h = by_call k (Handle v) u e stamp (link_there (is_router g k) (is_router g v) (linked g.net k v) (called g w k (Handle v)) u e stamp h).1
  calling (schedule.Decide k) u e stamp h = by_call k Decide u e stamp (router_there (is_router g k) (called g w k Decide) u e stamp h).1
  calling (schedule.Advertise k) u e stamp h = by_call k Advertise u e stamp (router_there (is_router g k) (called g w k Advertise) u e stamp h).1
  calling (schedule.Offer k) u e stamp h =
      let at = max (w.routers k).stamp w.board + 1 in
      by_offer k at (slice_get (w.routers k).router.snapshots.queue 0) (nat_lt GREATEST_STAMP at) u e stamp refl
      (router_there (is_router g k) (of_offer k at (slice_get (w.routers k).router.snapshots.queue 0)) u e stamp h).1

-- ---- a whole schedule

module _ (g : Setting) (s : ℕ) where
  -- the tests of a run
  abbrev pub tests : (old : RunState) (ds : RunOrder) (new : RunState) → IsCalledRun g old ds new → List Bool
  tests old [] new r = []
  tests old (d ∷ ds) new r = nat_lt (old.routers d.router).router.snapshots.last s ∷ tests r.0 ds new r.3

  pub record Reached (w end : World) (state : RunState) (events : List Event) : Type 0 where
    pub order : RunOrder
    pub last : RunState
    pub run : IsCalledRun g state order last
    pub did : end.run ≡ w.run ++ named order
    pub agrees : AgreesWith g end last
    pub tested_so : tested g s w events ≡ tests state order last run

  module _ (answers : AnswersAreSteps) (net : IsNetwork g.net) where
    by_answer : (event : Event) (events : List Event) (w end : World) (state : RunState) (at : ℕ) (a : WorldAnswer)
        → ((w2 : World) (state2 : RunState) → AgreesWith g w2 state2 → played g w2 (at + 1) events ≡ Ok end → Reached w2 end state2 events)
        → world_answer g w event ≡ a → AgreesWith g w state → onward (world_of g w event at a) (λ w2. played g w2 (at + 1) events) ≡ Ok end → Reached w end state (event ∷ events)
    by_answer event events w end state at (Does u e stamp) go is agrees h =
        let d = doing answers g net w event u e stamp is in
        let same = agrees.routers u (is_there answers g u d.known) in
        let c : IsCalled g u (state.routers u).router e = subst (λ r. IsCalled g u r e) same (calling answers g net w event u e stamp is) in
        let f = followed answers g w event u e stamp state agrees d in
        let r = go (world_after g w event u e stamp) f.state_after f.agrees h in
        record {
          order = record { router = u; event = e } ∷ r.order;
          last = r.last;
          run = (f.state_after, f.does, c, r.run);
          did = r.did ∙ append_assoc w.run (event ∷ []) (named r.order) ∙ ap (λ k. w.run ++ k ∷ named r.order) (sym d.name);
          agrees = r.agrees;
          tested_so = ap (λ a. test_of g s w a ++ tested g s (world_next g s w event a) events) is
              ∙ (λ i. nat_lt (same i).snapshots.last s ∷ r.tested_so i);
        }
    by_answer event events w end state at Nothing go is agrees h =
        let r = go w state agrees h in
        record {
          order = r.order;
          last = r.last;
          run = r.run;
          did = r.did;
          agrees = r.agrees;
          tested_so = ap (λ a. test_of g s w a ++ tested g s (world_next g s w event a) events) is ∙ r.tested_so;
        }
    by_answer event events w end state at (Stops fault) go is agrees h = absurd cc

    pub reached : (events : List Event) (w end : World) (state : RunState) (at : ℕ) → AgreesWith g w state → played g w at events ≡ Ok end → Reached w end state events
    reached [] w end state at agrees h =
        let same : w ≡ end = cc in
        subst (λ k. Reached w k state []) same (record { order = []; last = state; run = refl; did = sym (append-nil w.run); agrees = agrees; tested_so = refl })
    reached (event ∷ events) w end state at agrees h =
        by_answer event events w end state at (world_answer g w event) (λ w2 state2 a2 h2. reached events w2 end state2 (at + 1) a2 h2) refl agrees h

pub worlds_have_their_runs : AnswersAreSteps → WorldsHaveTheirRuns
worlds_have_their_runs answers g set events w h =
    let first : AgreesWith g (new_world g) (runs.opening (λ u. new_logged g)) = record { routers = λ u k. refl; pipes = λ a b. refl; offers_made = λ s. refl } in
    let r = reached g 0 answers set.network events (new_world g) w (runs.opening (λ u. new_logged g)) 0 first h in
    record { order = r.order; state = r.last; run = r.run; events = sym r.did; agrees = r.agrees }

-- ---- where no outbox is full, calls choose as if none could be

module _ (g : Setting) where
  pub run_of : (ds : RunOrder) (old new : RunState) → IsCalledRun g old ds new → runs.Run (logged_steps g) old ds new
  run_of [] old new r = r
  run_of (d ∷ ds) old new r = (r.0, r.1, run_of ds r.0 new r.3)

  pub run_more : (before : RunOrder) (d : NetworkEvent Own What MadeOffer) (start old new : RunState) → runs.Run (logged_steps g) start before old → runs.NetworkStep (logged_steps g) old d new
      → runs.Run (logged_steps g) start (before ++ d ∷ []) new
  run_more [] d start old new r did = (new, subst (λ z. runs.NetworkStep (logged_steps g) z d new) (sym r) did, refl)
  run_more (c ∷ before) d start old new r did = (r.0, r.1, run_more before d r.0 old new r.2 did)

  chosen_one : (u : ℕ) (x : Stamped) (e : RouterEvent) → HasRoom g u x.router → IsCalled g u x.router e → IsChosen g u x.router e
  chosen_one u x (puts v i) room is = is
  chosen_one u x (alone (Advertises v)) room is = ap (λ (p : ℕ → Bool). find p (peers g.net u)) (sym (fun_ext (same_test g u x room))) ∙ is
  chosen_one u x (alone (Obeys c)) room is = tt
  chosen_one u x (alone Ticks) room is = tt
  chosen_one u x (alone (Handles v)) room is = tt
  chosen_one u x (alone Decides) room is = tt
  chosen_one u x (takes v i) room is = tt
  chosen_one u x (offers made) room is = tt

  chosen : (order before ds : RunOrder) (old new : RunState) → order ≡ before ++ ds → NoneIsFull g order → IsRunTo g before old → IsCalledRun g old ds new → IsChosenRun g old ds new
  chosen order before [] old new is none to r = r
  chosen order before (d ∷ ds) old new is none to r =
      let room : HasRoom g d.router (old.routers d.router).router = λ v. none before (d ∷ ds) old is to d.router v in (
        r.0,
        r.1,
        chosen_one d.router (record { router = (old.routers d.router).router; stamp = 0 }) d.event room r.2,
        room,
        chosen order (before ++ d ∷ []) ds r.0 new (is ∙ sym (append_assoc before (d ∷ []) ds)) none (run_more before d (runs.opening (λ u. new_logged g)) old r.0 to r.1) r.3,
      )

pub what_is_played_is_a_run : AnswersAreSteps → WhatIsPlayedIsARun
what_is_played_is_a_run answers g set events w h =
    let r = worlds_have_their_runs answers g set events w h in
    record { order = r.order; state = r.state; run = run_of g r.order (runs.opening (λ u. new_logged g)) r.state r.run; events = r.events; agrees = r.agrees }

-- a list taken apart is as long as its parts
as_long : {A : Type 0} (xs ys zs : List A) → Interleaves xs ys zs → length (xs ++ ys) ≡ length zs
as_long xs ys [] h = rw (h.0, h.1) refl
as_long xs ys (z ∷ zs) (inl h) =
    let ih = as_long h.0 ys zs h.2 in
    let is = ap (λ l. length (l ++ ys)) h.1 in omega (arith, ih, is)
as_long xs ys (z ∷ zs) (inr h) =
    let ih = as_long xs h.0 zs h.2 in
    let is = ap (λ l. length (xs ++ l)) h.1 in
    let a = length-append xs (z ∷ h.0) in
    let b = length-append xs h.0 in omega (arith, ih, is, a, b)

pub cuts_are_played : AnswersAreSteps → LinkedRoutersArePeers → ChosenRunsPassThrough → CutsArePlayed
cuts_are_played answers links pass g set w run none short s parts made t =
    let order = run.order in
    let start : RunState = runs.opening (λ u. new_logged g) in
    let first = chosen g order [] order start run.state refl none refl run.run in
    let through = pass g set order run.state (run_of g order start run.state run.run) s parts made t first in
    let apart = t.passes.apart in
    chosen_runs_are_played answers links g set (first_part t.cut order ++ second_part t.cut order) _ through (subst (λ n. n ≤ GREATEST_STAMP) (sym (as_long (first_part t.cut order) (second_part t.cut order) order apart)) short)
