-- The events of a run of the choices of calls are played to its end.
use Rattle.std.proofs.Common.{◌≡◌, ℕ, suc, ◌+◌, ◌≤◌, ◌==◌, Bool, true, false, ◌&&◌, not, cond, List, [], ◌∷◌, ◌++◌, length, refl, ap, sym, ◌∙◌, arith, append_assoc, subst, None, Some}
use Rattle.std.specs.Prelude.{if◌then◌else◌, nat_lt, map, drop, slice_get, max, Ok}
use Rattle.std.specs.List.{find}
use Rattle.std.proofs.lemmas.List.{append-nil, append_cancel_left}
use Rattle.std.proofs.lemmas.List.Folds.{list_any-from_Any}
use Rattle.std.proofs.lemmas.Bool.{eq-eqb}
use Rattle.std.proofs.lemmas.Bool.Decides.{nat_tests}
use Rattle.std.proofs.Math.Path.{fun_ext}
use Rattle.ranked_policy.specs.Plans.{IsNetwork, IsRouter, numbers}
use Rattle.run_model.specs.Network as runs
use Rattle.run_model.specs.Network.{NetworkEvent, alone, puts, takes, offers}
use Rattle.run_model.specs.declared.stamps.TheConstants.{GREATEST_STAMP}
use Rattle.outbox.specs.Items.{octets_waiting}
use Rattle.outbox.specs.declared.item.Item.{Item}
use Rattle.outbox.specs.declared.item.What.{What}
use Rattle.snap_marker.specs.Recordings.{MadeOffer}
use Rattle.router_model.specs.declared.limits.TheConstants.{OUTBOX_LIMIT}
use Rattle.router_model.specs.declared.command.Command.{Command}
use Rattle.router_model.specs.declared.command.Command.TheVariants as command
use Rattle.router_model.specs.declared.refusal.RouterError.TheVariants as error
use Rattle.router_model.specs.Settings.{Setting, is_router, linked, peers}
use Rattle.router_model.specs.State.{Router, is_waiting_peer}
use Rattle.router_model.specs.Step.{RouterEvent, Obeys, Ticks, Handles, Decides, Advertises, Step, after, overflows}
use Rattle.router_model.specs.Calls.{Stamped, Call, Obey, Tick, Put, Take, Handle, Decide, Advertise, Steps, answer, judged, bars, bars_command, command_event, unless, first_of, if_so, blocked, advertise_event, put_event, has_room, event_of, stamp_of, overflows_at}
use Rattle.router_model.specs.Laws.{AnswersAreSteps, LinkedRoutersArePeers}
use Rattle.router_runs.specs.Runs.{Logged, LoggedStep, RunOrder, RunState, new_logged, logged_steps}
use Rattle.run_cuts.specs.Choices.{IsChosen, HasRoom, IsChosenRun}
use Rattle.world_core.specs.declared.schedule.Event.{Event}
use Rattle.world_core.specs.World.{World, new_world, WorldAnswer, Does, of_answer, of_offer, called, taking_of, where_router, where_linked, world_answer, piped, board_after, world_after, world_of, onward, played, name_of, named, AgreesWith}
use Rattle.world_core.specs.Replays.{IsCalled, IsCalledRun, ChosenRunsArePlayed, CalledRunsArePlayed}
use Rattle.world_core.proofs.Playing.{Doing, TakesNext, followed}

pub known_router : (g : Setting) (u : ℕ) → IsRouter g.net.routers u → is_router g u ≡ true
known_router g u c = list_any-from_Any (λ n. u == n) (numbers g.net.routers) (c.0, u, c.1, c.2, eq-eqb u u refl)

same_after : (g : Setting) (u : ℕ) (x y z : Logged) (e : RouterEvent) → LoggedStep g u x e y → LoggedStep g u x e z → y ≡ z
same_after g u x y z e a b i = record { router = (a.step.leaves ∙ sym b.step.leaves) i; log = (a.log ∙ sym b.log) i }

-- ---- what a router's call answers

module _ (g : Setting) (u : ℕ) (x : Stamped) where
  answer_is : (call : Call) (e : RouterEvent) → bars g u x.router call ≡ None → event_of g u x.router call ≡ Some e → stamp_of g u x call ≤ GREATEST_STAMP → overflows g u x.router e ≡ false → answer g u x call ≡ Steps e
  answer_is call e free is low fits =
      let early : nat_lt GREATEST_STAMP (stamp_of g u x call) ≡ false = grind (arith, nat_tests, low) in
      (λ i. judged (free i) (is i) (early i) (overflows_at g u x.router (is i))) ∙ ap (judged None (Some e) false) fits

  command_free : (c : Command) (y : Router) → Step g u x.router (alone (Obeys c)) y → bars_command g u x.router c ≡ None
  command_free (command.Start v) y did = ap (λ b. unless b error.NoSuchPeer) did.may
  command_free (command.Stop v) y did = ap (λ b. unless b error.NoSuchPeer) did.may
  command_free (command.Reset v) y did = ap (λ b. unless b error.NoSuchPeer) did.may
  command_free (command.Originate q) y did = ap (λ b. unless b error.NotOrigin) did.may.0
  command_free (command.Withdraw q) y did = ap (λ b. unless b error.NotOrigin) did.may.0
  command_free (command.Snapshot s) y did = ap (λ b. unless b (error.OldSnapshot x.router.snapshots.last)) did.may
  command_free command.Restart y did = refl

  command_is : (c : Command) (y : Router) → Step g u x.router (alone (Obeys c)) y → command_event g u x.router c ≡ Some (alone (Obeys c))
  command_is (command.Start v) y did = refl
  command_is (command.Stop v) y did = refl
  command_is (command.Reset v) y did = refl
  command_is (command.Originate q) y did = ap (λ b. if_so (not b) (alone (Obeys (command.Originate q)))) did.may.1
  command_is (command.Withdraw q) y did = ap (λ b. if_so b (alone (Obeys (command.Withdraw q)))) did.may.1
  command_is (command.Snapshot s) y did = refl
  command_is command.Restart y did = refl

  -- where every outbox has room, the least peer that waits has
  pub same_test : HasRoom g u x.router → (v : ℕ) → has_room g u x.router v ≡ is_waiting_peer g u x.router v
  same_test room v =
      let less = room v in
      let fits : nat_lt (octets_waiting (x.router.sides v).outbox) OUTBOX_LIMIT ≡ true = grind (arith, nat_tests, less) in
      ap (λ b. is_waiting_peer g u x.router v && b) fits ∙ and_true (is_waiting_peer g u x.router v)
    where
      and_true : (b : Bool) → (b && true) ≡ b
      and_true true = refl
      and_true false = refl

  finds : HasRoom g u x.router → (v : ℕ) → find (is_waiting_peer g u x.router) (peers g.net u) ≡ Some v → find (has_room g u x.router) (peers g.net u) ≡ Some v
  finds room v is = ap (λ (p : ℕ → Bool). find p (peers g.net u)) (fun_ext (same_test room)) ∙ is

-- ---- stamps are at most the number of events

abbrev pub AllLow : ℕ → List Item → Type 0
AllLow n [] = Unit {0}
AllLow n (i ∷ is) = (i.stamp ≤ n) × AllLow n is

pub record IsLow (w : World) (n : ℕ) : Type 0 where
  pub routers : (u : ℕ) → (w.routers u).stamp ≤ n
  pub pipes : (a b : ℕ) → AllLow n (w.pipes a b)
  pub board : w.board ≤ n

low_more : (n : ℕ) (is : List Item) → AllLow n is → AllLow (suc n) is
low_more n [] h = tt
low_more n (i ∷ is) h = (let k = h.0 in omega (arith, k), low_more n is h.1)

low_append : (n : ℕ) (is js : List Item) → AllLow n is → AllLow n js → AllLow n (is ++ js)
low_append n [] js h k = k
low_append n (i ∷ is) js h k = (h.0, low_append n is js h.1 k)

low_drop : (n : ℕ) (is : List Item) → AllLow n is → AllLow n (drop 1 is)
low_drop n [] h = tt
low_drop n (i ∷ is) h = h.1

low_piped : (n u stamp : ℕ) (e : RouterEvent) (a b : ℕ) (items : List Item) → stamp ≤ suc n → AllLow n items → AllLow (suc n) (piped u stamp e a b items)
low_piped n u stamp (alone e) a b items le h = low_more n items h
low_piped n u stamp (offers made) a b items le h = low_more n items h
low_piped n u stamp (puts v i) a b items le h = at ((a == u) && (b == v))
  where
    at : (c : Bool) → AllLow (suc n) (cond c (items ++ record { stamp = stamp; what = i } ∷ []) items)
    at true = low_append (suc n) items _ (low_more n items h) (le, tt)
    at false = low_more n items h
low_piped n u stamp (takes v i) a b items le h = at ((a == v) && (b == u))
  where
    at : (c : Bool) → AllLow (suc n) (cond c (drop 1 items) items)
    at true = low_more n (drop 1 items) (low_drop n items h)
    at false = low_more n items h

low_board : (n stamp : ℕ) (e : RouterEvent) (board : ℕ) → stamp ≤ suc n → board ≤ n → board_after stamp e board ≤ suc n
low_board n stamp (alone e) board le h = omega (arith, h)
low_board n stamp (puts v i) board le h = omega (arith, h)
low_board n stamp (takes v i) board le h = omega (arith, h)
low_board n stamp (offers made) board le h = le

low_after : (g : Setting) (w : World) (event : Event) (u : ℕ) (e : RouterEvent) (stamp n : ℕ) → stamp ≤ suc n → IsLow w n → IsLow (world_after g w event u e stamp) (suc n)
low_after g w event u e stamp n le low = record {
  routers = λ y. at y (y == u);
  pipes = λ a b. low_piped n u stamp e a b (w.pipes a b) le (low.pipes a b);
  board = low_board n stamp e w.board le low.board;
}
  where
    at : (y : ℕ) (c : Bool) → (cond c (record { router = after g u (w.routers u).router e; stamp = stamp }) (w.routers y)).stamp ≤ suc n
    at y true = le
    at y false = (let h = low.routers y in omega (arith, h))

-- ---- what an event answers in a world

record Answered (g : Setting) (w : World) (event : Event) (u : ℕ) (e : RouterEvent) (n : ℕ) : Type 0 where
  pub stamp : ℕ
  pub answers : world_answer g w event ≡ Does u e stamp
  pub low : stamp ≤ suc n

module _ (links : LinkedRoutersArePeers) (g : Setting) (net : IsNetwork g.net) (w : World) (n : ℕ) (low : IsLow w n) (left : suc n ≤ GREATEST_STAMP) (u : ℕ) (known : is_router g u ≡ true) where
  abbrev x : Stamped
  x = w.routers u

  -- a call that takes no item
  does : (call : Call) (e : RouterEvent) → bars g u x.router call ≡ None → event_of g u x.router call ≡ Some e → overflows g u x.router e ≡ false → stamp_of g u x call ≤ suc n
      → called g w u call ≡ Does u e (stamp_of g u x call)
  does call e free is fits le = ap (of_answer u (stamp_of g u x call)) (answer_is g u x call e free is (omega (arith, le, left)) fits)

  own_low : x.stamp + 1 ≤ suc n
  own_low = (let h = low.routers u in omega (arith, h))

  at_router : (a : WorldAnswer) → where_router g u a ≡ a
  at_router a = rw known refl

  at_link : (v : ℕ) → linked g.net u v ≡ true → (a : WorldAnswer) → where_linked g u v a ≡ a
  at_link v near a =
      let other = known_router g v (links g.net net u v near).other in
      rw (known, other, near) refl

  abbrev Next : RouterEvent → Type 0
  Next e = TakesNext w u e

  made_is : (made : MadeOffer) → made.router ≡ u → record { router = u; offer = made.offer } ≡ made
  made_is made is i = record { router = sym is i; offer = made.offer }

  answered : (e : RouterEvent) (y : Router) → Step g u x.router e y → IsCalled g u x.router e → Next e → Answered g w (name_of u e) u e n
  answered (alone (Obeys c)) y did called_so next = record {
    stamp = x.stamp + 1;
    answers = at_router _ ∙ does (Obey c) (alone (Obeys c)) (command_free g u x c y did) (command_is g u x c y did) did.numbers own_low;
    low = own_low;
  }
  answered (alone Ticks) y did called_so next = record {
    stamp = x.stamp + 1;
    answers = at_router _ ∙ does Tick (alone Ticks) refl refl did.numbers own_low;
    low = own_low;
  }
  answered (alone (Handles v)) y did called_so next = record {
    stamp = x.stamp + 1;
    answers = at_link v did.may.0 _ ∙ does (Handle v) (alone (Handles v)) (ap (λ b. unless b error.NoSuchPeer) did.may.0) (ap (λ b. if_so b (alone (Handles v))) did.may.1) did.numbers own_low;
    low = own_low;
  }
  answered (alone Decides) y did called_so next = record {
    stamp = x.stamp + 1;
    answers = at_router _ ∙ does Decide (alone Decides) refl (ap (λ b. if_so b (alone Decides)) did.may) did.numbers own_low;
    low = own_low;
  }
  answered (alone (Advertises v)) y did called_so next = record {
    stamp = x.stamp + 1;
    answers = at_router _ ∙ does Advertise (alone (Advertises v)) (ap (λ o. blocked o (find (is_waiting_peer g u x.router) (peers g.net u))) called_so) (ap advertise_event called_so) did.numbers own_low;
    low = own_low;
  }
  answered (puts v i) y did called_so next = record {
    stamp = x.stamp + 1;
    answers = at_link v did.may.0 _ ∙ does (Put v) (puts v i) (ap (λ b. unless b error.NoSuchPeer) did.may.0) (ap (put_event v) called_so) did.numbers own_low;
    low = own_low;
  }
  answered (takes v i) y did called_so next =
      let p = next.0 in
      let pipe : w.pipes v u ≡ p ∷ next.1 = next.2 in
      let here : AllLow n (p ∷ next.1) = subst (AllLow n) pipe (low.pipes v u) in
      let item_low = here.0 in
      let own = low.routers u in
      let le : max x.stamp p.stamp + 1 ≤ suc n = omega (arith, item_low, own) in
      record {
        stamp = max x.stamp p.stamp + 1;
        answers = at_link v did.may.0 _ ∙ ap (λ is. taking_of g w u v (slice_get is 0)) pipe
            ∙ does (Take v p.stamp p.what) (takes v i) (λ k. first_of (unless (did.may.0 k) error.NoSuchPeer) (unless (not (did.may.1 k)) (error.Held v))) (ap (λ q. Some (takes v q)) next.3) did.numbers le;
        low = le;
      }
  answered (offers made) y did called_so next =
      let own = low.routers u in
      let top = low.board in
      let le : max x.stamp w.board + 1 ≤ suc n = omega (arith, own, top) in
      let early : nat_lt GREATEST_STAMP (max x.stamp w.board + 1) ≡ false = grind (arith, nat_tests, le, left) in
      record {
        stamp = max x.stamp w.board + 1;
        answers = at_router _ ∙ ap (of_offer u (max x.stamp w.board + 1)) did.may.1 ∙ rw early (ap (λ m. Does u (offers m) (max x.stamp w.board + 1)) (made_is made did.may.0));
        low = le;
      }

-- ---- a run

-- the item that a step takes is the next of its pipe
takes_next : (g : Setting) (w : World) (state next : RunState) (u : ℕ) (e : RouterEvent) → AgreesWith g w state → runs.NetworkStep (logged_steps g) state (record { router = u; event = e }) next → TakesNext w u e
takes_next g w state next u (alone e) agrees did = tt
takes_next g w state next u (puts v i) agrees did = tt
takes_next g w state next u (offers made) agrees did = tt
takes_next g w state next u (takes v i) agrees did =
    let p = did.3 v u in
    let taken : next.taken v u ≡ state.taken v u ++ i ∷ [] = ap (λ (z : RunState). z.taken v u) did.2 ∙ rw (eq-eqb u u refl, eq-eqb v v refl) refl in
    let put : next.put v u ≡ state.put v u = ap (λ (z : RunState). z.put v u) did.2 ∙ none (u == v) in
    let whole : state.taken v u ++ (i ∷ p.0) ≡ state.taken v u ++ map (λ k. k.what) (w.pipes v u) =
    sym (append_assoc (state.taken v u) (i ∷ []) p.0) ∙ ap (λ l. l ++ p.0) (sym taken) ∙ p.1 ∙ put ∙ agrees.pipes v u in
    first (w.pipes v u) p.0 (append_cancel_left (state.taken v u) (i ∷ p.0) (map (λ k. k.what) (w.pipes v u)) whole)
  where
    none : (b : Bool) → state.put v u ++ (if b then [] else []) ≡ state.put v u
    none true = append-nil (state.put v u)
    none false = append-nil (state.put v u)

    first : (items : List Item) (rest : List What) → i ∷ rest ≡ map (λ k. k.what) items → (p : Item) × (more : List Item) × (items ≡ p ∷ more) × (p.what ≡ i)
    first [] rest h = absurd cc
    first (p ∷ more) rest h = (p, more, refl, let same : i ≡ p.what = cc in sym same)

record Onward (g : Setting) (w : World) (u : ℕ) (e : RouterEvent) (n : ℕ) (next : RunState) : Type 0 where
  pub answered : Answered g w (name_of u e) u e n
  pub agrees : AgreesWith g (world_after g w (name_of u e) u e answered.stamp) next
  pub low : IsLow (world_after g w (name_of u e) u e answered.stamp) (suc n)

module _ (answers : AnswersAreSteps) (links : LinkedRoutersArePeers) (g : Setting) (net : IsNetwork g.net) where
  one : (w : World) (state next : RunState) (u : ℕ) (e : RouterEvent) (n : ℕ) → AgreesWith g w state → IsLow w n → suc n ≤ GREATEST_STAMP
      → runs.NetworkStep (logged_steps g) state (record { router = u; event = e }) next → IsCalled g u (state.routers u).router e → Onward g w u e n next
  one w state next u e n agrees low left did called_so =
      let known = known_router g u did.1.known in
      let same : (w.routers u).router ≡ (state.routers u).router = agrees.routers u did.1.known in
      let step : Step g u (w.routers u).router e (did.0).router = subst (λ r. Step g u r e (did.0).router) (sym same) did.1.step in
      let item = takes_next g w state next u e agrees did in
      let a = answered links g net w n low left u known e (did.0).router step (subst (λ r. IsCalled g u r e) (sym same) called_so) item in
      let doing : Doing g w (name_of u e) u e = record { known = known; does = record { may = step.may; numbers = step.numbers; leaves = refl }; name = refl; next = item } in
      let f = followed answers g w (name_of u e) u e a.stamp state agrees doing in
      let own : f.does.0 ≡ did.0 = same_after g u (state.routers u) f.does.0 did.0 e f.does.1 did.1 in
      let to : f.state_after ≡ next = f.does.2 ∙ ap (runs.after (logged_steps g) state (record { router = u; event = e })) own ∙ sym did.2 in
      record {
        answered = a;
        agrees = subst (AgreesWith g (world_after g w (name_of u e) u e a.stamp)) to f.agrees;
        low = low_after g w (name_of u e) u e a.stamp n a.low low;
      }

  record Reaches (w : World) (at : ℕ) (ds : RunOrder) (last : RunState) : Type 0 where
    pub world : World
    pub plays : played g w at (named ds) ≡ Ok world
    pub agrees : AgreesWith g world last
    pub did : world.run ≡ w.run ++ named ds

  reaches : (ds : RunOrder) (w : World) (state last : RunState) (n at : ℕ) → AgreesWith g w state → IsLow w n → n + length ds ≤ GREATEST_STAMP → IsCalledRun g state ds last → Reaches w at ds last
  reaches [] w state last n at agrees low left r = record { world = w; plays = refl; agrees = subst (AgreesWith g w) r agrees; did = sym (append-nil w.run) }
  reaches (d ∷ ds) w state last n at agrees low left r =
      let u = d.router in let e = d.event in
      let here = one w state r.0 u e n agrees low (omega (arith, left)) r.1 r.2 in
      let event = name_of u e in
      let next : World = world_after g w event u e here.answered.stamp in
      let rest = reaches ds next r.0 last (suc n) (at + 1) here.agrees here.low (omega (arith, left)) r.3 in
      record {
        world = rest.world;
        plays = ap (λ a. onward (world_of g w event at a) (λ z. played g z (at + 1) (named ds))) here.answered.answers ∙ rest.plays;
        agrees = rest.agrees;
        did = rest.did ∙ append_assoc w.run (event ∷ []) (named ds);
      }

pub called_runs_are_played : AnswersAreSteps → LinkedRoutersArePeers → CalledRunsArePlayed
called_runs_are_played answers links g set order last called_so short =
    let first : AgreesWith g (new_world g) (runs.opening (λ u. new_logged g)) = record { routers = λ u k. refl; pipes = λ a b. refl; offers_made = λ s. refl } in
    let low : IsLow (new_world g) 0 = record { routers = λ u. omega arith; pipes = λ a b. tt; board = omega arith } in
    let r = reaches answers links g set.network order (new_world g) (runs.opening (λ u. new_logged g)) last 0 0 first low (omega (arith, short)) called_so in
    record { world = r.world; plays = r.plays; agrees = r.agrees; did = r.did }

-- ---- where every outbox has room, what is chosen is what the call answers

called_one : (g : Setting) (u : ℕ) (x : Stamped) (e : RouterEvent) → HasRoom g u x.router → IsChosen g u x.router e → IsCalled g u x.router e
called_one g u x (puts v i) room is = is
called_one g u x (alone (Advertises v)) room is = finds g u x room v is
called_one g u x (alone (Obeys c)) room is = tt
called_one g u x (alone Ticks) room is = tt
called_one g u x (alone (Handles v)) room is = tt
called_one g u x (alone Decides) room is = tt
called_one g u x (takes v i) room is = tt
called_one g u x (offers made) room is = tt

called_all : (g : Setting) (ds : RunOrder) (old new : RunState) → IsChosenRun g old ds new → IsCalledRun g old ds new
called_all g [] old new r = r
called_all g (d ∷ ds) old new r =
    (r.0, r.1, called_one g d.router (record { router = (old.routers d.router).router; stamp = 0 }) d.event r.3 r.2, called_all g ds r.0 new r.4)

pub chosen_runs_are_played : AnswersAreSteps → LinkedRoutersArePeers → ChosenRunsArePlayed
chosen_runs_are_played answers links g set order last chosen short =
    called_runs_are_played answers links g set order last (called_all g order (runs.opening (λ u. new_logged g)) last chosen) short
