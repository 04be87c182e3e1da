-- A world's run is one: the name of an event, what the call chooses and the state before it leave one event.
use Rattle.std.proofs.Common.{◌≡◌, ℕ, Bool, true, false, [], ◌∷◌, ◌++◌, length, refl, ap, sym, ◌∙◌, subst, Option, Some}
use Rattle.std.specs.Prelude.{slice_get, option_map}
use Rattle.std.specs.List.{find}
use Rattle.std.proofs.Math.Path.{fun_ext}
use mathlib.Core.List.{IsPrefix}
use Rattle.outbox.specs.Items.{next_item}
use Rattle.outbox.specs.declared.item.What.{What}
use Rattle.run_model.specs.Network as runs
use Rattle.run_model.specs.Network.{NetworkEvent, alone, puts, takes, offers, GetsTheNext, StepsAreTakesInOrder}
use Rattle.run_model.specs.ThroughCut.{first_part, second_part}
use Rattle.snap_marker.specs.Recordings.{MadeOffer, RouterPart}
use Rattle.router_model.specs.Settings.{Setting, is_router, peers}
use Rattle.router_model.specs.Step.{Own, RouterEvent, May, Obeys, Ticks, Handles, Decides, Advertises, after, says, next_offer}
use Rattle.router_model.specs.Calls.{has_room}
use Rattle.router_runs.specs.Runs.{RunOrder, RunState, Logged, LoggedStep, IsRunTo, new_logged, logged_steps}
use Rattle.run_cuts.specs.ThroughSnapshot.{ThroughItsCut, CutsAreOne}
use Rattle.world_core.specs.declared.schedule.Event.{Event}
use Rattle.world_core.specs.declared.schedule.Event.TheVariants as schedule
use Rattle.world_core.specs.World.{name_of, named}
use Rattle.world_core.specs.Replays.{IsCalled, IsCalledRun, through_cut_of}
use Rattle.world_core.specs.Through.{inside_part}
use Rattle.world_core.specs.OneRun.{PlayedRunsAreOne, PlayedCutsAreOne}
use Rattle.world_core.proofs.Calling.{run_of}

module _ (g : Setting) where
  -- the event that a name stands for, if its router does one
  abbrev named_event : RunState → Event → Option (NetworkEvent Own What MadeOffer)
  named_event old (schedule.Command u c) = Some (record { router = u; event = alone (Obeys c) })
  named_event old (schedule.Tick u) = Some (record { router = u; event = alone Ticks })
  named_event old (schedule.Put u v) = option_map (λ i. record { router = u; event = puts v i }) (next_item g.net.settings.cut ((old.routers u).router.sides v).outbox)
  named_event old (schedule.Take u v) = option_map (λ i. record { router = u; event = takes v i }) (slice_get (old.put v u) (length (old.taken v u)))
  named_event old (schedule.Handle u v) = Some (record { router = u; event = alone (Handles v) })
  named_event old (schedule.Decide u) = Some (record { router = u; event = alone Decides })
  named_event old (schedule.Advertise u) = option_map (λ v. record { router = u; event = alone (Advertises v) }) (find (has_room g u (old.routers u).router) (peers g.net u))
  named_event old (schedule.Offer u) = option_map (λ o. record { router = u; event = offers (record { router = u; offer = o }) }) (next_offer (old.routers u).router)

  abbrev of_router : ℕ → RouterEvent → NetworkEvent Own What MadeOffer
  of_router u e = record { router = u; event = e }

  is_named : (old : RunState) (u : ℕ) (e : RouterEvent) → May g u (old.routers u).router e → IsCalled g u (old.routers u).router e → GetsTheNext old u e
      → named_event old (name_of u e) ≡ Some (of_router u e)
  is_named old u (alone (Obeys c)) may called next = refl
  is_named old u (alone Ticks) may called next = refl
  is_named old u (alone (Handles v)) may called next = refl
  is_named old u (alone Decides) may called next = refl
  is_named old u (alone (Advertises v)) may called next = ap (option_map (λ v. of_router u (alone (Advertises v)))) called
  is_named old u (puts v i) may called next = ap (option_map (λ i. of_router u (puts v i))) called
  is_named old u (takes v i) may called next = ap (option_map (λ i. of_router u (takes v i))) next
  is_named old u (offers made) may called next =
      ap (option_map (λ o. of_router u (offers (record { router = u; offer = o })))) may.1
      ∙ ap (λ w. Some (of_router u (offers (record { router = w; offer = made.offer })))) (sym may.0)

  -- a step leaves one state
  own_is : (u : ℕ) (old own : Logged) (e : RouterEvent) → LoggedStep g u old e own
      → own ≡ record { router = after g u old.router e; log = λ v. old.log v ++ says g u old.router e v }
  own_is u old own e s =
      ap (λ x. record { router = x; log = own.log }) s.step.leaves ∙ ap (λ log. record { router = after g u old.router e; log = log }) s.log

  leaves_one : (old a b : RunState) (d : NetworkEvent Own What MadeOffer) → runs.NetworkStep (logged_steps g) old d a → runs.NetworkStep (logged_steps g) old d b → a ≡ b
  leaves_one old a b d s t =
      s.2 ∙ ap (runs.after (logged_steps g) old d) (own_is d.router (old.routers d.router) s.0 d.event s.1 ∙ sym (own_is d.router (old.routers d.router) t.0 d.event t.1)) ∙ sym t.2

  abbrev Flows : RunState → Type 0
  Flows old = (u v : ℕ) → IsPrefix (old.taken u v) (old.put u v)

  module _ (takes_in_order : StepsAreTakesInOrder (logged_steps g)) where
    called_event : (old new : RunState) (d : NetworkEvent Own What MadeOffer) → Flows old → runs.NetworkStep (logged_steps g) old d new → IsCalled g d.router (old.routers d.router).router d.event
        → named_event old (name_of d.router d.event) ≡ Some d
    called_event old new d flows s called = is_named old d.router d.event s.1.step.may called (((takes_in_order old new d flows).0 s).1)

    one : (ds es : RunOrder) (old last other : RunState) → Flows old → IsCalledRun g old ds last → IsCalledRun g old es other → named ds ≡ named es
        → (ds ≡ es) × (last ≡ other)
    one [] [] old last other flows a b names = (refl, sym a ∙ b)
    one [] (e ∷ es) old last other flows a b names = absurd cc
    one (d ∷ ds) [] old last other flows a b names = absurd cc
    one (d ∷ ds) (e ∷ es) old last other flows a b names =
        let first : name_of d.router d.event ≡ name_of e.router e.event = cc in
        let rest : named ds ≡ named es = cc in
        let both : Some d ≡ Some e = sym (called_event old a.0 d flows a.1 a.2) ∙ ap (named_event old) first ∙ called_event old b.0 e flows b.1 b.2 in
        let same : d ≡ e = cc in
        let next : a.0 ≡ b.0 = leaves_one old a.0 b.0 d a.1 (subst (λ c. runs.NetworkStep (logged_steps g) old c b.0) (sym same) b.1) in
        let go = one ds es a.0 last other a.1.3 a.3 (subst (λ s. IsCalledRun g s es other) (sym next) b.3) rest in
        (ap (λ c. c ∷ ds) same ∙ ap (λ l. e ∷ l) go.0, go.1)

pub played_runs_are_one : ((g : Setting) → StepsAreTakesInOrder (logged_steps g)) → PlayedRunsAreOne
played_runs_are_one takes_in_order g w a b =
    one g (takes_in_order g) a.order b.order (runs.opening (λ u. new_logged g)) a.state b.state (λ u v. ([], refl)) a.run b.run (a.events ∙ sym b.events)

-- ---- the cut

module _ (one_cut : CutsAreOne) (g : Setting) (s : ℕ) where
  cut_at : (order : RunOrder) (last : RunState) → IsRunTo g order last → (parts others : ℕ → RouterPart) (t : ThroughItsCut g order last s parts) (o : ThroughItsCut g order last s others)
      → (u : ℕ) (b : Bool) → is_router g u ≡ b → t.cut u ≡ o.cut u
  cut_at order last run parts others t o u true is =
      one_cut g order last run u s (t.at u) (o.at u) (t.cut u) (o.cut u) (t.passes.recorded u is) (o.passes.recorded u is)
  cut_at order last run parts others t o u false is = t.passes.nobody u is ∙ sym (o.passes.nobody u is)

  abbrev Alike : (order : RunOrder) (last : RunState) (parts others : ℕ → RouterPart) (t : ThroughItsCut g order last s parts) (ds : RunOrder) (end : RunState) → Type 0
  Alike order last parts others t ds end =
      (o : ThroughItsCut g ds end s others) → (through_cut_of t ≡ through_cut_of o) × (inside_part t.cut order ≡ inside_part o.cut ds)

  alike : (order : RunOrder) (last : RunState) → IsRunTo g order last → (parts others : ℕ → RouterPart) (t : ThroughItsCut g order last s parts) → Alike order last parts others t order last
  alike order last run parts others t o =
      let cuts : t.cut ≡ o.cut = fun_ext (λ u. cut_at order last run parts others t o u (is_router g u) refl) in
      (ap (λ cut. first_part cut order ++ second_part cut order) cuts, ap (λ cut. inside_part cut order) cuts)

pub played_cuts_are_one : PlayedRunsAreOne → CutsAreOne → PlayedCutsAreOne
played_cuts_are_one one_run one_cut g w a b s parts others t o =
    let same = one_run g w a b in
    subst (λ end. Alike one_cut g s a.order a.state parts others t b.order end) same.1
    (subst (λ ds. Alike one_cut g s a.order a.state parts others t ds a.state) same.0
    (alike one_cut g s a.order a.state (run_of g a.order (runs.opening (λ u. new_logged g)) a.state a.run) parts others t)) o
