-- One event of a worker, or none.
use Rattle.std.proofs.Common.{◌≡◌, ℕ, ◌+◌, ◌<◌, arith, ◌==◌, if◌then◌else◌, Bool, true, false, List, [], ◌∷◌, ◌++◌, refl, ap, sym, ◌∙◌, subst}
use Rattle.std.specs.Prelude.{max, map, cond}
use Rattle.std.proofs.lemmas.List.{append-nil, map-append}
use Rattle.outbox.specs.declared.item.Item.{Item}
use Rattle.run_model.specs.Network.{alone, puts, takes, offers}
use Rattle.run_model.specs.Stamps.{FitsItem, without_stamp}
use Rattle.snap_marker.specs.Recordings.{MadeOffer}
use Rattle.router_model.specs.Settings.{Setting}
use Rattle.router_model.specs.Step.{Own, RouterEvent, Step}
use Rattle.router_model.specs.Calls.{Stamped, Call, Obey, Tick, Put, Take, Handle, Decide, Advertise, stamp_of}
use Rattle.world_core.specs.World.{name_of}
use Rattle.worker_loop.specs.Acts.{passed, with_stamp, act_of, Moves, Seen, Does, grown, with_offer}
use Rattle.worker_loop.specs.Whole.{entry}

-- ---- one event leads on

pub unstamped : (s : ℕ) (e : RouterEvent) → without_stamp (with_stamp s e) ≡ e
unstamped s e = grind arith

pub moves : (g : Setting) (u s : ℕ) (x y : Stamped) (e : RouterEvent) → x.stamp < y.stamp → FitsItem y.stamp (with_stamp s e) → Step g u x.router e y.router
    → Moves g u x (act_of u y.stamp s e) y
moves g u s x y e later fits step =
    record { router = refl; stamp = refl; later = later; fits = fits; step = subst (λ k. Step g u x.router k y.router) (sym (unstamped s e)) step }

-- what stays beside the router and its events
pub record Rests (a b : Seen) : Type 0 where
  pub put : b.put ≡ a.put
  pub taken : b.taken ≡ a.taken
  pub room : b.room ≡ a.room
  pub made : b.made ≡ a.made

same_items : (f h : ℕ → List Item) (v : ℕ) → h ≡ f → map passed (h v) ≡ map passed (f v) ++ []
same_items f h v e = ap (λ k. map passed (k v)) e ∙ sym (append-nil (map passed (f v)))

pub does_none : (g : Setting) (u : ℕ) (a b : Seen) → b.router ≡ a.router → Rests a b → b.events ≡ a.events → Does g u a [] b
does_none g u a b router rests events =
    record {
      leads = sym router;
      put = λ v. same_items a.put b.put v rests.put;
      taken = λ v. same_items a.taken b.taken v rests.taken;
      room = rests.room;
      made = rests.made ∙ sym (append-nil a.made);
      events = events ∙ sym (append-nil a.events);
    }

pub does_alone : (g : Setting) (u s : ℕ) (a b : Seen) (o : Own) → Moves g u a.router (act_of u b.router.stamp s (alone o)) b.router → Rests a b
    → b.events ≡ a.events ++ entry b.router.stamp (name_of u (alone o)) ∷ []
    → Does g u a (act_of u b.router.stamp s (alone o) ∷ []) b
does_alone g u s a b o m rests events =
    record {
      leads = (b.router, m, refl);
      put = λ v. same_items a.put b.put v rests.put;
      taken = λ v. same_items a.taken b.taken v rests.taken;
      room = rests.room;
      made = rests.made ∙ sym (append-nil a.made);
      events = events;
    }

-- a list that grows at one place
grows_by : (f : ℕ → List Item) (v w : ℕ) (x : Item) (b : Bool)
    → map passed (cond b (f w ++ x ∷ []) (f w)) ≡ map passed (f w) ++ ((if b then passed x ∷ [] else []) ++ [])
grows_by f v w x true = map-append passed (f w) (x ∷ [])
grows_by f v w x false = sym (append-nil (map passed (f w)))

grows : (f h : ℕ → List Item) (v w : ℕ) (x : Item) → h ≡ grown f v x → map passed (h w) ≡ map passed (f w) ++ ((if v == w then passed x ∷ [] else []) ++ [])
grows f h v w x e = ap (λ k. map passed (k w)) e ∙ grows_by f v w x (v == w)

pub does_put : (g : Setting) (u v : ℕ) (a b : Seen) (x : Item) → Moves g u a.router (act_of u b.router.stamp x.stamp (puts v x.what)) b.router
    → b.put ≡ grown a.put v x → b.taken ≡ a.taken → b.room ≡ a.room → b.made ≡ a.made
    → b.events ≡ a.events ++ entry b.router.stamp (name_of u (puts v x.what)) ∷ []
    → Does g u a (act_of u b.router.stamp x.stamp (puts v x.what) ∷ []) b
does_put g u v a b x m put taken room made events =
    record {
      leads = (b.router, m, refl);
      put = λ w. grows a.put b.put v w x put;
      taken = λ w. same_items a.taken b.taken w taken;
      room = room;
      made = made ∙ sym (append-nil a.made);
      events = events;
    }

pub does_take : (g : Setting) (u v : ℕ) (a b : Seen) (x : Item) → Moves g u a.router (act_of u b.router.stamp x.stamp (takes v x.what)) b.router
    → b.taken ≡ grown a.taken v x → b.put ≡ a.put → b.room ≡ a.room → b.made ≡ a.made
    → b.events ≡ a.events ++ entry b.router.stamp (name_of u (takes v x.what)) ∷ []
    → Does g u a (act_of u b.router.stamp x.stamp (takes v x.what) ∷ []) b
does_take g u v a b x m taken put room made events =
    record {
      leads = (b.router, m, refl);
      put = λ w. same_items a.put b.put w put;
      taken = λ w. grows a.taken b.taken v w x taken;
      room = room;
      made = made ∙ sym (append-nil a.made);
      events = events;
    }

pub does_offer : (g : Setting) (u s : ℕ) (a b : Seen) (o : MadeOffer) → Moves g u a.router (act_of u b.router.stamp s (offers o)) b.router → o.router ≡ u
    → b.put ≡ a.put → b.taken ≡ a.taken → b.room ≡ a.room → b.made ≡ with_offer a.made b.router.stamp o
    → b.events ≡ a.events ++ entry b.router.stamp (name_of u (offers o)) ∷ []
    → Does g u a (act_of u b.router.stamp s (offers o) ∷ []) b
does_offer g u s a b o m own put taken room made events =
    record {
      leads = (b.router, m, refl);
      put = λ v. same_items a.put b.put v put;
      taken = λ v. same_items a.taken b.taken v taken;
      room = room;
      made = made ∙ ap (λ (k : ℕ). a.made ++ record { stamp = b.router.stamp; router = k; offer = o } ∷ []) own;
      events = events;
    }

-- ---- stamps

pub later_call : (g : Setting) (u : ℕ) (x : Stamped) (call : Call) → x.stamp < stamp_of g u x call
later_call g u x (Obey c) = omega arith
later_call g u x Tick = omega arith
later_call g u x (Put v) = omega arith
later_call g u x (Take v stamp what) = omega arith
later_call g u x (Handle v) = omega arith
later_call g u x Decide = omega arith
later_call g u x Advertise = omega arith

pub after_item : (a b : ℕ) → b < max a b + 1
after_item a b = omega arith
