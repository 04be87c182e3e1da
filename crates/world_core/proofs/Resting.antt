-- Events that leave the run as it was leave the whole world so, and then as often as they are played.
use Rattle.std.proofs.Common.{◌≡◌, ℕ, zero, suc, ◌+◌, ◌≤◌, arith, List, [], ◌∷◌, ◌++◌, length, refl, ap, sym, ◌∙◌, subst}
use Rattle.std.specs.Prelude.{Ok}
use Rattle.std.proofs.lemmas.List.{length-append}
use Rattle.router_model.specs.Settings.{Setting}
use Rattle.world_core.specs.declared.schedule.Event.{Event}
use Rattle.world_core.specs.World.{World, WorldAnswer, Does, Nothing, Stops, world_of, onward, played, world_answer, world_after}
use Rattle.world_core.specs.Orders.{repeated}
use Rattle.world_core.specs.Views.{WorldView, plain_world, Obeys}
use Rattle.world_core.proofs.Orders.{on_to, repeated_among}

module _ (g : Setting) where
  grows_by : (w y : World) (x : Event) (xs : List Event) (at : ℕ) (a : WorldAnswer) → ((next : World) → played g next (at + 1) xs ≡ Ok y → length next.run ≤ length y.run)
      → onward (world_of g w x at a) (λ next. played g next (at + 1) xs) ≡ Ok y → length w.run ≤ length y.run
  grows_by w y x xs at (Does u e stamp) go h =
      let l : length (w.run ++ x ∷ []) ≤ length y.run = go (world_after g w x u e stamp) h in
      omega (arith, l, length-append w.run (x ∷ []))
  grows_by w y x xs at Nothing go h = go w h
  grows_by w y x xs at (Stops fault) go h = absurd cc

  pub grows : (xs : List Event) (w y : World) (at : ℕ) → played g w at xs ≡ Ok y → length w.run ≤ length y.run
  grows [] w y at h =
      let same : w ≡ y = cc in
      let long = ap (λ (k : World). length k.run) same in
      omega (arith, long)
  grows (x ∷ xs) w y at h = grows_by w y x xs at (world_answer g w x) (λ next n. grows xs next y (at + 1) n) h

  rests_by : (w y : World) (x : Event) (xs : List Event) (at : ℕ) (a : WorldAnswer) → length y.run ≡ length w.run → (played g w (at + 1) xs ≡ Ok y → y ≡ w)
      → onward (world_of g w x at a) (λ next. played g next (at + 1) xs) ≡ Ok y → y ≡ w
  rests_by w y x xs at (Does u e stamp) same go h =
      let l : length (w.run ++ x ∷ []) ≤ length y.run = grows xs (world_after g w x u e stamp) y (at + 1) h in
      absurd (omega (arith, l, same, length-append w.run (x ∷ [])))
  rests_by w y x xs at Nothing same go h = go h
  rests_by w y x xs at (Stops fault) same go h = absurd cc

  pub rests : (xs : List Event) (w y : World) (at : ℕ) → played g w at xs ≡ Ok y → length y.run ≡ length w.run → y ≡ w
  rests [] w y at h same = cc
  rests (x ∷ xs) w y at h same = rests_by w y x xs at (world_answer g w x) same (λ n. rests xs w y (at + 1) n same) h

  again : (xs : List Event) (w : World) → played g w 0 xs ≡ Ok w → (n : ℕ) → played g w 0 (repeated n xs) ≡ Ok w
  again xs w h zero = refl
  again xs w h (suc n) = on_to g xs (repeated n xs) w w w h (again xs w h n)

-- behind events that were repeated so often, and did nothing the last time, so do all others
pub obeys_still : (x y z : WorldView) (once : List Event) (done left all : ℕ) → (done + 1) + left ≡ all → y.net ≡ x.net → Obeys (Ok tt) x (repeated done once) y → Obeys (Ok tt) y once z
    → length z.run ≡ length y.run → Obeys (Ok tt) x (repeated all once) z
obeys_still x y z once done left all is same h k still = λ g e ranks.
    let wx = plain_world x in
    let wy = plain_world y in
    let wz = plain_world z in
    let first = h g e ranks in
    let last = k g (e ∙ sym same) ranks in
    let rest : wz ≡ wy = rests g once wy wz 0 last still in
    let more = again g once wz (subst (λ (w : World). played g w 0 once ≡ Ok wz) (sym rest) last) left in
    subst (λ (events : List Event). played g wx 0 events ≡ Ok wz) (repeated_among done left all once is)
    (on_to g (repeated done once ++ once) (repeated left once) wx wz wz (on_to g (repeated done once) once wx wy wz first last) more)
