-- The quiet stretch of a run.
use Rattle.std.proofs.Common.{◌≡◌, ℕ, suc, ◌≤◌, ◌==◌, Bool, true, false, ◌&&◌, not, cond, List, [], ◌∷◌, ◌++◌, Some, refl, ap, sym, ◌∙◌, arith, subst, inl, inr}
use Rattle.run_model.specs.Links.{End}
use Rattle.run_model.specs.Routes.{Network, Routers, Event, Acts, Advertise, Decide, Command, NetworkStep, records, leaves, router_after, advanced, routers_after, first_routers, IsNetworkRun, IsSettled}
use Rattle.run_model.specs.Quiet.{IsQuietEvent, IsQuietSince, IsFlaggedQuiet, UnfinishedSnapshotsHold, QuietRunsAreFlagged, StaysWhileQuiet}
use Rattle.run_model.proofs.RecordingRuns.{holds_start}
use Rattle.run_model.proofs.SettledFacts.{facts_run}
use Rattle.run_model.proofs.StayFacts.{which_copy, steady_run, stays}
use Rattle.run_model.proofs.PlaceFacts.{after_append, goes_rest, stands_run}
use Rattle.std.proofs.lemmas.Bool.Decides.{nat_tests}

kept_true : (b q l : Bool) → q ≡ true → l ≡ false → cond b true (q && not l) ≡ true
kept_true true q l h e = refl
kept_true false q l h e = rw (h, e) refl

new_true : (b q : Bool) → b ≡ true → cond b true q ≡ true
new_true true q h = refl
new_true false q h = absurd (cc h)

module _ {M P W : Type 0} (g : Network M P W) where
  -- an event of a router that was quiet leaves its flag
  flag_event : (w : Routers M P W) (u s : ℕ) (e : Event M P W) (c : ℕ → End M) → ((d : ℕ → End M) → (w u).recorder.copy s ≡ Some d → (w u).quiet s ≡ true)
      → ((d : ℕ → End M) → (w u).recorder.copy s ≡ Some d → IsQuietEvent (w u) e) → (router_after g u (w u) e).recorder.copy s ≡ Some c → (router_after g u (w u) e).quiet s ≡ true
  flag_event w u s (Acts act) c flag quiet is =
      elim (which_copy u (w u).recorder (λ v. (w v).recorder.ends u) (g.linked u) act s c is) [
        | inl old ↦ kept_true (records act s) ((w u).quiet s) (leaves (w u).recorder act) (flag c old) (quiet c old)
        | inr new ↦ new_true (records act s) ((w u).quiet s && not (leaves (w u).recorder act)) new.0
      ]
  flag_event w u s (Advertise v p m) c flag quiet is = flag c is
  flag_event w u s (Decide p) c flag quiet is = flag c is
  flag_event w u s (Command o k) c flag quiet is = absurd (quiet c is)

  flag_step : (w : Routers M P W) (t : NetworkStep M P W) (s : ℕ) → IsFlaggedQuiet g w s → (g.routers t.router ≡ true → (c : ℕ → End M) → (w t.router).recorder.copy s ≡ Some c → IsQuietEvent (w t.router) t.event)
      → IsFlaggedQuiet g (advanced g w t) s
  flag_step w t s flag quiet u c ru is = at (u == t.router) refl is
    where
      at : (b : Bool) → (u == t.router) ≡ b → (cond b (router_after g u (w u) t.event) (w u)).recorder.copy s ≡ Some c → (cond b (router_after g u (w u) t.event) (w u)).quiet s ≡ true
      at true here copy =
          let same : t.router ≡ u = grind (arith, nat_tests, here) in
          let quiet_here = subst (λ i. g.routers i ≡ true → (d : ℕ → End M) → (w i).recorder.copy s ≡ Some d → IsQuietEvent (w i) t.event) same quiet in
          flag_event w u s t.event c (λ d k. flag u d ru k) (λ d k. quiet_here ru d k) copy
      at false here copy = flag u c ru copy

  flag_run : (ts : List (NetworkStep M P W)) (w : Routers M P W) (s : ℕ) → IsFlaggedQuiet g w s → IsQuietSince g s w ts → IsFlaggedQuiet g (routers_after g w ts) s
  flag_run [] w s flag quiet = flag
  flag_run (t ∷ ts) w s flag quiet = flag_run ts (advanced g w t) s (flag_step w t s flag quiet.0) quiet.1

  run_front : (xs ys : List (NetworkStep M P W)) (w : Routers M P W) → IsNetworkRun g w (xs ++ ys) → IsNetworkRun g w xs
  run_front [] ys w r = tt
  run_front (t ∷ xs) ys w r = (r.0, run_front xs ys (advanced g w t) r.1)

module _ {M P W : Type 0} where
  pub quiet_runs_are_flagged : QuietRunsAreFlagged M P W
  quiet_runs_are_flagged g ts s quiet = flag_run g ts (first_routers g) s (λ u c ru is. absurd cc) quiet

  -- what was recorded at a place stands at the end
  recorded_stands : (g : Network M P W) (before later : List (NetworkStep M P W)) (u s : ℕ) (c : ℕ → End M) → IsNetworkRun g (first_routers g) (before ++ later) → (routers_after g (first_routers g) before u).recorder.copy s ≡ Some c
      → (routers_after g (first_routers g) before u).kept_at s ≡ (routers_after g (first_routers g) (before ++ later) u).kept_at s
  recorded_stands g before later u s c r is =
      let w : Routers M P W = routers_after g (first_routers g) before in
      let h = facts_run g before (first_routers g) (holds_start g.linked) (run_front g before later (first_routers g) r) in
      let below : s ≤ (w u).recorder.last = ((h.locals u (suc u) (λ e. omega arith)).copied s c is).2 in
      let rest = goes_rest g before later (first_routers g) r in
      let stands = stands_run g later w u s ((w u).recorder.copy s) ((w u).kept_at s) ((w u).originated_at s) rest (record { below = below; copy = refl; kept = refl; originated = refl }) in
      sym (ap (λ (i : Routers M P W). (i u).kept_at s) (after_append g before later (first_routers g)) ∙ stands.kept)

  pub stays_while_quiet : StaysWhileQuiet M P W
  stays_while_quiet g net before later r s settled quiet u p c ru named is =
      let w : Routers M P W = routers_after g (first_routers g) before in
      let same = after_append g before later (first_routers g) in
      let stay = stays g net before later (run_front g before later (first_routers g) r) (goes_rest g before later (first_routers g) r) s (subst (λ i. IsSettled g i s) same settled)
      (quiet_runs_are_flagged g before s quiet) u p c ru named is in
      let stands : (w u).kept_at s p ≡ (routers_after g (first_routers g) (before ++ later) u).kept_at s p = ap (λ (k : P → W). k p) (recorded_stands g before later u s c r is) in
      (stay.0 ∙ stands, stay.1 ∙ stands)

  pub unfinished_snapshots_hold : UnfinishedSnapshotsHold M P W
  unfinished_snapshots_hold g net ts r s still quiet =
      steady_run g ts (first_routers g) net (holds_start g.linked) r (λ k f q x d rx i. absurd cc) s still (quiet_runs_are_flagged g ts s quiet)
