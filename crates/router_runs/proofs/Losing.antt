-- A close loses the recording, and no part of it is ever made.
use Rattle.std.proofs.Common.{◌≡◌, ◌≢◌, ℕ, ◌==◌, ◌≤◌, Bool, true, false, List, [], ◌∷◌, ◌++◌, refl, ap, sym, ◌∙◌, arith, subst, None, Some, inl, inr}
use Rattle.std.specs.Prelude.{if◌then◌else◌, slice_get}
use mathlib.Core.Logic.{◌⊎◌}
use Rattle.std.proofs.lemmas.Bool.Decides.{nat_tests}
use Rattle.run_model.specs.Network as runs
use Rattle.run_model.specs.Network.{NetworkEvent, alone, puts, takes, offers, offered_by}
use Rattle.run_model.specs.Offers.{Finished, Lost, Closed, made_of, IsIn}
use Rattle.outbox.specs.declared.item.What.{What}
use Rattle.snap_marker.specs.Recordings.{RouterPart, RouterOffer, MadeOffer, Snapshots}
use Rattle.router_model.specs.Settings.{Setting}
use Rattle.router_model.specs.State.{Router}
use Rattle.router_model.specs.Step.{Own, RouterEvent, May}
use Rattle.router_model.specs.Recording.{IsRecording, IsNext, GoesOn, LeavesFirst, LeavingLosesTheRecording, RecordingsGoOn}
use Rattle.router_runs.specs.Runs.{Logged, LoggedStep, RunOrder, RunState, logged_steps, new_logged}
use Rattle.router_runs.specs.Snapshots.{CloseLosesTheRecording}

-- ---- lists of offers

in_either : {A : Type 0} (z : A) (xs ys : List A) → IsIn z (xs ++ ys) → IsIn z xs ⊎ IsIn z ys
in_either z [] ys h = inr h
in_either z (x ∷ xs) ys (inl h) = inl (inl h)
in_either z (x ∷ xs) ys (inr h) = elim (in_either z xs ys h) [
  | inl k ↦ inl (inr k)
  | inr k ↦ inr k
]

in_front : (z o : RouterOffer) (queue : List RouterOffer) → slice_get queue 0 ≡ Some o → z ≡ o → IsIn z queue
in_front z o [] h same = absurd (cc h)
in_front z o (x ∷ queue) h same = inl (same ∙ sym (let e : x ≡ o = cc h in e))

one_lost : (s v e k : ℕ) (part : RouterPart) (queue : List RouterOffer) → IsIn (Finished k part) (queue ++ Lost s v e Closed ∷ []) → IsIn (Finished k part) queue
one_lost s v e k part queue h = elim (in_either (Finished k part) queue (Lost s v e Closed ∷ []) h) [
  | inl j ↦ j
  | inr (inl j) ↦ absurd (cc j)
  | inr (inr j) ↦ absurd j
]

-- an offer more is that of the router that steps, and waited in front of its queue
module _ (g : Setting) (w u s : ℕ) (part : RouterPart) (x : Router) (offered : List MadeOffer) where
  offered_more : (e : RouterEvent) → May g w x e → IsIn (made_of u (Finished s part)) (offered ++ offered_by e)
      → IsIn (made_of u (Finished s part)) offered ⊎ ((w ≡ u) × IsIn (Finished s part) x.snapshots.queue)
  offered_more (offers made) may h = elim (in_either (made_of u (Finished s part)) offered (made ∷ []) h) [
    | inl j ↦ inl j
    | inr (inl j) ↦ inr (sym may.0 ∙ sym (ap (λ (m : MadeOffer). m.router) j), in_front (Finished s part) made.offer x.snapshots.queue may.1 (ap (λ (m : MadeOffer). m.offer) j))
    | inr (inr j) ↦ absurd j
  ]
  offered_more (alone e) may h = elim (in_either (made_of u (Finished s part)) offered [] h) [
    | inl j ↦ inl j
    | inr j ↦ absurd j
  ]
  offered_more (puts v i) may h = elim (in_either (made_of u (Finished s part)) offered [] h) [
    | inl j ↦ inl j
    | inr j ↦ absurd j
  ]
  offered_more (takes v i) may h = elim (in_either (made_of u (Finished s part)) offered [] h) [
    | inl j ↦ inl j
    | inr j ↦ absurd j
  ]

-- ---- what holds of a router in every state: numbers recorded are not above the last, and a part that was queued or made is of a
-- number that is recorded no more

record Tells (x : Snapshots) (offered : List MadeOffer) (u s : ℕ) : Type 0 where
  numbers : (k : ℕ) → IsRecording x k → k ≤ x.last
  parts : (part : RouterPart) → IsIn (Finished s part) x.queue ⊎ IsIn (made_of u (Finished s part)) offered → (s ≤ x.last) × (IsRecording x s → ⊥)

-- and once s was lost: it is recorded no more, and no part of it was queued or made
record Lacks (x : Snapshots) (offered : List MadeOffer) (u s : ℕ) : Type 0 where
  low : s ≤ x.last
  off : IsRecording x s → ⊥
  none : (part : RouterPart) → IsIn (Finished s part) x.queue ⊎ IsIn (made_of u (Finished s part)) offered → ⊥

-- by an event of the router
module _ (goes : RecordingsGoOn) (g : Setting) (u s : ℕ) (x y : Logged) (e : RouterEvent) (offered : List MadeOffer) (step : LoggedStep g u x e y) where
  on : GoesOn x.router.snapshots y.router.snapshots
  on = goes g u x.router y.router e step.step

  was : (part : RouterPart) → IsIn (Finished s part) y.router.snapshots.queue ⊎ IsIn (made_of u (Finished s part)) (offered ++ offered_by e)
      → (IsIn (Finished s part) x.router.snapshots.queue ⊎ IsIn (made_of u (Finished s part)) offered) ⊎ (IsNext x.router.snapshots y.router.snapshots s × (y.router.snapshots.unfinished ≡ None))
  was part (inl j) = elim (on.finishes s part j) [
    | inl k ↦ inl (inl k)
    | inr k ↦ inr k
  ]
  was part (inr j) = elim (offered_more g u u s part x.router offered e step.step.may j) [
    | inl k ↦ inl (inr k)
    | inr k ↦ inl (inl k.1)
  ]

  number : Tells x.router.snapshots offered u s → (k : ℕ) → IsNext x.router.snapshots y.router.snapshots k → k ≤ y.router.snapshots.last
  number t k (inl r) = (let a = t.numbers k r in let b = on.rises in omega (arith, a, b))
  number t k (inr p) = p.1

  still : (s ≤ x.router.snapshots.last) → (IsRecording x.router.snapshots s → ⊥) → IsRecording y.router.snapshots s → ⊥
  still low off r = elim (on.records s r) [
    | inl j ↦ off j
    | inr j ↦ absurd (let a = j.0 in omega (arith, low, a))
  ]

  lower : (s ≤ x.router.snapshots.last) → s ≤ y.router.snapshots.last
  lower low = (let b = on.rises in omega (arith, low, b))

  tells_on : Tells x.router.snapshots offered u s → Tells y.router.snapshots (offered ++ offered_by e) u s
  tells_on t = record {
    numbers = λ k r. number t k (on.records k r);
    parts = λ part h. elim (was part h) [
      | inl j ↦ (let p = t.parts part j in (lower p.0, still p.0 p.1))
      | inr j ↦ (number t s j.0, λ r. (let no : None ≡ Some r.0 = sym j.1 ∙ r.1 in cc no))
    ];
  }

  lacks_on : Lacks x.router.snapshots offered u s → Lacks y.router.snapshots (offered ++ offered_by e) u s
  lacks_on l = record {
    low = lower l.low;
    off = still l.low l.off;
    none = λ part h. elim (was part h) [
      | inl j ↦ l.none part j
      | inr j ↦ elim j.0 [
        | inl k ↦ l.off k
        | inr k ↦ absurd (let a = k.0 in let b = l.low in omega (arith, a, b))
      ]
    ];
  }

-- by an event of another
module _ (g : Setting) (w u s : ℕ) (x : Router) (e : RouterEvent) (offered : List MadeOffer) (may : May g w x e) (other : w ≢ u) (n : Snapshots) where
  same_offers : (part : RouterPart) → IsIn (Finished s part) n.queue ⊎ IsIn (made_of u (Finished s part)) (offered ++ offered_by e) → IsIn (Finished s part) n.queue ⊎ IsIn (made_of u (Finished s part)) offered
  same_offers part (inl j) = inl j
  same_offers part (inr j) = elim (offered_more g w u s part x offered e may j) [
    | inl k ↦ inr k
    | inr k ↦ absurd (other k.0)
  ]

  tells_else : Tells n offered u s → Tells n (offered ++ offered_by e) u s
  tells_else t = record { numbers = t.numbers; parts = λ part h. t.parts part (same_offers part h) }

  lacks_else : Lacks n offered u s → Lacks n (offered ++ offered_by e) u s
  lacks_else l = record { low = l.low; off = l.off; none = λ part h. l.none part (same_offers part h) }

-- ---- over a run

number_is : (a b : ℕ) → (a == b) ≡ true → a ≡ b
number_is a b h = grind (arith, nat_tests, h)

number_is_not : (a b : ℕ) → (a == b) ≡ false → a ≢ b
number_is_not a b h same = (let no : (a == b) ≡ true = grind (arith, nat_tests, same) in cc (h, no))

module _ (goes : RecordingsGoOn) (g : Setting) (u s : ℕ) where
  module _ (old : RunState) (d : NetworkEvent Own What MadeOffer) (own : Logged) (step : LoggedStep g d.router (old.routers d.router) d.event own) where
    here : (d.router == u) ≡ true → LoggedStep g u (old.routers u) d.event own
    here h = subst (λ i. LoggedStep g i (old.routers i) d.event own) (number_is d.router u h) step

    tells_next : (b : Bool) → (d.router == u) ≡ b → Tells (old.routers u).router.snapshots old.offered u s → Tells (if b then own else old.routers u).router.snapshots (old.offered ++ offered_by d.event) u s
    tells_next true h t = tells_on goes g u s (old.routers u) own d.event old.offered (here h) t
    tells_next false h t = tells_else g d.router u s (old.routers d.router).router d.event old.offered step.step.may (number_is_not d.router u h) (old.routers u).router.snapshots t

    lacks_next : (b : Bool) → (d.router == u) ≡ b → Lacks (old.routers u).router.snapshots old.offered u s → Lacks (if b then own else old.routers u).router.snapshots (old.offered ++ offered_by d.event) u s
    lacks_next true h l = lacks_on goes g u s (old.routers u) own d.event old.offered (here h) l
    lacks_next false h l = lacks_else g d.router u s (old.routers d.router).router d.event old.offered step.step.may (number_is_not d.router u h) (old.routers u).router.snapshots l

  tells_run : (order : RunOrder) (old new : RunState) → runs.Run (logged_steps g) old order new → Tells (old.routers u).router.snapshots old.offered u s → Tells (new.routers u).router.snapshots new.offered u s
  tells_run [] old new r t = subst (λ (k : RunState). Tells (k.routers u).router.snapshots k.offered u s) r t
  tells_run (d ∷ ds) old new r t =
      let n = r.1 in
      tells_run ds r.0 new r.2 (subst (λ (k : RunState). Tells (k.routers u).router.snapshots k.offered u s) (sym n.2) (tells_next old d n.0 n.1 (d.router == u) refl t))

  lacks_run : (order : RunOrder) (old new : RunState) → runs.Run (logged_steps g) old order new → Lacks (old.routers u).router.snapshots old.offered u s → Lacks (new.routers u).router.snapshots new.offered u s
  lacks_run [] old new r l = subst (λ (k : RunState). Lacks (k.routers u).router.snapshots k.offered u s) r l
  lacks_run (d ∷ ds) old new r l =
      let n = r.1 in
      lacks_run ds r.0 new r.2 (subst (λ (k : RunState). Lacks (k.routers u).router.snapshots k.offered u s) (sym n.2) (lacks_next old d n.0 n.1 (d.router == u) refl l))

first_tells : (g : Setting) (u s : ℕ) → Tells (new_logged g).router.snapshots [] u s
first_tells g u s = record {
  numbers = λ k r. absurd (let no = r.1 in cc no);
  parts = λ part h. elim h [
    | inl j ↦ absurd j
    | inr j ↦ absurd j
  ];
}

-- ---- the close

pub close_loses : LeavingLosesTheRecording → RecordingsGoOn → CloseLosesTheRecording
close_loses loses goes g set before later d old new last reached step rest s v r l =
    let own_is : (new.routers d.router).router ≡ step.0.router = ap (λ (k : RunState). (k.routers d.router).router) step.2 ∙ ap (λ b. (if b then step.0 else old.routers d.router).router) (self d.router) in
    let k = loses g set.network d.router v s (old.routers d.router).router step.0.router d.event step.1.step r (subst (λ (y : Router). LeavesFirst g d.router v (old.routers d.router).router y) own_is l) in
    let t = tells_run goes g d.router s before (runs.opening (λ i. new_logged g)) old reached (first_tells g d.router s) in
    let queue : (new.routers d.router).router.snapshots.queue ≡ (old.routers d.router).router.snapshots.queue ++ Lost s v ((old.routers d.router).router.sides v).link.epoch Closed ∷ [] =
    ap (λ (y : Router). y.snapshots.queue) own_is ∙ k.0 in
    let off : (new.routers d.router).router.snapshots.unfinished ≡ None = ap (λ (y : Router). y.snapshots.unfinished) own_is ∙ k.1 in
    (queue, λ part h. (lacks_run goes g d.router s later new last rest (lacks t queue off)).none part (inr h))
  where
    self : (n : ℕ) → (n == n) ≡ true
    self n = grind (arith, nat_tests)

    lacks : Tells (old.routers d.router).router.snapshots old.offered d.router s
        → (new.routers d.router).router.snapshots.queue ≡ (old.routers d.router).router.snapshots.queue ++ Lost s v ((old.routers d.router).router.sides v).link.epoch Closed ∷ []
        → (new.routers d.router).router.snapshots.unfinished ≡ None
        → Lacks (new.routers d.router).router.snapshots new.offered d.router s
    lacks t queue off = record {
      low = (let a = t.numbers s r in let b = (goes g d.router (old.routers d.router).router step.0.router d.event step.1.step).rises in
          subst (λ (y : Router). s ≤ y.snapshots.last) (sym (ap (λ (k : RunState). (k.routers d.router).router) step.2 ∙ ap (λ b. (if b then step.0 else old.routers d.router).router) (self d.router))) (omega (arith, a, b)));
      off = λ q. (let no : None ≡ Some q.0 = sym off ∙ q.1 in cc no);
      none = λ part h. elim h [
        | inl j ↦ (t.parts part (inl (one_lost s v ((old.routers d.router).router.sides v).link.epoch s part (old.routers d.router).router.snapshots.queue (subst (IsIn (Finished s part)) queue j)))).1 r
        | inr j ↦ elim (offered_more g d.router d.router s part (old.routers d.router).router old.offered d.event step.1.step.may (subst (IsIn (made_of d.router (Finished s part))) (ap (λ (k : RunState). k.offered) step.2) j)) [
          | inl k ↦ (t.parts part (inr k)).1 r
          | inr k ↦ (t.parts part (inl k.1)).1 r
        ]
      ];
    }
