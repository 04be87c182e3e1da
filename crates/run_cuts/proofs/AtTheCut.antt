-- What was taken inside the cut of a snapshot was appended inside: what is left of it to put can be put there.
use Rattle.std.proofs.Common.{◌≡◌, ℕ, suc, ◌≤◌, ◌==◌, ⊎_elim, inl, inr, List, [], ◌∷◌, ◌++◌, length, refl, ap, sym, subst, ◌∙◌, append_assoc, arith, length-append}
use Rattle.std.specs.Prelude.{take, if◌then◌else◌}
use mathlib.Core.List.{IsPrefix}
use mathlib.Core.Logic.{◌⊎◌}
use Rattle.std.proofs.lemmas.List.{append-nil}
use Rattle.std.proofs.lemmas.Bool.{eq-eqb}
use Rattle.std.proofs.Math.Seq.{take-append_seam}
use Rattle.run_model.specs.Network as runs
use Rattle.run_model.specs.Network.{Order, Journal, puts_in, takes_in, offers_in}
use Rattle.run_model.specs.Journals.{IsJournal, event_of, events_of, puts_towards, takes_from, offers_made}
use Rattle.outbox.specs.declared.item.What.{What}
use Rattle.snap_marker.specs.Recordings.{MadeOffer}
use Rattle.router_model.specs.Settings.{Setting}
use Rattle.router_model.specs.Step.{Own, RouterEvent}
use Rattle.router_runs.specs.Runs.{RunOrder, RunState, IsRunTo, logged_steps, new_logged}
use Rattle.run_cuts.specs.CutLaws.{CutLaws}

-- ---- beginnings of one list

module _ {A : Type 0} where
  -- of two beginnings of one list, one begins the other
  pub either_begins : (xs ys all : List A) → IsPrefix xs all → IsPrefix ys all → IsPrefix xs ys ⊎ IsPrefix ys xs
  either_begins [] ys all p q = inl (ys, refl)
  either_begins (x ∷ xs) [] all p q = inr (x ∷ xs, refl)
  either_begins (x ∷ xs) (y ∷ ys) [] p q = let e : x ∷ (xs ++ p.0) ≡ [] = p.1 in absurd cc
  either_begins (x ∷ xs) (y ∷ ys) (z ∷ all) p q =
      let e : x ∷ (xs ++ p.0) ≡ z ∷ all = p.1 in
      let f : y ∷ (ys ++ q.0) ≡ z ∷ all = q.1 in
      let a : xs ++ p.0 ≡ all = cc in
      let b : ys ++ q.0 ≡ all = cc in
      let same : x ≡ y = cc in
      ⊎_elim (λ (h : IsPrefix xs ys). inl (h.0, λ i. same i ∷ h.1 i)) (λ (h : IsPrefix ys xs). inr (h.0, λ i. sym same i ∷ h.1 i)) (either_begins xs ys all (p.0, a) (q.0, b))

  -- the first of a list and one more
  pub take_one_more : (xs : List A) (x : A) (ys : List A) → take (suc (length xs)) (xs ++ x ∷ ys) ≡ xs ++ x ∷ []
  take_one_more xs x ys =
      let long = length-append xs (x ∷ []) in
      let is : suc (length xs) ≡ length (xs ++ x ∷ []) = omega (arith, long) in
      ap (λ n. take n (xs ++ x ∷ ys)) is ∙ ap (take (length (xs ++ x ∷ []))) (sym (append_assoc xs (x ∷ []) ys)) ∙ take-append_seam (xs ++ x ∷ []) ys

  pub begins_trans : (xs ys zs : List A) → IsPrefix xs ys → IsPrefix ys zs → IsPrefix xs zs
  begins_trans xs ys zs p q = (p.0 ++ q.0, sym (append_assoc xs p.0 q.0) ∙ (ap (λ w. w ++ q.0) p.1 ∙ q.1))

  pub begins_length : (xs ys : List A) → IsPrefix xs ys → length xs ≤ length ys
  begins_length xs ys p = (let sum = length-append xs p.0 in let same = ap (λ l. length l) p.1 in omega (arith, sum, same))

-- ---- own events

pub own_more : (u : ℕ) (xs ys : RunOrder) → events_of u (xs ++ ys) ≡ events_of u xs ++ events_of u ys
own_more u [] ys = refl
own_more u (d ∷ xs) ys = ap (λ l. event_of u d ++ l) (own_more u xs ys) ∙ sym (append_assoc (event_of u d) (events_of u xs) (events_of u ys))

pub puts_more : (v : ℕ) (xs ys : List RouterEvent) → puts_towards v (xs ++ ys) ≡ puts_towards v xs ++ puts_towards v ys
puts_more v [] ys = refl
puts_more v (e ∷ xs) ys = ap (λ l. runs.put_towards v e ++ l) (puts_more v xs ys) ∙ sym (append_assoc (runs.put_towards v e) (puts_towards v xs) (puts_towards v ys))

pub takes_more : (u : ℕ) (xs ys : List RouterEvent) → takes_from u (xs ++ ys) ≡ takes_from u xs ++ takes_from u ys
takes_more u [] ys = refl
takes_more u (e ∷ xs) ys = ap (λ l. runs.taken_from u e ++ l) (takes_more u xs ys) ∙ sym (append_assoc (runs.taken_from u e) (takes_from u xs) (takes_from u ys))

pub offers_more : (xs ys : List RouterEvent) → offers_made (xs ++ ys) ≡ offers_made xs ++ offers_made ys
offers_more [] ys = refl
offers_more (e ∷ xs) ys = ap (λ l. runs.offered_by e ++ l) (offers_more xs ys) ∙ sym (append_assoc (runs.offered_by e) (offers_made xs) (offers_made ys))

pub own_one : (u : ℕ) (e : RouterEvent) (rest : List RouterEvent) → (if u == u then e ∷ [] else []) ++ rest ≡ e ∷ rest
own_one u e rest = rw (eq-eqb u u refl) refl

-- ---- runs

pub run_more : (g : Setting) (before : RunOrder) (d : runs.NetworkEvent Own What MadeOffer) (start old new : RunState) → runs.Run (logged_steps g) start before old → runs.NetworkStep (logged_steps g) old d new
    → runs.Run (logged_steps g) start (before ++ d ∷ []) new
run_more g [] d start old new r did = (new, subst (λ z. runs.NetworkStep (logged_steps g) z d new) (sym r) did, refl)
run_more g (c ∷ before) d start old new r did = (r.0, r.1, run_more g before d r.0 old new r.2 did)

module _ (laws : CutLaws) (g : Setting) where
  -- what a run shows of its routers, and of the items that they put and took
  pub record Shown (ds : RunOrder) (z : RunState) : Type 0 where
    pub journals : (u : ℕ) → IsJournal (logged_steps g) u (new_logged g) (events_of u ds) (z.routers u)
    pub put : (u v : ℕ) → z.put u v ≡ puts_towards v (events_of u ds)
    pub taken : (u v : ℕ) → z.taken u v ≡ takes_from u (events_of v ds)
    pub begins : (u v : ℕ) → IsPrefix (z.taken u v) (z.put u v)
    pub offered : z.offered ≡ offers_in ds

  pub shown : (ds : RunOrder) (z : RunState) → IsRunTo g ds z → Shown ds z
  shown ds z r =
      let is = laws.journals g (λ u. new_logged g) ds z r in
      let ends = is.2 in
      let alike = laws.alike z.routers (λ u. events_of u ds) (offers_in ds) ds (record { journals = λ u. refl; causal = λ u v front rest e. is.1 u v front rest e; collected_so = refl }) in
      record {
        journals = is.0;
        put = λ u v. ap (λ (k : RunState). k.put u v) (ends ∙ alike);
        taken = λ u v. ap (λ (k : RunState). k.taken u v) (ends ∙ alike);
        begins = λ u v. subst (λ (k : RunState). IsPrefix (k.taken u v) (k.put u v)) (sym ends) (is.1 u v ds [] (sym (append-nil ds)));
        offered = ap (λ (k : RunState). k.offered) ends;
      }
