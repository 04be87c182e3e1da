-- What the two parts of a journal beyond a cut put and take, and what the two parts of an order have of each router.
use Rattle.std.proofs.Common.{◌≡◌, ℕ, zero, suc, ◌+◌, ◌≤◌, ◌==◌, if◌then◌else◌, ◌⊎◌, inl, inr, ⊎_elim, Bool, true, false, not, List, [], ◌∷◌, ◌++◌, length, refl, sym, ap, ◌∙◌, subst, append_assoc, arith, length-append}
use Rattle.std.specs.Prelude.{take}
use Rattle.std.proofs.lemmas.Bool.{eq-eqb, eqb-true, lt-ltb, le-ltb}
use Rattle.std.proofs.lemmas.List.{append-nil}
use Rattle.run_model.specs.Network.{Order, Journal, Event, NetworkEvent, alone, puts, takes, offers, put_towards, taken_from}
use Rattle.run_model.specs.Journals.{puts_towards, takes_from, event_of, events_of}
use Rattle.run_model.specs.ThroughCut.{chosen, selected, is_early, Interleaves, IsPut}
use Rattle.run_model.proofs.Pairs.{Each}
use Rattle.run_model.proofs.SameLists.{decide}
use Rattle.run_model.proofs.OwnEvents.{puts_towards-append, events_of-append}
use Rattle.run_model.proofs.CutJournals.{early_of, late_of, chosen_true, chosen_false, none_of, late_is_past, early_is_put}

either_way : {A : Type 0} (b : Bool) (xs : List A) → (if b then xs else xs) ≡ xs
either_way true xs = refl
either_way false xs = refl

module _ {Own Item Offer : Type 0} where
  towards : (v : ℕ) (e : Event Own Item Offer) → (put_towards v e ≡ []) ⊎ ((x : Item) × (e ≡ puts v x))
  towards v (puts w x) = ⊎_elim (λ (t : (w == v) ≡ true). inr (x, ap (λ k. puts k x) (eqb-true w v t))) (λ (t : (w == v) ≡ false). rw t (inl refl)) (decide (w == v))
  towards v (alone f) = inl refl
  towards v (takes u x) = inl refl
  towards v (offers o) = inl refl

  puts_its : (v : ℕ) (x : Item) (e : Event Own Item Offer) → e ≡ puts v x → put_towards v e ≡ x ∷ []
  puts_its v x e is = ap (put_towards v) is ∙ rw (eq-eqb v v refl) refl

  takes_none : (u v : ℕ) (x : Item) (e : Event Own Item Offer) → e ≡ puts v x → taken_from u e ≡ []
  takes_none u v x e is = ap (taken_from u) is

module _ {Own Item Offer : Type 0} (n : ℕ → ℕ) where
  put_last : (v : ℕ) (before : Journal Own Item Offer) (e : Event Own Item Offer) (es : Journal Own Item Offer) → (put_towards v e ≡ []) ⊎ (n v ≤ length (puts_towards v before))
      → puts_towards v (early_of n (before ++ e ∷ []) es) ++ (put_towards v e ++ puts_towards v (late_of n (before ++ e ∷ []) es))
      ≡ put_towards v e ++ (puts_towards v (early_of n (before ++ e ∷ []) es) ++ puts_towards v (late_of n (before ++ e ∷ []) es))
  put_last v before e es (inl h) = rw h refl
  put_last v before e es (inr full) =
      let more = ap (λ (l : List Item). length l) (puts_towards-append v before (e ∷ [])) in
      let long = length-append (puts_towards v before) (puts_towards v (e ∷ [])) in
      let none = none_of n v (before ++ e ∷ []) es (omega arith) in
      ap (λ l. l ++ (put_towards v e ++ puts_towards v (late_of n (before ++ e ∷ []) es))) none
      ∙ ap (λ l. put_towards v e ++ (l ++ puts_towards v (late_of n (before ++ e ∷ []) es))) (sym none)

  -- the puts of the two parts are those of the whole, in order
  pub puts_kept : (v : ℕ) (before es : Journal Own Item Offer) → puts_towards v (early_of n before es) ++ puts_towards v (late_of n before es) ≡ puts_towards v es
  puts_kept v before [] = refl
  puts_kept v before (e ∷ es) =
      let es' = before ++ e ∷ [] in
      let later = puts_kept v es' es in
      ⊎_elim
      (λ (t : is_early n before e ≡ true).
      (λ i. puts_towards v (chosen_true n (is_early n) before e es t i) ++ puts_towards v (chosen_false n (λ b f. not (is_early n b f)) before e es (ap not t) i))
      ∙ append_assoc (put_towards v e) (puts_towards v (early_of n es' es)) (puts_towards v (late_of n es' es)) ∙ ap (λ l. put_towards v e ++ l) later)
      (λ (t : is_early n before e ≡ false).
      (λ i. puts_towards v (chosen_false n (is_early n) before e es t i) ++ puts_towards v (chosen_true n (λ b f. not (is_early n b f)) before e es (ap not t) i))
      ∙ put_last v before e es (late_is_past n before e t v) ∙ ap (λ l. put_towards v e ++ l) later)
      (decide (is_early n before e))

  -- the takes of the two parts are all in the second
  pub takes_early : (u : ℕ) (before es : Journal Own Item Offer) → takes_from u (early_of n before es) ≡ []
  takes_early u before [] = refl
  takes_early u before (e ∷ es) =
      let later = takes_early u (before ++ e ∷ []) es in
      ⊎_elim
      (λ (t : is_early n before e ≡ true).
      let is = early_is_put n before e t in
      ap (takes_from u) (chosen_true n (is_early n) before e es t) ∙ (λ i. takes_none u is.0 is.1 e is.2 i ++ later i))
      (λ (t : is_early n before e ≡ false). ap (takes_from u) (chosen_false n (is_early n) before e es t) ∙ later)
      (decide (is_early n before e))

  pub takes_late : (u : ℕ) (before es : Journal Own Item Offer) → takes_from u (late_of n before es) ≡ takes_from u es
  takes_late u before [] = refl
  takes_late u before (e ∷ es) =
      let later = takes_late u (before ++ e ∷ []) es in
      ⊎_elim
      (λ (t : is_early n before e ≡ true).
      let is = early_is_put n before e t in
      ap (takes_from u) (chosen_false n (λ b f. not (is_early n b f)) before e es (ap not t)) ∙ later ∙ ap (λ l. l ++ takes_from u es) (sym (takes_none u is.0 is.1 e is.2)))
      (λ (t : is_early n before e ≡ false). ap (takes_from u) (chosen_true n (λ b f. not (is_early n b f)) before e es (ap not t)) ∙ ap (λ l. taken_from u e ++ l) later)
      (decide (is_early n before e))

  first_other : (v : ℕ) (before : Journal Own Item Offer) (e : Event Own Item Offer) (es : Journal Own Item Offer) (k : ℕ) → n v ≡ length (puts_towards v before) + k → put_towards v e ≡ []
      → ((k : ℕ) → n v ≡ length (puts_towards v (before ++ e ∷ [])) + k → puts_towards v (early_of n (before ++ e ∷ []) es) ≡ take k (puts_towards v es))
      → puts_towards v (early_of n before (e ∷ es)) ≡ take k (puts_towards v (e ∷ es))
  first_other v before e es k left none later =
      let same : puts_towards v (before ++ e ∷ []) ≡ puts_towards v before = puts_towards-append v before (e ∷ []) ∙ ap (λ l. puts_towards v before ++ (l ++ [])) none ∙ append-nil (puts_towards v before) in
      let rest = later k (left ∙ ap (λ (l : List Item). length l + k) (sym same)) ∙ ap (λ l. take k (l ++ puts_towards v es)) (sym none) in
      ⊎_elim
      (λ (t : is_early n before e ≡ true). ap (puts_towards v) (chosen_true n (is_early n) before e es t) ∙ ap (λ l. l ++ puts_towards v (early_of n (before ++ e ∷ []) es)) none ∙ rest)
      (λ (t : is_early n before e ≡ false). ap (puts_towards v) (chosen_false n (is_early n) before e es t) ∙ rest)
      (decide (is_early n before e))

  first_own : (v : ℕ) (before : Journal Own Item Offer) (x : Item) (e : Event Own Item Offer) (es : Journal Own Item Offer) (k : ℕ) → e ≡ puts v x → n v ≡ length (puts_towards v before) + k
      → ((k : ℕ) → n v ≡ length (puts_towards v (before ++ e ∷ [])) + k → puts_towards v (early_of n (before ++ e ∷ []) es) ≡ take k (puts_towards v es))
      → puts_towards v (early_of n before (e ∷ es)) ≡ take k (puts_towards v (e ∷ es))
  first_own v before x e es zero is left later =
      let more = ap (λ (l : List Item). length l) (puts_towards-append v before (e ∷ [])) in
      let long = length-append (puts_towards v before) (puts_towards v (e ∷ [])) in
      let test : is_early n before e ≡ false = ap (is_early n before) is ∙ le-ltb (length (puts_towards v before)) (n v) (omega arith) in
      ap (puts_towards v) (chosen_false n (is_early n) before e es test) ∙ none_of n v (before ++ e ∷ []) es (omega arith)
  first_own v before x e es (suc k) is left later =
      let one = puts_its v x e is in
      let more : puts_towards v (before ++ e ∷ []) ≡ puts_towards v before ++ x ∷ [] = puts_towards-append v before (e ∷ []) ∙ ap (λ l. puts_towards v before ++ (l ++ [])) one in
      let long : length (puts_towards v before ++ x ∷ []) ≡ length (puts_towards v before) + 1 = length-append (puts_towards v before) (x ∷ []) in
      let longer = ap (λ (l : List Item). length l) more in
      let test : is_early n before e ≡ true = ap (is_early n before) is ∙ lt-ltb (length (puts_towards v before)) (n v) (omega arith) in
      let rest : puts_towards v (early_of n (before ++ e ∷ []) es) ≡ take k (puts_towards v es) = later k (omega arith) in
      ap (puts_towards v) (chosen_true n (is_early n) before e es test)
      ∙ (λ i. one i ++ rest i)
      ∙ ap (λ l. take (suc k) (l ++ puts_towards v es)) (sym one)

  -- the early puts of a direction are the first of its puts, as many as are left of the number
  pub first_puts : (v : ℕ) (before es : Journal Own Item Offer) (k : ℕ) → n v ≡ length (puts_towards v before) + k → puts_towards v (early_of n before es) ≡ take k (puts_towards v es)
  first_puts v before [] zero left = refl
  first_puts v before [] (suc k) left = refl
  first_puts v before (e ∷ es) k left = ⊎_elim (λ (h : put_towards v e ≡ []). first_other v before e es k left h (first_puts v (before ++ e ∷ []) es)) (λ (h : (x : Item) × (e ≡ puts v x)). first_own v before h.0 e es k h.1 left (first_puts v (before ++ e ∷ []) es)) (towards v e)

module _ {Own Item Offer : Type 0} (n : ℕ → ℕ) where
  pub early_puts : (before es : Journal Own Item Offer) → Each IsPut (early_of n before es)
  early_puts before [] = tt
  early_puts before (e ∷ es) =
      let later = early_puts (before ++ e ∷ []) es in
      ⊎_elim
      (λ (t : is_early n before e ≡ true). subst (Each IsPut) (sym (chosen_true n (is_early n) before e es t)) (early_is_put n before e t, later))
      (λ (t : is_early n before e ≡ false). subst (Each IsPut) (sym (chosen_false n (is_early n) before e es t)) later)
      (decide (is_early n before e))

-- what a selection of an order has of each router
module _ {Own Item Offer : Type 0} (test : ℕ → Journal Own Item Offer → Event Own Item Offer → Bool) where
  one_of : (u : ℕ) (d : NetworkEvent Own Item Offer) (b : Bool) → events_of u (if b then d ∷ [] else []) ≡ (if b then event_of u d else [])
  one_of u d true = append-nil (event_of u d)
  one_of u d false = refl

  by_router : (u : ℕ) (before : Order Own Item Offer) (d : NetworkEvent Own Item Offer) (ds : Order Own Item Offer) (b : Bool) → test d.router (events_of d.router before) d.event ≡ b
      → (c : Bool) → (d.router == u) ≡ c
      → (if b then event_of u d else []) ++ chosen (test u) (events_of u before ++ (event_of u d ++ [])) (events_of u ds) ≡ chosen (test u) (events_of u before) (event_of u d ++ events_of u ds)
  by_router u before d ds b tested true is =
      let same : test u (events_of u before) d.event ≡ b = subst (λ w. test w (events_of w before) d.event ≡ b) (eqb-true d.router u is) tested in
      rw (is, same) refl
  by_router u before d ds b tested false is = rw is (ap (λ l. l ++ chosen (test u) (events_of u before ++ []) (events_of u ds)) (either_way b []) ∙ ap (λ l. chosen (test u) l (events_of u ds)) (append-nil (events_of u before)))

  pub own_selected : (u : ℕ) (before ds : Order Own Item Offer) → events_of u (selected test before ds) ≡ chosen (test u) (events_of u before) (events_of u ds)
  own_selected u before [] = refl
  own_selected u before (d ∷ ds) =
      let b : Bool = test d.router (events_of d.router before) d.event in
      let later = own_selected u (before ++ d ∷ []) ds in
      let here : events_of u (selected test before (d ∷ ds)) ≡ (if b then event_of u d else []) ++ chosen (test u) (events_of u (before ++ d ∷ [])) (events_of u ds) =
      events_of-append u (if b then d ∷ [] else []) (selected test (before ++ d ∷ []) ds) ∙ (λ i. one_of u d b i ++ later i) in
      let grown : events_of u (before ++ d ∷ []) ≡ events_of u before ++ (event_of u d ++ []) = events_of-append u before (d ∷ []) in
      here ∙ ap (λ l. (if b then event_of u d else []) ++ chosen (test u) l (events_of u ds)) grown ∙ by_router u before d ds b refl (d.router == u) refl

-- a selection and the rest are the order taken apart
module _ {Own Item Offer : Type 0} (test : ℕ → Journal Own Item Offer → Event Own Item Offer → Bool) where
  pub taken_apart : (before ds : Order Own Item Offer) → Interleaves (selected test before ds) (selected (λ u b e. not (test u b e)) before ds) ds
  taken_apart before [] = (refl, refl)
  taken_apart before (d ∷ ds) =
      let later = taken_apart (before ++ d ∷ []) ds in
      ⊎_elim
      (λ (t : test d.router (events_of d.router before) d.event ≡ true).
      inl (
        selected test (before ++ d ∷ []) ds,
        rw t refl,
        subst (λ (b : Bool). Interleaves (selected test (before ++ d ∷ []) ds) ((if not b then d ∷ [] else []) ++ selected (λ u b e. not (test u b e)) (before ++ d ∷ []) ds) ds) (sym t) later,
      ))
      (λ (t : test d.router (events_of d.router before) d.event ≡ false).
      inr (
        selected (λ u b e. not (test u b e)) (before ++ d ∷ []) ds,
        rw t refl,
        subst (λ (b : Bool). Interleaves ((if b then d ∷ [] else []) ++ selected test (before ++ d ∷ []) ds) (selected (λ u b e. not (test u b e)) (before ++ d ∷ []) ds) ds) (sym t) later,
      ))
      (decide (test d.router (events_of d.router before) d.event))
