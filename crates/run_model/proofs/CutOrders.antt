-- The two parts of an order: what they put and take, and that the new order is causal.
use Rattle.std.proofs.Common.{◌≡◌, ℕ, zero, suc, ◌+◌, ◌-◌, ◌≤◌, ◌<◌, if◌then◌else◌, ◌⊎◌, inl, inr, ⊎_elim, Bool, true, false, not, List, [], ◌∷◌, ◌++◌, length, refl, sym, ap, ◌∙◌, subst, append_assoc, arith, length-append}
use Rattle.std.specs.Prelude.{ltb, ◌||◌, min, take, drop}
use Rattle.std.proofs.lemmas.Bool.{ltb-true, ltb-false, lt-ltb, le-ltb}
use Rattle.std.proofs.lemmas.List.{append-nil, take-append-drop, take-append-le, length-take, drop_all}
use mathlib.Core.List.{IsPrefix}
use Rattle.run_model.specs.Network.{Order, Journal, Event, NetworkEvent, puts_in, takes_in}
use Rattle.run_model.specs.Journals.{puts_towards, takes_from, events_of}
use Rattle.run_model.specs.CausalOrder.{IsCausal}
use Rattle.run_model.specs.ThroughCut.{chosen, selected, is_early}
use Rattle.run_model.proofs.Beginnings.{shorter_begins, prefix_length}
use Rattle.run_model.proofs.SameLists.{decide}
use Rattle.run_model.proofs.Runs.{puts_in-append, takes_in-append}
use Rattle.run_model.proofs.OwnEvents.{puts_towards-append, takes_from-append, events_of-append, puts_are, takes_are}
use Rattle.run_model.proofs.CutJournals.{early_of, late_of}
use Rattle.run_model.proofs.CutLists.{puts_kept, takes_early, takes_late, first_puts, own_selected}

pub either : (a b : ℕ) → (a ≤ b) ⊎ (b < a)
either a b = ⊎_elim (λ (t : ltb b a ≡ true). inr (ltb-true b a t)) (λ (t : ltb b a ≡ false). inl (ltb-false b a t)) (decide (ltb b a))

pub below_or : (a b : ℕ) → ((k : ℕ) × (b ≡ a + k)) ⊎ (b ≤ a)
below_or a b = ⊎_elim (λ (h : a ≤ b). inl (b - a, omega arith)) (λ (h : b < a). inr (omega arith)) (either a b)

module _ {Own Item Offer : Type 0} where
  selected_true : (test : ℕ → Journal Own Item Offer → Event Own Item Offer → Bool) (before : Order Own Item Offer) (d : NetworkEvent Own Item Offer) (ds : Order Own Item Offer)
      → test d.router (events_of d.router before) d.event ≡ true → selected test before (d ∷ ds) ≡ d ∷ selected test (before ++ d ∷ []) ds
  selected_true test before d ds is = rw is refl

  selected_false : (test : ℕ → Journal Own Item Offer → Event Own Item Offer → Bool) (before : Order Own Item Offer) (d : NetworkEvent Own Item Offer) (ds : Order Own Item Offer)
      → test d.router (events_of d.router before) d.event ≡ false → selected test before (d ∷ ds) ≡ selected test (before ++ d ∷ []) ds
  selected_false test before d ds is = rw is refl

  -- a beginning of a selection is the selection of a beginning
  selected_front : (test : ℕ → Journal Own Item Offer → Event Own Item Offer → Bool) (before ds a b : Order Own Item Offer) → selected test before ds ≡ a ++ b
      → (pre post : Order Own Item Offer) × (ds ≡ pre ++ post) × (selected test before pre ≡ a)
  selected_front test before ds [] b e = ([], ds, refl, refl)
  selected_front test before [] (x ∷ a) b e = cc
  selected_front test before (d ∷ ds) (x ∷ a) b e =
      ⊎_elim
      (λ (t : test d.router (events_of d.router before) d.event ≡ true).
      let f : d ∷ selected test (before ++ d ∷ []) ds ≡ x ∷ (a ++ b) = sym (selected_true test before d ds t) ∙ e in
      let same : d ≡ x = cc in
      let left : selected test (before ++ d ∷ []) ds ≡ a ++ b = cc in
      let rest = selected_front test (before ++ d ∷ []) ds a b left in
      (d ∷ rest.0, rest.1, (λ i. d ∷ rest.2 i), selected_true test before d rest.0 t ∙ (λ i. same i ∷ rest.3 i)))
      (λ (t : test d.router (events_of d.router before) d.event ≡ false).
      let rest = selected_front test (before ++ d ∷ []) ds (x ∷ a) b (sym (selected_false test before d ds t) ∙ e) in
      (d ∷ rest.0, rest.1, (λ i. d ∷ rest.2 i), selected_false test before d rest.0 t ∙ rest.3))
      (decide (test d.router (events_of d.router before) d.event))

  pub selected-append : (test : ℕ → Journal Own Item Offer → Event Own Item Offer → Bool) (before xs ys : Order Own Item Offer)
      → selected test before (xs ++ ys) ≡ selected test before xs ++ selected test (before ++ xs) ys
  selected-append test before [] ys = ap (λ l. selected test l ys) (sym (append-nil before))
  selected-append test before (d ∷ xs) ys =
      let b : Bool = test d.router (events_of d.router before) d.event in
      ap (λ l. (if b then d ∷ [] else []) ++ l) (selected-append test (before ++ d ∷ []) xs ys)
      ∙ ap (λ l. (if b then d ∷ [] else []) ++ (selected test (before ++ d ∷ []) xs ++ selected test l ys)) (append_assoc before (d ∷ []) xs)
      ∙ sym (append_assoc (if b then d ∷ [] else []) (selected test (before ++ d ∷ []) xs) (selected test (before ++ d ∷ xs) ys))

  -- a beginning of two lists, one after the other, lies in the first or beyond it
  front_of_two : (xs ys a b : Order Own Item Offer) → xs ++ ys ≡ a ++ b
      → ((r : Order Own Item Offer) × (xs ≡ a ++ r)) ⊎ ((r : Order Own Item Offer) × (a ≡ xs ++ r) × (ys ≡ r ++ b))
  front_of_two xs ys [] b e = inl (xs, refl)
  front_of_two [] ys (y ∷ a) b e = inr (y ∷ a, refl, e)
  front_of_two (x ∷ xs) ys (y ∷ a) b e =
      let same : x ≡ y = cc in
      let left : xs ++ ys ≡ a ++ b = cc in
      ⊎_elim
      (λ (h : (r : Order Own Item Offer) × (xs ≡ a ++ r)). inl (h.0, (λ i. same i ∷ h.1 i)))
      (λ (h : (r : Order Own Item Offer) × (a ≡ xs ++ r) × (ys ≡ r ++ b)). inr (h.0, (λ i. sym same i ∷ h.1 i), h.2))
      (front_of_two xs ys a b left)

module _ {Own Item Offer : Type 0} (c : ℕ → ℕ) (n : ℕ → ℕ → ℕ) where
  abbrev pub goes_first : ℕ → Journal Own Item Offer → Event Own Item Offer → Bool
  goes_first u before e = ltb (length before) (c u) || is_early (n u) before e

  abbrev pub goes_second : ℕ → Journal Own Item Offer → Event Own Item Offer → Bool
  goes_second u before e = not (goes_first u before e)

  chosen_past : (u : ℕ) (before es : Journal Own Item Offer) → c u ≤ length before → chosen (goes_first u) before es ≡ early_of (n u) before es
  chosen_past u before [] past = refl
  chosen_past u before (e ∷ es) past =
      let long = length-append before (e ∷ []) in
      let test : ltb (length before) (c u) ≡ false = le-ltb (length before) (c u) past in
      let later = chosen_past u (before ++ e ∷ []) es (omega arith) in
      (λ i. (if test i || is_early (n u) before e then e ∷ [] else []) ++ later i)

  rest_past : (u : ℕ) (before es : Journal Own Item Offer) → c u ≤ length before → chosen (goes_second u) before es ≡ late_of (n u) before es
  rest_past u before [] past = refl
  rest_past u before (e ∷ es) past =
      let long = length-append before (e ∷ []) in
      let test : ltb (length before) (c u) ≡ false = le-ltb (length before) (c u) past in
      let later = rest_past u (before ++ e ∷ []) es (omega arith) in
      (λ i. (if not (test i || is_early (n u) before e) then e ∷ [] else []) ++ later i)

  chosen_first : (u : ℕ) (before es : Journal Own Item Offer) (k : ℕ) → c u ≡ length before + k
      → chosen (goes_first u) before es ≡ take k es ++ early_of (n u) (before ++ take k es) (drop k es)
  chosen_first u before es zero is = chosen_past u before es (omega arith) ∙ ap (λ l. early_of (n u) l es) (sym (append-nil before))
  chosen_first u before [] (suc k) is = refl
  chosen_first u before (e ∷ es) (suc k) is =
      let long : length (before ++ e ∷ []) ≡ length before + 1 = length-append before (e ∷ []) in
      let test : ltb (length before) (c u) ≡ true = lt-ltb (length before) (c u) (omega arith) in
      let later = chosen_first u (before ++ e ∷ []) es k (omega arith) in
      (λ i. (if test i || is_early (n u) before e then e ∷ [] else []) ++ later i)
      ∙ ap (λ l. e ∷ (take k es ++ early_of (n u) l (drop k es))) (append_assoc before (e ∷ []) (take k es))

  chosen_rest : (u : ℕ) (before es : Journal Own Item Offer) (k : ℕ) → c u ≡ length before + k
      → chosen (goes_second u) before es ≡ late_of (n u) (before ++ take k es) (drop k es)
  chosen_rest u before es zero is = rest_past u before es (omega arith) ∙ ap (λ l. late_of (n u) l es) (sym (append-nil before))
  chosen_rest u before [] (suc k) is = refl
  chosen_rest u before (e ∷ es) (suc k) is =
      let long : length (before ++ e ∷ []) ≡ length before + 1 = length-append before (e ∷ []) in
      let test : ltb (length before) (c u) ≡ true = lt-ltb (length before) (c u) (omega arith) in
      let later = chosen_rest u (before ++ e ∷ []) es k (omega arith) in
      (λ i. (if not (test i || is_early (n u) before e) then e ∷ [] else []) ++ later i)
      ∙ ap (λ l. late_of (n u) l (drop k es)) (append_assoc before (e ∷ []) (take k es))

  abbrev firsts : Order Own Item Offer → Order Own Item Offer
  firsts ds = selected goes_first [] ds

  abbrev seconds : Order Own Item Offer → Order Own Item Offer
  seconds ds = selected goes_second [] ds

  abbrev pub head_of : ℕ → Order Own Item Offer → Journal Own Item Offer
  head_of u ds = take (c u) (events_of u ds)

  abbrev pub tail_of : ℕ → Order Own Item Offer → Journal Own Item Offer
  tail_of u ds = drop (c u) (events_of u ds)

  pub own_firsts : (u : ℕ) (ds : Order Own Item Offer) → events_of u (firsts ds) ≡ head_of u ds ++ early_of (n u) (head_of u ds) (tail_of u ds)
  own_firsts u ds = own_selected goes_first u [] ds ∙ chosen_first u [] (events_of u ds) (c u) (omega arith)

  pub own_seconds : (u : ℕ) (ds : Order Own Item Offer) → events_of u (seconds ds) ≡ late_of (n u) (head_of u ds) (tail_of u ds)
  own_seconds u ds = own_selected goes_second u [] ds ∙ chosen_rest u [] (events_of u ds) (c u) (omega arith)

  pub puts_firsts : (u v : ℕ) (ds : Order Own Item Offer) → puts_in u v (firsts ds) ≡ puts_towards v (head_of u ds) ++ puts_towards v (early_of (n u) (head_of u ds) (tail_of u ds))
  puts_firsts u v ds = sym (puts_are u v (firsts ds)) ∙ ap (puts_towards v) (own_firsts u ds) ∙ puts_towards-append v (head_of u ds) (early_of (n u) (head_of u ds) (tail_of u ds))

  puts_seconds : (u v : ℕ) (ds : Order Own Item Offer) → puts_in u v (seconds ds) ≡ puts_towards v (late_of (n u) (head_of u ds) (tail_of u ds))
  puts_seconds u v ds = sym (puts_are u v (seconds ds)) ∙ ap (puts_towards v) (own_seconds u ds)

  pub puts_both : (u v : ℕ) (ds : Order Own Item Offer) → puts_in u v (firsts ds) ++ puts_in u v (seconds ds) ≡ puts_in u v ds
  puts_both u v ds =
      let h = head_of u ds in let t = tail_of u ds in
      (λ i. puts_firsts u v ds i ++ puts_seconds u v ds i)
      ∙ append_assoc (puts_towards v h) (puts_towards v (early_of (n u) h t)) (puts_towards v (late_of (n u) h t))
      ∙ ap (λ l. puts_towards v h ++ l) (puts_kept (n u) v h t)
      ∙ sym (puts_towards-append v h t) ∙ ap (puts_towards v) (take-append-drop (c u) (events_of u ds)) ∙ puts_are u v ds

  pub takes_firsts : (u v : ℕ) (ds : Order Own Item Offer) → takes_in u v (firsts ds) ≡ takes_from u (head_of v ds)
  takes_firsts u v ds =
      let h = head_of v ds in let t = tail_of v ds in
      sym (takes_are u v (firsts ds)) ∙ ap (takes_from u) (own_firsts v ds) ∙ takes_from-append u h (early_of (n v) h t)
      ∙ ap (λ l. takes_from u h ++ l) (takes_early (n v) u h t) ∙ append-nil (takes_from u h)

  takes_seconds : (u v : ℕ) (ds : Order Own Item Offer) → takes_in u v (seconds ds) ≡ takes_from u (tail_of v ds)
  takes_seconds u v ds = sym (takes_are u v (seconds ds)) ∙ ap (takes_from u) (own_seconds v ds) ∙ takes_late (n v) u (head_of v ds) (tail_of v ds)

  takes_halves : (u v : ℕ) (ds : Order Own Item Offer) → takes_from u (head_of v ds) ++ takes_from u (tail_of v ds) ≡ takes_in u v ds
  takes_halves u v ds = sym (takes_from-append u (head_of v ds) (tail_of v ds)) ∙ ap (takes_from u) (take-append-drop (c v) (events_of v ds)) ∙ takes_are u v ds

  pub takes_both : (u v : ℕ) (ds : Order Own Item Offer) → takes_in u v (firsts ds) ++ takes_in u v (seconds ds) ≡ takes_in u v ds
  takes_both u v ds = (λ i. takes_firsts u v ds i ++ takes_seconds u v ds i) ∙ takes_halves u v ds

  -- the first part has the puts inside, and as many more as are needed
  pub puts_needed : (u v : ℕ) (ds : Order Own Item Offer) → min (n u v) (length (puts_in u v ds)) ≤ length (puts_in u v (firsts ds))
  puts_needed u v ds =
      let h = head_of u ds in let t = tail_of u ds in
      let here = ap (λ (l : List Item). length l) (puts_firsts u v ds) in
      let sum = length-append (puts_towards v h) (puts_towards v (early_of (n u) h t)) in
      let all = ap (λ (l : List Item). length l) (sym (puts_are u v ds) ∙ ap (puts_towards v) (sym (take-append-drop (c u) (events_of u ds))) ∙ puts_towards-append v h t) in
      let halves = length-append (puts_towards v h) (puts_towards v t) in
      ⊎_elim
      (λ (k : (k : ℕ) × (n u v ≡ length (puts_towards v h) + k)).
      let is = k.1 in
      let some = ap (λ (l : List Item). length l) (first_puts (n u) v h t k.0 k.1) in
      let taken = length-take k.0 (puts_towards v t) in
      omega arith)
      (λ (enough : n u v ≤ length (puts_towards v h)). omega arith)
      (below_or (length (puts_towards v h)) (n u v))

  -- a router that has taken beyond the cut has taken all that it takes inside
  takes_by_then : (u v : ℕ) (pre post : Order Own Item Offer)
      → (takes_in u v (seconds pre) ≡ []) ⊎ (takes_from u (head_of v pre) ≡ takes_from u (head_of v (pre ++ post)))
  takes_by_then u v pre post =
      ⊎_elim
      (λ (h : c v ≤ length (events_of v pre)).
      inr (ap (takes_from u) (sym (take-append-le (c v) (events_of v pre) (events_of v post) h) ∙ ap (take (c v)) (sym (events_of-append v pre post)))))
      (λ (h : length (events_of v pre) < c v). inl (takes_seconds u v pre ∙ ap (takes_from u) (drop_all (c v) (events_of v pre) (omega arith))))
      (either (c v) (length (events_of v pre)))

  puts_grow : (u v : ℕ) (pre post : Order Own Item Offer) → length (puts_in u v (firsts pre)) ≤ length (puts_in u v (firsts (pre ++ post)))
  puts_grow u v pre post =
      let e = ap (λ l. length (puts_in u v l)) (selected-append goes_first [] pre post) in
      let f = ap (λ (l : List Item). length l) (puts_in-append u v (firsts pre) (selected goes_first pre post)) in
      let g = length-append (puts_in u v (firsts pre)) (puts_in u v (selected goes_first pre post)) in
      omega arith

  takes_grow : (u v : ℕ) (pre post : Order Own Item Offer) → length (takes_in u v (firsts pre)) ≤ length (takes_in u v (firsts (pre ++ post)))
  takes_grow u v pre post =
      let e = ap (λ l. length (takes_in u v l)) (selected-append goes_first [] pre post) in
      let f = ap (λ (l : List Item). length l) (takes_in-append u v (firsts pre) (selected goes_first pre post)) in
      let g = length-append (takes_in u v (firsts pre)) (takes_in u v (selected goes_first pre post)) in
      omega arith

  puts_sum : (u v : ℕ) (ds : Order Own Item Offer) → length (puts_in u v (firsts ds)) + length (puts_in u v (seconds ds)) ≡ length (puts_in u v ds)
  puts_sum u v ds = sym (length-append (puts_in u v (firsts ds)) (puts_in u v (seconds ds))) ∙ ap (λ (l : List Item). length l) (puts_both u v ds)

  takes_sum : (u v : ℕ) (ds : Order Own Item Offer) → length (takes_in u v (firsts ds)) + length (takes_in u v (seconds ds)) ≡ length (takes_in u v ds)
  takes_sum u v ds = sym (length-append (takes_in u v (firsts ds)) (takes_in u v (seconds ds))) ∙ ap (λ (l : List Item). length l) (takes_both u v ds)

  -- in a beginning of the first part no more is taken than put
  count_first : (u v : ℕ) (pre post : Order Own Item Offer) → IsCausal (pre ++ post) → n u v ≡ length (takes_from u (head_of v (pre ++ post)))
      → length (takes_in u v (firsts pre)) ≤ length (puts_in u v (firsts pre))
  count_first u v pre post causal needed =
      let all = ap (λ (l : List Item). length l) (takes_firsts u v (pre ++ post)) in
      let grow = takes_grow u v pre post in
      let sum = takes_sum u v pre in
      let before = prefix_length (takes_in u v pre) (puts_in u v pre) (causal u v pre post refl) in
      let some = puts_needed u v pre in
      omega arith

  -- nor in the first part and a beginning of the second
  count_second : (u v : ℕ) (pre post : Order Own Item Offer) → IsCausal (pre ++ post) → n u v ≡ length (takes_from u (head_of v (pre ++ post)))
      → length (takes_in u v (firsts (pre ++ post))) + length (takes_in u v (seconds pre)) ≤ length (puts_in u v (firsts (pre ++ post))) + length (puts_in u v (seconds pre))
  count_second u v pre post causal needed =
      let all = ap (λ (l : List Item). length l) (takes_firsts u v (pre ++ post)) in
      let sums = takes_sum u v (pre ++ post) in
      let whole = prefix_length (takes_in u v (pre ++ post)) (puts_in u v (pre ++ post)) (causal u v (pre ++ post) [] (sym (append-nil (pre ++ post)))) in
      let some = puts_needed u v (pre ++ post) in
      let before = prefix_length (takes_in u v pre) (puts_in u v pre) (causal u v pre post refl) in
      let put = puts_sum u v pre in
      let took = takes_sum u v pre in
      let grow = puts_grow u v pre post in
      let here = ap (λ (l : List Item). length l) (takes_firsts u v pre) in
      ⊎_elim
      (λ (none : takes_in u v (seconds pre) ≡ []). let zero_taken = ap (λ (l : List Item). length l) none in omega arith)
      (λ (full : takes_from u (head_of v pre) ≡ takes_from u (head_of v (pre ++ post))). let same = ap (λ (l : List Item). length l) full in omega arith)
      (takes_by_then u v pre post)

  begins : (order front rest : Order Own Item Offer) → IsCausal order → firsts order ++ seconds order ≡ front ++ rest → (u v : ℕ)
      → length (takes_in u v front) ≤ length (puts_in u v front) → IsPrefix (takes_in u v front) (puts_in u v front)
  begins order front rest causal e u v count =
      let whole = causal u v order [] (sym (append-nil order)) in
      let puts_are_all : puts_in u v front ++ puts_in u v rest ≡ puts_in u v order =
      sym (puts_in-append u v front rest) ∙ ap (puts_in u v) (sym e) ∙ puts_in-append u v (firsts order) (seconds order) ∙ puts_both u v order in
      let takes_are_all : takes_in u v front ++ takes_in u v rest ≡ takes_in u v order =
      sym (takes_in-append u v front rest) ∙ ap (takes_in u v) (sym e) ∙ takes_in-append u v (firsts order) (seconds order) ∙ takes_both u v order in
      shorter_begins (takes_in u v front) (puts_in u v front) (puts_in u v order)
      (takes_in u v rest ++ whole.0, sym (append_assoc (takes_in u v front) (takes_in u v rest) whole.0) ∙ ap (λ l. l ++ whole.0) takes_are_all ∙ whole.1)
      (puts_in u v rest, puts_are_all) count

  pub still_causal : (order : Order Own Item Offer) → IsCausal order → ((u v : ℕ) → n u v ≡ length (takes_from u (head_of v order))) → IsCausal (firsts order ++ seconds order)
  still_causal order causal needed u v front rest e =
      begins order front rest causal e u v
      (⊎_elim
      (λ (h : (r : Order Own Item Offer) × (firsts order ≡ front ++ r)).
      let s = selected_front goes_first [] order front h.0 h.1 in
      subst (λ l. length (takes_in u v l) ≤ length (puts_in u v l)) s.3
      (count_first u v s.0 s.1 (subst IsCausal s.2 causal) (subst (λ l. n u v ≡ length (takes_from u (head_of v l))) s.2 (needed u v))))
      (λ (h : (r : Order Own Item Offer) × (front ≡ firsts order ++ r) × (seconds order ≡ r ++ rest)).
      let s = selected_front goes_second [] order h.0 rest h.2 in
      let count = count_second u v s.0 s.1 (subst IsCausal s.2 causal) (subst (λ l. n u v ≡ length (takes_from u (head_of v l))) s.2 (needed u v)) in
      let back = subst (λ l. length (takes_in u v (firsts l)) + length (takes_in u v (seconds s.0)) ≤ length (puts_in u v (firsts l)) + length (puts_in u v (seconds s.0))) (sym s.2) count in
      let here = subst (λ l. length (takes_in u v (firsts order)) + length (takes_in u v l) ≤ length (puts_in u v (firsts order)) + length (puts_in u v l)) s.3 back in
      let took = ap (λ (l : List Item). length l) (ap (takes_in u v) h.1 ∙ takes_in-append u v (firsts order) h.0) in
      let put = ap (λ (l : List Item). length l) (ap (puts_in u v) h.1 ∙ puts_in-append u v (firsts order) h.0) in
      let a = length-append (takes_in u v (firsts order)) (takes_in u v h.0) in
      let b = length-append (puts_in u v (firsts order)) (puts_in u v h.0) in
      omega arith)
      (front_of_two (firsts order) (seconds order) front rest e))
