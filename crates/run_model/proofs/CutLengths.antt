-- How long the two parts of a run taken through a cut are.
use Rattle.std.proofs.Common.{◌≡◌, ℕ, suc, ◌+◌, ◌==◌, if◌then◌else◌, inl, inr, Bool, true, false, List, [], ◌∷◌, ◌++◌, length, refl, ap, sym, ◌∙◌, arith, length-append}
use Rattle.std.specs.Prelude.{filter}
use Rattle.std.specs.List.{sum_by}
use Rattle.std.proofs.lemmas.List.Sums.{sum_by-cons}
use Rattle.std.proofs.lemmas.Bool.Decides.{nat_tests}
use Rattle.run_model.specs.Network.{Order, Journal, Event, NetworkEvent}
use Rattle.run_model.specs.Journals.{event_of, events_of}
use Rattle.run_model.specs.ThroughCut.{selected, Interleaves, comes_first, inside, early, needed, first_part, second_part, PartsAreAsLong}
use Rattle.run_model.proofs.Pairs.{Each, each}
use Rattle.run_model.proofs.CutLists.{taken_apart}
use Rattle.run_model.proofs.CutOrders.{own_firsts}

-- sums over the same list
sum_both : (f g : ℕ → ℕ) (us : List ℕ) → sum_by (λ u. f u + g u) us ≡ sum_by f us + sum_by g us
sum_both f g [] = refl
sum_both f g (u ∷ us) =
    let h = sum_by-cons (λ u. f u + g u) u us in
    let a = sum_by-cons f u us in
    let b = sum_by-cons g u us in
    let ih = sum_both f g us in omega (arith, h, a, b, ih)

sum_same : (f g : ℕ → ℕ) (us : List ℕ) → ((u : ℕ) → f u ≡ g u) → sum_by f us ≡ sum_by g us
sum_same f g [] same = refl
sum_same f g (u ∷ us) same =
    let a = sum_by-cons f u us in
    let b = sum_by-cons g u us in
    let ih = sum_same f g us same in
    let h = same u in omega (arith, a, b, ih, h)

sum_none : (us : List ℕ) → sum_by (λ u. 0) us ≡ 0
sum_none [] = refl
sum_none (u ∷ us) = (let a = sum_by-cons (λ u. 0) u us in let ih = sum_none us in omega (arith, a, ih))

module _ {Own Item Offer : Type 0} where
  ones : (d : NetworkEvent Own Item Offer) (us : List ℕ) → sum_by (λ u. length (event_of u d)) us ≡ length (filter (λ u. u == d.router) us)
  ones d [] = refl
  ones d (u ∷ us) = at (u == d.router) refl (ones d us)
    where
      at : (b : Bool) → (u == d.router) ≡ b → sum_by (λ w. length (event_of w d)) us ≡ length (filter (λ w. w == d.router) us) → sum_by (λ u. length (event_of u d)) (u ∷ us) ≡ length (filter (λ u. u == d.router) (u ∷ us))
      at true is ih =
          let back : (d.router == u) ≡ true = grind (arith, nat_tests, is) in
          let one : length (event_of u d) ≡ 1 = rw back refl in
          let a = sum_by-cons (λ u. length (event_of u d)) u us in
          let right : length (filter (λ u. u == d.router) (u ∷ us)) ≡ suc (length (filter (λ u. u == d.router) us)) = rw is refl in
          omega (arith, a, ih, one, right)
      at false is ih =
          let back : (d.router == u) ≡ false = grind (arith, nat_tests, is) in
          let one : length (event_of u d) ≡ 0 = rw back refl in
          let a = sum_by-cons (λ u. length (event_of u d)) u us in
          let right : length (filter (λ u. u == d.router) (u ∷ us)) ≡ length (filter (λ u. u == d.router) us) = rw is refl in
          omega (arith, a, ih, one, right)

  abbrev Once : List ℕ → NetworkEvent Own Item Offer → Type 0
  Once us d = length (filter (λ u. u == d.router) us) ≡ 1

  -- an order is as long as its routers' own events
  by_routers : (us : List ℕ) (ds : Order Own Item Offer) → Each (Once us) ds → length ds ≡ sum_by (λ u. length (events_of u ds)) us
  by_routers us [] h = sym (sum_none us)
  by_routers us (d ∷ ds) h =
      let ih = by_routers us ds h.1 in
      let split = sum_same (λ u. length (event_of u d ++ events_of u ds)) (λ u. length (event_of u d) + length (events_of u ds)) us (λ u. length-append (event_of u d) (events_of u ds)) in
      let both = sum_both (λ u. length (event_of u d)) (λ u. length (events_of u ds)) us in
      let one = ones d us in
      let is = h.0 in
      omega (arith, ih, split, both, one, is)

  selected_each : (P : NetworkEvent Own Item Offer → Type 0) (test : ℕ → Journal Own Item Offer → Event Own Item Offer → Bool) (before ds : Order Own Item Offer) → Each P ds → Each P (selected test before ds)
  selected_each P test before [] h = tt
  selected_each P test before (d ∷ ds) h = at (test d.router (events_of d.router before) d.event) (selected_each P test (before ++ d ∷ []) ds h.1)
    where
      at : (b : Bool) → Each P (selected test (before ++ d ∷ []) ds) → Each P ((if b then d ∷ [] else []) ++ selected test (before ++ d ∷ []) ds)
      at true rest = (h.0, rest)
      at false rest = rest

apart_length : {A : Type 0} (xs ys zs : List A) → Interleaves xs ys zs → length xs + length ys ≡ length zs
apart_length xs ys [] h = rw (h.0, h.1) refl
apart_length xs ys (z ∷ zs) (inl h) =
    let ih = apart_length h.0 ys zs h.2 in
    let is = ap length h.1 in omega (arith, ih, is)
apart_length xs ys (z ∷ zs) (inr h) =
    let ih = apart_length xs h.0 zs h.2 in
    let is = ap length h.1 in omega (arith, ih, is)

module _ {Own Item Offer : Type 0} where
  pub parts_are_as_long : PartsAreAsLong Own Item Offer
  parts_are_as_long cut order us once =
      let first : Order Own Item Offer = first_part cut order in
      let whole = by_routers us first (selected_each (Once us) (comes_first cut order) [] order (each (Once us) order once)) in
      let own = sum_same (λ u. length (events_of u first)) (λ u. length (inside cut order u) + length (early cut order u)) us
      (λ u. ap length (own_firsts cut (needed cut order) u order) ∙ length-append (inside cut order u) (early cut order u)) in
      let both = sum_both (λ u. length (inside cut order u)) (λ u. length (early cut order u)) us in
      (whole ∙ (own ∙ both), apart_length first (second_part cut order) order (taken_apart (comes_first cut order) [] order))
