-- Offers whose routers lead each to its own place: no two of them are of one router.
use Rattle.std.proofs.Common.{inl, inr, ℕ, zero, suc, ◌≡◌, ◌<◌, ◌+◌, ◌==◌, arith, Bool, true, false, ◌&&◌, ◌||◌, List, [], ◌∷◌, get_or, length, refl, ap, sym, ◌∙◌, subst}
use Rattle.std.specs.Prelude.{set}
use mathlib.Core.Logic.{◌⊎◌}
use Rattle.std.proofs.lemmas.Bool.{cases_order, eq-eqb, ne_eqb, false≢true, true≢false}
use Rattle.std.proofs.lemmas.List.{get_or_default, get_or-set_same, get_or-set_other}
use Rattle.snap_marker.specs.declared.part.Offer.{Offer}
use Rattle.snap_marker.specs.declared.part.Offer.TheVariants as offer
use Rattle.snap_marker.specs.declared.part.Part.{Part}
use Rattle.snap_marker.specs.Parts.{part_of, offer_of, router_of}
use Rattle.snap_marker.specs.Recordings.{RouterPart}
use Rattle.snap_collector.specs.Collecting.{made_in}
use Rattle.snap_collector.specs.Places.{slot_of, place_of}
use Rattle.snap_collector.specs.Verdicts.{has_part, of_part}

-- as they lead from the place k on
abbrev LeadFrom : (ℕ → ℕ) → List Offer → ℕ → Type 0
LeadFrom g os k = (j : ℕ) (o : Offer) → j < length os → o ≡ get_or os j o → g (router_of o) ≡ k + j

behind_first : (g : ℕ → ℕ) (x : Offer) (os : List Offer) (k : ℕ) → LeadFrom g (x ∷ os) k → LeadFrom g os (suc k)
behind_first g x os k led j o l is = let h = led (suc j) o (omega (arith, l)) is in omega (arith, h)

apart : (g : ℕ → ℕ) (u v m n : ℕ) → g u ≡ m → g v ≡ n → m < n → (u == v) ≡ false
apart g u v m n a b l = ne_eqb u v (λ e. let same = ap g e in omega (arith, a, b, l, same))

neither : (b c d : Bool) → b ≡ false → d ≡ false → ((b && c) || d) ≡ false
neither true c d e h = absurd (true≢false e)
neither false c d e h = h

second : (b c d e : Bool) → b ≡ false → d ≡ e → ((b && c) || d) ≡ e
second true c d e h i = absurd (true≢false h)
second false c d e h i = i

first : (b c d : Bool) → b ≡ true → d ≡ false → ((b && c) || d) ≡ c
first true true d e h = refl
first true false d e h = h
first false c d e h = absurd (false≢true e)

-- none of these is of a router that leads to an earlier place
none_behind : (g : ℕ → ℕ) (os : List Offer) (k u : ℕ) (holds : RouterPart → Bool) → LeadFrom g os k → g u < k → has_part (made_in os) u holds ≡ false
none_behind g [] k u holds led l = refl
none_behind g (x ∷ os) k u holds led l =
    let here = led 0 x (omega arith) refl in
    let other = apart g u (router_of x) (g u) k refl (omega (arith, here)) l in
    neither (u == router_of x) (of_part holds (offer_of x)) (has_part (made_in os) u holds) other
    (none_behind g os (suc k) u holds (behind_first g x os k led) (omega (arith, l)))

found_from : (g : ℕ → ℕ) (os : List Offer) (k at u : ℕ) (p : Part) (holds : RouterPart → Bool) → LeadFrom g os k → at < length os → offer.Part p ≡ get_or os at (offer.Part p) → u ≡ p.router
    → has_part (made_in os) u holds ≡ holds (part_of p)
found_from g [] k at u p holds led l is e = absurd (omega (arith, l))
found_from g (x ∷ os) k zero u p holds led l is e =
    let here = led 0 (offer.Part p) l is in
    let same = ap g e in
    ap (λ (o : Offer). has_part (made_in (o ∷ os)) u holds) (sym is)
    ∙ first (u == p.router) (holds (part_of p)) (has_part (made_in os) u holds) (eq-eqb u p.router e)
    (none_behind g os (suc k) u holds (behind_first g x os k led) (omega (arith, here, same)))
found_from g (x ∷ os) k (suc at) u p holds led l is e =
    let here = led 0 x (omega arith) refl in
    let there = led (suc at) (offer.Part p) l is in
    let same = ap g e in
    let other = ne_eqb u (router_of x) (λ (i : u ≡ router_of x). let first = ap g i in omega (arith, here, there, same, first)) in
    second (u == router_of x) (of_part holds (offer_of x)) (has_part (made_in os) u holds) (holds (part_of p)) other
    (found_from g os (suc k) at u p holds (behind_first g x os k led) (omega (arith, l)) is e)

-- a part of a router is its only one
pub only : (g : ℕ → ℕ) (os : List Offer) (at u : ℕ) (p : Part) (holds : RouterPart → Bool) → ((j : ℕ) (o : Offer) → j < length os → o ≡ get_or os j o → g (router_of o) ≡ j) → at < length os
    → offer.Part p ≡ get_or os at (offer.Part p) → u ≡ p.router → has_part (made_in os) u holds ≡ holds (part_of p)
only g os at u p holds led l is e = found_from g os 0 at u p holds (λ j o k same. let h = led j o k same in omega (arith, h)) l is e

-- an offer more, which nothing has led to
pub one_more : (routers places : List ℕ) (os : List Offer) (place slot : ℕ) (x : Offer) → ((j : ℕ) (o : Offer) → j < place → o ≡ get_or os j o → place_of routers places (router_of o) ≡ j)
    → slot ≡ slot_of routers (router_of x) → slot < length places → get_or places slot 0 ≡ 255 → place < 255 → place < length os → x ≡ get_or os place x
    → (j : ℕ) (o : Offer) → j < place + 1 → o ≡ get_or os j o → place_of routers (set places slot place) (router_of o) ≡ j
one_more routers places os place slot x led at room none few inside is j o l o_is = by (cases_order j place)
  where
    by : (j ≡ place) ⊎ ((j < place) ⊎ (place < j)) → place_of routers (set places slot place) (router_of o) ≡ j
    by (inl e) =
        let there : o ≡ x = subst (λ n. o ≡ get_or os n o) e o_is ∙ get_or_default os place o x inside ∙ sym is in
        ap (λ (y : Offer). place_of routers (set places slot place) (router_of y)) there
        ∙ ap (λ n. get_or (set places slot place) n 0) (sym at)
        ∙ get_or-set_same places slot place 0 room ∙ sym e
    by (inr (inl b)) =
        let old = led j o b o_is in
        get_or-set_other places slot (slot_of routers (router_of o)) place 0 (λ (e : slot_of routers (router_of o) ≡ slot). let same = ap (λ n. get_or places n 0) e in omega (arith, old, same, none, few, b)) ∙ old
    by (inr (inr b)) = absurd (omega (arith, b, l))
