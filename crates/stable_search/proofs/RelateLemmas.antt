-- Sets of values that fit, and the ways over links.
use Rattle.std.proofs.Common.{◌≡◌, ℕ, zero, suc, ◌<◌, ◌≤◌, ◌+◌, ◌*◌, ◌%◌, ◌^◌, List, [], ◌∷◌, ◌++◌, length, refl, sym, ap, subst, ◌∙◌, arith, inl, inr}
use Rattle.std.specs.Prelude.{◌↔◌}
use Rattle.std.specs.List.{All}
use Rattle.std.specs.Int.{bit_at, w64}
use Rattle.std.specs.Int.RustNames.{bit_or}
use Rattle.std.proofs.lemmas.Bool.{cases_order}
use Rattle.std.proofs.lemmas.List.{length-append, get_or_append_left}
use Rattle.std.proofs.lemmas.List.Elements.{All-push}
use Rattle.std.proofs.lemmas.List.Quantifiers.{Any-push}
use Rattle.std.proofs.lemmas.Nat.Bits.{bit_at_set_same, bit_at_set_other}
use Rattle.ranked_policy.specs.declared.network.Link.{Link}
use Rattle.ranked_policy.specs.Plans.{Linked}
use Rattle.stable_search.specs.declared.seat.Seat.{Seat}
use Rattle.stable_search.specs.declared.way.Way.{Way}
use Rattle.stable_search.specs.Picks.{Has}
use Rattle.stable_search.specs.Seats.{StandsAt, IsWayOf, IsEndOf, HasWay, HasWaysFrom}

-- ---- bits below a place

pub record Says (Q : ℕ → Type 0) (n fits : ℕ) : Type 0 where
  pub exact : (b : ℕ) → b < n → (Has fits b ↔ Q b)
  pub above : (b : ℕ) → n ≤ b → bit_at fits b ≡ 0

module _ (Q : ℕ → Type 0) (n fits new : ℕ) where
  pub says_yes : n < 64 → new ≡ bit_or fits (1 * 2 ^ n % 18446744073709551616) → Q n → Says Q n fits → Says Q (n + 1) new
  says_yes low e q says = record {
    exact = λ b lt. elim (cases_order b n) [
      | inl same ↦ (
        (λ h. subst Q (sym same) q),
        (λ h. subst (λ (k : ℕ). Has new k) (sym same) (ap (λ (m : ℕ). bit_at m n) e ∙ bit_at_set_same w64 fits n low)),
      )
      | inr differ ↦
          let under : b < n = elim differ [ inl l ↦ l | inr m ↦ absurd (omega (arith, lt, m)) ] in
          let keeps : bit_at new b ≡ bit_at fits b = ap (λ (m : ℕ). bit_at m b) e ∙ bit_at_set_other w64 fits n low b (λ s. omega (arith, under, s)) in
          ((λ h. (says.exact b under).0 (sym keeps ∙ h)), (λ h. keeps ∙ (says.exact b under).1 h))
    ];
    above = λ b le. ap (λ (m : ℕ). bit_at m b) e ∙ bit_at_set_other w64 fits n low b (λ s. omega (arith, le, s)) ∙ says.above b (omega (arith, le));
  }

  pub says_no : new ≡ fits → (Q n → ⊥) → Says Q n fits → Says Q (n + 1) new
  says_no e not says = record {
    exact = λ b lt. elim (cases_order b n) [
      | inl same ↦ (
        (λ h. (let z = ap (λ (m : ℕ). bit_at m b) (sym e) ∙ h in let y = says.above b (omega (arith, same)) in absurd (omega (arith, z, y)))),
        (λ h. absurd (not (subst Q same h))),
      )
      | inr differ ↦
          let under : b < n = elim differ [ inl l ↦ l | inr m ↦ absurd (omega (arith, lt, m)) ] in
          let keeps : bit_at new b ≡ bit_at fits b = ap (λ (m : ℕ). bit_at m b) e in
          ((λ h. (says.exact b under).0 (sym keeps ∙ h)), (λ h. keeps ∙ (says.exact b under).1 h))
    ];
    above = λ b le. ap (λ (m : ℕ). bit_at m b) e ∙ says.above b (omega (arith, le));
  }

-- ---- ways

pub has_more : (ways new : List Way) (way : Way) → new ≡ ways ++ way ∷ [] → (from to : ℕ) → HasWay ways from to → HasWay new from to
has_more ways new way e from to h =
    let size = length-append ways (way ∷ []) in
    subst (λ (xs : List Way). HasWay xs from to) (sym e) (h.0, h.1, omega (arith, size, h.2), get_or_append_left ways (way ∷ []) h.1 h.0 h.2 ∙ h.3, h.4)

pub has_last : (ways new : List Way) (way : Way) → new ≡ ways ++ way ∷ [] → HasWay new way.from way.to
has_last ways new way e = subst (λ (xs : List Way). HasWay xs way.from way.to) (sym e) (Any-push (λ (w : Way). (w.from ≡ way.from) × (w.to ≡ way.to)) ways way (refl, refl))

module _ (links : List Link) (seats : List Seat) (from : ℕ) where
  -- over each link to a place below there is a way
  abbrev pub HasWaysBelow : List Way → ℕ → Type 0
  HasWaysBelow ways n = (to : ℕ) (one other : Seat) → to < n → StandsAt seats from one → StandsAt seats to other → Linked links one.router other.router → HasWay ways from to

  pub below_more : (ways new : List Way) (n : ℕ) → HasWaysBelow ways n → ((one other : ℕ) → HasWay ways one other → HasWay new one other)
      → ((one other : Seat) → StandsAt seats from one → StandsAt seats n other → Linked links one.router other.router → HasWay new from n) → HasWaysBelow new (n + 1)
  below_more ways new n below kept here to one other lt at to_at linked = elim (cases_order to n) [
    | inl same ↦ subst (HasWay new from) (sym same) (here one other at (subst (λ (k : ℕ). StandsAt seats k other) same to_at) linked)
    | inr differ ↦ kept from to (below to one other (elim differ [ inl l ↦ l | inr m ↦ absurd (omega (arith, lt, m)) ]) at to_at linked)
  ]

  pub below_all : (ways : List Way) (n : ℕ) → length seats ≤ n → HasWaysBelow ways n → HasWaysFrom links seats ways from
  below_all ways n le below to one other at to_at linked = below to one other (omega (arith, le, to_at.0)) at to_at linked

pub from_more : (links : List Link) (seats : List Seat) (ways new : List Way) (n : ℕ) → ((from : ℕ) → from < n → HasWaysFrom links seats ways from) → ((one other : ℕ) → HasWay ways one other → HasWay new one other)
    → HasWaysFrom links seats new n → (from : ℕ) → from < n + 1 → HasWaysFrom links seats new from
from_more links seats ways new n all kept here from lt to one other at to_at linked = elim (cases_order from n) [
  | inl same ↦ subst (λ (k : ℕ). HasWay new k to) (sym same) (here to one other (subst (λ (k : ℕ). StandsAt seats k one) same at) to_at linked)
  | inr differ ↦ kept from to (all from (elim differ [ inl l ↦ l | inr m ↦ absurd (omega (arith, lt, m)) ]) to one other at to_at linked)
]

pub each_more : (links : List Link) (seats : List Seat) (ways new : List Way) (way : Way) → new ≡ ways ++ way ∷ [] → All (IsWayOf links seats) ways → IsWayOf links seats way → All (IsWayOf links seats) new
each_more links seats ways new way e all is = subst (All (IsWayOf links seats)) (sym e) (All-push (IsWayOf links seats) ways way all is)

pub each_end_more : (links : List Link) (seats : List Seat) (ways new : List Way) (way : Way) → new ≡ ways ++ way ∷ [] → All (IsEndOf links seats) ways → IsEndOf links seats way → All (IsEndOf links seats) new
each_end_more links seats ways new way e all is = subst (All (IsEndOf links seats)) (sym e) (All-push (IsEndOf links seats) ways way all is)

-- two seats at one place are one
pub same_seat : (seats : List Seat) (i : ℕ) (a b : Seat) → StandsAt seats i a → StandsAt seats i b → a ≡ b
same_seat [] i a b x y = absurd (omega (arith, x.0))
same_seat (s ∷ ss) zero a b x y = sym x.1 ∙ y.1
same_seat (s ∷ ss) (suc i) a b x y = same_seat ss i a b (omega (arith, x.0), x.1) (omega (arith, y.0), y.1)
