-- A path that is a router and the way on from it, by its parts.
use Rattle.std.proofs.Common.{◌≡◌, ◌≢◌, ℕ, zero, suc, ◌<◌, false, List, [], ◌∷◌, ◌++◌, length, get_or, drop, refl, sym, ap, subst, ◌∙◌, arith, inl, inr}
use Rattle.std.specs.Prelude.{◌↔◌}
use Rattle.std.specs.List.{Contains}
use Rattle.std.proofs.lemmas.List.Elements.{Contains-get_or}
use Rattle.std.specs.Prelude.{◌==◌}
use Rattle.std.proofs.lemmas.Bool.{eq-eqb}
use Rattle.ranked_policy.proofs.Loops.{contains_any}
use Rattle.ranked_policy.specs.Paths.{IsSimple, EndsWith}
use Rattle.ranked_policy.specs.Orders.{IsShorter}
use Rattle.ranked_policy.specs.Laws.{Earlier, earlier_from_comes, comes_from_earlier}

ends_front : (front rest : List ℕ) (r v : ℕ) → (rest ≢ []) → r ∷ rest ≡ front ++ v ∷ [] → EndsWith rest v
ends_front [] rest r v some e = absurd (some (ap (λ (xs : List ℕ). drop 1 xs) e))
ends_front (y ∷ ys) rest r v some e = (ys, ap (λ (xs : List ℕ). drop 1 xs) e)

pub ends_more : (rest : List ℕ) (r v : ℕ) → (rest ≢ []) → EndsWith (r ∷ rest) v ↔ EndsWith rest v
ends_more rest r v some = (λ h. ends_front h.0 rest r v some h.1, λ h. (r ∷ h.0, ap (λ (xs : List ℕ). r ∷ xs) h.1))

earlier_tail : (r : ℕ) (a b : List ℕ) → Earlier (r ∷ a) (r ∷ b) → Earlier a b
earlier_tail r a b h = elim h [ inl l ↦ absurd (omega (arith, l)) | inr t ↦ t.1 ]

-- the router in front changes nothing
pub shorter_onward : (r : ℕ) (a b : List ℕ) → IsShorter a b ↔ IsShorter (r ∷ a) (r ∷ b)
shorter_onward r a b = (
  λ h. elim h [
    | inl l ↦ inl (omega (arith, l))
    | inr t ↦ inr (ap suc t.0, comes_from_earlier (r ∷ a) (r ∷ b) (inr (refl, earlier_from_comes a b t.1)))
  ],
  λ h. elim h [
    | inl l ↦ inl (omega (arith, l))
    | inr t ↦ inr (omega (arith, t.0), comes_from_earlier a b (earlier_tail r a b (earlier_from_comes (r ∷ a) (r ∷ b) t.1)))
  ],
)

simple_pair : (r : ℕ) (rest : List ℕ) → (Contains rest r → ⊥) → IsSimple rest → (i j d : ℕ) → i < j → j < suc (length rest) → get_or (r ∷ rest) i d ≡ get_or (r ∷ rest) j d → ⊥
simple_pair r rest out simple i zero d lt below e = omega (arith, lt)
simple_pair r rest out simple zero (suc j) d lt below e = out (subst (Contains rest) (sym e) (Contains-get_or rest j d (omega (arith, below))))
simple_pair r rest out simple (suc i) (suc j) d lt below e = simple i j d (omega (arith, lt)) (omega (arith, below)) e

pub simple_onward : (r : ℕ) (rest : List ℕ) → (Contains rest r → ⊥) → IsSimple rest ↔ IsSimple (r ∷ rest)
simple_onward r rest out = (λ simple i j d lt below e. simple_pair r rest out simple i j d lt below e, λ simple i j d lt below e. simple (suc i) (suc j) d (omega (arith, lt)) (omega (arith, below)) e)

pub not_simple : (r : ℕ) (rest : List ℕ) → Contains rest r → IsSimple (r ∷ rest) → ⊥
not_simple r rest c simple =
    let a = contains_any rest r c in
    simple 0 (suc a.0) a.1 (omega arith) (omega (arith, a.2)) (sym (a.3 ∙ a.4))

pub not_empty : (xs : List ℕ) → (length xs == 0) ≡ false → xs ≢ []
not_empty xs f e = let t = eq-eqb (length xs) 0 (ap length e) in absurd (let both = sym f ∙ t in cc)
