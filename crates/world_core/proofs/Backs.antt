-- Where the pipe stands that leads back.
use Rattle.std.proofs.Common.{◌≡◌, ℕ, zero, suc, ◌<◌, Bool, true, false, List, [], ◌∷◌, length, map, get_or, refl, ap, sym, ◌∙◌, arith, Some}
use Rattle.std.specs.Prelude.{nat_eq, slice_get, option_map, Option, None, MatchOption, IsSome, ◌||◌}
use Rattle.std.specs.List.{list_any}
use Rattle.std.proofs.lemmas.Bool.Decides.{nat_tests}
use Rattle.std.proofs.lemmas.Option.{slice_get-map}
use Rattle.ranked_policy.specs.declared.network.Link.{Link}
use Rattle.ranked_policy.specs.Plans.{Plan, numbers}
use Rattle.router_model.specs.Settings.{linked, peers}
use Rattle.world_core.proofs.Linking.{passes}

or_true : (b : Bool) → (b || true) ≡ true
or_true true = refl
or_true false = refl

found_by : (b : Bool) (l : Link) (ls : List Link) (u : ℕ) → nat_eq u l.other ≡ b → (b || list_any (nat_eq u) (map (λ l. l.other) ls)) ≡ true
    → ((k : ℕ) (m : Link) → slice_get (l ∷ ls) k ≡ Some m → m.other ≡ u → ⊥)
    → (list_any (nat_eq u) (map (λ l. l.other) ls) ≡ true → ((k : ℕ) (m : Link) → slice_get ls k ≡ Some m → m.other ≡ u → ⊥) → ⊥) → ⊥
found_by true l ls u e h none rest = none 0 l refl (grind (arith, nat_tests, e))
found_by false l ls u e h none rest = rest h (λ k m is same. none (suc k) m is same)

-- one of the links leads there
pub found : (ls : List Link) (u : ℕ) → list_any (nat_eq u) (map (λ l. l.other) ls) ≡ true → ((k : ℕ) (m : Link) → slice_get ls k ≡ Some m → m.other ≡ u → ⊥) → ⊥
found [] u h none = absurd cc
found (l ∷ ls) u h none = found_by (nat_eq u l.other) l ls u refl h none (found ls u)

pub at_place : (ls : List Link) (k u : ℕ) (l : Link) → slice_get ls k ≡ Some l → l.other ≡ u → slice_get (map (λ l. l.other) ls) k ≡ Some u
at_place ls k u l is same = slice_get-map (λ l. l.other) ls k ∙ ap (option_map (λ l. l.other)) is ∙ ap Some same

in_list : (ls : List Link) (i : ℕ) (d : Link) → i < length ls → list_any (nat_eq (get_or ls i d).other) (map (λ l. l.other) ls) ≡ true
in_list [] i d h = absurd (omega (arith, h))
in_list (l ∷ ls) zero d h = (let same : nat_eq l.other l.other ≡ true = grind (arith, nat_tests) in rw same refl)
in_list (l ∷ ls) (suc i) d h = rw (in_list ls i d (omega (arith, h))) (or_true (nat_eq (get_or ls i d).other l.other))

-- each of the links of a router leads to a peer
pub linked_at : (net : Plan) (u : ℕ) (ls : List Link) (i : ℕ) (d : Link) → map (λ l. l.other) ls ≡ peers net u → i < length ls → linked net u (get_or ls i d).other ≡ true
linked_at net u ls i d is inside = passes (linked net u) (get_or ls i d).other (numbers net.routers) (ap (list_any (nat_eq (get_or ls i d).other)) (sym is) ∙ in_list ls i d inside)

pub some_place : (r : Option ℕ) (ls : List Link) (u : ℕ) → MatchOption r ((k : ℕ) (m : Link) → slice_get ls k ≡ Some m → m.other ≡ u → ⊥) (λ k. (m : Link) × (slice_get ls k ≡ Some m) × (m.other ≡ u))
    → list_any (nat_eq u) (map (λ l. l.other) ls) ≡ true → IsSome r
some_place (Some k) ls u h any = refl
some_place None ls u h any = absurd (found ls u any h)
