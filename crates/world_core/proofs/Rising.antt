-- Two rising lists of the same numbers are one; so the members of a collector are the routers of its network with their peers.
use Rattle.std.proofs.Common.{◌≡◌, ℕ, suc, ◌<◌, nat_eq, Bool, true, false, List, [], ◌∷◌, map, refl, ap, sym, subst, ◌∙◌, arith}
use Rattle.std.specs.Prelude.{◌||◌}
use Rattle.std.specs.List.{All, AllPairs, AllByRecursion, Contains, list_any}
use Rattle.std.proofs.lemmas.Bool.Decides.{nat_tests}
use Rattle.std.proofs.lemmas.List.Elements.{recursion_from_All}
use Rattle.std.proofs.lemmas.List.Folds.{Any-from_list_any, list_any-from_Any}
use Rattle.std.proofs.lemmas.List.Kept.{AllPairs-filter}
use Rattle.ranked_policy.specs.Plans.{Plan, IsNetwork, numbers}
use Rattle.router_model.specs.Settings.{linked, peers}
use Rattle.router_model.specs.Laws.{LinkedRoutersArePeers}
use Rattle.snap_collector.specs.declared.members.Member.{Member}
use Rattle.snap_collector.specs.Verdicts.{Member as MemberOf}
use Rattle.snap_collector.specs.Collecting.{member_of}
use Rattle.snap_collector.specs.Collector.{HasPeers}
use Rattle.world_core.specs.Verdicts.{MembersAreTheRouters}
use Rattle.world_core.proofs.Linking.{decides_linked, passes}

abbrev Rises : List ℕ → Type 0
Rises [] = Unit {0}
Rises (x ∷ xs) = AllByRecursion (λ y. x < y) xs × Rises xs

abbrev IsIn : ℕ → List ℕ → Type 0
IsIn v xs = list_any (nat_eq v) xs ≡ true

pairs_head : (x : ℕ) (xs : List ℕ) → AllPairs (λ a b. a < b) (x ∷ xs) → All (λ y. x < y) xs
pairs_head x xs pairs k d l = pairs 0 (suc k) d (omega arith) (omega (arith, l))

pairs_tail : (x : ℕ) (xs : List ℕ) → AllPairs (λ a b. a < b) (x ∷ xs) → AllPairs (λ a b. a < b) xs
pairs_tail x xs pairs i j d l m = pairs (suc i) (suc j) d (omega (arith, l)) (omega (arith, m))

rises : (xs : List ℕ) → AllPairs (λ a b. a < b) xs → Rises xs
rises [] pairs = tt
rises (x ∷ xs) pairs = (recursion_from_All (λ y. x < y) xs (pairs_head x xs pairs), rises xs (pairs_tail x xs pairs))

above_at : (x w y : ℕ) (xs : List ℕ) (b : Bool) → nat_eq w y ≡ b → (b || list_any (nat_eq w) xs) ≡ true → x < y → (IsIn w xs → x < w) → x < w
above_at x w y xs true e h l f = (let same : w ≡ y = grind (arith, nat_tests, e) in omega (arith, same, l))
above_at x w y xs false e h l f = f h

above : (x w : ℕ) (xs : List ℕ) → AllByRecursion (λ y. x < y) xs → IsIn w xs → x < w
above x w [] a h = absurd cc
above x w (y ∷ ys) a h = above_at x w y ys (nat_eq w y) refl h a.0 (above x w ys a.1)

in_head : (x : ℕ) (xs : List ℕ) → IsIn x (x ∷ xs)
in_head x xs = (let same : nat_eq x x ≡ true = grind (arith, nat_tests) in ap (λ (b : Bool). b || list_any (nat_eq x) xs) same)

or_behind : (b c : Bool) → c ≡ true → (b || c) ≡ true
or_behind true c h = refl
or_behind false c h = h

heads_at : (x y : ℕ) (xs ys : List ℕ) (b c : Bool) → nat_eq x y ≡ b → nat_eq y x ≡ c → AllByRecursion (λ w. x < w) xs → AllByRecursion (λ w. y < w) ys
    → (b || list_any (nat_eq x) ys) ≡ true → (c || list_any (nat_eq y) xs) ≡ true → x ≡ y
heads_at x y xs ys true c e f a d m n = grind (arith, nat_tests, e)
heads_at x y xs ys false true e f a d m n = grind (arith, nat_tests, f)
heads_at x y xs ys false false e f a d m n =
    let p = above y x ys d m in
    let q = above x y xs a n in
    absurd (omega (arith, p, q))

behind_at : (x v : ℕ) (ys : List ℕ) (b : Bool) → nat_eq v x ≡ b → (b || list_any (nat_eq v) ys) ≡ true → x < v → IsIn v ys
behind_at x v ys true e m l = (let same : v ≡ x = grind (arith, nat_tests, e) in absurd (omega (arith, same, l)))
behind_at x v ys false e m l = m

behind : (x v : ℕ) (xs ys : List ℕ) → AllByRecursion (λ w. x < w) xs → (IsIn v (x ∷ xs) → IsIn v (x ∷ ys)) → IsIn v xs → IsIn v ys
behind x v xs ys a f m = behind_at x v ys (nat_eq v x) refl (f (or_behind (nat_eq v x) (list_any (nat_eq v) xs) m)) (above x v xs a m)

same_numbers : (xs ys : List ℕ) → Rises xs → Rises ys → ((v : ℕ) → IsIn v xs → IsIn v ys) → ((v : ℕ) → IsIn v ys → IsIn v xs) → xs ≡ ys
same_numbers [] [] r s f b = refl
same_numbers [] (y ∷ ys) r s f b = (let none = b y (in_head y ys) in absurd cc)
same_numbers (x ∷ xs) [] r s f b = (let none = f x (in_head x xs) in absurd cc)
same_numbers (x ∷ xs) (y ∷ ys) r s f b =
    let e = heads_at x y xs ys (nat_eq x y) (nat_eq y x) refl refl r.0 s.0 (f x (in_head x xs)) (b y (in_head y ys)) in
    let t = subst (λ z. AllByRecursion (λ w. z < w) ys) (sym e) s.0 in
    let g = λ (v : ℕ) (i : IsIn v (x ∷ xs)). subst (λ z. IsIn v (z ∷ ys)) (sym e) (f v i) in
    let h = λ (v : ℕ) (i : IsIn v (x ∷ ys)). b v (subst (λ z. IsIn v (z ∷ ys)) e i) in
    ap (λ (z : ℕ). z ∷ xs) e ∙ ap (λ (zs : List ℕ). y ∷ zs) (same_numbers xs ys r.1 s.1 (λ v. behind x v xs ys r.0 (g v)) (λ v. behind x v ys xs t (h v)))

-- ---- members

contains_is : (v : ℕ) (xs : List ℕ) → Contains xs v → IsIn v xs
contains_is v xs at = list_any-from_Any (nat_eq v) xs (at.0, v, at.1, at.2, grind (arith, nat_tests))

is_contained : (v : ℕ) (xs : List ℕ) → IsIn v xs → Contains xs v
is_contained v xs i =
    let found = Any-from_list_any (nat_eq v) xs i in
    let same : found.1 ≡ v = (let e = found.4 in grind (arith, nat_tests, e)) in
    subst (Contains xs) same (found.0, found.2, found.3)

module _ (law : LinkedRoutersArePeers) (net : Plan) (is : IsNetwork net) where
  has_peers : (m : Member) → HasPeers net m → m.peers ≡ peers net m.router
  has_peers m has =
      same_numbers m.peers (peers net m.router) (rises m.peers has.0)
      (rises (peers net m.router) (AllPairs-filter (λ a b. a < b) (linked net m.router) (numbers net.routers) is.plan.rising))
      (λ v i. (law net is m.router v ((decides_linked net m.router v).1 ((has.1 v).0 (is_contained v m.peers i)))).peer)
      (λ v i. contains_is v m.peers ((has.1 v).1 ((decides_linked net m.router v).0 (passes (linked net m.router) v (numbers net.routers) i))))

  all_have : (ms : List Member) → AllByRecursion (HasPeers net) ms → map member_of ms ≡ map (λ u. record { router = u; peers = peers net u }) (map (λ m. m.router) ms)
  all_have [] h = refl
  all_have (m ∷ ms) h =
      ap (λ (ps : List ℕ). record { router = m.router; peers = ps } ∷ map member_of ms) (has_peers m h.0)
      ∙ ap (λ (rest : List MemberOf). record { router = m.router; peers = peers net m.router } ∷ rest) (all_have ms h.1)

pub members_are_the_routers : LinkedRoutersArePeers → MembersAreTheRouters
members_are_the_routers law net is ms are =
    all_have law net is ms (recursion_from_All (HasPeers net) ms are.peers) ∙ ap (map (λ u. record { router = u; peers = peers net u })) are.routers
