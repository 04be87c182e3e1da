-- The links of a router lead to its peers, in their order.
use Rattle.std.proofs.Common.{◌≡◌, ℕ, zero, suc, ◌<◌, ◌≤◌, Bool, true, false, List, [], ◌∷◌, length, get_or, filter, map, refl, sym, ap, subst, ◌∙◌, arith, inl, inr}
use Rattle.std.specs.Prelude.{◌↔◌, ◌==◌, ◌&&◌}
use Rattle.std.specs.List.{All, AllPairs, Any, Contains, list_any}
use Rattle.std.proofs.lemmas.Bool.{cases_Bool, cond-true, cond-false, or_cases, and_parts, and_from, or_left, or_right, eqb-true, eq-eqb}
use Rattle.std.proofs.lemmas.List.Elements.{All-contains, filter_passes}
use Rattle.std.proofs.lemmas.List.Folds.{Any-from_list_any, list_any-from_Any}
use Rattle.std.proofs.lemmas.List.Kept.{AllPairs-filter}
use Rattle.ranked_policy.specs.declared.network.Link.{Link}
use Rattle.ranked_policy.specs.Plans.{Plan, IsPlan, Joins, Linked, numbers}
use Rattle.ranked_policy.specs.Peers.{joins, linked, peers}
use Rattle.ranked_policy.specs.Ways.{HasWay}
use Rattle.ranked_policy.proofs.Rising.{pairs_tail, pairs_map}
use Rattle.ranked_policy.proofs.WayLemmas.{way_to}

-- ---- lists that rise

abbrev Rises : List ℕ → Type 0
Rises xs = AllPairs (λ a b. a < b) xs

least_at : (x : ℕ) (xs : List ℕ) → Rises (x ∷ xs) → (v k : ℕ) → k < length (x ∷ xs) → get_or (x ∷ xs) k v ≡ v → x ≤ v
least_at x xs rises v zero l e = (let at : x ≡ v = e in omega (arith, at))
least_at x xs rises v (suc k) l e =
    let up : x < get_or xs k v = rises 0 (suc k) v (omega arith) l in
    let at : get_or xs k v ≡ v = e in
    omega (arith, at, up)

least : (x : ℕ) (xs : List ℕ) → Rises (x ∷ xs) → (v : ℕ) → Contains (x ∷ xs) v → x ≤ v
least x xs rises v c = least_at x xs rises v c.0 c.1 c.2

behind : (x : ℕ) (xs : List ℕ) (v : ℕ) → Contains xs v → Contains (x ∷ xs) v
behind x xs v c = (suc c.0, (let l = c.1 in omega (arith, l)), c.2)

above : (x : ℕ) (xs : List ℕ) → Rises (x ∷ xs) → (v : ℕ) → Contains xs v → x < v
above x xs rises v c =
    let at : get_or xs c.0 v ≡ v = c.2 in
    let up : x < get_or xs c.0 v = rises 0 (suc c.0) v (omega arith) (let l = c.1 in omega (arith, l)) in
    omega (arith, at, up)

rest_at : (x : ℕ) (xs : List ℕ) (v k : ℕ) → x < v → k < length (x ∷ xs) → get_or (x ∷ xs) k v ≡ v → Contains xs v
rest_at x xs v zero up l e = (let at : x ≡ v = e in absurd (omega (arith, up, at)))
rest_at x xs v (suc k) up l e = (k, omega (arith, l), e)

rest : (x : ℕ) (xs : List ℕ) (v : ℕ) → x < v → Contains (x ∷ xs) v → Contains xs v
rest x xs v up c = rest_at x xs v c.0 up c.1 c.2

-- two that have the same members are one
same_numbers : (xs ys : List ℕ) → Rises xs → Rises ys → ((v : ℕ) → Contains xs v → Contains ys v) → ((v : ℕ) → Contains ys v → Contains xs v) → xs ≡ ys
same_numbers [] [] r s f b = refl
same_numbers [] (y ∷ ys) r s f b = (let none = (b y (0, omega arith, refl)).1 in absurd (omega (arith, none)))
same_numbers (x ∷ xs) [] r s f b = (let none = (f x (0, omega arith, refl)).1 in absurd (omega (arith, none)))
same_numbers (x ∷ xs) (y ∷ ys) r s f b =
    let down = least y ys s x (f x (0, omega arith, refl)) in
    let up = least x xs r y (b y (0, omega arith, refl)) in
    let e : x ≡ y = omega (arith, down, up) in
    let forth : (v : ℕ) → Contains xs v → Contains ys v = λ v c. rest y ys v (let a = above x xs r v c in omega (arith, a, e)) (f v (behind x xs v c)) in
    let back : (v : ℕ) → Contains ys v → Contains xs v = λ v c. rest x xs v (let a = above y ys s v c in omega (arith, a, e)) (b v (behind y ys v c)) in
    ap (λ (z : ℕ). z ∷ xs) e ∙ ap (λ (zs : List ℕ). y ∷ zs) (same_numbers xs ys (pairs_tail (λ a b. a < b) x xs r) (pairs_tail (λ a b. a < b) y ys s) forth back)

-- ---- those that pass a test

kept_at : (p : ℕ → Bool) (x v : ℕ) (xs : List ℕ) (k : ℕ) → p v ≡ true → k < length (x ∷ xs) → get_or (x ∷ xs) k v ≡ v → (Contains xs v → Contains (filter p xs) v) → Contains (filter p (x ∷ xs)) v
kept_at p x v xs zero passes l e more =
    subst (λ (zs : List ℕ). Contains zs v) (sym (cond-true (p x) (x ∷ filter p xs) (filter p xs) (ap p e ∙ passes))) (0, omega arith, e)
kept_at p x v xs (suc k) passes l e more = let c = more (k, omega (arith, l), e) in elim (cases_Bool (p x)) [
  | inl t ↦ subst (λ (zs : List ℕ). Contains zs v) (sym (cond-true (p x) (x ∷ filter p xs) (filter p xs) t)) (behind x (filter p xs) v c)
  | inr n ↦ subst (λ (zs : List ℕ). Contains zs v) (sym (cond-false (p x) (x ∷ filter p xs) (filter p xs) n)) c
]

kept : (p : ℕ → Bool) (v : ℕ) (xs : List ℕ) → p v ≡ true → Contains xs v → Contains (filter p xs) v
kept p v [] passes c = (let l = c.1 in absurd (omega (arith, l)))
kept p v (x ∷ xs) passes c = kept_at p x v xs c.0 passes c.1 c.2 (kept p v xs passes)

-- ---- links

joins_of : (link : Link) (u v : ℕ) → joins u v link ≡ true → Joins link u v
joins_of link u v t = elim (or_cases ((link.one == u) && (link.other == v)) ((link.one == v) && (link.other == u)) t) [
  | inl h ↦ let both = and_parts (link.one == u) (link.other == v) h in inl (eqb-true link.one u both.0, eqb-true link.other v both.1)
  | inr h ↦ let both = and_parts (link.one == v) (link.other == u) h in inr (eqb-true link.one v both.0, eqb-true link.other u both.1)
]

of_joins : (link : Link) (u v : ℕ) → Joins link u v → joins u v link ≡ true
of_joins link u v h = elim h [
  | inl j ↦ or_left ((link.one == u) && (link.other == v)) ((link.one == v) && (link.other == u)) (and_from (link.one == u) (link.other == v) (eq-eqb link.one u j.0) (eq-eqb link.other v j.1))
  | inr j ↦ or_right ((link.one == u) && (link.other == v)) ((link.one == v) && (link.other == u)) (and_from (link.one == v) (link.other == u) (eq-eqb link.one v j.0) (eq-eqb link.other u j.1))
]

linked_of : (net : Plan) (u v : ℕ) → linked net u v ≡ true → Linked net.links u v
linked_of net u v t = let a = Any-from_list_any (joins u v) net.links t in (a.0, a.1, a.2, a.3, joins_of a.1 u v a.4)

of_linked : (net : Plan) (u v : ℕ) → Linked net.links u v → linked net u v ≡ true
of_linked net u v h = list_any-from_Any (joins u v) net.links (h.0, h.1, h.2, h.3, of_joins h.1 u v h.4)

-- a link leads to a router
known : (net : Plan) (u v : ℕ) → IsPlan net → Linked net.links u v → Contains (numbers net.routers) v
known net u v is h = let ends = is.links.known h.0 h.1 h.2 in elim h.4 [
  | inl j ↦ subst (Contains (numbers net.routers)) (ap (λ (k : Link). k.other) h.3 ∙ j.1) ends.1
  | inr j ↦ subst (Contains (numbers net.routers)) (ap (λ (k : Link). k.one) h.3 ∙ j.0) ends.0
]

-- ---- the peers

pub peer_linked : (net : Plan) (u v : ℕ) → Contains (peers net u) v → Linked net.links u v
peer_linked net u v c = linked_of net u v (All-contains (λ x. linked net u x ≡ true) (peers net u) v (filter_passes (linked net u) (numbers net.routers)) c)

pub linked_peer : (net : Plan) (u v : ℕ) → IsPlan net → Linked net.links u v → Contains (peers net u) v
linked_peer net u v is h = kept (linked net u) v (numbers net.routers) (of_linked net u v h) (known net u v is h)

-- links from a router, by rising peer, to each router that it is linked with
pub links_to_peers : (net : Plan) (u : ℕ) (links : List Link) → IsPlan net → All (λ link. link.one ≡ u) links → AllPairs (λ link later. link.other < later.other) links
    → ((v : ℕ) → (HasWay links u v ↔ Linked net.links u v)) → map (λ link. link.other) links ≡ peers net u
links_to_peers net u links is from rising exact =
    same_numbers (map (λ link. link.other) links) (peers net u) (pairs_map (λ link. link.other) (λ a b. a < b) links rising)
    (AllPairs-filter (λ a b. a < b) (linked net u) (numbers net.routers) is.rising)
    (λ v c. linked_peer net u v is ((exact v).0 ((way_to links u v from).0 c)))
    (λ v c. (way_to links u v from).1 ((exact v).1 (peer_linked net u v c)))
