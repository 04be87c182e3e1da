-- What a binary search finds among routers by rising number, and among origins by rising prefix.
use Rattle.std.proofs.Common.{◌≡◌, ℕ, ◌+◌, ◌-◌, [], ◌<◌, ◌≤◌, List, length, get_or, take, drop, Result, Ok, Err, Some, map, refl, sym, ap, subst, ◌∙◌, arith, inl, inr}
use Rattle.std.specs.Prelude.{IfOk, IfErr}
use Rattle.std.specs.List.{All, AllPairs, Any, HoldsAt, slice_get}
use Rattle.std.specs.Option.{option_map}
use Rattle.std.specs.List.Sorted.{IsSearchInRange, IsBinarySearchResult, IsNonDecreasingBy}
use Rattle.std.specs.declared.cmp.Ordering.{Ordering}
use Rattle.std.specs.declared.cmp.Ordering.TheVariants.{Less, Equal, Greater}
use Rattle.std.specs.Ordering.{MatchOrdering, nat_cmp, ordering_index, ordering_then}
use Rattle.std.proofs.lemmas.Cmp.{ranked}
use Rattle.std.proofs.lemmas.Option.{slice_get-get_or, slice_get-map}
use Rattle.std.proofs.lemmas.Bool.{cases_order, cases_lt}
use Rattle.std.proofs.lemmas.List.{get_or-take, get_or-drop, get_or_default, length-drop, length-take-le}
use Rattle.prefix_lanes.specs.Bits.{PrefixView}
use Rattle.ranked_policy.specs.declared.network.NetRouter.{NetRouter}
use Rattle.ranked_policy.specs.declared.network.Origin.{Origin}
use Rattle.ranked_policy.specs.Orders.{compared}
use Rattle.ranked_policy.specs.Plans.{numbers, IsBefore, IsNamed, IsOrigin, IsRouter}
use Rattle.ranked_policy.proofs.Loops.{contains_map, map_contains}
use Rattle.ranked_policy.proofs.TableLemmas.{one_of, prefixes_differ}
use Rattle.ranked_policy.proofs.Rising.{pairs_unmap, before_trans, before_self}

-- what is said of an answer
pub record Place {X : Type 0} (P Q S : X → Type 0) (xs : List X) (r : Result ℕ ℕ) : Type 0 where
  pub found : IfOk r (λ i. (i < length xs) × HoldsAt Q xs i)
  pub bound : IfErr r (λ i. i ≤ length xs)
  pub before : IfErr r (λ i. All P (take i xs))
  pub behind : IfErr r (λ i. All S (drop i xs))

-- of a list whose items rise by R, where R takes an answer that is not Less no lower
module _ {X : Type 0} (ord : X → Ordering) (R : X → X → Type 0) (higher : (a b : X) → R a b → ordering_index (ord a) ≤ ordering_index (ord b)) where
  rises : (xs : List X) → AllPairs R xs → IsNonDecreasingBy (λ y. ordering_index (ord y)) xs
  rises xs pairs i j d le inside = elim (cases_order i j) [
    | inl same ↦ omega (arith, ap (λ k. ordering_index (ord (get_or xs k d))) same)
    | inr differ ↦ elim differ [
      | inl below ↦ higher (get_or xs i d) (get_or xs j d) (pairs i j d below inside)
      | inr above ↦ absurd (omega (arith, le, above))
    ]
  ]

  -- what the answers mean
  pub place : (P Q S : X → Type 0) → ((x : X) → ord x ≡ Less → P x) → ((x : X) → ord x ≡ Equal → Q x) → ((x : X) → ord x ≡ Greater → S x)
      → (xs : List X) (r : Result ℕ ℕ) → AllPairs R xs → IsSearchInRange r (length xs) → IsBinarySearchResult ord xs r → Place P Q S xs r
  place P Q S less equal greater xs (Ok i) pairs bound is = record {
    found = (bound, λ d. equal (get_or xs i d) (is d));
    bound = tt;
    before = tt;
    behind = tt;
  }
  place P Q S less equal greater xs (Err i) pairs bound is =
      let parted = is (rises xs pairs) in
      record {
        found = tt;
        bound = bound;
        before = λ k d l. (let below : k < i = omega (arith, l, length-take-le i xs bound) in subst P (sym (get_or-take i xs k d below)) (less (get_or xs k d) (parted.0 k d (omega arith) below)));
        behind = λ k d l. (let inside : i + k < length xs = omega (arith, l, length-drop i xs) in subst S (sym (get_or-drop i xs k d)) (greater (get_or xs (i + k) d) (parted.1 (i + k) d (omega arith) inside)));
      }

-- ---- numbers

index_higher : (x y u : ℕ) → x < y → ordering_index (nat_cmp x u) ≤ ordering_index (nat_cmp y u)
index_higher x y u l = at (nat_cmp x u) (nat_cmp y u) (ranked x u (nat_cmp x u) refl) (ranked y u (nat_cmp y u) refl)
  where
    at : (o p : Ordering) → MatchOrdering o (x < u) (x ≡ u) (u < x) → MatchOrdering p (y < u) (y ≡ u) (u < y) → ordering_index o ≤ ordering_index p
    at Less p a b = omega arith
    at Equal Less a b = absurd (omega (arith, l, a, b))
    at Equal Equal a b = omega arith
    at Equal Greater a b = omega arith
    at Greater Less a b = absurd (omega (arith, l, a, b))
    at Greater Equal a b = absurd (omega (arith, l, a, b))
    at Greater Greater a b = omega arith

by_number : (x u : ℕ) (o : Ordering) → nat_cmp x u ≡ o → MatchOrdering o (x < u) (x ≡ u) (u < x)
by_number x u o is = ranked x u o (sym is)

pub router_place : (routers : List NetRouter) (u : ℕ) (r : Result ℕ ℕ) → AllPairs (λ a b. a < b) (numbers routers) → IsSearchInRange r (length routers) → IsBinarySearchResult (λ x. nat_cmp x.asn u) routers r
    → Place (λ x. x.asn < u) (λ x. x.asn ≡ u) (λ x. u < x.asn) routers r
router_place routers u r rising bound is =
    place (λ x. nat_cmp x.asn u) (λ a b. a.asn < b.asn) (λ a b l. index_higher a.asn b.asn u l) (λ x. x.asn < u) (λ x. x.asn ≡ u) (λ x. u < x.asn)
    (λ x e. by_number x.asn u Less e) (λ x e. by_number x.asn u Equal e) (λ x e. by_number x.asn u Greater e)
    routers r (pairs_unmap (λ x. x.asn) (λ a b. a < b) routers rising) bound is

-- ---- prefixes

by_prefix_at : (p q : PrefixView) (a l : Ordering) → MatchOrdering a (p.addr < q.addr) (p.addr ≡ q.addr) (q.addr < p.addr) → MatchOrdering l (p.len < q.len) (p.len ≡ q.len) (q.len < p.len)
    → MatchOrdering (ordering_then a l) (IsBefore p q) (p ≡ q) (IsBefore q p)
by_prefix_at p q Less l m n = inl m
by_prefix_at p q Greater l m n = inl m
by_prefix_at p q Equal Less m n = inr (m, n)
by_prefix_at p q Equal Equal m n = λ i. record { addr = m i; len = n i }
by_prefix_at p q Equal Greater m n = inr (sym m, n)

pub by_prefix : (p q : PrefixView) (o : Ordering) → compared p q ≡ o → MatchOrdering o (IsBefore p q) (p ≡ q) (IsBefore q p)
by_prefix p q o is = subst (λ x. MatchOrdering x (IsBefore p q) (p ≡ q) (IsBefore q p)) is
    (by_prefix_at p q (nat_cmp p.addr q.addr) (nat_cmp p.len q.len) (ranked p.addr q.addr (nat_cmp p.addr q.addr) refl) (ranked p.len q.len (nat_cmp p.len q.len) refl))

pub prefix_higher : (p r q : PrefixView) → IsBefore p r → ordering_index (compared p q) ≤ ordering_index (compared r q)
prefix_higher p r q l = at (compared p q) (compared r q) (by_prefix p q (compared p q) refl) (by_prefix r q (compared r q) refl)
  where
    at : (o s : Ordering) → MatchOrdering o (IsBefore p q) (p ≡ q) (IsBefore q p) → MatchOrdering s (IsBefore r q) (r ≡ q) (IsBefore q r) → ordering_index o ≤ ordering_index s
    at Less s a b = omega arith
    at Equal Less a b = absurd (before_self q (before_trans q r q (subst (λ x. IsBefore x r) a l) b))
    at Equal Equal a b = omega arith
    at Equal Greater a b = omega arith
    at Greater Less a b = absurd (before_self q (before_trans q r q (before_trans q p r a l) b))
    at Greater Equal a b = absurd (before_self q (subst (IsBefore q) b (before_trans q p r a l)))
    at Greater Greater a b = omega arith

pub prefix_place : (origins : List Origin) (q : PrefixView) (r : Result ℕ ℕ) → AllPairs (λ a b. IsBefore a.prefix b.prefix) origins → IsSearchInRange r (length origins) → IsBinarySearchResult (λ x. compared x.prefix q) origins r
    → Place (λ x. IsBefore x.prefix q) (λ x. x.prefix ≡ q) (λ x. IsBefore q x.prefix) origins r
prefix_place origins q r rising bound is =
    place (λ x. compared x.prefix q) (λ a b. IsBefore a.prefix b.prefix) (λ a b l. prefix_higher a.prefix b.prefix q l) (λ x. IsBefore x.prefix q) (λ x. x.prefix ≡ q) (λ x. IsBefore q x.prefix)
    (λ x e. by_prefix x.prefix q Less e) (λ x e. by_prefix x.prefix q Equal e) (λ x e. by_prefix x.prefix q Greater e)
    origins r rising bound is

-- ---- whether it was found

module _ {X : Type 0} (P : X → Type 0) where
  -- an item at a place is one of the list
  pub any_at : (xs : List X) (i : ℕ) (d : X) → i < length xs → HoldsAt P xs i → Any P xs
  any_at xs i d l is = (i, get_or xs i d, l, get_or_default xs i (get_or xs i d) d l, is d)

  -- what holds of none before a place, and of none from there on, holds of none
  pub none_of_both : (xs : List X) (i : ℕ) → i ≤ length xs → All (λ x. P x → ⊥) (take i xs) → All (λ x. P x → ⊥) (drop i xs) → Any P xs → ⊥
  none_of_both xs i inside before behind a = elim (cases_lt a.0 i) [
    | inl below ↦
        before a.0 a.1 (omega (arith, below, length-take-le i xs inside))
        (subst P (sym (get_or-take i xs a.0 a.1 below ∙ a.3)) a.4)
    | inr above ↦
        let k : ℕ = a.0 - i in
        let place : i + k ≡ a.0 = omega (arith, above) in
        behind k a.1 (let l = a.2 in omega (arith, l, place, length-drop i xs))
        (subst P (sym (get_or-drop i xs k a.1 ∙ (ap (λ j. get_or xs j a.1) place ∙ a.3))) a.4)
  ]

pub router_found : (routers : List NetRouter) (u i : ℕ) → i < length routers → HoldsAt (λ r. r.asn ≡ u) routers i → IsRouter routers u
router_found routers u i l is = map_contains (λ r. r.asn) routers u (any_at (λ r. r.asn ≡ u) routers i (record { asn = 0; id = 0; rules = [] }) l is)

pub router_missing : (routers : List NetRouter) (u i : ℕ) → i ≤ length routers → All (λ r. r.asn < u) (take i routers) → All (λ r. u < r.asn) (drop i routers) → IsRouter routers u → ⊥
router_missing routers u i l before behind is =
    none_of_both (λ r. r.asn ≡ u) routers i l (λ k d m e. (let b = before k d m in omega (arith, b, e))) (λ k d m e. (let b = behind k d m in omega (arith, b, e))) (contains_map (λ r. r.asn) routers u is)

pub prefix_found : (origins : List Origin) (q : PrefixView) (i : ℕ) → i < length origins → HoldsAt (λ o. o.prefix ≡ q) origins i → IsNamed origins q
prefix_found origins q i l is = any_at (λ o. o.prefix ≡ q) origins i (record { prefix = q; router = 0 }) l is

pub prefix_missing : (origins : List Origin) (q : PrefixView) (i : ℕ) → i ≤ length origins → All (λ o. IsBefore o.prefix q) (take i origins) → All (λ o. IsBefore q o.prefix) (drop i origins) → IsNamed origins q → ⊥
prefix_missing origins q i l before behind is =
    none_of_both (λ o. o.prefix ≡ q) origins i l (λ k d m e. before_self q (subst (λ p. IsBefore p q) e (before k d m))) (λ k d m e. before_self q (subst (IsBefore q) e (behind k d m))) is

pub one_origin : (origins : List Origin) (q : PrefixView) (u v : ℕ) → AllPairs (λ a b. IsBefore a.prefix b.prefix) origins → IsOrigin origins u q → IsOrigin origins v q → u ≡ v
one_origin origins q u v rising a b =
    let same : a.1 ≡ b.1 = one_of (λ o. o.prefix) origins a.0 b.0 a.1 b.1 (prefixes_differ origins rising) a.2 b.2 a.3 b.3 (a.4.0 ∙ sym b.4.0) in
    sym a.4.1 ∙ (ap (λ o. o.router) same ∙ b.4.1)

-- what a list that is read by a function has at a place
pub read_at : {X Y : Type 0} (f : X → Y) (xs : List X) (i : ℕ) (d : X) (y : Y) → i < length xs → f (get_or xs i d) ≡ y → slice_get (map f xs) i ≡ Some y
read_at f xs i d y inside e = slice_get-map f xs i ∙ ap (option_map f) (slice_get-get_or xs i d inside) ∙ ap Some e
