-- Each kind of policy puts its permitted paths in one order.
use Rattle.std.specs.Prelude.{ℕ, zero, suc, List, [], ◌∷◌, ◌++◌, ◌≡◌, ◌≢◌, ◌<◌, length}
use Rattle.std.specs.List.{Contains}
use mathlib.Core.Logic.{◌⊎◌}
use Rattle.std.proofs.Common.{refl, sym, ap, subst, ◌∙◌, inl, inr, arith, get_or}
use Rattle.std.specs.Str.{bytes_eq}
use Rattle.std.proofs.lemmas.Bool.{cases_Bool, cases_order, both_ways}
use Rattle.std.proofs.lemmas.Slice.Eq.{bytes_eq-Decides}
use Rattle.ranked_policy.specs.Orders.{IsStrictTotalOrder, ComesFirst, ComesEarlier, IsShorter}

-- a set of one path is in order
pub one_path_is_an_order : (path : List ℕ) → IsStrictTotalOrder (λ p. p ≡ path) (λ a b. ⊥)
one_path_is_an_order path = record {
  irreflexive = λ p is never. never;
  transitive = λ p q r is_p is_q is_r never also. never;
  total = λ p q is_p is_q apart. absurd (apart (is_p ∙ sym is_q));
}

same_or_not : (p q : List ℕ) → (p ≡ q) ⊎ (p ≢ q)
same_or_not p q = let says = bytes_eq-Decides p q in
    elim (cases_Bool (bytes_eq p q)) [ inl t ↦ inl (says.0 t) | inr f ↦ inr (λ e. both_ways (bytes_eq p q) f (says.1 e)) ]

contains_at : (p : List ℕ) (ps : List (List ℕ)) (k : ℕ) (a : List ℕ) → k < length (p ∷ ps) → get_or (p ∷ ps) k a ≡ a → (p ≡ a) ⊎ Contains ps a
contains_at p ps zero a l e = inl e
contains_at p ps (suc k) a l e = inr (k, omega (arith, l), e)

contains_cons : (p : List ℕ) (ps : List (List ℕ)) (a : List ℕ) → Contains (p ∷ ps) a → (p ≡ a) ⊎ Contains ps a
contains_cons p ps a h = contains_at p ps h.0 a h.1 h.2

-- in a list, best first: the first path comes before the second, path by path
abbrev pub Above : List (List ℕ) → List ℕ → List ℕ → Type 0
Above [] a b = ⊥
Above (p ∷ ps) a b = (p ≢ b) × ((p ≡ a) ⊎ Above ps a b)

above_split : (before behind : List (List ℕ)) (a b : List ℕ) → (Contains before b → ⊥) → a ≢ b → Above (before ++ a ∷ behind) a b
above_split [] behind a b none other = (other, inl refl)
above_split (p ∷ ps) behind a b none other =
    ((λ e. none (0, omega arith, e)), inr (above_split ps behind a b (λ c. none (suc c.0, omega (arith, c.1), c.2)) other))

pub above_from_first : (paths : List (List ℕ)) (a b : List ℕ) → ComesFirst paths a b → Above paths a b
above_from_first paths a b h = subst (λ ps. Above ps a b) (sym h.whole) (above_split h.before h.behind a b h.not_before h.other)

pub first_from_above : (paths : List (List ℕ)) (a b : List ℕ) → Above paths a b → ComesFirst paths a b
first_from_above [] a b h = absurd h
first_from_above (p ∷ ps) a b h = elim h.1 [
  | inl e ↦ record {
    before = [];
    behind = ps;
    whole = ap (λ x. x ∷ ps) e;
    not_before = λ c. absurd (omega (arith, c.1));
    other = λ s. h.0 (e ∙ s);
  }
  | inr r ↦ let t = first_from_above ps a b r in record {
    before = p ∷ t.before;
    behind = t.behind;
    whole = ap (λ l. p ∷ l) t.whole;
    not_before = λ c. elim (contains_cons p t.before b c) [ inl e ↦ h.0 e | inr s ↦ t.not_before s ];
    other = t.other;
  }
]

above_self : (paths : List (List ℕ)) (a : List ℕ) → Above paths a a → ⊥
above_self [] a h = h
above_self (p ∷ ps) a h = elim h.1 [ inl e ↦ h.0 e | inr r ↦ above_self ps a r ]

above_trans : (paths : List (List ℕ)) (a b c : List ℕ) → Above paths a b → Above paths b c → Above paths a c
above_trans [] a b c g h = g
above_trans (p ∷ ps) a b c g h =
    (h.0, elim g.1 [ inl e ↦ inl e | inr r ↦ elim h.1 [ inl e ↦ absurd (g.0 e) | inr s ↦ inr (above_trans ps a b c r s) ] ])

in_rest : (p : List ℕ) (ps : List (List ℕ)) (a : List ℕ) → Contains (p ∷ ps) a → p ≢ a → Contains ps a
in_rest p ps a h apart = elim (contains_cons p ps a h) [ inl e ↦ absurd (apart e) | inr r ↦ r ]

above_total : (paths : List (List ℕ)) (a b : List ℕ) → Contains paths a → Contains paths b → a ≢ b → Above paths a b ⊎ Above paths b a
above_total [] a b g h apart = absurd (omega (arith, g.1))
above_total (p ∷ ps) a b g h apart = elim (same_or_not p a) [
  | inl is_a ↦ inl ((λ e. apart (sym is_a ∙ e)), inl is_a)
  | inr not_a ↦ elim (same_or_not p b) [
    | inl is_b ↦ inr (not_a, inl is_b)
    | inr not_b ↦ elim (above_total ps a b (in_rest p ps a g not_a) (in_rest p ps b h not_b) apart) [
      | inl r ↦ inl (not_b, inr r)
      | inr r ↦ inr (not_a, inr r)
    ]
  ]
]

pub comes_first_trans : (paths : List (List ℕ)) (a b c : List ℕ) → ComesFirst paths a b → ComesFirst paths b c → ComesFirst paths a c
comes_first_trans paths a b c g h = first_from_above paths a c (above_trans paths a b c (above_from_first paths a b g) (above_from_first paths b c h))

pub comes_first_total : (paths : List (List ℕ)) (a b : List ℕ) → Contains paths a → Contains paths b → a ≢ b → ComesFirst paths a b ⊎ ComesFirst paths b a
comes_first_total paths a b is_a is_b apart = elim (above_total paths a b is_a is_b apart) [
  | inl h ↦ inl (first_from_above paths a b h)
  | inr h ↦ inr (first_from_above paths b a h)
]

-- listed paths, the best first
pub listed_paths_are_an_order : (paths : List (List ℕ)) (P : List ℕ → Type 0) → IsStrictTotalOrder (λ p. Contains paths p × P p) (ComesFirst paths)
listed_paths_are_an_order paths P = record {
  irreflexive = λ p is h. h.other refl;
  transitive = λ p q r is_p is_q is_r g h. comes_first_trans paths p q r g h;
  total = λ p q is_p is_q apart. comes_first_total paths p q is_p.0 is_q.0 apart;
}

-- in a dictionary: the first path comes before the second, number by number
abbrev pub Earlier : List ℕ → List ℕ → Type 0
Earlier [] b = ⊥
Earlier (x ∷ xs) [] = ⊥
Earlier (x ∷ xs) (y ∷ ys) = (x < y) ⊎ ((x ≡ y) × Earlier xs ys)

earlier_split : (common : List ℕ) (x y : ℕ) (xs ys : List ℕ) → x < y → Earlier (common ++ x ∷ xs) (common ++ y ∷ ys)
earlier_split [] x y xs ys l = inl l
earlier_split (c ∷ cs) x y xs ys l = inr (refl, earlier_split cs x y xs ys l)

pub earlier_from_comes : (a b : List ℕ) → ComesEarlier a b → Earlier a b
earlier_from_comes a b h =
    let split = earlier_split h.common h.mine h.theirs h.my_rest h.their_rest h.smaller in
    subst (λ x. Earlier x b) (sym h.first) (subst (Earlier (h.common ++ h.mine ∷ h.my_rest)) (sym h.second) split)

pub comes_from_earlier : (a b : List ℕ) → Earlier a b → ComesEarlier a b
comes_from_earlier [] b h = absurd h
comes_from_earlier (x ∷ xs) [] h = absurd h
comes_from_earlier (x ∷ xs) (y ∷ ys) h = elim h [
  | inl l ↦ record {
    common = [];
    mine = x;
    theirs = y;
    my_rest = xs;
    their_rest = ys;
    first = refl;
    second = refl;
    smaller = l;
  }
  | inr r ↦ let t = comes_from_earlier xs ys r.1 in record {
    common = x ∷ t.common;
    mine = t.mine;
    theirs = t.theirs;
    my_rest = t.my_rest;
    their_rest = t.their_rest;
    first = ap (λ l. x ∷ l) t.first;
    second = ap (λ z. z ∷ ys) (sym r.0) ∙ ap (λ l. x ∷ l) t.second;
    smaller = t.smaller;
  }
]

earlier_self : (a : List ℕ) → Earlier a a → ⊥
earlier_self [] h = h
earlier_self (x ∷ xs) h = elim h [ inl l ↦ omega (arith, l) | inr r ↦ earlier_self xs r.1 ]

earlier_trans : (a b c : List ℕ) → Earlier a b → Earlier b c → Earlier a c
earlier_trans [] b c g h = absurd g
earlier_trans (x ∷ xs) [] c g h = absurd g
earlier_trans (x ∷ xs) (y ∷ ys) [] g h = absurd h
earlier_trans (x ∷ xs) (y ∷ ys) (z ∷ zs) g h = elim g [
  | inl l ↦ elim h [ inl m ↦ inl (omega (arith, l, m)) | inr s ↦ inl (omega (arith, l, s.0)) ]
  | inr r ↦ elim h [ inl m ↦ inl (omega (arith, r.0, m)) | inr s ↦ inr (r.0 ∙ s.0, earlier_trans xs ys zs r.1 s.1) ]
]

earlier_total : (a b : List ℕ) → length a ≡ length b → a ≢ b → Earlier a b ⊎ Earlier b a
earlier_total [] [] l apart = absurd (apart refl)
earlier_total [] (y ∷ ys) l apart = absurd (omega (arith, l))
earlier_total (x ∷ xs) [] l apart = absurd (omega (arith, l))
earlier_total (x ∷ xs) (y ∷ ys) l apart = elim (cases_order x y) [
  | inl same ↦ elim (earlier_total xs ys (omega (arith, l)) (λ e. apart (ap (λ z. z ∷ xs) same ∙ ap (λ r. y ∷ r) e))) [
    | inl r ↦ inl (inr (same, r))
    | inr r ↦ inr (inr (sym same, r))
  ]
  | inr differ ↦ elim differ [ inl below ↦ inl (inl below) | inr above ↦ inr (inl above) ]
]

pub shorter_trans : (p q r : List ℕ) → IsShorter p q → IsShorter q r → IsShorter p r
shorter_trans p q r g h = elim g [
  | inl l ↦ elim h [ inl m ↦ inl (omega (arith, l, m)) | inr s ↦ inl (omega (arith, l, s.0)) ]
  | inr t ↦ elim h [
    | inl m ↦ inl (omega (arith, t.0, m))
    | inr s ↦ inr (t.0 ∙ s.0, comes_from_earlier p r (earlier_trans p q r (earlier_from_comes p q t.1) (earlier_from_comes q r s.1)))
  ]
]

pub shorter_total : (p q : List ℕ) → p ≢ q → IsShorter p q ⊎ IsShorter q p
shorter_total p q apart = elim (cases_order (length p) (length q)) [
  | inl same ↦ elim (earlier_total p q same apart) [
    | inl h ↦ inl (inr (same, comes_from_earlier p q h))
    | inr h ↦ inr (inr (sym same, comes_from_earlier q p h))
  ]
  | inr differ ↦ elim differ [ inl below ↦ inl (inl below) | inr above ↦ inr (inl above) ]
]

-- the shorter first, then as in a dictionary
pub shorter_first_is_an_order : (P : List ℕ → Type 0) → IsStrictTotalOrder P IsShorter
shorter_first_is_an_order P = record {
  irreflexive = λ p is h. elim h [ inl l ↦ omega (arith, l) | inr s ↦ earlier_self p (earlier_from_comes p p s.1) ];
  transitive = λ p q r is_p is_q is_r g h. shorter_trans p q r g h;
  total = λ p q is_p is_q apart. shorter_total p q apart;
}
