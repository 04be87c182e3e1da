-- Routers with their paths by rising router: where a search finds one, and what a change keeps.
use Rattle.std.proofs.Common.{◌≡◌, ◌≢◌, ℕ, zero, suc, ◌+◌, ◌<◌, ◌≤◌, Bool, true, false, cond, List, [], ◌∷◌, ◌++◌, length, take, drop, get_or, sym, ap, subst, ◌∙◌, arith, inl, inr}
use Rattle.std.specs.Prelude.{◌==◌, nat_lt}
use Rattle.std.specs.List.{All}
use Rattle.std.specs.List.Sorted.{IsPartitionedBy, IsPartitionPoint}
use Rattle.std.proofs.lemmas.Bool.{cases_order, ltb-true, ltb-false, lt-ltb}
use Rattle.std.proofs.lemmas.List.{get_or-take, get_or-drop, get_or_default, length-drop, length-take-le, take-append-drop}
use Rattle.std.proofs.lemmas.List.Elements.{All-append}
use Rattle.stable_paths.specs.declared.assignment.Assigned.{Assigned}
use Rattle.stable_paths.specs.Stable.{path_of}
use Rattle.stable_paths.specs.Rising.{Rise, StandsAt, BelongsAt}
use Rattle.stable_paths.proofs.ListLemmas.{path_none, path_put}

-- ---- a search

abbrev pub is_below : ℕ → Assigned → Bool
is_below u a = nat_lt a.router u

pub partitioned : (xs : List Assigned) (u : ℕ) → Rise xs → IsPartitionedBy (is_below u) xs
partitioned xs u rise i j d le lt t = elim (cases_order i j) [
  | inl same ↦ subst (λ k. is_below u (get_or xs k d) ≡ true) (sym same) t
  | inr differ ↦ elim differ [
    | inl less ↦ lt-ltb (get_or xs i d).router u (omega (arith, rise i j d less lt, ltb-true (get_or xs j d).router u t))
    | inr more ↦ absurd (omega (arith, le, more))
  ]
]

abbrev pub Parts : List Assigned → ℕ → ℕ → Type 0
Parts xs u i = IsPartitionPoint (λ a. is_below u a ≡ true) (λ a. is_below u a ≡ false) xs i

below_place : (xs : List Assigned) (u i : ℕ) → i ≤ length xs → Parts xs u i → All (λ a. a.router < u) (take i xs)
below_place xs u i le parts k d lt =
    let below : k < i = omega (arith, lt, length-take-le i xs le) in
    subst (λ (a : Assigned). a.router < u) (sym (get_or-take i xs k d below)) (ltb-true (get_or xs k d).router u (parts.0 k d (omega arith) below))

-- where the router stands at the place
pub stands : (xs : List Assigned) (u i : ℕ) (a : Assigned) → Parts xs u i → i < length xs → (get_or xs i a).router ≡ u → StandsAt xs u i
stands xs u i a parts lt is = record {
  inside = lt;
  before = λ k d l e. (let below = below_place xs u i (omega (arith, lt)) parts k d l in omega (arith, below, e));
  here = λ d. ap (λ (x : Assigned). x.router) (get_or_default xs i d a lt) ∙ is;
}

-- where another stands there
pub belongs_before : (xs : List Assigned) (u i : ℕ) (a : Assigned) → Rise xs → Parts xs u i → i < length xs → (get_or xs i a).router ≢ u → BelongsAt xs u i
belongs_before xs u i a rise parts lt is_not = record {
  inside = omega (arith, lt);
  before = below_place xs u i (omega (arith, lt)) parts;
  behind = λ k d l. (
      let inside : i + k < length xs = omega (arith, l, length-drop i xs) in
      let here : (get_or xs i a).router ≡ (get_or xs i d).router = ap (λ (x : Assigned). x.router) (get_or_default xs i a d lt) in
      let least : u ≤ (get_or xs i d).router = ltb-false (get_or xs i d).router u (parts.1 i d (omega arith) lt) in
      let above : u < (get_or xs i d).router = omega (arith, least, here, is_not) in
      subst (λ (x : Assigned). u < x.router) (sym (get_or-drop i xs k d)) (further xs u i k d rise inside above));
}
  where
    further : (xs : List Assigned) (u i k : ℕ) (d : Assigned) → Rise xs → i + k < length xs → u < (get_or xs i d).router → u < (get_or xs (i + k) d).router
    further xs u i zero d rise inside above = subst (λ (j : ℕ). u < (get_or xs j d).router) (omega arith) above
    further xs u i (suc k) d rise inside above = let more = rise i (i + suc k) d (omega arith) inside in omega (arith, above, more)

-- where none stands there
pub belongs_last : (xs : List Assigned) (u i : ℕ) → Parts xs u i → i ≤ length xs → length xs ≤ i → BelongsAt xs u i
belongs_last xs u i parts le ge = record {
  inside = le;
  before = below_place xs u i le parts;
  behind = λ k d l. absurd (omega (arith, l, length-drop i xs, ge));
}

-- ---- what stands nowhere

all_apart : (xs : List Assigned) (u i : ℕ) → BelongsAt xs u i → All (λ a. a.router ≢ u) (take i xs) × All (λ a. a.router ≢ u) (drop i xs)
all_apart xs u i at = ((λ k d l e. (let below = at.before k d l in omega (arith, below, e))), (λ k d l e. (let above = at.behind k d l in omega (arith, above, e))))

pub path_missing : (xs : List Assigned) (u i : ℕ) → BelongsAt xs u i → path_of xs u ≡ []
path_missing xs u i at =
    let parts = all_apart xs u i at in
    path_none xs u (subst (All (λ (a : Assigned). a.router ≢ u)) (take-append-drop i xs) (All-append (λ (a : Assigned). a.router ≢ u) (take i xs) (drop i xs) parts.0 parts.1))

-- a router that is put where it belongs has its path, and the others have theirs
pub path_insert : (xs : List Assigned) (i : ℕ) (a : Assigned) (u : ℕ) → BelongsAt xs a.router i → path_of (take i xs ++ a ∷ drop i xs) u ≡ cond (a.router == u) a.path (path_of xs u)
path_insert xs i a u at =
    path_put (take i xs) (drop i xs) a u (all_apart xs a.router i at).0 ∙ ap (λ (ys : List Assigned). cond (a.router == u) a.path (path_of ys u)) (take-append-drop i xs)
