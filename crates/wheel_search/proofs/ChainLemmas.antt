-- Chains of places, one path after the other.
use Rattle.std.proofs.Common.{◌≡◌, ◌≢◌, ◌∙◌, ℕ, ◌<◌, ◌≤◌, ◌+◌, ◌-◌, List, [], ◌∷◌, ◌++◌, length, get_or, set, take, drop, replicate, refl, sym, ap, subst, arith, inl, inr}
use Rattle.std.specs.Prelude.{slice_index, slice_index_or}
use Rattle.std.specs.List.{Contains}
use Rattle.std.proofs.lemmas.List.{get_or_append_left, get_or_push, get_or-set_other, get_or_default, get_or-replicate, length_push, length-set, length-replicate, length-take, take_all, take_more}
use Rattle.std.proofs.lemmas.Grind.{get_or-set_at}
use Rattle.std.proofs.lemmas.Bool.{cases_eq, cases_lt}
use mathlib.Core.Logic.{◌⊎◌}
use Rattle.wheel_search.specs.Chains.{path_key, key_at, IsLast, IsChain}

-- no path
pub chain_none : (chain : List ℕ) → chain ≡ replicate 32 0 → IsChain [] chain
chain_none chain e = record {
  size = ap length e ∙ length-replicate {A = ℕ} 32 0;
  first = λ key l. record {
    low = omega (arith, zeros key l);
    own = λ place is. absurd (omega (arith, zeros key l, is));
    none = λ place from below same. absurd (omega (arith, below));
  };
  next = λ place l. absurd (omega (arith, l));
}
  where
    zeros : (key : ℕ) → key < 32 → slice_index chain key ≡ 0
    zeros key l = ap (λ (xs : List ℕ). get_or xs key 0) e ∙ get_or-replicate {A = ℕ} 32 key 0 0 l

-- one path more, behind the others
module _ (paths : List (List ℕ)) (path : List ℕ) where
  old_key : (place : ℕ) → place < length paths → key_at (paths ++ path ∷ []) place ≡ key_at paths place
  old_key place l = ap path_key (get_or_append_left paths (path ∷ []) [] place l)

  new_key : key_at (paths ++ path ∷ []) (length paths) ≡ path_key path
  new_key = ap path_key (get_or_push paths path [] (length paths) refl)

  -- what is last below an old top stays so
  stays : (key top last : ℕ) → top ≤ length paths → IsLast paths key top last → IsLast (paths ++ path ∷ []) key top last
  stays key top last within is = record {
    low = is.low;
    own = λ place e. old_key place (omega (arith, e, is.low, within)) ∙ is.own place e;
    none = λ place from below same. is.none place from below (sym (old_key place (omega (arith, below, within))) ∙ same);
  }

  -- the path has another key
  passes : (key last : ℕ) → path_key path ≢ key → IsLast paths key (length paths) last → IsLast (paths ++ path ∷ []) key (length paths + 1) last
  passes key last other is =
      let kept = stays key (length paths) last (omega arith) is in
      record {
        low = omega (arith, is.low);
        own = kept.own;
        none = λ place from below same. elim (cases_lt place (length paths)) [
          | inl l ↦ kept.none place from l same
          | inr m ↦
              let here : place ≡ length paths = omega (arith, m, below) in
              other (sym new_key ∙ ap (key_at (paths ++ path ∷ [])) (sym here) ∙ same)
        ];
      }

  -- the path has this key
  lasts : (key : ℕ) → path_key path ≡ key → IsLast (paths ++ path ∷ []) key (length paths + 1) (length paths + 1)
  lasts key same = record {
    low = omega arith;
    own = λ place e.
        (let here : place ≡ length paths = omega (arith, e) in
        ap (key_at (paths ++ path ∷ [])) here ∙ new_key ∙ same);
    none = λ place from below e. absurd (omega (arith, from, below));
  }

  module _ (chain : List ℕ) (is : IsChain paths chain) (below : path_key path < 32) where
    abbrev key : ℕ
    key = path_key path

    abbrev pushed : List ℕ
    pushed = chain ++ slice_index chain key ∷ []

    long : length pushed ≡ 32 + length paths + 1
    long = length_push chain (slice_index chain key) ∙ ap (λ (n : ℕ). n + 1) is.size

    abbrev now : List ℕ
    now = set pushed key (length paths + 1)

    at_key : slice_index now key ≡ length paths + 1
    at_key = get_or-set_at pushed key key (length paths + 1) 0 refl (omega (arith, below, long))

    at_other : (i : ℕ) → i ≢ key → i < length chain → slice_index now i ≡ slice_index chain i
    at_other i other l = get_or-set_other pushed key i (length paths + 1) 0 other ∙ get_or_append_left chain (slice_index chain key ∷ []) 0 i l

    at_end : slice_index now (32 + length paths) ≡ slice_index chain key
    at_end =
        get_or-set_other pushed key (32 + length paths) (length paths + 1) 0 (λ e. absurd (omega (arith, e, below)))
        ∙ get_or_push chain (slice_index chain key) 0 (32 + length paths) is.size

    firsts : (k : ℕ) → k < 32 → IsLast (paths ++ path ∷ []) k (length (paths ++ path ∷ [])) (slice_index now k)
    firsts k l =
        subst (λ (n : ℕ). IsLast (paths ++ path ∷ []) k n (slice_index now k)) (sym (length_push paths path))
        (elim (cases_eq k key) [
          | inl same ↦
              subst (IsLast (paths ++ path ∷ []) k (length paths + 1)) (sym (ap (slice_index now) same ∙ at_key)) (lasts k (sym same))
          | inr other ↦
              subst (IsLast (paths ++ path ∷ []) k (length paths + 1)) (sym (at_other k other (omega (arith, l, is.size)))) (passes k (slice_index chain k) (λ e. other (sym e)) (is.first k l))
        ])

    nexts : (place : ℕ) → place < length (paths ++ path ∷ [])
        → IsLast (paths ++ path ∷ []) (key_at (paths ++ path ∷ []) place) place (slice_index now (32 + place))
    nexts place l = elim (cases_lt place (length paths)) [
      | inl old ↦
          subst (λ (k : ℕ). IsLast (paths ++ path ∷ []) k place (slice_index now (32 + place))) (sym (old_key place old))
          (subst (IsLast (paths ++ path ∷ []) (key_at paths place) place) (sym (at_other (32 + place) (λ e. absurd (omega (arith, e, below))) (omega (arith, old, is.size))))
          (stays (key_at paths place) place (slice_index chain (32 + place)) (omega (arith, old)) (is.next place old)))
      | inr m ↦
          let here : length paths ≡ place = omega (arith, m, l, length_push paths path) in
          subst (λ (n : ℕ). IsLast (paths ++ path ∷ []) (key_at (paths ++ path ∷ []) n) n (slice_index now (32 + n))) here
          (subst (λ (k : ℕ). IsLast (paths ++ path ∷ []) k (length paths) (slice_index now (32 + length paths))) (sym new_key)
          (subst (IsLast (paths ++ path ∷ []) key (length paths)) (sym at_end)
          (stays key (length paths) (slice_index chain key) (omega arith) (is.first key below))))
    ]

    pub chain_more : IsChain (paths ++ path ∷ []) now
    chain_more = record {
      size = length-set pushed key (length paths + 1) ∙ long ∙ omega (arith, length_push paths path);
      first = firsts;
      next = nexts;
    }

-- the chain of one path more of a list
pub chain_next : (paths : List (List ℕ)) (place : ℕ) (path : List ℕ) (chain pushed : List ℕ) (before : ℕ) → place < length paths → path ≡ get_or paths place [] → IsChain (take place paths) chain
    → path_key path < 32 → before ≡ slice_index chain (path_key path) → pushed ≡ chain ++ before ∷ [] → IsChain (take (place + 1) paths) (set pushed (path_key path) (place + 1))
chain_next paths place path chain pushed before l is c below e p =
    let size : length (take place paths) ≡ place = omega (arith, length-take place paths, l) in
    let all : take (place + 1) paths ≡ take place paths ++ path ∷ [] = take_more paths place [] l ∙ ap (λ (x : List ℕ). take place paths ++ x ∷ []) (sym is) in
    let more = chain_more (take place paths) path chain c below in
    subst (λ (xs : List (List ℕ)). IsChain xs (set pushed (path_key path) (place + 1))) (sym all)
    (subst (λ (xs : List ℕ). IsChain (take place paths ++ path ∷ []) (set xs (path_key path) (place + 1))) (sym (p ∙ ap (λ (b : ℕ). chain ++ b ∷ []) e))
    (subst (λ (n : ℕ). IsChain (take place paths ++ path ∷ []) (set (chain ++ slice_index chain (path_key path) ∷ []) (path_key path) (n + 1))) size more))

-- ---- the search for a path's rest along a chain

-- what a path goes on by is all but its first router
pub onward_is : (path rest : List ℕ) (router : ℕ) → path ≡ router ∷ rest → take (length path - 1) (drop 1 path) ≡ rest
onward_is path rest router e = ap (λ (xs : List ℕ). take (length xs - 1) (drop 1 xs)) e ∙ take_all (length (router ∷ rest) - 1) rest (omega arith)

module _ (paths : List (List ℕ)) (chain : List ℕ) (is : IsChain paths chain) (path : List ℕ) (router wanted : ℕ) (has : (rest : List ℕ) → path ≡ router ∷ rest → path_key rest ≡ wanted) where
  abbrev Follows : ℕ → Type 0
  Follows place = path ≡ router ∷ get_or paths place []

  -- the next place of the chain
  pub on : (top last place : ℕ) → IsLast paths wanted top last → last ≡ place + 1 → place < length paths → IsLast paths wanted place (slice_index chain (32 + place))
  on top last place l e below = subst (λ (k : ℕ). IsLast paths k place (slice_index chain (32 + place))) (l.own place e) (is.next place below)

  -- the path goes on by none from the place on
  pub passed_on : (top last place : ℕ) → IsLast paths wanted top last → last ≡ place + 1 → ((k : ℕ) → top ≤ k → k < length paths → path ≡ router ∷ get_or paths k [] → ⊥) → (path ≡ router ∷ get_or paths place [] → ⊥)
      → (k : ℕ) → place ≤ k → k < length paths → path ≡ router ∷ get_or paths k [] → ⊥
  passed_on top last place l e passed not k from below f = elim (cases_eq k place) [
    | inl here ↦ not (subst Follows here f)
    | inr other ↦ elim (cases_lt k top) [
      | inl low ↦ l.none k (omega (arith, e, from, other)) low (has (get_or paths k []) f)
      | inr high ↦ passed k high below f
    ]
  ]

  -- none is left
  pub none_left : (top last : ℕ) → IsLast paths wanted top last → last ≤ 0 → ((k : ℕ) → top ≤ k → k < length paths → path ≡ router ∷ get_or paths k [] → ⊥)
      → (rest : List ℕ) → Contains paths rest → path ≡ router ∷ rest → ⊥
  none_left top last l e passed rest c f =
      let at : Follows c.0 = f ∙ ap (λ (x : List ℕ). router ∷ x) (sym (get_or_default paths c.0 [] rest c.1 ∙ c.2)) in
      elim (cases_lt c.0 top) [
        | inl low ↦ l.none c.0 (omega (arith, e)) low (has (get_or paths c.0 []) at)
        | inr high ↦ passed c.0 high c.1 at
      ]
