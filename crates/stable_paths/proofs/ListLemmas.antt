-- Lists with an item that something holds of, and the paths of an assignment.
use Rattle.std.proofs.Common.{◌≡◌, ◌≢◌, ℕ, zero, suc, ◌+◌, ◌<◌, Bool, true, false, cond, List, [], ◌∷◌, ◌++◌, length, take, set, get_or, refl, sym, ap, subst, ◌∙◌, eq-eqb, ne_eqb, arith, inl, inr, ◌⊎◌}
use Rattle.std.specs.Prelude.{◌==◌, IsTrue}
use Rattle.std.specs.List.{All, Any}
use Rattle.std.proofs.lemmas.Bool.{cases_order, eqb-true}
use Rattle.std.proofs.lemmas.List.{length-append, get_or_append_left}
use Rattle.std.proofs.Math.Seq.{get_or-append_seam}
use Rattle.stable_paths.specs.declared.assignment.Assigned.{Assigned}
use Rattle.stable_paths.specs.Stable.{path_of}

pub never : IsTrue false → ⊥
never e = absurd cc

module _ {X : Type 0} (P : X → Type 0) where
  -- of one item more, it holds of one of the others or of it
  pub any_split : (xs : List X) (x : X) → Any P (xs ++ x ∷ []) → Any P xs ⊎ P x
  any_split xs x a =
      let size : length (xs ++ x ∷ []) ≡ length xs + 1 = length-append xs (x ∷ []) in
      elim (cases_order a.0 (length xs)) [
        | inl same ↦
            let last : get_or (xs ++ x ∷ []) a.0 a.1 ≡ x = ap (λ (k : ℕ). get_or (xs ++ x ∷ []) k a.1) same ∙ get_or-append_seam xs x [] a.1 in
            inr (subst P (sym a.3 ∙ last) a.4)
        | inr differ ↦ elim differ [
          | inl below ↦ inl (a.0, a.1, below, sym (get_or_append_left xs (x ∷ []) a.1 a.0 below) ∙ a.3, a.4)
          | inr above ↦ absurd (omega (arith, size, a.2))
        ]
      ]

  pub any_more : (xs : List X) (x : X) → Any P xs → Any P (xs ++ x ∷ [])
  any_more xs x a =
      let size : length (xs ++ x ∷ []) ≡ length xs + 1 = length-append xs (x ∷ []) in
      (a.0, a.1, omega (arith, size, a.2), get_or_append_left xs (x ∷ []) a.1 a.0 a.2 ∙ a.3, a.4)

  pub any_last : (xs : List X) (x : X) → P x → Any P (xs ++ x ∷ [])
  any_last xs x p =
      let size : length (xs ++ x ∷ []) ≡ length xs + 1 = length-append xs (x ∷ []) in
      (length xs, x, omega (arith, size), get_or-append_seam xs x [] x, p)

-- ---- paths

rest_of : (a : Assigned) (rest : List Assigned) (P : Assigned → Type 0) → All P (a ∷ rest) → All P rest
rest_of a rest P all = λ k d lt. all (suc k) d (omega (arith, lt))

-- where a router does not stand it has no path
pub path_none : (xs : List Assigned) (u : ℕ) → All (λ a. a.router ≢ u) xs → path_of xs u ≡ []
path_none [] u all = refl
path_none (a ∷ rest) u all =
    let other : (a.router == u) ≡ false = ne_eqb a.router u (all 0 a (omega arith)) in
    ap (λ (b : Bool). cond b a.path (path_of rest u)) other ∙ path_none rest u (rest_of a rest (λ x. x.router ≢ u) all)

-- it has the path of its first place
pub path_at : (xs : List Assigned) (i u : ℕ) (d : Assigned) → i < length xs → All (λ a. a.router ≢ u) (take i xs) → (get_or xs i d).router ≡ u → path_of xs u ≡ (get_or xs i d).path
path_at [] i u d lt all e = absurd (omega (arith, lt))
path_at (a ∷ rest) zero u d lt all e = ap (λ (b : Bool). cond b a.path (path_of rest u)) (eq-eqb a.router u e)
path_at (a ∷ rest) (suc i) u d lt all e =
    let other : (a.router == u) ≡ false = ne_eqb a.router u (all 0 a (omega arith)) in
    ap (λ (b : Bool). cond b a.path (path_of rest u)) other ∙ path_at rest i u d (omega (arith, lt)) (rest_of a (take i rest) (λ x. x.router ≢ u) all) e

behind_one : (x a : Assigned) (rest more : List Assigned) (u : ℕ) (b c : Bool) → (x.router == u) ≡ b → (a.router == u) ≡ c → x.router ≢ a.router
    → path_of more u ≡ cond (a.router == u) a.path (path_of rest u)
    → cond (x.router == u) x.path (path_of more u) ≡ cond (a.router == u) a.path (cond (x.router == u) x.path (path_of rest u))
behind_one x a rest more u true true eb ec apart e = absurd (apart (eqb-true x.router u eb ∙ sym (eqb-true a.router u ec)))
behind_one x a rest more u true false eb ec apart e = rw (eb, ec) refl
behind_one x a rest more u false c eb ec apart e =
    ap (λ (d : Bool). cond d x.path (path_of more u)) eb ∙ e ∙ ap (λ (d : Bool). cond (a.router == u) a.path (cond d x.path (path_of rest u))) (sym eb)

-- a router that is put behind others has its path, and all the others have theirs
pub path_put : (xs more : List Assigned) (a : Assigned) (u : ℕ) → All (λ x. x.router ≢ a.router) xs → path_of (xs ++ a ∷ more) u ≡ cond (a.router == u) a.path (path_of (xs ++ more) u)
path_put [] more a u all = refl
path_put (x ∷ rest) more a u all =
    behind_one x a (rest ++ more) (rest ++ a ∷ more) u (x.router == u) (a.router == u) refl refl (all 0 x (omega arith)) (path_put rest more a u (rest_of x rest (λ y. y.router ≢ a.router) all))

set_first : (b : Bool) (a x : Assigned) (rest : List Assigned) (u : ℕ) → x.router ≡ a.router → (a.router == u) ≡ b
    → cond (a.router == u) a.path (path_of rest u) ≡ cond (a.router == u) a.path (cond (x.router == u) x.path (path_of rest u))
set_first true a x rest u e q = rw q refl
set_first false a x rest u e q = let other : (x.router == u) ≡ false = ap (λ (k : ℕ). k == u) e ∙ q in rw (q, other) refl

-- a router that is set at its first place has its path, and the others have theirs
pub path_set : (xs : List Assigned) (i : ℕ) (d a : Assigned) (u : ℕ) → i < length xs → All (λ x. x.router ≢ a.router) (take i xs) → (get_or xs i d).router ≡ a.router
    → path_of (set xs i a) u ≡ cond (a.router == u) a.path (path_of xs u)
path_set [] i d a u lt all e = absurd (omega (arith, lt))
path_set (x ∷ rest) zero d a u lt all e = set_first (a.router == u) a x rest u e refl
path_set (x ∷ rest) (suc i) d a u lt all e =
    behind_one x a rest (set rest i a) u (x.router == u) (a.router == u) refl refl (all 0 x (omega arith))
    (path_set rest i d a u (omega (arith, lt)) (rest_of x (take i rest) (λ y. y.router ≢ a.router) all) e)
