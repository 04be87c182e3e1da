-- Lemmas on the lists of entries.
use Rattle.std.proofs.Common.{◌≡◌, ℕ, ◌<◌, ◌==◌, Bool, true, false, cond, List, [], ◌∷◌, ◌++◌, length, Some, slice_get, refl, ap, sym, ◌∙◌, arith, append_assoc, subst}
use Rattle.std.specs.Prelude.{max}
use mathlib.Core.List.{IsPrefix}
pub use Rattle.run_model.specs.Facts.{Sound}
use Rattle.run_model.specs.Links.{Entry, Dial, Says, Mark, Shut, greatest_dial, said}
use Rattle.std.proofs.lemmas.List.{append-nil}
use Rattle.std.proofs.lemmas.Bool.Decides.{nat_tests}

module _ {M : Type 0} where
  pub greatest_dial-append : (xs ys : List (Entry M)) → greatest_dial (xs ++ ys) ≡ max (greatest_dial xs) (greatest_dial ys)
  greatest_dial-append [] ys = omega arith
  greatest_dial-append (Dial e ∷ xs) ys = rw (greatest_dial-append xs ys) (omega arith)
  greatest_dial-append (Says e m ∷ xs) ys = greatest_dial-append xs ys
  greatest_dial-append (Mark e s ∷ xs) ys = greatest_dial-append xs ys
  greatest_dial-append (Shut e ∷ xs) ys = greatest_dial-append xs ys

  kept : (b : Bool) (m : M) (xs ys zs : List M) → zs ≡ xs ++ ys → cond b (m ∷ zs) zs ≡ cond b (m ∷ xs) xs ++ ys
  kept true m xs ys zs e = ap (λ w. m ∷ w) e
  kept false m xs ys zs e = e

  pub said-append : (n : ℕ) (xs ys : List (Entry M)) → said n (xs ++ ys) ≡ said n xs ++ said n ys
  said-append n [] ys = refl
  said-append n (Dial e ∷ xs) ys = said-append n xs ys
  said-append n (Says e m ∷ xs) ys = kept (n == e) m (said n xs) (said n ys) (said n (xs ++ ys)) (said-append n xs ys)
  said-append n (Mark e s ∷ xs) ys = said-append n xs ys
  said-append n (Shut e ∷ xs) ys = said-append n xs ys

  pub sound-front : (hi : ℕ) (xs ys : List (Entry M)) → Sound hi (xs ++ ys) → Sound hi xs
  sound-front hi [] ys s = tt
  sound-front hi (Dial e ∷ xs) ys s = sound-front (max hi e) xs ys s
  sound-front hi (Says e m ∷ xs) ys s = (s.0, sound-front hi xs ys s.1)
  sound-front hi (Mark e m ∷ xs) ys s = (s.0, sound-front hi xs ys s.1)
  sound-front hi (Shut e ∷ xs) ys s = (s.0, sound-front hi xs ys s.1)

  pub sound-append : (hi : ℕ) (xs ys : List (Entry M)) → Sound hi xs → Sound (max hi (greatest_dial xs)) ys → Sound hi (xs ++ ys)
  sound-append hi [] ys s t = let e : max hi 0 ≡ hi = omega arith in subst (λ h. Sound h ys) e t
  sound-append hi (Dial e ∷ xs) ys s t =
      let same : max hi (max e (greatest_dial xs)) ≡ max (max hi e) (greatest_dial xs) = omega arith in
      sound-append (max hi e) xs ys s (subst (λ h. Sound h ys) same t)
  sound-append hi (Says e m ∷ xs) ys s t = (s.0, sound-append hi xs ys s.1 t)
  sound-append hi (Mark e m ∷ xs) ys s t = (s.0, sound-append hi xs ys s.1 t)
  sound-append hi (Shut e ∷ xs) ys s t = (s.0, sound-append hi xs ys s.1 t)

  -- nothing is said in an incarnation above all that were dialled
  pub sound-none : (n hi : ℕ) (xs : List (Entry M)) → Sound hi xs → max hi (greatest_dial xs) < n → said n xs ≡ []
  sound-none n hi [] s l = refl
  sound-none n hi (Dial e ∷ xs) s l = sound-none n (max hi e) xs s (omega arith)
  sound-none n hi (Says e m ∷ xs) s l =
      let apart : (n == e) ≡ false = grind (arith, nat_tests, s.0) in rw apart (sound-none n hi xs s.1 l)
  sound-none n hi (Mark e m ∷ xs) s l = sound-none n hi xs s.1 l
  sound-none n hi (Shut e ∷ xs) s l = sound-none n hi xs s.1 l

pub prefix_trans : {A : Type 0} (xs ys zs : List A) → IsPrefix xs ys → IsPrefix ys zs → IsPrefix xs zs
prefix_trans xs ys zs p q = (p.0 ++ q.0, sym (append_assoc xs p.0 q.0) ∙ (ap (λ w. w ++ q.0) p.1 ∙ q.1))

pub prefix_same : {A : Type 0} (xs ys : List A) → xs ≡ ys → IsPrefix xs ys
prefix_same xs ys e = ([], append-nil xs ∙ e)

pub prefix_push : {A : Type 0} (xs ys zs : List A) → IsPrefix xs ys → IsPrefix xs (ys ++ zs)
prefix_push xs ys zs p = (p.0 ++ zs, sym (append_assoc xs p.0 zs) ∙ ap (λ w. w ++ zs) p.1)

pub prefix_none : {A : Type 0} (xs ys : List A) → IsPrefix xs ys → ys ≡ [] → xs ≡ []
prefix_none [] ys p e = refl
prefix_none (x ∷ xs) ys p e = absurd (cc (p.1, e))

-- the element behind a beginning makes a longer beginning
pub prefix_next : {A : Type 0} (xs ys : List A) (x : A) → IsPrefix xs ys → slice_get ys (length xs) ≡ Some x → IsPrefix (xs ++ x ∷ []) ys
prefix_next [] [] x p h = absurd cc
prefix_next [] (y ∷ ys) x p h = (ys, cc)
prefix_next (x' ∷ xs) [] x p h = absurd (cc (p.1))
prefix_next (x' ∷ xs) (y ∷ ys) x p h =
    let rest = prefix_next xs ys x (p.0, cc (p.1)) h in (rest.0, cc (p.1, rest.1))

module _ {M : Type 0} where
  -- what is said in a beginning is a beginning of what is said
  pub said_front : (n : ℕ) (xs ys : List (Entry M)) → IsPrefix xs ys → IsPrefix (said n xs) (said n ys)
  said_front n xs ys p = (said n p.0, sym (said-append n xs p.0) ∙ ap (said n) p.1)
