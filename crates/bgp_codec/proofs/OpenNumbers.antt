-- The first number that an OPEN says.
use Rattle.std.proofs.Common.{◌≡◌, ℕ, true, false, List, [], ◌∷◌, ◌++◌, Option, Some, None, is_some, refl, sym, ap, ◌∙◌}
use Rattle.std.specs.Option.{option_or}
use Rattle.bgp_codec.specs.Opens.{first_said}

or_none : (o : Option ℕ) → option_or o None ≡ o
or_none None = refl
or_none (Some n) = refl

or_joined : (a b c : Option ℕ) → option_or (option_or a b) c ≡ option_or a (option_or b c)
or_joined None b c = refl
or_joined (Some n) b c = refl

module _ {A : Type 0} (says : A → Option ℕ) where
  -- one more at the end is asked where none of those before says a number
  pub one_more_says : (xs : List A) (x : A) → first_said says (xs ++ x ∷ []) ≡ option_or (first_said says xs) (says x)
  one_more_says [] x = or_none (says x)
  one_more_says (y ∷ ys) x = ap (option_or (says y)) (one_more_says ys x) ∙ sym (or_joined (says y) (first_said says ys) (says x))

  -- one in front that says none leaves the question to the others
  pub says_on : (all left rest : List A) (x : A) (said : Option ℕ) → left ≡ x ∷ rest → said ≡ says x → is_some said ≡ false → first_said says all ≡ first_said says left → first_said says all ≡ first_said says rest
  says_on all left rest x None e is none inv = inv ∙ ap (first_said says) e ∙ ap (λ (o : Option ℕ). option_or o (first_said says rest)) (sym is)
  says_on all left rest x (Some n) e is none inv = absurd cc

  -- one that says a number answers it
  pub says_found : (all left rest : List A) (x : A) (said : Option ℕ) → left ≡ x ∷ rest → said ≡ says x → is_some said ≡ true → first_said says all ≡ first_said says left → said ≡ first_said says all
  says_found all left rest x None e is some inv = absurd cc
  says_found all left rest x (Some n) e is some inv = sym (inv ∙ ap (first_said says) e ∙ ap (λ (o : Option ℕ). option_or o (first_said says rest)) (sym is))
