-- The number of assignments, part by part.
use Rattle.std.proofs.Common.{◌≡◌, ℕ, zero, suc, ◌<◌, ◌+◌, ◌*◌, List, [], ◌∷◌, ◌++◌, length, take, get_or, sym, ap, ◌∙◌, arith}
use Rattle.std.proofs.lemmas.List.{take_more}
use Rattle.std.proofs.Math.Nat.{mul_assoc}
use Rattle.stable_search.specs.declared.every.Component.{Component}
use Rattle.stable_search.specs.Every.{factor_of, number_of}

number_join : (parts : List Component) (part : Component) → number_of (parts ++ part ∷ []) ≡ number_of parts * factor_of part
number_join [] part = omega arith
number_join (first ∷ parts) part =
    ap (λ (n : ℕ). factor_of first * n) (number_join parts part) ∙ sym (mul_assoc (factor_of first) (number_of parts) (factor_of part))

pub number_more : (parts : List Component) (i : ℕ) (part : Component) → i < length parts → part ≡ get_or parts i part → number_of (take (i + 1) parts) ≡ number_of (take i parts) * factor_of part
number_more parts i part lt is =
    ap number_of (take_more parts i part lt ∙ ap (λ (p : Component). take i parts ++ p ∷ []) (sym is)) ∙ number_join (take i parts) part

pub number_none : (parts : List Component) (i : ℕ) (part : Component) → i < length parts → part ≡ get_or parts i part → factor_of part ≡ 0 → number_of parts ≡ 0
number_none [] i part lt is none = absurd (omega (arith, lt))
number_none (first ∷ parts) zero part lt is none =
    ap (λ (n : ℕ). n * number_of parts) (ap factor_of (sym is) ∙ none) ∙ zero_left (number_of parts)
  where
    zero_left : (n : ℕ) → 0 * n ≡ 0
    zero_left n = omega arith
number_none (first ∷ parts) (suc i) part lt is none =
    ap (λ (n : ℕ). factor_of first * n) (number_none parts i part (omega (arith, lt)) is none) ∙ zero_right (factor_of first)
  where
    zero_right : (n : ℕ) → n * 0 ≡ 0
    zero_right n = omega arith
