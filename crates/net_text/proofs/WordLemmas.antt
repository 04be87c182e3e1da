-- Values of words, as far as 64 bits hold them.
use Rattle.std.proofs.Common.{◌≡◌, ℕ, ◌==◌, None, inl, inr, subst, ◌+◌, ◌-◌, ◌*◌, ◌^◌, ◌<◌, ◌≤◌, List, [], ◌∷◌, length, drop, get_or, min, refl, sym, ap, ◌∙◌, arith}
use Rattle.std.proofs.Math.Nat.{pow-le-pow_right}
use Rattle.std.proofs.lemmas.List.{drop_more, drop_all}
use Rattle.std.proofs.lemmas.Bool.{cases_Bool, cond-true, cond-false}
use Rattle.net_text.specs.Lexing.{Text, parts, first_more}
use Rattle.net_text.specs.Words.{value_behind, address_of_parts, prefix_of_parts}

abbrev pub most : ℕ
most = 2 ^ 64 - 1

one_digit : (m a d : ℕ) → min m (a * 10 + d) ≡ min m (min m a * 10 + d)
one_digit m a d = omega arith

-- a number may be cut to what 64 bits hold before more digits follow
pub cut_before : (a : ℕ) (w : Text) → min most (value_behind a w) ≡ min most (value_behind (min most a) w)
cut_before a [] = omega arith
cut_before a (x ∷ xs) =
    cut_before (a * 10 + (x - 48)) xs ∙ ap (λ n. min most (value_behind n xs)) (one_digit most a (x - 48)) ∙ sym (cut_before (min most a * 10 + (x - 48)) xs)

digit_is : (y x old new : ℕ) → y ≡ x → new ≡ min most (min most (old * 10) + (x - 48)) → min most (old * 10 + (y - 48)) ≡ new
digit_is y x old new at is = omega arith

-- one digit more
pub value_on : (w : Text) (i x old new : ℕ) → i < length w → get_or w i 0 ≡ x → new ≡ min most (min most (old * 10) + (x - 48))
    → min most (value_behind old (drop i w)) ≡ min most (value_behind new (drop (i + 1) w))
value_on w i x old new lt at is =
    ap (λ (v : Text). min most (value_behind old v)) (drop_more w i 0 lt)
    ∙ cut_before (old * 10 + (get_or w i 0 - 48)) (drop (i + 1) w)
    ∙ ap (λ n. min most (value_behind n (drop (i + 1) w))) (digit_is (get_or w i 0) x old new at is)

pub value_end : (w : Text) (i n : ℕ) → length w ≤ i → n ≤ most → min most (value_behind n (drop i w)) ≡ n
value_end w i n le fits = ap (λ (v : Text). min most (value_behind n v)) (drop_all i w le) ∙ omega arith

-- ---- few digits

tens : (i : ℕ) → i < 17 → 10 ^ i ≤ 10 ^ 16
tens i lt = let le : i ≤ 16 = omega (arith, lt) in let some : 0 < 10 = omega arith in pow-le-pow_right some le

pub short_fits : (i value : ℕ) → i < 17 → value + 23 ≤ 23 * 10 ^ i → value ≤ 230000000000000000
short_fits i value lt small = let most_of_them = tens i lt in omega (arith, most_of_them, small)

-- ---- words of more parts than they may have

more_first : (P : List Text → Type 0) (x : ℕ) (texts : List Text) → ((y : Text) (ys : List Text) → P (y ∷ ys)) → P (first_more x texts)
more_first P x [] h = h (x ∷ []) []
more_first P x (y ∷ ys) h = h (x ∷ y) ys

-- there is a part
pub some_part : (P : List Text → Type 0) (s : ℕ) (w : Text) → ((y : Text) (ys : List Text) → P (y ∷ ys)) → P (parts s w)
some_part P s [] h = h [] []
some_part P s (x ∷ xs) h =
    elim (cases_Bool (x == s)) [
      | inl t ↦ subst P (sym (cond-true (x == s) ([] ∷ parts s xs) (first_more x (parts s xs)) t)) (h [] (parts s xs))
      | inr f ↦ subst P (sym (cond-false (x == s) ([] ∷ parts s xs) (first_more x (parts s xs)) f)) (more_first P x (parts s xs) h)
    ]

pub five_parts : (a b c d w : Text) → address_of_parts (a ∷ b ∷ c ∷ d ∷ parts 46 w) ≡ None
five_parts a b c d w = some_part (λ ys. address_of_parts (a ∷ b ∷ c ∷ d ∷ ys) ≡ None) 46 w (λ y ys. refl)

pub three_parts : (a b w : Text) → prefix_of_parts (a ∷ b ∷ parts 47 w) ≡ None
three_parts a b w = some_part (λ ys. prefix_of_parts (a ∷ b ∷ ys) ≡ None) 47 w (λ y ys. refl)
