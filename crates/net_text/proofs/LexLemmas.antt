-- Lines, words and parts, one more at a time.
use Rattle.std.proofs.Common.{◌≡◌, ◌≢◌, ℕ, zero, suc, ◌+◌, ◌<◌, ◌≤◌, ◌==◌, ◌&&◌, true, false, cond, [], ◌∷◌, ◌++◌, length, take, drop, get_or, refl, sym, ap, ◌∙◌, arith, inl, inr, add-one, take-append-drop}
use Rattle.std.proofs.lemmas.Bool.{eq-eqb, ne_eqb, cond-true, cond-false, cases_Bool, and_right, and_from}
use Rattle.net_text.specs.Lexing.{Text, first_more, begins_with, lines_of, without_return, is_blank, ends_word, words_of, parts}

-- ---- parts

parts_cut_in : (s : ℕ) (w : Text) (i : ℕ) → i < length w → get_or w i 0 ≡ s → ((k : ℕ) → k < i → get_or w k 0 ≢ s) → parts s w ≡ take i w ∷ parts s (drop (suc i) w)
parts_cut_in s [] i lt at clear = absurd (omega arith)
parts_cut_in s (x ∷ xs) zero lt at clear = cond-true (x == s) _ _ (eq-eqb x s at)
parts_cut_in s (x ∷ xs) (suc i) lt at clear =
    cond-false (x == s) _ _ (ne_eqb x s (clear 0 (omega arith)))
    ∙ ap (first_more x) (parts_cut_in s xs i (omega arith) at (λ k l. clear (suc k) (omega arith)))

pub parts_cut : (s : ℕ) (w : Text) (i : ℕ) → i < length w → get_or w i 0 ≡ s → ((k : ℕ) → k < i → get_or w k 0 ≢ s) → parts s w ≡ take i w ∷ parts s (drop (i + 1) w)
parts_cut s w i lt at clear = rw (add-one i) (parts_cut_in s w i lt at clear)

pub parts_one : (s : ℕ) (w : Text) → ((k : ℕ) → k < length w → get_or w k 0 ≢ s) → parts s w ≡ w ∷ []
parts_one s [] clear = refl
parts_one s (x ∷ xs) clear =
    cond-false (x == s) _ _ (ne_eqb x s (clear 0 (omega arith)))
    ∙ ap (first_more x) (parts_one s xs (λ k l. clear (suc k) (omega arith)))

-- ---- lines

line_on : (x : ℕ) (xs : Text) → x ≢ 10 → lines_of (x ∷ xs) ≡ cond ((x == 13) && begins_with 10 xs) (lines_of xs) (first_more x (lines_of xs))
line_on x xs n = cond-false (x == 10) _ _ (ne_eqb x 10 n)

-- no LF comes next
pub line_more : (x : ℕ) (xs : Text) → x ≢ 10 → begins_with 10 xs ≡ false → lines_of (x ∷ xs) ≡ first_more x (lines_of xs)
line_more x xs n f = line_on x xs n ∙ cond-false ((x == 13) && begins_with 10 xs) _ _ (and_right (x == 13) (begins_with 10 xs) f)

-- one LF comes next
pub line_last : (x y : ℕ) (ys : Text) → x ≢ 10 → y ≡ 10 → lines_of (x ∷ y ∷ ys) ≡ without_return (x ∷ []) ∷ lines_of ys
line_last x y ys n at =
    let behind : lines_of (y ∷ ys) ≡ [] ∷ lines_of ys = cond-true (y == 10) _ _ (eq-eqb y 10 at) in
    elim (cases_Bool (x == 13)) [
      | inl t ↦
          line_on x (y ∷ ys) n ∙ cond-true ((x == 13) && (y == 10)) _ _ (and_from (x == 13) (y == 10) t (eq-eqb y 10 at)) ∙ behind
          ∙ ap (λ (front : Text). front ∷ lines_of ys) (sym (cond-true (x == 13) [] (x ∷ []) t))
      | inr f ↦
          line_on x (y ∷ ys) n ∙ cond-false ((x == 13) && (y == 10)) _ _ (rw f refl) ∙ ap (first_more x) behind
          ∙ ap (λ (front : Text). front ∷ lines_of ys) (sym (cond-false (x == 13) [] (x ∷ []) f))
    ]

lines_front_in : (w : Text) (i : ℕ) (more : Text) → i < length w → get_or w i 0 ≡ 10 → ((k : ℕ) → k < i → get_or w k 0 ≢ 10) → lines_of (take (suc i) w ++ more) ≡ without_return (take i w) ∷ lines_of more
lines_front_in [] i more lt at clear = absurd (omega arith)
lines_front_in (x ∷ xs) zero more lt at clear = cond-true (x == 10) _ _ (eq-eqb x 10 at)
lines_front_in (x ∷ []) (suc i) more lt at clear = absurd (omega arith)
lines_front_in (x ∷ y ∷ ys) (suc zero) more lt at clear = line_last x y more (clear 0 (omega arith)) at
lines_front_in (x ∷ y ∷ ys) (suc (suc i)) more lt at clear =
    line_more x (y ∷ (take (suc i) ys ++ more)) (clear 0 (omega arith)) (ne_eqb y 10 (clear 1 (omega arith)))
    ∙ ap (first_more x) (lines_front_in (y ∷ ys) (suc i) more (omega arith) at (λ k l. clear (suc k) (omega arith)))

-- a line up to its LF, and other lines behind it
pub lines_front : (w : Text) (i : ℕ) (more : Text) → i < length w → get_or w i 0 ≡ 10 → ((k : ℕ) → k < i → get_or w k 0 ≢ 10) → lines_of (take (i + 1) w ++ more) ≡ without_return (take i w) ∷ lines_of more
lines_front w i more lt at clear = rw (add-one i) (lines_front_in w i more lt at clear)

pub lines_cut : (w : Text) (i : ℕ) → i < length w → get_or w i 0 ≡ 10 → ((k : ℕ) → k < i → get_or w k 0 ≢ 10) → lines_of w ≡ without_return (take i w) ∷ lines_of (drop (i + 1) w)
lines_cut w i lt at clear = ap lines_of (sym (take-append-drop (i + 1) w)) ∙ lines_front w i (drop (i + 1) w) lt at clear

pub lines_one : (w : Text) → 0 < length w → ((k : ℕ) → k < length w → get_or w k 0 ≢ 10) → lines_of w ≡ w ∷ []
lines_one [] lt clear = absurd (omega arith)
lines_one (x ∷ []) lt clear = line_more x [] (clear 0 (omega arith)) refl
lines_one (x ∷ y ∷ ys) lt clear =
    line_more x (y ∷ ys) (clear 0 (omega arith)) (ne_eqb y 10 (clear 1 (omega arith)))
    ∙ ap (first_more x) (lines_one (y ∷ ys) (omega arith) (λ k l. clear (suc k) (omega arith)))

-- ---- one CR at the end

pub return_last : (w : Text) (i : ℕ) → i + 1 ≡ length w → get_or w i 0 ≡ 13 → without_return w ≡ take i w
return_last [] i e at = absurd (omega arith)
return_last (x ∷ []) zero e at = cond-true (x == 13) _ _ (eq-eqb x 13 at)
return_last (x ∷ y ∷ ys) zero e at = absurd (omega arith)
return_last (x ∷ []) (suc i) e at = absurd (omega arith)
return_last (x ∷ y ∷ ys) (suc i) e at = ap (λ (w : Text). x ∷ w) (return_last (y ∷ ys) i (omega arith) at)

pub return_not : (w : Text) → ((i : ℕ) → i + 1 ≡ length w → get_or w i 0 ≢ 13) → without_return w ≡ w
return_not [] clear = refl
return_not (x ∷ []) clear = cond-false (x == 13) _ _ (ne_eqb x 13 (clear 0 (omega arith)))
return_not (x ∷ y ∷ ys) clear = ap (λ (w : Text). x ∷ w) (return_not (y ∷ ys) (λ i e. clear (suc i) (omega arith)))

-- ---- words

pub blank_skipped : (x : ℕ) (xs : Text) → is_blank x ≡ true → words_of (x ∷ xs) ≡ words_of xs
blank_skipped x xs b = cond-true (is_blank x) _ _ b

word_on : (x : ℕ) (xs : Text) → is_blank x ≡ false → words_of (x ∷ xs) ≡ cond (ends_word xs) ((x ∷ []) ∷ words_of xs) (first_more x (words_of xs))
word_on x xs f = cond-false (is_blank x) _ _ f

pub words_cut : (w : Text) (i : ℕ) → 0 < i → i ≤ length w → ((k : ℕ) → k < i → is_blank (get_or w k 0) ≡ false) → (i < length w → is_blank (get_or w i 0) ≡ true)
    → words_of w ≡ take i w ∷ words_of (drop i w)
words_cut w zero lt le clear at = absurd (omega arith)
words_cut [] (suc i) lt le clear at = absurd (omega arith)
words_cut (x ∷ []) (suc zero) lt le clear at = word_on x [] (clear 0 (omega arith))
words_cut (x ∷ y ∷ ys) (suc zero) lt le clear at = word_on x (y ∷ ys) (clear 0 (omega arith)) ∙ cond-true (is_blank y) _ _ (at (omega arith))
words_cut (x ∷ []) (suc (suc i)) lt le clear at = absurd (omega arith)
words_cut (x ∷ y ∷ ys) (suc (suc i)) lt le clear at =
    word_on x (y ∷ ys) (clear 0 (omega arith)) ∙ cond-false (is_blank y) _ _ (clear 1 (omega arith))
    ∙ ap (first_more x) (words_cut (y ∷ ys) (suc i) (omega arith) (omega arith) (λ k l. clear (suc k) (omega arith)) (λ l. at (omega arith)))
