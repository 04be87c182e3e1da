-- Words between blanks, and lines up to their ends.
use Rattle.std.proofs.Common.{◌≡◌, ◌≢◌, ℕ, zero, suc, ◌<◌, Bool, true, false, cond, List, [], ◌∷◌, ◌++◌, length, get_or, refl, sym, ap, subst, ◌∙◌, arith}
use Rattle.std.specs.List.{AllByRecursion}
use Rattle.std.proofs.lemmas.Bool.{ne_eqb, cond-true, cond-false}
use Rattle.net_text.specs.Lexing.{Text, first_more, lines_of, without_return, is_blank, ends_word, words_of}
use Rattle.net_text.specs.Layout.{AreBlank, IsWord, HasWords, WordsStandBetweenBlanks, IsOneLine, LinesEndByLineFeeds}
use Rattle.net_text.proofs.LexLemmas.{lines_one, line_more, line_last}

-- ---- the words that a text has are those that are read

skip : (gap more : Text) → AreBlank gap → words_of (gap ++ more) ≡ words_of more
skip [] more h = refl
skip (x ∷ gap) more h = cond-true (is_blank x) _ _ h.0 ∙ skip gap more h.1

word_in : (x : ℕ) (w rest : Text) → is_blank x ≡ false → AllByRecursion (λ y. is_blank y ≡ false) w → ends_word rest ≡ true → words_of (x ∷ (w ++ rest)) ≡ (x ∷ w) ∷ words_of rest
word_in x [] rest b h e = cond-false (is_blank x) _ _ b ∙ cond-true (ends_word rest) _ _ e
word_in x (y ∷ w) rest b h e =
    cond-false (is_blank x) _ _ b ∙ cond-false (is_blank y) _ _ h.0 ∙ ap (first_more x) (word_in y w rest h.0 h.1 e)

one_word : (word rest : Text) → IsWord word → ends_word rest ≡ true → words_of (word ++ rest) ≡ word ∷ words_of rest
one_word [] rest is e = absurd (is.0 refl)
one_word (x ∷ w) rest is e = word_in x w rest is.1.0 is.1.1 e

all_blank : (gap : Text) → AreBlank gap → [] ≡ words_of gap
all_blank [] h = refl
all_blank (x ∷ gap) h = all_blank gap h.1 ∙ sym (cond-true (is_blank x) _ _ h.0)

they_are : (words : List Text) (text : Text) → HasWords text words → words ≡ words_of text
they_are [] text h = all_blank text h
they_are (word ∷ words) text h =
    ap (λ (ws : List Text). word ∷ ws) (they_are words h.1 h.6)
    ∙ sym (one_word word h.1 h.4 h.5) ∙ sym (skip h.0 (word ++ h.1) h.3) ∙ ap words_of (sym h.2)

-- ---- what is read are words that it has

blank_before : (x : ℕ) (text : Text) (words : List Text) → is_blank x ≡ true → HasWords text words → HasWords (x ∷ text) words
blank_before x text [] b h = (b, h)
blank_before x text (word ∷ words) b h = (x ∷ h.0, h.1, ap (λ (t : Text). x ∷ t) h.2, (b, h.3), h.4, h.5, h.6)

not_nil : (x : ℕ) (xs : Text) → x ∷ xs ≢ []
not_nil x xs e = absurd cc

-- where no blank stands in front, nor does one before the first word
no_gap : (y : ℕ) (ys gap more : Text) → is_blank y ≡ false → AreBlank gap → y ∷ ys ≡ gap ++ more → gap ≡ []
no_gap y ys [] more b h e = refl
no_gap y ys (g ∷ gap) more b h e =
    let same : y ≡ g = cc in
    let k : true ≡ false = sym h.0 ∙ ap is_blank (sym same) ∙ b in
    absurd cc

longer : (x y : ℕ) (ys : Text) (words : List Text) → is_blank x ≡ false → is_blank y ≡ false → HasWords (y ∷ ys) words → HasWords (x ∷ y ∷ ys) (first_more x words)
longer x y ys [] a b h = (let k : true ≡ false = sym h.0 ∙ b in absurd cc)
longer x y ys (word ∷ words) a b h =
    let none = no_gap y ys h.0 (word ++ h.1) b h.3 h.2 in
    let here : y ∷ ys ≡ word ++ h.1 = h.2 ∙ ap (λ (g : Text). g ++ (word ++ h.1)) none in
    ([], h.1, ap (λ (t : Text). x ∷ t) here, tt, (not_nil x word, (a, h.4.1)), h.5, h.6)

read_by : (x : ℕ) (xs : Text) (b e : Bool) → is_blank x ≡ b → ends_word xs ≡ e → HasWords xs (words_of xs) → HasWords (x ∷ xs) (cond b (words_of xs) (cond e ((x ∷ []) ∷ words_of xs) (first_more x (words_of xs))))
read_by x xs true e is ends h = blank_before x xs (words_of xs) is h
read_by x xs false true is ends h = ([], xs, refl, tt, (not_nil x [], (is, tt)), ends, h)
read_by x [] false false is ends h = absurd cc
read_by x (y ∷ ys) false false is ends h = longer x y ys (words_of (y ∷ ys)) is ends h

has_them : (text : Text) → HasWords text (words_of text)
has_them [] = tt
has_them (x ∷ xs) = read_by x xs (is_blank x) (ends_word xs) refl refl (has_them xs)

pub words_stand_between_blanks : WordsStandBetweenBlanks
words_stand_between_blanks text words = (λ e. subst (HasWords text) (sym e) (has_them text), they_are words text)

-- ---- lines

front_in : (line rest : Text) → IsOneLine line → lines_of (line ++ 10 ∷ rest) ≡ without_return line ∷ lines_of rest
front_in [] rest h = refl
front_in (x ∷ []) rest h = line_last x 10 rest h.0 refl
front_in (x ∷ y ∷ line) rest h = line_more x (y ∷ (line ++ 10 ∷ rest)) h.0 (ne_eqb y 10 h.1.0) ∙ ap (first_more x) (front_in (y ∷ line) rest h.1)

no_end_at : (line : Text) → IsOneLine line → (k : ℕ) → k < length line → get_or line k 0 ≢ 10
no_end_at [] h k l = absurd (omega arith)
no_end_at (x ∷ line) h zero l = h.0
no_end_at (x ∷ line) h (suc k) l = no_end_at line h.1 k (omega arith)

some_octets : (line : Text) → line ≢ [] → 0 < length line
some_octets [] n = absurd (n refl)
some_octets (x ∷ line) n = omega arith

pub lines_end_by_line_feeds : LinesEndByLineFeeds
lines_end_by_line_feeds = record {
  front = front_in;
  last = λ line n h. lines_one line (some_octets line n) (no_end_at line h);
  none = refl;
}
