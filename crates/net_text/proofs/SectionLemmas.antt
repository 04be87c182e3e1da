-- A text up to the line that parts it.
use Rattle.std.proofs.Common.{◌≡◌, ℕ, ◌+◌, ◌-◌, ◌<◌, true, false, List, [], ◌∷◌, ◌++◌, length, take, refl, sym, ap, ◌∙◌, arith, append_assoc}
use Rattle.std.proofs.lemmas.Bool.{cond-true, cond-false}
use Rattle.std.proofs.lemmas.List.{append-nil, length-append, take-append-le, take_all}
use Rattle.net_text.specs.Lexing.{Text, lines_of, is_section, before_section, behind_section}

-- the lines passed: none is the one that is looked for, and others could follow them in place of those that are left
pub record Passed (name text left : Text) (before : ℕ) : Type 0 where
  pub passed : Text
  pub whole : text ≡ passed ++ left
  pub others : (more : Text) → 0 < length left → lines_of (passed ++ more) ≡ lines_of passed ++ lines_of more
  pub lines : lines_of text ≡ lines_of passed ++ lines_of left
  pub front : before_section name (lines_of text) ≡ lines_of passed ++ before_section name (lines_of left)
  pub behind : behind_section name (lines_of text) ≡ behind_section name (lines_of left)
  pub counted : length (lines_of passed) ≡ before

pub passed_none : (name text : Text) → Passed name text text 0
passed_none name text = record { passed = []; whole = refl; others = λ more some. refl; lines = refl; front = refl; behind = refl; counted = refl }

-- what a line's octets are as a text
one_line : (j left rest line : Text) → left ≡ j ++ rest → lines_of left ≡ line ∷ lines_of rest → ((more : Text) → 0 < length rest → lines_of (j ++ more) ≡ line ∷ lines_of more) → lines_of j ≡ line ∷ []
one_line j left [] line w l o = ap lines_of (sym (append-nil j)) ∙ ap lines_of (sym w) ∙ l
one_line j left (x ∷ xs) line w l o = ap lines_of (sym (append-nil j)) ∙ o [] (omega arith)

pub passed_on : (name text left rest line j : Text) (before : ℕ) → 0 < length left → left ≡ j ++ rest → lines_of left ≡ line ∷ lines_of rest
    → ((more : Text) → 0 < length rest → lines_of (j ++ more) ≡ line ∷ lines_of more) → is_section name line ≡ false → Passed name text left before → Passed name text rest (before + 1)
passed_on name text left rest line j before some w l o f h =
    let one : lines_of (h.passed ++ j) ≡ lines_of h.passed ++ line ∷ [] = h.others j some ∙ ap (λ (ls : List Text). lines_of h.passed ++ ls) (one_line j left rest line w l o) in
    let on : (ls : List Text) → lines_of h.passed ++ line ∷ ls ≡ lines_of (h.passed ++ j) ++ ls = λ ls. sym (append_assoc (lines_of h.passed) (line ∷ []) ls) ∙ ap (λ (ks : List Text). ks ++ ls) (sym one) in
    record {
      passed = h.passed ++ j;
      whole = h.whole ∙ ap (λ (v : Text). h.passed ++ v) w ∙ sym (append_assoc h.passed j rest);
      others = λ more more_left. ap lines_of (append_assoc h.passed j more) ∙ h.others (j ++ more) some ∙ ap (λ (ls : List Text). lines_of h.passed ++ ls) (o more more_left) ∙ on (lines_of more);
      lines = h.lines ∙ ap (λ (ls : List Text). lines_of h.passed ++ ls) l ∙ on (lines_of rest);
      front = h.front ∙ ap (λ (ls : List Text). lines_of h.passed ++ before_section name ls) l
          ∙ ap (λ (ls : List Text). lines_of h.passed ++ ls) (cond-false (is_section name line) [] (line ∷ before_section name (lines_of rest)) f) ∙ on (before_section name (lines_of rest));
      behind = h.behind ∙ ap (behind_section name) l ∙ cond-false (is_section name line) (lines_of rest) (behind_section name (lines_of rest)) f;
      counted = ap length one ∙ length-append (lines_of h.passed) (line ∷ []) ∙ ap (λ n. n + 1) h.counted;
    }

-- the octets passed
pub passed_is : (name text left : Text) (before : ℕ) (h : Passed name text left before) → take (length text - length left) text ≡ h.passed
passed_is name text left before h =
    let size = ap length h.whole in
    let sum = length-append h.passed left in
    let n : length text - length left ≡ length h.passed = omega (arith, size, sum) in
    ap (λ n. take n text) n ∙ ap (take (length h.passed)) h.whole ∙ take-append-le (length h.passed) h.passed left (omega arith) ∙ take_all (length h.passed) h.passed (omega arith)

pub found_front : (name text left rest line : Text) (before : ℕ) → lines_of left ≡ line ∷ lines_of rest → is_section name line ≡ true → Passed name text left before
    → lines_of (take (length text - length left) text) ≡ before_section name (lines_of text)
found_front name text left rest line before l t h =
    ap lines_of (passed_is name text left before h)
    ∙ sym (h.front ∙ ap (λ (ls : List Text). lines_of h.passed ++ before_section name ls) l
    ∙ ap (λ (ls : List Text). lines_of h.passed ++ ls) (cond-true (is_section name line) [] (line ∷ before_section name (lines_of rest)) t) ∙ append-nil (lines_of h.passed))

pub found_behind : (name text left rest line : Text) (before : ℕ) → lines_of left ≡ line ∷ lines_of rest → is_section name line ≡ true → Passed name text left before
    → lines_of rest ≡ behind_section name (lines_of text)
found_behind name text left rest line before l t h = sym (h.behind ∙ ap (behind_section name) l ∙ cond-true (is_section name line) (lines_of rest) (behind_section name (lines_of rest)) t)

pub found_before : (name text left rest line : Text) (before : ℕ) → lines_of left ≡ line ∷ lines_of rest → Passed name text left before → before + 1 + length (lines_of rest) ≡ length (lines_of text)
found_before name text left rest line before l h =
    let size = ap length (h.lines ∙ ap (λ (ls : List Text). lines_of h.passed ++ ls) l) in
    let sum = length-append (lines_of h.passed) (line ∷ lines_of rest) in
    omega (arith, size, sum, h.counted)

-- no line parts the text
pub none_front : (name text left : Text) (before : ℕ) → lines_of left ≡ [] → Passed name text left before → lines_of text ≡ before_section name (lines_of text)
none_front name text left before e h = h.lines ∙ ap (λ (ls : List Text). lines_of h.passed ++ ls) e ∙ sym (h.front ∙ ap (λ (ls : List Text). lines_of h.passed ++ before_section name ls) e)

pub none_behind : (name text left : Text) (before : ℕ) → lines_of left ≡ [] → Passed name text left before → [] ≡ behind_section name (lines_of text)
none_behind name text left before e h = sym (h.behind ∙ ap (behind_section name) e)

pub none_before : (name text left : Text) (before : ℕ) → lines_of left ≡ [] → Passed name text left before → before + 0 ≡ length (lines_of text)
none_before name text left before e h =
    let size = ap length (h.lines ∙ ap (λ (ls : List Text). lines_of h.passed ++ ls) e ∙ append-nil (lines_of h.passed)) in
    omega (arith, size, h.counted)
