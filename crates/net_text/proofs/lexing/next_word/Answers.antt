use Rattle.std.proofs.Common.{◌≡◌, ℕ, zero, suc, ◌<◌, ◌==◌, ◌∷◌, [], true, false, length, get_or, refl, sym, ◌∙◌, arith}
use Rattle.std.proofs.lemmas.Bool.{eqb-false}
use Rattle.net_text.specs.Lexing.{Text, is_blank, IsWordNext}
use Rattle.net_text.proofs.LexLemmas.{words_cut}
use Rattle.net_text.proofs.lexing.next_word.Goals as goal

-- the place of a blank is not the first one
first_is_none : (w : Text) (i : ℕ) → (length w == 0) ≡ false → IsWordNext w → (i < length w → is_blank (get_or w i 0) ≡ true) → 0 < i
first_is_none [] i some first at = absurd (eqb-false 0 0 some refl)
first_is_none (x ∷ xs) zero some first at = let t = at (omega arith) in absurd (let both = sym first ∙ t in cc)
first_is_none (x ∷ xs) (suc i) some first at = omega arith

pub returns-clause-some : goal.returns-clause-some
returns-clause-some c =
    let left = c.skip_blanks-left.result.now in
    rw (← c.skip_blanks-left.ensures.words, c.split_at.ensures.front, c.split_at.ensures.back)
    (words_cut left c.word_len.result (first_is_none left c.word_len.result (sym c.is_empty.ensures ∙ c.if-is_empty.false) c.skip_blanks-left.ensures.first c.word_len.ensures.found)
    c.word_len.ensures.bound c.word_len.ensures.before c.word_len.ensures.found)
