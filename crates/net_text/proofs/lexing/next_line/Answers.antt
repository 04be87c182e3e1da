use Rattle.std.proofs.Common.{◌≡◌, ℕ, ◌+◌, ◌-◌, ◌<◌, length, drop, ap, sym, ◌∙◌, arith, take-append-drop}
use Rattle.std.proofs.lemmas.List.{length-drop}
use Rattle.net_text.specs.Lexing.{Text}
use Rattle.net_text.proofs.LexLemmas.{lines_cut, lines_front, lines_one}
use Rattle.net_text.proofs.lexing.next_line.Goals as goal

-- what is behind place n
front_len : (w : Text) (n : ℕ) (rest : Text) → rest ≡ drop n w → n < length w + 1 → length w - length rest ≡ n
front_len w n rest is le = let size = ap length is ∙ length-drop n w in omega (arith, size)

pub returns-then-end-text-clause-lines : goal.returns-then-end-text-clause-lines
returns-then-end-text-clause-lines c = lines_one c.args.text.now c.requires (λ k l. c.place_of-end.ensures.before k (omega (arith, c.if-end-text.true)))

pub returns-clause-lines : goal.returns-clause-lines
returns-clause-lines c =
    rw (c.chomp.ensures, c.split_at.ensures.front, c.split_at-2.ensures.back)
    (lines_cut c.args.text.now c.place_of-end.result (omega (arith, c.if-end-text.false, c.place_of-end.ensures.bound)) (c.place_of-end.ensures.found (omega (arith, c.if-end-text.false, c.place_of-end.ensures.bound))) c.place_of-end.ensures.before)

pub returns-clause-whole : goal.returns-clause-whole
returns-clause-whole c =
    let n = front_len c.args.text.now (c.place_of-end.result + 1) c.split_at-2.result.1.now c.split_at-2.ensures.back (omega (arith, c.if-end-text.false, c.place_of-end.ensures.bound)) in
    rw n (rw c.split_at-2.ensures.back (sym (take-append-drop (c.place_of-end.result + 1) c.args.text.now)))

pub returns-clause-others : goal.returns-clause-others
returns-clause-others c = λ more some.
    let n = front_len c.args.text.now (c.place_of-end.result + 1) c.split_at-2.result.1.now c.split_at-2.ensures.back (omega (arith, c.if-end-text.false, c.place_of-end.ensures.bound)) in
    rw (n, c.chomp.ensures, c.split_at.ensures.front)
    (lines_front c.args.text.now c.place_of-end.result more (omega (arith, c.if-end-text.false, c.place_of-end.ensures.bound)) (c.place_of-end.ensures.found (omega (arith, c.if-end-text.false, c.place_of-end.ensures.bound))) c.place_of-end.ensures.before)
