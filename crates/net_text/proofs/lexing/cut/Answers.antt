use Rattle.std.proofs.Common.{arith}
use Rattle.net_text.proofs.LexLemmas.{parts_cut, parts_one}
use Rattle.net_text.proofs.lexing.cut.Goals as goal

pub returns-then-end-word-clause-none : goal.returns-then-end-word-clause-none
returns-then-end-word-clause-none c = parts_one c.args.separator c.args.word.now (λ k l. c.place_of-end.ensures.before k (omega (arith, c.if-end-word.true)))

pub returns-clause-some : goal.returns-clause-some
returns-clause-some c =
    rw (c.split_at.ensures.front, c.split_at-2.ensures.back)
    (parts_cut c.args.separator c.args.word.now c.place_of-end.result (omega (arith, c.if-end-word.false, c.place_of-end.ensures.bound)) (c.place_of-end.ensures.found (omega (arith, c.if-end-word.false, c.place_of-end.ensures.bound))) c.place_of-end.ensures.before)
