use Rattle.std.proofs.Common.{◌≡◌, ◌≢◌, ℕ, ◌+◌, ◌-◌, List, length, get_or, sym, subst, arith}
use Rattle.net_text.proofs.LexLemmas.{return_last, return_not}
use Rattle.net_text.proofs.lexing.chomp.Goals as goal
use Rattle.net_text.proofs.lexing.chomp.Goals.{then-end-eq0-via-then-end-eq0, then-end-eq0-via-else-end-eq0+then-line-end-ne13}

last_is : (w : List ℕ) (i : ℕ) → i + 1 ≡ length w → get_or w (length w - 1) 0 ≢ 13 → get_or w i 0 ≢ 13
last_is w i e h = let at : length w - 1 ≡ i = omega arith in subst (λ (k : ℕ). get_or w k 0 ≢ 13) at h

pub returns-then-end-eq0 : goal.returns-then-end-eq0
returns-then-end-eq0 c =
    elim c.then-end-eq0.branch [
      | then-end-eq0-via-then-end-eq0 w ↦ sym (return_not c.args.line.now (λ i e. absurd (omega (arith, w.if-end-eq0.true))))
      | then-end-eq0-via-else-end-eq0+then-line-end-ne13 w ↦ sym (return_not c.args.line.now (λ i e. last_is c.args.line.now i e w.if-line-end-ne13.true))
    ]

pub returns : goal.returns
returns c = rw c.split_at.ensures.front (sym (return_last c.args.line.now (length c.args.line.now - 1) (omega (arith, c.if-end-eq0.false)) c.if-line-end-ne13.false))
