use Rattle.text_engines.proofs.DigitLemmas.{both_read, first_and_rest, on_ok}
use Rattle.text_engines.proofs.digits.Digits.extend.Goals as goal

pub append-requires : goal.append-requires
append-requires c = c.in_ok-complete-in-Some-len1-up.ensures.whole

pub returns-in_ok-complete-in-Some-len1-up : goal.returns-in_ok-complete-in-Some-len1-up
returns-in_ok-complete-in-Some-len1-up c =
    on_ok c.append.result (λ more taken before has.
    both_read before _ _ c.args.digits.now _ _ _ (first_and_rest c.args.digits.now c.in-Some-len1-up.len_at_least) (more taken _ (c.in_ok-complete-in-Some-len1-up.ensures.read taken before has))) c.append.ensures
