use Rattle.std.proofs.Common.{arith, refl, inr}
use Rattle.std.proofs.lemmas.Result.{err_from_is_err_and}
use Rattle.bgp_codec.proofs.WritingLemmas.{length-written}
use Rattle.bgp_codec.proofs.writing.encode.Goals as goal

pub returns-then-len-gt-MOST_BODY-clause-too_long : goal.returns-then-len-gt-MOST_BODY-clause-too_long
returns-then-len-gt-MOST_BODY-clause-too_long c = (λ _. omega (arith, length-written c.args.rule.now.width c.args.message.now), λ _. refl)

pub returns-in_err-reserve-clause-too_long : goal.returns-in_err-reserve-clause-too_long
returns-in_err-reserve-clause-too_long c =
    let p = err_from_is_err_and c.from_residual.result c.from_residual.ensures.1 in
    rw (p.1, p.2) (λ e. absurd cc, λ h. absurd (omega (arith, length-written c.args.rule.now.width c.args.message.now)))

pub returns-in_err-reserve-clause-only : goal.returns-in_err-reserve-clause-only
returns-in_err-reserve-clause-only c =
    let p = err_from_is_err_and c.from_residual.result c.from_residual.ensures.1 in
    rw (p.1, p.2) (inr (refl, omega (arith, length-written c.args.rule.now.width c.args.message.now, c.in_err-reserve.ensures.full)))

pub returns-clause-too_long : goal.returns-clause-too_long
returns-clause-too_long c = (λ e. absurd cc, λ h. absurd (omega (arith, length-written c.args.rule.now.width c.args.message.now)))

pub put_message-requires-clause-fits : goal.put_message-requires-clause-fits
put_message-requires-clause-fits c = omega (arith, length-written c.args.rule.now.width c.args.message.now, c.body_len-len.ensures, c.if-len-gt-MOST_BODY.false)

pub put_message-requires-clause-room : goal.put_message-requires-clause-room
put_message-requires-clause-room c =
    omega (arith, length-written c.args.rule.now.width c.args.message.now, c.body_len-len.ensures, c.if-len-gt-MOST_BODY.false, c.in_ok-reserve.ensures.ok, c.in_ok-reserve.ensures.len)
