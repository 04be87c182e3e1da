use Rattle.std.proofs.Common.{ℕ, length, ap, ◌∙◌}
use Rattle.router_side.specs.Layout.{withdrawal_front}
use Rattle.router_side.proofs.Acting.{withdrawal_in}
use Rattle.router_side.proofs.told_path.withdrawn.Goals as goal

pub returns-then-are-2 : goal.returns-then-are-2
returns-then-are-2 c =
    let q = c.in_ok-prefix.prefix in
    let octets = c.in_ok-address.address.now in (
      c.in_ok-prefix.ensures.canonical,
      withdrawal_in c.args.frame.now c.in_ok-front.front.now c.in_ok-front.rest.now octets c.in_ok-address.end.now 22 c.in_ok-checked_sub.field-0 q c.in_ok-prefix.ensures.canonical c.in_ok-front.ensures.cases c.in_ok-address.ensures.cases c.in_ok-prefix.ensures.octets
          (c.are.ensures c.if-are.true ∙ c.withdrawal_front.ensures ∙ ap (λ (l : ℕ). withdrawal_front l (length octets)) c.len.ensures.value) (c.are-then-are.ensures c.if-are-2.true),
    )
