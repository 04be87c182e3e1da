use Rattle.std.proofs.Common.{◌≤◌, ◌∙◌, length, arith, ap, sym}
use Rattle.std.proofs.lemmas.Bool.Decides.{nat_tests}
use Rattle.bgp_codec.specs.declared.message.Message.TheVariants.{UpdateMsg}
use Rattle.bgp_codec.specs.declared.update.Update.{Update}
use Rattle.bgp_codec.specs.Spelling.{written}
use Rattle.router_side.proofs.Spelt.{withdrawal_length, announcement_length, telling_none, telling_some}
use Rattle.router_side.proofs.told_path.ToldPath.len.Goals as goal

pub returns-then-is_empty : goal.returns-then-is_empty
returns-then-is_empty c =
    let path = c.self.inside.path in
    let none : length path ≤ 0 = grind (arith, nat_tests, c.is_empty.ensures, c.if-is_empty.true, c.as_slice-path.ensures) in
    rw (c.octet_count-count.ensures, c.len.ensures.value)
    (withdrawal_length c.args.width c.self.inside.prefix c.len.ensures.canonical
    ∙ ap (λ (u : Update). length (written c.args.width (UpdateMsg u))) (sym (telling_none c.self.inside.id c.self.inside.prefix path none) ∙ c.self.view_is))

pub returns-else-is_empty : goal.returns-else-is_empty
returns-else-is_empty c =
    let path = c.self.inside.path in
    let some : 1 ≤ length path = grind (arith, nat_tests, c.is_empty.ensures, c.if-is_empty.false, c.as_slice-path.ensures) in
    let whole = announcement_length c.args.width c.self.inside.id c.self.inside.prefix path c.len.ensures.canonical c.self.invariant in
    let same = ap (λ (u : Update). length (written c.args.width (UpdateMsg u))) (sym (telling_some c.self.inside.id c.self.inside.prefix path some) ∙ c.self.view_is) in
    rw (c.octet_count-count.ensures, c.len.ensures.value, c.asn_size.ensures, c.as_slice-path.ensures) (omega (arith, whole, same))
