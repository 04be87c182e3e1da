use Rattle.std.proofs.Common.{◌++◌, ◌≤◌, ◌∙◌, length, arith, ap, sym, subst}
use Rattle.std.proofs.lemmas.Bool.Decides.{nat_tests}
use Rattle.bgp_codec.specs.declared.message.Message.TheVariants.{UpdateMsg}
use Rattle.bgp_codec.specs.declared.update.Update.{Update}
use Rattle.bgp_codec.specs.Spelling.{written}
use Rattle.router_side.specs.Histories.{PutsBehind}
use Rattle.router_side.specs.Sayings.{IsSayable}
use Rattle.router_side.proofs.Spelt.{withdrawal_length, announcement_length, telling_none, telling_some, numbers_fit}
use Rattle.router_side.proofs.told_path.ToldPath.put.Goals as goal

pub put_withdrawal-requires : goal.put_withdrawal-requires
put_withdrawal-requires c =
    let path = c.self.inside.path in
    let none : length path ≤ 0 = grind (arith, nat_tests, c.is_empty.ensures, c.if-is_empty.true, c.as_slice-path.ensures) in
    let whole = withdrawal_length c.args.width c.self.inside.prefix c.len-len.ensures.canonical in
    let same = ap (λ (u : Update). length (written c.args.width (UpdateMsg u))) (sym (telling_none c.self.inside.id c.self.inside.prefix path none) ∙ c.self.view_is) in
    record { room = omega (arith, whole, same, c.requires.room) }

pub put_announcement-requires-clause-fit : goal.put_announcement-requires-clause-fit
put_announcement-requires-clause-fit c =
    let path = c.self.inside.path in
    rw c.as_slice-path.ensures
    (numbers_fit c.args.width c.self.inside.id c.self.inside.prefix path (subst (λ (u : Update). IsSayable c.args.width (UpdateMsg u)) (sym c.self.view_is) c.requires.sayable))

pub put_announcement-requires-clause-room : goal.put_announcement-requires-clause-room
put_announcement-requires-clause-room c =
    let path = c.self.inside.path in
    let some : 1 ≤ length path = grind (arith, nat_tests, c.is_empty.ensures, c.if-is_empty.false, c.as_slice-path.ensures) in
    let whole = announcement_length c.args.width c.self.inside.id c.self.inside.prefix path c.len-len.ensures.canonical c.self.invariant in
    let same = ap (λ (u : Update). length (written c.args.width (UpdateMsg u))) (sym (telling_some c.self.inside.id c.self.inside.prefix path some) ∙ c.self.view_is) in
    rw c.as_slice-path.ensures (omega (arith, whole, same, c.requires.room))

pub returns-then-is_empty : goal.returns-then-is_empty
returns-then-is_empty c =
    let path = c.self.inside.path in
    let none : length path ≤ 0 = grind (arith, nat_tests, c.is_empty.ensures, c.if-is_empty.true, c.as_slice-path.ensures) in
    c.put_withdrawal.ensures c.args.width
    ∙ ap (λ (u : Update). c.args.out.now.items ++ written c.args.width (UpdateMsg u)) (sym (telling_none c.self.inside.id c.self.inside.prefix path none) ∙ c.self.view_is)

pub returns : goal.returns
returns c =
    let path = c.self.inside.path in
    let some : 1 ≤ length path = grind (arith, nat_tests, c.is_empty.ensures, c.if-is_empty.false, c.as_slice-path.ensures) in
    let put = rw c.as_slice-path.ensures at c.put_announcement.ensures in
    subst (λ (u : Update). PutsBehind c.put_announcement.result (written c.args.width (UpdateMsg u)) c.args.out.now.items c.put_announcement.new.out.items)
    (sym (telling_some c.self.inside.id c.self.inside.prefix path some) ∙ c.self.view_is) put
