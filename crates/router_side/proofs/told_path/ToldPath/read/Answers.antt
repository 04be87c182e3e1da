use Rattle.std.proofs.Common.{◌∙◌, ap, sym, subst}
use Rattle.bgp_codec.specs.Updates.{begins_with}
use Rattle.router_side.specs.Acting.{IsToldBy}
use Rattle.router_side.proofs.Acting.{withdrawal_told, path_told}
use Rattle.router_side.proofs.told_path.ToldPath.read.Goals as goal

pub returns-in-Some : goal.returns-in-Some
returns-in-Some c =
    let path = c.in_ok-path.path in
    path_told c.a_peers_writing_is_read.ensures c.args.width c.args.peer c.args.frame.now c.told_updates_are_sayable.ensures _ _ _ path c.in-Some.ensures c.in_ok-path.ensures.numbers c.in_ok-path.ensures.whole
    (ap (begins_with c.args.peer) c.in_ok-path.ensures.numbers ∙ sym c.begin_with.ensures ∙ c.if-not-begin_with.false)

pub returns-in_ok-new-in-Some-withdrawn : goal.returns-in_ok-new-in-Some-withdrawn
returns-in_ok-new-in-Some-withdrawn c =
    let q = c.in-Some-withdrawn.prefix in
    let w = c.in-Some-withdrawn.ensures in
    subst (IsToldBy c.args.width c.args.peer c.args.frame.now) (sym c.in_ok-new-in-Some-withdrawn.ensures.ok)
    (withdrawal_told c.a_peers_writing_is_read.ensures c.args.width c.args.peer c.args.frame.now c.told_updates_are_sayable.ensures q w.0 w.1)
