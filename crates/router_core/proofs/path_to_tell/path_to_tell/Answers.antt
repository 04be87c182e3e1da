use Rattle.std.proofs.Common.{◌≡◌, ℕ, arith, sym, subst}
use Rattle.std.specs.Prelude.{IfOk}
use Rattle.std.proofs.lemmas.Result.{IfOk-weaker}
use Rattle.bgp_codec.specs.declared.message.Message.TheVariants.{UpdateMsg}
use Rattle.bgp_codec.specs.declared.update.Update.{Update}
use Rattle.router_model.specs.State.{telling}
use Rattle.router_side.specs.Sayings.{IsSayable}
use Rattle.router_core.proofs.Beginnings.{identifier_is, is_unicast_host, unicast_is}
use Rattle.router_core.proofs.path_to_tell.path_to_tell.Goals as goal

pub new-requires : goal.new-requires
new-requires c = omega (arith, c.requires.tellable.few)

pub returns-clause-update : goal.returns-clause-update
returns-clause-update c =
    let found = rw c.unwrap.ensures at c.router.ensures.value in
    let id = identifier_is c.args.network.now c.requires.network c.unwrap.result.now c.args.number found.1 found.0 in
    subst (λ (i : ℕ). IfOk c.new.result (λ (update : Update). update ≡ telling i c.args.prefix.now c.args.path.now)) (sym id) c.new.ensures.ok

pub returns-clause-sayable : goal.returns-clause-sayable
returns-clause-sayable c =
    let found = rw c.unwrap.ensures at c.router.ensures.value in
    let net = c.args.network.now in
    let id = c.unwrap.result.now.id in
    let q = c.args.prefix.now in
    let path = c.args.path.now in
    let unicast = is_unicast_host net c.requires.network c.unwrap.result.now found.1 in
    let sayable = c.told_updates_are_sayable.ensures net.settings.width id q path (omega (arith, unicast.1)) (unicast_is id unicast) c.len-len.ensures.canonical (omega (arith, c.requires.tellable.few)) c.requires.tellable.short in
    IfOk-weaker c.new.result (λ (update : Update). update ≡ telling id q path) (λ (update : Update). IsSayable net.settings.width (UpdateMsg update))
    (λ update is. subst (λ (u : Update). IsSayable net.settings.width (UpdateMsg u)) (sym is) sayable) c.new.ensures.ok
