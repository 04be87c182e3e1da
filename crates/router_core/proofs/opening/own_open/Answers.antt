use Rattle.std.proofs.Common.{◌∙◌, refl}
use Rattle.router_core.proofs.Beginnings.{identifier_is, is_unicast_host}
use Rattle.router_core.proofs.opening.own_open.Goals as goal

pub open_message-requires-clause-hold : goal.open_message-requires-clause-hold
open_message-requires-clause-hold c = rw c.settings-settings.ensures.value c.settings-settings.ensures.network.plan.settings.hold

pub open_message-requires-clause-id : goal.open_message-requires-clause-id
open_message-requires-clause-id c =
    let found = rw c.unwrap-router.ensures at c.router.ensures.value in
    is_unicast_host c.args.network.now c.settings-settings.ensures.network c.unwrap-router.result.now found.1

pub returns-clause-open : goal.returns-clause-open
returns-clause-open c =
    let found = rw c.unwrap-router.ensures at c.router.ensures.value in
    let id = identifier_is c.args.network.now c.settings-settings.ensures.network c.unwrap-router.result.now c.args.number found.1 found.0 in
    c.open_message.ensures.open ∙ rw (c.settings-settings.ensures.value, id) refl
