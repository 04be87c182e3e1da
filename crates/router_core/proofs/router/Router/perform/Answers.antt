use Rattle.std.proofs.Common.{refl}
use Rattle.router_model.specs.declared.command.Command.TheVariants.{Start, Stop, Reset}
use Rattle.router_core.proofs.router.Router.perform.Goals as goal

-- each command is answered by its own call
pub returns-in-Obey-Start-clause-answers : goal.returns-in-Obey-Start-clause-answers
returns-in-Obey-Start-clause-answers c =
    let field = rw c.in-Obey-Start.is at c.in-Obey-Start.field-0-is in
    rw (c.in-Obey-Start.is, field) (c.command_peer.ensures.answers (Start c.in-Obey-Start.peer) refl)

pub returns-in-Obey-Stop-clause-answers : goal.returns-in-Obey-Stop-clause-answers
returns-in-Obey-Stop-clause-answers c =
    let field = rw c.in-Obey-Stop.is at c.in-Obey-Stop.field-0-is in
    rw (c.in-Obey-Stop.is, field) (c.command_peer-in-Obey-Stop.ensures.answers (Stop c.in-Obey-Stop.peer) refl)

pub returns-in-Obey-Reset-clause-answers : goal.returns-in-Obey-Reset-clause-answers
returns-in-Obey-Reset-clause-answers c =
    let field = rw c.in-Obey-Reset.is at c.in-Obey-Reset.field-0-is in
    rw (c.in-Obey-Reset.is, field) (c.command_peer-in-Obey-Reset.ensures.answers (Reset c.in-Obey-Reset.peer) refl)

pub returns-in-Obey-Originate-clause-answers : goal.returns-in-Obey-Originate-clause-answers
returns-in-Obey-Originate-clause-answers c =
    let field = rw c.in-Obey-Originate.is at c.in-Obey-Originate.field-0-is in
    rw (c.in-Obey-Originate.is, field) c.originate.ensures.answers

pub returns-in-Obey-Withdraw-clause-answers : goal.returns-in-Obey-Withdraw-clause-answers
returns-in-Obey-Withdraw-clause-answers c =
    let field = rw c.in-Obey-Withdraw.is at c.in-Obey-Withdraw.field-0-is in
    rw (c.in-Obey-Withdraw.is, field) c.withdraw.ensures.answers

pub returns-in-Obey-Snapshot-clause-answers : goal.returns-in-Obey-Snapshot-clause-answers
returns-in-Obey-Snapshot-clause-answers c =
    let field = rw c.in-Obey-Snapshot.is at c.in-Obey-Snapshot.field-0-is in
    rw (c.in-Obey-Snapshot.is, field) c.snapshot.ensures.answers

pub returns-in-Obey-Restart-clause-answers : goal.returns-in-Obey-Restart-clause-answers
returns-in-Obey-Restart-clause-answers c =
    let field = rw c.in-Obey-Restart.is at c.in-Obey-Restart.field-0-is in
    rw (c.in-Obey-Restart.is, field) c.restart.ensures.answers

pub returns-in-Tick-clause-answers : goal.returns-in-Tick-clause-answers
returns-in-Tick-clause-answers c = rw c.in-Tick.is c.tick_with_room.ensures.answers

pub returns-in-Handle-clause-answers : goal.returns-in-Handle-clause-answers
returns-in-Handle-clause-answers c = rw c.in-Handle.is c.handle_with_room.ensures.answers

pub returns-in-Decide-clause-answers : goal.returns-in-Decide-clause-answers
returns-in-Decide-clause-answers c = rw c.in-Decide.is c.decide_with_room.ensures.answers

pub returns-in-Advertise-clause-answers : goal.returns-in-Advertise-clause-answers
returns-in-Advertise-clause-answers c = rw c.in-Advertise.is c.advertise_with_room.ensures.answers
