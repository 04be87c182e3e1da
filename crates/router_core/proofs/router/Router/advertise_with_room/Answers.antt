use Rattle.router_core.proofs.Advertising.{is_blocked, tells}
use Rattle.router_core.proofs.router.Router.advertise_with_room.Goals as goal

pub returns-in-Blocked-clause-answers : goal.returns-in-Blocked-clause-answers
returns-in-Blocked-clause-answers c = λ g e ranks. is_blocked g c.args.self.now e c.in-Blocked.peer c.in-Blocked.ensures

pub returns-in-Peer-clause-answers : goal.returns-in-Peer-clause-answers
returns-in-Peer-clause-answers c = λ g e ranks.
    let found = c.in-Peer.ensures.0 in
    tells g c.args.self.now e c.tell.result found.peer c.in-Peer.prefix c.tell.new.self found.waits c.in-Peer.ensures.1 (c.tell.ensures.tells found.peer found.place)
