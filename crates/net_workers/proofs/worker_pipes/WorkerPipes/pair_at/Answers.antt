use Rattle.std.proofs.Common.{arith, refl}
use Rattle.std.proofs.lemmas.Option.{slice_get_within}
use Rattle.net_workers.proofs.Lanes.{pair_there, stands_is}
use Rattle.net_workers.proofs.worker_pipes.WorkerPipes.pair_at.Goals as goal

pub index-at-requires : goal.index-at-requires
index-at-requires c = (let below = slice_get_within c.args.self.now.order.items c.args.peer_at _ c.requires in omega (arith, below))

pub returns-then-at-len : goal.returns-then-at-len
returns-then-at-len c =
    let e = c.args.self.now in
    (pair_there e.pairs.items c.args._peer c.index-at.result.now _ refl (stands_is e c.args.peer_at c.args._peer c.index-at.result.now c.requires c.index-at.ensures)).0 (omega (arith, c.if-at-len.true, c.len.ensures))

pub returns : goal.returns
returns c =
    let e = c.args.self.now in
    (pair_there e.pairs.items c.args._peer c.index-at.result.now _ refl (stands_is e c.args.peer_at c.args._peer c.index-at.result.now c.requires c.index-at.ensures)).1 (omega (arith, c.if-at-len.false, c.len.ensures))
