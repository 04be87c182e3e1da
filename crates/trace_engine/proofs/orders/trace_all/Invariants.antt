-- the orders before this one are obeyed and written
use Rattle.std.proofs.Common.{◌≡◌, take}
use denote.Param.{number}
use Rattle.trace_engine.specs.contracts.orders.trace_all.{OCTETS-type}
use Rattle.trace_engine.proofs.CallLemmas.{AreTraced}
use Rattle.trace_engine.proofs.orders.trace_all.Given as goal

abbrev pub invariant-loop-scheduled : goal.invariant-loop-scheduled
invariant-loop-scheduled g l =
    record {
      same : l.world.net ≡ l.fn.world.net;
      done : AreTraced (OCTETS-type (number g.row.OCTETS)) l.fn.world (take l.scheduled-index l.orders) l.fn.tracer.out.items l.world l.tracer.out.items;
    }
