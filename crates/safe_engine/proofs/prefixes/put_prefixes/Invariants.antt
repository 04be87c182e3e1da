-- of the origins that were passed each has its answer, the last one that which is kept
use Rattle.std.proofs.Common.{take}
use Rattle.std.specs.Prelude.{IfSome}
use Rattle.safe_engine.specs.Answers.{IsLast, PutsAnswers}
use Rattle.safe_engine.proofs.prefixes.put_prefixes.Given as goal

abbrev pub invariant-loop-origin : goal.invariant-loop-origin
invariant-loop-origin l = record {
  answered : PutsAnswers l.network l.most (take l.origin-index l.network.origins) l.fn.out.items l.out.items l.known;
  last : IfSome l.last (IsLast l.network l.most);
}
