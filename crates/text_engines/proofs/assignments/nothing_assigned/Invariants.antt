-- as many as were counted, each of no path
use Rattle.text_engines.specs.Checking.{AssignNothing}
use Rattle.text_engines.proofs.assignments.nothing_assigned.Given as goal

abbrev pub invariant-loop : goal.invariant-loop
invariant-loop l = AssignNothing l.counter l.all.items
