use Rattle.router_tests.proofs.tests.sides.meets.Goals as goal

-- the OPEN can be said with numbers of each width
pub reserve-requires-clause-own : goal.reserve-requires-clause-own
reserve-requires-clause-own c = c.requires.own c.args.side.now.width
