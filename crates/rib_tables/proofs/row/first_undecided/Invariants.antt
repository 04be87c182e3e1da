-- as many of the first places are out of the set as were taken, and the others have their best as before
use Rattle.std.proofs.Common.{◌≡◌, ◌<◌, ℕ, false}
use Rattle.ranked_policy.specs.Plans.{Plan}
use Rattle.rib_tables.specs.Places.{has}
use Rattle.rib_tables.specs.Rows.{AreDecided, AreJudged}
use Rattle.rib_tables.proofs.row.first_undecided.Given as goal

abbrev pub invariant-loop : goal.invariant-loop
invariant-loop l = record {
  clear : (j : ℕ) → j < l.counter → has l.dirty j ≡ false;
  decided : (net : Plan) → AreJudged net l.router l.peers l.rows → AreDecided net l.router l.peers l.rows l.fn.dirty → AreDecided net l.router l.peers l.rows l.dirty;
}
