-- what is left, done to what there is now, is all, done to what was first
use Rattle.std.proofs.Common.{◌≡◌, ◌≤◌, ◌+◌, ◌*◌, drop, length}
use Rattle.router_model.specs.Sides.{apply_all}
use Rattle.router_side.specs.Drafts.{draft, hand}
use Rattle.router_side.proofs.draft.SideDraft.react.Given as goal

abbrev pub invariant-loop-action : goal.invariant-loop-action
invariant-loop-action l = record {
  done : apply_all l.own_open (hand l.given) (draft l.own_open (hand l.given) l.self) (drop l.action-index l.action-items) ≡ apply_all l.own_open (hand l.given) (draft l.own_open (hand l.given) l.initial.self) l.action-items;
  few : length l.self.says ≤ length l.initial.self.says + 5 * l.action-index;
}
