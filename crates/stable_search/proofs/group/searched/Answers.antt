use Rattle.std.proofs.Common.{List, ℕ, length, ap, subst, arith, inl, inr}
use Rattle.stable_search.specs.Picks.{IsFull}
use Rattle.stable_search.proofs.GroupLemmas.{all_of}
use Rattle.stable_search.proofs.group.searched.Goals as goal

pub returns-in-Ok-clause-all : goal.returns-in-Ok-clause-all
returns-in-Ok-clause-all c = all_of c.args.ways.now c.args.sets.items c.new-found.result.items c.search.new.found.items c.new-found.ensures.items c.in-Ok.ensures.all

pub returns-in-Ok-clause-most : goal.returns-in-Ok-clause-most
returns-in-Ok-clause-most c = c.in-Ok.ensures.most (let none = ap length c.new-found.ensures.items in omega (arith, none))

pub returns-in-Err-clause-refused : goal.returns-in-Err-clause-refused
returns-in-Err-clause-refused c = (
  c.in-Err.stop,
  c.refusal.ensures,
  elim c.in-Err.ensures.stopped [
    | inl full ↦ inl (subst (λ (xs : List (List ℕ)). IsFull c.args.ways.now c.args.sets.items c.args.limits.now.most xs c.in-Err.stop) c.new-found.ensures.items full)
    | inr steps ↦ inr steps.0
  ],
)
