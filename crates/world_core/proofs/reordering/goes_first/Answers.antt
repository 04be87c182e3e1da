use Rattle.std.proofs.Common.{◌≡◌, true, false, ap, sym, ◌∙◌, Bool}
use Rattle.std.specs.Prelude.{ltb, ◌||◌}
use Rattle.world_core.proofs.Counting.{put_says, other_first}
use Rattle.world_core.proofs.reordering.goes_first.Goals as goal

inside_or : (b t : Bool) → b ≡ true → b ≡ (b || t)
inside_or b t h = h ∙ ap (λ k. k || t) (sym h)

needed_or : (b t : Bool) → b ≡ false → t ≡ (b || t)
needed_or b t h = ap (λ k. k || t) (sym h)

pub returns-in_default : goal.returns-in_default
returns-in_default c = other_first c.args.needed.now c.args.put.now c.args.is_inside c.args.event.now c.in_default.not-Put

pub returns-then-is_inside : goal.returns-then-is_inside
returns-then-is_inside c =
    put_says c.args.needed.now c.args.put.now c.add.new.self c.args.is_inside (ltb c.at.result c.at-2.result) c.args.is_inside c.in-Put.from c.in-Put.to c.args.event.now c.in-Put.is
    (λ i. ltb (c.at.ensures i) (c.at-2.ensures i)) (inside_or c.args.is_inside (ltb c.at.result c.at-2.result) c.if-is_inside.true) c.in_ok-add.ensures

pub returns-else-is_inside : goal.returns-else-is_inside
returns-else-is_inside c =
    put_says c.args.needed.now c.args.put.now c.add.new.self c.args.is_inside (ltb c.at.result c.at-2.result) (ltb c.at.result c.at-2.result) c.in-Put.from c.in-Put.to c.args.event.now c.in-Put.is
    (λ i. ltb (c.at.ensures i) (c.at-2.ensures i)) (needed_or c.args.is_inside (ltb c.at.result c.at-2.result) c.if-is_inside.false) c.in_ok-add.ensures
