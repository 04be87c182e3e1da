use Rattle.std.proofs.Common.{◌≢◌, take, get_or, eqb, Decides}
use Rattle.std.specs.List.{Contains}
use Rattle.std.proofs.lemmas.List.{get_or_default}
use Rattle.std.proofs.lemmas.List.Elements.{contains_decides, Decides-contains}
use Rattle.std.proofs.lemmas.Bool.Decides.{Decides-eqb, not_from_Decides}
use Rattle.ranked_policy.proofs.Loops.{pairs_more, pairs_done, apart_from}
use Rattle.ranked_policy.proofs.policy.is_simple.Goals as goal

pub loop-i-preserved : goal.loop-i-preserved
loop-i-preserved c =
    let path = c.args.path.now in
    let i = c.loop-i.i in
    let x = get_or path i 0 in
    let says : Decides c.contains.result (Contains (take i path) x) =
    Decides-contains (take i path) x c.contains.result (contains_decides eqb Decides-eqb (take i path) x c.contains.result (rw c.split_at.ensures.front at c.contains.ensures.cases)) in
    pairs_more (λ u v. u ≢ v) path i x c.loop-i-test.true (get_or_default path i 0 x c.loop-i-test.true) c.loop-i.invariant
    (apart_from (take i path) x (not_from_Decides c.contains.result says c.if-contains.false))

pub returns : goal.returns
returns c = pairs_done (λ u v. u ≢ v) c.args.path.now c.loop-i.i c.loop-i-test.false c.loop-i.invariant
