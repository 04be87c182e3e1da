use Rattle.std.proofs.Common.{◌≡◌, ◌∷◌, ◌+◌, [], sym, subst, ◌∙◌, ℕ, List, ap, length}
use Rattle.std.proofs.lemmas.Iterator.Adapters.{YieldsList-from_vec}
use Rattle.std.proofs.lemmas.Iterator.Consumers.{YieldsList-end}
use Rattle.std.proofs.lemmas.List.{length-append, map-id}
use Rattle.stable_search.specs.declared.group.Group.{Group}
use Rattle.stable_search.specs.Groups.{IsPartOf, ArePartsOf}
use Rattle.stable_search.proofs.GroupLemmas.{pairs_more}
use Rattle.stable_search.proofs.stable.parts_of.Goals as goal

pub loop-group-preserved : goal.loop-group-preserved
loop-group-preserved c =
    let old = c.loop-group.parts.items in
    let xs = c.loop-group.yielded in
    let x = c.in-Some.group in
    let y = c.in_ok-part_of.field-0 in (
      ap length c.in_ok-push.ensures.items ∙ length-append old (y ∷ []) ∙ ap (λ (n : ℕ). n + 1) c.loop-group.invariant.0 ∙ sym (length-append xs (x ∷ [])),
      pairs_more (IsPartOf c.args.seats.now c.args.levels.now) xs old c.push.new.self.items x y c.loop-group.invariant.0 c.in_ok-push.ensures.items c.in_ok-part_of.ensures c.loop-group.invariant.1,
    )

pub returns : goal.returns
returns c =
    let groups = c.args.groups.items in
    let given = c.into_iter-group-iterator.ensures.into_iter_gives in
    let end = YieldsList-end (YieldsList-from_vec groups given.0 (given.1 ∙ c.args.groups.ok.0)) c.loop-group.yielded c.loop-group.group-iterator c.loop-group.yielded_by c.next.result c.next.new.self c.in-None.is c.next.ensures.steps in
    let all : c.loop-group.yielded ≡ groups = sym (map-id c.loop-group.yielded) ∙ end.0 in
    subst (ArePartsOf c.args.seats.now c.args.levels.now groups) (sym c.from_vec.ensures)
    (subst (λ (gs : List Group). ArePartsOf c.args.seats.now c.args.levels.now gs c.loop-group.parts.items) all (record {
      size = c.loop-group.invariant.0;
      each = c.loop-group.invariant.1;
    }))
