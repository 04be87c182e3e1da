use Rattle.std.proofs.Common.{eqb, Decides, sym, ◌∙◌, ap, not}
use Rattle.std.specs.List.{Contains}
use Rattle.std.proofs.lemmas.List.Elements.{contains_decides, Decides-contains}
use Rattle.std.proofs.lemmas.Bool.Decides.{Decides-eqb, not_from_Decides}
use Rattle.ranked_policy.proofs.WaysOn.{simple_onward, not_simple}
use Rattle.ranked_policy.proofs.onward.is_simple_onward.Goals as goal

pub returns-then-not-contains : goal.returns-then-not-contains
returns-then-not-contains c =
    let rest = c.args.rest.now in
    let r = c.args.router in
    let says : Decides c.contains.result (Contains rest r) = Decides-contains rest r c.contains.result (contains_decides eqb Decides-eqb rest r c.contains.result c.contains.ensures.cases) in
    let same = simple_onward r rest (not_from_Decides c.contains.result says c.if-not-contains.true) in
    (λ t. same.0 (c.is_simple.ensures.0 t), λ h. c.is_simple.ensures.1 (same.1 h))

pub returns-else-not-contains : goal.returns-else-not-contains
returns-else-not-contains c =
    let rest = c.args.rest.now in
    let r = c.args.router in
    let says : Decides c.contains.result (Contains rest r) = Decides-contains rest r c.contains.result (contains_decides eqb Decides-eqb rest r c.contains.result c.contains.ensures.cases) in
    (λ t. absurd (let both = sym t ∙ ap not c.if-not-contains.false in cc), λ h. absurd (not_simple r rest (says.0 c.if-not-contains.false) h))
