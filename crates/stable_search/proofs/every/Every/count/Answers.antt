use Rattle.std.proofs.Common.{◌≡◌, ◌+◌, ◌*◌, ◌∙◌, ℕ, List, length, take, sym, ap, subst, arith}
use Rattle.std.proofs.lemmas.List.{take_all}
use Rattle.stable_search.specs.declared.every.Component.{Component}
use Rattle.stable_search.specs.Every.{factor_of, number_of, IsCount}
use Rattle.stable_search.proofs.CountLemmas.{number_more, number_none}
use Rattle.stable_search.proofs.every.Every.count.Goals as goal

pub loop-part-preserved : goal.loop-part-preserved
loop-part-preserved c =
    let parts : List Component = c.args.self.now.parts in
    let i = c.loop-part.part-index in
    let same : c.as_slice-part-items.result.now ≡ parts = c.as_slice-part-items.ensures in
    let more : number_of (take (i + 1) c.as_slice-part-items.result.now) ≡ number_of (take i c.as_slice-part-items.result.now) * factor_of c.part-item.result =
    number_more c.as_slice-part-items.result.now i c.part-item.result c.loop-part-test.true c.part-item.is in
    let times : number_of (take (i + 1) parts) ≡ number_of (take i parts) * c.factor-choices.result =
    ap (λ (ps : List Component). number_of (take (i + 1) ps)) (sym same) ∙ more ∙ ap (λ (ps : List Component). number_of (take i ps) * factor_of c.part-item.result) same
    ∙ ap (λ (n : ℕ). number_of (take i parts) * n) (sym c.factor-choices.ensures) in
    subst (λ (n : ℕ). IsCount n c.times-count.result) (sym times) (c.times-count.ensures (number_of (take i parts)) c.loop-part.invariant)

pub returns-then-choices-eq0 : goal.returns-then-choices-eq0
returns-then-choices-eq0 c =
    sym (ap number_of (sym c.as_slice-part-items.ensures)
    ∙ number_none c.as_slice-part-items.result.now c.loop-part.part-index c.part-item.result c.loop-part-test.true c.part-item.is (sym c.factor-choices.ensures ∙ c.if-choices-eq0.true))

pub returns : goal.returns
returns c =
    let size = ap length c.as_slice-part-items.ensures in
    subst (λ (ps : List Component). IsCount (number_of ps) c.loop-part.count) (take_all c.loop-part.part-index c.args.self.now.parts (omega (arith, size, c.loop-part-test.false))) c.loop-part.invariant
