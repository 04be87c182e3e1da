use Rattle.std.proofs.Common.{refl, arith}
use Rattle.std.proofs.lemmas.Result.{err_from_is_err_and}
use Rattle.bgp_codec.specs.UpdateReading.{no_attrs, attrs_reading}
use Rattle.bgp_codec.proofs.EachLemmas.{some_left, none_left}
use Rattle.bgp_codec.proofs.AttrSteps.{attrs_go_on, attrs_end, attr_shorter}
use Rattle.bgp_codec.proofs.JudgingAttrs.{nothing_remembered}
use Rattle.bgp_codec.proofs.JudgingLemmas.{judged_from, attrs_judged, attr_judged}
use Rattle.bgp_codec.proofs.judging.judge_attrs.Goals as goal

pub attrs-init : goal.attrs-init
attrs-init c = (no_attrs, refl, nothing_remembered c.args.width)

pub returns-in_err-attr : goal.returns-in_err-attr
returns-in_err-attr c =
    let p = err_from_is_err_and c.from_residual.result c.from_residual.ensures.1 in
    let e = c.in_err-attr.ensures in
    rw (p.1, p.2) (attrs_judged c.args.width (attrs_reading c.args.width c.args.octets.now) c.attrs.invariant.0 c.attrs.left.now c.in_err-attr.field-0.0 (some_left _ c.attrs-test.ensures) (judged_from _ _ e.gives e.memory) c.attrs.invariant.1)

pub returns-in_err-judge_attr : goal.returns-in_err-judge_attr
returns-in_err-judge_attr c =
    let p = err_from_is_err_and c.from_residual-in_err-judge_attr.result c.from_residual-in_err-judge_attr.ensures.1 in
    let i = c.attrs.invariant in
    rw (p.1, p.2)
    (attr_judged c.args.width (attrs_reading c.args.width c.args.octets.now) i.0 c.attrs.left.now c.in_ok-attr.attr.now c.in_ok-attr.value.now c.in_ok-attr.rest.now c.in_err-judge_attr.field-0.0 c.in_ok-attr.ensures.gives
    (c.in_err-judge_attr.ensures i.0 i.2) i.1)

pub attrs-smaller : goal.attrs-smaller
attrs-smaller c = omega (arith, attr_shorter c.attrs.left.now c.in_ok-attr.attr.now c.in_ok-attr.value.now c.in_ok-attr.rest.now c.in_ok-attr.ensures.gives)

pub attrs-preserved : goal.attrs-preserved
attrs-preserved c =
    let i = c.attrs.invariant in
    let b = c.in_ok-judge_attr.ensures i.0 i.2 in (
      b.0,
      attrs_go_on c.args.width (attrs_reading c.args.width c.args.octets.now) i.0 b.0 c.attrs.left.now c.in_ok-attr.attr.now c.in_ok-attr.value.now c.in_ok-attr.rest.now c.in_ok-attr.ensures.gives b.1 i.1,
      b.2,
    )

pub returns : goal.returns
returns c =
    let i = c.attrs.invariant in
    (i.0, attrs_end c.args.width (attrs_reading c.args.width c.args.octets.now) i.0 c.attrs.left.now (none_left _ c.attrs-test.ensures) i.1, i.2)
