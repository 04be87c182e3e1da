use Rattle.std.proofs.Common.{arith}
use Rattle.std.proofs.lemmas.Result.{err_from_is_err_and}
use Rattle.bgp_codec.specs.UpdateReading.{attrs_reading}
use Rattle.bgp_codec.specs.Gathering.{in_order}
use Rattle.bgp_codec.proofs.EachLemmas.{some_left, none_left}
use Rattle.bgp_codec.proofs.AttrSteps.{attrs_go_on, attrs_stop, attrs_broken, attr_shorter}
use Rattle.bgp_codec.proofs.GatherLemmas.{gather_first, gather_apart, gather_end}
use Rattle.bgp_codec.proofs.attr_reading.read_attrs.Goals as goal

pub returns-in_err-attr : goal.returns-in_err-attr
returns-in_err-attr c =
    let p = err_from_is_err_and c.from_residual-in_err-attr.result c.from_residual-in_err-attr.ensures.1 in
    rw (p.1, p.2) (attrs_broken c.args.width (attrs_reading c.args.width c.args.octets.now) (in_order c.attrs.attrs) c.attrs.left.now c.in_err-attr.field-0.0 (some_left _ c.attrs-test.ensures) c.in_err-attr.ensures.gives c.attrs.invariant.read)

pub returns-in_err-add_attr : goal.returns-in_err-add_attr
returns-in_err-add_attr c =
    let p = err_from_is_err_and c.from_residual-in_err-add_attr.result c.from_residual-in_err-add_attr.ensures.1 in
    rw (p.1, p.2)
    (attrs_stop c.args.width (attrs_reading c.args.width c.args.octets.now) (in_order c.attrs.attrs) c.attrs.left.now c.in_ok-attr.attr.now c.in_ok-attr.value.now c.in_ok-attr.rest.now c.in_err-add_attr.field-0.0 c.in_ok-attr.ensures.gives
    c.in_err-add_attr.ensures.gives c.attrs.invariant.read)

pub attrs-smaller : goal.attrs-smaller
attrs-smaller c = omega (arith, attr_shorter c.attrs.left.now c.in_ok-attr.attr.now c.in_ok-attr.value.now c.in_ok-attr.rest.now c.in_ok-attr.ensures.gives)

pub attrs-preserved : goal.attrs-preserved
attrs-preserved c = record {
  read =
      attrs_go_on c.args.width (attrs_reading c.args.width c.args.octets.now) (in_order c.attrs.attrs) _ c.attrs.left.now c.in_ok-attr.attr.now c.in_ok-attr.value.now c.in_ok-attr.rest.now c.in_ok-attr.ensures.gives c.in_ok-add_attr.ensures.gives
      c.attrs.invariant.read;
  marks = c.in_ok-add_attr.ensures.marks;
}

pub order-requires : goal.order-requires
order-requires c = gather_apart c.args.width c.args.octets.now c.attrs.attrs c.attrs.left.now (λ i. omega (arith, c.type_inv.octets i)) (none_left _ c.attrs-test.ensures) c.attrs.invariant.read

pub returns : goal.returns
returns c =
    gather_end c.args.width c.args.octets.now c.attrs.attrs c.attrs.left.now c.order.new.self (λ i. omega (arith, c.type_inv.octets i)) (none_left _ c.attrs-test.ensures) c.attrs.invariant.read c.order.ensures.permutation c.order.ensures.order

pub attrs-init : goal.attrs-init
attrs-init c =
    let first = gather_first c.args.width c.args.octets.now c.none-attrs.result c.in_ok-attrs.field-0 c.none-attrs.ensures c.in_ok-attrs.ensures in
    record { read = first.0; marks = first.1 }
