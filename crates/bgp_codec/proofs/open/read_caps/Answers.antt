use Rattle.std.proofs.lemmas.Result.{err_from_is_err_and}
use Rattle.bgp_codec.specs.Opens.{cap_at}
use Rattle.bgp_codec.proofs.EachLemmas.{each_go_on, each_stop, each_end, some_left, none_left}
use Rattle.bgp_codec.proofs.OpenLemmas.{cap_shortens}
use Rattle.bgp_codec.proofs.open.read_caps.Goals as goal

pub returns-in_err-cap : goal.returns-in_err-cap
returns-in_err-cap c =
    let p = err_from_is_err_and c.from_residual-in_err-cap.result c.from_residual-in_err-cap.ensures.1 in
    rw (p.1, p.2) (each_stop cap_at c.args.octets.now c.caps.left.now c.caps.caps c.in_err-cap.field-0.0 (some_left _ c.caps-test.ensures) c.caps.invariant c.in_err-cap.ensures)

pub caps-preserved : goal.caps-preserved
caps-preserved c =
    rw c.in_ok-push.ensures.ok
    (each_go_on cap_at c.args.octets.now c.caps.left.now c.in_ok-cap.rest.now c.caps.caps c.in_ok-cap.cap cap_shortens c.in_ok-cap.ensures c.caps.invariant)

pub returns : goal.returns
returns c = (each_end cap_at c.args.octets.now c.caps.left.now c.caps.caps (none_left _ c.caps-test.ensures) c.caps.invariant)
