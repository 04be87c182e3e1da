use Rattle.std.proofs.Common.{◌<◌, ◌≡◌, arith}
use Rattle.std.specs.Prelude.{slice_index, ◌≢◌}
use Rattle.bgp_codec.proofs.JudgingAttrs.{path_remembered, hop_remembered, other_remembered}
use Rattle.bgp_codec.proofs.judging.remember.Goals as goal

pub returns-then-code-eq-AS_PATH : goal.returns-then-code-eq-AS_PATH
returns-then-code-eq-AS_PATH c = λ a b r e.
    let small : slice_index c.args.attr.now 1 < 256 = omega (arith, c.type_inv.attr 1) in
    let two : slice_index c.args.attr.now 1 ≡ 2 = omega (arith, c.octet_at-code.ensures, c.if-code-eq-AS_PATH.true) in
    rw c.octet_at-code.ensures (path_remembered c.args.width c.args.came.now a b c.args.attr.now c.args.value small two r e)

pub returns-then-code-eq-NEXT_HOP : goal.returns-then-code-eq-NEXT_HOP
returns-then-code-eq-NEXT_HOP c = λ a b r e.
    let small : slice_index c.args.attr.now 1 < 256 = omega (arith, c.type_inv.attr 1) in
    let three : slice_index c.args.attr.now 1 ≡ 3 = omega (arith, c.octet_at-code.ensures, c.if-code-eq-NEXT_HOP.true) in
    rw (c.octet_at-code.ensures, c.address_at.ensures) (hop_remembered c.args.width c.args.came.now a b c.args.attr.now c.args.value.now small three r e)

pub returns-else-code-eq-NEXT_HOP : goal.returns-else-code-eq-NEXT_HOP
returns-else-code-eq-NEXT_HOP c = λ a b r e.
    let small : slice_index c.args.attr.now 1 < 256 = omega (arith, c.type_inv.attr 1) in
    let no_path : slice_index c.args.attr.now 1 ≢ 2 = omega (arith, c.octet_at-code.ensures, c.if-code-eq-AS_PATH.false) in
    let no_hop : slice_index c.args.attr.now 1 ≢ 3 = omega (arith, c.octet_at-code.ensures, c.if-code-eq-NEXT_HOP.false) in
    rw c.octet_at-code.ensures (other_remembered c.args.width c.args.came.now a b c.args.attr.now c.args.value.now small no_path no_hop r e)
