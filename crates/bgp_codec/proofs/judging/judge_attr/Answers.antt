use Rattle.std.proofs.Common.{◌≡◌, ◌<◌, ℕ, false, sym, ap, ◌∙◌, arith}
use Rattle.std.specs.Prelude.{slice_index, slice_index_or}
use Rattle.bgp_codec.specs.UpdateReading.{has_code}
use Rattle.bgp_codec.proofs.judging.judge_attr.Goals as goal

pub returns : goal.returns
returns c = λ a r.
    let small : slice_index c.args.attr.now 1 < 256 = omega (arith, c.type_inv.attr 1) in
    let none : has_code a (slice_index c.args.attr.now 1) ≡ false =
    sym (r.codes (slice_index c.args.attr.now 1) small) ∙ ap (λ (k : ℕ). slice_index_or c.args.came.now.codes k false) (sym c.octet_at.ensures) ∙ c.if-came-octet_at.false in
    let passed = c.in_ok-judge_new.ensures a none in
    (passed.0, passed.1, c.remember.ensures a passed.0 r passed.1)
