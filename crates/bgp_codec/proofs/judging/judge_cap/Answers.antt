use Rattle.std.proofs.Common.{ℕ, refl, ap, ◌∙◌}
use Rattle.std.specs.Prelude.{slice_index}
use Rattle.bgp_codec.specs.Opens.{cap_of, number_said}
use Rattle.bgp_codec.proofs.JudgingLemmas.{cap_passed}
use Rattle.bgp_codec.proofs.judging.judge_cap.Goals as goal

pub returns : goal.returns
returns c =
    let value = c.in_ok-value.value.now in (
      (cap_of (slice_index c.args.octets.now 0) value, c.in_ok-value.rest.now),
      cap_passed c.args.octets.now value c.in_ok-value.rest.now c.in_ok-value.ensures.gives,
      (c.number_said.ensures ∙ ap (λ (code : ℕ). number_said (cap_of code value)) c.octet_at.ensures, refl),
    )
