use Rattle.std.proofs.Common.{◌≡◌, ◌≤◌, ℕ, List, [], ◌∷◌, ◌++◌, ◌∙◌, ap, arith}
use Rattle.std.specs.Prelude.{slice_index}
use Rattle.bgp_codec.specs.declared.attributes.Raw.{Raw}
use Rattle.bgp_codec.specs.AttrTable.{high_flags}
use Rattle.bgp_codec.specs.Updates.{raw_of}
use Rattle.bgp_codec.proofs.GatherLemmas.{other_gathered}
use Rattle.bgp_codec.proofs.attr_reading.add_other.Goals as goal

pub returns : goal.returns
returns c =
    let octets = c.args.attr.now in
    let flags : c.high_flags-flags.result ≡ high_flags (slice_index octets 0) = c.high_flags-flags.ensures ∙ ap high_flags c.octet_at-flags.ensures in
    let code : c.octet_at-code.result ≡ slice_index octets 1 = c.octet_at-code.ensures in
    let raw : raw_of c.high_flags-flags.result c.octet_at-code.result c.in_ok-value.value ≡ raw_of (high_flags (slice_index octets 0)) (slice_index octets 1) c.args.value.now =
    ap (λ (n : ℕ). raw_of n c.octet_at-code.result c.in_ok-value.value) flags ∙ ap (λ (n : ℕ). raw_of (high_flags (slice_index octets 0)) n c.in_ok-value.value) code
    ∙ ap (λ (v : List ℕ). raw_of (high_flags (slice_index octets 0)) (slice_index octets 1) v) c.in_ok-value.ensures.ok in
    let optional : 128 ≤ slice_index octets 0 = omega (arith, c.octet_at-flags.ensures, c.if-flags-lt-OPTIONAL.false) in
    other_gathered c.args.attrs.now octets c.args.value.now c.push.new.self optional (c.in_ok-push.ensures.ok ∙ ap (λ (r : Raw). c.args.attrs.now.other ++ r ∷ []) raw)
