use Rattle.std.proofs.Common.{◌∙◌, refl, sym, ap, map, arith}
use Rattle.snap_marker.specs.Parts.{seen}
use Rattle.offer_board.proofs.same.same_part.Goals as goal

pub returns : goal.returns
returns c =
    λ yes. record {
      router = omega (arith, c.if-one-other.false);
      number = omega (arith, c.if-one-other-2.false);
      kept = sym c.as_slice-3.ensures.value ∙ c.if-not-same_paths.ensures refl ∙ c.as_slice-4.ensures.value;
      originated = sym c.as_slice.ensures.value ∙ c.if-not-same_prefixes.ensures refl ∙ c.as_slice-2.ensures.value;
      pending = c.if-not-same_flag.ensures refl;
      channels = sym (ap (map seen) c.as_slice-5.ensures.value) ∙ c.same_channels.ensures yes ∙ ap (map seen) c.as_slice-6.ensures.value;
    }
