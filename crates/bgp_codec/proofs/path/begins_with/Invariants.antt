-- the segments passed have no number
use Rattle.std.proofs.Common.{◌≡◌, drop}
use Rattle.std.specs.List.{flat_map}
use Rattle.bgp_codec.specs.Updates.{begins_with}
use Rattle.bgp_codec.proofs.path.begins_with.Given as goal

abbrev pub invariant-loop-segment : goal.invariant-loop-segment
invariant-loop-segment l = begins_with l.asn (flat_map (λ s. s.numbers) l.path) ≡ begins_with l.asn (flat_map (λ s. s.numbers) (drop l.segment-index l.path))
