use Rattle.std.proofs.Common.{◌≡◌, take}
use Rattle.bgp_codec.proofs.copying.copied_path.Given as goal

-- the items so far are copied
abbrev pub invariant-loop-segment : goal.invariant-loop-segment
invariant-loop-segment l = l.copy ≡ take l.segment-index l.path
