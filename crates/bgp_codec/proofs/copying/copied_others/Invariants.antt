use Rattle.std.proofs.Common.{◌≡◌, take}
use Rattle.bgp_codec.proofs.copying.copied_others.Given as goal

-- the items so far are copied
abbrev pub invariant-loop-raw : goal.invariant-loop-raw
invariant-loop-raw l = l.copy ≡ take l.raw-index l.others
