-- what was put, before what is left, is what all are printed as
use Rattle.std.proofs.Common.{◌≡◌, ◌++◌, ◌∷◌, drop, map}
use Rattle.std.specs.List.{flat_map, join_with_byte}
use Rattle.net_text.specs.Printing.{segment_text}
use Rattle.net_text.proofs.updates.put_segments.Given as goal

abbrev pub invariant-loop-segment : goal.invariant-loop-segment
invariant-loop-segment l = record { text : l.out.text ++ flat_map (λ s. 45 ∷ segment_text s) (drop l.segment-index l.rest) ≡ l.fn.out.text ++ join_with_byte 45 (map segment_text l.segments); front : l.out.front ≡ l.fn.out.front }
