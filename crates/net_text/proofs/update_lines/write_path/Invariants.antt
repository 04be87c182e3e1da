-- what was written, before what is left, is what all are printed as, and there is room for the others
use Rattle.std.proofs.Common.{◌≡◌, ◌++◌, ◌∷◌, ◌+◌, ◌*◌, ◌≤◌, length, take}
use Rattle.std.specs.List.{flat_map}
use Rattle.bgp_codec.specs.Parts.{path_items, items_of}
use Rattle.net_text.specs.Printing.{segment_text, path_text}
use Rattle.net_text.proofs.update_lines.write_path.Given as goal

abbrev pub invariant-segments : goal.invariant-segments
invariant-segments l =
    record {
      text : take l.at l.text ++ flat_map (λ s. 45 ∷ segment_text s) l.left ≡ take l.start l.fn.text ++ path_text l.fn.path;
      room : l.at + 13 * path_items l.left ≤ length l.text;
      end : l.at + 13 * path_items l.left ≤ l.start + 13 * items_of l.fn.path + 4;
    }

abbrev pub decreases-segments : goal.decreases-segments
decreases-segments l = length l.left
