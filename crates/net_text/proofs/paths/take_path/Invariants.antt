-- the numbers passed are taken, and there is room for those that are left
use Rattle.std.proofs.Common.{◌≡◌, ◌+◌, ◌++◌, true, length, map, take}
use Rattle.std.specs.List.{list_all}
use Rattle.net_text.specs.Words.{value_of, path_of}
use Rattle.bgp_values.specs.declared.width.Width.TheVariants.{Four}
use Rattle.bgp_values.specs.Ranges.{is_asn}
use Rattle.net_text.specs.Taking.{parts_left}
use Rattle.net_text.proofs.paths.take_path.Given as goal

abbrev pub invariant-parts : goal.invariant-parts
invariant-parts l = record { room : length l.numbers ≡ 16; whole : path_of l.word ≡ take l.count l.numbers ++ map value_of (parts_left l.left); counted : l.count + length (parts_left l.left) ≡ length (path_of l.word); fits : list_all (is_asn Four) (map value_of (parts_left l.left)) ≡ true }

abbrev pub decreases-parts : goal.decreases-parts
decreases-parts l = length (parts_left l.left)
