-- The text printed of a dispute wheel of a network for a prefix.
use Rattle.std.specs.Prelude.{ℕ, List, ◌++◌, length, codes, decimal}
use Rattle.std.specs.List.{flat_map}
use Rattle.prefix_lanes.specs.Bits.{PrefixView}
use Rattle.net_text.specs.Printing.{line, prefix_text, numbers_text}
use Rattle.wheel_search.specs.declared.rim.Rim.{Rim}
use Rattle.wheel_search.specs.declared.rim.Safety.{Safety}
use Rattle.wheel_search.specs.declared.rim.Safety.TheVariants.{Safe, Wheel}

-- a prefix without a dispute wheel
unfoldable pub safe_line : PrefixView → List ℕ
safe_line q = line (codes "prefix" ++ (prefix_text q ++ codes " safe"))

-- a prefix, and how many rims its dispute wheel has
unfoldable pub wheel_line : PrefixView → ℕ → List ℕ
wheel_line q n = line (codes "prefix" ++ (prefix_text q ++ (codes " wheel " ++ decimal n)))

-- a rim: the spoke, and the path that its router likes better
unfoldable pub rim_line : Rim → List ℕ
rim_line rim = line (codes "rim " ++ (numbers_text rim.spoke ++ (codes " over " ++ numbers_text rim.over)))

abbrev pub rims_text : List Rim → List ℕ
rims_text rims = flat_map rim_line rims

abbrev pub safety_text : PrefixView → Safety → List ℕ
safety_text q Safe = safe_line q
safety_text q (Wheel rims) = wheel_line q (length rims) ++ rims_text rims
