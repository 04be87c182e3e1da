-- the numbers passed are read, and the parts passed are numbers
use Rattle.std.proofs.Common.{◌≡◌, ◌-◌, ◌≤◌, ◌++◌, length, map, take}
use Rattle.std.specs.List.{list_all}
use Rattle.net_text.specs.Lexing.{parts}
use Rattle.net_text.specs.Words.{is_number, value_of, path_of}
use Rattle.net_text.specs.Taking.{parts_left}
use Rattle.net_text.proofs.numbers.read_numbers.Given as goal

abbrev pub invariant-parts : goal.invariant-parts
invariant-parts l = record { room : length l.numbers ≡ 16; few : l.count ≤ 16; whole : path_of l.word ≡ take l.count l.numbers ++ map value_of (parts_left l.left); numbers : list_all is_number (parts 45 l.word) ≡ list_all is_number (parts_left l.left) }

abbrev pub decreases-parts : goal.decreases-parts
decreases-parts l = 16 - l.count
