-- the digits passed and those that are left make the whole, as far as 64 bits hold it
use Rattle.std.proofs.Common.{◌≡◌, ◌-◌, ◌^◌, ◌≤◌, min, drop}
use Rattle.net_text.specs.Words.{value_of, value_behind}
use Rattle.net_text.proofs.words.long_value.Given as goal

abbrev pub invariant-loop-x : goal.invariant-loop-x
invariant-loop-x l =
    record { whole : value_of l.word ≡ min (2 ^ 64 - 1) (value_behind l.value (drop l.x-index l.word)); fits : l.value ≤ 2 ^ 64 - 1 }
