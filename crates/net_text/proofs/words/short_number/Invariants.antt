-- the digits passed and those that are left make the whole
use Rattle.std.proofs.Common.{◌≡◌, ◌+◌, ◌-◌, ◌*◌, ◌^◌, ◌≤◌, min, drop}
use Rattle.std.specs.List.{list_all}
use Rattle.net_text.specs.Words.{is_digit, value_of, value_behind}
use Rattle.net_text.proofs.words.short_number.Given as goal

abbrev pub invariant-loop-x : goal.invariant-loop-x
invariant-loop-x l =
    record {
      whole : value_of l.word ≡ min (2 ^ 64 - 1) (value_behind l.value (drop l.x-index l.word));
      small : l.value + 23 ≤ 23 * 10 ^ l.x-index;
      digits : list_all is_digit l.word ≡ list_all is_digit (drop l.x-index l.word);
    }
