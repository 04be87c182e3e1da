-- what is appended, and what is left to append, is all, and there is room for what is left
use Rattle.std.proofs.Common.{◌≡◌, ◌≤◌, ◌++◌, drop, length}
use Rattle.bgp_codec.specs.Spelling.{written}
use Rattle.run_model.specs.Octets.{passing}
use Rattle.router_side.specs.Sayings.{all_sizes, all_entries, size_where}
use Rattle.router_side.proofs.append.append_all.Given as goal

abbrev pub invariant-loop-say : goal.invariant-loop-say
invariant-loop-say l = record {
  all : l.outbox.passing ++ passing (written l.fn.width) (all_entries l.own_open l.told (drop l.say-index l.says)) ≡ l.fn.outbox.passing ++ passing (written l.fn.width) (all_entries l.own_open l.told l.says);
  octets : all_sizes (length (written l.fn.width l.own_open)) (size_where l.fn.width l.told) (drop l.say-index l.says) ≤ l.outbox.room;
  places : length (drop l.say-index l.says) ≤ l.outbox.places;
}
