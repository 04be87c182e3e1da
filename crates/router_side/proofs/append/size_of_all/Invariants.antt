-- what was counted, and what is left to count, is all
use Rattle.std.proofs.Common.{◌≡◌, ◌≤◌, ◌+◌, ◌*◌, drop}
use Rattle.router_side.specs.Sayings.{all_sizes}
use Rattle.router_side.proofs.append.size_of_all.Given as goal

abbrev pub invariant-loop-say : goal.invariant-loop-say
invariant-loop-say l = record {
  counted : l.size + all_sizes l.own_open l.told (drop l.say-index l.says) ≡ all_sizes l.own_open l.told l.says;
  few : l.size ≤ 4096 * l.say-index;
}
