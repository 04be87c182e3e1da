-- the answers are those of the numbers passed and of what is left
use Rattle.std.proofs.Common.{◌≡◌, ◌&&◌, length}
use Rattle.std.specs.List.{list_all}
use Rattle.net_text.specs.Words.{is_router}
use Rattle.bgp_values.specs.Ranges.{is_asn}
use Rattle.net_text.specs.Taking.{numbers_left}
use Rattle.net_text.proofs.paths.judge_numbers.Given as goal

abbrev pub invariant-numbers : goal.invariant-numbers
invariant-numbers l = record {
  asns : list_all (is_asn l.width) (numbers_left l.numbers) ≡ list_all (is_asn l.width) (numbers_left l.left);
  routers : list_all (is_router l.net.routers) (numbers_left l.numbers) ≡ (l.are_routers && list_all (is_router l.net.routers) (numbers_left l.left));
}

abbrev pub decreases-numbers : goal.decreases-numbers
decreases-numbers l = length (numbers_left l.left)
