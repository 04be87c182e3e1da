-- what was put, before what is left, is what all are printed as; and what the buffer had stands in front
use Rattle.std.proofs.Common.{◌≡◌, ◌++◌, drop, length, map, take}
use Rattle.std.specs.List.{flat_map}
use Rattle.snap_collector.specs.Collecting.{member_of}
use Rattle.snap_collector.specs.Collector.{made_for, kept_of}
use Rattle.schedule_text.specs.Routes.{recorded, part_text, parts_text}
use Rattle.schedule_text.proofs.parts.put_each_part.Given as goal

abbrev pub invariant-loop-member : goal.invariant-loop-member
invariant-loop-member l =
    let offers = kept_of (map member_of l.collector.members) (made_for l.collector l.number) in
    record {
      put :
          l.out.items ++ flat_map (λ r. part_text l.network.origins r.asn (recorded offers r.asn)) (drop l.member-index l.member-items)
          ≡ l.fn.out.items ++ parts_text l.network offers;
      kept : take (length l.fn.out.items) l.out.items ≡ l.fn.out.items;
    }
