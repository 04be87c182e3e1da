-- what was put, before what is left, is what all are printed as; for what is left no path is
-- passed; and what the buffer had stands in front
use Rattle.std.proofs.Common.{◌≡◌, ◌≤◌, ◌<◌, ◌++◌, ℕ, drop, get_or, length, take}
use Rattle.ranked_policy.specs.declared.network.Origin.{Origin}
use Rattle.snap_marker.specs.Parts.{kept_in}
use Rattle.schedule_text.specs.Routes.{router_text}
use Rattle.schedule_text.proofs.parts.put_part.Given as goal

abbrev pub invariant-loop-origin : goal.invariant-loop-origin
invariant-loop-origin l = record {
  put :
      l.out.items ++ router_text (kept_in l.part.kept.items) l.number (drop l.origin-index l.origins)
      ≡ l.fn.out.items ++ router_text (kept_in l.part.kept.items) l.number l.origins;
  left :
      (j : ℕ) (d : Origin) → l.origin-index ≤ j → j < length l.origins
      → kept_in (drop l.passed l.kept) (get_or l.origins j d).prefix ≡ kept_in l.kept (get_or l.origins j d).prefix;
  kept : take (length l.fn.out.items) l.out.items ≡ l.fn.out.items;
}
