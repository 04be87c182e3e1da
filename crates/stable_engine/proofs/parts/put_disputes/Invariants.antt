-- what was put, before the disputes that are left, is what all are printed as; no number is above those of the parts passed
use Rattle.std.proofs.Common.{◌≡◌, ◌≤◌, ◌+◌, ◌++◌, drop, filter}
use Rattle.stable_engine.specs.Listing.{is_dispute, disputes_text}
use Rattle.stable_engine.proofs.parts.put_disputes.Given as goal

abbrev pub invariant-loop-part : goal.invariant-loop-part
invariant-loop-part l =
    (l.out.items ++ disputes_text l.number l.prefix (filter is_dispute (drop l.part-index l.parts))
    ≡ l.fn.out.items ++ disputes_text 1 l.prefix (filter is_dispute l.parts))
    × (l.number ≤ l.part-index + 1)
