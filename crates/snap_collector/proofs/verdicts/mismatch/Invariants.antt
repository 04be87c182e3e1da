use Rattle.std.proofs.Common.{◌≡◌, ◌==◌, not, drop}
use Rattle.snap_collector.specs.Collecting.{made_in}
use Rattle.snap_collector.specs.Verdicts.{has_part}
use Rattle.snap_collector.proofs.verdicts.mismatch.Given as goal

-- what is left decides
abbrev pub invariant-loop-offer : goal.invariant-loop-offer
invariant-loop-offer l = has_part (made_in l.offers) l.router (λ part. has_part (made_in l.offers) l.peer (λ other. not (part.incarnation l.peer == other.incarnation l.router))) ≡ has_part (made_in (drop l.offer-index l.offers)) l.router (λ part. has_part (made_in l.offers) l.peer (λ other. not (part.incarnation l.peer == other.incarnation l.router)))
