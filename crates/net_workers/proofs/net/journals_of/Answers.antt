use Rattle.std.proofs.Common.{◌≡◌, ◌∙◌, ℕ, ap, sym, refl, subst, inl, inr, None, []}
use Rattle.ranked_policy.specs.Plans.{IsRouter}
use Rattle.snap_marker.specs.Parts.{router_of}
use Rattle.std.specs.List.{AllByRecursion}
use Rattle.offer_board.specs.Boards.{offers_in}
use Rattle.snap_collector.specs.Collector.{made_for, with_offers}
use Rattle.net_workers.specs.Ran.{Passed, first_fault, passed_by, OffersOf, IsRecord, AreRecord}
use Rattle.net_workers.specs.Faults.{HaveEnded}
use Rattle.net_workers.specs.Ways.{passed_in}
use Rattle.net_workers.proofs.Records.{record_is}
use Rattle.net_workers.proofs.Faults.{wants_memory}
use Rattle.net_workers.proofs.Rooms.{rooms_are}
use Rattle.net_workers.proofs.Ways.{many_ends, dealt_still, passed_then, in_turn}
use Rattle.net_workers.proofs.net.journals_of.Given.{Over}
use Rattle.net_workers.proofs.net.journals_of.Goals as goal

pub close_all-requires-clause-many : goal.close_all-requires-clause-many
close_all-requires-clause-many g c =
    let r = c.requires.ended.1.ran in
    many_ends g.G.Gate.given c.args.network.now c.requires.ended.0 r.before c.args.workers.items r.many
    (ap first_fault (sym c.as_slice.ensures.value) ∙ sym c.first_fault.ensures.first ∙ c.in-None.is) r.ran
    c.in_ok-workers.ends.items c.in_ok-workers.ensures.ends r.routers

pub close_all-requires-clause-dealt : goal.close_all-requires-clause-dealt
close_all-requires-clause-dealt g c =
    let r = c.requires.ended.1.ran in
    dealt_still g.G.Gate.given c.args.network.now c.requires.ended.0 r.before c.args.workers.items r.many
    (ap first_fault (sym c.as_slice.ensures.value) ∙ sym c.first_fault.ensures.first ∙ c.in-None.is) r.ran
    c.in_ok-workers.ends.items c.args.network.now.links c.in_ok-workers.ensures.ends r.dealt

-- ---- the record

quiet : (g : Over) (c : goal.In_ok-collector g) → first_fault c.args.workers.items ≡ None
quiet g c = ap first_fault (sym c.as_slice.ensures.value) ∙ sym c.first_fault.ensures.first ∙ c.in-None.is

-- what passed the ways
passed : (g : Over) (c : goal.In_ok-collector g) → passed_by c.args.workers.items ≡ passed_in c.in_ok-ways.ways.items
passed g c =
    let r = c.requires.ended.1.ran in
    passed_then g.G.Gate.given c.args.network.now c.requires.ended.0 r.before c.args.workers.items r.many (quiet g c) r.ran
    c.in_ok-workers.ends.items c.in_ok-ways.ways.items c.in_ok-workers.ensures.ends r.routers c.in_ok-ways.ensures.passed

collected : (g : Over) (c : goal.In_ok-collector g) → made_for c.in_ok-collector.collector ≡ with_offers (λ s. []) (offers_in c.args.board.offers)
collected g c = c.in_ok-collector.ensures.made ∙ ap (λ os. with_offers (λ s. []) (offers_in os)) c.into_offers.ensures.value

recorded : (g : Over) (c : goal.In_ok-collector g) (turns : ℕ) → HaveEnded g.G.Gate.given c.args.network.now turns c.args.workers.items
    → AreRecord g.G.Gate.given c.args.network.now turns (passed_in c.in_ok-ways.ways.items) c.in_ok-workers.workers.items c.in_ok-collector.collector
recorded g c turns h gathered sorted =
    let r = h.ran in
    let board = c.args.board in
    let plan = c.args.network.now in
    subst (λ (p : Passed). IsRecord g.G.Gate.given plan turns p c.in_ok-workers.workers.items c.in_ok-collector.collector gathered) (passed g c)
    (record_is c.what_follows_is_done.ensures g.G.Gate.given plan turns r.before c.args.workers.items c.in_ok-workers.workers.items
    c.in_ok-collector.collector gathered board.offers r.network r.routers r.fresh
    (rooms_are plan r.before r.network.plan.rising r.routers r.dealt) r.many (quiet g c) r.ran c.in_ok-workers.ensures.worked sorted
    (subst (AllByRecursion (OffersOf board.offers)) c.as_slice-else-not-are_known.ensures.value (c.if-not-agrees.ensures refl))
    (subst (AllByRecursion (λ o. IsRouter plan.routers (router_of o.offer))) c.offers.ensures.value (c.if-not-are_known.ensures refl))
    c.into_offers.ensures.board.rising (collected g c) c.in_ok-collector.ensures.members)

pub returns-clause-none : goal.returns-clause-none
returns-clause-none g c = quiet g c

pub returns-clause-passed : goal.returns-clause-passed
returns-clause-passed g c = passed g c

pub returns-clause-collected : goal.returns-clause-collected
returns-clause-collected g c = collected g c

pub returns-clause-recorded : goal.returns-clause-recorded
returns-clause-recorded g c = recorded g c

pub returns-clause-promises : goal.returns-clause-promises
returns-clause-promises g c gathered sorted =
    let h = c.requires.ended in
    c.records_are_runs.ensures.promises c.args.network.now h.0 (passed_in c.in_ok-ways.ways.items) c.in_ok-workers.workers.items c.in_ok-collector.collector gathered
    (recorded g c h.0 h.1 gathered sorted) (in_turn c.args.network.now c.in_ok-ways.ways.items c.in_ok-ways.ensures.ways.each)

-- ---- why there is none

pub returns-in-Some-clause-fault : goal.returns-in-Some-clause-fault
returns-in-Some-clause-fault g c = inl (ap first_fault (sym c.as_slice.ensures.value) ∙ sym c.first_fault.ensures.first ∙ c.in-Some.is)

pub returns-then-not-are_known-clause-fault : goal.returns-then-not-are_known-clause-fault
returns-then-not-are_known-clause-fault g c = inr (ap first_fault (sym c.as_slice.ensures.value) ∙ sym c.first_fault.ensures.first ∙ c.in-None.is, inr refl)

pub returns-in_err-workers-clause-fault : goal.returns-in_err-workers-clause-fault
returns-in_err-workers-clause-fault g c =
    wants_memory c.from_residual.result c.args.workers.items (ap first_fault (sym c.as_slice.ensures.value) ∙ sym c.first_fault.ensures.first ∙ c.in-None.is) c.from_residual.ensures.1

pub returns-in_err-ways-clause-fault : goal.returns-in_err-ways-clause-fault
returns-in_err-ways-clause-fault g c =
    wants_memory c.from_residual-in_err-ways.result c.args.workers.items (ap first_fault (sym c.as_slice.ensures.value) ∙ sym c.first_fault.ensures.first ∙ c.in-None.is)
    c.from_residual-in_err-ways.ensures.1

pub returns-in_err-collector-clause-fault : goal.returns-in_err-collector-clause-fault
returns-in_err-collector-clause-fault g c =
    wants_memory c.from_residual-in_err-collector.result c.args.workers.items (ap first_fault (sym c.as_slice.ensures.value) ∙ sym c.first_fault.ensures.first ∙ c.in-None.is)
    c.from_residual-in_err-collector.ensures.1
