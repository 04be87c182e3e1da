use Rattle.std.proofs.Common.{◌≡◌, sym, subst}
use Rattle.std.specs.List.{AllByRecursion}
use Rattle.snap_marker.proofs.Recorded.{all_of}
use Rattle.snap_marker.specs.Parts.{router_of, AreOf}
use Rattle.snap_marker.proofs.mark_state.MarkState.begin.Goals as goal

pub returns-in-None-clause-router : goal.returns-in-None-clause-router
returns-in-None-clause-router c = λ u e a.
    let before = subst (AreOf u) (sym c.self.view_is) a in
    let queued = subst (AllByRecursion (λ o. router_of o ≡ u)) (sym c.try_reserve.ensures.items) before.queue in
    c.go_on.ensures.router u e (c.supersede.ensures.router u (record { unfinished = before.unfinished; queue = queued }))

pub returns-in-Some-clause-router : goal.returns-in-Some-clause-router
returns-in-Some-clause-router c = λ u e a.
    let before = subst (AreOf u) (sym c.self.view_is) a in
    let queued = subst (AllByRecursion (λ o. router_of o ≡ u)) (sym c.try_reserve.ensures.items) before.queue in
    let old = c.supersede.ensures.router u (record { unfinished = before.unfinished; queue = queued }) in
    subst (AreOf u) (sym c.queue.ensures)
    (record { unfinished = old.unfinished; queue = all_of u c.supersede.new.self.queue _ old.queue e })
