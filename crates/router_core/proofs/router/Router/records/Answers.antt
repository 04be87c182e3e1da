use Rattle.std.proofs.Common.{◌≡◌, ◌∙◌, ℕ, sym, refl, ap, subst, List}
use Rattle.snap_marker.specs.Parts.{IsOver, IsOf, router_of}
use Rattle.std.specs.List.{AllByRecursion}
use Rattle.std.specs.Prelude.{Ok}
use Rattle.router_model.specs.declared.refusal.Stepped.TheVariants as stepped
use Rattle.ranked_policy.specs.declared.network.Origin.{Origin}
use Rattle.snap_marker.specs.declared.part.Offer.{Offer}
use Rattle.router_model.specs.Settings.{peers}
use Rattle.router_core.specs.declared.peers.Peer.{Peer}
use Rattle.router_core.specs.Views.{view_of, RouterView, plain_of}
use Rattle.router_core.specs.Recorded.{IsPeer, RecordsAt, IsPart, marked_if_up, down_in}
use Rattle.router_core.proofs.Recording.{peers_as}
use Rattle.router_core.proofs.Snapshots.{with_peers, Marks, same_alike, marked_alike, stays_sound, same_plain, marked_then, recorded}
use Rattle.router_core.proofs.router.Router.records.Goals as goal

pub invariant_of-self : goal.invariant_of-self
invariant_of-self c =
    let r = view_of c.self.inside in
    let s = c.self.invariant in
    stays_sound r c.reserve_markers.new.peers.items r.marks r.stamp (λ x. x) same_alike c.reserve_markers.ensures.same s s.stamp (record { over = s.marked.over; own = record { unfinished = s.marked.unfinished; queue = s.marked.queue } })

pub returns-in_default-reserve_markers-clause-records : goal.returns-in_default-reserve_markers-clause-records
returns-in_default-reserve_markers-clause-records c = λ g e ranks.
    let r = view_of c.self.inside in
    (refl, same_plain r c.reserve_markers.new.peers.items r.marks c.reserve_markers.ensures.same refl ∙ ap plain_of c.self.view_is)

pub invariant_of-self-in-Err : goal.invariant_of-self-in-Err
invariant_of-self-in-Err c =
    let r = view_of c.self.inside in
    let s = c.self.invariant in
    let m = c.begin.new.self in
    let marks : Marks r m =
    record {
      over = subst (IsOver (peers r.net r.number)) (sym c.in-Err.ensures.same) s.marked.over;
      own = record {
        unfinished = subst (IsOf r.number) (sym c.in-Err.ensures.same) s.marked.unfinished;
        queue = subst (AllByRecursion (λ (o : Offer). router_of o ≡ r.number)) (sym c.in-Err.ensures.queue) s.marked.queue;
      };
    } in
    stays_sound r c.reserve_markers.new.peers.items m r.stamp (λ x. x) same_alike c.reserve_markers.ensures.same s s.stamp marks

pub returns-in-Err-clause-records : goal.returns-in-Err-clause-records
returns-in-Err-clause-records c = λ g e ranks.
    let r = view_of c.self.inside in
    (refl, same_plain r c.reserve_markers.new.peers.items c.begin.new.self c.reserve_markers.ensures.same c.in-Err.ensures.err ∙ ap plain_of c.self.view_is)

pub invariant_of-self-in-Ok-begin : goal.invariant_of-self-in-Ok-begin
invariant_of-self-in-Ok-begin c =
    let r = view_of c.self.inside in
    let s = c.self.invariant in
    let m = c.begin.new.self in
    let part =
    subst (λ (os : List Origin). IsPart os r.tables r.peers r.number c.args.number c.args.first c.in-Ok.part) c.origins-origins.ensures.value
    (subst (λ (ps : List Peer). IsPart c.origins-origins.result.now r.tables ps r.number c.args.number c.args.first c.in-Ok.part) c.as_slice-peers.ensures.value c.in-Ok.ensures) in
    let marks : Marks r m =
    record {
      over = subst (λ (vs : List ℕ). IsOver vs m.unfinished) (peers_as c.args.first c.in-Ok.part.channels.items r.peers part.channels ∙ s.numbers) c.in-Ok-begin.ensures.over;
      own = c.in-Ok-begin.ensures.router r.number part.router (record { unfinished = s.marked.unfinished; queue = s.marked.queue });
    } in
    stays_sound r c.mark_all.new.peers.items m c.args.stamp (marked_if_up c.args.number) (marked_alike c.args.number)
    (marked_then c.args.number r.peers c.reserve_markers.new.peers.items c.mark_all.new.peers.items c.reserve_markers.ensures.same c.mark_all.ensures) s c.requires.few marks

pub returns-in-Ok-begin-clause-records : goal.returns-in-Ok-begin-clause-records
returns-in-Ok-begin-clause-records c =
    let r = view_of c.self.inside in
    let s = c.self.invariant in
    let m = c.begin.new.self in
    let laws = c.the_best_is_the_best_path.ensures in
    let part =
    subst (λ (os : List Origin). IsPart os r.tables r.peers r.number c.args.number c.args.first c.in-Ok.part) c.origins-origins.ensures.value
    (subst (λ (ps : List Peer). IsPart c.origins-origins.result.now r.tables ps r.number c.args.number c.args.first c.in-Ok.part) c.as_slice-peers.ensures.value c.in-Ok.ensures) in
    let first = subst (λ (x : RouterView). IsPeer x.peers c.args.first) (sym c.self.view_is) c.requires.first in
    subst (λ (x : RouterView). RecordsAt (Ok stepped.Did) x c.args.number c.args.first c.args.stamp (with_peers r c.mark_all.new.peers.items m c.args.stamp)) c.self.view_is (λ g e ranks. (
      refl,
      recorded laws.over laws.one c.linked_routers_are_peers.ensures g r (record { sound = s; net = e; ranks = ranks; linked = laws.linked }) c.args.number c.args.first first c.in-Ok.part part
          c.mark_all.new.peers.items m c.first_down-down.result c.args.stamp
          (marked_then c.args.number r.peers c.reserve_markers.new.peers.items c.mark_all.new.peers.items c.reserve_markers.ensures.same c.mark_all.ensures)
          (c.first_down-down.ensures ∙ ap down_in c.as_slice.ensures.value) c.in-Ok-begin.ensures.ok,
    ))
