use Rattle.std.proofs.Common.{sym, subst}
use Rattle.router_model.specs.Settings.{peers}
use Rattle.snap_marker.specs.declared.part.Part.{Part}
use Rattle.std.specs.Prelude.{Option}
use Rattle.snap_marker.specs.Parts.{IsOver}
use Rattle.router_core.specs.Views.{view_of}
use Rattle.router_core.proofs.Marking.{same_become}
use Rattle.router_core.proofs.Snapshots.{Marks, same_alike, stays_sound}
use Rattle.router_core.proofs.router.Router.offer_made.Goals as goal

pub invariant_of-self : goal.invariant_of-self
invariant_of-self c =
    let r = view_of c.self.inside in
    let s = c.self.invariant in
    let m = c.offer_made.new.self in
    let marks : Marks r m =
    record {
      over = subst (λ (u : Option Part). IsOver (peers r.net r.number) u) (sym c.offer_made.ensures.unfinished) s.marked.over;
      own = c.offer_made.ensures.router r.number (record { unfinished = s.marked.unfinished; queue = s.marked.queue });
    } in
    stays_sound r r.peers m c.args.stamp (λ x. x) same_alike (same_become r.peers) s c.requires.few marks
