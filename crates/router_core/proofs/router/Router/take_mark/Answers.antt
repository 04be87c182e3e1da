use Rattle.std.proofs.Common.{◌≡◌, ◌∙◌, ◌&&◌, true, false, Some, refl, sym, ap, subst, arith}
use Rattle.std.specs.Prelude.{nat_lt, Ok}
use Rattle.std.proofs.lemmas.Bool.Decides.{nat_tests}
use Rattle.std.proofs.lemmas.Result.{err_from_is_err_and}
use Rattle.router_model.specs.declared.refusal.Stepped.TheVariants as stepped
use Rattle.router_model.specs.Settings.{peers}
use Rattle.router_model.specs.Sides.{Side, is_up, uses}
use Rattle.router_side.specs.SideOf.{side, side_opening}
use Rattle.router_core.specs.declared.peers.Peer.{Peer}
use Rattle.router_core.specs.Views.{view_of, RouterView, IsFound, TakesMark, sides_of, config_of}
use Rattle.router_core.specs.Recorded.{RecordsAt}
use Rattle.router_core.proofs.PeerLemmas.{side_here}
use Rattle.router_core.proofs.Marking.{same_become}
use Rattle.router_core.proofs.Snapshots.{Marks, same_alike, stays_sound}
use Rattle.router_core.proofs.MarkTaking.{at_stamp, takes_nothing, takes_new, takes_old, is_link}
use Rattle.router_core.proofs.router.Router.take_mark.Goals as goal

pub returns-in_err-room-clause-takes : goal.returns-in_err-room-clause-takes
returns-in_err-room-clause-takes c =
    let p = err_from_is_err_and c.from_residual.result c.from_residual.ensures.1 in
    rw (p.1, p.2) (λ g q ranks. (refl, refl))

pub returns-then-not-heeds-clause-takes : goal.returns-then-not-heeds-clause-takes
returns-then-not-heeds-clause-takes c =
    let r = view_of c.self.inside in
    let place = subst (λ (x : RouterView). IsFound x.peers c.args.peer c.args.peer_at) (sym c.self.view_is) c.requires.place in
    let stands : sides_of r c.args.peer ≡ side c.index.result.now.side =
    side_here (side_opening (config_of r.net) r.net.settings.width) r.peers c.args.peer c.args.peer_at c.index.result.now place.2 ∙ ap (λ (w : Peer). side w.side) (sym c.index.ensures) in
    let heeds : (is_up (sides_of r c.args.peer) && uses (sides_of r c.args.peer).link c.args.epoch) ≡ c.heeds.result = ap (λ (s : Side). is_up s && uses s.link c.args.epoch) stands ∙ sym c.heeds.ensures in
    subst (λ (x : RouterView). TakesMark (Ok stepped.Did) x c.args.peer c.args.epoch c.args.number c.args.stamp (at_stamp r r.marks c.args.stamp)) c.self.view_is
    (takes_nothing r c.args.peer c.args.epoch c.args.number c.args.stamp (heeds ∙ c.if-not-heeds.true))

pub returns-then-number-last-clause-takes : goal.returns-then-number-last-clause-takes
returns-then-number-last-clause-takes c =
    let r = view_of c.self.inside in
    let place = subst (λ (x : RouterView). IsFound x.peers c.args.peer c.args.peer_at) (sym c.self.view_is) c.requires.place in
    let stands : sides_of r c.args.peer ≡ side c.index.result.now.side =
    side_here (side_opening (config_of r.net) r.net.settings.width) r.peers c.args.peer c.args.peer_at c.index.result.now place.2 ∙ ap (λ (w : Peer). side w.side) (sym c.index.ensures) in
    let heeds : (is_up (sides_of r c.args.peer) && uses (sides_of r c.args.peer).link c.args.epoch) ≡ c.heeds.result = ap (λ (s : Side). is_up s && uses s.link c.args.epoch) stands ∙ sym c.heeds.ensures in
    let greater : nat_lt r.marks.last c.args.number ≡ true = grind (arith, nat_tests, c.if-number-last.true, c.last.ensures) in
    subst (λ (x : RouterView). TakesMark c.records.result x c.args.peer c.args.epoch c.args.number c.args.stamp c.records.new.self) c.self.view_is
    (takes_new r c.args.peer c.args.epoch c.args.number c.args.stamp c.records.result c.records.new.self (heeds ∙ c.if-not-heeds.false) greater
    (subst (λ (x : RouterView). RecordsAt c.records.result x c.args.number (Some c.args.peer) c.args.stamp c.records.new.self) (sym c.self.view_is) c.records.ensures.records))

pub on_mark-requires : goal.on_mark-requires
on_mark-requires c =
    let r = view_of c.self.inside in
    let place = subst (λ (x : RouterView). IsFound x.peers c.args.peer c.args.peer_at) (sym c.self.view_is) c.requires.place in
    record { link = is_link c.linked_routers_are_peers.ensures r c.self.invariant c.args.peer (sym (c.self.invariant.links c.args.peer) ∙ place.1) }

pub invariant_of-self-2 : goal.invariant_of-self-2
invariant_of-self-2 c =
    let r = view_of c.self.inside in
    let s = c.self.invariant in
    let m = c.on_mark.new.self in
    let marks : Marks r m =
    record {
      over = c.on_mark.ensures.over (peers r.net r.number) s.marked.over;
      own = c.on_mark.ensures.router r.number (record { unfinished = s.marked.unfinished; queue = s.marked.queue });
    } in
    stays_sound r r.peers m c.args.stamp (λ x. x) same_alike (same_become r.peers) s c.requires.stamp marks

pub returns-clause-takes : goal.returns-clause-takes
returns-clause-takes c =
    let r = view_of c.self.inside in
    let place = subst (λ (x : RouterView). IsFound x.peers c.args.peer c.args.peer_at) (sym c.self.view_is) c.requires.place in
    let stands : sides_of r c.args.peer ≡ side c.index.result.now.side =
    side_here (side_opening (config_of r.net) r.net.settings.width) r.peers c.args.peer c.args.peer_at c.index.result.now place.2 ∙ ap (λ (w : Peer). side w.side) (sym c.index.ensures) in
    let heeds : (is_up (sides_of r c.args.peer) && uses (sides_of r c.args.peer).link c.args.epoch) ≡ c.heeds.result = ap (λ (s : Side). is_up s && uses s.link c.args.epoch) stands ∙ sym c.heeds.ensures in
    let less : nat_lt r.marks.last c.args.number ≡ false = grind (arith, nat_tests, c.if-number-last.false, c.last.ensures) in
    subst (λ (x : RouterView). TakesMark (Ok stepped.Did) x c.args.peer c.args.epoch c.args.number c.args.stamp (at_stamp r c.on_mark.new.self c.args.stamp)) c.self.view_is
    (takes_old r c.args.peer c.args.epoch c.args.number c.args.stamp c.on_mark.new.self (heeds ∙ c.if-not-heeds.false) less
    (c.on_mark.ensures.ends (peers r.net r.number) c.self.invariant.marked.over))
