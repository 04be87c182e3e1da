use Rattle.std.proofs.Common.{◌∙◌, ◌+◌, ap, sym, subst}
use Rattle.std.specs.Prelude.{Ok, Err, Some, None}
use Rattle.std.proofs.lemmas.Result.{err_from_is_err_and}
use Rattle.outbox.specs.Items.{next_item}
use Rattle.router_model.specs.declared.refusal.RouterError.TheVariants as error
use Rattle.router_side.specs.SideOf.{side}
use Rattle.router_core.specs.Views.{view_of, RouterView, IsFound, ShowsNext}
use Rattle.router_core.proofs.Carrying.{of_sound}
use Rattle.ranked_policy.specs.declared.network.Settings.{Settings}
use Rattle.router_core.proofs.Serving.{shows_nothing, shows_late, shows_item, shows_memory}
use Rattle.router_core.proofs.router.Router.next_item_at.Goals as goal

pub returns-then-not-has_item : goal.returns-then-not-has_item
returns-then-not-has_item c =
    let r = view_of c.self.inside in
    let found = subst (λ (x : RouterView). IsFound x.peers c.args.peer c.args.peer_at) (sym c.self.view_is) c.peer_stands_at.ensures.found in
    subst (λ (x : RouterView). ShowsNext (Ok None) x c.args.peer) c.self.view_is (λ g e.
    shows_nothing g r c.args.peer (of_sound g r c.self.invariant e) c.args.peer_at c.index.result.now found.2 c.index.ensures found.1
    (sym (c.has_item.ensures r.net.settings.cut) ∙ c.if-not-has_item.true))

pub returns-in_err-stamp : goal.returns-in_err-stamp
returns-in_err-stamp c =
    let p = err_from_is_err_and c.from_residual.result c.from_residual.ensures.1 in
    let r = view_of c.self.inside in
    let found = subst (λ (x : RouterView). IsFound x.peers c.args.peer c.args.peer_at) (sym c.self.view_is) c.peer_stands_at.ensures.found in
    rw (p.1, p.2, c.in_err-stamp.ensures.0)
    (subst (λ (x : RouterView). ShowsNext (Err error.StampEnd) x c.args.peer) c.self.view_is (λ g e.
    shows_late g r c.args.peer (of_sound g r c.self.invariant e) c.args.peer_at c.index.result.now found.2 c.index.ensures found.1
    (sym (c.has_item.ensures r.net.settings.cut) ∙ c.if-not-has_item.false) c.in_err-stamp.ensures.1))

pub returns-in-Ok-Some : goal.returns-in-Ok-Some
returns-in-Ok-Some c =
    let r = view_of c.self.inside in
    let found = subst (λ (x : RouterView). IsFound x.peers c.args.peer c.args.peer_at) (sym c.self.view_is) c.peer_stands_at.ensures.found in
    let item = sym c.in-Ok-Some.field-0-is ∙ c.in-Ok-Some.ensures ∙ ap (λ (s : Settings). next_item s.cut (side c.index-2.result.now.side).outbox) c.settings-cut.ensures.value in
    rw c.in_ok-stamp.ensures.0
    (subst (λ (x : RouterView). ShowsNext (Ok (Some (record { stamp = r.stamp + 1; what = c.in-Ok-Some.what }))) x c.args.peer) c.self.view_is (λ g e.
    shows_item g r c.args.peer (of_sound g r c.self.invariant e) c.args.peer_at c.index-2.result.now found.2 c.index-2.ensures found.1 c.in-Ok-Some.what item c.in_ok-stamp.ensures.1))

pub returns-in-Err : goal.returns-in-Err
returns-in-Err c =
    let r = view_of c.self.inside in
    let found = subst (λ (x : RouterView). IsFound x.peers c.args.peer c.args.peer_at) (sym c.self.view_is) c.peer_stands_at.ensures.found in
    subst (λ (x : RouterView). ShowsNext (Err error.Memory) x c.args.peer) c.self.view_is (λ g e.
    shows_memory g r c.args.peer (of_sound g r c.self.invariant e) c.args.peer_at c.index.result.now found.2 c.index.ensures found.1
    (sym (c.has_item.ensures r.net.settings.cut) ∙ c.if-not-has_item.false) c.in_ok-stamp.ensures.1)
