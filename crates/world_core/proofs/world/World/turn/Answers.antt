use Rattle.std.proofs.Common.{◌≡◌, ◌+◌, ◌<◌, ℕ, arith, length, map, get_or, List, [], ◌∷◌, take, drop, ap, sym, subst, ◌∙◌, refl, Ok, Some}
use Rattle.std.specs.List.{flat_map}
use Rattle.std.specs.Prelude.{slice_get}
use Rattle.std.proofs.lemmas.List.{length-map, get_or-map}
use Rattle.std.proofs.lemmas.Option.{get_or_from_slice_get, slice_get_read}
use Rattle.std.proofs.lemmas.Result.{err_from_is_err_and}
use Rattle.ranked_policy.specs.Plans.{Plan, IsNetwork, numbers}
use Rattle.router_model.specs.Settings.{peers}
use Rattle.world_core.specs.declared.inbox.Pipe.{Pipe}
use Rattle.world_core.specs.declared.schedule.Event.{Event}
use Rattle.world_core.specs.declared.schedule.Event.TheVariants as schedule
use Rattle.world_core.specs.Orders.{with_peer}
use Rattle.world_core.specs.Steps.{view_of}
use Rattle.world_core.specs.Views.{WorldView}
use Rattle.world_core.specs.Watching.{WatchesEvents}
use Rattle.world_core.proofs.Awake.{decides_spare}
use Rattle.world_core.proofs.Orders.{all_done, one_done, one_among}
use Rattle.world_core.proofs.Staying.{stands_here}
use Rattle.world_core.proofs.Watched.{none_watched, watched_before, watched_behind, watched_next, watched_until, own_watched}
use Rattle.world_core.proofs.world.World.turn.Goals as goal

-- as many peers as pipes
as_many : (pipes : List Pipe) (vs : List ℕ) → map (λ p. p.peer) pipes ≡ vs → length pipes ≡ length vs
as_many pipes vs are = sym (length-map pipes (λ p. p.peer)) ∙ ap length are

-- the peer of the pipe at a place stands at that place among the peers
peer_here : (pipes : List Pipe) (vs : List ℕ) (i : ℕ) (d : Pipe) → map (λ p. p.peer) pipes ≡ vs → i < length vs → slice_get vs i ≡ Some (get_or pipes i d).peer
peer_here pipes vs i d are inside =
    let many = as_many pipes vs are in
    let here : i < length pipes = omega (arith, inside, many) in
    let v = (get_or pipes i d).peer in
    slice_get_read vs (length vs) i v refl inside (sym (get_or-map (λ p. p.peer) pipes i d v here) ∙ ap (λ ns. get_or ns i v) are)

pub loop-peer_at-init : goal.loop-peer_at-init
loop-peer_at-init g c = record { net = refl; done = none_watched g.W.Watch.says g.W.Watch.may_want c.args.self.now (g.W.Watch.said c.args.watcher.now); resting = c.requires.resting }

pub pipes_at-peer_at-end-requires : goal.pipes_at-peer_at-end-requires
pipes_at-peer_at-end-requires g c =
    stands_here (view_of c.self.inside.state) c.args.number c.args.router_at c.self.invariant.0
    (subst (λ (y : WorldView). slice_get (numbers y.net.routers) c.args.router_at ≡ Some c.args.number) (sym c.self.view_is) c.requires.router)

pub pipes_at-requires : goal.pipes_at-requires
pipes_at-requires g c =
    let s = c.self-in-loop-peer_at in
    let net = ap (λ (y : WorldView). y.net) s.view_is ∙ c.loop-peer_at.invariant.net in
    stands_here (view_of s.inside.state) c.args.number c.args.router_at s.invariant.0
    (subst (λ (n : Plan). slice_get (numbers n.routers) c.args.router_at ≡ Some c.args.number) (sym net) c.requires.router)

pub bounds-pipes_at-peer_at : goal.bounds-pipes_at-peer_at
bounds-pipes_at-peer_at g c =
    let s = c.self-in-loop-peer_at in
    let u = c.args.number in
    let first = as_many c.pipes_at-peer_at-end.result.now (peers c.args.self.now.net u) (c.pipes_at-peer_at-end.ensures ∙ ap (λ (y : WorldView). peers y.net u) c.self.view_is) in
    let many = as_many c.pipes_at.result.now (peers c.args.self.now.net u) (c.pipes_at.ensures ∙ ap (λ (y : WorldView). peers y.net u) s.view_is ∙ ap (λ (n : Plan). peers n u) c.loop-peer_at.invariant.net) in
    omega (arith, c.loop-peer_at-test.true, first, many)

pub bounds-pipes_at-peer_at-in-loop-peer_at : goal.bounds-pipes_at-peer_at-in-loop-peer_at
bounds-pipes_at-peer_at-in-loop-peer_at = bounds-pipes_at-peer_at

pub exchange-requires-clause-placed : goal.exchange-requires-clause-placed
exchange-requires-clause-placed g c =
    let s = c.self-in-loop-peer_at in
    let u = c.args.number in
    let l = c.loop-peer_at in
    let all = peers c.args.self.now.net u in
    let first = as_many c.pipes_at-peer_at-end.result.now all (c.pipes_at-peer_at-end.ensures ∙ ap (λ (y : WorldView). peers y.net u) c.self.view_is) in
    let are = c.pipes_at.ensures ∙ ap (λ (y : WorldView). peers y.net u) s.view_is ∙ ap (λ (n : Plan). peers n u) l.invariant.net in
    let inside : l.peer_at < length all = omega (arith, c.loop-peer_at-test.true, first) in
    let v = (get_or c.pipes_at.result.now l.peer_at c.index-pipes_at-peer_at.result).peer in (
      subst (λ (n : Plan). slice_get (numbers n.routers) c.args.router_at ≡ Some u) (sym l.invariant.net) c.requires.router,
      subst (λ (n : Plan). slice_get (peers n u) l.peer_at ≡ Some v) (sym l.invariant.net) (peer_here c.pipes_at.result.now all l.peer_at c.index-pipes_at-peer_at.result are inside),
    )

pub returns-in_err-exchange-clause-watches : goal.returns-in_err-exchange-clause-watches
returns-in_err-exchange-clause-watches g c =
    let p = err_from_is_err_and c.from_residual.result c.from_residual.ensures.1 in
    let s = c.self-in-loop-peer_at in
    let x = c.args.self.now in
    let l = c.loop-peer_at in
    let z = c.exchange.new.self in
    let u = c.args.number in
    let all = peers x.net u in
    let first = as_many c.pipes_at-peer_at-end.result.now all (c.pipes_at-peer_at-end.ensures ∙ ap (λ (y : WorldView). peers y.net u) c.self.view_is) in
    let are = c.pipes_at.ensures ∙ ap (λ (y : WorldView). peers y.net u) s.view_is ∙ ap (λ (n : Plan). peers n u) l.invariant.net in
    let inside : l.peer_at < length all = omega (arith, c.loop-peer_at-test.true, first) in
    let v = (get_or c.pipes_at.result.now l.peer_at c.index-pipes_at-peer_at.result).peer in
    let there = peer_here c.pipes_at.result.now all l.peer_at c.index-pipes_at-peer_at.result are inside in
    let old = g.W.Watch.said c.args.watcher.now in
    let new = g.W.Watch.said c.exchange.new.watcher in
    let why = c.in_err-exchange.field-0.0 in
    rw (p.1, p.2)
    (watched_before g.W.Watch.says g.W.Watch.may_want x z (flat_map (with_peer u) all) (schedule.Decide u ∷ schedule.Advertise u ∷ schedule.Offer u ∷ []) why old new
    (watched_until g.W.Watch.says g.W.Watch.may_want x l.self z (flat_map (with_peer u) (take l.peer_at all)) (with_peer u v) (flat_map (with_peer u) (drop (l.peer_at + 1) all)) (flat_map (with_peer u) all) old (g.W.Watch.said l.watcher) new why
    (one_among (with_peer u) all l.peer_at v inside (sym (get_or_from_slice_get all l.peer_at v v there))) l.invariant.net l.invariant.done c.in_err-exchange.ensures.watches))

pub loop-peer_at-preserved : goal.loop-peer_at-preserved
loop-peer_at-preserved g c =
    let s = c.self-in-loop-peer_at in
    let x = c.args.self.now in
    let l = c.loop-peer_at in
    let z = c.exchange.new.self in
    let u = c.args.number in
    let all = peers x.net u in
    let first = as_many c.pipes_at-peer_at-end.result.now all (c.pipes_at-peer_at-end.ensures ∙ ap (λ (y : WorldView). peers y.net u) c.self.view_is) in
    let are = c.pipes_at.ensures ∙ ap (λ (y : WorldView). peers y.net u) s.view_is ∙ ap (λ (n : Plan). peers n u) l.invariant.net in
    let inside : l.peer_at < length all = omega (arith, c.loop-peer_at-test.true, first) in
    let v = (get_or c.pipes_at.result.now l.peer_at c.index-pipes_at-peer_at.result).peer in
    let there = peer_here c.pipes_at.result.now all l.peer_at c.index-pipes_at-peer_at.result are inside in
    record {
      net = c.exchange.ensures.same ∙ l.invariant.net;
      done = watched_next g.W.Watch.says g.W.Watch.may_want x l.self z (flat_map (with_peer u) (take l.peer_at all)) (with_peer u v) (flat_map (with_peer u) (take (l.peer_at + 1) all)) (g.W.Watch.said c.args.watcher.now) (g.W.Watch.said l.watcher) (g.W.Watch.said c.exchange.new.watcher)
          (one_done (with_peer u) all l.peer_at v inside (sym (get_or_from_slice_get all l.peer_at v v there))) l.invariant.net l.invariant.done c.in_ok-exchange.ensures.watches;
      resting = c.in_ok-exchange.ensures.resting;
    }

pub returns-clause-watches : goal.returns-clause-watches
returns-clause-watches g c =
    let x = c.args.self.now in
    let l = c.loop-peer_at in
    let u = c.args.number in
    let all = peers x.net u in
    let first = as_many c.pipes_at-peer_at-end.result.now all (c.pipes_at-peer_at-end.ensures ∙ ap (λ (y : WorldView). peers y.net u) c.self.view_is) in
    let old = g.W.Watch.said c.args.watcher.now in
    let done =
    subst (λ (k : List Event). WatchesEvents g.W.Watch.says g.W.Watch.may_want (Ok tt) x k old l.self (g.W.Watch.said l.watcher)) (all_done (with_peer u) all l.peer_at (omega (arith, c.loop-peer_at-test.false, first))) l.invariant.done in
    watched_behind g.W.Watch.says g.W.Watch.may_want x l.self c.alone.new.self (flat_map (with_peer u) all) (schedule.Decide u ∷ schedule.Advertise u ∷ schedule.Offer u ∷ []) c.alone.result old (g.W.Watch.said l.watcher) (g.W.Watch.said c.alone.new.watcher)
    l.invariant.net done c.alone.ensures.watches

pub returns-clause-resting : goal.returns-clause-resting
returns-clause-resting g c =
    let l = c.loop-peer_at in
    let u = c.args.number in
    let is_net = subst IsNetwork (ap (λ (y : WorldView). y.net) c.self.view_is ∙ sym l.invariant.net) c.self.invariant.0.network in
    own_watched g.W.Watch.says g.W.Watch.may_want l.self c.alone.new.self u c.alone.ensures.same c.answers_are_steps.ensures is_net (schedule.Decide u ∷ schedule.Advertise u ∷ schedule.Offer u ∷ []) l.marks.items (decides_spare u)
    c.alone.result (g.W.Watch.said l.watcher) (g.W.Watch.said c.alone.new.watcher) c.alone.ensures.watches l.invariant.resting

pub alone-requires : goal.alone-requires
alone-requires g c = subst (λ (n : Plan). slice_get (numbers n.routers) c.args.router_at ≡ Some c.args.number) (sym c.loop-peer_at.invariant.net) c.requires.router
