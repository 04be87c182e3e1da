use Rattle.std.proofs.Common.{◌∙◌, ◌≤◌, ◌+◌, ℕ, arith, length, take, subst, sym, All}
use Rattle.std.proofs.lemmas.List.{take_all}
use Rattle.std.proofs.lemmas.List.Elements.{All-push}
use Rattle.worker_loop.specs.Whole.{peers_of, IsQuiet}
use Rattle.worker_loop.proofs.Chaining.{next_of, none_behind, all_below}
use Rattle.worker_loop.proofs.worker.Worker.links_are_idle.Goals as goal

pub loop-peer_at-preserved : goal.loop-peer_at-preserved
loop-peer_at-preserved g c =
    let x = c.args.self.now.router in
    let peers = peers_of c.args.self.now in
    let i = c.loop-peer_at.peer_at in
    let v = c.in-Some.peer in
    record {
      quiet = subst (All (IsQuiet x)) (sym (next_of peers i v (sym c.in-Some.ensures)))
          (All-push (IsQuiet x) (take i peers) v c.loop-peer_at.invariant.quiet (λ cut. sym (c.link_is_idle_at.ensures cut) ∙ c.if-not-link_is_idle_at.false));
    }

pub returns-in-None : goal.returns-in-None
returns-in-None g c = λ idle.
    let peers = peers_of c.args.self.now in
    let i = c.loop-peer_at.peer_at in
    subst (All (IsQuiet c.args.self.now.router)) (take_all i peers (none_behind peers i (sym c.in-None.ensures))) c.loop-peer_at.invariant.quiet

pub returns : goal.returns
returns g c = λ idle.
    let peers = peers_of c.args.self.now in
    let i = c.loop-peer_at.peer_at in
    let far : length peers ≤ i = all_below peers i (λ k v at. (let below = c.places-peer_at-end.ensures k v (c.requires.pipes k v at) in omega (arith, below, c.loop-peer_at-test.false))) in
    subst (All (IsQuiet c.args.self.now.router)) (take_all i peers far) c.loop-peer_at.invariant.quiet
