use Rattle.std.proofs.Common.{◌∙◌, ◌++◌, ap, map, List}
use Rattle.ranked_policy.specs.declared.network.Origin.{Origin}
use Rattle.worker_loop.specs.declared.chore.Chore.{Chore}
use Rattle.router_model.specs.Settings.{peers}
use Rattle.thread_engines.proofs.GateLemmas.{chosen, start, starts, originate, is_of, all_started}
use Rattle.thread_engines.proofs.chores.opening.Goals as goal

pub loop-link-init : goal.loop-link-init
loop-link-init c = ap (λ (cs : List Chore). cs ++ starts c.links_of-link-items.result.now) c.new-chores.ensures.items ∙ ap (map start) c.links_of-link-items.ensures.peers

pub loop-origin-init : goal.loop-origin-init
loop-origin-init c =
    let net = c.args.network.now in
    let u = c.args.number in
    let l = c.loop-link in
    let started = all_started c.links_of-link-items.result.now l.link-index l.chores.items _ c.loop-link-test.false l.invariant in
    ap (λ (cs : List Chore). cs ++ chosen originate (is_of u) c.origins-origin-items.result.now) started
    ∙ ap (λ (os : List Origin). map start (peers net u) ++ chosen originate (is_of u) os) c.origins-origin-items.ensures.value
