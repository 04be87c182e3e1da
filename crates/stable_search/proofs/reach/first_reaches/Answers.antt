use Rattle.std.proofs.Common.{◌∙◌, ◌+◌, ◌∷◌, [], ℕ, List, ap, subst, length, arith}
use Rattle.std.proofs.lemmas.List.{length-append}
use Rattle.ranked_policy.specs.declared.network.Link.{Link}
use Rattle.ranked_policy.specs.Plans.{Plan}
use Rattle.stable_search.specs.Reaching.{IsFirstReach}
use Rattle.stable_search.proofs.ReachLemmas.{first_reaches, first_more}
use Rattle.stable_search.proofs.reach.first_reaches.Goals as goal

pub loop-place-preserved : goal.loop-place-preserved
loop-place-preserved c =
    let old = c.loop-place.reaches.items in (
      (let size = length-append old (c.first_reach.result ∷ []) in ap length c.in_ok-push.ensures.items ∙ size ∙ ap (λ (n : ℕ). n + 1) c.loop-place.invariant.0),
      first_more c.each_policy_is_an_order.ensures c.args.instance.now c.network-network.ensures.problem c.args.choosers.now c.requires.routers c.requires.choosers c.args.origin c.args.fixed.now c.requires.fixed old c.push.new.self.items
          c.loop-place.place c.first_reach.result c.loop-place.invariant.0 c.in_ok-push.ensures.items
          (λ it st. subst (λ (ls : List Link). IsFirstReach ls c.args.choosers.now c.args.fixed.now c.args.origin c.loop-place.place it c.first_reach.result) (ap (λ (n : Plan). n.links) c.network-network.ensures.value) (c.first_reach.ensures it st))
          c.loop-place.invariant.1,
    )

pub returns : goal.returns
returns c =
    first_reaches c.each_policy_is_an_order.ensures c.args.instance.now c.network-network.ensures.problem c.args.choosers.now c.requires.routers c.requires.choosers c.args.origin c.args.fixed.now c.requires.fixed c.loop-place.reaches.items
    (omega (arith, c.loop-place.invariant.0, c.loop-place-test.false, c.loop-place.auto.place-end))
    (λ i it st. c.loop-place.invariant.1 i it (omega (arith, st.0, c.loop-place-test.false)) st)
