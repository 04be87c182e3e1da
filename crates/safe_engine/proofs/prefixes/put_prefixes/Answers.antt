use Rattle.std.proofs.Common.{◌≡◌, ◌<◌, List, length, get_or, subst, sym}
use Rattle.ranked_policy.specs.declared.network.Origin.{Origin}
use Rattle.safe_engine.proofs.SafeLemmas.{answered_more, puts_found}
use Rattle.safe_engine.proofs.prefixes.put_prefixes.Goals as goal

pub loop-origin-preserved : goal.loop-origin-preserved
loop-origin-preserved c =
    let i = c.loop-origin.origin-index in
    let o = c.origin-item.result in
    let net = c.args.network.now in
    let out = c.loop-origin.out.items in
    let new = c.put_found.new.out.items in
    let known = c.in_ok-is_known.is_known in
    let same = c.origins-origin-items.ensures.value in
    let lt = subst (λ (os : List Origin). i < length os) same c.loop-origin-test.true in
    let at = subst (λ (os : List Origin). o ≡ get_or os i o) same c.origin-item.is in
    let put = puts_found net c.args.most o.prefix c.found_for-found.result out new known c.found_for-found.ensures c.in_ok-is_known.ensures.memory c.in_ok-is_known.ensures.text c.in_ok-is_known.ensures.known in
    record {
      answered = answered_more net c.args.most net.origins i o c.args.out.now.items out new c.loop-origin.known known lt at c.loop-origin.invariant.answered put;
      last = ((i, lt, sym at), c.found_for-found.ensures);
    }
