use Rattle.std.proofs.Common.{◌≡◌, ◌<◌, ◌≤◌, List, length, get_or, refl, subst, sym, ◌∙◌}
use Rattle.std.specs.List.{All}
use Rattle.std.proofs.lemmas.Bool.{false≢true}
use Rattle.std.proofs.lemmas.List.{take_all}
use Rattle.std.proofs.lemmas.List.Elements.{All-more}
use Rattle.ranked_policy.specs.declared.network.NetRouter.{NetRouter}
use Rattle.stable_engine.specs.Alike.{HaveOneRule}
use Rattle.stable_engine.proofs.AlikeRules.{alike_all, apart_origins}
use Rattle.stable_engine.proofs.alike.are_alike.Goals as goal

pub returns-then-one-other : goal.returns-then-one-other
returns-then-one-other c = (
  λ t. absurd (false≢true t),
  λ h. absurd (apart_origins c.args.network.now c.routers-routers.ensures.network c.args.one.now c.args.other.now c.requires.one c.requires.other c.if-one-other.true h),
)

pub returns-then-not-have_one_rule : goal.returns-then-not-have_one_rule
returns-then-not-have_one_rule c = (
  λ t. absurd (false≢true t),
  λ h.
      let i = c.loop-router.router-index in
      let r = c.router-item.result in
      let same = c.routers-routers.ensures.value in
      let lt = subst (λ (rs : List NetRouter). i < length rs) same c.loop-router-test.true in
      let at = subst (λ (rs : List NetRouter). r ≡ get_or rs i r) same c.router-item.is in
      let here = subst (λ (x : NetRouter). HaveOneRule x.rules c.args.one.now.prefix c.args.other.now.prefix) (sym at) (h.rules i r lt) in
      sym c.if-not-have_one_rule.true ∙ c.have_one_rule.ensures.1 here,
)

pub loop-router-preserved : goal.loop-router-preserved
loop-router-preserved c =
    let i = c.loop-router.router-index in
    let r = c.router-item.result in
    let same = c.routers-routers.ensures.value in
    let lt = subst (λ (rs : List NetRouter). i < length rs) same c.loop-router-test.true in
    let at = subst (λ (rs : List NetRouter). r ≡ get_or rs i r) same c.router-item.is in
    let Has : NetRouter → Type 0 = λ x. HaveOneRule x.rules c.args.one.now.prefix c.args.other.now.prefix in
    All-more Has c.args.network.now.routers i r lt c.loop-router.invariant (subst Has at (c.have_one_rule.ensures.0 c.if-not-have_one_rule.false))

pub returns : goal.returns
returns c = (
  λ h.
      let net = c.args.network.now in
      let i = c.loop-router.router-index in
      let all = take_all i net.routers (subst (λ (rs : List NetRouter). length rs ≤ i) c.routers-routers.ensures.value c.loop-router-test.false) in
      let Has : NetRouter → Type 0 = λ x. HaveOneRule x.rules c.args.one.now.prefix c.args.other.now.prefix in
      alike_all net c.routers-routers.ensures.network c.args.one.now c.args.other.now c.requires.one c.requires.other c.if-one-other.false (subst (All Has) all c.loop-router.invariant),
  λ h. refl,
)
