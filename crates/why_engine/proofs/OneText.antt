-- A router of a world has one text.
use Rattle.std.proofs.Common.{◌≡◌, ℕ, ◌<◌, ap, sym, subst, ◌∙◌, inl, inr, false, refl}
use Rattle.std.proofs.lemmas.Bool.{false≢true}
use Rattle.std.proofs.lemmas.List.{length-map, get_or-map}
use Rattle.ranked_policy.specs.declared.network.NetRouter as network
use Rattle.ranked_policy.specs.Plans.{Plan, IsRouter}
use Rattle.ranked_policy.specs.Policies.{Table, IsTableOf}
use Rattle.ranked_policy.proofs.OneTable.{one_table}
use Rattle.router_model.specs.Settings.{Setting, is_router}
use Rattle.world_core.proofs.Stepping.{known}
use Rattle.text_engines.specs.declared.status.TheConstants.{DONE}
use Rattle.text_engines.specs.Decoding.{output}
use Rattle.why_engine.specs.Explaining.{why_text}
use Rattle.why_engine.specs.Laws.{EachRouterHasOneText}

-- who has policies is a router
has_a_table : (net : Plan) (u : ℕ) (t : Table) → IsTableOf net u t → IsRouter net.routers u
has_a_table net u t of =
    let x = of.2 in (
      x.0,
      subst (λ (n : ℕ). x.0 < n) (sym (length-map net.routers (λ (r : network.NetRouter). r.asn))) x.2,
      get_or-map (λ (r : network.NetRouter). r.asn) net.routers x.0 x.1 u x.2 ∙ ap (λ (r : network.NetRouter). r.asn) x.3 ∙ x.4.0,
    )

not_both : (g : Setting) (u : ℕ) (t : Table) → is_router g u ≡ false → IsTableOf g.net u t → ⊥
not_both g u t none of = false≢true (sym none ∙ known g g.net u refl (has_a_table g.net u t of))

pub explains_one : EachRouterHasOneText
explains_one u g set w a b (inl x) (inl y) = x.1 ∙ sym y.1
explains_one u g set w a b (inl x) (inr y) = absurd (not_both g u y.0 x.0 y.2)
explains_one u g set w a b (inr x) (inl y) = absurd (not_both g u x.0 y.0 x.2)
explains_one u g set w a b (inr x) (inr y) =
    let same = one_table g.net u x.0 y.0 set.network x.2 y.2 in
    x.3 ∙ ap (λ (t : Table). output (why_text g w u t) DONE) same ∙ sym y.3
