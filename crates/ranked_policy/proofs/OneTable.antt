-- A router of a network has one table of policies.
use Rattle.std.proofs.Common.{◌≡◌, ℕ, zero, suc, ◌<◌, List, [], ◌∷◌, length, get_or, refl, sym, ap, subst, ◌∙◌, arith, inl, inr}
use Rattle.std.specs.List.{AllPairs}
use Rattle.std.proofs.lemmas.Bool.{cases_order}
use Rattle.std.proofs.lemmas.List.{length-map, get_or-map, get_or_default}
use Rattle.ranked_policy.specs.declared.network.NetRouter.{NetRouter}
use Rattle.ranked_policy.specs.declared.network.RankRule.{RankRule}
use Rattle.ranked_policy.specs.declared.network.Origin.{Origin}
use Rattle.ranked_policy.specs.Plans.{Plan, AreRules, AreOrigins, IsNetwork, numbers}
use Rattle.ranked_policy.specs.Policies.{Table, IsTable, IsTableOf}

-- routers stand by rising number, so one stands at each number
same_place : (routers : List NetRouter) (i j : ℕ) (d : NetRouter) → AllPairs (λ u v. u < v) (numbers routers) → i < j → j < length routers → (get_or routers i d).asn ≡ (get_or routers j d).asn → ⊥
same_place routers i j d rising lt below e =
    let size : length (numbers routers) ≡ length routers = length-map routers (λ (r : NetRouter). r.asn) in
    let first : get_or (numbers routers) i 0 ≡ (get_or routers i d).asn = get_or-map (λ (r : NetRouter). r.asn) routers i d 0 (omega (arith, lt, below)) in
    let next : get_or (numbers routers) j 0 ≡ (get_or routers j d).asn = get_or-map (λ (r : NetRouter). r.asn) routers j d 0 below in
    let up : get_or (numbers routers) i 0 < get_or (numbers routers) j 0 = rising i j 0 lt (omega (arith, size, below)) in
    omega (arith, up, first, next, e)

same_router : (routers : List NetRouter) (i j : ℕ) (r s : NetRouter) → AllPairs (λ u v. u < v) (numbers routers) → i < length routers → j < length routers → get_or routers i r ≡ r → get_or routers j s ≡ s
    → r.asn ≡ s.asn → r ≡ s
same_router routers i j r s rising lt below is also e =
    let mine : get_or routers i s ≡ r = get_or_default routers i s r lt ∙ is in
    elim (cases_order i j) [
      | inl same ↦ sym mine ∙ ap (λ (k : ℕ). get_or routers k s) same ∙ also
      | inr differ ↦ elim differ [
        | inl less ↦ absurd (same_place routers i j s rising less below (ap (λ (q : NetRouter). q.asn) mine ∙ e ∙ sym (ap (λ (q : NetRouter). q.asn) also)))
        | inr more ↦ absurd (same_place routers j i s rising more lt (ap (λ (q : NetRouter). q.asn) also ∙ sym e ∙ sym (ap (λ (q : NetRouter). q.asn) mine)))
      ]
    ]

table_is : (t s : Table) → t.router ≡ s.router → t.rules ≡ s.rules → t.origins ≡ s.origins → t ≡ s
table_is t s a b c = λ i. record { router = a i; rules = b i; origins = c i }

pub one_table : (net : Plan) (u : ℕ) (t s : Table) → IsNetwork net → IsTableOf net u t → IsTableOf net u s → t ≡ s
one_table net u t s is a b =
    let router : t.router ≡ s.router = a.0 ∙ sym b.0 in
    let origins : t.origins ≡ s.origins = a.1 ∙ sym b.1 in
    let x = a.2 in
    let y = b.2 in
    let same : x.1 ≡ y.1 = same_router net.routers x.0 y.0 x.1 y.1 is.plan.rising x.2 y.2 x.3 y.3 (x.4.0 ∙ sym y.4.0) in
    let rules : t.rules ≡ s.rules = sym x.4.1 ∙ ap (λ (r : NetRouter). r.rules) same ∙ y.4.1 in
    table_is t s router rules origins

pub table_stands : (net : Plan) (u : ℕ) (t : Table) → IsNetwork net → IsTableOf net u t → IsTable t
table_stands net u t is a =
    let x = a.2 in
    let here = is.plan.rules x.0 x.1 x.2 in
    let rules = subst (λ (r : NetRouter). AreRules (numbers net.routers) r.asn r.rules) x.3 here in
    record {
      all = numbers net.routers;
      rules = subst (λ (rs : List RankRule). AreRules (numbers net.routers) t.router rs) x.4.1 (subst (λ (n : ℕ). AreRules (numbers net.routers) n x.1.rules) (x.4.0 ∙ sym a.0) rules);
      origins = subst (AreOrigins (numbers net.routers)) (sym a.1) is.plan.origins;
    }
