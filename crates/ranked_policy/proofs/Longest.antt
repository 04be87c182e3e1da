-- The longest rule that covers a prefix, by the place of its prefix among those of the rules.
use Rattle.std.proofs.Common.{◌≡◌, ℕ, ◌<◌, ◌≤◌, List, ◌∷◌, ◌++◌, length, Some, None, sym, ap, subst, ◌∙◌, arith, get_or, map, length-append}
use Rattle.std.specs.List.{All}
use Rattle.std.proofs.Math.Seq.{get_or-append_seam}
use Rattle.std.proofs.lemmas.List.{get_or-map, length-map}
use Rattle.std.proofs.lemmas.List.Elements.{All-append, All-cons, All-weaker}
use Rattle.prefix_lanes.specs.Bits.{PrefixView, Covers}
use Rattle.prefix_lanes.specs.Covering.{IsLongest}
use Rattle.ranked_policy.specs.declared.network.RankRule.{RankRule}
use Rattle.ranked_policy.specs.Policies.{IsRuleFor, NoRuleFor}

abbrev pub prefixes : List RankRule → List PrefixView
prefixes rules = map (λ rule. rule.prefix) rules

-- what holds of the prefix of each rule
of_rules : (P : PrefixView → Type 0) (rules : List RankRule) → All P (prefixes rules) → All (λ rule. P rule.prefix) rules
of_rules P rules all k d l = subst P (get_or-map (λ rule. rule.prefix) rules k d d.prefix l) (all k d.prefix (omega (arith, l, length-map rules (λ rule. rule.prefix))))

pub no_rule : (rules : List RankRule) (q : PrefixView) → IsLongest (prefixes rules) q None → NoRuleFor rules q
no_rule rules q none = of_rules (λ p. Covers p q → ⊥) rules none

pub within : (rules : List RankRule) (q : PrefixView) (at : ℕ) → IsLongest (prefixes rules) q (Some at) → at < length rules
within rules q at h =
    let s = h.1 in
    omega (arith, s.place, ap length s.whole, length-append s.before (h.0 ∷ s.behind), length-map rules (λ rule. rule.prefix))

pub rule_at : (rules : List RankRule) (q : PrefixView) (at : ℕ) (rule : RankRule) → rule ≡ get_or rules at rule → IsLongest (prefixes rules) q (Some at) → IsRuleFor rules q rule
rule_at rules q at rule read h =
    let p = h.0 in
    let s = h.1 in
    let inside : at < length rules = within rules q at h in
    let is : rule.prefix ≡ p =
    ap (λ r. r.prefix) read ∙ sym (get_or-map (λ r. r.prefix) rules at rule p inside) ∙ ap (λ xs. get_or xs at p) s.whole
    ∙ ap (λ k. get_or (s.before ++ p ∷ s.behind) k p) (sym s.place) ∙ get_or-append_seam s.before p s.behind p in
    let NoLonger : PrefixView → Type 0 = λ e. Covers e q → e.len ≤ p.len in
    let front : All NoLonger s.before = All-weaker (λ e. Covers e q → e.len < p.len) NoLonger (λ e l c. omega (arith, l c)) s.before s.shorter in
    let all : All NoLonger (prefixes rules) = subst (All NoLonger) (sym s.whole) (All-append NoLonger s.before (p ∷ s.behind) front (All-cons NoLonger p s.behind (λ c. omega arith) s.no_longer)) in
    record {
      listed = (at, inside, sym read);
      covers = subst (λ e. Covers e q) (sym is) s.covers;
      longest = subst (λ e. All (λ other. Covers other.prefix q → other.prefix.len ≤ e.len) rules) (sym is) (of_rules NoLonger rules all);
    }
