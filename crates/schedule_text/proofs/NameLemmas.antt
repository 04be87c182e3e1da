-- Routers and prefixes of a network, as a line names them.
use Rattle.std.proofs.Common.{◌≡◌, ℕ, ◌==◌, Bool, true, false, List, [], ◌∷◌, refl, ap, sym, subst, ◌∙◌}
use Rattle.std.specs.Prelude.{◌||◌, nat_le}
use Rattle.std.specs.List.{All, list_any}
use Rattle.std.proofs.lemmas.Bool.{eqb-true, eq-eqb, and_parts, or_right, le-leb}
use Rattle.std.proofs.lemmas.List.Elements.{All-head, All-tail}
use Rattle.bgp_values.specs.declared.width.Width.{Width}
use Rattle.bgp_values.specs.Ranges.{IsAsn, is_asn, greatest_asn}
use Rattle.prefix_lanes.specs.Bits.{PrefixView, IsCanonical, is_prefix}
use Rattle.ranked_policy.specs.declared.network.Origin.{Origin}
use Rattle.ranked_policy.specs.declared.network.NetRouter.{NetRouter}
use Rattle.ranked_policy.specs.Plans.{IsNetwork, numbers}
use Rattle.router_model.specs.Settings.{Setting}
use Rattle.router_model.specs.Settings as settings
use Rattle.net_text.specs.Words.{is_router, is_named}
use Rattle.schedule_text.proofs.LineLemmas.{both_true, IsNamed}

known_at : (b : Bool) (u n : ℕ) (more rest : Bool) → (u == n) ≡ b → (b || more) ≡ true → (more ≡ true → rest ≡ true) → ((n == u) || rest) ≡ true
known_at true u n more rest is h go = ap (λ (c : Bool). c || rest) (eq-eqb n u (sym (eqb-true u n is)))
known_at false u n more rest is h go = or_right (n == u) rest (go h)

known_by : (routers : List NetRouter) (u : ℕ) → list_any (λ n. u == n) (numbers routers) ≡ true → is_router routers u ≡ true
known_by [] u h = absurd cc
known_by (r ∷ rs) u h = known_at (u == r.asn) u r.asn (list_any (λ n. u == n) (numbers rs)) (is_router rs u) refl h (known_by rs u)

range_at : (P : ℕ → Type 0) (b : Bool) (u n : ℕ) (more : Bool) → (u == n) ≡ b → (b || more) ≡ true → P n → (more ≡ true → P u) → P u
range_at P true u n more is h here go = subst P (sym (eqb-true u n is)) here
range_at P false u n more is h here go = go h

range_by : (P : ℕ → Type 0) (ns : List ℕ) (u : ℕ) → All P ns → list_any (λ n. u == n) ns ≡ true → P u
range_by P [] u all h = absurd cc
range_by P (n ∷ ns) u all h = range_at P (u == n) u n (list_any (λ k. u == k) ns) refl h (All-head P n ns all) (range_by P ns u (All-tail P n ns all))

asn_by : (width : Width) (u : ℕ) → IsAsn width u → is_asn width u ≡ true
asn_by width u h = both_true (nat_le 1 u) (nat_le u (greatest_asn width)) (le-leb 1 u h.0) (le-leb u (greatest_asn width) h.1)

same_prefix : (p q : PrefixView) → is_prefix p q ≡ true → p ≡ q
same_prefix p q h =
    let k = and_parts (p.addr == q.addr) (p.len == q.len) h in
    ap (λ (n : ℕ). record { addr = n; len = p.len }) (eqb-true p.addr q.addr k.0) ∙ ap (λ (n : ℕ). record { addr = q.addr; len = n }) (eqb-true p.len q.len k.1)

canonical_at : (b : Bool) (p q : PrefixView) (more : Bool) → is_prefix p q ≡ b → (b || more) ≡ true → IsCanonical p → (more ≡ true → IsCanonical q) → IsCanonical q
canonical_at true p q more is h here go = subst IsCanonical (same_prefix p q is) here
canonical_at false p q more is h here go = go h

pub canonical_by : (origins : List Origin) (q : PrefixView) → All (λ o. IsCanonical o.prefix) origins → is_named origins q ≡ true → IsCanonical q
canonical_by [] q all h = absurd cc
canonical_by (o ∷ os) q all h =
    canonical_at (is_prefix o.prefix q) o.prefix q (is_named os q) refl h (All-head (λ k. IsCanonical k.prefix) o os all) (canonical_by os q (All-tail (λ k. IsCanonical k.prefix) o os all))

pub named_of : (g : Setting) → IsNetwork g.net → (u : ℕ) → settings.is_router g u ≡ true → IsNamed g.net u
named_of g network u h = record {
  in_range = asn_by g.net.settings.width u (range_by (IsAsn g.net.settings.width) (numbers g.net.routers) u network.plan.in_range h);
  known = known_by g.net.routers u h;
}
