-- Prefixes, origins and links by their tests.
use Rattle.std.proofs.Common.{◌≡◌, ℕ, Bool, true, ◌&&◌, List, refl, ap, ◌∙◌}
use Rattle.std.specs.Prelude.{◌==◌, ◌↔◌, IsTrue}
use Rattle.std.specs.Bool.{Decides}
use Rattle.std.specs.List.{Contains}
use Rattle.std.proofs.lemmas.Bool.{and_parts, and_from, eq-eqb, eqb-true}
use Rattle.std.proofs.lemmas.Bool.Decides.{Decides-by_or, same_from_decides}
use Rattle.std.proofs.lemmas.List.Elements.{Decides-contains}
use Rattle.std.proofs.lemmas.List.Folds.{Any-from_list_any, list_any-from_Any}
use Rattle.prefix_lanes.specs.Bits.{PrefixView, is_prefix}
use Rattle.ranked_policy.specs.declared.network.Origin.{Origin}
use Rattle.ranked_policy.specs.Plans.{Plan, IsOrigin, Linked}
use Rattle.rib_tables.specs.Words.{lists}
use Rattle.router_model.specs.Settings.{is_origin, joins, linked}
use Rattle.router_core.proofs.Beginnings.{is_joined, joins_is}

pub is_prefix-true : (p q : PrefixView) → is_prefix p q ≡ true → p ≡ q
is_prefix-true p q t =
    let parts = and_parts (p.addr == q.addr) (p.len == q.len) t in
    ap (λ (a : ℕ). record { addr = a; len = p.len }) (eqb-true p.addr q.addr parts.0) ∙ ap (λ (l : ℕ). record { addr = q.addr; len = l }) (eqb-true p.len q.len parts.1)

pub is_prefix-from : (p q : PrefixView) → p ≡ q → is_prefix p q ≡ true
is_prefix-from p q e =
    and_from (p.addr == q.addr) (p.len == q.len) (eq-eqb p.addr q.addr (ap (λ (x : PrefixView). x.addr) e)) (eq-eqb p.len q.len (ap (λ (x : PrefixView). x.len) e))

pub decides_lists : (ps : List PrefixView) (q : PrefixView) → Decides (lists ps q) (Contains ps q)
decides_lists ps q =
    Decides-contains ps q (lists ps q)
    (Decides-by_or (λ (p : PrefixView). is_prefix p q) (λ (p : PrefixView). p ≡ q) (λ (qs : List PrefixView). lists qs q) (λ (p : PrefixView). (is_prefix-true p q, is_prefix-from p q)) refl (λ _ _. refl) ps)

-- a test of the list that says the same
pub lists_is : (ps : List PrefixView) (q : PrefixView) (b : Bool) → (IsTrue b ↔ Contains ps q) → b ≡ lists ps q
lists_is ps q b h = same_from_decides b (lists ps q) (h.0, h.1) (decides_lists ps q)

abbrev names_it : ℕ → PrefixView → Origin → Bool
names_it u q o = is_prefix o.prefix q && (o.router == u)

pub origin_is : (origins : List Origin) (u : ℕ) (q : PrefixView) (b : Bool) → (IsTrue b ↔ IsOrigin origins u q) → b ≡ is_origin origins u q
origin_is origins u q b h =
    same_from_decides b (is_origin origins u q) (h.0, h.1) (
      λ t. let found = Any-from_list_any (names_it u q) origins t in
          let parts = and_parts (is_prefix found.1.prefix q) (found.1.router == u) found.4 in
          (found.0, found.1, found.2, found.3, (is_prefix-true found.1.prefix q parts.0, eqb-true found.1.router u parts.1)),
      λ found. list_any-from_Any (names_it u q) origins
          (found.0, found.1, found.2, found.3, and_from (is_prefix found.1.prefix q) (found.1.router == u) (is_prefix-from found.1.prefix q found.4.0) (eq-eqb found.1.router u found.4.1)),
    )

pub decides_linked : (net : Plan) (u v : ℕ) → Decides (linked net u v) (Linked net.links u v)
decides_linked net u v = (
  λ t. let found = Any-from_list_any (joins u v) net.links t in (found.0, found.1, found.2, found.3, is_joined found.1 u v found.4),
  λ found. list_any-from_Any (joins u v) net.links (found.0, found.1, found.2, found.3, joins_is found.1 u v found.4),
)
