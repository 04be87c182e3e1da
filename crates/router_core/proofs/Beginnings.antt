-- What a router says of itself can be said, and its peers are those of the network.
use Rattle.std.proofs.Common.{◌≡◌, ℕ, zero, suc, ◌<◌, ◌≤◌, ◌^◌, ◌==◌, Bool, true, false, cond, ◌&&◌, ◌||◌, List, [], ◌∷◌, length, map, refl, sym, ap, ◌∙◌, arith, ◌↔◌, inl, inr, get_or}
use Rattle.std.specs.Prelude.{◌⊎◌, ◌/◌, IsTrue, nat_le}
use Rattle.std.specs.List.{Contains, AllPairs, AllByRecursion, flat_map}
use Rattle.std.proofs.lemmas.Bool.{eqb-true, eq-eqb, ne_eqb}
use Rattle.std.proofs.lemmas.Bool.Decides.{nat_tests}
use Rattle.std.proofs.lemmas.List.Elements.{All-contains}
use Rattle.std.proofs.lemmas.List.{length-map}
use Rattle.std.proofs.lemmas.List.Folds.{Any-from_list_any, list_any-from_Any}
use Rattle.bgp_codec.specs.declared.message.Message.TheVariants.{OpenMsg}
use Rattle.bgp_codec.specs.Opens.{OpenFits, ParamFits, param_octets}
use Rattle.bgp_values.specs.declared.width.Width.{Width}
use Rattle.bgp_values.specs.declared.width.Width.TheVariants.{Two, Four}
use Rattle.bgp_values.specs.Ranges.{is_hold_time, is_unicast, IsUnicast, IsAsn, greatest_asn}
use Rattle.bgp_codec.specs.Spelling.{WrittenHasAHeader}
use Rattle.ranked_policy.specs.declared.network.Link.{Link}
use Rattle.ranked_policy.specs.declared.network.NetRouter.{NetRouter}
use Rattle.ranked_policy.specs.Plans.{Plan, IsNetwork, Joins, Linked, IsRouter, numbers, identifiers}
use Rattle.router_model.specs.Settings.{joins, linked, identifier}
use Rattle.router_model.specs.State.{asn_field, params_of}
use Rattle.router_side.specs.Sayings.{IsSayable}

-- ---- links

joins_of : (link : Link) (u v : ℕ) (a b c d : Bool) → (link.one == u) ≡ a → (link.other == v) ≡ b → (link.one == v) ≡ c → (link.other == u) ≡ d
    → ((a && b) || (c && d)) ≡ true → Joins link u v
joins_of link u v true true c d ea eb ec ed h = inl (eqb-true link.one u ea, eqb-true link.other v eb)
joins_of link u v true false true true ea eb ec ed h = inr (eqb-true link.one v ec, eqb-true link.other u ed)
joins_of link u v true false true false ea eb ec ed h = absurd cc
joins_of link u v true false false d ea eb ec ed h = absurd cc
joins_of link u v false b true true ea eb ec ed h = inr (eqb-true link.one v ec, eqb-true link.other u ed)
joins_of link u v false b true false ea eb ec ed h = absurd cc
joins_of link u v false b false d ea eb ec ed h = absurd cc

pub is_joined : (link : Link) (u v : ℕ) → joins u v link ≡ true → Joins link u v
is_joined link u v h = joins_of link u v (link.one == u) (link.other == v) (link.one == v) (link.other == u) refl refl refl refl h

or_true : (b : Bool) → (b || true) ≡ true
or_true true = refl
or_true false = refl

pub joins_is : (link : Link) (u v : ℕ) → Joins link u v → joins u v link ≡ true
joins_is link u v h =
    elim h [
      | inl k ↦ rw (eq-eqb link.one u k.0, eq-eqb link.other v k.1) refl
      | inr k ↦ rw (eq-eqb link.one v k.0, eq-eqb link.other u k.1) (or_true ((link.one == u) && (link.other == v)))
    ]

same_bool : (a b : Bool) → (a ≡ true → b ≡ true) → (b ≡ true → a ≡ true) → a ≡ b
same_bool true b f g = sym (f refl)
same_bool false true f g = g refl
same_bool false false f g = refl

-- the relation and the test
pub linked_is : (net : Plan) (u v : ℕ) (b : Bool) → (IsTrue b ↔ Linked net.links u v) → b ≡ linked net u v
linked_is net u v b h =
    same_bool b (linked net u v)
    (λ t. let found = h.0 t in list_any-from_Any (joins u v) net.links (found.0, found.1, found.2, found.3, joins_is found.1 u v found.4))
    (λ t. let found = Any-from_list_any (joins u v) net.links t in h.1 (found.0, found.1, found.2, found.3, is_joined found.1 u v found.4))

-- ---- the OPEN

hold_is : (hold : ℕ) → (hold ≡ 0) ⊎ (3 ≤ hold) → is_hold_time hold ≡ true
hold_is hold h =
    elim h [
      | inl k ↦ rw (eq-eqb hold 0 k) refl
      | inr k ↦ (let l : nat_le 3 hold ≡ true = grind (arith, nat_tests, k) in rw l (or_true (hold == 0)))
    ]

pub unicast_is : (id : ℕ) → IsUnicast id → is_unicast id ≡ true
unicast_is id h =
    let low : nat_le 1 (id / 2 ^ 24) ≡ true = grind (arith, nat_tests, h.0) in
    let high : nat_le (id / 2 ^ 24) 223 ≡ true = grind (arith, nat_tests, h.1) in
    rw (low, high) refl

by_field : (b : Bool) (u : ℕ) → nat_le u 65535 ≡ b → cond b u 23456 < 2 ^ 16
by_field true u e = grind (arith, nat_tests, e)
by_field false u e = omega arith

pub field_fits : (u : ℕ) → asn_field u < 2 ^ 16
field_fits u = by_field (nat_le u 65535) u refl

params_fit : (width : Width) (u : ℕ) → AllByRecursion ParamFits (params_of width u) × (length (flat_map param_octets (params_of width u)) < 256)
params_fit Two u = (tt, omega arith)
params_fit Four u = ((((omega arith, tt), omega arith), tt), omega arith)

pub open_sayable : WrittenHasAHeader → (w width : Width) (u hold id : ℕ) → hold < 2 ^ 16 → (hold ≡ 0) ⊎ (3 ≤ hold) → id < 2 ^ 32 → IsUnicast id
    → IsSayable w (OpenMsg (record { asn = asn_field u; hold = hold; id = id; params = params_of width u }))
open_sayable header w width u hold id h t i n =
    let params = params_fit width u in
    let fits : OpenFits (record { asn = asn_field u; hold = hold; id = id; params = params_of width u }) =
    record { asn = field_fits u; hold = h; hold_time = hold_is hold t; id = i; unicast = unicast_is id n; params = params.0; all = params.1 } in
    let all = header w (OpenMsg (record { asn = asn_field u; hold = hold; id = id; params = params_of width u })) in
    (fits, omega (arith, all, params.1))

-- ---- the identifier of a router

map_at : {X : Type 0} (f : X → ℕ) (xs : List X) (k : ℕ) (x : X) → get_or (map f xs) k (f x) ≡ f (get_or xs k x)
map_at f [] k x = refl
map_at f (y ∷ xs) zero x = refl
map_at f (y ∷ xs) (suc k) x = map_at f xs k x

id_is : (rs : List NetRouter) (k : ℕ) (r : NetRouter) (u : ℕ) → AllPairs (λ a b. a < b) (numbers rs) → k < length rs → get_or rs k r ≡ r → r.asn ≡ u → identifier rs u ≡ r.id
id_is [] k r u p l at e = absurd (omega (arith, l))
id_is (x ∷ rs) zero r u p l at e = rw (eq-eqb x.asn u (ap (λ (w : NetRouter). w.asn) at ∙ e)) (ap (λ (w : NetRouter). w.id) at)
id_is (x ∷ rs) (suc k) r u p l at e =
    let len : length (numbers rs) ≡ length rs = length-map rs (λ (w : NetRouter). w.asn) in
    let later : x.asn < get_or (numbers rs) k r.asn = p 0 (suc k) r.asn (omega arith) (omega (arith, len, l)) in
    let there : get_or (numbers rs) k r.asn ≡ u = map_at (λ (w : NetRouter). w.asn) rs k r ∙ ap (λ (w : NetRouter). w.asn) at ∙ e in
    let rest : AllPairs (λ a b. a < b) (numbers rs) = λ i j d lt le. p (suc i) (suc j) d (omega (arith, lt)) (omega (arith, le)) in
    rw (ne_eqb x.asn u (λ q. absurd (omega (arith, later, there, q)))) (id_is rs k r u rest (omega (arith, l)) at e)

pub identifier_is : (net : Plan) → IsNetwork net → (r : NetRouter) (u : ℕ) → Contains net.routers r → r.asn ≡ u → identifier net.routers u ≡ r.id
identifier_is net n r u c e = id_is net.routers c.0 r u n.plan.rising c.1 c.2 e

pub is_unicast_host : (net : Plan) → IsNetwork net → (r : NetRouter) → Contains net.routers r → IsUnicast r.id
is_unicast_host net n r c =
    let len : length (identifiers net.routers) ≡ length net.routers = length-map net.routers (λ (w : NetRouter). w.id) in
    let at : get_or (identifiers net.routers) c.0 r.id ≡ r.id = map_at (λ (w : NetRouter). w.id) net.routers c.0 r ∙ ap (λ (w : NetRouter). w.id) c.2 in
    All-contains IsUnicast (identifiers net.routers) r.id n.plan.unicast (c.0, omega (arith, len, c.1), at)

pub asn_fits : (net : Plan) → IsNetwork net → (u : ℕ) → IsRouter net.routers u → u ≤ greatest_asn net.settings.width
asn_fits net n u c = (All-contains (IsAsn net.settings.width) (numbers net.routers) u n.plan.in_range c).1
