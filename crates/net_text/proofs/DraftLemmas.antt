-- What a network builder's calls add, at the place where it belongs.
use Rattle.std.proofs.Common.{◌≡◌, ℕ, suc, ◌<◌, ◌==◌, nat_lt, Bool, true, false, List, [], ◌∷◌, ◌++◌, length, map, get_or, refl, sym, ap, subst, ◌∙◌, arith, inl, inr}
use Rattle.std.specs.List.{AllPairs, All}
use Rattle.std.proofs.lemmas.List.{length-map, get_or-map}
use Rattle.std.proofs.lemmas.List.Elements.{All-head, All-tail}
use Rattle.std.proofs.lemmas.Bool.{cond-true, cond-false, lt-ltb, le-ltb, eq-eqb, ne_eqb, or_left, or_right, or_from, and_from, and_left, and_right}
use Rattle.prefix_lanes.specs.Bits.{PrefixView}
use Rattle.ranked_policy.specs.declared.network.NetRouter.{NetRouter}
use Rattle.ranked_policy.specs.declared.network.Origin.{Origin}
use Rattle.ranked_policy.specs.declared.network.RankRule.{RankRule}
use Rattle.ranked_policy.specs.declared.network.Settings.{Settings}
use Rattle.ranked_policy.specs.declared.network.Link.{Link}
use Rattle.ranked_policy.specs.Plans.{Plan, IsPlan, numbers, IsBefore}
use Rattle.ranked_policy.specs.Adding.{Gains, Changes, AddsRouter, AddsOrigin, AddsRule}
use Rattle.net_text.specs.declared.network_so_far.NetworkSoFar.{NetworkSoFar}
use Rattle.net_text.specs.Lines.{among, is_below, comes_before, ruled, new_router, new_origin, with_router, with_origin, with_rule}

at_place : {X : Type 0} (r d : X) (xs ys : List X) → get_or (xs ++ r ∷ ys) (length xs) d ≡ r
at_place r d [] ys = refl
at_place r d (x ∷ xs) ys = at_place r d xs ys

within : {X : Type 0} (r : X) (xs ys : List X) → length xs < length (xs ++ r ∷ ys)
within r [] ys = omega arith
within r (x ∷ xs) ys = let more = within r xs ys in omega arith

-- the first element is related to each one behind it
pair_behind : {X : Type 0} (R : X → X → Type 0) (x r : X) (xs ys : List X) → AllPairs R (x ∷ (xs ++ r ∷ ys)) → R x r
pair_behind R x r xs ys pairs = subst (R x) (at_place r x xs ys) (pairs 0 (suc (length xs)) x (omega arith) (let more = within r xs ys in omega (arith, more)))

pairs_tail : {X : Type 0} (R : X → X → Type 0) (x : X) (xs : List X) → AllPairs R (x ∷ xs) → AllPairs R xs
pairs_tail R x xs pairs i j d l m = pairs (suc i) (suc j) d (omega (arith, l)) (omega (arith, m))

pairs_head : {X : Type 0} (R : X → X → Type 0) (x : X) (xs : List X) → AllPairs R (x ∷ xs) → All (R x) xs
pairs_head R x xs pairs k d l = pairs 0 (suc k) d (omega arith) (omega (arith, l))

pairs_unmap : {X Y : Type 0} (f : X → Y) (R : Y → Y → Type 0) (xs : List X) → AllPairs R (map f xs) → AllPairs (λ x y. R (f x) (f y)) xs
pairs_unmap f R xs pairs i j d l m =
    subst (λ z. R z (f (get_or xs j d))) (get_or-map f xs i d (f d) (omega (arith, l, m)))
    (subst (R (get_or (map f xs) i (f d))) (get_or-map f xs j d (f d) m) (pairs i j (f d) l (omega (arith, m, length-map xs f))))

-- one more in a list that is in order stands where it belongs
placed : {X : Type 0} (R : X → X → Type 0) (t : X → X → Bool) → ((x y : X) → R x y → t x y ≡ true) → ((x y : X) → R x y → t y x ≡ false)
    → (xs ys : List X) (r : X) → AllPairs R (xs ++ r ∷ ys) → xs ++ r ∷ ys ≡ among t (xs ++ ys) r
placed R t before behind [] [] r pairs = refl
placed R t before behind [] (y ∷ ys) r pairs = sym (cond-false (t y r) _ _ (behind r y (pair_behind R r y [] ys pairs)))
placed {X = X} R t before behind (x ∷ xs) ys r pairs =
    ap (λ (zs : List X). x ∷ zs) (placed R t before behind xs ys r (pairs_tail R x (xs ++ r ∷ ys) pairs))
    ∙ sym (cond-true (t x r) _ _ (before x r (pair_behind R x r xs ys pairs)))

-- ---- routers

pub router_placed : (old new : List NetRouter) (router : NetRouter) → AllPairs (λ u v. u < v) (numbers new) → Gains old new router → new ≡ among is_below old router
router_placed old new router rising g =
    let pairs : AllPairs (λ (r s : NetRouter). r.asn < s.asn) (g.before ++ router ∷ g.behind) =
    pairs_unmap (λ (r : NetRouter). r.asn) (λ u v. u < v) (g.before ++ router ∷ g.behind) (subst (λ (rs : List NetRouter). AllPairs (λ u v. u < v) (numbers rs)) g.is rising) in
    g.is
    ∙ placed (λ (r s : NetRouter). r.asn < s.asn) is_below (λ r s l. lt-ltb r.asn s.asn l) (λ r s l. le-ltb s.asn r.asn (omega (arith, l))) g.before g.behind router pairs
    ∙ ap (λ (rs : List NetRouter). among is_below rs router) (sym g.was)

-- ---- origins

comes : (o p : Origin) → IsBefore o.prefix p.prefix → comes_before o p ≡ true
comes o p h = elim h [
  | inl l ↦ or_left (nat_lt o.prefix.addr p.prefix.addr) _ (lt-ltb o.prefix.addr p.prefix.addr l)
  | inr e ↦ or_right (nat_lt o.prefix.addr p.prefix.addr) _ (and_from (o.prefix.addr == p.prefix.addr) _ (eq-eqb o.prefix.addr p.prefix.addr e.0) (lt-ltb o.prefix.len p.prefix.len e.1))
]

comes_not : (o p : Origin) → IsBefore o.prefix p.prefix → comes_before p o ≡ false
comes_not o p h = elim h [
  | inl l ↦ or_from (nat_lt p.prefix.addr o.prefix.addr) _ (le-ltb p.prefix.addr o.prefix.addr (omega (arith, l))) (and_left (p.prefix.addr == o.prefix.addr) _ (ne_eqb p.prefix.addr o.prefix.addr (λ e. omega (arith, l, e))))
  | inr e ↦ or_from (nat_lt p.prefix.addr o.prefix.addr) _ (le-ltb p.prefix.addr o.prefix.addr (omega (arith, e.0))) (and_right (p.prefix.addr == o.prefix.addr) _ (le-ltb p.prefix.len o.prefix.len (omega (arith, e.1))))
]

pub origin_placed : (old new : List Origin) (origin : Origin) → AllPairs (λ o later. IsBefore o.prefix later.prefix) new → Gains old new origin → new ≡ among comes_before old origin
origin_placed old new origin rising g =
    g.is
    ∙ placed (λ (o p : Origin). IsBefore o.prefix p.prefix) comes_before comes comes_not g.before g.behind origin (subst (AllPairs (λ (o p : Origin). IsBefore o.prefix p.prefix)) g.is rising)
    ∙ ap (λ (os : List Origin). among comes_before os origin) (sym g.was)

-- ---- rules

others_stay : (u : ℕ) (rule : RankRule) (xs : List NetRouter) → All (λ r. u < r.asn) xs → map (ruled u rule) xs ≡ xs
others_stay u rule [] above = refl
others_stay u rule (x ∷ xs) above =
    let h : u < x.asn = All-head (λ (r : NetRouter). u < r.asn) x xs above in
    ap (λ (r : NetRouter). r ∷ map (ruled u rule) xs) (cond-false (x.asn == u) _ _ (ne_eqb x.asn u (λ e. omega (arith, h, e))))
    ∙ ap (λ (rs : List NetRouter). x ∷ rs) (others_stay u rule xs (All-tail (λ (r : NetRouter). u < r.asn) x xs above))

rule_placed_in : (u : ℕ) (rule : RankRule) (r s : NetRouter) (xs ys : List NetRouter) → r.asn ≡ u → s.asn ≡ u → s ≡ record r { rules = r.rules ++ rule ∷ [] } → AllPairs (λ r s. r.asn < s.asn) (xs ++ s ∷ ys)
    → xs ++ s ∷ ys ≡ map (ruled u rule) (xs ++ r ∷ ys)
rule_placed_in u rule r s [] ys e f is pairs =
    let above : All (λ (t : NetRouter). u < t.asn) ys = subst (λ n. All (λ (t : NetRouter). n < t.asn) ys) f (pairs_head (λ (r s : NetRouter). r.asn < s.asn) s ys pairs) in
    ap (λ (t : NetRouter). t ∷ ys) (is ∙ sym (cond-true (r.asn == u) _ _ (eq-eqb r.asn u e))) ∙ ap (λ (ts : List NetRouter). ruled u rule r ∷ ts) (sym (others_stay u rule ys above))
rule_placed_in u rule r s (x ∷ xs) ys e f is pairs =
    let l : x.asn < s.asn = pair_behind (λ (r s : NetRouter). r.asn < s.asn) x s xs ys pairs in
    ap (λ (ts : List NetRouter). x ∷ ts) (rule_placed_in u rule r s xs ys e f is (pairs_tail (λ (r s : NetRouter). r.asn < s.asn) x (xs ++ s ∷ ys) pairs))
    ∙ ap (λ (t : NetRouter). t ∷ map (ruled u rule) (xs ++ r ∷ ys)) (sym (cond-false (x.asn == u) _ _ (ne_eqb x.asn u (λ g. omega (arith, l, f, g)))))

pub rule_placed : (old new : List NetRouter) (u : ℕ) (rule : RankRule) (r : NetRouter) → r.asn ≡ u → AllPairs (λ u v. u < v) (numbers new) → Changes old new r (record r { rules = r.rules ++ rule ∷ [] })
    → new ≡ map (ruled u rule) old
rule_placed old new u rule r e rising g =
    let s : NetRouter = record r { rules = r.rules ++ rule ∷ [] } in
    let pairs : AllPairs (λ (r s : NetRouter). r.asn < s.asn) (g.before ++ s ∷ g.behind) =
    pairs_unmap (λ (r : NetRouter). r.asn) (λ u v. u < v) (g.before ++ s ∷ g.behind) (subst (λ (rs : List NetRouter). AllPairs (λ u v. u < v) (numbers rs)) g.second rising) in
    g.second ∙ rule_placed_in u rule r s g.before g.behind e e refl pairs ∙ ap (map (ruled u rule)) (sym g.first)

-- ---- the drafts that the calls leave

plan_same : (p : Plan) (settings : Settings) (routers : List NetRouter) (links : List Link) (origins : List Origin) → p.settings ≡ settings → p.routers ≡ routers → p.links ≡ links → p.origins ≡ origins
    → p ≡ record { settings = settings; routers = routers; links = links; origins = origins }
plan_same p settings routers links origins s r l o =
    ap (λ (x : Settings). record { settings = x; routers = p.routers; links = p.links; origins = p.origins }) s
    ∙ ap (λ (x : List NetRouter). record { settings = settings; routers = x; links = p.links; origins = p.origins }) r
    ∙ ap (λ (x : List Link). record { settings = settings; routers = routers; links = x; origins = p.origins }) l
    ∙ ap (λ (x : List Origin). record { settings = settings; routers = routers; links = links; origins = x }) o

pub with_router_is : (d : NetworkSoFar) (new : Plan) (u id : ℕ) → IsPlan new → AddsRouter d.net new u id → record d { net = new } ≡ with_router d u id
with_router_is d new u id plan added =
    ap (λ (p : Plan). record d { net = p })
    (plan_same new d.net.settings (among is_below d.net.routers (new_router u id)) d.net.links d.net.origins added.settings (router_placed d.net.routers new.routers (new_router u id) plan.rising added.routers) added.links added.origins)

pub with_origin_is : (d : NetworkSoFar) (new : Plan) (u : ℕ) (q : PrefixView) → IsPlan new → AddsOrigin d.net new u q → record d { net = new } ≡ with_origin d u q
with_origin_is d new u q plan added =
    ap (λ (p : Plan). record d { net = p })
    (plan_same new d.net.settings d.net.routers d.net.links (among comes_before d.net.origins (new_origin u q)) added.settings added.routers added.links (origin_placed d.net.origins new.origins (new_origin u q) plan.origins.rising added.origins))

pub with_rule_is : (d : NetworkSoFar) (new : Plan) (u : ℕ) (q : PrefixView) (paths : List (List ℕ)) → IsPlan new → AddsRule d.net new u q paths → record d { net = new } ≡ with_rule d u q paths
with_rule_is d new u q paths plan added =
    let rule : RankRule = record { prefix = q; paths = paths } in
    ap (λ (p : Plan). record d { net = p })
    (plan_same new d.net.settings (map (ruled u rule) d.net.routers) d.net.links d.net.origins added.settings (rule_placed d.net.routers new.routers u rule added.routers.0 added.routers.1 plan.rising added.routers.2) added.links added.origins)
