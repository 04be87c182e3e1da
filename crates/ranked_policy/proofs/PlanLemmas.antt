-- A network stays within its limits as it grows.
use Rattle.std.proofs.Common.{◌≡◌, ℕ, suc, ◌+◌, ◌<◌, ◌≤◌, Bool, true, false, List, [], ◌∷◌, ◌++◌, length, get_or, take, drop, refl, sym, ap, subst, ◌∙◌, arith, map, inl, inr, cond, length-append}
use Rattle.std.specs.Prelude.{◌≢◌, ◌==◌, set}
use Rattle.std.specs.List.{All, AllPairs, Contains, count_by}
use Rattle.std.proofs.lemmas.List.{map-append, set_split, take-append-drop, drop_more}
use Rattle.std.proofs.lemmas.List.Elements.{All-nil, All-cons, All-append, All-head, All-tail, All-push, All-weaker, All-map, Contains-append_left, Contains-append_right, Contains-append_cases}
use Rattle.std.proofs.lemmas.List.Quantifiers.{all_pairs_push}
use Rattle.std.proofs.lemmas.List.Sums.{sum_by-append}
use Rattle.std.proofs.lemmas.Bool.{or_cases, eqb-true}
use Rattle.prefix_lanes.specs.Bits.{PrefixView, IsCanonical}
use Rattle.ranked_policy.specs.declared.network.NetRouter.{NetRouter}
use Rattle.ranked_policy.specs.declared.network.Link.{Link}
use Rattle.ranked_policy.specs.declared.network.Origin.{Origin}
use Rattle.ranked_policy.specs.declared.network.RankRule.{RankRule}
use Rattle.ranked_policy.specs.Paths.{IsSimple, BeginsWith}
use Rattle.ranked_policy.specs.Plans.{Plan, numbers, identifiers, Joins, touches, IsRouter, IsBefore, AreLinks, AreOrigins, AreRanked, AreRules, IsPlan}
use Rattle.bgp_values.specs.Ranges.{IsAsn, IsUnicast}
use Rattle.ranked_policy.specs.Adding.{with_link, Changes}
use Rattle.ranked_policy.proofs.Rising.{pairs_insert, all_parts}

-- one element more, somewhere
pub all_insert : {X : Type 0} (P : X → Type 0) (xs ys : List X) (x : X) → All P (xs ++ ys) → P x → All P (xs ++ x ∷ ys)
all_insert P xs ys x all p = let parts = all_parts P xs ys all in All-append P xs (x ∷ ys) parts.0 (All-cons P x ys p parts.1)

pub contains_insert : {X : Type 0} (xs ys : List X) (x v : X) → Contains (xs ++ ys) v → Contains (xs ++ x ∷ ys) v
contains_insert xs ys x v h = elim (Contains-append_cases xs ys v h) [
  | inl front ↦ Contains-append_left xs (x ∷ ys) v front
  | inr back ↦ Contains-append_right xs (x ∷ ys) v (suc back.0, omega (arith, back.1), back.2)
]

-- a link more
count_push : (p : Link → Bool) (links : List Link) (link : Link) → count_by p (links ++ link ∷ []) ≡ count_by p links + cond (p link) 1 0
count_push p links link = sum_by-append (λ x. cond (p x) 1 0) links (link ∷ []) ∙ ap (λ n. count_by p links + n) (omega arith)

few_push : (links : List Link) (a b : ℕ) → count_by (touches a) links < 16 → count_by (touches b) links < 16 → ((u : ℕ) → count_by (touches u) links ≤ 16)
    → (u : ℕ) → (t : Bool) → touches u (record { one = a; other = b }) ≡ t → count_by (touches u) links + cond t 1 0 ≤ 16
few_push links a b at_a at_b few u false e = omega (arith, few u)
few_push links a b at_a at_b few u true e = elim (or_cases (a == u) (b == u) e) [
  | inl is_a ↦ omega (arith, subst (λ v. count_by (touches v) links < 16) (eqb-true a u is_a) at_a)
  | inr is_b ↦ omega (arith, subst (λ v. count_by (touches v) links < 16) (eqb-true b u is_b) at_b)
]

pub links_push : (all : List ℕ) (links : List Link) (a b : ℕ) → AreLinks all links → a ≢ b → All (λ link. Joins link a b → ⊥) links → Contains all a → Contains all b
    → count_by (touches a) links < 16 → count_by (touches b) links < 16 → AreLinks all (links ++ (record { one = a; other = b }) ∷ [])
links_push all links a b h apart new known_a known_b at_a at_b = let link : Link = record { one = a; other = b } in record {
  known = All-push (λ link. Contains all link.one × Contains all link.other) links link h.known (known_a, known_b);
  apart = All-push (λ link. link.one ≢ link.other) links link h.apart apart;
  distinct = all_pairs_push (λ link later. Joins link later.one later.other → ⊥) links link h.distinct new;
  few = λ u. omega (arith, count_push (touches u) links link, few_push links a b at_a at_b h.few u (touches u link) refl);
}

pub plan_link : (net : Plan) (a b : ℕ) → IsPlan net → (a ≢ b) × All (λ link. Joins link a b → ⊥) net.links → IsRouter net.routers a × IsRouter net.routers b
    → (count_by (touches a) net.links < 16) × (count_by (touches b) net.links < 16) → IsPlan (with_link net a b)
plan_link net a b h new known few = record {
  settings = h.settings;
  few = h.few;
  rising = h.rising;
  in_range = h.in_range;
  distinct = h.distinct;
  unicast = h.unicast;
  links = links_push (numbers net.routers) net.links a b h.links new.0 new.1 known.0 known.1 few.0 few.1;
  origins = h.origins;
  rules = h.rules;
}

-- with more routers to name
more_links : (all more : List ℕ) (links : List Link) → ((v : ℕ) → Contains all v → Contains more v) → AreLinks all links → AreLinks more links
more_links all more links on h = record {
  known = All-weaker (λ link. Contains all link.one × Contains all link.other) (λ link. Contains more link.one × Contains more link.other) (λ link k. (on link.one k.0, on link.other k.1)) links h.known;
  apart = h.apart;
  distinct = h.distinct;
  few = h.few;
}

more_origins : (all more : List ℕ) (origins : List Origin) → ((v : ℕ) → Contains all v → Contains more v) → AreOrigins all origins → AreOrigins more origins
more_origins all more origins on h = record {
  few = h.few;
  rising = h.rising;
  canonical = h.canonical;
  known = All-weaker (λ origin. Contains all origin.router) (λ origin. Contains more origin.router) (λ origin k. on origin.router k) origins h.known;
}

more_ranked : (all more : List ℕ) (u : ℕ) (paths : List (List ℕ)) → ((v : ℕ) → Contains all v → Contains more v) → AreRanked all u paths → AreRanked more u paths
more_ranked all more u paths on h = record {
  begins = h.begins;
  simple = h.simple;
  short = h.short;
  distinct = h.distinct;
  known = All-weaker (All (Contains all)) (All (Contains more)) (λ path k. All-weaker (Contains all) (Contains more) on path k) paths h.known;
  few = h.few;
}

more_rules : (all more : List ℕ) (u : ℕ) (rules : List RankRule) → ((v : ℕ) → Contains all v → Contains more v) → AreRules all u rules → AreRules more u rules
more_rules all more u rules on h = record {
  few = h.few;
  canonical = h.canonical;
  distinct = h.distinct;
  ranked = All-weaker (λ rule. AreRanked all u rule.paths) (λ rule. AreRanked more u rule.paths) (λ rule k. more_ranked all more u rule.paths on k) rules h.ranked;
}

no_rules : (all : List ℕ) (u : ℕ) → AreRules all u []
no_rules all u = record {
  few = omega arith;
  canonical = All-nil (λ rule. IsCanonical rule.prefix);
  distinct = λ i j d l m. absurd (omega (arith, m));
  ranked = All-nil (λ rule. AreRanked all u rule.paths);
}

-- a router more
pub plan_router : (net : Plan) (before behind : List NetRouter) (u id : ℕ) → net.routers ≡ before ++ behind → IsPlan net → All (λ r. (r.asn ≢ u) × (r.id ≢ id)) net.routers → length net.routers < 64 → IsAsn net.settings.width u × IsUnicast id
    → All (λ r. r.asn < u) before → All (λ r. u < r.asn) behind
    → IsPlan (record net { routers = before ++ (record { asn = u; id = id; rules = [] }) ∷ behind })
plan_router net before behind u id was h new room good below above =
    let r : NetRouter = record { asn = u; id = id; rules = [] } in
    let old : List NetRouter = before ++ behind in
    let now : List NetRouter = before ++ r ∷ behind in
    let old_numbers : numbers old ≡ numbers before ++ numbers behind = map-append (λ r. r.asn) before behind in
    let new_numbers : numbers now ≡ numbers before ++ u ∷ numbers behind = map-append (λ r. r.asn) before (r ∷ behind) in
    let old_ids : identifiers old ≡ identifiers before ++ identifiers behind = map-append (λ r. r.id) before behind in
    let new_ids : identifiers now ≡ identifiers before ++ id ∷ identifiers behind = map-append (λ r. r.id) before (r ∷ behind) in
    let on : (v : ℕ) → Contains (numbers net.routers) v → Contains (numbers now) v =
    λ v known. subst (λ l. Contains l v) (sym new_numbers) (contains_insert (numbers before) (numbers behind) u v (subst (λ l. Contains l v) (ap numbers was ∙ old_numbers) known)) in
    let apart = all_parts (λ r. (r.asn ≢ u) × (r.id ≢ id)) before behind (subst (All (λ r. (r.asn ≢ u) × (r.id ≢ id))) was new) in
    record {
      settings = h.settings;
      few = omega (arith, room, ap length was, length-append before behind, length-append before (r ∷ behind));
      rising = subst (AllPairs (λ v w. v < w)) (sym new_numbers)
          (pairs_insert (λ v w. v < w) (numbers before) (numbers behind) u (subst (AllPairs (λ v w. v < w)) (ap numbers was ∙ old_numbers) h.rising)
          (All-map (λ v. v < u) (λ r. r.asn) before below) (All-map (λ v. u < v) (λ r. r.asn) behind above));
      in_range = subst (All (IsAsn net.settings.width)) (sym new_numbers) (all_insert (IsAsn net.settings.width) (numbers before) (numbers behind) u (subst (All (IsAsn net.settings.width)) (ap numbers was ∙ old_numbers) h.in_range) good.0);
      distinct = subst (AllPairs (λ a b. a ≢ b)) (sym new_ids)
          (pairs_insert (λ a b. a ≢ b) (identifiers before) (identifiers behind) id (subst (AllPairs (λ a b. a ≢ b)) (ap identifiers was ∙ old_ids) h.distinct)
          (All-map (λ a. a ≢ id) (λ r. r.id) before (All-weaker (λ r. (r.asn ≢ u) × (r.id ≢ id)) (λ r. r.id ≢ id) (λ r k. k.1) before apart.0))
          (All-map (λ a. id ≢ a) (λ r. r.id) behind (All-weaker (λ r. (r.asn ≢ u) × (r.id ≢ id)) (λ r. id ≢ r.id) (λ r k e. k.1 (sym e)) behind apart.1)));
      unicast = subst (All IsUnicast) (sym new_ids) (all_insert IsUnicast (identifiers before) (identifiers behind) id (subst (All IsUnicast) (ap identifiers was ∙ old_ids) h.unicast) good.1);
      links = more_links (numbers net.routers) (numbers now) net.links on h.links;
      origins = more_origins (numbers net.routers) (numbers now) net.origins on h.origins;
      rules = all_insert (λ r. AreRules (numbers now) r.asn r.rules) before behind r
          (subst (All (λ r. AreRules (numbers now) r.asn r.rules)) was
          (All-weaker (λ r. AreRules (numbers net.routers) r.asn r.rules) (λ r. AreRules (numbers now) r.asn r.rules) (λ r k. more_rules (numbers net.routers) (numbers now) r.asn r.rules on k) net.routers h.rules))
          (no_rules (numbers now) u);
    }

-- one element changed
pub all_change : {X : Type 0} (P : X → Type 0) (xs ys : List X) (x y : X) → All P (xs ++ x ∷ ys) → (P x → P y) → All P (xs ++ y ∷ ys)
all_change P xs ys x y all on =
    let parts = all_parts P xs (x ∷ ys) all in All-append P xs (y ∷ ys) parts.0 (All-cons P y ys (on (All-head P x ys parts.1)) (All-tail P x ys parts.1))

-- of a relation that reads only what stays
pub map_change : {X Y : Type 0} (f : X → Y) (xs ys : List X) (x y : X) → f x ≡ f y → map f (xs ++ x ∷ ys) ≡ map f (xs ++ y ∷ ys)
map_change f xs ys x y e = map-append f xs (x ∷ ys) ∙ ap (λ z. map f xs ++ z ∷ map f ys) e ∙ sym (map-append f xs (y ∷ ys))

-- a rule more
rules_push : (all : List ℕ) (u : ℕ) (rules : List RankRule) (q : PrefixView) (paths : List (List ℕ)) → AreRules all u rules → IsCanonical q → All (λ rule. rule.prefix ≢ q) rules → length rules < 64
    → AreRanked all u paths → AreRules all u (rules ++ (record { prefix = q; paths = paths }) ∷ [])
rules_push all u rules q paths h canonical new room ranked = let rule : RankRule = record { prefix = q; paths = paths } in record {
  few = omega (arith, room, length-append rules (rule ∷ []));
  canonical = All-push (λ rule. IsCanonical rule.prefix) rules rule h.canonical canonical;
  distinct = all_pairs_push (λ rule later. rule.prefix ≢ later.prefix) rules rule h.distinct new;
  ranked = All-push (λ rule. AreRanked all u rule.paths) rules rule h.ranked ranked;
}

pub ranked_from : (all : List ℕ) (u : ℕ) (paths : List (List ℕ)) → All (λ path. BeginsWith path u × IsSimple path) paths → All (λ path. length path ≤ 16) paths → AllPairs (λ path later. path ≢ later) paths
    → All (All (Contains all)) paths → length paths ≤ 32 → AreRanked all u paths
ranked_from all u paths simple short distinct known few = record {
  begins = All-weaker (λ path. BeginsWith path u × IsSimple path) (λ path. BeginsWith path u) (λ path h. h.0) paths simple;
  simple = All-weaker (λ path. BeginsWith path u × IsSimple path) IsSimple (λ path h. h.1) paths simple;
  short = short;
  distinct = distinct;
  known = known;
  few = few;
}

pub plan_rule : (net : Plan) (before behind : List NetRouter) (r : NetRouter) (q : PrefixView) (paths : List (List ℕ)) → net.routers ≡ before ++ r ∷ behind → IsPlan net → IsCanonical q
    → All (λ rule. rule.prefix ≢ q) r.rules → length r.rules < 64 → AreRanked (numbers net.routers) r.asn paths
    → IsPlan (record net { routers = before ++ (record r { rules = r.rules ++ (record { prefix = q; paths = paths }) ∷ [] }) ∷ behind })
plan_rule net before behind r q paths was h canonical new room ranked =
    let r' : NetRouter = record r { rules = r.rules ++ (record { prefix = q; paths = paths }) ∷ [] } in
    let now : List NetRouter = before ++ r' ∷ behind in
    let same : numbers net.routers ≡ numbers now = ap numbers was ∙ map_change (λ r. r.asn) before behind r r' refl in
    let ids : identifiers net.routers ≡ identifiers now = ap identifiers was ∙ map_change (λ r. r.id) before behind r r' refl in
    record {
      settings = h.settings;
      few = omega (arith, h.few, ap length was, length-append before (r ∷ behind), length-append before (r' ∷ behind));
      rising = subst (AllPairs (λ v w. v < w)) same h.rising;
      in_range = subst (All (IsAsn net.settings.width)) same h.in_range;
      distinct = subst (AllPairs (λ a b. a ≢ b)) ids h.distinct;
      unicast = subst (All IsUnicast) ids h.unicast;
      links = subst (λ all. AreLinks all net.links) same h.links;
      origins = subst (λ all. AreOrigins all net.origins) same h.origins;
      rules = subst (λ all. All (λ r. AreRules all r.asn r.rules) now) same
          (all_change (λ r. AreRules (numbers net.routers) r.asn r.rules) before behind r r' (subst (All (λ r. AreRules (numbers net.routers) r.asn r.rules)) was h.rules)
          (λ rules. rules_push (numbers net.routers) r.asn r.rules q paths rules canonical new room ranked));
    }

-- a prefix more
pub plan_origin : (net : Plan) (before behind : List Origin) (u : ℕ) (q : PrefixView) → net.origins ≡ before ++ behind → IsPlan net → IsCanonical q → IsRouter net.routers u → length net.origins < 256
    → All (λ origin. IsBefore origin.prefix q) before → All (λ origin. IsBefore q origin.prefix) behind
    → IsPlan (record net { origins = before ++ (record { prefix = q; router = u }) ∷ behind })
plan_origin net before behind u q was h canonical known room below above = let new : Origin = record { prefix = q; router = u } in record {
  settings = h.settings;
  few = h.few;
  rising = h.rising;
  in_range = h.in_range;
  distinct = h.distinct;
  unicast = h.unicast;
  links = h.links;
  origins = record {
    few = omega (arith, room, ap length was, length-append before behind, length-append before (new ∷ behind));
    rising = pairs_insert (λ origin later. IsBefore origin.prefix later.prefix) before behind new (subst (AllPairs (λ origin later. IsBefore origin.prefix later.prefix)) was h.origins.rising) below above;
    canonical = all_insert (λ origin. IsCanonical origin.prefix) before behind new (subst (All (λ origin. IsCanonical origin.prefix)) was h.origins.canonical) canonical;
    known = all_insert (λ origin. Contains (numbers net.routers) origin.router) before behind new (subst (All (λ origin. Contains (numbers net.routers) origin.router)) was h.origins.known) known;
  };
  rules = h.rules;
}

-- an element of a list, with what stands before and behind it
pub parted : {X : Type 0} (xs : List X) (i : ℕ) (x : X) → i < length xs → x ≡ get_or xs i x → xs ≡ take i xs ++ x ∷ drop (suc i) xs
parted xs i x l read =
    let n : i + 1 ≡ suc i = omega arith in
    sym (take-append-drop i xs) ∙ ap (λ t. take i xs ++ t) (drop_more xs i x l ∙ ap (λ y. y ∷ drop (i + 1) xs) (sym read) ∙ ap (λ k. x ∷ drop k xs) n)

pub changed : {X : Type 0} (xs : List X) (i : ℕ) (x y : X) → i < length xs → x ≡ get_or xs i x → Changes xs (set xs i y) x y
changed xs i x y l read = record {
  before = take i xs;
  behind = drop (suc i) xs;
  first = parted xs i x l read;
  second = set_split xs i y l;
}

pub plan_rule_at : (net : Plan) (i : ℕ) (r : NetRouter) (q : PrefixView) (paths : List (List ℕ)) → i < length net.routers → r ≡ get_or net.routers i r → IsPlan net → IsCanonical q
    → All (λ rule. rule.prefix ≢ q) r.rules → length r.rules < 64 → AreRanked (numbers net.routers) r.asn paths
    → IsPlan (record net { routers = set net.routers i (record r { rules = r.rules ++ (record { prefix = q; paths = paths }) ∷ [] }) })
plan_rule_at net i r q paths l read h canonical new room ranked =
    rw (set_split net.routers i (record r { rules = r.rules ++ (record { prefix = q; paths = paths }) ∷ [] }) l)
    (plan_rule net (take i net.routers) (drop (suc i) net.routers) r q paths (parted net.routers i r l read) h canonical new room ranked)
