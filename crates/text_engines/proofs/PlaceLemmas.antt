-- Where a prefix stands among origins, which rise, and what entries give at its place.
use Rattle.std.proofs.Common.{◌≡◌, ◌≢◌, ℕ, ◌+◌, ◌<◌, ◌≤◌, Bool, true, false, cond, List, [], ◌∷◌, ◌++◌, length, take, get_or, set, refl, sym, ap, subst, ◌∙◌, arith, inl, inr, ◌⊎◌, get_or-set_other, get_or-set_same, append_assoc}
use Rattle.std.specs.Prelude.{◌==◌, ◌&&◌, ◌||◌, nat_lt}
use Rattle.std.specs.List.{AllPairs}
use Rattle.std.specs.List.Sorted.{IsPartitionedBy, IsPartitionPoint}
use Rattle.std.proofs.lemmas.Bool.{cases_order, lt-ltb, eq-eqb, ne_eqb, or_left, or_right, and_from, and_left, and_right, and_parts}
use Rattle.std.proofs.lemmas.Bool.Decides.{nat_tests}
use Rattle.std.proofs.lemmas.List.{length-set, take_more, append-nil}
use Rattle.prefix_lanes.specs.Bits.{PrefixView, is_prefix}
use Rattle.ranked_policy.specs.Plans.{Plan, IsBefore}
use Rattle.ranked_policy.specs.declared.network.Origin.{Origin}
use Rattle.stable_paths.specs.declared.assignment.Assigned.{Assigned}
use Rattle.stable_paths.specs.Stable.{path_of}
use Rattle.stable_paths.specs.Judging.{IsVerdict, AreMovers}
use Rattle.stable_paths.specs.declared.verdict.Check.{Check}
use Rattle.stable_paths.specs.declared.verdict.Mover.{Mover}
use Rattle.net_text.specs.declared.assignment.Entry.{Entry}
use Rattle.text_engines.specs.Checking.{is_before, IsPlace, HasNoPlace, Assign, paths_of, at_prefix, movers_text, MoversText}
use Rattle.text_engines.proofs.CheckLemmas.{within, verdict_as, paths_on, paths_pass, paths_give}

-- ---- the order of prefixes

len_less : (a b l m : ℕ) → (nat_lt a b || ((a == b) && nat_lt l m)) ≡ true → a ≡ b → l < m
len_less a b l m t e = grind (arith, nat_tests)

not_more : (a b l m : ℕ) → (nat_lt a b || ((a == b) && nat_lt l m)) ≡ true → b < a → ⊥
not_more a b l m t more = grind (arith, nat_tests)

before_is : (p q : PrefixView) → is_before p q ≡ true → IsBefore p q
before_is p q t = elim (cases_order p.addr q.addr) [
  | inl same ↦ inr (same, len_less p.addr q.addr p.len q.len t same)
  | inr differ ↦ elim differ [ inl less ↦ inl less | inr more ↦ absurd (not_more p.addr q.addr p.len q.len t more) ]
]

before_from : (p q : PrefixView) → IsBefore p q → is_before p q ≡ true
before_from p q h = elim h [
  | inl l ↦ or_left (nat_lt p.addr q.addr) _ (lt-ltb p.addr q.addr l)
  | inr e ↦ or_right (nat_lt p.addr q.addr) _ (and_from (p.addr == q.addr) _ (eq-eqb p.addr q.addr e.0) (lt-ltb p.len q.len e.1))
]

chain : (p q r : PrefixView) → IsBefore p q → IsBefore q r → IsBefore p r
chain p q r h k = elim h [
  | inl l ↦ elim k [ inl m ↦ inl (omega (arith, l, m)) | inr m ↦ inl (omega (arith, l, m.0)) ]
  | inr e ↦ elim k [ inl m ↦ inl (omega (arith, e.0, m)) | inr m ↦ inr (e.0 ∙ m.0, omega (arith, e.1, m.1)) ]
]

apart : (p q : PrefixView) → IsBefore p q → is_prefix q p ≡ false
apart p q h = elim h [
  | inl l ↦ and_left (q.addr == p.addr) _ (ne_eqb q.addr p.addr (λ e. omega (arith, l, e)))
  | inr e ↦ and_right (q.addr == p.addr) _ (ne_eqb q.len p.len (λ f. omega (arith, e.1, f)))
]

-- what comes behind one that does not come before q is not q
beyond : (o later q : PrefixView) → IsBefore o later → is_before o q ≡ false → is_prefix q later ≡ false
beyond o later q h not = by (is_prefix q later) refl
  where
    by : (b : Bool) → is_prefix q later ≡ b → b ≡ false
    by false e = refl
    by true e =
        let both = and_parts (q.addr == later.addr) (q.len == later.len) e in
        let addr : later.addr ≡ q.addr = grind (arith, nat_tests, both.0) in
        let len : later.len ≡ q.len = grind (arith, nat_tests, both.1) in
        let here : IsBefore o q = subst (λ (a : ℕ). (o.addr < a) ⊎ ((o.addr ≡ a) × (o.len < q.len))) addr (subst (λ (l : ℕ). (o.addr < later.addr) ⊎ ((o.addr ≡ later.addr) × (o.len < l))) len h) in
        let yes = before_from o q here in cc

-- ---- a search among origins

abbrev Rise : List Origin → Type 0
Rise origins = AllPairs (λ (o later : Origin). IsBefore o.prefix later.prefix) origins

abbrev Parts : List Origin → PrefixView → ℕ → Type 0
Parts origins q place = IsPartitionPoint (λ (o : Origin). is_before o.prefix q ≡ true) (λ (o : Origin). is_before o.prefix q ≡ false) origins place

pub partitioned : (origins : List Origin) (q : PrefixView) → Rise origins → IsPartitionedBy (λ o. is_before o.prefix q) origins
partitioned origins q rise i j d le lt t = elim (cases_order i j) [
  | inl same ↦ subst (λ k. is_before (get_or origins k d).prefix q ≡ true) (sym same) t
  | inr differ ↦ elim differ [
    | inl less ↦ before_from _ q (chain _ _ q (rise i j d less lt) (before_is _ q t))
    | inr more ↦ absurd (omega (arith, le, more))
  ]
]

elsewhere : (origins : List Origin) (q : PrefixView) (place : ℕ) → Rise origins → Parts origins q place → (i : ℕ) (o : Origin) → i < length origins → i ≢ place → is_prefix q (get_or origins i o).prefix ≡ false
elsewhere origins q place rise parts i o lt ne = elim (cases_order i place) [
  | inl same ↦ absurd (ne same)
  | inr differ ↦ elim differ [
    | inl less ↦ apart _ q (before_is _ q (parts.0 i o (omega arith) less))
    | inr more ↦ beyond (get_or origins place o).prefix _ q (rise place i o more lt) (parts.1 place o (omega arith) (omega (arith, more, lt)))
  ]
]

-- what the place says, it says whatever stands for the origins past the end
at_place : (origins : List Origin) (q : PrefixView) (place : ℕ) (origin : Origin) (b : Bool) → place < length origins → is_prefix q (get_or origins place origin).prefix ≡ b
    → (i : ℕ) (o : Origin) → i ≡ place → is_prefix q (get_or origins i o).prefix ≡ b
at_place origins q place origin b lt here i o same =
    ap (λ k. is_prefix q (get_or origins k o).prefix) same ∙ ap (λ (x : Origin). is_prefix q x.prefix) (within origins place o origin lt) ∙ here

pub place_found : (origins : List Origin) (q : PrefixView) (place : ℕ) (origin : Origin) → Rise origins → Parts origins q place → place < length origins
    → is_prefix q (get_or origins place origin).prefix ≡ true → IsPlace origins q place
place_found origins q place origin rise parts lt here = record {
  inside = lt;
  only = λ i o below. elim (cases_order i place) [
    | inl same ↦ at_place origins q place origin true lt here i o same ∙ sym (eq-eqb i place same)
    | inr differ ↦
        let ne : i ≢ place = λ e. elim differ [ inl less ↦ omega (arith, less, e) | inr more ↦ omega (arith, more, e) ] in
        elsewhere origins q place rise parts i o below ne ∙ sym (ne_eqb i place ne)
  ];
}

pub place_other : (origins : List Origin) (q : PrefixView) (place : ℕ) (origin : Origin) → Rise origins → Parts origins q place → place < length origins
    → is_prefix q (get_or origins place origin).prefix ≡ false → HasNoPlace origins q
place_other origins q place origin rise parts lt here i o below = elim (cases_order i place) [
  | inl same ↦ at_place origins q place origin false lt here i o same
  | inr differ ↦ elsewhere origins q place rise parts i o below (λ e. elim differ [ inl less ↦ omega (arith, less, e) | inr more ↦ omega (arith, more, e) ])
]

pub place_behind : (origins : List Origin) (q : PrefixView) (place : ℕ) → Rise origins → Parts origins q place → length origins ≤ place → HasNoPlace origins q
place_behind origins q place rise parts le i o below = elsewhere origins q place rise parts i o below (λ e. omega (arith, le, below, e))

-- ---- what entries give, by one more

-- an entry of a prefix that no origin has gives nothing
pub assign_pass : (origins : List Origin) (entries : List Entry) (n : ℕ) (entry : Entry) (all : List (List Assigned)) → n < length entries → entry ≡ get_or entries n entry → HasNoPlace origins entry.prefix
    → Assign origins (take n entries) all → Assign origins (take (n + 1) entries) all
assign_pass origins entries n entry all lt is none h = record {
  as_many = h.as_many;
  each = λ i o below u.
      let q : PrefixView = (get_or origins i o).prefix in
      paths_on q entries n entry (path_of (get_or all i [])) (path_of (get_or all i [])) lt is (paths_pass entry q (path_of (get_or all i [])) (sym (none i o below))) (h.each i o below) u;
}

-- and another gives at the place of its prefix
pub assign_more : (origins : List Origin) (entries : List Entry) (n : ℕ) (entry : Entry) (all : List (List Assigned)) (place : ℕ) (new : List Assigned) → n < length entries → entry ≡ get_or entries n entry
    → IsPlace origins entry.prefix place → ((u : ℕ) → path_of new u ≡ cond (entry.router == u) entry.path (path_of (get_or all place []) u))
    → Assign origins (take n entries) all → Assign origins (take (n + 1) entries) (set all place new)
assign_more origins entries n entry all place new lt is at gives h = record {
  as_many = length-set all place new ∙ h.as_many;
  each = λ i o below u.
      let q : PrefixView = (get_or origins i o).prefix in
      paths_on q entries n entry (path_of (get_or all i [])) (path_of (get_or (set all place new) i [])) lt is (here i q (at.only i o below)) (h.each i o below) u;
}
  where
    here : (i : ℕ) (q : PrefixView) → is_prefix entry.prefix q ≡ (i == place) → (u : ℕ) → path_of (get_or (set all place new) i []) u ≡ cond ((entry.router == u) && is_prefix entry.prefix q) entry.path (path_of (get_or all i []) u)
    here i q e = elim (cases_order i place) [
      | inl same ↦
          let inside : place < length all = omega (arith, at.inside, h.as_many) in
          let there : get_or (set all place new) i [] ≡ new = ap (λ k. get_or (set all place new) k []) same ∙ get_or-set_same all place new [] inside in
          paths_give entry q (path_of (get_or all i [])) (path_of (get_or (set all place new) i [])) (sym (e ∙ eq-eqb i place same))
          (λ u. ap (λ (p : List Assigned). path_of p u) there ∙ gives u ∙ ap (λ k. cond (entry.router == u) entry.path (path_of (get_or all k []) u)) (sym same))
      | inr differ ↦
          let ne : i ≢ place = λ f. elim differ [ inl less ↦ omega (arith, less, f) | inr more ↦ omega (arith, more, f) ] in
          let there : get_or (set all place new) i [] ≡ get_or all i [] = get_or-set_other all place i new [] ne in
          λ u. ap (λ (p : List Assigned). path_of p u) there ∙ paths_pass entry q (path_of (get_or all i [])) (sym (e ∙ ne_eqb i place ne)) u
    ]

-- a verdict on what stands at the place of an origin is one on what the entries give for its prefix
pub verdict_here : (net : Plan) (origins : List Origin) (entries : List Entry) (all : List (List Assigned)) (place : ℕ) (origin : Origin) (mine : List Assigned) (check : Check) → place < length origins
    → origin ≡ get_or origins place origin → mine ≡ get_or all place mine → Assign origins entries all
    → IsVerdict (at_prefix net origin.prefix) (path_of mine) check → IsVerdict (at_prefix net origin.prefix) (paths_of entries origin.prefix) check
verdict_here net origins entries all place origin mine check lt is at h v =
    let inside : place < length all = omega (arith, lt, h.as_many) in
    verdict_as net origin.prefix (path_of mine) (paths_of entries origin.prefix) check
    (λ u. ap (λ (p : List Assigned). path_of p u) (at ∙ within all place mine [] inside) ∙ h.each place origin lt u ∙ ap (λ (o : Origin). paths_of entries o.prefix u) (sym is)) v

-- and all that would move by one form of the paths would by another
pub movers_here : (net : Plan) (origins : List Origin) (entries : List Entry) (all : List (List Assigned)) (place : ℕ) (origin : Origin) (mine : List Assigned) (movers : List Mover) → place < length origins
    → origin ≡ get_or origins place origin → mine ≡ get_or all place mine → Assign origins entries all
    → AreMovers (at_prefix net origin.prefix) (path_of mine) net.routers movers → AreMovers (at_prefix net origin.prefix) (paths_of entries origin.prefix) net.routers movers
movers_here net origins entries all place origin mine movers lt is at h v =
    let inside : place < length all = omega (arith, lt, h.as_many) in
    let same : (u : ℕ) → path_of mine u ≡ paths_of entries origin.prefix u =
    λ u. ap (λ (p : List Assigned). path_of p u) (at ∙ within all place mine [] inside) ∙ h.each place origin lt u ∙ ap (λ (o : Origin). paths_of entries o.prefix u) (sym is) in
    let e : path_of mine ≡ paths_of entries origin.prefix = λ i u. same u i in
    subst (λ (paths : ℕ → List ℕ). AreMovers (at_prefix net origin.prefix) paths net.routers movers) e v

-- the text of one prefix more
text_on : (net : Plan) (entries : List Entry) (os : List Origin) (o : Origin) (movers : List Mover) (text : List ℕ) → MoversText net entries os text
    → AreMovers (at_prefix net o.prefix) (paths_of entries o.prefix) net.routers movers → MoversText net entries (os ++ o ∷ []) (text ++ movers_text o.prefix movers)
text_on net entries [] o movers text none are = (movers, [], are, refl, ap (λ (t : List ℕ). t ++ movers_text o.prefix movers) none ∙ sym (append-nil (movers_text o.prefix movers)))
text_on net entries (x ∷ os) o movers text h are =
    (h.0, h.1 ++ movers_text o.prefix movers, h.2, text_on net entries os o movers h.1 h.3 are, ap (λ (t : List ℕ). t ++ movers_text o.prefix movers) h.4 ∙ append_assoc (movers_text x.prefix h.0) h.1 (movers_text o.prefix movers))

-- the text of the prefixes before a place
abbrev pub IsTextTo : Plan → List Entry → List Origin → ℕ → List ℕ → List ℕ → Type 0
IsTextTo net entries origins place old new = (text : List ℕ) × MoversText net entries (take place origins) text × (new ≡ old ++ text)

pub text_more : (net : Plan) (entries : List Entry) (origins : List Origin) (place : ℕ) (o : Origin) (movers : List Mover) (old mid new : List ℕ) → place < length origins → o ≡ get_or origins place o
    → IsTextTo net entries origins place old mid → AreMovers (at_prefix net o.prefix) (paths_of entries o.prefix) net.routers movers → new ≡ mid ++ movers_text o.prefix movers → IsTextTo net entries origins (place + 1) old new
text_more net entries origins place o movers old mid new lt is h are put =
    let one : take (place + 1) origins ≡ take place origins ++ o ∷ [] = take_more origins place o lt ∙ ap (λ (x : Origin). take place origins ++ x ∷ []) (sym is) in (
      h.0 ++ movers_text o.prefix movers,
      subst (λ (os : List Origin). MoversText net entries os (h.0 ++ movers_text o.prefix movers)) (sym one) (text_on net entries (take place origins) o movers h.0 h.1 are),
      put ∙ ap (λ (t : List ℕ). t ++ movers_text o.prefix movers) h.2 ∙ append_assoc old h.0 (movers_text o.prefix movers),
    )
