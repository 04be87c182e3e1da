-- Of each part one of its choices: the combinations, and that each is of a stable assignment.
use Rattle.std.proofs.Common.{◌≡◌, ◌≢◌, ℕ, zero, suc, ◌<◌, ◌+◌, ◌*◌, ◌==◌, Bool, true, false, cond, List, [], ◌∷◌, ◌++◌, length, get_or, map, refl, sym, ap, subst, ◌∙◌, eq-eqb, ne_eqb, arith, inl, inr, ◌⊎◌}
use Rattle.std.specs.Prelude.{not, filter}
use Rattle.std.specs.List.{All, AllPairs, Contains}
use Rattle.std.proofs.lemmas.Bool.{cases_Bool, both_ways, cases_eq}
use Rattle.std.proofs.lemmas.List.Kept.{AllPairs-filter}
use Rattle.std.proofs.lemmas.List.{length-map, length-append, get_or-map}
use Rattle.std.proofs.lemmas.List.Elements.{All-filter, Contains-get_or, Contains-append_left, Contains-append_right, Contains-append_cases}
use Rattle.ranked_policy.specs.Plans.{IsRouter}
use Rattle.stable_paths.specs.ByRank.{best_by_rank, BestByRankIsBest}
use Rattle.stable_paths.specs.Promises.{NoOriginNoPath}
use Rattle.stable_paths.specs.Stable.{IsBest}
use Rattle.stable_paths.proofs.TableLemmas.{linked_is}
use Rattle.stable_search.specs.declared.every.Component.{Component}
use Rattle.stable_search.specs.Counting.{what_all_have, leads, StableAreCounted, NoneWithoutOrigin}
use Rattle.stable_search.specs.Every.{choices_of, HasChoice, HaveChoices, Agree, IsPart, number_of}
use Rattle.stable_search.proofs.PickLemmas.{pairs_append}

-- ---- each of some before each of others

pub with_each : {X : Type 0} → List X → List (List X) → List (List X)
with_each [] rests = []
with_each (c ∷ cs) rests = map (λ rest. c ∷ rest) rests ++ with_each cs rests

length_each : {X : Type 0} (cs : List X) (rests : List (List X)) → length (with_each cs rests) ≡ length cs * length rests
unfolding with_each
length_each [] rests = omega arith
length_each {X} (c ∷ cs) rests =
    let a = length-append (map (λ (rest : List X). c ∷ rest) rests) (with_each cs rests) in
    let m = length-map rests (λ (rest : List X). c ∷ rest) in
    let h = length_each cs rests in
    one_more (length cs) (length rests) (length (with_each cs rests)) (length (map (λ (rest : List X). c ∷ rest) rests ++ with_each cs rests)) (omega (arith, a, m)) h
  where
    one_more : (n m k all : ℕ) → all ≡ m + k → k ≡ n * m → all ≡ suc n * m
    one_more n m k all a h = omega (arith, a, h)

in_map : {X : Type 0} (c : X) (rests : List (List X)) (rest : List X) → Contains rests rest → Contains (map (λ (r : List X). c ∷ r) rests) (c ∷ rest)
in_map {X} c rests rest h =
    (h.0, (let size = length-map rests (λ (r : List X). c ∷ r) in omega (arith, size, h.1)), get_or-map (λ (r : List X). c ∷ r) rests h.0 rest (c ∷ rest) h.1 ∙ ap (λ (r : List X). c ∷ r) h.2)

pub in_each : {X : Type 0} (cs : List X) (rests : List (List X)) (c : X) (rest : List X) → Contains cs c → Contains rests rest → Contains (with_each cs rests) (c ∷ rest)
unfolding with_each
in_each [] rests c rest h r = absurd (omega (arith, h.1))
in_each {X} (d ∷ cs) rests c rest (zero, lt, e) r =
    Contains-append_left (map (λ (x : List X). d ∷ x) rests) (with_each cs rests) (c ∷ rest) (subst (λ (y : X). Contains (map (λ (x : List X). d ∷ x) rests) (y ∷ rest)) e (in_map d rests rest r))
in_each {X} (d ∷ cs) rests c rest (suc k, lt, e) r =
    Contains-append_right (map (λ (x : List X). d ∷ x) rests) (with_each cs rests) (c ∷ rest) (in_each cs rests c rest (k, omega (arith, lt), e) r)

-- one of them falls into its first and its rest
pub record Falls {X : Type 0} (cs : List X) (rests : List (List X)) (one : List X) : Type 0 where
  pub first : X
  pub rest : List X
  pub of : Contains cs first
  pub from : Contains rests rest
  pub is : one ≡ first ∷ rest

out_each : {X : Type 0} (cs : List X) (rests : List (List X)) (one : List X) → Contains (with_each cs rests) one → Falls cs rests one
unfolding with_each
out_each [] rests one h = absurd (omega (arith, h.1))
out_each {X} (c ∷ cs) rests one h = elim (Contains-append_cases (map (λ (x : List X). c ∷ x) rests) (with_each cs rests) one h) [
  | inl here ↦
      let lt : here.0 < length rests = (let size = length-map rests (λ (x : List X). c ∷ x) in omega (arith, size, here.1)) in
      record {
        first = c;
        rest = get_or rests here.0 [];
        of = (0, omega arith, refl);
        from = Contains-get_or rests here.0 [] lt;
        is = sym here.2 ∙ get_or-map (λ (x : List X). c ∷ x) rests here.0 [] one lt;
      }
  | inr later ↦
      let f = out_each cs rests one later in
      record { first = f.first; rest = f.rest; of = (suc f.of.0, omega (arith, f.of.1), f.of.2); from = f.from; is = f.is }
]

behind : {X : Type 0} (c : X) (cs : List X) → AllPairs (λ a b. a ≢ b) (c ∷ cs) → AllPairs (λ a b. a ≢ b) cs
behind c cs once i j d lt inside = once (suc i) (suc j) d (omega (arith, lt)) (omega (arith, inside))

same_first : {X : Type 0} (a b : X) (xs ys : List X) → a ∷ xs ≡ b ∷ ys → a ≡ b
same_first a b xs ys e = cc

same_rest : {X : Type 0} (a b : X) (xs ys : List X) → a ∷ xs ≡ b ∷ ys → xs ≡ ys
same_rest a b xs ys e = cc

once_each : {X : Type 0} (cs : List X) (rests : List (List X)) → AllPairs (λ a b. a ≢ b) cs → AllPairs (λ a b. a ≢ b) rests → AllPairs (λ a b. a ≢ b) (with_each cs rests)
unfolding with_each
once_each [] rests once apart = λ i j d lt inside. absurd (omega (arith, inside))
once_each {X} (c ∷ cs) rests once apart =
    let f : List X → List X = λ x. c ∷ x in
    let size = length-map rests f in
    pairs_append (map f rests) (with_each cs rests)
    (λ i j d lt inside e.
    (let jlt : j < length rests = omega (arith, size, inside) in
    let ilt : i < length rests = omega (arith, lt, jlt) in
    let same : c ∷ get_or rests i [] ≡ c ∷ get_or rests j [] = sym (get_or-map f rests i [] d ilt) ∙ e ∙ get_or-map f rests j [] d jlt in
    apart i j [] lt jlt (same_rest c c (get_or rests i []) (get_or rests j []) same)))
    (once_each cs rests (behind c cs once) apart)
    (λ one here later.
    (let lt : here.0 < length rests = omega (arith, size, here.1) in
    let mine : one ≡ c ∷ get_or rests here.0 [] = sym here.2 ∙ get_or-map f rests here.0 [] one lt in
    let other = out_each cs rests one later in
    let same : c ≡ other.first = same_first c other.first (get_or rests here.0 []) other.rest (sym mine ∙ other.is) in
    once 0 (suc other.of.0) other.first (omega arith) (omega (arith, other.of.1)) (same ∙ sym other.of.2)))

-- ---- combinations

pub combinations : List Component → List (List (List (List ℕ)))
combinations [] = [] ∷ []
combinations (part ∷ parts) = with_each (choices_of part) (combinations parts)

-- as many as the product of the numbers of choices, for the parts that don't follow
count_by : (b : Bool) (part : Component) (parts : List Component) (n : ℕ) → length (combinations parts) ≡ n → length (combinations (cond (not b) (part ∷ parts) parts)) ≡ cond b 1 (length (choices_of part)) * n
unfolding combinations
count_by true part parts n e = omega (arith, e)
count_by false part parts n e = length_each (choices_of part) (combinations parts) ∙ ap (λ (m : ℕ). length (choices_of part) * m) e

count_is : (parts : List Component) → length (combinations (filter leads parts)) ≡ number_of parts
unfolding combinations
count_is [] = refl
count_is (part ∷ parts) = count_by part.follows part (filter leads parts) (number_of parts) (count_is parts)

first_part : (P : Component → Type 0) (part : Component) (parts : List Component) → All P (part ∷ parts) → P part
first_part P part parts all = all 0 part (omega arith)

other_parts : (P : Component → Type 0) (part : Component) (parts : List Component) → All P (part ∷ parts) → All P parts
other_parts P part parts all k d lt = all (suc k) d (omega (arith, lt))

all_parts : (P : Component → Type 0) (part : Component) (parts : List Component) → P part → All P parts → All P (part ∷ parts)
all_parts P part parts one all zero d lt = one
all_parts P part parts one all (suc k) d lt = all k d (omega (arith, lt))

one_pairs : {X : Type 0} (x : X) → AllPairs (λ a b. a ≢ b) (x ∷ [])
one_pairs x i j d lt inside = absurd (omega (arith, lt, inside))

pub combined_once : (parts : List Component) → All IsPart parts → AllPairs (λ a b. a ≢ b) (combinations parts)
unfolding combinations
combined_once [] all = one_pairs []
combined_once (part ∷ parts) all = once_each (choices_of part) (combinations parts) (first_part IsPart part parts all).once (combined_once parts (other_parts IsPart part parts all))

pub chosen_in : (paths : ℕ → List ℕ) (parts : List Component) → All (HasChoice paths) parts → Contains (combinations parts) (what_all_have paths parts)
unfolding combinations
chosen_in paths [] all = (0, omega arith, refl)
chosen_in paths (part ∷ parts) all =
    in_each (choices_of part) (combinations parts) (map paths part.routers) (what_all_have paths parts) (first_part (HasChoice paths) part parts all) (chosen_in paths parts (other_parts (HasChoice paths) part parts all))

pub in_chosen : (paths : ℕ → List ℕ) (parts : List Component) → Contains (combinations parts) (what_all_have paths parts) → All (HasChoice paths) parts
unfolding combinations
in_chosen paths [] c = λ k d lt. absurd (omega (arith, lt))
in_chosen paths (part ∷ parts) c =
    let f = out_each (choices_of part) (combinations parts) (what_all_have paths (part ∷ parts)) c in
    let mine : map paths part.routers ≡ f.first = same_first (map paths part.routers) f.first (what_all_have paths parts) f.rest f.is in
    let others : what_all_have paths parts ≡ f.rest = same_rest (map paths part.routers) f.first (what_all_have paths parts) f.rest f.is in
    all_parts (HasChoice paths) part parts (subst (Contains (choices_of part)) (sym mine) f.of) (in_chosen paths parts (subst (Contains (combinations parts)) (sym others) f.from))

-- ---- the assignment of a combination

-- the path of a router in a choice of these routers; of another router the other one
pub path_in : List ℕ → List (List ℕ) → ℕ → List ℕ → List ℕ
path_in [] choice u other = other
path_in (v ∷ vs) [] u other = other
path_in (v ∷ vs) (path ∷ paths) u other = cond (v == u) path (path_in vs paths u other)

pub paths_of : List Component → List (List (List ℕ)) → ℕ → List ℕ
paths_of [] one u = []
paths_of (part ∷ parts) [] u = []
paths_of (part ∷ parts) (choice ∷ rest) u = path_in part.routers choice u (paths_of parts rest u)

pub map_same : (f g : ℕ → List ℕ) (us : List ℕ) → ((u : ℕ) → Contains us u → f u ≡ g u) → map f us ≡ map g us
map_same f g [] same = refl
map_same f g (u ∷ us) same =
    let here : f u ≡ g u = same u (0, omega arith, refl) in
    let later : map f us ≡ map g us = map_same f g us (λ v c. same v (suc c.0, omega (arith, c.1), c.2)) in
    ap (λ (path : List ℕ). path ∷ map f us) here ∙ ap (λ (paths : List (List ℕ)). g u ∷ paths) later

-- a function is the same at routers of a list
pub same_in : (f g : ℕ → List ℕ) (us : List ℕ) (u : ℕ) → map f us ≡ map g us → Contains us u → f u ≡ g u
same_in f g [] u e c = absurd (omega (arith, c.1))
same_in f g (v ∷ us) u e (zero, lt, c) = let first : f v ≡ g v = cc e in subst (λ (w : ℕ). f w ≡ g w) c first
same_in f g (v ∷ us) u e (suc i, lt, c) = let rest : map f us ≡ map g us = cc e in same_in f g us u rest (i, omega (arith, lt), c)

path_passed : (v : ℕ) (vs : List ℕ) (path : List ℕ) (paths : List (List ℕ)) (u : ℕ) (other : List ℕ) → (v ≢ u) → path_in (v ∷ vs) (path ∷ paths) u other ≡ path_in vs paths u other
unfolding path_in
path_passed v vs path paths u other apart = ap (λ (b : Bool). cond b path (path_in vs paths u other)) (ne_eqb v u apart)

path_found : (v : ℕ) (vs : List ℕ) (path : List ℕ) (paths : List (List ℕ)) (other : List ℕ) → path_in (v ∷ vs) (path ∷ paths) v other ≡ path
unfolding path_in
path_found v vs path paths other = ap (λ (b : Bool). cond b path (path_in vs paths v other)) (eq-eqb v v refl)

-- the routers of the choice have its paths
pub have_choice : (us : List ℕ) (choice : List (List ℕ)) (f : ℕ → List ℕ) → AllPairs (λ u v. u < v) us → length choice ≡ length us → map (λ u. path_in us choice u (f u)) us ≡ choice
have_choice [] [] f rising size = refl
have_choice [] (path ∷ paths) f rising size = absurd (omega (arith, size))
have_choice (v ∷ vs) [] f rising size = absurd (omega (arith, size))
have_choice (v ∷ vs) (path ∷ paths) f rising size =
    let passed : map (λ u. path_in (v ∷ vs) (path ∷ paths) u (f u)) vs ≡ map (λ u. path_in vs paths u (f u)) vs =
    map_same (λ u. path_in (v ∷ vs) (path ∷ paths) u (f u)) (λ u. path_in vs paths u (f u)) vs (λ u c.
    (let up : v < get_or vs c.0 u = rising 0 (suc c.0) u (omega arith) (omega (arith, c.1)) in
    path_passed v vs path paths u (f u) (λ e. omega (arith, up, c.2, e)))) in
    let rest : map (λ u. path_in vs paths u (f u)) vs ≡ paths = have_choice vs paths f (λ i j d lt inside. rising (suc i) (suc j) d (omega (arith, lt)) (omega (arith, inside))) (omega (arith, size)) in
    ap (λ (x : List ℕ). x ∷ map (λ u. path_in (v ∷ vs) (path ∷ paths) u (f u)) vs) (path_found v vs path paths (f v)) ∙ ap (λ (xs : List (List ℕ)). path ∷ xs) (passed ∙ rest)

-- a router has the other path, or is one of these
pub either_path : (us : List ℕ) (choice : List (List ℕ)) (u : ℕ) (other : List ℕ) → (path_in us choice u other ≡ other) ⊎ Contains us u
unfolding path_in
either_path [] choice u other = inl refl
either_path (v ∷ vs) [] u other = inl refl
either_path (v ∷ vs) (path ∷ paths) u other = elim (cases_eq v u) [
  | inl e ↦ inr (0, omega arith, e)
  | inr apart ↦ elim (either_path vs paths u other) [
    | inl same ↦ inl (path_passed v vs path paths u other apart ∙ same)
    | inr c ↦ inr (suc c.0, omega (arith, c.1), c.2)
  ]
]

-- another router has the other path
not_in : (us : List ℕ) (choice : List (List ℕ)) (u : ℕ) (other : List ℕ) → (Contains us u → ⊥) → path_in us choice u other ≡ other
unfolding path_in
not_in [] choice u other not = refl
not_in (v ∷ vs) [] u other not = refl
not_in (v ∷ vs) (path ∷ paths) u other not =
    ap (λ (b : Bool). cond b path (path_in vs paths u other)) (ne_eqb v u (λ e. not (0, omega arith, e)))
    ∙ not_in vs paths u other (λ c. not (suc c.0, omega (arith, c.1), c.2))

parts_same : (f g : ℕ → List ℕ) (parts : List Component) → ((u : ℕ) → (k : ℕ) (d : Component) → k < length parts → Contains (get_or parts k d).routers u → f u ≡ g u) → what_all_have f parts ≡ what_all_have g parts
parts_same f g [] same = refl
parts_same f g (part ∷ parts) same =
    let here : map f part.routers ≡ map g part.routers = map_same f g part.routers (λ u c. same u 0 part (omega arith) c) in
    let later : what_all_have f parts ≡ what_all_have g parts = parts_same f g parts (λ u k d lt c. same u (suc k) d (omega (arith, lt)) c) in
    ap (λ (x : List (List ℕ)). x ∷ what_all_have f parts) here ∙ ap (λ (xs : List (List (List ℕ))). map g part.routers ∷ xs) later

abbrev pub AreApart : List Component → Type 0
AreApart parts = AllPairs (λ part later. (u : ℕ) → Contains part.routers u → Contains later.routers u → ⊥) parts

-- a combination is what all have in its assignment
pub combined : (parts : List Component) → All IsPart parts → AreApart parts → (one : List (List (List ℕ))) → Contains (combinations parts) one → what_all_have (paths_of parts one) parts ≡ one
unfolding combinations paths_of
combined [] all apart one (zero, lt, e) = e
combined [] all apart one (suc k, lt, e) = absurd (omega (arith, lt))
combined (part ∷ parts) all apart one c =
    let f = out_each (choices_of part) (combinations parts) one c in
    let is = first_part IsPart part parts all in
    let paths : ℕ → List ℕ = λ u. path_in part.routers f.first u (paths_of parts f.rest u) in
    let whole : length f.first ≡ length part.routers = subst (λ (x : List (List ℕ)). length x ≡ length part.routers) f.of.2 (is.whole f.of.0 f.first f.of.1) in
    let mine : map paths part.routers ≡ f.first = have_choice part.routers f.first (paths_of parts f.rest) is.rising whole in
    let same : what_all_have paths parts ≡ what_all_have (paths_of parts f.rest) parts =
    parts_same paths (paths_of parts f.rest) parts (λ u k d lt there.
    not_in part.routers f.first u (paths_of parts f.rest u) (λ here. apart 0 (suc k) d (omega arith) (omega (arith, lt)) u here there)) in
    let others : what_all_have (paths_of parts f.rest) parts ≡ f.rest =
    combined parts (other_parts IsPart part parts all) (λ i j d lt inside. apart (suc i) (suc j) d (omega (arith, lt)) (omega (arith, inside))) f.rest f.from in
    let made : what_all_have paths (part ∷ parts) ≡ f.first ∷ f.rest =
    ap (λ (x : List (List ℕ)). x ∷ what_all_have paths parts) mine ∙ ap (λ (xs : List (List (List ℕ))). f.first ∷ xs) (same ∙ others) in
    subst (λ (x : List (List (List ℕ))). what_all_have (paths_of (part ∷ parts) x) (part ∷ parts) ≡ x) (sym f.is) made

-- ---- the parts that don't follow

-- one choice of each part, of those that don't follow the one that the routers have
pub record Chosen (paths : ℕ → List ℕ) (parts : List Component) : Type 0 where
  pub one : List (List (List ℕ))
  pub in_all : Contains (combinations parts) one
  pub same : (k : ℕ) (d : Component) → k < length parts → (get_or parts k d).follows ≡ false → get_or one k [] ≡ map paths (get_or parts k d).routers

first_of : (paths : ℕ → List ℕ) (part : Component) → IsPart part → (part.follows ≡ false → HasChoice paths part)
    → (choice : List (List ℕ)) × Contains (choices_of part) choice × (part.follows ≡ false → choice ≡ map paths part.routers)
first_of paths part is have = elim (cases_Bool part.follows) [
  | inl led ↦
      let more = (is.alone led).1 in
      (get_or (choices_of part) 0 [], Contains-get_or (choices_of part) 0 [] (omega (arith, more)), λ own. absurd (both_ways part.follows own led))
  | inr own ↦ (map paths part.routers, have own, λ _. refl)
]

chosen : (paths : ℕ → List ℕ) (parts : List Component) → All IsPart parts → HaveChoices paths parts → Chosen paths parts
unfolding combinations
chosen paths [] all have = record { one = []; in_all = (0, omega arith, refl); same = λ k d lt own. absurd (omega (arith, lt)) }
chosen paths (part ∷ parts) all have =
    let rest = chosen paths parts (other_parts IsPart part parts all) (other_parts (λ x. x.follows ≡ false → HasChoice paths x) part parts have) in
    let first = first_of paths part (first_part IsPart part parts all) (first_part (λ x. x.follows ≡ false → HasChoice paths x) part parts have) in
    record {
      one = first.0 ∷ rest.one;
      in_all = in_each (choices_of part) (combinations parts) first.0 rest.one first.1 rest.in_all;
      same = λ k d lt own. at first.0 rest first.2 k d lt own;
    }
  where
    at : (first : List (List ℕ)) (rest : Chosen paths parts) → (part.follows ≡ false → first ≡ map paths part.routers) → (k : ℕ) (d : Component) → k < length (part ∷ parts) → (get_or (part ∷ parts) k d).follows ≡ false
        → get_or (first ∷ rest.one) k [] ≡ map paths (get_or (part ∷ parts) k d).routers
    at first rest same zero d lt own = same own
    at first rest same (suc k) d lt own = rest.same k d (omega (arith, lt)) own

-- paths with a choice of each part, that of those which don't follow
pub filled : (paths : ℕ → List ℕ) (parts : List Component) → All IsPart parts → AreApart parts → HaveChoices paths parts
    → (full : ℕ → List ℕ) × All (HasChoice full) parts × Agree full paths parts
filled paths parts all apart have =
    let c = chosen paths parts all have in
    let full : ℕ → List ℕ = paths_of parts c.one in
    let same : what_all_have full parts ≡ c.one = combined parts all apart c.one c.in_all in (
      full,
      in_chosen full parts (subst (Contains (combinations parts)) (sym same) c.in_all),
      λ k d lt own.
          sym (get_or-map (λ (part : Component). map full part.routers) parts k d [] lt) ∙ ap (λ (xs : List (List (List ℕ))). get_or xs k []) same ∙ c.same k d lt own,
    )

-- what holds of the parts that don't follow
of_leading_by : (P : Component → Type 0) (part : Component) (parts : List Component) (b : Bool) → part.follows ≡ b → All P (cond (not b) (part ∷ filter leads parts) (filter leads parts))
    → (All P (filter leads parts) → All (λ x. x.follows ≡ false → P x) parts) → All (λ x. x.follows ≡ false → P x) (part ∷ parts)
of_leading_by P part parts true is all rest = all_parts (λ x. x.follows ≡ false → P x) part parts (λ own. absurd (both_ways part.follows own is)) (rest all)
of_leading_by P part parts false is all rest = all_parts (λ x. x.follows ≡ false → P x) part parts (λ own. all 0 part (omega arith)) (rest (λ k d lt. all (suc k) d (omega (arith, lt))))

of_leading : (P : Component → Type 0) (parts : List Component) → All P (filter leads parts) → All (λ part. part.follows ≡ false → P part) parts
of_leading P [] all = λ k d lt own. absurd (omega (arith, lt))
of_leading P (part ∷ parts) all = of_leading_by P part parts part.follows refl all (of_leading P parts)

to_leading_by : (P : Component → Type 0) (part : Component) (parts : List Component) (b : Bool) → part.follows ≡ b → (part.follows ≡ false → P part) → All P (filter leads parts)
    → All P (cond (not b) (part ∷ filter leads parts) (filter leads parts))
to_leading_by P part parts true is here rest = rest
to_leading_by P part parts false is here rest = all_parts P part (filter leads parts) (here is) rest

to_leading : (P : Component → Type 0) (parts : List Component) → All (λ part. part.follows ≡ false → P part) parts → All P (filter leads parts)
to_leading P [] all = λ k d lt. absurd (omega (arith, lt))
to_leading P (part ∷ parts) all =
    to_leading_by P part parts part.follows refl (first_part (λ x. x.follows ≡ false → P x) part parts all) (to_leading P parts (other_parts (λ x. x.follows ≡ false → P x) part parts all))

alike : (f g : ℕ → List ℕ) (parts : List Component) → All (λ part. map f part.routers ≡ map g part.routers) parts → what_all_have f parts ≡ what_all_have g parts
alike f g [] all = refl
alike f g (part ∷ parts) all =
    ap (λ (x : List (List ℕ)). x ∷ what_all_have f parts) (first_part (λ x. map f x.routers ≡ map g x.routers) part parts all)
    ∙ ap (λ (xs : List (List (List ℕ))). map g part.routers ∷ xs) (alike f g parts (other_parts (λ x. map f x.routers ≡ map g x.routers) part parts all))

each_alike : (f g : ℕ → List ℕ) (parts : List Component) → what_all_have f parts ≡ what_all_have g parts → All (λ part. map f part.routers ≡ map g part.routers) parts
each_alike f g [] e = λ k d lt. absurd (omega (arith, lt))
each_alike f g (part ∷ parts) e =
    all_parts (λ x. map f x.routers ≡ map g x.routers) part parts (same_first (map f part.routers) (map g part.routers) (what_all_have f parts) (what_all_have g parts) e)
    (each_alike f g parts (same_rest (map f part.routers) (map g part.routers) (what_all_have f parts) (what_all_have g parts) e))

pub stable_are_counted : StableAreCounted
stable_are_counted p every is =
    let core : List Component = filter leads every.parts in
    let core_is : All IsPart core = All-filter leads IsPart every.parts is.parts in
    let core_apart : AreApart core = AllPairs-filter (λ (part later : Component). (u : ℕ) → Contains part.routers u → Contains later.routers u → ⊥) leads every.parts is.apart in (
      combinations core,
      record {
        count = count_is every.parts;
        once = combined_once core core_is;
        each = λ k d lt.
            (let one = get_or (combinations core) k d in
            let c : Contains (combinations core) one = Contains-get_or (combinations core) k d lt in
            let paths = paths_of core one in
            let same : what_all_have paths core ≡ one = combined core core_is core_apart one c in
            let have : HaveChoices paths every.parts = of_leading (HasChoice paths) every.parts (in_chosen paths core (subst (Contains (combinations core)) (sym same) c)) in
            let w = is.whole paths have in
            (w.0, w.1, sym same ∙ sym (alike w.0 paths core (to_leading (λ part. map w.0 part.routers ≡ map paths part.routers) every.parts w.2))));
        all = λ paths stable. chosen_in paths core (All-filter leads (HasChoice paths) every.parts (is.listed paths stable));
        decided = λ one other one_is other_is same u router.
            is.decided one other one_is other_is (of_leading (λ part. map one part.routers ≡ map other part.routers) every.parts (each_alike one other core same)) u router;
      },
    )

-- ---- nobody originates the prefix

pub none_without_origin : NoOriginNoPath → BestByRankIsBest → NoneWithoutOrigin
none_without_origin none best p is unknown paths = (
  λ stable u router. none p is unknown paths stable u router,
  λ empty u router. subst (IsBest p paths u) (sym (empty u router)) (nothing empty u router),
)
  where
    nothing : ((u : ℕ) → IsRouter p.net.routers u → paths u ≡ []) → (u : ℕ) → IsRouter p.net.routers u → IsBest p paths u []
    nothing empty u router =
        let b : IsBest p paths u (best_by_rank p.net u p.prefix p.originated paths) = best p.net is.network u router p.prefix p.originated paths in (
          b.0,
          b.1,
          elim b.2 [
            | inl own ↦ inl (own.0, sym (ap (λ (x : Bool). cond x (b.0.router ∷ []) []) unknown))
            | inr x ↦ elim x.1 [
              | inl first ↦ absurd (first.choice.some (first.choice.heard.1 ∙ empty first.choice.peer (linked_is p.net is.network b.0.router first.choice.peer first.choice.heard.0)))
              | inr nothing_else ↦ inr (x.0, inr (refl, nothing_else.1))
            ]
          ],
        )
