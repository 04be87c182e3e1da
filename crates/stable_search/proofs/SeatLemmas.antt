-- What a router may have, path by path.
use Rattle.std.proofs.Common.{◌≡◌, ◌≢◌, ℕ, zero, suc, ◌<◌, ◌+◌, List, [], ◌∷◌, ◌++◌, length, take, get_or, sym, ap, subst, ◌∙◌, arith, inl, inr, ◌⊎◌}
use Rattle.std.specs.Prelude.{◌↔◌, ◌≤◌, IsTrue, Result, Ok, Err, IfOk, IfSome, IfNone}
use Rattle.std.proofs.Common.{Vec, Global, Option, Some, None, true, false, refl}
use Rattle.std.specs.List.{All, AllPairs, Contains}
use Rattle.std.proofs.lemmas.List.{take_more}
use Rattle.std.proofs.lemmas.List.Elements.{Contains-append_left, Contains-get_or, Contains-push, Contains-push_cases}
use Rattle.ranked_policy.specs.declared.network.Link.{Link}
use Rattle.ranked_policy.specs.declared.policy.Chosen.{Chosen}
use Rattle.ranked_policy.specs.Choosing.{chosen_permits}
use Rattle.ranked_policy.specs.Policies.{Originates}
use Rattle.ranked_policy.specs.Promises.{EachPolicyIsAnOrder, OneRule}
use Rattle.stable_paths.specs.Stable.{Problem, IsInstance, IsStable}
use Rattle.stable_paths.proofs.ListLemmas.{never}
use Rattle.stable_search.specs.declared.chooser.Chooser.{Chooser}
use Rattle.stable_search.specs.Choosers.{IsChooser, MayChoose}
use Rattle.stable_search.specs.Fits.{GoesOver, MayStand}
use Rattle.stable_search.specs.Fixing.{IsFixed}
use Rattle.stable_search.specs.Listing.{AreValuesBy, MayHaveMany, IsListing}
use Rattle.stable_search.specs.Refusals.{MayHaveTooManyPaths}
use Rattle.stable_search.specs.Seats.{AreValuesOf}
use Rattle.stable_search.proofs.FixLemmas.{own_fixed, stable_may}
use Rattle.stable_search.proofs.RuleLemmas.{no_rule}

pub record Lists (links : List Link) (policy : Chosen) (router : ℕ) (passed values : List (List ℕ)) : Type 0 where
  pub exact : (path : List ℕ) → (Contains values path ↔ (Contains passed path × chosen_permits policy path × GoesOver links router path))
  pub distinct : AllPairs (λ path later. path ≢ later) values

module _ {X : Type 0} (xs : List X) (i : ℕ) (x : X) (lt : i < length xs) (is : x ≡ get_or xs i x) where
  one_more : take (i + 1) xs ≡ take i xs ++ x ∷ []
  one_more = take_more xs i x lt ∙ ap (λ (y : X). take i xs ++ y ∷ []) (sym is)

  pub passed_more : (y : X) → Contains (take (i + 1) xs) y → Contains (take i xs) y ⊎ (x ≡ y)
  passed_more y c = Contains-push_cases (take i xs) x y (subst (λ (zs : List X). Contains zs y) one_more c)

  pub passed_before : (y : X) → Contains (take i xs) y → Contains (take (i + 1) xs) y
  passed_before y c = subst (λ (zs : List X). Contains zs y) (sym one_more) (Contains-append_left (take i xs) (x ∷ []) y c)

  pub passed_last : Contains (take (i + 1) xs) x
  passed_last = subst (λ (zs : List X). Contains zs x) (sym one_more) (Contains-push (take i xs) x)

module _ (links : List Link) (policy : Chosen) (router : ℕ) (paths : List (List ℕ)) (i : ℕ) (path : List ℕ) (lt : i < length paths) (is : path ≡ get_or paths i path) where
  pub lists_skip : (values : List (List ℕ)) → (chosen_permits policy path × GoesOver links router path → ⊥) → Lists links policy router (take i paths) values → Lists links policy router (take (i + 1) paths) values
  lists_skip values not lists = record {
    exact = λ other. (
      λ c. (let x = (lists.exact other).0 c in (passed_before paths i path lt is other x.0, x.1, x.2)),
      λ x. elim (passed_more paths i path lt is other x.0) [
        | inl before ↦ (lists.exact other).1 (before, x.1, x.2)
        | inr same ↦ absurd (not (subst (chosen_permits policy) (sym same) x.1, subst (GoesOver links router) (sym same) x.2))
      ],
    );
    distinct = lists.distinct;
  }

  pub lists_add : (values new : List (List ℕ)) → chosen_permits policy path × GoesOver links router path → ((other : List ℕ) → (Contains new other ↔ Contains values other ⊎ (path ≡ other)))
      → (AllPairs (λ a b. a ≢ b) values → AllPairs (λ a b. a ≢ b) new) → Lists links policy router (take i paths) values → Lists links policy router (take (i + 1) paths) new
  lists_add values new may adds keeps lists = record {
    exact = λ other. (
      λ c. elim ((adds other).0 c) [
        | inl before ↦ (let x = (lists.exact other).0 before in (passed_before paths i path lt is other x.0, x.1, x.2))
        | inr same ↦ (subst (Contains (take (i + 1) paths)) same (passed_last paths i path lt is), subst (chosen_permits policy) same may.0, subst (GoesOver links router) same may.1)
      ],
      λ x. (adds other).1 (elim (passed_more paths i path lt is other x.0) [
        | inl before ↦ inl ((lists.exact other).1 (before, x.1, x.2))
        | inr same ↦ inr same
      ]),
    );
    distinct = keeps lists.distinct;
  }

pub lists_done : (links : List Link) (policy : Chosen) (router : ℕ) (paths values new : List (List ℕ)) → ((other : List ℕ) → (Contains new other ↔ Contains values other ⊎ ([] ≡ other)))
    → Lists links policy router paths values → (path : List ℕ) → (Contains new path ↔ (Contains paths path × chosen_permits policy path × GoesOver links router path) ⊎ ([] ≡ path))
lists_done links policy router paths values new adds lists path = (
  λ c. elim ((adds path).0 c) [ inl before ↦ inl ((lists.exact path).0 before) | inr none ↦ inr none ],
  λ x. (adds path).1 (elim x [ inl before ↦ inl ((lists.exact path).1 before) | inr none ↦ inr none ]),
)

-- a path more at the end, which wasn't there
pub pushed : (values new : List (List ℕ)) (path : List ℕ) → new ≡ values ++ path ∷ [] → (other : List ℕ) → (Contains new other ↔ Contains values other ⊎ (path ≡ other))
pushed values new path e other = (
  λ c. Contains-push_cases values path other (subst (λ (xs : List (List ℕ)). Contains xs other) e c),
  λ x. subst (λ (xs : List (List ℕ)). Contains xs other) (sym e) (elim x [
    | inl before ↦ Contains-append_left values (path ∷ []) other before
    | inr same ↦ subst (Contains (values ++ path ∷ [])) same (Contains-push values path)
  ]),
)

-- ---- a seat

pub one_path : (path other : List ℕ) → (Contains (path ∷ []) other ↔ (other ≡ path))
one_path path other = ((λ c. at c), (λ e. (0, omega arith, sym e)))
  where
    at : Contains (path ∷ []) other → other ≡ path
    at (zero, lt, e) = sym e
    at (suc k, lt, e) = absurd (omega (arith, lt))

one_pairs : (path : List ℕ) → AllPairs {X = List ℕ} (λ a b. a ≢ b) (path ∷ [])
one_pairs path i j d lt inside = absurd (omega (arith, lt, inside))

one_list : (p : Problem) (it : Chooser) (path : List ℕ) (values : List (List ℕ)) → values ≡ path ∷ [] → MayChoose p.net.links it path → ((paths : ℕ → List ℕ) → IsStable p paths → paths it.router ≡ path) → AreValuesOf p it values
one_list p it path values e may always = record {
  may = λ other c. subst (MayChoose p.net.links it) (sym ((one_path path other).0 (subst (λ (xs : List (List ℕ)). Contains xs other) e c))) may;
  has = λ paths stable. subst (λ (xs : List (List ℕ)). Contains xs (paths it.router)) (sym e) ((one_path path (paths it.router)).1 (always paths stable));
  distinct = subst (AllPairs (λ a b. a ≢ b)) (sym e) (one_pairs path);
  some = (let size = ap length e in omega (arith, size));
  few = (let size = ap length e in omega (arith, size));
}

-- a router with one path in every stable assignment
pub fixed_values : (p : Problem) (it : Chooser) (path : List ℕ) (values : List (List ℕ)) → values ≡ path ∷ [] → IsFixed p it path → AreValuesOf p it values
fixed_values p it path values e fixed = one_list p it path values e fixed.may fixed.always

module _ (law : EachPolicyIsAnOrder) (p : Problem) (is : IsInstance p) (it : Chooser) (x : IsChooser p it) where
  -- an origin
  pub own_values : (values : List (List ℕ)) → values ≡ (it.router ∷ []) ∷ [] → IsTrue it.is_origin → AreValuesOf p it values
  own_values values e own = fixed_values p it (it.router ∷ []) values e (own_fixed law p is it x own)

  -- another router, by all that its rule lists
  pub listed_values : (values : List (List ℕ)) → (IsTrue it.is_origin → ⊥) → AreValuesBy p.net.links it.policy it.router values → AreValuesOf p it values
  listed_values values not by = record {
    may = λ path c. inr (not, elim ((by.exact path).0 c) [ inl may ↦ inr may | inr none ↦ inl (sym none) ]);
    has = λ paths stable. (by.exact (paths it.router)).1 (elim (stable_may law p is it x paths stable) [
      | inl own ↦ absurd (not own.0)
      | inr other ↦ elim other.1 [ inl none ↦ inr (sym none) | inr may ↦ inl may ]
    ]);
    distinct = by.distinct;
    some = (let c = (by.exact []).1 (inr refl) in omega (arith, c.1));
    few = by.few;
  }

  -- one that has at most one router in its path has none
  none_of_one : (IsTrue it.is_origin → ⊥) → (paths : ℕ → List ℕ) → IsStable p paths → length (paths it.router) ≤ 1 → paths it.router ≡ []
  none_of_one not paths stable low = elim (stable_may law p is it x paths stable) [
    | inl own ↦ absurd (not own.0)
    | inr other ↦ elim other.1 [
      | inl none ↦ none
      | inr may ↦ (let e = ap length may.1.whole in absurd (omega (arith, e, low)))
    ]
  ]

  -- a router that isn't the origin, with the empty path alone so far
  pub open_seat : (vec : Vec (List ℕ) Global) → (IsTrue it.is_origin → ⊥) → vec.items ≡ [] ∷ []
      → IsListing p 1 (record { router = it.router; is_origin = it.is_origin; policy = it.policy; is_open = true; values = vec })
  open_seat vec not e = record {
    table = x.table;
    of = x.of;
    origin = x.origin;
    speaks = x.speaks;
    other = λ more. not;
    may = λ path c. inr ((λ o. not (x.origin.1 o)), inl ((one_path [] path).0 (subst (λ (xs : List (List ℕ)). Contains xs path) e c)));
    has = λ paths stable low. subst (λ (xs : List (List ℕ)). Contains xs (paths it.router)) (sym e) ((one_path [] (paths it.router)).1 (none_of_one not paths stable (low refl)));
    distinct = subst (AllPairs (λ a b. a ≢ b)) (sym e) (one_pairs []);
    some = (let size = ap length e in omega (arith, size));
    few = (let size = ap length e in omega (arith, size));
  }

-- what a router may have by its policy
pub stands_by : (p : Problem) (it : Chooser) (x : IsChooser p it) (path : List ℕ) → MayChoose p.net.links it path → MayStand p.net.links p.prefix x.table path
stands_by p it x path may = elim may [
  | inl own ↦ inl (x.origin.0 own.0, own.1 ∙ ap (λ (n : ℕ). n ∷ []) (sym x.of.0))
  | inr other ↦ inr (
    λ o. other.0 (x.origin.1 o),
    elim other.1 [
      | inl none ↦ inl none
      | inr on ↦ inr ((x.speaks.permits path).0 on.0, subst (λ (n : ℕ). GoesOver p.net.links n path) (sym x.of.0) on.1)
    ],
  )
]

-- a router with all its values
pub whole_seat : (p : Problem) (it : Chooser) (x : IsChooser p it) (vec : Vec (List ℕ) Global) → AreValuesOf p it vec.items
    → IsListing p 1 (record { router = it.router; is_origin = it.is_origin; policy = it.policy; is_open = false; values = vec })
whole_seat p it x vec values = record {
  table = x.table;
  of = x.of;
  origin = x.origin;
  speaks = x.speaks;
  other = λ more. absurd (never more);
  may = λ path c. stands_by p it x path (values.may path c);
  has = λ paths stable low. values.has paths stable;
  distinct = values.distinct;
  some = values.some;
  few = values.few;
}

-- a router whose rule lists too many
pub many_by_rule : OneRule → (p : Problem) → IsInstance p → (it : Chooser) (x : IsChooser p it) → (IsTrue it.is_origin → ⊥) → MayHaveMany p.net.links it.policy it.router → MayHaveTooManyPaths p it.router
many_by_rule one p is it x not many = record {
  table = x.table;
  of = x.of;
  other = λ o. not (x.origin.1 (subst (Originates x.table p.prefix) (sym x.of.0) o));
  none = no_rule one p is it.router x.table x.of (λ o. not (x.origin.1 o)) many.values many.many may many.distinct;
  paths = many.values;
  many = many.many;
  may = may;
  once = many.distinct;
}
  where
    may : All (MayStand p.net.links p.prefix x.table) many.values
    may k d lt =
        let path = get_or many.values k d in
        stands_by p it x path (inr (not, elim (many.may path (Contains-get_or many.values k d lt)) [ inl on ↦ inr on | inr none ↦ inl (sym none) ]))

pub if_some : {X : Type 0} {P Q : X → Type 0} (o : Option X) → ((x : X) → P x → Q x) → IfSome o P → IfSome o Q
if_some None f a = a
if_some (Some x) f a = f x a

pub none_where : {T E Q : Type 0} (r : Result (Option T) E) → Q → IfOk r (λ o. IfNone o Q)
none_where (Ok None) q = q
none_where (Ok (Some x)) q = tt
none_where (Err e) q = tt
