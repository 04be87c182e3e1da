-- A router of a network has one table of policies, and so one best path.
use Rattle.std.proofs.Common.{◌≡◌, ◌≢◌, ℕ, zero, suc, ◌+◌, ◌<◌, ◌≤◌, Bool, true, false, cond, List, [], ◌∷◌, ◌++◌, length, take, get_or, refl, sym, ap, subst, ◌∙◌, arith, inl, inr}
use Rattle.std.specs.Prelude.{◌↔◌, IsTrue, slice_index, Option, None, Some, MatchOption}
use Rattle.std.specs.List.{AllPairs}
use Rattle.std.proofs.lemmas.Bool.{cases_order}
use Rattle.std.proofs.lemmas.List.{length-map, get_or-map, get_or_default, take_more}
use Rattle.prefix_lanes.specs.Bits.{PrefixView}
use Rattle.ranked_policy.specs.declared.network.NetRouter.{NetRouter}
use Rattle.ranked_policy.specs.declared.network.Origin.{Origin}
use Rattle.ranked_policy.specs.declared.network.Link.{Link}
use Rattle.ranked_policy.specs.Plans.{Plan, IsNetwork, IsRouter, IsOrigin, Linked, numbers}
use Rattle.ranked_policy.specs.Policies.{Table, IsTable, IsTableOf, Originates, IsPermitted}
use Rattle.ranked_policy.specs.Promises.{EachPolicyIsAnOrder}
use Rattle.run_model.specs.Routes.{Network}
use Rattle.stable_paths.specs.declared.verdict.Mover.{Mover}
use Rattle.stable_paths.specs.Stable.{Problem, IsProblem, own_path, IsBestOf, IsBest, IsStable, MayHave}
use Rattle.stable_paths.specs.Judging.{IsLeastWithout, IsMoving, IsMover, AreMovers}
use Rattle.stable_paths.specs.Promises.{OneBest, NoOriginNoPath, Chooses, StableIsTheModels}
use Rattle.ranked_policy.specs.Choices.{HasPathOver}
use Rattle.ranked_policy.proofs.ChoiceLemmas.{first_once, first_as}
use Rattle.ranked_policy.proofs.OneTable.{one_table, table_stands}

-- an origin by what the code asked, and by the definition
-- the own path of a router that originates the prefix
pub own_is : (p : Problem) (r : ℕ) → p.originated ≡ true → r ∷ [] ≡ own_path p r
own_is p r e = ap (λ (b : Bool). cond b (r ∷ []) []) (sym e)

pub origin_here : (p : Problem) (table : Table) (net : Plan) (prefix : PrefixView) (r : ℕ) → net ≡ p.net → prefix ≡ p.prefix → r ≡ table.router → table.origins ≡ p.net.origins
    → (IsOrigin net.origins r prefix ↔ Originates table p.prefix table.router)
origin_here p table net prefix r en ep er eo = (
  λ o. subst (λ (os : List Origin). IsOrigin os table.router p.prefix) (ap (λ (n : Plan). n.origins) en ∙ sym eo)
      (subst (λ (q : PrefixView). IsOrigin net.origins table.router q) ep (subst (λ (n : ℕ). IsOrigin net.origins n prefix) er o)),
  λ o. subst (λ (n : ℕ). IsOrigin net.origins n prefix) (sym er)
      (subst (λ (q : PrefixView). IsOrigin net.origins table.router q) (sym ep) (subst (λ (os : List Origin). IsOrigin os table.router p.prefix) (eo ∙ sym (ap (λ (n : Plan). n.origins) en)) o)),
)

-- ---- one best

pub best_once : EachPolicyIsAnOrder → (p : Problem) → IsProblem p → (paths : ℕ → List ℕ) (t : Table) (a b : List ℕ) → IsTable t → IsBestOf p paths t a → IsBestOf p paths t b → a ≡ b
best_once law p is paths t a b table (inl x) (inl y) = x.1 ∙ sym y.1
best_once law p is paths t a b table (inl x) (inr y) = absurd (y.0 x.0)
best_once law p is paths t a b table (inr x) (inl y) = absurd (x.0 y.0)
best_once law p is paths t a b table (inr x) (inr y) = first_once (HasPathOver p.net.links paths t.router) t p.prefix (law t table p.prefix) a b x.1 y.1

pub one_best : EachPolicyIsAnOrder → OneBest
one_best law p is paths u a b x y =
    let table = table_stands p.net u x.0 is.network x.1 in
    let same : y.0 ≡ x.0 = one_table p.net u y.0 x.0 is.network y.1 x.1 in
    best_once law p is paths x.0 a b table x.2 (subst (λ (t : Table). IsBestOf p paths t b) same y.2)

-- ---- router by router

module _ (Q : ℕ → Type 0) (routers : List NetRouter) where
  number_is : (i : ℕ) (r : NetRouter) → i < length routers → r ≡ get_or routers i r → slice_index (numbers routers) i ≡ r.asn
  number_is i r lt is = get_or-map (λ (x : NetRouter). x.asn) routers i r 0 lt ∙ ap (λ (x : NetRouter). x.asn) (sym is)

  -- one router more
  pub each_on : (i : ℕ) (r : NetRouter) → i < length routers → r ≡ get_or routers i r → Q r.asn → ((k : ℕ) → k < i → Q (slice_index (numbers routers) k))
      → (k : ℕ) → k < i + 1 → Q (slice_index (numbers routers) k)
  each_on i r lt is q inv k below =
      elim (cases_order k i) [
        | inl same ↦ subst Q (sym (ap (λ (j : ℕ). slice_index (numbers routers) j) same ∙ number_is i r lt is)) q
        | inr differ ↦ elim differ [ inl less ↦ inv k less | inr more ↦ absurd (omega (arith, below, more)) ]
      ]

  -- all of them
  pub each_all : (n : ℕ) → length routers ≤ n → ((k : ℕ) → k < n → Q (slice_index (numbers routers) k)) → (u : ℕ) → IsRouter routers u → Q u
  each_all n le inv u router =
      let size : length (numbers routers) ≡ length routers = length-map routers (λ (r : NetRouter). r.asn) in
      let at : slice_index (numbers routers) router.0 ≡ u = get_or_default (numbers routers) router.0 0 u router.1 ∙ router.2 in
      subst Q at (inv router.0 (omega (arith, size, router.1, le)))

  -- those with lower numbers stand before
  pub each_below : (i : ℕ) (r : NetRouter) → AllPairs (λ u v. u < v) (numbers routers) → i < length routers → r ≡ get_or routers i r → ((k : ℕ) → k < i → Q (slice_index (numbers routers) k))
      → (v : ℕ) → IsRouter routers v → v < r.asn → Q v
  each_below i r rising lt is inv v router less =
      let size : length (numbers routers) ≡ length routers = length-map routers (λ (x : NetRouter). x.asn) in
      let at : slice_index (numbers routers) router.0 ≡ v = get_or_default (numbers routers) router.0 0 v router.1 ∙ router.2 in
      let here = number_is i r lt is in
      elim (cases_order router.0 i) [
        | inl same ↦ absurd (omega (arith, less, here, at, ap (λ (j : ℕ). slice_index (numbers routers) j) same))
        | inr differ ↦ elim differ [
          | inl before ↦ subst Q at (inv router.0 before)
          | inr behind ↦
              let up : slice_index (numbers routers) i < slice_index (numbers routers) router.0 = rising i router.0 0 behind router.1 in
              absurd (omega (arith, up, less, here, at))
        ]
      ]

  -- a router of the list is one of the network
  pub stands : (i : ℕ) (r : NetRouter) → i < length routers → r ≡ get_or routers i r → IsRouter routers r.asn
  stands i r lt is =
      let size : length (numbers routers) ≡ length routers = length-map routers (λ (x : NetRouter). x.asn) in
      let inside : i < length (numbers routers) = omega (arith, size, lt) in
      (i, inside, get_or_default (numbers routers) i r.asn 0 inside ∙ number_is i r lt is)

-- the router of a table, which has not its best
pub mover_is : (p : Problem) (paths : ℕ → List ℕ) (u : ℕ) (table : Table) (net : Plan) → net ≡ p.net → IsTableOf net u table → IsRouter p.net.routers u → (has best : List ℕ) → IsBestOf p paths table best
    → (best ≡ has → ⊥) → has ≡ paths u → (field : List ℕ) → field ≡ has → IsMover p paths (record { router = u; has = field; best = best })
mover_is p paths u table net en of known has best best_is apart has_is field ef = record {
  router = known;
  has_it = ef ∙ has_is;
  best_is = (table, subst (λ (n : Plan). IsTableOf n u table) en of, best_is);
  moves = λ e. apart (e ∙ ef);
}

-- the router of a table, which has its best
pub settled_is : (p : Problem) (paths : ℕ → List ℕ) (u : ℕ) (table : Table) (net : Plan) → net ≡ p.net → IsTableOf net u table → (has best : List ℕ) → IsBestOf p paths table best → best ≡ has → has ≡ paths u
    → IsBest p paths u (paths u)
settled_is p paths u table net en of has best best_is same has_is =
    (table, subst (λ (n : Plan). IsTableOf n u table) en of, subst (IsBestOf p paths table) (same ∙ has_is) best_is)

-- the least router that has not its best
pub moving : EachPolicyIsAnOrder → (p : Problem) → IsProblem p → (paths : ℕ → List ℕ) (routers : List NetRouter) → routers ≡ p.net.routers → (i : ℕ) (r : NetRouter) → i < length routers → r ≡ get_or routers i r
    → (m : Mover) → m.router ≡ r.asn → IsMover p paths m → ((k : ℕ) → k < i → IsBest p paths (slice_index (numbers p.net.routers) k) (paths (slice_index (numbers p.net.routers) k)))
    → IsMoving p paths m.router m.has m.best
moving law p is paths routers er i r lt at m number moves inv =
    let lt-2 : i < length p.net.routers = subst (λ (rs : List NetRouter). i < length rs) er lt in
    let at-2 : r ≡ get_or p.net.routers i r = subst (λ (rs : List NetRouter). r ≡ get_or rs i r) er at in
    let Q : ℕ → Type 0 = λ v. IsBest p paths v (paths v) in
    record {
      least = record {
        router = moves.router;
        fails = λ mine. moves.moves (one_best law p is paths m.router m.best (paths m.router) moves.best_is mine ∙ sym moves.has_it);
        below = λ v known less. each_below Q p.net.routers i r is.network.plan.rising lt-2 at-2 inv v known (subst (λ (n : ℕ). v < n) number less);
      };
      has_it = moves.has_it;
      best_is = moves.best_is;
    }

-- one router more has its best
pub settled_on : (p : Problem) (paths : ℕ → List ℕ) (routers : List NetRouter) → routers ≡ p.net.routers → (i : ℕ) (r : NetRouter) → i < length routers → r ≡ get_or routers i r
    → IsBest p paths r.asn (paths r.asn) → ((k : ℕ) → k < i → IsBest p paths (slice_index (numbers p.net.routers) k) (paths (slice_index (numbers p.net.routers) k)))
    → (k : ℕ) → k < i + 1 → IsBest p paths (slice_index (numbers p.net.routers) k) (paths (slice_index (numbers p.net.routers) k))
settled_on p paths routers er i r lt at best inv =
    let lt-2 : i < length p.net.routers = subst (λ (rs : List NetRouter). i < length rs) er lt in
    let at-2 : r ≡ get_or p.net.routers i r = subst (λ (rs : List NetRouter). r ≡ get_or rs i r) er at in
    each_on (λ v. IsBest p paths v (paths v)) p.net.routers i r lt-2 at-2 best inv

-- a router of the list is one of the problem
pub known_at : (p : Problem) (routers : List NetRouter) → routers ≡ p.net.routers → (i : ℕ) (r : NetRouter) → i < length routers → r ≡ get_or routers i r → IsRouter p.net.routers r.asn
known_at p routers er i r lt at = subst (λ (rs : List NetRouter). IsRouter rs r.asn) er (stands (λ _. Unit {0}) routers i r lt at)

-- ---- all that would move

one_more : (p : Problem) (routers : List NetRouter) → routers ≡ p.net.routers → (i : ℕ) (r : NetRouter) → i < length routers → r ≡ get_or routers i r → take (i + 1) p.net.routers ≡ take i p.net.routers ++ r ∷ []
one_more p routers er i r lt at =
    let lt-2 : i < length p.net.routers = subst (λ (rs : List NetRouter). i < length rs) er lt in
    let at-2 : r ≡ get_or p.net.routers i r = subst (λ (rs : List NetRouter). r ≡ get_or rs i r) er at in
    take_more p.net.routers i r lt-2 ∙ ap (λ (x : NetRouter). take i p.net.routers ++ x ∷ []) (sym at-2)

more_best : (p : Problem) (paths : ℕ → List ℕ) (rs : List NetRouter) (r : NetRouter) (ms : List Mover) → AreMovers p paths rs ms → IsBest p paths r.asn (paths r.asn) → AreMovers p paths (rs ++ r ∷ []) ms
more_best p paths [] r ms none best = inl (best, none)
more_best p paths (x ∷ rs) r ms (inl a) best = inl (a.0, more_best p paths rs r ms a.1 best)
more_best p paths (x ∷ rs) r ms (inr a) best = inr (a.0, a.1, a.2, a.3, a.4, more_best p paths rs r a.1 a.5 best)

more_moves : (p : Problem) (paths : ℕ → List ℕ) (rs : List NetRouter) (r : NetRouter) (ms : List Mover) (m : Mover) → AreMovers p paths rs ms → m.router ≡ r.asn → IsMover p paths m
    → AreMovers p paths (rs ++ r ∷ []) (ms ++ m ∷ [])
more_moves p paths [] r ms m none number moves = inr (m, [], ap (λ (l : List Mover). l ++ m ∷ []) none, number, moves, refl)
more_moves p paths (x ∷ rs) r ms m (inl a) number moves = inl (a.0, more_moves p paths rs r ms m a.1 number moves)
more_moves p paths (x ∷ rs) r ms m (inr a) number moves = inr (a.0, a.1 ++ m ∷ [], ap (λ (l : List Mover). l ++ m ∷ []) a.2, a.3, a.4, more_moves p paths rs r a.1 m a.5 number moves)

-- one router more, which has its best
best_more : (p : Problem) (paths : ℕ → List ℕ) (routers : List NetRouter) → routers ≡ p.net.routers → (i : ℕ) (r : NetRouter) → i < length routers → r ≡ get_or routers i r → (ms : List Mover)
    → AreMovers p paths (take i p.net.routers) ms → IsBest p paths r.asn (paths r.asn) → AreMovers p paths (take (i + 1) p.net.routers) ms
best_more p paths routers er i r lt at ms all best =
    let one : take (i + 1) p.net.routers ≡ take i p.net.routers ++ r ∷ [] = one_more p routers er i r lt at in
    subst (λ (l : List NetRouter). AreMovers p paths l ms) (sym one) (more_best p paths (take i p.net.routers) r ms all best)

-- one that would move
moves_more : (p : Problem) (paths : ℕ → List ℕ) (routers : List NetRouter) → routers ≡ p.net.routers → (i : ℕ) (r : NetRouter) → i < length routers → r ≡ get_or routers i r → (ms : List Mover) (m : Mover)
    → AreMovers p paths (take i p.net.routers) ms → m.router ≡ r.asn → IsMover p paths m → AreMovers p paths (take (i + 1) p.net.routers) (ms ++ m ∷ [])
moves_more p paths routers er i r lt at ms m all number moves =
    let one : take (i + 1) p.net.routers ≡ take i p.net.routers ++ r ∷ [] = one_more p routers er i r lt at in
    subst (λ (l : List NetRouter). AreMovers p paths l (ms ++ m ∷ [])) (sym one) (more_moves p paths (take i p.net.routers) r ms m all number moves)

-- one that would move, or not
pub found_more : (p : Problem) (paths : ℕ → List ℕ) (routers : List NetRouter) → routers ≡ p.net.routers → (i : ℕ) (r : NetRouter) → i < length routers → r ≡ get_or routers i r → (ms new : List Mover) (found : Option Mover)
    → AreMovers p paths (take i p.net.routers) ms → MatchOption found (IsBest p paths r.asn (paths r.asn)) (λ m. (m.router ≡ r.asn) × IsMover p paths m)
    → MatchOption found (new ≡ ms) (λ m. new ≡ ms ++ m ∷ []) → AreMovers p paths (take (i + 1) p.net.routers) new
found_more p paths routers er i r lt at ms new None all best is = subst (λ (l : List Mover). AreMovers p paths (take (i + 1) p.net.routers) l) (sym is) (best_more p paths routers er i r lt at ms all best)
found_more p paths routers er i r lt at ms new (Some m) all moves is =
    subst (λ (l : List Mover). AreMovers p paths (take (i + 1) p.net.routers) l) (sym is) (moves_more p paths routers er i r lt at ms m all moves.0 moves.1)

-- a path that is there may be had exactly where the router's table permits it
pub may_by : (net : Plan) → IsNetwork net → (prefix : PrefixView) (u : ℕ) (table : Table) → IsTableOf net u table → (path : List ℕ) → path ≢ [] → (b : Bool) → (IsTrue b ↔ IsPermitted table prefix path)
    → (IsTrue b ↔ MayHave net prefix u path)
may_by net is prefix u table of path some b permits = (
  λ t. inr (table, of, permits.0 t),
  λ may. elim may [
    | inl none ↦ absurd (some none)
    | inr x ↦
        let same : x.0 ≡ table = one_table net u x.0 table is x.1 of in
        permits.1 (subst (λ (t : Table). IsPermitted t prefix path) same x.2)
  ],
)

-- and at a number without a router none may be had
pub may_not : (net : Plan) (prefix : PrefixView) (u : ℕ) (path : List ℕ) → path ≢ [] → (IsRouter net.routers u → ⊥) → MayHave net prefix u path → ⊥
may_not net prefix u path some absent (inl none) = some none
may_not net prefix u path some absent (inr x) =
    let size : length (numbers net.routers) ≡ length net.routers = length-map net.routers (λ (r : NetRouter). r.asn) in
    let at = x.1.2 in
    let inside : at.0 < length (numbers net.routers) = omega (arith, size, at.2) in
    absent (at.0, inside, get_or-map (λ (r : NetRouter). r.asn) net.routers at.0 at.1 u at.2 ∙ ap (λ (r : NetRouter). r.asn) at.3 ∙ at.4.0)

-- the least router that has a path which it does not permit
pub stray : (p : Problem) → IsProblem p → (paths : ℕ → List ℕ) (routers : List NetRouter) → routers ≡ p.net.routers → (i : ℕ) (r : NetRouter) → i < length routers → r ≡ get_or routers i r
    → (u : ℕ) → u ≡ r.asn → (MayHave p.net p.prefix u (paths u) → ⊥) → ((k : ℕ) → k < i → MayHave p.net p.prefix (slice_index (numbers p.net.routers) k) (paths (slice_index (numbers p.net.routers) k)))
    → IsLeastWithout p (λ v. MayHave p.net p.prefix v (paths v)) r.asn
stray p is paths routers er i r lt at u eu not inv =
    let lt-2 : i < length p.net.routers = subst (λ (rs : List NetRouter). i < length rs) er lt in
    let at-2 : r ≡ get_or p.net.routers i r = subst (λ (rs : List NetRouter). r ≡ get_or rs i r) er at in
    let Q : ℕ → Type 0 = λ v. MayHave p.net p.prefix v (paths v) in
    record {
      router = stands Q p.net.routers i r lt-2 at-2;
      fails = λ may. not (subst Q (sym eu) may);
      below = each_below Q p.net.routers i r is.network.plan.rising lt-2 at-2 inv;
    }

pub permitted_on : (p : Problem) (paths : ℕ → List ℕ) (routers : List NetRouter) → routers ≡ p.net.routers → (i : ℕ) (r : NetRouter) → i < length routers → r ≡ get_or routers i r
    → (u : ℕ) → u ≡ r.asn → MayHave p.net p.prefix u (paths u) → ((k : ℕ) → k < i → MayHave p.net p.prefix (slice_index (numbers p.net.routers) k) (paths (slice_index (numbers p.net.routers) k)))
    → (k : ℕ) → k < i + 1 → MayHave p.net p.prefix (slice_index (numbers p.net.routers) k) (paths (slice_index (numbers p.net.routers) k))
permitted_on p paths routers er i r lt at u eu may inv =
    let lt-2 : i < length p.net.routers = subst (λ (rs : List NetRouter). i < length rs) er lt in
    let at-2 : r ≡ get_or p.net.routers i r = subst (λ (rs : List NetRouter). r ≡ get_or rs i r) er at in
    let Q : ℕ → Type 0 = λ v. MayHave p.net p.prefix v (paths v) in
    each_on Q p.net.routers i r lt-2 at-2 (subst Q eu may) inv

-- ---- no path without an origin

pub linked_is : (net : Plan) → IsNetwork net → (u v : ℕ) → Linked net.links u v → IsRouter net.routers v
linked_is net is u v l =
    let ends = subst (λ (k : Link). IsRouter net.routers k.one × IsRouter net.routers k.other) l.3 (is.plan.links.known l.0 l.1 l.2) in
    elim l.4 [
      | inl a ↦ subst (IsRouter net.routers) a.1 ends.1
      | inr a ↦ subst (IsRouter net.routers) a.0 ends.0
    ]

-- paths of at most so many routers are empty: the path of a choice has one router more than another path that is there
nothing_on : (p : Problem) → IsProblem p → p.originated ≡ false → (paths : ℕ → List ℕ) → IsStable p paths → (n u : ℕ) → length (paths u) ≤ n → IsRouter p.net.routers u → paths u ≡ []
nothing_on p is none paths stable zero u short router =
    elim (stable u router).2 [
      | inl own ↦ own.1 ∙ ap (λ (b : Bool). cond b ((stable u router).0.router ∷ []) []) none
      | inr x ↦ elim x.1 [
        | inl first ↦ absurd (omega (arith, short, ap length first.choice.goes_on))
        | inr empty ↦ empty.0
      ]
    ]
nothing_on p is none paths stable (suc n) u short router =
    elim (stable u router).2 [
      | inl own ↦ own.1 ∙ ap (λ (b : Bool). cond b ((stable u router).0.router ∷ []) []) none
      | inr x ↦ elim x.1 [
        | inl first ↦
            let shorter : length (paths first.choice.peer) ≤ n = omega (arith, short, ap length first.choice.goes_on, ap length first.choice.heard.1) in
            absurd (first.choice.some (first.choice.heard.1
            ∙ nothing_on p is none paths stable n first.choice.peer shorter (linked_is p.net is.network (stable u router).0.router first.choice.peer first.choice.heard.0)))
        | inr empty ↦ empty.0
      ]
    ]

pub no_path_without : NoOriginNoPath
no_path_without p is none paths stable u router = nothing_on p is none paths stable (length (paths u)) u (omega arith) router

-- ---- what the model of runs calls stable

-- words that are the peers' paths give the same best
best_as : (p : Problem) (one other : ℕ → List ℕ) (t : Table) (path : List ℕ) → ((v : ℕ) → Linked p.net.links t.router v → one v ≡ other v) → IsBestOf p one t path → IsBestOf p other t path
best_as p one other t path same (inl origin) = inl origin
best_as p one other t path same (inr x) =
    inr (x.0, first_as t p.prefix (HasPathOver p.net.links one t.router) (HasPathOver p.net.links other t.router) path (λ v q _ h. (h.0, h.1 ∙ same v h.0)) (λ v q _ h. (h.0, h.1 ∙ sym (same v h.0))) x.1)

heard : (b : Bool) (x y : List ℕ) → b ≡ true → cond b x y ≡ x
heard true x y e = refl
heard false x y e = absurd cc

-- the model's choice is the best
best_here : EachPolicyIsAnOrder → {M : Type 0} (p : Problem) → IsProblem p → (originated : ℕ → Bool) (g : Network M PrefixView (List ℕ)) → Chooses p originated g → (paths : ℕ → List ℕ) (u : ℕ)
    → IsRouter p.net.routers u → IsBest p paths u (g.best u p.prefix (originated u) (λ v. cond (g.linked u v) (paths v) g.no_path))
best_here law p is originated g chooses paths u router =
    let words : ℕ → List ℕ = λ v. cond (g.linked u v) (paths v) g.no_path in
    let b = chooses.best u router words in (
      b.0,
      b.1,
      best_as p words paths b.0 _ (λ v l. heard (g.linked u v) (paths v) g.no_path ((chooses.linked u v).1 (subst (λ (w : ℕ). Linked p.net.links w v) b.1.0 l))) b.2,
    )

pub model_law : EachPolicyIsAnOrder → {M : Type 0} → StableIsTheModels M
model_law law p is originated g chooses paths = (
  λ stable u known. one_best law p is paths u (paths u) _ (stable u ((chooses.routers u).0 known)) (best_here law p is originated g chooses paths u ((chooses.routers u).0 known)),
  λ model u router.
      subst (IsBest p paths u) (sym (model u ((chooses.routers u).1 router))) (best_here law p is originated g chooses paths u router),
)
