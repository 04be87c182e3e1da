-- The best of a row, and the first row that has not its best.
use Rattle.std.proofs.Common.{◌≡◌, ◌≢◌, ℕ, ◌<◌, ◌≤◌, ◌+◌, true, false, List, [], ◌∷◌, length, get_or, refl, sym, ap, subst, ◌∙◌, arith, inl, inr, Some, None, Option}
use Rattle.std.specs.Prelude.{◌↔◌, MatchOption}
use Rattle.std.specs.List.{slice_get}
use Rattle.std.proofs.lemmas.Bool.{cases_order, both_ways, false≢true, cases_eq}
use Rattle.std.proofs.lemmas.Option.{slice_get_within, get_or_from_slice_get, slice_get-get_or, same_Some}
use Rattle.ranked_policy.specs.declared.network.NetRouter.{NetRouter}
use Rattle.ranked_policy.specs.Plans.{Plan, IsNetwork, IsRouter, numbers}
use Rattle.ranked_policy.specs.Policies.{Table, IsTableOf}
use Rattle.ranked_policy.specs.Promises.{EachPolicyIsAnOrder}
use Rattle.rib_tables.specs.declared.place_set.PlaceSet.{PlaceSet}
use Rattle.rib_tables.specs.declared.row.Peer.{Peer}
use Rattle.rib_tables.specs.declared.row.Row.{Row}
use Rattle.rib_tables.specs.Places.{has}
use Rattle.ranked_policy.specs.Choices.{IsFirstOrNone}
use Rattle.rib_tables.specs.Choices.{IsBestOf}
use Rattle.rib_tables.specs.Rows.{RowHears, IsRow, IsRowBest, AreDecided, AllBest, IsFirstUndecided}
use Rattle.ranked_policy.proofs.OneTable.{one_table, table_stands}
use Rattle.rib_tables.proofs.RouterLemmas.{best_once}
use Rattle.rib_tables.proofs.ChangeLemmas.{from_map}

-- a router of a network has a table of policies
pub table_at : (net : Plan) (u : ℕ) → IsRouter net.routers u → (table : Table) × IsTableOf net u table
table_at net u there =
    let x = from_map (λ (r : NetRouter). r.asn) net.routers there.0 u (slice_get-get_or (numbers net.routers) there.0 u there.1 ∙ ap Some there.2) in (
      record { router = u; rules = x.0.rules; origins = net.origins },
      (refl, refl, (there.0, x.0, slice_get_within net.routers there.0 x.0 x.1, get_or_from_slice_get net.routers there.0 x.0 x.0 x.1, (sym x.2, refl))),
    )

module _ (net : Plan) (router : ℕ) (peers : List Peer) (r : Row) (is : IsNetwork net) (routers : IsRouter net.routers router) (row : IsRow net router peers r) where
  -- at the origin
  pub own_best : r.own ≡ true → r.originated ≡ true → IsRowBest net router peers r (router ∷ [])
  own_best own on =
      let t = table_at net router routers in
      (t.0, t.1, inl ((row.own t.0 t.1).0 own, inl (on, ap (λ (n : ℕ). n ∷ []) (sym t.1.0))))

  pub own_none : r.own ≡ true → r.originated ≡ false → IsRowBest net router peers r []
  own_none own off =
      let t = table_at net router routers in
      (t.0, t.1, inl ((row.own t.0 t.1).0 own, inr ((λ on. false≢true (sym off ∙ on)), refl)))

  -- elsewhere
  pub heard_best : r.own ≡ false → (path : List ℕ) → ((table : Table) → IsTableOf net router table → IsFirstOrNone (RowHears peers r.heard (length peers)) table r.prefix path) → IsRowBest net router peers r path
  heard_best other path first =
      let t = table_at net router routers in
      (t.0, t.1, inr ((λ o. both_ways r.own other ((row.own t.0 t.1).1 o)), first t.0 t.1))

  -- a row has one best
  pub row_best_once : EachPolicyIsAnOrder → (a b : List ℕ) → IsRowBest net router peers r a → IsRowBest net router peers r b → a ≡ b
  row_best_once law a b x y =
      let same : y.0 ≡ x.0 = one_table net router y.0 x.0 is y.1 x.1 in
      let Heard : ℕ → List ℕ → Type 0 = RowHears peers r.heard (length peers) in
      best_once law (r.originated ≡ true) Heard x.0 r.prefix a b (table_stands net router x.0 is x.1) x.2 (subst (λ (t : Table). IsBestOf (r.originated ≡ true) Heard t r.prefix b) same y.2)

-- a path is the best exactly where it is the one that was found
pub settled_by : (Best : List ℕ → Type 0) → ((a b : List ℕ) → Best a → Best b → a ≡ b) → (kept : List ℕ) {X : Type 0} (path : X → List ℕ) (way : Option X) → MatchOption way (Best []) (λ x. Best (path x))
    → (MatchOption way (kept ≡ []) (λ x. kept ≡ path x) ↔ Best kept)
settled_by Best once kept {X} path None best = (λ e. subst Best (sym e) best, λ b. once kept [] b best)
settled_by Best once kept {X} path (Some x) best = (λ e. subst Best (sym e) best, λ b. once kept (path x) b best)

-- ---- one place after the other

pub read_at : {X : Type 0} (xs : List X) (i : ℕ) (x : X) → i < length xs → x ≡ get_or xs i x → slice_get xs i ≡ Some x
read_at {X} xs i x lt is = slice_get-get_or xs i x lt ∙ ap Some (sym is)

-- each place below the first of a set is outside it
module _ (n first : ℕ) (old new : PlaceSet) (clear : (j : ℕ) → j < n → has old j ≡ false) (here : has old first ≡ true) (below : (j : ℕ) → j < first → has old j ≡ false) (out : has new first ≡ false)
    (others : (j : ℕ) → j ≢ first → has new j ≡ has old j) where
  passed : n ≤ first
  passed = elim (cases_order n first) [ inl same ↦ omega (arith, same) | inr differ ↦ elim differ [ inl less ↦ omega (arith, less) | inr more ↦ absurd (both_ways (has old first) (clear first more) here) ] ]

  pub clear_more : (j : ℕ) → j < n + 1 → has new j ≡ false
  clear_more j lt = elim (cases_order j first) [
    | inl same ↦ ap (has new) same ∙ out
    | inr differ ↦ elim differ [
      | inl less ↦ others j (λ e. omega (arith, less, e)) ∙ below j less
      | inr more ↦ absurd (let p = passed in omega (arith, lt, more, p))
    ]
  ]

module _ (net : Plan) (router : ℕ) (peers : List Peer) (rows : List Row) (dirty : PlaceSet) (decided : AreDecided net router peers rows dirty) where
  -- a place whose row has its best can be taken out
  pub decided_more : (place : ℕ) (r : Row) (new : PlaceSet) → slice_get rows place ≡ Some r → IsRowBest net router peers r r.kept → ((j : ℕ) → j ≢ place → has new j ≡ has dirty j) → AreDecided net router peers rows new
  decided_more place r new at best others i s there out = elim (cases_eq i place) [
    | inl same ↦ subst (λ (x : Row). IsRowBest net router peers x x.kept) (same_Some r s (sym at ∙ ap (λ (n : ℕ). slice_get rows n) (sym same) ∙ there)) best
    | inr apart ↦
        decided i s there (sym (others i apart) ∙ out)
  ]

  -- where no place of a row is in the set
  pub all_decided : ((i : ℕ) → i < length rows → has dirty i ≡ false) → AllBest net router peers rows
  all_decided none i r at = decided i r at (none i (slice_get_within rows i r at))

  pub first_fails : (place : ℕ) (r : Row) → slice_get rows place ≡ Some r → (IsRowBest net router peers r r.kept → ⊥) → ((j : ℕ) → j < place → has dirty j ≡ false) → IsFirstUndecided net router peers rows place
  first_fails place r at fails below = record { row = r; at = at; fails = fails; before = λ i s lt there. decided i s there (below i lt) }
