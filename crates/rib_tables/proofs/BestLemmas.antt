-- The first row that has not its best gets it.
use Rattle.std.proofs.Common.{◌≡◌, ◌≢◌, ℕ, ◌<◌, true, List, [], length, set, refl, sym, ap, subst, ◌∙◌, inl, inr, Some, None, Option, rules}
use Rattle.std.specs.Prelude.{◌↔◌, MatchOption, Result, Ok, Err, IfErr, OnErr}
use Rattle.std.specs.List.{slice_get}
use Rattle.std.proofs.lemmas.Bool.{cases_Bool}
use Rattle.std.proofs.lemmas.Option.{slice_get_within}
use Rattle.prefix_lanes.specs.Bits.{PrefixView}
use Rattle.ranked_policy.specs.Plans.{Plan}
use Rattle.rib_tables.specs.declared.word.Word.TheVariants.{Sequence}
use Rattle.rib_tables.specs.declared.place_set.PlaceSet.{PlaceSet}
use Rattle.rib_tables.specs.declared.row.Peer.{Peer}
use Rattle.rib_tables.specs.declared.row.Row.{Row}
use Rattle.rib_tables.specs.Places.{has}
use Rattle.rib_tables.specs.Owners.{Decides}
use Rattle.rib_tables.specs.Rows.{AreDecided, AreJudged, AllBest, IsRowBest, IsRib, IsFirstUndecided, keeping, view_of}
use Rattle.rib_tables.proofs.ChangeLemmas.{key_at, place_fits}
use Rattle.rib_tables.proofs.RibLemmas.{fit_of, set_here}
use Rattle.rib_tables.proofs.SeenLemmas.{best_seen}
use Rattle.rib_tables.proofs.DecidingLemmas.{decided_more}
use Rattle.rib_tables.proofs.OneRowLemmas.{keeps_rib, keeps_view}
use Rattle.rib_tables.proofs.AskingLemmas.{judged, dirty_keeps_rib}

-- a path along the way on of the best is the best
pub best_along : {X : Type 0} (Best : List ℕ → Type 0) (whole : X → List ℕ) (way : Option X) (path : List ℕ) → MatchOption way (Best []) (λ x. Best (whole x)) → MatchOption way (path ≡ []) (λ x. path ≡ whole x) → Best path
best_along {X} Best whole None path best is = subst Best (sym is) best
best_along {X} Best whole (Some x) path best is = subst Best (sym is) best

-- what holds holds where something was refused
pub if_refused : {A B P : Type 0} (r : Result A B) → P → IfErr r (λ why. P)
if_refused {A} {B} {P} (Ok a) p = search rules
if_refused {A} {B} {P} (Err b) p = p

pub on_refused : {A B P : Type 0} (r : Result A B) → P → OnErr r P
on_refused {A} {B} {P} (Ok a) p = search rules
on_refused {A} {B} {P} (Err b) p = p

-- ---- what is found over slices of the peers and the rows

module _ (net : Plan) (router : ℕ) (peers : List Peer) (keys : List PrefixView) (rows : List Row) (dirty : PlaceSet) (waits : List PlaceSet) (rib : IsRib net router peers keys rows dirty waits) (ps : List Peer) (rs : List Row)
    (same_peers : ps ≡ peers) (same_rows : rs ≡ rows) where
  -- of the same peers and rows
  alike : (P : List Peer → List Row → Type 0) → P ps rs → P peers rows
  alike P p = subst (λ (xs : List Peer). P xs rows) same_peers (subst (P ps) same_rows p)

  pub left_rib : (left : PlaceSet) → (AreJudged net router ps rs → AreDecided net router ps rs dirty → AreDecided net router ps rs left) → IsRib net router peers keys rows left waits
  left_rib left decided =
      dirty_keeps_rib net router peers keys rows dirty waits rib left
      (alike (λ xs ys. AreJudged net router xs ys → AreDecided net router xs ys dirty → AreDecided net router xs ys left) decided (judged net router peers keys rows dirty waits rib) rib.decided)

  pub found_all : (AreJudged net router ps rs → AreDecided net router ps rs dirty → AllBest net router ps rs) → AllBest net router peers rows
  found_all all = alike (λ xs ys. AreJudged net router xs ys → AreDecided net router xs ys dirty → AllBest net router xs ys) all (judged net router peers keys rows dirty waits rib) rib.decided

  module _ (place : ℕ) where
    pub found_first : (AreJudged net router ps rs → AreDecided net router ps rs dirty → IsFirstUndecided net router ps rs place) → IsFirstUndecided net router peers rows place
    found_first first = alike (λ xs ys. AreJudged net router xs ys → AreDecided net router xs ys dirty → IsFirstUndecided net router xs ys place) first (judged net router peers keys rows dirty waits rib) rib.decided

    pub found_best : {X : Type 0} (way : Option X) (whole : X → List ℕ) (path : List ℕ) (row : Row) → slice_get rows place ≡ Some row
        → (AreJudged net router ps rs → (r : Row) → slice_get rs place ≡ Some r → MatchOption way (IsRowBest net router ps r []) (λ x. IsRowBest net router ps r (whole x)))
        → MatchOption way (path ≡ []) (λ x. path ≡ whole x) → IsRowBest net router peers row path
    found_best {X} way whole path row at best is =
        best_along (IsRowBest net router peers row) whole way path
        (alike (λ xs ys. AreJudged net router xs ys → (r : Row) → slice_get ys place ≡ Some r → MatchOption way (IsRowBest net router xs r []) (λ x. IsRowBest net router xs r (whole x))) best
        (judged net router peers keys rows dirty waits rib) row at) is

-- ---- the row gets its best

module _ (net : Plan) (router : ℕ) (peers : List Peer) (keys : List PrefixView) (rows : List Row) (dirty : PlaceSet) (waits : List PlaceSet) (rib : IsRib net router peers keys rows dirty waits) (place : ℕ) (row : Row)
    (at : slice_get rows place ≡ Some row) where
  pub place_below : (place < length rows) × (place < 256)
  place_below = place_fits keys (length peers) rows (fit_of net router peers keys rows rib.whole) row.prefix place (key_at keys rows rib.whole.listed place row at)

  -- a place whose kept path is not the best is in the set
  is_in : (IsRowBest net router peers row row.kept → ⊥) → has dirty place ≡ true
  is_in fails = elim (cases_Bool (has dirty place)) [ inl t ↦ t | inr f ↦ absurd (fails (rib.decided place row at f)) ]

  module _ (path : List ℕ) (best : IsRowBest net router peers row path) (new : List Row) (is : new ≡ set rows place (keeping path row)) where
    pub new_row : slice_get new place ≡ Some (keeping path row)
    new_row = ap (λ (rs : List Row). slice_get rs place) is ∙ set_here rows place (keeping path row) (slice_get_within rows place row at)

    pub best_keeps_rib : (taken : PlaceSet) (told : List PlaceSet) → (IsRowBest net router peers row row.kept → ⊥) → ((j : ℕ) → j ≢ place → has taken j ≡ has dirty j) → length told ≡ length waits
        → ((k : ℕ) (p : Peer) (w : PlaceSet) → slice_get peers k ≡ Some p → slice_get told k ≡ Some w → (has w place ≡ true ↔ ((p.up ≡ true) × (slice_get row.sent k ≢ Some (Sequence path)))))
        → ((k : ℕ) (w : PlaceSet) → slice_get told k ≡ Some w → (v : PlaceSet) × (slice_get waits k ≡ Some v) × ((i : ℕ) → i ≢ place → has w i ≡ has v i))
        → IsRib net router peers keys new taken told
    best_keeps_rib taken told fails out long here others =
        let kept = keeps_rib net router peers keys rows rib.whole row.prefix place row at refl path dirty dirty waits told rib new is (is_in fails) (λ j apart. refl) long here others in
        dirty_keeps_rib net router peers keys new dirty told kept taken (decided_more net router peers new dirty kept.decided place (keeping path row) taken new_row best out)

    pub best_view : Decides (view_of net router peers rows) (view_of net router peers new) row.prefix
    best_view = record {
      best = path;
      is_best = (best_seen net router peers keys rows rib.whole place row at path).0 best;
      keeps = keeps_view net router peers keys rows rib.whole row.prefix place row at refl path new is;
    }
