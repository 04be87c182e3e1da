-- Where a peer says another word that gives no better choice, and the kept path does not go on by the one before, the best stays.
use Rattle.std.proofs.Common.{◌≡◌, ◌≢◌, ℕ, ◌<◌, true, false, List, [], ◌∷◌, length, set, drop, sym, ap, subst, ◌∙◌, inl, inr, ◌⊎◌, Some}
use Rattle.std.specs.List.{slice_get}
use Rattle.std.proofs.lemmas.List.{length-set}
use Rattle.std.proofs.lemmas.Option.{slice_get_within, same_Some}
use Rattle.std.proofs.lemmas.Bool.{cases_eq}
use Rattle.ranked_policy.specs.Choosing.{chosen_permits, chosen_prefers}
use Rattle.ranked_policy.specs.Choices.{IsFirstOrNone, IsTaken}
use Rattle.ranked_policy.specs.Plans.{Plan, IsNetwork}
use Rattle.ranked_policy.specs.Policies.{Table, IsTableOf, IsPermitted, IsPreferred}
use Rattle.ranked_policy.specs.Promises.{EachPolicyIsAnOrder}
use Rattle.rib_tables.specs.declared.word.Word.{Word}
use Rattle.rib_tables.specs.declared.word.Word.TheVariants.{Sequence}
use Rattle.rib_tables.specs.declared.place_set.PlaceSet.{PlaceSet}
use Rattle.rib_tables.specs.declared.row.Peer.{Peer}
use Rattle.rib_tables.specs.declared.row.Row.{Row}
use Rattle.rib_tables.specs.Places.{has}
use Rattle.rib_tables.specs.Words.{path_in}
use Rattle.rib_tables.specs.Rows.{RowHears, IsRow, IsRowBest, BestStays, StaysDecided, hearing}
use Rattle.ranked_policy.proofs.OneTable.{table_stands}
use Rattle.ranked_policy.proofs.ChoiceLemmas.{first_stays}
use Rattle.rib_tables.proofs.RibLemmas.{set_here, set_there}

behind_router : (x : ℕ) (xs : List ℕ) (path : List ℕ) → path ≡ x ∷ xs → drop 1 path ≡ xs
behind_router x xs path e = ap (drop 1) e

module _ (net : Plan) (router : ℕ) (peers : List Peer) (r : Row) (k : ℕ) (w : Word) where
  -- at the origin no word counts
  pub own_stays : IsRow net router peers r → r.own ≡ true → IsRowBest net router peers r r.kept → IsRowBest net router peers (hearing k w r) r.kept
  own_stays row own (table, of, inl best) = (table, of, inl best)
  own_stays row own (table, of, inr other) = absurd (other.0 ((row.own table of).0 own))

  module _ (law : EachPolicyIsAnOrder) (is : IsNetwork net) (row : IsRow net router peers r) (said : Word) (at : slice_get r.heard k ≡ Some said)
      (gone : drop 1 r.kept ≢ [] → path_in said ≢ drop 1 r.kept)
      (worse : path_in w ≢ [] → IsTaken r.policy router (path_in w) (drop 1 r.kept) → ⊥) where
    abbrev n : ℕ
    n = length peers

    still : (v : ℕ) (p : List ℕ) (u : ℕ) → p ≢ [] → r.kept ≡ u ∷ p → RowHears peers r.heard n v p → RowHears peers (set r.heard k w) n v p
    still v p u some goes h =
        let apart : h.place ≢ k = λ e.
        let same : said ≡ Sequence p = same_Some said (Sequence p) (sym at ∙ ap (λ (i : ℕ). slice_get r.heard i) (sym e) ∙ h.word) in
        let onward = behind_router u p r.kept goes in
        gone (λ none. some (sym onward ∙ none)) (ap path_in same ∙ sym onward) in
        record { place = h.place; below = h.below; peer = h.peer; at = h.at; up = h.up; number = h.number; word = set_there r.heard k h.place w apart ∙ h.word }

    said_or_new : (v : ℕ) (p : List ℕ) → k < length r.heard → RowHears peers (set r.heard k w) n v p → RowHears peers r.heard n v p ⊎ (path_in w ≡ p)
    said_or_new v p inside h = elim (cases_eq h.place k) [
      | inl same ↦ inr (ap path_in (same_Some w (Sequence p) (sym (set_here r.heard k w inside) ∙ ap (λ (i : ℕ). slice_get (set r.heard k w) i) (sym same) ∙ h.word)))
      | inr apart ↦
          inl (record { place = h.place; below = h.below; peer = h.peer; at = h.at; up = h.up; number = h.number; word = sym (set_there r.heard k h.place w apart) ∙ h.word })
    ]

    module _ (table : Table) (of : IsTableOf net router table) (p : List ℕ) (new : path_in w ≡ p) where
      no_better : IsFirstOrNone (RowHears peers r.heard n) table r.prefix r.kept → (r.kept ≡ []) ⊎ IsPreferred table r.prefix (table.router ∷ p) r.kept
          → (drop 1 r.kept ≡ []) ⊎ chosen_prefers r.policy (router ∷ path_in w) (router ∷ drop 1 r.kept)
      no_better (inr empty) better = inl (ap (drop 1) empty.0)
      no_better (inl first) (inl none) = inl (ap (drop 1) none)
      no_better (inl first) (inr preferred) =
          let goes = first.choice.goes_on in
          let whole : r.kept ≡ table.router ∷ drop 1 r.kept = goes ∙ ap (λ (s : List ℕ). table.router ∷ s) (sym (behind_router table.router first.choice.rest r.kept goes)) in
          inr (subst (λ (u : ℕ). chosen_prefers r.policy (u ∷ path_in w) (u ∷ drop 1 r.kept)) of.0
          (subst (λ (s : List ℕ). chosen_prefers r.policy (table.router ∷ s) (table.router ∷ drop 1 r.kept)) (sym new)
          (((row.speaks table of).prefers (table.router ∷ p) (table.router ∷ drop 1 r.kept)).1 (subst (IsPreferred table r.prefix (table.router ∷ p)) whole preferred))))

      permitted : IsPermitted table r.prefix (table.router ∷ p) → chosen_permits r.policy (router ∷ path_in w)
      permitted may =
          subst (λ (u : ℕ). chosen_permits r.policy (u ∷ path_in w)) of.0
          (subst (λ (s : List ℕ). chosen_permits r.policy (table.router ∷ s)) (sym new) (((row.speaks table of).permits (table.router ∷ p)).1 may))

    -- elsewhere a word that is no better changes nothing
    pub heard_stays : IsRowBest net router peers r r.kept → IsRowBest net router peers (hearing k w r) r.kept
    heard_stays (table, of, inl own) = (table, of, inl own)
    heard_stays (table, of, inr x) = (
      table,
      of,
      inr (
        x.0,
        first_stays table r.prefix (law table (table_stands net router table is of) r.prefix) (RowHears peers r.heard n) (RowHears peers (set r.heard k w) n) r.kept
            (λ v p some goes h. still v p table.router some goes h)
            (λ v p some h. elim (said_or_new v p (slice_get_within r.heard k said at) h) [
              | inl old ↦ inl old
              | inr new ↦ inr (λ may better. worse (λ none. some (sym new ∙ none)) (permitted table of p new may, no_better table of p new x.1 better))
            ]) x.1,
      ),
    )

-- ---- one row of all

-- what a row is before, and the words of a peer in it, are of no account for its policy
hearing_row : (net : Plan) (router : ℕ) (peers : List Peer) (r : Row) (k : ℕ) (w : Word) → IsRow net router peers r → IsRow net router peers (hearing k w r)
hearing_row net router peers r k w h = record { heard = length-set r.heard k w ∙ h.heard; sent = h.sent; speaks = h.speaks; own = h.own }

module _ (router : ℕ) (rows : List Row) (place : ℕ) (row : Row) (at : slice_get rows place ≡ Some row) (k : ℕ) (w : Word) where
  abbrev changed : List Row
  changed = set rows place (hearing k w row)

  at_changed : (i : ℕ) (r : Row) → slice_get changed i ≡ Some r → ((i ≡ place) × (hearing k w row ≡ r)) ⊎ ((i ≢ place) × (slice_get rows i ≡ Some r))
  at_changed i r there = elim (cases_eq i place) [
    | inl same ↦ inl (same, same_Some (hearing k w row) r (sym (set_here rows place (hearing k w row) (slice_get_within rows place row at)) ∙ ap (λ (j : ℕ). slice_get changed j) (sym same) ∙ there))
    | inr apart ↦
        inr (apart, sym (set_there rows place i (hearing k w row) apart) ∙ there)
  ]

  -- the best stays at the place, or the place is in the set
  abbrev pub Stays : PlaceSet → PlaceSet → Type 0
  Stays old new = has new place ≡ false → (has old place ≡ false) × BestStays router row k w

  pub row_stays : (old new : PlaceSet) → ((i : ℕ) → i ≢ place → has new i ≡ has old i) → Stays old new → StaysDecided router rows changed old new
  row_stays old new others here net peers judged decided = (
    record {
      network = judged.network;
      routers = judged.routers;
      each = λ i r there. elim (at_changed i r there) [
        | inl mine ↦ subst (IsRow net router peers) mine.1 (hearing_row net router peers row k w (judged.each place row at))
        | inr other ↦ judged.each i r other.1
      ];
    },
    λ i r there out. elim (at_changed i r there) [
      | inl mine ↦
          let stays = here (ap (has new) (sym mine.0) ∙ out) in
          subst (λ (s : Row). IsRowBest net router peers s s.kept) mine.1 (stays.1 net peers judged.network judged.routers (judged.each place row at) (decided place row at stays.0))
      | inr other ↦ decided i r other.1 (sym (others i other.0) ∙ out)
    ],
  )

pub none_heard : (router : ℕ) (rows : List Row) (s : PlaceSet) → StaysDecided router rows rows s s
none_heard router rows s net peers judged decided = (judged, decided)

pub both_heard : (router : ℕ) (rows mid new : List Row) (a b c : PlaceSet) → StaysDecided router rows mid a b → StaysDecided router mid new b c → StaysDecided router rows new a c
both_heard router rows mid new a b c first next net peers judged decided = let m = first net peers judged decided in next net peers m.0 m.1
