-- What is asked of the owner: what a peer waits for, what is to be decided, whether anything is left.
use Rattle.std.proofs.Common.{◌≡◌, ◌≢◌, ℕ, ◌<◌, Bool, true, false, List, length, get_or, refl, sym, ap, subst, ◌∙◌, arith, inl, inr, Some, None, Option}
use Rattle.std.specs.Prelude.{MatchOption, if◌then◌else◌}
use Rattle.std.specs.Option.{is_some}
use Rattle.std.specs.List.{slice_get}
use Rattle.std.proofs.lemmas.Bool.{cases_Bool, false≢true}
use Rattle.std.proofs.lemmas.Option.{slice_get_within, slice_get-get_or}
use Rattle.prefix_lanes.specs.Bits.{PrefixView}
use Rattle.ranked_policy.specs.declared.network.Origin.{Origin}
use Rattle.ranked_policy.specs.Plans.{Plan, IsNamed}
use Rattle.rib_tables.specs.declared.word.Word.{Word}
use Rattle.rib_tables.specs.declared.place_set.PlaceSet.{PlaceSet}
use Rattle.rib_tables.specs.declared.row.Peer.{Peer}
use Rattle.rib_tables.specs.declared.row.Row.{Row}
use Rattle.rib_tables.specs.Places.{has}
use Rattle.rib_tables.specs.Words.{nothing}
use Rattle.rib_tables.specs.Least.{HoldsOfAll, IsLeastWithout}
use Rattle.rib_tables.specs.Owners.{RibView, IsSettled, IsServed, HasWaitingPeer, AllServed}
use Rattle.rib_tables.specs.Tables.{Words}
use Rattle.rib_tables.specs.Rows.{IsRow, IsRib, said_in, AreDecided, AreJudged, AllBest, IsFirstUndecided, view_of}
use Rattle.rib_tables.proofs.RibLemmas.{row_named}
use Rattle.rib_tables.proofs.DecidingLemmas.{read_at}
use Rattle.rib_tables.proofs.SessionLemmas.{listed_up}
use Rattle.rib_tables.proofs.SeenLemmas.{all_rows, least_row, settled_seen, served_here, waits_here}

module _ (net : Plan) (router : ℕ) (peers : List Peer) (keys : List PrefixView) (rows : List Row) (dirty : PlaceSet) (waits : List PlaceSet) (rib : IsRib net router peers keys rows dirty waits) where
  abbrev view : RibView
  view = view_of net router peers rows

  pub judged : AreJudged net router peers rows
  judged = record { network = rib.whole.network; routers = rib.whole.routers; each = rib.whole.each }

  -- the set of a peer that stands at a place
  pub waits_at : (k : ℕ) (p : Peer) (w : PlaceSet) → slice_get peers k ≡ Some p → w ≡ get_or waits k w → slice_get waits k ≡ Some w
  waits_at k p w there is = let lt = slice_get_within peers k p there in let long = rib.told.long in read_at waits k w (omega (arith, lt, long)) is

  -- ---- deciding

  pub all_settled : AllBest net router peers rows → HoldsOfAll net.origins (IsSettled view)
  all_settled best = all_rows net router peers keys rows rib.whole (IsSettled view) (λ i r at. (settled_seen net router peers keys rows rib.whole i r at).0 (best i r at))

  pub first_unsettled : (place : ℕ) → (first : IsFirstUndecided net router peers rows place) → IsLeastWithout net.origins (IsSettled view) first.row.prefix
  first_unsettled place first =
      least_row net router peers keys rows rib.whole (IsSettled view) place first.row first.at (λ s. first.fails ((settled_seen net router peers keys rows rib.whole place first.row first.at).1 s))
      (λ j s lt there. (settled_seen net router peers keys rows rib.whole j s there).0 (first.before j s lt there))

  pub dirty_keeps_rib : (new : PlaceSet) → AreDecided net router peers rows new → IsRib net router peers keys rows new waits
  dirty_keeps_rib new decided = record { whole = rib.whole; decided = decided; told = rib.told }

  -- ---- one peer

  module _ (k : ℕ) (p : Peer) (w : PlaceSet) (there : slice_get peers k ≡ Some p) (here : slice_get waits k ≡ Some w) where
    pub waits_for_none : ((i : ℕ) → i < length rows → has w i ≡ false) → HoldsOfAll net.origins (IsServed view p.asn)
    waits_for_none none = all_rows net router peers keys rows rib.whole (IsServed view p.asn)
        (λ i r at. served_here net router peers keys rows rib.whole i r at k p there w (rib.told.each k p w there here) (none i (slice_get_within rows i r at)))

    pub waits_for_first : (place : ℕ) (r : Row) → slice_get rows place ≡ Some r → has w place ≡ true → ((j : ℕ) → j < place → has w j ≡ false) → IsLeastWithout net.origins (IsServed view p.asn) r.prefix
    waits_for_first place r at in_it below =
        least_row net router peers keys rows rib.whole (IsServed view p.asn) place r at
        (waits_here net router peers keys rows rib.whole place r at k p there w (rib.told.each k p w there here) in_it)
        (λ j s lt at_s. served_here net router peers keys rows rib.whole j s at_s k p there w (rib.told.each k p w there here) (below j lt))

    pub is_awaited_there : (place : ℕ) (r : Row) → slice_get rows place ≡ Some r → has w place ≡ true → HasWaitingPeer view
    is_awaited_there place r at in_it = record {
      peer = p.asn;
      prefix = r.prefix;
      is_named = row_named net router peers keys rows rib.whole place r at;
      waits = waits_here net router peers keys rows rib.whole place r at k p there w (rib.told.each k p w there here) in_it;
    }

  -- ---- all peers

  -- where no set has a place of a row
  pub all_served : ((k : ℕ) (w : PlaceSet) → slice_get waits k ≡ Some w → (i : ℕ) → i < length rows → has w i ≡ false) → AllServed view
  all_served none v q name up =
      let x = listed_up peers v up in
      let lt = slice_get_within peers x.0 x.1 x.2 in
      let size = rib.told.long in
      let w : PlaceSet = get_or waits x.0 dirty in
      let here : slice_get waits x.0 ≡ Some w = slice_get-get_or waits x.0 dirty (omega (arith, lt, size)) in
      let served : IsServed view v q = subst (λ (n : ℕ). IsServed view n q) x.4 (waits_for_none x.0 x.1 w x.2 here (none x.0 w here) q name) in
      served up

-- the words sent of a row, or those heard
abbrev pub line_of : Bool → Row → List Word
line_of sent r = if sent then r.sent else r.heard

lines_of : (sent : Bool) (peers : List Peer) (rows : List Row) → said_in (line_of sent) peers rows ≡ (if sent then said_in (λ r. r.sent) peers rows else said_in (λ r. r.heard) peers rows)
lines_of true peers rows = refl
lines_of false peers rows = refl

module _ (net : Plan) (router : ℕ) (peers : List Peer) (rows : List Row) (sent : Bool) where
  pub line_long : (r : Row) → IsRow net router peers r → length (line_of sent r) ≡ length peers
  line_long r is = elim (cases_Bool sent) [
    | inl t ↦ ap (λ (b : Bool). length (line_of b r)) t ∙ is.sent
    | inr f ↦ ap (λ (b : Bool). length (line_of b r)) f ∙ is.heard
  ]

  pub words_seen : (view : RibView) → view_of net router peers rows ≡ view → (P : Words → Type 0) → P (said_in (line_of sent) peers rows) → P (if sent then view.sent else view.heard)
  words_seen view same P p = subst (λ (s : RibView). P (if sent then s.sent else s.heard)) same (subst P (lines_of sent peers rows) p)

-- a word of a line, as look-ups see it
pub word_seen : {X : Type 0} (value : X → Word) (r : Option X) (line : List Word) (k : ℕ) (whole : Word) → ((w : Word) → slice_get line k ≡ Some w → whole ≡ w)
    → MatchOption r (slice_get line k ≡ Some nothing) (λ x. (slice_get line k ≡ Some (value x)) × (value x ≢ nothing)) → MatchOption r (whole ≡ nothing) (λ x. (value x ≡ whole) × (value x ≢ nothing))
word_seen {X} value None line k whole is none = is nothing none
word_seen {X} value (Some x) line k whole is some = (sym (is (value x) some.0), some.1)

-- where something is found to be least, there is something
pub found_least : (origins : List Origin) (All : Type 0) (Holds : PrefixView → Type 0) (r : Option PrefixView) → is_some r ≡ true → MatchOption r All (IsLeastWithout origins Holds) → (q : PrefixView) × IsNamed origins q × (Holds q → ⊥)
found_least origins All Holds None some least = absurd (false≢true some)
found_least origins All Holds (Some q) some least = (q, least.is_named, least.fails)
