-- What the clauses see of rows: what is heard, kept and originated, what is the best, what a peer waits for, which is the least.
use Rattle.std.proofs.Common.{◌≡◌, ◌≢◌, ℕ, zero, suc, ◌<◌, true, false, List, [], ◌∷◌, length, get_or, refl, sym, ap, subst, ◌∙◌, arith, inl, inr, ◌⊎◌, Some}
use Rattle.std.specs.Prelude.{◌↔◌}
use Rattle.std.specs.List.{slice_get, Contains}
use Rattle.std.proofs.lemmas.Bool.{cases_order, both_ways, false_from_ne_true}
use Rattle.std.proofs.lemmas.Option.{slice_get_within, get_or_from_slice_get, slice_get-get_or, same_Some}
use Rattle.prefix_lanes.specs.Bits.{PrefixView, is_prefix}
use Rattle.ranked_policy.specs.declared.network.Origin.{Origin}
use Rattle.ranked_policy.specs.Plans.{Plan, IsBefore}
use Rattle.ranked_policy.specs.Policies.{Table}
use Rattle.rib_tables.specs.declared.word.Word.{Word}
use Rattle.rib_tables.specs.declared.word.Word.TheVariants as word
use Rattle.rib_tables.specs.declared.word.Word.TheVariants.{Sequence}
use Rattle.rib_tables.specs.declared.place_set.PlaceSet.{PlaceSet}
use Rattle.rib_tables.specs.declared.row.Peer.{Peer}
use Rattle.rib_tables.specs.declared.row.Row.{Row}
use Rattle.rib_tables.specs.Places.{has}
use Rattle.rib_tables.specs.Words.{nothing, path_in}
use Rattle.rib_tables.specs.Tables.{word_of, path_of}
use Rattle.rib_tables.specs.Least.{HoldsOfAll, IsLeastWithout}
use Rattle.rib_tables.specs.Choices.{Hears, IsBestOf, IsBest}
use Rattle.rib_tables.specs.Owners.{RibView, sources_of, IsSettled, IsServed}
use Rattle.rib_tables.specs.Rows.{RowHears, AreRows, IsRowBest, IsWaiting, said_in, established_in, originated_in, kept_in, view_of}
use Rattle.rib_tables.proofs.WordLemmas.{is_prefix-true, is_prefix-from}
use Rattle.rib_tables.proofs.KeptLemmas.{path_of-nil, path_of-first, path_of-next}
use Rattle.ranked_policy.proofs.ChoiceLemmas.{same_or_not}
use Rattle.rib_tables.proofs.RouterLemmas.{best_as}
use Rattle.rib_tables.proofs.ChangeLemmas.{key_at, from_map}
use Rattle.rib_tables.proofs.RibLemmas.{row_once, peer_once, fit_of, old_word, named_row, row_named}
use Rattle.rib_tables.proofs.SessionLemmas.{picks, picked_from, up_listed, listed_up}
use Rattle.ranked_policy.proofs.Rising.{before_trans, before_self}

-- ---- kept paths

pub no_kept : (rows : List Row) (q : PrefixView) → ((i : ℕ) (r : Row) → slice_get rows i ≡ Some r → r.prefix ≡ q → ⊥) → path_of (kept_in rows) q ≡ []
no_kept [] q none = path_of-nil q
no_kept (r ∷ rs) q none =
    path_of-next (record { prefix = r.prefix; path = r.kept }) (kept_in rs) q (false_from_ne_true (is_prefix r.prefix q) (λ t. none 0 r refl (is_prefix-true r.prefix q t)))
    ∙ no_kept rs q (λ i s at. none (suc i) s at)

pub kept_at : (rows : List Row) (q : PrefixView) (i : ℕ) (r : Row) → ((a b : ℕ) (c d : Row) → slice_get rows a ≡ Some c → slice_get rows b ≡ Some d → c.prefix ≡ d.prefix → a ≡ b)
    → slice_get rows i ≡ Some r → r.prefix ≡ q → path_of (kept_in rows) q ≡ r.kept
kept_at [] q i r once at is = absurd (let lt = slice_get_within [] i r at in omega (arith, lt))
kept_at (x ∷ xs) q zero r once at is =
    let same : x ≡ r = same_Some x r at in
    path_of-first (record { prefix = x.prefix; path = x.kept }) (kept_in xs) q (is_prefix-from x.prefix q (ap (λ (s : Row). s.prefix) same ∙ is)) ∙ ap (λ (s : Row). s.kept) same
kept_at (x ∷ xs) q (suc i) r once at is =
    path_of-next (record { prefix = x.prefix; path = x.kept }) (kept_in xs) q
    (false_from_ne_true (is_prefix x.prefix q) (λ t. absurd (let z = once 0 (suc i) x r refl at (is_prefix-true x.prefix q t ∙ sym is) in cc)))
    ∙ kept_at xs q i r (λ a b c d m n f. let z = once (suc a) (suc b) c d m n f in omega (arith, z)) at is

-- ---- what is originated

pub originated_listed : (rows : List Row) (i : ℕ) (r : Row) → slice_get rows i ≡ Some r → r.originated ≡ true → Contains (originated_in rows) r.prefix
originated_listed = picks (λ r. r.originated) (λ r. r.prefix)

pub listed_originated : (rows : List Row) (q : PrefixView) → Contains (originated_in rows) q → (i : ℕ) × (r : Row) × (slice_get rows i ≡ Some r) × (r.originated ≡ true) × (r.prefix ≡ q)
listed_originated = picked_from (λ r. r.originated) (λ r. r.prefix)

-- ---- words

word_or_not : (w : Word) (path : List ℕ) → (w ≡ Sequence path) ⊎ (w ≢ Sequence path)
word_or_not (Sequence p) path = elim (same_or_not p path) [ inl same ↦ inl (ap Sequence same) | inr apart ↦ inr (λ e. apart (ap path_in e)) ]
word_or_not word.Other path = inr (λ e. absurd cc)

-- the best, where the same is heard and originated
best_between : (O P : Type 0) (One Other : ℕ → List ℕ → Type 0) (t : Table) (q : PrefixView) (path : List ℕ) → (O ↔ P) → ((v : ℕ) (p : List ℕ) → One v p → Other v p) → ((v : ℕ) (p : List ℕ) → Other v p → One v p)
    → IsBestOf O One t q path → IsBestOf P Other t q path
best_between O P One Other t q path same onto back (inl own) = inl (own.0, elim own.1 [ inl x ↦ inl (same.0 x.0, x.1) | inr x ↦ inr ((λ p. x.0 (same.1 p)), x.1) ])
best_between O P One Other t q path same onto back (inr x) = best_as P One Other t q path (λ v p _. onto v p) (λ v p _. back v p) (inr x)

-- ---- rows by the order of their prefixes

module _ (net : Plan) (router : ℕ) (peers : List Peer) (keys : List PrefixView) (rows : List Row) (whole : AreRows net router peers keys rows) where
  abbrev view : RibView
  view = view_of net router peers rows

  pub once : (i j : ℕ) (a b : Row) → slice_get rows i ≡ Some a → slice_get rows j ≡ Some b → a.prefix ≡ b.prefix → i ≡ j
  once = row_once keys rows whole.listed (fit_of net router peers keys rows whole).once

  -- the prefix of a row is the one that the network names at its place
  origin_at : (i : ℕ) (r : Row) → slice_get rows i ≡ Some r → (o : Origin) × (slice_get net.origins i ≡ Some o) × (r.prefix ≡ o.prefix)
  origin_at i r at = from_map (λ (o : Origin). o.prefix) net.origins i r.prefix (ap (λ (ks : List PrefixView). slice_get ks i) (sym whole.named) ∙ key_at keys rows whole.listed i r at)

  rows_rise : (i j : ℕ) (r s : Row) → i < j → slice_get rows i ≡ Some r → slice_get rows j ≡ Some s → IsBefore r.prefix s.prefix
  rows_rise i j r s less at also =
      let a = origin_at i r at in
      let b = origin_at j s also in
      let up = whole.network.plan.origins.rising i j a.0 less (slice_get_within net.origins j b.0 b.1) in
      let first : (get_or net.origins i a.0).prefix ≡ r.prefix = ap (λ (o : Origin). o.prefix) (get_or_from_slice_get net.origins i a.0 a.0 a.1) ∙ sym a.2 in
      let next : (get_or net.origins j a.0).prefix ≡ s.prefix = ap (λ (o : Origin). o.prefix) (get_or_from_slice_get net.origins j b.0 a.0 b.1) ∙ sym b.2 in
      subst (λ (p : PrefixView). IsBefore p s.prefix) first (subst (IsBefore (get_or net.origins i a.0).prefix) next up)

  -- a peer is Established exactly where it is up
  pub established_here : (k : ℕ) (p : Peer) → slice_get peers k ≡ Some p → (p.up ≡ true ↔ Contains (established_in peers) p.asn)
  established_here k p there = (
    up_listed peers k p there,
    λ c.
        let x = listed_up peers p.asn c in
        let place : x.0 ≡ k = peer_once peers whole.apart x.0 k x.1 p x.2 there x.4 in
        sym (ap (λ (y : Peer). y.up) (same_Some x.1 p (sym x.2 ∙ ap (λ (n : ℕ). slice_get peers n) place ∙ there))) ∙ x.3,
  )

  module _ (Holds : PrefixView → Type 0) where
    -- what holds of each row's prefix holds of all
    pub all_rows : ((i : ℕ) (r : Row) → slice_get rows i ≡ Some r → Holds r.prefix) → HoldsOfAll net.origins Holds
    all_rows each q name = let x = named_row net router peers keys rows whole q name in subst Holds x.3 (each x.0 x.1 x.2)

    -- the first row of which it does not hold has the least prefix
    pub least_row : (i : ℕ) (r : Row) → slice_get rows i ≡ Some r → (Holds r.prefix → ⊥) → ((j : ℕ) (s : Row) → j < i → slice_get rows j ≡ Some s → Holds s.prefix) → IsLeastWithout net.origins Holds r.prefix
    least_row i r at fails each = record {
      is_named = row_named net router peers keys rows whole i r at;
      fails = fails;
      before = λ p name under.
          let x = named_row net router peers keys rows whole p name in
          let below : IsBefore x.1.prefix r.prefix = subst (λ (q : PrefixView). IsBefore q r.prefix) (sym x.3) under in
          elim (cases_order x.0 i) [
            | inl same ↦
                let row : x.1 ≡ r = same_Some x.1 r (sym x.2 ∙ ap (λ (n : ℕ). slice_get rows n) same ∙ at) in
                absurd (before_self r.prefix (subst (λ (s : Row). IsBefore s.prefix r.prefix) row below))
            | inr differ ↦ elim differ [
              | inl less ↦ subst Holds x.3 (each x.0 x.1 less x.2)
              | inr more ↦ absurd (before_self r.prefix (before_trans r.prefix x.1.prefix r.prefix (rows_rise i x.0 r x.1 more at x.2) below))
            ]
          ];
    }

  module _ (i : ℕ) (r : Row) (at : slice_get rows i ≡ Some r) where
    pub kept_here : path_of (kept_in rows) r.prefix ≡ r.kept
    kept_here = kept_at rows r.prefix i r once at refl

    pub originated_here : r.originated ≡ true ↔ Contains (originated_in rows) r.prefix
    originated_here = (
      originated_listed rows i r at,
      λ c.
          let x = listed_originated rows r.prefix c in
          let place : x.0 ≡ i = once x.0 i x.1 r x.2 at x.4 in
          let same : x.1 ≡ r = same_Some x.1 r (sym x.2 ∙ ap (λ (n : ℕ). slice_get rows n) place ∙ at) in
          sym (ap (λ (s : Row). s.originated) same) ∙ x.3,
    )

    abbrev One : ℕ → List ℕ → Type 0
    One = RowHears peers r.heard (length peers)

    abbrev Other : ℕ → List ℕ → Type 0
    Other = Hears (said_in (λ r. r.heard) peers rows) (established_in peers) r.prefix

    word_here : (line : Row → List Word) (k : ℕ) (p : Peer) (w : Word) → slice_get peers k ≡ Some p → slice_get (line r) k ≡ Some w → word_of (said_in line peers rows) p.asn r.prefix ≡ w
    word_here line k p w there word = old_word net router peers keys rows whole (λ s. s) (λ s. refl) line p.asn r.prefix i k r p w at refl there refl word

    hears_onto : (v : ℕ) (p : List ℕ) → One v p → Other v p
    hears_onto v p h = (
      subst (Contains (established_in peers)) h.number (up_listed peers h.place h.peer h.at h.up),
      ap (λ (u : ℕ). word_of (said_in (λ s. s.heard) peers rows) u r.prefix) (sym h.number) ∙ word_here (λ s. s.heard) h.place h.peer (Sequence p) h.at h.word,
    )

    hears_back : (v : ℕ) (p : List ℕ) → Other v p → One v p
    hears_back v p h =
        let up = listed_up peers v h.0 in
        let lt = slice_get_within peers up.0 up.1 up.2 in
        let size = (whole.each i r at).heard in
        let there : slice_get r.heard up.0 ≡ Some (get_or r.heard up.0 nothing) = slice_get-get_or r.heard up.0 nothing (omega (arith, lt, size)) in
        let is : get_or r.heard up.0 nothing ≡ Sequence p =
        sym (word_here (λ s. s.heard) up.0 up.1 (get_or r.heard up.0 nothing) up.2 there) ∙ ap (λ (u : ℕ). word_of (said_in (λ s. s.heard) peers rows) u r.prefix) up.4 ∙ h.1 in
        record { place = up.0; below = lt; peer = up.1; at = up.2; up = up.3; number = up.4; word = there ∙ ap Some is }

    -- the best of a row is the best that clauses see
    pub best_seen : (path : List ℕ) → (IsRowBest net router peers r path ↔ IsBest (sources_of view) r.prefix path)
    best_seen path = (
      λ b. (b.0, b.1, best_between (r.originated ≡ true) (Contains (originated_in rows) r.prefix) One Other b.0 r.prefix path originated_here hears_onto hears_back b.2),
      λ b. (b.0, b.1, best_between (Contains (originated_in rows) r.prefix) (r.originated ≡ true) Other One b.0 r.prefix path (originated_here.1, originated_here.0) hears_back hears_onto b.2),
    )

    pub settled_seen : IsRowBest net router peers r r.kept ↔ IsSettled view r.prefix
    settled_seen = (
      λ b. subst (IsBest (sources_of view) r.prefix) (sym kept_here) ((best_seen r.kept).0 b),
      λ b. (best_seen r.kept).1 (subst (IsBest (sources_of view) r.prefix) kept_here b),
    )

    module _ (k : ℕ) (p : Peer) (there : slice_get peers k ≡ Some p) (waiting : PlaceSet) (told : IsWaiting k p rows waiting) where
      word_there : slice_get r.sent k ≡ Some (get_or r.sent k nothing)
      word_there =
          let lt = slice_get_within peers k p there in
          let size = (whole.each i r at).sent in
          slice_get-get_or r.sent k nothing (omega (arith, lt, size))

      -- a peer that does not wait is not Established, or was told the kept path
      pub served_here : has waiting i ≡ false → IsServed view p.asn r.prefix
      served_here out c =
          let up : p.up ≡ true = (established_here k p there).1 c in
          elim (word_or_not (get_or r.sent k nothing) r.kept) [
            | inl same ↦ word_here (λ s. s.sent) k p (get_or r.sent k nothing) there word_there ∙ same ∙ ap Sequence (sym kept_here)
            | inr apart ↦ absurd (both_ways (has waiting i) out ((told i r at).1 (up, λ e. apart (same_Some (get_or r.sent k nothing) (Sequence r.kept) (sym word_there ∙ e)))))
          ]

      -- one that waits is Established, and was not
      pub waits_here : has waiting i ≡ true → IsServed view p.asn r.prefix → ⊥
      waits_here in_it served =
          let x = (told i r at).0 in_it in
          let said = served (up_listed peers k p there x.0) in
          x.1 (word_there ∙ ap Some (sym (word_here (λ s. s.sent) k p (get_or r.sent k nothing) there word_there) ∙ said ∙ ap Sequence kept_here))
