-- A change of the row of one prefix: the owner's invariant, and what look-ups see.
use Rattle.std.proofs.Common.{◌≡◌, ◌≢◌, ℕ, ◌<◌, Bool, true, false, List, length, set, map, refl, sym, ap, subst, ◌∙◌, arith, inl, inr, ◌⊎◌, Some, None, Option, rules}
use Rattle.std.specs.Prelude.{◌↔◌, MatchOption, IsSome}
use Rattle.std.specs.List.{slice_get, Contains}
use Rattle.std.proofs.lemmas.Bool.{cases_Bool, both_ways, cond-true, cond-false, false≢true, false_from_ne_true, cases_eq}
use Rattle.std.proofs.lemmas.List.{length-set}
use Rattle.std.proofs.lemmas.Option.{slice_get_within, same_Some}
use Rattle.prefix_lanes.specs.Bits.{PrefixView, is_prefix}
use Rattle.ranked_policy.specs.declared.network.Origin.{Origin}
use Rattle.ranked_policy.specs.Plans.{Plan, IsNamed, IsOrigin}
use Rattle.rib_tables.specs.declared.word.Word.{Word}
use Rattle.rib_tables.specs.declared.word.Word.TheVariants.{Sequence}
use Rattle.rib_tables.specs.declared.place_set.PlaceSet.{PlaceSet}
use Rattle.rib_tables.specs.declared.row.Peer.{Peer}
use Rattle.rib_tables.specs.declared.row.Row.{Row}
use Rattle.rib_tables.specs.Places.{has}
use Rattle.rib_tables.specs.Tables.{Keeps}
use Rattle.rib_tables.specs.Owners.{RibView, TellsKept, Originating, Withdrawing, KeepsPath, Clears}
use Rattle.rib_tables.specs.Rows.{IsRow, AreRows, AreWaiting, IsRowBest, IsRib, Marks, on, telling, keeping, originating, clearing, said_in, established_in, originated_in, kept_in, view_of}
use Rattle.rib_tables.proofs.WordLemmas.{is_prefix-true, is_prefix-from}
use Rattle.rib_tables.proofs.ChangeLemmas.{from_map, to_map, key_at, row_at, set_at_key, marks_one}
use Rattle.rib_tables.proofs.RibLemmas.{set_here, set_there, rows_map, decided_map, row_or_not, new_word, same_word, said_map, originated_map, kept_map, fit_of, named_row}
use Rattle.rib_tables.proofs.SeenLemmas.{once, no_kept, kept_at, originated_listed, listed_originated}

-- a prefix with an origin is named
pub named_origin : (origins : List Origin) (u : ℕ) (q : PrefixView) → IsOrigin origins u q → IsNamed origins q
named_origin origins u q o = (o.0, o.1, o.2, o.3, o.4.0)

-- ---- the place of a prefix, as the code finds it

abbrev pub KeyFound : List PrefixView → PrefixView → Option ℕ → Type 0
KeyFound keys q r = MatchOption r ((i : ℕ) (p : PrefixView) → slice_get keys i ≡ Some p → is_prefix q p ≡ false) (λ i. slice_get keys i ≡ Some q)

module _ (net : Plan) (router : ℕ) (peers : List Peer) (keys : List PrefixView) (rows : List Row) (whole : AreRows net router peers keys rows) where
  pub key_some : (q : PrefixView) (r : Option ℕ) → KeyFound keys q r → IsNamed net.origins q → IsSome r
  key_some q None none name =
      let x = named_row net router peers keys rows whole q name in
      absurd (both_ways (is_prefix q x.1.prefix) (none x.0 x.1.prefix (key_at keys rows whole.listed x.0 x.1 x.2)) (is_prefix-from q x.1.prefix (sym x.3)))
  key_some q (Some i) some name = search rules

  pub key_is : (q : PrefixView) (r : Option ℕ) (i : ℕ) → KeyFound keys q r → r ≡ Some i → slice_get keys i ≡ Some q
  key_is q r i found is = let here : KeyFound keys q (Some i) = subst (KeyFound keys q) is found in here

  pub key_row : (q : PrefixView) (r : Option ℕ) (i : ℕ) → KeyFound keys q r → r ≡ Some i → (row : Row) × (slice_get rows i ≡ Some row) × (row.prefix ≡ q)
  key_row q r i found is = row_at keys rows whole.listed i q (key_is q r i found is)

  -- a prefix whose place is known
  pub key_at_place : (view : RibView) → view_of net router peers rows ≡ view → (q : PrefixView) (i : ℕ) → slice_get (map (λ o. o.prefix) view.net.origins) i ≡ Some q → slice_get keys i ≡ Some q
  key_at_place view same q i at =
      let mine = subst (λ (s : RibView). slice_get (map (λ o. o.prefix) s.net.origins) i ≡ Some q) (sym same) at in
      ap (λ (ks : List PrefixView). slice_get ks i) whole.named ∙ mine

  pub row_at_place : (view : RibView) → view_of net router peers rows ≡ view → (q : PrefixView) (i : ℕ) → slice_get (map (λ o. o.prefix) view.net.origins) i ≡ Some q
      → (row : Row) × (slice_get rows i ≡ Some row) × (row.prefix ≡ q)
  row_at_place view same q i at = row_at keys rows whole.listed i q (key_at_place view same q i at)

  pub place_at_key : (q : PrefixView) (i : ℕ) → slice_get keys i ≡ Some q → slice_get (map (λ o. o.prefix) net.origins) i ≡ Some q
  place_at_key q i at = ap (λ (ks : List PrefixView). slice_get ks i) (sym whole.named) ∙ at

  -- no row is of a prefix that was not found
  pub key_none : (q : PrefixView) → ((i : ℕ) (p : PrefixView) → slice_get keys i ≡ Some p → is_prefix q p ≡ false) → (i : ℕ) (r : Row) → slice_get rows i ≡ Some r → r.prefix ≡ q → ⊥
  key_none q none i r at e = both_ways (is_prefix q r.prefix) (none i r.prefix (key_at keys rows whole.listed i r at)) (is_prefix-from q r.prefix (sym e))

-- ---- a change of the row of a prefix

module _ (q : PrefixView) (g : Row → Row) where
  pub on_here : (r : Row) → r.prefix ≡ q → on q g r ≡ g r
  on_here r e = cond-true (is_prefix q r.prefix) (g r) r (is_prefix-from q r.prefix (sym e))

  pub on_there : (r : Row) → r.prefix ≢ q → on q g r ≡ r
  on_there r apart = cond-false (is_prefix q r.prefix) (g r) r (false_from_ne_true (is_prefix q r.prefix) (λ t. apart (sym (is_prefix-true q r.prefix t))))

  pub on_same : {X : Type 0} (h : Row → X) → ((r : Row) → h (g r) ≡ h r) → (r : Row) → h (on q g r) ≡ h r
  on_same {X} h same r = elim (cases_Bool (is_prefix q r.prefix)) [
    | inl t ↦ ap h (cond-true (is_prefix q r.prefix) (g r) r t) ∙ same r
    | inr f ↦ ap h (cond-false (is_prefix q r.prefix) (g r) r f)
  ]

  -- what the change keeps of a row holds of each
  pub on_keeps : (P : Row → Type 0) → ((r : Row) → P r → P (g r)) → (r : Row) → P r → P (on q g r)
  on_keeps P keeps r h = elim (cases_Bool (is_prefix q r.prefix)) [
    | inl t ↦ subst P (sym (cond-true (is_prefix q r.prefix) (g r) r t)) (keeps r h)
    | inr f ↦ subst P (sym (cond-false (is_prefix q r.prefix) (g r) r f)) h
  ]

  pub prefix_or_not : (r : Row) → (r.prefix ≡ q) ⊎ (r.prefix ≢ q)
  prefix_or_not r = elim (cases_Bool (is_prefix q r.prefix)) [ inl t ↦ inl (sym (is_prefix-true q r.prefix t)) | inr f ↦ inr (λ e. both_ways (is_prefix q r.prefix) f (is_prefix-from q r.prefix (sym e))) ]

-- ---- originating

module _ (net : Plan) (router : ℕ) (peers : List Peer) (keys : List PrefixView) (rows : List Row) (dirty marked : PlaceSet) (waits : List PlaceSet) (rib : IsRib net router peers keys rows dirty waits)
    (q : PrefixView) (i : ℕ) (row : Row) (at : slice_get rows i ≡ Some row) (is : row.prefix ≡ q) (here : has marked i ≡ true) (others : (j : ℕ) → j ≢ i → has marked j ≡ has dirty j) (now : Bool) where
  abbrev f : Row → Row
  f = on q (originating now)

  f_prefix : (r : Row) → (f r).prefix ≡ r.prefix
  f_prefix = on_same q (originating now) (λ r. r.prefix) (λ r. refl)

  pub key_here : slice_get keys i ≡ Some q
  key_here = key_at keys rows rib.whole.listed i row at ∙ ap Some is

  marks : Marks (λ r. is_prefix q r.prefix) rows dirty marked
  marks = marks_one keys (length peers) rows (fit_of net router peers keys rows rib.whole) q i key_here dirty marked here others

  pub originate_rows : (new : List Row) → new ≡ set rows i (originating now row) → new ≡ map f rows
  originate_rows new e = e ∙ set_at_key keys (length peers) rows (fit_of net router peers keys rows rib.whole) q i key_here (originating now) row at

  pub originate_keeps_rib : (new : List Row) → new ≡ set rows i (originating now row) → IsRib net router peers keys new marked waits
  originate_keeps_rib new e = subst (λ (rs : List Row). IsRib net router peers keys rs marked waits) (sym (originate_rows new e)) (record {
    whole = rows_map net router peers keys rows f f_prefix
        (on_keeps q (originating now) (IsRow net router peers) (λ r h. record { heard = h.heard; sent = h.sent; speaks = h.speaks; own = h.own })) rib.whole;
    decided = decided_map net router peers keys rows f f_prefix marked (λ j r there out.
        let m = marks j out in
        subst (λ (s : Row). IsRowBest net router peers s s.kept) (sym (cond-false (is_prefix q r.prefix) (originating now r) r (m.1 r there))) (rib.decided j r there m.0));
    told = record {
      long = rib.told.long;
      each = λ k p w there told j r here_row.
          let x = from_map f rows j r here_row in
          let sent : r.sent ≡ x.0.sent = ap (λ (s : Row). s.sent) x.2 ∙ on_same q (originating now) (λ s. s.sent) (λ s. refl) x.0 in
          let kept : r.kept ≡ x.0.kept = ap (λ (s : Row). s.kept) x.2 ∙ on_same q (originating now) (λ s. s.kept) (λ s. refl) x.0 in
          subst (λ (ws : List Word). has w j ≡ true ↔ ((p.up ≡ true) × (slice_get ws k ≢ Some (Sequence r.kept)))) (sym sent)
          (subst (λ (path : List ℕ). has w j ≡ true ↔ ((p.up ≡ true) × (slice_get x.0.sent k ≢ Some (Sequence path)))) (sym kept)
          (rib.told.each k p w there told j x.0 x.1));
    };
  })

  rest : view_of net router peers (map f rows)
      ≡ record {
        net = net;
        router = router;
        heard = said_in (λ r. r.heard) peers rows;
        sent = said_in (λ r. r.sent) peers rows;
        established = established_in peers;
        originated = originated_in (map f rows);
        kept = kept_in rows;
      }
  rest =
      let heard = said_map (λ r. r.heard) peers f f_prefix (on_same q (originating now) (λ r. r.heard) (λ r. refl)) rows in
      let sent = said_map (λ r. r.sent) peers f f_prefix (on_same q (originating now) (λ r. r.sent) (λ r. refl)) rows in
      let kept = kept_map f f_prefix (on_same q (originating now) (λ r. r.kept) (λ r. refl)) rows in
      λ j. record { net = net; router = router; heard = heard j; sent = sent j; established = established_in peers; originated = originated_in (map f rows); kept = kept j }

  -- the rows that are originated after the change
  after : (p : PrefixView) → Contains (originated_in (map f rows)) p → ((p ≡ q) × (now ≡ true)) ⊎ ((p ≢ q) × Contains (originated_in rows) p)
  after p c =
      let x = listed_originated (map f rows) p c in
      let y = from_map f rows x.0 x.1 x.2 in
      let same : y.0.prefix ≡ p = sym (ap (λ (s : Row). s.prefix) y.2 ∙ f_prefix y.0) ∙ x.4 in
      elim (prefix_or_not q (originating now) y.0) [
        | inl e ↦ inl (sym same ∙ e, sym (ap (λ (s : Row). s.originated) (y.2 ∙ on_here q (originating now) y.0 e)) ∙ x.3)
        | inr apart ↦ inr (
          (λ e. apart (same ∙ e)),
          subst (Contains (originated_in rows)) same
              (originated_listed rows x.0 y.0 y.1 (sym (ap (λ (s : Row). s.originated) (y.2 ∙ on_there q (originating now) y.0 apart)) ∙ x.3)),
        )
      ]

  still : (p : PrefixView) → p ≢ q → Contains (originated_in rows) p → Contains (originated_in (map f rows)) p
  still p apart c =
      let x = listed_originated rows p c in
      let same : f x.1 ≡ x.1 = on_there q (originating now) x.1 (λ e. apart (sym x.4 ∙ e)) in
      subst (Contains (originated_in (map f rows))) (f_prefix x.1 ∙ x.4) (originated_listed (map f rows) x.0 (f x.1) (to_map f rows x.0 x.1 x.2) (ap (λ (s : Row). s.originated) same ∙ x.3))

  new_one : now ≡ true → Contains (originated_in (map f rows)) q
  new_one t = subst (Contains (originated_in (map f rows))) (f_prefix row ∙ is)
      (originated_listed (map f rows) i (f row) (to_map f rows i row at) (ap (λ (s : Row). s.originated) (on_here q (originating now) row is) ∙ t))

  pub originates_view : now ≡ true → (new : List Row) → new ≡ set rows i (originating now row) → Originating (view_of net router peers rows) (view_of net router peers new) q
  originates_view t new e = subst (λ (rs : List Row). Originating (view_of net router peers rows) (view_of net router peers rs) q) (sym (originate_rows new e)) (record {
    originated = λ p. (
      λ c. elim (after p c) [ inl x ↦ inl x.0 | inr x ↦ inr x.1 ],
      λ h. elim h [
        | inl same ↦ subst (Contains (originated_in (map f rows))) (sym same) (new_one t)
        | inr old ↦ elim (by_prefix p) [ inl same ↦ subst (Contains (originated_in (map f rows))) (sym same) (new_one t) | inr apart ↦ still p apart old ]
      ],
    );
    rest = rest;
  })
    where
      by_prefix : (p : PrefixView) → (p ≡ q) ⊎ (p ≢ q)
      by_prefix p = elim (cases_Bool (is_prefix p q)) [ inl y ↦ inl (is_prefix-true p q y) | inr n ↦ inr (λ same. both_ways (is_prefix p q) n (is_prefix-from p q same)) ]

  pub withdraws_view : now ≡ false → (new : List Row) → new ≡ set rows i (originating now row) → Withdrawing (view_of net router peers rows) (view_of net router peers new) q
  withdraws_view n new e = subst (λ (rs : List Row). Withdrawing (view_of net router peers rows) (view_of net router peers rs) q) (sym (originate_rows new e)) (record {
    originated = λ p. (λ c. elim (after p c) [ inl x ↦ absurd (false≢true (sym n ∙ x.1)) | inr x ↦ x ], λ h. still p h.0 h.1);
    rest = rest;
  })

-- ---- keeping a path

module _ (net : Plan) (router : ℕ) (peers : List Peer) (keys : List PrefixView) (rows : List Row) (whole : AreRows net router peers keys rows) (q : PrefixView) (i : ℕ) (row : Row) (at : slice_get rows i ≡ Some row)
    (is : row.prefix ≡ q) where
  -- a row at another place is of another prefix
  pub elsewhere : (j : ℕ) (r : Row) → slice_get rows j ≡ Some r → j ≢ i → r.prefix ≢ q
  elsewhere j r there apart e = apart (once net router peers keys rows whole j i r row there at (e ∙ sym is))

  key_of_row : slice_get keys i ≡ Some q
  key_of_row = key_at keys rows whole.listed i row at ∙ ap Some is

  pub rows_set : (g : Row → Row) (new : List Row) → new ≡ set rows i (g row) → new ≡ map (on q g) rows
  rows_set g new e = e ∙ set_at_key keys (length peers) rows (fit_of net router peers keys rows whole) q i key_of_row g row at

  pub marks_place : (dirty marked : PlaceSet) → has marked i ≡ true → ((j : ℕ) → j ≢ i → has marked j ≡ has dirty j) → Marks (λ r. is_prefix q r.prefix) rows dirty marked
  marks_place dirty marked here others = marks_one keys (length peers) rows (fit_of net router peers keys rows whole) q i key_of_row dirty marked here others

  module _ (path : List ℕ) where
    abbrev kept : Row → Row
    kept = on q (keeping path)

    kept_prefix : (r : Row) → (kept r).prefix ≡ r.prefix
    kept_prefix = on_same q (keeping path) (λ r. r.prefix) (λ r. refl)

    kept_rows : AreRows net router peers keys (map kept rows)
    kept_rows = rows_map net router peers keys rows kept kept_prefix
        (on_keeps q (keeping path) (IsRow net router peers) (λ r h. record { heard = h.heard; sent = h.sent; speaks = h.speaks; own = h.own })) whole

    once_kept : (a b : ℕ) (c d : Row) → slice_get (map kept rows) a ≡ Some c → slice_get (map kept rows) b ≡ Some d → c.prefix ≡ d.prefix → a ≡ b
    once_kept = once net router peers keys (map kept rows) kept_rows

    keeps : Keeps (kept_in rows) (kept_in (map kept rows)) q path
    keeps = record {
      kept = kept_at (map kept rows) q i (kept row) once_kept (to_map kept rows i row at) (kept_prefix row ∙ is) ∙ ap (λ (s : Row). s.kept) (on_here q (keeping path) row is);
      others = λ p apart. elim (row_or_not rows p) [
        | inr none ↦ no_kept (map kept rows) p (λ j r there e. let x = from_map kept rows j r there in none j x.0 x.1 (sym (ap (λ (s : Row). s.prefix) x.2 ∙ kept_prefix x.0) ∙ e)) ∙ sym (no_kept rows p none)
        | inl x ↦
            kept_at (map kept rows) p x.0 (kept x.1) once_kept (to_map kept rows x.0 x.1 x.2) (kept_prefix x.1 ∙ x.3)
            ∙ ap (λ (s : Row). s.kept) (on_there q (keeping path) x.1 (λ e. apart (sym x.3 ∙ e)))
            ∙ sym (kept_at rows p x.0 x.1 (once net router peers keys rows whole) x.2 x.3)
      ];
    }

    pub keeps_rib : (dirty marked : PlaceSet) (waits told : List PlaceSet) → IsRib net router peers keys rows dirty waits → (new : List Row) → new ≡ set rows i (keeping path row)
        → has marked i ≡ true → ((j : ℕ) → j ≢ i → has marked j ≡ has dirty j) → length told ≡ length waits
        → ((k : ℕ) (p : Peer) (w : PlaceSet) → slice_get peers k ≡ Some p → slice_get told k ≡ Some w → (has w i ≡ true ↔ ((p.up ≡ true) × (slice_get row.sent k ≢ Some (Sequence path)))))
        → ((k : ℕ) (w : PlaceSet) → slice_get told k ≡ Some w → (v : PlaceSet) × (slice_get waits k ≡ Some v) × ((j : ℕ) → j ≢ i → has w j ≡ has v j)) → IsRib net router peers keys new marked told
    keeps_rib dirty marked waits told rib new e in_it out long here others = subst (λ (rs : List Row). IsRib net router peers keys rs marked told) (sym (rows_set (keeping path) new e)) (record {
      whole = kept_rows;
      decided = decided_map net router peers keys rows kept kept_prefix marked (λ j r there clean.
          let m = marks_place dirty marked in_it out j clean in
          subst (λ (s : Row). IsRowBest net router peers s s.kept) (sym (cond-false (is_prefix q r.prefix) (keeping path r) r (m.1 r there))) (rib.decided j r there m.0));
      told = record {
        long = long ∙ rib.told.long;
        each = λ k p w there told_at j r at_new.
            let y = from_map kept rows j r at_new in
            elim (cases_eq j i) [
              | inl same ↦
                  let row_is : keeping path row ≡ r = sym (y.2 ∙ ap kept (same_Some y.0 row (sym y.1 ∙ ap (λ (n : ℕ). slice_get rows n) same ∙ at)) ∙ on_here q (keeping path) row is) in
                  subst (λ (n : ℕ). has w n ≡ true ↔ ((p.up ≡ true) × (slice_get r.sent k ≢ Some (Sequence r.kept)))) (sym same)
                  (subst (λ (s : Row). has w i ≡ true ↔ ((p.up ≡ true) × (slice_get s.sent k ≢ Some (Sequence s.kept)))) row_is (here k p w there told_at))
              | inr apart ↦
                  let row_is : r ≡ y.0 = y.2 ∙ on_there q (keeping path) y.0 (elsewhere j y.0 y.1 apart) in
                  let before = others k w told_at in
                  subst (λ (b : Bool). b ≡ true ↔ ((p.up ≡ true) × (slice_get r.sent k ≢ Some (Sequence r.kept)))) (sym (before.2 j apart))
                  (subst (λ (s : Row). has before.0 j ≡ true ↔ ((p.up ≡ true) × (slice_get s.sent k ≢ Some (Sequence s.kept)))) (sym row_is) (rib.told.each k p before.0 there before.1 j y.0 y.1))
            ];
      };
    })

    pub keeps_view : (new : List Row) → new ≡ set rows i (keeping path row) → KeepsPath (view_of net router peers rows) (view_of net router peers new) q path
    keeps_view new e = subst (λ (rs : List Row). KeepsPath (view_of net router peers rows) (view_of net router peers rs) q path) (sym (rows_set (keeping path) new e)) (record {
      paths = keeps;
      rest =
          let heard = said_map (λ r. r.heard) peers kept kept_prefix (on_same q (keeping path) (λ r. r.heard) (λ r. refl)) rows in
          let sent = said_map (λ r. r.sent) peers kept kept_prefix (on_same q (keeping path) (λ r. r.sent) (λ r. refl)) rows in
          let originated = originated_map kept kept_prefix (on_same q (keeping path) (λ r. r.originated) (λ r. refl)) rows in
          λ j. record { net = net; router = router; heard = heard j; sent = sent j; established = established_in peers; originated = originated j; kept = kept_in (map kept rows) };
    })

  -- ---- telling the kept path

  module _ (to : ℕ) (x : Peer) (peer : slice_get peers to ≡ Some x) where
    abbrev word : Word
    word = Sequence row.kept

    abbrev told : Row → Row
    told = on q (telling to word)

    told_prefix : (r : Row) → (told r).prefix ≡ r.prefix
    told_prefix = on_same q (telling to word) (λ r. r.prefix) (λ r. refl)

    -- the words of other peers, and those of other rows, are as they were
    sent_there : (k : ℕ) → k ≢ to → (r : Row) → slice_get (told r).sent k ≡ slice_get r.sent k
    sent_there k apart = on_same q (telling to word) (λ r. slice_get r.sent k) (λ r. set_there r.sent to k word apart)

    sent_here : slice_get (told row).sent to ≡ Some word
    sent_here =
        let lt = slice_get_within peers to x peer in
        let size = (whole.each i row at).sent in
        ap (λ (s : Row). slice_get s.sent to) (on_here q (telling to word) row is) ∙ set_here row.sent to word (omega (arith, lt, size))

    tells_row : (r : Row) → IsRow net router peers r → IsRow net router peers (told r)
    tells_row = on_keeps q (telling to word) (IsRow net router peers) (λ r h. record { heard = h.heard; sent = length-set r.sent to word ∙ h.sent; speaks = h.speaks; own = h.own })

    tells_best : (r : Row) → IsRowBest net router peers r r.kept → IsRowBest net router peers (told r) (told r).kept
    tells_best = on_keeps q (telling to word) (λ r. IsRowBest net router peers r r.kept) (λ r b. b)

    pub tell_keeps_rib : (dirty : PlaceSet) (waits : List PlaceSet) → IsRib net router peers keys rows dirty waits → (new : List Row) → new ≡ set rows i (telling to word row) → (old out : PlaceSet) → slice_get waits to ≡ Some old
        → has out i ≡ false → ((j : ℕ) → j ≢ i → has out j ≡ has old j) → IsRib net router peers keys new dirty (set waits to out)
    tell_keeps_rib dirty waits rib new e old out was gone others = subst (λ (rs : List Row). IsRib net router peers keys rs dirty (set waits to out)) (sym (rows_set (telling to word) new e)) (record {
      whole = rows_map net router peers keys rows told told_prefix tells_row rib.whole;
      decided = decided_map net router peers keys rows told told_prefix dirty (λ j r there clean. tells_best r (rib.decided j r there clean));
      told = record {
        long = length-set waits to out ∙ rib.told.long;
        each = λ k p w there here j r at_new.
            let y = from_map told rows j r at_new in
            let kept_as : r.kept ≡ y.0.kept = ap (λ (s : Row). s.kept) y.2 ∙ on_same q (telling to word) (λ s. s.kept) (λ s. refl) y.0 in
            elim (cases_eq k to) [
              | inl same ↦
                  let w_is : w ≡ out = same_Some w out (sym here ∙ ap (λ (n : ℕ). slice_get (set waits to out) n) same ∙ set_here waits to out (slice_get_within waits to old was)) in
                  elim (cases_eq j i) [
                    | inl place ↦
                        let row_is : y.0 ≡ row = same_Some y.0 row (sym y.1 ∙ ap (λ (n : ℕ). slice_get rows n) place ∙ at) in
                        let gone_w : has w j ≡ false = ap (λ (s : PlaceSet). has s j) w_is ∙ ap (has out) place ∙ gone in
                        let sent_is : slice_get r.sent k ≡ Some (Sequence r.kept) =
                        ap (λ (s : Row). slice_get s.sent k) (y.2 ∙ ap told row_is) ∙ ap (λ (n : ℕ). slice_get (told row).sent n) same ∙ sent_here
                        ∙ ap (λ (p2 : List ℕ). Some (Sequence p2)) (sym (kept_as ∙ ap (λ (s : Row). s.kept) row_is)) in
                        (λ t. absurd (both_ways (has w j) gone_w t), λ u. absurd (u.1 sent_is))
                    | inr apart ↦
                        let row_is : r ≡ y.0 = y.2 ∙ on_there q (telling to word) y.0 (elsewhere j y.0 y.1 apart) in
                        subst (λ (b : Bool). b ≡ true ↔ ((p.up ≡ true) × (slice_get r.sent k ≢ Some (Sequence r.kept)))) (sym (ap (λ (s : PlaceSet). has s j) w_is ∙ others j apart))
                        (subst (λ (s : Row). has old j ≡ true ↔ ((p.up ≡ true) × (slice_get s.sent k ≢ Some (Sequence s.kept)))) (sym row_is)
                        (rib.told.each k p old there (ap (λ (n : ℕ). slice_get waits n) same ∙ was) j y.0 y.1))
                  ]
              | inr apart ↦
                  let sent_as : slice_get r.sent k ≡ slice_get y.0.sent k = ap (λ (s : Row). slice_get s.sent k) y.2 ∙ sent_there k apart y.0 in
                  subst (λ (o : Option Word). has w j ≡ true ↔ ((p.up ≡ true) × (o ≢ Some (Sequence r.kept)))) (sym sent_as)
                  (subst (λ (p2 : List ℕ). has w j ≡ true ↔ ((p.up ≡ true) × (slice_get y.0.sent k ≢ Some (Sequence p2)))) (sym kept_as)
                  (rib.told.each k p w there (sym (set_there waits to k out apart) ∙ here) j y.0 y.1))
            ];
      };
    })

    pub tells_view : (new : List Row) → new ≡ set rows i (telling to word row) → TellsKept (view_of net router peers rows) (view_of net router peers new) x.asn q
    tells_view new e = subst (λ (rs : List Row). TellsKept (view_of net router peers rows) (view_of net router peers rs) x.asn q) (sym (rows_set (telling to word) new e)) (record {
      told =
          new_word net router peers keys rows whole told told_prefix (λ r. r.sent) x.asn q i to row x word at is peer refl sent_here
          ∙ ap Sequence (sym (kept_at rows q i row (once net router peers keys rows whole) at is));
      others = λ v p either. same_word net router peers keys rows whole told told_prefix (λ r. r.sent) (λ r h. h.sent) v p (λ j k r y there of here number.
          elim either [
            | inl apart ↦ sent_there k (λ z. apart (sym number ∙ ap (λ (o : Peer). o.asn) (same_Some y x (sym here ∙ ap (λ (n : ℕ). slice_get peers n) z ∙ peer)))) r
            | inr apart ↦ ap (λ (s : Row). slice_get s.sent k) (on_there q (telling to word) r (λ z. apart (sym of ∙ z)))
          ]);
      rest =
          let heard = said_map (λ r. r.heard) peers told told_prefix (on_same q (telling to word) (λ r. r.heard) (λ r. refl)) rows in
          let originated = originated_map told told_prefix (on_same q (telling to word) (λ r. r.originated) (λ r. refl)) rows in
          let kept = kept_map told told_prefix (on_same q (telling to word) (λ r. r.kept) (λ r. refl)) rows in
          λ j. record { net = net; router = router; heard = heard j; sent = said_in (λ r. r.sent) peers (map told rows); established = established_in peers; originated = originated j; kept = kept j };
    })

-- ---- a restart

module _ (net : Plan) (router : ℕ) (peers : List Peer) (keys : List PrefixView) (rows : List Row) (whole : AreRows net router peers keys rows) where
  cleared_rows : AreRows net router peers keys (map clearing rows)
  cleared_rows = rows_map net router peers keys rows clearing (λ r. refl) (λ r h. record { heard = h.heard; sent = h.sent; speaks = h.speaks; own = h.own }) whole

  pub clear_keeps_rib : (new : List Row) → new ≡ map clearing rows → (marked : PlaceSet) (waits : List PlaceSet) → ((i : ℕ) → i < length rows → has marked i ≡ true) → AreWaiting peers new waits → IsRib net router peers keys new marked waits
  clear_keeps_rib new e marked waits marks waiting = record {
    whole = subst (AreRows net router peers keys) (sym e) cleared_rows;
    decided = λ i r at out.
        let x = from_map clearing rows i r (ap (λ (rs : List Row). slice_get rs i) (sym e) ∙ at) in
        absurd (both_ways (has marked i) out (marks i (slice_get_within rows i x.0 x.1)));
    told = waiting;
  }

  pub clears_view : (new : List Row) → new ≡ map clearing rows → Clears (view_of net router peers rows) (view_of net router peers new)
  clears_view new e = subst (λ (rs : List Row). Clears (view_of net router peers rows) (view_of net router peers rs)) (sym e) (record {
    kept = λ q. elim (row_or_not (map clearing rows) q) [
      | inr none ↦ no_kept (map clearing rows) q none
      | inl x ↦
          kept_at (map clearing rows) q x.0 x.1 (once net router peers keys (map clearing rows) cleared_rows) x.2 x.3
          ∙ ap (λ (s : Row). s.kept) (from_map clearing rows x.0 x.1 x.2).2
    ];
    originated = λ q c.
        let x = listed_originated (map clearing rows) q c in
        let y = from_map clearing rows x.0 x.1 x.2 in
        false≢true (sym (ap (λ (s : Row). s.originated) y.2) ∙ x.3);
    rest =
        let heard = said_map (λ r. r.heard) peers clearing (λ r. refl) (λ r. refl) rows in
        let sent = said_map (λ r. r.sent) peers clearing (λ r. refl) (λ r. refl) rows in
        λ j. record { net = net; router = router; heard = heard j; sent = sent j; established = established_in peers; originated = originated_in (map clearing rows); kept = kept_in (map clearing rows) };
  })
