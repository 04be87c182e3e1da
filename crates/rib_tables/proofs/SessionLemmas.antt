-- The owner's invariant as sessions come up and are left.
use Rattle.std.proofs.Common.{◌≡◌, ◌≢◌, ℕ, zero, suc, ◌<◌, Bool, true, false, List, [], ◌∷◌, ◌++◌, length, get_or, set, map, refl, sym, ap, subst, ◌∙◌, arith, inl, inr, ◌⊎◌, Some, Option}
use Rattle.std.specs.Prelude.{◌↔◌}
use Rattle.std.specs.List.{slice_get, Contains}
use Rattle.std.proofs.lemmas.List.Elements.{Contains-get_or, Contains-append_right, Contains-append_cases}
use Rattle.std.proofs.Math.Seq.{map-set_same}
use Rattle.std.proofs.Common.{drop}
use Rattle.rib_tables.specs.Tables.{Words, Forgets}
use Rattle.rib_tables.specs.Owners.{ComesUp, ForgetsPeer}
use Rattle.std.proofs.lemmas.Bool.{cases_Bool, both_ways, cond-true, cond-false, false≢true, cases_eq}
use Rattle.std.proofs.lemmas.List.{length-set}
use Rattle.std.proofs.lemmas.Option.{slice_get_within, get_or_from_slice_get, slice_get-get_or, same_Some}
use Rattle.prefix_lanes.specs.Bits.{PrefixView}
use Rattle.ranked_policy.specs.Plans.{Plan, Linked}
use Rattle.rib_tables.specs.declared.word.Word.{Word}
use Rattle.rib_tables.specs.declared.word.Word.TheVariants.{Sequence}
use Rattle.rib_tables.specs.declared.place_set.PlaceSet.{PlaceSet}
use Rattle.rib_tables.specs.declared.row.Peer.{Peer}
use Rattle.rib_tables.specs.declared.row.Row.{Row}
use Rattle.rib_tables.specs.Places.{has}
use Rattle.rib_tables.specs.Words.{nothing}
use Rattle.rib_tables.specs.Choices.{IsBestOf}
use Rattle.rib_tables.specs.Rows.{RowHears, IsRow, AreRows, IsRowBest, IsRib, MarksSpeaking, Speaking, forgetting, picked, says_in, said_in, established_in, originated_in, kept_in, view_of}
use Rattle.rib_tables.proofs.RouterLemmas.{best_as}
use Rattle.rib_tables.proofs.ChangeLemmas.{from_map, map_after, map_same}
use Rattle.rib_tables.proofs.RibLemmas.{set_here, set_there, row_or_not, new_word, same_word, originated_map, kept_map, peer_once}
use Rattle.rib_tables.proofs.ViewLemmas.{no_row}

-- the best of a row, where the same paths are heard
pub row_best_as : (net : Plan) (router : ℕ) (before after : List Peer) (r s : Row) (path : List ℕ) → s.prefix ≡ r.prefix → s.originated ≡ r.originated
    → ((v : ℕ) (p : List ℕ) → p ≢ [] → RowHears before r.heard (length before) v p → RowHears after s.heard (length after) v p)
    → ((v : ℕ) (p : List ℕ) → p ≢ [] → RowHears after s.heard (length after) v p → RowHears before r.heard (length before) v p)
    → IsRowBest net router before r path → IsRowBest net router after s path
row_best_as net router before after r s path prefix originated onto back best =
    let Goal : Bool → PrefixView → Type 0 = λ b q. IsBestOf (b ≡ true) (RowHears after s.heard (length after)) best.0 q path in
    let changed = best_as (r.originated ≡ true) (RowHears before r.heard (length before)) (RowHears after s.heard (length after)) best.0 r.prefix path onto back best.2 in
    (best.0, best.1, subst (λ (b : Bool). Goal b s.prefix) (sym originated) (subst (λ (q : PrefixView). Goal r.originated q) (sym prefix) changed))

some_path : (p : List ℕ) → p ≢ [] → (v : ℕ) × (rest : List ℕ) × (p ≡ v ∷ rest)
some_path [] some = absurd (some refl)
some_path (v ∷ rest) some = (v, rest, refl)

speaks_there : (k : ℕ) (r : Row) (p : List ℕ) → p ≢ [] → slice_get r.heard k ≡ Some (Sequence p) → Speaking k r
speaks_there k r p some at = let s = some_path p some in (s.0, s.1, at ∙ ap (λ (q : List ℕ). Some (Sequence q)) s.2)

module _ (net : Plan) (router : ℕ) (peers : List Peer) (keys : List PrefixView) (rows : List Row) (dirty : PlaceSet) (waits : List PlaceSet) (rib : IsRib net router peers keys rows dirty waits)
    (k : ℕ) (x : Peer) (at : slice_get peers k ≡ Some x) where
  abbrev turned : Bool → List Peer
  turned up = set peers k (record { asn = x.asn; up = up })

  inside : k < length peers
  inside = slice_get_within peers k x at

  size : (up : Bool) → length (turned up) ≡ length peers
  size up = length-set peers k (record { asn = x.asn; up = up })

  -- a peer of the changed list: that one, or another as it was
  peer_of : (up : Bool) (j : ℕ) (p : Peer) → slice_get (turned up) j ≡ Some p → ((j ≡ k) × (p ≡ record { asn = x.asn; up = up })) ⊎ ((j ≢ k) × (slice_get peers j ≡ Some p))
  peer_of up j p there = elim (cases_eq j k) [
    | inl same ↦ inl (same, same_Some p (record { asn = x.asn; up = up }) (sym there ∙ ap (λ (n : ℕ). slice_get (turned up) n) same ∙ set_here peers k (record { asn = x.asn; up = up }) inside))
    | inr apart ↦
        inr (apart, sym (set_there peers k j (record { asn = x.asn; up = up }) apart) ∙ there)
  ]

  number_of : (up : Bool) (j : ℕ) (d : Peer) → j < length peers → (get_or (turned up) j d).asn ≡ (get_or peers j d).asn
  number_of up j d lt =
      elim (peer_of up j (get_or (turned up) j d) (slice_get-get_or (turned up) j d (let s = size up in omega (arith, lt, s)))) [
        | inl here ↦ ap (λ (p : Peer). p.asn) here.1 ∙ sym (ap (λ (p : Peer). p.asn) (ap (λ (n : ℕ). get_or peers n d) here.0 ∙ get_or_from_slice_get peers k x d at))
        | inr other ↦ sym (ap (λ (p : Peer). p.asn) (get_or_from_slice_get peers j (get_or (turned up) j d) d other.1))
      ]

  turned_rows : (up : Bool) (f : Row → Row) → ((r : Row) → (f r).prefix ≡ r.prefix) → ((r : Row) → IsRow net router peers r → IsRow net router (turned up) (f r)) → AreRows net router (turned up) keys (map f rows)
  turned_rows up f prefix keeps = record {
    network = rib.whole.network;
    routers = rib.whole.routers;
    numbers = map-set_same (λ (p : Peer). p.asn) peers k (record { asn = x.asn; up = up }) x (sym (ap (λ (p : Peer). p.asn) (get_or_from_slice_get peers k x x at))) ∙ rib.whole.numbers;
    apart = λ i j d lt below e.
        let s = size up in
        rib.whole.apart i j d lt (omega (arith, below, s)) (sym (number_of up i d (omega (arith, lt, below, s))) ∙ e ∙ number_of up j d (omega (arith, below, s)));
    linked = λ v link. let there = rib.whole.linked v link in elim (cases_eq there.0 k) [
      | inl same ↦ (
        k,
        record { asn = x.asn; up = up },
        set_here peers k (record { asn = x.asn; up = up }) inside,
        ap (λ (p : Peer). p.asn) (same_Some x there.1 (sym at ∙ ap (λ (n : ℕ). slice_get peers n) (sym same) ∙ there.2)) ∙ there.3,
      )
      | inr apart ↦
          (there.0, there.1, set_there peers k there.0 (record { asn = x.asn; up = up }) apart ∙ there.2, there.3)
    ];
    known = λ j p there. elim (peer_of up j p there) [
      | inl here ↦ subst (Linked net.links router) (sym (ap (λ (y : Peer). y.asn) here.1)) (rib.whole.known k x at)
      | inr other ↦ rib.whole.known j p other.1
    ];
    listed = rib.whole.listed ∙ sym (map_after f (λ (r : Row). r.prefix) (λ (r : Row). r.prefix) prefix rows);
    named = rib.whole.named;
    each = λ i r there. let y = from_map f rows i r there in subst (IsRow net router (turned up)) (sym y.2) (keeps y.0 (rib.whole.each i y.0 y.1));
  }

  -- the best stays where the peer said no path, and in the changed list gives none
  turned_best : (up : Bool) (r s : Row) (path : List ℕ) → s.prefix ≡ r.prefix → s.originated ≡ r.originated → ((j : ℕ) → j ≢ k → slice_get s.heard j ≡ slice_get r.heard j) → (Speaking k r → ⊥)
      → ((v : ℕ) (p : List ℕ) → p ≢ [] → (h : RowHears (turned up) s.heard (length (turned up)) v p) → (h.place ≡ k) × (h.peer ≡ record { asn = x.asn; up = up }) → ⊥)
      → IsRowBest net router peers r path → IsRowBest net router (turned up) s path
  turned_best up r s path prefix originated same silent none best = row_best_as net router peers (turned up) r s path prefix originated
      (λ v p some h. elim (cases_eq h.place k) [
        | inl here ↦ absurd (silent (speaks_there k r p some (ap (λ (n : ℕ). slice_get r.heard n) (sym here) ∙ h.word)))
        | inr apart ↦
            record {
              place = h.place;
              below = (let b = h.below in let l = size up in omega (arith, b, l));
              peer = h.peer;
              at = set_there peers k h.place (record { asn = x.asn; up = up }) apart ∙ h.at;
              up = h.up;
              number = h.number;
              word = same h.place apart ∙ h.word;
            }
      ])
      (λ v p some h. elim (peer_of up h.place h.peer h.at) [
        | inl here ↦ absurd (none v p some h here)
        | inr other ↦ record { place = h.place; below = (let b = h.below in let l = size up in omega (arith, b, l)); peer = h.peer; at = other.1; up = h.up; number = h.number; word = sym (same h.place other.0) ∙ h.word }
      ])
      best

  -- ---- a session is left

  forgotten_row : (r : Row) → IsRow net router peers r → IsRow net router (turned false) (forgetting k r)
  forgotten_row r is = record { heard = length-set r.heard k nothing ∙ is.heard ∙ sym (size false); sent = length-set r.sent k nothing ∙ is.sent ∙ sym (size false); speaks = is.speaks; own = is.own }

  forgotten_best : (r : Row) (path : List ℕ) → (Speaking k r → ⊥) → IsRowBest net router peers r path → IsRowBest net router (turned false) (forgetting k r) path
  forgotten_best r path silent best =
      turned_best false r (forgetting k r) path refl refl (λ j apart. set_there r.heard k j nothing apart) silent (λ v p some h here. false≢true (sym (ap (λ (y : Peer). y.up) here.1) ∙ h.up)) best

  pub forget_keeps_rib : (new : List Row) (marked none : PlaceSet) → new ≡ map (forgetting k) rows → MarksSpeaking k rows dirty marked → ((i : ℕ) → has none i ≡ false)
      → IsRib net router (turned false) keys new marked (set waits k none)
  forget_keeps_rib new marked none is marks empty =
      subst (λ (rs : List Row). IsRib net router (turned false) keys rs marked (set waits k none)) (sym is) (record {
        whole = turned_rows false (forgetting k) (λ r. refl) forgotten_row;
        decided = λ i r there out.
            let y = from_map (forgetting k) rows i r there in
            let m = marks i out in
            subst (λ (s : Row). IsRowBest net router (turned false) s s.kept) (sym y.2) (forgotten_best y.0 y.0.kept (m.1 y.0 y.1) (rib.decided i y.0 y.1 m.0));
        told = record {
          long = length-set waits k none ∙ rib.told.long ∙ sym (size false);
          each = λ j p waiting there here i r row.
              let y = from_map (forgetting k) rows i r row in
              elim (peer_of false j p there) [
                | inl own ↦
                    let w : waiting ≡ none = same_Some waiting none (sym here ∙ ap (λ (n : ℕ). slice_get (set waits k none) n) own.0 ∙ set_here waits k none (let l = rib.told.long in let b = inside in omega (arith, l, b))) in
                    (λ t. absurd (both_ways (has waiting i) (ap (λ (s : PlaceSet). has s i) w ∙ empty i) t), λ u. absurd (false≢true (sym (ap (λ (z : Peer). z.up) own.1) ∙ u.0)))
                | inr other ↦
                    subst (λ (s : Row). has waiting i ≡ true ↔ ((p.up ≡ true) × (slice_get s.sent j ≢ Some (Sequence s.kept)))) (sym y.2)
                    (subst (λ (o : Option Word). has waiting i ≡ true ↔ ((p.up ≡ true) × (o ≢ Some (Sequence y.0.kept)))) (sym (set_there y.0.sent k j nothing other.0))
                    (rib.told.each j p waiting other.1 (sym (set_there waits k j none other.0) ∙ here) i y.0 y.1))
              ];
        };
      })

  -- ---- a session comes up

  risen_row : (r : Row) → IsRow net router peers r → IsRow net router (turned true) r
  risen_row r is = record { heard = is.heard ∙ sym (size true); sent = is.sent ∙ sym (size true); speaks = is.speaks; own = is.own }

  risen_best : (r : Row) (path : List ℕ) → (Speaking k r → ⊥) → IsRowBest net router peers r path → IsRowBest net router (turned true) r path
  risen_best r path silent best =
      turned_best true r r path refl refl (λ j apart. refl) silent (λ v p some h here. silent (speaks_there k r p some (ap (λ (n : ℕ). slice_get r.heard n) (sym here.0) ∙ h.word))) best

  pub rise_keeps_rib : (marked untold : PlaceSet) → MarksSpeaking k rows dirty marked
      → ((i : ℕ) (r : Row) → slice_get rows i ≡ Some r → (has untold i ≡ true ↔ (slice_get r.sent k ≢ Some (Sequence r.kept))))
      → IsRib net router (turned true) keys rows marked (set waits k untold)
  rise_keeps_rib marked untold marks tells = record {
    whole = subst (λ (rs : List Row). AreRows net router (turned true) keys rs) (map_same (λ (r : Row). r) (λ r. refl) rows) (turned_rows true (λ r. r) (λ r. refl) risen_row);
    decided = λ i r there out. let m = marks i out in risen_best r r.kept (m.1 r there) (rib.decided i r there m.0);
    told = record {
      long = length-set waits k untold ∙ rib.told.long ∙ sym (size true);
      each = λ j p waiting there here i r row.
          elim (peer_of true j p there) [
            | inl own ↦
                let w : waiting ≡ untold = same_Some waiting untold (sym here ∙ ap (λ (n : ℕ). slice_get (set waits k untold) n) own.0 ∙ set_here waits k untold (let l = rib.told.long in let b = inside in omega (arith, l, b))) in
                let up : p.up ≡ true = ap (λ (z : Peer). z.up) own.1 in
                let t = tells i r row in (
                  λ in_it. (up, λ e. t.0 (ap (λ (s : PlaceSet). has s i) (sym w) ∙ in_it) (ap (λ (n : ℕ). slice_get r.sent n) (sym own.0) ∙ e)),
                  λ u. ap (λ (s : PlaceSet). has s i) w ∙ t.1 (λ e. u.1 (ap (λ (n : ℕ). slice_get r.sent n) own.0 ∙ e)),
                )
            | inr other ↦ rib.told.each j p waiting other.1 (sym (set_there waits k j untold other.0) ∙ here) i r row
          ];
    };
  }

-- ---- what look-ups see of a session that comes up or is left

module _ {X Y : Type 0} (test : X → Bool) (value : X → Y) where
  pub picks : (xs : List X) (i : ℕ) (x : X) → slice_get xs i ≡ Some x → test x ≡ true → Contains (picked test value xs) (value x)
  picks [] i x at up = absurd (let lt = slice_get_within [] i x at in omega (arith, lt))
  picks (y ∷ ys) zero x at up =
      let same : y ≡ x = same_Some y x at in
      subst (λ (l : List Y). Contains l (value x)) (sym (cond-true (test y) (value y ∷ picked test value ys) (picked test value ys) (ap test same ∙ up)))
      (subst (λ (v : Y). Contains (value y ∷ picked test value ys) v) (ap value same) (Contains-get_or (value y ∷ picked test value ys) 0 (value y) (omega arith)))
  picks (y ∷ ys) (suc i) x at up =
      let rest = picks ys i x at up in
      elim (cases_Bool (test y)) [
        | inl t ↦ subst (λ (l : List Y). Contains l (value x)) (sym (cond-true (test y) (value y ∷ picked test value ys) (picked test value ys) t)) (Contains-append_right (value y ∷ []) (picked test value ys) (value x) rest)
        | inr f ↦ subst (λ (l : List Y). Contains l (value x)) (sym (cond-false (test y) (value y ∷ picked test value ys) (picked test value ys) f)) rest
      ]

  pub picked_from : (xs : List X) (v : Y) → Contains (picked test value xs) v → (i : ℕ) × (x : X) × (slice_get xs i ≡ Some x) × (test x ≡ true) × (value x ≡ v)
  picked_from [] v c = absurd (let lt = c.1 in omega (arith, lt))
  picked_from (y ∷ ys) v c = elim (cases_Bool (test y)) [
    | inl t ↦ elim (Contains-append_cases (value y ∷ []) (picked test value ys) v (subst (λ (l : List Y). Contains l v) (cond-true (test y) (value y ∷ picked test value ys) (picked test value ys) t) c)) [
      | inl here ↦ (0, y, refl, t, only here.0 here.1 here.2)
      | inr there ↦ let r = picked_from ys v there in (suc r.0, r.1, r.2, r.3, r.4)
    ]
    | inr f ↦ let r = picked_from ys v (subst (λ (l : List Y). Contains l v) (cond-false (test y) (value y ∷ picked test value ys) (picked test value ys) f) c) in (suc r.0, r.1, r.2, r.3, r.4)
  ]
    where
      only : (k : ℕ) → k < 1 → get_or (value y ∷ []) k v ≡ v → value y ≡ v
      only zero lt e = e
      only (suc k) lt e = absurd (omega (arith, lt))

pub up_listed : (peers : List Peer) (k : ℕ) (p : Peer) → slice_get peers k ≡ Some p → p.up ≡ true → Contains (established_in peers) p.asn
up_listed = picks (λ p. p.up) (λ p. p.asn)

pub listed_up : (peers : List Peer) (v : ℕ) → Contains (established_in peers) v → (k : ℕ) × (p : Peer) × (slice_get peers k ≡ Some p) × (p.up ≡ true) × (p.asn ≡ v)
listed_up = picked_from (λ p. p.up) (λ p. p.asn)

-- the words say the same of peers with the same numbers
pub says_numbers : (before after : List Peer) (q : PrefixView) (ws : List Word) → map (λ p. p.asn) before ≡ map (λ p. p.asn) after → says_in before q ws ≡ says_in after q ws
says_numbers [] [] q ws e = refl
says_numbers [] (y ∷ ys) q ws e = absurd cc
says_numbers (x ∷ xs) [] q ws e = absurd cc
says_numbers (x ∷ xs) (y ∷ ys) q [] e = refl
says_numbers (x ∷ xs) (y ∷ ys) q (w ∷ ws) e =
    ap (λ (n : ℕ). (record { peer = n; prefix = q; word = w }) ∷ says_in xs q ws) (ap (λ (ns : List ℕ). get_or ns 0 0) e)
    ∙ ap (λ (ss : Words). (record { peer = y.asn; prefix = q; word = w }) ∷ ss) (says_numbers xs ys q ws (ap (λ (ns : List ℕ). drop 1 ns) e))

pub said_numbers : (line : Row → List Word) (before after : List Peer) → map (λ p. p.asn) before ≡ map (λ p. p.asn) after → (rows : List Row) → said_in line before rows ≡ said_in line after rows
said_numbers line before after e [] = refl
said_numbers line before after e (r ∷ rs) =
    ap (λ (ss : Words). ss ++ said_in line before rs) (says_numbers before after r.prefix (line r) e) ∙ ap (λ (ss : Words). says_in after r.prefix (line r) ++ ss) (said_numbers line before after e rs)

pub rises_view : (net : Plan) (router : ℕ) (peers after : List Peer) (rows : List Row) (k : ℕ) (x : Peer) → slice_get peers k ≡ Some x → after ≡ set peers k (record { asn = x.asn; up = true })
    → ComesUp (view_of net router peers rows) (view_of net router after rows) x.asn
rises_view net router peers after rows k x at is = subst (λ (ps : List Peer). ComesUp (view_of net router peers rows) (view_of net router ps rows) x.asn) (sym is) (record {
  established = λ v. (
    λ c. new_to_old v (listed_up turned_up v c),
    λ h. elim h [
      | inl same ↦ subst (Contains (established_in turned_up)) (sym same) (up_listed turned_up k risen (set_here peers k risen lt) refl)
      | inr old ↦ old_to_new v (listed_up peers v old)
    ],
  );
  rest =
      let e : map (λ (p : Peer). p.asn) turned_up ≡ map (λ (p : Peer). p.asn) peers = map-set_same (λ (p : Peer). p.asn) peers k risen x (sym (ap (λ (p : Peer). p.asn) (get_or_from_slice_get peers k x x at))) in
      let heard = said_numbers (λ r. r.heard) turned_up peers e rows in
      let sent = said_numbers (λ r. r.sent) turned_up peers e rows in
      λ i. record { net = net; router = router; heard = heard i; sent = sent i; established = established_in turned_up; originated = originated_in rows; kept = kept_in rows };
})
  where
    risen : Peer
    risen = record { asn = x.asn; up = true }

    turned_up : List Peer
    turned_up = set peers k risen

    lt : k < length peers
    lt = slice_get_within peers k x at

    new_to_old : (v : ℕ) → ((j : ℕ) × (p : Peer) × (slice_get turned_up j ≡ Some p) × (p.up ≡ true) × (p.asn ≡ v)) → (v ≡ x.asn) ⊎ Contains (established_in peers) v
    new_to_old v h = elim (cases_eq h.0 k) [
      | inl same ↦ inl (sym h.4 ∙ ap (λ (p : Peer). p.asn) (same_Some h.1 risen (sym h.2 ∙ ap (λ (n : ℕ). slice_get turned_up n) same ∙ set_here peers k risen lt)))
      | inr apart ↦
          inr (subst (Contains (established_in peers)) h.4 (up_listed peers h.0 h.1 (sym (set_there peers k h.0 risen apart) ∙ h.2) h.3))
    ]

    old_to_new : (v : ℕ) → ((j : ℕ) × (p : Peer) × (slice_get peers j ≡ Some p) × (p.up ≡ true) × (p.asn ≡ v)) → Contains (established_in turned_up) v
    old_to_new v h = elim (cases_eq h.0 k) [
      | inl same ↦ subst (Contains (established_in turned_up)) (sym (ap (λ (p : Peer). p.asn) (same_Some h.1 x (sym h.2 ∙ ap (λ (n : ℕ). slice_get peers n) same ∙ at))) ∙ h.4) (up_listed turned_up k risen (set_here peers k risen lt) refl)
      | inr apart ↦
          subst (Contains (established_in turned_up)) h.4 (up_listed turned_up h.0 h.1 (set_there peers k h.0 risen apart ∙ h.2) h.3)
    ]

module _ (net : Plan) (router : ℕ) (peers : List Peer) (keys : List PrefixView) (rows : List Row) (whole : AreRows net router peers keys rows) (k : ℕ) (x : Peer) (at : slice_get peers k ≡ Some x)
    (line : Row → List Word) (long : (r : Row) → IsRow net router peers r → length (line r) ≡ length peers) (emptied : (r : Row) → line (forgetting k r) ≡ set (line r) k nothing) where
  forgets_words : Forgets (said_in line peers rows) (said_in line peers (map (forgetting k) rows)) x.asn
  forgets_words = record {
    gone = λ q. elim (row_or_not rows q) [
      | inr none ↦ no_row x.asn q line peers (map (forgetting k) rows) (λ i r there e. let y = from_map (forgetting k) rows i r there in none i y.0 y.1 (sym (ap (λ (s : Row). s.prefix) y.2) ∙ e))
      | inl row ↦
          let r = row.1 in
          let size = long r (whole.each row.0 r row.2) in
          let lt = slice_get_within peers k x at in
          new_word net router peers keys rows whole (forgetting k) (λ s. refl) line x.asn q row.0 k r x nothing row.2 row.3 at refl
          (ap (λ (ws : List Word). slice_get ws k) (emptied r) ∙ set_here (line r) k nothing (omega (arith, lt, size)))
    ];
    others = λ v q apart. same_word net router peers keys rows whole (forgetting k) (λ s. refl) line long v q (λ i j r p there is here e.
        ap (λ (ws : List Word). slice_get ws j) (emptied r)
        ∙ set_there (line r) k j nothing (λ same. apart (sym e ∙ ap (λ (y : Peer). y.asn) (same_Some p x (sym here ∙ ap (λ (n : ℕ). slice_get peers n) same ∙ at)))));
  }

pub forgets_view : (net : Plan) (router : ℕ) (peers after : List Peer) (keys : List PrefixView) (rows new : List Row) → AreRows net router peers keys rows → (k : ℕ) (x : Peer) → slice_get peers k ≡ Some x
    → after ≡ set peers k (record { asn = x.asn; up = false }) → new ≡ map (forgetting k) rows → ForgetsPeer (view_of net router peers rows) (view_of net router after new) x.asn
forgets_view net router peers after keys rows new whole k x at is are =
    subst (λ (ps : List Peer). ForgetsPeer (view_of net router peers rows) (view_of net router ps new) x.asn) (sym is)
    (subst (λ (rs : List Row). ForgetsPeer (view_of net router peers rows) (view_of net router turned_down rs) x.asn) (sym are) (record {
      heard = subst (λ (ws : Words). Forgets (said_in (λ r. r.heard) peers rows) ws x.asn) (sym (said_numbers (λ r. r.heard) turned_down peers same_numbers (map (forgetting k) rows)))
          (forgets_words net router peers keys rows whole k x at (λ r. r.heard) (λ r h. h.heard) (λ r. refl));
      sent = subst (λ (ws : Words). Forgets (said_in (λ r. r.sent) peers rows) ws x.asn) (sym (said_numbers (λ r. r.sent) turned_down peers same_numbers (map (forgetting k) rows)))
          (forgets_words net router peers keys rows whole k x at (λ r. r.sent) (λ r h. h.sent) (λ r. refl));
      established = λ v. (λ c. new_to_old v (listed_up turned_down v c), λ h. old_to_new v h.0 (listed_up peers v h.1));
      rest =
          let originated = originated_map (forgetting k) (λ r. refl) (λ r. refl) rows in
          let kept = kept_map (forgetting k) (λ r. refl) (λ r. refl) rows in
          λ i. record {
            net = net;
            router = router;
            heard = said_in (λ r. r.heard) turned_down (map (forgetting k) rows);
            sent = said_in (λ r. r.sent) turned_down (map (forgetting k) rows);
            established = established_in turned_down;
            originated = originated i;
            kept = kept i;
          };
    }))
  where
    fallen : Peer
    fallen = record { asn = x.asn; up = false }

    turned_down : List Peer
    turned_down = set peers k fallen

    lt : k < length peers
    lt = slice_get_within peers k x at

    same_numbers : map (λ (p : Peer). p.asn) turned_down ≡ map (λ (p : Peer). p.asn) peers
    same_numbers = map-set_same (λ (p : Peer). p.asn) peers k fallen x (sym (ap (λ (p : Peer). p.asn) (get_or_from_slice_get peers k x x at)))

    new_to_old : (v : ℕ) → ((j : ℕ) × (p : Peer) × (slice_get turned_down j ≡ Some p) × (p.up ≡ true) × (p.asn ≡ v)) → (v ≢ x.asn) × Contains (established_in peers) v
    new_to_old v h = elim (cases_eq h.0 k) [
      | inl same ↦ absurd (false≢true (sym (ap (λ (p : Peer). p.up) (same_Some h.1 fallen (sym h.2 ∙ ap (λ (n : ℕ). slice_get turned_down n) same ∙ set_here peers k fallen lt))) ∙ h.3))
      | inr apart ↦
          let there = sym (set_there peers k h.0 fallen apart) ∙ h.2 in
          (λ e. apart (peer_once peers whole.apart h.0 k h.1 x there at (h.4 ∙ e)), subst (Contains (established_in peers)) h.4 (up_listed peers h.0 h.1 there h.3))
    ]

    old_to_new : (v : ℕ) → (v ≢ x.asn) → ((j : ℕ) × (p : Peer) × (slice_get peers j ≡ Some p) × (p.up ≡ true) × (p.asn ≡ v)) → Contains (established_in turned_down) v
    old_to_new v other h = elim (cases_eq h.0 k) [
      | inl same ↦ absurd (other (sym h.4 ∙ ap (λ (p : Peer). p.asn) (same_Some h.1 x (sym h.2 ∙ ap (λ (n : ℕ). slice_get peers n) same ∙ at))))
      | inr apart ↦
          subst (Contains (established_in turned_down)) h.4 (up_listed turned_down h.0 h.1 (set_there peers k h.0 fallen apart ∙ h.2) h.3)
    ]
