-- The owner's invariant, and what its calls do, by rows.
use Rattle.std.proofs.Common.{◌≡◌, ◌≢◌, ℕ, zero, suc, ◌<◌, Bool, true, false, ◌||◌, cond, List, [], ◌∷◌, ◌++◌, length, get_or, set, map, refl, sym, ap, subst, ◌∙◌, arith, inl, inr, ◌⊎◌, Some}
use Rattle.std.specs.Prelude.{◌↔◌, Option, None, MatchOption, IsSome}
use Rattle.std.proofs.Common.{rules}
use Rattle.std.specs.List.{slice_get, AllPairs}
use Rattle.std.proofs.lemmas.Bool.{cases_Bool, cases_order, both_ways, cond-true, cond-false}
use Rattle.std.proofs.lemmas.List.{length-map, length-set, get_or-map, get_or-set_same}
use Rattle.std.proofs.lemmas.Option.{slice_get_within, get_or_from_slice_get, slice_get-get_or, same_Some}
use Rattle.prefix_lanes.specs.Bits.{PrefixView, is_prefix}
use Rattle.bgp_codec.specs.declared.update.Update.{Update}
use Rattle.ranked_policy.specs.declared.network.Origin.{Origin}
use Rattle.ranked_policy.specs.Plans.{Plan, IsNamed, IsBefore}
use Rattle.ranked_policy.specs.Peers.{peers as peers_of}
use Rattle.rib_tables.specs.declared.word.Word.{Word}
use Rattle.rib_tables.specs.declared.word.Word.TheVariants.{Sequence}
use Rattle.rib_tables.specs.declared.place_set.PlaceSet.{PlaceSet}
use Rattle.rib_tables.specs.declared.row.Peer.{Peer}
use Rattle.rib_tables.specs.declared.row.Row.{Row}
use Rattle.rib_tables.specs.Places.{has}
use Rattle.rib_tables.specs.Words.{nothing, announced_word, Announces, Mentions, Says, lists, mentions}
use Rattle.rib_tables.specs.Tables.{Words, word_of, Applies}
use Rattle.rib_tables.specs.Owners.{RibView, HearsUpdate}
use Rattle.rib_tables.specs.Rows.{says_in, said_in, established_in, kept_in, originated_in, view_of, IsRow, AreRows, AreDecided, AreJudged, IsRowBest, IsRib, AreFit, StaysDecided, hearing, hearing_all, hearing_update}
use Rattle.rib_tables.proofs.WordLemmas.{is_prefix-true, is_prefix-from, decides_lists, decides_mentions, by_test}
use Rattle.rib_tables.proofs.ChangeLemmas.{key_at, row_at, once_at, map_after, from_map, to_map, hearing_keeps}
use Rattle.rib_tables.proofs.ViewLemmas.{peer_or_not, no_row, no_peer, word_at}

pub before_apart : (p q : PrefixView) → IsBefore p q → p ≡ q → ⊥
before_apart p q h e =
    let a = ap (λ (x : PrefixView). x.addr) e in
    let l = ap (λ (x : PrefixView). x.len) e in
    elim h [ inl less ↦ omega (arith, less, a) | inr tie ↦ let t = tie.1 in omega (arith, t, l) ]

origin_of_none : Origin
origin_of_none = record { prefix = record { addr = 0; len = 0 }; router = 0 }

-- rows of a network can be changed at their places
pub fit_of : (net : Plan) (router : ℕ) (peers : List Peer) (keys : List PrefixView) (rows : List Row) → AreRows net router peers keys rows → AreFit keys (length peers) rows
fit_of net router peers keys rows whole = record {
  listed = whole.listed;
  once = subst (AllPairs (λ (p q : PrefixView). p ≢ q)) (sym whole.named) (λ i j d lt below.
      let size = length-map net.origins (λ (o : Origin). o.prefix) in
      let under : j < length net.origins = omega (arith, below, size) in
      let first = get_or-map (λ (o : Origin). o.prefix) net.origins i origin_of_none d (omega (arith, lt, under)) in
      let next = get_or-map (λ (o : Origin). o.prefix) net.origins j origin_of_none d under in
      λ e. before_apart (get_or net.origins i origin_of_none).prefix (get_or net.origins j origin_of_none).prefix (whole.network.plan.origins.rising i j origin_of_none lt under) (sym first ∙ e ∙ next));
  few = let f = whole.network.plan.origins.few in let l = ap (λ (ks : List PrefixView). length ks) whole.named ∙ length-map net.origins (λ (o : Origin). o.prefix) in omega (arith, f, l);
  heard = λ i r at. (whole.each i r at).heard;
  sent = λ i r at. (whole.each i r at).sent;
}

pub peer_once : (peers : List Peer) → AllPairs (λ p later. p.asn ≢ later.asn) peers → (i j : ℕ) (a b : Peer) → slice_get peers i ≡ Some a → slice_get peers j ≡ Some b → a.asn ≡ b.asn → i ≡ j
peer_once peers apart i j a b at also e =
    let first = get_or_from_slice_get peers i a a at in
    let next = get_or_from_slice_get peers j b a also in
    elim (cases_order i j) [
      | inl same ↦ same
      | inr differ ↦ elim differ [
        | inl less ↦ absurd (apart i j a less (slice_get_within peers j b also) (ap (λ (p : Peer). p.asn) first ∙ e ∙ sym (ap (λ (p : Peer). p.asn) next)))
        | inr more ↦ absurd (apart j i a more (slice_get_within peers i a at) (ap (λ (p : Peer). p.asn) next ∙ sym e ∙ sym (ap (λ (p : Peer). p.asn) first)))
      ]
    ]

pub row_once : (keys : List PrefixView) (rows : List Row) → keys ≡ map (λ r. r.prefix) rows → AllPairs (λ p q. p ≢ q) keys → (i j : ℕ) (a b : Row) → slice_get rows i ≡ Some a → slice_get rows j ≡ Some b → a.prefix ≡ b.prefix → i ≡ j
row_once keys rows listed once i j a b at also e = once_at keys once i j b.prefix (key_at keys rows listed i a at ∙ ap Some e) (key_at keys rows listed j b also)

-- ---- a change of all rows

module _ (net : Plan) (router : ℕ) (peers : List Peer) (keys : List PrefixView) (rows : List Row) (f : Row → Row) (prefix : (r : Row) → (f r).prefix ≡ r.prefix) where
  pub rows_map : ((r : Row) → IsRow net router peers r → IsRow net router peers (f r)) → AreRows net router peers keys rows → AreRows net router peers keys (map f rows)
  rows_map keeps whole = record {
    network = whole.network;
    routers = whole.routers;
    numbers = whole.numbers;
    apart = whole.apart;
    linked = whole.linked;
    known = whole.known;
    listed = whole.listed ∙ sym (map_after f (λ (r : Row). r.prefix) (λ (r : Row). r.prefix) prefix rows);
    named = whole.named;
    each = λ i r at. let x = from_map f rows i r at in subst (IsRow net router peers) (sym x.2) (keeps x.0 (whole.each i x.0 x.1));
  }

  pub decided_map : (new : PlaceSet) → ((i : ℕ) (r : Row) → slice_get rows i ≡ Some r → has new i ≡ false → IsRowBest net router peers (f r) (f r).kept) → AreDecided net router peers (map f rows) new
  decided_map new each = λ i r at out. let x = from_map f rows i r at in subst (λ (s : Row). IsRowBest net router peers s s.kept) (sym x.2) (each i x.0 x.1 out)

-- ---- an UPDATE of a peer

module _ (k : ℕ) (u : Update) where
  hears_keep : {X : Type 0} (f : Row → X) → ((w : Word) (r : Row) → f (hearing k w r) ≡ f r) → (r : Row) → f (hearing_update k u r) ≡ f r
  hears_keep {X} f same r =
      hearing_keeps k (announced_word u.attrs) f (same (announced_word u.attrs)) u.nlri (hearing_all u.withdrawn k nothing r) ∙ hearing_keeps k nothing f (same nothing) u.withdrawn r

  hears_row : (net : Plan) (router : ℕ) (peers : List Peer) (r : Row) → IsRow net router peers r → IsRow net router peers (hearing_update k u r)
  hears_row net router peers r is =
      one u.nlri (announced_word u.attrs) (hearing_all u.withdrawn k nothing r) (one u.withdrawn nothing r is)
    where
      one : (ps : List PrefixView) (w : Word) (s : Row) → IsRow net router peers s → IsRow net router peers (hearing_all ps k w s)
      one ps w s h = elim (cases_Bool (lists ps s.prefix)) [
        | inl t ↦ subst (IsRow net router peers) (sym (cond-true (lists ps s.prefix) (hearing k w s) s t)) (record { heard = length-set s.heard k w ∙ h.heard; sent = h.sent; speaks = h.speaks; own = h.own })
        | inr n ↦ subst (IsRow net router peers) (sym (cond-false (lists ps s.prefix) (hearing k w s) s n)) h
      ]

  -- a row of a prefix that is not mentioned is as it was
  unmentioned : (r : Row) → mentions u r.prefix ≡ false → hearing_update k u r ≡ r
  unmentioned r none =
      let a : lists u.nlri r.prefix ≡ false = left none in
      let b : lists u.withdrawn r.prefix ≡ false = right none in
      let first : hearing_all u.withdrawn k nothing r ≡ r = cond-false (lists u.withdrawn r.prefix) (hearing k nothing r) r b in
      ap (hearing_all u.nlri k (announced_word u.attrs)) first ∙ cond-false (lists u.nlri r.prefix) (hearing k (announced_word u.attrs) r) r a
    where
      left : (lists u.nlri r.prefix || lists u.withdrawn r.prefix) ≡ false → lists u.nlri r.prefix ≡ false
      left e = elim (cases_Bool (lists u.nlri r.prefix)) [ inl t ↦ absurd (let z = sym e ∙ ap (λ (b : Bool). b || lists u.withdrawn r.prefix) t in cc) | inr f ↦ f ]

      right : (lists u.nlri r.prefix || lists u.withdrawn r.prefix) ≡ false → lists u.withdrawn r.prefix ≡ false
      right e = ap (λ (b : Bool). b || lists u.withdrawn r.prefix) (sym (left e)) ∙ e

  pub hear_keeps_rib : (net : Plan) (router : ℕ) (peers : List Peer) (keys : List PrefixView) (rows new : List Row) (dirty marked : PlaceSet) (waits : List PlaceSet) → IsRib net router peers keys rows dirty waits
      → new ≡ map (hearing_update k u) rows → StaysDecided router rows new dirty marked → IsRib net router peers keys new marked waits
  hear_keeps_rib net router peers keys rows new dirty marked waits rib is stays =
      let judged : AreJudged net router peers rows = record { network = rib.whole.network; routers = rib.whole.routers; each = rib.whole.each } in
      subst (λ (rs : List Row). IsRib net router peers keys rs marked waits) (sym is) (record {
        whole = rows_map net router peers keys rows (hearing_update k u) (hears_keep (λ r. r.prefix) (λ w r. refl)) (hears_row net router peers) rib.whole;
        decided = subst (λ (rs : List Row). AreDecided net router peers rs marked) is (stays net peers judged rib.decided).1;
        told = record {
          long = rib.told.long;
          each = λ j p waiting at there i r here.
              let x = from_map (hearing_update k u) rows i r here in
              let sent : r.sent ≡ x.0.sent = ap (λ (s : Row). s.sent) x.2 ∙ hears_keep (λ s. s.sent) (λ w s. refl) x.0 in
              let kept : r.kept ≡ x.0.kept = ap (λ (s : Row). s.kept) x.2 ∙ hears_keep (λ s. s.kept) (λ w s. refl) x.0 in
              subst (λ (ws : List Word). has waiting i ≡ true ↔ ((p.up ≡ true) × (slice_get ws j ≢ Some (Sequence r.kept)))) (sym sent)
              (subst (λ (path : List ℕ). has waiting i ≡ true ↔ ((p.up ≡ true) × (slice_get x.0.sent j ≢ Some (Sequence path)))) (sym kept)
              (rib.told.each j p waiting at there i x.0 x.1));
        };
      })

-- ---- what look-ups see of a change of all rows

pub set_here : {X : Type 0} (xs : List X) (k : ℕ) (x : X) → k < length xs → slice_get (set xs k x) k ≡ Some x
set_here {X} xs k x lt = slice_get-get_or (set xs k x) k x (let l = length-set xs k x in omega (arith, l, lt)) ∙ ap Some (get_or-set_same xs k x x lt)

pub set_there : {X : Type 0} (xs : List X) (k j : ℕ) (x : X) → j ≢ k → slice_get (set xs k x) j ≡ slice_get xs j
set_there {X} [] k j x apart = refl
set_there {X} (y ∷ ys) zero zero x apart = absurd (apart refl)
set_there {X} (y ∷ ys) zero (suc j) x apart = refl
set_there {X} (y ∷ ys) (suc k) zero x apart = refl
set_there {X} (y ∷ ys) (suc k) (suc j) x apart = set_there ys k j x (λ e. apart (ap suc e))

-- a row of the prefix, or none
pub row_or_not : (rows : List Row) (q : PrefixView) → ((i : ℕ) × (r : Row) × (slice_get rows i ≡ Some r) × (r.prefix ≡ q)) ⊎ ((i : ℕ) (r : Row) → slice_get rows i ≡ Some r → r.prefix ≡ q → ⊥)
row_or_not [] q = inr (λ i r at e. let lt = slice_get_within [] i r at in omega (arith, lt))
row_or_not (x ∷ xs) q = elim (cases_Bool (is_prefix x.prefix q)) [
  | inl t ↦ inl (0, x, refl, is_prefix-true x.prefix q t)
  | inr f ↦ elim (row_or_not xs q) [
    | inl there ↦ inl (suc there.0, there.1, there.2, there.3)
    | inr none ↦ inr (none_in f none)
  ]
]
  where
    none_in : is_prefix x.prefix q ≡ false → ((i : ℕ) (r : Row) → slice_get xs i ≡ Some r → r.prefix ≡ q → ⊥) → (i : ℕ) (r : Row) → slice_get (x ∷ xs) i ≡ Some r → r.prefix ≡ q → ⊥
    none_in f none zero r at e = both_ways (is_prefix x.prefix q) f (is_prefix-from x.prefix q (ap (λ (s : Row). s.prefix) (same_Some x r at) ∙ e))
    none_in f none (suc i) r at e = none i r at e

pub said_map : (line : Row → List Word) (peers : List Peer) (f : Row → Row) → ((r : Row) → (f r).prefix ≡ r.prefix) → ((r : Row) → line (f r) ≡ line r) → (rows : List Row) → said_in line peers (map f rows) ≡ said_in line peers rows
said_map line peers f prefix same [] = refl
said_map line peers f prefix same (r ∷ rs) =
    ap (λ (p : PrefixView). says_in peers p (line (f r)) ++ said_in line peers (map f rs)) (prefix r)
    ∙ ap (λ (ws : List Word). says_in peers r.prefix ws ++ said_in line peers (map f rs)) (same r)
    ∙ ap (λ (ws : Words). says_in peers r.prefix (line r) ++ ws) (said_map line peers f prefix same rs)

pub originated_map : (f : Row → Row) → ((r : Row) → (f r).prefix ≡ r.prefix) → ((r : Row) → (f r).originated ≡ r.originated) → (rows : List Row) → originated_in (map f rows) ≡ originated_in rows
originated_map f prefix same [] = refl
originated_map f prefix same (r ∷ rs) =
    ap (λ (b : Bool). cond b ((f r).prefix ∷ originated_in (map f rs)) (originated_in (map f rs))) (same r)
    ∙ ap (λ (p : PrefixView). cond r.originated (p ∷ originated_in (map f rs)) (originated_in (map f rs))) (prefix r)
    ∙ ap (λ (ps : List PrefixView). cond r.originated (r.prefix ∷ ps) ps) (originated_map f prefix same rs)

pub kept_map : (f : Row → Row) → ((r : Row) → (f r).prefix ≡ r.prefix) → ((r : Row) → (f r).kept ≡ r.kept) → (rows : List Row) → kept_in (map f rows) ≡ kept_in rows
kept_map f prefix same rows =
    map_after f (λ r. record { prefix = r.prefix; path = r.kept }) (λ r. record { prefix = r.prefix; path = r.kept })
    (λ r. ap (λ (p : PrefixView). record { prefix = p; path = (f r).kept }) (prefix r) ∙ ap (λ (path : List ℕ). record { prefix = r.prefix; path = path }) (same r)) rows

module _ (net : Plan) (router : ℕ) (peers : List Peer) (keys : List PrefixView) (rows : List Row) (whole : AreRows net router peers keys rows) (f : Row → Row) (prefix : (r : Row) → (f r).prefix ≡ r.prefix)
    (line : Row → List Word) where
  once_rows : (i j : ℕ) (a b : Row) → slice_get rows i ≡ Some a → slice_get rows j ≡ Some b → a.prefix ≡ b.prefix → i ≡ j
  once_rows = row_once keys rows whole.listed (fit_of net router peers keys rows whole).once

  once_mapped : (i j : ℕ) (a b : Row) → slice_get (map f rows) i ≡ Some a → slice_get (map f rows) j ≡ Some b → a.prefix ≡ b.prefix → i ≡ j
  once_mapped i j a b at also e =
      let x = from_map f rows i a at in
      let y = from_map f rows j b also in
      once_rows i j x.0 y.0 x.1 y.1 (sym (ap (λ (s : Row). s.prefix) x.2 ∙ prefix x.0) ∙ e ∙ ap (λ (s : Row). s.prefix) y.2 ∙ prefix y.0)

  -- the word of a peer for the prefix of a row
  pub new_word : (v : ℕ) (q : PrefixView) (i k : ℕ) (r : Row) (p : Peer) (w : Word) → slice_get rows i ≡ Some r → r.prefix ≡ q → slice_get peers k ≡ Some p → p.asn ≡ v → slice_get (line (f r)) k ≡ Some w
      → word_of (said_in line peers (map f rows)) v q ≡ w
  new_word v q i k r p w at is there of word = word_at v q line peers (map f rows) i k (f r) p w (peer_once peers whole.apart) once_mapped (to_map f rows i r at) (prefix r ∙ is) there of word

  pub old_word : (v : ℕ) (q : PrefixView) (i k : ℕ) (r : Row) (p : Peer) (w : Word) → slice_get rows i ≡ Some r → r.prefix ≡ q → slice_get peers k ≡ Some p → p.asn ≡ v → slice_get (line r) k ≡ Some w
      → word_of (said_in line peers rows) v q ≡ w
  old_word v q i k r p w at is there of word = word_at v q line peers rows i k r p w (peer_once peers whole.apart) once_rows at is there of word

  -- where the words for a prefix are as they were, so is the look-up
  pub same_word : ((r : Row) → IsRow net router peers r → length (line r) ≡ length peers) → (v : ℕ) (q : PrefixView)
      → ((i j : ℕ) (r : Row) (p : Peer) → slice_get rows i ≡ Some r → r.prefix ≡ q → slice_get peers j ≡ Some p → p.asn ≡ v → slice_get (line (f r)) j ≡ slice_get (line r) j)
      → word_of (said_in line peers (map f rows)) v q ≡ word_of (said_in line peers rows) v q
  same_word long v q same = elim (row_or_not rows q) [
    | inr none ↦
        no_row v q line peers (map f rows) (λ i r at e. let x = from_map f rows i r at in none i x.0 x.1 (sym (ap (λ (s : Row). s.prefix) x.2 ∙ prefix x.0) ∙ e)) ∙ sym (no_row v q line peers rows none)
    | inl row ↦ elim (peer_or_not peers v) [
      | inr none ↦ no_peer v q line peers (map f rows) none ∙ sym (no_peer v q line peers rows none)
      | inl peer ↦
          let i = row.0 in
          let r = row.1 in
          let k = peer.0 in
          let p = peer.1 in
          let lt = slice_get_within peers k p peer.2 in
          let size = long r (whole.each i r row.2) in
          let word = slice_get-get_or (line r) k nothing (omega (arith, lt, size)) in
          new_word v q i k r p (get_or (line r) k nothing) row.2 row.3 peer.2 peer.3 (same i k r p row.2 row.3 peer.2 peer.3 ∙ word)
          ∙ sym (old_word v q i k r p (get_or (line r) k nothing) row.2 row.3 peer.2 peer.3 word)
    ]
  ]

-- a prefix is named exactly where it has a row
pub named_row : (net : Plan) (router : ℕ) (peers : List Peer) (keys : List PrefixView) (rows : List Row) → AreRows net router peers keys rows → (q : PrefixView) → IsNamed net.origins q
    → (i : ℕ) × (r : Row) × (slice_get rows i ≡ Some r) × (r.prefix ≡ q)
named_row net router peers keys rows whole q name =
    let at = to_map (λ (o : Origin). o.prefix) net.origins name.0 name.1 (slice_get-get_or net.origins name.0 name.1 name.2 ∙ ap Some name.3) in
    let here = row_at keys rows whole.listed name.0 q (ap (λ (ks : List PrefixView). slice_get ks name.0) whole.named ∙ at ∙ ap Some name.4) in
    (name.0, here.0, here.1, here.2)

pub row_named : (net : Plan) (router : ℕ) (peers : List Peer) (keys : List PrefixView) (rows : List Row) → AreRows net router peers keys rows → (i : ℕ) (r : Row) → slice_get rows i ≡ Some r → IsNamed net.origins r.prefix
row_named net router peers keys rows whole i r at =
    let key = key_at keys rows whole.listed i r at in
    let x = from_map (λ (o : Origin). o.prefix) net.origins i r.prefix (ap (λ (ks : List PrefixView). slice_get ks i) (sym whole.named) ∙ key) in
    (i, x.0, slice_get_within net.origins i x.0 x.1, get_or_from_slice_get net.origins i x.0 x.0 x.1, sym x.2)

-- ---- what an UPDATE of a peer says, by look-ups

module _ (k : ℕ) (u : Update) (net : Plan) (router : ℕ) (peers : List Peer) (keys : List PrefixView) (rows : List Row) (whole : AreRows net router peers keys rows) (x : Peer) (at : slice_get peers k ≡ Some x) where
  heard : Row → List Word
  heard r = r.heard

  hears_prefix : (r : Row) → (hearing_update k u r).prefix ≡ r.prefix
  hears_prefix = hears_keep k u (λ r. r.prefix) (λ w r. refl)

  long : (r : Row) → IsRow net router peers r → length r.heard ≡ length peers
  long r is = is.heard

  says_row : (i : ℕ) (r : Row) → slice_get rows i ≡ Some r → (word : Word) → Says u r.prefix word → slice_get (hearing_update k u r).heard k ≡ Some word
  says_row i r there word (inl a) =
      let s : Row = hearing_all u.withdrawn k nothing r in
      let same : s.prefix ≡ r.prefix = hearing_keeps k nothing (λ (y : Row). y.prefix) (λ y. refl) u.withdrawn r in
      let size : length s.heard ≡ length r.heard = hearing_keeps k nothing (λ (y : Row). length y.heard) (λ y. length-set y.heard k nothing) u.withdrawn r in
      let yes : lists u.nlri s.prefix ≡ true = ap (lists u.nlri) same ∙ (decides_lists u.nlri r.prefix).1 a.0 in
      let all = (whole.each i r there).heard in
      let lt = slice_get_within peers k x at in
      ap (λ (y : Row). slice_get y.heard k) (cond-true (lists u.nlri s.prefix) (hearing k (announced_word u.attrs) s) s yes)
      ∙ set_here s.heard k (announced_word u.attrs) (omega (arith, lt, size, all)) ∙ ap Some (sym a.1)
  says_row i r there word (inr w) =
      let s : Row = hearing_all u.withdrawn k nothing r in
      let same : s.prefix ≡ r.prefix = hearing_keeps k nothing (λ (y : Row). y.prefix) (λ y. refl) u.withdrawn r in
      let no : lists u.nlri s.prefix ≡ false = ap (lists u.nlri) same ∙ by_test (lists u.nlri r.prefix) (Announces u r.prefix) (decides_lists u.nlri r.prefix) w.0 in
      let yes : lists u.withdrawn r.prefix ≡ true = (decides_lists u.withdrawn r.prefix).1 w.1 in
      let all = (whole.each i r there).heard in
      let lt = slice_get_within peers k x at in
      ap (λ (y : Row). slice_get y.heard k) (cond-false (lists u.nlri s.prefix) (hearing k (announced_word u.attrs) s) s no)
      ∙ ap (λ (y : Row). slice_get y.heard k) (cond-true (lists u.withdrawn r.prefix) (hearing k nothing r) r yes)
      ∙ set_here r.heard k nothing (omega (arith, lt, all)) ∙ ap Some (sym w.2)

  applies : Applies net.origins (said_in (λ r. r.heard) peers rows) (said_in (λ r. r.heard) peers (map (hearing_update k u) rows)) x.asn u
  applies = record {
    said = λ q word name says.
        let row = named_row net router peers keys rows whole q name in
        new_word net router peers keys rows whole (hearing_update k u) hears_prefix (λ r. r.heard) x.asn q row.0 k row.1 x word row.2 row.3 at refl (says_row row.0 row.1 row.2 word (subst (λ (p : PrefixView). Says u p word) (sym row.3) says));
    unsaid = λ q silent. same_word net router peers keys rows whole (hearing_update k u) hears_prefix (λ r. r.heard) long x.asn q
        (λ i j r p there is here e.
        ap (λ (y : Row). slice_get y.heard j) (unmentioned k u r (ap (mentions u) is ∙ by_test (mentions u q) (Mentions u q) (decides_mentions u q) silent)));
    unnamed = λ q none. same_word net router peers keys rows whole (hearing_update k u) hears_prefix (λ r. r.heard) long x.asn q
        (λ i j r p there is here e. absurd (none (subst (IsNamed net.origins) is (row_named net router peers keys rows whole i r there))));
    others = λ v q apart. same_word net router peers keys rows whole (hearing_update k u) hears_prefix (λ r. r.heard) long v q
        (λ i j r p there is here e.
        hears_keep k u (λ y. slice_get y.heard j) (λ w y. set_there y.heard k j w (λ same. apart (sym e ∙ ap (λ (y2 : Peer). y2.asn) (same_Some p x (sym here ∙ ap (λ (n : ℕ). slice_get peers n) same ∙ at))))) r);
  }

  pub hears_view : (new : List Row) → new ≡ map (hearing_update k u) rows → HearsUpdate (view_of net router peers rows) (view_of net router peers new) x.asn u
  hears_view new is = subst (λ (rs : List Row). HearsUpdate (view_of net router peers rows) (view_of net router peers rs) x.asn u) (sym is) (record {
    words = applies;
    rest =
        let sent = said_map (λ r. r.sent) peers (hearing_update k u) hears_prefix (hears_keep k u (λ r. r.sent) (λ w r. refl)) rows in
        let originated = originated_map (hearing_update k u) hears_prefix (hears_keep k u (λ r. r.originated) (λ w r. refl)) rows in
        let kept = kept_map (hearing_update k u) hears_prefix (hears_keep k u (λ r. r.kept) (λ w r. refl)) rows in
        λ i. record { net = net; router = router; heard = said_in (λ r. r.heard) peers (map (hearing_update k u) rows); sent = sent i; established = established_in peers; originated = originated i; kept = kept i };
  })

-- ---- the place of a peer, as the code finds it

abbrev pub Found : List Peer → ℕ → Option ℕ → Type 0
Found peers v r = MatchOption r ((k : ℕ) (p : Peer) → slice_get peers k ≡ Some p → p.asn ≡ v → ⊥) (λ k. (p : Peer) × (slice_get peers k ≡ Some p) × (p.asn ≡ v))

pub place_some : (peers : List Peer) (v : ℕ) (r : Option ℕ) → Found peers v r → (k : ℕ) (p : Peer) → slice_get peers k ≡ Some p → p.asn ≡ v → IsSome r
place_some peers v None none k p at e = absurd (none k p at e)
place_some peers v (Some i) some k p at e = search rules

pub place_is : (seen peers : List Peer) (v : ℕ) (r : Option ℕ) (k : ℕ) → seen ≡ peers → Found seen v r → r ≡ Some k → (p : Peer) × (slice_get peers k ≡ Some p) × (p.asn ≡ v)
place_is seen peers v r k same found is =
    let here : Found seen v (Some k) = subst (Found seen v) is found in
    (here.0, ap (λ (ps : List Peer). slice_get ps k) (sym same) ∙ here.1, here.2)

-- ---- the place of a peer, as a caller knows it

module _ (net : Plan) (router : ℕ) (peers : List Peer) (keys : List PrefixView) (rows : List Row) (whole : AreRows net router peers keys rows) (v : ℕ) where
  pub peer_at_place : (view : RibView) → view_of net router peers rows ≡ view → (k : ℕ) → slice_get (peers_of view.net view.router) k ≡ Some v → (p : Peer) × (slice_get peers k ≡ Some p) × (p.asn ≡ v)
  peer_at_place view same k at =
      let mine = subst (λ (s : RibView). slice_get (peers_of s.net s.router) k ≡ Some v) (sym same) at in
      let x = from_map (λ (p : Peer). p.asn) peers k v (ap (λ (ns : List ℕ). slice_get ns k) whole.numbers ∙ mine) in
      (x.0, x.1, sym x.2)

  pub place_in : (view : RibView) → view_of net router peers rows ≡ view → (k : ℕ) → slice_get (peers_of view.net view.router) k ≡ Some v → k < length peers
  place_in view same k at = let here = peer_at_place view same k at in slice_get_within peers k here.0 here.1

  pub place_at_peer : (k : ℕ) (p : Peer) → slice_get peers k ≡ Some p → p.asn ≡ v → slice_get (peers_of net router) k ≡ Some v
  place_at_peer k p at e = ap (λ (ns : List ℕ). slice_get ns k) (sym whole.numbers) ∙ to_map (λ (p : Peer). p.asn) peers k p at ∙ ap Some e
