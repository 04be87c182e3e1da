-- A router's tables as it starts.
use Rattle.std.proofs.Common.{◌≡◌, ℕ, zero, suc, ◌<◌, ◌+◌, true, false, cond, List, [], ◌∷◌, ◌++◌, length, get_or, take, map, refl, sym, ap, subst, ◌∙◌, arith, inl, inr, ◌⊎◌, Some}
use Rattle.std.specs.Prelude.{◌↔◌}
use Rattle.std.specs.List.{slice_get, All, AllPairs, Contains, list_any}
use Rattle.std.proofs.lemmas.Bool.{cases_Bool, both_ways, cond-false, false≢true, false_from_ne_true}
use Rattle.std.proofs.lemmas.List.{length-map, length-take-le, take_more, map-append, get_or-map, get_or-take}
use Rattle.std.proofs.lemmas.Option.{slice_get_within, get_or_from_slice_get, slice_get-get_or, same_Some}
use Rattle.prefix_lanes.specs.Bits.{PrefixView, is_prefix}
use Rattle.ranked_policy.specs.declared.network.Origin.{Origin}
use Rattle.ranked_policy.specs.Plans.{Plan, IsNetwork, IsRouter, IsOrigin, IsBefore, Linked}
use Rattle.ranked_policy.specs.Peers.{peers as peers_of}
use Rattle.ranked_policy.specs.Policies.{Table, IsTableOf, Originates}
use Rattle.rib_tables.specs.declared.word.Word.{Word}
use Rattle.rib_tables.specs.declared.place_set.PlaceSet.{PlaceSet}
use Rattle.rib_tables.specs.declared.row.Peer.{Peer}
use Rattle.rib_tables.specs.declared.row.Row.{Row}
use Rattle.rib_tables.specs.Places.{has}
use Rattle.rib_tables.specs.Words.{nothing}
use Rattle.rib_tables.specs.Tables.{IsSilent}
use Rattle.ranked_policy.specs.Choices.{Speaks}
use Rattle.rib_tables.specs.Owners.{IsNew}
use Rattle.rib_tables.specs.Rows.{IsRow, AreRows, IsRowBest, IsRib, IsFresh, AreFresh, said_in, view_of}
use Rattle.rib_tables.proofs.WordLemmas.{is_prefix-true}
use Rattle.ranked_policy.proofs.OneTable.{one_table}
use Rattle.rib_tables.proofs.ChangeLemmas.{from_map, to_map, maps_by_places, each_passes, within}
use Rattle.rib_tables.proofs.ViewLemmas.{peer_or_not, no_row, no_peer}
use Rattle.rib_tables.proofs.RibLemmas.{before_apart, row_or_not, old_word}
use Rattle.rib_tables.proofs.SessionLemmas.{listed_up}
use Rattle.rib_tables.proofs.SeenLemmas.{once, no_kept, kept_at, listed_originated}

-- ---- one more of a list

pub get_push : {X : Type 0} (xs : List X) (x y : X) (i : ℕ) → slice_get (xs ++ x ∷ []) i ≡ Some y → (slice_get xs i ≡ Some y) ⊎ ((i ≡ length xs) × (x ≡ y))
get_push {X} [] x y zero at = inr (refl, same_Some x y at)
get_push {X} [] x y (suc i) at = absurd (let lt = slice_get_within (x ∷ []) (suc i) y at in omega (arith, lt))
get_push {X} (z ∷ zs) x y zero at = inl at
get_push {X} (z ∷ zs) x y (suc i) at = elim (get_push zs x y i at) [ inl there ↦ inl there | inr here ↦ inr (omega (arith, here.0), here.1) ]

-- the prefix of one origin more is none of those before it
pub key_more : (origins : List Origin) → AllPairs (λ origin later. IsBefore origin.prefix later.prefix) origins → (i : ℕ) (o : Origin) → i < length origins → o ≡ get_or origins i o → (keys new : List PrefixView)
    → keys ≡ map (λ (x : Origin). x.prefix) (take i origins) → new ≡ cond (list_any (is_prefix o.prefix) keys) keys (keys ++ o.prefix ∷ []) → new ≡ map (λ (x : Origin). x.prefix) (take (i + 1) origins)
key_more origins rising i o lt is keys new are set =
    set ∙ cond-false (list_any (is_prefix o.prefix) keys) keys (keys ++ o.prefix ∷ []) absent
    ∙ ap (λ (ks : List PrefixView). ks ++ o.prefix ∷ []) are
    ∙ sym (map-append (λ (x : Origin). x.prefix) (take i origins) (o ∷ []))
    ∙ ap (λ (os : List Origin). map (λ (x : Origin). x.prefix) os) (ap (λ (x : Origin). take i origins ++ x ∷ []) is ∙ sym (take_more origins i o lt))
  where
    absent : list_any (is_prefix o.prefix) keys ≡ false
    absent = each_passes (is_prefix o.prefix) keys (λ k p at.
        let x = from_map (λ (y : Origin). y.prefix) (take i origins) k p (ap (λ (ks : List PrefixView). slice_get ks k) (sym are) ∙ at) in
        let below = slice_get_within (take i origins) k x.0 x.1 in
        let size = length-take-le i origins (omega (arith, lt)) in
        let less : k < i = omega (arith, below, size) in
        let there : get_or origins k o ≡ x.0 = sym (get_or-take i origins k o less) ∙ get_or_from_slice_get (take i origins) k x.0 o x.1 in
        false_from_ne_true (is_prefix o.prefix p) (λ t.
        before_apart (get_or origins k o).prefix (get_or origins i o).prefix (rising k i o less lt)
        (ap (λ (y : Origin). y.prefix) there ∙ sym x.2 ∙ sym (is_prefix-true o.prefix p t) ∙ ap (λ (y : Origin). y.prefix) is)))

-- one row more is that of the next origin
pub fresh_push : (origins : List Origin) (table : Table) (n : ℕ) (listed : List Origin) (rows : List Row) (i : ℕ) (o : Origin) (r : Row) → length rows ≡ i → i < length listed → o ≡ get_or listed i o → IsFresh origins table n o r
    → ((k : ℕ) (p : Origin) (s : Row) → slice_get listed k ≡ Some p → slice_get rows k ≡ Some s → IsFresh origins table n p s)
    → (k : ℕ) (p : Origin) (s : Row) → slice_get listed k ≡ Some p → slice_get (rows ++ r ∷ []) k ≡ Some s → IsFresh origins table n p s
fresh_push origins table n listed rows i o r long lt is fresh each k p s at there = elim (get_push rows r s k there) [
  | inl old ↦ each k p s at old
  | inr new ↦
      let same : o ≡ p = is ∙ same_Some (get_or listed i o) p (sym (slice_get-get_or listed i o lt) ∙ ap (λ (j : ℕ). slice_get listed j) (sym (new.0 ∙ long)) ∙ at) in
      subst (λ (x : Row). IsFresh origins table n p x) new.1 (subst (λ (x : Origin). IsFresh origins table n x r) same fresh)
]

-- ---- all of it

abbrev down : ℕ → Peer
down number = record { asn = number; up = false }

numbers_down : (numbers : List ℕ) → map (λ p. p.asn) (map down numbers) ≡ numbers
numbers_down [] = refl
numbers_down (n ∷ ns) = ap (λ (ms : List ℕ). n ∷ ms) (numbers_down ns)

module _ (net : Plan) (router : ℕ) (table : Table) (numbers : List ℕ) (rows : List Row) (is : IsNetwork net) (routers : IsRouter net.routers router) (of : IsTableOf net router table)
    (are : numbers ≡ peers_of net router) (rising : AllPairs (λ u v. u < v) numbers) (exact : (v : ℕ) → (Contains numbers v ↔ Linked net.links router v)) (fresh : AreFresh net.origins table (length numbers) net.origins rows) where
  abbrev peers : List Peer
  peers = map down numbers

  abbrev keys : List PrefixView
  keys = map (λ (o : Origin). o.prefix) net.origins

  size : length peers ≡ length numbers
  size = length-map numbers down

  all_down : (k : ℕ) (p : Peer) → slice_get peers k ≡ Some p → p.up ≡ false
  all_down k p at = let x = from_map down numbers k p at in ap (λ (y : Peer). y.up) x.2

  -- the origin of a row, and what is known of it
  of_row : (i : ℕ) (r : Row) → slice_get rows i ≡ Some r → (o : Origin) × (slice_get net.origins i ≡ Some o) × IsFresh net.origins table (length numbers) o r
  of_row i r at =
      let lt = slice_get_within rows i r at in
      let long = fresh.long in
      let here = within net.origins i (omega (arith, lt, long)) in
      (here.0, here.1, fresh.each i here.0 r here.1 at)

  first_row : (i : ℕ) (r : Row) → slice_get rows i ≡ Some r → IsRow net router peers r
  first_row i r at =
      let x = of_row i r at in
      let f = x.2 in
      record {
        heard = f.heard ∙ sym size;
        sent = f.sent ∙ sym size;
        speaks = λ t other. subst (λ (u : Table). Speaks r.policy u r.prefix) (one_table net router table t is of other) (subst (Speaks r.policy table) (sym f.prefix) f.speaks);
        own = λ t other. subst (λ (u : Table). r.own ≡ true ↔ Originates u r.prefix u.router) (one_table net router table t is of other)
            (subst (λ (q : PrefixView). r.own ≡ true ↔ Originates table q table.router) (sym f.prefix) (subst (λ (os : List Origin). r.own ≡ true ↔ IsOrigin os table.router x.0.prefix) (sym of.1) f.own));
      }

  first_rows : AreRows net router peers keys rows
  first_rows = record {
    network = is;
    routers = routers;
    numbers = numbers_down numbers ∙ are;
    apart = λ i j d lt below e.
        let under : j < length numbers = omega (arith, below, size) in
        let a = get_or-map down numbers i 0 d (omega (arith, lt, under)) in
        let b = get_or-map down numbers j 0 d under in
        let up = rising i j 0 lt under in
        let same : get_or numbers i 0 ≡ get_or numbers j 0 = sym (ap (λ (p : Peer). p.asn) a) ∙ e ∙ ap (λ (p : Peer). p.asn) b in
        omega (arith, up, same);
    linked = λ v link.
        let c = (exact v).1 link in
        (c.0, down v, to_map down numbers c.0 v (slice_get-get_or numbers c.0 v c.1 ∙ ap Some c.2), refl);
    known = λ k p at.
        let x = from_map down numbers k p at in
        let c : Contains numbers x.0 = (k, slice_get_within numbers k x.0 x.1, get_or_from_slice_get numbers k x.0 x.0 x.1) in
        subst (Linked net.links router) (sym (ap (λ (y : Peer). y.asn) x.2)) ((exact x.0).0 c);
    listed = sym (maps_by_places (λ (r : Row). r.prefix) (λ (o : Origin). o.prefix) rows net.origins fresh.long (λ i r o at there. (fresh.each i o r there at).prefix));
    named = refl;
    each = first_row;
  }

  -- nothing is heard, so the empty path is the best
  first_best : (i : ℕ) (r : Row) → slice_get rows i ≡ Some r → IsRowBest net router peers r r.kept
  first_best i r at =
      let x = of_row i r at in
      let f = x.2 in
      let own = (first_row i r at).own table of in (
        table,
        of,
        elim (cases_Bool r.own) [
          | inl t ↦ inl (own.0 t, inr ((λ o. false≢true (sym f.originated ∙ o)), f.kept))
          | inr n ↦ inr ((λ o. both_ways r.own n (own.1 o)), inr (f.kept, λ other c. false≢true (sym (all_down c.heard.place c.heard.peer c.heard.at) ∙ c.heard.up)))
        ],
      )

  pub first_rib : (dirty : PlaceSet) (waits : List PlaceSet) → ((i : ℕ) → has dirty i ≡ false) → length waits ≡ length numbers → All (λ (w : PlaceSet). (i : ℕ) → has w i ≡ false) waits
      → IsRib net router peers keys rows dirty waits
  first_rib dirty waits clean long empty = record {
    whole = first_rows;
    decided = λ i r at out. first_best i r at;
    told = record {
      long = long ∙ sym size;
      each = λ k p w at there i r here.
          let none : has w i ≡ false = ap (λ (s : PlaceSet). has s i) (sym (get_or_from_slice_get waits k w w there)) ∙ empty k w (slice_get_within waits k w there) i in
          (λ t. absurd (both_ways (has w i) none t), λ u. absurd (false≢true (sym (all_down k p at) ∙ u.0)));
    };
  }

  first_words : (line : Row → List Word) → ((i : ℕ) (r : Row) → slice_get rows i ≡ Some r → (length (line r) ≡ length numbers) × All (λ (w : Word). w ≡ nothing) (line r)) → IsSilent (said_in line peers rows)
  first_words line silent v q = elim (row_or_not rows q) [
    | inr none ↦ no_row v q line peers rows none
    | inl row ↦ elim (peer_or_not peers v) [
      | inr none ↦ no_peer v q line peers rows none
      | inl peer ↦
          let s = silent row.0 row.1 row.2 in
          let lt = slice_get_within peers peer.0 peer.1 peer.2 in
          let under : peer.0 < length (line row.1) = (let l = s.0 in omega (arith, lt, l, size)) in
          let word : slice_get (line row.1) peer.0 ≡ Some nothing = slice_get-get_or (line row.1) peer.0 nothing under ∙ ap Some (s.1 peer.0 nothing under) in
          old_word net router peers keys rows first_rows (λ r. r) (λ r. refl) line v q row.0 peer.0 row.1 peer.1 nothing row.2 row.3 peer.2 peer.3 word
    ]
  ]

  pub first_view : IsNew net router (view_of net router peers rows)
  first_view = record {
    network = refl;
    number = refl;
    heard = first_words (λ r. r.heard) (λ i r at. let f = (of_row i r at).2 in (f.heard, f.nothing_heard));
    sent = first_words (λ r. r.sent) (λ i r at. let f = (of_row i r at).2 in (f.sent, f.nothing_sent));
    established = λ v c. let x = listed_up peers v c in false≢true (sym (all_down x.0 x.1 x.2) ∙ x.3);
    originated = λ q c. let x = listed_originated rows q c in let f = (of_row x.0 x.1 x.2).2 in false≢true (sym f.originated ∙ x.3);
    kept = λ q. elim (row_or_not rows q) [
      | inr none ↦ no_kept rows q none
      | inl row ↦ kept_at rows q row.0 row.1 (once net router peers keys rows first_rows) row.2 row.3 ∙ (of_row row.0 row.1 row.2).2.kept
    ];
  }
