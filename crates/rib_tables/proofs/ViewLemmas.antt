-- What look-ups see of rows.
use Rattle.std.proofs.Common.{◌≡◌, ℕ, zero, suc, true, false, List, [], ◌∷◌, ◌++◌, refl, sym, ap, ◌∙◌, arith, inl, inr, ◌⊎◌, Some}
use Rattle.std.specs.Prelude.{◌==◌}
use Rattle.std.specs.List.{slice_get}
use Rattle.std.proofs.lemmas.Bool.{cases_Bool, both_ways, false_from_ne_true, and_from, eq-eqb, eqb-true}
use Rattle.std.proofs.lemmas.Option.{slice_get_within, same_Some}
use Rattle.prefix_lanes.specs.Bits.{PrefixView, is_prefix}
use Rattle.rib_tables.specs.declared.word.Word.{Word}
use Rattle.rib_tables.specs.Tables.{Said}
use Rattle.rib_tables.specs.declared.row.Peer.{Peer}
use Rattle.rib_tables.specs.declared.row.Row.{Row}
use Rattle.rib_tables.specs.Words.{nothing}
use Rattle.rib_tables.specs.Tables.{Words, word_of, is_of}
use Rattle.rib_tables.specs.Rows.{says_in, said_in}
use Rattle.rib_tables.proofs.WordLemmas.{is_prefix-from, is_of-true, word_of-first, word_of-next}

nothing_of : (v : ℕ) (q : PrefixView) → word_of [] v q ≡ nothing
unfolding word_of
nothing_of v q = refl

is_of-from : (s : Said) (v : ℕ) (q : PrefixView) → s.peer ≡ v → is_prefix s.prefix q ≡ true → is_of s v q ≡ true
is_of-from s v q e t = and_from (s.peer == v) (is_prefix s.prefix q) (eq-eqb s.peer v e) t

not_of : (s : Said) (v : ℕ) (q : PrefixView) → ((s.peer ≡ v) → (s.prefix ≡ q) → ⊥) → is_of s v q ≡ false
not_of s v q never = false_from_ne_true (is_of s v q) (λ t. let parts = is_of-true s v q t in never parts.0 parts.1)

-- a peer that is not among these
abbrev pub NoPeer : List Peer → ℕ → Type 0
NoPeer peers v = (k : ℕ) (p : Peer) → slice_get peers k ≡ Some p → p.asn ≡ v → ⊥

-- the place of a peer, or none
pub peer_or_not : (peers : List Peer) (v : ℕ) → ((k : ℕ) × (p : Peer) × (slice_get peers k ≡ Some p) × (p.asn ≡ v)) ⊎ NoPeer peers v
peer_or_not [] v = inr (λ k p at e. let lt = slice_get_within [] k p at in omega (arith, lt))
peer_or_not (x ∷ xs) v = elim (cases_Bool (x.asn == v)) [
  | inl t ↦ inl (0, x, refl, eqb-true x.asn v t)
  | inr f ↦ elim (peer_or_not xs v) [
    | inl there ↦ inl (suc there.0, there.1, there.2, there.3)
    | inr none ↦ inr (none_in f none)
  ]
]
  where
    none_in : (x.asn == v) ≡ false → NoPeer xs v → NoPeer (x ∷ xs) v
    none_in f none zero p at e = both_ways (x.asn == v) f (eq-eqb x.asn v (ap (λ (y : Peer). y.asn) (same_Some x p at) ∙ e))
    none_in f none (suc k) p at e = none k p at e

module _ (v : ℕ) (q : PrefixView) where
  -- the words for another prefix say nothing of this one
  skip : (peers : List Peer) (p : PrefixView) (ws : List Word) (rest : Words) → (p ≡ q → ⊥) → word_of (says_in peers p ws ++ rest) v q ≡ word_of rest v q
  skip [] p ws rest apart = refl
  skip (x ∷ xs) p [] rest apart = refl
  skip (x ∷ xs) p (w ∷ ws) rest apart =
      let s : Said = record { peer = x.asn; prefix = p; word = w } in
      word_of-next v q s (says_in xs p ws ++ rest) (not_of s v q (λ _ e. apart e)) ∙ skip xs p ws rest apart

  -- nor those of other peers
  miss : (peers : List Peer) (p : PrefixView) (ws : List Word) (rest : Words) → NoPeer peers v → word_of (says_in peers p ws ++ rest) v q ≡ word_of rest v q
  miss [] p ws rest none = refl
  miss (x ∷ xs) p [] rest none = refl
  miss (x ∷ xs) p (w ∷ ws) rest none =
      let s : Said = record { peer = x.asn; prefix = p; word = w } in
      word_of-next v q s (says_in xs p ws ++ rest) (not_of s v q (λ e _. none 0 x refl e)) ∙ miss xs p ws rest (λ k y at e. none (suc k) y at e)

  hit : (peers : List Peer) (ws : List Word) (rest : Words) (k : ℕ) (x : Peer) (w : Word) → ((i j : ℕ) (a b : Peer) → slice_get peers i ≡ Some a → slice_get peers j ≡ Some b → a.asn ≡ b.asn → i ≡ j)
      → slice_get peers k ≡ Some x → x.asn ≡ v → slice_get ws k ≡ Some w → word_of (says_in peers q ws ++ rest) v q ≡ w
  hit [] ws rest k x w once at e word = absurd (let lt = slice_get_within [] k x at in omega (arith, lt))
  hit (y ∷ ys) [] rest k x w once at e word = absurd (let lt = slice_get_within [] k w word in omega (arith, lt))
  hit (y ∷ ys) (u ∷ us) rest zero x w once at e word =
      let s : Said = record { peer = y.asn; prefix = q; word = u } in
      word_of-first v q s (says_in ys q us ++ rest) (is_of-from s v q (ap (λ (p : Peer). p.asn) (same_Some y x at) ∙ e) (is_prefix-from q q refl)) ∙ same_Some u w word
  hit (y ∷ ys) (u ∷ us) rest (suc k) x w once at e word =
      let s : Said = record { peer = y.asn; prefix = q; word = u } in
      word_of-next v q s (says_in ys q us ++ rest) (not_of s v q (λ same _. absurd (let z = once 0 (suc k) y x refl at (same ∙ sym e) in cc)))
      ∙ hit ys us rest k x w (λ i j a b p r f. let z = once (suc i) (suc j) a b p r f in omega (arith, z)) at e word

  module _ (line : Row → List Word) (peers : List Peer) where
    pub no_row : (rows : List Row) → ((i : ℕ) (r : Row) → slice_get rows i ≡ Some r → r.prefix ≡ q → ⊥) → word_of (said_in line peers rows) v q ≡ nothing
    no_row [] none = nothing_of v q
    no_row (r ∷ rs) none = skip peers r.prefix (line r) (said_in line peers rs) (none 0 r refl) ∙ no_row rs (λ i s at e. none (suc i) s at e)

    pub no_peer : (rows : List Row) → NoPeer peers v → word_of (said_in line peers rows) v q ≡ nothing
    no_peer [] none = nothing_of v q
    no_peer (r ∷ rs) none = miss peers r.prefix (line r) (said_in line peers rs) none ∙ no_peer rs none

    pub word_at : (rows : List Row) (i k : ℕ) (r : Row) (x : Peer) (w : Word) → ((a b : ℕ) (c d : Peer) → slice_get peers a ≡ Some c → slice_get peers b ≡ Some d → c.asn ≡ d.asn → a ≡ b)
        → ((a b : ℕ) (c d : Row) → slice_get rows a ≡ Some c → slice_get rows b ≡ Some d → c.prefix ≡ d.prefix → a ≡ b)
        → slice_get rows i ≡ Some r → r.prefix ≡ q → slice_get peers k ≡ Some x → x.asn ≡ v → slice_get (line r) k ≡ Some w → word_of (said_in line peers rows) v q ≡ w
    word_at [] i k r x w once apart at is peer e word = absurd (let lt = slice_get_within [] i r at in omega (arith, lt))
    word_at (s ∷ ss) zero k r x w once apart at is peer e word =
        let same : s ≡ r = same_Some s r at in
        let key : s.prefix ≡ q = ap (λ (y : Row). y.prefix) same ∙ is in
        ap (λ (p : PrefixView). word_of (says_in peers p (line s) ++ said_in line peers ss) v q) key
        ∙ hit peers (line s) (said_in line peers ss) k x w once peer e (ap (λ (y : Row). slice_get (line y) k) same ∙ word)
    word_at (s ∷ ss) (suc i) k r x w once apart at is peer e word =
        skip peers s.prefix (line s) (said_in line peers ss) (λ same. absurd (let z = apart 0 (suc i) s r refl at (same ∙ sym is) in cc))
        ∙ word_at ss i k r x w once (λ a b c d m n f. let z = apart (suc a) (suc b) c d m n f in omega (arith, z)) at is peer e word
