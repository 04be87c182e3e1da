-- What the peers of a row say, one peer more at a time.
use Rattle.std.proofs.Common.{◌≡◌, ℕ, ◌+◌, true, List, [], refl, sym, ap, ◌∙◌, arith, inl, inr, ◌⊎◌, Some}
use Rattle.std.specs.List.{slice_get}
use Rattle.std.proofs.lemmas.Bool.{cases_order}
use Rattle.std.proofs.lemmas.Option.{same_Some}
use Rattle.prefix_lanes.specs.Bits.{PrefixView}
use Rattle.ranked_policy.specs.Policies.{Table}
use Rattle.ranked_policy.specs.Choices.{IsFirstOrNone}
use Rattle.ranked_policy.proofs.ChoiceLemmas.{HearsMore, first_as}
use Rattle.rib_tables.specs.declared.word.Word.{Word}
use Rattle.rib_tables.specs.declared.word.Word.TheVariants.{Sequence}
use Rattle.rib_tables.specs.declared.row.Peer.{Peer}
use Rattle.rib_tables.specs.Words.{path_in}
use Rattle.rib_tables.specs.Rows.{RowHears}
use Rattle.rib_tables.proofs.ChoiceLemmas.{word_is}

module _ (peers : List Peer) (heard : List Word) where
  hears_more : (n v : ℕ) (p : List ℕ) → RowHears peers heard n v p → RowHears peers heard (n + 1) v p
  hears_more n v p h = record { place = h.place; below = omega (arith, h.below); peer = h.peer; at = h.at; up = h.up; number = h.number; word = h.word }

  -- what the first n + 1 peers say is said by the first n, or by the last of them
  hears_split : (n v : ℕ) (p : List ℕ) (w : Word) (x : Peer) → slice_get peers n ≡ Some x → slice_get heard n ≡ Some w → RowHears peers heard (n + 1) v p → RowHears peers heard n v p ⊎ ((x.up ≡ true) × (w ≡ Sequence p))
  hears_split n v p w x at word h = elim (cases_order h.place n) [
    | inl same ↦ inr (
      ap (λ (y : Peer). y.up) (same_Some x h.peer (sym at ∙ ap (λ (k : ℕ). slice_get peers k) (sym same) ∙ h.at)) ∙ h.up,
      same_Some w (Sequence p) (sym word ∙ ap (λ (k : ℕ). slice_get heard k) (sym same) ∙ h.word),
    )
    | inr differ ↦ elim differ [
      | inl less ↦ inl (record { place = h.place; below = less; peer = h.peer; at = h.at; up = h.up; number = h.number; word = h.word })
      | inr more ↦ absurd (let b = h.below in omega (arith, b, more))
    ]
  ]

  pub nothing_heard : (table : Table) (q : PrefixView) → IsFirstOrNone (RowHears peers heard 0) table q []
  nothing_heard table q = inr (refl, λ other c. absurd (let b = c.heard.below in omega (arith, b)))

  module _ (n : ℕ) (x : Peer) (w : Word) (at : slice_get peers n ≡ Some x) (word : slice_get heard n ≡ Some w) where
    -- a peer that is not up changes nothing
    pub row_silent : ((x.up ≡ true) → ⊥) → (table : Table) (q : PrefixView) (best : List ℕ) → IsFirstOrNone (RowHears peers heard n) table q best → IsFirstOrNone (RowHears peers heard (n + 1)) table q best
    row_silent down table q best =
        first_as table q (RowHears peers heard n) (RowHears peers heard (n + 1)) best (λ v p some h. hears_more n v p h)
        (λ v p some h. elim (hears_split n v p w x at word h) [ inl old ↦ old | inr new ↦ absurd (down new.0) ])

    -- one that is up says the path of its word
    pub row_hears : x.up ≡ true → (path : List ℕ) → path ≡ path_in w → HearsMore (RowHears peers heard n) (RowHears peers heard (n + 1)) x.asn path
    row_hears up path is = record {
      onto = hears_more n;
      here = λ some. record { place = n; below = omega arith; peer = x; at = at; up = up; number = refl; word = word ∙ ap Some (word_is w path is some) };
      back = λ v p some h. elim (hears_split n v p w x at word h) [ inl old ↦ inl old | inr new ↦ inr (sym (is ∙ ap path_in new.1)) ];
    }
