-- There is one answer to which entry is the longest that covers.
use Rattle.std.proofs.Common.{◌≡◌, ℕ, suc, ◌+◌, ◌-◌, ◌<◌, ◌≤◌, List, ◌∷◌, ◌++◌, length, Some, None, refl, sym, ap, subst, ◌∙◌, arith, get_or, inl, inr, length-append}
use Rattle.std.specs.List.{All}
use Rattle.std.proofs.Math.ListN.{get_or-append}
use Rattle.std.proofs.Math.Seq.{get_or-append_seam, get_or-append_right}
use Rattle.std.proofs.lemmas.Bool.{cases_order}
use Rattle.prefix_lanes.specs.Bits.{PrefixView, Covers}
use Rattle.prefix_lanes.specs.Covering.{StandsAt, OneLongest}

entry_at : (entries : List PrefixView) (q : PrefixView) (at : ℕ) (p : PrefixView) → StandsAt entries q at p → (d : PrefixView) → get_or entries at d ≡ p
entry_at entries q at p s d = ap (λ xs. get_or xs at d) s.whole ∙ ap (λ k. get_or (s.before ++ p ∷ s.behind) k d) (sym s.place) ∙ get_or-append_seam s.before p s.behind d

inside : (entries : List PrefixView) (q : PrefixView) (at : ℕ) (p : PrefixView) → StandsAt entries q at p → at < length entries
inside entries q at p s = omega (arith, s.place, ap length s.whole, length-append s.before (p ∷ s.behind))

-- an earlier entry that covers is shorter, and the later one is no longer than it
never_later : (entries : List PrefixView) (q : PrefixView) (a b : ℕ) (p r : PrefixView) → StandsAt entries q a p → StandsAt entries q b r → a < b → ⊥
never_later entries q a b p r s t l =
    let early : get_or t.before a p ≡ p =
    sym (get_or-append t.before (r ∷ t.behind) p a (omega (arith, l, t.place))) ∙ ap (λ xs. get_or xs a p) (sym t.whole) ∙ entry_at entries q a p s p in
    let late : get_or (p ∷ s.behind) (b - length s.before) r ≡ r =
    sym (get_or-append_right s.before (p ∷ s.behind) b r (omega (arith, l, s.place))) ∙ ap (λ xs. get_or xs b r) (sym s.whole) ∙ entry_at entries q b r t r in
    let n : b - length s.before ≡ suc (b - length s.before - 1) = omega (arith, l, s.place) in
    let later : get_or s.behind (b - length s.before - 1) r ≡ r = ap (λ k. get_or (p ∷ s.behind) k r) (sym n) ∙ late in
    let covers_early : Covers (get_or t.before a p) q = subst (λ e. Covers e q) (sym early) s.covers in
    let covers_late : Covers (get_or s.behind (b - length s.before - 1) r) q = subst (λ e. Covers e q) (sym later) t.covers in
    let long : length entries ≡ length s.before + suc (length s.behind) = ap length s.whole ∙ length-append s.before (p ∷ s.behind) in
    let shorter : (get_or t.before a p).len < r.len = t.shorter a p (omega (arith, l, t.place)) covers_early in
    let no_longer : (get_or s.behind (b - length s.before - 1) r).len ≤ p.len =
    s.no_longer (b - length s.before - 1) r (omega (arith, l, s.place, long, inside entries q b r t)) covers_late in
    omega (arith, shorter, no_longer, ap (λ e. e.len) early, ap (λ e. e.len) later)

not_none : (entries : List PrefixView) (q : PrefixView) (at : ℕ) (p : PrefixView) → All (λ e. Covers e q → ⊥) entries → StandsAt entries q at p → ⊥
not_none entries q at p none s = none at p (inside entries q at p s) (subst (λ e. Covers e q) (sym (entry_at entries q at p s p)) s.covers)

pub one_longest : OneLongest
one_longest entries q None None l m = refl
one_longest entries q None (Some b) l m = absurd (not_none entries q b m.0 l m.1)
one_longest entries q (Some a) None l m = absurd (not_none entries q a l.0 m l.1)
one_longest entries q (Some a) (Some b) l m = elim (cases_order a b) [
  | inl same ↦ ap Some same
  | inr other ↦ elim other [
    | inl below ↦ absurd (never_later entries q a b l.0 m.0 l.1 m.1 below)
    | inr above ↦ absurd (never_later entries q b a m.0 l.0 m.1 l.1 above)
  ]
]
