use Rattle.std.proofs.Common.{◌≡◌, get_or, length, rules, refl, arith, inl, inr}
use Rattle.std.proofs.lemmas.Bool.{cases_order}
use Rattle.std.proofs.lemmas.List.{get_or_past}
use Rattle.rib_tables.proofs.PlaceLemmas.{has-first, has-none}
use Rattle.rib_tables.proofs.place_set.PlaceSet.first.Goals as goal

pub returns-then-word-ne0 : goal.returns-then-word-ne0
returns-then-word-ne0 c =
    let ws = c.args.self.now.words in
    let k = c.loop-index.index in
    has-first ws k (get_or ws k 0) (search rules) (search rules) refl (search rules) (search rules) c.loop-index.invariant

pub returns : goal.returns
returns c =
    let ws = c.args.self.now.words in
    let four : length ws ≡ 4 = search rules in
    has-none ws (λ j. elim (cases_order j 4) [
      | inl e ↦ get_or_past ws j 0 (omega (arith, four, e))
      | inr differ ↦ elim differ [ inl l ↦ c.loop-index.invariant j (omega (arith, l, c.loop-index-test.false)) | inr m ↦ get_or_past ws j 0 (omega (arith, four, m)) ]
    ])
