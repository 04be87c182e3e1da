-- Paths, one number more at a time.
use Rattle.std.proofs.Common.{◌≡◌, ℕ, ◌+◌, ◌<◌, List, [], ◌∷◌, ◌++◌, length, take, sym, ap, ◌∙◌, append_assoc}
use Rattle.std.specs.Prelude.{slice_set}
use Rattle.std.proofs.lemmas.List.{take_more_set}

-- one more is taken of what is left
pub taken_on : (taken all left rest : List ℕ) (count v : ℕ) → count < length taken → left ≡ v ∷ rest → all ≡ take count taken ++ left → all ≡ take (count + 1) (slice_set taken count v) ++ rest
taken_on taken all left rest count v lt l w =
    w ∙ ap (λ (ns : List ℕ). take count taken ++ ns) l
    ∙ sym (append_assoc (take count taken) (v ∷ []) rest)
    ∙ ap (λ (ns : List ℕ). ns ++ rest) (sym (take_more_set taken count v lt))
