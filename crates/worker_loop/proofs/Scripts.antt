-- A script's chores.
use Rattle.std.proofs.Common.{◌≡◌, ℕ, zero, suc, ◌+◌, List, [], ◌∷◌, ◌++◌, length, refl, sym, ap, ◌∙◌, add-one, arith, length-append}
use Rattle.worker_loop.specs.declared.chore.Chore.{Chore}
use Rattle.worker_loop.specs.Script.{chore_at, chores_of}

counted : (script : List (ℕ × Chore)) (n : ℕ) → length (chores_of script n) ≡ n
counted script zero = refl
counted script (suc n) =
    let h = counted script n in
    length-append (chores_of script n) (chore_at script n ∷ []) ∙ (let e : length (chores_of script n) + 1 ≡ suc n = omega arith in e)

pub next_is : (script : List (ℕ × Chore)) (count turn m : ℕ) (c : Chore) → turn ≡ length (chores_of script count) → m ≡ turn → c ≡ chore_at script turn
    → chores_of script (m + 1) ≡ chores_of script count ++ c ∷ []
next_is script count turn m c t e is =
    let same : turn ≡ count = t ∙ counted script count in
    ap (chores_of script) (ap (λ k. k + 1) (e ∙ same) ∙ add-one count) ∙ ap (λ x. chores_of script count ++ x ∷ []) (ap (chore_at script) (sym same) ∙ sym is)
