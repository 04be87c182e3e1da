use Rattle.std.proofs.Common.{◌≡◌, ◌==◌, ◌∷◌, Bool, true, false, length, Option, None, Some, refl, sym, arith, not}
use Rattle.std.specs.Prelude.{is_some}
use denote.Ref.{Bor}
use Rattle.std.proofs.lemmas.Bool.{ne_eqb}
use Rattle.net_text.specs.Lexing.{Text}
use Rattle.net_text.specs.Taking.{parts_in}
use Rattle.net_text.proofs.WordLemmas.{some_part}
use Rattle.net_text.proofs.numbers.Parts.is_empty.Goals as goal

by_left : (left : Option (Bor Text)) (b : Bool) → is_some left ≡ not b → b ≡ (length (parts_in left) == 0)
by_left None true e = refl
by_left None false e = absurd cc
by_left (Some word) true e = absurd cc
by_left (Some word) false e = some_part (λ ps. false ≡ (length ps == 0)) 45 word.now (λ y ys. sym (ne_eqb (length (y ∷ ys)) 0 (λ n. absurd (omega (arith, n)))))

pub returns : goal.returns
returns c = by_left c.args.self.now.0 c.is_none.result c.is_none.ensures
