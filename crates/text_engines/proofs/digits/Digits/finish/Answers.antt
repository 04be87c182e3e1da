use Rattle.std.proofs.Common.{inl, inr}
use Rattle.text_engines.proofs.DigitLemmas.{wrong_end}
use Rattle.text_engines.proofs.digits.Digits.finish.Goals.{in_default-via-in-None+else-self, in_default-via-in_default}
use Rattle.text_engines.proofs.digits.Digits.finish.Goals as goal

pub returns-in_default : goal.returns-in_default
returns-in_default c = elim c.in_default.branch [
  | in_default-via-in-None+else-self w ↦ λ taken digits has. wrong_end digits _ _ _ (inl w.if-self.false) has
  | in_default-via-in_default w ↦ λ taken digits has. wrong_end digits _ _ _ (inr (w.in_default.field-0, w.in_default.is)) has
]
