use Rattle.std.proofs.Common.{ℕ, Option, ◌++◌, refl, subst}
use Rattle.text_engines.proofs.DigitLemmas.{Has, adds_behind, completed}
use Rattle.text_engines.proofs.digits.Digits.complete.Goals as goal

pub returns : goal.returns
returns c =
    let self = c.args.self.now in
    record {
      whole = refl;
      read = λ taken before has. completed before (taken ++ self.octets.items) (taken ++ c.append_octets.new.octets.items) self.are_hex c.in_ok-self.field-0 c.args.high c.args.low (adds_behind taken _ _ _ _ c.in_ok-self.ensures)
          (subst (λ (half : Option ℕ). Has self.are_hex (taken ++ self.octets.items) half before) c.requires has);
    }
