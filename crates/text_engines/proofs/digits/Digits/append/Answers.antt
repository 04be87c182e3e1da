use Rattle.std.proofs.Common.{◌≡◌, ℕ, List, Option, None, ◌++◌, ◌%◌, length, arith, subst}
use Rattle.text_engines.proofs.DigitLemmas.{Has, adds_behind, appended, parted, no_half, one_half}
use Rattle.text_engines.proofs.digits.Digits.append.Goals.{in-empty, in-len1-up}
use Rattle.text_engines.proofs.digits.Digits.append.Goals as goal

pub returns : goal.returns
returns c =
    let self = c.args.self.now in
    let digits = c.args.digits.now in
    let pairs = c.split_at.result.0.now in
    let last = c.split_at.result.1.now in
    let is : digits ≡ pairs ++ last = parted digits pairs last _ c.split_at.ensures.front c.split_at.ensures.back in
    let even : length pairs % 2 ≡ 0 = omega (arith, c.split_at.ensures.front_len) in
    let waits : (taken before : List ℕ) → Has self.are_hex (taken ++ self.octets.items) self.half before → Has self.are_hex (taken ++ self.octets.items) None before
    = λ taken before. subst (λ (half : Option ℕ). Has self.are_hex (taken ++ self.octets.items) half before) c.requires
    in
    elim c.if-last-lt1.branch [
      | in-empty w ↦ λ taken before has.
          appended before digits pairs last (taken ++ self.octets.items) (taken ++ c.append_octets.new.octets.items) self.are_hex c.in_ok-self.field-0 c.if-last-lt1.self is even (no_half last c.if-last-lt1.self w.in-empty.len_below w.self-is)
          (adds_behind taken pairs _ _ _ c.in_ok-self.ensures) (waits taken before has)
      | in-len1-up w ↦ λ taken before has.
          appended before digits pairs last (taken ++ self.octets.items) (taken ++ c.append_octets.new.octets.items) self.are_hex c.in_ok-self.field-0 c.if-last-lt1.self is even
          (one_half last c.if-last-lt1.self w.in-len1-up.len_at_least (omega (arith, c.split_at.ensures.back_len)) w.self-is) (adds_behind taken pairs _ _ _ c.in_ok-self.ensures) (waits taken before has)
    ]
