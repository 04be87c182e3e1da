-- What a buffer had stays in front of what is appended to it.
use Rattle.std.proofs.Common.{◌≡◌, ℕ, ◌≤◌, arith, List, ◌++◌, length, take, sym, ap, ◌∙◌}
use Rattle.std.proofs.lemmas.List.{length-take, take-take}
use Rattle.std.proofs.Math.Seq.{take-append_seam}

fits : (old new : List ℕ) → take (length old) new ≡ old → length old ≤ length new
fits old new h = omega (arith, ap length h, length-take (length old) new)

-- one append, and another behind it
pub kept_on : (old mid new : List ℕ) → take (length old) mid ≡ old → take (length mid) new ≡ mid → take (length old) new ≡ old
kept_on old mid new h k = sym (take-take (length old) (length mid) new (fits old mid h)) ∙ ap (take (length old)) k ∙ h

-- a text behind it
pub kept_before : (old mid new more : List ℕ) → take (length old) mid ≡ old → new ≡ mid ++ more → take (length old) new ≡ old
kept_before old mid new more h e = kept_on old mid new h (ap (take (length mid)) e ∙ take-append_seam mid more)
