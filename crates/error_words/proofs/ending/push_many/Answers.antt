-- what was there leaves, since as many octets come
use Rattle.std.proofs.Common.{◌≡◌, ◌-◌, ◌+◌, ◌++◌, ℕ, length, drop, sym, ap, ◌∙◌, arith}
use Rattle.std.proofs.Math.Seq.{drop-append-add}
use Rattle.error_words.proofs.ending.push_many.Goals as goal

pub returns : goal.returns
returns c =
    let last = c.args.last.now in
    let octets = c.args.octets.now in
    let n = length octets - length last in
    let whole : length last + n ≡ length octets = omega (arith, c.requires) in
    c.copy_from_slice.ensures.after ∙ c.split_at.ensures.back ∙ sym (drop-append-add last octets n) ∙ ap (λ (k : ℕ). drop k (last ++ octets)) whole
