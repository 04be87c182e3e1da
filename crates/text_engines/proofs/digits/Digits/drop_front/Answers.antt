use Rattle.std.proofs.Common.{◌≡◌, ◌+◌, ◌-◌, length, take, drop, ap, ◌∙◌, arith, rules, length-drop, take_all}
use lib.Seq.{paste}
use Rattle.std.proofs.lemmas.List.Edits.{take-paste}
use Rattle.text_engines.proofs.DigitLemmas.{took}
use Rattle.text_engines.proofs.digits.Digits.drop_front.Goals as goal

pub returns : goal.returns
returns c =
    let all = c.args.self.now.octets.items in
    let n = c.args.count in
    let left = c.args.self.now.octets.len - n in
    let long : length all ≡ c.args.self.now.octets.len = search rules in
    let same : left ≡ 0 + left = omega arith in
    let size : length (drop n all) ≡ left = omega (arith, length-drop n all) in
    let rest : c.truncate.new.self.items ≡ drop n all
    = c.truncate.ensures.items ∙ ap (λ k. take (k - n) c.copy_within.new.self.items) c.len.ensures ∙ ap (take left) c.copy_within.ensures.items
    ∙ ap (λ k. take k (paste all 0 (drop n all) left)) same ∙ take-paste all 0 (drop n all) left (omega arith) (omega arith) ∙ take_all left (drop n all) (omega arith)
    in
    λ taken digits has. took taken all _ digits n _ _ rest has
