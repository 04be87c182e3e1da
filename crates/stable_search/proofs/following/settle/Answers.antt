use Rattle.std.proofs.Common.{◌≡◌, ◌*◌, ◌%◌, ◌^◌, ◌∙◌, ℕ, get_or, set, sym, subst}
use Rattle.std.specs.Int.RustNames.{bit_or}
use Rattle.std.proofs.lemmas.List.{get_or_default}
use Rattle.stable_search.specs.Following.{IsSettled}
use Rattle.stable_search.proofs.SettleLemmas.{settled_on}
use Rattle.stable_search.proofs.following.settle.Goals as goal

pub returns : goal.returns
returns c =
    let settled = c.args.settled.now.items in
    let place = c.args.place in
    let value = c.args.value in
    let old = c.index_mut.result.now in
    let is : old ≡ get_or settled place 0 = c.index_mut.ensures.value ∙ sym (get_or_default settled place 0 old c.requires.place) in
    subst (λ (n : ℕ). IsSettled settled place value (set settled place (bit_or n (1 * 2 ^ value % 18446744073709551616)))) (sym is)
    (settled_on settled place value c.requires.place c.requires.value)
