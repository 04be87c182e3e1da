use Rattle.std.proofs.Common.{◌*◌, ◌%◌, ◌^◌, List, ℕ, set, ap, length, subst, sym, refl, arith}
use Rattle.std.proofs.lemmas.Nat.Bits.{bit_at-pow_same}
use Rattle.std.proofs.lemmas.Grind.{one_shifted}
use Rattle.stable_search.specs.Picks.{Has, AddsAll}
use Rattle.stable_search.proofs.SampleLemmas.{no_pick_has}
use Rattle.stable_search.proofs.sampling.try_value.Goals as goal

pub returns-in-Ok-clause-tried : goal.returns-in-Ok-clause-tried
returns-in-Ok-clause-tried c = λ pick s e.
    let value = c.args.value in
    let bits : ℕ = 1 * 2 ^ value % 18446744073709551616 in
    let here : Has bits value = subst (λ (n : ℕ). Has n value) (sym (one_shifted value 18446744073709551615 refl c.requires.value).0) (bit_at-pow_same value) in
    let none = ap length c.new-found.ensures.items in
    let adds = subst (λ (xs : List ℕ). AddsAll c.args.ways.now (set xs c.args.place bits) c.new-found.result.items c.search.new.found.items) c.in_ok-one.ensures.items c.in-Ok.ensures.all in
    absurd (no_pick_has c.args.ways.now c.args.sets.now c.args.place value bits c.requires.place here c.new-found.result.items c.search.new.found.items adds (c.in-Ok.ensures.most (omega (arith, none))) pick s e)
