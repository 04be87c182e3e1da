use Rattle.std.proofs.Common.{ℕ, List, ◌≡◌, ◌*◌, ◌+◌, ◌≤◌, ◌++◌, length, take, get_or, ap, sym, ◌∙◌, arith}
use Rattle.std.proofs.lemmas.List.{take-append-drop}
use Rattle.router_side.specs.Layout.{announcement_hop, announcement_front, announcement_start}
use Rattle.router_side.proofs.Acting.{announcement_in}
use Rattle.router_side.proofs.Spelt.{front_parts}
use Rattle.router_side.proofs.told_path.announced.Goals as goal

pub returns-then-are-3 : goal.returns-then-are-3
returns-then-are-3 c =
    let q = c.in_ok-prefix.prefix in
    let id = c.from_be_bytes-id.result in
    let start = c.in_ok-start.start.now in
    let front = c.split_at.result.0.now in
    let segment = c.split_at.result.1.now in
    let count = get_or segment 2 0 in
    let size = c.asn_size.result * count in
    let l = length c.in_ok-hop.address.now in
    let some : 1 ≤ count = omega (arith, c.if-count-ge1.true) in
    let few : count ≤ 63 = omega (arith, c.if-count-le-MOST_NUMBERS.true) in
    let whole : start ≡ announcement_front count size l =
    sym (take-append-drop 29 start)
    ∙ ap (λ (xs : List ℕ). take 29 start ++ xs) (sym c.split_at.ensures.back)
    ∙ ap (λ (xs : List ℕ). xs ++ segment) (sym c.split_at.ensures.front ∙ c.are.ensures c.if-are.true ∙ c.announcement_start.ensures)
    ∙ ap (λ (xs : List ℕ). announcement_start (40 + size + l) (2 + size) ++ xs) (c.are-then-are.ensures c.if-are-2.true)
    ∙ front_parts count size l in (
      c.in_ok-prefix.ensures.canonical,
      announcement_in c.args.width c.args.frame.now start c.in_ok-start.rest.now c.in_ok-numbers.numbers.now c.in_ok-numbers.rest.now c.in_ok-hop.hop.now c.in_ok-hop.address.now 32 size 8 count id q
          c.in_ok-prefix.ensures.canonical c.in_ok-start.ensures.cases c.in_ok-numbers.ensures.cases c.in_ok-hop.ensures.cases (ap (λ (k : ℕ). k * count) c.asn_size.ensures) c.in_ok-prefix.ensures.octets some few
          (omega (arith, c.from_be_bytes-id.type_inv)) (sym c.is_unicast.ensures.test ∙ c.if-is_unicast.true) whole
          (c.are-then-are-2.ensures c.if-are-3.true ∙ c.announcement_hop.ensures ∙ ap (announcement_hop id) c.len.ensures.value),
    )
