use Rattle.std.proofs.Common.{arith}
use Rattle.std.proofs.lemmas.List.Sums.{count_by-le-length}
use Rattle.thread_engines.proofs.GateLemmas.{few_links, opening_len, is_of}
use Rattle.thread_engines.proofs.chores.opening_len.Goals as goal

pub overflow_add-result : goal.overflow_add-result
overflow_add-result c =
    let n = c.args.network.now in
    let p = c.built.ensures.network.plan in
    let routers = p.few in
    let origins = p.origins.few in
    let one = few_links n c.args.number c.links_of.result.now c.links_of.ensures.peers in
    let other = count_by-le-length (is_of c.args.number) n.origins in
    omega (arith, routers, origins, one, other, c.count_prefixes.ensures)

pub returns : goal.returns
returns c =
    let all = opening_len c.args.network.now c.args.number c.links_of.result.now c.links_of.ensures.peers in
    omega (arith, all, c.count_prefixes.ensures)
