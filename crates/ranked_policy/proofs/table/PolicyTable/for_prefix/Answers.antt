use Rattle.std.proofs.lemmas.Bool.{iff_false}
use Rattle.ranked_policy.specs.Policies.{Table}
use Rattle.ranked_policy.proofs.TableLemmas.{origin_iff, only_permits, only_prefers, ranked_permits, ranked_prefers, shortest_permits, shortest_prefers}
use Rattle.ranked_policy.proofs.table.PolicyTable.for_prefix.Goals as goal

pub returns-then-is_at-clause-permits : goal.returns-then-is_at-clause-permits
returns-then-is_at-clause-permits c =
    let t : Table = record { router = c.self.inside.router; rules = c.self.inside.rules.now; origins = c.self.inside.origins.now } in
    let q = c.args.prefix.now in
    let iff = origin_iff c.self.invariant.all t.origins q c.origin_of-origin.result c.self.invariant.origins c.origin_of-origin.ensures in
    rw (← c.self.view_is) (λ path. only_permits t q path ((iff t.router).0 (c.is_at.ensures.0 c.if-is_at.true)))

pub returns-then-is_at-clause-prefers : goal.returns-then-is_at-clause-prefers
returns-then-is_at-clause-prefers c =
    let t : Table = record { router = c.self.inside.router; rules = c.self.inside.rules.now; origins = c.self.inside.origins.now } in
    let q = c.args.prefix.now in
    let iff = origin_iff c.self.invariant.all t.origins q c.origin_of-origin.result c.self.invariant.origins c.origin_of-origin.ensures in
    rw (← c.self.view_is) (λ a b. only_prefers t q a b ((iff t.router).0 (c.is_at.ensures.0 c.if-is_at.true)))

pub returns-in-Some-clause-permits : goal.returns-in-Some-clause-permits
returns-in-Some-clause-permits c =
    let t : Table = record { router = c.self.inside.router; rules = c.self.inside.rules.now; origins = c.self.inside.origins.now } in
    let q = c.args.prefix.now in
    let iff = origin_iff c.self.invariant.all t.origins q c.origin_of-origin.result c.self.invariant.origins c.origin_of-origin.ensures in
    rw (← c.self.view_is, c.as_slice.ensures)
    (λ path. ranked_permits t c.self.invariant c.a_prefix_is_its_bits.ensures.length c.a_prefix_is_its_bits.ensures.once q c.origin_of-origin.result c.in-Some.rule.now path iff
    (λ is. iff_false c.is_at.ensures c.if-is_at.false ((iff t.router).1 is)) c.in-Some.ensures)

pub returns-in-Some-clause-prefers : goal.returns-in-Some-clause-prefers
returns-in-Some-clause-prefers c =
    let t : Table = record { router = c.self.inside.router; rules = c.self.inside.rules.now; origins = c.self.inside.origins.now } in
    let q = c.args.prefix.now in
    let iff = origin_iff c.self.invariant.all t.origins q c.origin_of-origin.result c.self.invariant.origins c.origin_of-origin.ensures in
    rw (← c.self.view_is, c.as_slice.ensures)
    (λ a b. ranked_prefers t c.self.invariant c.a_prefix_is_its_bits.ensures.length c.a_prefix_is_its_bits.ensures.once q c.in-Some.rule.now a b
    (λ is. iff_false c.is_at.ensures c.if-is_at.false ((iff t.router).1 is)) c.in-Some.ensures)

pub returns-in-None-clause-permits : goal.returns-in-None-clause-permits
returns-in-None-clause-permits c =
    let t : Table = record { router = c.self.inside.router; rules = c.self.inside.rules.now; origins = c.self.inside.origins.now } in
    let q = c.args.prefix.now in
    let iff = origin_iff c.self.invariant.all t.origins q c.origin_of-origin.result c.self.invariant.origins c.origin_of-origin.ensures in
    rw (← c.self.view_is)
    (λ path. shortest_permits t q c.origin_of-origin.result path iff (λ is. iff_false c.is_at.ensures c.if-is_at.false ((iff t.router).1 is)) c.in-None.ensures)

pub returns-in-None-clause-prefers : goal.returns-in-None-clause-prefers
returns-in-None-clause-prefers c =
    let t : Table = record { router = c.self.inside.router; rules = c.self.inside.rules.now; origins = c.self.inside.origins.now } in
    let q = c.args.prefix.now in
    let iff = origin_iff c.self.invariant.all t.origins q c.origin_of-origin.result c.self.invariant.origins c.origin_of-origin.ensures in
    rw (← c.self.view_is)
    (λ a b. shortest_prefers t q a b (λ is. iff_false c.is_at.ensures c.if-is_at.false ((iff t.router).1 is)) c.in-None.ensures)
