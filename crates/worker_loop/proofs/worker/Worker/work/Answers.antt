use Rattle.std.proofs.Common.{◌≢◌, ◌≤◌, List, vec_capacity, inl, inr, length, length-append, replicate, arith, All, subst, ◌∙◌, ap, sym, ◌++◌, ◌∷◌, []}
use Rattle.std.proofs.lemmas.List.{length-replicate}
use Rattle.std.proofs.lemmas.List.Elements.{All-append, All-replicate}
use Rattle.worker_loop.specs.declared.chore.Chore.{Chore}
use Rattle.worker_loop.specs.declared.chore.Chore.TheVariants.{Turn, Stop}
use Rattle.worker_loop.specs.Following.{Obeys}
use Rattle.worker_loop.specs.Whole.{peers_of}
use Rattle.worker_loop.specs.Ending.{EndsChore}
use Rattle.worker_loop.proofs.Ending.{if_err, few_given, last_given, few_is_most}
use Rattle.worker_loop.proofs.Chaining.{did_at, did_from, did_more, seen_same, same_on, next_same, same_peers, pipes_stay, all_more, one_longer, obeys_of}
use Rattle.worker_loop.proofs.Passing.{passes_on}
use Rattle.worker_loop.proofs.worker.Worker.work.Goals as goal

pub pass-given-requires : goal.pass-given-requires
pass-given-requires g c =
    let i = c.chores.invariant in
    one_longer _ _ _ c.chores.given (ap g.G.Gate.given c.in_ok-passes.ensures.same.gate ∙ c.in_ok-chore.ensures.given) i.counted

pub one-requires : goal.one-requires
one-requires g c =
    let n = c.in_ok-chore.ensures in
    record { pipes = pipes_stay g.L.Pipes.stands g.L.Pipes.wiring _ _ (next_same _ _ _ _ c.chores.invariant.same n.rest) c.requires.pipes }

pub returns-in-Stop-clause-follows : goal.returns-in-Stop-clause-follows
returns-in-Stop-clause-follows g c =
    let u = c.args.self.now.router.number in
    let net = c.args.self.now.router.net in
    let i = c.chores.invariant in
    let n = c.in_ok-chore.ensures in
    let o = c.in_ok-passes.ensures in
    did_more (λ k x. Obeys k u (peers_of c.args.self.now) x) net _ _ c.in_ok-chore.chore _ _ _ (ap g.G.Gate.given o.same.gate ∙ n.given) i.follows
    (did_from (λ k. Obeys k u (peers_of c.args.self.now) c.in_ok-chore.chore) net _ _ _ (seen_same g.L.Pipes.put_to g.L.Pipes.taken_from g.L.Pipes.room g.D.Desk.made _ _ n.rest)
    (did_at (λ v k. Obeys k v (peers_of c.args.self.now) c.in_ok-chore.chore) net _ u _ _ _ (next_same _ _ _ _ i.same n.rest).net (next_same _ _ _ _ i.same n.rest).number
    (obeys_of _ _ _ _ _ _ _ (same_peers _ _ _ (next_same _ _ _ _ i.same n.rest)) o.done)))

pub chores-preserved : goal.chores-preserved
chores-preserved g c =
    let u = c.args.self.now.router.number in
    let net = c.args.self.now.router.net in
    let i = c.chores.invariant in
    let n = c.in_ok-chore.ensures in
    let o = c.in_ok-passes.ensures in
    let given = ap g.G.Gate.given o.same.gate ∙ n.given in
    let here = next_same _ _ _ _ i.same n.rest in
    let p = c.pass-given.ensures in
    let turns = All-replicate (λ x. x ≢ Stop) c.pass-given.result Turn (λ is. absurd cc) in
    let all = all_more (λ x. x ≢ Stop) _ _ _ given i.goes_on c.in_default.not-Stop in
    let one = one_longer _ _ _ c.chores.given given i.counted in
    let many = ap length p.given ∙ length-append _ (replicate c.pass-given.result Turn) in
    let more = length-replicate c.pass-given.result Turn in
    let few = p.most in
    let some = c.chores-test.true in
    let written = o.same.chores ∙ n.chores ∙ ap (λ l. l ++ c.in_ok-chore.chore ∷ []) i.chores ∙ sym given in
    record {
      follows = passes_on g.L.Pipes.put_to g.L.Pipes.taken_from g.L.Pipes.room g.D.Desk.made g.L.Pipes.wiring _ _ _ _ _ c.pass-given.result (same_on _ _ _ _ here o.same.later) p.rest p.given
          (did_more (λ k x. Obeys k u (peers_of c.args.self.now) x) net _ _ c.in_ok-chore.chore _ _ _ given i.follows
          (did_from (λ k. Obeys k u (peers_of c.args.self.now) c.in_ok-chore.chore) net _ _ _ (seen_same g.L.Pipes.put_to g.L.Pipes.taken_from g.L.Pipes.room g.D.Desk.made _ _ n.rest)
          (did_at (λ v k. Obeys k v (peers_of c.args.self.now) c.in_ok-chore.chore) net _ u _ _ _ here.net here.number (obeys_of _ _ _ _ _ _ _ (same_peers _ _ _ here) o.done))))
          (λ any. o.passes (p.may any));
      counted = omega (arith, one, many, more);
      few = omega (arith, few, some);
      goes_on = subst (All (λ x. x ≢ Stop)) (sym p.given) (All-append (λ x. x ≢ Stop) _ (replicate c.pass-given.result Turn) all turns);
      chores = p.chores ∙ ap (λ l. l ++ replicate c.pass-given.result Turn) written ∙ sym p.given;
      same = next_same _ _ _ _ (same_on _ _ _ _ here o.same.later) p.rest;
      script = p.script ∙ ap g.G.Gate.script o.same.gate ∙ n.script ∙ i.script;
    }

pub returns-in_err-chore-clause-ended : goal.returns-in_err-chore-clause-ended
returns-in_err-chore-clause-ended g c =
    let i = c.chores.invariant in
    let n = c.in_err-chore.ensures in
    let few = few_given (g.G.Gate.given c.chores.self.gate) (g.G.Gate.given c.next_chore.new.self.gate) c.chores.given c.args.turns n.none i.counted c.chores-test.true in
    let chores = n.as_they_were ∙ i.chores ∙ sym n.none in
    if_err c.from_residual.result _ _ (λ ends is. record {
      chores = chores;
      few = few_is_most (length (g.G.Gate.given c.next_chore.new.self.gate)) c.args.turns few;
      ends = inl (record { memory = is ∙ n.why; left = few; full = subst (λ (cs : List Chore). vec_capacity c.next_chore.new.self.journal.chores ≤ length cs) chores n.full });
    }) c.from_residual.ensures.1

pub returns-in_err-passes-clause-ended : goal.returns-in_err-passes-clause-ended
returns-in_err-passes-clause-ended g c =
    let i = c.chores.invariant in
    let n = c.in_ok-chore.ensures in
    let o = c.in_err-passes.ensures in
    let before = g.G.Gate.given c.chores.self.gate in
    let given = ap g.G.Gate.given o.same.gate ∙ n.given in
    if_err c.from_residual-in_err-passes.result _ _ (λ ends is. record {
      chores = o.same.chores ∙ n.chores ∙ ap (λ l. l ++ c.in_ok-chore.chore ∷ []) i.chores ∙ sym given;
      few = last_given before (g.G.Gate.given c.one.new.self.gate) c.in_ok-chore.chore c.chores.given c.args.turns given i.counted c.chores-test.true;
      ends = inr (record {
        before = before;
        chore = c.in_ok-chore.chore;
        last = given;
        ends = subst (EndsChore g.L.Pipes.taken_from c.one.new.self c.in_ok-chore.chore) (sym is) o.ended;
      });
    }) c.from_residual-in_err-passes.ensures.1
