use Rattle.std.proofs.Common.{◌≡◌, ◌≢◌, ℕ, ◌+◌, ◌-◌, suc, length, Some, None, arith, ap, sym, subst, ◌∙◌, refl, Ok}
use Rattle.std.proofs.lemmas.Bool.{ne_eqb}
use Rattle.std.proofs.lemmas.Result.{err_from_is_err_and}
use Rattle.ranked_policy.specs.Plans.{Plan}
use Rattle.world_core.specs.Orders.{repeated, round}
use Rattle.world_core.specs.Views.{plain_world, Obeys}
use Rattle.world_core.specs.Watching.{rest_in}
use Rattle.world_core.proofs.Awake.{none_rests}
use Rattle.world_core.proofs.Orders.{obeys_next, repeated_one}
use Rattle.world_core.proofs.Resting.{obeys_still}
use Rattle.world_core.proofs.Watched.{obeyed}
use Rattle.world_core.proofs.WatchedRounds.{none_said_yet, said_on, said_still, said_all, rest_found, rest_on, rounds_done, rounds_halt, rounds_want}
use Rattle.world_core.proofs.world.World.rounds.Goals as goal

pub loop-passed-init : goal.loop-passed-init
loop-passed-init g c =
    let all : c.args.times - 0 ≡ c.args.times = omega arith in
    record {
      same = refl;
      done = λ s e ranks. refl;
      said = none_said_yet g.W.Watch.says g.W.Watch.says_of_round c.args.self.now c.args.times (c.args.times - 0) (g.W.Watch.said c.args.watcher.now) all;
      rest = λ s e ranks. ap (rest_in s (plain_world c.args.self.now) 0) (sym all);
      resting = none_rests c.args.self.now c.no_marks-marks.result.items c.no_marks-marks.ensures;
    }

pub round-requires : goal.round-requires
round-requires g c = c.loop-passed.invariant.resting

pub returns-in_err-round-clause-watches : goal.returns-in_err-round-clause-watches
returns-in_err-round-clause-watches g c =
    let p = err_from_is_err_and c.from_residual.result c.from_residual.ensures.1 in
    let l = c.loop-passed in
    let all : (l.passed + 1) + (c.args.times - (l.passed + 1)) ≡ c.args.times = omega (arith, c.loop-passed-test.true) in
    let next : c.args.times - l.passed ≡ suc (c.args.times - (l.passed + 1)) = omega (arith, c.loop-passed-test.true) in
    rw (p.1, p.2)
    (rounds_halt g.W.Watch.says g.W.Watch.says_of_round g.W.Watch.may_want c.args.self.now l.self c.round.new.self c.args.times l.passed (c.args.times - l.passed) (g.W.Watch.said c.args.watcher.now) (g.W.Watch.said l.watcher)
    (g.W.Watch.said c.round.new.watcher) c.in_err-round.field-0.0 all l.invariant.same next l.invariant.done l.invariant.said c.in_err-round.ensures.watches)

pub returns-then-after-before-clause-watches : goal.returns-then-after-before-clause-watches
returns-then-after-before-clause-watches g c =
    let x = c.args.self.now in
    let l = c.loop-passed in
    let y = l.self in
    let z = c.round.new.self in
    let once = round x.net in
    let left = c.args.times - (l.passed + 1) in
    let all : (l.passed + 1) + left ≡ c.args.times = omega (arith, c.loop-passed-test.true) in
    let next : c.args.times - l.passed ≡ suc left = omega (arith, c.loop-passed-test.true) in
    let there = c.in_ok-round.ensures.watches in
    let old = g.W.Watch.said c.args.watcher.now in
    let mid = g.W.Watch.said l.watcher in
    let new = g.W.Watch.said c.round.new.watcher in
    let here = subst (λ (net : Plan). Obeys (Ok tt) y (round net) z) l.invariant.same (obeyed g.W.Watch.says g.W.Watch.may_want y z (round y.net) mid new there) in
    let long : length z.run ≡ length y.run = sym (ap length c.run-after.ensures) ∙ c.if-after-before.true ∙ ap length c.run-before.ensures in
    rounds_done g.W.Watch.says g.W.Watch.says_of_round g.W.Watch.may_want x z c.args.times old new (Some l.passed) (obeys_still x y z once l.passed left c.args.times all l.invariant.same l.invariant.done here long)
    (said_still g.W.Watch.says g.W.Watch.says_of_round g.W.Watch.may_want x y z c.args.times l.passed (c.args.times - l.passed) old mid new l.invariant.same next l.invariant.said there long)
    (rest_found x y z c.args.times l.passed (c.args.times - l.passed) l.invariant.same next l.invariant.rest here long)

pub returns-in_err-behind_round-clause-watches : goal.returns-in_err-behind_round-clause-watches
returns-in_err-behind_round-clause-watches g c =
    let p = err_from_is_err_and c.from_residual-in_err-behind_round.result c.from_residual-in_err-behind_round.ensures.1 in
    rw p.1
    (rounds_want g.W.Watch.says g.W.Watch.says_of_round g.W.Watch.may_want c.args.self.now c.round.new.self c.args.times (g.W.Watch.said c.args.watcher.now) (g.W.Watch.said c.behind_round.new.self) p.0
    c.in_err-behind_round.ensures.err p.2)

pub loop-passed-preserved : goal.loop-passed-preserved
loop-passed-preserved g c =
    let x = c.args.self.now in
    let l = c.loop-passed in
    let y = l.self in
    let z = c.round.new.self in
    let once = round x.net in
    let next : c.args.times - l.passed ≡ suc (c.args.times - (l.passed + 1)) = omega (arith, c.loop-passed-test.true) in
    let there = c.in_ok-round.ensures.watches in
    let old = g.W.Watch.said c.args.watcher.now in
    let mid = g.W.Watch.said l.watcher in
    let new = g.W.Watch.said c.round.new.watcher in
    let here = subst (λ (net : Plan). Obeys (Ok tt) y (round net) z) l.invariant.same (obeyed g.W.Watch.says g.W.Watch.may_want y z (round y.net) mid new there) in
    let other : length z.run ≢ length y.run = λ e. c.if-after-before.false (ap length c.run-after.ensures ∙ e ∙ sym (ap length c.run-before.ensures)) in
    let counted : c.saturating_sub.result ≡ length z.run - length y.run = omega (arith, c.saturating_sub.ensures, ap length c.run-after.ensures, ap length c.run-before.ensures) in
    record {
      same = c.round.ensures.same ∙ l.invariant.same;
      done = obeys_next x y z (repeated l.passed once) once (repeated (l.passed + 1) once) (repeated_one l.passed once) l.invariant.same l.invariant.done here;
      said = said_on g.W.Watch.says g.W.Watch.says_of_round g.W.Watch.may_want x y z c.args.times l.passed (c.args.times - l.passed) c.saturating_sub.result old mid new (g.W.Watch.said c.behind_round.new.self) l.invariant.same next l.invariant.said there other
          counted c.in_ok-behind_round.ensures.ok;
      rest = rest_on x y z c.args.times l.passed (c.args.times - l.passed) l.invariant.same next l.invariant.rest here (ne_eqb (length z.run) (length y.run) other);
      resting = c.in_ok-round.ensures.resting;
    }

pub returns-clause-watches : goal.returns-clause-watches
returns-clause-watches g c =
    let x = c.args.self.now in
    let l = c.loop-passed in
    let end : l.passed ≡ c.args.times = omega (arith, c.loop-passed-test.false) in
    let none : c.args.times - l.passed ≡ 0 = omega (arith, c.loop-passed-test.false) in
    let old = g.W.Watch.said c.args.watcher.now in
    let new = g.W.Watch.said l.watcher in
    rounds_done g.W.Watch.says g.W.Watch.says_of_round g.W.Watch.may_want x l.self c.args.times old new None (subst (λ k. Obeys (Ok tt) x (repeated k (round x.net)) l.self) end l.invariant.done)
    (said_all g.W.Watch.says g.W.Watch.says_of_round g.W.Watch.may_want x l.self c.args.times l.passed (c.args.times - l.passed) old new none l.invariant.said)
    (λ s e ranks. sym (l.invariant.rest s e ranks ∙ ap (λ (n : ℕ). rest_in s (plain_world l.self) l.passed n) none))
