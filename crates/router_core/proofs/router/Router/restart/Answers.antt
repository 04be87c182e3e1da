use Rattle.std.proofs.Common.{◌≡◌, ◌∙◌, ◌+◌, ◌≤◌, false, ap, refl, subst, arith}
use Rattle.std.specs.Prelude.{nat_lt, Ok, Err}
use Rattle.std.proofs.lemmas.Bool.Decides.{nat_tests}
use Rattle.std.proofs.lemmas.Result.{err_from_is_err_and}
use Rattle.router_model.specs.declared.refusal.RouterError.TheVariants as error
use Rattle.router_model.specs.declared.refusal.Stepped.TheVariants as stepped
use Rattle.session_fsm.specs.declared.event.FsmEvent.TheVariants.{ManualStop}
use Rattle.router_model.specs.declared.command.Command.TheVariants.{Restart}
use Rattle.router_model.specs.Sides.{draft_event}
use Rattle.router_model.specs.Step.{forgetting}
use Rattle.router_model.specs.Calls.{Stamped, Obey}
use Rattle.run_model.specs.declared.stamps.TheConstants.{GREATEST_STAMP}
use Rattle.router_core.specs.Views.{view_of, RouterView, Answers, plain_of}
use Rattle.router_core.specs.Calling.{no_step}
use Rattle.router_core.proofs.NoStep.{ends_no_step}
use Rattle.router_core.proofs.Snapshots.{with_peers, same_plain}
use Rattle.router_core.proofs.Carrying.{ends_did, ends_memory}
use Rattle.router_core.proofs.Ticking.{at_stamp, restarts, restarted, cleared, cleared_sound, prepared_sound, stops_fit, all_done}
use Rattle.router_core.proofs.router.Router.restart.Goals as goal

pub returns-in_err-stamp-clause-answers : goal.returns-in_err-stamp-clause-answers
returns-in_err-stamp-clause-answers c =
    let p = err_from_is_err_and c.from_residual.result c.from_residual.ensures.1 in
    let r = view_of c.self.inside in
    rw (p.1, p.2, c.in_err-stamp.ensures.refused)
    (subst (λ (x : RouterView). Answers (Err (no_step r.stamp)) x (Obey Restart) x) c.self.view_is (λ g e ranks.
    restarts g r e c.self.invariant (Err (no_step r.stamp)) (plain_of r) (ends_no_step (nat_lt GREATEST_STAMP (r.stamp + 1)) (plain_of r) (restarted g r e c.self.invariant))))

pub invariant_of-self : goal.invariant_of-self
invariant_of-self c =
    let r = view_of c.self.inside in
    prepared_sound r c.prepare.new.peers.items c.self.invariant c.prepare.ensures.same

pub returns-in_default-clause-answers : goal.returns-in_default-clause-answers
returns-in_default-clause-answers c =
    let r = view_of c.self.inside in
    let early : nat_lt GREATEST_STAMP (r.stamp + 1) ≡ false = c.in_ok-stamp.ensures.next.1 in
    let qs = c.prepare.new.peers.items in
    let same = same_plain r qs r.marks c.prepare.ensures.same refl in
    subst (λ (x : RouterView). Answers (Err error.Memory) x (Obey Restart) (with_peers r qs r.marks r.stamp)) c.self.view_is (λ g e ranks.
    restarts g r e c.self.invariant (Err error.Memory) (plain_of (with_peers r qs r.marks r.stamp))
    (ends_memory (nat_lt GREATEST_STAMP (r.stamp + 1)) false (plain_of r) (restarted g r e c.self.invariant) (plain_of (with_peers r qs r.marks r.stamp)) early refl same))

pub invariant_of-self-2 : goal.invariant_of-self-2
invariant_of-self-2 c =
    let r = view_of c.self.inside in
    prepared_sound r c.prepare.new.peers.items c.self.invariant c.prepare.ensures.same

pub move_all-requires-clause-fits : goal.move_all-requires-clause-fits
move_all-requires-clause-fits c = stops_fit c.self.inside.own_open c.prepare.new.peers.items

pub invariant_of-self-3 : goal.invariant_of-self-3
invariant_of-self-3 c =
    let r = view_of c.self.inside in
    let w = view_of c.self-2.inside in
    let few : r.stamp + 1 ≤ GREATEST_STAMP = grind (arith, nat_tests, c.in_ok-stamp.ensures.next.1) in
    rw c.in_ok-stamp.ensures.next.0
    (cleared_sound w c.clear.new.self (r.stamp + 1) c.self-2.invariant few c.clear.ensures)

pub returns-clause-answers : goal.returns-clause-answers
returns-clause-answers c =
    let r = view_of c.self.inside in
    let w = view_of c.self-2.inside in
    let early : nat_lt GREATEST_STAMP (r.stamp + 1) ≡ false = c.in_ok-stamp.ensures.next.1 in
    let y = at_stamp w c.clear.new.self (r.stamp + 1) in
    rw c.in_ok-stamp.ensures.next.0
    (subst (λ (x : RouterView). Answers (Ok stepped.Did) x (Obey Restart) y) c.self.view_is (λ g e ranks.
    restarts g r e c.self.invariant (Ok stepped.Did) (plain_of y)
    (ends_did (nat_lt GREATEST_STAMP (r.stamp + 1)) false (plain_of r) (restarted g r e c.self.invariant) (plain_of y) early refl
    (cleared w c.clear.new.self (r.stamp + 1) c.clear.ensures
    ∙ ap (λ (k : RouterView). record { router = forgetting (plain_of k).router; stamp = r.stamp + 1 }) c.self-2.view_is
    ∙ ap (λ (k : Stamped). record { router = forgetting k.router; stamp = r.stamp + 1 })
    (all_done g r c.prepare.new.peers.items c.move_all.new.self (λ s. draft_event r.own_open s ManualStop) e c.self.invariant c.prepare.ensures.same c.move_all.ensures (r.stamp + 1))))))
