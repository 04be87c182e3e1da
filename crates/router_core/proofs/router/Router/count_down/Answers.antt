use Rattle.std.proofs.Common.{◌≡◌, ◌+◌, ◌≤◌, false, sym, subst, arith}
use Rattle.std.specs.Prelude.{nat_lt, Ok, Err}
use Rattle.std.proofs.lemmas.Bool.Decides.{nat_tests}
use Rattle.std.proofs.lemmas.Result.{err_from_is_err_and}
use Rattle.router_model.specs.declared.refusal.Stepped.TheVariants as stepped
use Rattle.router_model.specs.Sides.{draft_second}
use Rattle.router_model.specs.Calls.{Tick}
use Rattle.run_model.specs.declared.stamps.TheConstants.{GREATEST_STAMP}
use Rattle.router_core.specs.Views.{view_of, RouterView, Answers, Ends, plain_of}
use Rattle.router_core.specs.Calling.{no_step}
use Rattle.router_core.specs.ToAll.{overflow_in, runs_out_in}
use Rattle.router_core.proofs.NoStep.{ends_no_step}
use Rattle.router_core.proofs.Snapshots.{with_peers}
use Rattle.router_core.proofs.Carrying.{ends_did}
use Rattle.router_core.proofs.Ticking.{ticks, ticked}
use Rattle.router_core.proofs.Resting.{counting_fits, counted_sound, counted_done}
use Rattle.router_core.proofs.router.Router.count_down.Goals as goal

pub returns-in_err-stamp-clause-answers : goal.returns-in_err-stamp-clause-answers
returns-in_err-stamp-clause-answers c =
    let p = err_from_is_err_and c.from_residual.result c.from_residual.ensures.1 in
    let r = view_of c.self.inside in
    let rests = subst (λ (x : RouterView). runs_out_in x.peers ≡ false) (sym c.self.view_is) c.requires in
    rw (p.1, p.2, c.in_err-stamp.ensures.refused)
    (subst (λ (x : RouterView). Answers (Err (no_step r.stamp)) x Tick x) c.self.view_is (λ g e ranks.
    let z = ticked g r e c.self.invariant in
    ticks g r e c.self.invariant (Err (no_step r.stamp)) (plain_of r)
    (subst (λ o. Ends (nat_lt GREATEST_STAMP (r.stamp + 1)) o (Err (no_step r.stamp)) (plain_of r) z (plain_of r)) (sym (counting_fits r.own_open r.peers rests)) (ends_no_step (nat_lt GREATEST_STAMP (r.stamp + 1)) (plain_of r) z))))

pub invariant_of-self : goal.invariant_of-self
invariant_of-self c =
    let r = view_of c.self.inside in
    let few : r.stamp + 1 ≤ GREATEST_STAMP = grind (arith, nat_tests, c.in_ok-stamp.ensures.next.1) in
    rw c.in_ok-stamp.ensures.next.0
    (counted_sound r c.count_down_all.new.peers.items (r.stamp + 1) c.self.invariant few c.count_down_all.ensures)

pub returns-clause-answers : goal.returns-clause-answers
returns-clause-answers c =
    let r = view_of c.self.inside in
    let rests = subst (λ (x : RouterView). runs_out_in x.peers ≡ false) (sym c.self.view_is) c.requires in
    let early : nat_lt GREATEST_STAMP (r.stamp + 1) ≡ false = c.in_ok-stamp.ensures.next.1 in
    let qs = c.count_down_all.new.peers.items in
    let y = with_peers r qs r.marks (r.stamp + 1) in
    rw c.in_ok-stamp.ensures.next.0
    (subst (λ (x : RouterView). Answers (Ok stepped.Did) x Tick y) c.self.view_is (λ g e ranks.
    ticks g r e c.self.invariant (Ok stepped.Did) (plain_of y)
    (ends_did (nat_lt GREATEST_STAMP (r.stamp + 1)) (overflow_in (draft_second r.own_open) r.peers) (plain_of r) (ticked g r e c.self.invariant) (plain_of y) early (counting_fits r.own_open r.peers rests)
    (counted_done g r qs e c.self.invariant rests c.count_down_all.ensures (r.stamp + 1)))))
