use Rattle.std.proofs.Common.{◌≡◌, ℕ, ◌+◌, true, false, None, sym, subst, arith}
use Rattle.std.specs.Prelude.{nat_lt, Err}
use Rattle.std.proofs.lemmas.Bool.Decides.{nat_tests}
use Rattle.std.proofs.lemmas.Result.{err_from_is_err_and}
use Rattle.router_model.specs.declared.command.Command.TheVariants.{Snapshot}
use Rattle.router_model.specs.Calls.{Obey}
use Rattle.run_model.specs.declared.stamps.TheConstants.{GREATEST_STAMP}
use Rattle.router_core.specs.Views.{view_of, RouterView, Answers}
use Rattle.router_core.specs.Recorded.{RecordsAt}
use Rattle.router_core.specs.Calling.{no_step}
use Rattle.router_core.proofs.MarkTaking.{snaps, snaps_no_step}
use Rattle.router_core.proofs.router.Router.snapshot.Goals as goal

pub returns-in_err-stamp-clause-answers : goal.returns-in_err-stamp-clause-answers
returns-in_err-stamp-clause-answers c =
    let p = err_from_is_err_and c.from_residual.result c.from_residual.ensures.1 in
    let r = view_of c.self.inside in
    let greater : nat_lt r.marks.last c.args.number ≡ true = grind (arith, nat_tests, c.if-number-last.false, c.last-last.ensures) in
    rw (p.1, p.2, c.in_err-stamp.ensures.refused)
    (subst (λ (x : RouterView). Answers (Err (no_step r.stamp)) x (Obey (Snapshot c.args.number)) x) c.self.view_is (snaps_no_step r c.args.number greater))

pub returns-clause-answers : goal.returns-clause-answers
returns-clause-answers c =
    let r = view_of c.self.inside in
    let greater : nat_lt r.marks.last c.args.number ≡ true = grind (arith, nat_tests, c.if-number-last.false, c.last-last.ensures) in
    let early : nat_lt GREATEST_STAMP (r.stamp + 1) ≡ false = c.in_ok-stamp.ensures.next.1 in
    subst (λ (x : RouterView). Answers c.records.result x (Obey (Snapshot c.args.number)) c.records.new.self) c.self.view_is
    (snaps r c.args.number c.records.result c.records.new.self greater early
    (subst (λ (n : ℕ). RecordsAt c.records.result r c.args.number None n c.records.new.self) c.in_ok-stamp.ensures.next.0
    (subst (λ (x : RouterView). RecordsAt c.records.result x c.args.number None c.in_ok-stamp.stamp c.records.new.self) (sym c.self.view_is) c.records.ensures.records)))
