use Rattle.std.proofs.Common.{◌≡◌, ◌∙◌, ◌+◌, false, ap, sym, refl, subst}
use Rattle.std.specs.Prelude.{nat_lt, Ok, Err}
use Rattle.std.proofs.lemmas.Result.{err_from_is_err_and}
use Rattle.router_model.specs.declared.refusal.RouterError.TheVariants as error
use Rattle.router_model.specs.declared.refusal.Stepped.TheVariants as stepped
use Rattle.router_model.specs.Sides.{draft_second}
use Rattle.router_model.specs.Calls.{Tick}
use Rattle.run_model.specs.declared.stamps.TheConstants.{GREATEST_STAMP}
use Rattle.router_core.specs.Views.{view_of, RouterView, Answers, plain_of}
use Rattle.router_core.proofs.Snapshots.{with_peers, same_plain}
use Rattle.router_core.specs.ToAll.{overflow_in}
use Rattle.router_core.proofs.Carrying.{ends_did, ends_memory}
use Rattle.router_core.proofs.Ticking.{at_stamp, ticks, ticked, ends_late, ends_over, prepared_sound, overflow_alike, all_done}
use Rattle.router_core.proofs.router.Router.tick_by_drafts.Goals as goal

pub returns-in_err-stamp-clause-answers : goal.returns-in_err-stamp-clause-answers
returns-in_err-stamp-clause-answers c =
    let p = err_from_is_err_and c.from_residual.result c.from_residual.ensures.1 in
    let r = view_of c.self.inside in
    rw (p.1, p.2, c.in_err-stamp.ensures.0)
    (subst (λ (x : RouterView). Answers (Err error.StampEnd) x Tick x) c.self.view_is (λ g e ranks.
    ticks g r e c.self.invariant (Err error.StampEnd) (plain_of r) (ends_late (nat_lt GREATEST_STAMP (r.stamp + 1)) (overflow_in (draft_second r.own_open) r.peers) (plain_of r) (ticked g r e c.self.invariant) c.in_err-stamp.ensures.1)))

pub returns-then-overflows-clause-answers : goal.returns-then-overflows-clause-answers
returns-then-overflows-clause-answers c =
    let r = view_of c.self.inside in
    let early : nat_lt GREATEST_STAMP (r.stamp + 1) ≡ false = c.in_ok-stamp.ensures.1 in
    let over = ap (overflow_in (draft_second r.own_open)) (sym c.as_slice.ensures.value) ∙ sym c.overflows.ensures ∙ c.if-overflows.true in
    subst (λ (x : RouterView). Answers (Err error.EpochEnd) x Tick x) c.self.view_is (λ g e ranks.
    ticks g r e c.self.invariant (Err error.EpochEnd) (plain_of r) (ends_over (nat_lt GREATEST_STAMP (r.stamp + 1)) (overflow_in (draft_second r.own_open) r.peers) (plain_of r) (ticked g r e c.self.invariant) early over))

pub returns-in_err-room-clause-answers : goal.returns-in_err-room-clause-answers
returns-in_err-room-clause-answers c =
    let p = err_from_is_err_and c.from_residual-in_err-room.result c.from_residual-in_err-room.ensures.1 in
    let r = view_of c.self.inside in
    let fits = ap (overflow_in (draft_second r.own_open)) (sym c.as_slice.ensures.value) ∙ sym c.overflows.ensures ∙ c.if-overflows.false in
    rw (p.1, p.2)
    (subst (λ (x : RouterView). Answers (Err error.Memory) x Tick x) c.self.view_is (λ g e ranks.
    ticks g r e c.self.invariant (Err error.Memory) (plain_of r) (ends_memory (nat_lt GREATEST_STAMP (r.stamp + 1)) (overflow_in (draft_second r.own_open) r.peers) (plain_of r) (ticked g r e c.self.invariant) (plain_of r) c.in_ok-stamp.ensures.1 fits refl)))

pub invariant_of-self : goal.invariant_of-self
invariant_of-self c =
    let r = view_of c.self.inside in
    prepared_sound r c.prepare.new.peers.items c.self.invariant c.prepare.ensures.same

pub returns-in_default-clause-answers : goal.returns-in_default-clause-answers
returns-in_default-clause-answers c =
    let r = view_of c.self.inside in
    let early : nat_lt GREATEST_STAMP (r.stamp + 1) ≡ false = c.in_ok-stamp.ensures.1 in
    let qs = c.prepare.new.peers.items in
    let same = same_plain r qs r.marks c.prepare.ensures.same refl in
    let fits = ap (overflow_in (draft_second r.own_open)) (sym c.as_slice.ensures.value) ∙ sym c.overflows.ensures ∙ c.if-overflows.false in
    subst (λ (x : RouterView). Answers (Err error.Memory) x Tick (with_peers r qs r.marks r.stamp)) c.self.view_is (λ g e ranks.
    ticks g r e c.self.invariant (Err error.Memory) (plain_of (with_peers r qs r.marks r.stamp))
    (ends_memory (nat_lt GREATEST_STAMP (r.stamp + 1)) (overflow_in (draft_second r.own_open) r.peers) (plain_of r) (ticked g r e c.self.invariant) (plain_of (with_peers r qs r.marks r.stamp)) early fits same))

pub invariant_of-self-2 : goal.invariant_of-self-2
invariant_of-self-2 c =
    let r = view_of c.self.inside in
    prepared_sound r c.prepare.new.peers.items c.self.invariant c.prepare.ensures.same

pub move_all-requires-clause-fits : goal.move_all-requires-clause-fits
move_all-requires-clause-fits c =
    let r = view_of c.self.inside in
    let fits = ap (overflow_in (draft_second r.own_open)) (sym c.as_slice.ensures.value) ∙ sym c.overflows.ensures ∙ c.if-overflows.false in
    overflow_alike (draft_second r.own_open) r.peers c.prepare.new.peers.items c.prepare.ensures.same ∙ fits

pub returns-clause-answers : goal.returns-clause-answers
returns-clause-answers c =
    let r = view_of c.self.inside in
    let w = view_of c.self-2.inside in
    let early : nat_lt GREATEST_STAMP (r.stamp + 1) ≡ false = c.in_ok-stamp.ensures.1 in
    let fits = ap (overflow_in (draft_second r.own_open)) (sym c.as_slice.ensures.value) ∙ sym c.overflows.ensures ∙ c.if-overflows.false in
    let y = at_stamp w w.tables (r.stamp + 1) in
    rw c.in_ok-stamp.ensures.0
    (subst (λ (x : RouterView). Answers (Ok stepped.Did) x Tick y) c.self.view_is (λ g e ranks.
    ticks g r e c.self.invariant (Ok stepped.Did) (plain_of y)
    (ends_did (nat_lt GREATEST_STAMP (r.stamp + 1)) (overflow_in (draft_second r.own_open) r.peers) (plain_of r) (ticked g r e c.self.invariant) (plain_of y) early fits
    (ap (λ (k : RouterView). record { router = (plain_of k).router; stamp = r.stamp + 1 }) c.self-2.view_is
    ∙ all_done g r c.prepare.new.peers.items c.move_all.new.self (draft_second r.own_open) e c.self.invariant c.prepare.ensures.same c.move_all.ensures (r.stamp + 1)))))
