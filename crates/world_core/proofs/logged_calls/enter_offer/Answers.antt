use Rattle.std.proofs.Common.{◌≡◌, ◌∙◌, ◌+◌, ap, arith, ◌++◌, ◌∷◌, [], true, false}
use Rattle.std.specs.Prelude.{is_some, nat_lt, max}
use Rattle.std.proofs.lemmas.Bool.Decides.{nat_tests}
use Rattle.run_model.specs.declared.stamps.TheConstants.{GREATEST_STAMP}
use Rattle.router_model.specs.Step.{next_offer}
use Rattle.router_core.specs.Views.{plain_of}
use Rattle.world_core.proofs.RouterAnswers.{makes_offer, wants_memory}
use Rattle.world_core.proofs.logged_calls.enter_offer.Goals as goal

pub returns-in_err-offer_to-clause-enters : goal.returns-in_err-offer_to-clause-enters
returns-in_err-offer_to-clause-enters c =
    let at : c.saturating_add-stamp.result ≡ max c.args.router.now.stamp c.args.board.now + 1 = omega (arith, c.if-stamp-gt-GREATEST_STAMP.false, c.max.ensures, c.stamp.ensures, c.saturating_add-stamp.ensures) in
    let fits : nat_lt GREATEST_STAMP c.saturating_add-stamp.result ≡ false = grind (arith, nat_tests, c.if-stamp-gt-GREATEST_STAMP.false) in
    let some : is_some (next_offer (plain_of c.args.router.now).router) ≡ true = grind (arith, c.next_offer.ensures, c.is_none.ensures, c.if-is_none.false) in
    wants_memory c.args.router.now c.offer_to.new.self c.args.run.now.items c.reserve.new.self.items c.args.collector.now c.offer_to.new.collector c.args.board.now c.saturating_add-stamp.result c.args.event.now at fits
    c.from_residual-in_err-offer_to.result c.from_residual-in_err-offer_to.ensures.1 some c.in_err-offer_to.ensures.err c.reserve.ensures.items c.in_err-offer_to.ensures.unkept

pub returns-clause-enters : goal.returns-clause-enters
returns-clause-enters c =
    let at : c.saturating_add-stamp.result ≡ max c.args.router.now.stamp c.args.board.now + 1 = omega (arith, c.if-stamp-gt-GREATEST_STAMP.false, c.max.ensures, c.stamp.ensures, c.saturating_add-stamp.ensures) in
    let fits : nat_lt GREATEST_STAMP c.saturating_add-stamp.result ≡ false = grind (arith, nat_tests, c.if-stamp-gt-GREATEST_STAMP.false) in
    let some : is_some (next_offer (plain_of c.args.router.now).router) ≡ true = grind (arith, c.next_offer.ensures, c.is_none.ensures, c.if-is_none.false) in
    makes_offer c.args.router.now c.offer_to.new.self c.args.run.now.items c.join.new.run.items c.args.collector.now c.offer_to.new.collector c.args.board.now c.saturating_add-stamp.result c.args.event.now at fits some
    c.in_ok-offer_to.ensures.made (c.join.ensures ∙ ap (λ k. k ++ c.args.event.now ∷ []) c.reserve.ensures.items) c.in_ok-offer_to.ensures.kept
