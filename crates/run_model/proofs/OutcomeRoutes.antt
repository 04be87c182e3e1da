-- The routes of a snapshot whose outcome is Settled.
use Rattle.std.proofs.Common.{◌≡◌, ℕ, Bool, true, false, cond, List, [], ◌∷◌, ◌++◌, Some, refl, ap, sym, ◌∙◌, append_assoc, subst}
use Rattle.std.proofs.Math.Path.{fun_ext}
use Rattle.run_model.specs.Routes.{Network, Routers, NetworkStep, IsStableAssignment, IsSettled, IsRunOf, reached, route}
use Rattle.run_model.specs.Offers.{OfferStep, first_offering, final, network_step, network_steps, SettledOutcomeIsStable, SettledOutcomeStays}
use Rattle.run_model.proofs.SettledFacts.{stable}
use Rattle.run_model.proofs.QuietFacts.{stays_while_quiet}
use Rattle.run_model.proofs.OfferRuns.{offers_aside}
use Rattle.run_model.proofs.OutcomeFacts.{run_front, parts_are_recorded, settled_outcome_is_settled}

cond_same : {W : Type 0} (b : Bool) (x y none : W) → (b ≡ true → x ≡ y) → cond b x none ≡ cond b y none
cond_same true x y none h = h refl
cond_same false x y none h = refl

module _ {M P W : Type 0} where
  pub settled_outcome_is_stable : SettledOutcomeIsStable M P W
  settled_outcome_is_stable g net ts r s out parts made p named u ru =
      let w : Routers M P W = (final g ts).routers in
      let aside = offers_aside g ts r in
      let settled : IsSettled g (reached g (network_steps g ts)) s = subst (λ (i : Routers M P W). IsSettled g i s) (sym aside.1) (settled_outcome_is_settled g ts r s out) in
      let stands : IsStableAssignment g p (λ v. (w v).originated_at s p) (λ v. (w v).kept_at s p) =
      subst (λ (i : Routers M P W). IsStableAssignment g p (λ v. (i v).originated_at s p) (λ v. (i v).kept_at s p)) aside.1 (stable g net (network_steps g ts) aside.0 s settled p named) in
      let kept : (v : ℕ) → g.routers v ≡ true → (parts v).kept p ≡ (w v).kept_at s p = λ v rv. (let k = parts_are_recorded g ts r v s (parts v) (made v rv) in k.2.2 p named) in
      let own : (parts u).originated p ≡ (w u).originated_at s p = (let k = parts_are_recorded g ts r u s (parts u) (made u ru) in k.2.3 p named) in
      let words : (λ v. cond (g.linked u v) ((w v).kept_at s p) g.no_path) ≡ (λ v. cond (g.linked u v) ((parts v).kept p) g.no_path) =
      fun_ext (λ v. cond_same (g.linked u v) ((w v).kept_at s p) ((parts v).kept p) g.no_path (λ link. sym (kept v (net.known u v link)))) in
      kept u ru ∙ (stands u ru ∙ (ap (g.best u p ((w u).originated_at s p)) words ∙ ap (λ o. g.best u p o (λ v. cond (g.linked u v) ((parts v).kept p) g.no_path)) (sym own)))

  steps_append : (g : Network M P W) (xs ys : List (OfferStep M P W)) → network_steps g (xs ++ ys) ≡ network_steps g xs ++ network_steps g ys
  steps_append g [] ys = refl
  steps_append g (t ∷ xs) ys = ap (λ l. network_step g t.router t.event ++ l) (steps_append g xs ys) ∙ sym (append_assoc (network_step g t.router t.event) (network_steps g xs) (network_steps g ys))

  pub settled_outcome_stays : SettledOutcomeStays M P W
  settled_outcome_stays g net before later r s out quiet u p c part ru named is made =
      let all : List (OfferStep M P W) = before ++ later in
      let front : List (NetworkStep M P W) = network_steps g before in
      let rest : List (NetworkStep M P W) = network_steps g later in
      let aside = offers_aside g all r in
      let here = offers_aside g before (run_front g before later (first_offering g) r) in
      let split : network_steps g all ≡ front ++ rest = steps_append g before later in
      let run : IsRunOf g (front ++ rest) = subst (λ l. IsRunOf g l) split aside.0 in
      let ends : reached g (front ++ rest) ≡ (final g all).routers = ap (λ l. reached g l) (sym split) ∙ aside.1 in
      let settled : IsSettled g (reached g (front ++ rest)) s = subst (λ (i : Routers M P W). IsSettled g i s) (sym ends) (settled_outcome_is_settled g all r s out) in
      let copy : (reached g front u).recorder.copy s ≡ Some c = ap (λ (i : Routers M P W). (i u).recorder.copy s) here.1 ∙ is in
      let stay = stays_while_quiet g net front rest run s settled quiet u p c ru named copy in
      let k = parts_are_recorded g all r u s part made in
      let recorded : (reached g (front ++ rest) u).kept_at s p ≡ part.kept p = ap (λ (i : Routers M P W). (i u).kept_at s p) ends ∙ sym (k.2.2 p named) in (
        sym (ap (λ (i : Routers M P W). (i u).kept p) here.1) ∙ (stay.0 ∙ recorded),
        sym (ap (λ (i : Routers M P W). route g u (i u).recorder.ends p ((i u).originated p)) here.1) ∙ (stay.1 ∙ recorded),
      )
