use Rattle.std.proofs.Common.{◌≡◌, ◌∙◌, ℕ, List, [], length, get_or, drop, not, sym, ap, subst}
use Rattle.std.proofs.lemmas.Bool.{eqb-true}
use Rattle.std.proofs.lemmas.List.{nil_from_length}
use Rattle.std.proofs.lemmas.Option.{slice_get-get_or}
use Rattle.ranked_policy.specs.Choices.{IsTaken}
use Rattle.rib_tables.specs.declared.word.Word.{Word}
use Rattle.rib_tables.specs.Words.{path_in}
use Rattle.rib_tables.proofs.ChoiceLemmas.{never}
use Rattle.rib_tables.proofs.StayingLemmas.{own_stays, heard_stays}
use Rattle.rib_tables.proofs.row.stays_best.Goals as goal

pub returns-then-row : goal.returns-then-row
returns-then-row c = λ _ net peers is routers row best. own_stays net c.args.router peers c.args.row.now c.args.peer c.args.word.now row c.if-row.true best

pub returns-then-is_empty : goal.returns-then-is_empty
returns-then-is_empty c = λ _ net peers is routers row best.
    let r = c.args.row.now in
    let k = c.args.peer in
    let d = c.index-as_slice-peer.result in
    let onward = c.onward-best.ensures ∙ ap (λ (p : List ℕ). drop 1 p) c.as_slice.ensures in
    let rest = c.path-rest.result.now in
    let none : rest ≡ [] = nil_from_length rest (eqb-true (length rest) 0 (sym c.is_empty.ensures ∙ c.if-is_empty.true)) in
    heard_stays net c.args.router peers r k c.args.word.now c.each_policy_is_an_order.ensures is row (get_or r.heard k d) (slice_get-get_or r.heard k d c.requires)
    (λ some said. never (c.if-gives.ensures.1 ((λ e. some (sym onward ∙ e)), ap path_in c.index-as_slice-peer.is ∙ ap (λ (ws : List Word). path_in (get_or ws k d)) c.as_slice-2.ensures ∙ said ∙ sym onward)))
    (λ some _. some (sym c.path-rest.ensures ∙ none)) best

pub returns-else-is_empty : goal.returns-else-is_empty
returns-else-is_empty c = λ no net peers is routers row best.
    let r = c.args.row.now in
    let k = c.args.peer in
    let d = c.index-as_slice-peer.result in
    let onward = c.onward-best.ensures ∙ ap (λ (p : List ℕ). drop 1 p) c.as_slice.ensures in
    heard_stays net c.args.router peers r k c.args.word.now c.each_policy_is_an_order.ensures is row (get_or r.heard k d) (slice_get-get_or r.heard k d c.requires)
    (λ some said. never (c.if-gives.ensures.1 ((λ e. some (sym onward ∙ e)), ap path_in c.index-as_slice-peer.is ∙ ap (λ (ws : List Word). path_in (get_or ws k d)) c.as_slice-2.ensures ∙ said ∙ sym onward)))
    (λ some taken.
    let Taken : List ℕ → List ℕ → Type 0 = IsTaken r.policy c.args.router in
    let t = c.takes_onward.ensures.1 (subst (λ (rest : List ℕ). Taken rest c.onward-best.result.now) (sym c.path-rest.ensures) (subst (Taken (path_in c.args.word.now)) (sym onward) taken)) in
    never (sym (ap not t) ∙ no)) best
