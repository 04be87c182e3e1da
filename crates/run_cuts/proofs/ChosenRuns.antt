-- A run of the choices of calls passes through the cut of a snapshot by the choices of calls.
use Rattle.std.proofs.Common.{◌≡◌, ℕ, ◌==◌, Bool, true, false, List, [], ◌∷◌, ◌++◌, refl, ap, sym, subst, ◌∙◌}
use Rattle.std.specs.Prelude.{if◌then◌else◌}
use Rattle.std.proofs.lemmas.List.{take-append-drop, append_cancel_left}
use Rattle.std.proofs.lemmas.Bool.{eq-eqb, eqb-true}
use Rattle.run_model.specs.Network as runs
use Rattle.run_model.specs.Network.{NetworkEvent, offers_in}
use Rattle.run_model.specs.Journals.{events_of, puts_towards}
use Rattle.run_model.specs.Exchange.{CanPut}
use Rattle.run_model.specs.ThroughCut.{inside, outside, early, late, needed, put_outside, first_part, second_part, with_offers, IsCut, PassesThrough}
use Rattle.snap_marker.specs.Recordings.{RouterPart}
use Rattle.router_model.specs.Settings.{Setting, IsSetting, is_router}
use Rattle.router_model.specs.Step.{RouterEvent}
use Rattle.router_runs.specs.Runs.{Logged, LoggedStep, RunOrder, RunState, IsRunTo, logged_steps, new_logged}
use Rattle.router_runs.specs.Snapshots.{IsCutOf}
use Rattle.run_cuts.specs.CutLaws.{CutLaws}
use Rattle.run_cuts.specs.ThroughSnapshot.{RecordsBy}
use Rattle.run_cuts.specs.Choices.{IsChosenRun, ChosenRunsPassThrough}
use Rattle.run_cuts.proofs.Loggeds.{same_after, same_end, logged_puts_commute}
use Rattle.run_cuts.proofs.AtTheCut.{own_more, puts_more, shown}
use Rattle.run_cuts.proofs.FineJournals.{IsFineJournal, forget, split, both_ends, early_first}
use Rattle.run_cuts.proofs.Choosing.{IsFine, survives}
use Rattle.run_cuts.proofs.Through.{can_there, cuts, through}

runs_join : (g : Setting) (before later : RunOrder) (old at last : RunState) → runs.Run (logged_steps g) old before at → runs.Run (logged_steps g) at later last → runs.Run (logged_steps g) old (before ++ later) last
runs_join g [] later old at last r on = subst (λ z. runs.Run (logged_steps g) z later last) (sym r) on
runs_join g (d ∷ ds) later old at last r on = (r.0, r.1, runs_join g ds later r.0 at last r.2 on)

module _ (laws : CutLaws) (g : Setting) where
  -- each event of router u is chosen where it comes
  abbrev Chooses : ℕ → Logged → List RouterEvent → Logged → Type 0
  Chooses u = IsFineJournal (logged_steps g) u (IsFine laws.appends g u)

  -- ---- a run, and its routers' journals

  head_by : (u : ℕ) (old own new : Logged) (e : RouterEvent) (es : List RouterEvent) (b : Bool) → (b ≡ true → LoggedStep g u old e own × IsFine laws.appends g u old e)
      → Chooses u (if b then own else old) es new → Chooses u old ((if b then e ∷ [] else []) ++ es) new
  head_by u old own new e es true did j = (let h = did refl in (own, h.0, h.1, j))
  head_by u old own new e es false did j = j

  journals_of : (ds : RunOrder) (old new : RunState) → IsChosenRun g old ds new → (u : ℕ) → Chooses u (old.routers u) (events_of u ds) (new.routers u)
  journals_of [] old new r u = ap (λ (z : RunState). z.routers u) r
  journals_of (d ∷ ds) old new r u =
      let own = r.1.0 in
      let next : (r.0).routers u ≡ (if d.router == u then own else old.routers u) = ap (λ (z : RunState). z.routers u) r.1.2 in
      head_by u (old.routers u) own (new.routers u) d.event (events_of u ds) (d.router == u)
      (λ is. subst (λ w. LoggedStep g w (old.routers w) d.event own × IsFine laws.appends g w (old.routers w) d.event) (eqb-true d.router u is) (r.1.1, (r.2, r.3)))
      (subst (λ (x : Logged). Chooses u x (events_of u ds) (new.routers u)) next (journals_of ds r.0 new r.4 u))

  tail_by : (u : ℕ) (old own new : Logged) (e : RouterEvent) (es : List RouterEvent) (b : Bool) → (b ≡ true → LoggedStep g u old e own)
      → Chooses u old ((if b then e ∷ [] else []) ++ es) new → Chooses u (if b then own else old) es new
  tail_by u old own new e es true did j = subst (λ (x : Logged). Chooses u x es new) (same_after g u old j.0 own e j.1 (did refl)) j.3
  tail_by u old own new e es false did j = j

  first_by : (u : ℕ) (old new : Logged) (e : RouterEvent) (es : List RouterEvent) (b : Bool) → b ≡ true → Chooses u old ((if b then e ∷ [] else []) ++ es) new → IsFine laws.appends g u old e
  first_by u old new e es true is j = j.2
  first_by u old new e es false is j = absurd (cc is)

  of_journals : (ds : RunOrder) (old new : RunState) → runs.Run (logged_steps g) old ds new → ((u : ℕ) → Chooses u (old.routers u) (events_of u ds) (new.routers u)) → IsChosenRun g old ds new
  of_journals [] old new r j = r
  of_journals (d ∷ ds) old new r j =
      let own = r.1.0 in
      let fine = first_by d.router (old.routers d.router) (new.routers d.router) d.event (events_of d.router ds) (d.router == d.router) (eq-eqb d.router d.router refl) (j d.router) in (
        r.0,
        r.1,
        fine.0,
        fine.1,
        of_journals ds r.0 new r.2 (λ u.
            let next : (r.0).routers u ≡ (if d.router == u then own else old.routers u) = ap (λ (z : RunState). z.routers u) r.1.2 in
            subst (λ (x : Logged). Chooses u x (events_of u ds) (new.routers u)) (sym next)
            (tail_by u (old.routers u) own (new.routers u) d.event (events_of u ds) (d.router == u) (λ is. subst (λ w. LoggedStep g w (old.routers w) d.event own) (eqb-true d.router u is) r.1.1) (j u))),
      )

  -- ---- through the cut

  module _ (set : IsSetting g) (order : RunOrder) (last : RunState) (run : IsRunTo g order last) (s : ℕ)
      (parts : ℕ → RouterPart) (at : ℕ → RunState) (is_cut : IsCutOf g order last s parts at) (cut : ℕ → ℕ)
      (recorded : (u : ℕ) → is_router g u ≡ true → RecordsBy g order last u s (at u) (cut u)) (nobody : (u : ℕ) → is_router g u ≡ false → cut u ≡ 0)
      (chosen : IsChosenRun g (runs.opening (λ u. new_logged g)) order last) where
    abbrev passed : (states : ℕ → Logged) × PassesThrough (logged_steps g) cut order (λ u. new_logged g) (cuts laws g set order last run s parts at is_cut cut recorded nobody).0 states last
    passed = through laws g set order last run s parts at is_cut cut recorded nobody

    abbrev state_at : ℕ → Logged
    state_at = (cuts laws g set order last run s parts at is_cut cut recorded nobody).0

    abbrev states_lead : IsCut (logged_steps g) cut order (λ u. new_logged g) state_at last.routers
    states_lead = (cuts laws g set order last run s parts at is_cut cut recorded nobody).1

    -- the early puts have the items that were taken inside and put outside
    early_items : (u v : ℕ) → puts_towards v (early cut order u) ≡ put_outside cut order u v
    early_items u v =
        let p = passed.1 in
        let first = shown laws g (first_part cut order) _ p.to_the_cut in
        append_cancel_left (puts_towards v (inside cut order u)) (puts_towards v (early cut order u)) (put_outside cut order u v)
        (sym (puts_more v (inside cut order u) (early cut order u)) ∙ ap (puts_towards v) (sym (p.inside_and_early u)) ∙ sym (first.put u v) ∙ p.put u v)

    reordered : (u : ℕ) → Chooses u (new_logged g) (events_of u (first_part cut order ++ second_part cut order)) (last.routers u)
    reordered u =
        let p = passed.1 in
        let whole : Chooses u (new_logged g) (inside cut order u ++ outside cut order u) (last.routers u) =
        subst (λ es. Chooses u (new_logged g) es (last.routers u)) (sym (take-append-drop (cut u) (events_of u order))) (journals_of order (runs.opening (λ w. new_logged g)) last chosen u) in
        let halves = split (logged_steps g) u (IsFine laws.appends g u) (inside cut order u) (outside cut order u) (new_logged g) (last.routers u) whole in
        let same : halves.0 ≡ state_at u =
        same_end g u (inside cut order u) (new_logged g) halves.0 (state_at u) (forget (logged_steps g) u (IsFine laws.appends g u) (inside cut order u) (new_logged g) halves.0 halves.1) (states_lead.inside_leads u) in
        let before : Chooses u (new_logged g) (inside cut order u) (state_at u) = subst (Chooses u (new_logged g) (inside cut order u)) same halves.1 in
        let behind : Chooses u (state_at u) (outside cut order u) (last.routers u) = subst (λ (x : Logged). Chooses u x (outside cut order u) (last.routers u)) same halves.2 in
        let moved = early_first (logged_steps g) (logged_puts_commute laws.commute laws.said g) u (IsFine laws.appends g u) (survives laws.appends g u) (needed cut order u) (inside cut order u) (outside cut order u)
        (state_at u) (last.routers u) behind
        (λ w. subst (CanPut (logged_steps g) u (state_at u) w) (sym (early_items u w)) (can_there laws g set order last run s parts at is_cut cut recorded nobody u w _ refl)) in
        let own : events_of u (first_part cut order ++ second_part cut order) ≡ (inside cut order u ++ early cut order u) ++ late cut order u =
        own_more u (first_part cut order) (second_part cut order) ∙ (λ i. p.inside_and_early u i ++ p.the_rest u i) in
        subst (λ es. Chooses u (new_logged g) es (last.routers u)) (sym own)
        (both_ends (logged_steps g) u (IsFine laws.appends g u) (inside cut order u ++ early cut order u) (late cut order u) (new_logged g) moved.0 (last.routers u)
        (both_ends (logged_steps g) u (IsFine laws.appends g u) (inside cut order u) (early cut order u) (new_logged g) (state_at u) moved.0 before moved.1) moved.2)

    pub chosen_through : IsChosenRun g (runs.opening (λ u. new_logged g)) (first_part cut order ++ second_part cut order) (with_offers last (offers_in (first_part cut order ++ second_part cut order)))
    chosen_through =
        let p = passed.1 in
        of_journals (first_part cut order ++ second_part cut order) (runs.opening (λ u. new_logged g)) (with_offers last (offers_in (first_part cut order ++ second_part cut order)))
        (runs_join g (first_part cut order) (second_part cut order) (runs.opening (λ u. new_logged g)) _ (with_offers last (offers_in (first_part cut order ++ second_part cut order))) p.to_the_cut p.from_the_cut)
        reordered

pub chosen_runs_pass_through : CutLaws → ChosenRunsPassThrough
chosen_runs_pass_through laws g set order last run s parts made t chosen =
    chosen_through laws g set order last run s parts t.at t.is_cut t.cut (λ u is. t.passes.recorded u is) (λ u is. t.passes.nobody u is) chosen
