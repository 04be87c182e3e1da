-- A run passes through the cut of each snapshot of which every router made its part.
use Rattle.std.proofs.Common.{◌≡◌, ℕ, zero, suc, ◌==◌, inl, inr, Bool, true, false, [], ◌∷◌, ◌++◌, length, refl, ap, sym, subst, ◌∙◌, append_assoc, arith}
use Rattle.std.specs.Prelude.{take, drop, filter}
use mathlib.Core.List.{IsPrefix}
use mathlib.Core.Logic.{◌⊎◌}
use Rattle.std.proofs.lemmas.List.{append-nil, take-append-drop, drop_all, append_cancel_left}
use Rattle.std.proofs.lemmas.List.Elements.{filter-append}
use Rattle.std.proofs.lemmas.List.Folds.{list_any-from_Any}
use Rattle.std.proofs.lemmas.Bool.{eq-eqb}
use Rattle.std.proofs.Math.Seq.{drop-append_seam}
use Rattle.ranked_policy.specs.Plans.{IsRouter, numbers}
use Rattle.run_model.specs.Octets.{passing}
use Rattle.run_model.specs.Network as runs
use Rattle.run_model.specs.Network.{NetworkEvent, offered_by, offers_in}
use Rattle.run_model.specs.Journals.{IsJournal, events_of, puts_towards, takes_from, offers_made}
use Rattle.run_model.specs.CausalOrder.{closing}
use Rattle.run_model.specs.Exchange.{CanPut}
use Rattle.run_model.specs.ThroughCut.{inside, outside, early, first_part, second_part, put_outside, with_offers, IsCut, IsConsistentCut, PassesThrough, StandOnce}
use Rattle.run_model.specs.Offers.{Settled, Moving, Why, number_of, made_for}
use Rattle.outbox.specs.declared.item.What.{What}
use Rattle.snap_marker.specs.Recordings.{RouterPart, MadeOffer}
use Rattle.router_model.specs.Settings.{Setting, IsSetting, is_router, linked}
use Rattle.router_model.specs.State.{Router}
use Rattle.router_model.specs.Step.{Own}
use Rattle.router_model.specs.Laws.{all_passes, AreLinked}
use Rattle.router_runs.specs.Runs.{Logged, LoggedStep, RunOrder, RunState, IsRunTo, logged_steps, new_logged, side_of, log_of, written_in}
use Rattle.router_runs.specs.Model.{network_of}
use Rattle.router_runs.specs.Snapshots.{IsPartOf, IsCutOf, HasMade, HaveMade, ComesOut}
use Rattle.run_cuts.specs.CutLaws.{CutLaws}
use Rattle.run_cuts.specs.ThroughSnapshot.{with_outboxes, HasOnlyPut, RecordsBy, PutsEnough, HasChannel, PassesThroughSnapshot, RunsPassThroughSnapshots, DecidedRunsPassThrough}
use Rattle.run_cuts.proofs.Loggeds.{same_end, logged_puts_commute, only_puts, passes_more, can_put, HaveSizes, sizes, sizes_front, sizes_behind, none_taken}
use Rattle.run_cuts.proofs.Offering.{offered, offered_up, none_for}
use Rattle.run_cuts.proofs.AtTheCut.{either_begins, take_one_more, begins_trans, begins_length, own_more, puts_more, takes_more, offers_more, own_one, run_more, Shown, shown}
use Rattle.run_cuts.proofs.Outcomes.{by_its_offers}
use Rattle.run_cuts.proofs.Once.{once}

-- a router of the network is one by the test
known_router : (g : Setting) (u : ℕ) → IsRouter g.net.routers u → is_router g u ≡ true
known_router g u c = list_any-from_Any (λ n. u == n) (numbers g.net.routers) (c.0, u, c.1, c.2, eq-eqb u u refl)

-- a part says nothing of outboxes
part_of_outboxes : (g : Setting) (u : ℕ) (x y : Router) (part : RouterPart) → y ≡ with_outboxes x (λ v. (y.sides v).outbox) → IsPartOf g u x part → IsPartOf g u y part
part_of_outboxes g u x y part is h =
    subst (λ z. IsPartOf g u z part) (sym is) (record { kept = h.kept; originated = h.originated; incarnation = h.incarnation; pending = h.pending })

module _ (laws : CutLaws) (g : Setting) (set : IsSetting g) (order : RunOrder) (last : RunState) (run : IsRunTo g order last) (s : ℕ)
    (parts : ℕ → RouterPart) (at : ℕ → RunState) (is_cut : IsCutOf g order last s parts at) (cut : ℕ → ℕ)
    (recorded : (u : ℕ) → is_router g u ≡ true → RecordsBy g order last u s (at u) (cut u)) (nobody : (u : ℕ) → is_router g u ≡ false → cut u ≡ 0) where
  abbrev of_run : Shown laws g order last
  of_run = shown laws g order last run

  -- ---- one router up to its recording

  module _ (u : ℕ) (is : is_router g u ≡ true) where
    abbrev before : RunOrder
    before = (recorded u is).recorded.before

    abbrev its : NetworkEvent Own What MadeOffer
    its = record { router = u; event = (recorded u is).recorded.event }

    abbrev up_to : RunOrder
    up_to = before ++ its ∷ []

    run_to : IsRunTo g up_to (at u)
    run_to = (let r = (recorded u is).recorded in run_more g before its (runs.opening (λ w. new_logged g)) r.old (at u) r.reached r.step)

    -- its events inside are those up to its recording
    inside_then : inside cut order u ≡ events_of u before ++ its.event ∷ []
    inside_then =
        let r = (recorded u is).recorded in
        let all : events_of u order ≡ events_of u before ++ its.event ∷ events_of u r.later =
        ap (events_of u) r.parts ∙ own_more u before (its ∷ r.later) ∙ ap (λ l. events_of u before ++ l) (own_one u its.event (events_of u r.later)) in
        ap (λ n. take n (events_of u order)) (recorded u is).counts ∙ ap (take (suc (length (events_of u before)))) all
        ∙ take_one_more (events_of u before) its.event (events_of u r.later)

    inside_is : inside cut order u ≡ events_of u up_to
    inside_is = inside_then ∙ sym (own_more u before (its ∷ []) ∙ ap (λ l. events_of u before ++ l) (own_one u its.event []))

    abbrev there : Shown laws g up_to (at u)
    there = shown laws g up_to (at u) run_to

    put_is : (v : ℕ) → (at u).put u v ≡ puts_towards v (inside cut order u)
    put_is v = there.put u v ∙ ap (puts_towards v) (sym inside_is)

    taken_is : (v : ℕ) → (at u).taken v u ≡ takes_from v (inside cut order u)
    taken_is v = there.taken v u ∙ ap (takes_from v) (sym inside_is)

  -- ---- the states at the cut

  abbrev pub cuts : (states : ℕ → Logged) × IsCut (logged_steps g) cut order (λ u. new_logged g) states last.routers
  cuts = laws.cuts g cut order (λ u. new_logged g) last run

  abbrev pub state_at : ℕ → Logged
  state_at = cuts.0

  same_state : (u : ℕ) → is_router g u ≡ true → state_at u ≡ (at u).routers u
  same_state u is =
      same_end g u (inside cut order u) (new_logged g) (state_at u) ((at u).routers u) (cuts.1.inside_leads u)
      (subst (λ es. IsJournal (logged_steps g) u (new_logged g) es ((at u).routers u)) (sym (inside_is u is)) ((there u is).journals u))

  -- what v took from u inside, and u put outside
  took_first : (u v : ℕ) → IsPrefix (takes_from u (inside cut order v)) (last.put u v)
  took_first u v =
      begins_trans (takes_from u (inside cut order v)) (last.taken u v) (last.put u v)
      (takes_from u (outside cut order v), sym (takes_more u (inside cut order v) (outside cut order v)) ∙ ap (takes_from u) (take-append-drop (cut v) (events_of v order)) ∙ sym (of_run.taken u v))
      (of_run.begins u v)

  put_first : (u v : ℕ) → IsPrefix (puts_towards v (inside cut order u)) (last.put u v)
  put_first u v =
      (puts_towards v (outside cut order u), sym (puts_more v (inside cut order u) (outside cut order u)) ∙ ap (puts_towards v) (take-append-drop (cut u) (events_of u order)) ∙ sym (of_run.put u v))

  -- where more was taken inside than put inside, the rest stands in front of the outbox
  rest_fits : (u v : ℕ) (iu : is_router g u ≡ true) (iv : is_router g v ≡ true) → linked g.net u v ≡ true
      → (h : IsPrefix (puts_towards v (inside cut order u)) (takes_from u (inside cut order v))) → IsPrefix (all_passes h.0) (side_of (at u) u v).outbox
  rest_fits u v iu iv near h =
      let p = puts_towards v (inside cut order u) in
      let link = is_cut.links u v near in
      let puts : all_passes p ++ (side_of (at u) u v).outbox ≡ passing (written_in g) (log_of (at u) u v) =
      subst (λ l. all_passes l ++ (side_of (at u) u v).outbox ≡ passing (written_in g) (log_of (at u) u v)) (put_is u iu v) ((laws.kept g set (up_to u iu) (at u) (run_to u iu)).reached.puts u v) in
      let took : IsPrefix (all_passes (takes_from u (inside cut order v))) (passing (written_in g) (log_of (at u) u v)) =
      subst (λ l. IsPrefix (all_passes l) (passing (written_in g) (log_of (at u) u v))) (taken_is v iv u) link.consistent in
      let more : all_passes (takes_from u (inside cut order v)) ≡ all_passes p ++ all_passes h.0 = ap all_passes (sym h.1) ∙ passes_more p h.0 in
      (took.0, append_cancel_left (all_passes p) (all_passes h.0 ++ took.0) (side_of (at u) u v).outbox (sym (append_assoc (all_passes p) (all_passes h.0) took.0) ∙ ap (λ l. l ++ took.0) (sym more) ∙ took.1 ∙ sym puts))

  outside_is : (u v : ℕ) (h : IsPrefix (puts_towards v (inside cut order u)) (takes_from u (inside cut order v))) → put_outside cut order u v ≡ h.0
  outside_is u v h = ap (drop (length (puts_towards v (inside cut order u)))) (sym h.1) ∙ drop-append_seam (puts_towards v (inside cut order u)) h.0

  outside_none : (u v : ℕ) (h : IsPrefix (takes_from u (inside cut order v)) (puts_towards v (inside cut order u))) → put_outside cut order u v ≡ []
  outside_none u v h = drop_all (length (puts_towards v (inside cut order u))) (takes_from u (inside cut order v)) (begins_length (takes_from u (inside cut order v)) (puts_towards v (inside cut order u)) h)

  abbrev Either : ℕ → ℕ → Type 0
  Either u v = IsPrefix (puts_towards v (inside cut order u)) (takes_from u (inside cut order v)) ⊎ IsPrefix (takes_from u (inside cut order v)) (puts_towards v (inside cut order u))

  either : (u v : ℕ) → Either u v
  either u v = either_begins (puts_towards v (inside cut order u)) (takes_from u (inside cut order v)) (last.put u v) (put_first u v) (took_first u v)

  all_sizes : (u v : ℕ) → HaveSizes g (last.put u v)
  all_sizes u v = subst (HaveSizes g) (sym (of_run.put u v)) (sizes g u v (events_of u order) (new_logged g) (last.routers u) (of_run.journals u))

  can_between : (u v : ℕ) → linked g.net v u ≡ true → Either u v → CanPut (logged_steps g) u (state_at u) v (put_outside cut order u v)
  can_between u v back (inr h) = subst (CanPut (logged_steps g) u (state_at u) v) (sym (outside_none u v h)) tt
  can_between u v back (inl h) =
      let are : AreLinked g.net v u = laws.linked_peers g.net set.network v u back in
      let iu = known_router g u are.other in
      let iv = known_router g v are.one in
      let t = took_first u v in
      let fit : HaveSizes g h.0 = sizes_behind g (puts_towards v (inside cut order u)) h.0
      (subst (HaveSizes g) (sym h.1) (sizes_front g (takes_from u (inside cut order v)) t.0 (subst (HaveSizes g) (sym t.1) (all_sizes u v)))) in
      subst (CanPut (logged_steps g) u (state_at u) v) (sym (outside_is u v h))
      (can_put g u v h.0 (state_at u) are.other are.back fit
      (subst (λ (x : Logged). IsPrefix (all_passes h.0) (x.router.sides v).outbox) (sym (same_state u iu)) (rest_fits u v iu iv are.back h)))

  pub can_there : (u v : ℕ) (b : Bool) → linked g.net v u ≡ b → CanPut (logged_steps g) u (state_at u) v (put_outside cut order u v)
  can_there u v true near = can_between u v near (either u v)
  can_there u v false apart =
      let none = none_taken g v u (inside cut order v) (new_logged g) (state_at v) apart (cuts.1.inside_leads v) in
      subst (CanPut (logged_steps g) u (state_at u) v) (sym (ap (drop (length (puts_towards v (inside cut order u)))) none ∙ drop_all (length (puts_towards v (inside cut order u))) [] (omega arith))) tt

  abbrev pub consistent : IsConsistentCut (logged_steps g) cut order (λ u. new_logged g) state_at last.routers
  consistent = record { states = cuts.1; appended_inside = λ u v. can_there u v (linked g.net v u) refl }

  -- ---- the run in two parts

  abbrev pub through : (states : ℕ → Logged) × PassesThrough (logged_steps g) cut order (λ u. new_logged g) state_at states last
  through = laws.through g cut order (λ u. new_logged g) state_at last (logged_puts_commute laws.commute laws.said g) run consistent

  abbrev first : RunOrder
  first = first_part cut order

  abbrev second : RunOrder
  second = second_part cut order

  abbrev middle : RunState
  middle = closing through.0 (offers_in first) first

  abbrev end : RunState
  end = with_offers last (offers_in (first ++ second))

  as_recorded : (u : ℕ) → is_router g u ≡ true → HasOnlyPut ((at u).routers u) (middle.routers u)
  as_recorded u is =
      subst (λ (x : Logged). HasOnlyPut x (middle.routers u)) (same_state u is)
      (only_puts g u (early cut order u) (state_at u) (middle.routers u) (through.1.early_are_puts u) (through.1.early_leads u))

  taken_by_then : (u v : ℕ) → is_router g v ≡ true → middle.taken u v ≡ (at v).taken u v
  taken_by_then u v iv = through.1.taken u v ∙ sym (taken_is v iv u)

  put_by_then : (u v : ℕ) → is_router g u ≡ true → is_router g v ≡ true → Either u v → PutsEnough (at u) (at v) middle u v
  put_by_then u v iu iv (inl h) =
      let all : middle.put u v ≡ takes_from u (inside cut order v) = through.1.put u v ∙ ap (λ l. puts_towards v (inside cut order u) ++ l) (outside_is u v h) ∙ h.1 in
      inr (all ∙ sym (taken_is v iv u), subst (λ l. IsPrefix l ((at v).taken u v)) (sym (put_is u iu v)) (subst (IsPrefix (puts_towards v (inside cut order u))) (sym (taken_is v iv u)) h))
  put_by_then u v iu iv (inr h) =
      let all : middle.put u v ≡ puts_towards v (inside cut order u) = through.1.put u v ∙ ap (λ l. puts_towards v (inside cut order u) ++ l) (outside_none u v h) ∙ append-nil (puts_towards v (inside cut order u)) in
      inl (all ∙ sym (put_is u iu v), subst (λ l. IsPrefix ((at v).taken u v) l) (sym (put_is u iu v)) (subst (λ l. IsPrefix l (puts_towards v (inside cut order u))) (sym (taken_is v iv u)) h))

  states : (u : ℕ) → is_router g u ≡ true → IsPartOf g u (middle.routers u).router (parts u)
  states u is = part_of_outboxes g u ((at u).routers u).router (middle.routers u).router (parts u) (as_recorded u is).router (is_cut.states u is)

  -- a side as it was recorded, but for its outbox
  epoch_is : (u v : ℕ) → is_router g u ≡ true → (side_of middle u v).link.epoch ≡ (side_of (at u) u v).link.epoch
  epoch_is u v is = ap (λ (x : Router). (x.sides v).link.epoch) (as_recorded u is).router

  sent_is : (u v e : ℕ) → is_router g u ≡ true → (side_of middle u v).sent e ≡ (side_of (at u) u v).sent e
  sent_is u v e is = ap (λ (x : Router). (x.sides v).sent e) (as_recorded u is).router

  acted_is : (u v e : ℕ) → is_router g u ≡ true → (side_of middle u v).acted e ≡ (side_of (at u) u v).acted e
  acted_is u v e is = ap (λ (x : Router). (x.sides v).acted e) (as_recorded u is).router

  channels : (u v : ℕ) → linked g.net u v ≡ true → HasChannel middle u v (parts v)
  channels u v near =
      let are : AreLinked g.net u v = laws.linked_peers g.net set.network u v near in
      let iu = known_router g u are.one in
      let iv = known_router g v are.other in
      let link = is_cut.links u v near in
      let e = (side_of (at v) v u).link.epoch in
      record {
        one_incarnation = epoch_is u v iu ∙ link.one_incarnation ∙ sym (epoch_is v u iv);
        in_flight = link.in_flight;
        recorded = link.channel;
        sent = ap (λ k. (side_of middle u v).sent k) (epoch_is v u iv) ∙ sent_is u v e iu ∙ link.sent
            ∙ ap (λ l. l ++ link.in_flight) (sym (ap (λ k. (side_of middle v u).acted k) (epoch_is v u iv) ∙ acted_is v u e iv));
      }

  -- ---- the offers for s

  abbrev for_s : MadeOffer → Bool
  for_s m = number_of m.offer == s

  none_by : (u : ℕ) (b : Bool) → is_router g u ≡ b → filter for_s (offers_made (inside cut order u)) ≡ []
  none_by u true is =
      let r = (recorded u is).recorded in
      let old = r.old.routers u in
      let show = shown laws g r.before r.old r.reached in
      let by = offered laws.goes_on g u (events_of u r.before) (new_logged g) old (show.journals u) (record { unfinished = tt; queue = tt }) in
      let did : LoggedStep g u old r.event r.step.0 = r.step.1 in
      let before_none = none_for s old.router.snapshots.last (offers_made (events_of u r.before)) r.greater by.made in
      let its_none = none_for s old.router.snapshots.last (offered_by r.event) r.greater (offered_up g u old.router (r.step.0).router r.event old.router.snapshots.last did.step (omega arith) by.up) in
      ap (λ es. filter for_s (offers_made es)) (inside_then u is) ∙ ap (filter for_s) (offers_more (events_of u r.before) (r.event ∷ []))
      ∙ filter-append for_s (offers_made (events_of u r.before)) (offers_made (r.event ∷ []))
      ∙ (λ i. before_none i ++ (ap (filter for_s) (append-nil (offered_by r.event)) ∙ its_none) i)
  none_by u false is = ap (λ n. filter for_s (offers_made (take n (events_of u order)))) (nobody u is)

  offers_for_it : made_for s (offers_in (first ++ second)) ≡ made_for s last.offered
  offers_for_it = laws.stand cut order for_s (λ u. none_by u (is_router g u) refl) ∙ ap (made_for s) (sym of_run.offered)

  -- ---- lengths

  known_all : (ds : RunOrder) (old new : RunState) → runs.Run (logged_steps g) old ds new → StandOnce (numbers g.net.routers) ds
  known_all [] old new r k d less = absurd (omega arith)
  known_all (c ∷ ds) old new r zero d less = once c.router (numbers g.net.routers) set.network.plan.rising r.1.1.known
  known_all (c ∷ ds) old new r (suc k) d less = known_all ds r.0 new r.2 k d (omega arith)

  pub passes : PassesThroughSnapshot g order last s parts at cut middle
  passes =
      let p = through.1 in
      record {
        recorded = recorded;
        nobody = nobody;
        apart = p.parts;
        first_has = p.inside_and_early;
        second_has = p.the_rest;
        early_are_puts = p.early_are_puts;
        to_the_cut = p.to_the_cut;
        as_recorded = as_recorded;
        taken = taken_by_then;
        put = λ u v iu iv. put_by_then u v iu iv (either u v);
        states = states;
        channels = channels;
        from_the_cut = p.from_the_cut;
        offers_for_it = offers_for_it;
        comes_out = λ outcome. (by_its_offers (network_of g) s last.offered end.offered (sym offers_for_it) outcome, by_its_offers (network_of g) s end.offered last.offered offers_for_it outcome);
        long = (laws.long cut order (numbers g.net.routers) (known_all order (runs.opening (λ u. new_logged g)) last run)).0;
      }

-- ---- the cut: up to each router's recording

module _ (g : Setting) (order : RunOrder) (last : RunState) (s : ℕ) (parts : ℕ → RouterPart) (at : ℕ → RunState) (is_cut : IsCutOf g order last s parts at) where
  abbrev count : (u : ℕ) (b : Bool) → is_router g u ≡ b → ℕ
  count u true is = suc (length (events_of u (is_cut.recorded u is).before))
  count u false is = 0

  abbrev cut_of : ℕ → ℕ
  cut_of u = count u (is_router g u) refl

  recorded_by : (u : ℕ) (b : Bool) (is : is_router g u ≡ b) → b ≡ true → RecordsBy g order last u s (at u) (count u b is)
  recorded_by u true is h = record { recorded = is_cut.recorded u is; counts = refl }
  recorded_by u false is h = absurd (cc h)

  nobody_by : (u : ℕ) (b : Bool) (is : is_router g u ≡ b) → b ≡ false → count u b is ≡ 0
  nobody_by u true is h = absurd (cc h)
  nobody_by u false is h = refl

  recorded_of : (u : ℕ) → is_router g u ≡ true → RecordsBy g order last u s (at u) (cut_of u)
  recorded_of u is = recorded_by u (is_router g u) refl is

  nobody_of : (u : ℕ) → is_router g u ≡ false → cut_of u ≡ 0
  nobody_of u is = nobody_by u (is_router g u) refl is

pub runs_pass_through_snapshots : CutLaws → RunsPassThroughSnapshots
runs_pass_through_snapshots laws g set order last run s parts made =
    let c = laws.parts g set order last run s parts made in
    let counted = cut_of g order last s parts c.0 c.1 in
    let recorded = recorded_of g order last s parts c.0 c.1 in
    let nobody = nobody_of g order last s parts c.0 c.1 in
    record {
      at = c.0;
      is_cut = c.1;
      cut = counted;
      middle = middle laws g set order last run s parts c.0 c.1 counted recorded nobody;
      passes = passes laws g set order last run s parts c.0 c.1 counted recorded nobody;
    }

-- ---- where it is settled or moving

nothing_recorded : RouterPart
nothing_recorded = record { kept = λ q. []; originated = λ q. false; incarnation = λ v. 0; pending = false; channel = λ v. [] }

abbrev Decided : Setting → RunState → ℕ → Type 0
Decided g last s = ComesOut g last s Settled ⊎ ((v : ℕ) × (why : Why) × ComesOut g last s (Moving v why))

module _ (laws : CutLaws) (g : Setting) (set : IsSetting g) (order : RunOrder) (last : RunState) (run : IsRunTo g order last) (s : ℕ) (decided : Decided g last s) where
  abbrev part_by : (u : ℕ) (b : Bool) → is_router g u ≡ b → RouterPart
  part_by u true is = (laws.all g set order last run s u is decided).0
  part_by u false is = nothing_recorded

  made_by : (u : ℕ) (b : Bool) (is : is_router g u ≡ b) → b ≡ true → HasMade last s u (part_by u b is)
  made_by u true is h = (laws.all g set order last run s u is decided).1
  made_by u false is h = absurd (cc h)

  all_made : HaveMade g last s (λ u. part_by u (is_router g u) refl)
  all_made u is = made_by u (is_router g u) refl is

pub decided_runs_pass_through : CutLaws → DecidedRunsPassThrough
decided_runs_pass_through laws g set order last run s decided =
    let parts : ℕ → RouterPart = λ u. part_by laws g set order last run s decided u (is_router g u) refl in
    let made = all_made laws g set order last run s decided in
    (parts, made, runs_pass_through_snapshots laws g set order last run s parts made)
