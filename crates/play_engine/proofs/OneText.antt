-- An input has one text.
use Rattle.std.proofs.Common.{◌≡◌, ◌≢◌, ℕ, ◌+◌, List, [], ◌∷◌, ◌++◌, length, refl, ap, sym, subst, ◌∙◌, inl, inr, Ok, Err}
use Rattle.std.specs.Prelude.{◌⊎◌}
use Rattle.std.proofs.lemmas.List.{append-nil}
use Rattle.prefix_lanes.specs.Bits.{PrefixView}
use Rattle.ranked_policy.specs.Plans.{Plan}
use Rattle.bgp_codec.specs.declared.message.Message.{Message}
use Rattle.run_model.specs.Offers.{Waiting, Abandoned, Moving, Settled, OutcomeIsOne}
use Rattle.router_model.specs.Settings.{Setting, IsSetting}
use Rattle.router_runs.specs.Model.{network_of}
use Rattle.router_runs.specs.Existence.{EachNetworkHasASetting}
use Rattle.world_core.specs.declared.schedule.Event.{Event}
use Rattle.world_core.specs.declared.schedule.StepFault.{StepFault}
use Rattle.world_core.specs.declared.schedule.StepFault.TheVariants.{Memory}
use Rattle.world_core.specs.World.{World, Stops, new_world, played}
use Rattle.world_core.specs.Orders.{events_of, StopsAt, IsRefused}
use Rattle.world_core.specs.Answering.{IsUndecided}
use Rattle.world_core.specs.Replays.{PlayedRun}
use Rattle.world_core.specs.Through.{IsDecided}
use Rattle.world_core.specs.OneRun.{PlayedCutsAreOne}
use Rattle.world_core.specs.Verdicts.{members_of}
use Rattle.net_text.specs.declared.code.Code.{Code}
use Rattle.net_text.specs.Lexing.{Text}
use Rattle.schedule_text.specs.declared.schedule.ScheduledOrder.{ScheduledOrder}
use Rattle.schedule_text.specs.Schedules.{line_order, IsGood, IsFirstFault}
use Rattle.text_engines.specs.declared.status.TheConstants.{DONE}
use Rattle.net_text.specs.Printing.{code_text}
use Rattle.text_engines.specs.Decoding.{Output, output, refused}
use Rattle.text_engines.specs.Laws.{GivesOne}
use Rattle.text_engines.proofs.OneText.{one_first}
use Rattle.schedule_text.specs.declared.report.RefusedOrder.{RefusedOrder}
use Rattle.play_engine.specs.Reporting.{snapshots_text, now_text}
use Rattle.schedule_text.specs.Obeying.{all_events, LeadTo, IsFirstRefused}
use Rattle.play_engine.specs.Playing.{IsReport, OrdersGive, ScheduleGives, stopped}
use Rattle.play_engine.specs.Cutting.{IsCutReport, cut_text}
use Rattle.play_engine.specs.Laws.{WorldsGiveOne}
use Rattle.schedule_text.proofs.Faults.{refused_at, no_fault, not_good}
use Rattle.schedule_text.proofs.ObeyingLemmas.{no_stop, no_halt}
use Rattle.schedule_text.proofs.DecidedLemmas.{decided_one}

-- ---- the text of a schedule

module _ (net : Plan) (before : ℕ) (lines : List Text) where
  fault_one : (at bt : ℕ) (code reason : Code) → IsFirstFault net before lines at code → IsFirstFault net before lines bt reason → (at ≡ bt) × (code ≡ reason)
  fault_one at bt code reason a b =
      let same = one_first (IsGood net) a.front b.front a.behind b.behind a.faulty b.faulty (sym a.parted ∙ b.parted) a.good b.good
      (not_good (line_order net a.faulty) code a.fault) (not_good (line_order net b.faulty) reason b.fault) in
      let places : at ≡ bt = sym a.counted ∙ ap (λ (ls : List Text). before + length ls + 1) same.0 ∙ b.counted in
      let kinds : Err code ≡ Err reason = sym a.fault ∙ ap (line_order net) same.1 ∙ b.fault in
      (places, cc)

-- ---- what orders lead to

-- two ways to part a list
module _ {X : Type 0} where
  abbrev Longer : List X → X → List X → Type 0
  Longer xs x ys = (zs : List X) × (ys ≡ xs ++ x ∷ zs)

  parting : (xs ys more rest : List X) (x y : X) → xs ++ x ∷ more ≡ ys ++ y ∷ rest → ((xs ≡ ys) × (x ≡ y)) ⊎ (Longer xs x ys ⊎ Longer ys y xs)
  parting [] [] more rest x y same = inl (refl, cc)
  parting [] (v ∷ ys) more rest x y same =
      let head : v ≡ x = cc in
      inr (inl (ys, ap (λ w. w ∷ ys) head))
  parting (u ∷ xs) [] more rest x y same =
      let head : u ≡ y = cc in
      inr (inr (xs, ap (λ w. w ∷ xs) head))
  parting (u ∷ xs) (v ∷ ys) more rest x y same =
      let head : u ≡ v = cc in
      let tail : xs ++ x ∷ more ≡ ys ++ y ∷ rest = cc in
      elim (parting xs ys more rest x y tail) [
        | inl alike ↦ inl (ap (λ w. w ∷ xs) head ∙ ap (λ l. v ∷ l) alike.0, alike.1)
        | inr longer ↦ elim longer [
          | inl l ↦ inr (inl (l.0, ap (λ w. w ∷ ys) (sym head) ∙ ap (λ k. u ∷ k) l.1))
          | inr l ↦ inr (inr (l.0, ap (λ w. w ∷ xs) head ∙ ap (λ k. v ∷ k) l.1))
        ]
      ]

module _ (g : Setting) where
  why_one : (y : World) (x : Event) (why other : StepFault) → why ≢ Memory → other ≢ Memory → IsRefused g y x why → IsRefused g y x other → why ≡ other
  why_one y x why other kind differs (inl a) (inl b) = (let same : Stops why ≡ Stops other = sym a ∙ b in cc)
  why_one y x why other kind differs (inl a) (inr b) = absurd (differs b.3)
  why_one y x why other kind differs (inr a) b = absurd (kind a.3)

  -- the events before a refused one are not played on behind it
  not_behind : (w y z : World) (before zs later : List Event) (x : Event) (why : StepFault) → why ≢ Memory → played g w 0 before ≡ Ok y → IsRefused g y x why → later ≡ before ++ x ∷ zs → played g w 0 later ≡ Ok z → ⊥
  not_behind w y z before zs later x why kind reached refused is h =
      let s : StopsAt g w later (length before) why y = record { before = before; event = x; behind = zs; parts = is; place = refl; reached = reached; refused = refused } in
      no_stop g w z y later [] (length before) why kind s (ap (played g w 0) (append-nil later) ∙ h)

  stops_one : (w y z : World) (events : List Event) (at bt : ℕ) (why other : StepFault) → why ≢ Memory → other ≢ Memory → StopsAt g w events at why y → StopsAt g w events bt other z → why ≡ other
  stops_one w y z events at bt why other kind differs a b =
      elim (parting a.before b.before a.behind b.behind a.event b.event (sym a.parts ∙ b.parts)) [
        | inl alike ↦
            let there : Ok y ≡ Ok z = sym a.reached ∙ ap (played g w 0) alike.0 ∙ b.reached in
            let world : y ≡ z = cc in
            why_one z b.event why other kind differs
            (subst (λ (v : World). IsRefused g v b.event why) world (subst (λ (x : Event). IsRefused g y x why) alike.1 a.refused)) b.refused
        | inr longer ↦ elim longer [
          | inl l ↦ absurd (not_behind w y z a.before l.0 b.before a.event why kind a.reached a.refused l.1 b.reached)
          | inr l ↦ absurd (not_behind w z y b.before l.0 a.before b.event other differs b.reached b.refused l.1 a.reached)
        ]
      ]

  -- the orders before a refused one are not obeyed behind it
  not_led : (w z : World) (os : List ScheduledOrder) (stop : RefusedOrder) → stop.why ≢ Memory → (s : IsFirstRefused g w os stop) (zs later : List ScheduledOrder) → later ≡ s.before ++ s.order ∷ zs → LeadTo g w later z → ⊥
  not_led w z os stop kind s zs later is h =
      no_halt g w z later stop kind
      (record { before = s.before; order = s.order; behind = zs; reached = s.reached; left = s.left; at = s.at; parts = is; stands = s.stands; done = s.done; stops = s.stops }) h

  stop_one : (w : World) (os : List ScheduledOrder) (stop halt : RefusedOrder) → stop.why ≢ Memory → halt.why ≢ Memory → IsFirstRefused g w os stop → IsFirstRefused g w os halt → stop ≡ halt
  stop_one w os stop halt kind differs a b =
      elim (parting a.before b.before a.behind b.behind a.order b.order (sym a.parts ∙ b.parts)) [
        | inl alike ↦
            let there : Ok a.reached ≡ Ok b.reached = sym a.done ∙ ap (λ (k : List ScheduledOrder). played g w 0 (all_events g.net k)) alike.0 ∙ b.done in
            let world : a.reached ≡ b.reached = cc in
            let line : stop.line ≡ halt.line = sym a.stands ∙ ap (λ (o : ScheduledOrder). o.line) alike.1 ∙ b.stands in
            let why : stop.why ≡ halt.why =
            stops_one b.reached a.left b.left (events_of g.net b.order.order) a.at b.at stop.why halt.why kind differs
            (subst (λ (v : World). StopsAt g v (events_of g.net b.order.order) a.at stop.why a.left) world
            (subst (λ (o : ScheduledOrder). StopsAt g a.reached (events_of g.net o.order) a.at stop.why a.left) alike.1 a.stops)) b.stops in
            ap (λ n. record { line = n; why = stop.why }) line ∙ ap (λ y. record { line = halt.line; why = y }) why
        | inr longer ↦ elim longer [
          | inl l ↦ absurd (not_led w b.reached os stop kind a l.0 b.before l.1 b.done)
          | inr l ↦ absurd (not_led w a.reached os halt differs b l.0 a.before l.1 a.done)
        ]
      ]

-- ---- whatever is shown of a world

module _ (each : EachNetworkHasASetting) (Gives : Setting → World → Output → Type 0) (one : WorldsGiveOne Gives) where
  orders_one : (net : Plan) (g : Setting) → g.net ≡ net → IsSetting g → (os : List ScheduledOrder) (a b : Output) → OrdersGive Gives net os a → OrdersGive Gives net os b → a ≡ b
  orders_one net g over set os a b x y = elim (x g over set.chooses) [
    | inl p ↦ elim (y g over set.chooses) [
      | inl q ↦
          let there : Ok p.0 ≡ Ok q.0 = sym p.1 ∙ q.1 in
          let world : p.0 ≡ q.0 = cc in
          one g set q.0 a b (subst (λ (w : World). Gives g w a) world p.3) q.3
      | inr q ↦ absurd (no_halt g (new_world g) p.0 os q.0 q.1 q.2 p.1)
    ]
    | inr p ↦ elim (y g over set.chooses) [
      | inl q ↦ absurd (no_halt g (new_world g) q.0 os p.0 p.1 p.2 q.1)
      | inr q ↦ p.3 ∙ ap stopped (stop_one g (new_world g) os p.0 q.0 p.1 q.1 p.2 q.2) ∙ sym q.3
    ]
  ]

  pub schedule_one : GivesOne (ScheduleGives Gives)
  schedule_one net network hold before lines a b (inl r) (inl s) =
      let same = fault_one net before lines r.0 s.0 r.1 s.1 (refused_at net before lines r.0 r.1 r.2 r.3) (refused_at net before lines s.0 s.1 s.2 s.3) in
      r.4 ∙ ap (λ n. refused n (code_text r.1)) same.0 ∙ ap (λ c. refused s.0 (code_text c)) same.1 ∙ sym s.4
  schedule_one net network hold before lines a b (inl r) (inr t) = absurd (no_fault net before lines r.0 r.1 t.1.good (refused_at net before lines r.0 r.1 r.2 r.3))
  schedule_one net network hold before lines a b (inr t) (inl r) = absurd (no_fault net before lines r.0 r.1 t.1.good (refused_at net before lines r.0 r.1 r.2 r.3))
  schedule_one net network hold before lines a b (inr t) (inr u) =
      let has = each net network in
      let orders : t.0 ≡ u.0 = t.1.are ∙ sym u.1.are in
      orders_one net has.setting has.over (has.is hold) u.0 a b (subst (λ (os : List ScheduledOrder). OrdersGive Gives net os a) orders t.2) u.2

-- ---- a report

pub report_one : WorldsGiveOne IsReport
report_one g set w a b x y =
    let same = decided_one (members_of g.net) w.made x.decided y.decided x.are_decided y.are_decided in
    x.printed ∙ ap (λ (ns : List ℕ). output (snapshots_text g.net (members_of g.net) w.made ns ++ now_text g.net w) DONE) same ∙ sym y.printed

-- ---- a cut

module _ (one_outcome : OutcomeIsOne Message PrefixView (List ℕ)) (one_cut : PlayedCutsAreOne) where
  not_both : (g : Setting) (w : World) (run : PlayedRun g w) (s : ℕ) → IsUndecided g run.state s → IsDecided g w run s → ⊥
  not_both g w run s (inl a) (inl b) = (let same = one_outcome (network_of g) s run.state.offered Waiting Settled a b in absurd cc)
  not_both g w run s (inl a) (inr b) = (let same = one_outcome (network_of g) s run.state.offered Waiting (Moving b.0 b.1) a b.2 in absurd cc)
  not_both g w run s (inr a) (inl b) = (let same = one_outcome (network_of g) s run.state.offered (Abandoned a.0 a.1 a.2 a.3) Settled a.4 b in absurd cc)
  not_both g w run s (inr a) (inr b) =
      let same = one_outcome (network_of g) s run.state.offered (Abandoned a.0 a.1 a.2 a.3) (Moving b.0 b.1) a.4 b.2 in
      absurd cc

  pub cut_one : (s : ℕ) → WorldsGiveOne (IsCutReport s)
  cut_one s g set w a b (inl x) (inl y) = x.1 ∙ sym y.1
  cut_one s g set w a b (inl x) (inr y) =
      let has = y.1 set in
      absurd (not_both g w has.run s (x.0 has.run.state has.run.agrees) has.decided)
  cut_one s g set w a b (inr x) (inl y) =
      let has = x.1 set in
      absurd (not_both g w has.run s (y.0 has.run.state has.run.agrees) has.decided)
  cut_one s g set w a b (inr x) (inr y) =
      let one = x.1 set in
      let two = y.1 set in
      let same = one_cut g w one.run two.run s one.parts two.parts one.through two.through in
      let inside : x.0 ≡ y.0 = one.counted ∙ ap length same.1 ∙ sym two.counted in
      x.2 ∙ ap (λ n. output (cut_text g.net w.made s n (length w.run)) DONE) inside ∙ sym y.2
