-- A trace spells the run, and is played to the same.
use Rattle.std.proofs.Common.{◌≡◌, ℕ, ◌-◌, ◌≤◌, Bool, true, false, List, [], ◌∷◌, ◌++◌, length, map, refl, ap, sym, subst, ◌∙◌, arith, inl, inr}
use Rattle.std.specs.Prelude.{codes, if◌then◌else◌}
use Rattle.std.specs.List.{All, AllByRecursion}
use Rattle.std.proofs.lemmas.List.{append-nil, append_cancel_left}
use Rattle.ranked_policy.specs.Plans.{Plan, IsNetwork}
use Rattle.router_model.specs.Settings.{Setting, ChoosesByRank}
use Rattle.router_runs.specs.Existence.{EachNetworkHasASetting}
use Rattle.world_core.specs.declared.schedule.Event.{Event}
use Rattle.world_core.specs.World.{World, new_world, played}
use Rattle.world_core.specs.Keeping.{WhatIsPlayedIsReplayed}
use Rattle.net_text.specs.Laws.{OneNetwork, SpeltIsNotRefused}
use Rattle.net_text.specs.Layout.{IsOneLine, LinesEndByLineFeeds}
use Rattle.net_text.specs.Lexing.{Text, lines_of, is_section, before_section, behind_section}
use Rattle.net_text.specs.Networks.{SpellsNetwork}
use Rattle.schedule_text.specs.declared.schedule.ScheduledOrder.{ScheduledOrder}
use Rattle.schedule_text.specs.Sayings.{LinesAreReadAsTheySay}
use Rattle.schedule_text.specs.Schedules.{orders_of, IsGood, SpellsSchedule}
use Rattle.schedule_text.specs.Events.{head_of_schedule}
use Rattle.text_engines.specs.declared.status.TheConstants.{DONE}
use Rattle.text_engines.specs.declared.transfer.TheConstants.{INPUT_LIMIT}
use Rattle.text_engines.specs.Decoding.{Output, output}
use Rattle.text_engines.specs.Inputs.{NetworkGives}
use Rattle.schedule_text.specs.Obeying.{all_events, LeadTo}
use Rattle.play_engine.specs.Playing.{IsReport, OrdersGive, ScheduleGives, Plays}
use Rattle.schedule_text.proofs.Faults.{refused_at, no_fault}
use Rattle.schedule_text.proofs.ObeyingLemmas.{no_halt, same_events}
use Rattle.trace_engine.specs.Tracing.{OrdersText, OrdersTrace}
use Rattle.text_engines.specs.Engine.{limited}
use Rattle.trace_engine.specs.Tracings.{network_lines, ScheduleTraces, Traces}
use Rattle.trace_engine.specs.Laws.{SpellsEvents, TracesSpellTheirRuns, TracesPlayBack}
use Rattle.schedule_text.proofs.LineLemmas.{order_of, as_orders, one_lines, all_of}
use Rattle.trace_engine.proofs.RunLemmas.{MayOrder, lines_may, orders_say}
use Rattle.schedule_text.proofs.HeadLemmas.{IsPlain, front_is, rest_is, head_parted}
use Rattle.text_engines.proofs.WritingLemmas.{not_done, short_text}

-- ---- what is printed spells the run

module _ (feeds : LinesEndByLineFeeds) (read : LinesAreReadAsTheySay) where
  pub spell_their_runs : TracesSpellTheirRuns
  spell_their_runs g network before lines orders spelled w leads shows text printed at =
      let may = subst (λ (os : List ScheduledOrder). AllByRecursion (λ o. MayOrder g network o.order) os) (sym spelled.are) (lines_may g network feeds read before lines) in
      let k = orders_say g network feeds read shows orders (new_world g) w text may leads printed in
      let whole : lines_of text ≡ k.says.lines = ap lines_of (sym (append-nil text)) ∙ k.says.parted [] ∙ append-nil k.says.lines in
      subst (λ (ls : List Text). SpellsEvents g.net at ls w.run) (sym whole)
      (record {
        orders = orders_of g.net at k.says.lines;
        spelled = record { good = all_of (IsGood g.net) k.says.lines k.says.good; are = refl };
        are = k.says.orders at ∙ ap as_orders (sym k.run);
      })

-- ---- the lines of a trace

kept_by : (P : Text → Type 0) (b : Bool) (l : Text) (ls : List Text) → P l → AllByRecursion P ls → AllByRecursion P (if b then [] else l ∷ ls)
kept_by P true l ls here all = tt
kept_by P false l ls here all = (here, all)

kept : (P : Text → Type 0) (name : Text) (lines : List Text) → AllByRecursion P lines → AllByRecursion P (before_section name lines)
kept P name [] h = tt
kept P name (l ∷ ls) h = kept_by P (is_section name l) l (before_section name ls) h.0 (kept P name ls h.1)

plain_by : (name : Text) (b : Bool) (l : Text) (ls : List Text) → is_section name l ≡ b → AllByRecursion (IsPlain name) ls → AllByRecursion (IsPlain name) (if b then [] else l ∷ ls)
plain_by name true l ls is h = tt
plain_by name false l ls is h = (is, h)

plain : (name : Text) (lines : List Text) → AllByRecursion (IsPlain name) (before_section name lines)
plain name [] = tt
plain name (l ∷ ls) = plain_by name (is_section name l) l (before_section name ls) refl (plain name ls)

-- what an input has whose trace was printed whole
pub record IsTraced (shows : Bool) (input text : List ℕ) : Type 0 where
  pub net : Plan
  pub spells : SpellsNetwork (network_lines input) net
  pub before : ℕ
  pub lines : List Text
  pub orders : List ScheduledOrder
  pub spelled : SpellsSchedule net before lines orders
  pub traced : OrdersTrace shows net (head_of_schedule (network_lines input)) orders (output text DONE)
  pub whole : (out : Output) → OrdersGive IsReport net orders out → Plays input out

traced_in : (shows : Bool) (input text : List ℕ) (net : Plan) (before : ℕ) (lines : List Text) → SpellsNetwork (network_lines input) net → ScheduleTraces shows (network_lines input) net before lines (output text DONE)
    → ((out : Output) → ScheduleGives IsReport net before lines out → Plays input out) → IsTraced shows input text
traced_in shows input text net before lines spells (inl r) go = absurd (not_done text _ refl r.4)
traced_in shows input text net before lines spells (inr t) go = record {
  net = net;
  spells = spells;
  before = before;
  lines = lines;
  orders = t.0;
  spelled = t.1;
  traced = t.2;
  whole = λ out gives. go out (inr (t.0, t.1, gives));
}

traced_by : (shows : Bool) (input text : List ℕ) (before : ℕ) (lines : List Text) → NetworkGives (ScheduleTraces shows (network_lines input)) (network_lines input) before lines (output text DONE)
    → ((out : Output) → NetworkGives (ScheduleGives IsReport) (network_lines input) before lines out → Plays input out) → IsTraced shows input text
traced_by shows input text before lines (inl r) go = absurd (not_done text _ refl r.4)
traced_by shows input text before lines (inr n) go = traced_in shows input text n.0 before lines n.1 n.2 (λ out gives. go out (inr (n.0, n.1, gives)))

traced : (shows : Bool) (input text : List ℕ) → Traces shows input (output text DONE) → IsTraced shows input text
traced shows input text (inl (inl long)) = absurd (not_done text _ refl long.1)
traced shows input text (inl (inr all)) = traced_by shows input text _ _ all.1 (λ out gives. inl (inr (all.0, gives)))
traced shows input text (inr none) = absurd (not_done text _ refl none)

whole_text : (shows : Bool) (net : Plan) (head : List ℕ) (orders : List ScheduledOrder) (text : List ℕ) (g : Setting) → g.net ≡ net → ChoosesByRank g → OrdersTrace shows net head orders (output text DONE)
    → (w : World) × (body : List ℕ) × LeadTo g (new_world g) orders w × OrdersText shows g (new_world g) orders body × (text ≡ limited (head ++ body))
whole_text shows net head orders text g e ranks h = elim (h g e ranks) [
  | inl t ↦ (t.0, t.1, t.2, t.3, ap (λ (o : Output). o.text) t.4)
  | inr s ↦ absurd (not_done text _ refl s.5)
]

module _ (feeds : LinesEndByLineFeeds) (read : LinesAreReadAsTheySay) (one : OneNetwork) (spelt : SpeltIsNotRefused) (exists : EachNetworkHasASetting) (again : WhatIsPlayedIsReplayed) where
  -- the orders that the lines of a trace spell lead where those of the schedule lead
  same_orders : (shows : Bool) (input text : List ℕ) (t : IsTraced shows input text) (body : List ℕ) → length text ≤ INPUT_LIMIT → text ≡ head_of_schedule (network_lines input) ++ body → (n : ℕ) (os : List ScheduledOrder) → SpellsSchedule t.net n (lines_of body) os
      → (out : Output) → OrdersGive IsReport t.net os out → OrdersGive IsReport t.net t.orders out
  same_orders shows input text t body short is n os spelled out gives = λ g e ranks.
      let head = head_of_schedule (network_lines input) in
      let k = whole_text shows t.net head t.orders text g e ranks t.traced in
      let w = k.0 in
      let here : k.1 ≡ body = append_cancel_left head k.1 body (sym (short_text (head ++ k.1) text short k.4) ∙ is) in
      let network = subst IsNetwork (sym e) t.spells.network in
      let said = spell_their_runs feeds read g network t.before t.lines t.orders (subst (λ (net : Plan). SpellsSchedule net t.before t.lines t.orders) (sym e) t.spelled) w k.2 shows k.1 k.3 n in
      let same : os ≡ said.orders =
      spelled.are ∙ ap (λ (net : Plan). orders_of net n (lines_of body)) (sym e) ∙ ap (λ (b : List ℕ). orders_of g.net n (lines_of b)) (sym here) ∙ sym said.spelled.are in
      let events : all_events g.net os ≡ w.run = same_events g.net os w.run (ap (map order_of) same ∙ said.are) in
      let leads : LeadTo g (new_world g) os w = ap (λ (es : List Event). played g (new_world g) 0 es) events ∙ again g (all_events g.net t.orders) w k.2 in
      elim (gives g e ranks) [
        | inl r ↦ (let there : r.0 ≡ w = (let q = sym r.1 ∙ leads in cc) in inl (r.0, subst (λ (v : World). LeadTo g (new_world g) t.orders v) (sym there) k.2, r.2, r.3))
        | inr s ↦ absurd (no_halt g (new_world g) w os s.0 s.1 s.2 leads)
      ]

  played_lines : (shows : Bool) (input text : List ℕ) (t : IsTraced shows input text) (body : List ℕ) → length text ≤ INPUT_LIMIT → text ≡ head_of_schedule (network_lines input) ++ body
      → ((n : ℕ) → All (IsGood t.net) (lines_of body)) → (n : ℕ) (out : Output) → NetworkGives (ScheduleGives IsReport) (network_lines input) n (lines_of body) out → Plays input out
  played_lines shows input text t body short is good n out (inl r) = absurd (r.2 (spelt (network_lines input) t.net r.0 r.1 t.spells r.3))
  played_lines shows input text t body short is good n out (inr k) =
      let same : k.0 ≡ t.net = one (network_lines input) k.0 t.net k.1 t.spells in
      elim (subst (λ (net : Plan). ScheduleGives IsReport net n (lines_of body) out) same k.2) [
        | inl r ↦ absurd (no_fault t.net n (lines_of body) r.0 r.1 (good n) (refused_at t.net n (lines_of body) r.0 r.1 r.2 r.3))
        | inr s ↦ t.whole out (same_orders shows input text t body short is n s.0 s.1 out s.2)
      ]

  all_lines : (shows : Bool) (input text : List ℕ) (t : IsTraced shows input text) (body : List ℕ) → text ≡ head_of_schedule (network_lines input) ++ body → lines_of text ≡ network_lines input ++ codes "schedule" ∷ lines_of body
  all_lines shows input text t body is = ap lines_of is ∙ head_parted feeds (network_lines input) body (kept IsOneLine (codes "schedule") (lines_of input) (one_lines input))

  pub play_back : TracesPlayBack
  play_back shows input text h short out plays =
      let t = traced shows input text h in
      let s = exists t.net t.spells.network in
      let g = s.setting in
      let k = whole_text shows t.net (head_of_schedule (network_lines input)) t.orders text g s.over s.chooses t.traced in
      let body = k.1 in
      let is = short_text (head_of_schedule (network_lines input) ++ body) text short k.4 in
      let lines = all_lines shows input text t body is in
      let plain_lines = plain (codes "schedule") (lines_of input) in
      let front = ap (before_section (codes "schedule")) lines ∙ front_is (codes "schedule") (codes "schedule") (network_lines input) (lines_of body) plain_lines refl in
      let rest = ap (behind_section (codes "schedule")) lines ∙ rest_is (codes "schedule") (codes "schedule") (network_lines input) (lines_of body) plain_lines refl in
      let n = length (lines_of text) - length (behind_section (codes "schedule") (lines_of text)) in
      let good : (m : ℕ) → All (IsGood t.net) (lines_of body) =
      λ m. subst (λ (net : Plan). All (IsGood net) (lines_of body)) s.over
      (spell_their_runs feeds read g (subst IsNetwork (sym s.over) t.spells.network) t.before t.lines t.orders (subst (λ (net : Plan). SpellsSchedule net t.before t.lines t.orders) (sym s.over) t.spelled) k.0 k.2 shows body k.3 m).spelled.good in
      elim plays [
        | inl p ↦ elim p [
          | inl long ↦ absurd (omega (arith, long.0, short))
          | inr all ↦ played_lines shows input text t body short is good n out
              (subst (λ (b : List Text). NetworkGives (ScheduleGives IsReport) (network_lines input) n b out) rest (subst (λ (f : List Text). NetworkGives (ScheduleGives IsReport) f n (behind_section (codes "schedule") (lines_of text)) out) front all.1))
        ]
        | inr none ↦ inr none
      ]
