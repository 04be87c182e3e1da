-- A record is played to where the threads ended.
use Rattle.std.proofs.Common.{◌≡◌, ℕ, suc, ◌-◌, ◌^◌, ◌≤◌, arith, List, [], ◌∷◌, ◌++◌, length, map, refl, ap, sym, subst, ◌∙◌, inl, inr, Ok, append_assoc}
use Rattle.std.specs.Prelude.{codes}
use Rattle.std.specs.List.{All, AllByRecursion, Contains}
use Rattle.std.proofs.lemmas.List.{append-nil, length-append, length-map}
use Rattle.ranked_policy.specs.Plans.{Plan, IsRouter, numbers}
use Rattle.run_model.specs.Network as runs
use Rattle.run_model.specs.declared.stamps.TheConstants.{GREATEST_STAMP}
use Rattle.snap_marker.specs.Recordings.{MadeOffer}
use Rattle.snap_collector.specs.Collecting.{member_of}
use Rattle.snap_collector.specs.Collector.{made_for}
use Rattle.router_model.specs.declared.command.Command.TheVariants as command
use Rattle.router_model.specs.Settings.{Setting, IsSetting}
use Rattle.router_model.specs.Laws.{LinkedRoutersArePeers}
use Rattle.router_runs.specs.Existence.{EachNetworkHasASetting}
use Rattle.router_runs.specs.Runs.{RunState, new_logged}
use Rattle.router_core.specs.Views.{plain_of}
use Rattle.world_core.specs.declared.schedule.Event.{Event}
use Rattle.world_core.specs.World.{World, new_world, played, AgreesWith}
use Rattle.world_core.specs.Replays.{CalledRunsArePlayed}
use Rattle.world_core.specs.Verdicts.{members_of, MembersAreTheRouters}
use Rattle.net_text.specs.Laws.{OneNetwork, HoldTimesFit, SpeltIsNotRefused}
use Rattle.net_text.specs.Layout.{LinesEndByLineFeeds}
use Rattle.net_text.specs.Lexing.{Text, lines_of, before_section, behind_section}
use Rattle.net_text.specs.Networks.{SpellsNetwork}
use Rattle.schedule_text.specs.declared.schedule.ScheduledOrder.{ScheduledOrder}
use Rattle.schedule_text.specs.Sayings.{LinesAreReadAsTheySay}
use Rattle.schedule_text.specs.Schedules.{IsGood}
use Rattle.schedule_text.specs.Events.{head_of_schedule}
use Rattle.worker_loop.specs.declared.chore.Chore.TheVariants as chore
use Rattle.net_workers.specs.declared.record.Worked.{Worked}
use Rattle.net_workers.specs.Runs.{IsRunOfThreads, chores_of}
use Rattle.net_workers.specs.Ways.{passed_in}
use Rattle.schedule_text.specs.Obeying.{LeadTo}
use Rattle.play_engine.specs.Playing.{IsReport, OrdersGive, ScheduleGives}
use Rattle.text_engines.specs.declared.status.TheConstants.{DONE}
use Rattle.text_engines.specs.declared.transfer.TheConstants.{INPUT_LIMIT}
use Rattle.text_engines.specs.Decoding.{Output, output}
use Rattle.text_engines.specs.Inputs.{NetworkGives}
use Rattle.net_text.specs.Comments.{comments_text}
use Rattle.schedule_text.proofs.EventLemmas.{MaySay}
use Rattle.schedule_text.proofs.Faults.{refused_at, no_fault}
use Rattle.schedule_text.proofs.ObeyingLemmas.{no_halt, same_events}
use Rattle.schedule_text.proofs.LineLemmas.{all_of, order_of, as_orders, Says, says_both, says_comments, one_lines, all_comments}
use Rattle.schedule_text.proofs.HeadLemmas.{front_is, rest_is, head_parted}
use Rattle.text_engines.proofs.WritingLemmas.{not_done, short_text}
use Rattle.thread_engines.specs.declared.chores.RunOptions.{RunOptions}
use Rattle.thread_engines.specs.declared.gates.RunGate.{RunGate}
use Rattle.thread_engines.specs.declared.gates.Until.TheVariants.{Last}
use Rattle.thread_engines.specs.Gates.{HasRoom, spacing_of}
use Rattle.thread_engines.specs.Records.{RunRecord, RunRefused}
use Rattle.thread_engines.specs.Recording.{events_of, events_text, record_text, ending_text, RecordGives, PrintsRecord, Records}
use Rattle.thread_engines.specs.Laws.{ends_of, EndsAsRecorded, PlaysAsRecorded, RecordsPlayBack}
use Rattle.thread_engines.proofs.ChoreLemmas.{few_snapshots, numbers_low}
use Rattle.thread_engines.proofs.EndLemmas.{ends_alike}
use Rattle.thread_engines.proofs.LineLemmas.{plain_lines, run_may, events_said, few_events}

-- ---- the record that was printed

pub record IsRecorded (options : RunOptions) (input text : List ℕ) : Type 0 where
  pub net : Plan
  pub spells : SpellsNetwork (lines_of input) net
  pub room : HasRoom net options
  pub prints : PrintsRecord options (lines_of input) net (output text DONE)

not_inside : (options : RunOptions) (net : Plan) (text : List ℕ) → RunRefused options Last net (output text DONE) → ⊥
not_inside options net text (inl w) = not_done text _ refl w.2
not_inside options net text (inr board) = not_done text _ refl board.1

recorded_by : (options : RunOptions) (input text : List ℕ) (net : Plan) → SpellsNetwork (lines_of input) net → RecordGives options (lines_of input) net (output text DONE) → IsRecorded options input text
recorded_by options input text net spells (inl bad) = absurd (not_done text _ refl bad.1)
recorded_by options input text net spells (inr good) = elim good.1 [
  | inl refused ↦ absurd (not_inside options net text refused)
  | inr prints ↦ record { net = net; spells = spells; room = good.0; prints = prints }
]

recorded : (options : RunOptions) (input text : List ℕ) → Records options input (output text DONE) → IsRecorded options input text
recorded options input text (inl (inl long)) = absurd (not_done text _ refl long.1)
recorded options input text (inl (inr all)) = elim all.1 [
  | inl r ↦ absurd (not_done text _ refl r.4)
  | inr n ↦ recorded_by options input text n.0 n.1 n.2
]
recorded options input text (inr none) = absurd (not_done text _ refl none)

-- ---- the routers at the end

all_known : (ns : List ℕ) (ws : List (Worked RunGate)) → ((u : ℕ) → Contains (map (λ w. w.router.number) ws) u → Contains ns u) → AllByRecursion (λ w. Contains ns w.router.number) ws
all_known ns [] on = tt
all_known ns (w ∷ ws) on = (on w.router.number (0, omega arith, refl), all_known ns ws (λ u c. on u (suc c.0, (let l = c.1 in omega (arith, l)), c.2)))

same_routers : (g : Setting) (w : World) (state : RunState) → AgreesWith g w state → (ws : List (Worked RunGate)) → AllByRecursion (λ k. IsRouter g.net.routers k.router.number) ws
    → AllByRecursion (λ k. (state.routers k.router.number).router ≡ (plain_of k.router).router) ws → AllByRecursion (λ k. (w.routers k.router.number).router ≡ (plain_of k.router).router) ws
same_routers g w state agrees [] known same = tt
same_routers g w state agrees (k ∷ ks) known same = (agrees.routers k.router.number known.0 ∙ same.0, same_routers g w state agrees ks known.1 same.1)

module _ (hold : HoldTimesFit) (feeds : LinesEndByLineFeeds) (one : OneNetwork) (spelt : SpeltIsNotRefused) (links : LinkedRoutersArePeers) (exists : EachNetworkHasASetting) (read : LinesAreReadAsTheySay)
    (again : CalledRunsArePlayed) (the_routers : MembersAreTheRouters) where
  module _ (options : RunOptions) (input text : List ℕ) (short : length text ≤ INPUT_LIMIT) (t : IsRecorded options input text) where
    abbrev threads : RunRecord options t.net options.snapshots
    threads = t.prints.threads

    abbrev events : List Event
    events = events_of threads.gathered

    -- the comments behind them
    abbrev comments : List ℕ
    comments = comments_text (lines_of (ending_text t.net threads.collector threads.workers))

    printed : text ≡ record_text (lines_of input) events ++ comments
    printed = short_text (record_text (lines_of input) events ++ comments) text short (ap (λ (o : Output). o.text) t.prints.printed)

    abbrev RanIn : Setting → Type 0
    RanIn g = IsRunOfThreads g (passed_in threads.ways) threads.workers threads.gathered

    abbrev ran : (g : Setting) → g.net ≡ t.net → IsSetting g → RanIn g
    ran g e set = (t.prints.threads.promises g e set).run

    numbered : (g : Setting) → g.net ≡ t.net → map (λ w. w.router.number) threads.workers ≡ numbers g.net.routers
    numbered g e = threads.recorded.routers ∙ ap (λ (n : Plan). numbers n.routers) (sym e)

    -- they may stand in lines
    may : (g : Setting) → g.net ≡ t.net → IsSetting g → AllByRecursion (MaySay t.net) events
    may g e set =
        let r = ran g e set in
        let few = few_snapshots t.net options t.room in
        let small : options.snapshots ≤ 2 ^ 32 - 1 = omega (arith, few) in
        let low : (u s : ℕ) → Contains (chores_of threads.workers u) (chore.Command (command.Snapshot s)) → s ≤ 2 ^ 32 - 1 =
        numbers_low (2 ^ 32 - 1) t.net options.turns (spacing_of t.net options) options.snapshots (passed_in threads.ways) threads.workers small threads.recorded.worked threads.gates in
        subst (λ (net : Plan). AllByRecursion (MaySay net) events) e
        (subst (AllByRecursion (MaySay g.net)) r.events
        (run_may links g set.network (chores_of threads.workers) low r.order (runs.opening (λ u. new_logged g)) r.state r.called r.ordered))

    -- what is done leads to where the threads ended
    to_the_end : (g : Setting) → (e : g.net ≡ t.net) → (set : IsSetting g) → (w : World) × (played g (new_world g) 0 events ≡ Ok w) × (w.run ≡ events)
        × AllByRecursion (λ k. (w.routers k.router.number).router ≡ (plain_of k.router).router) threads.workers × AgreesWith g w (ran g e set).state
    to_the_end g e set =
        let r = ran g e set in
        let head = head_of_schedule (lines_of input) in
        let as_long : length r.order ≡ length events = sym (length-map r.order _) ∙ ap length r.events in
        let whole : length text ≡ length ((head ++ events_text events) ++ comments) = ap length printed in
        let all : length r.order ≤ GREATEST_STAMP =
        omega (arith, as_long, few_events events, whole, length-append (head ++ events_text events) comments, length-append head (events_text events), short) in
        let to = again g set r.order r.state r.called all in
        let known = all_known (numbers g.net.routers) threads.workers (λ u c. subst (λ (ns : List ℕ). Contains ns u) (numbered g e) c) in (
          to.world,
          subst (λ (es : List Event). played g (new_world g) 0 es ≡ Ok to.world) r.events to.plays,
          to.did ∙ r.events,
          same_routers g to.world r.state to.agrees threads.workers known r.routers,
          to.agrees,
        )

    -- and is reported as the comments say
    same_ending : (g : Setting) (e : g.net ≡ t.net) (set : IsSetting g) (w : World) → AgreesWith g w (ran g e set).state → AllByRecursion (λ k. (w.routers k.router.number).router ≡ (plain_of k.router).router) threads.workers
        → (out : Output) (report : IsReport g w out) → ends_of g w report.decided ≡ ending_text t.net threads.collector threads.workers
    same_ending g e set w agrees same out report =
        let c = threads.collector in
        let members : map member_of c.members ≡ members_of g.net = the_routers t.net t.spells.network c.members threads.recorded.members ∙ ap members_of (sym e) in
        let offers : (s : ℕ) → w.made s ≡ made_for c s = (λ s. agrees.offers_made s ∙ sym (ap (λ (made : ℕ → List MadeOffer). made s) (t.prints.threads.promises g e set).offered)) in
        ends_alike g w report.decided t.net c threads.workers e members offers report.are_decided t.prints.are_decided (numbered g e) same

    ends : (g : Setting) (e : g.net ≡ t.net) (set : IsSetting g) (n : ℕ) (os : List ScheduledOrder) (out : Output) → map order_of os ≡ as_orders events → OrdersGive IsReport t.net os out
        → EndsAsRecorded options t.net threads g out
    ends g e set n os out are gives =
        let z = to_the_end g e set in
        let leads : LeadTo g (new_world g) os z.0 = ap (λ (es : List Event). played g (new_world g) 0 es) (same_events g.net os events are) ∙ z.1 in
        elim (gives g e set.chooses) [
          | inl r ↦ (
              let same : r.0 ≡ z.0 = (let q = sym r.1 ∙ leads in cc) in
              let report = subst (λ (w : World). IsReport g w out) same r.3 in
              record { world = z.0; plays = z.1; did = z.2; routers = z.3; report = report; ending = same_ending g e set z.0 z.4 z.3 out report }
              )
          | inr s ↦ absurd (no_halt g (new_world g) z.0 os s.0 s.1 s.2 leads)
        ]

    plays_lines : (said : Says t.net (events_text events ++ comments) events) (n : ℕ) (out : Output) → NetworkGives (ScheduleGives IsReport) (lines_of input) n said.lines out → PlaysAsRecorded options input text out
    plays_lines said n out (inl r) = absurd (r.2 (spelt (lines_of input) t.net r.0 r.1 t.spells r.3))
    plays_lines said n out (inr k) =
        let same : k.0 ≡ t.net = one (lines_of input) k.0 t.net k.1 t.spells in
        let good : All (IsGood t.net) said.lines = all_of (IsGood t.net) said.lines said.good in
        elim (subst (λ (net : Plan). ScheduleGives IsReport net n said.lines out) same k.2) [
          | inl r ↦ absurd (no_fault t.net n said.lines r.0 r.1 good (refused_at t.net n said.lines r.0 r.1 r.2 r.3))
          | inr s ↦ record {
            net = t.net;
            spells = t.spells;
            prints = t.prints;
            ends = λ g e set. ends g e set n s.0 out (ap (map order_of) s.1.are ∙ said.orders n) s.2;
          }
        ]

  pub play_back : RecordsPlayBack
  play_back options input text h short out plays =
      let t = recorded options input text h in
      let s = exists t.net t.spells.network in
      let set = s.is (hold (lines_of input) t.net t.spells) in
      let es = events_of t.prints.threads.gathered in
      let orders = events_said feeds read t.net es (may options input text short t s.setting s.over set) in
      let ending = ending_text t.net t.prints.threads.collector t.prints.threads.workers in
      let behind_them = comments_text (lines_of ending) in
      let texts = events_text es ++ behind_them in
      let said : Says t.net texts es =
      subst (λ (k : List Event). Says t.net texts k) (append-nil es)
      (says_both t.net (events_text es) behind_them es [] orders (says_comments feeds t.net behind_them (all_comments ending behind_them refl))) in
      let front = lines_of input in
      let plain = plain_lines front t.net t.spells in
      let body : lines_of texts ≡ said.lines = ap lines_of (sym (append-nil texts)) ∙ said.parted [] ∙ append-nil said.lines in
      let lines : lines_of text ≡ front ++ codes "schedule" ∷ said.lines =
      ap lines_of (printed options input text short t ∙ append_assoc (head_of_schedule front) (events_text es) behind_them) ∙ head_parted feeds front texts (one_lines input)
      ∙ ap (λ (k : List Text). front ++ codes "schedule" ∷ k) body in
      let before = ap (before_section (codes "schedule")) lines ∙ front_is (codes "schedule") (codes "schedule") front said.lines plain refl in
      let behind = ap (behind_section (codes "schedule")) lines ∙ rest_is (codes "schedule") (codes "schedule") front said.lines plain refl in
      let n = length (lines_of text) - length (behind_section (codes "schedule") (lines_of text)) in
      elim plays [
        | inl p ↦ elim p [
          | inl long ↦ absurd (omega (arith, long.0, short))
          | inr all ↦ inl (plays_lines options input text short t said n out
              (subst (λ (b : List Text). NetworkGives (ScheduleGives IsReport) front n b out) behind (subst (λ (f : List Text). NetworkGives (ScheduleGives IsReport) f n (behind_section (codes "schedule") (lines_of text)) out) before all.1)))
        ]
        | inr none ↦ inr none
      ]
