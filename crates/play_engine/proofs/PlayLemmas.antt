-- Orders and routers, one more at a time.
use Rattle.std.proofs.Common.{◌≡◌, ◌≢◌, ℕ, ◌+◌, ◌<◌, List, [], ◌∷◌, ◌++◌, length, map, take, drop, get_or, refl, sym, ap, subst, ◌∙◌, inl, inr, Ok, Err, append_assoc}
use Rattle.std.specs.List.{flat_map}
use Rattle.std.proofs.lemmas.List.{drop_more}
use Rattle.ranked_policy.specs.Plans.{Plan}
use Rattle.snap_collector.specs.Collecting.{member_of}
use Rattle.run_model.specs.Offers.{HasOutcome, Settled}
use Rattle.snap_collector.specs.Collector.{CollectorView, made_for, kept_of}
use Rattle.snap_collector.specs.Collector as collected
use Rattle.snap_collector.specs.Verdicts.{Member, verdict}
use Rattle.router_model.specs.Settings.{Setting, ChoosesByRank}
use Rattle.router_runs.specs.Model.{network_of}
use Rattle.world_core.specs.declared.schedule.StepFault.{StepFault}
use Rattle.world_core.specs.declared.schedule.StepFault.TheVariants.{Memory}
use Rattle.world_core.specs.World.{World, AgreesWith}
use Rattle.world_core.specs.Orders.{events_of, StopsAt}
use Rattle.world_core.specs.Views.{WorldView, Opens, KeepsPromises, plain_world}
use Rattle.world_core.specs.Verdicts.{JudgesItsRuns, SettledCanBeBelieved, members_of}
use Rattle.schedule_text.specs.declared.schedule.ScheduledOrder.{ScheduledOrder}
use Rattle.schedule_text.specs.declared.report.RefusedOrder.{RefusedOrder}
use Rattle.text_engines.specs.Decoding.{Output, output}
use Rattle.schedule_text.specs.Routes.{AreDecided, deciding, outcome}
use Rattle.play_engine.specs.Reporting.{snapshots_text, now_text}
use Rattle.schedule_text.specs.Obeying.{LeadTo, IsFirstRefused}
use Rattle.play_engine.specs.Playing.{Obeyed, IsReport, Shows, OrdersGive, stopped, CanBeBelieved}
use Rattle.text_engines.proofs.CheckLemmas.{parted}
use Rattle.schedule_text.proofs.SettledLemmas.{parts_in, printed_is, have_made}
use Rattle.run_model.specs.Network.{Run}
use Rattle.snap_marker.specs.Recordings.{RouterPart}
use Rattle.snap_collector.specs.Flights.{is_whole}
use Rattle.router_runs.specs.Runs.{RunOrder, RunState, IsRunTo, logged_steps}
use Rattle.router_runs.specs.Snapshots.{HaveMade, IsBelievable}
use Rattle.world_core.specs.Keeping.{KeepsItsPromises}

module _ (g : Setting) where
  -- one of the orders is refused
  pub refused_found : (w x y : World) (orders : List ScheduledOrder) (i : ℕ) (o : ScheduledOrder) (net : Plan) (why : StepFault) → g.net ≡ net → i < length orders → o ≡ get_or orders i o
      → LeadTo g w (take i orders) x → ((at : ℕ) × StopsAt g x (events_of net o.order) at why y) → IsFirstRefused g w orders (record { line = o.line; why = why })
  refused_found w x y orders i o net why e lt is h k = record {
    before = take i orders;
    order = o;
    behind = drop (i + 1) orders;
    reached = x;
    left = y;
    at = k.0;
    parts = parted orders i o lt is;
    stands = refl;
    done = h;
    stops = subst (λ (n : Plan). StopsAt g x (events_of n o.order) k.0 why y) (sym e) k.1;
  }

-- the text of one more
pub text_on : {X : Type 0} (f : X → List ℕ) (xs : List X) (i : ℕ) (x : X) (old new all : List ℕ) → i < length xs → x ≡ get_or xs i x → new ≡ old ++ f x → old ++ flat_map f (drop i xs) ≡ all
    → new ++ flat_map f (drop (i + 1) xs) ≡ all
text_on {X} f xs i x old new all lt is put h =
    ap (λ (t : List ℕ). t ++ flat_map f (drop (i + 1) xs)) put ∙ append_assoc old (f x) (flat_map f (drop (i + 1) xs))
    ∙ ap (λ (t : List ℕ). old ++ t) (sym (ap (flat_map f) (drop_more xs i x lt ∙ ap (λ (y : X). y ∷ drop (i + 1) xs) (sym is)))) ∙ h

-- from a new world: what is printed where all orders were obeyed, and where one was refused
module _ (Gives : Setting → World → Output → Type 0) where
  pub shown : (net : Plan) (orders : List ScheduledOrder) (x y : WorldView) (out : Output) → Opens net x → y.net ≡ x.net → Obeyed (Ok tt) x orders y → KeepsPromises y → Shows Gives y out → OrdersGive Gives net orders out
  shown net orders x y out opens same obeyed keeps gives = λ (g : Setting) (e : g.net ≡ net) (chooses : ChoosesByRank g).
      let was = e ∙ sym opens.0 in
      let is = was ∙ sym same in
      inl (plain_world y, subst (λ (w : World). LeadTo g w orders (plain_world y)) (opens.1 g e) (obeyed g was chooses), keeps g is, gives g is)

  pub halted : (net : Plan) (orders : List ScheduledOrder) (x y : WorldView) (stop : RefusedOrder) → Opens net x → Obeyed (Err stop) x orders y → stop.why ≢ Memory → OrdersGive Gives net orders (stopped stop)
  halted net orders x y stop opens obeyed kind = λ (g : Setting) (e : g.net ≡ net) (chooses : ChoosesByRank g).
      inr (stop, kind, subst (λ (w : World). IsFirstRefused g w orders stop) (opens.1 g e) (obeyed g (e ∙ sym opens.0) chooses), refl)

-- the numbers that the collector calls decided are those whose offers decide
decided_are : (k kept : CollectorView) (members : List Member) (numbers : List ℕ) → map member_of k.members ≡ members → k ≡ kept → collected.AreDecided k numbers → AreDecided members (made_for kept) numbers
decided_are k kept members numbers are same h =
    subst (λ (j : CollectorView). AreDecided members (made_for j) numbers) same
    (subst (λ (ms : List Member). AreDecided ms (made_for k) numbers) are (record { rising = h.rising; exact = h.exact }))

-- what is printed of them
snapshots_are : (net : Plan) (k kept : CollectorView) (members : List Member) (numbers : List ℕ) → map member_of k.members ≡ members → k ≡ kept
    → snapshots_text net (map member_of k.members) (made_for k) numbers ≡ snapshots_text net members (made_for kept) numbers
snapshots_are net k kept members numbers are same =
    ap (λ (ms : List Member). snapshots_text net ms (made_for k) numbers) are ∙ ap (λ (j : CollectorView). snapshots_text net members (made_for j) numbers) same

-- the parts of a report, one behind the other
pub report_is : (none first second all snapshots now routes : List ℕ) → none ≡ [] → first ≡ none ++ snapshots → second ≡ first ++ now → all ≡ second ++ routes
    → output all 0 ≡ output (snapshots ++ (now ++ routes)) 0
report_is none first second all snapshots now routes empty one two three =
    ap (λ (t : List ℕ). output t 0)
    (three ∙ ap (λ (t : List ℕ). t ++ routes) (two ∙ ap (λ (t : List ℕ). t ++ now) (one ∙ ap (λ (t : List ℕ). t ++ snapshots) empty)) ∙ append_assoc snapshots now routes)

-- the routes of a settled snapshot can be believed
module _ (g : Setting) (w : World) (s : ℕ) (settled : outcome g.net w.made s ≡ Settled) where
  pub can_be_believed : KeepsItsPromises g w
      → ((before later : RunOrder) (at last : RunState) → IsRunTo g before at → Run (logged_steps g) at later last → AgreesWith g w last → (parts : ℕ → RouterPart) → HaveMade g last s parts → IsBelievable g before later at last s parts)
      → CanBeBelieved g w s
  can_be_believed keeps belief =
      let k = keeps.run in
      let parts = parts_in (deciding g.net w.made s) in
      let whole = ap is_whole settled in
      let made = have_made g w.made s whole in
      record {
        parts = parts;
        printed = printed_is g w.made s whole;
        stable = (belief k.order [] k.state k.state k.run refl k.agrees parts (made k.state k.agrees.offers_made)).stable;
        believed = λ before later at last run goes agrees. belief before later at last run goes agrees parts (made last agrees.offers_made);
      }

-- a report of a world, by what its collector says
pub reports : (x : WorldView) (k : CollectorView) (numbers all : List ℕ) → k ≡ x.collector → map member_of k.members ≡ members_of x.net → collected.AreDecided k numbers → JudgesItsRuns x → SettledCanBeBelieved x → KeepsPromises x
    → output all 0 ≡ output (snapshots_text x.net (map member_of k.members) (made_for k) numbers ++ now_text x.net (plain_world x)) 0 → Shows IsReport x (output all 0)
reports x k numbers all same are decided judges belief keeps printed = λ (g : Setting) (e : g.net ≡ x.net).
    let here = are ∙ ap members_of (sym e) in
    let kept = ap (λ (j : CollectorView). map member_of j.members) (sym same) ∙ here in
    record {
      decided = numbers;
      are_decided = decided_are k x.collector (members_of g.net) numbers here same decided;
      outcomes = λ state agrees s.
          subst (λ (ms : List Member). HasOutcome (network_of g) s state.offered (verdict ms (kept_of ms (made_for x.collector s)))) kept (judges g e state agrees s);
      settled = λ set s settled.
          can_be_believed g (plain_world x) s settled (keeps g e set) (λ before later at last run goes agrees parts made.
          belief g e set before later at last run goes agrees s (ap (λ (ms : List Member). verdict ms (kept_of ms (made_for x.collector s))) kept ∙ settled) parts made);
      printed =
          printed ∙ ap (λ (n : Plan). output (snapshots_text n (map member_of k.members) (made_for k) numbers ++ now_text n (plain_world x)) 0) (sym e)
          ∙ ap (λ (t : List ℕ). output (t ++ now_text g.net (plain_world x)) 0) (snapshots_are g.net k x.collector (members_of g.net) numbers here same);
    }
