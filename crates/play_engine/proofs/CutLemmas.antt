-- The cut that is printed of a snapshot.
use Rattle.std.proofs.Common.{◌≡◌, ℕ, ◌==◌, Bool, true, false, cond, List, [], ◌∷◌, ◌++◌, length, map, Option, Some, refl, sym, ap, subst, ◌∙◌, inl, inr, Ok}
use Rattle.std.specs.Prelude.{◌||◌}
use Rattle.std.specs.List.{flat_map, list_any}
use Rattle.std.proofs.lemmas.Bool.{eq-eqb, or_right}
use Rattle.ranked_policy.specs.Plans.{Plan, numbers}
use Rattle.run_model.specs.Offers.{Outcome, Waiting, Abandoned, Moving, Settled}
use Rattle.snap_marker.specs.Recordings.{RouterPart, MadeOffer}
use Rattle.snap_collector.specs.Collecting.{member_of}
use Rattle.snap_collector.specs.Collector.{CollectorView, made_for, kept_of}
use Rattle.snap_collector.specs.Verdicts.{Member, verdict}
use Rattle.snap_collector.specs.Flights.{Flight, is_whole, part_in, flights_by, flights_of, flights_at, in_flight_of}
use Rattle.router_model.specs.Settings.{Setting, IsSetting, peers}
use Rattle.router_runs.specs.Runs.{RunOrder, RunState, logged_steps}
use Rattle.router_runs.specs.Snapshots.{ComesOut}
use Rattle.run_model.specs.Network as runs
use Rattle.run_cuts.specs.ThroughSnapshot.{RunsPassThroughSnapshots}
use Rattle.world_core.specs.Answering.{IsUndecided, HasInside, CountsInside}
use Rattle.world_core.specs.Replays.{IsCalledRun, PlayedRun}
use Rattle.world_core.specs.Verdicts.{JudgesItsRuns, judged, members_of}
use Rattle.world_core.specs.Views as views
use Rattle.world_core.specs.Views.{WorldView, plain_world}
use Rattle.world_core.specs.World.{World, new_world, played}
use Rattle.schedule_text.specs.Reports.{cut_line, cut_none_line}
use Rattle.text_engines.specs.declared.status.TheConstants.{DONE}
use Rattle.text_engines.specs.Decoding.{Output, output}
use Rattle.schedule_text.specs.Routes.{deciding, outcome}
use Rattle.play_engine.specs.Playing.{Shows}
use Rattle.play_engine.specs.Cutting.{recorded_text, cut_text, HasCut, IsCutReport}
use Rattle.schedule_text.proofs.SettledLemmas.{parts_in, printed_is, have_made}

-- ---- the UPDATEs in flight are those of the parts

module _ (with_peers : ℕ → List ℕ) (ms : List MadeOffer) (parts : ℕ → RouterPart) where
  abbrev member : ℕ → Member
  member u = record { router = u; peers = with_peers u }

  flights_each : (ns : List ℕ) → ((u : ℕ) → list_any (λ n. u == n) ns ≡ true → part_in ms u ≡ Some (parts u))
      → flat_map (flights_at ms) (map member ns) ≡ flat_map (λ m. flights_of m (parts m.router)) (map member ns)
  flights_each [] at = refl
  flights_each (n ∷ ns) at =
      let here : part_in ms n ≡ Some (parts n) = at n (ap (λ (b : Bool). b || list_any (λ k. n == k) ns) (eq-eqb n n refl)) in
      let rest = flights_each ns (λ u i. at u (or_right (u == n) (list_any (λ k. u == k) ns) i)) in
      ap (λ (o : Option RouterPart). flights_by (member n) o ++ flat_map (flights_at ms) (map member ns)) here
      ∙ ap (λ (fs : List Flight). flights_of (member n) (parts n) ++ fs) rest

flights_are : (g : Setting) (made : ℕ → List MadeOffer) (s : ℕ) → is_whole (outcome g.net made s) ≡ true
    → in_flight_of (members_of g.net) (deciding g.net made s) ≡ flat_map (λ m. flights_of m (parts_in (deciding g.net made s) m.router)) (members_of g.net)
flights_are g made s whole =
    let ms = deciding g.net made s in
    ap (λ (b : Bool). cond b (flat_map (flights_at ms) (members_of g.net)) []) whole
    ∙ flights_each (peers g.net) ms (parts_in ms) (numbers g.net.routers) (printed_is g made s whole)

-- ---- the run passes through the cut

run_of : (g : Setting) (order : RunOrder) (old new : RunState) → IsCalledRun g old order new → runs.Run (logged_steps g) old order new
run_of g [] old new h = h
run_of g (d ∷ ds) old new h = (h.0, h.1, run_of g ds h.0 new h.3)

has_cut : RunsPassThroughSnapshots → (g : Setting) → IsSetting g → (w : World) (s inside : ℕ) → is_whole (outcome g.net w.made s) ≡ true → (run : PlayedRun g w) → HasInside g w run s inside
    → HasCut g w s inside
has_cut pass g set w s inside whole run has =
    let parts = parts_in (deciding g.net w.made s) in
    let made = have_made g w.made s whole run.state run.agrees.offers_made in
    let through = pass g set run.order run.state (run_of g run.order _ run.state run.run) s parts made in
    record {
      parts = parts;
      printed = printed_is g w.made s whole;
      flights = flights_are g w.made s whole;
      run = run;
      decided = has.decided;
      through = through;
      counted = has.counted parts through;
    }

-- ---- a report of it

undecided : (g : Setting) (state : RunState) (s : ℕ) (outcome : Outcome) → is_whole outcome ≡ false → ComesOut g state s outcome → IsUndecided g state s
undecided g state s Waiting h is = inl is
undecided g state s (Abandoned u v e cause) h is = inr (u, v, e, cause, is)
undecided g state s (Moving u why) h is = absurd cc
undecided g state s Settled h is = absurd cc

pub shows_none : (x : WorldView) (s : ℕ) (out : Output) → is_whole (judged x.collector s) ≡ false → JudgesItsRuns x → out ≡ output (cut_none_line s) DONE → Shows (IsCutReport s) x out
shows_none x s out whole judges printed = λ (g : Setting) (e : g.net ≡ x.net).
    inl (λ state agrees. undecided g state s (judged x.collector s) whole (judges g e state agrees s), printed)

-- the world that its events lead to is the world
same_world : (g : Setting) (x y : World) → played g (new_world g) 0 x.run ≡ Ok x → played g (new_world g) 0 x.run ≡ Ok y → y ≡ x
same_world g x y h k = cc

-- what the collector says, by the routers of the network
text_is : (net : Plan) (members : List Member) (made : ℕ → List MadeOffer) (s inside all : ℕ) → members ≡ members_of net
    → cut_line s inside all ++ recorded_text net members (kept_of members (made s)) ≡ cut_text net made s inside all
text_is net members made s inside all are = ap (λ (ms : List Member). cut_line s inside all ++ recorded_text net ms (kept_of ms (made s))) are

pub shows_cut : RunsPassThroughSnapshots → (x : WorldView) (s inside : ℕ) (out : Output) → is_whole (judged x.collector s) ≡ true → map member_of x.collector.members ≡ members_of x.net → views.ComesOut x
    → CountsInside (Ok (Some inside)) x.net x.run s → out ≡ output (cut_line s inside (length x.run) ++ recorded_text x.net (map member_of x.collector.members) (kept_of (map member_of x.collector.members) (made_for x.collector s))) DONE
    → Shows (IsCutReport s) x out
shows_cut pass x s inside out whole are again counts printed = λ (g : Setting) (e : g.net ≡ x.net).
    let w = plain_world x in
    let here = are ∙ ap members_of (sym e) in
    let is : is_whole (outcome g.net w.made s) ≡ true = sym (ap (λ (ms : List Member). is_whole (verdict ms (kept_of ms (w.made s)))) here) ∙ whole in
    inr (
      inside,
      λ set.
          let c = counts g e set in
          let same = same_world g w c.0 (again g e set.chooses) c.1 in
          let both = subst (λ (y : World). (run : PlayedRun g y) × HasInside g y run s inside) same (c.2, c.3) in
          has_cut pass g set w s inside is both.0 both.1,
      printed
          ∙ ap (λ (n : Plan). output (cut_line s inside (length x.run) ++ recorded_text n (map member_of x.collector.members) (kept_of (map member_of x.collector.members) (made_for x.collector s))) DONE) (sym e)
          ∙ ap (λ (t : List ℕ). output t DONE) (text_is g.net (map member_of x.collector.members) w.made s inside (length w.run) here),
    )

-- the parts of its text, one behind the other
pub cut_text_is : (x : WorldView) (net : Plan) (k : CollectorView) (s inside all : ℕ) (none first whole text : List ℕ) → none ≡ [] → first ≡ none ++ cut_line s inside all → whole ≡ first ++ text
    → all ≡ length x.run → text ≡ recorded_text net (map member_of k.members) (kept_of (map member_of k.members) (made_for k s)) → x.net ≡ net → k ≡ x.collector
    → output whole 0 ≡ output (cut_line s inside (length x.run) ++ recorded_text x.net (map member_of x.collector.members) (kept_of (map member_of x.collector.members) (made_for x.collector s))) DONE
cut_text_is x net k s inside all none first whole text empty one two long is same value =
    let said = is ∙ ap (λ (n : Plan). recorded_text n (map member_of k.members) (kept_of (map member_of k.members) (made_for k s))) (sym same)
    ∙ ap (λ (j : CollectorView). recorded_text x.net (map member_of j.members) (kept_of (map member_of j.members) (made_for j s))) value in
    ap (λ (t : List ℕ). output t 0)
    (two ∙ ap (λ (t : List ℕ). t ++ text) (one ∙ ap (λ (t : List ℕ). t ++ cut_line s inside all) empty) ∙ ap (λ (n : ℕ). cut_line s inside n ++ text) long ∙ ap (λ (t : List ℕ). cut_line s inside (length x.run) ++ t) said)
