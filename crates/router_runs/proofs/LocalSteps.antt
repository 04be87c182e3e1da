-- Each step of a router but an offer made, as events of the laws of runs.
use Rattle.std.proofs.Common.{◌≡◌, ℕ, ◌==◌, Bool, true, false, ◌&&◌, cond, List, [], ◌∷◌, ◌++◌, refl, ◌∙◌, arith, subst, Some, ◌≤◌}
use Rattle.std.specs.Prelude.{if◌then◌else◌, Ok}
use mathlib.Core.List.{IsPrefix}
use Rattle.std.proofs.lemmas.Bool.Decides.{nat_tests}
use Rattle.bgp_codec.specs.declared.message.Message.{Message}
use Rattle.ranked_policy.specs.Plans.{IsNetwork}
use Rattle.run_model.specs.Links as links
use Rattle.run_model.specs.Links.{Mark, End, incarnation}
use Rattle.run_model.specs.Octets.{Passing, Control, passing}
use Rattle.run_model.specs.Network.{alone, puts, takes, offers, taken_from}
use Rattle.run_model.specs.Offers.{IsIn}
use Rattle.router_model.specs.declared.command.Command.TheVariants as command
use Rattle.outbox.specs.declared.item.What.TheVariants as item
use Rattle.snap_marker.specs.Recordings.{ends_channel}
use Rattle.router_model.specs.Settings.{Setting, linked, peers}
use Rattle.router_model.specs.Sides.{Side, front, is_up, marked}
use Rattle.router_model.specs.State.{Router, rule_of}
use Rattle.router_model.specs.Laws.{all_passes}
use Rattle.router_model.specs.Step.{RouterEvent, Obeys, Ticks, Handles, Decides, Advertises, May, after, says, overflows, heeds, is_greater, records}
use Rattle.router_runs.specs.Runs.{written_in}
use Rattle.router_runs.specs.Snapshots.{IsQuiet}
use Rattle.router_runs.specs.Mirrors.{ModelRouter, is_table_command, ReadsRouter}
use Rattle.router_runs.proofs.Stepping.{Before}
use Rattle.router_runs.proofs.Locally.{LocalStep}
use Rattle.router_runs.proofs.SessionSteps.{session_step}
use Rattle.router_runs.proofs.TableSteps.{originate_step, withdraw_step, decide_step, advertise_step}
use Rattle.router_runs.proofs.MarkerSteps.{snapshot_step, mark_step}
use Rattle.router_runs.proofs.Lower.{Laws}

-- the offers made are those of the collector
abbrev pub IsNoOffer : RouterEvent → Type 0
IsNoOffer (alone o) = Unit {0}
IsNoOffer (puts w i) = Unit {0}
IsNoOffer (takes w i) = Unit {0}
IsNoOffer (offers made) = ⊥

marked_up : (c : Bool) (s : ℕ) (t : Side) → is_up (cond c (marked s t) t) ≡ is_up t
marked_up true s t = refl
marked_up false s t = refl

module _ (laws : Laws) (g : Setting) (net : IsNetwork g.net) (u : ℕ) (far : ℕ → End Message) (x : Router) (before : ℕ → List (Passing Message)) (n : ModelRouter)
    (known : (v : ℕ) → linked g.net u v ≡ true → Before laws g v (x.sides v) (before v) (n.recorder.ends v) (far v)) (reads : ReadsRouter g u x n)
    (obeyed : (v : ℕ) → linked g.net u v ≡ true → (n.recorder.ends v).phase ≡ links.Joined → (k : ℕ) → IsIn (Mark (incarnation (n.recorder.ends v)) k) (n.recorder.ends v).taken → k ≤ n.recorder.last) where
  abbrev Still : RouterEvent → Type 0
  Still e = IsQuiet g u x (after g u x e) e

  abbrev Comes : RouterEvent → Type 0
  Comes e = (v : ℕ) → linked g.net u v ≡ true → IsPrefix (before v ++ all_passes (taken_from v e)) (passing (written_in g) (far v).appended)

  abbrev Fronts : RouterEvent → Type 0
  Fronts e = (w : ℕ) → e ≡ alone (Handles w) → (m : Message) × (front (rule_of g.net u w) (x.sides w).held ≡ Ok m)

  abbrev StepOf : RouterEvent → Type 0
  StepOf e = LocalStep laws g net u far (Still e) (is_table_command e) x (after g u x e) (says g u x e) before (λ v. all_passes (taken_from v e)) n

  -- a recording is quiet
  recorded_up : (p q : Bool) (s w v : ℕ) → is_up ((cond p (cond q (records g u x s (Some w)) (record x { snapshots = ends_channel (peers g.net u) w s x.snapshots.unfinished x.snapshots })) x).sides v) ≡ is_up (x.sides v)
  recorded_up true true s w v = marked_up (linked g.net u v && is_up (x.sides v)) s (x.sides v)
  recorded_up true false s w v = refl
  recorded_up false q s w v = refl

  snapshot_still : (s : ℕ) → Still (alone (Obeys (command.Snapshot s)))
  snapshot_still s = record { no_command = λ c. c; stays_up = λ v near up. marked_up (linked g.net u v && is_up (x.sides v)) s (x.sides v) ∙ up }

  mark_still : (w e s : ℕ) → Still (takes w (item.Mark e s))
  mark_still w e s = record { no_command = λ c. c; stays_up = λ v near up. recorded_up (heeds g u x w e) (is_greater x s) s w v ∙ up }

  own_item : (w e s : ℕ) → linked g.net u w ≡ true → Comes (takes w (item.Mark e s)) → IsPrefix (before w ++ Control (Mark e s) ∷ []) (passing (written_in g) (far w).appended)
  own_item w e s near comes =
      let hit : (w == w) ≡ true = grind (arith, nat_tests) in
      subst (λ c. IsPrefix (before w ++ all_passes (if c then item.Mark e s ∷ [] else [])) (passing (written_in g) (far w).appended)) hit (comes w near)

  pub local_step : (e : RouterEvent) → IsNoOffer e → May g u x e → overflows g u x e ≡ false → Fronts e → Comes e → StepOf e
  local_step (alone (Obeys (command.Start w))) is may fits fronts comes =
      session_step laws g net u far (Still (alone (Obeys (command.Start w)))) x before n known reads (alone (Obeys (command.Start w))) tt may fits fronts comes (λ q. q.stays_up) (λ q c. q.no_command c)
  local_step (alone (Obeys (command.Stop w))) is may fits fronts comes =
      session_step laws g net u far (Still (alone (Obeys (command.Stop w)))) x before n known reads (alone (Obeys (command.Stop w))) tt may fits fronts comes (λ q. q.stays_up) (λ q c. q.no_command c)
  local_step (alone (Obeys (command.Reset w))) is may fits fronts comes =
      session_step laws g net u far (Still (alone (Obeys (command.Reset w)))) x before n known reads (alone (Obeys (command.Reset w))) tt may fits fronts comes (λ q. q.stays_up) (λ q c. q.no_command c)
  local_step (alone (Obeys (command.Originate q))) is may fits fronts comes =
      originate_step laws g net u far (Still (alone (Obeys (command.Originate q)))) x before n known reads q (λ t. t.no_command tt)
  local_step (alone (Obeys (command.Withdraw q))) is may fits fronts comes =
      withdraw_step laws g net u far (Still (alone (Obeys (command.Withdraw q)))) x before n known reads q (λ t. t.no_command tt)
  local_step (alone (Obeys (command.Snapshot s))) is may fits fronts comes =
      snapshot_step laws g net u far (Still (alone (Obeys (command.Snapshot s)))) (snapshot_still s) x before n known reads obeyed s may
  local_step (alone (Obeys command.Restart)) is may fits fronts comes =
      session_step laws g net u far (Still (alone (Obeys command.Restart))) x before n known reads (alone (Obeys command.Restart)) tt may fits fronts comes (λ q. q.stays_up) (λ q c. q.no_command c)
  local_step (alone Ticks) is may fits fronts comes =
      session_step laws g net u far (Still (alone Ticks)) x before n known reads (alone Ticks) tt may fits fronts comes (λ q. q.stays_up) (λ q c. q.no_command c)
  local_step (alone (Handles w)) is may fits fronts comes =
      session_step laws g net u far (Still (alone (Handles w))) x before n known reads (alone (Handles w)) tt may fits fronts comes (λ q. q.stays_up) (λ q c. q.no_command c)
  local_step (alone Decides) is may fits fronts comes = decide_step laws g net u far (Still (alone Decides)) x before n known reads may
  local_step (alone (Advertises w)) is may fits fronts comes = advertise_step laws g net u far (Still (alone (Advertises w))) x before n known reads w may
  local_step (puts w i) is may fits fronts comes =
      session_step laws g net u far (Still (puts w i)) x before n known reads (puts w i) tt may fits fronts comes (λ q. q.stays_up) (λ q c. q.no_command c)
  local_step (takes w (item.Dial k)) is may fits fronts comes =
      session_step laws g net u far (Still (takes w (item.Dial k))) x before n known reads (takes w (item.Dial k)) tt may fits fronts comes (λ q. q.stays_up) (λ q c. q.no_command c)
  local_step (takes w (item.Piece k octets)) is may fits fronts comes =
      session_step laws g net u far (Still (takes w (item.Piece k octets))) x before n known reads (takes w (item.Piece k octets)) tt may fits fronts comes (λ q. q.stays_up) (λ q c. q.no_command c)
  local_step (takes w (item.Mark k s)) is may fits fronts comes =
      mark_step laws g net u far (Still (takes w (item.Mark k s))) (mark_still w k s) x before n known reads obeyed w k s may.0 may.1 (own_item w k s may.0 comes)
  local_step (takes w (item.Shut k)) is may fits fronts comes =
      session_step laws g net u far (Still (takes w (item.Shut k))) x before n known reads (takes w (item.Shut k)) tt may fits fronts comes (λ q. q.stays_up) (λ q c. q.no_command c)
  local_step (offers made) is may fits fronts comes = absurd is
