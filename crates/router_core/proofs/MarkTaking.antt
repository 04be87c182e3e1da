-- A marker that is taken, and the command to record.
use Rattle.std.proofs.Common.{◌≡◌, ℕ, ◌+◌, ◌==◌, Bool, true, false, cond, ◌&&◌, ◌||◌, List, [], ◌∷◌, Option, None, Some, refl, sym, ap, subst, ◌∙◌, arith}
use Rattle.std.specs.Prelude.{nat_eq, nat_lt, Result, Ok, Err, MatchResult}
use Rattle.std.specs.List.{list_any}
use Rattle.std.proofs.lemmas.Bool.Decides.{nat_tests}
use Rattle.ranked_policy.specs.Plans.{Plan}
use Rattle.snap_marker.specs.declared.part.Part.{Part}
use Rattle.snap_marker.specs.declared.part.Channel.{Channel}
use Rattle.snap_marker.specs.Parts.{MarkView, snapshots_of, peers_of, leads_to, IsLink, IsOver}
use Rattle.snap_marker.specs.Recordings.{Snapshots, ends_channel}
use Rattle.router_model.specs.declared.command.Command.TheVariants.{Snapshot}
use Rattle.router_model.specs.declared.refusal.RouterError.{RouterError}
use Rattle.router_model.specs.declared.refusal.RouterError.TheVariants as error
use Rattle.router_model.specs.declared.refusal.Stepped.{Stepped}
use Rattle.router_model.specs.declared.refusal.Stepped.TheVariants as stepped
use Rattle.router_model.specs.Laws.{LinkedRoutersArePeers}
use Rattle.router_model.specs.Settings.{Setting, linked, peers}
use Rattle.router_model.specs.Sides.{is_up, uses}
use Rattle.router_model.specs.State.{Router}
use Rattle.run_model.specs.Network.{alone}
use Rattle.router_model.specs.Step.{Obeys, records, marked_by}
use Rattle.router_model.specs.Calls.{Stamped, Obey, Gives, answer, judged, unless}
use Rattle.run_model.specs.declared.stamps.TheConstants.{GREATEST_STAMP}
use Rattle.router_core.specs.Views.{RouterView, IsSound, sides_of, plain_of, Answers, TakesMark}
use Rattle.router_core.specs.Recorded.{RecordsAt}
use Rattle.router_core.specs.Calling.{no_step}
use Rattle.router_core.proofs.NoStep.{gives_no_step}

abbrev pub at_stamp : RouterView → MarkView → ℕ → RouterView
at_stamp r m stamp = record { net = r.net; number = r.number; own_open = r.own_open; peers = r.peers; tables = r.tables; marks = m; stamp = stamp }

-- the last number with a test that says so
module _ (r : RouterView) (v e s stamp : ℕ) where
  abbrev heeded : Bool
  heeded = is_up (sides_of r v) && uses (sides_of r v).link e

  abbrev x : Router
  x = (plain_of r).router

  -- it is not heeded
  pub takes_nothing : heeded ≡ false → TakesMark (Ok stepped.Did) r v e s stamp (at_stamp r r.marks stamp)
  takes_nothing h = λ g q ranks. (refl, subst (λ (b : Bool). plain_of (at_stamp r r.marks stamp) ≡ record { router = cond b (marked_by g r.number x v s) x; stamp = stamp }) (sym h) refl)

  -- a greater number is recorded
  pub takes_new : (res : Result Stepped RouterError) (y : RouterView) → heeded ≡ true → nat_lt r.marks.last s ≡ true → RecordsAt res r s (Some v) stamp y → TakesMark res r v e s stamp y
  takes_new res y h l k = λ g q ranks.
      subst (λ (b : Bool). MatchResult res (λ did. (did ≡ stepped.Did) × (plain_of y ≡ record { router = cond b (marked_by g r.number x v s) x; stamp = stamp })) (λ why. (why ≡ error.Memory) × (plain_of y ≡ plain_of r))) (sym h)
      (subst (λ (b : Bool). MatchResult res (λ did. (did ≡ stepped.Did) × (plain_of y ≡ record { router = cond b (records g r.number x s (Some v)) (record x { snapshots = ends_channel (peers g.net r.number) v s x.snapshots.unfinished x.snapshots }); stamp = stamp }))
      (λ why. (why ≡ error.Memory) × (plain_of y ≡ plain_of r))) (sym l) (k g q ranks))

  -- any other may end a channel
  pub takes_old : (m : MarkView) → heeded ≡ true → nat_lt r.marks.last s ≡ false
      → snapshots_of m ≡ ends_channel (peers r.net r.number) v s (snapshots_of r.marks).unfinished (snapshots_of r.marks) → TakesMark (Ok stepped.Did) r v e s stamp (at_stamp r m stamp)
  takes_old m h l is = λ g q ranks. (
    refl,
    subst (λ (b : Bool). plain_of (at_stamp r m stamp) ≡ record { router = cond b (marked_by g r.number x v s) x; stamp = stamp }) (sym h)
        (subst (λ (b : Bool). plain_of (at_stamp r m stamp) ≡ record { router = cond b (records g r.number x s (Some v)) (record x { snapshots = ends_channel (peers g.net r.number) v s x.snapshots.unfinished x.snapshots }); stamp = stamp }) (sym l)
        (ap (λ (y : Snapshots). record { router = record x { snapshots = y }; stamp = stamp }) (is ∙ ap (λ (n : Plan). ends_channel (peers n r.number) v s x.snapshots.unfinished x.snapshots) (sym q)))),
  )

-- ---- the links of a recording

any_same : (v : ℕ) (cs : List Channel) → leads_to v cs ≡ list_any (nat_eq v) (peers_of cs)
any_same v [] = refl
any_same v (c ∷ cs) =
    let test : (v == c.peer) ≡ nat_eq v c.peer = grind (arith, nat_tests) in
    ap (λ (b : Bool). b || leads_to v cs) test ∙ ap (λ (b : Bool). nat_eq v c.peer || b) (any_same v cs)

over_link : (u : Option Part) (vs : List ℕ) (v : ℕ) → IsOver vs u → list_any (nat_eq v) vs ≡ true → IsLink u v
over_link None vs v o h = tt
over_link (Some p) vs v o h = any_same v p.channels.items ∙ ap (list_any (nat_eq v)) o ∙ h

-- a link leads to each peer
pub is_link : LinkedRoutersArePeers → (r : RouterView) → IsSound r → (v : ℕ) → linked r.net r.number v ≡ true → IsLink r.marks.unfinished v
is_link law r s v l = over_link r.marks.unfinished (peers r.net r.number) v s.marked.over (law r.net s.network r.number v l).peer

-- ---- the command to record

module _ (r : RouterView) (s : ℕ) where
  abbrev Snaps : Setting → Result Stepped RouterError → Stamped → Bool → Bool → Type 0
  Snaps g res y greater late =
      Gives g r.number res (judged (unless greater (error.OldSnapshot r.marks.last)) (Some (alone (Obeys (Snapshot s)))) late false) (plain_of r) (Obey (Snapshot s)) y

  snap_is : (g : Setting) (res : Result Stepped RouterError) (y : Stamped) (greater late : Bool) → nat_lt r.marks.last s ≡ greater → nat_lt GREATEST_STAMP (r.stamp + 1) ≡ late → Snaps g res y greater late
      → Gives g r.number res (answer g r.number (plain_of r) (Obey (Snapshot s))) (plain_of r) (Obey (Snapshot s)) y
  snap_is g res y greater late e f h =
      subst (λ (b : Bool). Snaps g res y b (nat_lt GREATEST_STAMP (r.stamp + 1))) (sym e) (subst (λ (b : Bool). Snaps g res y greater b) (sym f) h)

  pub snaps_no_step : nat_lt r.marks.last s ≡ true → Answers (Err (no_step r.stamp)) r (Obey (Snapshot s)) r
  snaps_no_step l = λ g q ranks.
      let late = nat_lt GREATEST_STAMP (r.stamp + 1) in
      snap_is g (Err (no_step r.stamp)) (plain_of r) true late l refl (gives_no_step g r.number late (plain_of r) (Obey (Snapshot s)) (alone (Obeys (Snapshot s))))

  pub snaps : (res : Result Stepped RouterError) (y : RouterView) → nat_lt r.marks.last s ≡ true → nat_lt GREATEST_STAMP (r.stamp + 1) ≡ false → RecordsAt res r s None (r.stamp + 1) y
      → Answers res r (Obey (Snapshot s)) y
  snaps res y l t k = λ g q ranks. snap_is g res (plain_of y) true false l t (k g q ranks)
