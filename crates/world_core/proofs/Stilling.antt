-- An event answers that there is nothing to do only where no step has its name.
use Rattle.std.proofs.Common.{◌≡◌, ◌≢◌, ◌⊎◌, inl, inr, ℕ, ◌+◌, ◌==◌, Bool, true, false, ◌&&◌, cond, List, [], ◌∷◌, ◌++◌, length, length-append, refl, ap, sym, ◌∙◌, arith, subst, Option, None, Some}
use Rattle.std.specs.Prelude.{if◌then◌else◌, not, nat_lt, map, slice_get, max}
use Rattle.std.proofs.lemmas.Bool.Decides.{nat_tests}
use mathlib.Core.List.{IsPrefix}
use Rattle.bgp_framing.specs.Held.{is_waiting}
use Rattle.ranked_policy.specs.Plans.{IsNetwork}
use Rattle.run_model.specs.Network as runs
use Rattle.run_model.specs.Network.{NetworkEvent, takes, offers}
use Rattle.router_model.specs.declared.command.Command.{Command}
use Rattle.router_model.specs.declared.command.Command.TheVariants as command
use Rattle.outbox.specs.declared.item.Item.{Item}
use Rattle.outbox.specs.declared.item.What.{What}
use Rattle.router_model.specs.declared.refusal.RouterError.{RouterError}
use Rattle.router_model.specs.declared.refusal.RouterError.TheVariants as error
use Rattle.snap_marker.specs.Recordings.{RouterOffer, MadeOffer}
use Rattle.router_model.specs.Settings.{Setting, linked, is_origin}
use Rattle.router_model.specs.State.{Router}
use Rattle.router_model.specs.Step.{Own, RouterEvent, May, is_greater}
use Rattle.router_model.specs.Calls.{Stamped, Call, Obey, Tick, Put, Take, Handle, Decide, Advertise, Answer, Steps, Refuses, judged, unless, first_of, bars, bars_command, event_of, overflows_at, answer, stamp_of, IsEventOf}
use Rattle.run_model.specs.declared.stamps.TheConstants.{GREATEST_STAMP}
use Rattle.router_model.specs.Calls as calls
use Rattle.router_runs.specs.Runs.{logged_steps, RunState}
use Rattle.router_model.specs.Settings.{is_router}
use Rattle.world_core.specs.declared.schedule.Event.{Event}
use Rattle.world_core.specs.declared.schedule.Event.TheVariants as schedule
use Rattle.world_core.specs.declared.schedule.StepFault.TheVariants.{NoSuchRouter, NoSuchLink}
use Rattle.world_core.specs.World.{World, WorldAnswer, Does, Nothing, Stops, refused_by, of_answer, of_offer, called, taking_of, name_of, AgreesWith}
use Rattle.world_core.specs.Keeping.{IsBlocked, NothingWhereNoStepIs}
use Rattle.router_model.specs.Laws.{IdleWhereNothingMayCome}

-- ---- what an event of this name is

commands : (u : ℕ) (e : RouterEvent) (k : ℕ) (x : Command) → name_of u e ≡ schedule.Command k x → (u ≡ k) × IsEventOf (Obey x) e
commands u e k x h = grind arith

ticks : (u : ℕ) (e : RouterEvent) (k : ℕ) → name_of u e ≡ schedule.Tick k → (u ≡ k) × IsEventOf Tick e
ticks u e k h = grind arith

puts_ : (u : ℕ) (e : RouterEvent) (k v : ℕ) → name_of u e ≡ schedule.Put k v → (u ≡ k) × IsEventOf (Put v) e
puts_ u e k v h = grind arith

handles : (u : ℕ) (e : RouterEvent) (k v : ℕ) → name_of u e ≡ schedule.Handle k v → (u ≡ k) × IsEventOf (Handle v) e
handles u e k v h = grind arith

decides : (u : ℕ) (e : RouterEvent) (k : ℕ) → name_of u e ≡ schedule.Decide k → (u ≡ k) × IsEventOf Decide e
decides u e k h = grind arith

advertises : (u : ℕ) (e : RouterEvent) (k : ℕ) → name_of u e ≡ schedule.Advertise k → (u ≡ k) × IsEventOf Advertise e
advertises u e k h = grind arith

takes_ : (u : ℕ) (e : RouterEvent) (k v : ℕ) → name_of u e ≡ schedule.Take k v → (u ≡ k) × ((j : What) × (e ≡ takes v j))
takes_ u e k v h = grind arith

offers_ : (u : ℕ) (e : RouterEvent) (k : ℕ) → name_of u e ≡ schedule.Offer k → (u ≡ k) × ((m : MadeOffer) × (e ≡ offers m))
offers_ u e k h = grind arith

-- ---- what an answer of nothing comes from

router_nothing : (b : Bool) (a : WorldAnswer) → cond b a (Stops NoSuchRouter) ≡ Nothing → a ≡ Nothing
router_nothing true a h = h
router_nothing false a h = absurd cc

link_nothing : (p l : Bool) (a : WorldAnswer) → cond p (cond l a (Stops NoSuchLink)) (Stops NoSuchRouter) ≡ Nothing → a ≡ Nothing
link_nothing true true a h = h
link_nothing true false a h = absurd cc
link_nothing false l a h = absurd cc

-- an answer is idle, or refuses for a full outbox or a message that waits
pub data Quiet (a : Answer) : Type 0 where
  IsIdle : (is : a ≡ calls.Idle) → Quiet a
  IsFull : (v : ℕ) (is : a ≡ Refuses (error.Blocked v)) → Quiet a
  IsHeld : (v : ℕ) (is : a ≡ Refuses (error.Held v)) → Quiet a

quiet_refusal : (why : RouterError) → refused_by why ≡ Nothing → Quiet (Refuses why)
quiet_refusal error.NoSuchPeer h = absurd cc
quiet_refusal error.NotOrigin h = absurd cc
quiet_refusal (error.OldSnapshot last) h = absurd cc
quiet_refusal (error.Blocked v) h = IsFull v refl
quiet_refusal (error.Held v) h = IsHeld v refl
quiet_refusal error.StampEnd h = absurd cc
quiet_refusal error.EpochEnd h = absurd cc
quiet_refusal error.Memory h = absurd cc

quiet : (k at : ℕ) (a : Answer) → of_answer k at a ≡ Nothing → Quiet a
quiet k at (Steps e) h = absurd cc
quiet k at calls.Idle h = IsIdle refl
quiet k at (Refuses why) h = quiet_refusal why h

barred : (why : Option RouterError) (event : Option RouterEvent) (ends over : Bool) (r : RouterError) → judged why event ends over ≡ Refuses r → r ≢ error.StampEnd → r ≢ error.EpochEnd → why ≡ Some r
barred (Some why) event ends over r h p q = cc
barred None None ends over r h p q = absurd cc
barred None (Some e) true over r h p q = absurd (let x : error.StampEnd ≡ r = cc in p (sym x))
barred None (Some e) false true r h p q = absurd (let x : error.EpochEnd ≡ r = cc in q (sym x))
barred None (Some e) false false r h p q = absurd cc

other : (b : Bool) (why r : RouterError) → unless b why ≡ Some r → why ≡ r
other true why r h = absurd cc
other false why r h = cc

held : (b c : Bool) (v w : ℕ) → first_of (unless b error.NoSuchPeer) (unless (not c) (error.Held v)) ≡ Some (error.Held w) → c ≡ true
held true true v w h = refl
held true false v w h = absurd cc
held false c v w h = absurd cc

take_full : (b c : Bool) (v w : ℕ) → first_of (unless b error.NoSuchPeer) (unless (not c) (error.Held v)) ≡ Some (error.Blocked w) → ⊥
take_full true true v w h = absurd cc
take_full true false v w h = absurd cc
take_full false c v w h = absurd cc

command_bar : (g : Setting) (u : ℕ) (x : Router) (c : Command) (r : RouterError) → bars_command g u x c ≡ Some r → (r ≡ error.NoSuchPeer) ⊎ ((r ≡ error.NotOrigin) ⊎ (r ≡ error.OldSnapshot x.snapshots.last))
command_bar g u x (command.Start v) r h = inl (sym (other (linked g.net u v) error.NoSuchPeer r h))
command_bar g u x (command.Stop v) r h = inl (sym (other (linked g.net u v) error.NoSuchPeer r h))
command_bar g u x (command.Reset v) r h = inl (sym (other (linked g.net u v) error.NoSuchPeer r h))
command_bar g u x (command.Originate q) r h = inr (inl (sym (other (is_origin g.net.origins u q) error.NotOrigin r h)))
command_bar g u x (command.Withdraw q) r h = inr (inl (sym (other (is_origin g.net.origins u q) error.NotOrigin r h)))
command_bar g u x (command.Snapshot s) r h = inr (inr (sym (other (is_greater x s) (error.OldSnapshot x.snapshots.last) r h)))
command_bar g u x command.Restart r h = absurd cc

-- ---- no step has the name

quiet_call : (g : Setting) (w : World) (k : ℕ) (call : Call) → called g w k call ≡ Nothing → Quiet (answer g k (w.routers k) call)
quiet_call g w k call h = quiet k (stamp_of g k (w.routers k) call) (answer g k (w.routers k) call) h

abbrev no_items : List What
no_items = []

abbrev pub NoStep : Setting → RunState → Event → Type 0
NoStep g state event = (d : NetworkEvent Own What MadeOffer) (new : RunState) → name_of d.router d.event ≡ event → runs.NetworkStep (logged_steps g) state d new → ⊥

-- what a step of the network says of its router, as the world has it
may_in : (g : Setting) (w : World) (state : RunState) → AgreesWith g w state → (d : NetworkEvent Own What MadeOffer) (new : RunState) (k : ℕ) → d.router ≡ k
    → runs.NetworkStep (logged_steps g) state d new → May g k (w.routers k).router d.event
may_in g w state agrees d new k same s =
    subst (λ j. May g j (w.routers j).router d.event) same (subst (λ x. May g d.router x d.event) (sym (agrees.routers d.router s.1.known)) s.1.step.may)

module _ (idle_where_nothing_may_come : IdleWhereNothingMayCome) where
  by_idle : (g : Setting) → IsNetwork g.net → (w : World) (state : RunState) → AgreesWith g w state → (event : Event) (k : ℕ) (call : Call) → answer g k (w.routers k) call ≡ calls.Idle
      → ((u : ℕ) (e : RouterEvent) → name_of u e ≡ event → (u ≡ k) × IsEventOf call e) → NoStep g state event
  by_idle g net w state agrees event k call h is d new named s =
      let i = is d.router d.event named in
      idle_where_nothing_may_come g net k (w.routers k) call h d.event i.1 (may_in g w state agrees d new k i.0 s)

  bar_of : (g : Setting) (k : ℕ) (x : Stamped) (call : Call) (r : RouterError) → answer g k x call ≡ Refuses r → r ≢ error.StampEnd → r ≢ error.EpochEnd → bars g k x.router call ≡ Some r
  bar_of g k x call r h p q = barred (bars g k x.router call) (event_of g k x.router call) (nat_lt GREATEST_STAMP (stamp_of g k x call)) (overflows_at g k x.router (event_of g k x.router call)) r h p q

  -- a call that neither a full outbox nor a message bars
  pub record NeverBarred (g : Setting) (k : ℕ) (x : Router) (call : Call) : Type 0 where
    pub full : (v : ℕ) → bars g k x call ≡ Some (error.Blocked v) → ⊥
    pub held : (v : ℕ) → bars g k x call ≡ Some (error.Held v) → ⊥

  by_quiet : (g : Setting) → IsNetwork g.net → (w : World) (state : RunState) → AgreesWith g w state → (event : Event) (k : ℕ) (call : Call) → NeverBarred g k (w.routers k).router call
      → ((u : ℕ) (e : RouterEvent) → name_of u e ≡ event → (u ≡ k) × IsEventOf call e) → Quiet (answer g k (w.routers k) call) → IsBlocked g w event ⊎ NoStep g state event
  by_quiet g net w state agrees event k call never is (IsIdle h) = inr (by_idle g net w state agrees event k call h is)
  by_quiet g net w state agrees event k call never is (IsFull v h) = absurd (never.full v (bar_of g k (w.routers k) call (error.Blocked v) h (λ e. absurd cc) (λ e. absurd cc)))
  by_quiet g net w state agrees event k call never is (IsHeld v h) = absurd (never.held v (bar_of g k (w.routers k) call (error.Held v) h (λ e. absurd cc) (λ e. absurd cc)))

  never_command : (g : Setting) (k : ℕ) (x : Router) (c : Command) → NeverBarred g k x (Obey c)
  never_command g k x c = record {
    full = λ v h. elim (command_bar g k x c (error.Blocked v) h) [ inl a ↦ absurd cc | inr b ↦ elim b [ inl p ↦ absurd cc | inr q ↦ absurd cc ] ];
    held = λ v h. elim (command_bar g k x c (error.Held v) h) [ inl a ↦ absurd cc | inr b ↦ elim b [ inl p ↦ absurd cc | inr q ↦ absurd cc ] ];
  }

  never_linked : (b : Bool) (r : RouterError) → unless b error.NoSuchPeer ≡ Some r → r ≡ error.NoSuchPeer
  never_linked b r h = sym (other b error.NoSuchPeer r h)

  not_held : (o p : Option ℕ) (v : ℕ) → calls.blocked o p ≡ Some (error.Held v) → ⊥
  not_held (Some x) p v h = absurd cc
  not_held None None v h = absurd cc
  not_held None (Some y) v h = absurd cc

  by_telling : (g : Setting) → IsNetwork g.net → (w : World) (state : RunState) → AgreesWith g w state → (k : ℕ) → Quiet (answer g k (w.routers k) Advertise) → IsBlocked g w (schedule.Advertise k) ⊎ NoStep g state (schedule.Advertise k)
  by_telling g net w state agrees k (IsIdle h) = inr (by_idle g net w state agrees (schedule.Advertise k) k Advertise h (λ u e n. advertises u e k n))
  by_telling g net w state agrees k (IsFull v h) = inl (k, v, refl, h)
  by_telling g net w state agrees k (IsHeld v h) = absurd (not_held _ _ v (bar_of g k (w.routers k) Advertise (error.Held v) h (λ e. absurd cc) (λ e. absurd cc)))

  -- a take, where an item is there
  by_taking : (g : Setting) → IsNetwork g.net → (w : World) (state : RunState) → AgreesWith g w state → (k v : ℕ) (p : Item) → Quiet (answer g k (w.routers k) (Take v p.stamp p.what)) → NoStep g state (schedule.Take k v)
  by_taking g net w state agrees k v p (IsIdle h) d new named s =
      let i = takes_ d.router d.event k v named in
      let may = subst (λ e. May g k (w.routers k).router e) i.1.1 (may_in g w state agrees d new k i.0 s) in
      idle_where_nothing_may_come g net k (w.routers k) (Take v p.stamp p.what) h (takes v p.what) refl may
  by_taking g net w state agrees k v p (IsFull y h) d new named s =
      absurd (take_full (linked g.net k v) (is_waiting ((w.routers k).router.sides v).held) v y (bar_of g k (w.routers k) (Take v p.stamp p.what) (error.Blocked y) h (λ e. absurd cc) (λ e. absurd cc)))
  by_taking g net w state agrees k v p (IsHeld y h) d new named s =
      let i = takes_ d.router d.event k v named in
      let may = subst (λ e. May g k (w.routers k).router e) i.1.1 (may_in g w state agrees d new k i.0 s) in
      let waits = held (linked g.net k v) (is_waiting ((w.routers k).router.sides v).held) v y (bar_of g k (w.routers k) (Take v p.stamp p.what) (error.Held y) h (λ e. absurd cc) (λ e. absurd cc)) in
      let free = may.1 in absurd cc

  -- and where none is there
  none_if : (b : Bool) → (if b then no_items else no_items) ≡ no_items
  none_if true = refl
  none_if false = refl

  same_event : (d : NetworkEvent Own What MadeOffer) (k : ℕ) (e : RouterEvent) → d.router ≡ k → d.event ≡ e → d ≡ record { router = k; event = e }
  same_event d k e p q = λ i. record { router = p i; event = q i }

  one_taken : (k v : ℕ) (i : What) → runs.taken_between {Own = Own} {Offer = MadeOffer} v k (record { router = k; event = takes v i }) ≡ i ∷ []
  one_taken k v i = (let a : (k == k) ≡ true = grind (arith, nat_tests) in let b : (v == v) ≡ true = grind (arith, nat_tests) in rw (a, b) refl)

  none_put : (k v : ℕ) (i : What) → runs.put_between {Own = Own} {Offer = MadeOffer} v k (record { router = k; event = takes v i }) ≡ []
  none_put k v i = none_if (k == v)

  from_empty : (g : Setting) (w : World) (state : RunState) → AgreesWith g w state → (k v : ℕ) → w.pipes v k ≡ [] → NoStep g state (schedule.Take k v)
  from_empty g w state agrees k v empty d new named s =
      let i = takes_ d.router d.event k v named in
      let shape : d ≡ record { router = k; event = takes v i.1.0 } = same_event d k (takes v i.1.0) i.0 i.1.1 in
      let prefix : IsPrefix (state.taken v k ++ runs.taken_between v k d) (state.put v k ++ runs.put_between v k d) = subst (λ n. IsPrefix (n.taken v k) (n.put v k)) s.2 (s.3 v k) in
      let t = ap (λ z. length (runs.taken_between v k z)) shape ∙ ap length (one_taken k v i.1.0) in
      let p = ap (λ z. length (runs.put_between v k z)) shape ∙ ap length (none_put k v i.1.0) in
      let pipe = ap length (agrees.pipes v k ∙ ap (λ ps. state.taken v k ++ map (λ x. x.what) ps) empty) in
      let l = ap length prefix.1 in
      absurd (omega (arith, t, p, pipe, l, length-append (state.taken v k) (runs.taken_between v k d), length-append (state.put v k) (runs.put_between v k d), length-append (state.taken v k) [], length-append (state.taken v k ++ runs.taken_between v k d) prefix.0))

  by_pipe : (g : Setting) → IsNetwork g.net → (w : World) (state : RunState) → AgreesWith g w state → (k v : ℕ) (items : List Item) → w.pipes v k ≡ items
      → taking_of g w k v (slice_get items 0) ≡ Nothing → NoStep g state (schedule.Take k v)
  by_pipe g net w state agrees k v [] is h = from_empty g w state agrees k v is
  by_pipe g net w state agrees k v (p ∷ rest) is h =
      by_taking g net w state agrees k v p (quiet k (stamp_of g k (w.routers k) (Take v p.stamp p.what)) (answer g k (w.routers k) (Take v p.stamp p.what)) h)

  by_queue : (g : Setting) (w : World) (state : RunState) → AgreesWith g w state → (k at : ℕ) (o : Option RouterOffer) (b : Bool) → slice_get (w.routers k).router.snapshots.queue 0 ≡ o → nat_lt GREATEST_STAMP at ≡ b
      → of_offer k at o ≡ Nothing → NoStep g state (schedule.Offer k)
  by_queue g w state agrees k at None b is late h = λ d new named s.
      let i = offers_ d.router d.event k named in
      let may = subst (λ e. May g k (w.routers k).router e) i.1.1 (may_in g w state agrees d new k i.0 s) in
      let there = sym is ∙ may.1 in absurd cc
  by_queue g w state agrees k at (Some o) true is late h = absurd (let x : Stops _ ≡ Nothing = rw late at h in cc)
  by_queue g w state agrees k at (Some o) false is late h = absurd (let x : Does k (offers (record { router = k; offer = o })) at ≡ Nothing = rw late at h in cc)

  pub nothing_where_no_step_is : NothingWhereNoStepIs
  nothing_where_no_step_is g setting w order state run agrees (schedule.Command k c) h =
      by_quiet g setting.network w state agrees (schedule.Command k c) k (Obey c) (never_command g k (w.routers k).router c) (λ u e n. commands u e k c n) (quiet_call g w k (Obey c) (router_nothing (is_router g k) (called g w k (Obey c)) h))
  nothing_where_no_step_is g setting w order state run agrees (schedule.Tick k) h =
      by_quiet g setting.network w state agrees (schedule.Tick k) k Tick (record { full = λ v x. absurd cc; held = λ v x. absurd cc }) (λ u e n. ticks u e k n) (quiet_call g w k Tick (router_nothing (is_router g k) (called g w k Tick) h))
  nothing_where_no_step_is g setting w order state run agrees (schedule.Put k v) h =
      by_quiet g setting.network w state agrees (schedule.Put k v) k (Put v)
      (record { full = λ y x. (let q = never_linked (linked g.net k v) (error.Blocked y) x in absurd cc); held = λ y x. (let q = never_linked (linked g.net k v) (error.Held y) x in absurd cc) })
      (λ u e n. puts_ u e k v n) (quiet_call g w k (Put v) (link_nothing (is_router g k && is_router g v) (linked g.net k v) (called g w k (Put v)) h))
  nothing_where_no_step_is g setting w order state run agrees (schedule.Take k v) h =
      inr (by_pipe g setting.network w state agrees k v (w.pipes v k) refl (link_nothing (is_router g k && is_router g v) (linked g.net k v) (taking_of g w k v (slice_get (w.pipes v k) 0)) h))
  nothing_where_no_step_is g setting w order state run agrees (schedule.Handle k v) h =
      by_quiet g setting.network w state agrees (schedule.Handle k v) k (Handle v)
      (record { full = λ y x. (let q = never_linked (linked g.net k v) (error.Blocked y) x in absurd cc); held = λ y x. (let q = never_linked (linked g.net k v) (error.Held y) x in absurd cc) })
      (λ u e n. handles u e k v n) (quiet_call g w k (Handle v) (link_nothing (is_router g k && is_router g v) (linked g.net k v) (called g w k (Handle v)) h))
  nothing_where_no_step_is g setting w order state run agrees (schedule.Decide k) h =
      by_quiet g setting.network w state agrees (schedule.Decide k) k Decide (record { full = λ v x. absurd cc; held = λ v x. absurd cc }) (λ u e n. decides u e k n) (quiet_call g w k Decide (router_nothing (is_router g k) (called g w k Decide) h))
  nothing_where_no_step_is g setting w order state run agrees (schedule.Advertise k) h =
      by_telling g setting.network w state agrees k (quiet_call g w k Advertise (router_nothing (is_router g k) (called g w k Advertise) h))
  nothing_where_no_step_is g setting w order state run agrees (schedule.Offer k) h =
      inr (by_queue g w state agrees k (max (w.routers k).stamp w.board + 1) (slice_get (w.routers k).router.snapshots.queue 0) (nat_lt GREATEST_STAMP (max (w.routers k).stamp w.board + 1)) refl refl
      (router_nothing (is_router g k) (of_offer k (max (w.routers k).stamp w.board + 1) (slice_get (w.routers k).router.snapshots.queue 0)) h))
