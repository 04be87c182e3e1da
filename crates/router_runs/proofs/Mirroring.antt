-- The run of the laws beside a run of routers, event by event.
use Rattle.std.proofs.Common.{◌≡◌, ℕ, ◌<◌, ◌==◌, arith, Bool, true, false, List, [], ◌∷◌, ◌++◌, append_assoc, refl, ap, sym, ◌∙◌, subst, Option, None, Some, inl, inr, ◌⊎◌}
use Rattle.std.specs.Prelude.{if◌then◌else◌}
use mathlib.Core.List.{IsPrefix}
use Rattle.std.proofs.lemmas.List.{append-nil}
use Rattle.std.proofs.lemmas.Bool.{eq-eqb}
use Rattle.bgp_codec.specs.declared.message.Message.{Message}
use Rattle.run_model.specs.Links as links
use Rattle.run_model.specs.Links.{Entry, End}
use Rattle.run_model.specs.Octets.{Passing}
use Rattle.run_model.specs.Network as runs
use Rattle.run_model.specs.Network.{NetworkEvent, alone, puts, takes, offers, taken_from, put_towards, offered_by}
use Rattle.run_model.specs.Routes as routes
use Rattle.run_model.specs.Quiet as model
use Rattle.run_model.specs.Offers.{IsIn, offerings_after, final, network_steps, made_by}
use Rattle.outbox.specs.declared.item.What.{What}
use Rattle.snap_marker.specs.Recordings.{MadeOffer}
use Rattle.router_model.specs.Settings.{Setting, IsSetting, linked}
use Rattle.router_model.specs.Sides.{front}
use Rattle.router_model.specs.State.{Router}
use Rattle.router_model.specs.Laws.{all_passes}
use Rattle.router_model.specs.Step.{Own, RouterEvent, after, says}
use Rattle.router_runs.specs.Runs.{Logged, LoggedStep, RunOrder, RunState, IsRunTo, logged_steps, new_logged, side_of}
use Rattle.router_runs.specs.Model.{network_of}
use Rattle.router_runs.specs.Reading.{state_of}
use Rattle.router_runs.specs.Doing.{Stands}
use Rattle.router_runs.specs.Kept.{Holds}
use Rattle.router_runs.specs.Snapshots.{RecordedAt, IsQuiet, IsQuietSince, snapshots_of}
use Rattle.router_runs.specs.SnapshotLaws.{SnapshotLaws}
use Rattle.router_runs.specs.Mirrors.{ModelRouter, ModelOffering, ModelSteps, commands_at, table_commands_at, CommandsForget, ReadsRouter, Mirrors, Copied, Mirrored, GoesOn, RunsAreMirrored, MirrorsGoOn, RecordingsAreMirrored}
use Rattle.router_runs.proofs.Doing.{up_in}
use Rattle.router_runs.proofs.Hanging.{up_is}
use Rattle.router_runs.proofs.Running.{all_more, number_is}
use Rattle.router_runs.proofs.Keeping.{linked_both, linked_apart}
use Rattle.router_runs.proofs.Believing.{runs_join}
use Rattle.router_runs.proofs.NextEvent.{Next, next_of, holds_as, stands_as, apart_of}
use Rattle.router_runs.proofs.Lengthening.{steps_append, quiet_on, commands_append, table_commands_append, forget_on}
use Rattle.router_runs.proofs.Lower.{Laws, first_facts}

module _ (laws : Laws) (more : SnapshotLaws) where
  module _ (g : Setting) (set : IsSetting g) (order : RunOrder) (old : RunState) (m : Mirrored g order old) (r : IsRunTo g order old) (u : ℕ) where
    abbrev x : Router
    x = (old.routers u).router

    abbrev w : ModelOffering
    w = final (network_of g) m.steps

    abbrev n : ModelRouter
    n = w.routers u

    abbrev far : ℕ → End Message
    far v = (w.routers v).recorder.ends u

    abbrev before : ℕ → List (Passing Message)
    before v = all_passes (old.taken v u)

    abbrev event : RouterEvent → NetworkEvent Own What MadeOffer
    event e = record { router = u; event = e }

    abbrev new : RouterEvent → Logged → RunState
    new e own = runs.after (logged_steps g) old (event e) own

    abbrev Begins : RouterEvent → Logged → Type 0
    Begins e own = (a b : ℕ) → IsPrefix ((new e own).taken a b) ((new e own).put a b)

    -- ---- the state behind it

    module _ (e : RouterEvent) (own : Logged) (step : LoggedStep g u (old.routers u) e own) (begins : Begins e own) (k : Next laws more g set order old m r u e own) where
      abbrev y : Router
      y = after g u x e

      abbrev z : ModelOffering
      z = offerings_after (network_of g) w k.steps

      abbrev leaves : own.router ≡ y
      leaves = step.step.leaves

      side_here : (v : ℕ) → y.sides v ≡ own.router.sides v
      side_here v = ap (λ i. i.sides v) (sym leaves)

      end_here : (v : ℕ) → k.router.recorder.ends v ≡ (z.routers u).recorder.ends v
      end_here v = ap (λ i. i.recorder.ends v) (sym k.here)

      end_there : (a v : ℕ) → (u ≡ a → ⊥) → (w.routers a).recorder.ends v ≡ (z.routers a).recorder.ends v
      end_there a v apart = ap (λ i. i.recorder.ends v) (sym (k.others a apart))

      sides_at : (a b : ℕ) → linked g.net a b ≡ true → (p : Bool) → (u == a) ≡ p → (q : Bool) → (u == b) ≡ q
          → Stands ((if p then own else old.routers a).router.sides b) ((z.routers a).recorder.ends b) ((z.routers b).recorder.ends a)
      sides_at a b near true h true i = absurd (linked_apart laws g set.network a b near (sym (number_is laws u a h) ∙ number_is laws u b i))
      sides_at a b near true h false i =
          let same : u ≡ a = number_is laws u a h in
          let near_u : linked g.net u b ≡ true = subst (λ j. linked g.net j b ≡ true) (sym same) near in
          subst (λ j. Stands (own.router.sides b) ((z.routers j).recorder.ends b) ((z.routers b).recorder.ends j)) same
          (stands_as (y.sides b) (own.router.sides b) (k.router.recorder.ends b) ((z.routers u).recorder.ends b) (far b) ((z.routers b).recorder.ends u) (side_here b) (end_here b) (end_there b u (apart_of u b i)) (k.turned b near_u).stands)
      sides_at a b near false h true i =
          let same : u ≡ b = number_is laws u b i in
          let near_b : linked g.net a u ≡ true = subst (λ j. linked g.net a j ≡ true) (sym same) near in
          let near_u : linked g.net u a ≡ true = linked_both laws g set.network a u near_b in
          let was = m.mirrors.sides a u near_b in
          let now = (k.turned a near_u).stands in
          subst (λ j. Stands (side_of old a j) ((z.routers a).recorder.ends j) ((z.routers j).recorder.ends a)) same
          (stands_as (side_of old a u) (side_of old a u) ((w.routers a).recorder.ends u) ((z.routers a).recorder.ends u) (k.router.recorder.ends a) ((z.routers u).recorder.ends a) refl (end_there a u (apart_of u a h)) (end_here a)
          (record { reads = was.reads; fits = was.fits; mine = now.theirs; theirs = now.mine }))
      sides_at a b near false h false i =
          stands_as (side_of old a b) (side_of old a b) ((w.routers a).recorder.ends b) ((z.routers a).recorder.ends b) ((w.routers b).recorder.ends a) ((z.routers b).recorder.ends a) refl (end_there a b (apart_of u a h)) (end_there b a (apart_of u b i))
          (m.mirrors.sides a b near)

      log_here : (v : ℕ) → linked g.net u v ≡ true → own.log v ≡ ((z.routers u).recorder.ends v).appended
      log_here v near =
          ap (λ f. f v) step.log
          ∙ (ap (λ l. l ++ says g u x e v) (m.mirrors.log u v near)
          ∙ (sym (k.turned v near).appended
          ∙ ap (λ i. i.appended) (end_here v)))

      log_at : (a b : ℕ) → linked g.net a b ≡ true → (p : Bool) → (u == a) ≡ p → (if p then own else old.routers a).log b ≡ ((z.routers a).recorder.ends b).appended
      log_at a b near true h =
          let same : u ≡ a = number_is laws u a h in
          subst (λ j. own.log b ≡ ((z.routers j).recorder.ends b).appended) same (log_here b (subst (λ j. linked g.net j b ≡ true) (sym same) near))
      log_at a b near false h = m.mirrors.log a b near ∙ ap (λ i. i.appended) (end_there a b (apart_of u a h))

      abbrev holds_here : (v : ℕ) → linked g.net u v ≡ true → Holds g (own.router.sides v) (all_passes (old.taken v u ++ taken_from v e)) ((z.routers u).recorder.ends v)
      holds_here v near =
          holds_as g (y.sides v) (own.router.sides v) (before v ++ all_passes (taken_from v e)) (all_passes (old.taken v u ++ taken_from v e)) (k.router.recorder.ends v) ((z.routers u).recorder.ends v)
          (side_here v) (sym (all_more laws (old.taken v u) (taken_from v e))) (end_here v) (k.turned v near).holds

      holds_at : (a b : ℕ) → linked g.net a b ≡ true → (p : Bool) → (u == a) ≡ p
          → Holds g ((if p then own else old.routers a).router.sides b) (all_passes (old.taken b a ++ (if p then taken_from b e else []))) ((z.routers a).recorder.ends b)
      holds_at a b near true h =
          let same : u ≡ a = number_is laws u a h in
          subst (λ j. Holds g (own.router.sides b) (all_passes (old.taken b j ++ taken_from b e)) ((z.routers j).recorder.ends b)) same (holds_here b (subst (λ j. linked g.net j b ≡ true) (sym same) near))
      holds_at a b near false h =
          holds_as g (side_of old a b) (side_of old a b) (all_passes (old.taken b a)) (all_passes (old.taken b a ++ [])) ((w.routers a).recorder.ends b) ((z.routers a).recorder.ends b) refl (ap all_passes (sym (append-nil (old.taken b a))))
          (end_there a b (apart_of u a h)) (m.mirrors.holds a b near)

      router_at : (a : ℕ) (p : Bool) → (u == a) ≡ p → ReadsRouter g a (if p then own else old.routers a).router (z.routers a)
      router_at a true h =
          subst (λ j. ReadsRouter g j own.router (z.routers j)) (number_is laws u a h) (subst (ReadsRouter g u own.router) (sym k.here) (subst (λ i. ReadsRouter g u i k.router) (sym leaves) k.reads))
      router_at a false h = subst (ReadsRouter g a (old.routers a).router) (sym (k.others a (apart_of u a h))) (m.mirrors.routers a)

      queue_at : (a : ℕ) (p : Bool) → (u == a) ≡ p → z.queued a ≡ made_by a z.made ++ (if p then own else old.routers a).router.snapshots.queue
      queue_at a true h =
          subst (λ j. z.queued j ≡ made_by j z.made ++ own.router.snapshots.queue) (number_is laws u a h) (k.queued ∙ ap (λ i. made_by u z.made ++ i.snapshots.queue) (sym leaves))
      queue_at a false h = k.other_queues a (apart_of u a h)

      mirrors_next : Mirrors g (new e own) z
      mirrors_next = record {
        sides = λ a b near. sides_at a b near (u == a) refl (u == b) refl;
        log = λ a b near. log_at a b near (u == a) refl;
        holds = λ a b near. holds_at a b near (u == a) refl;
        routers = λ a. router_at a (u == a) refl;
        queued = λ a. queue_at a (u == a) refl;
        made = k.made;
      }

      -- ---- the run up to there

      abbrev order_next : RunOrder
      order_next = order ++ event e ∷ []

      one_step : runs.Run (logged_steps g) old (event e ∷ []) (new e own)
      one_step = (new e own, (own, step, refl, begins), refl)

      routers_here : (new e own).routers u ≡ own
      routers_here = ap (λ b. if b then own else old.routers u) (eq-eqb u u refl)

      router_here : y ≡ ((new e own).routers u).router
      router_here = sym leaves ∙ ap (λ i. i.router) (sym routers_here)

      place_on : (a s : ℕ) (at : RunState) → RecordedAt g order old a s at → RecordedAt g order_next (new e own) a s at
      place_on a s at p = record {
        before = p.before;
        event = p.event;
        later = p.later ++ event e ∷ [];
        old = p.old;
        parts = ap (λ l. l ++ event e ∷ []) p.parts ∙ append_assoc p.before (record { router = a; event = p.event } ∷ p.later) (event e ∷ []);
        reached = p.reached;
        step = p.step;
        goes_on = runs_join g p.later (event e ∷ []) at old (new e own) p.goes_on one_step;
        greater = p.greater;
        records = p.records;
      }

      place_here : (s : ℕ) → x.snapshots.last < s → y.snapshots.last ≡ s → RecordedAt g order_next (new e own) u s (new e own)
      place_here s low high = record {
        before = order;
        event = e;
        later = [];
        old = old;
        parts = refl;
        reached = r;
        step = (own, step, refl, begins);
        goes_on = refl;
        greater = low;
        records = ap (λ i. i.snapshots.last) (sym router_here) ∙ high;
      }

      -- ---- what stands as recorded

      copied_on : (a s : ℕ) (c : ℕ → End Message) (i : ModelRouter) → i.kept_at s ≡ (w.routers a).kept_at s → i.originated_at s ≡ (w.routers a).originated_at s → (w.routers a).recorder.copy s ≡ Some c → Copied g order_next (new e own) i a s c
      copied_on a s c i kept_same originated_same is =
          let was = m.copies a s c is in
          record {
            at = was.at;
            place = place_on a s was.at was.place;
            ends = was.ends;
            kept = kept_same ∙ was.kept;
            originated = originated_same ∙ was.originated;
            unmarked = was.unmarked;
          }

      abbrev copy_holds : (c : ℕ → End Message) → k.router.recorder.ends ≡ c → (v : ℕ) → linked g.net u v ≡ true → Holds g (side_of (new e own) u v) (all_passes ((new e own).taken v u)) (c v)
      copy_holds c same v near =
          holds_as g (y.sides v) (side_of (new e own) u v) (before v ++ all_passes (taken_from v e)) (all_passes ((new e own).taken v u)) (k.router.recorder.ends v) (c v)
          (ap (λ i. i.sides v) router_here)
          (sym (all_more laws (old.taken v u) (taken_from v e)) ∙ ap (λ b. all_passes (old.taken v u ++ (if b then taken_from v e else []))) (sym (eq-eqb u u refl)))
          (ap (λ f. f v) same) (k.turned v near).holds

      copied_new : (s : ℕ) (c : ℕ → End Message) → x.snapshots.last < s → y.snapshots.last ≡ s → k.router.recorder.ends ≡ c → k.router.kept_at s ≡ k.router.kept → k.router.originated_at s ≡ k.router.originated
          → Copied g order_next (new e own) k.router u s c
      copied_new s c low high same kept_same originated_same = record {
        at = new e own;
        place = place_here s low high;
        ends = record {
          reads = λ v near. (stands_there v near).reads;
          up = λ v near. up_is laws (state_of (side_of (new e own) u v).session.state) (c v) (stands_there v near).fits ∙ up_in laws (side_of (new e own) u v).session.state;
          log = λ v near. ap (λ i. i.log v) routers_here ∙ (log_here v near ∙ (ap (λ i. i.appended) (sym (end_here v)) ∙ ap (λ f. (f v).appended) same));
          holds = copy_holds c same;
        };
        kept = kept_same ∙ k.reads.kept ∙ ap (λ i. i.kept) router_here;
        originated = originated_same ∙ k.reads.originated ∙ ap (λ i. i.originated) router_here;
        unmarked = λ v near up.
            subst (λ f. ((k.turned v near).holds.rest ≡ []) ⊎ (IsIn (links.Mark (links.incarnation (f v)) s) (f v).taken → ⊥)) same
            (k.unmarked s v low high near (ap (λ f. links.is_up (f v)) same ∙ up));
      }
        where
          stands_there : (v : ℕ) → linked g.net u v ≡ true → Stands (side_of (new e own) u v) (c v) (far v)
          stands_there v near = stands_as (y.sides v) (side_of (new e own) u v) (k.router.recorder.ends v) (c v) (far v) (far v) (ap (λ i. i.sides v) router_here) (ap (λ f. f v) same) refl (k.turned v near).stands

      copied_here : (s : ℕ) (c : ℕ → End Message) → k.router.recorder.copy s ≡ Some c → Copied g order_next (new e own) k.router u s c
      copied_here s c is = elim (k.recorded.new s c is) [
        | inl was ↦ copied_on u s c k.router was.1 was.2 was.0
        | inr now ↦ copied_new s c now.0 now.1 now.2 now.3 now.4
      ]

      copied_at : (a s : ℕ) (c : ℕ → End Message) (p : Bool) → (u == a) ≡ p → (z.routers a).recorder.copy s ≡ Some c → Copied g order_next (new e own) (z.routers a) a s c
      copied_at a s c true h is =
          subst (λ j. (z.routers j).recorder.copy s ≡ Some c → Copied g order_next (new e own) (z.routers j) j s c) (number_is laws u a h)
          (subst (λ i. i.recorder.copy s ≡ Some c → Copied g order_next (new e own) i u s c) (sym k.here) (copied_here s c)) is
      copied_at a s c false h is =
          let same = k.others a (apart_of u a h) in
          copied_on a s c (z.routers a) (ap (λ i. i.kept_at s) same) (ap (λ i. i.originated_at s) same) (ap (λ i. i.recorder.copy s) (sym same) ∙ is)

      keeps_at : (a s : ℕ) (c : ℕ → End Message) (p : Bool) → (u == a) ≡ p → (w.routers a).recorder.copy s ≡ Some c → (d : ℕ → End Message) × ((z.routers a).recorder.copy s ≡ Some d)
      keeps_at a s c true h is =
          subst (λ j. (w.routers j).recorder.copy s ≡ Some c → (d : ℕ → End Message) × ((z.routers j).recorder.copy s ≡ Some d)) (number_is laws u a h)
          (λ here. (let on = k.recorded.kept s c here in (on.0, ap (λ i. i.recorder.copy s) k.here ∙ on.1))) is
      keeps_at a s c false h is = (c, ap (λ i. i.recorder.copy s) (k.others a (apart_of u a h)) ∙ is)

      -- ---- the quiet stretch

      quiet_before : (s : ℕ) → IsQuietSince g s order_next (new e own) → IsQuietSince g s order old
      quiet_before s q front later d was now at parts reached does on place =
          q front (later ++ event e ∷ []) d was now at (ap (λ l. l ++ event e ∷ []) parts ∙ append_assoc front (d ∷ later) (event e ∷ [])) reached does
          (runs_join g later (event e ∷ []) now old (new e own) on one_step) place

      calm_at : (s : ℕ) → IsQuietSince g s order_next (new e own) → (o : Option (ℕ → End Message)) → n.recorder.copy s ≡ o → IsQuiet g u x y e ⊎ (n.recorder.copy s ≡ None)
      calm_at s q None is = inr is
      calm_at s q (Some c) is =
          let was = m.copies u s c is in
          inl (subst (λ i. IsQuiet g u x i e) (sym router_here) (q order [] (event e) old (new e own) was.at refl r (own, step, refl, begins) refl was.place))

      quiet_next : (s : ℕ) → IsQuietSince g s order_next (new e own)
          → model.IsQuietSince (network_of g) s (routes.first_routers (network_of g)) (network_steps (network_of g) (m.steps ++ k.steps))
      quiet_next s q =
          let one = m.quiet s (quiet_before s q) in
          let two = k.calm s (calm_at s q (n.recorder.copy s) refl) in
          subst (model.IsQuietSince (network_of g) s (routes.first_routers (network_of g))) (sym (steps_append g m.steps k.steps))
          (quiet_on g s (network_steps (network_of g) m.steps) (network_steps (network_of g) k.steps) (routes.first_routers (network_of g)) one
          (subst (λ i. model.IsQuietSince (network_of g) s i (network_steps (network_of g) k.steps)) (sym (more.aside (network_of g) m.steps m.run).1) two))

      -- ---- its commands

      commands_next : (a : ℕ) → commands_at a (network_steps (network_of g) (m.steps ++ k.steps)) ≡ table_commands_at a order_next
      commands_next a =
          let both = commands_append a (network_steps (network_of g) m.steps) (network_steps (network_of g) k.steps) in
          let all = table_commands_append a order (event e ∷ []) in
          let first = m.commands a in
          let last = k.counts a in
          ap (commands_at a) (steps_append g m.steps k.steps) ∙ omega (arith, both, all, first, last)

      forget_next : CommandsForget g (routes.first_routers (network_of g)) (network_steps (network_of g) (m.steps ++ k.steps))
      forget_next =
          subst (CommandsForget g (routes.first_routers (network_of g))) (sym (steps_append g m.steps k.steps))
          (forget_on g (network_steps (network_of g) m.steps) (network_steps (network_of g) k.steps) (routes.first_routers (network_of g)) m.forgets
          (subst (λ i. CommandsForget g i (network_steps (network_of g) k.steps)) (sym (more.aside (network_of g) m.steps m.run).1) k.forgets))

      -- ---- the longer run

      final_is : final (network_of g) (m.steps ++ k.steps) ≡ z
      final_is = (more.on (network_of g) m.steps k.steps m.run k.run).1

      abbrev whole_next : Mirrored g order_next (new e own)
      whole_next = record {
        steps = m.steps ++ k.steps;
        run = (more.on (network_of g) m.steps k.steps m.run k.run).0;
        mirrors = subst (Mirrors g (new e own)) (sym final_is) mirrors_next;
        copies = λ a s c is. subst (λ o. (o.routers a).recorder.copy s ≡ Some c → Copied g order_next (new e own) (o.routers a) a s c) (sym final_is) (copied_at a s c (u == a) refl) is;
        quiet = quiet_next;
        commands = commands_next;
        forgets = forget_next;
      }

      abbrev goes_next : GoesOn g order old m (event e ∷ []) (new e own)
      goes_next = record {
        whole = whole_next;
        more = k.steps;
        steps = refl;
        keeps = λ a s c is. subst (λ o. (d : ℕ → End Message) × ((o.routers a).recorder.copy s ≡ Some d)) (sym final_is) (keeps_at a s c (u == a) refl is);
      }

      news_next : (s : ℕ) → x.snapshots.last < s → (snapshots_of (new e own) u).last ≡ s → (c : ℕ → End Message) × (((final (network_of g) (m.steps ++ k.steps)).routers u).recorder.copy s ≡ Some c)
      news_next s low high =
          let got = k.recorded.recorded s low (ap (λ i. i.snapshots.last) router_here ∙ high) in
          (got.0, ap (λ o. (o.routers u).recorder.copy s) final_is ∙ (ap (λ i. i.recorder.copy s) k.here ∙ got.1))

    -- one step of the network, and the run of the laws behind it
    record One (e : RouterEvent) (at : RunState) : Type 0 where
      pub goes : GoesOn g order old m (event e ∷ []) at
      pub news : (s : ℕ) → x.snapshots.last < s → (snapshots_of at u).last ≡ s → (c : ℕ → End Message) × (((final (network_of g) goes.whole.steps).routers u).recorder.copy s ≡ Some c)

    one_on : (e : RouterEvent) (at : RunState) → runs.NetworkStep (logged_steps g) old (event e) at → One e at
    one_on e at s =
        let own : Logged = s.0 in
        let begins : Begins e own = subst (λ (i : RunState). (a b : ℕ) → IsPrefix (i.taken a b) (i.put a b)) s.2 s.3 in
        let k = next_of laws more g set order old m r u e own s.1 begins in
        subst (One e) (sym s.2) (record { goes = goes_next e own s.1 begins k; news = news_next e own s.1 begins k })

  -- ---- every run

  module _ (g : Setting) (set : IsSetting g) where
    first : Mirrored g [] (runs.opening (λ u. new_logged g))
    first = record {
      steps = [];
      run = tt;
      mirrors = record {
        sides = λ u v near.
            let apart = linked_apart laws g set.network u v near in
            record {
              reads = record { phase = refl; epoch = refl; heard = refl; is_shut = refl; acted = λ e. refl; sent = λ e. refl };
              fits = record { phase = refl; has_said = tt; has_used = tt };
              mine = first_facts laws u v apart;
              theirs = first_facts laws v u (λ e. apart (sym e));
            };
        log = λ u v near. refl;
        holds = λ u v near. record { rest = []; only = tt; passed = refl; joined = λ j. absurd (cc j); apart = λ n. refl };
        routers = λ u. record { kept = refl; originated = refl; snapshots = record { last = refl; unfinished = refl; recording = tt } };
        queued = λ u. refl;
        made = refl;
      };
      copies = λ u s c is. absurd (cc is);
      quiet = λ s q. tt;
      commands = λ u. refl;
      forgets = tt;
    }

    -- a longer run, whatever its order is written as
    record GoesTo (before : RunOrder) (at : RunState) (m : Mirrored g before at) (last : RunState) (order : RunOrder) : Type 0 where
      pub whole : Mirrored g order last
      pub added : ModelSteps
      pub steps : whole.steps ≡ m.steps ++ added
      pub keeps : (u s : ℕ) (c : ℕ → End Message) → ((final (network_of g) m.steps).routers u).recorder.copy s ≡ Some c
          → (d : ℕ → End Message) × (((final (network_of g) whole.steps).routers u).recorder.copy s ≡ Some d)

    goes_to : (before later : RunOrder) (at last : RunState) (m : Mirrored g before at) → GoesTo before at m last (before ++ later) → GoesOn g before at m later last
    goes_to before later at last m k = record { whole = k.whole; more = k.added; steps = k.steps; keeps = k.keeps }

    on_by : (before : RunOrder) (at next : RunState) (d : NetworkEvent Own What MadeOffer) → IsRunTo g before at → runs.NetworkStep (logged_steps g) at d next → IsRunTo g (before ++ d ∷ []) next
    on_by before at next d r s = runs_join g before (d ∷ []) (runs.opening (λ u. new_logged g)) at next r (next, s, refl)

    then_on : (later before : RunOrder) (at last : RunState) (m : Mirrored g before at) → IsRunTo g before at → runs.Run (logged_steps g) at later last → GoesTo before at m last (before ++ later)
    then_on [] before at last m r on =
        subst (λ i. GoesTo before at m i (before ++ [])) on
        (subst (GoesTo before at m at) (sym (append-nil before)) (record { whole = m; added = []; steps = sym (append-nil m.steps); keeps = λ u s c is. (c, is) }))
    then_on (d ∷ ds) before at last m r on =
        let next : RunState = on.0 in
        let one = one_on g set before at m r d.router d.event next on.1 in
        let rest = then_on ds (before ++ d ∷ []) next last one.goes.whole (on_by before at next d r on.1) on.2 in
        subst (GoesTo before at m last) (append_assoc before (d ∷ []) ds) (record {
          whole = rest.whole;
          added = one.goes.more ++ rest.added;
          steps = rest.steps ∙ ap (λ l. l ++ rest.added) one.goes.steps ∙ append_assoc m.steps one.goes.more rest.added;
          keeps = λ u s c is. (let a = one.goes.keeps u s c is in rest.keeps u s a.0 a.1);
        })

  pub runs_are_mirrored : RunsAreMirrored
  runs_are_mirrored g set order state r = (then_on g set order [] (runs.opening (λ u. new_logged g)) state (first g set) refl r).whole

  pub mirrors_go_on : MirrorsGoOn
  mirrors_go_on g set before later at last m r on = goes_to g set before later at last m (then_on g set later before at last m r on)

  pub recordings_are_mirrored : RecordingsAreMirrored
  recordings_are_mirrored g set order state u s at p =
      let m = runs_are_mirrored g set p.before p.old p.reached in
      let d : NetworkEvent Own What MadeOffer = record { router = u; event = p.event } in
      let one = one_on g set p.before p.old m p.reached u p.event at p.step in
      let got = one.news s p.greater p.records in
      let on = then_on g set p.later (p.before ++ d ∷ []) at state one.goes.whole (on_by g set p.before p.old at d p.reached p.step) p.goes_on in
      let end = on.keeps u s got.0 got.1 in
      subst (λ (o : RunOrder). (k : Mirrored g o state) × (c : ℕ → End Message) × (((final (network_of g) k.steps).routers u).recorder.copy s ≡ Some c))
      (append_assoc p.before (d ∷ []) p.later ∙ sym p.parts) (on.whole, end.0, end.1)
