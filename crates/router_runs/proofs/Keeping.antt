-- What is kept through a run of all routers, and that updates pass in order.
use Rattle.std.proofs.Common.{◌≡◌, ◌≢◌, ℕ, ◌==◌, Bool, true, false, ◌&&◌, cond, List, [], ◌∷◌, ◌++◌, refl, ap, sym, ◌∙◌, subst, Option, None, Some, inl}
use Rattle.std.specs.Prelude.{is_some, if◌then◌else◌, Ok}
use Rattle.std.specs.List.{AllByRecursion, find}
use mathlib.Core.List.{IsPrefix}
use Rattle.prefix_lanes.specs.Bits.{PrefixView}
use Rattle.bgp_codec.specs.declared.message.Message.{Message}
use Rattle.ranked_policy.specs.Plans.{IsNetwork, IsRouter, IsNamed}
use Rattle.rib_tables.specs.Words.{nothing, path_in}
use Rattle.run_model.specs.Links.{Entry}
use Rattle.run_model.specs.Sessions as model
use Rattle.run_model.specs.Sessions.{first_sides}
use Rattle.run_model.specs.Octets.{AllGood, passing}
use Rattle.run_model.specs.Network as runs
use Rattle.run_model.specs.Network.{NetworkEvent, alone, puts, takes, offers}
use Rattle.router_model.specs.declared.command.Command.TheVariants as command
use Rattle.outbox.specs.declared.item.What.{What}
use Rattle.outbox.specs.declared.item.What.TheVariants as item
use Rattle.router_model.specs.Sides.{Side, is_up, front, marked}
use Rattle.snap_marker.specs.Recordings.{MadeOffer}
use Rattle.router_model.specs.Settings.{Setting, linked, prefixes}
use Rattle.router_model.specs.State.{Router, rule_of, heard, path_from, best_path, unadvertised, undecided, is_unadvertised}
use Rattle.router_model.specs.Step.{Own, RouterEvent, Obeys, Ticks, Handles, Decides, Advertises, May, after, says, telling_to, telling_of, heeds, is_greater}
use Rattle.router_model.specs.Laws.{all_passes}
use Rattle.router_runs.specs.Runs.{Logged, LoggedStep, RunState, RunOrder, IsRunTo, logged_steps, new_logged, written_in}
use Rattle.router_model.specs.Settings.{IsSetting}
use Rattle.router_runs.specs.Runs.{side_of, log_of}
use Rattle.router_runs.specs.Promises.{UpdatesPassInOrder}
use Rattle.router_runs.specs.Kept.{IsGood, SideKept, AllAreGood}
use Rattle.router_runs.specs.Said.{MayKeep, IsToldBy, IsSaid, Kept, NumbersFit}
use Rattle.router_runs.proofs.Events.{front_reads, marked_side, keeps_sides}
use Rattle.router_runs.proofs.Running.{before_of, taken_said, number_is, reached_next}
use Rattle.router_runs.proofs.Passing.{passes_in_order}
use Rattle.router_runs.proofs.Goodness.{said_is_good, small_asn}
use Rattle.router_runs.proofs.Saying.{good_append, good_each, step_said, step_keeps, best_kept, words_small, updates_told, told_front}
use Rattle.router_runs.proofs.Lower.{Laws, first_facts}

module _ (laws : Laws) where
  -- ---- links

  pub linked_both : (g : Setting) → IsNetwork g.net → (u v : ℕ) → linked g.net u v ≡ true → linked g.net v u ≡ true
  linked_both g net u v h = (laws.links g.net net u v h).back

  pub linked_apart : (g : Setting) → IsNetwork g.net → (u v : ℕ) → linked g.net u v ≡ true → u ≢ v
  linked_apart g net u v h = (laws.links g.net net u v h).apart

  pub linked_router : (g : Setting) → IsNetwork g.net → (u v : ℕ) → linked g.net u v ≡ true → IsRouter g.net.routers u
  linked_router g net u v h = (laws.links g.net net u v h).one

  -- ---- where none link is, nothing changes

  other_peer : (g : Setting) (u v w : ℕ) → linked g.net u w ≡ true → linked g.net u v ≡ false → (v == w) ≡ false
  other_peer g u v w some none = at (v == w) refl
    where
      at : (c : Bool) → (v == w) ≡ c → c ≡ false
      at true h = absurd (let same : v ≡ w = number_is laws v w h in let k : linked g.net u v ≡ true = ap (λ i. linked g.net u i) same ∙ some in cc (k, none))
      at false h = refl

  linked_untold : (l c : Bool) (f : Option PrefixView) → is_some (cond (l && c) f None) ≡ true → l ≡ true
  linked_untold true c f h = refl
  linked_untold false c f h = absurd (cc h)

  told_elsewhere : (g : Setting) (u v w : ℕ) (x : Router) (q : Option PrefixView) → (v == w) ≡ false → (telling_to x w q (telling_of g u x)).sides v ≡ x.sides v
  told_elsewhere g u v w x None miss = refl
  told_elsewhere g u v w x (Some q) miss = rw miss refl

  both_sides : (c : Bool) (s : Side) → cond c s s ≡ s
  both_sides true s = refl
  both_sides false s = refl

  module _ (g : Setting) (u v : ℕ) (x : Router) (none : linked g.net u v ≡ false) where
    pub stays_apart : (e : RouterEvent) → May g u x e → (after g u x e).sides v ≡ x.sides v
    stays_apart (alone (Obeys (command.Start w))) may = (let miss = other_peer g u v w may none in rw miss refl)
    stays_apart (alone (Obeys (command.Stop w))) may = (let miss = other_peer g u v w may none in rw miss refl)
    stays_apart (alone (Obeys (command.Reset w))) may = (let miss = other_peer g u v w may none in rw miss refl)
    stays_apart (alone (Obeys (command.Originate q))) may = refl
    stays_apart (alone (Obeys (command.Withdraw q))) may = refl
    stays_apart (alone (Obeys (command.Snapshot s))) may = rw none refl
    stays_apart (alone (Obeys command.Restart)) may = rw none refl
    stays_apart (alone Ticks) may = rw none refl
    stays_apart (alone (Handles w)) may = (let miss = other_peer g u v w may.0 none in rw miss refl)
    stays_apart (alone Decides) may = keeps_sides laws x (undecided g u x) (best_path g u x) v
    stays_apart (alone (Advertises w)) may =
        told_elsewhere g u v w x (unadvertised g u x w) (other_peer g u v w (linked_untold (linked g.net u w) (is_up (x.sides w)) (find (is_unadvertised g u x w) (prefixes g)) may) none)
    stays_apart (puts w i) may = (let miss = other_peer g u v w may.0 none in rw miss refl)
    stays_apart (takes w (item.Dial e)) may = (let miss = other_peer g u v w may.0 none in rw miss refl)
    stays_apart (takes w (item.Piece e octets)) may = (let miss = other_peer g u v w may.0 none in rw miss refl)
    stays_apart (takes w (item.Mark e s)) may =
        marked_side laws g u v w s x (heeds g u x w e) (is_greater x s)
        ∙ (ap (λ c. cond (heeds g u x w e && is_greater x s) (cond (c && is_up (x.sides v)) (marked s (x.sides v)) (x.sides v)) (x.sides v)) none ∙ both_sides (heeds g u x w e && is_greater x s) (x.sides v))
    stays_apart (takes w (item.Shut e)) may = (let miss = other_peer g u v w may.0 none in rw miss refl)
    stays_apart (offers made) may = refl

  -- ---- what is kept

  module _ (g : Setting) (set : IsSetting g) where
    pub all_good : (state : RunState) → Kept g state → AllAreGood g state
    all_good state k u v link = good_each laws (IsSaid g u) (IsGood g u) (log_of state u v) (said_is_good laws g set u (linked_router g set.network u v link)) (k.said u v link)

    -- paths heard have small numbers
    heard_small : (state : RunState) → Kept g state → (u v : ℕ) (q : PrefixView) → linked g.net u v ≡ true → NumbersFit g (path_in (heard (side_of state u v) q))
    heard_small state k u v q link =
        let e : ℕ = (side_of state u v).link.epoch in
        let back = linked_both g set.network u v link in
        let p = passes_in_order laws g state k.reached (linked_apart g set.network) v u e back in
        let all : AllByRecursion (IsToldBy g v) ((side_of state v u).sent e) = subst (AllByRecursion (IsToldBy g v)) p.0.sent (updates_told laws g v e (log_of state v u) (k.said v u back)) in
        words_small laws g v ((side_of state u v).acted e) nothing q (told_front laws g v ((side_of state u v).acted e) p.1.0 (subst (AllByRecursion (IsToldBy g v)) (sym p.1.1) all)) tt

    word_small : (state : RunState) → Kept g state → (u : ℕ) (q : PrefixView) (v : ℕ) → NumbersFit g (path_from g u (state.routers u).router q v)
    word_small state k u q v = at (linked g.net u v) (is_up (side_of state u v)) refl
      where
        at : (l c : Bool) → linked g.net u v ≡ l → NumbersFit g (cond (l && c) (path_in (heard (side_of state u v) q)) [])
        at true true h = heard_small state k u v q h
        at true false h = tt
        at false c h = tt

    route_kept : (state : RunState) → Kept g state → (u : ℕ) → IsRouter g.net.routers u → (q : PrefixView) → IsNamed g.net.origins q → MayKeep g u (best_path g u (state.routers u).router q)
    route_kept state k u is q named =
        let x : Router = (state.routers u).router in
        best_kept laws g (record { net = g.net; prefix = q; originated = x.originated q }) (path_from g u x q) u (best_path g u x q) (small_asn laws g set u is) (word_small state k u q)
        (set.chooses u is q named (x.originated q) (path_from g u x q))

    first_kept : Kept g (runs.opening (λ u. new_logged g))
    first_kept = record {
      reached = record {
        links = λ u v link. (let apart = linked_apart g set.network u v link in record {
          steps = [];
          run = tt;
          here = side u v apart;
          there = side v u (λ e. apart (sym e));
        });
        puts = λ u v. refl;
        begins = λ u v. ([], refl);
        widths = λ u v. refl;
      };
      said = λ u v link. tt;
      paths = λ u q. inl refl;
      apart = λ u v none. refl;
    }
      where
        side : (u v : ℕ) → u ≢ v → SideKept g (side_of (runs.opening (λ i. new_logged g)) u v) [] [] (first_sides u v) (first_sides v u).end
        side u v apart = record {
          state = refl;
          stands = record {
            reads = record { phase = refl; epoch = refl; heard = refl; is_shut = refl; acted = λ e. refl; sent = λ e. refl };
            fits = record { phase = refl; has_said = tt; has_used = tt };
            mine = first_facts laws u v apart;
            theirs = first_facts laws v u (λ e. apart (sym e));
          };
          log = refl;
          holds = record { rest = []; only = tt; passed = refl; joined = λ j. absurd (cc j); apart = λ n. refl };
        }

    module _ (old : RunState) (k : Kept g old) (d : NetworkEvent Own What MadeOffer) (own : Logged) (step : LoggedStep g d.router (old.routers d.router) d.event own) where
      pub reads_front : (w : ℕ) → d.event ≡ alone (Handles w) → (m : Message) × (front (rule_of g.net d.router w) ((old.routers d.router).router.sides w).held ≡ Ok m)
      reads_front w is =
          let u : ℕ = d.router in
          let may : May g u (old.routers u).router (alone (Handles w)) = subst (May g u (old.routers u).router) is step.step.may in
          let link = k.reached.links u w may.0 in
          let before = before_of laws g u w (side_of old u w) (side_of old w u) (log_of old u w) (log_of old w u) (old.taken w u) (old.taken u w) (linked_apart g set.network u w may.0) link (all_good old k w u (linked_both g set.network u w may.0)) in
          front_reads laws g u w (side_of old u w) (all_passes (old.taken w u)) (model.sides_after first_sides link.steps u w).end (model.sides_after first_sides link.steps w u).end before
          (subst (λ l. IsPrefix (all_passes (old.taken w u)) (passing (written_in g) l)) link.there.log (taken_said laws g old w u (k.reached.puts w u) (k.reached.begins w u))) may.1

      pub kept_next : ((u v : ℕ) → IsPrefix ((runs.after (logged_steps g) old d own).taken u v) ((runs.after (logged_steps g) old d own).put u v)) → Kept g (runs.after (logged_steps g) old d own)
      kept_next begins = record {
        reached = reached_next laws g set.network (linked_apart g set.network) (linked_both g set.network) old d own step k.reached (all_good old k) begins;
        said = λ u v link. said_at u v (d.router == u) refl link;
        paths = λ u q. path_at u q (d.router == u) refl;
        apart = λ u v none. apart_at u v (d.router == u) refl none;
      }
        where
          said_at : (u v : ℕ) (c : Bool) → (d.router == u) ≡ c → linked g.net u v ≡ true → AllGood (IsSaid g u) ((if c then own else old.routers u).log v)
          said_at u v true h link =
              let to_u : d.router ≡ u = number_is laws d.router u h in
              let new = step_said laws g d.router (old.routers d.router).router d.event reads_front (k.paths d.router) v in
              subst (λ l. AllGood (IsSaid g u) l) (sym (ap (λ (f : ℕ → List (Entry Message)). f v) step.log))
              (subst (λ i. AllGood (IsSaid g i) (log_of old d.router v ++ says g d.router (old.routers d.router).router d.event v)) to_u
              (good_append laws (IsSaid g d.router) (log_of old d.router v) (says g d.router (old.routers d.router).router d.event v) (k.said d.router v (subst (λ i. linked g.net i v ≡ true) (sym to_u) link)) new))
          said_at u v false h link = k.said u v link

          path_at : (u : ℕ) (q : PrefixView) (c : Bool) → (d.router == u) ≡ c → MayKeep g u ((if c then own else old.routers u).router.kept q)
          path_at u q true h =
              let to_u : d.router ≡ u = number_is laws d.router u h in
              subst (λ i. MayKeep g i (own.router.kept q)) to_u
              (subst (λ (y : Router). MayKeep g d.router (y.kept q)) (sym step.step.leaves) (step_keeps laws g d.router (old.routers d.router).router d.event (route_kept old k d.router step.known) (k.paths d.router) q))
          path_at u q false h = k.paths u q

          apart_at : (u v : ℕ) (c : Bool) → (d.router == u) ≡ c → linked g.net u v ≡ false → is_up ((if c then own else old.routers u).router.sides v) ≡ false
          apart_at u v true h none =
              let to_u : d.router ≡ u = number_is laws d.router u h in
              let none_here : linked g.net d.router v ≡ false = ap (λ i. linked g.net i v) to_u ∙ none in
              ap (λ (y : Router). is_up (y.sides v)) step.step.leaves ∙ (ap is_up (stays_apart g d.router v (old.routers d.router).router none_here d.event step.step.may) ∙ k.apart d.router v none_here)
          apart_at u v false h none = k.apart u v none

    pub kept_run : (order : RunOrder) (old new : RunState) → Kept g old → runs.Run (logged_steps g) old order new → Kept g new
    kept_run [] old new k r = subst (Kept g) r k
    kept_run (d ∷ ds) old new k r =
        let next : RunState = r.0 in
        let s = r.1 in
        let own : Logged = s.0 in
        let k' : Kept g (runs.after (logged_steps g) old d own) = kept_next old k d own s.1 (subst (λ (i : RunState). (u v : ℕ) → IsPrefix (i.taken u v) (i.put u v)) s.2 s.3) in
        kept_run ds next new (subst (Kept g) (sym s.2) k') r.2

    pub kept_to : (order : RunOrder) (state : RunState) → IsRunTo g order state → Kept g state
    kept_to order state r = kept_run order (runs.opening (λ u. new_logged g)) state first_kept r

  pub updates_pass_in_order : UpdatesPassInOrder
  updates_pass_in_order g set order state r u v e link = passes_in_order laws g state (kept_to g set order state r).reached (linked_apart g set.network) u v e link
