-- The next event of a run of routers, in the run of the laws beside it.
use Rattle.std.proofs.Common.{◌≡◌, ◌≢◌, ℕ, ◌<◌, ◌≤◌, ◌==◌, Bool, true, false, cond, List, [], ◌∷◌, ◌++◌, append_assoc, length, drop, slice_get, refl, ap, sym, ◌∙◌, arith, subst, None, Some, ◌⊎◌}
use Rattle.std.specs.Prelude.{if◌then◌else◌}
use mathlib.Core.List.{IsPrefix}
use Rattle.std.proofs.lemmas.List.{append-nil}
use Rattle.std.proofs.lemmas.Bool.{eqb-true, eq-eqb, false≢true}
use Rattle.bgp_codec.specs.declared.message.Message.{Message}
use Rattle.link_epoch.specs.declared.link_end.Phase.TheVariants as phase
use Rattle.run_model.specs.Links as links
use Rattle.run_model.specs.Links.{Entry, End}
use Rattle.run_model.specs.Octets as octets
use Rattle.run_model.specs.Octets.{Passing, passing, AllGood}
use Rattle.run_model.specs.Network as runs
use Rattle.run_model.specs.Network.{NetworkEvent, alone, puts, takes, offers, taken_from, put_towards, offered_by}
use Rattle.run_model.specs.Quiet as model
use Rattle.run_model.specs.Offers.{Makes, IsIn, IsOfferRun, offerings_after, final, network_steps, made_by, made_of}
use Rattle.outbox.specs.declared.item.What.{What}
use Rattle.snap_marker.specs.Recordings.{MadeOffer}
use Rattle.router_model.specs.Settings.{Setting, IsSetting, linked}
use Rattle.router_model.specs.Sides.{Side}
use Rattle.router_model.specs.State.{Router}
use Rattle.router_model.specs.Laws.{all_passes}
use Rattle.router_model.specs.Step.{Own, RouterEvent, after, says}
use Rattle.router_runs.specs.Runs.{Logged, LoggedStep, RunOrder, RunState, IsRunTo, logged_steps, side_of, log_of, written_in}
use Rattle.router_runs.specs.Model.{network_of}
use Rattle.router_runs.specs.Doing.{Stands}
use Rattle.router_runs.specs.Kept.{Holds, IsGood}
use Rattle.router_runs.specs.Said.{Kept}
use Rattle.router_runs.specs.Snapshots.{IsQuiet}
use Rattle.router_runs.specs.SnapshotLaws.{SnapshotLaws}
use Rattle.router_runs.specs.Mirrors.{ModelRouter, ModelOffering, ModelSteps, is_table_command, commands_at, CommandsForget, ReadsRouter, Recorded, Mirrored}
use Rattle.router_runs.proofs.Stepping.{Before}
use Rattle.router_runs.proofs.Entries.{prefix_trans}
use Rattle.router_runs.proofs.Running.{all_more, all_front, number_is, own_number}
use Rattle.router_runs.proofs.Keeping.{kept_to, all_good, reads_front, linked_both, linked_apart}
use Rattle.router_runs.proofs.Turning.{IsTurned}
use Rattle.router_runs.proofs.Locally.{nothing_recorded}
use Rattle.router_runs.proofs.LocalSteps.{IsNoOffer, local_step}
use Rattle.router_runs.proofs.Lifting.{lift}
use Rattle.router_runs.proofs.Lower.{Laws}

-- what is held is the same of the same
abbrev pub holds_as : (g : Setting) (s t : Side) (k l : List (Passing Message)) (a b : End Message) → s ≡ t → k ≡ l → a ≡ b → Holds g s k a → Holds g t l b
holds_as g s t k l a b side items end h = record {
  rest = h.rest;
  only = h.only;
  passed = sym items ∙ (h.passed ∙ ap (λ c. passing (written_in g) c.taken ++ h.rest) end);
  joined = subst (λ r. r.link.phase ≡ phase.Joined → h.rest ≡ octets.octets_of r.link.epoch r.held) side h.joined;
  apart = subst (λ r. r.link.phase ≢ phase.Joined → r.held ≡ []) side h.apart;
}

pub stands_as : (s t : Side) (a b c d : End Message) → s ≡ t → a ≡ b → c ≡ d → Stands s a c → Stands t b d
stands_as s t a b c d side end other st = subst (λ r. Stands r b d) side (subst (λ i. Stands s i d) end (subst (Stands s a) other st))

-- the next of a list of which this many are gone
slice_behind : {A : Type 0} (xs ys : List A) → slice_get (xs ++ ys) (length xs) ≡ slice_get ys 0
slice_behind [] ys = refl
slice_behind (x ∷ xs) ys = slice_behind xs ys

taken_first : {A : Type 0} (xs ys : List A) (y : A) → slice_get ys 0 ≡ Some y → xs ++ ys ≡ (xs ++ y ∷ []) ++ drop 1 ys
taken_first xs [] y h = absurd (cc h)
taken_first xs (z ∷ ys) y h = (let same : z ≡ y = cc in ap (λ k. xs ++ k ∷ ys) same ∙ sym (append_assoc xs (y ∷ []) ys))

made_one : (a : ℕ) (ms : List MadeOffer) (m : MadeOffer) → made_by a (ms ++ m ∷ []) ≡ made_by a ms ++ cond (a == m.router) (m.offer ∷ []) []
made_one a [] m = at (a == m.router)
  where
    at : (b : Bool) → cond b (m.offer ∷ []) [] ≡ cond b (m.offer ∷ []) []
    at b = refl
made_one a (k ∷ ms) m = at (a == k.router) (made_one a ms m)
  where
    at : (b : Bool) → made_by a (ms ++ m ∷ []) ≡ made_by a ms ++ cond (a == m.router) (m.offer ∷ []) [] → cond b (k.offer ∷ made_by a (ms ++ m ∷ [])) (made_by a (ms ++ m ∷ [])) ≡ cond b (k.offer ∷ made_by a ms) (made_by a ms) ++ cond (a == m.router) (m.offer ∷ []) []
    at true h = ap (λ l. k.offer ∷ l) h
    at false h = h

none_offered : (e : RouterEvent) → IsNoOffer e → offered_by e ≡ []
none_offered e h = grind arith

pub apart_of : (u a : ℕ) → (u == a) ≡ false → u ≡ a → ⊥
apart_of u a h same = absurd (false≢true (sym h ∙ eq-eqb u a same))

module _ (laws : Laws) (more : SnapshotLaws) where
  module _ (g : Setting) (set : IsSetting g) (order : RunOrder) (old : RunState) (m : Mirrored g order old) (r : IsRunTo g order old) (u : ℕ) where
    abbrev pub x : Router
    x = (old.routers u).router

    abbrev pub w : ModelOffering
    w = final (network_of g) m.steps

    abbrev pub n : ModelRouter
    n = w.routers u

    abbrev pub far : ℕ → End Message
    far v = (w.routers v).recorder.ends u

    abbrev pub before : ℕ → List (Passing Message)
    before v = all_passes (old.taken v u)

    abbrev pub event : RouterEvent → NetworkEvent Own What MadeOffer
    event e = record { router = u; event = e }

    abbrev pub new : RouterEvent → Logged → RunState
    new e own = runs.after (logged_steps g) old (event e) own

    abbrev pub Begins : RouterEvent → Logged → Type 0
    Begins e own = (a b : ℕ) → IsPrefix ((new e own).taken a b) ((new e own).put a b)

    pub kept : Kept g old
    kept = kept_to laws g set order old r

    known : (v : ℕ) → linked g.net u v ≡ true → Before laws g v (x.sides v) (before v) (n.recorder.ends v) (far v)
    known v near =
        let back = linked_both laws g set.network u v near in
        record {
          stands = m.mirrors.sides u v near;
          own = own_number laws g u v (side_of old u v) (side_of old v u) (log_of old u v) (log_of old v u) (old.taken v u) (old.taken u v) (linked_apart laws g set.network u v near) (kept.reached.links u v near);
          holds = m.mirrors.holds u v near;
          good = subst (AllGood (IsGood g v)) (m.mirrors.log v u back) (all_good laws g set old kept v u back);
        }

    -- what is taken was said before
    comes_at : (v : ℕ) (e : RouterEvent) (own : Logged) (c d : Bool) → (u == v) ≡ c → c ≡ false → (u == u) ≡ d → d ≡ true → IsPrefix (old.taken v u ++ (if d then taken_from v e else [])) (old.put v u ++ (if c then put_towards u e else []))
        → IsPrefix (before v ++ all_passes (taken_from v e)) (passing (written_in g) (log_of old v u))
    comes_at v e own true d h miss k hit is = absurd (cc miss)
    comes_at v e own false false h miss k hit is = absurd (cc hit)
    comes_at v e own false true h miss k hit is =
        subst (λ l. IsPrefix l (passing (written_in g) (log_of old v u))) (all_more laws (old.taken v u) (taken_from v e))
        (prefix_trans (all_passes (old.taken v u ++ taken_from v e)) (all_passes (old.put v u)) (passing (written_in g) (log_of old v u))
        (all_front laws (old.taken v u ++ taken_from v e) (old.put v u) (subst (IsPrefix (old.taken v u ++ taken_from v e)) (append-nil (old.put v u)) is))
        ((side_of old v u).outbox, kept.reached.puts v u))

    off : (v : ℕ) → linked g.net u v ≡ true → (u == v) ≡ false
    off v near = at (u == v) refl
      where
        at : (b : Bool) → (u == v) ≡ b → b ≡ false
        at true h = absurd (linked_apart laws g set.network u v near (number_is laws u v h))
        at false h = refl

    comes : (e : RouterEvent) (own : Logged) → Begins e own → (v : ℕ) → linked g.net u v ≡ true → IsPrefix (before v ++ all_passes (taken_from v e)) (passing (written_in g) (far v).appended)
    comes e own begins v near =
        subst (λ l. IsPrefix (before v ++ all_passes (taken_from v e)) (passing (written_in g) l)) (m.mirrors.log v u (linked_both laws g set.network u v near))
        (comes_at v e own (u == v) (u == u) refl (off v near) refl (eq-eqb u u refl) (begins v u))

    -- markers are obeyed as they are taken
    obeyed : (v : ℕ) → linked g.net u v ≡ true → (n.recorder.ends v).phase ≡ links.Joined → (k : ℕ) → IsIn (links.Mark (links.incarnation (n.recorder.ends v)) k) (n.recorder.ends v).taken → k ≤ n.recorder.last
    obeyed v near =
        let aside = more.aside (network_of g) m.steps m.run in
        subst (λ z. ((z u).recorder.ends v).phase ≡ links.Joined → (k : ℕ) → IsIn (links.Mark (links.incarnation ((z u).recorder.ends v)) k) ((z u).recorder.ends v).taken → k ≤ (z u).recorder.last) aside.1
        (more.obeyed (network_of g) (network_steps (network_of g) m.steps) aside.0 u v (linked_apart laws g set.network u v near))

    -- the step of the router in the laws, with what it leaves there
    pub record Next (e : RouterEvent) (own : Logged) : Type 0 where
      pub steps : ModelSteps
      pub run : IsOfferRun (network_of g) w steps
      pub router : ModelRouter
      pub here : (offerings_after (network_of g) w steps).routers u ≡ router
      pub others : (a : ℕ) → (u ≡ a → ⊥) → (offerings_after (network_of g) w steps).routers a ≡ w.routers a
      pub queued : (offerings_after (network_of g) w steps).queued u ≡ made_by u (offerings_after (network_of g) w steps).made ++ (after g u x e).snapshots.queue
      pub other_queues : (a : ℕ) → (u ≡ a → ⊥) → (offerings_after (network_of g) w steps).queued a ≡ made_by a (offerings_after (network_of g) w steps).made ++ (old.routers a).router.snapshots.queue
      pub made : (offerings_after (network_of g) w steps).made ≡ (new e own).offered
      pub calm : (s : ℕ) → IsQuiet g u x (after g u x e) e ⊎ (n.recorder.copy s ≡ None) → model.IsQuietSince (network_of g) s w.routers (network_steps (network_of g) steps)
      pub counts : (a : ℕ) → commands_at a (network_steps (network_of g) steps) ≡ cond (a == u) (is_table_command e) 0
      pub forgets : CommandsForget g w.routers (network_steps (network_of g) steps)
      pub turned : (v : ℕ) → linked g.net u v ≡ true
          → IsTurned laws g u far (IsQuiet g u x (after g u x e) e) v ((after g u x e).sides v) (says g u x e v) (before v ++ all_passes (taken_from v e)) (n.recorder.ends v) (router.recorder.ends v)
      pub reads : ReadsRouter g u (after g u x e) router
      pub recorded : Recorded n router x.snapshots.last (after g u x e).snapshots.last
      pub unmarked : (k v : ℕ) → x.snapshots.last < k → (after g u x e).snapshots.last ≡ k → (near : linked g.net u v ≡ true) → links.is_up (router.recorder.ends v) ≡ true
          → ((turned v near).holds.rest ≡ []) ⊎ (IsIn (links.Mark (links.incarnation (router.recorder.ends v)) k) (router.recorder.ends v).taken → ⊥)

    usual : (e : RouterEvent) → IsNoOffer e → (own : Logged) → LoggedStep g u (old.routers u) e own → Begins e own → Next e own
    usual e is own step begins =
        let y : Router = after g u x e in
        let l = local_step laws g set.network u far x before n known (m.mirrors.routers u) obeyed e is step.step.may step.step.numbers (reads_front laws g set old kept (event e) own step) (comes e own begins) in
        let up = lift g u w (IsQuiet g u x y e) (is_table_command e) l.m l.offers l.goes in
        let z : ModelOffering = offerings_after (network_of g) w up.steps in
        record {
          steps = up.steps;
          run = up.run;
          router = l.m;
          here = up.leads.here;
          others = up.leads.others;
          queued =
              up.leads.queued
              ∙ ap (λ q. q ++ l.offers) (m.mirrors.queued u)
              ∙ append_assoc (made_by u w.made) x.snapshots.queue l.offers
              ∙ ap (λ q. made_by u w.made ++ q) (sym l.queue)
              ∙ ap (λ ms. made_by u ms ++ y.snapshots.queue) (sym up.leads.made);
          other_queues = λ a apart. up.leads.other_queues a apart ∙ m.mirrors.queued a ∙ ap (λ ms. made_by a ms ++ (old.routers a).router.snapshots.queue) (sym up.leads.made);
          made = up.leads.made ∙ m.mirrors.made ∙ sym (append-nil old.offered) ∙ ap (λ k. old.offered ++ k) (sym (none_offered e is));
          calm = up.calm;
          counts = up.counts;
          forgets = up.forgets;
          turned = l.turned;
          reads = l.reads;
          recorded = l.recorded;
          unmarked = l.unmarked;
        }

    -- ---- an offer that is made

    makes : (made : MadeOffer) (own : Logged) → LoggedStep g u (old.routers u) (offers made) own → Begins (offers made) own → Next (offers made) own
    makes made own step begins =
        let is : made.router ≡ u = step.step.may.0 in
        let queue : w.queued u ≡ made_by u w.made ++ x.snapshots.queue = m.mirrors.queued u in
        let mine : made_by u (w.made ++ made ∷ []) ≡ made_by u w.made ++ made.offer ∷ [] =
        made_one u w.made made ∙ ap (λ c. made_by u w.made ++ cond c (made.offer ∷ []) []) (eq-eqb u made.router (sym is)) in
        let same : made_of u made.offer ≡ made = λ i. record { router = sym is i; offer = made.offer } in
        record {
          steps = record { router = u; event = Makes made.offer } ∷ [];
          run = (ap (λ q. slice_get q (length (made_by u w.made))) queue ∙ slice_behind (made_by u w.made) x.snapshots.queue ∙ step.step.may.1, tt);
          router = n;
          here = refl;
          others = λ a apart. refl;
          queued =
              queue ∙ taken_first (made_by u w.made) x.snapshots.queue made.offer step.step.may.1
              ∙ ap (λ k. k ++ drop 1 x.snapshots.queue) (sym mine)
              ∙ ap (λ k. made_by u (w.made ++ k ∷ []) ++ drop 1 x.snapshots.queue) (sym same);
          other_queues = λ a apart.
              m.mirrors.queued a
              ∙ ap (λ k. k ++ (old.routers a).router.snapshots.queue) (sym (append-nil (made_by a w.made)) ∙ ap (λ c. made_by a w.made ++ cond c (made.offer ∷ []) []) (sym (miss a apart)) ∙ sym (made_one a w.made (made_of u made.offer)));
          made = ap (λ k. w.made ++ k ∷ []) same ∙ ap (λ k. k ++ made ∷ []) m.mirrors.made;
          calm = λ s still. tt;
          counts = λ a. sym (none_counted (a == u));
          forgets = tt;
          turned = λ v near. record {
            stands = (known v near).stands;
            appended = sym (append-nil (n.recorder.ends v).appended);
            holds = holds_as g (x.sides v) (x.sides v) (before v) (before v ++ []) (n.recorder.ends v) (n.recorder.ends v) refl (sym (append-nil (before v))) refl (known v near).holds;
          };
          reads = record {
            kept = (m.mirrors.routers u).kept;
            originated = (m.mirrors.routers u).originated;
            snapshots = record { last = (m.mirrors.routers u).snapshots.last; unfinished = (m.mirrors.routers u).snapshots.unfinished; recording = (m.mirrors.routers u).snapshots.recording };
          };
          recorded = nothing_recorded n n x.snapshots.last x.snapshots.last refl refl refl refl;
          unmarked = λ k v low at near up. absurd (omega (arith, low, at));
        }
      where
        none_counted : (b : Bool) → cond b (is_table_command (offers made)) 0 ≡ 0
        none_counted true = refl
        none_counted false = refl

        miss : (a : ℕ) → (u ≡ a → ⊥) → (a == u) ≡ false
        miss a apart = at (a == u) refl
          where
            at : (b : Bool) → (a == u) ≡ b → b ≡ false
            at true h = absurd (apart (sym (eqb-true a u h)))
            at false h = refl

    pub next_of : (e : RouterEvent) (own : Logged) → LoggedStep g u (old.routers u) e own → Begins e own → Next e own
    next_of (alone o) own step begins = usual (alone o) tt own step begins
    next_of (puts v i) own step begins = usual (puts v i) tt own step begins
    next_of (takes v i) own step begins = usual (takes v i) tt own step begins
    next_of (offers made) own step begins = makes made own step begins
