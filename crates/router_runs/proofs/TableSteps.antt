-- What a router decides, tells, originates and withdraws, as events of the laws of runs.
use Rattle.std.proofs.Common.{◌≡◌, ℕ, ◌==◌, Bool, true, false, ◌&&◌, ◌||◌, not, cond, List, [], ◌∷◌, ◌++◌, filter, map, refl, ap, sym, ◌∙◌, arith, subst, Option, None, Some, inl, inr}
use Rattle.std.specs.Prelude.{is_some}
use Rattle.std.specs.List.{find}
use Rattle.std.proofs.lemmas.List.{append-nil}
use Rattle.prefix_lanes.specs.Bits.{PrefixView, is_prefix}
use Rattle.bgp_codec.specs.declared.message.Message.{Message}
use Rattle.bgp_codec.specs.declared.message.Message.TheVariants.{UpdateMsg}
use Rattle.bgp_codec.specs.declared.update.Update.{Update}
use Rattle.ranked_policy.specs.Plans.{IsNetwork}
use Rattle.ranked_policy.specs.declared.network.Origin.{Origin}
use Rattle.rib_tables.specs.Words.{path_in}
use Rattle.run_model.specs.Sessions as model
use Rattle.run_model.specs.Links.{Entry, End, Says, Tells, after}
use Rattle.run_model.specs.Octets.{Passing}
use Rattle.run_model.specs.Network.{alone}
use Rattle.run_model.specs.Routes as routes
use Rattle.run_model.specs.Routes.{Command, Decide, Advertise, IsNotPending, router_after}
use Rattle.snap_marker.specs.Recordings.{Recording}
use Rattle.router_model.specs.declared.command.Command.TheVariants as command
use Rattle.router_model.specs.Messages.{is_update}
use Rattle.router_model.specs.Settings.{Setting, linked, names, prefixes, identifier}
use Rattle.router_model.specs.Sides.{Side, told, is_up}
use Rattle.router_model.specs.State.{Router, same_path, best_path, undecided, unadvertised, is_undecided, is_unadvertised, last_told, telling}
use Rattle.router_model.specs.Step as steps
use Rattle.router_model.specs.Step.{RouterEvent, Obeys, Decides, Advertises, May, says, originating, keeping, telling_to, telling_of}
use Rattle.router_runs.specs.Model.{network_of}
use Rattle.router_runs.specs.Reading.{state_of}
use Rattle.router_runs.specs.Doing.{Stands}
use Rattle.router_runs.specs.Kept.{Holds}
use Rattle.router_runs.specs.Mirrors.{ModelRouter, ModelEvent, is_command, AreAlike, Goes, ReadsPart, ReadsRecording, ReadsSnapshots, ReadsRouter}
use Rattle.router_runs.proofs.Stepping.{Before, same_number}
use Rattle.router_runs.proofs.Doing.{event_stands, up_in}
use Rattle.router_runs.proofs.Events.{untold_up}
use Rattle.router_runs.proofs.Hanging.{up_is}
use Rattle.router_runs.proofs.Words.{told_alike, routes_alike, if_same, own_view}
use Rattle.router_runs.proofs.Markers.{found}
use Rattle.router_runs.proofs.Turning.{IsTurned}
use Rattle.router_runs.proofs.Locally.{LocalStep, snapshots_like, nothing_recorded}
use Rattle.router_runs.proofs.Going.{one_goes}
use Rattle.router_runs.proofs.Signing.{established}
use Rattle.router_runs.proofs.Lower.{Laws}

-- what is found among the prefixes is named
named_at : (f : PrefixView → Bool) (o : Origin) (os : List Origin) (q : PrefixView) (b : Bool) → f o.prefix ≡ b → cond b (Some o.prefix) (find f (map (λ i. i.prefix) os)) ≡ Some q
    → (find f (map (λ i. i.prefix) os) ≡ Some q → names os q ≡ true) → (is_prefix o.prefix q || names os q) ≡ true
named_at f o os q true e h on = (let same : o.prefix ≡ q = cc in subst (λ p. (is_prefix o.prefix p || names os p) ≡ true) same (rw (own_view o.prefix) refl))
named_at f o os q false e h on = either (is_prefix o.prefix q) (names os q) (on h)
  where
    either : (b c : Bool) → c ≡ true → (b || c) ≡ true
    either true c k = refl
    either false c k = k

found_named : (f : PrefixView → Bool) (os : List Origin) (q : PrefixView) → find f (map (λ o. o.prefix) os) ≡ Some q → names os q ≡ true
found_named f [] q h = absurd cc
found_named f (o ∷ os) q h = named_at f o os q (f o.prefix) refl h (found_named f os q)

-- a prefix that was found undecided, or untold, has another path
differs : (a b : List ℕ) → not (same_path a b) ≡ true → a ≡ b → ⊥
differs a b is same = (let k = if_same a b (same_path a b) refl same in absurd (cc (is, k)))

some_of : {A : Type 0} (o : Option A) → is_some o ≡ true → (x : A) × (o ≡ Some x)
some_of None h = absurd (cc h)
some_of (Some x) h = (x, refl)

-- what is untold to a peer: it is linked and up
untold_near : (l c : Bool) (f : Option PrefixView) (q : PrefixView) → cond (l && c) f None ≡ Some q → (l ≡ true) × (f ≡ Some q)
untold_near true true f q h = (refl, h)
untold_near true false f q h = absurd (cc h)
untold_near false c f q h = absurd (cc h)

module _ (laws : Laws) (g : Setting) (net : IsNetwork g.net) (u : ℕ) (far : ℕ → End Message) (Still : Type 0) (x : Router) (before : ℕ → List (Passing Message)) (n : ModelRouter)
    (known : (v : ℕ) → linked g.net u v ≡ true → Before laws g v (x.sides v) (before v) (n.recorder.ends v) (far v)) (reads : ReadsRouter g u x n) where
  abbrev StepTo : ℕ → Router → (ℕ → List (Entry Message)) → Type 0
  StepTo commands y new = LocalStep laws g net u far Still commands x y new before (λ v. []) n

  alike : AreAlike g u x n.recorder.ends
  alike = record {
    reads = λ v near. (known v near).stands.reads;
    up = λ v near. up_is laws (state_of (x.sides v).session.state) (n.recorder.ends v) (known v near).stands.fits ∙ up_in laws (x.sides v).session.state;
  }

  -- a step that leaves the sides and the recordings as they are
  tables_step : (y : Router) (e : ModelEvent) → y.sides ≡ x.sides → y.snapshots ≡ x.snapshots → (router_after (network_of g) u n e).recorder ≡ n.recorder → (router_after (network_of g) u n e).kept_at ≡ n.kept_at
      → (router_after (network_of g) u n e).originated_at ≡ n.originated_at → (router_after (network_of g) u n e).kept ≡ y.kept → (router_after (network_of g) u n e).originated ≡ y.originated
      → Goes g u far Still (is_command e) n (router_after (network_of g) u n e) [] → StepTo (is_command e) y (λ v. [])
  tables_step y e sides snapshots recorder kept_at originated_at kept originated goes =
      let m : ModelRouter = router_after (network_of g) u n e in
      record {
        m = m;
        offers = [];
        goes = goes;
        turned = λ v near. subst (λ c. IsTurned laws g u far Still v (y.sides v) [] (before v ++ []) (n.recorder.ends v) (c.ends v)) (sym recorder)
            (subst (λ t. IsTurned laws g u far Still v (t v) [] (before v ++ []) (n.recorder.ends v) (n.recorder.ends v)) (sym sides) (record {
              stands = (known v near).stands;
              appended = sym (append-nil (n.recorder.ends v).appended);
              holds = subst (λ l. Holds g (x.sides v) l (n.recorder.ends v)) (sym (append-nil (before v))) (known v near).holds;
            }));
        reads = record { kept = kept; originated = originated; snapshots = subst (λ z. ReadsSnapshots g u z m) (sym snapshots) (snapshots_like g u x.snapshots n m recorder kept_at originated_at reads.snapshots) };
        queue = ap (λ z. z.queue) snapshots ∙ sym (append-nil x.snapshots.queue);
        recorded = nothing_recorded n m x.snapshots.last y.snapshots.last (ap (λ r. r.copy) recorder) kept_at originated_at (sym (ap (λ z. z.last) snapshots));
        unmarked = λ k v low is near up. absurd (let same = ap (λ z. z.last) snapshots in omega (arith, low, is, same));
      }

  -- ---- originating and withdrawing

  commanded : (y : Router) → y.sides ≡ x.sides → y.snapshots ≡ x.snapshots → y.kept ≡ x.kept → (Still → ⊥) → StepTo 1 y (λ v. [])
  commanded y sides snapshots kept loud =
      let e : ModelEvent = Command y.originated y.kept in
      tables_step y e sides snapshots refl refl refl refl refl
      (one_goes g u far Still n e [] (inl (kept ∙ sym reads.kept)) refl (λ s c h is. elim h [ inl still ↦ absurd (loud still) | inr free ↦ absurd (let z = sym free ∙ is in cc z) ]))

  pub originate_step : (q : PrefixView) → (Still → ⊥) → StepTo 1 (steps.after g u x (alone (Obeys (command.Originate q)))) (says g u x (alone (Obeys (command.Originate q))))
  originate_step q loud = commanded (originating x q true) refl refl refl loud

  pub withdraw_step : (q : PrefixView) → (Still → ⊥) → StepTo 1 (steps.after g u x (alone (Obeys (command.Withdraw q)))) (says g u x (alone (Obeys (command.Withdraw q))))
  withdraw_step q loud = commanded (originating x q false) refl refl refl loud

  -- ---- deciding

  route_is : (q : PrefixView) → routes.route (network_of g) u n.recorder.ends q (n.originated q) ≡ best_path g u x q
  route_is q = ap (λ (o : PrefixView → Bool). routes.route (network_of g) u n.recorder.ends q (o q)) reads.originated ∙ routes_alike g u x n.recorder.ends alike q

  decides_at : (o : Option PrefixView) → undecided g u x ≡ o → is_some o ≡ true → StepTo 0 (keeping x o (best_path g u x)) (λ v. [])
  decides_at None e h = absurd (cc h)
  decides_at (Some q) e h =
      let event : ModelEvent = Decide q in
      let named = found_named (is_undecided g u x) g.net.origins q e in
      let other = found (is_undecided g u x) (prefixes g) q e in
      tables_step (keeping x (Some q) (best_path g u x)) event refl refl refl refl refl
      (ap (λ r. λ p. cond (is_prefix q p) r (n.kept p)) (route_is q) ∙ ap (λ k. λ p. cond (is_prefix q p) (best_path g u x q) (k p)) reads.kept) reads.originated
      (one_goes g u far Still n event [] (named, λ same. differs (x.kept q) (best_path g u x q) other (sym (ap (λ k. k q) reads.kept) ∙ (same ∙ route_is q))) refl (λ s c still is. tt))

  pub decide_step : May g u x (alone Decides) → StepTo 0 (steps.after g u x (alone Decides)) (says g u x (alone Decides))
  decide_step may = decides_at (undecided g u x) refl may

  -- ---- telling

  -- an end told of an UPDATE
  told_stands : (s : Side) (i : Update) (a b : End Message) → Stands s a b → is_up s ≡ true → Stands (told s i) (after a (Tells (UpdateMsg i))) b
  told_stands s i a b stands up =
      event_stands laws s (told s i) a b (model.Speaks (UpdateMsg i)) (Tells (UpdateMsg i) ∷ []) stands (subst model.MaySay (sym (established laws s.session.state up)) tt) refl refl refl refl refl

  told_turned : (v : ℕ) (c : Bool) (i : Update) → (near : linked g.net u v ≡ true) → (c ≡ true → is_up (x.sides v) ≡ true)
      → IsTurned laws g u far Still v (cond c (told (x.sides v) i) (x.sides v)) (steps.says_where c (Says (x.sides v).link.epoch (UpdateMsg i) ∷ [])) (before v ++ []) (n.recorder.ends v)
      (cond c (after (n.recorder.ends v) (Tells (UpdateMsg i))) (n.recorder.ends v))
  told_turned v true i near up =
      let k = known v near in
      let a : End Message = n.recorder.ends v in
      let holds = k.holds in
      record {
        stands = told_stands (x.sides v) i a (far v) k.stands (up refl);
        appended = ap (λ e. a.appended ++ Says e (UpdateMsg i) ∷ []) (sym k.stands.reads.epoch);
        holds = subst (λ l. Holds g (told (x.sides v) i) l (after a (Tells (UpdateMsg i)))) (sym (append-nil (before v)))
            (record { rest = holds.rest; only = holds.only; passed = holds.passed; joined = holds.joined; apart = holds.apart });
      }
  told_turned v false i near up = record {
    stands = (known v near).stands;
    appended = sym (append-nil (n.recorder.ends v).appended);
    holds = subst (λ l. Holds g (x.sides v) l (n.recorder.ends v)) (sym (append-nil (before v))) (known v near).holds;
  }

  no_more : (b c : Bool) (ms : List Message) → cond b (cond c (ms ++ []) ms) ms ≡ ms
  no_more true true ms = append-nil ms
  no_more true false ms = refl
  no_more false c ms = refl

  -- what is recorded is as it was
  part_told : (w : ℕ) (m : Message) (q : PrefixView) (r : Recording) → ReadsPart g u r n → ReadsPart g u r (router_after (network_of g) u n (Advertise w q m))
  part_told w m q r p =
      let part = p.part in
      record {
        waits = p.waits;
        some = p.some;
        part = (
          part.0,
          part.1,
          part.2,
          part.3,
          part.4,
          part.5,
          (λ v near. part.6 v near ∙ ap (λ ms. filter is_update ms) (sym (no_more (v == w) (n.recorder.waits v) (n.recorder.channel v)))),
        );
      }

  recording_told : (w : ℕ) (m : Message) (q : PrefixView) (o : Option Recording) → ReadsRecording g u o n → ReadsRecording g u o (router_after (network_of g) u n (Advertise w q m))
  recording_told w m q None p = tt
  recording_told w m q (Some r) p = part_told w m q r p

  -- what the UPDATE says of the prefix
  mentions_path : (path : List ℕ) (q : PrefixView) → (network_of g).mentions (UpdateMsg (telling (identifier g.net.routers u) q path)) ≡ (q, path) ∷ []
  mentions_path [] q = refl
  mentions_path (v ∷ path) q = refl

  advertises_at : (w : ℕ) (o : Option PrefixView) → unadvertised g u x w ≡ o → is_some o ≡ true
      → StepTo 0 (telling_to x w o (telling_of g u x)) (λ v. steps.says_where (v == w) (steps.says_update g u x v o))
  advertises_at w None e h = absurd (cc h)
  advertises_at w (Some q) e h =
      let i : Update = telling_of g u x q in
      let event : ModelEvent = Advertise w q (UpdateMsg i) in
      let m : ModelRouter = router_after (network_of g) u n event in
      let near = untold_near (linked g.net u w) (is_up (x.sides w)) (find (is_unadvertised g u x w) (prefixes g)) q e in
      let up = untold_up laws (linked g.net u w) (is_up (x.sides w)) (find (is_unadvertised g u x w) (prefixes g)) q e in
      let named = found_named (is_unadvertised g u x w) g.net.origins q near.1 in
      let other = found (is_unadvertised g u x w) (prefixes g) q near.1 in
      let kept : n.kept q ≡ x.kept q = ap (λ k. k q) reads.kept in
      let told_is = told_alike g (x.sides w) n.recorder.ends w q (alike.reads w near.0) in
      record {
        m = m;
        offers = [];
        goes = one_goes g u far Still n event [] (
          (laws.links g.net net u w near.0).apart,
          near.0,
          alike.up w near.0 ∙ up,
          (λ same. differs (x.kept q) (path_in (last_told (x.sides w) q)) other (sym kept ∙ (sym same ∙ told_is))),
          named,
          refl,
          mentions_path (x.kept q) q ∙ ap (λ p. (q, p) ∷ []) (sym kept),
        ) refl (λ s c still is. tt);
        turned = λ v near_v. there v (v == w) refl near_v;
        reads = record {
          kept = reads.kept;
          originated = reads.originated;
          snapshots = record { last = reads.snapshots.last; unfinished = reads.snapshots.unfinished; recording = recording_told w (UpdateMsg i) q x.snapshots.unfinished reads.snapshots.recording };
        };
        queue = sym (append-nil x.snapshots.queue);
        recorded = nothing_recorded n m x.snapshots.last x.snapshots.last refl refl refl refl;
        unmarked = λ k v low is near_v up_v. absurd (omega (arith, low, is));
      }
    where
      there : (v : ℕ) (c : Bool) → (v == w) ≡ c → linked g.net u v ≡ true
          → IsTurned laws g u far Still v (cond c (told (x.sides v) (telling_of g u x q)) (x.sides v)) (steps.says_where c (Says (x.sides v).link.epoch (UpdateMsg (telling_of g u x q)) ∷ [])) (before v ++ []) (n.recorder.ends v)
          (cond c (after (n.recorder.ends w) (Tells (UpdateMsg (telling_of g u x q)))) (n.recorder.ends v))
      there v true is near_v =
          let same = same_number laws v w is in
          subst (λ y. IsTurned laws g u far Still v (told (x.sides v) (telling_of g u x q)) (Says (x.sides v).link.epoch (UpdateMsg (telling_of g u x q)) ∷ []) (before v ++ []) (n.recorder.ends v)
          (after (n.recorder.ends y) (Tells (UpdateMsg (telling_of g u x q))))) same
          (told_turned v true (telling_of g u x q) near_v (λ t. ap (λ y. is_up (x.sides y)) same ∙ untold_up laws (linked g.net u w) (is_up (x.sides w)) (find (is_unadvertised g u x w) (prefixes g)) q e))
      there v false is near_v = told_turned v false (telling_of g u x q) near_v (λ t. absurd (cc t))

  pub advertise_step : (w : ℕ) → May g u x (alone (Advertises w)) → StepTo 0 (steps.after g u x (alone (Advertises w))) (says g u x (alone (Advertises w)))
  advertise_step w may = advertises_at w (unadvertised g u x w) refl may
