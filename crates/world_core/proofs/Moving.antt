-- A put, a take and an offer, as steps of the world.
use Rattle.std.proofs.Common.{◌≡◌, ℕ, ◌+◌, ◌==◌, Bool, true, false, ◌&&◌, cond, List, [], ◌∷◌, ◌++◌, map, refl, ap, sym, ◌∙◌, subst, get_or, set, Option, None, Some, arith}
use Rattle.std.specs.Prelude.{Result, Ok, Err, drop, slice_get, nat_lt, max}
use Rattle.std.specs.List.{AllByRecursion}
use Rattle.std.proofs.Math.Path.{fun_ext}
use Rattle.std.proofs.lemmas.Bool.{eqb-true, eq-eqb}
use Rattle.run_model.specs.Network.{puts, takes, offers}
use Rattle.outbox.specs.declared.item.Item.{Item}
use Rattle.outbox.specs.declared.item.What.{What}
use Rattle.snap_marker.specs.Recordings.{RouterOffer}
use Rattle.ranked_policy.specs.Plans.{Plan, IsNetwork}
use Rattle.router_model.specs.declared.refusal.RouterError.TheVariants as error
use Rattle.router_model.specs.declared.refusal.Stepped.{Stepped}
use Rattle.router_model.specs.Settings.{Setting, ChoosesByRank, peers}
use Rattle.router_model.specs.Laws.{AnswersAreSteps}
use Rattle.router_model.specs.Step.{after, next_offer}
use Rattle.router_model.specs.Calls.{Stamped, Put, Take, answer, stamp_of, stamped_after, offer_made}
use Rattle.run_model.specs.declared.stamps.TheConstants.{GREATEST_STAMP}
use Rattle.router_core.specs.Views.{RouterView, plain_of, IsSame}
use Rattle.snap_collector.specs.Collector.{AreMembers, CollectorView}
use Rattle.world_core.specs.declared.inbox.Pipe.{Pipe}
use Rattle.world_core.specs.declared.inbox.Inbox.{Inbox}
use Rattle.world_core.specs.declared.schedule.Event.{Event}
use Rattle.world_core.specs.declared.schedule.Event.TheVariants as schedule
use Rattle.world_core.specs.declared.schedule.StepFault.{StepFault}
use Rattle.world_core.specs.declared.schedule.StepFault.TheVariants.{Refused}
use Rattle.world_core.specs.World.{World, Does, Stops, Gives, of_offer, called, taking_of, world_after, piped}
use Rattle.world_core.specs.Views.{WorldView, plain_world, routers_of, pipes_of, pipes_to, items_from, IsAt, KnowsBack, IsWhole, Answers, Entered, EntersPut, EntersTake, TakesFrom, EntersOffer, OffersTo}
use Rattle.world_core.specs.Steps.{StandsAt, LinkAt}
use Rattle.world_core.proofs.Places.{number_here, numbers_set, all_set, all_here, here, set_at}
use Rattle.world_core.proofs.Linking.{link_turned}
use Rattle.world_core.proofs.Stepping.{lifted, same_world, nothing_made, routers_set, routers_stay, stands, by_router}

-- ---- a pipe in which something moved

pub record PipeAt (x : WorldView) (b a to k : ℕ) (old new : Inbox) (p q : Pipe) : Type 0 where
  pub link : LinkAt x b a to k
  pub was : old ≡ get_or x.inboxes to old
  pub held : p ≡ get_or old.pipes.items k p
  pub router : new.router ≡ old.router
  pub pipes : new.pipes.items ≡ set old.pipes.items k q
  pub peer : q.peer ≡ p.peer
  pub back : (net : Plan) (u : ℕ) → KnowsBack net u p → KnowsBack net u q

pub old_router : (x : WorldView) (b a to k : ℕ) (old new : Inbox) (p q : Pipe) → PipeAt x b a to k old new p q → old.router ≡ b
old_router x b a to k old new p q at = ap (λ (i : Inbox). i.router) at.was ∙ number_here (λ i. i.router) x.inboxes b to old at.link.here.inbox

pipe_at : (x : WorldView) (b a to k : ℕ) (old new : Inbox) (p q : Pipe) → PipeAt x b a to k old new p q → IsAt (λ p. p.peer) old.pipes.items a k
pipe_at x b a to k old new p q at = subst (λ (i : Inbox). IsAt (λ p. p.peer) i.pipes.items a k) (sym at.was) (at.link.pipe old)

pub items_here : (x : WorldView) (b a to k : ℕ) (old new : Inbox) (p q : Pipe) → PipeAt x b a to k old new p q → pipes_of x.inboxes a b ≡ p.items.items
items_here x b a to k old new p q at =
    ap (λ (ps : List Pipe). items_from ps a) (here (λ i. i.router) (λ i. i.pipes.items) [] x.inboxes b to old at.link.here.inbox ∙ ap (λ (i : Inbox). i.pipes.items) (sym at.was))
    ∙ here (λ p. p.peer) (λ p. p.items.items) [] old.pipes.items a k p (pipe_at x b a to k old new p q at) ∙ ap (λ (r : Pipe). r.items.items) (sym at.held)

pipe_peer : (x : WorldView) (b a to k : ℕ) (old new : Inbox) (p q : Pipe) → PipeAt x b a to k old new p q → q.peer ≡ a
pipe_peer x b a to k old new p q at = at.peer ∙ ap (λ (r : Pipe). r.peer) at.held ∙ number_here (λ p. p.peer) old.pipes.items a k p (pipe_at x b a to k old new p q at)

both_by : (c d : Bool) (new all : List Item) → cond d (cond c new all) all ≡ cond (c && d) new all
both_by c d new all = grind arith

to_by : (x : WorldView) (b a to k : ℕ) (old new : Inbox) (p q : Pipe) → PipeAt x b a to k old new p q → (m n : ℕ) (d : Bool) → (n == b) ≡ d
    → items_from (cond d new.pipes.items (pipes_to x.inboxes n)) m ≡ cond d (cond (m == a) q.items.items (pipes_of x.inboxes m n)) (pipes_of x.inboxes m n)
to_by x b a to k old new p q at m n true e =
    let same : n ≡ b = eqb-true n b e in
    ap (λ (ps : List Pipe). items_from ps m) at.pipes
    ∙ set_at (λ p. p.peer) (λ p. p.items.items) [] old.pipes.items a k q m (pipe_at x b a to k old new p q at) (pipe_peer x b a to k old new p q at)
    ∙ ap (λ (ps : List Pipe). cond (m == a) q.items.items (items_from ps m))
    (sym (ap (λ (j : ℕ). pipes_to x.inboxes j) same ∙ here (λ i. i.router) (λ i. i.pipes.items) [] x.inboxes b to old at.link.here.inbox ∙ ap (λ (i : Inbox). i.pipes.items) (sym at.was)))
to_by x b a to k old new p q at m n false e = refl

-- the pipes with another list, and with a changed one
abbrev pub with_pipe : (ℕ → ℕ → List Item) → ℕ → ℕ → List Item → ℕ → ℕ → List Item
with_pipe pipes a b now = λ m n. cond ((m == a) && (n == b)) now (pipes m n)

abbrev pub with_change : (ℕ → ℕ → List Item) → ℕ → ℕ → (List Item → List Item) → ℕ → ℕ → List Item
with_change pipes a b f = λ m n. cond ((m == a) && (n == b)) (f (pipes m n)) (pipes m n)

pub pipes_set : (x : WorldView) (b a to k : ℕ) (old new : Inbox) (p q : Pipe) → PipeAt x b a to k old new p q
    → pipes_of (set x.inboxes to new) ≡ with_pipe (pipes_of x.inboxes) a b q.items.items
pipes_set x b a to k old new p q at =
    fun_ext (λ m. fun_ext (λ n.
    ap (λ (ps : List Pipe). items_from ps m) (set_at (λ i. i.router) (λ i. i.pipes.items) [] x.inboxes b to new n at.link.here.inbox (at.router ∙ old_router x b a to k old new p q at))
    ∙ to_by x b a to k old new p q at m n (n == b) refl ∙ both_by (m == a) (n == b) q.items.items (pipes_of x.inboxes m n)))

-- what is there is made another by a change of the pipe
split : (c d : Bool) → (c && d) ≡ true → (c ≡ true) × (d ≡ true)
split true d h = (refl, h)
split false d h = absurd cc

spread_by : (pipes : ℕ → ℕ → List Item) (a b m n : ℕ) (now : List Item) (f : List Item → List Item) (t : Bool) → now ≡ f (pipes a b) → ((m == a) && (n == b)) ≡ t
    → cond t now (pipes m n) ≡ cond t (f (pipes m n)) (pipes m n)
spread_by pipes a b m n now f true is e =
    let s = split (m == a) (n == b) e in
    is ∙ ap f (ap (λ (j : ℕ). pipes j b) (sym (eqb-true m a s.0)) ∙ ap (λ (j : ℕ). pipes m j) (sym (eqb-true n b s.1)))
spread_by pipes a b m n now f false is e = refl

spread : (pipes : ℕ → ℕ → List Item) (a b : ℕ) (now : List Item) (f : List Item → List Item) → now ≡ f (pipes a b)
    → with_pipe pipes a b now ≡ with_change pipes a b f
spread pipes a b now f is = fun_ext (λ m. fun_ext (λ n. spread_by pipes a b m n now f ((m == a) && (n == b)) is refl))

same_by : (t : Bool) (all : List Item) → cond t all all ≡ all
same_by true all = refl
same_by false all = refl

unmoved : (pipes : ℕ → ℕ → List Item) (a b : ℕ) (now : List Item) → now ≡ pipes a b → with_pipe pipes a b now ≡ pipes
unmoved pipes a b now is = spread pipes a b now (λ k. k) is ∙ fun_ext (λ m. fun_ext (λ n. same_by ((m == a) && (n == b)) (pipes m n)))

-- ---- the world after it

put_after : (g : Setting) (w z : World) (u v stamp : ℕ) (i : What) (now : List Item)
    → z.routers ≡ (λ k. cond (k == u) (record { router = after g u (w.routers u).router (puts v i); stamp = stamp }) (w.routers k))
    → z.pipes ≡ with_pipe w.pipes u v now → now ≡ piped u stamp (puts v i) u v (w.pipes u v) → z.made ≡ w.made → z.board ≡ w.board
    → z.run ≡ w.run ++ schedule.Put u v ∷ [] → z ≡ world_after g w (schedule.Put u v) u (puts v i) stamp
put_after g w z u v stamp i now r p is m b n =
    let here_is : now ≡ w.pipes u v ++ record { stamp = stamp; what = i } ∷ [] = is ∙ ap (λ (t : Bool). cond (t && (v == v)) (w.pipes u v ++ record { stamp = stamp; what = i } ∷ []) (w.pipes u v)) (eq-eqb u u refl)
    ∙ ap (λ (t : Bool). cond t (w.pipes u v ++ record { stamp = stamp; what = i } ∷ []) (w.pipes u v)) (eq-eqb v v refl) in
    same_world (world_after g w (schedule.Put u v) u (puts v i) stamp) z r (p ∙ spread w.pipes u v now (λ k. k ++ record { stamp = stamp; what = i } ∷ []) here_is) (m ∙ nothing_made w.made) b n

take_after : (g : Setting) (w z : World) (u v stamp : ℕ) (i : What) (now : List Item)
    → z.routers ≡ (λ k. cond (k == u) (record { router = after g u (w.routers u).router (takes v i); stamp = stamp }) (w.routers k))
    → z.pipes ≡ with_pipe w.pipes v u now → now ≡ drop 1 (w.pipes v u) → z.made ≡ w.made → z.board ≡ w.board
    → z.run ≡ w.run ++ schedule.Take u v ∷ [] → z ≡ world_after g w (schedule.Take u v) u (takes v i) stamp
take_after g w z u v stamp i now r p is m b n =
    same_world (world_after g w (schedule.Take u v) u (takes v i) stamp) z r (p ∙ spread w.pipes v u now (drop 1) is) (m ∙ nothing_made w.made) b n

-- ---- a put

moved : WorldView → (i : ℕ) → RouterView → (to : ℕ) → Inbox → List Event → WorldView
moved x i y to new run = record x { routers = set x.routers i y; inboxes = set x.inboxes to new; run = run }

pub put_steps : AnswersAreSteps → (x : WorldView) (u v i to k : ℕ) (xr y : RouterView) (old new : Inbox) (p q : Pipe) (run : List Event) (r : Result Stepped StepFault)
    → StandsAt x u i → PipeAt x v u to k old new p q → xr ≡ get_or x.routers i xr → EntersPut r xr x.run p.items.items (schedule.Put u v) v y run q.items.items → IsSame xr y
    → Answers r x (schedule.Put u v) (record x { routers = set x.routers i y; inboxes = set x.inboxes to new; run = run })
put_steps law x u v i to k xr y old new p q run r at pipe is enters same g e ranks =
    let s = stands x u i xr at is in
    let num : y.number ≡ u = same.number ∙ s.0 in
    let w = plain_world x in
    let z = plain_world (record x { routers = set x.routers i y; inboxes = set x.inboxes to new; run = run }) in
    let call = Put v in
    let stamp = stamp_of g u (routers_of x u) call in
    let event = schedule.Put u v in
    let Answers_as : ℕ → Stamped → Type 0 = (λ j t.
    Entered r (answer g j t call) (λ d. (plain_of y ≡ stamped_after g j t call d) × (run ≡ x.run ++ event ∷ []) × (q.items.items ≡ piped j (stamp_of g j t call) d j v p.items.items))
    ((plain_of y ≡ t) × (run ≡ x.run) × (q.items.items ≡ p.items.items))) in
    let entered = subst (λ j. Answers_as j (routers_of x u)) s.0 (subst (Answers_as xr.number) (sym s.2) (enters g (e ∙ sym s.1) ranks)) in
    let items = items_here x v u to k old new p q pipe in
    let pipes = pipes_set x v u to k old new p q pipe in
    subst (λ b. Gives g r b w event z) (sym (link_turned g u v (called g w u call) ∙ pipe.link.linked g e (called g w u call)))
    (lifted g r (answer g u (routers_of x u) call) w z event u stamp _ _ entered
    (λ d steps h. (let d_is = (law g (subst (λ (n : Plan). IsNetwork n) (sym e) at.whole.network) u (routers_of x u) call d steps).0 in
    subst (λ b. (plain_of y ≡ stamped_after g u (routers_of x u) call b) → (q.items.items ≡ piped u stamp b u v p.items.items) → z ≡ world_after g w event u b stamp) (sym d_is.1)
    (λ t j. put_after g w z u v stamp d_is.0 q.items.items (routers_set x u i y (stamped_after g u (routers_of x u) call (puts v d_is.0)) at.router num t) pipes
    (j ∙ ap (λ (l : List Item). piped u stamp (puts v d_is.0) u v l) (sym items)) refl refl h.1) h.0 h.2))
    (λ h. same_world w z (routers_stay x u i y at.router num h.0) (pipes ∙ unmoved (pipes_of x.inboxes) u v q.items.items (h.2 ∙ sym items)) refl refl h.1))

-- ---- a take

took : AnswersAreSteps → (x : WorldView) (u v i k : ℕ) (xr y : RouterView) (old new : Inbox) (p q : Pipe) (run : List Event) (r : Result Stepped StepFault) (o : Option Item)
    → PipeAt x u v i k old new p q → xr ≡ get_or x.routers i xr → TakesFrom r xr x.run p.items.items (schedule.Take u v) v y run q.items.items o → IsSame xr y
    → (g : Setting) → g.net ≡ x.net → ChoosesByRank g
    → Gives g r (taking_of g (plain_world x) u v o) (plain_world x) (schedule.Take u v) (plain_world (record x { routers = set x.routers i y; inboxes = set x.inboxes i new; run = run }))
took law x u v i k xr y old new p q run r None pipe is enters same g e ranks =
    let at = pipe.link.here in
    let s = stands x u i xr at is in
    let w = plain_world x in
    let z = plain_world (record x { routers = set x.routers i y; inboxes = set x.inboxes i new; run = run }) in
    let items = items_here x u v i k old new p q pipe in
    let pipes = pipes_set x u v i k old new p q pipe in
    (enters.0, same_world w z (routers_stay x u i y at.router (same.number ∙ s.0) (enters.1 ∙ sym s.2)) (pipes ∙ unmoved (pipes_of x.inboxes) v u q.items.items (enters.3 ∙ sym items)) refl refl enters.2)
took law x u v i k xr y old new p q run r (Some f) pipe is enters same g e ranks =
    let at = pipe.link.here in
    let s = stands x u i xr at is in
    let num : y.number ≡ u = same.number ∙ s.0 in
    let w = plain_world x in
    let z = plain_world (record x { routers = set x.routers i y; inboxes = set x.inboxes i new; run = run }) in
    let call = Take v f.stamp f.what in
    let stamp = stamp_of g u (routers_of x u) call in
    let event = schedule.Take u v in
    let Answers_as : ℕ → Stamped → Type 0 = (λ j t.
    Entered r (answer g j t call) (λ d. (plain_of y ≡ stamped_after g j t call d) × (run ≡ x.run ++ event ∷ []) × (q.items.items ≡ drop 1 p.items.items)) ((plain_of y ≡ t) × (run ≡ x.run) × (q.items.items ≡ p.items.items))) in
    let entered = subst (λ j. Answers_as j (routers_of x u)) s.0 (subst (Answers_as xr.number) (sym s.2) (enters g (e ∙ sym s.1) ranks)) in
    let items = items_here x u v i k old new p q pipe in
    let pipes = pipes_set x u v i k old new p q pipe in
    lifted g r (answer g u (routers_of x u) call) w z event u stamp _ _ entered
    (λ d steps h. (let d_is = (law g (subst (λ (n : Plan). IsNetwork n) (sym e) at.whole.network) u (routers_of x u) call d steps).0 in
    subst (λ b. (plain_of y ≡ stamped_after g u (routers_of x u) call b) → z ≡ world_after g w event u b stamp) (sym d_is)
    (λ t. take_after g w z u v stamp f.what q.items.items (routers_set x u i y (stamped_after g u (routers_of x u) call (takes v f.what)) at.router num t) pipes (h.2 ∙ ap (drop 1) (sym items)) refl refl h.1) h.0))
    (λ h. same_world w z (routers_stay x u i y at.router num h.0) (pipes ∙ unmoved (pipes_of x.inboxes) v u q.items.items (h.2 ∙ sym items)) refl refl h.1)

pub take_steps : AnswersAreSteps → (x : WorldView) (u v i k : ℕ) (xr y : RouterView) (old new : Inbox) (p q : Pipe) (run : List Event) (r : Result Stepped StepFault)
    → PipeAt x u v i k old new p q → xr ≡ get_or x.routers i xr → EntersTake r xr x.run p.items.items (schedule.Take u v) v y run q.items.items → IsSame xr y
    → Answers r x (schedule.Take u v) (record x { routers = set x.routers i y; inboxes = set x.inboxes i new; run = run })
take_steps law x u v i k xr y old new p q run r pipe is enters same g e ranks =
    let w = plain_world x in
    let z = plain_world (record x { routers = set x.routers i y; inboxes = set x.inboxes i new; run = run }) in
    let items = items_here x u v i k old new p q pipe in
    subst (λ b. Gives g r b w (schedule.Take u v) z)
    (ap (λ (l : List Item). taking_of g w u v (slice_get l 0)) (sym items) ∙ sym (pipe.link.linked g e (taking_of g w u v (slice_get (pipes_of x.inboxes v u) 0))))
    (took law x u v i k xr y old new p q run r (slice_get p.items.items 0) pipe is enters same g e ranks)

-- ---- all is whole after it

-- each pipe beside it still knows the way back
backs_set : (x : WorldView) (b a to k : ℕ) (old new : Inbox) (p q : Pipe) → PipeAt x b a to k old new p q → AllByRecursion (KnowsBack x.net old.router) (set old.pipes.items k q)
backs_set x b a to k old new p q pipe =
    let net = x.net in
    let at = pipe_at x b a to k old new p q pipe in
    let was = subst (λ (i : Inbox). AllByRecursion (KnowsBack net i.router) i.pipes.items) (sym pipe.was)
    (all_here (λ i. i.router) (λ i. AllByRecursion (KnowsBack net i.router) i.pipes.items) x.inboxes b to old pipe.link.here.inbox pipe.link.here.whole.backs) in
    let held = subst (KnowsBack net old.router) (sym pipe.held) (all_here (λ p. p.peer) (KnowsBack net old.router) old.pipes.items a k p at was) in
    all_set (λ p. p.peer) (KnowsBack net old.router) old.pipes.items a k q at was (pipe.back net old.router held)

pub whole_pipe : (x : WorldView) (b a u i to k : ℕ) (y : RouterView) (old new : Inbox) (p q : Pipe) (run : List Event) → StandsAt x u i → PipeAt x b a to k old new p q → y.number ≡ u → y.net ≡ x.net
    → IsWhole (record x { routers = set x.routers i y; inboxes = set x.inboxes to new; run = run })
whole_pipe x b a u i to k y old new p q run at pipe e n =
    let whole = at.whole in
    let old_is = old_router x b a to k old new p q pipe in
    let was0 = all_here (λ i. i.router) (λ i. map (λ p. p.peer) i.pipes.items ≡ peers x.net i.router) x.inboxes b to old pipe.link.here.inbox whole.pipes in
    let was = subst (λ (j : Inbox). map (λ p. p.peer) j.pipes.items ≡ peers x.net j.router) (sym pipe.was) was0 in
    record {
      network = whole.network;
      routers = numbers_set (λ r. r.number) x.routers u i y at.router e ∙ whole.routers;
      nets = all_set (λ r. r.number) (λ r. r.net ≡ x.net) x.routers u i y at.router whole.nets n;
      inboxes = numbers_set (λ i. i.router) x.inboxes b to new pipe.link.here.inbox (pipe.router ∙ old_is) ∙ whole.inboxes;
      pipes = all_set (λ i. i.router) (λ i. map (λ p. p.peer) i.pipes.items ≡ peers x.net i.router) x.inboxes b to new pipe.link.here.inbox whole.pipes
          (ap (map (λ (p : Pipe). p.peer)) pipe.pipes ∙ numbers_set (λ p. p.peer) old.pipes.items a k q (pipe_at x b a to k old new p q pipe) (pipe_peer x b a to k old new p q pipe) ∙ was ∙ ap (peers x.net) (sym pipe.router));
      backs = all_set (λ i. i.router) (λ i. AllByRecursion (KnowsBack x.net i.router) i.pipes.items) x.inboxes b to new pipe.link.here.inbox whole.backs
          (subst (λ (u : ℕ). AllByRecursion (KnowsBack x.net u) new.pipes.items) (sym pipe.router) (subst (AllByRecursion (KnowsBack x.net old.router)) (sym pipe.pipes) (backs_set x b a to k old new p q pipe)));
      members = whole.members;
    }

-- ---- an offer

offered : (x : WorldView) (u i : ℕ) (xr y : RouterView) (kept : CollectorView) (board at : ℕ) (run : List Event) (r : Result Stepped StepFault) (o : Option RouterOffer) (b : Bool)
    → StandsAt x u i → xr ≡ get_or x.routers i xr → nat_lt GREATEST_STAMP at ≡ b
    → OffersTo r xr x.run x.collector x.board (schedule.Offer u) y run kept board (of_offer u at o) → IsSame xr y → (g : Setting) → g.net ≡ x.net
    → Gives g r (of_offer u at o) (plain_world x) (schedule.Offer u) (plain_world (record x { routers = set x.routers i y; collector = kept; board = board; run = run }))
offered x u i xr y kept board at run r None b stand is late enters same g e =
    let s = stands x u i xr stand is in
    let w = plain_world x in
    let z = plain_world (record x { routers = set x.routers i y; collector = kept; board = board; run = run }) in
    (enters.0, same_world w z (routers_stay x u i y stand.router (same.number ∙ s.0) (enters.1 ∙ sym s.2)) refl enters.3 enters.4 enters.2)
offered x u i xr y kept board at run r (Some o) true stand is late enters same g e =
    let s = stands x u i xr stand is in
    let w = plain_world x in
    let z = plain_world (record x { routers = set x.routers i y; collector = kept; board = board; run = run }) in
    let h = subst (λ t. OffersTo r xr x.run x.collector x.board (schedule.Offer u) y run kept board (cond t (Stops (Refused error.StampEnd)) (Does u (offers (record { router = u; offer = o })) at))) late enters in
    subst (λ t. Gives g r (cond t (Stops (Refused error.StampEnd)) (Does u (offers (record { router = u; offer = o })) at)) w (schedule.Offer u) z) (sym late)
    (h.0, same_world w z (routers_stay x u i y stand.router (same.number ∙ s.0) (h.1 ∙ sym s.2)) refl h.3 h.4 h.2)
offered x u i xr y kept board at run r (Some o) false stand is late enters same g e =
    let w = plain_world x in
    let z = plain_world (record x { routers = set x.routers i y; collector = kept; board = board; run = run }) in
    let h = subst (λ t. OffersTo r xr x.run x.collector x.board (schedule.Offer u) y run kept board (cond t (Stops (Refused error.StampEnd)) (Does u (offers (record { router = u; offer = o })) at))) late enters in
    subst (λ t. Gives g r (cond t (Stops (Refused error.StampEnd)) (Does u (offers (record { router = u; offer = o })) at)) w (schedule.Offer u) z) (sym late)
    (made_by r h)
  where
    made_by : (r : Result Stepped StepFault) → OffersTo r xr x.run x.collector x.board (schedule.Offer u) y run kept board (Does u (offers (record { router = u; offer = o })) at)
        → Gives g r (Does u (offers (record { router = u; offer = o })) at) (plain_world x) (schedule.Offer u) (plain_world (record x { routers = set x.routers i y; collector = kept; board = board; run = run }))
    made_by (Ok t) h =
        let s = stands x u i xr stand is in
        let w = plain_world x in
        let z = plain_world (record x { routers = set x.routers i y; collector = kept; board = board; run = run }) in (
          h.0,
          same_world (world_after g w (schedule.Offer u) u (offers (record { router = u; offer = o })) at) z
              (routers_set x u i y (offer_made (routers_of x u) at) stand.router (same.number ∙ s.0) (h.1.0 ∙ ap (λ (k : Stamped). offer_made k at) (sym s.2))) refl h.1.2 h.1.3 h.1.1,
        )
    made_by (Err why) h =
        let s = stands x u i xr stand is in
        let w = plain_world x in
        let z = plain_world (record x { routers = set x.routers i y; collector = kept; board = board; run = run }) in
        (h.0, same_world w z (routers_stay x u i y stand.router (same.number ∙ s.0) (h.1.0 ∙ sym s.2)) refl h.1.2 h.1.3 h.1.1)

pub offer_steps : (x : WorldView) (u i : ℕ) (xr y : RouterView) (kept : CollectorView) (board : ℕ) (run : List Event) (r : Result Stepped StepFault)
    → StandsAt x u i → xr ≡ get_or x.routers i xr → EntersOffer r xr x.run x.collector x.board (schedule.Offer u) y run kept board → IsSame xr y
    → Answers r x (schedule.Offer u) (record x { routers = set x.routers i y; collector = kept; board = board; run = run })
offer_steps x u i xr y kept board run r stand is enters same g e ranks =
    let s = stands x u i xr stand is in
    let w = plain_world x in
    let z = plain_world (record x { routers = set x.routers i y; collector = kept; board = board; run = run }) in
    let h = subst (λ (t : Stamped). OffersTo r xr x.run x.collector x.board (schedule.Offer u) y run kept board (of_offer u (max t.stamp x.board + 1) (next_offer t.router))) (sym s.2)
    (subst (λ (n : ℕ). OffersTo r xr x.run x.collector x.board (schedule.Offer u) y run kept board (of_offer n (max xr.stamp x.board + 1) (next_offer (plain_of xr).router))) s.0 enters) in
    let at = max (routers_of x u).stamp x.board + 1 in
    subst (λ b. Gives g r b w (schedule.Offer u) z) (sym (by_router g u (of_offer u at (next_offer (routers_of x u).router)) (stand.known g e)))
    (offered x u i xr y kept board at run r (next_offer (routers_of x u).router) (nat_lt GREATEST_STAMP at) stand is refl h same g e)

pub whole_offer : (x : WorldView) (u i : ℕ) (y : RouterView) (kept : CollectorView) (board : ℕ) (run : List Event) → StandsAt x u i → y.number ≡ u → y.net ≡ x.net → kept.members ≡ x.collector.members
    → IsWhole (record x { routers = set x.routers i y; collector = kept; board = board; run = run })
whole_offer x u i y kept board run at e n same = record {
  network = at.whole.network;
  routers = numbers_set (λ r. r.number) x.routers u i y at.router e ∙ at.whole.routers;
  nets = all_set (λ r. r.number) (λ r. r.net ≡ x.net) x.routers u i y at.router at.whole.nets n;
  inboxes = at.whole.inboxes;
  pipes = at.whole.pipes;
  backs = at.whole.backs;
  members = subst (AreMembers x.net) (sym same) at.whole.members;
}
