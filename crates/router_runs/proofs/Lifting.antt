-- Events of one router, as events of the network in which the other routers stand still.
use Rattle.std.proofs.Common.{◌≡◌, ℕ, ◌==◌, Bool, true, false, cond, List, [], ◌∷◌, ◌++◌, append_assoc, refl, ap, sym, subst, ◌∙◌, arith, None}
use mathlib.Core.Logic.{◌⊎◌}
use Rattle.std.proofs.lemmas.List.{append-nil}
use Rattle.std.proofs.lemmas.Bool.{eqb-true, eq-eqb}
use Rattle.bgp_codec.specs.declared.message.Message.{Message}
use Rattle.run_model.specs.Links as links
use Rattle.run_model.specs.Links.{End, May, Mark, IsNext}
use Rattle.run_model.specs.Recordings.{Recorder, Act, MayAct, Moves, EndsChannel, IgnoresMarker, Begins, Follows, Finishes}
use Rattle.run_model.specs.Routes as routes
use Rattle.run_model.specs.Routes.{Acts, Advertise, Decide, Command, MayHappen, router_after}
use Rattle.run_model.specs.Quiet as model
use Rattle.run_model.specs.Offers.{Happens, Queues, IsOfferRun, offering_after, offerings_after, event_of, network_steps}
use Rattle.snap_marker.specs.Recordings.{RouterOffer}
use Rattle.router_model.specs.Settings.{Setting, linked}
use Rattle.router_runs.specs.Model.{network_of}
use Rattle.router_runs.specs.Mirrors.{ModelRouter, ModelEvent, ModelOffering, ModelSteps, Local, MayLocal, IsLocalRun, local_after, queued_by, is_command, commands_by, commands_at, Forgets, CommandsForget, IsLocallyQuiet, Goes}

-- events of router u with what they queue
abbrev pub steps_of : ℕ → List Local → ModelSteps
steps_of u [] = []
steps_of u (l ∷ ls) = event_of u l.event l.queues ∷ steps_of u ls

-- an act of a router speaks of the far ends of its peers alone
may_act : (g : Setting) (u : ℕ) (x : Recorder Message) (far other : ℕ → End Message) → ((v : ℕ) → (u ≡ v → ⊥) → far v ≡ other v) → (act : Act Message)
    → MayAct u x far (linked g.net u) act → MayAct u x other (linked g.net u) act
may_act g u x far other same (Moves v move) may = (may.0, may.1, subst (λ b. May (x.ends v) b move) (same v may.0) may.2)
may_act g u x far other same (EndsChannel v e s) may = (may.0, subst (λ b. IsNext (x.ends v) b (Mark e s)) (same v may.0) may.1, may.2, may.3, may.4, may.5)
may_act g u x far other same (IgnoresMarker v e s) may = (may.0, subst (λ b. IsNext (x.ends v) b (Mark e s)) (same v may.0) may.1, may.2)
may_act g u x far other same (Begins s whole) may = may
may_act g u x far other same (Follows v e s whole) may = (may.0, subst (λ b. IsNext (x.ends v) b (Mark e s)) (same v may.0) may.1, may.2, may.3, may.4, may.5)
may_act g u x far other same (Finishes s) may = may

-- from w on, router u has come to n and queued these offers; all else is as it was
pub record Lifts (u : ℕ) (w : ModelOffering) (n : ModelRouter) (offers : List RouterOffer) (z : ModelOffering) : Type 0 where
  pub here : z.routers u ≡ n
  pub others : (y : ℕ) → (u ≡ y → ⊥) → z.routers y ≡ w.routers y
  pub queued : z.queued u ≡ w.queued u ++ offers
  pub other_queues : (y : ℕ) → (u ≡ y → ⊥) → z.queued y ≡ w.queued y
  pub made : z.made ≡ w.made

module _ (g : Setting) (u : ℕ) (w : ModelOffering) where
  abbrev far : ℕ → End Message
  far v = (w.routers v).recorder.ends u

  -- an event that may come here may come in the network
  may_happen : (n : ModelRouter) (offers : List RouterOffer) (z : ModelOffering) → Lifts u w n offers z → (e : ModelEvent) → MayLocal g u far n e → MayHappen (network_of g) z.routers u e
  may_happen n offers z at (Acts act) may = (
    subst (λ (x : ModelRouter). MayAct u x.recorder (λ v. (z.routers v).recorder.ends u) (linked g.net u) act) (sym at.here)
        (may_act g u n.recorder far (λ v. (z.routers v).recorder.ends u) (λ v apart. ap (λ (x : ModelRouter). x.recorder.ends u) (sym (at.others v apart))) act may.0),
    may.1,
  )
  may_happen n offers z at (Advertise v p m) may = subst (λ (x : ModelRouter). (u ≡ v → ⊥) × (linked g.net u v ≡ true) × (links.is_up (x.recorder.ends v) ≡ true)
      × (routes.told_word (network_of g) x.recorder.ends v p ≡ x.kept p → ⊥)
      × ((network_of g).named p ≡ true) × ((network_of g).is_update m ≡ true) × ((network_of g).mentions m ≡ (p, x.kept p) ∷ [])) (sym at.here) may
  may_happen n offers z at (Decide p) may =
      subst (λ (x : ModelRouter). ((network_of g).named p ≡ true) × (x.kept p ≡ routes.route (network_of g) u x.recorder.ends p (x.originated p) → ⊥)) (sym at.here) may
  may_happen n offers z at (Command originated kept) may = tt

  here_is : (u == u) ≡ true
  here_is = eq-eqb u u refl

  apart_is : (y : ℕ) → (u ≡ y → ⊥) → (y == u) ≡ false
  apart_is y apart = at (y == u) refl
    where
      at : (b : Bool) → (y == u) ≡ b → b ≡ false
      at true e = absurd (apart (sym (eqb-true y u e)))
      at false e = refl

  -- and leads on
  lifts_next : (n : ModelRouter) (offers : List RouterOffer) (z : ModelOffering) → Lifts u w n offers z → (e : ModelEvent) (queues : List RouterOffer)
      → Lifts u w (router_after (network_of g) u n e) (offers ++ queues) (offering_after (network_of g) z u (Happens e queues))
  lifts_next n offers z at e queues = record {
    here = ap (λ b. cond b (router_after (network_of g) u (z.routers u) e) (z.routers u)) here_is ∙ ap (λ x. router_after (network_of g) u x e) at.here;
    others = λ y apart. ap (λ b. cond b (router_after (network_of g) y (z.routers y) e) (z.routers y)) (apart_is y apart) ∙ at.others y apart;
    queued = ap (λ b. cond b (z.queued u ++ queues) (z.queued u)) here_is ∙ ap (λ l. l ++ queues) at.queued ∙ append_assoc (w.queued u) offers queues;
    other_queues = λ y apart. ap (λ b. cond b (z.queued y ++ queues) (z.queued y)) (apart_is y apart) ∙ at.other_queues y apart;
    made = at.made;
  }

  lift_run : (ls : List Local) (n : ModelRouter) (offers : List RouterOffer) (z : ModelOffering) → Lifts u w n offers z → IsLocalRun g u far n ls
      → IsOfferRun (network_of g) z (steps_of u ls) × Lifts u w (local_after g u n ls) (offers ++ queued_by ls) (offerings_after (network_of g) z (steps_of u ls))
  lift_run [] n offers z at run = (tt, subst (λ l. Lifts u w n l z) (sym (append-nil offers)) at)
  lift_run (l ∷ ls) n offers z at run =
      let next = lift_run ls (router_after (network_of g) u n l.event) (offers ++ l.queues) (offering_after (network_of g) z u (Happens l.event l.queues)) (lifts_next n offers z at l.event l.queues) run.2 in (
        ((may_happen n offers z at l.event run.0, subst (λ x. Queues (network_of g) u x l.event l.queues) (sym at.here) run.1), next.0),
        subst (λ o. Lifts u w (local_after g u n (l ∷ ls)) o (offerings_after (network_of g) z (steps_of u (l ∷ ls)))) (append_assoc offers l.queues (queued_by ls)) next.1,
      )

  quiet_run : (s : ℕ) (ls : List Local) (n : ModelRouter) (z : ℕ → ModelRouter) → z u ≡ n → IsLocallyQuiet g u s n ls → model.IsQuietSince (network_of g) s z (network_steps (network_of g) (steps_of u ls))
  quiet_run s [] n z is calm = tt
  quiet_run s (l ∷ ls) n z is calm = (
    λ known c copy. subst (λ x. model.IsQuietEvent x l.event) (sym is) (calm.0 c (ap (λ (x : ModelRouter). x.recorder.copy s) (sym is) ∙ copy)),
    quiet_run s ls (router_after (network_of g) u n l.event) (λ y. cond (y == u) (router_after (network_of g) y (z y) l.event) (z y))
        (ap (λ b. cond b (router_after (network_of g) u (z u) l.event) (z u)) here_is ∙ ap (λ x. router_after (network_of g) u x l.event) is) calm.1,
  )

  -- its commands are the router's own, and forget
  counted : (y : ℕ) (b : Bool) → (y == u) ≡ b → (ls : List Local) → commands_at y (network_steps (network_of g) (steps_of u ls)) ≡ cond b (commands_by ls) 0
  counted y true is [] = refl
  counted y false is [] = refl
  counted y true is (l ∷ ls) =
      (let here = ap (λ (b : Bool). cond b (is_command l.event) 0) is in let rest = counted y true is ls in omega (arith, here, rest))
  counted y false is (l ∷ ls) =
      (let here = ap (λ (b : Bool). cond b (is_command l.event) 0) is in let rest = counted y false is ls in omega (arith, here, rest))

  forgets_here : (n : ModelRouter) (e : ModelEvent) → MayLocal g u far n e → Forgets n e
  forgets_here n (Acts act) may = tt
  forgets_here n (Advertise v p m) may = tt
  forgets_here n (Decide p) may = tt
  forgets_here n (Command originated kept) may = may

  forget_run : (ls : List Local) (n : ModelRouter) (z : ℕ → ModelRouter) → z u ≡ n → IsLocalRun g u far n ls → CommandsForget g z (network_steps (network_of g) (steps_of u ls))
  forget_run [] n z is run = tt
  forget_run (l ∷ ls) n z is run = (
    subst (λ x. Forgets x l.event) (sym is) (forgets_here n l.event run.0),
    forget_run ls (router_after (network_of g) u n l.event) (λ y. cond (y == u) (router_after (network_of g) y (z y) l.event) (z y))
        (ap (λ b. cond b (router_after (network_of g) u (z u) l.event) (z u)) here_is ∙ ap (λ x. router_after (network_of g) u x l.event) is) run.2,
  )

  -- what the router does is a run of the network, with offers
  pub record Lifted (Still : Type 0) (commands : ℕ) (m : ModelRouter) (offers : List RouterOffer) : Type 0 where
    pub steps : ModelSteps
    pub run : IsOfferRun (network_of g) w steps
    pub leads : Lifts u w m offers (offerings_after (network_of g) w steps)
    pub calm : (s : ℕ) → (Still ⊎ ((w.routers u).recorder.copy s ≡ None)) → model.IsQuietSince (network_of g) s w.routers (network_steps (network_of g) steps)
    pub counts : (y : ℕ) → commands_at y (network_steps (network_of g) steps) ≡ cond (y == u) commands 0
    pub forgets : CommandsForget g w.routers (network_steps (network_of g) steps)

  pub lift : (Still : Type 0) (commands : ℕ) (m : ModelRouter) (offers : List RouterOffer) → Goes g u far Still commands (w.routers u) m offers → Lifted Still commands m offers
  lift Still commands m offers goes =
      let start : Lifts u w (w.routers u) [] w = record { here = refl; others = λ y apart. refl; queued = sym (append-nil (w.queued u)); other_queues = λ y apart. refl; made = refl } in
      let done = lift_run goes.events (w.routers u) [] w start goes.run in
      record {
        steps = steps_of u goes.events;
        run = done.0;
        leads = subst (λ (x : ModelRouter). Lifts u w x offers (offerings_after (network_of g) w (steps_of u goes.events))) goes.leads
            (subst (λ o. Lifts u w (local_after g u (w.routers u) goes.events) o (offerings_after (network_of g) w (steps_of u goes.events))) goes.queues done.1);
        calm = λ s still. quiet_run s goes.events (w.routers u) w.routers refl (goes.calm s still);
        counts = λ y. counted y (y == u) refl goes.events ∙ ap (λ k. cond (y == u) k 0) goes.counts;
        forgets = forget_run goes.events (w.routers u) w.routers refl goes.run;
      }
