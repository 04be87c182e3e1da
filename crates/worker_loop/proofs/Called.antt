-- What follows from chores is what calls answer.
use Rattle.std.proofs.Common.{◌≡◌, ℕ, suc, arith, List, [], ◌∷◌, ◌++◌, refl, sym, subst, inl, inr}
use Rattle.std.specs.Prelude.{Option, None, Some}
use Rattle.std.specs.List.{Contains}
use Rattle.ranked_policy.specs.Plans.{IsNetwork}
use Rattle.run_model.specs.Stamps.{without_stamp}
use Rattle.snap_marker.specs.Recordings.{RouterOffer}
use Rattle.router_model.specs.declared.command.Command.{Command}
use Rattle.router_model.specs.Settings.{Setting}
use Rattle.router_model.specs.Step.{RouterEvent, next_offer}
use Rattle.router_model.specs.Calls.{Stamped, Call, Obey, Tick, Put, Take, Handle, Decide, Advertise, Answer, Steps, Idle, Refuses, answer, stamp_of, IsEventOf}
use Rattle.router_model.specs.Laws.{AnswersAreSteps}
use Rattle.world_core.specs.Replays.{IsCalled, AnswersAreCalled}
use Rattle.worker_loop.specs.declared.chore.Chore.{Chore}
use Rattle.worker_loop.specs.declared.chore.Chore.TheVariants as chore
use Rattle.worker_loop.specs.Acts.{Act, Seen, Leads, act_of}
use Rattle.worker_loop.specs.Following.{Stage, Then, Nothing, Each, Calls, Puts, Takes, Offers, Meets, Turns, Obeys, OffersOne, acts_by}
use Rattle.worker_loop.specs.Laws.{IsOrdered, LeadsByCalls, WhatFollowsIsCalled}
use Rattle.worker_loop.proofs.Acting.{unstamped}

module _ (steps : AnswersAreSteps) (called : AnswersAreCalled) (g : Setting) (net : IsNetwork g.net) (u : ℕ) (chores : List Chore) where
  -- stages each event of which is so
  abbrev Called : Stage → Type 0
  Called P = (a b : Seen) (acts : List Act) → P a acts b → LeadsByCalls g u chores a.router acts b.router

  -- ---- one after the other

  by_append : (x y z : Stamped) (front back : List Act) → LeadsByCalls g u chores x front y → LeadsByCalls g u chores y back z → LeadsByCalls g u chores x (front ++ back) z
  by_append x y z [] back p q = subst (λ k. LeadsByCalls g u chores k back z) (sym p) q
  by_append x y z (a ∷ front) back p q = (p.0, p.1, p.2, p.3, by_append p.0 y z front back p.4 q)

  called_nothing : Called Nothing
  called_nothing a b acts (none, same) =
      subst (λ (k : Seen). LeadsByCalls g u chores a.router acts k.router) same (subst (λ (l : List Act). LeadsByCalls g u chores a.router l a.router) (sym none) refl)

  called_then : (P Q : Stage) → Called P → Called Q → Called (Then P Q)
  called_then P Q p q a b acts (m, first, rest, whole, here, other) =
      subst (λ (l : List Act). LeadsByCalls g u chores a.router l b.router) (sym whole) (by_append a.router m.router b.router first rest (p a m first here) (q m b rest other))

  called_each : {X : Type 0} (P : X → Stage) → ((x : X) → Called (P x)) → (xs : List X) → Called (Each P xs)
  called_each P p [] a b acts h = called_nothing a b acts h
  called_each P p (x ∷ xs) a b acts h = called_then (P x) (Each P xs) (p x) (called_each P p xs) a b acts h

  -- ---- one event, or none

  by_none : (x z : Stamped) (acts : List Act) → Leads g u x acts z → acts ≡ [] → LeadsByCalls g u chores x acts z
  by_none x z acts leads none =
      let still : Leads g u x [] z = subst (λ (l : List Act). Leads g u x l z) none leads in
      subst (λ (l : List Act). LeadsByCalls g u chores x l z) (sym none) still

  by_one : (x z : Stamped) (acts : List Act) (a : Act) → Leads g u x acts z → acts ≡ a ∷ [] → IsCalled g u x.router (without_stamp a.event.event) → IsOrdered chores (without_stamp a.event.event)
      → LeadsByCalls g u chores x acts z
  by_one x z acts a leads is so ordered =
      let l : Leads g u x (a ∷ []) z = subst (λ (k : List Act). Leads g u x k z) is leads in
      subst (λ (k : List Act). LeadsByCalls g u chores x k z) (sym is) (l.0, l.1, so, ordered, l.2)

  -- the event of a call
  by_answer : (call : Call) (x z : Stamped) (acts : List Act) (ans : Answer) → answer g u x call ≡ ans → acts ≡ acts_by u (stamp_of g u x call) ans → Leads g u x acts z
      → ((e : RouterEvent) → IsEventOf call e → IsOrdered chores e) → LeadsByCalls g u chores x acts z
  by_answer call x z acts (Steps e) is only leads ordered =
      let s = stamp_of g u x call in
      by_one x z acts (act_of u s s e) leads only (subst (IsCalled g u x.router) (sym (unstamped s e)) (called g net u x call e is))
      (subst (IsOrdered chores) (sym (unstamped s e)) (ordered e (steps g net u x call e is).0))
  by_answer call x z acts Idle is only leads ordered = by_none x z acts leads only
  by_answer call x z acts (Refuses why) is only leads ordered = by_none x z acts leads only

  ordered_by : (call : Call) → ((c : Command) → call ≡ Obey c → Contains chores (chore.Command c)) → (e : RouterEvent) → IsEventOf call e → IsOrdered chores e
  ordered_by (Obey c) has e is = subst (IsOrdered chores) (sym is) (has c refl)
  ordered_by Tick has e is = subst (IsOrdered chores) (sym is) tt
  ordered_by (Put v) has e is = subst (IsOrdered chores) (sym is.1) tt
  ordered_by (Take v stamp what) has e is = subst (IsOrdered chores) (sym is) tt
  ordered_by (Handle v) has e is = subst (IsOrdered chores) (sym is) tt
  ordered_by Decide has e is = subst (IsOrdered chores) (sym is) tt
  ordered_by Advertise has e is = subst (IsOrdered chores) (sym is.1) tt

  -- ---- stages

  called_calls : (call : Call) → ((c : Command) → call ≡ Obey c → Contains chores (chore.Command c)) → Called (Calls g u call)
  called_calls call has a b acts h = by_answer call a.router b.router acts (answer g u a.router call) refl h.only h.does.leads (ordered_by call has)

  called_puts : (v : ℕ) → Called (Puts g u v)
  called_puts v a b acts h = elim h.only [
    | inl is ↦ by_answer (Put v) a.router b.router acts (answer g u a.router (Put v)) refl is h.does.leads (ordered_by (Put v) (λ c e. absurd cc))
    | inr none ↦ by_none a.router b.router acts h.does.leads none.0
  ]

  called_takes : (v : ℕ) → Called (Takes g u v)
  called_takes v a b acts h = elim h.only [
    | inl none ↦ by_none a.router b.router acts h.does.leads none
    | inr one ↦ by_one a.router b.router acts _ h.does.leads one.1 tt tt
  ]

  offers_by : (x z : Stamped) (acts : List Act) (o : Option RouterOffer) → Leads g u x acts z → OffersOne u o acts → LeadsByCalls g u chores x acts z
  offers_by x z acts None leads none = by_none x z acts leads none
  offers_by x z acts (Some o) leads one = by_one x z acts _ leads one.1 tt tt

  called_offers : Called (Offers g u)
  called_offers a b acts h = offers_by a.router b.router acts (next_offer a.router.router) h.does.leads h.only

  called_meets : (v : ℕ) → Called (Meets g u v)
  called_meets v =
      called_then (Puts g u v) (Then (Takes g u v) (Calls g u (Handle v))) (called_puts v)
      (called_then (Takes g u v) (Calls g u (Handle v)) (called_takes v) (called_calls (Handle v) (λ c e. absurd cc)))

  called_turns : (peers : List ℕ) → Called (Turns g u peers)
  called_turns peers =
      called_then (Each (Meets g u) peers) (Then (Calls g u Decide) (Then (Calls g u Advertise) (Offers g u))) (called_each (Meets g u) called_meets peers)
      (called_then (Calls g u Decide) (Then (Calls g u Advertise) (Offers g u)) (called_calls Decide (λ c e. absurd cc))
      (called_then (Calls g u Advertise) (Offers g u) (called_calls Advertise (λ c e. absurd cc)) called_offers))

  called_obeys : (peers : List ℕ) (c : Chore) → Contains chores c → Called (Obeys g u peers c)
  called_obeys peers chore.Turn here a b acts h = called_turns peers a b acts h
  called_obeys peers chore.Tick here a b acts h = called_calls Tick (λ c e. absurd cc) a b acts h
  called_obeys peers (chore.Command c) here a b acts h =
      called_calls (Obey c) (λ d e. (let same : c ≡ d = cc in subst (λ (k : Command). Contains chores (chore.Command k)) same here)) a b acts h
  called_obeys peers chore.Stop here a b acts h = called_nothing a b acts h

  called_follows : (peers : List ℕ) (cs : List Chore) → ((c : Chore) → Contains cs c → Contains chores c) → Called (Each (Obeys g u peers) cs)
  called_follows peers [] on a b acts h = called_nothing a b acts h
  called_follows peers (c ∷ cs) on a b acts h =
      called_then (Obeys g u peers c) (Each (Obeys g u peers) cs) (called_obeys peers c (on c (0, omega arith, refl)))
      (called_follows peers cs (λ d k. on d (suc k.0, (let l = k.1 in omega (arith, l)), k.2))) a b acts h

pub what_follows_is_called : AnswersAreSteps → AnswersAreCalled → WhatFollowsIsCalled
what_follows_is_called steps called g net u peers chores a b acts h = called_follows steps called g net u chores peers chores (λ c here. here) a b acts h
