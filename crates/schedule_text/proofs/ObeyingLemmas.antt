-- What orders lead to.
use Rattle.std.proofs.Common.{◌≡◌, ◌≢◌, ℕ, ◌+◌, ◌<◌, List, [], ◌∷◌, ◌++◌, length, map, take, get_or, refl, sym, ap, subst, ◌∙◌, append_assoc, inl, inr, Ok, Err}
use Rattle.std.proofs.lemmas.List.{append-nil, take_more}
use Rattle.std.proofs.lemmas.Grind.{flat_map-append}
use Rattle.ranked_policy.specs.Plans.{Plan}
use Rattle.router_model.specs.Settings.{Setting}
use Rattle.world_core.specs.declared.schedule.Event.{Event}
use Rattle.world_core.specs.declared.schedule.Order.{Order}
use Rattle.world_core.specs.declared.schedule.Order.TheVariants as order
use Rattle.world_core.specs.declared.schedule.StepFault.{StepFault}
use Rattle.world_core.specs.declared.schedule.StepFault.TheVariants.{Memory}
use Rattle.world_core.specs.World.{World, WorldAnswer, Does, Nothing, Stops, world_answer, world_after, world_of, onward, played}
use Rattle.world_core.specs.Orders.{events_of, StopsAt, IsRefused}
use Rattle.world_core.proofs.Orders.{any_place, on_to}
use Rattle.schedule_text.specs.declared.report.RefusedOrder.{RefusedOrder}
use Rattle.schedule_text.specs.declared.schedule.ScheduledOrder.{ScheduledOrder}
use Rattle.schedule_text.specs.Obeying.{all_events, LeadTo, IsFirstRefused}
use Rattle.schedule_text.proofs.LineLemmas.{order_of, as_orders}

module _ (g : Setting) where
  events_more : (orders : List ScheduledOrder) (i : ℕ) (o : ScheduledOrder) → i < length orders → o ≡ get_or orders i o
      → all_events g.net (take (i + 1) orders) ≡ all_events g.net (take i orders) ++ events_of g.net o.order
  events_more orders i o lt is =
      ap (all_events g.net) (take_more orders i o lt ∙ ap (λ (x : ScheduledOrder). take i orders ++ x ∷ []) (sym is))
      ∙ flat_map-append (λ x. events_of g.net x.order) (take i orders) (o ∷ [])
      ∙ ap (λ (es : List Event). all_events g.net (take i orders) ++ es) (append-nil (events_of g.net o.order))

  -- one order more is done
  pub lead_on : (w x y : World) (orders : List ScheduledOrder) (i : ℕ) (o : ScheduledOrder) (net : Plan) → g.net ≡ net → i < length orders → o ≡ get_or orders i o → LeadTo g w (take i orders) x
      → played g x 0 (events_of net o.order) ≡ Ok y → LeadTo g w (take (i + 1) orders) y
  lead_on w x y orders i o net e lt is h k =
      ap (played g w 0) (events_more orders i o lt is)
      ∙ on_to g (all_events g.net (take i orders)) (events_of g.net o.order) w x y h (ap (λ (n : Plan). played g x 0 (events_of n o.order)) e ∙ k)

  -- ---- played events in two parts

  parts_by : (a : WorldAnswer) (w y : World) (x : Event) (at : ℕ) (xs ys : List Event)
      → ((next : World) → played g next (at + 1) (xs ++ ys) ≡ Ok y → (z : World) × (played g next (at + 1) xs ≡ Ok z) × (played g z 0 ys ≡ Ok y))
      → onward (world_of g w x at a) (λ next. played g next (at + 1) (xs ++ ys)) ≡ Ok y
      → (z : World) × (onward (world_of g w x at a) (λ next. played g next (at + 1) xs) ≡ Ok z) × (played g z 0 ys ≡ Ok y)
  parts_by (Does u e stamp) w y x at xs ys go h = go (world_after g w x u e stamp) h
  parts_by Nothing w y x at xs ys go h = go w h
  parts_by (Stops fault) w y x at xs ys go h = absurd cc

  pub played_parts : (xs ys : List Event) (w y : World) (at : ℕ) → played g w at (xs ++ ys) ≡ Ok y → (z : World) × (played g w at xs ≡ Ok z) × (played g z 0 ys ≡ Ok y)
  played_parts [] ys w y at h = (w, refl, any_place g ys w y at 0 h)
  played_parts (x ∷ xs) ys w y at h = parts_by (world_answer g w x) w y x at xs ys (λ next k. played_parts xs ys next y (at + 1) k) h

  not_refused : (y z : World) (x : Event) (xs : List Event) (why : StepFault) → why ≢ Memory → IsRefused g y x why → played g y 0 (x ∷ xs) ≡ Ok z → ⊥
  not_refused y z x xs why kind (inl is) h =
      let stops : played g y 0 (x ∷ xs) ≡ Err (record { at = 0; why = why }) = ap (λ (a : WorldAnswer). onward (world_of g y x 0 a) (λ next. played g next 1 xs)) is in
      absurd (let k = sym stops ∙ h in cc)
  not_refused y z x xs why kind (inr m) h = kind m.3

  pub no_stop : (w z y : World) (es more : List Event) (at : ℕ) (why : StepFault) → why ≢ Memory → StopsAt g w es at why y → played g w 0 (es ++ more) ≡ Ok z → ⊥
  no_stop w z y es more at why kind s h =
      let whole : played g w 0 (s.before ++ (s.event ∷ (s.behind ++ more))) ≡ Ok z =
      ap (λ (k : List Event). played g w 0 k) (sym (ap (λ (k : List Event). k ++ more) s.parts ∙ append_assoc s.before (s.event ∷ s.behind) more)) ∙ h in
      let k = played_parts s.before (s.event ∷ (s.behind ++ more)) w z 0 whole in
      let same : k.0 ≡ y = (let e = sym k.1 ∙ s.reached in cc) in
      not_refused y z s.event (s.behind ++ more) why kind s.refused (subst (λ (v : World). played g v 0 (s.event ∷ (s.behind ++ more)) ≡ Ok z) same k.2)

  pub no_halt : (w z : World) (os : List ScheduledOrder) (stop : RefusedOrder) → stop.why ≢ Memory → IsFirstRefused g w os stop → LeadTo g w os z → ⊥
  no_halt w z os stop kind s h =
      let events : all_events g.net os ≡ all_events g.net s.before ++ (events_of g.net s.order.order ++ all_events g.net s.behind) =
      ap (all_events g.net) s.parts ∙ flat_map-append (λ o. events_of g.net o.order) s.before (s.order ∷ s.behind) in
      let k = played_parts (all_events g.net s.before) (events_of g.net s.order.order ++ all_events g.net s.behind) w z 0 (ap (λ (es : List Event). played g w 0 es) (sym events) ∙ h) in
      let same : k.0 ≡ s.reached = (let e = sym k.1 ∙ s.done in cc) in
      no_stop s.reached z s.left (events_of g.net s.order.order) (all_events g.net s.behind) s.at stop.why kind s.stops
      (subst (λ (v : World). played g v 0 (events_of g.net s.order.order ++ all_events g.net s.behind) ≡ Ok z) same k.2)

-- orders of one event each
pub same_events : (net : Plan) (os : List ScheduledOrder) (es : List Event) → map order_of os ≡ as_orders es → all_events net os ≡ es
same_events net [] [] h = refl
same_events net [] (e ∷ es) h = absurd cc
same_events net (o ∷ os) [] h = absurd cc
same_events net (o ∷ os) (e ∷ es) h =
    let here : o.order ≡ order.One e = cc in
    let more : map order_of os ≡ as_orders es = cc in
    ap (λ (k : Order). events_of net k ++ all_events net os) here ∙ ap (λ (k : List Event). e ∷ k) (same_events net os es more)
