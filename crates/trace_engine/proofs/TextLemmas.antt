-- The text of orders, one behind the other.
use Rattle.std.proofs.Common.{◌≡◌, Bool, List, [], ◌∷◌, ◌++◌, ℕ, ap, sym, subst, refl, ◌∙◌, append_assoc}
use Rattle.std.proofs.lemmas.List.{append-nil}
use Rattle.router_model.specs.Settings.{Setting}
use Rattle.schedule_text.specs.declared.schedule.ScheduledOrder.{ScheduledOrder}
use Rattle.world_core.specs.World.{World}
use Rattle.world_core.specs.Orders.{events_of}
use Rattle.world_core.specs.Watching.{reached}
use Rattle.world_core.proofs.WatchedRounds.{reached_is}
use Rattle.schedule_text.specs.Obeying.{all_events, LeadTo}
use Rattle.schedule_text.proofs.ObeyingLemmas.{played_parts}
use Rattle.trace_engine.specs.Tracing.{OrderText, OrdersText}

module _ (shows : Bool) (g : Setting) where
  -- orders that are all obeyed, and one more
  pub orders_behind : (os : List ScheduledOrder) (o : ScheduledOrder) (w y : World) (s t : List ℕ) → LeadTo g w os y → OrdersText shows g w os s → OrderText shows g y o t → OrdersText shows g w (os ++ o ∷ []) (s ++ t)
  orders_behind [] o w y s t h none k =
      let same : w ≡ y = cc in
      subst (λ (r : List ℕ). OrdersText shows g w (o ∷ []) (r ++ t)) (sym none) (t, [], subst (λ (v : World). OrderText shows g v o t) (sym same) k, refl, sym (append-nil t))
  orders_behind (p ∷ os) o w y s t h k more =
      let l = played_parts g (events_of g.net p.order) (all_events g.net os) w y 0 h in
      let is : reached g w (events_of g.net p.order) ≡ l.0 = reached_is g w l.0 (events_of g.net p.order) l.1 in
      let rest = orders_behind os o l.0 y k.1 t l.2 (subst (λ (v : World). OrdersText shows g v os k.1) is k.3) more in (
        k.0,
        k.1 ++ t,
        k.2,
        subst (λ (v : World). OrdersText shows g v (os ++ o ∷ []) (k.1 ++ t)) (sym is) rest,
        ap (λ (r : List ℕ). r ++ t) k.4 ∙ append_assoc k.0 k.1 t,
      )
