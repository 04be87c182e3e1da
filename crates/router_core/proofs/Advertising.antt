-- Who is told next, in each setting of the network, and the step that tells it.
use Rattle.std.proofs.Common.{◌≡◌, ℕ, ◌+◌, Bool, true, false, Option, None, Some, refl, sym, ap, subst, ◌∙◌}
use Rattle.std.specs.Prelude.{nat_lt, Result, Ok, Err}
use Rattle.std.specs.List.{find}
use Rattle.prefix_lanes.specs.Bits.{PrefixView}
use Rattle.run_model.specs.Network.{alone}
use Rattle.ranked_policy.specs.Plans.{Plan}
use Rattle.router_model.specs.declared.refusal.RouterError.{RouterError}
use Rattle.router_model.specs.declared.refusal.RouterError.TheVariants as error
use Rattle.router_model.specs.declared.refusal.Stepped.{Stepped}
use Rattle.router_model.specs.declared.refusal.Stepped.TheVariants as stepped
use Rattle.router_model.specs.Settings.{Setting, peers}
use Rattle.router_model.specs.State.{unadvertised, is_waiting_peer}
use Rattle.router_model.specs.Step.{Advertises, telling_to, telling_of}
use Rattle.router_model.specs.Calls.{Stamped, Advertise, Gives, answer, judged, has_room, stamped_after}
use Rattle.run_model.specs.declared.stamps.TheConstants.{GREATEST_STAMP}
use Rattle.router_core.specs.declared.router.choose.Next.TheVariants as next
use Rattle.router_core.specs.Views.{RouterView, IsNext, Tells, Ends, plain_of, unchosen, waits_at, has_room_at, told_to}

module _ (g : Setting) (x : RouterView) (same : g.net ≡ x.net) where
  rooms : find (has_room g x.number (plain_of x).router) (peers g.net x.number) ≡ find (has_room_at x) (peers x.net x.number)
  rooms = ap (λ (net : Plan). find (has_room (unchosen net) x.number (plain_of x).router) (peers net x.number)) same

  waits : find (is_waiting_peer g x.number (plain_of x).router) (peers g.net x.number) ≡ find (waits_at x) (peers x.net x.number)
  waits = ap (λ (net : Plan). find (is_waiting_peer (unchosen net) x.number (plain_of x).router) (peers net x.number)) same

  pub is_blocked : (v : ℕ) → IsNext x (next.Blocked v) → Gives g x.number (Err (error.Blocked v)) (answer g x.number (plain_of x) Advertise) (plain_of x) Advertise (plain_of x)
  is_blocked v h = rw (rooms ∙ h.0, waits ∙ h.1) (refl, refl)

  pub is_nobody : IsNext x next.Nobody → Gives g x.number (Ok stepped.Nothing) (answer g x.number (plain_of x) Advertise) (plain_of x) Advertise (plain_of x)
  is_nobody h = rw (rooms ∙ h.0, waits ∙ h.1) (refl, refl)

  told_is : (v : ℕ) (q : PrefixView) → unadvertised (unchosen x.net) x.number (plain_of x).router v ≡ Some q
      → told_to (plain_of x) x.net x.number v q ≡ stamped_after g x.number (plain_of x) Advertise (alone (Advertises v))
  told_is v q h =
      let waits : unadvertised g x.number (plain_of x).router v ≡ Some q = ap (λ (net : Plan). unadvertised (unchosen net) x.number (plain_of x).router v) same ∙ h in
      ap (λ (net : Plan). told_to (plain_of x) net x.number v q) (sym same)
      ∙ ap (λ (o : Option PrefixView). record { router = telling_to (plain_of x).router v o (telling_of g x.number (plain_of x).router); stamp = x.stamp + 1 }) (sym waits)

  module _ (r : Result Stepped RouterError) (v : ℕ) (q : PrefixView) (y : RouterView) (waits_for : unadvertised (unchosen x.net) x.number (plain_of x).router v ≡ Some q) where
    by_stamp : (late : Bool) → Ends late false r (plain_of x) (told_to (plain_of x) x.net x.number v q) (plain_of y)
        → Gives g x.number r (judged None (Some (alone (Advertises v))) late false) (plain_of x) Advertise (plain_of y)
    by_stamp true h = h
    by_stamp false h = subst (λ (z : Stamped). Ends false false r (plain_of x) z (plain_of y)) (told_is v q waits_for) h

    pub tells : find (has_room_at x) (peers x.net x.number) ≡ Some v → Tells r x v q y → Gives g x.number r (answer g x.number (plain_of x) Advertise) (plain_of x) Advertise (plain_of y)
    tells first h = rw (rooms ∙ first) (by_stamp (nat_lt GREATEST_STAMP (x.stamp + 1)) h)
