-- A step of a router leaves the width of AS numbers on each of its sides.
use Rattle.std.proofs.Common.{◌≡◌, ℕ, ◌==◌, Bool, true, false, ◌&&◌, cond, ◌++◌, refl, ap, ◌∙◌, Option, None, Some}
use Rattle.prefix_lanes.specs.Bits.{PrefixView}
use Rattle.bgp_codec.specs.declared.update.Update.{Update}
use Rattle.link_epoch.specs.declared.link_end.Sign.TheVariants as sign
use Rattle.session_fsm.specs.declared.event.FsmEvent.TheVariants.{ManualStart, ManualStop}
use Rattle.run_model.specs.Network.{alone, puts, takes, offers}
use Rattle.outbox.specs.declared.item.What.TheVariants as item
use Rattle.router_model.specs.declared.command.Command.TheVariants as command
use Rattle.router_model.specs.Settings.{Setting, linked}
use Rattle.router_model.specs.Sides.{Side, NoMessage, at_hand, carried, front, without_front, fed, uses, told, marked, is_up}
use Rattle.router_model.specs.State.{Router, rule_of, best_path, undecided, unadvertised}
use Rattle.router_model.specs.Step.{RouterEvent, Obeys, Ticks, Handles, Decides, Advertises, after, meets_at, resets_at, second_at, signed_at, handled_at, heeds, is_greater, put_from, telling_to, telling_of}
use Rattle.router_runs.proofs.Lower.{Laws}
use Rattle.router_runs.proofs.Events.{keeps_sides, marked_side}

where_moved : (c : Bool) (s t : Side) → t.width ≡ s.width → (cond c t s).width ≡ s.width
where_moved true s t same = same
where_moved false s t same = refl

where_told : (v w : ℕ) (x : Router) (q : Option PrefixView) (update : PrefixView → Update) → ((telling_to x w q update).sides v).width ≡ (x.sides v).width
where_told v w x None update = refl
where_told v w x (Some q) update = where_moved (v == w) (x.sides v) (told (x.sides v) (update q)) refl

module _ (laws : Laws) (g : Setting) (u v : ℕ) (x : Router) where
  pub keeps_width : (e : RouterEvent) → ((after g u x e).sides v).width ≡ (x.sides v).width
  keeps_width (alone (Obeys (command.Start w))) = where_moved (v == w) (x.sides v) (carried NoMessage (x.sides v) (meets_at g u x w ManualStart)) refl
  keeps_width (alone (Obeys (command.Stop w))) = where_moved (v == w) (x.sides v) (carried NoMessage (x.sides v) (meets_at g u x w ManualStop)) refl
  keeps_width (alone (Obeys (command.Reset w))) = where_moved (v == w) (x.sides v) (carried NoMessage (x.sides v) (resets_at g u x w)) refl
  keeps_width (alone (Obeys (command.Originate q))) = refl
  keeps_width (alone (Obeys (command.Withdraw q))) = refl
  keeps_width (alone (Obeys (command.Snapshot s))) = where_moved (linked g.net u v && is_up (x.sides v)) (x.sides v) (marked s (x.sides v)) refl
  keeps_width (alone (Obeys command.Restart)) = where_moved (linked g.net u v) (x.sides v) (carried NoMessage (x.sides v) (meets_at g u x v ManualStop)) refl
  keeps_width (alone Ticks) = where_moved (linked g.net u v) (x.sides v) (carried NoMessage (x.sides v) (second_at g u x v)) refl
  keeps_width (alone (Handles w)) =
      let s : Side = cond (v == w) (without_front (x.sides v)) (x.sides v) in
      where_moved (v == w) s (carried (at_hand (front (rule_of g.net u w) (x.sides w).held)) s (handled_at g u x w)) refl
      ∙ where_moved (v == w) (x.sides v) (without_front (x.sides v)) refl
  keeps_width (alone Decides) = ap (λ (s : Side). s.width) (keeps_sides laws x (undecided g u x) (best_path g u x) v)
  keeps_width (alone (Advertises w)) = where_told v w x (unadvertised g u x w) (telling_of g u x)
  keeps_width (puts w i) = where_moved (v == w) (x.sides v) (put_from (x.sides v) i) refl
  keeps_width (takes w (item.Dial e)) = where_moved (v == w) (x.sides v) (carried NoMessage (x.sides v) (signed_at g u x w (sign.Dial e))) refl
  keeps_width (takes w (item.Piece e octets)) =
      where_moved (v == w) (x.sides v) (fed (x.sides v) e octets) (where_moved (uses (x.sides v).link e) (x.sides v) (record (x.sides v) { held = (x.sides v).held ++ octets }) refl)
  keeps_width (takes w (item.Mark e s)) =
      ap (λ (t : Side). t.width) (marked_side laws g u v w s x (heeds g u x w e) (is_greater x s))
      ∙ where_moved (heeds g u x w e && is_greater x s) (x.sides v) (cond (linked g.net u v && is_up (x.sides v)) (marked s (x.sides v)) (x.sides v))
      (where_moved (linked g.net u v && is_up (x.sides v)) (x.sides v) (marked s (x.sides v)) refl)
  keeps_width (takes w (item.Shut e)) = where_moved (v == w) (x.sides v) (carried NoMessage (x.sides v) (signed_at g u x w (sign.Shut e))) refl
  keeps_width (offers made) = refl
