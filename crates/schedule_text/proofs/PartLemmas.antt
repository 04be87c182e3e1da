-- What a router recorded, as the code finds it among the offers that are kept.
use Rattle.std.proofs.Common.{◌≡◌, ℕ, ◌==◌, Bool, true, false, cond, List, [], ◌∷◌, map, Option, refl, ap, ◌∙◌}
use Rattle.std.specs.Option.{option_map}
use Rattle.snap_marker.specs.declared.part.Part.{Part}
use Rattle.snap_marker.specs.declared.part.Offer.{Offer}
use Rattle.snap_marker.specs.declared.part.Offer.TheVariants as offer
use Rattle.snap_marker.specs.Parts.{part_of}
use Rattle.snap_marker.specs.Recordings.{MadeOffer}
use Rattle.snap_collector.specs.Collecting.{made_in, member_of}
use Rattle.snap_collector.specs.Collector.{CollectorView, IsPartOf, first_part, kept_of, made_for}
use Rattle.schedule_text.specs.Routes.{recorded}

first_is : (os : List Offer) (u : ℕ) → option_map part_of (first_part os u) ≡ recorded (made_in os) u
first_is [] u = refl
first_is (offer.Part p ∷ os) u =
    elim (u == p.router) as (λ (b : Bool). option_map part_of (cond b (Option.Some p) (first_part os u)) ≡ cond b (Option.Some (part_of p)) (recorded (made_in os) u)) [
      | true ↦ refl
      | false ↦ first_is os u
    ]
first_is (offer.Lost l ∷ os) u =
    elim (u == l.router) as (λ (b : Bool). option_map part_of (first_part os u) ≡ cond b (recorded (made_in os) u) (recorded (made_in os) u)) [
      | true ↦ first_is os u
      | false ↦ first_is os u
    ]

-- the part that the code answers is what the router recorded
pub part_is_recorded : (c : CollectorView) (s u : ℕ) (part : Option Part) → IsPartOf c s u part → option_map part_of part ≡ recorded (kept_of (map member_of c.members) (made_for c s)) u
part_is_recorded c s u part h =
    ap (option_map part_of) h.2 ∙ first_is h.0 u ∙ ap (λ (ms : List MadeOffer). recorded ms u) h.1.exact
