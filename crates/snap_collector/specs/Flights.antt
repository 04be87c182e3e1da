-- The UPDATEs that were in flight as a snapshot was recorded (Chandy and Lamport 1985): what the channels of its parts hold.
use Rattle.std.specs.Prelude.{ℕ, ◌==◌, Bool, true, false, cond, List, [], ◌∷◌, map, Option, None, Some}
use Rattle.std.specs.List.{flat_map}
use Rattle.bgp_codec.specs.declared.message.Message.{Message}
use Rattle.bgp_codec.specs.declared.message.Message.TheVariants.{UpdateMsg}
use Rattle.run_model.specs.Offers.{Finished, Lost, Outcome, Waiting, Abandoned, Moving, Settled}
use Rattle.snap_marker.specs.Recordings.{RouterOffer, MadeOffer, RouterPart}
use Rattle.snap_collector.specs.declared.flights.InFlight.{InFlight}
use Rattle.snap_collector.specs.Verdicts.{Member, verdict}

-- a message in flight: the router acted on it behind its recording, and the peer had sent it before its own recording
pub record Flight : Type 0 where
  pub router : ℕ
  pub peer : ℕ
  pub message : Message

abbrev pub flight_of : InFlight → Flight
flight_of f = record { router = f.router; peer = f.peer; message = UpdateMsg f.update }

-- the messages from a peer
abbrev pub flight_from : ℕ → ℕ → Message → Flight
flight_from u v m = record { router = u; peer = v; message = m }

abbrev pub flights_from : ℕ → ℕ → List Message → List Flight
flights_from u v ms = map (flight_from u v) ms

-- the messages in flight of a router's part, by its peers
abbrev pub flights_of : Member → RouterPart → List Flight
flights_of m part = flat_map (λ v. flights_from m.router v (part.channel v)) m.peers

-- the first part of a router
abbrev pub part_or : RouterOffer → Option RouterPart → Option RouterPart
part_or (Finished s part) rest = Some part
part_or (Lost s v e cause) rest = rest

abbrev pub part_in : List MadeOffer → ℕ → Option RouterPart
part_in [] u = None
part_in (m ∷ ms) u = cond (u == m.router) (part_or m.offer (part_in ms u)) (part_in ms u)

-- the messages in flight of a router's first part
abbrev pub flights_by : Member → Option RouterPart → List Flight
flights_by m None = []
flights_by m (Some part) = flights_of m part

abbrev pub flights_at : List MadeOffer → Member → List Flight
flights_at ms m = flights_by m (part_in ms m.router)

-- every router has a part of the snapshot
abbrev pub is_whole : Outcome → Bool
is_whole Waiting = false
is_whole (Abandoned u v e cause) = false
is_whole (Moving u why) = true
is_whole Settled = true

-- the messages in flight of a snapshot that is settled or moving, by router, then peer, in the order acted on; none of
-- any other
abbrev pub in_flight_of : List Member → List MadeOffer → List Flight
in_flight_of members ms = cond (is_whole (verdict members ms)) (flat_map (flights_at ms) members) []
