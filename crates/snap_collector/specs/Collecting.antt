-- Offers, members and outcomes as the code has them, read as those of the definitions.
use Rattle.std.specs.Prelude.{ℕ, ◌==◌, Bool, List, map}
use Rattle.std.specs.List.{list_any}
use Rattle.run_model.specs.Offers as model
use Rattle.run_model.specs.Offers.{made_of, number_of}
use Rattle.snap_marker.specs.declared.part.Offer.{Offer}
use Rattle.snap_marker.specs.Recordings.{MadeOffer}
use Rattle.snap_marker.specs.Parts as parts
use Rattle.snap_marker.specs.Parts.{offer_of, cause_of}
use Rattle.snap_collector.specs.declared.members.Member.{Member as MemberOf}
use Rattle.snap_collector.specs.declared.outcome.Why.{Why}
use Rattle.snap_collector.specs.declared.outcome.Why.TheVariants as why
use Rattle.snap_collector.specs.declared.outcome.Outcome.{Outcome}
use Rattle.snap_collector.specs.declared.outcome.Outcome.TheVariants as outcome
use Rattle.snap_collector.specs.Verdicts.{Member}

-- the routers with their peers
abbrev pub member_of : MemberOf → Member
member_of m = record { router = m.router; peers = m.peers }

-- an offer with its router
abbrev pub made_by : Offer → MadeOffer
made_by o = made_of (parts.router_of o) (offer_of o)

abbrev pub made_in : List Offer → List MadeOffer
made_in offers = map made_by offers

abbrev pub why_of : Why → model.Why
why_of why.Pending = model.Pending
why_of (why.InFlight v) = model.InFlight v
why_of (why.Mismatch v) = model.Mismatch v

abbrev pub outcome_of : Outcome → model.Outcome
outcome_of outcome.Waiting = model.Waiting
outcome_of (outcome.Abandoned l) = model.Abandoned l.router l.peer l.epoch (cause_of l.cause)
outcome_of (outcome.Moving u w) = model.Moving u (why_of w)
outcome_of outcome.Settled = model.Settled

-- a router has offered
abbrev pub has_offered : List MadeOffer → ℕ → Bool
has_offered ms u = list_any (λ m. u == m.router) ms
