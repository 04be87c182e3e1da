pub mod EntryLists
pub mod LinkFacts
pub mod AfterClose
pub mod Incarnations
pub mod MarkerFacts
pub mod IncarnationRuns
pub mod OctetFacts
pub mod SessionFacts
pub mod SessionRuns
mod RecordingFacts
mod RecordingRuns
mod SettledFacts
mod StayFacts
mod PlaceFacts
mod OfferFacts
mod OfferRuns
mod OutcomeFacts
mod OneOutcome
mod CutPlaces
mod WholeCut
mod OctetCut
mod NetworkLinkRuns
mod QuietFacts
mod OutcomeRoutes
mod ExampleRuns
mod MoreExampleRuns
mod TwinRuns
mod RankedFacts
pub mod Beginnings
pub mod Runs
pub mod Pairs
pub mod SameLists
pub mod Gathers
pub mod OwnEvents
pub mod Stripping
pub mod StampedOrders
pub mod TakesAndPuts
pub mod Exchanges
pub mod CutJournals
pub mod CutLists
pub mod CutOrders
pub mod CutRuns
pub mod CutOffers
pub mod NetworkSteps
pub mod Liftings
pub mod StampedGathers
mod StepFacts
mod FactLaws
mod StreamFacts
mod CutLengths
