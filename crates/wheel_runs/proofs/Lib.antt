mod BoundLemmas
mod WalkLemmas
mod ChangeLemmas
mod OneLemmas
mod SettleLemmas
mod ExampleLemmas
mod EverywhereLemmas
mod TurningLemmas
