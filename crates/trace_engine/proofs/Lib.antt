pub mod CallLemmas
pub mod LawLemmas
pub mod RunLemmas
pub mod TextLemmas
pub mod NoteLemmas
