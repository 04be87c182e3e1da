pub mod FrontLemmas
pub mod StreamLemmas
