pub mod WarningLemmas
