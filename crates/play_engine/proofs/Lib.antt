pub mod PlayLemmas
pub mod CutLemmas
pub mod OneText
