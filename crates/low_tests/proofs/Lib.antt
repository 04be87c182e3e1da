pub mod SpeakerExamples
pub mod GatheringExamples
