pub mod BlankLemmas
pub mod CheckLemmas
pub mod DecodeLemmas
pub mod DigitLemmas
mod HexLanes
pub mod PlaceLemmas
pub mod PrintingLemmas
pub mod WritingLemmas
pub mod OneText
