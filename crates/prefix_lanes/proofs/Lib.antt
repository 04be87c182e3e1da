mod BitLists
mod Candidates
mod Found
mod Lanes
mod MaskedSoFar
mod OneAnswer
mod Prefixes
