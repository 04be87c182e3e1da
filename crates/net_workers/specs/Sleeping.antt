-- The states of a worker that may sleep, and what is due.
use Rattle.std.specs.Prelude.{ℕ}
use Rattle.net_workers.specs.declared.sleepers.bed.Rest.{Rest}
use Rattle.net_workers.specs.declared.sleepers.bed.Rest.TheVariants.{Awake, Drowsy, Asleep, Going}

-- the number of each state
abbrev pub code_of : Rest → ℕ
code_of Awake = 0
code_of Drowsy = 1
code_of Asleep = 2
code_of Going = 3

-- what leads from one state to another, but for a wake, which makes any worker awake: a Turn did nothing; the next did
-- nothing either; another worker lets one go on that sleeps
abbrev pub MayBecome : Rest → Rest → Type 0
MayBecome Awake Drowsy = Unit {0}
MayBecome Drowsy Asleep = Unit {0}
MayBecome Asleep Going = Unit {0}
MayBecome _ _ = ⊥
