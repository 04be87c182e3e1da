-- Why a pipe of some capacity is refused.
use Rattle.std.specs.Prelude.{ℕ, ltb, ◌||◌, if◌then◌else◌}
use Rattle.ruled_pipe.specs.declared.ends.TheConstants.{MOST_ITEMS}
use Rattle.ruled_pipe.specs.declared.refusal.PipeError.{PipeError}
use Rattle.ruled_pipe.specs.declared.refusal.PipeError.TheVariants.{Memory, BadCapacity}

-- a capacity outside 1 to the most items is refused as such, any other only for want of memory
abbrev pub refusal_of : ℕ → PipeError
refusal_of capacity = if ltb capacity 1 || ltb MOST_ITEMS capacity then BadCapacity else Memory
