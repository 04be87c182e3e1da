-- each place of the level passed answers
use Rattle.std.proofs.Common.{◌≡◌, ◌<◌, ℕ, get_or}
use Rattle.stable_search.specs.Following.{Answers}
use Rattle.stable_search.proofs.following.all_answer.Given as goal

abbrev pub invariant-loop-place : goal.invariant-loop-place
invariant-loop-place l = (k : ℕ) → k < l.place → get_or l.levels k 0 ≡ l.level → Answers l.ends l.sets k
