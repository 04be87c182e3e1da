-- no path that was passed is it
use Rattle.std.proofs.Common.{◌≡◌, ◌+◌, ◌∷◌, drop}
use Rattle.why_engine.specs.Explaining.{place_in}
use Rattle.why_engine.proofs.words.place_among.Given as goal

abbrev pub invariant-loop-place : goal.invariant-loop-place
invariant-loop-place l = place_in (l.place + 1) (drop l.place l.paths) (l.router ∷ l.said) ≡ place_in 1 l.paths (l.router ∷ l.said)
