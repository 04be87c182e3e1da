use Rattle.std.proofs.Common.{◌-◌, ◌≤◌, ◌++◌, ℕ, List, None, length, take}
use Rattle.text_engines.specs.Decoding.{Leads}
use Rattle.text_engines.proofs.stream.put_messages.Given as goal

-- what was printed is what is printed for the octets so far
abbrev pub invariant-front : goal.invariant-front
invariant-front l =
    (l.at ≤ length l.octets) × ((before : List ℕ) → Leads l.rule before l.fn.out.items None → Leads l.rule (before ++ take l.at l.octets) l.out.items None)

abbrev pub decreases-front : goal.decreases-front
decreases-front l = length l.octets - l.at
