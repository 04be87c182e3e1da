-- what was put, before what is left, is what all choices are printed as
use Rattle.std.proofs.Common.{◌≡◌, ◌++◌, drop}
use Rattle.stable_search.specs.Every.{choices_of}
use Rattle.stable_engine.specs.Listing.{choices_text}
use Rattle.stable_engine.proofs.parts.put_choices.Given as goal

abbrev pub invariant-loop-choice : goal.invariant-loop-choice
invariant-loop-choice l = l.out.items ++ choices_text (drop l.choice (choices_of l.part)) ≡ l.fn.out.items ++ choices_text (choices_of l.part)
