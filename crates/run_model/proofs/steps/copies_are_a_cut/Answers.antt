-- By the places of recordings.
use Rattle.run_model.proofs.StepFacts.{copies_are_a_cut, copies_are_marked, copies_are_the_state}
use Rattle.run_model.proofs.steps.copies_are_a_cut.Goals as goal

pub returns : goal.returns
returns g c = record { cut = copies_are_a_cut; marked = copies_are_marked; state = copies_are_the_state }
