-- By the places of recordings.
use Rattle.run_model.proofs.CutPlaces.{recorded_at_one_place}
use Rattle.run_model.proofs.WholeCut.{finished_was_recorded, recordings_make_a_cut}
use Rattle.run_model.proofs.OctetCut.{taken_octets_are_inside}
use Rattle.run_model.proofs.places.recordings_make_a_cut.Goals as goal

pub returns : goal.returns
returns g c = record { place = recorded_at_one_place; finished = finished_was_recorded; cut = recordings_make_a_cut; octets = taken_octets_are_inside }
