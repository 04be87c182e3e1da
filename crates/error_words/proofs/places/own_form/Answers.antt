-- the rows of the place are those of its table
use Rattle.error_words.proofs.places.own_form.Goals as goal

pub returns-in-Network : goal.returns-in-Network
returns-in-Network c = rw c.in-Network.is c.found_in.ensures

pub returns-in-Schedule : goal.returns-in-Schedule
returns-in-Schedule c = rw c.in-Schedule.is c.found_in-in-Schedule.ensures

pub returns-in-Assignment : goal.returns-in-Assignment
returns-in-Assignment c = rw c.in-Assignment.is c.found_in-in-Assignment.ensures
