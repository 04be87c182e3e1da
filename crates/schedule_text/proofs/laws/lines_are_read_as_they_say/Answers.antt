use Rattle.schedule_text.proofs.SayingLemmas.{lines_are_read_as_they_say}
use Rattle.schedule_text.proofs.laws.lines_are_read_as_they_say.Goals as goal

pub returns : goal.returns
returns c = lines_are_read_as_they_say c.words_stand_between_blanks.ensures
