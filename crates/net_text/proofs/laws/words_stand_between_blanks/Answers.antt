use Rattle.net_text.proofs.LayoutLemmas.{words_stand_between_blanks}
use Rattle.net_text.proofs.laws.words_stand_between_blanks.Goals as goal

pub returns : goal.returns
returns c = words_stand_between_blanks
