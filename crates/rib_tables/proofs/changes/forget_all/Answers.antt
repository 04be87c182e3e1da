use Rattle.std.proofs.Common.{List, ap, sym, ◌∙◌}
use Rattle.std.specs.List.{slice_get}
use Rattle.rib_tables.specs.declared.row.Row.{Row}
use Rattle.rib_tables.proofs.changes.forget_all.Goals as goal

pub forget_words-requires-clause-words : goal.forget_words-requires-clause-words
forget_words-requires-clause-words c = λ i r at. c.requires.words i r (ap (λ (rs : List Row). slice_get rs i) (sym c.as_mut_slice.ensures.value) ∙ at)
