-- What tests and words say of a path that is heard.
use Rattle.std.proofs.Common.{◌≡◌, ◌≢◌, ℕ, false, List, [], sym, ap}
use Rattle.std.specs.Prelude.{IsTrue}
use Rattle.rib_tables.specs.declared.word.Word.{Word}
use Rattle.rib_tables.specs.declared.word.Word.TheVariants.{Sequence, Other}
use Rattle.rib_tables.specs.Words.{path_in}

pub never : IsTrue false → ⊥
never e = absurd cc

-- a word that gives a path that is not empty is that path
pub word_is : (w : Word) (path : List ℕ) → path ≡ path_in w → path ≢ [] → w ≡ Sequence path
word_is (Sequence p) path e some = ap Sequence (sym e)
word_is Other path e some = absurd (some e)
