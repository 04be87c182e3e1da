use Rattle.std.proofs.Common.{◌≡◌, ap, ◌∙◌, refl}
use Rattle.std.specs.Ordering.{nat_cmp}
use Rattle.std.proofs.lemmas.Iterator.Consumers.{YieldsList-from_first}
use Rattle.std.proofs.lemmas.Iterator.Search.{cmp_from_yields_List}
use Rattle.net_text.specs.Words.{path_of}
use Rattle.net_text.specs.Taking.{numbers_left}
use Rattle.net_text.proofs.repeats.compare.Goals as goal

pub returns : goal.returns
returns c =
    cmp_from_yields_List {xs = path_of c.args.word.now} {ys = path_of c.args.other.now} (λ x y. y ≡ x) c.of-2.result nat_cmp c.cmp.result c.cmp.ensures.ran
    (YieldsList-from_first (λ n. n) numbers_left _ c.of.ensures)
    (λ it is. YieldsList-from_first (λ n. n) numbers_left _ (ap numbers_left is ∙ c.of-2.ensures)) (λ x y. refl)
