use Rattle.std.proofs.Common.{◌++◌, List, map, take, sym, ap, ◌∙◌}
use Rattle.std.proofs.lemmas.List.{append-nil}
use Rattle.ranked_policy.specs.Tests.{is_simple}
use Rattle.net_text.specs.Lexing.{Text, words_of}
use Rattle.net_text.specs.Words.{value_of}
use Rattle.net_text.proofs.DigestLemmas.{single_digests}
use Rattle.net_text.proofs.paths.are_apart.Goals as goal

pub returns-then-are_single : goal.returns-then-are_single
returns-then-are_single c =
    let first = take c.args.brief.now.count c.args.brief.now.digests in
    let alone = ap (λ (ps : List Text). first ++ map value_of ps) c.none.ensures ∙ append-nil first in
    sym (single_digests (words_of c.args.words.now) (ap is_simple (sym (c.requires.brief.digests c.requires.few)) ∙ ap is_simple (sym alone) ∙ sym c.are_single.ensures ∙ c.if-are_single.true))
