use Rattle.std.proofs.Common.{sym, ◌∙◌, length}
use Rattle.std.proofs.lemmas.Bool.{eqb-true}
use Rattle.std.proofs.lemmas.List.{nil_from_length}
use Rattle.ranked_policy.proofs.ChoiceLemmas.{path_by_none}
use Rattle.stable_paths.proofs.choosing.path_along.Goals as goal

pub returns-then-is_empty : goal.returns-then-is_empty
returns-then-is_empty c =
    let way = c.args.way.now in
    c.new.ensures ∙ sym (path_by_none c.args.router way (nil_from_length way (eqb-true (length way) 0 (sym c.is_empty.ensures ∙ c.if-is_empty.true))))
