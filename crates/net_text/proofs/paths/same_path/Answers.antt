use Rattle.std.proofs.Common.{ap, ◌∙◌}
use Rattle.std.specs.Ordering.{is_eq}
use Rattle.net_text.specs.Words.{path_of}
use Rattle.net_text.proofs.RepeatLemmas.{same_list}
use Rattle.net_text.proofs.paths.same_path.Goals as goal

pub returns : goal.returns
returns c = c.is_eq.ensures ∙ ap is_eq c.compare.ensures ∙ same_list (path_of c.args.word.now) (path_of c.args.other.now)
