use Rattle.std.proofs.Common.{◌∙◌, sym}
use Rattle.net_text.proofs.StepLemmas.{assigned_takeable}
use Rattle.net_text.proofs.assignment.read_line.Goals as goal

pub take_assigned-requires : goal.take_assigned-requires
take_assigned-requires c = λ named. assigned_takeable _ _ c.in-Some-three_words.path.now named (sym c.in_ok-judge_assigned.ensures) (sym c.is_short_assigned.ensures ∙ c.if-not-is_short_assigned.false)
