-- the lines passed and those that are left say what all say
use Rattle.std.proofs.Common.{◌≡◌, length}
use Rattle.ranked_policy.specs.Plans.{IsSettings}
use Rattle.net_text.specs.Lexing.{lines_of}
use Rattle.net_text.specs.Lines.{settings_of, settings_behind}
use Rattle.net_text.proofs.settings.settings_of.Given as goal

abbrev pub invariant-lines : goal.invariant-lines
invariant-lines l = record { value : settings_of (lines_of l.text) ≡ settings_behind l.settings (lines_of l.left); range : IsSettings l.settings }

abbrev pub decreases-lines : goal.decreases-lines
decreases-lines l = length l.left
