-- what was put, before what is left, is what all are printed as
use Rattle.std.proofs.Common.{◌≡◌, ◌++◌, drop}
use Rattle.std.specs.List.{flat_map}
use Rattle.net_text.specs.Printing.{cap_text}
use Rattle.net_text.proofs.messages.put_param.Given as goal

abbrev pub invariant-loop-cap : goal.invariant-loop-cap
invariant-loop-cap l = record { text : l.out.text ++ flat_map cap_text (drop l.cap-index l.caps) ≡ l.fn.out.text ++ flat_map cap_text l.caps; front : l.out.front ≡ l.fn.out.front }
