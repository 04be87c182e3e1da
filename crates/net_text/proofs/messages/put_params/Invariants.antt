-- what was put, before what is left, is what all are printed as
use Rattle.std.proofs.Common.{◌≡◌, ◌++◌, drop}
use Rattle.std.specs.List.{flat_map}
use Rattle.net_text.specs.Printing.{param_text}
use Rattle.net_text.proofs.messages.put_params.Given as goal

abbrev pub invariant-loop-caps : goal.invariant-loop-caps
invariant-loop-caps l = record { text : l.out.text ++ flat_map param_text (drop l.caps-index l.params) ≡ l.fn.out.text ++ flat_map param_text l.params; front : l.out.front ≡ l.fn.out.front }
