-- what was put, before what is left, is what all rims are printed as
use Rattle.std.proofs.Common.{◌≡◌, ◌++◌, drop}
use Rattle.safe_engine.specs.Listing.{rims_text}
use Rattle.safe_engine.proofs.lines.put_rims.Given as goal

abbrev pub invariant-loop-rim : goal.invariant-loop-rim
invariant-loop-rim l = l.out.items ++ rims_text (drop l.rim-index l.rims) ≡ l.fn.out.items ++ rims_text l.rims
