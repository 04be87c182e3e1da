-- what was put, before what is left, is what all parts are printed as
use Rattle.std.proofs.Common.{◌≡◌, ◌++◌, drop}
use Rattle.stable_engine.specs.Listing.{follows_text}
use Rattle.stable_engine.proofs.parts.put_follows.Given as goal

abbrev pub invariant-loop-part : goal.invariant-loop-part
invariant-loop-part l = l.out.items ++ follows_text l.prefix (drop l.part-index l.parts) ≡ l.fn.out.items ++ follows_text l.prefix l.parts
