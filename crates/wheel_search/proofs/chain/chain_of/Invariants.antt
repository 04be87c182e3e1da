-- the places of the paths passed are in their chains
use Rattle.std.proofs.Common.{take}
use Rattle.wheel_search.specs.Chains.{IsChain}
use Rattle.wheel_search.proofs.chain.chain_of.Given as goal

abbrev pub invariant-loop-place : goal.invariant-loop-place
invariant-loop-place l = IsChain (take l.place l.paths) l.chain.items
