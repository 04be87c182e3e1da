-- A call of the code as one of the definitions, and whether its caller has room.
-- c is a command, v a router's number.
use Rattle.std.specs.Prelude.{ℕ, ◌+◌, nat_lt, Bool, true, false, Result, Ok, Err, IsOk}
use Rattle.router_model.specs.declared.refusal.RouterError.{RouterError}
use Rattle.router_model.specs.declared.refusal.RouterError.TheVariants as error
use Rattle.router_model.specs.declared.refusal.Stepped.{Stepped}
use Rattle.router_model.specs.declared.refusal.Stepped.TheVariants as stepped
use Rattle.router_model.specs.Calls as calls
use Rattle.run_model.specs.declared.stamps.TheConstants.{GREATEST_STAMP}
use Rattle.router_core.specs.declared.router.call.Call.{Call}
use Rattle.router_core.specs.declared.router.call.Call.TheVariants as call

-- a call of the code as one of the definitions
abbrev pub call_of : Call → calls.Call
call_of (call.Obey c) = calls.Obey c
call_of call.Tick = calls.Tick
call_of (call.Handle v) = calls.Handle v
call_of call.Decide = calls.Decide
call_of call.Advertise = calls.Advertise

-- a step is done only if its caller has room for the event
abbrev pub NeedsRoom : {T E : Type 0} → Result Stepped RouterError → Result T E → Type 0
NeedsRoom (Ok stepped.Did) room = IsOk room
NeedsRoom (Ok stepped.Nothing) room = Unit {0}
NeedsRoom (Err why) room = Unit {0}

-- why a step is not done: no stamp is left, or else its caller has no room
abbrev pub why_no_step : (stamp_ends : Bool) → RouterError
why_no_step true = error.StampEnd
why_no_step false = error.Memory

-- why a step behind this stamp is not done
abbrev pub no_step : ℕ → RouterError
no_step stamp = why_no_step (nat_lt GREATEST_STAMP (stamp + 1))
