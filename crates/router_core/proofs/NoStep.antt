-- A step that is not done, since no stamp is left or its caller has no room.
use Rattle.std.proofs.Common.{ℕ, Bool, true, false, Some, None, refl}
use Rattle.std.specs.Prelude.{Err}
use Rattle.router_model.specs.Settings.{Setting}
use Rattle.router_model.specs.Step.{RouterEvent}
use Rattle.router_model.specs.Calls.{Stamped, Call, Gives, judged}
use Rattle.router_core.specs.Views.{Ends}
use Rattle.router_core.specs.Calling.{why_no_step}

pub ends_no_step : (s : Bool) (x z : Stamped) → Ends s false (Err (why_no_step s)) x z x
ends_no_step true x z = (refl, refl)
ends_no_step false x z = (refl, refl)

pub gives_no_step : (g : Setting) (u : ℕ) (s : Bool) (x : Stamped) (call : Call) (e : RouterEvent) → Gives g u (Err (why_no_step s)) (judged None (Some e) s false) x call x
gives_no_step g u true x call e = (refl, refl)
gives_no_step g u false x call e = (refl, refl)
