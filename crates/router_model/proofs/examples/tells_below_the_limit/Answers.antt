-- The octets are counted, and the rest is computed.
use Rattle.std.proofs.Common.{◌≡◌, ℕ, ◌+◌, Bool, true, false, cond, refl, ap, ◌∙◌, arith}
use Rattle.std.specs.Prelude.{zero, suc, replicate, nat_lt}
use Rattle.bgp_codec.specs.declared.message.Message.{Message}
use Rattle.run_model.specs.Octets.{octets_of}
use Rattle.run_model.specs.Network.{alone}
use Rattle.outbox.specs.Items.{octets_waiting}
use Rattle.router_model.specs.declared.refusal.RouterError.TheVariants as error
use Rattle.router_model.specs.Step.{Advertises}
use Rattle.router_model.specs.Calls.{Advertise, Steps, Refuses, answer}
use Rattle.router_model.specs.Examples.{setting, waiting_behind}
use Rattle.marker_lanes.specs.Marker as lanes
use Rattle.bgp_codec.specs.Faults.{reading}
use Rattle.bgp_codec.specs.Header.{begins_with_marker, header_fault}
use Rattle.bgp_codec.specs.Opens.{open_reading}
use Rattle.bgp_codec.specs.Reading.{all_in}
use Rattle.bgp_codec.specs.UpdateReading.{update_reading, attrs_in}
use Rattle.bgp_codec.specs.Spelling.{header_of, framed}
use Rattle.router_model.specs.Sides.{react, react_once, apply, react_to_sign}
use Rattle.router_model.proofs.examples.tells_below_the_limit.Goals as goal

counted : (n : ℕ) → octets_waiting (octets_of {M = Message} 1 (replicate n 0)) ≡ n
counted zero = refl
counted (suc n) = ap (λ k. k + 1) (counted n) ∙ omega arith

told_at : (n : ℕ) (b : Bool) → nat_lt n 65536 ≡ b → answer setting 1 (waiting_behind n) Advertise ≡ cond b (Steps (alone (Advertises 2))) (Refuses (error.Blocked 2))
unfolding react react_once apply react_to_sign header_of framed header_fault begins_with_marker reading open_reading all_in update_reading attrs_in lanes.marker
told_at n true h = rw (counted n, h) refl
told_at n false h = rw (counted n, h) refl

pub returns : goal.returns
returns c = (told_at 65535 true refl, told_at 65536 false refl)
