-- A settled snapshot is the one stable assignment of a prefix without a dispute wheel.
use Rattle.std.proofs.Common.{true, refl, sym, ◌∙◌}
use Rattle.router_runs.specs.Mirrors.{EachSettingHasItsModel}
use Rattle.router_runs.specs.Snapshots.{SettledIsStable}
use Rattle.dispute_wheels.specs.Promises.{SafeHaveOneStable}
use Rattle.wheel_runs.specs.Changes.{problem_of}
use Rattle.wheel_runs.specs.Settling.{RunsSettleInOne}

pub runs_settle_in_one : EachSettingHasItsModel → SettledIsStable → SafeHaveOneStable → RunsSettleInOne
runs_settle_in_one has_model stable one g set order state run s settled parts made q names safe own paths is_stable u router =
    let named = (has_model g set).named q names in
    let only = one (problem_of g q) (record { problem = record { network = set.network; named = named }; originated = refl }) safe in
    only.2 (λ w. (parts w).kept q) (stable g set order state run s settled parts made q names true own) u router ∙ sym (only.2 paths is_stable u router)
