-- The promises of runs, whose premise is a setting, speak of every network.
use Rattle.std.specs.Prelude.{◌≡◌, ◌<◌, ◌^◌}
use Rattle.ranked_policy.specs.Plans.{Plan, IsNetwork}
use Rattle.router_model.specs.Settings.{Setting, IsSetting, ChoosesByRank}

-- the network has a setting in which routers choose by rank; it is one of the promises if the hold time fits an OPEN
pub record HasASetting (net : Plan) : Type 0 where
  pub setting : Setting
  pub over : setting.net ≡ net
  pub chooses : ChoosesByRank setting
  pub is : net.settings.hold < 2 ^ 16 → IsSetting setting

abbrev pub EachNetworkHasASetting : Type 0
EachNetworkHasASetting = (net : Plan) → IsNetwork net → HasASetting net
