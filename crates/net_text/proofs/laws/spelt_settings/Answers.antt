use Rattle.net_text.proofs.SettingLemmas.{settings_are_named, hold_times_fit}
use Rattle.net_text.proofs.laws.spelt_settings.Goals as goal

pub returns : goal.returns
returns c = record { named = settings_are_named; hold = hold_times_fit }
