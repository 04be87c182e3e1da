-- The routes that `play` prints of a settled snapshot, and the assignments that `stable` prints of the same network.
use Rattle.std.specs.Prelude.{ℕ, ◌≡◌, Bool, true, List, Ok}
use Rattle.std.specs.List.{Contains}
use Rattle.stable_search.specs.declared.every.Every.{Every}
use Rattle.stable_search.specs.declared.limits.SearchLimits.{SearchLimits}
use Rattle.run_model.specs.Offers.{Settled}
use Rattle.router_model.specs.Settings.{Setting, IsSetting, names}
use Rattle.router_runs.specs.Snapshots.{AsOriginated}
use Rattle.world_core.specs.World.{World}
use Rattle.text_engines.specs.Decoding.{Output}
use Rattle.schedule_text.specs.Routes.{outcome}
use Rattle.play_engine.specs.Playing.{IsReport}
use Rattle.stable_engine.specs.Answers.{Answer, AreAnswered}
use Rattle.stable_runs.specs.Listing.{AreListed}

-- the routes that a report has of a settled snapshot are one of the choices of each part of an answer that knows all,
-- for each prefix that the origin's part originates
abbrev pub PrintedSettledAreListed : Type 0
PrintedSettledAreListed =
    (g : Setting) (set : IsSetting g) (w : World) (out : Output) (report : IsReport g w out)
    (limits : SearchLimits) (text : List ℕ) (known : Bool)
    (answered : AreAnswered limits g.net g.net.origins text known)
    (s : ℕ) (settled : outcome g.net w.made s ≡ Settled) (answer : Answer) → Contains answered.answers answer
    → (every : Every) → answer.found ≡ Ok every
    → names g.net.origins answer.prefix ≡ true → AsOriginated g answer.prefix (report.settled set s settled).parts true
    → AreListed (λ u. ((report.settled set s settled).parts u).kept answer.prefix) every
