-- Laws of the definitions of the engine.
use Rattle.std.specs.Prelude.{◌≡◌, ℕ}
use Rattle.router_model.specs.Settings.{Setting, IsSetting}
use Rattle.world_core.specs.World.{World}
use Rattle.text_engines.specs.Decoding.{Output}
use Rattle.why_engine.specs.Explaining.{Explains}

-- for a number, a network and a world there is one text
abbrev pub EachRouterHasOneText : Type 0
EachRouterHasOneText = (u : ℕ) (g : Setting) → IsSetting g → (w : World) (one other : Output) → Explains u g w one → Explains u g w other → one ≡ other
