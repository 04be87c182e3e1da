-- Network texts: the network that a text spells, or its first faulty line.
use Rattle.std.specs.Prelude.{ℕ, ◌≡◌, ◌≢◌, ◌+◌, false, List, [], ◌∷◌, ◌++◌, length, Result, Ok, Err, if◌then◌else◌, IsOk}
use mathlib.Core.Logic.{◌⊎◌}
use Rattle.ranked_policy.specs.Plans.{Plan, IsNetwork, IsConnected}
use Rattle.ranked_policy.specs.Adding.{empty_plan}
use Rattle.net_text.specs.declared.code.Code.{Code}
use Rattle.net_text.specs.declared.code.Code.TheVariants as codes
use Rattle.net_text.specs.declared.code.Refused.{Refused}
use Rattle.net_text.specs.declared.settings.Named.{Named}
use Rattle.net_text.specs.declared.network_so_far.NetworkSoFar.{NetworkSoFar}
use Rattle.net_text.specs.Lexing.{Text, is_skipped}
use Rattle.net_text.specs.Lines.{settings_of, line_reading}

-- ---- any reading of line by line, over what the lines before have made

abbrev pub refused_at : ℕ → Code → Refused
refused_at line code = record { line = line; code = code }

-- one more line, and those behind it
abbrev pub then_on : {S : Type 0} → ℕ → Result S Code → (S → Result S Refused) → Result S Refused
then_on line (Ok s) more = more s
then_on line (Err code) more = Err (refused_at line code)

-- what lines make of s, or the first of them with a fault; so many lines stand before them
abbrev pub reading : {S : Type 0} → (ℕ → S → Text → Result S Code) → ℕ → S → List Text → Result S Refused
reading read before s [] = Ok s
reading read before s (line ∷ lines) = then_on (before + 1) (read (before + 1) s line) (λ t. reading read (before + 1) t lines)

-- ---- networks

abbrev pub nothing_named : Named
nothing_named = record { hold = false; restart = false; cut = false; pipe = false; octets = false }

abbrev pub empty_draft : List Text → NetworkSoFar
empty_draft lines = record { named = nothing_named; net = empty_plan (settings_of lines) }

abbrev pub draft_reading : List Text → Result NetworkSoFar Refused
draft_reading lines = reading (λ line d words. line_reading d words) 0 (empty_draft lines) lines

-- the last line that is not skipped, 0 if there is none
abbrev pub last_behind : ℕ → ℕ → List Text → ℕ
last_behind last before [] = last
last_behind last before (line ∷ lines) = last_behind (if is_skipped line then last else before + 1) (before + 1) lines

abbrev pub last_line : List Text → ℕ
last_line lines = last_behind 0 0 lines

-- the lines spell the network
pub record SpellsNetwork (lines : List Text) (net : Plan) : Type 0 where
  pub named : Named
  pub whole : draft_reading lines ≡ Ok (record { named = named; net = net })
  pub network : IsNetwork net

-- a plan without routers, or one that is not connected
abbrev pub FailsAsNetwork : Plan → Code → Type 0
FailsAsNetwork net code =
    ((code ≡ codes.OutOfLimit) × (net.routers ≡ []))
    ⊎ ((code ≡ codes.NotConnected) × (net.routers ≢ []) × (IsConnected net.routers net.links → ⊥))

-- all lines are good, and yet together they are no network
pub record IsNoNetwork (lines : List Text) (code : Code) : Type 0 where
  pub draft : NetworkSoFar
  pub whole : draft_reading lines ≡ Ok draft
  pub fault : FailsAsNetwork draft.net code

-- the first so many lines have no fault
pub record AreGood {S : Type 0} (read : ℕ → S → Text → Result S Code) (before : ℕ) (s : S) (lines : List Text) (count : ℕ) : Type 0 where
  pub front : List Text
  pub behind : List Text
  pub parted : lines ≡ front ++ behind
  pub counted : before + length front ≡ count
  pub good : IsOk (reading read before s front)

-- a text is refused for its first faulty line, or as a whole; or memory ran out at a line, where no line so far has a fault
abbrev pub RefusesNetwork : List Text → ℕ → Code → Type 0
RefusesNetwork lines line codes.Memory = AreGood (λ line d words. line_reading d words) 0 (empty_draft lines) lines line
RefusesNetwork lines line code = (draft_reading lines ≡ Err (refused_at line code)) ⊎ (IsNoNetwork lines code × (line ≡ last_line lines))
