-- Laws of the definitions of texts.
use Rattle.std.specs.Prelude.{ℕ, ◌≡◌, ◌≢◌, ◌+◌, ◌^◌, ◌<◌, ◌↔◌, List, ◌∷◌, ◌++◌, length, Result, Ok, Err}
use Rattle.net_text.specs.declared.code.Code.{Code}
use Rattle.net_text.specs.declared.code.Code.TheVariants as codes
use Rattle.net_text.specs.Lexing.{Text}
use Rattle.net_text.specs.Networks.{refused_at, reading, SpellsNetwork, RefusesNetwork}
use Rattle.net_text.specs.Lines.{line_reading, settings_of}
use Rattle.net_text.specs.Assignments.{entry_reading}
use Rattle.net_text.specs.declared.network_so_far.NetworkSoFar.{NetworkSoFar}
use Rattle.net_text.specs.declared.assignment.Entry.{Entry}
use Rattle.ranked_policy.specs.Plans.{Plan}

-- a line has a fault, and none before it has one
pub record IsFirstFault {S : Type 0} (read : ℕ → S → Text → Result S Code) (before : ℕ) (s : S) (lines : List Text) (line : ℕ) (code : Code) : Type 0 where
  pub front : List Text
  pub faulty : Text
  pub behind : List Text
  pub made : S
  pub parted : lines ≡ front ++ faulty ∷ behind
  pub counted : line ≡ before + length front + 1
  pub good : reading read before s front ≡ Ok made
  pub fault : read line made faulty ≡ Err code

-- lines are refused at a line exactly where that line has the fault and no line before it has one
abbrev pub FirstFaultDecides : {S : Type 0} → (ℕ → S → Text → Result S Code) → ℕ → S → Type 0
FirstFaultDecides read before s =
    (lines : List Text) (line : ℕ) (code : Code)
    → (reading read before s lines ≡ Err (refused_at line code) ↔ IsFirstFault read before s lines line code)

-- the law of first faults for network texts
abbrev pub FirstFaultDecidesNetworks : Type 0
FirstFaultDecidesNetworks = (d : NetworkSoFar) (before : ℕ)
    → FirstFaultDecides (λ line draft words. line_reading draft words) before d

abbrev pub FirstFaultDecidesAssignments : Type 0
FirstFaultDecidesAssignments = (net : Plan) (before : ℕ) (entries : List Entry) → FirstFaultDecides (entry_reading net) before entries

-- a text spells one network at most
abbrev pub OneNetwork : Type 0
OneNetwork = (lines : List Text) (one other : Plan) → SpellsNetwork lines one → SpellsNetwork lines other → one ≡ other

-- the settings of a spelt network are those that its lines name, wherever they stand, and the usual ones where none
-- does
abbrev pub SettingsAreNamed : Type 0
SettingsAreNamed = (lines : List Text) (net : Plan) → SpellsNetwork lines net → net.settings ≡ settings_of lines

-- the hold time of a spelt network has two octets, as that of an OPEN
abbrev pub HoldTimesFit : Type 0
HoldTimesFit = (lines : List Text) (net : Plan) → SpellsNetwork lines net → net.settings.hold < 2 ^ 16

-- a text that spells a network is refused only for want of memory
abbrev pub SpeltIsNotRefused : Type 0
SpeltIsNotRefused = (lines : List Text) (net : Plan) (line : ℕ) (code : Code) → SpellsNetwork lines net → RefusesNetwork lines line code → code ≡ codes.Memory

-- a text is refused in one way, want of memory aside
abbrev pub OneRefusal : Type 0
OneRefusal = (lines : List Text) (line other : ℕ) (code reason : Code) → code ≢ codes.Memory → reason ≢ codes.Memory
    → RefusesNetwork lines line code → RefusesNetwork lines other reason → (line ≡ other) × (code ≡ reason)
