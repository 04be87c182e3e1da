-- Laws of the definitions of the engines.
use Rattle.std.specs.Prelude.{◌≡◌, ℕ, ◌<◌, ◌^◌, Bool, List, codes}
use Rattle.bgp_codec.specs.declared.rule.Rule.{Rule}
use Rattle.ranked_policy.specs.Plans.{Plan, IsNetwork}
use Rattle.net_text.specs.Lexing.{Text}
use Rattle.text_engines.specs.Decoding.{Output, DecodeGives}
use Rattle.text_engines.specs.Inputs.{InputGives}
use Rattle.text_engines.specs.Checking.{AssignmentGives}

-- for an input and a speaker there is one text, with one status
abbrev pub DecodesToOne : Type 0
DecodesToOne = (rule : Rule) (input : List ℕ) (one other : Output) → DecodeGives rule input one → DecodeGives rule input other → one ≡ other

-- for the network and the lines of a section there is one text
abbrev pub GivesOne : (Plan → ℕ → List Text → Output → Type 0) → Type 0
GivesOne Gives =
    (net : Plan) → IsNetwork net → net.settings.hold < 2 ^ 16 → (before : ℕ) (lines : List Text) (one other : Output)
    → Gives net before lines one → Gives net before lines other → one ≡ other

-- for an input there is one text, want of memory aside
abbrev pub InputsGiveOne : (Plan → ℕ → List Text → Output → Type 0) → List ℕ → Type 0
InputsGiveOne Gives name = (input : List ℕ) (one other : Output) → InputGives Gives name input one → InputGives Gives name input other → one ≡ other

abbrev pub ChecksToOne : Type 0
ChecksToOne = (all : Bool) → InputsGiveOne (AssignmentGives all) (codes "assignment")
