-- The text printed for an input that is a network, or one with a section behind it.
use Rattle.std.specs.Prelude.{◌≡◌, ◌≢◌, ℕ, ◌-◌, List, length, ◌⊎◌}
use Rattle.ranked_policy.specs.Plans.{Plan}
use Rattle.net_text.specs.declared.code.Code.{Code}
use Rattle.net_text.specs.declared.code.Code.TheVariants as kinds
use Rattle.net_text.specs.Lexing.{Text, lines_of, before_section, behind_section}
use Rattle.net_text.specs.Networks.{SpellsNetwork, RefusesNetwork}
use Rattle.net_text.specs.Printing.{code_text}
use Rattle.text_engines.specs.Decoding.{Output, refused, WithinLimit, OrMemory}

-- ---- a network alone

-- the text for lines; `Gives` says what is printed for the network that they spell
abbrev pub LinesPrint : (Plan → Output → Type 0) → List Text → Output → Type 0
LinesPrint Gives lines out =
    ((at : ℕ) × (code : Code) × (code ≢ kinds.Memory) × RefusesNetwork lines at code × (out ≡ refused at (code_text code)))
    ⊎ ((net : Plan) × SpellsNetwork lines net × Gives net out)

-- ---- `Gives` says what is printed for a network and the lines of the section, so many lines standing before them

-- the text for the lines of a network, and those of the section
abbrev pub NetworkGives : (Plan → ℕ → List Text → Output → Type 0) → List Text → ℕ → List Text → Output → Type 0
NetworkGives Gives front before behind out =
    ((at : ℕ) × (code : Code) × (code ≢ kinds.Memory) × RefusesNetwork front at code × (out ≡ refused at (code_text code)))
    ⊎ ((net : Plan) × SpellsNetwork front net × Gives net before behind out)

-- the text for the lines of both; the section begins behind the line of this name
abbrev pub LinesGive : (Plan → ℕ → List Text → Output → Type 0) → List ℕ → List Text → Output → Type 0
LinesGive Gives name lines out =
    NetworkGives Gives (before_section name lines) (length lines - length (behind_section name lines)) (behind_section name lines) out

-- the text for an input, which may be too long
abbrev pub InputGives : (Plan → ℕ → List Text → Output → Type 0) → List ℕ → List ℕ → Output → Type 0
InputGives Gives name input out = WithinLimit (λ text. LinesGive Gives name (lines_of text)) input out

-- the text that the program prints: this one, or that memory ran out
abbrev pub Prints : (Plan → ℕ → List Text → Output → Type 0) → List ℕ → List ℕ → Output → Type 0
Prints Gives name input out = OrMemory (InputGives Gives name) input out
