-- The text printed of the dispute wheels of a network, prefix by prefix.
use Rattle.std.specs.Prelude.{◌≡◌, ◌≢◌, ℕ, Bool, List, [], ◌∷◌, ◌++◌, map, codes, Result, Ok, Err, is_ok, ◌⊎◌}
use Rattle.std.specs.List.{All, Contains, flat_map, list_all}
use Rattle.prefix_lanes.specs.Bits.{PrefixView}
use Rattle.ranked_policy.specs.Plans.{Plan}
use Rattle.ranked_policy.specs.declared.network.Origin.{Origin}
use Rattle.net_text.specs.declared.code.Code.{Code}
use Rattle.net_text.specs.declared.code.Code.TheVariants as kinds
use Rattle.net_text.specs.Lexing.{Text}
use Rattle.net_text.specs.Networks.{SpellsNetwork, RefusesNetwork}
use Rattle.net_text.specs.Printing.{code_text}
use Rattle.stable_engine.specs.Answers.{network_lines, status_of}
use Rattle.stable_engine.specs.Listing.{unknown_line}
use Rattle.text_engines.specs.Checking.{at_prefix}
use Rattle.text_engines.specs.Decoding.{Output, output, refused, WithinLimit, OrMemory}
use Rattle.wheel_search.specs.declared.rim.Safety.{Safety}
use Rattle.wheel_search.specs.declared.refusal.WheelError.{WheelError}
use Rattle.wheel_search.specs.declared.refusal.WheelError.TheVariants as search
use Rattle.wheel_search.specs.Found.{IsAnswerOf, IsRefusal}
use Rattle.safe_engine.specs.declared.prefixes.Answered.{Answered}
use Rattle.safe_engine.specs.Listing.{safety_text}

-- ---- the answer for a prefix

abbrev pub Found : Type 0
Found = Result Safety WheelError

-- the answer for a prefix: that there is no dispute wheel, or one; or a refusal that means what it says, where at most so
-- many paths are listed of a router without a rule. Want of memory is no answer
abbrev pub IsFound : Plan → ℕ → PrefixView → Found → Type 0
IsFound net most q (Ok safety) = IsAnswerOf (at_prefix net q) safety
IsFound net most q (Err why) = (why ≢ search.Memory) × IsRefusal (at_prefix net q) most why

-- what the search answers for a prefix: the same, or that it wanted memory
abbrev pub IsSearched : Plan → ℕ → PrefixView → Found → Type 0
IsSearched net most q (Ok safety) = IsAnswerOf (at_prefix net q) safety
IsSearched net most q (Err why) = IsRefusal (at_prefix net q) most why

-- what the search answered for the prefix of an origin of the network
abbrev pub IsLast : Plan → ℕ → Answered → Type 0
IsLast net most answered = Contains net.origins answered.origin.now × IsSearched net most answered.origin.now.prefix answered.found

abbrev pub refusal_text : PrefixView → WheelError → List ℕ
refusal_text q (search.UnlistedPaths u) = unknown_line q (codes "paths") (u ∷ [])
refusal_text q search.Memory = []

abbrev pub found_text : PrefixView → Found → List ℕ
found_text q (Ok safety) = safety_text q safety
found_text q (Err why) = refusal_text q why

-- ---- the text printed for a network

pub record Answer : Type 0 where
  pub prefix : PrefixView
  pub found : Found

abbrev pub answers_text : List Answer → List ℕ
answers_text answers = flat_map (λ a. found_text a.prefix a.found) answers

abbrev pub are_known : List Answer → Bool
are_known answers = list_all (λ a. is_ok a.found) answers

-- an answer for the prefix of each origin, with its text; and whether each is known
pub record AreAnswered (net : Plan) (most : ℕ) (origins : List Origin) (text : List ℕ) (known : Bool) : Type 0 where
  pub answers : List Answer
  pub prefixes : map (λ a. a.prefix) answers ≡ map (λ o. o.prefix) origins
  pub each : All (λ a. IsFound net most a.prefix a.found) answers
  pub printed : text ≡ answers_text answers
  pub all_known : known ≡ are_known answers

-- the new text is the old one, with the answer for a prefix at its end
abbrev pub PutsFound : Plan → ℕ → PrefixView → List ℕ → List ℕ → Bool → Type 0
PutsFound net most q old new known = (found : Found) × IsFound net most q found × (new ≡ old ++ found_text q found) × (known ≡ is_ok found)

-- the new text is the old one, with the answers for the prefixes of these origins at its end
abbrev pub PutsAnswers : Plan → ℕ → List Origin → List ℕ → List ℕ → Bool → Type 0
PutsAnswers net most origins old new known = (text : List ℕ) × AreAnswered net most origins text known × (new ≡ old ++ text)

-- an answer for each origin's prefix, by address, then by length, and the status that says whether all are known
abbrev pub SafetyGives : Plan → ℕ → Output → Type 0
SafetyGives net most out = (text : List ℕ) × (known : Bool) × AreAnswered net most net.origins text known × (out ≡ output text (status_of known))

-- ---- the text printed for an input

abbrev pub LinesJudge : ℕ → List Text → Output → Type 0
LinesJudge most lines out =
    ((at : ℕ) × (code : Code) × (code ≢ kinds.Memory) × RefusesNetwork lines at code × (out ≡ refused at (code_text code)))
    ⊎ ((net : Plan) × SpellsNetwork lines net × SafetyGives net most out)

-- the text for an input, which may be too long
abbrev pub InputJudges : ℕ → List ℕ → Output → Type 0
InputJudges most input out = WithinLimit (λ text. LinesJudge most (network_lines text)) input out

-- the text that the program prints: this one, or that memory ran out
abbrev pub Judges : ℕ → List ℕ → Output → Type 0
Judges most input out = OrMemory (InputJudges most) input out
