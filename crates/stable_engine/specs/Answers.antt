-- The text printed of all stable assignments of a network, prefix by prefix.
use Rattle.std.specs.Prelude.{◌≡◌, ◌≢◌, ℕ, Bool, List, [], ◌∷◌, ◌++◌, map, codes, Result, Ok, Err, is_ok, if◌then◌else◌, ◌⊎◌}
use Rattle.std.specs.List.{All, Contains, flat_map, list_all}
use Rattle.prefix_lanes.specs.Bits.{PrefixView}
use Rattle.ranked_policy.specs.Plans.{Plan}
use Rattle.ranked_policy.specs.declared.network.Origin.{Origin}
use Rattle.net_text.specs.declared.code.Code.{Code}
use Rattle.net_text.specs.declared.code.Code.TheVariants as kinds
use Rattle.net_text.specs.Lexing.{Text, lines_of, before_section}
use Rattle.net_text.specs.Networks.{SpellsNetwork, RefusesNetwork}
use Rattle.net_text.specs.Printing.{code_text}
use Rattle.stable_search.specs.declared.every.Every.{Every}
use Rattle.stable_search.specs.declared.limits.SearchLimits.{SearchLimits}
use Rattle.stable_search.specs.declared.refusal.SearchError.{SearchError}
use Rattle.stable_search.specs.declared.refusal.SearchError.TheVariants as search
use Rattle.stable_search.specs.Every.{IsEveryStable}
use Rattle.stable_search.specs.Refusals.{AreFew, IsRefusal}
use Rattle.text_engines.specs.Checking.{at_prefix}
use Rattle.text_engines.specs.Decoding.{Output, output, refused, WithinLimit, OrMemory}
use Rattle.text_engines.specs.declared.status.TheConstants.{DONE}
use Rattle.stable_engine.specs.declared.prefixes.Answered.{Answered}
use Rattle.stable_engine.specs.declared.status.TheConstants.{UNKNOWN}
use Rattle.stable_engine.specs.Listing.{every_text, unknown_line}

-- ---- the answer for a prefix

abbrev pub Found : Type 0
Found = Result Every SearchError

-- the answer for a prefix: all stable assignments, in which no part has more choices than the limit; or a refusal that
-- means what it says. Want of memory is no answer
abbrev pub IsFound : SearchLimits → Plan → PrefixView → Found → Type 0
IsFound limits net q (Ok every) = IsEveryStable (at_prefix net q) every × AreFew limits.most every.parts
IsFound limits net q (Err why) = (why ≢ search.Memory) × IsRefusal (at_prefix net q) limits why

-- what the search answers for a prefix: the same, or that it wanted memory
abbrev pub IsSearched : SearchLimits → Plan → PrefixView → Found → Type 0
IsSearched limits net q (Ok every) = IsEveryStable (at_prefix net q) every × AreFew limits.most every.parts
IsSearched limits net q (Err why) = IsRefusal (at_prefix net q) limits why

-- what the search answered for the prefix of an origin of the network
abbrev pub IsLast : SearchLimits → Plan → Answered → Type 0
IsLast limits net answered = Contains net.origins answered.origin.now × IsSearched limits net answered.origin.now.prefix answered.found

abbrev pub refusal_text : PrefixView → SearchError → List ℕ
refusal_text q (search.TooManyPaths u) = unknown_line q (codes "paths") (u ∷ [])
refusal_text q (search.TooManyChoices us) = unknown_line q (codes "choices") us
refusal_text q (search.TooManySteps us) = unknown_line q (codes "steps") us
refusal_text q search.Memory = []

abbrev pub found_text : Plan → PrefixView → Found → List ℕ
found_text net q (Ok every) = every_text q net.routers every.parts
found_text net q (Err why) = refusal_text q why

-- ---- the text printed for a network

pub record Answer : Type 0 where
  pub prefix : PrefixView
  pub found : Found

abbrev pub answers_text : Plan → List Answer → List ℕ
answers_text net answers = flat_map (λ a. found_text net a.prefix a.found) answers

abbrev pub are_known : List Answer → Bool
are_known answers = list_all (λ a. is_ok a.found) answers

-- an answer for the prefix of each origin, with its text; and whether each is known
pub record AreAnswered (limits : SearchLimits) (net : Plan) (origins : List Origin) (text : List ℕ)
    (known : Bool) : Type 0 where
  pub answers : List Answer
  pub prefixes : map (λ a. a.prefix) answers ≡ map (λ o. o.prefix) origins
  pub each : All (λ a. IsFound limits net a.prefix a.found) answers
  pub printed : text ≡ answers_text net answers
  pub all_known : known ≡ are_known answers

-- the new text is the old one, with the answer for a prefix at its end
abbrev pub PutsFound : SearchLimits → Plan → PrefixView → List ℕ → List ℕ → Bool → Type 0
PutsFound limits net q old new known =
    (found : Found) × IsFound limits net q found × (new ≡ old ++ found_text net q found) × (known ≡ is_ok found)

-- the new text is the old one, with the answers for the prefixes of these origins at its end
abbrev pub PutsAnswers : SearchLimits → Plan → List Origin → List ℕ → List ℕ → Bool → Type 0
PutsAnswers limits net origins old new known = (text : List ℕ) × AreAnswered limits net origins text known × (new ≡ old ++ text)

abbrev pub status_of : Bool → ℕ
status_of known = if known then DONE else UNKNOWN

-- an answer for each origin's prefix, by address, then by length, and the status that says whether all are known
abbrev pub StablesGive : SearchLimits → Plan → Output → Type 0
StablesGive limits net out =
    (text : List ℕ) × (known : Bool) × AreAnswered limits net net.origins text known × (out ≡ output text (status_of known))

-- ---- the text printed for an input

-- the lines of an input up to one that begins an assignment or a schedule
abbrev pub network_lines : List ℕ → List Text
network_lines input = before_section (codes "schedule") (before_section (codes "assignment") (lines_of input))

abbrev pub LinesList : SearchLimits → List Text → Output → Type 0
LinesList limits lines out =
    ((at : ℕ) × (code : Code) × (code ≢ kinds.Memory) × RefusesNetwork lines at code × (out ≡ refused at (code_text code)))
    ⊎ ((net : Plan) × SpellsNetwork lines net × StablesGive limits net out)

-- the text for an input, which may be too long
abbrev pub InputLists : SearchLimits → List ℕ → Output → Type 0
InputLists limits input out = WithinLimit (λ text. LinesList limits (network_lines text)) input out

-- the text that the program prints: this one, or that memory ran out
abbrev pub Lists : SearchLimits → List ℕ → Output → Type 0
Lists limits input out = OrMemory (InputLists limits) input out
