-- What is said of a network that is answered all the same: which of its rules are for nothing, and which of their paths go over no link.
use Rattle.std.specs.Prelude.{◌≡◌, ℕ, ◌-◌, ◌==◌, nat_lt, Bool, true, false, List, [], ◌∷◌, ◌++◌, length, take, codes, decimal, Option, None, Some, if◌then◌else◌}
use Rattle.std.specs.List.{list_any, flat_map}
use mathlib.Core.Logic.{◌⊎◌}
use Rattle.prefix_lanes.specs.Bits.{PrefixView}
use Rattle.ranked_policy.specs.Plans.{Plan}
use Rattle.ranked_policy.specs.Tests.{covers}
use Rattle.ranked_policy.specs.declared.network.NetRouter.{NetRouter}
use Rattle.ranked_policy.specs.declared.network.Link.{Link}
use Rattle.ranked_policy.specs.declared.network.Origin.{Origin}
use Rattle.ranked_policy.specs.declared.network.RankRule.{RankRule}
use Rattle.net_text.specs.Lexing.{Text, lines_of, before_section}
use Rattle.net_text.specs.Lines.{joins}
use Rattle.net_text.specs.Networks.{SpellsNetwork}
use Rattle.net_text.specs.Printing.{prefix_text, numbers_text}
use Rattle.error_words.specs.declared.warnings.TheConstants.{MOST_WARNED}
use Rattle.error_words.specs.declared.warnings.Reason.{Reason}
use Rattle.error_words.specs.declared.warnings.Reason.TheVariants as reasons
use Rattle.error_words.specs.Showing.{remark_text}

-- ---- what a warning is said of

-- an origin's prefix is among those that a rule's prefix covers
abbrev pub covers_some : List Origin → PrefixView → Bool
covers_some origins q = list_any (λ origin. covers q origin.prefix) origins

-- a link joins the two, whichever it names first
abbrev pub are_linked : List Link → ℕ → ℕ → Bool
are_linked links u v = list_any (joins u v) links

-- of the neighbours on a path from u the last two that no link joins, or those before where there are none
abbrev pub missing_behind : List Link → Option Link → ℕ → List ℕ → Option Link
missing_behind links before u [] = before
missing_behind links before u (v ∷ vs) = missing_behind links (if are_linked links u v then before else Some (record { one = u; other = v })) v vs

-- the two neighbours on a path, the nearest to its origin, that no link joins
abbrev pub missing_link : List Link → List ℕ → Option Link
missing_link links [] = None
missing_link links (u ∷ us) = missing_behind links None u us

-- ---- the warnings of a network, a text each

-- the rule of a router, as its line begins
unfoldable pub rule_text : ℕ → PrefixView → Text
rule_text u q = codes "rank " ++ (decimal u ++ (prefix_text q ++ codes ": "))

unfoldable pub missing_text : List ℕ → Link → Text
missing_text path missing =
    numbers_text path ++ (codes " can never come: there is no link " ++ (decimal missing.one ++ (codes " " ++ decimal missing.other)))

-- what is wrong with a rule
abbrev pub reason_text : Reason → Text
reason_text reasons.CoversNone = codes "no prefix that an origin has goes by this rule"
reason_text (reasons.NoLink path missing) = missing_text path.now missing

abbrev pub none_warning : ℕ → PrefixView → Text
none_warning u q = rule_text u q ++ reason_text reasons.CoversNone

abbrev pub missing_warnings : ℕ → PrefixView → List ℕ → Option Link → List Text
missing_warnings u q path None = []
missing_warnings u q path (Some missing) = (rule_text u q ++ missing_text path missing) ∷ []

-- a path that goes over no link has one
abbrev pub path_warnings : Plan → ℕ → PrefixView → List ℕ → List Text
path_warnings net u q path = missing_warnings u q path (missing_link net.links path)

-- a rule that covers an origin's prefix has those of its paths, another one
abbrev pub rule_warnings : Plan → ℕ → RankRule → List Text
rule_warnings net u rule =
    if covers_some net.origins rule.prefix then flat_map (path_warnings net u rule.prefix) rule.paths
    else none_warning u rule.prefix ∷ []

abbrev pub router_warnings : Plan → NetRouter → List Text
router_warnings net r = flat_map (rule_warnings net r.asn) r.rules

abbrev pub warnings : Plan → List Text
warnings net = flat_map (router_warnings net) net.routers

-- ---- what is said of them

abbrev pub more_said : Bool → Text
more_said is_more = if is_more then remark_text (codes "there are more such rules or paths: see tools/lint") else []

-- a remark for each of the first warnings, and whether there are more
abbrev pub warnings_text : List Text → Text
warnings_text texts = flat_map remark_text (take MOST_WARNED texts) ++ more_said (nat_lt MOST_WARNED (length texts))

-- ---- the same, one warning behind the other

-- what was said so far, how many more may be named, and whether one was not named
pub record Warned : Type 0 where
  pub text : Text
  pub left : ℕ
  pub is_more : Bool

abbrev pub one_more : Text → Warned → Warned
one_more text w =
    if w.left == 0 then record w { is_more = true }
    else record { text = w.text ++ remark_text text; left = w.left - 1; is_more = w.is_more }

abbrev pub all_more : List Text → Warned → Warned
all_more [] w = w
all_more (text ∷ texts) w = all_more texts (one_more text w)

abbrev pub none_warned : Warned
none_warned = record { text = []; left = MOST_WARNED; is_more = false }

-- ---- the text for an input

-- the lines of a network, without those of an assignment or a schedule behind it
abbrev pub network_lines : Text → List Text
network_lines input = before_section (codes "schedule") (before_section (codes "assignment") (lines_of input))

-- what is said of the network that lines spell; nothing where they spell none
abbrev pub IsWarned : List Text → Text → Type 0
IsWarned lines text =
    ((net : Plan) × SpellsNetwork lines net × (text ≡ warnings_text (warnings net)))
    ⊎ (((net : Plan) → SpellsNetwork lines net → ⊥) × (text ≡ []))
