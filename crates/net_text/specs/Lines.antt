-- Network lines: what each adds to a network, or its first fault. On one line a wrong form comes first, then the words from left to right, then what came before, then limits on counts.
use Rattle.std.specs.Prelude.{ℕ, ◌==◌, ◌||◌, ◌&&◌, not, nat_lt, nat_le, Bool, true, List, [], ◌∷◌, ◌++◌, length, map, Option, Some, None, Result, Ok, Err, if◌then◌else◌, codes}
use Rattle.std.specs.List.{list_all, list_any, count_by}
use Rattle.prefix_lanes.specs.Bits.{PrefixView, is_prefix}
use Rattle.bgp_values.specs.declared.width.Width.{Width}
use Rattle.bgp_values.specs.declared.width.Width.TheVariants.{Two, Four}
use Rattle.bgp_values.specs.Ranges.{is_hold_time}
use Rattle.ranked_policy.specs.declared.network.Settings.{Settings}
use Rattle.ranked_policy.specs.declared.network.NetRouter.{NetRouter}
use Rattle.ranked_policy.specs.declared.network.Link.{Link}
use Rattle.ranked_policy.specs.declared.network.Origin.{Origin}
use Rattle.ranked_policy.specs.declared.network.RankRule.{RankRule}
use Rattle.ranked_policy.specs.declared.limits.TheConstants.{GREATEST_CUT, GREATEST_PIPE, MOST_ROUTERS, MOST_LINKS, MOST_PREFIXES, MOST_RULES, MOST_PATHS, LONGEST_PATH}
use Rattle.ranked_policy.specs.Plans.{touches}
use Rattle.ranked_policy.specs.Adding.{with_link}
use Rattle.net_text.specs.declared.code.Code.{Code}
use Rattle.net_text.specs.declared.code.Code.TheVariants.{BadForm, Repeated, OutOfLimit}
use Rattle.net_text.specs.declared.settings.TheConstants.{MOST_SECONDS, USUAL_HOLD, USUAL_RESTART, USUAL_PIPE}
use Rattle.net_text.specs.declared.settings.Setting.{Setting}
use Rattle.net_text.specs.declared.settings.Setting.TheVariants.{Hold, Restart, Cut, Pipe, Octets}
use Rattle.net_text.specs.declared.settings.Named.{Named}
use Rattle.net_text.specs.declared.network_so_far.NetworkSoFar.{NetworkSoFar}
use Rattle.net_text.specs.Lexing.{Text, same, words_of, is_skipped, is_ascii}
use Rattle.net_text.specs.Words.{◌>>=◌, is_number, value_of, number_word, asn_word, router_word, id_word, prefix_word, is_named, path_of, rule_path_words}

-- ---- settings: seconds of the hold time and until a restart, octets of a cut, items of a pipe, octets of an AS number

abbrev pub setting_of : Text → Option Setting
setting_of word =
    if same word (codes "hold") then Some Hold
    else if same word (codes "restart") then Some Restart
    else if same word (codes "cut") then Some Cut
    else if same word (codes "pipe") then Some Pipe
    else if same word (codes "asn") then Some Octets
    else None

abbrev pub in_range : Setting → ℕ → Bool
in_range Hold n = nat_le n MOST_SECONDS && is_hold_time n
in_range Restart n = nat_le n MOST_SECONDS
in_range Cut n = nat_le 1 n && nat_le n GREATEST_CUT
in_range Pipe n = nat_le 1 n && nat_le n GREATEST_PIPE
in_range Octets n = n == 4

abbrev pub set_to : Setting → ℕ → Settings → Settings
set_to Hold n s = record s { hold = n }
set_to Restart n s = record s { restart = n }
set_to Cut n s = record s { cut = n }
set_to Pipe n s = record s { pipe = n }
set_to Octets n s = record s { width = Four }

abbrev pub was_named : Setting → Named → Bool
was_named Hold named = named.hold
was_named Restart named = named.restart
was_named Cut named = named.cut
was_named Pipe named = named.pipe
was_named Octets named = named.octets

abbrev pub naming : Setting → Named → Named
naming Hold named = record named { hold = true }
naming Restart named = record named { restart = true }
naming Cut named = record named { cut = true }
naming Pipe named = record named { pipe = true }
naming Octets named = record named { octets = true }

-- AS numbers have two octets until a line says that they have four
abbrev pub width_named : Named → Width
width_named named = if named.octets then Four else Two

-- the settings after a line
abbrev pub told_of : Option Setting → Text → Settings → Settings
told_of None word s = s
told_of (Some setting) word s = if is_number word && in_range setting (value_of word) then set_to setting (value_of word) s else s

abbrev pub told : List Text → Settings → Settings
told (name ∷ word ∷ []) s = told_of (setting_of name) word s
told words s = s

-- the settings that lines name, and the usual ones where none does
abbrev pub settings_behind : Settings → List Text → Settings
settings_behind s [] = s
settings_behind s (line ∷ lines) = settings_behind (told (words_of line) s) lines

abbrev pub usual : Settings
usual = record { hold = USUAL_HOLD; restart = USUAL_RESTART; cut = GREATEST_CUT; pipe = USUAL_PIPE; width = Two }

abbrev pub settings_of : List Text → Settings
settings_of lines = settings_behind usual lines

abbrev pub setting_line : Setting → NetworkSoFar → List Text → Result NetworkSoFar Code
setting_line setting d (word ∷ []) =
    number_word (in_range setting) word >>= λ n.
    if was_named setting d.named then Err Repeated
    else Ok (record d { named = naming setting d.named })
setting_line setting d words = Err BadForm

-- ---- lists in an order: one more stands before the first that does not come before it
abbrev pub among : {X : Type 0} → (X → X → Bool) → List X → X → List X
among comes_first [] item = item ∷ []
among comes_first (x ∷ xs) item = if comes_first x item then x ∷ among comes_first xs item else item ∷ x ∷ xs

-- ---- routers, by rising number

abbrev pub new_router : ℕ → ℕ → NetRouter
new_router u id = record { asn = u; id = id; rules = [] }

abbrev pub is_below : NetRouter → NetRouter → Bool
is_below r s = nat_lt r.asn s.asn

abbrev pub with_router : NetworkSoFar → ℕ → ℕ → NetworkSoFar
with_router d u id = record d { net = record d.net { routers = among is_below d.net.routers (new_router u id) } }

-- a router has this number or this identifier
abbrev pub is_taken : List NetRouter → ℕ → ℕ → Bool
is_taken routers u id = list_any (λ r. (r.asn == u) || (r.id == id)) routers

abbrev pub router_line : NetworkSoFar → List Text → Result NetworkSoFar Code
router_line d (a ∷ b ∷ []) =
    asn_word (width_named d.named) a >>= λ u. id_word b >>= λ id.
    if is_taken d.net.routers u id then Err Repeated
    else if nat_le MOST_ROUTERS (length d.net.routers) then Err OutOfLimit
    else Ok (with_router d u id)
router_line d words = Err BadForm

-- ---- links

abbrev pub joins : ℕ → ℕ → Link → Bool
joins u v link = ((link.one == u) && (link.other == v)) || ((link.one == v) && (link.other == u))

abbrev pub link_line : NetworkSoFar → List Text → Result NetworkSoFar Code
link_line d (a ∷ b ∷ []) =
    router_word (width_named d.named) d.net.routers a >>= λ u. router_word (width_named d.named) d.net.routers b >>= λ v.
    if (u == v) || list_any (joins u v) d.net.links then Err Repeated
    else if nat_le MOST_LINKS (count_by (touches u) d.net.links) || nat_le MOST_LINKS (count_by (touches v) d.net.links) then Err OutOfLimit
    else Ok (record d { net = with_link d.net u v })
link_line d words = Err BadForm

-- ---- origins, by rising prefix

abbrev pub new_origin : ℕ → PrefixView → Origin
new_origin u q = record { prefix = q; router = u }

-- by address, then by length
abbrev pub comes_before : Origin → Origin → Bool
comes_before o p = nat_lt o.prefix.addr p.prefix.addr || ((o.prefix.addr == p.prefix.addr) && nat_lt o.prefix.len p.prefix.len)

abbrev pub with_origin : NetworkSoFar → ℕ → PrefixView → NetworkSoFar
with_origin d u q = record d { net = record d.net { origins = among comes_before d.net.origins (new_origin u q) } }

abbrev pub origin_line : NetworkSoFar → List Text → Result NetworkSoFar Code
origin_line d (a ∷ b ∷ []) =
    router_word (width_named d.named) d.net.routers a >>= λ u. prefix_word b >>= λ q.
    if is_named d.net.origins q then Err Repeated
    else if nat_le MOST_PREFIXES (length d.net.origins) then Err OutOfLimit
    else Ok (with_origin d u q)
origin_line d words = Err BadForm

-- ---- rules

abbrev pub are_distinct : List (List ℕ) → Bool
are_distinct [] = true
are_distinct (path ∷ paths) = not (list_any (same path) paths) && are_distinct paths

-- each path has at most 16 routers
abbrev pub are_short : List (List ℕ) → Bool
are_short paths = list_all (λ path. nat_le (length path) LONGEST_PATH) paths

abbrev pub is_ruled : List NetRouter → ℕ → PrefixView → Bool
is_ruled routers u q = list_any (λ r. (r.asn == u) && list_any (λ rule. is_prefix rule.prefix q) r.rules) routers

abbrev pub is_full : List NetRouter → ℕ → Bool
is_full routers u = list_any (λ r. (r.asn == u) && nat_le MOST_RULES (length r.rules)) routers

abbrev pub ruled : ℕ → RankRule → NetRouter → NetRouter
ruled u rule r = if r.asn == u then record r { rules = r.rules ++ rule ∷ [] } else r

abbrev pub with_rule : NetworkSoFar → ℕ → PrefixView → List (List ℕ) → NetworkSoFar
with_rule d u q paths = record d { net = record d.net { routers = map (ruled u (record { prefix = q; paths = paths })) d.net.routers } }

abbrev pub rule_fault : List NetRouter → ℕ → PrefixView → List Text → Result (Unit {0}) Code
rule_fault routers u q words =
    if is_ruled routers u q || not (are_distinct (map path_of words)) then Err Repeated
    else if nat_lt MOST_PATHS (length words) || is_full routers u || not (are_short (map path_of words)) then Err OutOfLimit
    else Ok tt

abbrev pub rule_line : NetworkSoFar → List Text → Result NetworkSoFar Code
rule_line d (a ∷ b ∷ words) =
    router_word (width_named d.named) d.net.routers a >>= λ u. prefix_word b >>= λ q. rule_path_words (width_named d.named) d.net.routers u words >>= λ _. rule_fault d.net.routers u q words >>= λ _.
    Ok (with_rule d u q (map path_of words))
rule_line d words = Err BadForm

-- ---- a line

abbrev pub named_line : Option Setting → NetworkSoFar → List Text → Result NetworkSoFar Code
named_line None d words = Err BadForm
named_line (Some setting) d words = setting_line setting d words

abbrev pub words_line : NetworkSoFar → List Text → Result NetworkSoFar Code
words_line d [] = Ok d
words_line d (name ∷ words) =
    if same name (codes "router") then router_line d words
    else if same name (codes "link") then link_line d words
    else if same name (codes "origin") then origin_line d words
    else if same name (codes "rank") then rule_line d words
    else named_line (setting_of name) d words

-- the network after a line, or the line's first fault
abbrev pub line_reading : NetworkSoFar → Text → Result NetworkSoFar Code
line_reading d line =
    if is_skipped line then Ok d
    else if not (is_ascii line) then Err BadForm
    else words_line d (words_of line)
