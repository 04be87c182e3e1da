-- A network of routers: their numbers and identifiers, links, the prefixes that each originates, and each router's ranked paths.
use Rattle.std.specs.Prelude.{ℕ, ◌≡◌, ◌≢◌, ◌≤◌, ◌<◌, ◌||◌, ◌==◌, Bool, List, [], ◌∷◌, length, map}
use Rattle.std.specs.List.{All, AllPairs, Any, Contains, count_by}
use mathlib.Core.Logic.{◌⊎◌}
use Rattle.bgp_values.specs.Ranges.{IsAsn, IsHoldTime, IsUnicast}
use Rattle.prefix_lanes.specs.Bits.{PrefixView, IsCanonical}
use Rattle.ranked_policy.specs.declared.network.Settings.{Settings}
use Rattle.ranked_policy.specs.declared.network.NetRouter.{NetRouter}
use Rattle.ranked_policy.specs.declared.network.Link.{Link}
use Rattle.ranked_policy.specs.declared.network.Origin.{Origin}
use Rattle.ranked_policy.specs.declared.network.RankRule.{RankRule}
use Rattle.ranked_policy.specs.declared.limits.TheConstants.{GREATEST_CUT, GREATEST_PIPE, MOST_ROUTERS, MOST_LINKS, MOST_PREFIXES, MOST_RULES, MOST_PATHS, LONGEST_PATH}
use Rattle.ranked_policy.specs.Paths.{IsSimple, BeginsWith}

-- a network as plain data: the routers by rising number, the origins by rising prefix, links and rules as they were named
pub record Plan : Type 0 where
  pub settings : Settings
  pub routers : List NetRouter
  pub links : List Link
  pub origins : List Origin

abbrev pub numbers : List NetRouter → List ℕ
numbers routers = map (λ r. r.asn) routers

abbrev pub identifiers : List NetRouter → List ℕ
identifiers routers = map (λ r. r.id) routers

-- the link joins these two, whichever it names first
abbrev pub Joins : Link → ℕ → ℕ → Type 0
Joins link u v = ((link.one ≡ u) × (link.other ≡ v)) ⊎ ((link.one ≡ v) × (link.other ≡ u))

abbrev pub touches : ℕ → Link → Bool
touches u link = (link.one == u) || (link.other == u)

-- the two are joined by a link
abbrev pub Linked : List Link → ℕ → ℕ → Type 0
Linked links u v = Any (λ link. Joins link u v) links

abbrev pub IsRouter : List NetRouter → ℕ → Type 0
IsRouter routers u = Contains (numbers routers) u

-- the router is named as origin of the prefix
abbrev pub IsOrigin : List Origin → ℕ → PrefixView → Type 0
IsOrigin origins u q = Any (λ origin. (origin.prefix ≡ q) × (origin.router ≡ u)) origins

-- the prefix is named
abbrev pub IsNamed : List Origin → PrefixView → Type 0
IsNamed origins q = Any (λ origin. origin.prefix ≡ q) origins

-- from u each of these is linked with the one before it, and the last is w
abbrev pub Walks : List Link → ℕ → List ℕ → ℕ → Type 0
Walks links u [] w = u ≡ w
Walks links u (v ∷ vs) w = Linked links u v × Walks links v vs w

-- links lead from one to the other
abbrev pub Joined : List Link → ℕ → ℕ → Type 0
Joined links u w = (vs : List ℕ) × Walks links u vs w

-- links lead from each router to each other one
abbrev pub IsConnected : List NetRouter → List Link → Type 0
IsConnected routers links = (u v : ℕ) → IsRouter routers u → IsRouter routers v → Joined links u v

-- each setting is in its range: the hold time that an OPEN proposes (RFC 4271 section 4.2), the octets of a piece, the
-- items of a pipe
pub record IsSettings (s : Settings) : Type 0 where
  pub hold : IsHoldTime s.hold
  pub cut : (1 ≤ s.cut) × (s.cut ≤ GREATEST_CUT)
  pub pipe : (1 ≤ s.pipe) × (s.pipe ≤ GREATEST_PIPE)

-- prefixes by address, then by length
abbrev pub IsBefore : PrefixView → PrefixView → Type 0
IsBefore p q = (p.addr < q.addr) ⊎ ((p.addr ≡ q.addr) × (p.len < q.len))

-- links between the routers with these numbers
pub record AreLinks (all : List ℕ) (links : List Link) : Type 0 where
  pub known : All (λ link. Contains all link.one × Contains all link.other) links
  pub apart : All (λ link. link.one ≢ link.other) links
  pub distinct : AllPairs (λ link later. Joins link later.one later.other → ⊥) links
  pub few : (u : ℕ) → count_by (touches u) links ≤ MOST_LINKS

-- origins among the routers with these numbers, each prefix once
pub record AreOrigins (all : List ℕ) (origins : List Origin) : Type 0 where
  pub few : length origins ≤ MOST_PREFIXES
  pub rising : AllPairs (λ origin later. IsBefore origin.prefix later.prefix) origins
  pub canonical : All (λ origin. IsCanonical origin.prefix) origins
  pub known : All (λ origin. Contains all origin.router) origins

-- the ranked paths of a rule of router u, among the routers with these numbers
pub record AreRanked (all : List ℕ) (u : ℕ) (paths : List (List ℕ)) : Type 0 where
  pub begins : All (λ path. BeginsWith path u) paths
  pub simple : All IsSimple paths
  pub short : All (λ path. length path ≤ LONGEST_PATH) paths
  pub distinct : AllPairs (λ path later. path ≢ later) paths
  pub known : All (All (Contains all)) paths
  pub few : length paths ≤ MOST_PATHS

pub record AreRules (all : List ℕ) (u : ℕ) (rules : List RankRule) : Type 0 where
  pub few : length rules ≤ MOST_RULES
  pub canonical : All (λ rule. IsCanonical rule.prefix) rules
  pub distinct : AllPairs (λ rule later. rule.prefix ≢ later.prefix) rules
  pub ranked : All (λ rule. AreRanked all u rule.paths) rules

-- a network so far: it is within the limits, names only its own routers, and repeats nothing
pub record IsPlan (net : Plan) : Type 0 where
  pub settings : IsSettings net.settings
  pub few : length net.routers ≤ MOST_ROUTERS
  pub rising : AllPairs (λ u v. u < v) (numbers net.routers)
  pub in_range : All (IsAsn net.settings.width) (numbers net.routers)
  pub distinct : AllPairs (λ a b. a ≢ b) (identifiers net.routers)
  pub unicast : All IsUnicast (identifiers net.routers)
  pub links : AreLinks (numbers net.routers) net.links
  pub origins : AreOrigins (numbers net.routers) net.origins
  pub rules : All (λ r. AreRules (numbers net.routers) r.asn r.rules) net.routers

-- a whole network: it has a router besides, and links lead from each router to each other one
pub record IsNetwork (net : Plan) : Type 0 where
  pub plan : IsPlan net
  pub some : 0 < length net.routers
  pub connected : IsConnected net.routers net.links
