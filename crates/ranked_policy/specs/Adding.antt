-- How each call changes a network, and what it refuses.
use Rattle.std.specs.Prelude.{ℕ, ◌≡◌, ◌≢◌, ◌≤◌, ◌<◌, List, [], ◌∷◌, ◌++◌, length, Result, Ok, Err}
use Rattle.std.specs.List.{All, AllPairs, count_by}
use mathlib.Core.Logic.{◌⊎◌}
use Rattle.prefix_lanes.specs.Bits.{PrefixView}
use Rattle.ranked_policy.specs.declared.network.Settings.{Settings}
use Rattle.ranked_policy.specs.declared.network.NetRouter.{NetRouter}
use Rattle.ranked_policy.specs.declared.network.Link.{Link}
use Rattle.ranked_policy.specs.declared.network.Origin.{Origin}
use Rattle.ranked_policy.specs.declared.network.RankRule.{RankRule}
use Rattle.ranked_policy.specs.declared.refusal.NetError.{NetError}
use Rattle.ranked_policy.specs.declared.refusal.NetError.TheVariants.{NotSimple, TooLong, Repeated, Memory, UnknownRouter, Limit, BadNumber, NotConnected}
use Rattle.ranked_policy.specs.Paths.{IsSimple, BeginsWith}
use Rattle.ranked_policy.specs.declared.limits.TheConstants.{MOST_ROUTERS, MOST_LINKS, MOST_PREFIXES, MOST_RULES, MOST_PATHS, LONGEST_PATH}
use Rattle.ranked_policy.specs.Plans.{Plan, Joins, touches, IsRouter, IsNamed, IsConnected, IsSettings}
use Rattle.bgp_values.specs.declared.width.Width.{Width}
use Rattle.bgp_values.specs.Ranges.{IsAsn, IsUnicast}

-- the order in which refusals are judged: want of memory last
abbrev pub turn : NetError → ℕ
turn NotSimple = 1
turn TooLong = 2
turn Repeated = 3
turn UnknownRouter = 4
turn Limit = 5
turn BadNumber = 6
turn NotConnected = 7
turn Memory = 8

-- a call refuses the first in this order of what isn't met; want of memory where all is met
pub record IsRefused (Meets : NetError → Type 0) (e : NetError) : Type 0 where
  pub unmet : (e ≡ Memory) ⊎ (Meets e → ⊥)
  pub earlier : (f : NetError) → turn f < turn e → Meets f

abbrev pub MeetsAll : (NetError → Type 0) → Type 0
MeetsAll Meets = (e : NetError) → Meets e

-- the answer of a call that takes no memory: done where all is met, else the first refusal
abbrev pub IsJudged : (NetError → Type 0) → Result (Unit {0}) NetError → Type 0
IsJudged Meets (Ok u) = MeetsAll Meets
IsJudged Meets (Err e) = (e ≢ Memory) × IsRefused Meets e

-- the new list is the old one with one item more, wherever it stands
pub record Gains {A : Type 0} (old new : List A) (item : A) : Type 0 where
  pub before : List A
  pub behind : List A
  pub was : old ≡ before ++ behind
  pub is : new ≡ before ++ item ∷ behind

-- the new list is the old one with one item changed in its place
pub record Changes {A : Type 0} (old new : List A) (was is : A) : Type 0 where
  pub before : List A
  pub behind : List A
  pub first : old ≡ before ++ was ∷ behind
  pub second : new ≡ before ++ is ∷ behind

-- settings meet what this refusal is about
abbrev pub SettingsMeet : Settings → NetError → Type 0
SettingsMeet s BadNumber = IsSettings s
SettingsMeet s e = Unit {0}

abbrev pub empty_plan : Settings → Plan
empty_plan s = record { settings = s; routers = []; links = []; origins = [] }

-- a new router meets what this refusal is about
abbrev pub RouterMeets : Width → List NetRouter → ℕ → ℕ → NetError → Type 0
RouterMeets width routers u id Repeated = All (λ r. (r.asn ≢ u) × (r.id ≢ id)) routers
RouterMeets width routers u id Limit = length routers < MOST_ROUTERS
RouterMeets width routers u id BadNumber = IsAsn width u × IsUnicast id
RouterMeets width routers u id e = Unit {0}

pub record AddsRouter (old new : Plan) (u id : ℕ) : Type 0 where
  pub routers : Gains old.routers new.routers (record { asn = u; id = id; rules = [] })
  pub settings : new.settings ≡ old.settings
  pub links : new.links ≡ old.links
  pub origins : new.origins ≡ old.origins

-- a new link meets what this refusal is about
abbrev pub LinkMeets : List NetRouter → List Link → ℕ → ℕ → NetError → Type 0
LinkMeets routers links a b Repeated = (a ≢ b) × All (λ link. Joins link a b → ⊥) links
LinkMeets routers links a b UnknownRouter = IsRouter routers a × IsRouter routers b
LinkMeets routers links a b Limit = (count_by (touches a) links < MOST_LINKS) × (count_by (touches b) links < MOST_LINKS)
LinkMeets routers links a b e = Unit {0}

abbrev pub with_link : Plan → ℕ → ℕ → Plan
with_link net a b = record net { links = net.links ++ (record { one = a; other = b }) ∷ [] }

-- a new origin meets what this refusal is about
abbrev pub OriginMeets : List NetRouter → List Origin → ℕ → PrefixView → NetError → Type 0
OriginMeets routers origins u q Repeated = IsNamed origins q → ⊥
OriginMeets routers origins u q UnknownRouter = IsRouter routers u
OriginMeets routers origins u q Limit = length origins < MOST_PREFIXES
OriginMeets routers origins u q e = Unit {0}

pub record AddsOrigin (old new : Plan) (u : ℕ) (q : PrefixView) : Type 0 where
  pub origins : Gains old.origins new.origins (record { prefix = q; router = u })
  pub settings : new.settings ≡ old.settings
  pub routers : new.routers ≡ old.routers
  pub links : new.links ≡ old.links

-- a new rule meets what this refusal is about
abbrev pub RuleMeets : List NetRouter → ℕ → PrefixView → List (List ℕ) → NetError → Type 0
RuleMeets routers u q paths NotSimple = All (λ path. BeginsWith path u × IsSimple path) paths
RuleMeets routers u q paths TooLong = All (λ path. length path ≤ LONGEST_PATH) paths
RuleMeets routers u q paths Repeated =
    AllPairs (λ path later. path ≢ later) paths
    × All (λ r. r.asn ≡ u → All (λ rule. rule.prefix ≢ q) r.rules) routers
RuleMeets routers u q paths UnknownRouter = IsRouter routers u × All (All (IsRouter routers)) paths
RuleMeets routers u q paths Limit = (length paths ≤ MOST_PATHS) × All (λ r. r.asn ≡ u → length r.rules < MOST_RULES) routers
RuleMeets routers u q paths e = Unit {0}

-- a router has one more rule
abbrev pub GainsRule : List NetRouter → List NetRouter → ℕ → RankRule → Type 0
GainsRule old new u rule = (r : NetRouter) × (r.asn ≡ u) × Changes old new r (record r { rules = r.rules ++ rule ∷ [] })

pub record AddsRule (old new : Plan) (u : ℕ) (q : PrefixView) (paths : List (List ℕ)) : Type 0 where
  pub routers : GainsRule old.routers new.routers u (record { prefix = q; paths = paths })
  pub settings : new.settings ≡ old.settings
  pub links : new.links ≡ old.links
  pub origins : new.origins ≡ old.origins

-- the whole network meets what this refusal is about
abbrev pub NetworkMeets : List NetRouter → List Link → NetError → Type 0
NetworkMeets routers links Limit = 0 < length routers
NetworkMeets routers links NotConnected = IsConnected routers links
NetworkMeets routers links e = Unit {0}
