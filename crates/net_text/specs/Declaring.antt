-- What a network text declares: a router, a link, an origin is in the network exactly where a line names it.
use Rattle.std.specs.Prelude.{ℕ, ◌≡◌, ◌↔◌, List, [], ◌∷◌, Ok, codes}
use mathlib.Core.Logic.{◌⊎◌}
use Rattle.prefix_lanes.specs.Bits.{PrefixView}
use Rattle.ranked_policy.specs.Plans.{Plan}
use Rattle.bgp_values.specs.declared.width.Width.TheVariants.{Four}
use Rattle.net_text.specs.Lexing.{Text}
use Rattle.net_text.specs.Layout.{HasWords}
use Rattle.net_text.specs.Words.{asn_word, id_word, prefix_word}
use Rattle.net_text.specs.Networks.{SpellsNetwork}

-- some item of the list has the property
abbrev pub AnyOf : {X : Type 0} → (X → Type 0) → List X → Type 0
AnyOf Is [] = ⊥
AnyOf Is (x ∷ xs) = Is x ⊎ AnyOf Is xs

-- a line names a router with its identifier
abbrev pub NamesRouter : ℕ → ℕ → Text → Type 0
NamesRouter u id line =
    (a : Text) × (b : Text) × HasWords line (codes "router" ∷ a ∷ b ∷ []) × (asn_word Four a ≡ Ok u) × (id_word b ≡ Ok id)

-- a line names a link between two routers
abbrev pub NamesLink : ℕ → ℕ → Text → Type 0
NamesLink u v line = (a : Text) × (b : Text) × HasWords line (codes "link" ∷ a ∷ b ∷ []) × (asn_word Four a ≡ Ok u) × (asn_word Four b ≡ Ok v)

-- a line names a prefix and the router that originates it
abbrev pub NamesOrigin : ℕ → PrefixView → Text → Type 0
NamesOrigin u q line = (a : Text) × (b : Text) × HasWords line (codes "origin" ∷ a ∷ b ∷ []) × (asn_word Four a ≡ Ok u) × (prefix_word b ≡ Ok q)

-- the network has what the lines name, and nothing else
pub record HasWhatIsNamed (lines : List Text) (net : Plan) : Type 0 where
  pub routers : (u id : ℕ) → AnyOf (λ r. (r.asn ≡ u) × (r.id ≡ id)) net.routers ↔ AnyOf (NamesRouter u id) lines
  pub links : (u v : ℕ) → AnyOf (λ l. (l.one ≡ u) × (l.other ≡ v)) net.links ↔ AnyOf (NamesLink u v) lines
  pub origins : (u : ℕ) (q : PrefixView) → AnyOf (λ o. (o.router ≡ u) × (o.prefix ≡ q)) net.origins ↔ AnyOf (NamesOrigin u q) lines

abbrev pub NetworksHaveWhatIsNamed : Type 0
NetworksHaveWhatIsNamed = (lines : List Text) (net : Plan) → SpellsNetwork lines net → HasWhatIsNamed lines net
