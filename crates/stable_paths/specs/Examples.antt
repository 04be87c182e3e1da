-- DISAGREE (Griffin, Shepherd and Wilfong 2002, figure 3): routers 2 and 3 each prefer the way to router 1 through the other.
use Rattle.std.specs.Prelude.{ℕ, ◌≡◌, ◌==◌, true, false, List, [], ◌∷◌, if◌then◌else◌}
use Rattle.prefix_lanes.specs.Bits.{PrefixView}
use Rattle.bgp_values.specs.declared.width.Width.TheVariants.{Two}
use Rattle.ranked_policy.specs.declared.network.RankRule.{RankRule}
use Rattle.ranked_policy.specs.Plans.{Plan}
use Rattle.stable_paths.specs.ByRank.{best_by_rank}

-- 10.0.0.0/8
abbrev pub ten : PrefixView
ten = record { addr = 167772160; len = 8 }

abbrev pub ranks : List (List ℕ) → List RankRule
ranks paths = record { prefix = ten; paths = paths } ∷ []

abbrev pub disagree : Plan
disagree = record {
  settings = record { hold = 90; restart = 120; cut = 4096; pipe = 16; width = Two };
  routers =
      record { asn = 1; id = 16843009; rules = [] }
      ∷ record { asn = 2; id = 33686018; rules = ranks ((2 ∷ 3 ∷ 1 ∷ []) ∷ (2 ∷ 1 ∷ []) ∷ []) }
      ∷ record { asn = 3; id = 50529027; rules = ranks ((3 ∷ 2 ∷ 1 ∷ []) ∷ (3 ∷ 1 ∷ []) ∷ []) } ∷ [];
  links = record { one = 1; other = 2 } ∷ record { one = 1; other = 3 } ∷ record { one = 2; other = 3 } ∷ [];
  origins = record { prefix = ten; router = 1 } ∷ [];
}

-- what routers 1, 2 and 3 say
abbrev pub words : List ℕ → List ℕ → List ℕ → ℕ → List ℕ
words one two three u = if u == 1 then one else (if u == 2 then two else (if u == 3 then three else []))

-- what `best_by_rank` computes: of two choices the one that the rule ranks first; of one choice that one; of an origin
-- itself alone, or nothing; no path that is not listed
abbrev pub DisagreeChooses : Type 0
DisagreeChooses =
    (best_by_rank disagree 2 ten false (words (1 ∷ []) [] (3 ∷ 1 ∷ [])) ≡ 2 ∷ 3 ∷ 1 ∷ [])
    × (best_by_rank disagree 2 ten false (words (1 ∷ []) [] []) ≡ 2 ∷ 1 ∷ [])
    × (best_by_rank disagree 3 ten false (words (1 ∷ []) (2 ∷ 1 ∷ []) []) ≡ 3 ∷ 2 ∷ 1 ∷ [])
    × (best_by_rank disagree 3 ten false (words [] (2 ∷ 3 ∷ 1 ∷ []) []) ≡ [])
    × (best_by_rank disagree 1 ten true (words [] (2 ∷ 1 ∷ []) (3 ∷ 1 ∷ [])) ≡ 1 ∷ [])
    × (best_by_rank disagree 1 ten false (words [] (2 ∷ 1 ∷ []) (3 ∷ 1 ∷ [])) ≡ [])
