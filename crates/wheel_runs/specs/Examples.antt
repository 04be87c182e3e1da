-- A network in which no numbers are a bound, and one that has a bound.
use Rattle.std.specs.Prelude.{ℕ, ◌+◌, ◌*◌, ◌≡◌, ◌==◌, cond, List, [], ◌∷◌}
use Rattle.bgp_values.specs.declared.width.Width.TheVariants.{Two}
use Rattle.ranked_policy.specs.Plans.{Plan}
use Rattle.stable_paths.specs.Examples.{ten, ranks, disagree}
use Rattle.wheel_runs.specs.Bounds.{IsBound}

-- in DISAGREE (Griffin, Shepherd and Wilfong 2002, figure 3) the number of 2-1 would be above that of 3-1, since router 2
-- likes 2-3-1 better, and that of 3-1 above that of 2-1
abbrev pub DisagreeHasNoBound : Type 0
DisagreeHasNoBound =
    (commands : ℕ → ℕ) (dialled : ℕ → ℕ → ℕ) (B : List ℕ → ℕ) → IsBound commands dialled disagree ten B → ⊥

-- two routers: 1 is the origin, 2 permits 2-1
abbrev pub pair : Plan
pair = record {
  settings = record { hold = 90; restart = 120; cut = 4096; pipe = 16; width = Two };
  routers =
      record { asn = 1; id = 16843009; rules = [] }
      ∷ record { asn = 2; id = 33686018; rules = ranks ((2 ∷ 1 ∷ []) ∷ []) } ∷ [];
  links = record { one = 1; other = 2 } ∷ [];
  origins = record { prefix = ten; router = 1 } ∷ [];
}

-- the origin's path: three times its commands; the other's: twice its own commands, what the link brings, and that
abbrev pub pair_bound : (ℕ → ℕ) → (ℕ → ℕ → ℕ) → List ℕ → ℕ
pair_bound commands dialled [] = 0
pair_bound commands dialled (u ∷ []) = 3 * commands u
pair_bound commands dialled (u ∷ v ∷ rest) = 2 * commands u + (1 + dialled v u + 2 * dialled u v) + 3 * commands v

-- router 1 is told to originate, and no more
abbrev pub one_command : ℕ → ℕ
one_command u = cond (u == 1) 1 0

-- these numbers are a bound. After one command and one session router 1 changed its path three times at most, and router
-- 2 seven times
abbrev pub PairHasABound : Type 0
PairHasABound =
    ((commands : ℕ → ℕ) (dialled : ℕ → ℕ → ℕ) → IsBound commands dialled pair ten (pair_bound commands dialled))
    × (pair_bound one_command (λ u v. 1) (1 ∷ []) ≡ 3)
    × (pair_bound one_command (λ u v. 1) (2 ∷ 1 ∷ []) ≡ 7)
