-- The text printed for a network and an assignment; `all` is whether all routers that would move are listed.
use Rattle.std.specs.Prelude.{◌≡◌, ◌≢◌, ℕ, ◌<◌, ◌==◌, ◌&&◌, ◌||◌, nat_lt, Bool, true, false, slice_index_or, List, [], ◌∷◌, ◌++◌, length, codes, decimal, Ok, if◌then◌else◌, ◌⊎◌}
use Rattle.std.specs.List.{All, flat_map}
use Rattle.prefix_lanes.specs.Bits.{PrefixView, is_prefix}
use Rattle.ranked_policy.specs.Plans.{Plan}
use Rattle.ranked_policy.specs.declared.network.Origin.{Origin}
use Rattle.stable_paths.specs.declared.assignment.Assigned.{Assigned}
use Rattle.stable_paths.specs.declared.verdict.Mover.{Mover}
use Rattle.stable_paths.specs.Stable.{Problem, path_of, IsStable, MayHave}
use Rattle.stable_paths.specs.Judging.{IsMoving, AreMovers}
use Rattle.net_text.specs.declared.code.Code.{Code}
use Rattle.net_text.specs.declared.code.Code.TheVariants as kinds
use Rattle.net_text.specs.declared.assignment.Entry.{Entry}
use Rattle.net_text.specs.Lexing.{Text}
use Rattle.net_text.specs.Assignments.{assignment_reading, RefusesAssignment}
use Rattle.net_text.specs.Printing.{line, prefix_text, code_text, unstable_line, stable_line}
use Rattle.text_engines.specs.declared.status.TheConstants.{DONE}
use Rattle.text_engines.specs.Decoding.{Output, output, refused}
use Rattle.text_engines.specs.Inputs.{InputGives, Prints}

-- ---- what entries say of a prefix

-- the path of each router by the last entry for it and the prefix, or the given path if there is none
abbrev pub paths_by : (ℕ → List ℕ) → PrefixView → List Entry → ℕ → List ℕ
paths_by paths prefix [] = paths
paths_by paths prefix (e ∷ es) = paths_by (λ u. if (e.router == u) && is_prefix e.prefix prefix then e.path else paths u) prefix es

abbrev pub paths_of : List Entry → PrefixView → ℕ → List ℕ
paths_of entries prefix = paths_by (λ u. []) prefix entries

-- by address, then by length
abbrev pub is_before : PrefixView → PrefixView → Bool
is_before p q = nat_lt p.addr q.addr || ((p.addr == q.addr) && nat_lt p.len q.len)

-- the origin at this place, and no other, has the prefix
pub record IsPlace (origins : List Origin) (q : PrefixView) (place : ℕ) : Type 0 where
  pub inside : place < length origins
  pub only : (i : ℕ) (o : Origin) → i < length origins → is_prefix q (slice_index_or origins i o).prefix ≡ (i == place)

abbrev pub HasNoPlace : List Origin → PrefixView → Type 0
HasNoPlace origins q = (i : ℕ) (o : Origin) → i < length origins → is_prefix q (slice_index_or origins i o).prefix ≡ false

-- so many assignments of no path
pub record AssignNothing (count : ℕ) (all : List (List Assigned)) : Type 0 where
  pub as_many : length all ≡ count
  pub nothing : (i : ℕ) (u : ℕ) → path_of (slice_index_or all i []) u ≡ []

-- for the prefix of each origin, the paths that the entries give
pub record Assign (origins : List Origin) (entries : List Entry) (all : List (List Assigned)) : Type 0 where
  pub as_many : length all ≡ length origins
  pub each : (i : ℕ) (o : Origin) → i < length origins → (u : ℕ) → path_of (slice_index_or all i []) u ≡ paths_of entries (slice_index_or origins i o).prefix u

abbrev pub at_prefix : Plan → PrefixView → Problem
at_prefix net prefix = record { net = net; prefix = prefix; originated = true }

-- the router of an entry may have its path
abbrev pub MayStand : Plan → Entry → Type 0
MayStand net e = MayHave net e.prefix e.router e.path

-- the first entry whose path is not permitted
pub record IsFirstStray (net : Plan) (entries : List Entry) (at : ℕ) : Type 0 where
  pub before : List Entry
  pub stray : Entry
  pub behind : List Entry
  pub whole : entries ≡ before ++ stray ∷ behind
  pub good : All (MayStand net) before
  pub not_permitted : MayStand net stray → ⊥
  pub stands_at : stray.line ≡ at

abbrev pub IsStableAt : Plan → List Entry → Origin → Type 0
IsStableAt net entries origin = IsStable (at_prefix net origin.prefix) (paths_of entries origin.prefix)

-- the first prefix for which a router would move, and the least such router
pub record IsFirstMove (net : Plan) (entries : List Entry) (router : ℕ) (has best : List ℕ) : Type 0 where
  pub before : List Origin
  pub moving : Origin
  pub behind : List Origin
  pub whole : net.origins ≡ before ++ moving ∷ behind
  pub stable : All (IsStableAt net entries) before
  pub moves : IsMoving (at_prefix net moving.prefix) (paths_of entries moving.prefix) router has best

-- ---- the text printed

pub data Moves (net : Plan) (entries : List Entry) (out : Output) : Type 0 where
  it_moves : (router : ℕ) (has best : List ℕ) → IsFirstMove net entries router has best → out ≡ output (unstable_line router has best) DONE → Moves net entries out

-- the text for entries that are all permitted
abbrev pub VerdictGives : Plan → List Entry → Output → Type 0
VerdictGives net entries out = (All (IsStableAt net entries) net.origins × (out ≡ output stable_line DONE)) ⊎ Moves net entries out

-- a prefix for which no router would move
unfoldable pub rests_line : PrefixView → List ℕ
rests_line q = line (codes "prefix" ++ (prefix_text q ++ codes " stable"))

-- one for which so many would
unfoldable pub moves_line : PrefixView → ℕ → List ℕ
moves_line q n = line (codes "prefix" ++ (prefix_text q ++ (codes " unstable " ++ decimal n)))

abbrev pub movers_lines : List Mover → List ℕ
movers_lines movers = flat_map (λ m. unstable_line m.router m.has m.best) movers

-- a prefix, and the routers that would move
abbrev pub movers_text : PrefixView → List Mover → List ℕ
movers_text q [] = rests_line q
movers_text q (m ∷ movers) = moves_line q (length (m ∷ movers)) ++ movers_lines (m ∷ movers)

-- the text of all routers that would move, prefix by prefix
abbrev pub MoversText : Plan → List Entry → List Origin → List ℕ → Type 0
MoversText net entries [] text = text ≡ []
MoversText net entries (o ∷ os) text =
    (movers : List Mover) × (rest : List ℕ) × AreMovers (at_prefix net o.prefix) (paths_of entries o.prefix) net.routers movers × MoversText net entries os rest
    × (text ≡ movers_text o.prefix movers ++ rest)

abbrev pub MoversGive : Plan → List Entry → Output → Type 0
MoversGive net entries out = (text : List ℕ) × MoversText net entries net.origins text × (out ≡ output text DONE)

-- all routers that would move are listed, or the first is named
abbrev pub JudgedBy : Bool → Plan → List Entry → Output → Type 0
JudgedBy true = MoversGive
JudgedBy false = VerdictGives

-- the text for the entries of an assignment
abbrev pub EntriesGive : Bool → Plan → List Entry → Output → Type 0
EntriesGive all net entries out =
    ((at : ℕ) × IsFirstStray net entries at × (out ≡ refused at (code_text kinds.NotPermitted)))
    ⊎ (All (MayStand net) entries × JudgedBy all net entries out)

-- the text for the lines of an assignment, so many lines standing before them
abbrev pub AssignmentGives : Bool → Plan → ℕ → List Text → Output → Type 0
AssignmentGives all net before lines out =
    ((at : ℕ) × (code : Code) × (code ≢ kinds.Memory) × RefusesAssignment net before lines at code × (out ≡ refused at (code_text code)))
    ⊎ ((entries : List Entry) × (assignment_reading net before lines ≡ Ok entries) × EntriesGive all net entries out)

-- the text for an input of a network and an assignment
abbrev pub CheckGives : Bool → List ℕ → Output → Type 0
CheckGives all input out = InputGives (AssignmentGives all) (codes "assignment") input out

-- the text that the program prints: this one, or that memory ran out
abbrev pub Checks : Bool → List ℕ → Output → Type 0
Checks all input out = Prints (AssignmentGives all) (codes "assignment") input out
