-- The numbers of the snapshots that routers are told to take.
use Rattle.std.proofs.Common.{◌≡◌, ℕ, zero, suc, ◌+◌, ◌-◌, ◌/◌, ◌%◌, ◌<◌, ◌≤◌, ◌==◌, arith, Bool, true, false, cond, List, [], ◌∷◌, ◌++◌, length, map, refl, sym, subst, ◌∙◌, inl, inr}
use Rattle.std.specs.Prelude.{◌||◌, nat_lt, slice_index_or}
use Rattle.std.specs.List.{AllByRecursion, Contains}
use Rattle.std.proofs.Math.Nat.{div-eq_of_lt}
use Rattle.std.proofs.lemmas.Bool.{cases_lt, lt-ltb}
use Rattle.ranked_policy.specs.Plans.{Plan}
use Rattle.ranked_policy.specs.declared.network.NetRouter.{NetRouter}
use Rattle.router_model.specs.declared.command.Command.TheVariants.{Start, Originate, Snapshot}
use Rattle.router_model.specs.Settings.{peers}
use Rattle.worker_loop.specs.declared.chore.Chore.{Chore}
use Rattle.worker_loop.specs.declared.chore.Chore.TheVariants.{Turn, Command}
use Rattle.net_workers.specs.declared.record.TheConstants.{MOST_TURNS}
use Rattle.net_workers.specs.declared.record.Worked.{Worked}
use Rattle.net_workers.specs.Ran.{Passed, HasWorked}
use Rattle.net_workers.specs.Runs.{chores_of}
use Rattle.thread_engines.specs.declared.chores.RunOptions.{RunOptions}
use Rattle.thread_engines.specs.declared.gates.RunGate.{RunGate}
use Rattle.thread_engines.specs.Gates.{Script, HasRoom, opening, originated, first_router, numbered_or_turn, later_chore, chore_at, first_chores, script_of, given_by, scripts_for}

-- a snapshot that it takes has at most this number
abbrev IsLow : ℕ → Chore → Type 0
IsLow most c = (s : ℕ) → c ≡ Command (Snapshot s) → s ≤ most

pub all_both : {X : Type 0} (P : X → Type 0) (xs ys : List X) → AllByRecursion P xs → AllByRecursion P ys → AllByRecursion P (xs ++ ys)
all_both P [] ys h k = k
all_both P (x ∷ xs) ys h k = (h.0, all_both P xs ys h.1 k)

all_map : {X Y : Type 0} (P : Y → Type 0) (f : X → Y) (xs : List X) → ((x : X) → P (f x)) → AllByRecursion P (map f xs)
all_map P f [] h = tt
all_map P f (x ∷ xs) h = (h x, all_map P f xs h)

all_unmap : {X Y : Type 0} (P : Y → Type 0) (f : X → Y) (xs : List X) → AllByRecursion P (map f xs) → AllByRecursion (λ x. P (f x)) xs
all_unmap P f [] h = tt
all_unmap P f (x ∷ xs) h = (h.0, all_unmap P f xs h.1)

all_in : {X : Type 0} (P : X → Type 0) (xs : List X) (x : X) (k : ℕ) → AllByRecursion P xs → k < length xs → slice_index_or xs k x ≡ x → P x
all_in P [] x k h below at = absurd (omega (arith, below))
all_in P (y ∷ xs) x zero h below at = subst P at h.0
all_in P (y ∷ xs) x (suc k) h below at = all_in P xs x k h.1 (omega (arith, below)) at

-- ---- the chores of one router

not_below : (a b : ℕ) → nat_lt a b ≡ false → b ≤ a
not_below a b h = elim (cases_lt a b) [ inl lt ↦ absurd (let k : true ≡ false = sym (lt-ltb a b lt) ∙ h in cc) | inr le ↦ le ]

right_false : (a b : Bool) → (a || b) ≡ false → b ≡ false
right_false true b h = absurd cc
right_false false b h = h

numbered_low : (most n : ℕ) (b : Bool) → ((n == 0) || nat_lt most n) ≡ b → IsLow most (cond b Turn (Command (Snapshot n)))
numbered_low most n true is s h = absurd cc
numbered_low most n false is s h =
    let same : n ≡ s = cc in
    subst (λ (k : ℕ). k ≤ most) same (not_below most n (right_false (n == 0) (nat_lt most n) is))

later_low : (spacing most behind : ℕ) → IsLow most (later_chore spacing most behind)
later_low spacing most behind = at ((spacing == 0) || nat_lt 0 (behind % spacing))
  where
    at : (b : Bool) → IsLow most (cond b Turn (numbered_or_turn most (behind / spacing)))
    at true s h = absurd cc
    at false s h = numbered_low most (behind / spacing) ((behind / spacing == 0) || nat_lt most (behind / spacing)) refl s h

at_place : (most : ℕ) (xs : List Chore) (i : ℕ) (d : Chore) → AllByRecursion (IsLow most) xs → IsLow most d → IsLow most (slice_index_or xs i d)
at_place most [] i d h last = last
at_place most (x ∷ xs) zero d h last = h.0
at_place most (x ∷ xs) (suc i) d h last = at_place most xs i d h.1 last

opening_low : (most : ℕ) (net : Plan) (u : ℕ) → AllByRecursion (IsLow most) (opening net u)
opening_low most net u =
    all_both (IsLow most) (map (λ v. Command (Start v)) (peers net u)) (map (λ o. Command (Originate o.prefix)) (originated net u))
    (all_map (IsLow most) (λ v. Command (Start v)) (peers net u) (λ v s h. absurd cc))
    (all_map (IsLow most) (λ o. Command (Originate o.prefix)) (originated net u) (λ o s h. absurd cc))

weaker : (few most : ℕ) (c : Chore) → few ≤ most → IsLow few c → IsLow most c
weaker few most c le h s is = (let k = h s is in omega (arith, k, le))

-- what a router is script
abbrev IsLowScript : ℕ → Script → Type 0
IsLowScript most script = (i : ℕ) → IsLow most (chore_at script i)

scripts_low : (most : ℕ) (net : Plan) (spacing snapshots : ℕ) → snapshots ≤ most → (rs : List NetRouter) → AllByRecursion (IsLowScript most) (scripts_for net spacing snapshots rs)
scripts_low most net spacing snapshots le [] = tt
scripts_low most net spacing snapshots le (r ∷ rs) = (
  λ i. at_place most (opening net r.asn) i (later_chore spacing snapshots (i - length (opening net r.asn))) (opening_low most net r.asn)
      (weaker snapshots most (later_chore spacing snapshots (i - length (opening net r.asn))) le (later_low spacing snapshots (i - length (opening net r.asn)))),
  scripts_low most net spacing 0 (omega arith) rs,
)

first_low : (most : ℕ) (script : Script) → IsLowScript most script → (n : ℕ) → AllByRecursion (IsLow most) (first_chores (chore_at script) n)
first_low most script h zero = tt
first_low most script h (suc n) = all_both (IsLow most) (first_chores (chore_at script) n) (chore_at script n ∷ []) (first_low most script h n) (h n, tt)

-- ---- those of all routers

chores_low : (most : ℕ) (net : Plan) (turns : ℕ) (p : Passed) (ws : List (Worked RunGate)) → AllByRecursion (HasWorked given_by net turns p) ws
    → AllByRecursion (λ w. IsLowScript most (script_of w.gate)) ws → (u : ℕ) → AllByRecursion (IsLow most) (chores_of ws u)
chores_low most net turns p [] worked low u = tt
chores_low most net turns p (w ∷ ws) worked low u = at (w.router.number == u) (chores_low most net turns p ws worked.1 low.1 u)
  where
    at : (b : Bool) → AllByRecursion (IsLow most) (chores_of ws u) → AllByRecursion (IsLow most) (cond b w.journal.chores.items (chores_of ws u))
    at true rest = subst (AllByRecursion (IsLow most)) (sym worked.0.chores) (first_low most (script_of w.gate) low.0 w.gate.count)
    at false rest = rest

-- the options leave room for so few snapshots alone
pub few_snapshots : (net : Plan) (options : RunOptions) → HasRoom net options → options.snapshots ≤ MOST_TURNS
few_snapshots net options room =
    let behind = options.turns - length (opening net (first_router net.routers)) in
    elim (cases_lt behind (options.snapshots + 1)) [
      | inl lt ↦ (let none : behind / (options.snapshots + 1) ≡ 0 = div-eq_of_lt lt in let some = room.apart in absurd (omega (arith, none, some)))
      | inr le ↦ (let most = room.few in omega (arith, le, most))
    ]

-- each snapshot that a router was told to take
pub numbers_low : (most : ℕ) (net : Plan) (turns spacing snapshots : ℕ) (p : Passed) (ws : List (Worked RunGate)) → snapshots ≤ most → AllByRecursion (HasWorked given_by net turns p) ws
    → map (λ w. script_of w.gate) ws ≡ scripts_for net spacing snapshots net.routers → (u s : ℕ) → Contains (chores_of ws u) (Command (Snapshot s)) → s ≤ most
numbers_low most net turns spacing snapshots p ws le worked script u s c =
    let low = all_unmap (IsLowScript most) (λ (w : Worked RunGate). script_of w.gate) ws (subst (AllByRecursion (IsLowScript most)) (sym script) (scripts_low most net spacing snapshots le net.routers)) in
    all_in (IsLow most) (chores_of ws u) (Command (Snapshot s)) c.0 (chores_low most net turns p ws worked low u) c.1 c.2 s refl
