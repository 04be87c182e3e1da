-- Snapshots that are left out for one that has settled.
use Rattle.std.proofs.Common.{◌≡◌, ℕ, zero, suc, ◌-◌, ◌/◌, ◌%◌, ◌<◌, ◌≤◌, Bool, cond, List, [], ◌∷◌, ◌++◌, length, map, get_or, refl, sym, ap, subst, ◌∙◌, inl, inr, arith}
use Rattle.std.specs.Prelude.{◌==◌, ◌||◌, min, nat_lt}
use Rattle.std.proofs.Math.Nat.{le-min, min-eq_left, min-le_left}
use Rattle.std.proofs.lemmas.Bool.{cases_lt, le-ltb}
use Rattle.ranked_policy.specs.Plans.{Plan}
use Rattle.ranked_policy.specs.declared.network.NetRouter.{NetRouter}
use Rattle.router_model.specs.declared.command.Command.TheVariants.{Snapshot}
use Rattle.worker_loop.specs.declared.chore.Chore.{Chore}
use Rattle.worker_loop.specs.declared.chore.Chore.TheVariants.{Turn, Command}
use Rattle.net_workers.specs.declared.record.Worked.{Worked}
use Rattle.text_engines.proofs.CheckLemmas.{within}
use Rattle.thread_engines.specs.declared.chores.RunOptions.{RunOptions}
use Rattle.thread_engines.specs.declared.gates.RunGate.{RunGate}
use Rattle.thread_engines.specs.declared.gates.Until.{Until}
use Rattle.thread_engines.specs.declared.gates.Until.TheVariants.{Last, OneSettled}
use Rattle.thread_engines.specs.Gates.{Script, Asked, asked_of, asked_for, script_of, scripts_for, spacing_of, opening, later_chore, chore_at, first_chores, last_taken, HaveTakenAll}
use Rattle.thread_engines.specs.Records.{run_scripts}
use Rattle.thread_engines.proofs.GateLemmas.{counted}

-- ---- the chores of a gate

pub taken_at_first : (until : Until) (n : ℕ) → last_taken until n n ≡ n
taken_at_first Last n = refl
taken_at_first OneSettled n = min-eq_left (omega arith)

min_below : (m p n : ℕ) → n ≤ p → nat_lt (min m p) n ≡ nat_lt m n
min_below m p n few = elim (cases_lt m n) [
  | inl less ↦ ap (λ (k : ℕ). nat_lt k n) (min-eq_left (omega (arith, less, few)))
  | inr most ↦ le-ltb (min m p) n (le-min most few) ∙ sym (le-ltb m n most)
]

later_below : (q m p b : ℕ) → (0 < q → b / q ≤ p) → later_chore q (min m p) b ≡ later_chore q m b
later_below zero m p b few = refl
later_below (suc q) m p b few =
    ap (λ (above : Bool). cond ((suc q == 0) || nat_lt 0 (b % suc q)) Turn (cond ((b / suc q == 0) || above) Turn (Command (Snapshot (b / suc q)))))
    (min_below m p (b / suc q) (few (omega arith)))

-- a chore in front of the snapshots that are left out
abbrev IsBefore : List Chore → (spacing last i : ℕ) → Type 0
IsBefore opening q p i = length opening ≤ i → 0 < q → (i - length opening) / q ≤ p

abbrev script : List Chore → (spacing snapshots : ℕ) → Script
script opening q k = record { opening = opening; spacing = q; snapshots = k }

chore_below : (opening : List Chore) (q m p i : ℕ) → IsBefore opening q p i → chore_at (script opening q (min m p)) i ≡ chore_at (script opening q m) i
chore_below opening q m p i few = elim (cases_lt i (length opening)) [
  | inl below ↦ within opening i (later_chore q (min m p) (i - length opening)) (later_chore q m (i - length opening)) below
  | inr far ↦ ap (get_or opening i) (later_below q m p (i - length opening) (few far))
]

chore_still : (until : Until) (opening : List Chore) (q s l p i : ℕ) → p < l → IsBefore opening q p i
    → chore_at (script opening q (last_taken until s p)) i ≡ chore_at (script opening q (last_taken until s l)) i
chore_still Last opening q s l p i less few = refl
chore_still OneSettled opening q s l p i less few =
    chore_below opening q s p i few ∙ sym (chore_below opening q s l i (λ far apart. let k = few far apart in omega (arith, k, less)))

first_alike : (f h : ℕ → Chore) (n : ℕ) → ((i : ℕ) → i < n → f i ≡ h i) → first_chores f n ≡ first_chores h n
first_alike f h zero same = refl
first_alike f h (suc n) same =
    ap (λ (cs : List Chore). cs ++ f n ∷ []) (first_alike f h n (λ i below. same i (omega (arith, below)))) ∙ ap (λ (c : Chore). first_chores h n ++ c ∷ []) (same n (omega arith))

-- the chores that were given stay, if none is left out of them
pub given_still : (until : Until) (opening : List Chore) (q s l p count turn len : ℕ) → p < l → turn ≡ length (first_chores (chore_at (script opening q (last_taken until s l))) count) → len ≡ length opening
    → ((i : ℕ) → i < turn → len ≤ i → 0 < q → (i - len) / q ≤ p)
    → first_chores (chore_at (script opening q (last_taken until s p))) count ≡ first_chores (chore_at (script opening q (last_taken until s l))) count
given_still until opening q s l p count turn len less t many few =
    let same : turn ≡ count = t ∙ counted (chore_at (script opening q (last_taken until s l))) count in
    first_alike (chore_at (script opening q (last_taken until s p))) (chore_at (script opening q (last_taken until s l))) count
    (λ i below. chore_still until opening q s l p i less
    (λ far apart. let here : i < turn = omega (arith, below, same) in let behind : len ≤ i = omega (arith, far, many) in
    subst (λ (n : ℕ). (i - n) / q ≤ p) many (few i here behind apart)))

-- ---- the scripts of all gates

-- what the gates of a run are asked for
pub asked_so : (options : RunOptions) (until : Until) (net : Plan) (gates : List RunGate) (spacing : ℕ) → spacing ≡ spacing_of net options
    → map asked_of gates ≡ asked_for until (scripts_for net spacing options.snapshots net.routers) → map asked_of gates ≡ asked_for until (run_scripts options net)
asked_so options until net gates spacing is asked = asked ∙ ap (λ (n : ℕ). asked_for until (scripts_for net n options.snapshots net.routers)) is

-- the script that a gate follows, by what it was asked for
followed : (g : RunGate) (s : Script) (until : Until) → asked_of g ≡ record { script = s; until = until }
    → script_of g ≡ record { opening = s.opening; spacing = s.spacing; snapshots = last_taken until s.snapshots g.last }
followed g s until asked = ap (λ (a : Asked). record { opening = a.script.opening; spacing = a.script.spacing; snapshots = last_taken a.until a.script.snapshots g.last }) asked

first_two : {X : Type 0} {x y : X} {xs ys : List X} → x ≡ y → xs ≡ ys → x ∷ xs ≡ y ∷ ys
first_two {X} {x} {y} {xs} {ys} one more = ap (λ (z : X). z ∷ xs) one ∙ ap (λ (zs : List X). y ∷ zs) more

-- each script is followed whole if its snapshots are taken until the last
pub all_followed : (ws : List (Worked RunGate)) (scripts : List Script) → map (λ w. asked_of w.gate) ws ≡ asked_for Last scripts → map (λ w. script_of w.gate) ws ≡ scripts
all_followed [] [] asked = refl
all_followed [] (s ∷ ss) asked = absurd cc
all_followed (w ∷ ws) [] asked = absurd cc
all_followed (w ∷ ws) (s ∷ ss) asked =
    let here : asked_of w.gate ≡ record { script = s; until = Last } = cc in
    let rest : map (λ w. asked_of w.gate) ws ≡ asked_for Last ss = cc in
    first_two (followed w.gate s Last here) (all_followed ws ss rest)

-- a script without snapshots is followed whole
none_followed : (net : Plan) (spacing : ℕ) (rs : List NetRouter) (ws : List (Worked RunGate)) → map (λ w. asked_of w.gate) ws ≡ asked_for OneSettled (scripts_for net spacing 0 rs)
    → map (λ w. script_of w.gate) ws ≡ scripts_for net spacing 0 rs
none_followed net spacing [] [] asked = refl
none_followed net spacing [] (w ∷ ws) asked = absurd cc
none_followed net spacing (r ∷ rs) [] asked = absurd cc
none_followed net spacing (r ∷ rs) (w ∷ ws) asked =
    let s : Script = record { opening = opening net r.asn; spacing = spacing; snapshots = 0 } in
    let here : asked_of w.gate ≡ record { script = s; until = OneSettled } = cc in
    let rest : map (λ w. asked_of w.gate) ws ≡ asked_for OneSettled (scripts_for net spacing 0 rs) = cc in
    let none : min 0 w.gate.last ≡ 0 = min-eq_left (omega arith) in
    first_two (followed w.gate s OneSettled here ∙ ap (λ (k : ℕ). record { opening = opening net r.asn; spacing = spacing; snapshots = k }) none) (none_followed net spacing rs ws rest)

-- so many snapshots of a run are taken; all, if no gate left one out
pub record TakesSo (net : Plan) (spacing snapshots : ℕ) (rs : List NetRouter) (ws : List (Worked RunGate)) : Type 0 where
  pub taken : ℕ
  pub few : taken ≤ snapshots
  pub scripts : map (λ w. script_of w.gate) ws ≡ scripts_for net spacing taken rs
  pub all : HaveTakenAll ws → taken ≡ snapshots

pub so_followed : (net : Plan) (spacing snapshots : ℕ) (rs : List NetRouter) (ws : List (Worked RunGate)) → map (λ w. asked_of w.gate) ws ≡ asked_for OneSettled (scripts_for net spacing snapshots rs)
    → TakesSo net spacing snapshots rs ws
so_followed net spacing snapshots [] [] asked = record { taken = snapshots; few = omega arith; scripts = refl; all = λ h. refl }
so_followed net spacing snapshots [] (w ∷ ws) asked = absurd cc
so_followed net spacing snapshots (r ∷ rs) [] asked = absurd cc
so_followed net spacing snapshots (r ∷ rs) (w ∷ ws) asked =
    let s : Script = record { opening = opening net r.asn; spacing = spacing; snapshots = snapshots } in
    let here : asked_of w.gate ≡ record { script = s; until = OneSettled } = cc in
    let rest : map (λ w. asked_of w.gate) ws ≡ asked_for OneSettled (scripts_for net spacing 0 rs) = cc in
    let follows = followed w.gate s OneSettled here in
    record {
      taken = min snapshots w.gate.last;
      few = min-le_left snapshots w.gate.last;
      scripts = first_two follows (none_followed net spacing rs ws rest);
      all = λ h. sym (ap (λ (x : Script). x.snapshots) follows) ∙ h.0 ∙ ap (λ (a : Asked). a.script.snapshots) here;
    }
