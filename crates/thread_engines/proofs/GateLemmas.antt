-- The chores of a gate.
use Rattle.std.proofs.Common.{◌≡◌, ℕ, zero, suc, ◌+◌, ◌-◌, ◌*◌, ◌/◌, ◌%◌, ◌<◌, ◌≤◌, Bool, true, false, cond, List, [], ◌∷◌, ◌++◌, length, refl, sym, ap, ◌∙◌, inl, inr, add-one, arith, length-append, get_or, map, filter, drop, replicate, append_assoc}
use Rattle.std.specs.Prelude.{◌==◌, ◌||◌, nat_lt}
use Rattle.std.proofs.lemmas.Bool.{ne_eqb, eqb-false, ltb-false, le-ltb, cases_lt}
use Rattle.std.specs.List.{count_by}
use Rattle.std.proofs.lemmas.List.{get_or_past, append-nil, drop_more, drop_all, length-map, replicate_more}
use Rattle.std.proofs.lemmas.List.Sums.{length-filter, count_by-le-length}
use Rattle.std.proofs.Math.Nat.{mul-mod_left, mul-div_cancel, mul-le-mul_right, suc-mul}
use Rattle.std.proofs.lemmas.Nat.{div-add-mod'}
use Rattle.ranked_policy.specs.Plans.{Plan, numbers}
use Rattle.ranked_policy.specs.declared.network.Link.{Link}
use Rattle.ranked_policy.specs.declared.network.NetRouter.{NetRouter}
use Rattle.ranked_policy.specs.declared.network.Origin.{Origin}
use Rattle.router_model.specs.Settings.{linked, peers}
use Rattle.router_model.specs.declared.command.Command.TheVariants.{Start, Originate, Snapshot}
use Rattle.worker_loop.specs.declared.chore.Chore.{Chore}
use Rattle.worker_loop.specs.declared.chore.Chore.TheVariants.{Turn, Command}
use Rattle.thread_engines.specs.declared.gates.Until.{Until}
use Rattle.thread_engines.specs.Gates.{opening, first_router, Script, Asked, AreChores, numbered_or_turn, later_chore, chore_at, first_chores, asked_for, scripts_for}
use Rattle.text_engines.proofs.CheckLemmas.{within}

-- ---- one more chore is given

pub counted : (chore : ℕ → Chore) (n : ℕ) → length (first_chores chore n) ≡ n
counted chore zero = refl
counted chore (suc n) =
    let h = counted chore n in
    length-append (first_chores chore n) (chore n ∷ []) ∙ (let e : length (first_chores chore n) + 1 ≡ suc n = omega arith in e)

pub next_is : (chore : ℕ → Chore) (count turn m : ℕ) (c : Chore) → turn ≡ length (first_chores chore count) → m ≡ turn → c ≡ chore turn
    → first_chores chore (m + 1) ≡ first_chores chore count ++ c ∷ []
next_is chore count turn m c t e is =
    let same : turn ≡ count = t ∙ counted chore count in
    ap (first_chores chore) (ap (λ (k : ℕ). k + 1) (e ∙ same) ∙ add-one count) ∙ ap (λ (x : Chore). first_chores chore count ++ x ∷ []) (ap chore (sym same) ∙ sym is)

-- so many Turns are given
turns_given : (chore : ℕ → Chore) (count n : ℕ) → ((i : ℕ) → i < n → chore (count + i) ≡ Turn) → first_chores chore (count + n) ≡ first_chores chore count ++ replicate n Turn
turns_given chore count zero all = ap (first_chores chore) (let e : count + 0 ≡ count = omega arith in e) ∙ sym (append-nil (first_chores chore count))
turns_given chore count (suc n) all =
    let before = turns_given chore count n (λ i below. all i (omega (arith, below))) in
    let next : count + suc n ≡ suc (count + n) = omega arith in
    ap (first_chores chore) next ∙ ap (λ (cs : List Chore). cs ++ chore (count + n) ∷ []) before
    ∙ ap (λ (c : Chore). (first_chores chore count ++ replicate n Turn) ++ c ∷ []) (all n (omega arith))
    ∙ append_assoc (first_chores chore count) (replicate n Turn) (Turn ∷ [])
    ∙ ap (λ (cs : List Chore). first_chores chore count ++ cs) (replicate_more n Turn ∙ ap (λ (k : ℕ). replicate k Turn) (let e : n + 1 ≡ suc n = omega arith in e))

pub next_are : (chore : ℕ → Chore) (count turn n m : ℕ) → turn ≡ length (first_chores chore count) → m ≡ turn + n → ((i : ℕ) → i < n → chore (turn + i) ≡ Turn)
    → first_chores chore m ≡ first_chores chore count ++ replicate n Turn
next_are chore count turn n m t e all =
    let same : turn ≡ count = t ∙ counted chore count in
    ap (first_chores chore) (e ∙ ap (λ (k : ℕ). k + n) same)
    ∙ turns_given chore count n (λ i below. ap (λ (k : ℕ). chore (k + i)) (sym same) ∙ all i below)

-- ---- by computing

not_zero : (n : ℕ) → 0 < n → (n == 0) ≡ false
not_zero n some = ne_eqb n 0 (λ is. absurd (omega (arith, some, is)))

numbered_is : (q k s : ℕ) → 0 < q → 0 < s → s ≤ k → later_chore q k (s * q) ≡ Command (Snapshot s)
numbered_is q k s apart some few =
    let none : nat_lt 0 (s * q % q) ≡ false = ap (nat_lt 0) (mul-mod_left s q) in
    let number : s * q / q ≡ s = mul-div_cancel s apart in
    let above : nat_lt k s ≡ false = le-ltb k s few in
    rw (not_zero q apart, none, number, not_zero s some, above) refl

turn_or : (k s : ℕ) (b c : Bool) → (s == 0) ≡ b → nat_lt k s ≡ c → (0 < s → s ≤ k → ⊥) → cond (b || c) Turn (Command (Snapshot s)) ≡ Turn
turn_or k s true c zero_is above never = refl
turn_or k s false true zero_is above never = refl
turn_or k s false false zero_is above never =
    let few = ltb-false k s above in
    let some : 0 < s = elim (cases_lt 0 s) [ inl more ↦ more | inr none ↦ absurd (eqb-false s 0 zero_is (omega (arith, none))) ] in
    absurd (never some few)

later_turn : (q k b : ℕ) (c d : Bool) → (q == 0) ≡ c → nat_lt 0 (b % q) ≡ d → ((s : ℕ) → 0 < s → s ≤ k → b ≡ s * q → ⊥)
    → cond (c || d) Turn (numbered_or_turn k (b / q)) ≡ Turn
later_turn q k b true d zero_is part never = refl
later_turn q k b false true zero_is part never = refl
later_turn q k b false false zero_is part never =
    let rest : b % q ≤ 0 = ltb-false 0 (b % q) part in
    let split : b / q * q + b % q ≡ b = div-add-mod' b q in
    let whole : b ≡ b / q * q = omega (arith, rest, split) in
    turn_or k (b / q) (b / q == 0) (nat_lt k (b / q)) refl refl (λ some few. never (b / q) some few whole)

-- ---- up to the next snapshot

-- behind a chore that is a Turn, and before the next number
module _ (q k b i : ℕ) (apart : 0 < q) (turn : later_chore q k b ≡ Turn) (near : b / q < k → i < q - b % q) where
  no_number : (s : ℕ) → 0 < s → s ≤ k → b + i ≡ s * q → ⊥
  no_number s some few is =
      let split : b / q * q + b % q ≡ b = div-add-mod' b q in
      elim (cases_lt s (b / q)) [
        | inl less ↦ (let most : suc s * q ≤ b / q * q = mul-le-mul_right q less in let one = suc-mul s q in absurd (omega (arith, most, one, split, is, apart)))
        | inr most ↦ elim (cases_lt (b / q) s) [
          | inl more ↦ (let least : suc (b / q) * q ≤ s * q = mul-le-mul_right q more in let one = suc-mul (b / q) q in
              let inside = near (omega (arith, more, few)) in absurd (omega (arith, least, one, split, is, inside)))
          | inr least ↦ (let same : s ≡ b / q = omega (arith, most, least) in let here : b ≡ s * q = (let e : s * q ≡ b / q * q = ap (λ (n : ℕ). n * q) same in omega (arith, e, split, is)) in
              (let e = sym turn ∙ ap (later_chore q k) here ∙ numbered_is q k s apart some few in absurd cc))
        ]
      ]

  pub turn_still : later_chore q k (b + i) ≡ Turn
  turn_still = later_turn q k (b + i) (q == 0) (nat_lt 0 ((b + i) % q)) refl refl no_number

pub no_spacing : (q k b : ℕ) → q ≡ 0 → later_chore q k b ≡ Turn
no_spacing q k b none = rw none refl

-- a chore behind the opening
pub behind_still : (script : Script) (turn i : ℕ) → length script.opening ≤ turn → later_chore script.spacing script.snapshots ((turn - length script.opening) + i) ≡ Turn → chore_at script (turn + i) ≡ Turn
behind_still script turn i far is =
    let b = (turn + i) - length script.opening in
    let same : b ≡ (turn - length script.opening) + i = omega (arith, far) in
    get_or_past script.opening (turn + i) (later_chore script.spacing script.snapshots b) (omega (arith, far)) ∙ ap (later_chore script.spacing script.snapshots) same ∙ is

module _ (script : Script) (apart : 0 < script.spacing) where
  numbered : (s : ℕ) → 0 < s → s ≤ script.snapshots → chore_at script (length script.opening + s * script.spacing) ≡ Command (Snapshot s)
  numbered s some few =
      let i = length script.opening + s * script.spacing in
      let behind : i - length script.opening ≡ s * script.spacing = omega arith in
      get_or_past script.opening i (later_chore script.spacing script.snapshots (i - length script.opening)) (omega arith)
      ∙ ap (later_chore script.spacing script.snapshots) behind ∙ numbered_is script.spacing script.snapshots s apart some few

  turns : (i : ℕ) → length script.opening ≤ i → ((s : ℕ) → 0 < s → s ≤ script.snapshots → i ≡ length script.opening + s * script.spacing → ⊥) → chore_at script i ≡ Turn
  turns i far never =
      let b = i - length script.opening in
      get_or_past script.opening i (later_chore script.spacing script.snapshots b) far
      ∙ later_turn script.spacing script.snapshots b (script.spacing == 0) (nat_lt 0 (b % script.spacing)) refl refl
      (λ s some few is. never s some few (let e : i ≡ length script.opening + s * script.spacing = omega (arith, far, is) in e))

  pub are_chores : AreChores script (chore_at script)
  are_chores = record {
    first = λ i d below. within script.opening i (later_chore script.spacing script.snapshots (i - length script.opening)) d below;
    numbered = numbered;
    turns = turns;
  }

-- ---- the chores of an opening, one by one

module _ {X : Type 0} (f : X → Chore) (p : X → Bool) where
  abbrev pub chosen : List X → List Chore
  chosen xs = map f (filter p xs)

  one_chosen : (x : X) (xs : List X) (old new all : List Chore) (b : Bool) → p x ≡ b → new ≡ old ++ cond b (f x ∷ []) [] → old ++ map f (cond b (x ∷ filter p xs) (filter p xs)) ≡ all
      → new ++ chosen xs ≡ all
  one_chosen x xs old new all true is put h = ap (λ (t : List Chore). t ++ chosen xs) put ∙ append_assoc old (f x ∷ []) (chosen xs) ∙ h
  one_chosen x xs old new all false is put h = ap (λ (t : List Chore). t ++ chosen xs) (put ∙ append-nil old) ∙ h

  pub chosen_on : (xs : List X) (i : ℕ) (x : X) (old new all : List Chore) (b : Bool) → i < length xs → x ≡ get_or xs i x → p x ≡ b → new ≡ old ++ cond b (f x ∷ []) []
      → old ++ chosen (drop i xs) ≡ all → new ++ chosen (drop (i + 1) xs) ≡ all
  chosen_on xs i x old new all b below at is put h =
      let left : drop i xs ≡ x ∷ drop (i + 1) xs = drop_more xs i x below ∙ ap (λ (y : X). y ∷ drop (i + 1) xs) (sym at) in
      one_chosen x (drop (i + 1) xs) old new all b is put
      (ap (λ (c : Bool). old ++ map f (cond c (x ∷ filter p (drop (i + 1) xs)) (filter p (drop (i + 1) xs)))) (sym is)
      ∙ ap (λ (ys : List X). old ++ chosen ys) (sym left) ∙ h)

  pub all_chosen : (xs : List X) (i : ℕ) (old all : List Chore) → length xs ≤ i → old ++ chosen (drop i xs) ≡ all → old ≡ all
  all_chosen xs i old all far h = sym (append-nil old) ∙ ap (λ (ys : List X). old ++ chosen ys) (sym (drop_all i xs far)) ∙ h

abbrev pub start : ℕ → Chore
start v = Command (Start v)

abbrev pub originate : Origin → Chore
originate o = Command (Originate o.prefix)

abbrev pub is_of : ℕ → Origin → Bool
is_of u o = o.router == u

-- the sessions, by the links of a router
abbrev pub starts : List Link → List Chore
starts links = map start (map (λ link. link.other) links)

pub start_on : (links : List Link) (i : ℕ) (link : Link) (old new all : List Chore) → i < length links → link ≡ get_or links i link → new ≡ old ++ start link.other ∷ []
    → old ++ starts (drop i links) ≡ all → new ++ starts (drop (i + 1) links) ≡ all
start_on links i link old new all below at put h =
    let left : drop i links ≡ link ∷ drop (i + 1) links = drop_more links i link below ∙ ap (λ (k : Link). k ∷ drop (i + 1) links) (sym at) in
    ap (λ (t : List Chore). t ++ starts (drop (i + 1) links)) put ∙ append_assoc old (start link.other ∷ []) (starts (drop (i + 1) links)) ∙ ap (λ (ks : List Link). old ++ starts ks) (sym left) ∙ h

pub all_started : (links : List Link) (i : ℕ) (old all : List Chore) → length links ≤ i → old ++ starts (drop i links) ≡ all → old ≡ all
all_started links i old all far h = sym (append-nil old) ∙ ap (λ (ks : List Link). old ++ starts ks) (sym (drop_all i links far)) ∙ h

pub opening_len : (net : Plan) (u : ℕ) (links : List Link) → map (λ link. link.other) links ≡ peers net u → length (opening net u) ≡ length links + count_by (is_of u) net.origins
opening_len net u links are =
    let origins = length-map (filter (is_of u) net.origins) originate ∙ length-filter (is_of u) net.origins in
    let sessions : length (map start (peers net u)) ≡ length links = length-map (peers net u) start ∙ ap length (sym are) ∙ length-map links (λ (link : Link). link.other) in
    length-append (map start (peers net u)) (chosen originate (is_of u) net.origins)
    ∙ ap (λ (n : ℕ). n + length (chosen originate (is_of u) net.origins)) sessions ∙ ap (λ (n : ℕ). length links + n) origins

-- a router has fewer links than there are routers
pub few_links : (net : Plan) (u : ℕ) (links : List Link) → map (λ link. link.other) links ≡ peers net u → length links ≤ length net.routers
few_links net u links are =
    let many : length links ≡ length (peers net u) = sym (length-map links (λ (link : Link). link.other)) ∙ ap length are in
    let counted : length (peers net u) ≡ count_by (linked net u) (numbers net.routers) = length-filter (linked net u) (numbers net.routers) in
    let all : length (numbers net.routers) ≡ length net.routers = length-map net.routers (λ (r : NetRouter). r.asn) in
    let few = count_by-le-length (linked net u) (numbers net.routers) in
    omega (arith, many, counted, all, few)

-- ---- what each gate is asked for, one by one

pub asked_on : (until : Until) (net : Plan) (spacing left : ℕ) (rs : List NetRouter) (i : ℕ) (r : NetRouter) (old new all : List Asked) → i < length rs → r ≡ get_or rs i r
    → new ≡ old ++ record { script = record { opening = opening net r.asn; spacing = spacing; snapshots = left }; until = until } ∷ []
    → old ++ asked_for until (scripts_for net spacing left (drop i rs)) ≡ all → new ++ asked_for until (scripts_for net spacing 0 (drop (i + 1) rs)) ≡ all
asked_on until net spacing left rs i r old new all below at put h =
    let one : Asked = record { script = record { opening = opening net r.asn; spacing = spacing; snapshots = left }; until = until } in
    let rest = asked_for until (scripts_for net spacing 0 (drop (i + 1) rs)) in
    let left_is : drop i rs ≡ r ∷ drop (i + 1) rs = drop_more rs i r below ∙ ap (λ (y : NetRouter). y ∷ drop (i + 1) rs) (sym at) in
    ap (λ (t : List Asked). t ++ rest) put ∙ append_assoc old (one ∷ []) rest ∙ ap (λ (ys : List NetRouter). old ++ asked_for until (scripts_for net spacing left ys)) (sym left_is) ∙ h

pub all_asked : (until : Until) (net : Plan) (spacing left : ℕ) (rs : List NetRouter) (i : ℕ) (old all : List Asked) → length rs ≤ i
    → old ++ asked_for until (scripts_for net spacing left (drop i rs)) ≡ all → old ≡ all
all_asked until net spacing left rs i old all far h =
    sym (append-nil old) ∙ ap (λ (ys : List NetRouter). old ++ asked_for until (scripts_for net spacing left ys)) (sym (drop_all i rs far)) ∙ h

pub scripts_len : (net : Plan) (spacing left : ℕ) (rs : List NetRouter) → length (scripts_for net spacing left rs) ≡ length rs
scripts_len net spacing left [] = refl
scripts_len net spacing left (r ∷ rs) = ap suc (scripts_len net spacing 0 rs)

pub asked_len : (until : Until) (scripts : List Script) → length (asked_for until scripts) ≡ length scripts
asked_len until scripts = length-map scripts (λ s. record { script = s; until = until })

pub first_is : (rs : List NetRouter) (d : NetRouter) → 0 < length rs → first_router rs ≡ (get_or rs 0 d).asn
first_is [] d some = absurd (omega (arith, some))
first_is (r ∷ rs) d some = refl
