-- A router records a number by one of its events.
use Rattle.std.proofs.Common.{◌≡◌, ℕ, zero, suc, true, false, inl, inr, ◌≤◌, ◌<◌, ⊎_elim, List, [], ◌∷◌, ◌++◌, length, refl, ap, sym, subst, ◌∙◌, append_assoc, arith, length-append}
use Rattle.std.specs.Prelude.{nat_lt, ltb}
use Rattle.std.proofs.lemmas.Bool.{lt-ltb, le-ltb}
use Rattle.std.proofs.lemmas.Bool.Decides.{nat_tests}
use mathlib.Core.List.{IsPrefix}
use mathlib.Core.Logic.{◌⊎◌}
use Rattle.run_model.specs.Network as runs
use Rattle.run_model.specs.Journals.{IsJournal, events_of}
use Rattle.router_model.specs.Settings.{Setting}
use Rattle.router_model.specs.Step.{RouterEvent}
use Rattle.router_model.specs.Recording.{RecordingsGoOn}
use Rattle.router_runs.specs.Runs.{Logged, RunOrder, RunState, IsRunTo, logged_steps, new_logged}
use Rattle.router_runs.specs.Snapshots.{snapshots_of}
use Rattle.run_cuts.specs.CutLaws.{CutLaws}
use Rattle.run_cuts.specs.ThroughSnapshot.{RecordsBy, CutsAreOne, InsideByNumber}
use Rattle.run_cuts.proofs.Loggeds.{same_end}
use Rattle.run_cuts.proofs.AtTheCut.{own_more, own_one, run_more, shown}

either_way : (a b : ℕ) → (a ≤ b) ⊎ (b < a)
either_way zero b = inl (omega arith)
either_way (suc a) zero = inr (omega arith)
either_way (suc a) (suc b) = ⊎_elim (λ (h : a ≤ b). inl (omega (arith, h))) (λ (h : b < a). inr (omega (arith, h))) (either_way a b)

last_rises : RecordingsGoOn → (g : Setting) (u : ℕ) (es : List RouterEvent) (x y : Logged) → IsJournal (logged_steps g) u x es y → x.router.snapshots.last ≤ y.router.snapshots.last
last_rises goes g u [] x y j = subst (λ (z : Logged). x.router.snapshots.last ≤ z.router.snapshots.last) j (omega arith)
last_rises goes g u (e ∷ es) x y j =
    let a = (goes g u x.router (j.0).router e j.1.step).rises in
    let b = last_rises goes g u es j.0 y j.2 in omega (arith, a, b)

split : (g : Setting) (u : ℕ) (xs ys : List RouterEvent) (a c : Logged) → IsJournal (logged_steps g) u a (xs ++ ys) c → (b : Logged) × IsJournal (logged_steps g) u a xs b × IsJournal (logged_steps g) u b ys c
split g u [] ys a c j = (a, refl, j)
split g u (e ∷ xs) ys a c j = let rest = split g u xs ys j.0 c j.2 in (rest.0, (j.0, j.1, rest.1), rest.2)

module _ {A : Type 0} where
  -- of two beginnings of one list, one no longer than the other begins it
  shorter_begins : (xs ys all : List A) → IsPrefix xs all → IsPrefix ys all → length xs ≤ length ys → IsPrefix xs ys
  shorter_begins [] ys all p q h = (ys, refl)
  shorter_begins (x ∷ xs) [] all p q h = absurd (omega arith)
  shorter_begins (x ∷ xs) (y ∷ ys) [] p q h = let e : x ∷ (xs ++ p.0) ≡ [] = p.1 in cc
  shorter_begins (x ∷ xs) (y ∷ ys) (z ∷ all) p q h =
      let e : x ∷ (xs ++ p.0) ≡ z ∷ all = p.1 in
      let f : y ∷ (ys ++ q.0) ≡ z ∷ all = q.1 in
      let a : xs ++ p.0 ≡ all = cc in
      let b : ys ++ q.0 ≡ all = cc in
      let t = shorter_begins xs ys all (p.0, a) (q.0, b) (omega arith) in
      let g : xs ++ t.0 ≡ ys = t.1 in
      (t.0, (let same : x ≡ y = cc in λ i. same i ∷ g i))

module _ (laws : CutLaws) (g : Setting) (order : RunOrder) (last : RunState) (u s : ℕ) where
  -- no later event of the router makes that number its last again
  not_later : (at other : RunState) (n m : ℕ) (one : RecordsBy g order last u s at n) (two : RecordsBy g order last u s other m)
      → length (events_of u one.recorded.before) < length (events_of u two.recorded.before) → ⊥
  not_later at other n m one two less =
      let a = one.recorded in let b = two.recorded in
      let before = events_of u a.before in
      let up_to = before ++ a.event ∷ [] in
      let all : events_of u order ≡ before ++ a.event ∷ events_of u a.later = ap (events_of u) a.parts ∙ own_more u a.before _ ∙ ap (λ l. before ++ l) (own_one u a.event (events_of u a.later)) in
      let p : IsPrefix up_to (events_of u order) = (events_of u a.later, append_assoc before (a.event ∷ []) (events_of u a.later) ∙ sym all) in
      let q : IsPrefix (events_of u b.before) (events_of u order) = (_, sym (ap (events_of u) b.parts ∙ own_more u b.before _)) in
      let long = length-append before (a.event ∷ []) in
      let begins = shorter_begins up_to (events_of u b.before) (events_of u order) p q (omega (arith, long, less)) in
      let there = shown laws g b.before b.old b.reached in
      let halves = split g u up_to begins.0 (new_logged g) (b.old.routers u) (subst (λ es. IsJournal (logged_steps g) u (new_logged g) es (b.old.routers u)) (sym begins.1) (there.journals u)) in
      let here = shown laws g (a.before ++ record { router = u; event = a.event } ∷ []) at (run_more g a.before _ (runs.opening (λ w. new_logged g)) a.old at a.reached a.step) in
      let own : events_of u (a.before ++ record { router = u; event = a.event } ∷ []) ≡ up_to = own_more u a.before _ ∙ ap (λ l. before ++ l) (own_one u a.event []) in
      let same : halves.0 ≡ at.routers u = same_end g u up_to (new_logged g) halves.0 (at.routers u) halves.1 (subst (λ es. IsJournal (logged_steps g) u (new_logged g) es (at.routers u)) own (here.journals u)) in
      let rises = last_rises laws.goes_on g u begins.0 halves.0 (b.old.routers u) halves.2 in
      let is : (halves.0).router.snapshots.last ≡ s = ap (λ (x : Logged). x.router.snapshots.last) same ∙ a.records in
      let below = b.greater in
      omega (arith, rises, is, below)

  -- where a place comes after so many own events, its router's last number tells whether it recorded s by then
  module _ (at : RunState) (n : ℕ) (one : RecordsBy g order last u s at n) (before later : RunOrder) (event : RouterEvent) (old : RunState)
      (parts : order ≡ before ++ record { router = u; event = event } ∷ later) (to : IsRunTo g before old) where
    abbrev own : List RouterEvent
    own = events_of u before

    abbrev its : List RouterEvent
    its = events_of u one.recorded.before

    its_begins : IsPrefix (its ++ one.recorded.event ∷ []) (events_of u order)
    its_begins =
        let a = one.recorded in
        (events_of u a.later, append_assoc its (a.event ∷ []) (events_of u a.later) ∙ sym (ap (events_of u) a.parts ∙ own_more u a.before _ ∙ ap (λ l. its ++ l) (own_one u a.event (events_of u a.later))))

    its_first : IsPrefix its (events_of u order)
    its_first = (one.recorded.event ∷ its_begins.0, sym (append_assoc its (one.recorded.event ∷ []) its_begins.0) ∙ its_begins.1)

    own_begins : IsPrefix own (events_of u order)
    own_begins = (_, sym (ap (events_of u) parts ∙ own_more u before _))

    lead : IsJournal (logged_steps g) u (new_logged g) own (old.routers u)
    lead = (shown laws g before old to).journals u

    not_yet : length own ≤ length its → (snapshots_of old u).last < s
    not_yet le =
        let a = one.recorded in
        let begins = shorter_begins own its (events_of u order) own_begins its_first le in
        let whole = (shown laws g a.before a.old a.reached).journals u in
        let halves = split g u own begins.0 (new_logged g) (a.old.routers u) (subst (λ es. IsJournal (logged_steps g) u (new_logged g) es (a.old.routers u)) (sym begins.1) whole) in
        let same : halves.0 ≡ old.routers u = same_end g u own (new_logged g) halves.0 (old.routers u) halves.1 lead in
        let rises = last_rises laws.goes_on g u begins.0 halves.0 (a.old.routers u) halves.2 in
        let is = ap (λ (x : Logged). x.router.snapshots.last) same in
        let below = a.greater in
        omega (arith, rises, is, below)

    by_then : length its < length own → s ≤ (snapshots_of old u).last
    by_then less =
        let a = one.recorded in
        let up_to = its ++ a.event ∷ [] in
        let long = length-append its (a.event ∷ []) in
        let begins = shorter_begins up_to own (events_of u order) its_begins own_begins (omega (arith, long, less)) in
        let halves = split g u up_to begins.0 (new_logged g) (old.routers u) (subst (λ es. IsJournal (logged_steps g) u (new_logged g) es (old.routers u)) (sym begins.1) lead) in
        let here = shown laws g (a.before ++ record { router = u; event = a.event } ∷ []) at (run_more g a.before _ (runs.opening (λ w. new_logged g)) a.old at a.reached a.step) in
        let mine : events_of u (a.before ++ record { router = u; event = a.event } ∷ []) ≡ up_to = own_more u a.before _ ∙ ap (λ l. its ++ l) (own_one u a.event []) in
        let same : halves.0 ≡ at.routers u = same_end g u up_to (new_logged g) halves.0 (at.routers u) halves.1 (subst (λ es. IsJournal (logged_steps g) u (new_logged g) es (at.routers u)) mine (here.journals u)) in
        let rises = last_rises laws.goes_on g u begins.0 halves.0 (old.routers u) halves.2 in
        let is : (halves.0).router.snapshots.last ≡ s = ap (λ (x : Logged). x.router.snapshots.last) same ∙ a.records in
        omega (arith, rises, is)

    by_number : nat_lt (snapshots_of old u).last s ≡ ltb (length own) n
    by_number =
        let counts = one.counts in
        ⊎_elim
        (λ (le : length own ≤ length its).
        let a = not_yet le in
        let left : nat_lt (snapshots_of old u).last s ≡ true = grind (arith, nat_tests, a) in
        let right : ltb (length own) n ≡ true = lt-ltb (length own) n (omega (arith, le, counts)) in left ∙ sym right)
        (λ (less : length its < length own).
        let a = by_then less in
        let left : nat_lt (snapshots_of old u).last s ≡ false = grind (arith, nat_tests, a) in
        let right : ltb (length own) n ≡ false = le-ltb (length own) n (omega (arith, less, counts)) in left ∙ sym right)
        (either_way (length own) (length its))

pub inside_by_number : CutLaws → InsideByNumber
inside_by_number laws g order last run u s at n one before later event old parts to = by_number laws g order last u s at n one before later event old parts to

pub cuts_are_one : CutLaws → CutsAreOne
cuts_are_one laws g order last run u s at other n m one two =
    let a = one.counts in let b = two.counts in
    let first = length (events_of u one.recorded.before) in
    let second = length (events_of u two.recorded.before) in
    let up : first < second → ⊥ = not_later laws g order last u s at other n m one two in
    let down : second < first → ⊥ = not_later laws g order last u s other at m n two one in
    let same : first ≡ second = apart first second up down in
    a ∙ ap (λ k. suc k) same ∙ sym b
  where
    apart : (a b : ℕ) → (a < b → ⊥) → (b < a → ⊥) → a ≡ b
    apart a b f h = omega (arith, f, h)
