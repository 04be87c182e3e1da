-- The examples of gathered journals and of collected offers.
use Rattle.std.proofs.Common.{◌≡◌, ℕ, ◌<◌, ◌==◌, inl, inr, if◌then◌else◌, Bool, true, false, List, [], ◌∷◌, ◌++◌, refl, ap, arith}
use Rattle.std.specs.Prelude.{filter}
use Rattle.std.proofs.lemmas.Bool.Decides.{nat_tests}
use mathlib.Core.List.{IsPrefix}
use Rattle.run_model.specs.Network.{Journal, Order, NetworkState, puts, takes, offers, puts_in, takes_in}
use Rattle.run_model.specs.Journals.{puts_towards, takes_from, events_of}
use Rattle.run_model.specs.Stamps.{StampedItem, Stamped, events_in, FitsItem}
use Rattle.run_model.specs.Gathering.{ComesBefore}
use Rattle.low_tests.specs.Speakers.{two_journals, TwoJournalsGathered, tie_turned, TiesAreNotTurned, NotByRouters, NotWhateverIsCollected, NotAllOffersStand}
use Rattle.run_model.proofs.Pairs.{Ordered, NotAbove, all, pairwise, ordered, risen}

abbrev stamp : ℕ × ℕ → ℕ
stamp l = l.0

abbrev router : ℕ × ℕ → ℕ
router l = l.1

abbrev gathered : List (ℕ × ℕ)
gathered = (1, 1) ∷ (1, 2) ∷ (2, 1) ∷ (3, 2) ∷ []

never_both : (u : ℕ) → (1 == u) ≡ true → (2 == u) ≡ true → ⊥
never_both u p q = absurd (grind (arith, nat_tests, p, q))

kept : (u : ℕ) (b c : Bool) → (1 == u) ≡ b → (2 == u) ≡ c → filter (λ l. router l == u) gathered ≡ filter (λ l. router l == u) two_journals
kept u true true p q = absurd (never_both u p q)
kept u true false p q = simp (p, q) refl
kept u false true p q = simp (p, q) refl
kept u false false p q = simp (p, q) refl

turned_kept : (u : ℕ) (b c : Bool) → (1 == u) ≡ b → (2 == u) ≡ c → filter (λ l. router l == u) tie_turned ≡ filter (λ l. router l == u) two_journals
turned_kept u true true p q = absurd (never_both u p q)
turned_kept u true false p q = simp (p, q) refl
turned_kept u false true p q = simp (p, q) refl
turned_kept u false false p q = simp (p, q) refl

by_stamp : (a b : ℕ × ℕ) → stamp a < stamp b → ComesBefore stamp router a b
by_stamp a b h = inl h

gathered_in_order : Ordered (ComesBefore stamp router) gathered
gathered_in_order = (
  (inr (refl, omega arith), (inl (omega arith), (inl (omega arith), tt))),
  ((inl (omega arith), (inl (omega arith), tt)), ((inl (omega arith), tt), (tt, tt))),
)

pub two_journals_gathered : TwoJournalsGathered
two_journals_gathered =
    record {
      in_order = pairwise (ComesBefore stamp router) gathered gathered_in_order;
      journals = λ u. kept u (1 == u) (2 == u) refl refl;
    }

rising : Ordered (NotAbove stamp) tie_turned
rising = ((omega arith, (omega arith, (omega arith, tt))), ((omega arith, (omega arith, tt)), ((omega arith, tt), (tt, tt))))

not_before : ComesBefore stamp router (1, 2) (1, 1) → ⊥
not_before (inl h) = absurd (omega arith)
not_before (inr h) = let k = h.1 in absurd (omega arith)

pub ties_are_not_turned : TiesAreNotTurned
ties_are_not_turned = (
  risen stamp tie_turned rising,
  (λ u. turned_kept u (1 == u) (2 == u) refl refl),
  (λ g. not_before (ordered (ComesBefore stamp router) tie_turned g.in_order).0.0),
)

-- router 0 takes what router 1 put, and stands first by its number
abbrev by_number : List (Stamped ℕ ℕ ℕ)
by_number = record { stamp = 2; event = record { router = 0; event = takes 1 (record { stamp = 1; item = 7 }) } } ∷ record { stamp = 1; event = record { router = 1; event = puts 0 (record { stamp = 1; item = 7 }) } } ∷ []

abbrev its_journals : ℕ → Journal ℕ (StampedItem ℕ) ℕ
its_journals u = events_of u (events_in by_number)

apart : (u : ℕ) → (0 == u) ≡ true → (1 == u) ≡ true → ⊥
apart u p q = absurd (grind (arith, nat_tests, p, q))

taken_as_put : (u v : ℕ) (b c d e : Bool) → (0 == u) ≡ b → (1 == u) ≡ c → (0 == v) ≡ d → (1 == v) ≡ e → IsPrefix (takes_from u (its_journals v)) (puts_towards v (its_journals u))
taken_as_put u v true true d e p q r s = absurd (apart u p q)
taken_as_put u v b c true true p q r s = absurd (apart v r s)
taken_as_put u v true false true false p q r s = simp (p, q, r, s) ([], refl)
taken_as_put u v true false false true p q r s = simp (p, q, r, s) ([], refl)
taken_as_put u v true false false false p q r s = simp (p, q, r, s) ([], refl)
taken_as_put u v false true true false p q r s = simp (p, q, r, s) ([], refl)
taken_as_put u v false true false true p q r s = simp (p, q, r, s) ([], refl)
taken_as_put u v false true false false p q r s = simp (p, q, r, s) ([], refl)
taken_as_put u v false false true false p q r s = simp (p, q, r, s) ([], refl)
taken_as_put u v false false false true p q r s = simp (p, q, r, s) ([], refl)
taken_as_put u v false false false false p q r s = simp (p, q, r, s) ([], refl)

numbers_rise : Ordered (NotAbove (λ (m : Stamped ℕ ℕ ℕ). m.event.router)) by_number
numbers_rise = ((omega arith, tt), (tt, tt))

pub not_by_routers : NotByRouters
not_by_routers law =
    let c = law its_journals by_number (λ u. refl) (risen (λ (m : Stamped ℕ ℕ ℕ). m.event.router) by_number numbers_rise)
    (all (λ (m : Stamped ℕ ℕ ℕ). FitsItem m.stamp m.event.event) by_number (omega arith, (refl, tt)))
    (λ u v. taken_as_put u v (0 == u) (1 == u) (0 == v) (1 == v) refl refl refl refl) in
    let p = c 1 0 (record { router = 0; event = takes 1 7 } ∷ []) (record { router = 1; event = puts 0 7 } ∷ []) refl in
    let e : 7 ∷ p.0 ≡ [] = p.1 in
    cc

-- an offer that no router made
no_events : (u v : ℕ) (front rest : Order ℕ ℕ ℕ) → [] ≡ front ++ rest → IsPrefix (takes_in u v front) (puts_in u v front)
no_events u v [] rest e = ([], refl)
no_events u v (d ∷ front) rest e = cc

not_one : {x : ℕ} → ◌≡◌ {A = List ℕ} [] (x ∷ []) → ⊥
not_one e = cc

pub not_whatever_is_collected : NotWhateverIsCollected
not_whatever_is_collected law =
    let r = law (λ u. 0) (λ u. 0) (λ u. []) (5 ∷ []) [] (λ u. refl) (λ u. refl) no_events in
    not_one (ap (λ (s : NetworkState ℕ ℕ ℕ). s.offered) r)

-- router 0 offers outside, router 1 inside
abbrev two_offers : Order ℕ ℕ ℕ
two_offers = record { router = 0; event = offers 1 } ∷ record { router = 1; event = offers 2 } ∷ []

one_is_not_two : (x : ℕ) → x ≡ 1 → x ≡ 2 → ⊥
one_is_not_two x e f = absurd (omega arith)

pub not_all_offers_stand : NotAllOffersStand
not_all_offers_stand law =
    let e : 2 ∷ 1 ∷ [] ≡ 1 ∷ 2 ∷ [] = law (λ u. if 1 == u then 1 else 0) two_offers (λ o. true) in
    let f : 2 ≡ 1 = cc in
    one_is_not_two 2 f refl
