-- What holds of the incarnations of every link in a run.
use Rattle.std.proofs.Common.{◌≡◌, ◌≢◌, ℕ, ◌<◌, ◌≤◌, ◌==◌, Bool, true, false, ◌&&◌, not, cond, List, [], ◌∷◌, ◌++◌, refl, ap, sym, ◌∙◌, arith, inl}
use Rattle.std.specs.Prelude.{nat_lt, filter}
use mathlib.Core.List.{IsPrefix}
use Rattle.run_model.specs.Links.{Entry, Dial, Says, Mark, Shut, greatest_dial, has_shut, said, End, Move, Dials, Tells, Marks, HangsUp, Takes, answers, next_incarnation, after, May, Ends, LinkStep, moved, IsRun, ends_after, opening, ActedBeginsSent, JoinedHeardItsOwn}
use Rattle.run_model.proofs.EntryLists.{greatest_dial-append}
use Rattle.run_model.proofs.LinkFacts.{AllEndFacts, facts_moved, end_facts_run, begins_sent}
use Rattle.run_model.proofs.Incarnations.{IncarnationFacts, own_incarnation, peer_incarnation}
use Rattle.std.proofs.lemmas.List.Elements.{filter-append}
use Rattle.std.proofs.lemmas.Bool.Decides.{nat_tests}

left_true : (p q : Bool) → (p && q) ≡ true → p ≡ true
left_true true q e = refl
left_true false q e = absurd cc

module _ {M : Type 0} where
  pub answers_above : (a : End M) → answers a ≡ true → greatest_dial a.appended < greatest_dial a.taken
  answers_above a h =
      let k : nat_lt (greatest_dial a.appended) (greatest_dial a.taken) ≡ true = left_true (nat_lt (greatest_dial a.appended) (greatest_dial a.taken)) (not (has_shut (greatest_dial a.taken) a.taken)) h in grind (arith, nat_tests, k)

  -- numbers dialled only rise
  dial_rises : (a : End M) (x : Move M) → greatest_dial a.appended ≤ greatest_dial (after a x).appended
  dial_rises a Dials = omega (arith, greatest_dial-append a.appended (Dial (next_incarnation a) ∷ []))
  dial_rises a (Tells m) = omega (arith, greatest_dial-append a.appended (Says (greatest_dial a.appended) m ∷ []))
  dial_rises a (Marks s) = omega (arith, greatest_dial-append a.appended (Mark (greatest_dial a.appended) s ∷ []))
  dial_rises a HangsUp = omega (arith, greatest_dial-append a.appended (Shut (greatest_dial a.appended) ∷ []))
  dial_rises a (Takes (Dial e)) = omega arith
  dial_rises a (Takes (Says e m)) = omega arith
  dial_rises a (Takes (Mark e s)) = omega arith
  dial_rises a (Takes (Shut e)) = omega arith

  -- of every link
  abbrev pub AllIncarnationFacts : Ends M → Type 0
  AllIncarnationFacts w = (u v : ℕ) → u ≢ v → IncarnationFacts (w u v) (w v u)

  -- a move keeps it, by whether the end that moves is one of the two
  by_step : (w : Ends M) (m : LinkStep M) (u v : ℕ) (b c : Bool) → (u == m.router) ≡ b → (v == m.peer) ≡ c → AllEndFacts w → AllIncarnationFacts w → u ≢ v → May (w m.router m.peer) (w m.peer m.router) m.move
      → (d e : Bool) → (v == m.router) ≡ d → (u == m.peer) ≡ e
      → IncarnationFacts (cond b (cond c (after (w u v) m.move) (w u v)) (w u v)) (cond d (cond e (after (w v u) m.move) (w v u)) (w v u))
  by_step w m u v true true bi ci s k apart may true e di ei = absurd (apart (grind (arith, nat_tests, bi, di)))
  by_step w m u v true true bi ci s k apart may false e di ei =
      let to_u : m.router ≡ u = grind (arith, nat_tests, bi) in
      let to_v : m.peer ≡ v = grind (arith, nat_tests, ci) in
      own_incarnation (w u v) (w v u) m.move (rw (to_u, to_v) at may) (s u v apart) (s v u (λ q. apart (sym q))) (k u v apart) (k v u (λ q. apart (sym q)))
  by_step w m u v true false bi ci s k apart may true true di ei = absurd (apart (grind (arith, nat_tests, bi, di)))
  by_step w m u v true false bi ci s k apart may true false di ei = k u v apart
  by_step w m u v true false bi ci s k apart may false e di ei = k u v apart
  by_step w m u v false c bi ci s k apart may true true di ei = peer_incarnation (w u v) (w v u) (after (w v u) m.move) (dial_rises (w v u) m.move) (k u v apart)
  by_step w m u v false c bi ci s k apart may true false di ei = k u v apart
  by_step w m u v false c bi ci s k apart may false e di ei = k u v apart

  pub incarnations_run : (ms : List (LinkStep M)) (w : Ends M) → AllEndFacts w → AllIncarnationFacts w → IsRun w ms → AllIncarnationFacts (ends_after w ms)
  incarnations_run [] w s k r = k
  incarnations_run (m ∷ ms) w s k r =
      incarnations_run ms (moved w m) (facts_moved w m s r.1) (λ u v apart. by_step w m u v (u == m.router) (v == m.peer) refl refl s k apart r.1 (v == m.router) (u == m.peer) refl refl) r.2

  pub first_facts : AllEndFacts (opening {M = M})
  first_facts = λ x y d. record { front = ([], refl); sound = tt; joined = λ j. absurd cc; told = λ n l. refl; whole = λ j. refl; begins = λ n. ([], refl) }

  pub all_facts : (moves : List (LinkStep M)) → IsRun opening moves → AllEndFacts (ends_after opening moves)
  all_facts moves r = end_facts_run moves opening first_facts r

  first_incarnations : AllIncarnationFacts (opening {M = M})
  first_incarnations = λ x y d. record { ended = λ c. inl refl; dials = λ xs ys e h. absurd (nothing xs e ys h); unshut = λ j. absurd cc; equal = λ j. absurd cc }
    where
      nothing : (xs : List (Entry M)) (e : ℕ) (ys : List (Entry M)) → [] ≡ xs ++ Dial e ∷ ys → ⊥
      nothing [] e ys h = cc h
      nothing (x ∷ xs) e ys h = cc h

  pub joined_heard : JoinedHeardItsOwn M
  joined_heard moves r u v apart joined =
      let k = incarnations_run moves opening first_facts first_incarnations r u v apart in
      let l = (all_facts moves r u v apart).joined joined in
      let q = k.equal joined in omega (arith, l, q)

  filter_front : (test : M → Bool) (xs ys : List M) → IsPrefix xs ys → IsPrefix (filter test xs) (filter test ys)
  filter_front test xs ys p = (filter test p.0, sym (filter-append test xs p.0) ∙ ap (filter test) p.1)

  pub acted_begins_sent : ActedBeginsSent M
  acted_begins_sent is_update moves r u v e apart =
      filter_front is_update (said e (ends_after opening moves u v).used) (said e (ends_after opening moves v u).appended) (begins_sent moves r u v e apart)
