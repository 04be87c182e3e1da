-- What was closed stays closed.
use Rattle.std.proofs.Common.{◌≡◌, ◌≢◌, ℕ, ◌<◌, ◌≤◌, ◌==◌, Bool, true, false, ◌&&◌, cond, List, [], ◌∷◌, ◌++◌, refl, ap, ◌∙◌, arith}
use Rattle.std.specs.Prelude.{nat_lt}
use Rattle.run_model.specs.Links.{Entry, Dial, Says, Mark, Shut, greatest_dial, said, Phase, Closed, Offered, Joined, End, Move, Dials, Tells, Marks, HangsUp, Takes, answers, next_incarnation, phase_joining, used_with, after, May, Ends, LinkStep, moved, IsRun, ends_after, opening, close_of, NoneUsedAfterClose}
use Rattle.run_model.proofs.EntryLists.{greatest_dial-append, said-append}
use Rattle.run_model.proofs.LinkFacts.{answers_true}
pub use Rattle.run_model.specs.Facts.{IsPast}
use Rattle.std.proofs.lemmas.List.{append-nil}
use Rattle.std.proofs.lemmas.Bool.Decides.{nat_tests}

module _ {M : Type 0} where
  joins_closed : (a : End M) (d : ℕ) (p : Phase) (b : Bool) → p ≡ Closed → cond b (phase_joining p) p ≡ Closed
  joins_closed a d Closed true is = refl
  joins_closed a d Closed false is = refl
  joins_closed a d Offered b is = absurd (cc is)
  joins_closed a d Joined b is = absurd (cc is)

  used_same : (b : Bool) (e n d : ℕ) (m : M) (used : List (Entry M)) → (n == d) ≡ b → e < n → said e (cond b (used ++ Says d m ∷ []) used) ≡ said e used
  used_same false e n d m used is l = refl
  used_same true e n d m used is l =
      let apart : (e == d) ≡ false = grind (arith, nat_tests, is, l) in
      said-append e used (Says d m ∷ []) ∙ rw apart (append-nil (said e used))

  uses_same : (e : ℕ) (p : Phase) (n d : ℕ) (m : M) (used : List (Entry M)) → (p ≢ Closed → e < n) → said e (used_with p n d m used) ≡ said e used
  uses_same e Closed n d m used l = refl
  uses_same e Offered n d m used l = refl
  uses_same e Joined n d m used l = used_same (n == d) e n d m used refl (l (λ q. absurd (cc q)))

  pub past_move : (e : ℕ) (us : List M) (a b : End M) (x : Move M) → May a b x → IsPast e us a → IsPast e us (after a x)
  past_move e us a b Dials may g =
      let above : greatest_dial a.appended < next_incarnation a = answers_true a (answers a) refl in
      let r = g.reached in
      let now : greatest_dial (a.appended ++ Dial (next_incarnation a) ∷ []) ≡ next_incarnation a = omega (arith, greatest_dial-append a.appended (Dial (next_incarnation a) ∷ []), above) in
      record { low = λ q. omega (arith, now, above, r); reached = omega (arith, now, above, r); same = g.same }
  past_move e us a b (Tells m) may g =
      let now : greatest_dial (a.appended ++ Says (greatest_dial a.appended) m ∷ []) ≡ greatest_dial a.appended = omega (arith, greatest_dial-append a.appended (Says (greatest_dial a.appended) m ∷ [])) in
      record { low = λ q. rw now (g.low q); reached = rw now g.reached; same = g.same }
  past_move e us a b (Marks s) may g =
      let now : greatest_dial (a.appended ++ Mark (greatest_dial a.appended) s ∷ []) ≡ greatest_dial a.appended = omega (arith, greatest_dial-append a.appended (Mark (greatest_dial a.appended) s ∷ [])) in
      record { low = λ q. rw now (g.low q); reached = rw now g.reached; same = g.same }
  past_move e us a b HangsUp may g =
      let now : greatest_dial (a.appended ++ Shut (greatest_dial a.appended) ∷ []) ≡ greatest_dial a.appended = omega (arith, greatest_dial-append a.appended (Shut (greatest_dial a.appended) ∷ [])) in
      record { low = λ q. absurd (q refl); reached = rw now g.reached; same = g.same }
  past_move e us a b (Takes (Dial d)) may g =
      record { low = λ q. g.low (λ p. q (joins_closed a d a.phase (nat_lt (greatest_dial a.taken) d && (d == greatest_dial a.appended)) p)); reached = g.reached; same = g.same }
  past_move e us a b (Takes (Says d m)) may g =
      record { low = g.low; reached = g.reached; same = uses_same e a.phase (greatest_dial a.appended) d m a.used g.low ∙ g.same }
  past_move e us a b (Takes (Mark d s)) may g = record { low = g.low; reached = g.reached; same = g.same }
  past_move e us a b (Takes (Shut d)) may g = record { low = g.low; reached = g.reached; same = g.same }

  past_step : (e : ℕ) (us : List M) (w : Ends M) (m : LinkStep M) (u v : ℕ) (b c : Bool) → (u == m.router) ≡ b → (v == m.peer) ≡ c
      → May (w m.router m.peer) (w m.peer m.router) m.move → IsPast e us (w u v) → IsPast e us (cond b (cond c (after (w u v) m.move) (w u v)) (w u v))
  past_step e us w m u v true true bi ci may g =
      let to_u : m.router ≡ u = grind (arith, nat_tests, bi) in
      let to_v : m.peer ≡ v = grind (arith, nat_tests, ci) in
      past_move e us (w u v) (w v u) m.move (rw (to_u, to_v) at may) g
  past_step e us w m u v true false bi ci may g = g
  past_step e us w m u v false c bi ci may g = g

  past_run : (e : ℕ) (us : List M) (ms : List (LinkStep M)) (w : Ends M) (u v : ℕ) → IsRun w ms → IsPast e us (w u v) → IsPast e us (ends_after w ms u v)
  past_run e us [] w u v r g = g
  past_run e us (m ∷ ms) w u v r g = past_run e us ms (moved w m) u v r.2 (past_step e us w m u v (u == m.router) (v == m.peer) refl refl r.1 g)

  after_append : (xs ys : List (LinkStep M)) (w : Ends M) → ends_after w (xs ++ ys) ≡ ends_after (ends_after w xs) ys
  after_append [] ys w = refl
  after_append (x ∷ xs) ys w = after_append xs ys (moved w x)

  run_rest : (xs ys : List (LinkStep M)) (w : Ends M) → IsRun w (xs ++ ys) → IsRun (ends_after w xs) ys
  run_rest [] ys w r = r
  run_rest (x ∷ xs) ys w r = run_rest xs ys (moved w x) r.2

  closed_here : (e : ℕ) (a : End M) (b c : Bool) → b ≡ true → c ≡ true → e ≤ greatest_dial a.appended → IsPast e (said e a.used) (cond b (cond c (after a HangsUp) a) a)
  closed_here e a true true bi ci l =
      let now : greatest_dial (a.appended ++ Shut (greatest_dial a.appended) ∷ []) ≡ greatest_dial a.appended = omega (arith, greatest_dial-append a.appended (Shut (greatest_dial a.appended) ∷ [])) in
      record { low = λ q. absurd (q refl); reached = rw now l; same = refl }
  closed_here e a true false bi ci l = absurd (cc ci)
  closed_here e a false c bi ci l = absurd (cc bi)

pub none_after_close : {M : Type 0} → NoneUsedAfterClose M
none_after_close u v before later r e l =
    let w = ends_after opening before in
    let hu : (u == u) ≡ true = grind (arith, nat_tests) in
    let hv : (v == v) ≡ true = grind (arith, nat_tests) in
    let r' = run_rest before (close_of u v ∷ later) opening r in
    let g : IsPast e (said e (w u v).used) (ends_after w (close_of u v ∷ later) u v) = past_run e (said e (w u v).used) later (moved w (close_of u v)) u v r'.2 (closed_here e (w u v) (u == u) (v == v) hu hv l) in
    ap (λ k. said e (k u v).used) (after_append before (close_of u v ∷ later) opening) ∙ g.same
