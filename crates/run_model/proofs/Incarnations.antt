-- A joined end has heard exactly its own number.
use Rattle.std.proofs.Common.{◌≡◌, ℕ, ◌+◌, ◌<◌, ◌≤◌, ◌==◌, Bool, true, false, ◌&&◌, not, cond, List, [], ◌∷◌, ◌++◌, length, Some, slice_get, refl, ap, sym, ◌∙◌, arith, append_assoc, subst, inl, inr, ◌⊎◌}
use Rattle.std.specs.Prelude.{max, nat_lt}
use Rattle.run_model.specs.Links.{Entry, Dial, Says, Mark, Shut, greatest_dial, has_shut, Phase, Closed, Offered, Joined, End, Move, Dials, Tells, Marks, HangsUp, Takes, answers, next_incarnation, dialling, phase_joining, used_with, taking, after, May}
use Rattle.run_model.proofs.EntryLists.{greatest_dial-append, Sound, sound-front, prefix_next}
use Rattle.run_model.proofs.LinkFacts.{EndFacts, greatest_dial_front, joining_phase, answers_true}
use Rattle.run_model.proofs.MarkerFacts.{up_is}
use Rattle.std.proofs.lemmas.Bool.Decides.{nat_tests}

shut_either : (b : Bool) (p q r : Bool) → r ≡ cond p true q → cond b true r ≡ cond (cond b true p) true q
shut_either true p q r e = refl
shut_either false p q r e = e

module _ {M : Type 0} where
  pub shut-append : (n : ℕ) (xs ys : List (Entry M)) → has_shut n (xs ++ ys) ≡ cond (has_shut n xs) true (has_shut n ys)
  shut-append n [] ys = refl
  shut-append n (Dial e ∷ xs) ys = shut-append n xs ys
  shut-append n (Says e m ∷ xs) ys = shut-append n xs ys
  shut-append n (Mark e s ∷ xs) ys = shut-append n xs ys
  shut-append n (Shut e ∷ xs) ys = shut_either (n == e) (has_shut n xs) (has_shut n ys) (has_shut n (xs ++ ys)) (shut-append n xs ys)

  pub sound-no_shut : (n hi : ℕ) (xs : List (Entry M)) → Sound hi xs → max hi (greatest_dial xs) < n → has_shut n xs ≡ false
  sound-no_shut n hi [] g l = refl
  sound-no_shut n hi (Dial e ∷ xs) g l = sound-no_shut n (max hi e) xs g (omega arith)
  sound-no_shut n hi (Says e m ∷ xs) g l = sound-no_shut n hi xs g.1 l
  sound-no_shut n hi (Mark e k ∷ xs) g l = sound-no_shut n hi xs g.1 l
  sound-no_shut n hi (Shut e ∷ xs) g l = let apart : (n == e) ≡ false = grind (arith, nat_tests, g.0) in rw apart (sound-no_shut n hi xs g.1 l)

  -- the last number dialled was shut, or there is none
  abbrev pub Ended : List (Entry M) → Type 0
  Ended xs = (greatest_dial xs ≡ 0) ⊎ (has_shut (greatest_dial xs) xs ≡ true)

  -- each dial stands behind a close of the one before, or answers the peer
  abbrev pub Answers : List (Entry M) → ℕ → Type 0
  Answers log hi = (xs ys : List (Entry M)) (e : ℕ) → log ≡ xs ++ Dial e ∷ ys → Ended xs ⊎ (e ≤ hi)

  pub record IncarnationFacts (a b : End M) : Type 0 where
    pub ended : a.phase ≡ Closed → Ended a.appended
    pub dials : Answers a.appended (greatest_dial b.appended)
    pub unshut : a.phase ≡ Joined → (0 < greatest_dial a.appended) × (has_shut (greatest_dial a.appended) a.taken ≡ false)
    pub equal : a.phase ≡ Joined → greatest_dial a.taken ≤ greatest_dial a.appended

  -- a split of a list with one more element
  split_last : (log xs ys : List (Entry M)) (x : Entry M) (e : ℕ) → log ++ x ∷ [] ≡ xs ++ Dial e ∷ ys → ((zs : List (Entry M)) × (log ≡ xs ++ Dial e ∷ zs)) ⊎ ((xs ≡ log) × (x ≡ Dial e))
  split_last [] [] ys x e h = inr (refl, cc (h))
  split_last [] (z ∷ []) ys x e h = absurd (cc (h))
  split_last [] (z ∷ y ∷ xs) ys x e h = absurd (cc (h))
  split_last (l ∷ log) [] ys x e h = inl (log, cc (h))
  split_last (l ∷ log) (z ∷ xs) ys x e h =
      let same : l ≡ z = cc (h) in
      elim (split_last log xs ys x e (cc (h))) [ inl a ↦ inl (a.0, cc (same, a.1)) | inr a ↦ inr (cc (same, a.0), a.1) ]

  answers_more : (log : List (Entry M)) (hi : ℕ) (x : Entry M) → Answers log hi → ((e : ℕ) → x ≡ Dial e → Ended log ⊎ (e ≤ hi)) → Answers (log ++ x ∷ []) hi
  answers_more log hi x old new xs ys e h =
      elim (split_last log xs ys x e h) [
        | inl a ↦ old xs a.0 e a.1
        | inr a ↦ elim (new e a.1) [ inl k ↦ inl (subst Ended (sym a.0) k) | inr k ↦ inr k ]
      ]

  -- the peer's log grows
  pub peer_incarnation : (b a a' : End M) → greatest_dial a.appended ≤ greatest_dial a'.appended → IncarnationFacts b a → IncarnationFacts b a'
  peer_incarnation b a a' le q = record {
    ended = q.ended;
    dials = λ xs ys e h. elim (q.dials xs ys e h) [ inl k ↦ inl k | inr k ↦ inr (omega arith) ];
    unshut = q.unshut;
    equal = q.equal;
  }

  -- an append that is no dial, in a phase that isn't closed or closes
  tells_incarnation : (a b : End M) (x : Entry M) → a.phase ≡ Joined → greatest_dial (x ∷ []) ≡ 0 → ((e : ℕ) → x ≡ Dial e → ⊥) → IncarnationFacts a b → IncarnationFacts (record { appended = a.appended ++ x ∷ []; taken = a.taken; phase = a.phase; used = a.used }) b
  tells_incarnation a b x j none other q =
      let same : greatest_dial (a.appended ++ x ∷ []) ≡ greatest_dial a.appended = omega (arith, greatest_dial-append a.appended (x ∷ []), none) in record {
        ended = λ c. absurd (cc (j, c));
        dials = answers_more a.appended (greatest_dial b.appended) x q.dials (λ e h. absurd (other e h));
        unshut = λ k. rw same (q.unshut k);
        equal = λ k. rw same (q.equal k);
      }

  takes_incarnation : (a b : End M) (x : Entry M) (used : List (Entry M)) → greatest_dial (x ∷ []) ≡ 0 → (a.phase ≡ Joined → has_shut (greatest_dial a.appended) (x ∷ []) ≡ false) → IncarnationFacts a b → IncarnationFacts (record { appended = a.appended; taken = a.taken ++ x ∷ []; phase = a.phase; used = used }) b
  takes_incarnation a b x used none absent q = record {
    ended = q.ended;
    dials = q.dials;
    unshut = λ k. (let u = q.unshut k in (u.0, shut-append (greatest_dial a.appended) a.taken (x ∷ []) ∙ rw u.1 (absent k)));
    equal = λ k. (let l = q.equal k in omega (arith, l, greatest_dial-append a.taken (x ∷ []), none));
  }

  -- the number of a dial that is taken while joined isn't above the own
  joined_dial : (a b : End M) (e : ℕ) (rest : List (Entry M)) → EndFacts a b → IncarnationFacts a b → Answers b.appended (greatest_dial a.appended) → a.phase ≡ Joined → b.appended ≡ a.taken ++ Dial e ∷ rest → e ≤ greatest_dial a.appended
  joined_dial a b e rest g q dials j is =
      let heard = g.joined j in let low = q.equal j in let u = q.unshut j in
      let same : greatest_dial a.taken ≡ greatest_dial a.appended = omega arith in
      elim (dials a.taken rest e is) [
        | inl k ↦ elim k [ inl zero' ↦ absurd (omega (arith, zero', u.0, same)) | inr shut ↦ absurd (cc (u.1, rw same at shut)) ]
        | inr k ↦ k
      ]

  dial_taken_incarnation : (a b : End M) (e : ℕ) → EndFacts a b → EndFacts b a → IncarnationFacts a b → IncarnationFacts b a → slice_get b.appended (length a.taken) ≡ Some (Dial e) → IncarnationFacts (taking a (Dial e)) b
  dial_taken_incarnation a b e g h q r is =
      let front = prefix_next a.taken b.appended (Dial e) g.front is in
      let whole : b.appended ≡ a.taken ++ Dial e ∷ front.0 = sym front.1 ∙ append_assoc a.taken (Dial e ∷ []) front.0 in
      let grown : greatest_dial (a.taken ++ Dial e ∷ []) ≡ max (greatest_dial a.taken) e = omega (arith, greatest_dial-append a.taken (Dial e ∷ [])) in
      let same : (n : ℕ) → has_shut n (a.taken ++ Dial e ∷ []) ≡ has_shut n a.taken = λ n. (shut-append n a.taken (Dial e ∷ []) ∙ last_false (has_shut n a.taken)) in
      record {
        ended = λ c. q.ended (still_closed (nat_lt (greatest_dial a.taken) e && (e == greatest_dial a.appended)) a.phase c);
        dials = q.dials;
        unshut = λ j. elim (joining_phase (nat_lt (greatest_dial a.taken) e && (e == greatest_dial a.appended)) e (greatest_dial a.taken) (greatest_dial a.appended) a.phase refl j) [
          | inl was ↦ (let u = q.unshut was in (u.0, same (greatest_dial a.appended) ∙ u.1))
          | inr now ↦ (
              let sound : Sound 0 a.taken = sound-front 0 a.taken g.front.0 (subst (Sound 0) (sym g.front.1) h.sound) in
              (omega (arith, now.0, now.1), same (greatest_dial a.appended) ∙ sound-no_shut (greatest_dial a.appended) 0 a.taken sound (omega (arith, now.0, now.1))))
        ];
        equal = λ j. elim (joining_phase (nat_lt (greatest_dial a.taken) e && (e == greatest_dial a.appended)) e (greatest_dial a.taken) (greatest_dial a.appended) a.phase refl j) [
          | inl was ↦ (let l = q.equal was in let k = joined_dial a b e front.0 g q r.dials was whole in omega (arith, grown, l, k))
          | inr now ↦ omega (arith, grown, now.0, now.1)
        ];
      }
    where
      last_false : (b : Bool) → cond b true false ≡ b
      last_false true = refl
      last_false false = refl

      still_closed : (b : Bool) (p : Phase) → cond b (phase_joining p) p ≡ Closed → p ≡ Closed
      still_closed true Closed c = refl
      still_closed true Offered c = absurd cc
      still_closed true Joined c = absurd cc
      still_closed false p c = c

  -- a dial in a phase: closed, or offered and answering
  own_dial : (a b : End M) (p : Phase) → a.phase ≡ p → May a b Dials → EndFacts a b → IncarnationFacts a b → (e : ℕ) → ◌≡◌ {A = Entry M} (Dial (next_incarnation a)) (Dial e) → Ended a.appended ⊎ (e ≤ greatest_dial b.appended)
  own_dial a b Closed is may g q e h = inl (q.ended is)
  own_dial a b Offered is may g q e h =
      let k : answers a ≡ true = may.1 is in
      let n : next_incarnation a ≡ greatest_dial a.taken = ap (λ i. cond i (greatest_dial a.taken) (max (greatest_dial a.appended) (greatest_dial a.taken) + 1)) k in
      let low = greatest_dial_front a.taken b.appended g.front in
      let same : next_incarnation a ≡ e = cc (h) in inr (omega (arith, n, low, same))
  own_dial a b Joined is may g q e h = absurd (may.0 is)

joined_answers : (b : Bool) → cond b Joined Offered ≡ Joined → b ≡ true
joined_answers true h = refl
joined_answers false h = absurd cc

answers_shut : (p q : Bool) → (p && not q) ≡ true → q ≡ false
answers_shut true true h = absurd cc
answers_shut true false h = refl
answers_shut false q h = absurd cc

module _ {M : Type 0} where
  dials_incarnation : (a b : End M) → May a b Dials → EndFacts a b → IncarnationFacts a b → IncarnationFacts (dialling a) b
  dials_incarnation a b may g q =
      let above : greatest_dial a.appended < next_incarnation a = answers_true a (answers a) refl in
      let now : greatest_dial (a.appended ++ Dial (next_incarnation a) ∷ []) ≡ next_incarnation a = omega (arith, greatest_dial-append a.appended (Dial (next_incarnation a) ∷ []), above) in record {
        ended = λ c. absurd (never (answers a) c);
        dials = answers_more a.appended (greatest_dial b.appended) (Dial (next_incarnation a)) q.dials (own_dial a b a.phase refl may g q);
        unshut = λ j. (
            let k = joined_answers (answers a) j in
            let n : next_incarnation a ≡ greatest_dial a.taken = ap (λ i. cond i (greatest_dial a.taken) (max (greatest_dial a.appended) (greatest_dial a.taken) + 1)) k in
            let f : has_shut (greatest_dial a.taken) a.taken ≡ false = answers_shut (nat_lt (greatest_dial a.appended) (greatest_dial a.taken)) (has_shut (greatest_dial a.taken) a.taken) k in
            (omega (arith, now, above), subst (λ i. has_shut i a.taken ≡ false) (sym (now ∙ n)) f)
            );
        equal = λ j. (
            let k = joined_answers (answers a) j in
            let n : next_incarnation a ≡ greatest_dial a.taken = ap (λ i. cond i (greatest_dial a.taken) (max (greatest_dial a.appended) (greatest_dial a.taken) + 1)) k in omega (arith, now, n)
            );
      }
    where
      never : (b : Bool) → cond b Joined Offered ≡ Closed → ⊥
      never true h = cc (h)
      never false h = cc (h)

  hangs_incarnation : (a b : End M) → IncarnationFacts a b → IncarnationFacts (after a HangsUp) b
  hangs_incarnation a b q =
      let same : greatest_dial (a.appended ++ Shut (greatest_dial a.appended) ∷ []) ≡ greatest_dial a.appended = omega (arith, greatest_dial-append a.appended (Shut (greatest_dial a.appended) ∷ [])) in
      let hit : (greatest_dial a.appended == greatest_dial a.appended) ≡ true = grind (arith, nat_tests) in record {
        ended = λ c. inr (rw (same, shut-append (greatest_dial a.appended) a.appended (Shut (greatest_dial a.appended) ∷ []), hit) (always (has_shut (greatest_dial a.appended) a.appended)));
        dials = answers_more a.appended (greatest_dial b.appended) (Shut (greatest_dial a.appended)) q.dials (λ e h. absurd (cc (h)));
        unshut = λ j. absurd cc;
        equal = λ j. absurd cc;
      }
    where
      always : (b : Bool) → cond b true true ≡ true
      always true = refl
      always false = refl

  pub own_incarnation : (a b : End M) (x : Move M) → May a b x → EndFacts a b → EndFacts b a → IncarnationFacts a b → IncarnationFacts b a → IncarnationFacts (after a x) b
  own_incarnation a b Dials may g h q r = dials_incarnation a b may g q
  own_incarnation a b (Tells m) may g h q r = tells_incarnation a b (Says (greatest_dial a.appended) m) may refl (λ e i. cc (i)) q
  own_incarnation a b (Marks s) may g h q r = tells_incarnation a b (Mark (greatest_dial a.appended) s) (up_is a may).joined refl (λ e i. cc (i)) q
  own_incarnation a b HangsUp may g h q r = hangs_incarnation a b q
  own_incarnation a b (Takes (Dial e)) may g h q r = dial_taken_incarnation a b e g h q r may.0
  own_incarnation a b (Takes (Says e m)) may g h q r = takes_incarnation a b (Says e m) (used_with a.phase (greatest_dial a.appended) e m a.used) refl (λ j. refl) q
  own_incarnation a b (Takes (Mark e s)) may g h q r = takes_incarnation a b (Mark e s) a.used refl (λ j. refl) q
  own_incarnation a b (Takes (Shut e)) may g h q r = takes_incarnation a b (Shut e) a.used refl (λ j. (let apart = may.1 j in let n : (greatest_dial a.appended == e) ≡ false = grind (arith, nat_tests, apart) in rw n refl)) q
