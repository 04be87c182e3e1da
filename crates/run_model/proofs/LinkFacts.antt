-- What holds of the two ends of a link, and that each move keeps it.
use Rattle.std.proofs.Common.{◌≡◌, ◌≢◌, ℕ, ◌+◌, ◌<◌, ◌≤◌, ◌==◌, Bool, true, false, ◌&&◌, cond, List, [], ◌∷◌, ◌++◌, length, Some, slice_get, refl, ap, sym, ◌∙◌, arith, subst, inl, inr, ◌⊎◌}
use Rattle.std.specs.Prelude.{max, nat_lt}
use mathlib.Core.List.{IsPrefix}
pub use Rattle.run_model.specs.Facts.{EndFacts}
use Rattle.run_model.specs.Links.{Entry, Dial, Says, Mark, Shut, greatest_dial, said, Phase, Closed, Offered, Joined, End, Move, Dials, Tells, Marks, HangsUp, Takes, answers, next_incarnation, phase_joining, phase_at_dial, used_with, taking, after, May, Ends, LinkStep, moved, IsRun, ends_after, opening, UsedBeginsSaid}
use Rattle.run_model.proofs.EntryLists.{greatest_dial-append, said-append, Sound, sound-front, sound-append, sound-none, prefix_trans, prefix_same, prefix_push, prefix_none, prefix_next, said_front}
use Rattle.std.proofs.lemmas.List.{append-nil}
use Rattle.std.proofs.lemmas.Bool.Decides.{nat_tests}

module _ {M : Type 0} where
  pub greatest_dial_front : (xs ys : List (Entry M)) → IsPrefix xs ys → greatest_dial xs ≤ greatest_dial ys
  greatest_dial_front xs ys p = omega (arith, greatest_dial-append xs p.0, ap greatest_dial p.1)

  -- the peer's part depends on the log alone, which grows
  pub peer_facts : (b a a' : End M) (more : List (Entry M)) → a'.appended ≡ a.appended ++ more → EndFacts b a → EndFacts b a'
  peer_facts b a a' more e g = record {
    front = subst (λ l. IsPrefix b.taken l) (sym e) (prefix_push b.taken a.appended more g.front);
    sound = g.sound;
    joined = g.joined;
    told = λ n l. g.told n (omega (arith, greatest_dial-append a.appended more, ap greatest_dial e));
    whole = g.whole;
    begins = g.begins;
  }

  -- an append that is no dial
  pub append_facts : (a b : End M) (x : Entry M) (p : Phase) → EndFacts a b → (p ≡ Joined → a.phase ≡ Joined) → greatest_dial (x ∷ []) ≡ 0
      → Sound (greatest_dial a.appended) (x ∷ []) → ((n : ℕ) → greatest_dial b.appended < n → said n (x ∷ []) ≡ [])
      → EndFacts (record { appended = a.appended ++ x ∷ []; taken = a.taken; phase = p; used = a.used }) b
  append_facts a b x p g was none here quiet =
      let same : greatest_dial (a.appended ++ x ∷ []) ≡ greatest_dial a.appended = omega (arith, greatest_dial-append a.appended (x ∷ []), none) in
      let low : max 0 (greatest_dial a.appended) ≡ greatest_dial a.appended = omega arith in record {
        front = g.front;
        sound = sound-append 0 a.appended (x ∷ []) g.sound (subst (λ h. Sound h (x ∷ [])) (sym low) here);
        joined = λ j. (let l = g.joined (was j) in omega (arith, same, l));
        told = λ n l. rw (said-append n a.appended (x ∷ []), g.told n l, quiet n l) refl;
        whole = λ j. rw same (g.whole (was j));
        begins = g.begins;
      }

  -- nothing was taken, and so nothing used, of an incarnation that wasn't joined before
  pub unused : (a b : End M) (n : ℕ) → EndFacts a b → said n a.taken ≡ [] → said n a.used ≡ said n a.taken
  unused a b n g none = prefix_none (said n a.used) (said n a.taken) (g.begins n) none ∙ sym none

  pub fresh : (a b : End M) → EndFacts a b → EndFacts b a → (n : ℕ) → greatest_dial a.appended < n → said n a.taken ≡ []
  fresh a b g h n l = prefix_none (said n a.taken) (said n b.appended) (said_front n a.taken b.appended g.front) (h.told n l)

  -- a dial of a number above all before
  pub dial_facts : (a b : End M) (n : ℕ) (p : Phase) → EndFacts a b → EndFacts b a → greatest_dial a.appended < n → (p ≡ Joined → n ≤ greatest_dial a.taken)
      → EndFacts (record { appended = a.appended ++ Dial n ∷ []; taken = a.taken; phase = p; used = a.used }) b
  dial_facts a b n p g h above heard =
      let now : greatest_dial (a.appended ++ Dial n ∷ []) ≡ n = omega (arith, greatest_dial-append a.appended (Dial n ∷ []), above) in record {
        front = g.front;
        sound = sound-append 0 a.appended (Dial n ∷ []) g.sound tt;
        joined = λ j. (let l = heard j in omega (arith, now, l));
        told = λ k l. rw (said-append k a.appended (Dial n ∷ []), g.told k l) refl;
        whole = λ j. rw now (unused a b n g (fresh a b g h n above));
        begins = g.begins;
      }

  pub answers_true : (a : End M) (b : Bool) → answers a ≡ b → greatest_dial a.appended < cond b (greatest_dial a.taken) (max (greatest_dial a.appended) (greatest_dial a.taken) + 1)
  answers_true a true e = grind (arith, nat_tests, e)
  answers_true a false e = omega arith

  phase_of : (a : End M) (b : Bool) → cond b Joined Offered ≡ Joined → cond b (greatest_dial a.taken) (max (greatest_dial a.appended) (greatest_dial a.taken) + 1) ≤ greatest_dial a.taken
  phase_of a true e = omega arith
  phase_of a false e = absurd cc

  -- what was used and what was taken, one more each or one dropped
  begin_drop : (n : ℕ) (used past : List (Entry M)) (x : Entry M) → IsPrefix (said n used) (said n past) → IsPrefix (said n used) (said n (past ++ x ∷ []))
  begin_drop n used past x p = subst (λ w. IsPrefix (said n used) w) (sym (said-append n past (x ∷ []))) (prefix_push (said n used) (said n past) (said n (x ∷ [])) p)

  -- taking what isn't a message, in a phase that was there before
  pub take_facts : (a b : End M) (x : Entry M) (p : Phase) → EndFacts a b → slice_get b.appended (length a.taken) ≡ Some x
      → (p ≡ Joined → greatest_dial a.appended ≤ greatest_dial (a.taken ++ x ∷ []))
      → (p ≡ Joined → said (greatest_dial a.appended) a.used ≡ said (greatest_dial a.appended) (a.taken ++ x ∷ []))
      → EndFacts (record { appended = a.appended; taken = a.taken ++ x ∷ []; phase = p; used = a.used }) b
  take_facts a b x p g is joined whole = record {
    front = prefix_next a.taken b.appended x g.front is;
    sound = g.sound;
    joined = joined;
    told = g.told;
    whole = whole;
    begins = λ n. begin_drop n a.used a.taken x (g.begins n);
  }

-- joining by the peer's dial: the phase after it says what number was dialled
pub joining_phase : (b : Bool) (e n o : ℕ) (p : Phase) → (nat_lt n e && (e == o)) ≡ b
    → cond b (phase_joining p) p ≡ Joined
    → (p ≡ Joined) ⊎ ((n < e) × (e ≡ o))
joining_phase false e n o p is j = inl j
joining_phase true e n o Closed is j = absurd cc
joining_phase true e n o Offered is j = inr (grind (arith, nat_tests, is), grind (arith, nat_tests, is))
joining_phase true e n o Joined is j = inl refl

module _ {M : Type 0} where
  dial_taken : (a b : End M) (e : ℕ) → EndFacts a b → EndFacts b a → slice_get b.appended (length a.taken) ≡ Some (Dial e) → EndFacts (taking a (Dial e)) b
  dial_taken a b e g h is =
      let grown : greatest_dial (a.taken ++ Dial e ∷ []) ≡ max (greatest_dial a.taken) e = omega (arith, greatest_dial-append a.taken (Dial e ∷ [])) in
      let same : (n : ℕ) → said n (a.taken ++ Dial e ∷ []) ≡ said n a.taken = λ n. said-append n a.taken (Dial e ∷ []) ∙ append-nil (said n a.taken) in
      take_facts a b (Dial e) (phase_at_dial a e) g is
      (λ j. elim (joining_phase (nat_lt (greatest_dial a.taken) e && (e == greatest_dial a.appended)) e (greatest_dial a.taken) (greatest_dial a.appended) a.phase refl j) [
        | inl was ↦ (let l = g.joined was in omega (arith, grown, l))
        | inr now ↦ (omega (arith, grown, now.1))
      ])
      (λ j. elim (joining_phase (nat_lt (greatest_dial a.taken) e && (e == greatest_dial a.appended)) e (greatest_dial a.taken) (greatest_dial a.appended) a.phase refl j) [
        | inl was ↦ (g.whole was ∙ sym (same (greatest_dial a.appended)))
        | inr now ↦ (
            let past_sound : Sound 0 a.taken = sound-front 0 a.taken g.front.0 (subst (Sound 0) (sym g.front.1) h.sound) in
            let none : said (greatest_dial a.appended) a.taken ≡ [] = sound-none (greatest_dial a.appended) 0 a.taken past_sound (omega (arith, now.0, now.1)) in
            unused a b (greatest_dial a.appended) g none ∙ sym (same (greatest_dial a.appended)))
      ])

  -- one more message of the joined incarnation, or of another
  uses_whole : (b : Bool) (n e : ℕ) (m : M) (used past : List (Entry M)) → (n == e) ≡ b → said n used ≡ said n past
      → said n (cond b (used ++ Says e m ∷ []) used) ≡ said n (past ++ Says e m ∷ [])
  uses_whole true n e m used past is same = said-append n used (Says e m ∷ []) ∙ (ap (λ w. w ++ said n (Says e m ∷ [])) same ∙ sym (said-append n past (Says e m ∷ [])))
  uses_whole false n e m used past is same = rw (said-append n past (Says e m ∷ []), is, append-nil (said n past)) same

  uses_one : (c : Bool) (n e : ℕ) (m : M) (k : ℕ) (used past : List (Entry M)) → (k == e) ≡ c → (n == e) ≡ true → said n used ≡ said n past
      → IsPrefix (said k used) (said k past) → IsPrefix (said k (used ++ Says e m ∷ [])) (said k (past ++ Says e m ∷ []))
  uses_one true n e m k used past here is same p =
      let k-n : n ≡ k = grind (arith, nat_tests, here, is) in
      let at_k : said k used ≡ said k past = subst (λ i. said i used ≡ said i past) k-n same in
      prefix_same (said k (used ++ Says e m ∷ [])) (said k (past ++ Says e m ∷ []))
      (said-append k used (Says e m ∷ []) ∙ (ap (λ w. w ++ said k (Says e m ∷ [])) at_k ∙ sym (said-append k past (Says e m ∷ []))))
  uses_one false n e m k used past here is same p =
      rw (said-append k used (Says e m ∷ []), said-append k past (Says e m ∷ []), here, append-nil (said k used), append-nil (said k past)) p

  uses_begins : (b : Bool) (n e : ℕ) (m : M) (k : ℕ) (used past : List (Entry M)) → (n == e) ≡ b → said n used ≡ said n past
      → IsPrefix (said k used) (said k past) → IsPrefix (said k (cond b (used ++ Says e m ∷ []) used)) (said k (past ++ Says e m ∷ []))
  uses_begins false n e m k used past is same p = begin_drop k used past (Says e m) p
  uses_begins true n e m k used past is same p = uses_one (k == e) n e m k used past refl is same p

  says_taken : (a b : End M) (e : ℕ) (m : M) (p : Phase) → a.phase ≡ p → EndFacts a b → slice_get b.appended (length a.taken) ≡ Some (Says e m)
      → EndFacts (record { appended = a.appended; taken = a.taken ++ Says e m ∷ []; phase = p; used = used_with p (greatest_dial a.appended) e m a.used }) b
  says_taken a b e m Closed p g is = take_facts a b (Says e m) Closed g is (λ j. absurd cc) (λ j. absurd cc)
  says_taken a b e m Offered p g is = take_facts a b (Says e m) Offered g is (λ j. absurd cc) (λ j. absurd cc)
  says_taken a b e m Joined p g is = record {
    front = prefix_next a.taken b.appended (Says e m) g.front is;
    sound = g.sound;
    joined = λ j. (let l = g.joined p in omega (arith, l, greatest_dial-append a.taken (Says e m ∷ [])));
    told = g.told;
    whole = λ j. uses_whole (greatest_dial a.appended == e) (greatest_dial a.appended) e m a.used a.taken refl (g.whole p);
    begins = λ n. uses_begins (greatest_dial a.appended == e) (greatest_dial a.appended) e m n a.used a.taken refl (g.whole p) (g.begins n);
  }

  -- taking a marker or a close
  other_taken : (a b : End M) (x : Entry M) → EndFacts a b → slice_get b.appended (length a.taken) ≡ Some x → greatest_dial (x ∷ []) ≡ 0 → ((n : ℕ) → said n (x ∷ []) ≡ [])
      → EndFacts (record { appended = a.appended; taken = a.taken ++ x ∷ []; phase = a.phase; used = a.used }) b
  other_taken a b x g is none quiet =
      take_facts a b x a.phase g is
      (λ j. (let l = g.joined j in omega (arith, l, greatest_dial-append a.taken (x ∷ []))))
      (λ j. g.whole j ∙ sym (said-append (greatest_dial a.appended) a.taken (x ∷ []) ∙ (ap (λ w. said (greatest_dial a.appended) a.taken ++ w) (quiet (greatest_dial a.appended)) ∙ append-nil (said (greatest_dial a.appended) a.taken))))

  pub own_facts : (a b : End M) (x : Move M) → May a b x → EndFacts a b → EndFacts b a → EndFacts (after a x) b
  own_facts a b Dials may g h =
      dial_facts a b (next_incarnation a) (cond (answers a) Joined Offered) g h (answers_true a (answers a) refl) (λ j. phase_of a (answers a) j)
  own_facts a b (Tells m) may g h =
      append_facts a b (Says (greatest_dial a.appended) m) a.phase g (λ j. j) refl (omega arith, tt)
      (λ n l. (let heard = g.joined may in let low = greatest_dial_front a.taken b.appended g.front in
      let apart : (n == greatest_dial a.appended) ≡ false = grind (arith, nat_tests, heard, low, l) in rw apart refl))
  own_facts a b (Marks s) may g h = append_facts a b (Mark (greatest_dial a.appended) s) a.phase g (λ j. j) refl (omega arith, tt) (λ n l. refl)
  own_facts a b HangsUp may g h = append_facts a b (Shut (greatest_dial a.appended)) Closed g (λ j. absurd cc) refl (omega arith, tt) (λ n l. refl)
  own_facts a b (Takes (Dial e)) may g h = dial_taken a b e g h may.0
  own_facts a b (Takes (Says e m)) may g h = says_taken a b e m a.phase refl g may.0
  own_facts a b (Takes (Mark e s)) may g h = other_taken a b (Mark e s) g may.0 refl (λ n. refl)
  own_facts a b (Takes (Shut e)) may g h = other_taken a b (Shut e) g may.0 refl (λ n. refl)

  pub other_facts : (a b : End M) (x : Move M) → EndFacts b a → EndFacts b (after a x)
  other_facts a b Dials h = peer_facts b a (after a Dials) (Dial (next_incarnation a) ∷ []) refl h
  other_facts a b (Tells m) h = peer_facts b a (after a (Tells m)) (Says (greatest_dial a.appended) m ∷ []) refl h
  other_facts a b (Marks s) h = peer_facts b a (after a (Marks s)) (Mark (greatest_dial a.appended) s ∷ []) refl h
  other_facts a b HangsUp h = peer_facts b a (after a HangsUp) (Shut (greatest_dial a.appended) ∷ []) refl h
  other_facts a b (Takes (Dial e)) h = peer_facts b a (taking a (Dial e)) [] (sym (append-nil a.appended)) h
  other_facts a b (Takes (Says e m)) h = peer_facts b a (taking a (Says e m)) [] (sym (append-nil a.appended)) h
  other_facts a b (Takes (Mark e s)) h = peer_facts b a (taking a (Mark e s)) [] (sym (append-nil a.appended)) h
  other_facts a b (Takes (Shut e)) h = peer_facts b a (taking a (Shut e)) [] (sym (append-nil a.appended)) h

  -- every link of the network
  abbrev pub AllEndFacts : Ends M → Type 0
  AllEndFacts w = (u v : ℕ) → u ≢ v → EndFacts (w u v) (w v u)

  -- a move keeps it, by whether the end that moves is one of the two
  by_step : (w : Ends M) (m : LinkStep M) (u v : ℕ) (b c : Bool) → (u == m.router) ≡ b → (v == m.peer) ≡ c → AllEndFacts w → u ≢ v → May (w m.router m.peer) (w m.peer m.router) m.move
      → (d e : Bool) → (v == m.router) ≡ d → (u == m.peer) ≡ e
      → EndFacts (cond b (cond c (after (w u v) m.move) (w u v)) (w u v)) (cond d (cond e (after (w v u) m.move) (w v u)) (w v u))
  by_step w m u v true true bi ci s apart may true e di ei = absurd (apart (grind (arith, nat_tests, bi, di)))
  by_step w m u v true true bi ci s apart may false e di ei =
      let to_u : m.router ≡ u = grind (arith, nat_tests, bi) in
      let to_v : m.peer ≡ v = grind (arith, nat_tests, ci) in
      own_facts (w u v) (w v u) m.move (rw (to_u, to_v) at may) (s u v apart) (s v u (λ q. apart (sym q)))
  by_step w m u v true false bi ci s apart may true true di ei = absurd (apart (grind (arith, nat_tests, bi, di)))
  by_step w m u v true false bi ci s apart may true false di ei = s u v apart
  by_step w m u v true false bi ci s apart may false e di ei = s u v apart
  by_step w m u v false c bi ci s apart may true true di ei =
      let to_v : m.router ≡ v = grind (arith, nat_tests, di) in
      let to_u : m.peer ≡ u = grind (arith, nat_tests, ei) in
      other_facts (w v u) (w u v) m.move (s u v apart)
  by_step w m u v false c bi ci s apart may true false di ei = s u v apart
  by_step w m u v false c bi ci s apart may false e di ei = s u v apart

  pub facts_moved : (w : Ends M) (m : LinkStep M) → AllEndFacts w → May (w m.router m.peer) (w m.peer m.router) m.move → AllEndFacts (moved w m)
  facts_moved w m s may = λ u v apart. by_step w m u v (u == m.router) (v == m.peer) refl refl s apart may (v == m.router) (u == m.peer) refl refl

  pub end_facts_run : (ms : List (LinkStep M)) (w : Ends M) → AllEndFacts w → IsRun w ms → AllEndFacts (ends_after w ms)
  end_facts_run [] w s r = s
  end_facts_run (m ∷ ms) w s r = end_facts_run ms (moved w m) (facts_moved w m s r.1) r.2

pub begins_sent : {M : Type 0} → UsedBeginsSaid M
begins_sent moves r u v e apart =
    let s = end_facts_run moves opening (λ x y d. record { front = ([], refl); sound = tt; joined = λ j. absurd cc; told = λ n l. refl; whole = λ j. refl; begins = λ n. ([], refl) }) r in
    let g = s u v apart in
    prefix_trans (said e (ends_after opening moves u v).used) (said e (ends_after opening moves u v).taken) (said e (ends_after opening moves v u).appended) (g.begins e)
    (said_front e (ends_after opening moves u v).taken (ends_after opening moves v u).appended g.front)
