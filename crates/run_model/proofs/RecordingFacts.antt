-- Recordings by markers make a consistent cut.
use Rattle.std.proofs.Common.{◌≡◌, ◌≢◌, ℕ, ◌<◌, ◌≤◌, ◌==◌, Bool, true, false, ◌&&◌, cond, List, [], ◌∷◌, ◌++◌, length, Option, Some, None, refl, ap, sym, ◌∙◌, arith, append_assoc, subst, inl, inr, ◌⊎◌}
use Rattle.std.specs.Prelude.{nat_lt}
use mathlib.Core.List.{IsPrefix}
use Rattle.run_model.specs.Links.{Entry, Dial, Says, Mark, Shut, greatest_dial, said, Phase, Closed, Offered, Joined, End, Move, Dials, Tells, Marks, HangsUp, Takes, answers, next_incarnation, phase_joining, phase_at_dial, used_with, taking, after, May, is_joined, is_up}
use Rattle.run_model.specs.Recordings.{Recorder, Act, Moves, EndsChannel, IgnoresMarker, Begins, Follows, Finishes, with_end, marked, used_by, unfinished_after, recorder_after, IsPlain, IsNext, MayAct, Copies, IsChannel}
use Rattle.run_model.proofs.EntryLists.{greatest_dial-append, said-append, Sound, sound-front, prefix_trans, prefix_same, prefix_push, prefix_next, said_front}
use Rattle.run_model.proofs.LinkFacts.{EndFacts, greatest_dial_front, own_facts, other_facts, answers_true, joining_phase}
use Rattle.run_model.proofs.MarkerFacts.{is_mark, has_mark, up_to, has-append, up_to-found, up_to-next, has_front, has_not_front, mark_is, up_to_here, sound-no_mark, MarkerFacts, prefix_length, marked_peer, behind_one, marked_append, marked_same, Up, up_is, is_up_of, mark_which}
use Rattle.std.proofs.lemmas.List.{append-nil}
use Rattle.std.proofs.lemmas.Bool.Decides.{nat_tests}

module _ {M : Type 0} where
  -- what holds of two ends
  pub record LinkFacts (a b : End M) : Type 0 where
    pub good : EndFacts a b
    pub back : EndFacts b a
    pub marks : MarkerFacts a b
    pub marks_back : MarkerFacts b a

  pub swap : (a b : End M) → LinkFacts a b → LinkFacts b a
  swap a b p = record { good = p.back; back = p.good; marks = p.marks_back; marks_back = p.marks }

  -- a session that is up has two messages of its peer
  pub up_heard : (a b : End M) → EndFacts a b → Up a → 1 < length (said (greatest_dial a.appended) b.appended)
  up_heard a b g up =
      let k = prefix_length (said (greatest_dial a.appended) a.used) (said (greatest_dial a.appended) a.taken) (g.begins (greatest_dial a.appended)) in
      let l = prefix_length (said (greatest_dial a.appended) a.taken) (said (greatest_dial a.appended) b.appended) (said_front (greatest_dial a.appended) a.taken b.appended g.front) in
      let m = up.used in omega (arith, k, l, m)

  behind_mark : (a b : End M) (s n k : ℕ) (h : Bool) → has_mark n k a.appended ≡ h → EndFacts a b → Up a → MarkerFacts a b → has_mark n k (a.appended ++ Mark (greatest_dial a.appended) s ∷ []) ≡ true
      → (1 < length (said n (up_to n k (a.appended ++ Mark (greatest_dial a.appended) s ∷ [])))) × (1 < length (said n b.appended))
  behind_mark a b s n k true is g up m h =
      let same : up_to n k (a.appended ++ Mark (greatest_dial a.appended) s ∷ []) ≡ up_to n k a.appended = up_to-found n k a.appended (Mark (greatest_dial a.appended) s ∷ []) is in
      (rw same (m.behind n k is).0, (m.behind n k is).1)
  behind_mark a b s n k false is g up m h =
      let here : has_mark {M = M} n k (Mark (greatest_dial a.appended) s ∷ []) ≡ true = sym (rw is at (has-append n k a.appended (Mark (greatest_dial a.appended) s ∷ []))) ∙ h in
      let w = mark_which n k (greatest_dial a.appended) s here in
      let l : up_to n k (a.appended ++ Mark (greatest_dial a.appended) s ∷ []) ≡ a.appended ++ Mark (greatest_dial a.appended) s ∷ [] = up_to-next n k a.appended (Mark (greatest_dial a.appended) s) [] is (rw (w.0, w.1) (mark_is (greatest_dial a.appended) s)) in
      let longer : length (said n a.appended) ≤ length (said n (a.appended ++ Mark (greatest_dial a.appended) s ∷ [])) = prefix_length (said n a.appended) (said n (a.appended ++ Mark (greatest_dial a.appended) s ∷ [])) (said_front n a.appended (a.appended ++ Mark (greatest_dial a.appended) s ∷ []) (Mark (greatest_dial a.appended) s ∷ [], refl)) in
      let told : 1 < length (said n a.appended) = subst (λ i. 1 < length (said i a.appended)) (sym w.0) up.told in
      let heard : 1 < length (said n b.appended) = subst (λ i. 1 < length (said i b.appended)) (sym w.0) (up_heard a b g up) in
      (rw l (omega (arith, longer, told)), heard)

  pub marked_mark : (a b : End M) (s : ℕ) → EndFacts a b → Up a → MarkerFacts a b → MarkerFacts (after a (Marks s)) b
  marked_mark a b s g up m = record {
    told = λ n k l. (
        let low = greatest_dial_front a.taken b.appended g.front in
        let heard = g.joined up.joined in
        let apart : (n == greatest_dial a.appended) ≡ false = grind (arith, nat_tests, low, heard, l) in
        has-append n k a.appended (Mark (greatest_dial a.appended) s ∷ []) ∙ rw (m.told n k l, apart) refl
        );
    behind = λ n k h. behind_mark a b s n k (has_mark n k a.appended) refl g up m h;
  }

  pub pair_act : (a b : End M) (x : Move M) → May a b x → LinkFacts a b → LinkFacts (after a x) b
  pair_act a b Dials may p = record { good = own_facts a b Dials may p.good p.back; back = other_facts a b Dials p.back; marks = marked_append a b (after a Dials) (Dial (next_incarnation a)) refl (λ n s. refl) p.marks; marks_back = marked_peer b a (after a Dials) (Dial (next_incarnation a) ∷ []) refl p.marks_back }
  pair_act a b (Tells m) may p = record { good = own_facts a b (Tells m) may p.good p.back; back = other_facts a b (Tells m) p.back; marks = marked_append a b (after a (Tells m)) (Says (greatest_dial a.appended) m) refl (λ n s. refl) p.marks; marks_back = marked_peer b a (after a (Tells m)) (Says (greatest_dial a.appended) m ∷ []) refl p.marks_back }
  pair_act a b (Marks s) may p = record { good = own_facts a b (Marks s) may p.good p.back; back = other_facts a b (Marks s) p.back; marks = marked_mark a b s p.good (up_is a may) p.marks; marks_back = marked_peer b a (after a (Marks s)) (Mark (greatest_dial a.appended) s ∷ []) refl p.marks_back }
  pair_act a b HangsUp may p = record { good = own_facts a b HangsUp may p.good p.back; back = other_facts a b HangsUp p.back; marks = marked_append a b (after a HangsUp) (Shut (greatest_dial a.appended)) refl (λ n s. refl) p.marks; marks_back = marked_peer b a (after a HangsUp) (Shut (greatest_dial a.appended) ∷ []) refl p.marks_back }
  pair_act a b (Takes (Dial e)) may p = record { good = own_facts a b (Takes (Dial e)) may p.good p.back; back = other_facts a b (Takes (Dial e)) p.back; marks = marked_same a b (taking a (Dial e)) refl p.marks; marks_back = marked_peer b a (taking a (Dial e)) [] (sym (append-nil a.appended)) p.marks_back }
  pair_act a b (Takes (Says e m)) may p = record { good = own_facts a b (Takes (Says e m)) may p.good p.back; back = other_facts a b (Takes (Says e m)) p.back; marks = marked_same a b (taking a (Says e m)) refl p.marks; marks_back = marked_peer b a (taking a (Says e m)) [] (sym (append-nil a.appended)) p.marks_back }
  pair_act a b (Takes (Mark e s)) may p = record { good = own_facts a b (Takes (Mark e s)) may p.good p.back; back = other_facts a b (Takes (Mark e s)) p.back; marks = marked_same a b (taking a (Mark e s)) refl p.marks; marks_back = marked_peer b a (taking a (Mark e s)) [] (sym (append-nil a.appended)) p.marks_back }
  pair_act a b (Takes (Shut e)) may p = record { good = own_facts a b (Takes (Shut e)) may p.good p.back; back = other_facts a b (Takes (Shut e)) p.back; marks = marked_same a b (taking a (Shut e)) refl p.marks; marks_back = marked_peer b a (taking a (Shut e)) [] (sym (append-nil a.appended)) p.marks_back }

  mark_if : (a b : End M) (s : ℕ) (h : Bool) → is_up a ≡ h → LinkFacts a b → LinkFacts (cond h (after a (Marks s)) a) b
  mark_if a b s true is p = pair_act a b (Marks s) is p
  mark_if a b s false is p = p

  pub pair_marked : (a b : End M) (s : ℕ) → LinkFacts a b → LinkFacts (marked s a) b
  pair_marked a b s p = mark_if a b s (is_up a) refl p

  -- one end of many was put
  put_case : (P : ℕ → End M → Type 0) (f : ℕ → End M) (v : ℕ) (a : End M) (y : ℕ) (b : Bool) → (y == v) ≡ b → P v a → P y (f y) → P y (cond b a (f y))
  put_case P f v a y true is hit miss = let same : v ≡ y = grind (arith, nat_tests, is) in subst (λ i. P i a) same hit
  put_case P f v a y false is hit miss = miss

  pub pair_by_act : (u : ℕ) (x : Recorder M) (far : ℕ → End M) (linked : ℕ → Bool) (d : Act M) → MayAct u x far linked d → ((v : ℕ) → u ≢ v → LinkFacts (x.ends v) (far v))
      → (y : ℕ) → u ≢ y → LinkFacts ((recorder_after x d).ends y) (far y)
  pair_by_act u x far linked (Moves v act) can p y apart = put_case (λ i a. LinkFacts a (far i)) x.ends v (after (x.ends v) act) y (y == v) refl (pair_act (x.ends v) (far v) act can.2 (p v can.0)) (p y apart)
  pair_by_act u x far linked (EndsChannel v e s) can p y apart = put_case (λ i a. LinkFacts a (far i)) x.ends v (taking (x.ends v) (Mark e s)) y (y == v) refl (pair_act (x.ends v) (far v) (Takes (Mark e s)) (can.1, tt) (p v can.0)) (p y apart)
  pair_by_act u x far linked (IgnoresMarker v e s) can p y apart = put_case (λ i a. LinkFacts a (far i)) x.ends v (taking (x.ends v) (Mark e s)) y (y == v) refl (pair_act (x.ends v) (far v) (Takes (Mark e s)) (can.1, tt) (p v can.0)) (p y apart)
  pair_by_act u x far linked (Begins s whole) can p y apart = pair_marked (x.ends y) (far y) s (p y apart)
  pair_by_act u x far linked (Follows v e s whole) can p y apart = pair_marked (with_end x.ends v (taking (x.ends v) (Mark e s)) y) (far y) s (put_case (λ i a. LinkFacts a (far i)) x.ends v (taking (x.ends v) (Mark e s)) y (y == v) refl (pair_act (x.ends v) (far v) (Takes (Mark e s)) (can.1, tt) (p v can.0)) (p y apart))
  pair_by_act u x far linked (Finishes s) can p y apart = p y apart

  -- what holds of a router's end towards v, its copies and the greatest number recorded
  pub record CopyFacts (copy : Copies M) (last v : ℕ) (a : End M) : Type 0 where
    -- a marker stands where the router recorded
    pub marks : (e s : ℕ) → has_mark e s a.appended ≡ true → (c : ℕ → End M) × (copy s ≡ Some c) × ((c v).appended ≡ up_to e s a.appended) × (greatest_dial (c v).appended ≡ e)
    pub copied : (s : ℕ) (c : ℕ → End M) → copy s ≡ Some c → IsPrefix (c v).appended a.appended × IsPrefix (c v).taken a.taken × (s ≤ last)
    -- a marker of the joined incarnation that was taken is obeyed
    pub obeyed : (s : ℕ) → a.phase ≡ Joined → has_mark (greatest_dial a.appended) s a.taken ≡ true → s ≤ last

  pub weaken : (copy : Copies M) (last more v : ℕ) (a : End M) → last ≤ more → CopyFacts copy last v a → CopyFacts copy more v a
  weaken copy last more v a le l = record {
    marks = l.marks;
    copied = λ s c is. (let k = l.copied s c is in (k.0, k.1, omega arith));
    obeyed = λ s j h. (let k = l.obeyed s j h in omega arith);
  }

  -- an append that is no marker
  marks_append : (copy : Copies M) (last v : ℕ) (a : End M) (x : Entry M) → ((n s : ℕ) → has_mark n s (x ∷ []) ≡ false) → CopyFacts copy last v a → (e s : ℕ) → has_mark e s (a.appended ++ x ∷ []) ≡ true
      → (c : ℕ → End M) × (copy s ≡ Some c) × ((c v).appended ≡ up_to e s (a.appended ++ x ∷ [])) × (greatest_dial (c v).appended ≡ e)
  marks_append copy last v a x absent l e s h =
      let was : has_mark e s a.appended ≡ true = behind_one e s a.appended x (has_mark e s a.appended) refl (absent e s) h in
      let k = l.marks e s was in (k.0, k.1, k.2 ∙ sym (up_to-found e s a.appended (x ∷ []) was), k.3)

  local_append : (copy : Copies M) (last v : ℕ) (a : End M) (x : Entry M) (p : Phase) → ((n s : ℕ) → has_mark n s (x ∷ []) ≡ false) → CopyFacts copy last v a
      → ((s : ℕ) → p ≡ Joined → has_mark (greatest_dial (a.appended ++ x ∷ [])) s a.taken ≡ true → s ≤ last)
      → CopyFacts copy last v (record { appended = a.appended ++ x ∷ []; taken = a.taken; phase = p; used = a.used })
  local_append copy last v a x p absent l obeyed = record {
    marks = marks_append copy last v a x absent l;
    copied = λ s c is. (let k = l.copied s c is in (prefix_push (c v).appended a.appended (x ∷ []) k.0, k.1, k.2));
    obeyed = obeyed;
  }

  local_take : (copy : Copies M) (last v : ℕ) (a : End M) (x : Entry M) (p : Phase) (used : List (Entry M)) → CopyFacts copy last v a
      → ((s : ℕ) → p ≡ Joined → has_mark (greatest_dial a.appended) s (a.taken ++ x ∷ []) ≡ true → s ≤ last)
      → CopyFacts copy last v (record { appended = a.appended; taken = a.taken ++ x ∷ []; phase = p; used = used })
  local_take copy last v a x p used l obeyed = record {
    marks = l.marks;
    copied = λ s c is. (let k = l.copied s c is in (k.0, prefix_push (c v).taken a.taken (x ∷ []) k.1, k.2));
    obeyed = obeyed;
  }

  took_other : (n s : ℕ) (past : List (Entry M)) (x : Entry M) → has_mark n s (x ∷ []) ≡ false → has_mark n s (past ++ x ∷ []) ≡ true → has_mark n s past ≡ true
  took_other n s past x absent h = behind_one n s past x (has_mark n s past) refl absent h

  join_obeyed : (copy : Copies M) (last v : ℕ) (a b : End M) (e : ℕ) → LinkFacts a b → CopyFacts copy last v a → (s : ℕ) → (a.phase ≡ Joined) ⊎ ((greatest_dial a.taken < e) × (e ≡ greatest_dial a.appended))
      → has_mark (greatest_dial a.appended) s (a.taken ++ Dial e ∷ []) ≡ true → s ≤ last
  join_obeyed copy last v a b e p l s (inl was) h = l.obeyed s was (took_other (greatest_dial a.appended) s a.taken (Dial e) refl h)
  join_obeyed copy last v a b e p l s (inr now) h =
      let past_sound : Sound 0 a.taken = sound-front 0 a.taken p.good.front.0 (subst (Sound 0) (sym p.good.front.1) p.back.sound) in
      let none : has_mark (greatest_dial a.appended) s a.taken ≡ false = sound-no_mark (greatest_dial a.appended) s 0 a.taken past_sound (omega (arith, now.0, now.1)) in
      absurd (cc (none, took_other (greatest_dial a.appended) s a.taken (Dial e) refl h))

  pub local_act : (copy : Copies M) (last v : ℕ) (a b : End M) (x : Move M) → IsPlain x → May a b x → LinkFacts a b → CopyFacts copy last v a → CopyFacts copy last v (after a x)
  local_act copy last v a b Dials plain may p l =
      local_append copy last v a (Dial (next_incarnation a)) (cond (answers a) Joined Offered) (λ n s. refl) l
      (λ s j h. (
      let above : greatest_dial a.appended < next_incarnation a = answers_true a (answers a) refl in
      let now : greatest_dial (a.appended ++ Dial (next_incarnation a) ∷ []) ≡ next_incarnation a = omega (arith, greatest_dial-append a.appended (Dial (next_incarnation a) ∷ []), above) in
      let none : has_mark (next_incarnation a) s b.appended ≡ false = p.marks_back.told (next_incarnation a) s above in
      absurd (cc (has_not_front (next_incarnation a) s a.taken b.appended p.good.front none, rw now at h))
      ))
  local_act copy last v a b (Tells m) plain may p l =
      local_append copy last v a (Says (greatest_dial a.appended) m) a.phase (λ n s. refl) l
      (λ s j h. (let same : greatest_dial (a.appended ++ Says (greatest_dial a.appended) m ∷ []) ≡ greatest_dial a.appended = omega (arith, greatest_dial-append a.appended (Says (greatest_dial a.appended) m ∷ [])) in l.obeyed s j (rw same at h)))
  local_act copy last v a b (Marks s) plain may p l = absurd plain
  local_act copy last v a b HangsUp plain may p l = local_append copy last v a (Shut (greatest_dial a.appended)) Closed (λ n s. refl) l (λ s j h. absurd cc)
  local_act copy last v a b (Takes (Dial e)) plain may p l =
      local_take copy last v a (Dial e) (phase_at_dial a e) a.used l
      (λ s j h. join_obeyed copy last v a b e p l s (joining_phase (nat_lt (greatest_dial a.taken) e && (e == greatest_dial a.appended)) e (greatest_dial a.taken) (greatest_dial a.appended) a.phase refl j) h)
  local_act copy last v a b (Takes (Says e m)) plain may p l =
      local_take copy last v a (Says e m) a.phase (used_with a.phase (greatest_dial a.appended) e m a.used) l (λ s j h. l.obeyed s j (took_other (greatest_dial a.appended) s a.taken (Says e m) refl h))
  local_act copy last v a b (Takes (Mark e s)) plain may p l = absurd plain
  local_act copy last v a b (Takes (Shut e)) plain may p l =
      local_take copy last v a (Shut e) a.phase a.used l (λ s j h. l.obeyed s j (took_other (greatest_dial a.appended) s a.taken (Shut e) refl h))

  obey_mark : (last e s k n : ℕ) (past : List (Entry M)) (b : Bool) → has_mark n k past ≡ b → (has_mark n k past ≡ true → k ≤ last) → (e ≡ n → s ≤ last) → has_mark n k (past ++ Mark e s ∷ []) ≡ true → k ≤ last
  obey_mark last e s k n past true is old new h = old is
  obey_mark last e s k n past false is old new h =
      let here : has_mark {M = M} n k (Mark e s ∷ []) ≡ true = sym (rw is at (has-append n k past (Mark e s ∷ []))) ∙ h in
      let w = mark_which n k e s here in let le = new (sym w.0) in omega (arith, le, w.1)

  -- a marker is taken: if it is of the joined incarnation, its number was recorded
  pub local_mark_taken : (copy : Copies M) (last v : ℕ) (a : End M) (e s : ℕ) → (a.phase ≡ Joined → e ≡ greatest_dial a.appended → s ≤ last) → CopyFacts copy last v a → CopyFacts copy last v (taking a (Mark e s))
  local_mark_taken copy last v a e s low l =
      local_take copy last v a (Mark e s) a.phase a.used l (λ k j h. obey_mark last e s k (greatest_dial a.appended) a.taken (has_mark (greatest_dial a.appended) k a.taken) refl (l.obeyed k j) (low j) h)

  -- the copies with one more
  abbrev pub with_copy : Copies M → ℕ → (ℕ → End M) → Copies M
  with_copy copy s c = λ n. cond (n == s) (Some c) (copy n)

  pub keeps : (copy : Copies M) (s : ℕ) (d : ℕ → End M) → copy s ≡ None → (n : ℕ) (c : ℕ → End M) → copy n ≡ Some c → with_copy copy s d n ≡ Some c
  keeps copy s d fresh n c is = keep (n == s) copy n s c d refl fresh is
    where
      keep : (b : Bool) (copy : Copies M) (n s : ℕ) (c d : ℕ → End M) → (n == s) ≡ b → copy s ≡ None → copy n ≡ Some c → cond b (Some d) (copy n) ≡ Some c
      keep true copy n s c d here fresh is = let same : n ≡ s = grind (arith, nat_tests, here) in absurd (cc (fresh, is, ap copy same))
      keep false copy n s c d here fresh is = is

  pub new_copy : (copy : Copies M) (s : ℕ) (d : ℕ → End M) → with_copy copy s d s ≡ Some d
  new_copy copy s d = let same : (s == s) ≡ true = grind (arith, nat_tests) in rw same refl

  some_inj : (c d : ℕ → End M) → Some c ≡ Some d → c ≡ d
  some_inj c d e = cc

  -- which copy it is
  pub copy_which : (copy : Copies M) (s : ℕ) (d : ℕ → End M) (n : ℕ) (c : ℕ → End M) → with_copy copy s d n ≡ Some c → ((n ≡ s) × (d ≡ c)) ⊎ (copy n ≡ Some c)
  copy_which copy s d n c is = which (n == s) copy n s c d refl is
    where
      which : (b : Bool) (copy : Copies M) (n s : ℕ) (c d : ℕ → End M) → (n == s) ≡ b → cond b (Some d) (copy n) ≡ Some c → ((n ≡ s) × (d ≡ c)) ⊎ (copy n ≡ Some c)
      which true copy n s c d here is = inl (grind (arith, nat_tests, here), some_inj d c is)
      which false copy n s c d here is = inr is

  record_marks : (copy : Copies M) (s v : ℕ) (a : End M) (d : ℕ → End M) → d v ≡ after a (Marks s) → copy s ≡ None → CopyFacts copy s v a → (e k : ℕ) (b : Bool) → has_mark e k a.appended ≡ b → has_mark e k (a.appended ++ Mark (greatest_dial a.appended) s ∷ []) ≡ true
      → (c : ℕ → End M) × (with_copy copy s d k ≡ Some c) × ((c v).appended ≡ up_to e k (a.appended ++ Mark (greatest_dial a.appended) s ∷ [])) × (greatest_dial (c v).appended ≡ e)
  record_marks copy s v a d dv fresh l e k true is h =
      let m = l.marks e k is in (m.0, keeps copy s d fresh k m.0 m.1, m.2 ∙ sym (up_to-found e k a.appended (Mark (greatest_dial a.appended) s ∷ []) is), m.3)
  record_marks copy s v a d dv fresh l e k false is h =
      let here : has_mark {M = M} e k (Mark (greatest_dial a.appended) s ∷ []) ≡ true = sym (rw is at (has-append e k a.appended (Mark (greatest_dial a.appended) s ∷ []))) ∙ h in
      let w = mark_which e k (greatest_dial a.appended) s here in
      let all : up_to e k (a.appended ++ Mark (greatest_dial a.appended) s ∷ []) ≡ a.appended ++ Mark (greatest_dial a.appended) s ∷ [] = up_to-next e k a.appended (Mark (greatest_dial a.appended) s) [] is (rw (w.0, w.1) (mark_is (greatest_dial a.appended) s)) in
      let log : (d v).appended ≡ a.appended ++ Mark (greatest_dial a.appended) s ∷ [] = ap (λ (i : End M). i.appended) dv in
      let same : greatest_dial (a.appended ++ Mark (greatest_dial a.appended) s ∷ []) ≡ greatest_dial a.appended = omega (arith, greatest_dial-append a.appended (Mark (greatest_dial a.appended) s ∷ [])) in
      (d, subst (λ i. with_copy copy s d i ≡ Some d) (sym w.1) (new_copy copy s d), log ∙ sym all, ap greatest_dial log ∙ (same ∙ sym w.0))

  record_copied : (copy : Copies M) (s v : ℕ) (a a' : End M) (d : ℕ → End M) → d v ≡ a' → IsPrefix a.appended a'.appended → IsPrefix a.taken a'.taken → CopyFacts copy s v a → (n : ℕ) (c : ℕ → End M)
      → ((n ≡ s) × (d ≡ c)) ⊎ (copy n ≡ Some c) → IsPrefix (c v).appended a'.appended × IsPrefix (c v).taken a'.taken × (n ≤ s)
  record_copied copy s v a a' d dv logs pasts l n c (inl here) =
      let cv : c v ≡ a' = ap (λ (i : ℕ → End M). i v) (sym here.1) ∙ dv in
      (prefix_same (c v).appended a'.appended (ap (λ (i : End M). i.appended) cv), prefix_same (c v).taken a'.taken (ap (λ (i : End M). i.taken) cv), omega (arith, here.0))
  record_copied copy s v a a' d dv logs pasts l n c (inr is) =
      let k = l.copied n c is in (prefix_trans (c v).appended a.appended a'.appended k.0 logs, prefix_trans (c v).taken a.taken a'.taken k.1 pasts, k.2)

  local_mark_if : (copy : Copies M) (s v : ℕ) (a : End M) (d : ℕ → End M) (h : Bool) → d v ≡ cond h (after a (Marks s)) a → copy s ≡ None → CopyFacts copy s v a → CopyFacts (with_copy copy s d) s v (cond h (after a (Marks s)) a)
  local_mark_if copy s v a d true dv fresh l = record {
    marks = λ e k h. record_marks copy s v a d dv fresh l e k (has_mark e k a.appended) refl h;
    copied = λ n c is. record_copied copy s v a (after a (Marks s)) d dv (Mark (greatest_dial a.appended) s ∷ [], refl) ([], append-nil a.taken) l n c (copy_which copy s d n c is);
    obeyed = λ k j h. (let same : greatest_dial (a.appended ++ Mark (greatest_dial a.appended) s ∷ []) ≡ greatest_dial a.appended = omega (arith, greatest_dial-append a.appended (Mark (greatest_dial a.appended) s ∷ [])) in l.obeyed k j (rw same at h));
  }
  local_mark_if copy s v a d false dv fresh l = record {
    marks = λ e k h. (let m = l.marks e k h in (m.0, keeps copy s d fresh k m.0 m.1, m.2, m.3));
    copied = λ n c is. record_copied copy s v a a d dv ([], append-nil a.appended) ([], append-nil a.taken) l n c (copy_which copy s d n c is);
    obeyed = l.obeyed;
  }

  fresh_case : (copy : Copies M) (last s v : ℕ) (a : End M) (o : Option (ℕ → End M)) → copy s ≡ o → last < s → CopyFacts copy last v a → copy s ≡ None
  fresh_case copy last s v a None is above l = is
  fresh_case copy last s v a (Some c) is above l = let k = l.copied s c is in absurd (omega (arith, k.2, above))

  pub fresh_copy : (copy : Copies M) (last s v : ℕ) (a : End M) → last < s → CopyFacts copy last v a → copy s ≡ None
  fresh_copy copy last s v a above l = fresh_case copy last s v a (copy s) refl above l

  up_to_front : (n s : ℕ) (xs : List (Entry M)) → IsPrefix (up_to n s xs) xs
  up_to_front n s [] = ([], refl)
  up_to_front n s (x ∷ xs) = head (is_mark n s x) x (up_to n s xs) xs (up_to_front n s xs)
    where
      head : (b : Bool) (x : Entry M) (us xs : List (Entry M)) → IsPrefix us xs → IsPrefix (x ∷ cond b [] us) (x ∷ xs)
      head true x us xs p = (xs, refl)
      head false x us xs p = (p.0, ap (λ w. x ∷ w) p.1)

  behind_past : (n s : ℕ) (past log : List (Entry M)) (b : Bool) → has_mark n s past ≡ b → IsPrefix (past ++ Mark n s ∷ []) log → 1 < length (said n (up_to n s log)) → 1 < length (said n past)
  behind_past n s past log true is p long =
      let whole : log ≡ past ++ (Mark n s ∷ p.0) = sym p.1 ∙ append_assoc past (Mark n s ∷ []) p.0 in
      let same : up_to n s log ≡ up_to n s past = ap (up_to n s) whole ∙ up_to-found n s past (Mark n s ∷ p.0) is in
      let front = prefix_length (said n (up_to n s past)) (said n past) (said_front n (up_to n s past) past (up_to_front n s past)) in
      let long' : 1 < length (said n (up_to n s past)) = rw same at long in omega (arith, front, long')
  behind_past n s past log false is p long =
      let same : said n (up_to n s log) ≡ said n past = ap (said n) (up_to_here n s past log is p) ∙ (said-append n past (Mark n s ∷ []) ∙ append-nil (said n past)) in
      rw same at long

  -- who takes a marker of its joined incarnation is up
  pub marker_up : (a b : End M) (e s : ℕ) → LinkFacts a b → IsNext a b (Mark e s) → a.phase ≡ Joined → e ≡ greatest_dial a.appended → is_up a ≡ true
  marker_up a b e s p is j here =
      let longer : IsPrefix (a.taken ++ Mark e s ∷ []) b.appended = prefix_next a.taken b.appended (Mark e s) p.good.front is in
      let found : has_mark e s b.appended ≡ true = has_front e s (a.taken ++ Mark e s ∷ []) b.appended longer (has-append e s a.taken (Mark e s ∷ []) ∙ last_true (has_mark e s a.taken) (is_mark {M = M} e s (Mark e s)) (mark_is e s)) in
      let m = p.marks_back.behind e s found in
      let past : 1 < length (said e a.taken) = behind_past e s a.taken b.appended (has_mark e s a.taken) refl longer m.0 in
      let used : 1 < length (said (greatest_dial a.appended) a.used) = rw (p.good.whole j, ← here) past in
      let told : 1 < length (said (greatest_dial a.appended) a.appended) = rw (← here) m.1 in
      is_up_of a (record { joined = j; used = used; told = told })
    where
      last_true : (b c : Bool) → c ≡ true → cond b true (cond c true false) ≡ true
      last_true true c h = refl
      last_true false c h = rw h refl

  abbrev pub IsLow : Recorder M → Type 0
  IsLow x = (s : ℕ) → x.unfinished ≡ Some s → s ≤ x.last

  ignored_low : (u : ℕ) (x : Recorder M) (far : ℕ → End M) (linked : ℕ → Bool) (v e s : ℕ) → MayAct u x far linked (IgnoresMarker v e s) → LinkFacts (x.ends v) (far v) → (x.ends v).phase ≡ Joined → e ≡ greatest_dial (x.ends v).appended → s ≤ x.last
  ignored_low u x far linked v e s can p j here =
      elim can.2 [
        | inl down ↦ absurd (cc (down, marker_up (x.ends v) (far v) e s p can.1 j here))
        | inr rest ↦ elim rest [ inl other ↦ absurd (other here) | inr old ↦ old.0 ]
      ]

  pub local_by_act : (u : ℕ) (x : Recorder M) (far : ℕ → End M) (linked : ℕ → Bool) (d : Act M) → MayAct u x far linked d → IsLow x → ((v : ℕ) → u ≢ v → LinkFacts (x.ends v) (far v))
      → ((v : ℕ) → u ≢ v → CopyFacts x.copy x.last v (x.ends v))
      → (y : ℕ) → u ≢ y → CopyFacts (recorder_after x d).copy (recorder_after x d).last y ((recorder_after x d).ends y)
  local_by_act u x far linked (Moves v act) can low p l y apart = put_case (λ i a. CopyFacts x.copy x.last i a) x.ends v (after (x.ends v) act) y (y == v) refl (local_act x.copy x.last v (x.ends v) (far v) act can.1 can.2 (p v can.0) (l v can.0)) (l y apart)
  local_by_act u x far linked (EndsChannel v e s) can low p l y apart =
      put_case (λ i a. CopyFacts x.copy x.last i a) x.ends v (taking (x.ends v) (Mark e s)) y (y == v) refl (local_mark_taken x.copy x.last v (x.ends v) e s (λ j h. low s can.4) (l v can.0)) (l y apart)
  local_by_act u x far linked (IgnoresMarker v e s) can low p l y apart =
      put_case (λ i a. CopyFacts x.copy x.last i a) x.ends v (taking (x.ends v) (Mark e s)) y (y == v) refl
      (local_mark_taken x.copy x.last v (x.ends v) e s (λ j h. ignored_low u x far linked v e s can (p v can.0) j h) (l v can.0)) (l y apart)
  local_by_act u x far linked (Begins s whole) can low p l y apart =
      local_mark_if x.copy s y (x.ends y) (λ z. marked s (x.ends z)) (is_up (x.ends y)) refl (fresh_copy x.copy x.last s y (x.ends y) can.0 (l y apart)) (weaken x.copy x.last s y (x.ends y) (omega arith) (l y apart))
  local_by_act u x far linked (Follows v e s whole) can low p l y apart =
      let ends : ℕ → End M = with_end x.ends v (taking (x.ends v) (Mark e s)) in
      let up : x.last ≤ s = (let k = can.4 in omega arith) in
      local_mark_if x.copy s y (ends y) (λ z. marked s (ends z)) (is_up (ends y)) refl (fresh_copy x.copy x.last s y (x.ends y) can.4 (l y apart))
      (put_case (λ i a. CopyFacts x.copy s i a) x.ends v (taking (x.ends v) (Mark e s)) y (y == v) refl
      (local_mark_taken x.copy s v (x.ends v) e s (λ j h. omega arith) (weaken x.copy x.last s v (x.ends v) up (l v can.0)))
      (weaken x.copy x.last s y (x.ends y) up (l y apart)))
  local_by_act u x far linked (Finishes s) can low p l y apart = l y apart

  pub unfinished_was : (b : Bool) (act : Move M) (n : Option ℕ) (s : ℕ) → unfinished_after b act n ≡ Some s → n ≡ Some s
  unfinished_was b Dials n s h = h
  unfinished_was b (Tells m) n s h = h
  unfinished_was b (Marks k) n s h = h
  unfinished_was true HangsUp n s h = absurd cc
  unfinished_was false HangsUp n s h = h
  unfinished_was b (Takes x) n s h = h

pub whole_was : (b : Bool) (s n : ℕ) → cond b (Some s) None ≡ Some n → (b ≡ true) × (s ≡ n)
whole_was true s n h = (refl, cc)
whole_was false s n h = absurd cc

module _ {M : Type 0} where
  pub low_by_act : (x : Recorder M) (d : Act M) → IsLow x → IsLow (recorder_after x d)
  low_by_act x (Moves v act) low s h = low s (unfinished_was (is_up (x.ends v)) act x.unfinished s h)
  low_by_act x (EndsChannel v e k) low s h = low s h
  low_by_act x (IgnoresMarker v e k) low s h = low s h
  low_by_act x (Begins k whole) low s h = (let w = whole_was whole k s h in omega (arith, w.1))
  low_by_act x (Follows v e k whole) low s h = (let w = whole_was whole k s h in omega (arith, w.1))
  low_by_act x (Finishes k) low s h = absurd cc

  -- what holds of an unfinished recording of s at u, of the channel from v
  pub record ChannelFacts (copy other : Copies M) (u v s : ℕ) (a : End M) (waits : Bool) (ms : List M) : Type 0 where
    pub c : ℕ → End M
    pub is : copy s ≡ Some c
    pub number : greatest_dial (c v).appended ≡ greatest_dial a.appended
    pub up : is_up a ≡ true
    pub c_up : is_up (c v) ≡ true
    pub c_whole : said (greatest_dial (c v).appended) (c v).used ≡ said (greatest_dial (c v).appended) (c v).taken
    pub waiting : waits ≡ true → (has_mark (greatest_dial a.appended) s a.taken ≡ false) × (said (greatest_dial a.appended) a.taken ≡ said (greatest_dial a.appended) (c v).taken ++ ms)
    pub closed : waits ≡ false → IsChannel copy other u v s ms

joins_joined : (b : Bool) (p : Phase) → p ≡ Joined → cond b (phase_joining p) p ≡ Joined
joins_joined true Closed h = h
joins_joined true Offered h = refl
joins_joined true Joined h = refl
joins_joined false p h = h

module _ {M : Type 0} where
  uses_length : (b : Bool) (n e : ℕ) (m : M) (used : List (Entry M)) → length (said n used) ≤ length (said n (cond b (used ++ Says e m ∷ []) used))
  uses_length true n e m used = prefix_length (said n used) (said n (used ++ Says e m ∷ [])) (said_front n used (used ++ Says e m ∷ []) (Says e m ∷ [], refl))
  uses_length false n e m used = omega arith

  uses_joined : (p : Phase) (n e : ℕ) (m : M) (used : List (Entry M)) → p ≡ Joined → length (said n used) ≤ length (said n (used_with p n e m used))
  uses_joined Closed n e m used h = absurd cc
  uses_joined Offered n e m used h = absurd cc
  uses_joined Joined n e m used h = uses_length (n == e) n e m used

  -- a session stays up until it hangs up
  pub up_act : (a b : End M) (x : Move M) → IsPlain x → May a b x → (x ≡ HangsUp → ⊥) → Up a → Up (after a x) × (greatest_dial (after a x).appended ≡ greatest_dial a.appended)
  up_act a b Dials plain may stay up = absurd (may.0 up.joined)
  up_act a b (Tells m) plain may stay up =
      let same : greatest_dial (a.appended ++ Says (greatest_dial a.appended) m ∷ []) ≡ greatest_dial a.appended = omega (arith, greatest_dial-append a.appended (Says (greatest_dial a.appended) m ∷ [])) in
      let longer = prefix_length (said (greatest_dial a.appended) a.appended) (said (greatest_dial a.appended) (a.appended ++ Says (greatest_dial a.appended) m ∷ [])) (said_front (greatest_dial a.appended) a.appended (a.appended ++ Says (greatest_dial a.appended) m ∷ []) (Says (greatest_dial a.appended) m ∷ [], refl)) in
      let told = up.told in
      (record { joined = up.joined; used = rw same up.used; told = rw same (omega (arith, longer, told)) }, same)
  up_act a b (Marks s) plain may stay up = absurd plain
  up_act a b HangsUp plain may stay up = absurd (stay refl)
  up_act a b (Takes (Dial e)) plain may stay up = (record { joined = joins_joined (nat_lt (greatest_dial a.taken) e && (e == greatest_dial a.appended)) a.phase up.joined; used = up.used; told = up.told }, refl)
  up_act a b (Takes (Says e m)) plain may stay up =
      let longer = uses_joined a.phase (greatest_dial a.appended) e m a.used up.joined in let used = up.used in
      (record { joined = up.joined; used = omega (arith, longer, used); told = up.told }, refl)
  up_act a b (Takes (Mark e s)) plain may stay up = absurd plain
  up_act a b (Takes (Shut e)) plain may stay up = (record { joined = up.joined; used = up.used; told = up.told }, refl)

  said_nothing : (n : ℕ) (past : List (Entry M)) (x : Entry M) → said n (x ∷ []) ≡ [] → said n (past ++ x ∷ []) ≡ said n past ++ []
  said_nothing n past x e = said-append n past (x ∷ []) ∙ ap (λ w. said n past ++ w) e

  joined_used : (p : Phase) (b : Bool) (m : M) → p ≡ Joined → cond (is_joined p && b) (m ∷ []) [] ≡ cond b (m ∷ []) []
  joined_used Closed b m h = absurd cc
  joined_used Offered b m h = absurd cc
  joined_used Joined b m h = refl

  -- what an act uses while the session is up is what it takes of the incarnation
  taken_used : (a b : End M) (x : Move M) → IsPlain x → May a b x → Up a → said (greatest_dial a.appended) (after a x).taken ≡ said (greatest_dial a.appended) a.taken ++ used_by a x
  taken_used a b Dials plain may up = sym (append-nil (said (greatest_dial a.appended) a.taken))
  taken_used a b (Tells m) plain may up = sym (append-nil (said (greatest_dial a.appended) a.taken))
  taken_used a b (Marks s) plain may up = absurd plain
  taken_used a b HangsUp plain may up = sym (append-nil (said (greatest_dial a.appended) a.taken))
  taken_used a b (Takes (Dial e)) plain may up = said_nothing (greatest_dial a.appended) a.taken (Dial e) refl
  taken_used a b (Takes (Says e m)) plain may up =
      said-append (greatest_dial a.appended) a.taken (Says e m ∷ []) ∙ ap (λ w. said (greatest_dial a.appended) a.taken ++ w) (sym (joined_used a.phase (greatest_dial a.appended == e) m up.joined))
  taken_used a b (Takes (Mark e s)) plain may up = absurd plain
  taken_used a b (Takes (Shut e)) plain may up = said_nothing (greatest_dial a.appended) a.taken (Shut e) refl

  pub no_new_mark : (n s : ℕ) (past : List (Entry M)) (x : Entry M) → has_mark n s (x ∷ []) ≡ false → has_mark n s past ≡ false → has_mark n s (past ++ x ∷ []) ≡ false
  no_new_mark n s past x absent h = has-append n s past (x ∷ []) ∙ rw h absent

  plain_mark : (a : End M) (n s : ℕ) (x : Move M) → IsPlain x → has_mark n s a.taken ≡ false → has_mark n s (after a x).taken ≡ false
  plain_mark a n s Dials plain h = h
  plain_mark a n s (Tells m) plain h = h
  plain_mark a n s (Marks k) plain h = absurd plain
  plain_mark a n s HangsUp plain h = h
  plain_mark a n s (Takes (Dial e)) plain h = no_new_mark n s a.taken (Dial e) refl h
  plain_mark a n s (Takes (Says e m)) plain h = no_new_mark n s a.taken (Says e m) refl h
  plain_mark a n s (Takes (Mark e k)) plain h = absurd plain
  plain_mark a n s (Takes (Shut e)) plain h = no_new_mark n s a.taken (Shut e) refl h

  -- the channel goes on recording, or was closed
  pub act_case : (copy other : Copies M) (u v s : ℕ) (a b : End M) (w : Bool) (ms : List M) (x : Move M) → IsPlain x → May a b x → (x ≡ HangsUp → ⊥)
      → ChannelFacts copy other u v s a w ms → ChannelFacts copy other u v s (after a x) w (cond w (ms ++ used_by a x) ms)
  act_case copy other u v s a b true ms x plain may stay r =
      let up = up_is a r.up in
      let then = up_act a b x plain may stay up in
      let was = r.waiting refl in
      let taken : said (greatest_dial a.appended) (after a x).taken ≡ said (greatest_dial a.appended) (r.c v).taken ++ (ms ++ used_by a x) =
      taken_used a b x plain may up ∙ (ap (λ w. w ++ used_by a x) was.1 ∙ append_assoc (said (greatest_dial a.appended) (r.c v).taken) ms (used_by a x)) in
      record {
        c = r.c;
        is = r.is;
        number = r.number ∙ sym then.1;
        up = is_up_of (after a x) then.0;
        c_up = r.c_up;
        c_whole = r.c_whole;
        waiting = λ h. rw then.1 (plain_mark a (greatest_dial a.appended) s x plain was.0, taken);
        closed = λ h. absurd cc;
      }
  act_case copy other u v s a b false ms x plain may stay r =
      let then = up_act a b x plain may stay (up_is a r.up) in
      record {
        c = r.c;
        is = r.is;
        number = r.number ∙ sym then.1;
        up = is_up_of (after a x) then.0;
        c_up = r.c_up;
        c_whole = r.c_whole;
        waiting = λ h. absurd cc;
        closed = r.closed;
      }

  -- a session that hangs up ends the recording
  pub no_hang : (up : Bool) (x : Move M) (now : Option ℕ) (s : ℕ) → up ≡ true → unfinished_after up x now ≡ Some s → x ≡ HangsUp → ⊥
  no_hang true x now s is h e = cc (h, ap (λ y. unfinished_after true y now) e)
  no_hang false x now s is h e = cc (is)

  pub keep_channel : (copy copy' other other' : Copies M) (u v s : ℕ) (ms : List M) → ((c : ℕ → End M) → copy s ≡ Some c → copy' s ≡ Some c) → ((c : ℕ → End M) → other s ≡ Some c → other' s ≡ Some c)
      → IsChannel copy other u v s ms → IsChannel copy' other' u v s ms
  keep_channel copy copy' other other' u v s ms k l h = (h.0, h.1, k h.0 h.2, l h.1 h.3, h.4, h.5, h.6, h.7)

  -- the marker of s closes the channel: the peer recorded there
  pub channel_closes : (copy other : Copies M) (last u v s : ℕ) (a b : End M) (c : ℕ → End M) (ms : List M) → LinkFacts a b → IsNext a b (Mark (greatest_dial a.appended) s) → CopyFacts other last u b
      → copy s ≡ Some c → greatest_dial (c v).appended ≡ greatest_dial a.appended → IsPrefix (c v).taken (a.taken ++ Mark (greatest_dial a.appended) s ∷ []) → has_mark (greatest_dial a.appended) s a.taken ≡ false
      → said (greatest_dial a.appended) (a.taken ++ Mark (greatest_dial a.appended) s ∷ []) ≡ said (greatest_dial a.appended) (c v).taken ++ ms
      → is_up (c v) ≡ true → said (greatest_dial (c v).appended) (c v).used ≡ said (greatest_dial (c v).appended) (c v).taken
      → IsChannel copy other u v s ms
  channel_closes copy other last u v s a b c ms p is l here number front absent taken up whole =
      let longer : IsPrefix (a.taken ++ Mark (greatest_dial a.appended) s ∷ []) b.appended = prefix_next a.taken b.appended (Mark (greatest_dial a.appended) s) p.good.front is in
      let found : has_mark (greatest_dial a.appended) s b.appended ≡ true = has_front (greatest_dial a.appended) s (a.taken ++ Mark (greatest_dial a.appended) s ∷ []) b.appended longer (has-append (greatest_dial a.appended) s a.taken (Mark (greatest_dial a.appended) s ∷ []) ∙ rw (absent, mark_is (greatest_dial a.appended) s) refl) in
      let m = l.marks (greatest_dial a.appended) s found in
      let log : (m.0 u).appended ≡ a.taken ++ Mark (greatest_dial a.appended) s ∷ [] = m.2 ∙ up_to_here (greatest_dial a.appended) s a.taken b.appended absent longer in
      (c, m.0, here, m.1, number ∙ sym m.3, subst (λ w. IsPrefix (c v).taken w) (sym log) front, rw (whole, number, log) taken, up)
