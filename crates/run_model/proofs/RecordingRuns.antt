-- What holds of recordings in a whole run.
use Rattle.std.proofs.Common.{◌≡◌, ◌≢◌, ℕ, ◌<◌, ◌==◌, Bool, true, false, not, cond, List, [], ◌∷◌, ◌++◌, length, Some, None, refl, ap, sym, ◌∙◌, arith, subst, inl, inr}
use Rattle.run_model.specs.Links.{new_end, Mark, greatest_dial, said, End, Move, Marks, taking, after, May, is_up}
use Rattle.run_model.specs.Recordings.{Recorder, Act, Moves, EndsChannel, IgnoresMarker, Begins, Follows, Finishes, with_end, marked, used_by, unfinished_after, recorder_after, IsPlain, IsNext, MayAct, Recorders, RecordingStep, stepped, IsRecordingRun, recorders_after, first_recorders, Copies, IsChannel, IsConsistentCut}
use Rattle.run_model.proofs.EntryLists.{greatest_dial-append, said-append, prefix_same, prefix_push, said_front}
use Rattle.run_model.proofs.LinkFacts.{EndFacts}
use Rattle.run_model.proofs.MarkerFacts.{MarkerFacts, prefix_length, has_mark, mark_which, up_is, is_up_of}
use Rattle.run_model.proofs.RecordingFacts.{LinkFacts, swap, CopyFacts, ChannelFacts, act_case, no_hang, keep_channel, channel_closes, with_copy, keeps, new_copy, fresh_copy, whole_was, unfinished_was, IsLow, low_by_act, local_by_act, pair_by_act, no_new_mark}
use Rattle.std.proofs.lemmas.List.{append-nil}
use Rattle.std.proofs.lemmas.Bool.Decides.{nat_tests}

module _ {M : Type 0} where
  pub record PeerFacts (x : Recorder M) (other : Copies M) (u v : ℕ) : Type 0 where
    pub rec : (s : ℕ) → x.unfinished ≡ Some s → ChannelFacts x.copy other u v s (x.ends v) (x.waits v) (x.channel v)
    pub parts : (s : ℕ) (ch : ℕ → List M) → x.part s ≡ Some ch → IsChannel x.copy other u v s (ch v)

same_number : (b : Bool) (y v : ℕ) → (y == v) ≡ b → b ≡ true → y ≡ v
same_number true y v is h = grind (arith, nat_tests, is)
same_number false y v is h = absurd cc

module _ {M : Type 0} where
  moves_channel : (u : ℕ) (x : Recorder M) (far : ℕ → End M) (other : ℕ → Copies M) (v : ℕ) (act : Move M) (y s : ℕ) (b : Bool) → (y == v) ≡ b → IsPlain act → May (x.ends v) (far v) act → unfinished_after (is_up (x.ends v)) act x.unfinished ≡ Some s
      → ChannelFacts x.copy (other y) u y s (x.ends y) (x.waits y) (x.channel y)
      → ChannelFacts x.copy (other y) u y s (cond b (after (x.ends v) act) (x.ends y)) (x.waits y) (cond b (cond (x.waits y) (x.channel y ++ used_by (x.ends v) act) (x.channel y)) (x.channel y))
  moves_channel u x far other v act y s true is plain may now r =
      let same : y ≡ v = grind (arith, nat_tests, is) in
      let rv : ChannelFacts x.copy (other v) u v s (x.ends v) (x.waits v) (x.channel v) = subst (λ i. ChannelFacts x.copy (other i) u i s (x.ends i) (x.waits i) (x.channel i)) same r in
      subst (λ i. ChannelFacts x.copy (other i) u i s (after (x.ends v) act) (x.waits i) (cond (x.waits i) (x.channel i ++ used_by (x.ends v) act) (x.channel i))) (sym same)
      (act_case x.copy (other v) u v s (x.ends v) (far v) (x.waits v) (x.channel v) act plain may (no_hang (is_up (x.ends v)) act x.unfinished s rv.up now) rv)
  moves_channel u x far other v act y s false is plain may now r = r

  -- the end took a marker that it ignores, or that closes
  ends_at : (copy other : Copies M) (lo last u v s e : ℕ) (a b : End M) (ms : List M) → LinkFacts a b → IsNext a b (Mark e s) → e ≡ greatest_dial a.appended → CopyFacts other lo u b → CopyFacts copy last v a
      → ChannelFacts copy other u v s a true ms → ChannelFacts copy other u v s (taking a (Mark e s)) false ms
  ends_at copy other lo last u v s e a b ms p is here lb la r =
      let next : IsNext a b (Mark (greatest_dial a.appended) s) = rw (← here) is in
      let was = r.waiting refl in
      let taken : said (greatest_dial a.appended) (a.taken ++ Mark (greatest_dial a.appended) s ∷ []) ≡ said (greatest_dial a.appended) (r.c v).taken ++ ms =
      said-append (greatest_dial a.appended) a.taken (Mark (greatest_dial a.appended) s ∷ []) ∙ (append-nil (said (greatest_dial a.appended) a.taken) ∙ was.1) in
      record {
        c = r.c;
        is = r.is;
        number = r.number;
        up = r.up;
        c_up = r.c_up;
        c_whole = r.c_whole;
        waiting = λ h. absurd cc;
        closed = λ h. channel_closes copy other lo u v s a b r.c ms p next lb r.is r.number (prefix_push (r.c v).taken a.taken (Mark (greatest_dial a.appended) s ∷ []) (la.copied s r.c r.is).1) was.0 taken r.c_up r.c_whole;
      }

  ends_channel : (u : ℕ) (x : Recorder M) (far : ℕ → End M) (linked : ℕ → Bool) (other : ℕ → Copies M) (unfinished_stays : ℕ → ℕ) (v e k y s : ℕ) (b : Bool) → (y == v) ≡ b → MayAct u x far linked (EndsChannel v e k) → x.unfinished ≡ Some s
      → LinkFacts (x.ends v) (far v) → CopyFacts (other v) (unfinished_stays v) u (far v) → CopyFacts x.copy x.last v (x.ends v)
      → ChannelFacts x.copy (other y) u y s (x.ends y) (x.waits y) (x.channel y)
      → ChannelFacts x.copy (other y) u y s (cond b (taking (x.ends v) (Mark e k)) (x.ends y)) (cond b false (x.waits y)) (x.channel y)
  ends_channel u x far linked other unfinished_stays v e k y s true is can now p lb la r =
      let same : y ≡ v = grind (arith, nat_tests, is) in
      let number : k ≡ s = cc (can.4, now) in
      let rv : ChannelFacts x.copy (other v) u v s (x.ends v) (x.waits v) (x.channel v) = subst (λ i. ChannelFacts x.copy (other i) u i s (x.ends i) (x.waits i) (x.channel i)) same r in
      let rw' : ChannelFacts x.copy (other v) u v k (x.ends v) true (x.channel v) = subst (λ i. ChannelFacts x.copy (other v) u v i (x.ends v) true (x.channel v)) (sym number) (subst (λ w. ChannelFacts x.copy (other v) u v s (x.ends v) w (x.channel v)) can.5 rv) in
      let then : ChannelFacts x.copy (other v) u v k (taking (x.ends v) (Mark e k)) false (x.channel v) = ends_at x.copy (other v) (unfinished_stays v) x.last u v k e (x.ends v) (far v) (x.channel v) p can.1 can.3 lb la rw' in
      subst (λ i. ChannelFacts x.copy (other i) u i s (taking (x.ends v) (Mark e k)) false (x.channel i)) (sym same)
      (subst (λ i. ChannelFacts x.copy (other v) u v i (taking (x.ends v) (Mark e k)) false (x.channel v)) number then)
  ends_channel u x far linked other unfinished_stays v e k y s false is can now p lb la r = r

  -- a marker that is ignored isn't the one that a waiting channel of the recording waits for
  ignored_apart : (u : ℕ) (x : Recorder M) (far : ℕ → End M) (linked : ℕ → Bool) (v e k s : ℕ) (b : Bool) → has_mark {M = M} (greatest_dial (x.ends v).appended) s (Mark e k ∷ []) ≡ b → MayAct u x far linked (IgnoresMarker v e k) → x.unfinished ≡ Some s → is_up (x.ends v) ≡ true → x.waits v ≡ true → b ≡ false
  ignored_apart u x far linked v e k s false is can now up waits = refl
  ignored_apart u x far linked v e k s true is can now up waits =
      let w = mark_which (greatest_dial (x.ends v).appended) s e k is in
      elim can.2 [
        | inl down ↦ absurd (cc (down, up))
        | inr rest ↦ elim rest [
          | inl other ↦ absurd (other (sym w.0))
          | inr old ↦ elim old.1 [ inl apart ↦ absurd (apart (cc (now, w.1))) | inr shut ↦ absurd (cc (shut, waits)) ]
        ]
      ]

  ignores_at : (copy other : Copies M) (u v s e k : ℕ) (a : End M) (w : Bool) (ms : List M) → (w ≡ true → has_mark {M = M} (greatest_dial a.appended) s (Mark e k ∷ []) ≡ false)
      → ChannelFacts copy other u v s a w ms → ChannelFacts copy other u v s (taking a (Mark e k)) w ms
  ignores_at copy other u v s e k a w ms apart r = record {
    c = r.c;
    is = r.is;
    number = r.number;
    up = r.up;
    c_up = r.c_up;
    c_whole = r.c_whole;
    waiting = λ h. (no_new_mark (greatest_dial a.appended) s a.taken (Mark e k) (apart h) (r.waiting h).0, said-append (greatest_dial a.appended) a.taken (Mark e k ∷ []) ∙ (append-nil (said (greatest_dial a.appended) a.taken) ∙ (r.waiting h).1));
    closed = r.closed;
  }

  ignores_channel : (u : ℕ) (x : Recorder M) (far : ℕ → End M) (linked : ℕ → Bool) (other : ℕ → Copies M) (v e k y s : ℕ) (b : Bool) → (y == v) ≡ b → MayAct u x far linked (IgnoresMarker v e k) → x.unfinished ≡ Some s
      → ChannelFacts x.copy (other y) u y s (x.ends y) (x.waits y) (x.channel y)
      → ChannelFacts x.copy (other y) u y s (cond b (taking (x.ends v) (Mark e k)) (x.ends y)) (x.waits y) (x.channel y)
  ignores_channel u x far linked other v e k y s true is can now r =
      let same : y ≡ v = grind (arith, nat_tests, is) in
      let rv : ChannelFacts x.copy (other v) u v s (x.ends v) (x.waits v) (x.channel v) = subst (λ i. ChannelFacts x.copy (other i) u i s (x.ends i) (x.waits i) (x.channel i)) same r in
      subst (λ i. ChannelFacts x.copy (other i) u i s (taking (x.ends v) (Mark e k)) (x.waits i) (x.channel i)) (sym same)
      (ignores_at x.copy (other v) u v s e k (x.ends v) (x.waits v) (x.channel v) (λ h. ignored_apart u x far linked v e k s (has_mark {M = M} (greatest_dial (x.ends v).appended) s (Mark e k ∷ [])) refl can now rv.up h) rv)
  ignores_channel u x far linked other v e k y s false is can now r = r

  pub up_marked : (a : End M) (s : ℕ) → is_up a ≡ true → is_up (after a (Marks s)) ≡ true
  up_marked a s up =
      let same : greatest_dial (a.appended ++ Mark (greatest_dial a.appended) s ∷ []) ≡ greatest_dial a.appended = omega (arith, greatest_dial-append a.appended (Mark (greatest_dial a.appended) s ∷ [])) in
      let longer = prefix_length (said (greatest_dial a.appended) a.appended) (said (greatest_dial a.appended) (a.appended ++ Mark (greatest_dial a.appended) s ∷ [])) (said_front (greatest_dial a.appended) a.appended (a.appended ++ Mark (greatest_dial a.appended) s ∷ []) (Mark (greatest_dial a.appended) s ∷ [], refl)) in
      let facts = up_is a up in
      let told : 1 < length (said (greatest_dial a.appended) (a.appended ++ Mark (greatest_dial a.appended) s ∷ [])) = (let t = facts.told in omega (arith, t, longer)) in
      is_up_of (after a (Marks s)) (record { joined = facts.joined; used = rw same facts.used; told = rw same told })

  pub whole_marked : (a : End M) (s : ℕ) → said (greatest_dial a.appended) a.used ≡ said (greatest_dial a.appended) a.taken → said (greatest_dial (after a (Marks s)).appended) (after a (Marks s)).used ≡ said (greatest_dial (after a (Marks s)).appended) (after a (Marks s)).taken
  whole_marked a s whole =
      let same : greatest_dial (a.appended ++ Mark (greatest_dial a.appended) s ∷ []) ≡ greatest_dial a.appended = omega (arith, greatest_dial-append a.appended (Mark (greatest_dial a.appended) s ∷ [])) in rw same whole

  -- a new recording
  record_new : (copy other : Copies M) (u y s : ℕ) (a : End M) (d : ℕ → End M) (w : Bool) → d y ≡ marked s a → is_up a ≡ true → said (greatest_dial a.appended) a.used ≡ said (greatest_dial a.appended) a.taken → (w ≡ true → has_mark (greatest_dial a.appended) s a.taken ≡ false) → (w ≡ false → IsChannel (with_copy copy s d) other u y s [])
      → ChannelFacts (with_copy copy s d) other u y s (marked s a) w []
  record_new copy other u y s a d w dy up whole absent closed =
      let m : marked s a ≡ after a (Marks s) = ap (λ h. cond h (after a (Marks s)) a) up in
      let log : (d y).appended ≡ a.appended ++ Mark (greatest_dial a.appended) s ∷ [] = ap (λ (i : End M). i.appended) (dy ∙ m) in
      let past : (d y).taken ≡ a.taken = ap (λ (i : End M). i.taken) (dy ∙ m) in
      let same : greatest_dial (a.appended ++ Mark (greatest_dial a.appended) s ∷ []) ≡ greatest_dial a.appended = omega (arith, greatest_dial-append a.appended (Mark (greatest_dial a.appended) s ∷ [])) in
      let up' = up_marked a s up in
      let whole' = whole_marked a s whole in
      let is' : d y ≡ after a (Marks s) = dy ∙ m in
      let then : ChannelFacts (with_copy copy s d) other u y s (after a (Marks s)) w [] = record {
        c = d;
        is = new_copy copy s d;
        number = ap greatest_dial log;
        up = up';
        c_up = subst (λ i. is_up i ≡ true) (sym is') up';
        c_whole = subst (λ i. said (greatest_dial i.appended) i.used ≡ said (greatest_dial i.appended) i.taken) (sym is') whole';
        waiting = λ h. (rw same (absent h), rw (same, past) (sym (append-nil (said (greatest_dial a.appended) a.taken))));
        closed = closed;
      } in
      subst (λ i. ChannelFacts (with_copy copy s d) other u y s i w []) (sym m) then

  -- no marker of a number above all recorded was taken
  unmarked : (copy : Copies M) (last v s : ℕ) (a : End M) (b : Bool) → has_mark (greatest_dial a.appended) s a.taken ≡ b → last < s → is_up a ≡ true → CopyFacts copy last v a → b ≡ false
  unmarked copy last v s a false is above up l = refl
  unmarked copy last v s a true is above up l = let k = l.obeyed s (up_is a up).joined is in absurd (omega (arith, k, above))

  begins_channel : (u : ℕ) (x : Recorder M) (far : ℕ → End M) (linked : ℕ → Bool) (other : ℕ → Copies M) (k y s : ℕ) (whole : Bool) → MayAct u x far linked (Begins k whole) → linked y ≡ true → cond whole (Some k) None ≡ Some s
      → EndFacts (x.ends y) (far y) → CopyFacts x.copy x.last y (x.ends y) → ChannelFacts (with_copy x.copy k (λ z. marked k (x.ends z))) (other y) u y s (marked k (x.ends y)) true []
  begins_channel u x far linked other k y s whole can link now g l =
      let w = whole_was whole k s now in
      let up : is_up (x.ends y) ≡ true = can.1 w.0 y link in
      subst (λ i. ChannelFacts (with_copy x.copy k (λ z. marked k (x.ends z))) (other y) u y i (marked k (x.ends y)) true []) w.1
      (record_new x.copy (other y) u y k (x.ends y) (λ z. marked k (x.ends z)) true refl up (g.whole (up_is (x.ends y) up).joined) (λ h. unmarked x.copy x.last y k (x.ends y) (has_mark (greatest_dial (x.ends y).appended) k (x.ends y).taken) refl can.0 up l) (λ h. absurd cc))

  taking_whole : (a b : End M) (e s : ℕ) → EndFacts a b → is_up a ≡ true → said (greatest_dial a.appended) a.used ≡ said (greatest_dial a.appended) (a.taken ++ Mark e s ∷ [])
  taking_whole a b e s g up = g.whole (up_is a up).joined ∙ sym (said-append (greatest_dial a.appended) a.taken (Mark e s ∷ []) ∙ append-nil (said (greatest_dial a.appended) a.taken))

  -- the channel over which the first marker came
  first_channel : (copy other : Copies M) (lo u v s e : ℕ) (last : ℕ) (a b : End M) (d : ℕ → End M) → d v ≡ marked s (taking a (Mark e s)) → LinkFacts a b → IsNext a b (Mark e s) → is_up a ≡ true → e ≡ greatest_dial a.appended → last < s
      → CopyFacts copy last v a → CopyFacts other lo u b → IsChannel (with_copy copy s d) other u v s []
  first_channel copy other lo u v s e last a b d dv p is up here above l lb =
      let m : d v ≡ after (taking a (Mark e s)) (Marks s) = dv ∙ ap (λ h. cond h (after (taking a (Mark e s)) (Marks s)) (taking a (Mark e s))) up in
      let log : (d v).appended ≡ a.appended ++ Mark (greatest_dial a.appended) s ∷ [] = ap (λ (i : End M). i.appended) m in
      let past : (d v).taken ≡ a.taken ++ Mark (greatest_dial a.appended) s ∷ [] = ap (λ (i : End M). i.taken) m ∙ ap (λ i. a.taken ++ Mark i s ∷ []) here in
      let same : greatest_dial (a.appended ++ Mark (greatest_dial a.appended) s ∷ []) ≡ greatest_dial a.appended = omega (arith, greatest_dial-append a.appended (Mark (greatest_dial a.appended) s ∷ [])) in
      let next : IsNext a b (Mark (greatest_dial a.appended) s) = rw (← here) is in
      channel_closes (with_copy copy s d) other lo u v s a b d [] p next lb (new_copy copy s d) (ap greatest_dial log ∙ same) (prefix_same (d v).taken (a.taken ++ Mark (greatest_dial a.appended) s ∷ []) past)
      (unmarked copy last v s a (has_mark (greatest_dial a.appended) s a.taken) refl above up l) (rw past (sym (append-nil (said (greatest_dial a.appended) (a.taken ++ Mark (greatest_dial a.appended) s ∷ [])))))
      (subst (λ i. is_up i ≡ true) (sym m) (up_marked (taking a (Mark e s)) s up))
      (subst (λ i. said (greatest_dial i.appended) i.used ≡ said (greatest_dial i.appended) i.taken) (sym m) (whole_marked (taking a (Mark e s)) s (taking_whole a b e s p.good up)))

  follows_case : (u : ℕ) (x : Recorder M) (far : ℕ → End M) (linked : ℕ → Bool) (other : ℕ → Copies M) (unfinished_stays : ℕ → ℕ) (v e k : ℕ) (whole : Bool) (d : ℕ → End M) (y : ℕ) (b : Bool) → (y == v) ≡ b → MayAct u x far linked (Follows v e k whole) → whole ≡ true → linked y ≡ true
      → d y ≡ marked k (cond b (taking (x.ends v) (Mark e k)) (x.ends y)) → LinkFacts (x.ends v) (far v) → EndFacts (x.ends y) (far y) → CopyFacts x.copy x.last v (x.ends v) → CopyFacts x.copy x.last y (x.ends y) → CopyFacts (other v) (unfinished_stays v) u (far v)
      → ChannelFacts (with_copy x.copy k d) (other y) u y k (marked k (cond b (taking (x.ends v) (Mark e k)) (x.ends y))) (not b) []
  follows_case u x far linked other unfinished_stays v e k whole d y true is can w link dy p g lv ly lb =
      let same : y ≡ v = grind (arith, nat_tests, is) in
      let dv : d v ≡ marked k (taking (x.ends v) (Mark e k)) = subst (λ i. d i ≡ marked k (taking (x.ends v) (Mark e k))) same dy in
      subst (λ i. ChannelFacts (with_copy x.copy k d) (other i) u i k (marked k (taking (x.ends v) (Mark e k))) false []) (sym same)
      (record_new x.copy (other v) u v k (taking (x.ends v) (Mark e k)) d false dv can.2 (taking_whole (x.ends v) (far v) e k p.good can.2) (λ h. absurd cc)
      (λ h. first_channel x.copy (other v) (unfinished_stays v) u v k e x.last (x.ends v) (far v) d dv p can.1 can.2 can.3 can.4 lv lb))
  follows_case u x far linked other unfinished_stays v e k whole d y false is can w link dy p g lv ly lb =
      let up : is_up (x.ends y) ≡ true = can.5 w y link in
      record_new x.copy (other y) u y k (x.ends y) d true dy up (g.whole (up_is (x.ends y) up).joined) (λ h. unmarked x.copy x.last y k (x.ends y) (has_mark (greatest_dial (x.ends y).appended) k (x.ends y).taken) refl can.4 up ly) (λ h. absurd cc)

  part_case : (u : ℕ) (x : Recorder M) (other : ℕ → Copies M) (k y n : ℕ) (b : Bool) (ch : ℕ → List M) → (n == k) ≡ b → x.unfinished ≡ Some k → x.waits y ≡ false → PeerFacts x (other y) u y → cond b (Some x.channel) (x.part n) ≡ Some ch
      → IsChannel x.copy (other y) u y n (ch y)
  part_case u x other k y n true ch is now shut w h =
      let same : n ≡ k = grind (arith, nat_tests, is) in
      let chans : x.channel ≡ ch = cc in
      subst (λ i. IsChannel x.copy (other y) u y i (ch y)) (sym same) (subst (λ c. IsChannel x.copy (other y) u y k (c y)) chans ((w.rec k now).closed shut))
  part_case u x other k y n false ch is now shut w h = w.parts n ch h

  kept_copy : (copy : Copies M) (k n : ℕ) (d c : ℕ → End M) → copy k ≡ None → copy n ≡ Some c → with_copy copy k d n ≡ Some c
  kept_copy copy k n d c fresh is = keeps copy k d fresh n c is

  pub window_by_act : (u : ℕ) (x : Recorder M) (far : ℕ → End M) (linked : ℕ → Bool) (other : ℕ → Copies M) (unfinished_stays : ℕ → ℕ) (d : Act M) → MayAct u x far linked d
      → ((v : ℕ) → u ≢ v → LinkFacts (x.ends v) (far v)) → ((v : ℕ) → u ≢ v → CopyFacts x.copy x.last v (x.ends v)) → ((v : ℕ) → u ≢ v → CopyFacts (other v) (unfinished_stays v) u (far v))
      → (y : ℕ) → u ≢ y → linked y ≡ true → PeerFacts x (other y) u y → PeerFacts (recorder_after x d) (other y) u y
  window_by_act u x far linked other unfinished_stays (Moves v act) can p l f y apart link w = record {
    rec = λ s now. moves_channel u x far other v act y s (y == v) refl can.1 can.2 now (w.rec s (unfinished_was (is_up (x.ends v)) act x.unfinished s now));
    parts = w.parts;
  }
  window_by_act u x far linked other unfinished_stays (EndsChannel v e k) can p l f y apart link w = record {
    rec = λ s now. ends_channel u x far linked other unfinished_stays v e k y s (y == v) refl can now (p v can.0) (f v can.0) (l v can.0) (w.rec s now);
    parts = w.parts;
  }
  window_by_act u x far linked other unfinished_stays (IgnoresMarker v e k) can p l f y apart link w = record {
    rec = λ s now. ignores_channel u x far linked other v e k y s (y == v) refl can now (w.rec s now);
    parts = w.parts;
  }
  window_by_act u x far linked other unfinished_stays (Begins k whole) can p l f y apart link w =
      let fresh = fresh_copy x.copy x.last k y (x.ends y) can.0 (l y apart) in record {
        rec = λ s now. begins_channel u x far linked other k y s whole can link now (p y apart).good (l y apart);
        parts = λ n ch h. keep_channel x.copy (recorder_after x (Begins k whole)).copy (other y) (other y) u y n (ch y) (λ c is. kept_copy x.copy k n (λ z. marked k (x.ends z)) c fresh is) (λ c is. is) (w.parts n ch h);
      }
  window_by_act u x far linked other unfinished_stays (Follows v e k whole) can p l f y apart link w =
      let fresh = fresh_copy x.copy x.last k y (x.ends y) can.4 (l y apart) in
      let d : ℕ → End M = λ z. marked k (with_end x.ends v (taking (x.ends v) (Mark e k)) z) in record {
        rec = λ s now. (let h = whole_was whole k s now in
            subst (λ i. ChannelFacts (with_copy x.copy k d) (other y) u y i (d y) (not (y == v)) []) h.1
            (follows_case u x far linked other unfinished_stays v e k whole d y (y == v) refl can h.0 link refl (p v can.0) (p y apart).good (l v can.0) (l y apart) (f v can.0)));
        parts = λ n ch h. keep_channel x.copy (with_copy x.copy k d) (other y) (other y) u y n (ch y) (λ c is. kept_copy x.copy k n d c fresh is) (λ c is. is) (w.parts n ch h);
      }
  window_by_act u x far linked other unfinished_stays (Finishes k) can p l f y apart link w = record {
    rec = λ s now. absurd cc;
    parts = λ n ch h. part_case u x other k y n (n == k) ch refl can.0 (can.1 y link) w h;
  }

  -- a router's copies stay
  pub copies_stay : (u : ℕ) (x : Recorder M) (far : ℕ → End M) (linked : ℕ → Bool) (d : Act M) (v : ℕ) → MayAct u x far linked d → CopyFacts x.copy x.last v (x.ends v) → (s : ℕ) (c : ℕ → End M) → x.copy s ≡ Some c → (recorder_after x d).copy s ≡ Some c
  copies_stay u x far linked (Moves w act) v can l s c is = is
  copies_stay u x far linked (EndsChannel w e k) v can l s c is = is
  copies_stay u x far linked (IgnoresMarker w e k) v can l s c is = is
  copies_stay u x far linked (Begins k whole) v can l s c is = kept_copy x.copy k s (λ z. marked k (x.ends z)) c (fresh_copy x.copy x.last k v (x.ends v) can.0 l) is
  copies_stay u x far linked (Follows w e k whole) v can l s c is = kept_copy x.copy k s (λ z. marked k (with_end x.ends w (taking (x.ends w) (Mark e k)) z)) c (fresh_copy x.copy x.last k v (x.ends v) can.4 l) is
  copies_stay u x far linked (Finishes k) v can l s c is = is

  pub window_other : (x y : Recorder M) (copy' : Copies M) (u v : ℕ) → ((s : ℕ) (c : ℕ → End M) → y.copy s ≡ Some c → copy' s ≡ Some c) → PeerFacts x y.copy u v → PeerFacts x copy' u v
  window_other x y copy' u v k w = record {
    rec = λ s now. (let r = w.rec s now in record {
      c = r.c;
      is = r.is;
      number = r.number;
      up = r.up;
      c_up = r.c_up;
      c_whole = r.c_whole;
      waiting = r.waiting;
      closed = λ h. keep_channel x.copy x.copy y.copy copy' u v s (x.channel v) (λ c i. i) (k s) (r.closed h);
    });
    parts = λ s ch h. keep_channel x.copy x.copy y.copy copy' u v s (ch v) (λ c i. i) (k s) (w.parts s ch h);
  }

  -- what holds of every state of a run
  pub record RunFacts (linked : ℕ → ℕ → Bool) (w : Recorders M) : Type 0 where
    pub pairs : (u v : ℕ) → u ≢ v → LinkFacts ((w u).ends v) ((w v).ends u)
    pub locals : (u v : ℕ) → u ≢ v → CopyFacts (w u).copy (w u).last v ((w u).ends v)
    pub low : (u : ℕ) → IsLow (w u)
    pub windows : (u v : ℕ) → u ≢ v → linked u v ≡ true → PeerFacts (w u) (w v).copy u v

  -- the router that acts is one of the two, or neither
  pair_case : (linked : ℕ → ℕ → Bool) (w : Recorders M) (o : ℕ) (d : Act M) (u v : ℕ) (b c : Bool) → (u == o) ≡ b → (v == o) ≡ c → u ≢ v → RunFacts linked w → MayAct o (w o) (λ y. (w y).ends o) (linked o) d
      → LinkFacts ((cond b (recorder_after (w u) d) (w u)).ends v) ((cond c (recorder_after (w v) d) (w v)).ends u)
  pair_case linked w o d u v true true bi ci apart h can = absurd (apart (grind (arith, nat_tests, bi, ci)))
  pair_case linked w o d u v true false bi ci apart h can =
      let same : o ≡ u = grind (arith, nat_tests, bi) in
      pair_by_act u (w u) (λ y. (w y).ends u) (linked u) d (subst (λ i. MayAct i (w i) (λ y. (w y).ends i) (linked i) d) same can) (λ y a. h.pairs u y a) v apart
  pair_case linked w o d u v false true bi ci apart h can =
      let same : o ≡ v = grind (arith, nat_tests, ci) in
      swap ((recorder_after (w v) d).ends u) ((w u).ends v)
      (pair_by_act v (w v) (λ y. (w y).ends v) (linked v) d (subst (λ i. MayAct i (w i) (λ y. (w y).ends i) (linked i) d) same can) (λ y a. h.pairs v y a) u (λ q. apart (sym q)))
  pair_case linked w o d u v false false bi ci apart h can = h.pairs u v apart

  local_case : (linked : ℕ → ℕ → Bool) (w : Recorders M) (o : ℕ) (d : Act M) (u v : ℕ) (b : Bool) → (u == o) ≡ b → u ≢ v → RunFacts linked w → MayAct o (w o) (λ y. (w y).ends o) (linked o) d
      → CopyFacts (cond b (recorder_after (w u) d) (w u)).copy (cond b (recorder_after (w u) d) (w u)).last v ((cond b (recorder_after (w u) d) (w u)).ends v)
  local_case linked w o d u v true bi apart h can =
      let same : o ≡ u = grind (arith, nat_tests, bi) in
      local_by_act u (w u) (λ y. (w y).ends u) (linked u) d (subst (λ i. MayAct i (w i) (λ y. (w y).ends i) (linked i) d) same can) (h.low u) (λ y a. h.pairs u y a) (λ y a. h.locals u y a) v apart
  local_case linked w o d u v false bi apart h can = h.locals u v apart

  low_case : (x : Recorder M) (d : Act M) (b : Bool) → IsLow x → IsLow (cond b (recorder_after x d) x)
  low_case x d true l = low_by_act x d l
  low_case x d false l = l

  window_case : (linked : ℕ → ℕ → Bool) (w : Recorders M) (o : ℕ) (d : Act M) (u v : ℕ) (b c : Bool) → (u == o) ≡ b → (v == o) ≡ c → u ≢ v → linked u v ≡ true → RunFacts linked w → MayAct o (w o) (λ y. (w y).ends o) (linked o) d
      → PeerFacts (cond b (recorder_after (w u) d) (w u)) (cond c (recorder_after (w v) d) (w v)).copy u v
  window_case linked w o d u v true true bi ci apart link h can = absurd (apart (grind (arith, nat_tests, bi, ci)))
  window_case linked w o d u v true false bi ci apart link h can =
      let same : o ≡ u = grind (arith, nat_tests, bi) in
      window_by_act u (w u) (λ y. (w y).ends u) (linked u) (λ y. (w y).copy) (λ y. (w y).last) d (subst (λ i. MayAct i (w i) (λ y. (w y).ends i) (linked i) d) same can)
      (λ y a. h.pairs u y a) (λ y a. h.locals u y a) (λ y a. h.locals y u (λ q. a (sym q))) v apart link (h.windows u v apart link)
  window_case linked w o d u v false true bi ci apart link h can =
      let same : o ≡ v = grind (arith, nat_tests, ci) in
      window_other (w u) (w v) (recorder_after (w v) d).copy u v (λ s c is. copies_stay v (w v) (λ y. (w y).ends v) (linked v) d u (subst (λ i. MayAct i (w i) (λ y. (w y).ends i) (linked i) d) same can) (h.locals v u (λ q. apart (sym q))) s c is) (h.windows u v apart link)
  window_case linked w o d u v false false bi ci apart link h can = h.windows u v apart link

  pub holds_step : (linked : ℕ → ℕ → Bool) (w : Recorders M) (m : RecordingStep M) → RunFacts linked w → MayAct m.router (w m.router) (λ y. (w y).ends m.router) (linked m.router) m.act → RunFacts linked (stepped w m)
  holds_step linked w m h can = record {
    pairs = λ u v a. pair_case linked w m.router m.act u v (u == m.router) (v == m.router) refl refl a h can;
    locals = λ u v a. local_case linked w m.router m.act u v (u == m.router) refl a h can;
    low = λ u. low_case (w u) m.act (u == m.router) (h.low u);
    windows = λ u v a link. window_case linked w m.router m.act u v (u == m.router) (v == m.router) refl refl a link h can;
  }

  pub holds_run : (linked : ℕ → ℕ → Bool) (ms : List (RecordingStep M)) (w : Recorders M) → RunFacts linked w → IsRecordingRun linked w ms → RunFacts linked (recorders_after w ms)
  holds_run linked [] w h r = h
  holds_run linked (m ∷ ms) w h r = holds_run linked ms (stepped w m) (holds_step linked w m h r.0) r.1

  empty_good : EndFacts {M = M} new_end new_end
  empty_good = record { front = ([], refl); sound = tt; joined = λ j. absurd cc; told = λ n l. refl; whole = λ j. refl; begins = λ n. ([], refl) }

  empty_marked : MarkerFacts {M = M} new_end new_end
  empty_marked = record { told = λ n s l. refl; behind = λ n s h. absurd cc }

  pub holds_start : (linked : ℕ → ℕ → Bool) → RunFacts linked (first_recorders {M = M})
  holds_start linked = record {
    pairs = λ u v a. record { good = empty_good; back = empty_good; marks = empty_marked; marks_back = empty_marked };
    locals = λ u v a. record { marks = λ e s h. absurd cc; copied = λ s c h. absurd cc; obeyed = λ s j h. absurd cc };
    low = λ u s h. absurd cc;
    windows = λ u v a l. record { rec = λ s h. absurd cc; parts = λ s ch h. absurd cc };
  }

pub consistent : {M : Type 0} → IsConsistentCut M
consistent linked steps r u v s apart link chans h = ((holds_run linked steps first_recorders (holds_start linked) r).windows u v apart link).parts s chans h
