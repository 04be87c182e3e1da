-- Entries found again in the octets that pass.
use Rattle.std.proofs.Common.{◌≡◌, ◌≢◌, ℕ, ◌<◌, ◌==◌, true, List, [], ◌∷◌, ◌++◌, length, Some, slice_get, refl, ap, sym, ◌∙◌, arith, append_assoc, subst, inl, inr, ◌⊎◌}
use mathlib.Core.List.{IsPrefix}
use Rattle.std.specs.Prelude.{max}
use Rattle.run_model.specs.Links.{Entry, Dial, Says, Mark, Shut, greatest_dial, said, End, opening, ends_after}
use Rattle.run_model.proofs.IncarnationRuns.{all_facts, joined_heard, answers_above}
use Rattle.run_model.proofs.EntryLists.{Sound, said-append}
use Rattle.std.proofs.lemmas.Bool.Decides.{nat_tests}
use Rattle.run_model.specs.Octets.{Passing, Octet, Control, octets_of, passing, OnlyOctets, OnlyMessages, AllGood, AllFrames, IsFraming, NextFrameIsNextMessage, HeldBeginsNextMessage, NextControlIsNextEntry, DroppedOctetsAreMessages, OctetsStayBeforeMark, NoStaleOctetWhileJoined, NoneDroppedBeforeAnswer}
use Rattle.std.proofs.lemmas.List.{append-nil, append_cancel_left}

pub octets_more : {M : Type 0} (e : ℕ) (xs ys : List ℕ) → octets_of {M = M} e (xs ++ ys) ≡ octets_of e xs ++ octets_of e ys
octets_more e [] ys = refl
octets_more e (x ∷ xs) ys = ap (λ w. Octet e x ∷ w) (octets_more e xs ys)

module _ {M : Type 0} where
  pub passing_more : (written : M → List ℕ) (xs ys : List (Entry M)) → passing written (xs ++ ys) ≡ passing written xs ++ passing written ys
  passing_more written [] ys = refl
  passing_more written (Dial e ∷ xs) ys = ap (λ w. Control (Dial e) ∷ w) (passing_more written xs ys)
  passing_more written (Says e m ∷ xs) ys = ap (λ w. octets_of e (written m) ++ w) (passing_more written xs ys) ∙ sym (append_assoc (octets_of e (written m)) (passing written xs) (passing written ys))
  passing_more written (Mark e s ∷ xs) ys = ap (λ w. Control (Mark e s) ∷ w) (passing_more written xs ys)
  passing_more written (Shut e ∷ xs) ys = ap (λ w. Control (Shut e) ∷ w) (passing_more written xs ys)

  -- two runs of octets at the head of one list
  pub meet : (e d : ℕ) (xs ys : List ℕ) (p q : List (Passing M)) → octets_of e xs ++ p ≡ octets_of d ys ++ q → ((t : List ℕ) × (xs ++ t ≡ ys)) ⊎ ((h : ℕ) × (t : List ℕ) × (xs ≡ ys ++ h ∷ t) × (q ≡ Octet e h ∷ (octets_of e t ++ p)))
  meet e d [] ys p q is = inl (ys, refl)
  meet e d (x ∷ xs) [] p q is = inr (x, xs, refl, sym is)
  meet e d (x ∷ xs) (y ∷ ys) p q is =
      elim (meet e d xs ys p q (cc)) [
        | inl a ↦ inl (a.0, let same : x ≡ y = cc in cc (same, a.1))
        | inr b ↦ inr (b.0, b.1, (let same : x ≡ y = cc in cc (same, b.2)), b.3)
      ]

  pub behind : (written : M → List ℕ) (past log : List (Entry M)) (p : List (Passing M)) → (front : IsPrefix past log) → IsPrefix (passing written past ++ p) (passing written log) → (q : List (Passing M)) × (p ++ q ≡ passing written front.0)
  behind written past log p front is =
      let whole : passing written past ++ (p ++ is.0) ≡ passing written past ++ passing written front.0 =
      sym (append_assoc (passing written past) p is.0) ∙ (is.1 ∙ (ap (passing written) (sym front.1) ∙ passing_more written past front.0)) in
      (is.0, append_cancel_left (passing written past) (p ++ is.0) (passing written front.0) whole)

  pub at_end : (past log : List (Entry M)) (x : Entry M) (rest : List (Entry M)) → past ++ x ∷ rest ≡ log → slice_get log (length past) ≡ Some x
  at_end [] log x rest e = ap (λ l. slice_get l 0) (sym e)
  at_end (y ∷ past) [] x rest e = absurd (cc (e))
  at_end (y ∷ past) (z ∷ log) x rest e = at_end past log x rest (cc (e))

  -- the number of a message is the greatest dialled before it
  sound-at : (hi e : ℕ) (m : M) (xs ys : List (Entry M)) → Sound hi (xs ++ Says e m ∷ ys) → e ≡ max hi (greatest_dial xs)
  sound-at hi e m [] ys s = (let k = s.0 in omega (arith, k))
  sound-at hi e m (Dial d ∷ xs) ys s = (let k = sound-at (max hi d) e m xs ys s in omega (arith, k))
  sound-at hi e m (Says d n ∷ xs) ys s = sound-at hi e m xs ys s.1
  sound-at hi e m (Mark d n ∷ xs) ys s = sound-at hi e m xs ys s.1
  sound-at hi e m (Shut d ∷ xs) ys s = sound-at hi e m xs ys s.1

  pub good_rest : (good : M → Type 0) (past more : List (Entry M)) → AllGood good (past ++ more) → AllGood good more
  good_rest good [] more a = a
  good_rest good (Dial e ∷ past) more a = good_rest good past more a
  good_rest good (Says e m ∷ past) more a = good_rest good past more a.1
  good_rest good (Mark e s ∷ past) more a = good_rest good past more a
  good_rest good (Shut e ∷ past) more a = good_rest good past more a

  stale_head : (frame : List ℕ → Type 0) (written : M → List ℕ) → IsFraming frame → (past : List (Entry M)) (n d b : ℕ) (bs held : List ℕ) (q : List (Passing M)) (entries : List (Entry M)) → AllFrames frame written entries → Sound 0 (past ++ entries) → greatest_dial past ≡ n → ((f rest : List ℕ) → frame f → held ≢ f ++ rest)
      → (octets_of n held ++ (Octet d b ∷ (octets_of d bs ++ q)) ≡ passing written entries) → d ≡ n
  stale_head frame written code past n d b bs [] q [] all s t whole h = absurd (cc (h))
  stale_head frame written code past n d b bs (x ∷ held) q [] all s t whole h = absurd (cc (h))
  stale_head frame written code past n d b bs [] q (Dial e ∷ r) all s t whole h = absurd (cc (h))
  stale_head frame written code past n d b bs (x ∷ held) q (Dial e ∷ r) all s t whole h = absurd (cc (h))
  stale_head frame written code past n d b bs [] q (Mark e k ∷ r) all s t whole h = absurd (cc (h))
  stale_head frame written code past n d b bs (x ∷ held) q (Mark e k ∷ r) all s t whole h = absurd (cc (h))
  stale_head frame written code past n d b bs [] q (Shut e ∷ r) all s t whole h = absurd (cc (h))
  stale_head frame written code past n d b bs (x ∷ held) q (Shut e ∷ r) all s t whole h = absurd (cc (h))
  stale_head frame written code past n d b bs held q (Says e m ∷ r) all s t whole h =
      let number : e ≡ n = (let k = sound-at 0 e m past r s in omega (arith, k, t)) in
      elim (meet e n (written m) held (passing written r) (Octet d b ∷ (octets_of d bs ++ q)) (sym h)) [
        | inl a ↦ absurd (whole (written m) a.0 (all.0) (sym a.1))
        | inr a ↦ (let same : d ≡ e = cc (a.3) in same ∙ number)
      ]

  -- while the end is joined, no octet of another incarnation comes
  pub no_stale_octet : (frame : List ℕ → Type 0) (written : M → List ℕ) → IsFraming frame → (past log : List (Entry M)) (n d b : ℕ) (bs held : List ℕ) → AllFrames frame written log → IsPrefix past log → Sound 0 log → greatest_dial past ≡ n
      → ((f rest : List ℕ) → frame f → held ≢ f ++ rest) → IsPrefix (passing written past ++ (octets_of n held ++ octets_of d (b ∷ bs))) (passing written log) → d ≡ n
  no_stale_octet frame written code past log n d b bs held all front s t whole is =
      let k = behind written past log (octets_of n held ++ octets_of d (b ∷ bs)) front is in
      stale_head frame written code past n d b bs held k.0 front.0 (good_rest (λ m. frame (written m)) past front.0 (subst (AllFrames frame written) (sym front.1) all)) (subst (Sound 0) (sym front.1) s) t whole
      (sym (append_assoc (octets_of n held) (octets_of d (b ∷ bs)) k.0) ∙ k.1)

  -- a message's octets at the head of octets and a control item
  octets_first : (d : ℕ) (ws : List ℕ) (p : List (Passing M)) (x : Entry M) (stale q : List (Passing M)) → OnlyOctets stale → octets_of d ws ++ p ≡ stale ++ Control x ∷ q
      → (more : List (Passing M)) × OnlyOctets more × (octets_of d ws ++ more ≡ stale) × (p ≡ more ++ Control x ∷ q)
  octets_first d [] p x stale q only h = (stale, only, refl, h)
  octets_first d (w ∷ ws) p x [] q only h = absurd (cc (h))
  octets_first d (w ∷ ws) p x (Control y ∷ stale) q only h = absurd only
  octets_first d (w ∷ ws) p x (Octet e b ∷ stale) q only h =
      let k = octets_first d ws p x stale q only (cc (h)) in
      let same : ◌≡◌ {A = Passing M} (Octet d w) (Octet e b) = cc (h) in (k.0, k.1, cc (k.2, same), k.3)

  dropped_head : (written : M → List ℕ) (x : Entry M) (entries : List (Entry M)) (stale q : List (Passing M)) → OnlyOctets stale → stale ++ Control x ∷ q ≡ passing written entries
      → (dropped rest : List (Entry M)) × OnlyMessages dropped × (passing written dropped ≡ stale) × (dropped ++ x ∷ rest ≡ entries)
  dropped_head written x [] [] q only h = absurd (cc (h))
  dropped_head written x [] (y ∷ stale) q only h = absurd (cc (h))
  dropped_head written x (Dial e ∷ r) [] q only h = ([], r, tt, refl, cc (h))
  dropped_head written x (Dial e ∷ r) (Octet d b ∷ stale) q only h = absurd (cc (h))
  dropped_head written x (Dial e ∷ r) (Control y ∷ stale) q only h = absurd only
  dropped_head written x (Mark e s ∷ r) [] q only h = ([], r, tt, refl, cc (h))
  dropped_head written x (Mark e s ∷ r) (Octet d b ∷ stale) q only h = absurd (cc (h))
  dropped_head written x (Mark e s ∷ r) (Control y ∷ stale) q only h = absurd only
  dropped_head written x (Shut e ∷ r) [] q only h = ([], r, tt, refl, cc (h))
  dropped_head written x (Shut e ∷ r) (Octet d b ∷ stale) q only h = absurd (cc (h))
  dropped_head written x (Shut e ∷ r) (Control y ∷ stale) q only h = absurd only
  dropped_head written x (Says e m ∷ r) stale q only h =
      let k = octets_first e (written m) (passing written r) x stale q only (sym h) in
      let t = dropped_head written x r k.0 q k.1 (sym k.3) in
      (Says e m ∷ t.0, t.1, t.2, ap (λ w. octets_of e (written m) ++ w) t.3 ∙ k.2, ap (λ w. Says e m ∷ w) t.4)

module _ {M : Type 0} where
  pub dropped_are_messages : DroppedOctetsAreMessages M
  dropped_are_messages written past log x stale front only is =
      let b = behind written past log (stale ++ Control x ∷ []) front is in
      let t = dropped_head written x front.0 stale b.0 only (sym (append_assoc stale (Control x ∷ []) b.0) ∙ b.1) in
      let whole : past ++ (t.0 ++ x ∷ t.1) ≡ log = ap (λ w. past ++ w) t.4 ∙ front.1 in
      (t.0, t.2, t.3, (t.1, append_assoc past (t.0 ++ x ∷ []) t.1 ∙ (ap (λ w. past ++ w) (append_assoc t.0 (x ∷ []) t.1) ∙ whole)))

module _ {M : Type 0} where
  none_stale_head : (written : M → List ℕ) (past : List (Entry M)) (stale q : List (Passing M)) (entries : List (Entry M)) → Sound 0 (past ++ entries) → said (greatest_dial past) (past ++ entries) ≡ [] → OnlyOctets stale → stale ++ q ≡ passing written entries → stale ≡ []
  none_stale_head written past [] q entries s none only h = refl
  none_stale_head written past (Control y ∷ stale) q entries s none only h = absurd only
  none_stale_head written past (Octet d b ∷ stale) q [] s none only h = absurd (cc (h))
  none_stale_head written past (Octet d b ∷ stale) q (Dial e ∷ r) s none only h = absurd (cc (h))
  none_stale_head written past (Octet d b ∷ stale) q (Mark e k ∷ r) s none only h = absurd (cc (h))
  none_stale_head written past (Octet d b ∷ stale) q (Shut e ∷ r) s none only h = absurd (cc (h))
  none_stale_head written past (Octet d b ∷ stale) q (Says e m ∷ r) s none only h =
      let number : e ≡ greatest_dial past = (let k = sound-at 0 e m past r s in omega (arith, k)) in
      let hit : (greatest_dial past == e) ≡ true = (let k : greatest_dial past ≡ e = sym number in grind (arith, nat_tests, k)) in
      let split : said (greatest_dial past) past ++ said (greatest_dial past) (Says e m ∷ r) ≡ [] = sym (said-append (greatest_dial past) past (Says e m ∷ r)) ∙ none in
      let one : said (greatest_dial past) past ++ (m ∷ said (greatest_dial past) r) ≡ [] = rw hit at split in
      absurd (not_empty (said (greatest_dial past) past) m (said (greatest_dial past) r) one)
    where
      not_empty : (xs : List M) (m : M) (ys : List M) → xs ++ m ∷ ys ≡ [] → ⊥
      not_empty [] m ys e = cc (e)
      not_empty (x ∷ xs) m ys e = cc (e)

  -- an end that joins by its own dial has dropped nothing since the dial that it answers
  pub none_stale : (written : M → List ℕ) (past log : List (Entry M)) (stale : List (Passing M)) → IsPrefix past log → Sound 0 log → said (greatest_dial past) log ≡ [] → OnlyOctets stale → IsPrefix (passing written past ++ stale) (passing written log) → stale ≡ []
  none_stale written past log stale front s none only is =
      let b = behind written past log stale front is in
      none_stale_head written past stale b.0 front.0 (subst (Sound 0) (sym front.1) s) (subst (λ l. said (greatest_dial past) l ≡ []) (sym front.1) none) only b.1

  frame_head : (frame : List ℕ → Type 0) (written : M → List ℕ) → IsFraming frame → (e : ℕ) (f rest bytes : List ℕ) (q : List (Passing M)) (entries : List (Entry M))
      → AllFrames frame written entries → frame f → f ≡ bytes → (octets_of e (f ++ rest) ++ q ≡ passing written entries) → (m : M) × (r : List (Entry M)) × (f ≡ written m) × (entries ≡ Says e m ∷ r)
  frame_head frame written code e f rest [] q entries all is_frame is h = absurd (code.some f is_frame is)
  frame_head frame written code e f rest (b ∷ bs) q [] all is_frame is h = absurd (let h' : octets_of e ((b ∷ bs) ++ rest) ++ q ≡ [] = ap (λ w. octets_of e (w ++ rest) ++ q) (sym is) ∙ h in cc (h'))
  frame_head frame written code e f rest (b ∷ bs) q (Dial d ∷ r) all is_frame is h = absurd (let h' : octets_of e ((b ∷ bs) ++ rest) ++ q ≡ passing written (Dial d ∷ r) = ap (λ w. octets_of e (w ++ rest) ++ q) (sym is) ∙ h in cc (h'))
  frame_head frame written code e f rest (b ∷ bs) q (Mark d s ∷ r) all is_frame is h = absurd (let h' : octets_of e ((b ∷ bs) ++ rest) ++ q ≡ passing written (Mark d s ∷ r) = ap (λ w. octets_of e (w ++ rest) ++ q) (sym is) ∙ h in cc (h'))
  frame_head frame written code e f rest (b ∷ bs) q (Shut d ∷ r) all is_frame is h = absurd (let h' : octets_of e ((b ∷ bs) ++ rest) ++ q ≡ passing written (Shut d ∷ r) = ap (λ w. octets_of e (w ++ rest) ++ q) (sym is) ∙ h in cc (h'))
  frame_head frame written code e f rest (b ∷ bs) q (Says d n ∷ r) all is_frame is h =
      let theirs : frame (written n) = all.0 in
      let same : f ≡ written n = elim (meet d e (written n) (f ++ rest) (passing written r) q (sym h)) [
        | inl a ↦ code.prefix_free f (written n) rest a.0 is_frame theirs (sym a.1)
        | inr a ↦ code.prefix_free f (written n) (rest ++ a.0 ∷ a.1) [] is_frame theirs (sym (append_assoc f rest (a.0 ∷ a.1)) ∙ (sym a.2 ∙ sym (append-nil (written n))))
      ] in
      let bytes : written n ≡ b ∷ bs = sym same ∙ is in
      let h' : octets_of e ((b ∷ bs) ++ rest) ++ q ≡ octets_of d (b ∷ bs) ++ passing written r = ap (λ w. octets_of e (w ++ rest) ++ q) (sym is) ∙ (h ∙ ap (λ w. octets_of d w ++ passing written r) bytes) in
      let epoch : e ≡ d = cc (h') in
      (n, r, same, cc (epoch))

module _ {M : Type 0} (frame : List ℕ → Type 0) where
  pub next_frame : NextFrameIsNextMessage M frame
  next_frame written code past log e f rest all is_frame front is =
      let b = behind written past log (octets_of e (f ++ rest)) front is in
      let s = frame_head frame written code e f rest f b.0 front.0 (good_rest (λ m. frame (written m)) past front.0 (subst (AllFrames frame written) (sym front.1) all)) is_frame refl b.1 in
      (s.0, s.2, at_end past log (Says e s.0) s.1 (ap (λ w. past ++ w) (sym s.3) ∙ front.1))

module _ {M : Type 0} where
  held_head : (frame : List ℕ → Type 0) (written : M → List ℕ) → IsFraming frame → (e b : ℕ) (bs : List ℕ) (q : List (Passing M)) (entries : List (Entry M)) → AllFrames frame written entries → octets_of e (b ∷ bs) ++ q ≡ passing written entries
      → (m : M) × (r : List (Entry M)) × (entries ≡ Says e m ∷ r) × frame (written m) × (IsPrefix (b ∷ bs) (written m) ⊎ IsPrefix (written m) (b ∷ bs))
  held_head frame written code e b bs q [] all h = absurd (cc (h))
  held_head frame written code e b bs q (Dial d ∷ r) all h = absurd (cc (h))
  held_head frame written code e b bs q (Mark d s ∷ r) all h = absurd (cc (h))
  held_head frame written code e b bs q (Shut d ∷ r) all h = absurd (cc (h))
  held_head frame written code e b bs q (Says d n ∷ r) all h =
      let number : e ≡ d = same_number (written n) (passing written r) (code.some (written n) all.0) h in
      let either : IsPrefix (b ∷ bs) (written n) ⊎ IsPrefix (written n) (b ∷ bs) = elim (meet d e (written n) (b ∷ bs) (passing written r) q (sym h)) [
        | inl k ↦ inr (k.0, k.1)
        | inr k ↦ inl (k.0 ∷ k.1, sym k.2)
      ] in
      (n, r, ap (λ i. Says i n ∷ r) (sym number), all.0, either)
    where
      same_number : (ws : List ℕ) (p : List (Passing M)) → ws ≢ [] → octets_of e (b ∷ bs) ++ q ≡ octets_of d ws ++ p → e ≡ d
      same_number [] p some h = absurd (some refl)
      same_number (w ∷ ws) p some h = cc (h)

  held_at : (frame : List ℕ → Type 0) (written : M → List ℕ) → IsFraming frame → (e : ℕ) (held : List ℕ) (past log : List (Entry M)) (front : IsPrefix past log) → AllFrames frame written log → held ≢ [] → (q : List (Passing M)) → octets_of e held ++ q ≡ passing written front.0
      → (m : M) × (slice_get log (length past) ≡ Some (Says e m)) × frame (written m) × (IsPrefix held (written m) ⊎ IsPrefix (written m) held)
  held_at frame written code e [] past log front all some q h = absurd (some refl)
  held_at frame written code e (b ∷ bs) past log front all some q h =
      let k = held_head frame written code e b bs q front.0 (good_rest (λ m. frame (written m)) past front.0 (subst (AllFrames frame written) (sym front.1) all)) h in
      (k.0, at_end past log (Says e k.0) k.1 (ap (λ w. past ++ w) (sym k.2) ∙ front.1), k.3, k.4)

module _ {M : Type 0} (frame : List ℕ → Type 0) where
  pub held_begins : HeldBeginsNextMessage M frame
  held_begins written code past log e held all front some is =
      let b = behind written past log (octets_of e held) front is in held_at frame written code e held past log front all some b.0 b.1

module _ {M : Type 0} where
  item_head : (frame : List ℕ → Type 0) (written : M → List ℕ) → IsFraming frame → (e : ℕ) (x : Entry M) (held : List ℕ) (q : List (Passing M)) (entries : List (Entry M)) → AllFrames frame written entries
      → ((f rest : List ℕ) → frame f → held ≢ f ++ rest) → (octets_of e held ++ Control x ∷ q ≡ passing written entries) → (held ≡ []) × (r : List (Entry M)) × (entries ≡ x ∷ r)
  item_head frame written code e x [] q [] all whole h = absurd (cc (h))
  item_head frame written code e x (b ∷ bs) q [] all whole h = absurd (cc (h))
  item_head frame written code e x [] q (Dial d ∷ r) all whole h = (refl, r, cc (h))
  item_head frame written code e x (b ∷ bs) q (Dial d ∷ r) all whole h = absurd (cc (h))
  item_head frame written code e x [] q (Mark d s ∷ r) all whole h = (refl, r, cc (h))
  item_head frame written code e x (b ∷ bs) q (Mark d s ∷ r) all whole h = absurd (cc (h))
  item_head frame written code e x [] q (Shut d ∷ r) all whole h = (refl, r, cc (h))
  item_head frame written code e x (b ∷ bs) q (Shut d ∷ r) all whole h = absurd (cc (h))
  item_head frame written code e x held q (Says d n ∷ r) all whole h = absurd (elim (meet d e (written n) held (passing written r) (Control x ∷ q) (sym h)) [ inl a ↦ whole (written n) a.0 (all.0) (sym a.1) | inr a ↦ cc (a.3) ])

module _ {M : Type 0} (frame : List ℕ → Type 0) where
  pub next_item : NextControlIsNextEntry M frame
  next_item written code past log e x held all front is whole =
      let b = behind written past log (octets_of e held ++ Control x ∷ []) front is in
      let s = item_head frame written code e x held b.0 front.0 (good_rest (λ m. frame (written m)) past front.0 (subst (AllFrames frame written) (sym front.1) all)) whole (sym (append_assoc (octets_of e held) (Control x ∷ []) b.0) ∙ b.1) in
      (s.0, at_end past log x s.1 (ap (λ w. past ++ w) (sym s.2) ∙ front.1))

-- octets at the head of a list do not reach past an entry that is no message
module _ {M : Type 0} where
  octets_stop : (os q p r : List (Passing M)) (x : Entry M) → OnlyOctets os → os ++ q ≡ p ++ Control x ∷ r → IsPrefix os p
  octets_stop [] q p r x only h = (p, refl)
  octets_stop (Control y ∷ os) q p r x only h = absurd only
  octets_stop (Octet e b ∷ os) q [] r x only h = absurd (cc (h))
  octets_stop (Octet e b ∷ os) q (y ∷ p) r x only h =
      let rest = octets_stop os q p r x only (cc (h)) in
      let same : ◌≡◌ {A = Passing M} (Octet e b) y = cc (h) in (rest.0, cc (same, rest.1))

module _ {M : Type 0} where
  pub octets_stay_before_mark : OctetsStayBeforeMark M
  octets_stay_before_mark written taken before later e s octets front only is =
      let whole : IsPrefix taken (before ++ Mark e s ∷ later) = (front.0 ++ Mark e s ∷ later, sym (append_assoc taken front.0 (Mark e s ∷ later)) ∙ ap (λ i. i ++ Mark e s ∷ later) front.1) in
      let b = behind written taken (before ++ Mark e s ∷ later) octets whole is in
      let split : octets ++ b.0 ≡ passing written front.0 ++ Control (Mark e s) ∷ passing written later = b.1 ∙ passing_more written front.0 (Mark e s ∷ later) in
      let stop = octets_stop octets b.0 (passing written front.0) (passing written later) (Mark e s) only split in
      (stop.0, append_assoc (passing written taken) octets stop.0 ∙ (ap (λ i. passing written taken ++ i) stop.1 ∙ (sym (passing_more written taken front.0) ∙ ap (passing written) front.1)))

-- of the ends of a run
module _ {M : Type 0} (frame : List ℕ → Type 0) where
  pub no_stale_octet_while_joined : NoStaleOctetWhileJoined M frame
  no_stale_octet_while_joined written code moves r u v apart all joined e octet octets held whole is =
      let facts = all_facts moves r in
      let front = (facts u v apart).front in
      let sound = (facts v u (λ q. apart (sym q))).sound in
      no_stale_octet frame written code (ends_after opening moves u v).taken (ends_after opening moves v u).appended (greatest_dial (ends_after opening moves u v).appended) e octet octets held all front sound
      (joined_heard moves r u v apart joined) whole is

module _ {M : Type 0} where
  pub none_dropped_before_answer : NoneDroppedBeforeAnswer M
  none_dropped_before_answer written moves r u v apart answer dropped only is =
      let facts = all_facts moves r in
      let a : End M = ends_after opening moves u v in
      let above : greatest_dial a.appended < greatest_dial a.taken = answers_above a answer in
      let none = (facts v u (λ q. apart (sym q))).told (greatest_dial a.taken) above in
      none_stale written a.taken (ends_after opening moves v u).appended dropped (facts u v apart).front (facts v u (λ q. apart (sym q))).sound none only is
