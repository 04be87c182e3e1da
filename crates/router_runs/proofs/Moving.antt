-- A move of a link end, as what it makes of a side.
use Rattle.std.proofs.Common.{◌≡◌, ℕ, ◌<◌, ◌≤◌, ◌==◌, Bool, true, false, ◌&&◌, cond, List, [], ◌∷◌, ◌++◌, refl, ap, sym, ◌∙◌, arith}
use Rattle.std.specs.Prelude.{nat_lt}
use Rattle.std.proofs.lemmas.List.{append-nil}
use Rattle.std.proofs.lemmas.Bool.Decides.{nat_tests}
use Rattle.bgp_codec.specs.declared.message.Message.{Message}
use Rattle.bgp_codec.specs.declared.message.Message.TheVariants.{OpenMsg, UpdateMsg, NoticeMsg, AliveMsg}
use Rattle.bgp_codec.specs.declared.update.Update.{Update}
use Rattle.link_epoch.specs.Ends as ends
use Rattle.link_epoch.specs.Ends.{LinkView, is_joinable, next_number, dialled, hung_up, heard_by}
use Rattle.link_epoch.specs.declared.link_end.Phase.{Phase}
use Rattle.link_epoch.specs.declared.link_end.Phase.TheVariants as phase
use Rattle.run_model.specs.Links as links
use Rattle.run_model.specs.Links.{Entry, Dial, Says, Mark, Shut, End, Move, Dials, Tells, Marks, HangsUp, Takes, May, after, incarnation, heard_number, has_shut, said, greatest_dial, answers, next_incarnation, dialling, taking, phase_joining, used_with}
use Rattle.run_model.specs.Facts.{EndFacts}
use Rattle.router_model.specs.Sides.{Side}
use Rattle.router_model.specs.Messages.{updates_in}
use Rattle.router_runs.specs.Reading.{Reads, phase_of}
use Rattle.router_runs.specs.Moving.{with_message, with_used, MovesAreRead}
use Rattle.router_runs.proofs.Lower.{Laws, greatest_dial-append, said-append, shut-append}
use Rattle.router_runs.proofs.Entries.{updates-append, answers_true}

module _ (laws : Laws) where
  -- an end that answers is a link end that is awaited
  pub answers_is : (s : Side) (a : End Message) → Reads s a → answers a ≡ is_joinable s.link
  answers_is s a r = rw (r.epoch, r.heard, r.is_shut) refl

  next_is : (s : Side) (a : End Message) → Reads s a → next_incarnation a ≡ next_number s.link
  next_is s a r = rw (r.epoch, r.heard, r.is_shut) refl

  phase_by : (b : Bool) → cond b links.Joined links.Offered ≡ phase_of (cond b phase.Joined phase.Offered)
  phase_by true = refl
  phase_by false = refl

  -- a message of an incarnation, in a history and in a list of entries
  one_more : (b : Bool) (u : Update) (us : List Update) → updates_in (cond b (UpdateMsg u ∷ []) []) ≡ cond b (u ∷ []) []
  one_more true u us = refl
  one_more false u us = refl

  either : (b : Bool) (u : Update) (us : List Update) → us ++ cond b (u ∷ []) [] ≡ cond b (us ++ u ∷ []) us
  either true u us = refl
  either false u us = append-nil us

  nothing_more : (b : Bool) (m : Message) → updates_in (m ∷ []) ≡ [] → updates_in (cond b (m ∷ []) []) ≡ []
  nothing_more true m h = h
  nothing_more false m h = refl

  pub message_more : (m : Message) (e n : ℕ) (history : ℕ → List Update) (xs : List (Entry Message)) → history n ≡ updates_in (said n xs)
      → with_message m e history n ≡ updates_in (said n (xs ++ Says e m ∷ []))
  message_more m e n history xs h = at m ∙ sym (ap updates_in (said-append laws n xs (Says e m ∷ [])) ∙ updates-append (said n xs) (said n (Says e m ∷ [])))
    where
      at : (k : Message) → with_message k e history n ≡ updates_in (said n xs) ++ updates_in (said n (Says e k ∷ []))
      at (OpenMsg o) = h ∙ sym (ap (λ w. updates_in (said n xs) ++ w) (nothing_more (n == e) (OpenMsg o) refl) ∙ append-nil (updates_in (said n xs)))
      at (NoticeMsg o) = h ∙ sym (ap (λ w. updates_in (said n xs) ++ w) (nothing_more (n == e) (NoticeMsg o) refl) ∙ append-nil (updates_in (said n xs)))
      at AliveMsg = h ∙ sym (ap (λ w. updates_in (said n xs) ++ w) (nothing_more (n == e) AliveMsg refl) ∙ append-nil (updates_in (said n xs)))
      at (UpdateMsg u) =
          sym (ap (λ w. updates_in (said n xs) ++ w) (one_more (n == e) u []) ∙ (either (n == e) u (updates_in (said n xs)) ∙ ap (λ w. cond (n == e) (w ++ u ∷ []) w) (sym h)))

  used_more : (p : Phase) (b : Bool) (m : Message) (e k n : ℕ) (history : ℕ → List Update) (xs : List (Entry Message)) → (k == e) ≡ b → history n ≡ updates_in (said n xs)
      → with_used p b m e history n ≡ updates_in (said n (used_with (phase_of p) k e m xs))
  used_more phase.Shut b m e k n history xs is h = h
  used_more phase.Offered b m e k n history xs is h = h
  used_more phase.Joined true m e k n history xs is h = rw is (message_more m e n history xs h)
  used_more phase.Joined false m e k n history xs is h = rw is h

  last_false : (p : Bool) → cond p true false ≡ p
  last_false true = refl
  last_false false = refl

  joins_alike : (p : Phase) (c : Bool) → cond c (phase_joining (phase_of p)) (phase_of p) ≡ phase_of (ends.phase_at_dial p c)
  joins_alike p c = grind arith

  -- a dial that is taken, above what was heard or not
  dial_read : (s : Side) (a b : End Message) (e : ℕ) (h : Bool) → nat_lt s.link.heard e ≡ h → Reads s a → EndFacts a b → EndFacts b a
      → Reads (record s { link = cond h (record { epoch = s.link.epoch; heard = e; heard_is_shut = false; phase = ends.phase_at_dial s.link.phase (e == s.link.epoch) }) s.link }) (taking a (Dial e))
  dial_read s a b e true is r g k =
      let rh = r.heard in
      let above : greatest_dial a.taken < e = grind (arith, nat_tests, is, rh) in
      let test : nat_lt (greatest_dial a.taken) e ≡ true = grind (arith, nat_tests, above) in
      let top : greatest_dial (a.taken ++ Dial e ∷ []) ≡ e = omega (arith, greatest_dial-append laws a.taken (Dial e ∷ []), above) in
      let unshut : has_shut e (a.taken ++ Dial e ∷ []) ≡ false = shut-append laws e a.taken (Dial e ∷ []) ∙ rw ((laws.not_shut a b g k e).0 above) refl in
      record {
        phase = ap (λ c. cond (c && (e == greatest_dial a.appended)) (phase_joining a.phase) a.phase) test ∙ (ap (λ p. cond (e == greatest_dial a.appended) (phase_joining p) p) r.phase
            ∙ (joins_alike s.link.phase (e == greatest_dial a.appended) ∙ ap (λ i. phase_of (ends.phase_at_dial s.link.phase (e == i))) (sym r.epoch)));
        epoch = r.epoch;
        heard = sym top;
        is_shut = sym (ap (λ i. has_shut i (a.taken ++ Dial e ∷ [])) top ∙ unshut);
        acted = r.acted;
        sent = r.sent;
      }
  dial_read s a b e false is r g k =
      let rh = r.heard in
      let below : e ≤ greatest_dial a.taken = grind (arith, nat_tests, is, rh) in
      let test : nat_lt (greatest_dial a.taken) e ≡ false = grind (arith, nat_tests, below) in
      let top : greatest_dial (a.taken ++ Dial e ∷ []) ≡ greatest_dial a.taken = omega (arith, greatest_dial-append laws a.taken (Dial e ∷ []), below) in
      record {
        phase = ap (λ c. cond (c && (e == greatest_dial a.appended)) (phase_joining a.phase) a.phase) test ∙ r.phase;
        epoch = r.epoch;
        heard = rh ∙ sym top;
        is_shut = r.is_shut ∙ sym (ap (λ i. has_shut i (a.taken ++ Dial e ∷ [])) top ∙ (shut-append laws (greatest_dial a.taken) a.taken (Dial e ∷ []) ∙ last_false (has_shut (greatest_dial a.taken) a.taken)));
        acted = r.acted;
        sent = r.sent;
      }

  shut_after : (b : Bool) (c : Bool) (l : LinkView) → l.heard_is_shut ≡ c → (cond b (record l { heard_is_shut = true }) l).heard_is_shut ≡ cond c true (cond b true false)
  shut_after true true l h = refl
  shut_after true false l h = refl
  shut_after false true l h = h
  shut_after false false l h = h

  same_link : (b : Bool) (l : LinkView) → ((cond b (record l { heard_is_shut = true }) l).epoch ≡ l.epoch) × ((cond b (record l { heard_is_shut = true }) l).heard ≡ l.heard) × ((cond b (record l { heard_is_shut = true }) l).phase ≡ l.phase)
  same_link true l = (refl, refl, refl)
  same_link false l = (refl, refl, refl)

  swapped : (m n : ℕ) → (m == n) ≡ (n == m)
  swapped m n = grind (arith, nat_tests)

  pub moves_are_read : MovesAreRead
  moves_are_read Dials s a b r g k may =
      let above : greatest_dial a.appended < next_incarnation a = answers_true a (answers a) refl in
      let now : greatest_dial (a.appended ++ Dial (next_incarnation a) ∷ []) ≡ next_incarnation a = omega (arith, greatest_dial-append laws a.appended (Dial (next_incarnation a) ∷ []), above) in
      record {
        reads = record {
          phase = ap (λ i. cond i links.Joined links.Offered) (answers_is s a r) ∙ phase_by (is_joinable s.link);
          epoch = sym (now ∙ next_is s a r);
          heard = r.heard;
          is_shut = r.is_shut;
          acted = r.acted;
          sent = λ n. r.sent n ∙ ap updates_in (sym (said-append laws n a.appended (Dial (next_incarnation a) ∷ []) ∙ append-nil (said n a.appended)));
        };
        appends = ap (λ i. a.appended ++ Dial i ∷ []) (next_is s a r);
        takes = sym (append-nil a.taken);
      }
  moves_are_read (Tells m) s a b r g k may =
      let same : greatest_dial (a.appended ++ Says (incarnation a) m ∷ []) ≡ greatest_dial a.appended = omega (arith, greatest_dial-append laws a.appended (Says (incarnation a) m ∷ [])) in
      record {
        reads = record {
          phase = r.phase;
          epoch = r.epoch ∙ sym same;
          heard = r.heard;
          is_shut = r.is_shut;
          acted = r.acted;
          sent = λ n. message_more m s.link.epoch n s.sent a.appended (r.sent n) ∙ ap (λ i. updates_in (said n (a.appended ++ Says i m ∷ []))) r.epoch;
        };
        appends = ap (λ i. a.appended ++ Says i m ∷ []) (sym r.epoch);
        takes = sym (append-nil a.taken);
      }
  moves_are_read (Marks x) s a b r g k may =
      let same : greatest_dial (a.appended ++ Mark (incarnation a) x ∷ []) ≡ greatest_dial a.appended = omega (arith, greatest_dial-append laws a.appended (Mark (incarnation a) x ∷ [])) in
      record {
        reads = record {
          phase = r.phase;
          epoch = r.epoch ∙ sym same;
          heard = r.heard;
          is_shut = r.is_shut;
          acted = r.acted;
          sent = λ n. r.sent n ∙ ap updates_in (sym (said-append laws n a.appended (Mark (incarnation a) x ∷ []) ∙ append-nil (said n a.appended)));
        };
        appends = ap (λ i. a.appended ++ Mark i x ∷ []) (sym r.epoch);
        takes = sym (append-nil a.taken);
      }
  moves_are_read HangsUp s a b r g k may =
      let same : greatest_dial (a.appended ++ Shut (incarnation a) ∷ []) ≡ greatest_dial a.appended = omega (arith, greatest_dial-append laws a.appended (Shut (incarnation a) ∷ [])) in
      record {
        reads = record {
          phase = refl;
          epoch = r.epoch ∙ sym same;
          heard = r.heard;
          is_shut = r.is_shut;
          acted = r.acted;
          sent = λ n. r.sent n ∙ ap updates_in (sym (said-append laws n a.appended (Shut (incarnation a) ∷ []) ∙ append-nil (said n a.appended)));
        };
        appends = ap (λ i. a.appended ++ Shut i ∷ []) (sym r.epoch);
        takes = sym (append-nil a.taken);
      }
  moves_are_read (Takes (Dial e)) s a b r g k may = record { reads = dial_read s a b e (nat_lt s.link.heard e) refl r g k; appends = sym (append-nil a.appended); takes = refl }
  moves_are_read (Takes (Says e m)) s a b r g k may =
      let same : greatest_dial (a.taken ++ Says e m ∷ []) ≡ greatest_dial a.taken = omega (arith, greatest_dial-append laws a.taken (Says e m ∷ [])) in
      record {
        reads = record {
          phase = r.phase;
          epoch = r.epoch;
          heard = r.heard ∙ sym same;
          is_shut = r.is_shut ∙ sym (ap (λ i. has_shut i (a.taken ++ Says e m ∷ [])) same ∙ (shut-append laws (greatest_dial a.taken) a.taken (Says e m ∷ []) ∙ last_false (has_shut (greatest_dial a.taken) a.taken)));
          acted = λ n. used_more s.link.phase (s.link.epoch == e) m e (greatest_dial a.appended) n s.acted a.used (ap (λ i. i == e) (sym r.epoch)) (r.acted n) ∙ ap (λ p. updates_in (said n (used_with p (greatest_dial a.appended) e m a.used))) (sym r.phase);
          sent = r.sent;
        };
        appends = sym (append-nil a.appended);
        takes = refl;
      }
  moves_are_read (Takes (Mark e x)) s a b r g k may =
      let same : greatest_dial (a.taken ++ Mark e x ∷ []) ≡ greatest_dial a.taken = omega (arith, greatest_dial-append laws a.taken (Mark e x ∷ [])) in
      record {
        reads = record {
          phase = r.phase;
          epoch = r.epoch;
          heard = r.heard ∙ sym same;
          is_shut = r.is_shut ∙ sym (ap (λ i. has_shut i (a.taken ++ Mark e x ∷ [])) same ∙ (shut-append laws (greatest_dial a.taken) a.taken (Mark e x ∷ []) ∙ last_false (has_shut (greatest_dial a.taken) a.taken)));
          acted = r.acted;
          sent = r.sent;
        };
        appends = sym (append-nil a.appended);
        takes = refl;
      }
  moves_are_read (Takes (Shut e)) s a b r g k may =
      let same : greatest_dial (a.taken ++ Shut e ∷ []) ≡ greatest_dial a.taken = omega (arith, greatest_dial-append laws a.taken (Shut e ∷ [])) in
      let l = same_link (e == s.link.heard) s.link in
      record {
        reads = record {
          phase = r.phase ∙ ap phase_of (sym l.2);
          epoch = l.0 ∙ r.epoch;
          heard = l.1 ∙ (r.heard ∙ sym same);
          is_shut = shut_after (e == s.link.heard) (has_shut (greatest_dial a.taken) a.taken) s.link r.is_shut
              ∙ sym (ap (λ i. has_shut i (a.taken ++ Shut e ∷ [])) same ∙ (shut-append laws (greatest_dial a.taken) a.taken (Shut e ∷ [])
              ∙ ap (λ i. cond (has_shut (greatest_dial a.taken) a.taken) true (cond i true false)) (swapped (greatest_dial a.taken) e ∙ ap (λ i. e == i) (sym r.heard))));
          acted = r.acted;
          sent = r.sent;
        };
        appends = sym (append-nil a.appended);
        takes = refl;
      }
