-- The moves of a session's events that hang up while the session is up.
use Rattle.std.proofs.Common.{◌≡◌, ℕ, ◌<◌, ◌==◌, Bool, true, false, ◌&&◌, ◌||◌, cond, List, [], ◌∷◌, ◌++◌, length, refl, ap, sym, ◌∙◌, arith}
use Rattle.std.specs.Prelude.{nat_lt}
use Rattle.std.proofs.lemmas.Bool.{false_from_ne_true}
use Rattle.std.proofs.lemmas.Bool.Decides.{nat_tests}
use Rattle.bgp_codec.specs.declared.message.Message.{Message}
use Rattle.run_model.specs.Links as links
use Rattle.run_model.specs.Links.{Entry, Dial, Says, Mark, End, Move, Dials, Tells, Marks, HangsUp, Takes, incarnation, said, greatest_dial, is_joined, answers}
use Rattle.run_model.specs.Sessions as model
use Rattle.run_model.specs.Sessions.{SessionEvent, SessionState, Fits, MayCome, moves_of, state_after, afters, side_after}
use Rattle.run_model.specs.Routes.{hangs_up}
use Rattle.run_model.specs.Facts.{EndFacts, LeadsOn}
use Rattle.router_runs.specs.Reading.{MayComeAll}
use Rattle.router_runs.specs.Doing.{is_up_in, closes, leaves_in}
use Rattle.router_runs.proofs.Acts.{moves_all}
use Rattle.router_runs.proofs.Lower.{Laws, greatest_dial-append}

-- whether one of these moves hangs up a session that is up, and the first incarnation that one leaves so
abbrev pub loses : End Message → List (Move Message) → Bool
loses a [] = false
loses a (m ∷ ms) = (links.is_up a && hangs_up m) || loses (links.after a m) ms

abbrev pub lost_number : End Message → List (Move Message) → ℕ
lost_number a [] = 0
lost_number a (m ∷ ms) = cond (links.is_up a && hangs_up m) (incarnation a) (lost_number (links.after a m) ms)

or_assoc : (p q r : Bool) → (p || (q || r)) ≡ ((p || q) || r)
or_assoc true q r = refl
or_assoc false q r = refl

pub loses_append : (ms ns : List (Move Message)) (a : End Message) → loses a (ms ++ ns) ≡ (loses a ms || loses (afters a ms) ns)
loses_append [] ns a = refl
loses_append (m ∷ ms) ns a = ap (λ k. (links.is_up a && hangs_up m) || k) (loses_append ms ns (links.after a m)) ∙ or_assoc (links.is_up a && hangs_up m) (loses (links.after a m) ms) (loses (afters (links.after a m) ms) ns)

choose : (p q : Bool) (l m n : ℕ) → cond p l (cond q m n) ≡ cond (p || q) (cond p l m) n
choose true q l m n = refl
choose false q l m n = refl

number_append : (ms ns : List (Move Message)) (a : End Message) → lost_number a (ms ++ ns) ≡ cond (loses a ms) (lost_number a ms) (lost_number (afters a ms) ns)
number_append [] ns a = refl
number_append (m ∷ ms) ns a =
    ap (λ k. cond (links.is_up a && hangs_up m) (incarnation a) k) (number_append ms ns (links.after a m))
    ∙ choose (links.is_up a && hangs_up m) (loses (links.after a m) ms) (incarnation a) (lost_number (links.after a m) ms) (lost_number (afters (links.after a m) ms) ns)

pub none_and : (p : Bool) → (p && false) ≡ false
none_and true = refl
none_and false = refl

pub or_none : (p : Bool) → (p || false) ≡ p
or_none true = refl
or_none false = refl

pub and_all : (p : Bool) → (p && true) ≡ p
and_all true = refl
and_all false = refl

module _ (laws : Laws) where
  pub up_is : (st : SessionState) (a : End Message) → Fits st a → links.is_up a ≡ is_up_in st
  up_is model.Established a f = (laws.up model.Established a f).0 refl
  up_is model.Idle a f = false_from_ne_true (links.is_up a) (λ h. let k = (laws.up model.Idle a f).1 h in cc k)
  up_is model.Connect a f = false_from_ne_true (links.is_up a) (λ h. let k = (laws.up model.Connect a f).1 h in cc k)
  up_is model.Active a f = false_from_ne_true (links.is_up a) (λ h. let k = (laws.up model.Active a f).1 h in cc k)
  up_is model.OpenSent a f = false_from_ne_true (links.is_up a) (λ h. let k = (laws.up model.OpenSent a f).1 h in cc k)
  up_is model.OpenConfirm a f = false_from_ne_true (links.is_up a) (λ h. let k = (laws.up model.OpenConfirm a f).1 h in cc k)

  -- telling a message leaves the number, and the session as up as it was, where it said enough before or used too little
  told_number : (a : End Message) (m : Message) → incarnation (links.after a (Tells m)) ≡ incarnation a
  told_number a m = omega (arith, greatest_dial-append laws a.appended (Says (incarnation a) m ∷ []))

  -- a notification that is told before a close
  told_up : (st : SessionState) (a : End Message) (m : Message) → Fits st a → is_up_in st ≡ true → links.is_up (links.after a (Tells m)) ≡ true
  told_up model.Established a m f h =
      up_is model.Established (links.after a (Tells m)) (record {
        phase = f.phase;
        has_said = (let k = f.has_said in let n = told_number a m in let l = said_more a m in rw n (omega (arith, k, l)));
        has_used = (let k = f.has_used in let n = told_number a m in rw n k);
      })
    where
      said_more : (c : End Message) (i : Message) → length (said (incarnation c) c.appended) < length (said (incarnation c) (c.appended ++ Says (incarnation c) i ∷ []))
      said_more c i =
          let hit : (incarnation c == incarnation c) ≡ true = grind (arith, nat_tests) in
          let one : said (incarnation c) (Says (incarnation c) i ∷ []) ≡ i ∷ [] = rw hit refl in
          let more : said (incarnation c) (c.appended ++ Says (incarnation c) i ∷ []) ≡ said (incarnation c) c.appended ++ i ∷ [] = (laws.entries c.appended (Says (incarnation c) i ∷ [])).messages (incarnation c) ∙ ap (λ w. said (incarnation c) c.appended ++ w) one in
          longer (said (incarnation c) c.appended) i (said (incarnation c) (c.appended ++ Says (incarnation c) i ∷ [])) more
        where
          longer : (xs : List Message) (i : Message) (ys : List Message) → ys ≡ xs ++ i ∷ [] → length xs < length ys
          longer [] i ys h = omega (arith, ap length h)
          longer (x ∷ xs) i ys h = (let k = longer xs i (xs ++ i ∷ []) refl in omega (arith, k, ap length h))
  told_up model.Idle a m f h = absurd (cc h)
  told_up model.Connect a m f h = absurd (cc h)
  told_up model.Active a m f h = absurd (cc h)
  told_up model.OpenSent a m f h = absurd (cc h)
  told_up model.OpenConfirm a m f h = absurd (cc h)

  few_used : (j : Bool) (used said : ℕ) → nat_lt 1 used ≡ false → (j && (nat_lt 1 used && nat_lt 1 said)) ≡ false
  few_used true used said h = rw h refl
  few_used false used said h = refl

  still_down : (st : SessionState) (a : End Message) (m : Message) → Fits st a → is_up_in st ≡ false → links.is_up (links.after a (Tells m)) ≡ false
  still_down model.Idle a m f h = rw f.phase refl
  still_down model.Connect a m f h = rw f.phase refl
  still_down model.Active a m f h = rw f.phase refl
  still_down model.OpenSent a m f h =
      let n = told_number a m in
      let used : length (said (incarnation a) a.used) ≡ 0 = f.has_used in
      few_used (is_joined a.phase) (length (said (incarnation (links.after a (Tells m))) a.used)) (length (said (incarnation (links.after a (Tells m))) (links.after a (Tells m)).appended)) (rw (n, used) refl)
  still_down model.OpenConfirm a m f h =
      let n = told_number a m in
      let used : length (said (incarnation a) a.used) ≡ 1 = f.has_used in
      few_used (is_joined a.phase) (length (said (incarnation (links.after a (Tells m))) a.used)) (length (said (incarnation (links.after a (Tells m))) (links.after a (Tells m)).appended)) (rw (n, used) refl)
  still_down model.Established a m f h = absurd (cc h)

  told_same : (st : SessionState) (a : End Message) (m : Message) → Fits st a → links.is_up (links.after a (Tells m)) ≡ is_up_in st
  told_same st a m f = at (is_up_in st) refl
    where
      at : (b : Bool) → is_up_in st ≡ b → links.is_up (links.after a (Tells m)) ≡ b
      at true h = told_up st a m f h
      at false h = still_down st a m f h

  -- ---- one event

  pass : (a : End Message) (m : Move Message) (ms : List (Move Message)) → hangs_up m ≡ false → loses a (m ∷ ms) ≡ loses (links.after a m) ms
  pass a m ms h = ap (λ k. (links.is_up a && k) || loses (links.after a m) ms) h ∙ ap (λ k. k || loses (links.after a m) ms) (none_and (links.is_up a))

  starts_none : (c : Bool) (a : End Message) (m : Message) → loses a (model.start_moves c m) ≡ false
  starts_none true a m = pass a Dials (Tells m ∷ []) refl ∙ pass (links.after a Dials) (Tells m) [] refl
  starts_none false a m = pass a Dials [] refl

  telling_none : (a : End Message) (ms : List Message) → loses a (model.telling ms) ≡ false
  telling_none a [] = refl
  telling_none a (m ∷ ms) = pass a (Tells m) (model.telling ms) refl ∙ telling_none (links.after a (Tells m)) ms

  hang_one : (c : End Message) (p : Bool) → links.is_up c ≡ p → loses c (HangsUp ∷ []) ≡ p
  hang_one c p h = or_none (links.is_up c && true) ∙ (and_all (links.is_up c) ∙ h)

  two_messages : (m n : Message) (ms : List Message) → model.MayNotify links.Joined (m ∷ n ∷ ms) → ⊥
  two_messages m n ms h = omega (arith, h)

  close_hangs : (st : SessionState) (a : End Message) (p : links.Phase) (ms : List Message) → a.phase ≡ p → Fits st a → model.MayNotify p ms → loses (afters a (model.telling ms)) (model.hanging p) ≡ is_up_in st
  close_hangs st a links.Closed ms is f may = sym (let down : links.is_up a ≡ false = rw is refl in sym (up_is st a f) ∙ down)
  close_hangs st a links.Offered ms is f may = ap (λ k. loses (afters a (model.telling k)) (HangsUp ∷ [])) may ∙ hang_one a (is_up_in st) (up_is st a f)
  close_hangs st a links.Joined [] is f may = hang_one a (is_up_in st) (up_is st a f)
  close_hangs st a links.Joined (m ∷ []) is f may = hang_one (links.after a (Tells m)) (is_up_in st) (told_same st a m f)
  close_hangs st a links.Joined (m ∷ n ∷ ms) is f may = absurd (two_messages m n ms may)

  closes_lose : (st : SessionState) (a : End Message) (ms : List Message) → Fits st a → model.MayNotify a.phase ms → loses a (model.telling ms ++ model.hanging a.phase) ≡ is_up_in st
  closes_lose st a ms f may =
      loses_append (model.telling ms) (model.hanging a.phase) a
      ∙ (ap (λ k. k || loses (afters a (model.telling ms)) (model.hanging a.phase)) (telling_none a ms) ∙ close_hangs st a a.phase ms refl f may)

  down_hang : (st : SessionState) (a : End Message) (ms : List (Move Message)) → Fits st a → is_up_in st ≡ false → loses a (HangsUp ∷ ms) ≡ loses (links.after a HangsUp) ms
  down_hang st a ms f h = ap (λ k. (k && true) || loses (links.after a HangsUp) ms) (up_is st a f ∙ h)

  pub event_loses : (x : model.Side Message) (b : End Message) (e : SessionEvent Message) → Fits x.state x.end → MayCome x b e → loses x.end (moves_of x.end e) ≡ (is_up_in x.state && closes e)
  event_loses x b (model.Starts m) f may = starts_none (answers x.end) x.end m ∙ sym (none_and (is_up_in x.state))
  event_loses x b (model.Retries m) f may =
      down_hang x.state x.end (model.start_moves (answers x.end) m) f (ap is_up_in may) ∙ (starts_none (answers x.end) (links.after x.end HangsUp) m ∙ sym (none_and (is_up_in x.state)))
  event_loses x b (model.Confirms e m) f may = pass x.end (Takes (Dial e)) (Tells m ∷ []) refl ∙ (pass (links.after x.end (Takes (Dial e))) (Tells m) [] refl ∙ sym (none_and (is_up_in x.state)))
  event_loses x b (model.Yields e m) f may =
      pass x.end (Takes (Dial e)) (Dials ∷ Tells m ∷ []) refl ∙ (starts_none true (links.after x.end (Takes (Dial e))) m ∙ sym (none_and (is_up_in x.state)))
  event_loses x b (model.AcceptsOpen m k) f may =
      pass x.end (Takes (Says (incarnation x.end) m)) (Tells k ∷ []) refl ∙ (pass (links.after x.end (Takes (Says (incarnation x.end) m))) (Tells k) [] refl ∙ sym (none_and (is_up_in x.state)))
  event_loses x b (model.AcceptsKeepalive m) f may = pass x.end (Takes (Says (incarnation x.end) m)) [] refl ∙ sym (none_and (is_up_in x.state))
  event_loses x b (model.Accepts m) f may = pass x.end (Takes (Says (incarnation x.end) m)) [] refl ∙ sym (none_and (is_up_in x.state))
  event_loses x b (model.Speaks m) f may = pass x.end (Tells m) [] refl ∙ sym (none_and (is_up_in x.state))
  event_loses x b (model.SendsMarker n) f may = pass x.end (Marks n) [] refl ∙ sym (none_and (is_up_in x.state))
  event_loses x b (model.Closes ms) f may = closes_lose x.state x.end ms f may.1 ∙ sym (and_all (is_up_in x.state))
  event_loses x b model.Fails f may = down_hang x.state x.end [] f (ap is_up_in may) ∙ sym (none_and (is_up_in x.state))
  event_loses x b (model.Passes y) f may = pass x.end (Takes y) [] refl ∙ sym (none_and (is_up_in x.state))

  -- the incarnation that is left
  close_number : (st : SessionState) (a : End Message) (p : links.Phase) (ms : List Message) → a.phase ≡ p → Fits st a → is_up_in st ≡ true → model.MayNotify p ms → lost_number (afters a (model.telling ms)) (model.hanging p) ≡ incarnation a
  close_number st a links.Closed ms is f h may = absurd (let down : links.is_up a ≡ false = rw is refl in let up = up_is st a f ∙ h in cc (down, up))
  close_number st a links.Offered ms is f h may = absurd (let down : links.is_up a ≡ false = rw is refl in let up = up_is st a f ∙ h in cc (down, up))
  close_number st a links.Joined [] is f h may = ap (λ k. cond (k && true) (incarnation a) 0) (up_is st a f ∙ h)
  close_number st a links.Joined (m ∷ []) is f h may = ap (λ k. cond (k && true) (incarnation (links.after a (Tells m))) 0) (told_same st a m f ∙ h) ∙ told_number a m
  close_number st a links.Joined (m ∷ n ∷ ms) is f h may = absurd (two_messages m n ms may)

  event_number : (x : model.Side Message) (b : End Message) (e : SessionEvent Message) → Fits x.state x.end → MayCome x b e → is_up_in x.state ≡ true → closes e ≡ true → lost_number x.end (moves_of x.end e) ≡ incarnation x.end
  event_number x b (model.Starts m) f may up h = absurd (cc h)
  event_number x b (model.Retries m) f may up h = absurd (cc h)
  event_number x b (model.Confirms e m) f may up h = absurd (cc h)
  event_number x b (model.Yields e m) f may up h = absurd (cc h)
  event_number x b (model.AcceptsOpen m k) f may up h = absurd (cc h)
  event_number x b (model.AcceptsKeepalive m) f may up h = absurd (cc h)
  event_number x b (model.Accepts m) f may up h = absurd (cc h)
  event_number x b (model.Speaks m) f may up h = absurd (cc h)
  event_number x b (model.SendsMarker n) f may up h = absurd (cc h)
  event_number x b (model.Closes ms) f may up h =
      number_append (model.telling ms) (model.hanging x.end.phase) x.end
      ∙ (ap (λ k. cond k (lost_number x.end (model.telling ms)) (lost_number (afters x.end (model.telling ms)) (model.hanging x.end.phase))) (telling_none x.end ms)
      ∙ close_number x.state x.end x.end.phase ms refl f up may.1)
  event_number x b model.Fails f may up h = absurd (cc h)
  event_number x b (model.Passes y) f may up h = absurd (cc h)

  -- an event that closes nothing leaves a session up that is up, in its incarnation
  record Stays (x : model.Side Message) (e : SessionEvent Message) : Type 0 where
    up : is_up_in (state_after x e) ≡ true
    number : incarnation (afters x.end (moves_of x.end e)) ≡ incarnation x.end

  taking_number : (a : End Message) (y : Entry Message) → incarnation (links.after a (Takes y)) ≡ incarnation a
  taking_number a y = grind arith

  event_stays : (x : model.Side Message) (b : End Message) (e : SessionEvent Message) → MayCome x b e → is_up_in x.state ≡ true → closes e ≡ false → Stays x e
  event_stays x b (model.Starts m) may up h = absurd (low x.state may up)
    where
      low : (st : SessionState) → model.MayRestart st → is_up_in st ≡ true → ⊥
      low model.Idle k u = cc u
      low model.Active k u = cc u
      low model.Connect k u = k
      low model.OpenSent k u = k
      low model.OpenConfirm k u = k
      low model.Established k u = k
  event_stays x b (model.Retries m) may up h = absurd (let k = ap is_up_in may in cc (k, up))
  event_stays x b (model.Confirms e m) may up h = absurd (let k = ap is_up_in may.0 in cc (k, up))
  event_stays x b (model.Yields e m) may up h = absurd (low x.state may.0 up)
    where
      low : (st : SessionState) → model.WaitsForPeer st → is_up_in st ≡ true → ⊥
      low model.Connect k u = cc u
      low model.Active k u = cc u
      low model.Idle k u = k
      low model.OpenSent k u = k
      low model.OpenConfirm k u = k
      low model.Established k u = k
  event_stays x b (model.AcceptsOpen m k) may up h = absurd (let q = ap is_up_in may.0 in cc (q, up))
  event_stays x b (model.AcceptsKeepalive m) may up h = absurd (let q = ap is_up_in may.0 in cc (q, up))
  event_stays x b (model.Accepts m) may up h = record { up = up; number = refl }
  event_stays x b (model.Speaks m) may up h = record { up = up; number = told_number x.end m }
  event_stays x b (model.SendsMarker n) may up h = record { up = up; number = omega (arith, greatest_dial-append laws x.end.appended (Mark (incarnation x.end) n ∷ [])) }
  event_stays x b (model.Closes ms) may up h = absurd (cc h)
  event_stays x b model.Fails may up h = absurd (let q = ap is_up_in may in cc (q, up))
  event_stays x b (model.Passes y) may up h = record { up = up; number = taking_number x.end y }

  -- ---- several

  pub all_lose : (es : List (SessionEvent Message)) (x : model.Side Message) (b : End Message) → MayComeAll x b es → Fits x.state x.end → EndFacts x.end b → EndFacts b x.end → loses x.end (moves_all laws x es) ≡ leaves_in x es
  all_lose [] x b may f g k = refl
  all_lose (e ∷ es) x b may f g k =
      let l = laws.leads x b e f g k may.0 in
      loses_append (moves_of x.end e) (moves_all laws (side_after x e) es) x.end
      ∙ (ap (λ i. i || loses (afters x.end (moves_of x.end e)) (moves_all laws (side_after x e) es)) (event_loses x b e f may.0)
      ∙ ap (λ i. (is_up_in x.state && closes e) || i) (all_lose es (side_after x e) b may.1 l.fits l.mine l.theirs))

  pub all_number : (es : List (SessionEvent Message)) (x : model.Side Message) (b : End Message) → MayComeAll x b es → Fits x.state x.end → EndFacts x.end b → EndFacts b x.end → is_up_in x.state ≡ true → leaves_in x es ≡ true
      → lost_number x.end (moves_all laws x es) ≡ incarnation x.end
  all_number [] x b may f g k up h = absurd (cc h)
  all_number (e ∷ es) x b may f g k up h =
      at (closes e) refl h (λ fit s rest. all_number es (side_after x e) b may.1 fit.fits fit.mine fit.theirs s.up rest)
    where
      l : model.Side Message
      l = side_after x e

      on : lost_number x.end (moves_of x.end e ++ moves_all laws l es) ≡ cond (is_up_in x.state && closes e) (lost_number x.end (moves_of x.end e)) (lost_number l.end (moves_all laws l es))
      on = number_append (moves_of x.end e) (moves_all laws l es) x.end ∙ ap (λ i. cond i (lost_number x.end (moves_of x.end e)) (lost_number (afters x.end (moves_of x.end e)) (moves_all laws (side_after x e) es))) (event_loses x b e f may.0)

      at : (c : Bool) → closes e ≡ c → ((is_up_in x.state && closes e) || leaves_in l es) ≡ true → (LeadsOn x b e → Stays x e → leaves_in l es ≡ true → lost_number l.end (moves_all laws l es) ≡ incarnation l.end)
          → lost_number x.end (moves_of x.end e ++ moves_all laws l es) ≡ incarnation x.end
      at true is h later =
          let yes : (is_up_in x.state && closes e) ≡ true = rw (up, is) refl in
          on ∙ (ap (λ i. cond i (lost_number x.end (moves_of x.end e)) (lost_number l.end (moves_all laws l es))) yes ∙ event_number x b e f may.0 up is)
      at false is h later =
          let fit = laws.leads x b e f g k may.0 in
          let s = event_stays x b e may.0 up is in
          let none : (is_up_in x.state && closes e) ≡ false = rw (up, is) refl in
          let rest : leaves_in l es ≡ true = sym (ap (λ i. i || leaves_in l es) none) ∙ h in
          on ∙ (ap (λ i. cond i (lost_number x.end (moves_of x.end e)) (lost_number l.end (moves_all laws l es))) none ∙ (later fit s rest ∙ s.number))
