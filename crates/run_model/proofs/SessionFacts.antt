-- At each event of a session its moves are allowed, and its end fits the new state.
use Rattle.std.proofs.Common.{◌≡◌, ◌≢◌, ℕ, ◌+◌, ◌<◌, ◌==◌, Bool, true, false, ◌&&◌, cond, List, [], ◌∷◌, ◌++◌, length, refl, ap, sym, ◌∙◌, arith, length-append, subst}
use Rattle.std.specs.Prelude.{nat_lt}
use Rattle.run_model.specs.Links.{Entry, Dial, Says, Mark, Shut, greatest_dial, has_shut, said, Phase, Closed, Offered, Joined, End, Move, Dials, Tells, Marks, HangsUp, Takes, answers, next_incarnation, dialling, hanging_up, phase_joining, used_with, taking, after, May, is_up}
use Rattle.run_model.specs.Sessions.{SessionState, Idle, Connect, Active, OpenSent, OpenConfirm, Established, Fits, SessionEvent, Starts, Retries, Confirms, Yields, AcceptsOpen, AcceptsKeepalive, Accepts, Speaks, SendsMarker, Closes, Fails, Passes, Side, start_moves, joined_or, hanging, telling, moves_of, state_after, afters, IsNext, IsPassed, MayNotify, MayRestart, WaitsForPeer, MaySay, MayCome}
use Rattle.run_model.proofs.EntryLists.{greatest_dial-append, said-append, Sound, sound-front, sound-none, prefix_none}
use Rattle.run_model.proofs.LinkFacts.{EndFacts, answers_true, fresh, unused, own_facts, other_facts}
use Rattle.run_model.proofs.Incarnations.{shut-append, sound-no_shut}
use Rattle.run_model.proofs.MarkerFacts.{up_is, is_up_of}
use Rattle.std.proofs.lemmas.List.{append-nil}
use Rattle.std.proofs.lemmas.Bool.Decides.{nat_tests}

module _ {M : Type 0} where
  -- an end may make these moves one after the other, while its peer's stays
  abbrev pub MayAll : End M → End M → List (Move M) → Type 0
  MayAll a b [] = Unit {0}
  MayAll a b (x ∷ xs) = May a b x × MayAll (after a x) b xs

  -- telling a message adds one to what was said, and changes nothing else that counts
  same_number : (a : End M) (m : M) → greatest_dial (a.appended ++ Says (greatest_dial a.appended) m ∷ []) ≡ greatest_dial a.appended
  same_number a m = omega (arith, greatest_dial-append a.appended (Says (greatest_dial a.appended) m ∷ []))

  told_more : (a : End M) (m : M) → length (said (greatest_dial (after a (Tells m)).appended) (after a (Tells m)).appended) ≡ length (said (greatest_dial a.appended) a.appended) + 1
  told_more a m =
      let n : ℕ = greatest_dial a.appended in
      let hit : (n == n) ≡ true = grind (arith, nat_tests) in
      let one : said n (Says n m ∷ []) ≡ m ∷ [] = rw hit refl in
      rw (same_number a m) (ap length (said-append n a.appended (Says n m ∷ []) ∙ ap (λ w. said n a.appended ++ w) one) ∙ (length-append (said n a.appended) (m ∷ [])))

  told_used : (a : End M) (m : M) → length (said (greatest_dial (after a (Tells m)).appended) (after a (Tells m)).used) ≡ length (said (greatest_dial a.appended) a.used)
  told_used a m = rw (same_number a m) refl

  -- a session that is up is Established, and the other way round
  pub established_up : (st : SessionState) (a : End M) → Fits st a → st ≡ Established → is_up a ≡ true
  established_up Idle a f e = absurd (cc (e))
  established_up Connect a f e = absurd (cc (e))
  established_up Active a f e = absurd (cc (e))
  established_up OpenSent a f e = absurd (cc (e))
  established_up OpenConfirm a f e = absurd (cc (e))
  established_up Established a f e = (let t = f.has_said in let u = f.has_used in is_up_of a (record { joined = f.phase; used = omega (arith, u); told = omega (arith, t) }))

  pub up_established : (st : SessionState) (a : End M) → Fits st a → is_up a ≡ true → st ≡ Established
  up_established Idle a f up = absurd (let u = (up_is a up).joined in let p = f.phase in cc)
  up_established Connect a f up = absurd (let u = (up_is a up).joined in let p = f.phase in cc)
  up_established Active a f up = absurd (let u = (up_is a up).joined in let p = f.phase in cc)
  up_established OpenSent a f up = absurd (let u = (up_is a up).used in let k = f.has_used in omega (arith, u, k))
  up_established OpenConfirm a f up = absurd (let u = (up_is a up).used in let k = f.has_used in omega (arith, u, k))
  up_established Established a f up = refl

  -- what an event leaves: its moves are allowed, and the end fits the new state
  abbrev pub Leads : End M → End M → List (Move M) → SessionState → Type 0
  Leads a b moves state = MayAll a b moves × Fits state (afters a moves)

  -- dialling from a closed end, or answering from an offered one: joined at once the OPEN is told
  dials_fit : (a b : End M) (own_open : M) (h : Bool) → answers a ≡ h → (a.phase ≢ Joined) → (a.phase ≡ Offered → answers a ≡ true) → EndFacts a b → EndFacts b a → Leads a b (start_moves h own_open) (joined_or h Connect)
  dials_fit a b own_open false is apart offered g k =
      (((apart, offered), tt), record { phase = ap (λ i. cond i Joined Offered) is; has_said = tt; has_used = tt })
  dials_fit a b own_open true is apart offered g k =
      let d : End M = dialling a in
      let above : greatest_dial a.appended < next_incarnation a = answers_true a (answers a) refl in
      let now : greatest_dial d.appended ≡ next_incarnation a = omega (arith, greatest_dial-append a.appended (Dial (next_incarnation a) ∷ []), above) in
      let joined : d.phase ≡ Joined = ap (λ i. cond i Joined Offered) is in
      let none : said (next_incarnation a) a.used ≡ [] = unused a b (next_incarnation a) g (fresh a b g k (next_incarnation a) above) ∙ fresh a b g k (next_incarnation a) above in
      let zero' : length (said (greatest_dial d.appended) d.used) ≡ 0 = rw now (ap length none) in (
        ((apart, offered), (joined, tt)),
        record {
          phase = joined;
          has_said = (let t = told_more d own_open in omega (arith, t));
          has_used = told_used d own_open ∙ zero';
        },
      )

joined_by : (b : Bool) (p : Phase) → b ≡ true → p ≡ Offered → cond b (phase_joining p) p ≡ Joined
joined_by b p h k = grind arith

no_join : (b : Bool) (e o n : ℕ) (p : Phase) → (nat_lt n e && (e == o)) ≡ b → o < e → cond b (phase_joining p) p ≡ p
no_join true e o n p is above = absurd (let q : e ≡ o = grind (arith, nat_tests, is) in omega (arith, q, above))
no_join false e o n p is above = refl

module _ {M : Type 0} where
  -- the awaited dial is taken: the OPEN is told
  awaited_fit : (a b : End M) (e : ℕ) (own_open : M) → a.phase ≡ Offered → EndFacts a b → EndFacts b a → IsNext a b (Dial e) → e ≡ greatest_dial a.appended → greatest_dial a.taken < e
      → Leads a b (Takes (Dial e) ∷ Tells own_open ∷ []) OpenSent
  awaited_fit a b e own_open offered g k is here above =
      let d : End M = taking a (Dial e) in
      let test : (nat_lt (greatest_dial a.taken) e && (e == greatest_dial a.appended)) ≡ true = grind (arith, nat_tests, here, above) in
      let joined : d.phase ≡ Joined = joined_by (nat_lt (greatest_dial a.taken) e && (e == greatest_dial a.appended)) a.phase test offered in
      let sound : Sound 0 a.taken = sound-front 0 a.taken g.front.0 (subst (Sound 0) (sym g.front.1) k.sound) in
      let past : said (greatest_dial a.appended) a.taken ≡ [] = sound-none (greatest_dial a.appended) 0 a.taken sound (omega (arith, here, above)) in
      let none : said (greatest_dial a.appended) a.used ≡ [] = prefix_none (said (greatest_dial a.appended) a.used) (said (greatest_dial a.appended) a.taken) (g.begins (greatest_dial a.appended)) past in (
        ((is, tt), (joined, tt)),
        record {
          phase = joined;
          has_said = (let t = told_more d own_open in omega (arith, t));
          has_used = told_used d own_open ∙ ap length none;
        },
      )

  -- a dial of a greater number is answered
  greater_fit : (a b : End M) (e : ℕ) (own_open : M) → a.phase ≢ Joined → EndFacts a b → EndFacts b a → IsNext a b (Dial e) → greatest_dial a.appended < e → greatest_dial a.taken < e
      → Leads a b (Takes (Dial e) ∷ Dials ∷ Tells own_open ∷ []) OpenSent
  greater_fit a b e own_open apart g k is own heard =
      let d : End M = taking a (Dial e) in
      let phase : d.phase ≡ a.phase = no_join (nat_lt (greatest_dial a.taken) e && (e == greatest_dial a.appended)) e (greatest_dial a.appended) (greatest_dial a.taken) a.phase refl own in
      let top : greatest_dial d.taken ≡ e = omega (arith, greatest_dial-append a.taken (Dial e ∷ []), heard) in
      let sound : Sound 0 a.taken = sound-front 0 a.taken g.front.0 (subst (Sound 0) (sym g.front.1) k.sound) in
      let unshut : has_shut e d.taken ≡ false = shut-append e a.taken (Dial e ∷ []) ∙ rw (sound-no_shut e 0 a.taken sound (omega (arith, heard))) refl in
      let above : nat_lt (greatest_dial d.appended) (greatest_dial d.taken) ≡ true = grind (arith, nat_tests, top, own) in
      let answer : answers d ≡ true = rw (above, top, unshut) refl in
      let may : May a b (Takes (Dial e)) = (is, tt) in
      let then = dials_fit d b own_open true answer (λ j. apart (sym phase ∙ j)) (λ o. answer) (own_facts a b (Takes (Dial e)) may g k) (other_facts a b (Takes (Dial e)) k) in
      ((may, then.0), then.1)

  -- a message of the incarnation is accepted
  accepted_more : (p : Phase) (n e : ℕ) (m : M) (used : List (Entry M)) → p ≡ Joined → e ≡ n → length (said n (used_with p n e m used)) ≡ length (said n used) + 1
  accepted_more Closed n e m used j h = absurd cc
  accepted_more Offered n e m used j h = absurd cc
  accepted_more Joined n e m used j h =
      let hit : (n == e) ≡ true = (let q : n ≡ e = sym h in grind (arith, nat_tests, q)) in
      let one : said n (Says e m ∷ []) ≡ m ∷ [] = rw hit refl in
      rw hit (ap length (said-append n used (Says e m ∷ []) ∙ ap (λ w. said n used ++ w) one) ∙ length-append (said n used) (m ∷ []))

  open_fit : (a b : End M) (m k : M) → Fits OpenSent a → IsNext a b (Says (greatest_dial a.appended) m)
      → Leads a b (Takes (Says (greatest_dial a.appended) m) ∷ Tells k ∷ []) OpenConfirm
  open_fit a b m k f is =
      let d : End M = taking a (Says (greatest_dial a.appended) m) in
      let more = accepted_more a.phase (greatest_dial a.appended) (greatest_dial a.appended) m a.used f.phase refl in (
        ((is, tt), (f.phase, tt)),
        record {
          phase = f.phase;
          has_said = (let t = told_more d k in let u = f.has_said in omega (arith, t, u));
          has_used = (let t = told_used d k in let u = f.has_used in omega (arith, t, u, more));
        },
      )

  keepalive_fit : (a b : End M) (m : M) → Fits OpenConfirm a → IsNext a b (Says (greatest_dial a.appended) m)
      → Leads a b (Takes (Says (greatest_dial a.appended) m) ∷ []) Established
  keepalive_fit a b m f is =
      let more = accepted_more a.phase (greatest_dial a.appended) (greatest_dial a.appended) m a.used f.phase refl in
      (((is, tt), tt), record { phase = f.phase; has_said = f.has_said; has_used = (let u = f.has_used in omega (arith, u, more)) })

  accept_fit : (a b : End M) (m : M) → Fits Established a → IsNext a b (Says (greatest_dial a.appended) m)
      → Leads a b (Takes (Says (greatest_dial a.appended) m) ∷ []) Established
  accept_fit a b m f is =
      let more = accepted_more a.phase (greatest_dial a.appended) (greatest_dial a.appended) m a.used f.phase refl in
      (((is, tt), tt), record { phase = f.phase; has_said = f.has_said; has_used = (let u = f.has_used in omega (arith, u, more)) })

  -- a message more is told
  speak_fit : (st : SessionState) (a b : End M) (m : M) → MaySay st → Fits st a → Leads a b (Tells m ∷ []) st
  speak_fit Idle a b m may f = absurd may
  speak_fit Connect a b m may f = absurd may
  speak_fit Active a b m may f = absurd may
  speak_fit OpenSent a b m may f = absurd may
  speak_fit OpenConfirm a b m may f =
      ((f.phase, tt), record { phase = f.phase; has_said = (let t = told_more a m in let u = f.has_said in omega (arith, t, u)); has_used = told_used a m ∙ f.has_used })
  speak_fit Established a b m may f =
      ((f.phase, tt), record { phase = f.phase; has_said = (let t = told_more a m in let u = f.has_said in omega (arith, t, u)); has_used = (let t = told_used a m in let u = f.has_used in omega (arith, t, u)) })

  mark_fit : (a b : End M) (s : ℕ) → Fits Established a → Leads a b (Marks s ∷ []) Established
  mark_fit a b s f =
      let same : greatest_dial (a.appended ++ Mark (greatest_dial a.appended) s ∷ []) ≡ greatest_dial a.appended = omega (arith, greatest_dial-append a.appended (Mark (greatest_dial a.appended) s ∷ [])) in
      let more : said (greatest_dial a.appended) (a.appended ++ Mark (greatest_dial a.appended) s ∷ []) ≡ said (greatest_dial a.appended) a.appended = said-append (greatest_dial a.appended) a.appended (Mark (greatest_dial a.appended) s ∷ []) ∙ append-nil (said (greatest_dial a.appended) a.appended) in
      ((established_up Established a f refl, tt), record { phase = f.phase; has_said = rw (same, more) f.has_said; has_used = rw same f.has_used })

  -- a close: told where there is a NOTIFICATION, and hung up where there is something to hang up
  close_fit : (a b : End M) (p : Phase) (ms : List M) → a.phase ≡ p → MayNotify p ms → Leads a b (telling ms ++ hanging p) Idle
  close_fit a b Closed [] is may = (tt, record { phase = is; has_said = tt; has_used = tt })
  close_fit a b Closed (m ∷ ms) is may = absurd (cc may)
  close_fit a b Offered [] is may = (((λ c. cc (c, is)), tt), record { phase = refl; has_said = tt; has_used = tt })
  close_fit a b Offered (m ∷ ms) is may = absurd (cc may)
  close_fit a b Joined [] is may = (((λ c. cc (c, is)), tt), record { phase = refl; has_said = tt; has_used = tt })
  close_fit a b Joined (m ∷ []) is may = ((is, ((λ c. cc (c, is)), tt)), record { phase = refl; has_said = tt; has_used = tt })
  close_fit a b Joined (m ∷ n ∷ ms) is may = absurd (omega (arith, may))

  -- an entry that is taken and not used
  passed_used : (p : Phase) (n e : ℕ) (m : M) (used : List (Entry M)) → (p ≡ Joined → e ≢ n) → used_with p n e m used ≡ used
  passed_used Closed n e m used h = refl
  passed_used Offered n e m used h = refl
  passed_used Joined n e m used h = (let apart = h refl in let miss : (n == e) ≡ false = grind (arith, nat_tests, apart) in rw miss refl)

  pass_fit : (st : SessionState) (a b : End M) (x : Entry M) → Fits st a → IsNext a b x → IsPassed a x → Leads a b (Takes x ∷ []) st
  pass_fit st a b (Dial e) f is may = (((is, tt), tt), record { phase = may ∙ f.phase; has_said = f.has_said; has_used = f.has_used })
  pass_fit st a b (Says e m) f is may =
      (((is, tt), tt), record { phase = f.phase; has_said = f.has_said; has_used = rw (passed_used a.phase (greatest_dial a.appended) e m a.used may) f.has_used })
  pass_fit st a b (Mark e s) f is may = (((is, tt), tt), record { phase = f.phase; has_said = f.has_said; has_used = f.has_used })
  pass_fit st a b (Shut e) f is may = (((is, may), tt), record { phase = f.phase; has_said = f.has_said; has_used = f.has_used })

  -- an offer that is taken back is dialled again
  retry_fit : (a b : End M) (own_open : M) → a.phase ≡ Offered → EndFacts a b → EndFacts b a → Leads a b (HangsUp ∷ start_moves (answers a) own_open) (joined_or (answers a) Connect)
  retry_fit a b own_open is g k =
      let may : May a b HangsUp = λ c. cc (c, is) in
      let d : End M = hanging_up a in
      let same : greatest_dial d.appended ≡ greatest_dial a.appended = omega (arith, greatest_dial-append a.appended (Shut (greatest_dial a.appended) ∷ [])) in
      let answer : answers d ≡ answers a = rw same refl in
      let then = dials_fit d b own_open (answers a) answer (λ j. absurd cc) (λ o. absurd cc) (own_facts a b HangsUp may g k) (other_facts a b HangsUp k) in
      ((may, then.0), then.1)

  restart_phase : (st : SessionState) (a : End M) → MayRestart st → Fits st a → a.phase ≡ Closed
  restart_phase Idle a may f = f.phase
  restart_phase Active a may f = f.phase
  restart_phase Connect a may f = absurd may
  restart_phase OpenSent a may f = absurd may
  restart_phase OpenConfirm a may f = absurd may
  restart_phase Established a may f = absurd may

  waiting_phase : (st : SessionState) (a : End M) → WaitsForPeer st → Fits st a → a.phase ≡ Joined → ⊥
  waiting_phase Idle a may f j = may
  waiting_phase Active a may f j = (let p = f.phase in cc (p, j))
  waiting_phase Connect a may f j = (let p = f.phase in cc (p, j))
  waiting_phase OpenSent a may f j = may
  waiting_phase OpenConfirm a may f j = may
  waiting_phase Established a may f j = may

  fits_in : (a : End M) (st st' : SessionState) → st ≡ st' → Fits st a → Fits st' a
  fits_in a st st' e f = subst (λ i. Fits i a) e f

  -- each event of a session leads on
  pub event_fits : (x : Side M) (b : End M) (event : SessionEvent M) → Fits x.state x.end → EndFacts x.end b → EndFacts b x.end → MayCome x b event
      → Leads x.end b (moves_of x.end event) (state_after x event)
  event_fits x b (Starts own_open) f g k may =
      let closed = restart_phase x.state x.end may f in
      dials_fit x.end b own_open (answers x.end) refl (λ j. cc (j, closed)) (λ o. absurd (cc (o, closed))) g k
  event_fits x b (Retries own_open) f g k may = retry_fit x.end b own_open ((fits_in x.end x.state Connect may f).phase) g k
  event_fits x b (Confirms e own_open) f g k may = awaited_fit x.end b e own_open ((fits_in x.end x.state Connect may.0 f).phase) g k may.1 may.2 may.3
  event_fits x b (Yields e own_open) f g k may = greater_fit x.end b e own_open (waiting_phase x.state x.end may.0 f) g k may.1 may.2 may.3
  event_fits x b (AcceptsOpen peer_open keepalive) f g k may = open_fit x.end b peer_open keepalive (fits_in x.end x.state OpenSent may.0 f) may.1
  event_fits x b (AcceptsKeepalive keepalive) f g k may = keepalive_fit x.end b keepalive (fits_in x.end x.state OpenConfirm may.0 f) may.1
  event_fits x b (Accepts what) f g k may =
      let l = accept_fit x.end b what (fits_in x.end x.state Established may.0 f) may.1 in (l.0, fits_in (afters x.end (moves_of x.end (Accepts what))) Established x.state (sym may.0) l.1)
  event_fits x b (Speaks what) f g k may = speak_fit x.state x.end b what may f
  event_fits x b (SendsMarker s) f g k may =
      let l = mark_fit x.end b s (fits_in x.end x.state Established may f) in (l.0, fits_in (afters x.end (moves_of x.end (SendsMarker s))) Established x.state (sym may) l.1)
  event_fits x b (Closes notification) f g k may = close_fit x.end b x.end.phase notification refl may.1
  event_fits x b Fails f g k may =
      let p = (fits_in x.end x.state OpenSent may f).phase in (((λ c. cc (c, p)), tt), record { phase = refl; has_said = tt; has_used = tt })
  event_fits x b (Passes entry) f g k may = pass_fit x.state x.end b entry f may.0 may.1
