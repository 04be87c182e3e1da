-- One event of a session, and several.
use Rattle.std.proofs.Common.{◌≡◌, Bool, true, false, ◌&&◌, ◌||◌, not, List, [], ◌∷◌, ◌++◌, refl, ap, sym, ◌∙◌, append_assoc, subst, inl, inr, ◌⊎◌, arith}
use Rattle.session_fsm.specs.declared.state.State.{State}
use Rattle.std.proofs.lemmas.List.{append-nil}
use Rattle.bgp_codec.specs.declared.message.Message.{Message}
use Rattle.run_model.specs.Links.{Entry, End, Move, after}
use Rattle.run_model.specs.Sessions as model
use Rattle.run_model.specs.Sessions.{SessionEvent, SessionState, Fits, MayCome, MayRestart, WaitsForPeer, moves_of, state_after, afters, side_after}
use Rattle.run_model.specs.Facts.{EndFacts, MayInTurn}
use Rattle.router_model.specs.Sides.{Side, is_up, is_established}
use Rattle.router_runs.specs.Reading.{Reads, MayComeAll, sides_after, state_of, phase_of, model_side}
use Rattle.router_runs.specs.Moving.{side_by, says_of, takes_of, sides_by, says_by, takes_by, Read}
use Rattle.router_runs.specs.Doing.{Stands, Does, is_up_in, closes, leaves_in}
use Rattle.router_runs.proofs.Moving.{moves_are_read}
use Rattle.router_runs.proofs.Lower.{Laws, event_fits}

module _ (laws : Laws) where
  pub reads_like : (s t : Side) (a : End Message) → s.link ≡ t.link → s.acted ≡ t.acted → s.sent ≡ t.sent → Reads s a → Reads t a
  reads_like s t a l p q r = record {
    phase = r.phase ∙ ap (λ i. phase_of i.phase) l;
    epoch = ap (λ i. i.epoch) (sym l) ∙ r.epoch;
    heard = ap (λ i. i.heard) (sym l) ∙ r.heard;
    is_shut = ap (λ i. i.heard_is_shut) (sym l) ∙ r.is_shut;
    acted = λ e. ap (λ f. f e) (sym p) ∙ r.acted e;
    sent = λ e. ap (λ f. f e) (sym q) ∙ r.sent e;
  }

  -- moves, one after another
  pub moved_on : (ms : List (Move Message)) (s : Side) (a b : End Message) → Reads s a → EndFacts a b → EndFacts b a → MayInTurn a b ms
      → Read (sides_by ms s) (says_by ms s) (takes_by ms) a (afters a ms) × EndFacts (afters a ms) b × EndFacts b (afters a ms)
  moved_on [] s a b r g k may = (record { reads = r; appends = sym (append-nil a.appended); takes = sym (append-nil a.taken) }, g, k)
  moved_on (m ∷ ms) s a b r g k may =
      let one = moves_are_read laws m s a b r g k may.0 in
      let rest = moved_on ms (side_by m s) (after a m) b one.reads (laws.keeps a b m may.0 g k).0 (laws.keeps a b m may.0 g k).1 may.1 in (
        record {
          reads = rest.0.reads;
          appends = rest.0.appends ∙ (ap (λ w. w ++ says_by ms (side_by m s)) one.appends ∙ append_assoc a.appended (says_of m s) (says_by ms (side_by m s)));
          takes = rest.0.takes ∙ (ap (λ w. w ++ takes_by ms) one.takes ∙ append_assoc a.taken (takes_of m) (takes_by ms));
        },
        rest.1,
        rest.2,
      )

  -- ---- what leaves Established

  pub up_in : (st : State) → is_up_in (state_of st) ≡ is_established st
  up_in st = grind arith

  pub same_up : (s t : Side) → state_of s.session.state ≡ state_of t.session.state → is_up s ≡ is_up t
  same_up s t h = sym (up_in s.session.state) ∙ (ap is_up_in h ∙ up_in t.session.state)

  stays_up : (p q : Bool) → p ≡ q → (p && false) ≡ (p && not q)
  stays_up true true h = refl
  stays_up true false h = absurd (cc h)
  stays_up false q h = refl

  never_up : (p q : Bool) → p ≡ false → (p && false) ≡ (p && not q)
  never_up true q h = absurd (cc h)
  never_up false q h = refl

  restarts : (st : SessionState) → MayRestart st → is_up_in st ≡ false
  restarts st h = grind arith

  waits : (st : SessionState) → WaitsForPeer st → is_up_in st ≡ false
  waits st h = grind arith

  leaves_one : (x : model.Side Message) (b : End Message) (e : SessionEvent Message) → MayCome x b e → (is_up_in x.state && closes e) ≡ (is_up_in x.state && not (is_up_in (state_after x e)))
  leaves_one x b (model.Starts m) may = never_up (is_up_in x.state) (is_up_in (state_after x (model.Starts m))) (restarts x.state may)
  leaves_one x b (model.Retries m) may = never_up (is_up_in x.state) (is_up_in (state_after x (model.Retries m))) (ap is_up_in may)
  leaves_one x b (model.Confirms e m) may = never_up (is_up_in x.state) (is_up_in (state_after x (model.Confirms e m))) (ap is_up_in may.0)
  leaves_one x b (model.Yields e m) may = never_up (is_up_in x.state) (is_up_in (state_after x (model.Yields e m))) (waits x.state may.0)
  leaves_one x b (model.AcceptsOpen m k) may = never_up (is_up_in x.state) (is_up_in (state_after x (model.AcceptsOpen m k))) (ap is_up_in may.0)
  leaves_one x b (model.AcceptsKeepalive m) may = never_up (is_up_in x.state) (is_up_in (state_after x (model.AcceptsKeepalive m))) (ap is_up_in may.0)
  leaves_one x b (model.Accepts m) may = stays_up (is_up_in x.state) (is_up_in x.state) refl
  leaves_one x b (model.Speaks m) may = stays_up (is_up_in x.state) (is_up_in x.state) refl
  leaves_one x b (model.SendsMarker n) may = stays_up (is_up_in x.state) (is_up_in x.state) refl
  leaves_one x b (model.Closes ms) may = refl
  leaves_one x b model.Fails may = never_up (is_up_in x.state) (is_up_in (state_after x model.Fails)) (ap is_up_in may)
  leaves_one x b (model.Passes k) may = stays_up (is_up_in x.state) (is_up_in x.state) refl

  or_none : (p : Bool) → (p || false) ≡ p
  or_none true = refl
  or_none false = refl

  none_leaves : (p q : Bool) → p ≡ q → false ≡ (p && not q)
  none_leaves true true h = refl
  none_leaves true false h = absurd (cc h)
  none_leaves false q h = refl

  -- of two steps, one after another: at least one stays, or the second begins and ends in a session that is not up
  abbrev pub IsSteady : Bool → Bool → Bool → Type 0
  IsSteady p q r = (p ≡ q) ⊎ ((q ≡ r) ⊎ ((q ≡ false) × (r ≡ false)))

  steady_leaves : (p q r : Bool) → IsSteady p q r → ((p && not q) || (q && not r)) ≡ (p && not r)
  steady_leaves true true r h = refl
  steady_leaves true false true (inl h) = absurd (cc h)
  steady_leaves true false true (inr (inl h)) = absurd (cc h)
  steady_leaves true false true (inr (inr h)) = absurd (let k = h.1 in cc k)
  steady_leaves true false false h = refl
  steady_leaves false true true h = refl
  steady_leaves false true false (inl h) = absurd (cc h)
  steady_leaves false true false (inr (inl h)) = absurd (cc h)
  steady_leaves false true false (inr (inr h)) = absurd (let k = h.0 in cc k)
  steady_leaves false false r h = refl

  or_assoc : (p q r : Bool) → (p || (q || r)) ≡ ((p || q) || r)
  or_assoc true q r = refl
  or_assoc false q r = refl

  pub leaves_append : (x : model.Side Message) (es fs : List (SessionEvent Message)) → leaves_in x (es ++ fs) ≡ (leaves_in x es || leaves_in (sides_after x es) fs)
  leaves_append x [] fs = refl
  leaves_append x (e ∷ es) fs =
      ap (λ k. (is_up_in x.state && closes e) || k) (leaves_append (side_after x e) es fs)
      ∙ or_assoc (is_up_in x.state && closes e) (leaves_in (side_after x e) es) (leaves_in (sides_after (side_after x e) es) fs)

  -- one event, whose moves are these
  pub by_event : (s t : Side) (a b : End Message) (event : SessionEvent Message) (ms : List (Move Message)) → Stands s a b → MayCome (model_side s a) b event → moves_of a event ≡ ms
      → state_after (model_side s a) event ≡ state_of t.session.state → (sides_by ms s).link ≡ t.link → (sides_by ms s).acted ≡ t.acted → (sides_by ms s).sent ≡ t.sent
      → Does s t (says_by ms s) (takes_by ms) a b
  by_event s t a b event ms at may are state link acted sent =
      let l = event_fits laws (model_side s a) b event at.fits at.mine at.theirs may in
      let r = moved_on ms s a b at.reads at.mine at.theirs (subst (MayInTurn a b) are l.may) in
      let is : afters a (moves_of a event) ≡ afters a ms = ap (afters a) are in
      record {
        events = event ∷ [];
        may = (may, tt);
        state = state;
        stands = record {
          reads = subst (λ c. Reads t c) (sym is) (reads_like (sides_by ms s) t (afters a ms) link acted sent r.0.reads);
          fits = subst (λ i. Fits i (afters a (moves_of a event))) state l.fits;
          mine = subst (λ c. EndFacts c b) (sym is) r.1;
          theirs = subst (λ c. EndFacts b c) (sym is) r.2;
        };
        appends = ap (λ c. c.appended) is ∙ r.0.appends;
        takes = ap (λ c. c.taken) is ∙ r.0.takes;
        leaves = or_none (is_up_in (state_of s.session.state) && closes event)
            ∙ (leaves_one (model_side s a) b event may
            ∙ (ap (λ k. is_up_in (state_of s.session.state) && not (is_up_in k)) state
            ∙ (ap (λ k. k && not (is_up_in (state_of t.session.state))) (up_in s.session.state) ∙ ap (λ k. is_up s && not k) (up_in t.session.state))));
      }

  -- the side and its end behind one event, whose moves are these
  pub event_stands : (s t : Side) (a b : End Message) (event : SessionEvent Message) (ms : List (Move Message)) → Stands s a b → MayCome (model_side s a) b event → moves_of a event ≡ ms
      → state_after (model_side s a) event ≡ state_of t.session.state → (sides_by ms s).link ≡ t.link → (sides_by ms s).acted ≡ t.acted → (sides_by ms s).sent ≡ t.sent
      → Stands t (afters a ms) b
  event_stands s t a b event ms at may are state link acted sent =
      let l = event_fits laws (model_side s a) b event at.fits at.mine at.theirs may in
      let r = moved_on ms s a b at.reads at.mine at.theirs (subst (MayInTurn a b) are l.may) in
      let is : afters a (moves_of a event) ≡ afters a ms = ap (afters a) are in
      record {
        reads = reads_like (sides_by ms s) t (afters a ms) link acted sent r.0.reads;
        fits = subst (Fits (state_of t.session.state)) is (subst (λ i. Fits i (afters a (moves_of a event))) state l.fits);
        mine = r.1;
        theirs = r.2;
      }

  -- none
  pub no_event : (s t : Side) (a b : End Message) → Stands s a b → state_of s.session.state ≡ state_of t.session.state → s.link ≡ t.link → s.acted ≡ t.acted → s.sent ≡ t.sent → Does s t [] [] a b
  no_event s t a b at state link acted sent = record {
    events = [];
    may = tt;
    state = state;
    stands = record { reads = reads_like s t a link acted sent at.reads; fits = subst (λ i. Fits i a) state at.fits; mine = at.mine; theirs = at.theirs };
    appends = sym (append-nil a.appended);
    takes = sym (append-nil a.taken);
    leaves = none_leaves (is_up s) (is_up t) (same_up s t state);
  }

  pub sides_append : (x : model.Side Message) (es fs : List (SessionEvent Message)) → sides_after x (es ++ fs) ≡ sides_after (sides_after x es) fs
  sides_append x [] fs = refl
  sides_append x (e ∷ es) fs = sides_append (side_after x e) es fs

  pub come_append : (x : model.Side Message) (b : End Message) (es fs : List (SessionEvent Message)) → MayComeAll x b es → MayComeAll (sides_after x es) b fs → MayComeAll x b (es ++ fs)
  come_append x b [] fs p q = q
  come_append x b (e ∷ es) fs p q = (p.0, come_append (side_after x e) b es fs p.1 q)

  -- one after another
  pub then_does : (s t r : Side) (new past more gone : List (Entry Message)) (a b : End Message) → IsSteady (is_up s) (is_up t) (is_up r) → Does s t new past a b
      → ((c : End Message) → c.appended ≡ a.appended ++ new → c.taken ≡ a.taken ++ past → Stands t c b → Does t r more gone c b)
      → Does s r (new ++ more) (past ++ gone) a b
  then_does s t r new past more gone a b steady d next =
      let x = sides_after (model_side s a) d.events in
      let c : End Message = x.end in
      let n = next c d.appends d.takes d.stands in
      let middle : x ≡ model_side t c = ap (λ i. record { state = i; end = c }) d.state in
      let whole : sides_after (model_side s a) (d.events ++ n.events) ≡ sides_after (model_side t c) n.events = sides_append (model_side s a) d.events n.events ∙ ap (λ i. sides_after i n.events) middle in
      record {
        events = d.events ++ n.events;
        may = come_append (model_side s a) b d.events n.events d.may (subst (λ i. MayComeAll i b n.events) (sym middle) n.may);
        state = ap (λ i. i.state) whole ∙ n.state;
        stands = subst (λ (i : model.Side Message). Stands r i.end b) (sym whole) n.stands;
        appends = ap (λ i. i.end.appended) whole ∙ (n.appends ∙ (ap (λ w. w ++ more) d.appends ∙ append_assoc a.appended new more));
        takes = ap (λ i. i.end.taken) whole ∙ (n.takes ∙ (ap (λ w. w ++ gone) d.takes ∙ append_assoc a.taken past gone));
        leaves = leaves_append (model_side s a) d.events n.events
            ∙ (ap (λ i. leaves_in (model_side s a) d.events || leaves_in i n.events) middle
            ∙ (ap (λ k. k || leaves_in (model_side t c) n.events) d.leaves ∙ (ap (λ k. (is_up s && not (is_up t)) || k) n.leaves ∙ steady_leaves (is_up s) (is_up t) (is_up r) steady)));
      }
