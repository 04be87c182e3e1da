-- The events of a side as events of the network of the laws of runs, where no UPDATE is told and no marker sent or taken.
use Rattle.std.proofs.Common.{◌≡◌, ◌≢◌, ℕ, ◌==◌, true, false, List, [], ◌∷◌, ◌++◌, refl, ap, sym, ◌∙◌, subst, arith, append_assoc}
use Rattle.std.proofs.lemmas.List.{append-nil, append_cancel_left}
use Rattle.std.proofs.lemmas.Bool.Decides.{nat_tests}
use Rattle.prefix_lanes.specs.Bits.{PrefixView}
use Rattle.bgp_codec.specs.declared.message.Message.{Message}
use Rattle.run_model.specs.Links as links
use Rattle.run_model.specs.Links.{Entry, Dial, Says, Mark, Shut, End, Move, Dials, Tells, Marks, HangsUp, Takes, incarnation, next_incarnation}
use Rattle.run_model.specs.Sessions as model
use Rattle.run_model.specs.Sessions.{SessionEvent, Fits, moves_of, afters, side_after}
use Rattle.run_model.specs.Recordings.{Moves, IsPlain}
use Rattle.run_model.specs.Routes as routes
use Rattle.run_model.specs.Routes.{NetworkStep, Acts, IsNetworkRun, routers_after, advanced}
use Rattle.run_model.specs.Facts.{EndFacts, MayInTurn}
use Rattle.router_model.specs.Sides.{Side}
use Rattle.router_model.specs.Settings.{Setting}
use Rattle.router_model.specs.Messages.{is_update}
use Rattle.router_runs.specs.Model.{network_of}
use Rattle.router_runs.specs.Reading.{MayComeAll, sides_after, model_side}
use Rattle.router_runs.specs.Doing.{Stands, Does}
use Rattle.router_runs.specs.Acts.{SaysNoUpdate, HasNoMark, QuietStepsAreActs}
use Rattle.router_runs.proofs.Lower.{Laws}

module _ (laws : Laws) where
  -- ---- the moves of events

  abbrev pub moves_all : model.Side Message → List (SessionEvent Message) → List (Move Message)
  moves_all x [] = []
  moves_all x (e ∷ es) = moves_of x.end e ++ moves_all (side_after x e) es

  may_append : (ms ns : List (Move Message)) (a b : End Message) → MayInTurn a b ms → MayInTurn (afters a ms) b ns → MayInTurn a b (ms ++ ns)
  may_append [] ns a b p q = q
  may_append (m ∷ ms) ns a b p q = (p.0, may_append ms ns (links.after a m) b p.1 q)

  afters_append : (ms ns : List (Move Message)) (a : End Message) → afters a (ms ++ ns) ≡ afters (afters a ms) ns
  afters_append [] ns a = refl
  afters_append (m ∷ ms) ns a = afters_append ms ns (links.after a m)

  pub all_moves : (es : List (SessionEvent Message)) (x : model.Side Message) (b : End Message) → MayComeAll x b es → Fits x.state x.end → EndFacts x.end b → EndFacts b x.end
      → MayInTurn x.end b (moves_all x es) × (afters x.end (moves_all x es) ≡ (sides_after x es).end)
  all_moves [] x b may f g k = (tt, refl)
  all_moves (e ∷ es) x b may f g k =
      let l = laws.leads x b e f g k may.0 in
      let rest = all_moves es (side_after x e) b may.1 l.fits l.mine l.theirs in
      (may_append (moves_of x.end e) (moves_all (side_after x e) es) x.end b l.may rest.0, afters_append (moves_of x.end e) (moves_all (side_after x e) es) x.end ∙ rest.1)

  -- ---- what they append and take tells what they are

  abbrev pub IsQuiet : Move Message → Type 0
  IsQuiet Dials = Unit {0}
  IsQuiet (Tells m) = is_update m ≡ false
  IsQuiet (Marks n) = ⊥
  IsQuiet HangsUp = Unit {0}
  IsQuiet (Takes (Dial e)) = Unit {0}
  IsQuiet (Takes (Says e m)) = Unit {0}
  IsQuiet (Takes (Mark e n)) = ⊥
  IsQuiet (Takes (Shut e)) = Unit {0}

  abbrev pub AllQuiet : List (Move Message) → Type 0
  AllQuiet [] = Unit {0}
  AllQuiet (m ∷ ms) = IsQuiet m × AllQuiet ms

  abbrev appended_by : End Message → List (Move Message) → List (Entry Message)
  appended_by a [] = []
  appended_by a (Dials ∷ ms) = Dial (next_incarnation a) ∷ appended_by (links.after a Dials) ms
  appended_by a (Tells m ∷ ms) = Says (incarnation a) m ∷ appended_by (links.after a (Tells m)) ms
  appended_by a (Marks n ∷ ms) = Mark (incarnation a) n ∷ appended_by (links.after a (Marks n)) ms
  appended_by a (HangsUp ∷ ms) = Shut (incarnation a) ∷ appended_by (links.after a HangsUp) ms
  appended_by a (Takes x ∷ ms) = appended_by (links.after a (Takes x)) ms

  abbrev taken_by : List (Move Message) → List (Entry Message)
  taken_by [] = []
  taken_by (Dials ∷ ms) = taken_by ms
  taken_by (Tells m ∷ ms) = taken_by ms
  taken_by (Marks n ∷ ms) = taken_by ms
  taken_by (HangsUp ∷ ms) = taken_by ms
  taken_by (Takes x ∷ ms) = x ∷ taken_by ms

  taking_keeps : (a : End Message) (x : Entry Message) → ((links.taking a x).appended ≡ a.appended) × ((links.taking a x).taken ≡ a.taken ++ x ∷ [])
  taking_keeps a x = grind arith

  appends : (ms : List (Move Message)) (a : End Message) → (afters a ms).appended ≡ a.appended ++ appended_by a ms
  appends [] a = sym (append-nil a.appended)
  appends (Dials ∷ ms) a = appends ms (links.after a Dials) ∙ append_assoc a.appended (Dial (next_incarnation a) ∷ []) (appended_by (links.after a Dials) ms)
  appends (Tells m ∷ ms) a = appends ms (links.after a (Tells m)) ∙ append_assoc a.appended (Says (incarnation a) m ∷ []) (appended_by (links.after a (Tells m)) ms)
  appends (Marks n ∷ ms) a = appends ms (links.after a (Marks n)) ∙ append_assoc a.appended (Mark (incarnation a) n ∷ []) (appended_by (links.after a (Marks n)) ms)
  appends (HangsUp ∷ ms) a = appends ms (links.after a HangsUp) ∙ append_assoc a.appended (Shut (incarnation a) ∷ []) (appended_by (links.after a HangsUp) ms)
  appends (Takes x ∷ ms) a = appends ms (links.after a (Takes x)) ∙ ap (λ l. l ++ appended_by (links.after a (Takes x)) ms) (taking_keeps a x).0

  takes : (ms : List (Move Message)) (a : End Message) → (afters a ms).taken ≡ a.taken ++ taken_by ms
  takes [] a = sym (append-nil a.taken)
  takes (Dials ∷ ms) a = takes ms (links.after a Dials)
  takes (Tells m ∷ ms) a = takes ms (links.after a (Tells m))
  takes (Marks n ∷ ms) a = takes ms (links.after a (Marks n))
  takes (HangsUp ∷ ms) a = takes ms (links.after a HangsUp)
  takes (Takes x ∷ ms) a = takes ms (links.after a (Takes x)) ∙ (ap (λ l. l ++ taken_by ms) (taking_keeps a x).1 ∙ append_assoc a.taken (x ∷ []) (taken_by ms))

  quiet_moves : (ms : List (Move Message)) (a : End Message) → SaysNoUpdate (appended_by a ms) → HasNoMark (taken_by ms) → AllQuiet ms
  quiet_moves [] a p q = tt
  quiet_moves (Dials ∷ ms) a p q = (tt, quiet_moves ms (links.after a Dials) p q)
  quiet_moves (Tells m ∷ ms) a p q = (p.0, quiet_moves ms (links.after a (Tells m)) p.1 q)
  quiet_moves (Marks n ∷ ms) a p q = absurd p
  quiet_moves (HangsUp ∷ ms) a p q = (tt, quiet_moves ms (links.after a HangsUp) p q)
  quiet_moves (Takes (Dial e) ∷ ms) a p q = (tt, quiet_moves ms (links.after a (Takes (Dial e))) p q)
  quiet_moves (Takes (Says e m) ∷ ms) a p q = (tt, quiet_moves ms (links.after a (Takes (Says e m))) p q)
  quiet_moves (Takes (Mark e n) ∷ ms) a p q = absurd q
  quiet_moves (Takes (Shut e) ∷ ms) a p q = (tt, quiet_moves ms (links.after a (Takes (Shut e))) p q)

  -- a step from the end a to the end c, whose peer's end is b, by moves that tell no UPDATE and neither send nor take a marker
  pub record QuietMoves (a b c : End Message) : Type 0 where
    pub moves : List (Move Message)
    pub may : MayInTurn a b moves
    pub leads : afters a moves ≡ c
    pub quiet : AllQuiet moves

  pub all_quiet : (s t : Side) (new past : List (Entry Message)) (a b : End Message) → Stands s a b → (d : Does s t new past a b) → SaysNoUpdate new → HasNoMark past → AllQuiet (moves_all (model_side s a) d.events)
  all_quiet s t new past a b x d p q =
      let ms = moves_all (model_side s a) d.events in
      let l = all_moves d.events (model_side s a) b d.may x.fits x.mine x.theirs in
      let says : new ≡ appended_by a ms = append_cancel_left a.appended new (appended_by a ms) (sym d.appends ∙ (ap (λ c. c.appended) (sym l.1) ∙ appends ms a)) in
      let gone : past ≡ taken_by ms = append_cancel_left a.taken past (taken_by ms) (sym d.takes ∙ (ap (λ c. c.taken) (sym l.1) ∙ takes ms a)) in
      quiet_moves ms a (subst SaysNoUpdate says p) (subst HasNoMark gone q)

  pub quiet_does : (s t : Side) (new past : List (Entry Message)) (a b : End Message) → Stands s a b → (d : Does s t new past a b) → SaysNoUpdate new → HasNoMark past → QuietMoves a b (sides_after (model_side s a) d.events).end
  quiet_does s t new past a b x d p q =
      let l = all_moves d.events (model_side s a) b d.may x.fits x.mine x.theirs in
      record { moves = moves_all (model_side s a) d.events; may = l.0; leads = l.1; quiet = all_quiet s t new past a b x d p q }

  -- ---- moves as events of the network

  module _ (g : Setting) (u v : ℕ) (apart : u ≢ v) where
    abbrev pub acts : List (Move Message) → List (NetworkStep Message PrefixView (List ℕ))
    acts [] = []
    acts (m ∷ ms) = record { router = u; event = Acts (Moves v m) } ∷ acts ms

    pub plain : (m : Move Message) → IsQuiet m → IsPlain m × routes.TellsNoUpdate (network_of g) (Moves v m)
    plain Dials q = (tt, tt)
    plain (Tells m) q = (tt, rw q refl)
    plain (Marks n) q = absurd q
    plain HangsUp q = (tt, tt)
    plain (Takes (Dial e)) q = (tt, tt)
    plain (Takes (Says e m)) q = (tt, tt)
    plain (Takes (Mark e n)) q = absurd q
    plain (Takes (Shut e)) q = (tt, tt)

    -- what such events leave: the one end is moved, all else of links, tables and copies stays
    pub record Acted (w after : routes.Routers Message PrefixView (List ℕ)) (end : End Message) : Type 0 where
      pub own : (after u).recorder.ends v ≡ end
      pub ends : (y : ℕ) → (y == v) ≡ false → (after u).recorder.ends y ≡ (w u).recorder.ends y
      pub others : (x : ℕ) → (x == u) ≡ false → after x ≡ w x
      pub kept : (after u).kept ≡ (w u).kept
      pub originated : (after u).originated ≡ (w u).originated
      pub last : (after u).recorder.last ≡ (w u).recorder.last
      pub copy : (after u).recorder.copy ≡ (w u).recorder.copy
      pub waits : (after u).recorder.waits ≡ (w u).recorder.waits

    pub acts_run : (ms : List (Move Message)) (w : routes.Routers Message PrefixView (List ℕ)) → MayInTurn ((w u).recorder.ends v) ((w v).recorder.ends u) ms → AllQuiet ms
        → IsNetworkRun (network_of g) w (acts ms) × Acted w (routers_after (network_of g) w (acts ms)) (afters ((w u).recorder.ends v) ms)
    acts_run [] w may q = (tt, record { own = refl; ends = λ y h. refl; others = λ x h. refl; kept = refl; originated = refl; last = refl; copy = refl; waits = refl })
    acts_run (m ∷ ms) w may q =
        let t : NetworkStep Message PrefixView (List ℕ) = record { router = u; event = Acts (Moves v m) } in
        let p = plain m q.0 in
        let hit : (u == u) ≡ true = grind (arith, nat_tests) in
        let here : (v == v) ≡ true = grind (arith, nat_tests) in
        let back : v ≢ u = λ e. apart (sym e) in
        let miss : (v == u) ≡ false = grind (arith, nat_tests, back) in
        let next = advanced (network_of g) w t in
        let one : (next u).recorder.ends v ≡ links.after ((w u).recorder.ends v) m = rw (hit, here) refl in
        let peer : (next v).recorder.ends u ≡ (w v).recorder.ends u = rw miss refl in
        let rest = acts_run ms next (subst (λ i. MayInTurn ((next u).recorder.ends v) i ms) (sym peer) (subst (λ i. MayInTurn i ((w v).recorder.ends u) ms) (sym one) may.1)) q.1 in
        let r = rest.1 in (
          (((apart, p.0, may.0), p.1), rest.0),
          record {
            own = r.own ∙ ap (λ i. afters i ms) one;
            ends = λ y h. r.ends y h ∙ rw (hit, h) refl;
            others = λ x h. r.others x h ∙ rw h refl;
            kept = r.kept ∙ rw hit refl;
            originated = r.originated ∙ rw hit refl;
            last = r.last ∙ rw hit refl;
            copy = r.copy ∙ rw hit refl;
            waits = r.waits ∙ rw hit refl;
          },
        )

  pub quiet_steps_are_acts : QuietStepsAreActs
  quiet_steps_are_acts g w u v apart s t new past x d p q =
      let m = quiet_does s t new past ((w u).recorder.ends v) ((w v).recorder.ends u) x d p q in
      let r = acts_run g u v apart m.moves w m.may m.quiet in
      record {
        steps = acts g u v apart m.moves;
        run = r.0;
        stands = subst (λ c. Stands t c ((w v).recorder.ends u)) (sym (r.1.own ∙ m.leads)) d.stands;
        ends = r.1.ends;
        others = r.1.others;
        kept = r.1.kept;
        originated = r.1.originated;
        last = r.1.last;
        copy = r.1.copy;
        waits = r.1.waits;
      }
