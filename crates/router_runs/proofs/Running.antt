-- A run of routers, on each link.
use Rattle.std.proofs.Common.{◌≡◌, ◌≢◌, ℕ, ◌==◌, Bool, true, false, List, [], ◌∷◌, ◌++◌, refl, ap, sym, ◌∙◌, subst, arith, append_assoc}
use Rattle.std.specs.Prelude.{if◌then◌else◌}
use mathlib.Core.List.{IsPrefix}
use Rattle.std.proofs.lemmas.List.{append-nil}
use Rattle.std.proofs.lemmas.Bool.Decides.{nat_tests}
use Rattle.bgp_codec.specs.Spelling.{written}
use Rattle.bgp_codec.specs.declared.message.Message.{Message}
use Rattle.link_epoch.specs.declared.link_end.Phase.TheVariants as phase
use Rattle.ranked_policy.specs.Plans.{IsNetwork}
use Rattle.run_model.specs.Links.{Entry, End, opening, ends_after, heard_number, incarnation}
use Rattle.run_model.specs.Sessions as model
use Rattle.run_model.specs.Sessions.{SessionEvent, SessionStep, Sides, IsSessionRun, MayCome, first_sides, came, side_after, all_moves}
use Rattle.run_model.specs.Octets.{passing, AllGood}
use Rattle.run_model.specs.Network as runs
use Rattle.run_model.specs.Network.{NetworkEvent, taken_from, put_towards, put_between, taken_between}
use Rattle.outbox.specs.declared.item.What.{What}
use Rattle.router_model.specs.Sides.{Side}
use Rattle.snap_marker.specs.Recordings.{MadeOffer}
use Rattle.router_model.specs.Settings.{Setting, linked}
use Rattle.router_model.specs.State.{Router}
use Rattle.router_model.specs.Step.{Own, RouterEvent, Step, after, says}
use Rattle.outbox.specs.Items.{passes}
use Rattle.router_model.specs.Laws.{all_passes}
use Rattle.bgp_values.specs.declared.width.Width.{Width}
use Rattle.router_runs.proofs.Widths.{keeps_width}
use Rattle.router_runs.specs.Runs.{Logged, LoggedStep, RunState, logged_steps, written_in}
use Rattle.router_runs.specs.Runs.{side_of, log_of}
use Rattle.router_runs.specs.Reading.{MayComeAll, sides_after, phase_of, model_side}
use Rattle.router_runs.specs.Kept.{IsGood, Holds, Advances, SideKept, LinkKept, LinkAt, PutsItsLog, Reached, AllAreGood}
use Rattle.router_runs.proofs.Stepping.{Before}
use Rattle.router_runs.proofs.Events.{step_side}
use Rattle.router_runs.proofs.Lower.{Laws, joined_heard, passing_more, session_runs_go_on, sessions_make_a_link_run, steps_append}
use Rattle.router_runs.proofs.Entries.{prefix_trans}

module _ (laws : Laws) where
  -- ---- events of one session make a run of sessions longer

  abbrev pub steps_of : ℕ → ℕ → List (SessionEvent Message) → List (SessionStep Message)
  steps_of u v [] = []
  steps_of u v (e ∷ es) = record { router = u; peer = v; event = e } ∷ steps_of u v es

  own_came : (w : Sides Message) (u v : ℕ) (e : SessionEvent Message) → came w (record { router = u; peer = v; event = e }) u v ≡ side_after (w u v) e
  own_came w u v e =
      let hu : (u == u) ≡ true = grind (arith, nat_tests) in
      let hv : (v == v) ≡ true = grind (arith, nat_tests) in rw (hu, hv) refl

  peer_stays : (w : Sides Message) (u v : ℕ) (e : SessionEvent Message) → u ≢ v → came w (record { router = u; peer = v; event = e }) v u ≡ w v u
  peer_stays w u v e apart =
      let back : v ≢ u = λ q. apart (sym q) in
      let miss : (v == u) ≡ false = grind (arith, nat_tests, back) in rw miss refl

  record Comes (w : Sides Message) (u v : ℕ) (es : List (SessionEvent Message)) : Type 0 where
    run : IsSessionRun w (steps_of u v es)
    own : model.sides_after w (steps_of u v es) u v ≡ sides_after (w u v) es
    peer : model.sides_after w (steps_of u v es) v u ≡ w v u

  come_all : (es : List (SessionEvent Message)) (w : Sides Message) (u v : ℕ) → u ≢ v → MayComeAll (w u v) (w v u).end es → Comes w u v es
  come_all [] w u v apart may = record { run = tt; own = refl; peer = refl }
  come_all (e ∷ es) w u v apart may =
      let t : SessionStep Message = record { router = u; peer = v; event = e } in
      let to : came w t u v ≡ side_after (w u v) e = own_came w u v e in
      let stays : came w t v u ≡ w v u = peer_stays w u v e apart in
      let rest = come_all es (came w t) u v apart (subst (λ (b : model.Side Message). MayComeAll (came w t u v) b.end es) (sym stays) (subst (λ (x : model.Side Message). MayComeAll x (w v u).end es) (sym to) may.1)) in
      record { run = (apart, may.0, rest.run); own = rest.own ∙ ap (λ x. sides_after x es) to; peer = rest.peer ∙ stays }

  -- ---- one link

  turned : (g : Setting) (u v : ℕ) (s t : Side) (log other : List (Entry Message)) (items back : List What) → LinkKept g u v s t log other items back → LinkKept g v u t s other log back items
  turned g u v s t log other items back k = record { steps = k.steps; run = k.run; here = k.there; there = k.here }

  pub all_more : (xs ys : List What) → all_passes (xs ++ ys) ≡ all_passes xs ++ all_passes ys
  all_more [] ys = refl
  all_more (x ∷ xs) ys = ap (λ w. passes x ++ w) (all_more xs ys) ∙ sym (append_assoc (passes x) (all_passes xs) (all_passes ys))

  -- an end that is joined has heard its own number
  pub own_number : (g : Setting) (u v : ℕ) (s t : Side) (log other : List (Entry Message)) (items back : List What) → u ≢ v → LinkKept g u v s t log other items back → s.link.phase ≡ phase.Joined → s.link.heard ≡ s.link.epoch
  own_number g u v s t log other items back apart k j =
      let l = sessions_make_a_link_run laws k.steps k.run in
      let e : End Message = ends_after opening (all_moves first_sides k.steps) u v in
      let is : e ≡ (model.sides_after first_sides k.steps u v).end = l.1 u v in
      let r = k.here.stands.reads in
      let n : heard_number e ≡ incarnation e = joined_heard laws (all_moves first_sides k.steps) l.0 u v apart (ap (λ i. i.phase) is ∙ (r.phase ∙ ap phase_of j)) in
      r.heard ∙ (ap heard_number (sym is) ∙ (n ∙ (ap incarnation is ∙ sym r.epoch)))

  -- a side that advances, the other staying
  link_moves : (g : Setting) (u v : ℕ) (s t r : Side) (log other new : List (Entry Message)) (items back more : List What) → u ≢ v → (k : LinkKept g u v s t log other items back)
      → Advances g s r new (all_passes items) (all_passes more) (model.sides_after first_sides k.steps u v).end (model.sides_after first_sides k.steps v u).end
      → LinkKept g u v r t (log ++ new) other (items ++ more) back
  link_moves g u v s t r log other new items back more apart k d =
      let w : Sides Message = model.sides_after first_sides k.steps in
      let same : w u v ≡ model_side s (w u v).end = ap (λ i. record { state = i; end = (w u v).end }) k.here.state in
      let does = d.does in
      let c = come_all does.events w u v apart (subst (λ (x : model.Side Message). MayComeAll x (w v u).end does.events) (sym same) does.may) in
      let on = session_runs_go_on laws k.steps (steps_of u v does.events) k.run c.run in
      let to : model.sides_after first_sides (k.steps ++ steps_of u v does.events) u v ≡ sides_after (model_side s (w u v).end) does.events =
      ap (λ (i : Sides Message). i u v) on.1 ∙ (c.own ∙ ap (λ x. sides_after x does.events) same) in
      let peer : model.sides_after first_sides (k.steps ++ steps_of u v does.events) v u ≡ w v u = ap (λ (i : Sides Message). i v u) on.1 ∙ c.peer in
      let x : model.Side Message = sides_after (model_side s (w u v).end) does.events in
      let mine : SideKept g r (log ++ new) (items ++ more) x (w v u).end = record {
        state = does.state;
        stands = does.stands;
        log = ap (λ l. l ++ new) k.here.log ∙ sym does.appends;
        holds = subst (λ l. Holds g r l x.end) (sym (all_more items more)) d.holds;
      } in
      let theirs : SideKept g t other back (w v u) x.end = record {
        state = k.there.state;
        stands = record { reads = k.there.stands.reads; fits = k.there.stands.fits; mine = does.stands.theirs; theirs = does.stands.mine };
        log = k.there.log;
        holds = k.there.holds;
      } in
      record {
        steps = k.steps ++ steps_of u v does.events;
        run = on.0;
        here = subst (λ (i : model.Side Message). SideKept g r (log ++ new) (items ++ more) i (model.sides_after first_sides (k.steps ++ steps_of u v does.events) v u).end) (sym to) (subst (λ (i : model.Side Message). SideKept g r (log ++ new) (items ++ more) x i.end) (sym peer) mine);
        there = subst (λ (i : model.Side Message). SideKept g t other back i (model.sides_after first_sides (k.steps ++ steps_of u v does.events) u v).end) (sym peer) (subst (λ (i : model.Side Message). SideKept g t other back (w v u) i.end) (sym to) theirs);
      }

  -- what is known as a step comes
  pub before_of : (g : Setting) (u v : ℕ) (s t : Side) (log other : List (Entry Message)) (items back : List What) → u ≢ v → (k : LinkKept g u v s t log other items back) → AllGood (IsGood g v) other
      → Before laws g v s (all_passes items) (model.sides_after first_sides k.steps u v).end (model.sides_after first_sides k.steps v u).end
  before_of g u v s t log other items back apart k good = record {
    stands = k.here.stands;
    own = own_number g u v s t log other items back apart k;
    holds = k.here.holds;
    good = subst (AllGood (IsGood g v)) k.there.log good;
  }

  -- a step of router u, on its link to v
  router_moves : (g : Setting) → IsNetwork g.net → (u v : ℕ) (x y : Router) (e : RouterEvent) (t : Side) (log other : List (Entry Message)) (items back : List What) → linked g.net u v ≡ true → u ≢ v
      → LinkKept g u v (x.sides v) t log other items back → Step g u x e y → AllGood (IsGood g v) other → IsPrefix (all_passes (items ++ taken_from v e)) (passing (written_in g) other)
      → LinkKept g u v (y.sides v) t (log ++ says g u x e v) other (items ++ taken_from v e) back
  router_moves g net u v x y e t log other items back link apart k step good is =
      let w : Sides Message = model.sides_after first_sides k.steps in
      let before : Before laws g v (x.sides v) (all_passes items) (w u v).end (w v u).end = before_of g u v (x.sides v) t log other items back apart k good in
      let there : IsPrefix (all_passes items ++ all_passes (taken_from v e)) (passing (written_in g) (w v u).end.appended) =
      subst (λ l. IsPrefix (all_passes items ++ all_passes (taken_from v e)) (passing (written_in g) l)) k.there.log (subst (λ l. IsPrefix l (passing (written_in g) other)) (all_more items (taken_from v e)) is) in
      let d = step_side laws g net u v x (all_passes items) (w u v).end (w v u).end link before e step.may step.numbers there in
      subst (λ (z : Router). LinkKept g u v (z.sides v) t (log ++ says g u x e v) other (items ++ taken_from v e) back) (sym step.leaves)
      (link_moves g u v (x.sides v) t ((after g u x e).sides v) log other (says g u x e v) items back (taken_from v e) apart k d)

  -- ---- all links

  pub all_front : (xs ys : List What) → IsPrefix xs ys → IsPrefix (all_passes xs) (all_passes ys)
  all_front xs ys p = (all_passes p.0, sym (all_more xs p.0) ∙ ap all_passes p.1)

  -- what was taken is a beginning of what was said
  pub taken_said : (g : Setting) (state : RunState) (u v : ℕ) → PutsItsLog g state u v → IsPrefix (state.taken u v) (state.put u v) → IsPrefix (all_passes (state.taken u v)) (passing (written_in g) (log_of state u v))
  taken_said g state u v puts begins =
      prefix_trans (all_passes (state.taken u v)) (all_passes (state.put u v)) (passing (written_in g) (log_of state u v)) (all_front (state.taken u v) (state.put u v) begins) ((side_of state u v).outbox, puts)

  pub number_is : (m n : ℕ) → (m == n) ≡ true → m ≡ n
  number_is m n h = grind (arith, nat_tests, h)

  module _ (g : Setting) (net : IsNetwork g.net) (apart : (u v : ℕ) → linked g.net u v ≡ true → u ≢ v) (both : (u v : ℕ) → linked g.net u v ≡ true → linked g.net v u ≡ true) (old : RunState) (d : NetworkEvent Own What MadeOffer) (own : Logged) (step : LoggedStep g d.router (old.routers d.router) d.event own) where
    -- the link after the step, by which of its routers steps
    at_link : (u v : ℕ) (p q : Bool) → (d.router == u) ≡ p → (d.router == v) ≡ q → linked g.net u v ≡ true → LinkAt g old u v
        → AllGood (IsGood g u) (log_of old u v) → AllGood (IsGood g v) (log_of old v u)
        → IsPrefix (all_passes (old.taken v u ++ (if p then taken_from v d.event else []))) (passing (written_in g) (log_of old v u))
        → IsPrefix (all_passes (old.taken u v ++ (if q then taken_from u d.event else []))) (passing (written_in g) (log_of old u v))
        → LinkKept g u v ((if p then own else old.routers u).router.sides v) ((if q then own else old.routers v).router.sides u) ((if p then own else old.routers u).log v) ((if q then own else old.routers v).log u)
        (old.taken v u ++ (if p then taken_from v d.event else [])) (old.taken u v ++ (if q then taken_from u d.event else []))
    at_link u v true true hp hq link k good other is back = absurd (apart u v link (sym (number_is d.router u hp) ∙ number_is d.router v hq))
    at_link u v true false hp hq link k good other is back =
        let to_u : d.router ≡ u = number_is d.router u hp in
        let step' : LoggedStep g u (old.routers u) d.event own = subst (λ i. LoggedStep g i (old.routers i) d.event own) to_u step in
        let moved = router_moves g net u v (old.routers u).router own.router d.event (side_of old v u) (log_of old u v) (log_of old v u) (old.taken v u) (old.taken u v) link (apart u v link) k step'.step other is in
        subst (λ l. LinkKept g u v (own.router.sides v) (side_of old v u) l (log_of old v u) (old.taken v u ++ taken_from v d.event) (old.taken u v ++ [])) (sym (ap (λ (f : ℕ → List (Entry Message)). f v) step'.log))
        (subst (λ l. LinkKept g u v (own.router.sides v) (side_of old v u) (log_of old u v ++ says g u (old.routers u).router d.event v) (log_of old v u) (old.taken v u ++ taken_from v d.event) l) (sym (append-nil (old.taken u v))) moved)
    at_link u v false true hp hq link k good other is back =
        let to_v : d.router ≡ v = number_is d.router v hq in
        let step' : LoggedStep g v (old.routers v) d.event own = subst (λ i. LoggedStep g i (old.routers i) d.event own) to_v step in
        let k' = turned g u v (side_of old u v) (side_of old v u) (log_of old u v) (log_of old v u) (old.taken v u) (old.taken u v) k in
        let moved = router_moves g net v u (old.routers v).router own.router d.event (side_of old u v) (log_of old v u) (log_of old u v) (old.taken u v) (old.taken v u) (both u v link) (λ e. apart u v link (sym e)) k' step'.step good back in
        turned g v u (own.router.sides u) (side_of old u v) (own.log u) (log_of old u v) (old.taken u v ++ taken_from u d.event) (old.taken v u ++ [])
        (subst (λ l. LinkKept g v u (own.router.sides u) (side_of old u v) l (log_of old u v) (old.taken u v ++ taken_from u d.event) (old.taken v u ++ [])) (sym (ap (λ (f : ℕ → List (Entry Message)). f u) step'.log))
        (subst (λ l. LinkKept g v u (own.router.sides u) (side_of old u v) (log_of old v u ++ says g v (old.routers v).router d.event u) (log_of old u v) (old.taken u v ++ taken_from u d.event) l) (sym (append-nil (old.taken v u))) moved))
    at_link u v false false hp hq link k good other is back =
        subst (λ l. LinkKept g u v (side_of old u v) (side_of old v u) (log_of old u v) (log_of old v u) l (old.taken u v ++ [])) (sym (append-nil (old.taken v u)))
        (subst (λ l. LinkKept g u v (side_of old u v) (side_of old v u) (log_of old u v) (log_of old v u) (old.taken v u) l) (sym (append-nil (old.taken u v))) k)

    -- what is put
    put_at : (u v : ℕ) (p : Bool) → (d.router == u) ≡ p → (side_of old u v).width ≡ g.net.settings.width → PutsItsLog g old u v
        → all_passes (old.put u v ++ (if p then put_towards v d.event else [])) ++ ((if p then own else old.routers u).router.sides v).outbox ≡ passing (written_in g) ((if p then own else old.routers u).log v)
    put_at u v true h width k =
        let to_u : d.router ≡ u = number_is d.router u h in
        let step' : LoggedStep g u (old.routers u) d.event own = subst (λ i. LoggedStep g i (old.routers i) d.event own) to_u step in
        let new : List (Entry Message) = says g u (old.routers u).router d.event v in
        let s = subst (λ (w : Width). all_passes (put_towards v d.event) ++ (own.router.sides v).outbox ≡ (side_of old u v).outbox ++ passing (written w) new) width (steps_append laws g u v (old.routers u).router own.router d.event step'.step) in
        ap (λ w. w ++ (own.router.sides v).outbox) (all_more (old.put u v) (put_towards v d.event))
        ∙ (append_assoc (all_passes (old.put u v)) (all_passes (put_towards v d.event)) (own.router.sides v).outbox
        ∙ (ap (λ w. all_passes (old.put u v) ++ w) s
        ∙ (sym (append_assoc (all_passes (old.put u v)) (side_of old u v).outbox (passing (written_in g) new))
        ∙ (ap (λ w. w ++ passing (written_in g) new) k ∙ (sym (passing_more laws (written_in g) (log_of old u v) new) ∙ ap (passing (written_in g)) (sym (ap (λ (f : ℕ → List (Entry Message)). f v) step'.log)))))))
    put_at u v false h width k = ap (λ w. all_passes w ++ (side_of old u v).outbox) (append-nil (old.put u v)) ∙ k

    -- the width of each side
    width_at : (u v : ℕ) (p : Bool) → (d.router == u) ≡ p → (side_of old u v).width ≡ g.net.settings.width → ((if p then own else old.routers u).router.sides v).width ≡ g.net.settings.width
    width_at u v true h k =
        let to_u : d.router ≡ u = number_is d.router u h in
        let step' : LoggedStep g u (old.routers u) d.event own = subst (λ i. LoggedStep g i (old.routers i) d.event own) to_u step in
        ap (λ (y : Router). (y.sides v).width) step'.step.leaves ∙ (keeps_width laws g u v (old.routers u).router d.event ∙ k)
    width_at u v false h k = k

    pub reached_next : Reached g old → AllAreGood g old → ((u v : ℕ) → IsPrefix ((runs.after (logged_steps g) old d own).taken u v) ((runs.after (logged_steps g) old d own).put u v)) → Reached g (runs.after (logged_steps g) old d own)
    reached_next r good begins =
        let new : RunState = runs.after (logged_steps g) old d own in
        let puts : (u v : ℕ) → PutsItsLog g new u v = λ u v. put_at u v (d.router == u) refl (r.widths u v) (r.puts u v) in
        record {
          links = λ u v link. at_link u v (d.router == u) (d.router == v) refl refl link (r.links u v link) (good u v link) (good v u (both u v link))
              (still v u (both u v link) begins puts r) (still u v link begins puts r);
          puts = puts;
          begins = begins;
          widths = λ u v. width_at u v (d.router == u) refl (r.widths u v);
        }
      where
        -- what was taken from a router is a beginning of what it had said before: the receiver steps, and it does not
        still : (u v : ℕ) → linked g.net u v ≡ true → ((x y : ℕ) → IsPrefix ((runs.after (logged_steps g) old d own).taken x y) ((runs.after (logged_steps g) old d own).put x y)) → ((x y : ℕ) → PutsItsLog g (runs.after (logged_steps g) old d own) x y) → Reached g old
            → IsPrefix (all_passes (old.taken u v ++ (if d.router == v then taken_from u d.event else []))) (passing (written_in g) (log_of old u v))
        still u v link begins puts r = by_test (d.router == u) (d.router == v) refl refl (taken_said g (runs.after (logged_steps g) old d own) u v (puts u v) (begins u v))
          where
            by_test : (p q : Bool) → (d.router == u) ≡ p → (d.router == v) ≡ q → IsPrefix (all_passes (old.taken u v ++ (if q then taken_from u d.event else []))) (passing (written_in g) ((if p then own else old.routers u).log v))
                → IsPrefix (all_passes (old.taken u v ++ (if q then taken_from u d.event else []))) (passing (written_in g) (log_of old u v))
            by_test true true hp hq is = absurd (apart u v link (sym (number_is d.router u hp) ∙ number_is d.router v hq))
            by_test true false hp hq is = subst (λ l. IsPrefix (all_passes l) (passing (written_in g) (log_of old u v))) (sym (append-nil (old.taken u v))) (taken_said g old u v (r.puts u v) (r.begins u v))
            by_test false q hp hq is = is
