-- A snapshot by a command, and a marker that is taken, as events of the laws of runs.
use Rattle.std.proofs.Common.{◌≡◌, ◌≢◌, ℕ, ◌<◌, ◌≤◌, ◌==◌, Bool, true, false, ◌&&◌, not, cond, List, [], ◌∷◌, ◌++◌, filter, refl, ap, sym, ◌∙◌, arith, append_assoc, subst, Option, None, Some, inl, inr, ◌⊎◌}
use Rattle.std.specs.Prelude.{if◌then◌else◌}
use mathlib.Core.List.{IsPrefix}
use Rattle.std.proofs.lemmas.List.{append-nil}
use Rattle.std.proofs.lemmas.Bool.Decides.{nat_tests}
use Rattle.prefix_lanes.specs.Bits.{PrefixView}
use Rattle.bgp_codec.specs.declared.message.Message.{Message}
use Rattle.bgp_framing.specs.Held.{is_waiting}
use Rattle.link_epoch.specs.declared.link_end.Phase.{Phase}
use Rattle.link_epoch.specs.declared.link_end.Phase.TheVariants as phase
use Rattle.ranked_policy.specs.Plans.{IsNetwork}
use Rattle.run_model.specs.Links as links
use Rattle.run_model.specs.Links.{Entry, Mark, End, Takes, incarnation, taking, IsNext}
use Rattle.run_model.specs.Octets.{Passing, Control, octets_of, passing}
use Rattle.run_model.specs.Recordings.{with_end, Begins, Follows, EndsChannel, IgnoresMarker}
use Rattle.run_model.specs.Routes.{Acts, router_after}
use Rattle.run_model.specs.Offers.{IsPartOf, IsIn, lost_by_close}
use Rattle.outbox.specs.declared.item.What.{What}
use Rattle.outbox.specs.declared.item.What.TheVariants as item
use Rattle.snap_marker.specs.Recordings.{RouterOffer, Recording, Snapshots, ends_channel, goes_on}
use Rattle.router_model.specs.Messages.{is_update}
use Rattle.router_model.specs.Settings.{Setting, linked, peers}
use Rattle.router_model.specs.Sides as sides
use Rattle.router_model.specs.Sides.{Side, is_up, uses}
use Rattle.router_model.specs.State.{Router}
use Rattle.router_model.specs.Laws.{all_passes}
use Rattle.router_model.specs.Step.{heeds, is_greater, records, says_where, says_markers}
use Rattle.router_runs.specs.Runs.{written_in}
use Rattle.router_runs.specs.Model.{network_of}
use Rattle.router_runs.specs.Doing.{Stands}
use Rattle.router_runs.specs.Kept.{Holds, Advances}
use Rattle.router_runs.specs.Reading.{phase_of}
use Rattle.router_runs.specs.Mirrors.{ModelRouter, Goes, AreAlike, ReadsPart, ReadsRecording, ReadsSnapshots, ReadsRouter, number_of}
use Rattle.router_runs.proofs.Stepping.{Before, Ready, ready, plus_nothing, same_number, swapped}
use Rattle.router_runs.proofs.Signing.{at_place}
use Rattle.router_runs.proofs.Octets.{control_passed}
use Rattle.router_runs.proofs.Going.{no_goes, one_goes, then_goes}
use Rattle.router_runs.proofs.Turning.{IsTurned, Turns, side_turns}
use Rattle.router_runs.proofs.Marking.{up_alike, up_joined, takes_stands}
use Rattle.router_runs.proofs.Alike.{IsLike, snapshots_alike}
use Rattle.router_runs.proofs.Parting.{parts_on}
use Rattle.router_runs.proofs.Beginning.{MayBegin, begins_step}
use Rattle.router_runs.proofs.Locally.{LocalStep, nothing_recorded}
use Rattle.router_runs.proofs.Lower.{Laws, passing_more}

and_not : (b : Bool) → (b && not b) ≡ false
and_not true = refl
and_not false = refl

passes_if : (c : Bool) (i : What) (b : Bool) → c ≡ b → all_passes (if c then i ∷ [] else []) ≡ cond b (all_passes (i ∷ [])) []
passes_if true i true h = refl
passes_if true i false h = absurd (cc h)
passes_if false i true h = absurd (cc h)
passes_if false i false h = refl

number_some : (a b : ℕ) → Some a ≡ Some b → a ≡ b
number_some a b h = cc h

module _ (laws : Laws) (g : Setting) (net : IsNetwork g.net) (u : ℕ) (far : ℕ → End Message) (Still : Type 0) (still : Still) (x : Router) (before : ℕ → List (Passing Message)) (n : ModelRouter)
    (known : (v : ℕ) → linked g.net u v ≡ true → Before laws g v (x.sides v) (before v) (n.recorder.ends v) (far v)) (reads : ReadsRouter g u x n)
    (obeyed : (v : ℕ) → linked g.net u v ≡ true → (n.recorder.ends v).phase ≡ links.Joined → (k : ℕ) → IsIn (Mark (incarnation (n.recorder.ends v)) k) (n.recorder.ends v).taken → k ≤ n.recorder.last) where
  alike : AreAlike g u x n.recorder.ends
  alike = record { reads = λ v near. (known v near).stands.reads; up = λ v near. up_alike laws (x.sides v) (n.recorder.ends v) (far v) (known v near).stands }

  -- no marker above the last number was taken
  fresh : (s v : ℕ) → x.snapshots.last < s → linked g.net u v ≡ true → is_up (x.sides v) ≡ true → IsIn (Mark (incarnation (n.recorder.ends v)) s) (n.recorder.ends v).taken → ⊥
  fresh s v low near up h =
      let top = obeyed v near (up_joined laws (x.sides v) (n.recorder.ends v) (far v) (known v near).stands up) s h in
      let last = reads.snapshots.last in
      omega (arith, low, top, last)

  less_by : (s : ℕ) → is_greater x s ≡ true → x.snapshots.last < s
  less_by s h = grind (arith, nat_tests, h)

  -- ---- by a command

  snapshot_begins : (s : ℕ) → is_greater x s ≡ true → MayBegin laws g net u far Still still x before (λ v. []) n None s n n.recorder.ends []
  snapshot_begins s greater =
      let low = less_by s greater in
      record {
        greater = low;
        goes = no_goes g u far Still n;
        reads = reads;
        queue = sym (append-nil x.snapshots.queue);
        recorded = nothing_recorded n n x.snapshots.last x.snapshots.last refl refl refl refl;
        act = λ whole queues up q. one_goes g u far Still n (Acts (Begins s whole)) queues ((subst (λ i. i < s) (sym reads.snapshots.last) low, up), tt) q (λ i c h is. refl);
        alike = alike;
        stands = λ v near. (known v near).stands;
        appended = λ v near. refl;
        holds = λ v near. plus_nothing laws g (x.sides v) (before v) (n.recorder.ends v) (known v near).holds;
        unmarked = λ v near up. inr (λ h. fresh s v low near up h);
      }

  pub snapshot_step : (s : ℕ) → is_greater x s ≡ true → LocalStep laws g net u far Still 0 x (records g u x s None) (λ v. says_markers g u x s v) before (λ v. []) n
  snapshot_step s greater = begins_step laws g net u far Still still x before (λ v. []) n None s n n.recorder.ends [] (snapshot_begins s greater)

  -- ---- a marker is taken from w

  module _ (w e s : ℕ) (near_w : linked g.net u w ≡ true) (quiet : is_waiting (x.sides w).held ≡ false) (comes : IsPrefix (before w ++ Control (Mark e s) ∷ []) (passing (written_in g) (far w).appended)) where
    abbrev known_here : Before laws g w (x.sides w) (before w) (n.recorder.ends w) (far w)
    known_here = known w near_w

    pub dropped : Ready laws g (x.sides w) (Mark e s) known_here.holds.rest (n.recorder.ends w) (far w)
    dropped = ready laws g w (x.sides w) (before w) (n.recorder.ends w) (far w) (Mark e s) known_here quiet comes

    -- messages that were dropped pass first
    advances : Advances g (x.sides w) (x.sides w) [] (before w) [] (n.recorder.ends w) (far w)
    advances =
        let h = known_here.holds in
        let a : End Message = n.recorder.ends w in
        record {
          past = dropped.messages;
          does = dropped.does;
          holds = plus_nothing laws g (x.sides w) (before w) _ (record {
            rest = [];
            only = tt;
            passed = h.passed ∙ (ap (λ l. passing (written_in g) a.taken ++ l) (sym dropped.are) ∙ (sym (passing_more laws (written_in g) a.taken dropped.messages) ∙ (ap (passing (written_in g)) (sym dropped.does.takes) ∙ sym (append-nil _))));
            joined = λ j. ap (octets_of (x.sides w).link.epoch) (sym dropped.none);
            apart = λ j. dropped.none;
          });
        }

    pub turns : Turns laws g u far Still n w (x.sides w) (x.sides w) [] (before w ++ []) [] dropped.messages
    unfolding advances
    turns =
        side_turns laws g u far Still n w (x.sides w) (x.sides w) [] (before w) [] [] (laws.links g.net net u w near_w).apart known_here.stands known_here.holds advances tt tt (inl (refl, λ i. refl)) (λ t. and_not (is_up (x.sides w)))

    abbrev cleared : ModelRouter
    cleared = turns.m

    none_lost : (b : Bool) (o : Option ℕ) (v d : ℕ) → b ≡ false → lost_by_close {M = Message} {P = PrefixView} {W = List ℕ} b o v d ≡ []
    none_lost true o v d h = absurd (cc h)
    none_lost false o v d h = refl

    cleared_goes : Goes g u far Still 0 n cleared []
    cleared_goes = subst (λ o. Goes g u far Still 0 n cleared o) (none_lost (is_up (x.sides w) && not (is_up (x.sides w))) n.recorder.unfinished w (x.sides w).link.epoch (and_not (is_up (x.sides w)))) turns.goes

    same_updates : (c b : Bool) (old used : List Message) → filter is_update used ≡ [] → filter is_update (cond c (cond b (old ++ used) old) old) ≡ filter is_update old
    same_updates true true old used h = filter_append old used ∙ (ap (λ l. filter is_update old ++ l) h ∙ append-nil (filter is_update old))
      where
        filter_at : (c : Bool) (m : Message) (xs ys zs : List Message) → zs ≡ xs ++ ys → cond c (m ∷ zs) zs ≡ cond c (m ∷ xs) xs ++ ys
        filter_at true m xs ys zs h = ap (λ w. m ∷ w) h
        filter_at false m xs ys zs h = h

        filter_append : (xs ys : List Message) → filter is_update (xs ++ ys) ≡ filter is_update xs ++ filter is_update ys
        filter_append [] ys = refl
        filter_append (m ∷ xs) ys = filter_at (is_update m) m (filter is_update xs) (filter is_update ys) (filter is_update (xs ++ ys)) (filter_append xs ys)
    same_updates true false old used h = refl
    same_updates false b old used h = refl

    cleared_like : IsLike n cleared
    cleared_like = record {
      last = turns.moved.last;
      unfinished = turns.moved.unfinished ∙ ap (λ b. cond b None n.recorder.unfinished) (and_not (is_up (x.sides w)));
      waits = turns.moved.waits;
      copy = turns.moved.copy;
      kept_at = turns.moved.kept_at;
      originated_at = turns.moved.originated_at;
      channel = λ v. ap (filter is_update) (turns.moved.channel v) ∙ same_updates (v == w) (n.recorder.waits v) (n.recorder.channel v) turns.used turns.are;
    }

    cleared_reads : ReadsRouter g u x cleared
    cleared_reads = record { kept = turns.moved.kept ∙ reads.kept; originated = turns.moved.originated ∙ reads.originated; snapshots = snapshots_alike g u x.snapshots n cleared cleared_like reads.snapshots }

    cleared_stands : (v : ℕ) → linked g.net u v ≡ true → Stands (x.sides v) (cleared.recorder.ends v) (far v)
    cleared_stands v near = at (v == w) refl
      where
        at : (c : Bool) → (v == w) ≡ c → Stands (x.sides v) (cleared.recorder.ends v) (far v)
        at true is = subst (λ i. Stands (x.sides i) (cleared.recorder.ends i) (far i)) (sym (same_number laws v w is)) (subst (λ i. Stands (x.sides w) i (far w)) (sym turns.moved.own) turns.turned.stands)
        at false is = subst (λ i. Stands (x.sides v) i (far v)) (sym (turns.moved.ends v is)) (known v near).stands

    cleared_appended : (v : ℕ) → (cleared.recorder.ends v).appended ≡ (n.recorder.ends v).appended
    cleared_appended v = at (v == w) refl
      where
        at : (c : Bool) → (v == w) ≡ c → (cleared.recorder.ends v).appended ≡ (n.recorder.ends v).appended
        at true is =
            subst (λ i. (cleared.recorder.ends i).appended ≡ (n.recorder.ends i).appended) (sym (same_number laws v w is))
            (ap (λ (i : End Message). i.appended) turns.moved.own ∙ (turns.turned.appended ∙ append-nil (n.recorder.ends w).appended))
        at false is = ap (λ (i : End Message). i.appended) (turns.moved.ends v is)

    cleared_taken : (cleared.recorder.ends w).taken ≡ (n.recorder.ends w).taken ++ dropped.messages
    cleared_taken = ap (λ (i : End Message). i.taken) turns.moved.own ∙ turns.took

    is_next : IsNext (cleared.recorder.ends w) (far w) (Mark e s)
    is_next =
        let f = dropped.front in
        at_place laws (cleared.recorder.ends w).taken (Mark e s) f.0 (far w).appended
        (ap (λ l. l ++ Mark e s ∷ f.0) cleared_taken ∙ (append_assoc (n.recorder.ends w).taken dropped.messages (Mark e s ∷ f.0)
        ∙ (ap (λ l. (n.recorder.ends w).taken ++ l) (sym (append_assoc dropped.messages (Mark e s ∷ []) f.0)) ∙ (sym (append_assoc (n.recorder.ends w).taken (dropped.messages ++ Mark e s ∷ []) f.0) ∙ f.1))))

    -- the ends once the marker is taken
    abbrev ends_behind : ℕ → End Message
    ends_behind = with_end cleared.recorder.ends w (taking (cleared.recorder.ends w) (Mark e s))

    abbrev items : ℕ → List (Passing Message)
    items v = all_passes (if w == v then item.Mark e s ∷ [] else [])

    record TakenAt (v : ℕ) (c : End Message) (came : List (Passing Message)) : Type 0 where
      stands : Stands (x.sides v) c (far v)
      appended : c.appended ≡ (n.recorder.ends v).appended
      holds : Holds g (x.sides v) (before v ++ came) c
      clear : x.snapshots.last < s → is_up (x.sides v) ≡ true → (holds.rest ≡ []) ⊎ (IsIn (Mark (incarnation c) s) c.taken → ⊥)

    here : (w == w) ≡ true
    here = grind (arith, nat_tests)

    own_taken : TakenAt w (taking (cleared.recorder.ends w) (Mark e s)) (Control (Mark e s) ∷ [])
    own_taken = record {
      stands = takes_stands laws (x.sides w) (cleared.recorder.ends w) (far w) e s (cleared_stands w near_w) is_next;
      appended = cleared_appended w;
      holds = record {
        rest = [];
        only = tt;
        passed = control_passed laws g (Mark e s) dropped.messages (before w) (x.sides w) (n.recorder.ends w) (taking (cleared.recorder.ends w) (Mark e s)) known_here.holds dropped.are
            (ap (λ l. l ++ Mark e s ∷ []) cleared_taken ∙ append_assoc (n.recorder.ends w).taken dropped.messages (Mark e s ∷ [])) refl;
        joined = λ j. ap (octets_of (x.sides w).link.epoch) (sym dropped.none);
        apart = λ j. dropped.none;
      };
      clear = λ low up. inl refl;
    }

    other_taken : (v : ℕ) → linked g.net u v ≡ true → (v == w) ≡ false → TakenAt v (cleared.recorder.ends v) []
    other_taken v near miss =
        let same = turns.moved.ends v miss in
        subst (λ c. TakenAt v c []) (sym same)
        (record {
          stands = (known v near).stands;
          appended = refl;
          holds = plus_nothing laws g (x.sides v) (before v) (n.recorder.ends v) (known v near).holds;
          clear = λ low up. inr (λ h. fresh s v low near up h);
        })

    taken_at : (v : ℕ) → linked g.net u v ≡ true → TakenAt v (ends_behind v) (items v)
    taken_at v near = at (v == w) refl
      where
        at : (c : Bool) → (v == w) ≡ c → TakenAt v (ends_behind v) (items v)
        at true is =
            let own : TakenAt w (ends_behind w) (items w) =
            subst (λ l. TakenAt w (ends_behind w) l) (sym (passes_if (w == w) (item.Mark e s) true here))
            (subst (λ i. TakenAt w i (Control (Mark e s) ∷ [])) (sym (ap (λ b. cond b (taking (cleared.recorder.ends w) (Mark e s)) (cleared.recorder.ends w)) here)) own_taken) in
            subst (λ i. TakenAt i (ends_behind i) (items i)) (sym (same_number laws v w is)) own
        at false is =
            subst (λ l. TakenAt v (ends_behind v) l) (sym (passes_if (w == v) (item.Mark e s) false (sym (swapped laws v w) ∙ is)))
            (subst (λ i. TakenAt v i []) (sym (ap (λ b. cond b (taking (cleared.recorder.ends w) (Mark e s)) (cleared.recorder.ends v)) is)) (other_taken v near is))

    -- ---- it is recorded by

    follows : is_greater x s ≡ true → is_up (x.sides w) ≡ true → e ≡ incarnation (cleared.recorder.ends w) → MayBegin laws g net u far Still still x before items n (Some w) s cleared ends_behind []
    unfolding taken_at
    follows greater up own =
        let low = less_by s greater in
        let all_alike : AreAlike g u x cleared.recorder.ends = record { reads = λ v near. (cleared_stands v near).reads; up = λ v near. up_alike laws (x.sides v) (cleared.recorder.ends v) (far v) (cleared_stands v near) } in
        record {
          greater = low;
          goes = cleared_goes;
          reads = cleared_reads;
          queue = sym (append-nil x.snapshots.queue);
          recorded = nothing_recorded n cleared x.snapshots.last x.snapshots.last turns.moved.copy turns.moved.kept_at turns.moved.originated_at refl;
          act = λ whole queues all q. one_goes g u far Still cleared (Acts (Follows w e s whole)) queues
              (((laws.links g.net net u w near_w).apart, is_next, all_alike.up w near_w ∙ up, own, subst (λ i. i < s) (sym cleared_reads.snapshots.last) low, all), tt) q (λ i c h is. refl);
          alike = all_alike;
          stands = λ v near. (taken_at v near).stands;
          appended = λ v near. (taken_at v near).appended;
          holds = λ v near. (taken_at v near).holds;
          unmarked = λ v near up'. (taken_at v near).clear low up';
        }

    -- ---- it is ignored, or ends a channel

    -- an event that leaves these ends, and all else as it was
    pub record LeavesEnds (k : ModelRouter) : Type 0 where
      ends : k.recorder.ends ≡ ends_behind
      kept : k.kept ≡ cleared.kept
      originated : k.originated ≡ cleared.originated
      copy : k.recorder.copy ≡ cleared.recorder.copy
      kept_at : k.kept_at ≡ cleared.kept_at
      originated_at : k.originated_at ≡ cleared.originated_at

    abbrev nothing_said : ℕ → List (Entry Message)
    nothing_said v = []

    turned_behind : (k : ModelRouter) → k.recorder.ends ≡ ends_behind → (v : ℕ) → linked g.net u v ≡ true → IsTurned laws g u far Still v (x.sides v) [] (before v ++ items v) (n.recorder.ends v) (k.recorder.ends v)
    turned_behind k same v near =
        let t = taken_at v near in
        subst (λ (f : ℕ → End Message). IsTurned laws g u far Still v (x.sides v) [] (before v ++ items v) (n.recorder.ends v) (f v)) (sym same)
        (record { stands = t.stands; appended = t.appended ∙ sym (append-nil (n.recorder.ends v).appended); holds = t.holds })

    -- the step, from what the act leaves
    by_act : (k m : ModelRouter) (first later : List RouterOffer) (z : Snapshots) → Goes g u far Still 0 cleared k first → Goes g u far Still 0 k m later → LeavesEnds m → ReadsSnapshots g u z m → z.queue ≡ x.snapshots.queue ++ (first ++ later) → z.last ≡ x.snapshots.last
        → LocalStep laws g net u far Still 0 x (record x { snapshots = z }) nothing_said before items n
    by_act k m first later z go on t r queue last = record {
      m = m;
      offers = first ++ later;
      goes = then_goes g u far Still n cleared m [] (first ++ later) cleared_goes (then_goes g u far Still cleared k m first later go on (λ i h. inl still)) (λ i h. inl still);
      turned = λ v near. turned_behind m t.ends v near;
      reads = record { kept = t.kept ∙ cleared_reads.kept; originated = t.originated ∙ cleared_reads.originated; snapshots = r };
      queue = queue;
      recorded = nothing_recorded n m x.snapshots.last z.last (t.copy ∙ turns.moved.copy) (t.kept_at ∙ turns.moved.kept_at) (t.originated_at ∙ turns.moved.originated_at) (sym last);
      unmarked = λ i v low is near up. absurd (omega (arith, low, is, last));
    }

    abbrev MayIgnore : Type 0
    MayIgnore =
        (links.is_up (cleared.recorder.ends w) ≡ false)
        ⊎ ((e ≢ incarnation (cleared.recorder.ends w)) ⊎ ((s ≤ cleared.recorder.last) × ((cleared.recorder.unfinished ≢ Some s) ⊎ (cleared.recorder.waits w ≡ false))))

    ignores : MayIgnore → LocalStep laws g net u far Still 0 x x nothing_said before items n
    ignores why =
        let k : ModelRouter = router_after (network_of g) u cleared (Acts (IgnoresMarker w e s)) in
        by_act k k [] [] x.snapshots (one_goes g u far Still cleared (Acts (IgnoresMarker w e s)) [] (((laws.links g.net net u w near_w).apart, is_next, why), tt) refl (λ i c h is. refl)) (no_goes g u far Still k)
        (record { ends = refl; kept = refl; originated = refl; copy = refl; kept_at = refl; originated_at = refl })
        (snapshots_alike g u x.snapshots cleared k (record { last = refl; unfinished = refl; waits = refl; copy = refl; kept_at = refl; originated_at = refl; channel = λ v. refl }) cleared_reads.snapshots)
        (sym (append-nil x.snapshots.queue)) refl

    ends_one : (r : Recording) → x.snapshots.unfinished ≡ Some r → r.number ≡ s → r.waits w ≡ true → is_up (x.sides w) ≡ true → e ≡ incarnation (cleared.recorder.ends w)
        → LocalStep laws g net u far Still 0 x (record x { snapshots = goes_on (peers g.net u) (record r { waits = λ y. cond (y == w) false (r.waits y) }) x.snapshots }) nothing_said before items n
    ends_one r is number waits up own =
        let k : ModelRouter = router_after (network_of g) u cleared (Acts (EndsChannel w e s)) in
        let q : Recording = record r { waits = λ y. cond (y == w) false (r.waits y) } in
        let unf : cleared.recorder.unfinished ≡ Some r.number = cleared_reads.snapshots.unfinished ∙ ap number_of is in
        let part : ReadsPart g u r cleared = subst (λ o. ReadsRecording g u o cleared) is cleared_reads.snapshots.recording in
        let all_alike = up_alike laws (x.sides w) (cleared.recorder.ends w) (far w) (cleared_stands w near_w) in
        let p = parts_on laws g net u far Still k q x.snapshots cleared_reads.snapshots.last unf (λ v near. ap (λ b. cond (v == w) false b) (part.waits v near))
        (part_copy r k part) in
        by_act k p.parts.m [] p.parts.offers (goes_on (peers g.net u) q x.snapshots)
        (one_goes g u far Still cleared (Acts (EndsChannel w e s)) [] (((laws.links g.net net u w near_w).apart, is_next, all_alike ∙ up, own, unf ∙ ap (λ i. Some i) number, part.waits w near_w ∙ waits), tt) refl (λ i c h j. refl))
        p.parts.goes
        (record { ends = p.parts.ends; kept = p.parts.kept; originated = p.parts.originated; copy = p.parts.copy; kept_at = p.parts.kept_at; originated_at = p.parts.originated_at })
        p.parts.reads p.queue p.last
      where
        part_copy : (r : Recording) (k : ModelRouter) → ReadsPart g u r cleared → IsPartOf (network_of g) u (router_after (network_of g) u cleared (Acts (EndsChannel w e s))) r.number cleared.recorder.channel r.part
        part_copy r k p = p.part

    -- ---- by the tests of the router

    both : (p q : Bool) → (p && q) ≡ true → (p ≡ true) × (q ≡ true)
    both true q h = (refl, h)
    both false q h = absurd (cc h)

    not_greater : is_greater x s ≡ false → s ≤ cleared.recorder.last
    not_greater h = (let last = cleared_reads.snapshots.last in let low : s ≤ x.snapshots.last = grind (arith, nat_tests, h) in omega (arith, last, low))

    ends_if : is_greater x s ≡ false → is_up (x.sides w) ≡ true → e ≡ incarnation (cleared.recorder.ends w) → (o : Option Recording) → x.snapshots.unfinished ≡ o
        → LocalStep laws g net u far Still 0 x (record x { snapshots = ends_channel (peers g.net u) w s o x.snapshots }) nothing_said before items n
    ends_if low up own None is =
        ignores (inr (inr (not_greater low, inl (λ h. (let none : cleared.recorder.unfinished ≡ None = cleared_reads.snapshots.unfinished ∙ ap number_of is in let k : None ≡ Some s = sym none ∙ h in cc k)))))
    ends_if low up own (Some r) is = at ((r.number == s) && r.waits w) refl
      where
        unf : cleared.recorder.unfinished ≡ Some r.number
        unf = cleared_reads.snapshots.unfinished ∙ ap number_of is

        part : ReadsPart g u r cleared
        part = subst (λ o. ReadsRecording g u o cleared) is cleared_reads.snapshots.recording

        other : (c : Bool) → (r.number == s) ≡ c → (c && r.waits w) ≡ false → (cleared.recorder.unfinished ≢ Some s) ⊎ (cleared.recorder.waits w ≡ false)
        other true same h = inr (part.waits w near_w ∙ h)
        other false same h = inl (λ k. (let number : r.number ≡ s = number_some r.number s (sym unf ∙ k) in let hit : (r.number == s) ≡ true = grind (arith, nat_tests, number) in cc (hit, same)))

        at : (b : Bool) → ((r.number == s) && r.waits w) ≡ b
            → LocalStep laws g net u far Still 0 x (record x { snapshots = cond b (goes_on (peers g.net u) (record r { waits = λ y. cond (y == w) false (r.waits y) }) x.snapshots) x.snapshots }) nothing_said before items n
        at true h = (let p = both (r.number == s) (r.waits w) h in let number : r.number ≡ s = (let q = p.0 in grind (arith, nat_tests, q)) in ends_one r is number p.1 up own)
        at false h = ignores (inr (inr (not_greater low, other (r.number == s) refl h)))

    joined_by : (p : Phase) → phase_of p ≡ links.Joined → sides.is_joined p ≡ true
    joined_by phase.Shut h = absurd (cc h)
    joined_by phase.Offered h = absurd (cc h)
    joined_by phase.Joined h = refl

    -- a marker that is not heeded
    unheeded : (b : Bool) → is_up (x.sides w) ≡ b → (b && uses (x.sides w).link e) ≡ false → MayIgnore
    unheeded false down h = inl (up_alike laws (x.sides w) (cleared.recorder.ends w) (far w) (cleared_stands w near_w) ∙ down)
    unheeded true up h =
        let k = cleared_stands w near_w in
        let joined : sides.is_joined (x.sides w).link.phase ≡ true = joined_by (x.sides w).link.phase (sym k.reads.phase ∙ up_joined laws (x.sides w) (cleared.recorder.ends w) (far w) k up) in
        let miss : (e == (x.sides w).link.epoch) ≡ false = sym (ap (λ b. b && (e == (x.sides w).link.epoch)) joined) ∙ h in
        let epoch = k.reads.epoch in
        inr (inl (λ same. (let hit : (e == (x.sides w).link.epoch) ≡ true = (let q : e ≡ (x.sides w).link.epoch = same ∙ sym epoch in grind (arith, nat_tests, q)) in cc (hit, miss))))

    by_tests : (h gr : Bool) → heeds g u x w e ≡ h → is_greater x s ≡ gr
        → LocalStep laws g net u far Still 0 x (cond h (cond gr (records g u x s (Some w)) (record x { snapshots = ends_channel (peers g.net u) w s x.snapshots.unfinished x.snapshots })) x)
        (λ v. says_where (h && gr) (says_markers g u x s v)) before items n
    by_tests true gr heeded greater =
        let p = both (is_up (x.sides w)) (uses (x.sides w).link e) heeded in
        let q = both (sides.is_joined (x.sides w).link.phase) (e == (x.sides w).link.epoch) p.1 in
        let epoch = (cleared_stands w near_w).reads.epoch in
        let same : e ≡ (x.sides w).link.epoch = (let k = q.1 in grind (arith, nat_tests, k)) in
        heeded_by gr greater p.0 (same ∙ epoch)
      where
        heeded_by : (gr : Bool) → is_greater x s ≡ gr → is_up (x.sides w) ≡ true → e ≡ incarnation (cleared.recorder.ends w)
            → LocalStep laws g net u far Still 0 x (cond gr (records g u x s (Some w)) (record x { snapshots = ends_channel (peers g.net u) w s x.snapshots.unfinished x.snapshots })) (λ v. says_where gr (says_markers g u x s v)) before items n
        heeded_by true greater up own = begins_step laws g net u far Still still x before items n (Some w) s cleared ends_behind [] (follows greater up own)
        heeded_by false greater up own = ends_if greater up own x.snapshots.unfinished refl
    by_tests false gr heeded greater = ignores (unheeded (is_up (x.sides w)) refl heeded)

    pub mark_step : LocalStep laws g net u far Still 0 x (cond (heeds g u x w e) (cond (is_greater x s) (records g u x s (Some w)) (record x { snapshots = ends_channel (peers g.net u) w s x.snapshots.unfinished x.snapshots })) x)
        (λ v. says_where (heeds g u x w e && is_greater x s) (says_markers g u x s v)) before items n
    mark_step = by_tests (heeds g u x w e) (is_greater x s) refl refl
