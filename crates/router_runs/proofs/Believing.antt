-- What the run of the laws beside a run of routers says of its snapshots.
use Rattle.std.proofs.Common.{◌≡◌, ℕ, ◌==◌, Bool, true, false, cond, List, [], ◌∷◌, ◌++◌, map, refl, ap, sym, subst, ◌∙◌, Some, inl, inr, arith}
use Rattle.std.specs.Prelude.{filter}
use mathlib.Core.List.{IsPrefix}
use mathlib.Core.Logic.{◌⊎◌}
use Rattle.std.proofs.lemmas.List.{append-nil}
use Rattle.prefix_lanes.specs.Bits.{PrefixView}
use Rattle.bgp_codec.specs.declared.message.Message.{Message}
use Rattle.bgp_codec.specs.declared.message.Message.TheVariants.{OpenMsg, UpdateMsg, NoticeMsg, AliveMsg}
use Rattle.run_model.specs.Links.{End, Mark, said, incarnation}
use Rattle.run_model.specs.Octets.{Passing, passing, OnlyOctets}
use Rattle.run_model.specs.Routes as routes
use Rattle.run_model.specs.Routes.{IsNotPending}
use Rattle.run_model.specs.Network as runs
use Rattle.run_model.specs.Places as places
use Rattle.run_model.specs.Offers as offers
use Rattle.run_model.specs.Offers.{Finished, Lost, Settled, Moving, Why, Mismatch, Outcome, HasOutcome, Made, made_of, made_for, number_of, IsIn, Decides, IsDeciding, IsOfferRunOf, final, network_steps}
use Rattle.snap_marker.specs.Recordings.{RouterPart, MadeOffer}
use Rattle.router_model.specs.Messages.{updates_in, is_update}
use Rattle.router_model.specs.Settings.{Setting, IsSetting, is_router, linked}
use Rattle.router_model.specs.Sides.{is_established}
use Rattle.router_model.specs.State.{Router, is_pending}
use Rattle.router_model.specs.Laws.{all_passes}
use Rattle.router_runs.specs.Runs.{RunOrder, RunState, IsRunTo, logged_steps, new_logged, side_of, log_of, written_in}
use Rattle.router_runs.specs.Model.{network_of}
use Rattle.router_runs.specs.Reading.{state_of}
use Rattle.router_runs.specs.Doing.{is_up_in}
use Rattle.router_runs.specs.Mirrors.{ModelRouter, AreAlike, Mirrors, Mirrored, Copied, RunsAreMirrored, MirrorsGoOn, RecordingsAreMirrored}
use Rattle.router_runs.specs.SnapshotLaws.{SnapshotLaws}
use Rattle.session_fsm.specs.declared.state.State.{State}
use Rattle.router_runs.specs.Snapshots.{HasMade, RecordedAt, IsPartOf, IsCutLink, IsCutOf, PartsAreOfACut, ComesOut, DecidedHasAllParts, MismatchNeverComes, SettledIsStable, SettledStays, SettledSnapshotsCanBeBelieved, SnapshotsHoldInRuns}
use Rattle.router_runs.proofs.Lower.{Laws}
use Rattle.router_runs.proofs.Hanging.{up_is}
use Rattle.router_runs.proofs.Entries.{prefix_trans}
use Rattle.router_runs.proofs.Running.{all_front, taken_said}
use Rattle.router_runs.proofs.Keeping.{kept_to}
use Rattle.router_runs.proofs.Words.{routes_alike, pending_alike}
use Rattle.router_runs.proofs.Stability.{network_is, stable_of, router_is}

-- ---- offers that were made

in_front : {A : Type 0} (x : A) (front all : List A) → IsPrefix front all → IsIn x front → IsIn x all
in_front x front all p h = subst (IsIn x) p.1 (in_left x front p.0 h)
  where
    in_left : {A : Type 0} (x : A) (xs ys : List A) → IsIn x xs → IsIn x (xs ++ ys)
    in_left x [] ys h = absurd h
    in_left x (y ∷ xs) ys (inl same) = inl same
    in_left x (y ∷ xs) ys (inr rest) = inr (in_left x xs ys rest)

in_filtered : {A : Type 0} (p : A → Bool) (x : A) (xs : List A) → IsIn x (filter p xs) → IsIn x xs
in_filtered p x [] h = absurd h
in_filtered p x (y ∷ xs) h = at (p y) h (in_filtered p x xs)
  where
    at : (b : Bool) → IsIn x (cond b (y ∷ filter p xs) (filter p xs)) → (IsIn x (filter p xs) → IsIn x xs) → IsIn x (y ∷ xs)
    at true (inl same) on = inl same
    at true (inr rest) on = inr (on rest)
    at false rest on = inr (on rest)

-- where nothing was lost, what decides is a part of every router
has_parts : (g : Setting) (s : ℕ) (made front : List MadeOffer) → IsDeciding (network_of g) s front (made_for s made)
    → ((w v e : ℕ) (cause : offers.Cause) → IsIn (made_of w (Lost s v e cause)) front → ⊥) → (u : ℕ) → is_router g u ≡ true → (part : RouterPart) × IsIn (made_of u (Finished s part)) made
has_parts g s made front deciding none u is = elim deciding.1 [
  | inl lost ↦ absurd (none lost.0 lost.1 lost.2 lost.3 lost.4)
  | inr all ↦
      let one = all u is in
      (one.0, in_filtered (λ m. number_of m.offer == s) (made_of u (Finished s one.0)) made (in_front (made_of u (Finished s one.0)) front (made_for s made) deciding.0 one.1))
]

pub decided_has_all_parts : DecidedHasAllParts
decided_has_all_parts g set order state r s u is (inl settled) = has_parts g s state.offered settled.0 settled.1 settled.2 u is
decided_has_all_parts g set order state r s u is (inr moving) = let m = moving.2 in has_parts g s state.offered m.0 m.1 m.2 u is

-- ---- UPDATEs among messages

only_updates : (ms : List Message) → map UpdateMsg (updates_in ms) ≡ filter is_update ms
only_updates [] = refl
only_updates (OpenMsg o ∷ ms) = only_updates ms
only_updates (UpdateMsg u ∷ ms) = ap (λ us. UpdateMsg u ∷ us) (only_updates ms)
only_updates (NoticeMsg n ∷ ms) = only_updates ms
only_updates (AliveMsg ∷ ms) = only_updates ms

updates_of_updates : (ms : List Message) → updates_in (filter is_update ms) ≡ updates_in ms
updates_of_updates [] = refl
updates_of_updates (OpenMsg o ∷ ms) = updates_of_updates ms
updates_of_updates (UpdateMsg u ∷ ms) = ap (λ us. u ∷ us) (updates_of_updates ms)
updates_of_updates (NoticeMsg n ∷ ms) = updates_of_updates ms
updates_of_updates (AliveMsg ∷ ms) = updates_of_updates ms

updates_append : (ms ns : List Message) → updates_in (ms ++ ns) ≡ updates_in ms ++ updates_in ns
updates_append [] ns = refl
updates_append (OpenMsg o ∷ ms) ns = updates_append ms ns
updates_append (UpdateMsg u ∷ ms) ns = ap (λ us. u ∷ us) (updates_append ms ns)
updates_append (NoticeMsg n ∷ ms) ns = updates_append ms ns
updates_append (AliveMsg ∷ ms) ns = updates_append ms ns

same_flag : (a b : Bool) → (a ≡ false → b ≡ false) → (b ≡ false → a ≡ false) → a ≡ b
same_flag true true f h = refl
same_flag true false f h = h refl
same_flag false true f h = sym (f refl)
same_flag false false f h = refl

-- ---- what was taken stays taken

taken_grows : (g : Setting) (order : RunOrder) (old new : RunState) (u v : ℕ) → runs.Run (logged_steps g) old order new → IsPrefix (old.taken u v) (new.taken u v)
taken_grows g [] old new u v r = ([], append-nil (old.taken u v) ∙ ap (λ (z : RunState). z.taken u v) r)
taken_grows g (d ∷ ds) old new u v r =
    let next : RunState = r.0 in
    let here : IsPrefix (old.taken u v) (next.taken u v) = (runs.taken_between u v d, sym (ap (λ (z : RunState). z.taken u v) r.1.2)) in
    prefix_trans (old.taken u v) (next.taken u v) (new.taken u v) here (taken_grows g ds next new u v r.2)

-- ---- a snapshot of a run, by the run of the laws beside it

up_in : (st : State) → is_up_in (state_of st) ≡ is_established st
up_in st = grind arith

pub runs_join : (g : Setting) (before later : RunOrder) (old at last : RunState) → runs.Run (logged_steps g) old before at → runs.Run (logged_steps g) at later last → runs.Run (logged_steps g) old (before ++ later) last
runs_join g [] later old at last r on = subst (λ z. runs.Run (logged_steps g) z later last) (sym r) on
runs_join g (d ∷ ds) later old at last r on = (r.0, r.1, runs_join g ds later r.0 at last r.2 on)

module _ (laws : Laws) (more : SnapshotLaws) (mirrored : RunsAreMirrored) where
  -- a part that was made, and where its router recorded it
  record Data (g : Setting) (order : RunOrder) (state : RunState) (m : Mirrored g order state) (s u : ℕ) (part : RouterPart) : Type 0 where
    pub channels : ℕ → List Message
    pub finished : ((final (network_of g) m.steps).routers u).recorder.part s ≡ Some channels
    pub is : offers.IsPartOf (network_of g) u ((final (network_of g) m.steps).routers u) s channels part
    pub copied : Copied g order state ((final (network_of g) m.steps).routers u) u s is.0

  data_of : (g : Setting) → (order : RunOrder) (state : RunState) (m : Mirrored g order state) (s u : ℕ) (part : RouterPart) → HasMade state s u part → Data g order state m s u part
  data_of g order state m s u part made =
      let r = more.parts (network_of g) m.steps m.run u s part (subst (IsIn (made_of u (Finished s part))) (sym m.mirrors.made) made) in
      record { channels = r.0; finished = r.1; is = r.2; copied = m.copies u s r.2.0 r.2.1 }

  module _ (g : Setting) (set : IsSetting g) (order : RunOrder) (state : RunState) (m : Mirrored g order state) (s : ℕ) where
    abbrev Found : ℕ → RouterPart → Type 0
    Found u part = Data g order state m s u part

    alike : (u : ℕ) (part : RouterPart) (d : Found u part) → AreAlike g u (d.copied.at.routers u).router d.is.0
    alike u part d = record { reads = d.copied.ends.reads; up = d.copied.ends.up }

    -- it is its router's state there
    part_is : (u : ℕ) (part : RouterPart) (d : Found u part) → IsPartOf g u (d.copied.at.routers u).router part
    part_is u part d =
        let x : Router = (d.copied.at.routers u).router in
        let c = d.is.0 in
        let n : ModelRouter = (final (network_of g) m.steps).routers u in
        let exact = pending_alike laws g set.network u x c (alike u part d) in
        record {
          kept = λ q named. d.is.2 q named ∙ ap (λ f. f q) d.copied.kept;
          originated = λ q named. d.is.3 q named ∙ ap (λ f. f q) d.copied.originated;
          incarnation = λ v near. d.is.4 v near ∙ sym (d.copied.ends.reads v near).epoch;
          pending = same_flag part.pending (is_pending g u x)
              (λ e. exact.1 (subst (λ kept. IsNotPending (network_of g) u c kept x.originated) d.copied.kept (subst (IsNotPending (network_of g) u c (n.kept_at s)) d.copied.originated (d.is.5.0 e))))
              (λ e. d.is.5.1 (subst (IsNotPending (network_of g) u c (n.kept_at s)) (sym d.copied.originated) (subst (λ kept. IsNotPending (network_of g) u c kept x.originated) (sym d.copied.kept) (exact.0 e))));
        }

    abbrev Parts : (ℕ → RouterPart) → Type 0
    Parts parts = (u : ℕ) → is_router g u ≡ true → Found u (parts u)

    abbrev network_run : routes.IsRunOf (network_of g) (network_steps (network_of g) m.steps)
    network_run = (more.aside (network_of g) m.steps m.run).0

    -- the routers of the run without offers are those of the run
    abbrev same_routers : routes.reached (network_of g) (network_steps (network_of g) m.steps) ≡ (final (network_of g) m.steps).routers
    same_routers = (more.aside (network_of g) m.steps m.run).1

    finished_there : (u : ℕ) (part : RouterPart) (d : Found u part) → (routes.reached (network_of g) (network_steps (network_of g) m.steps) u).recorder.part s ≡ Some d.channels
    finished_there u part d = ap (λ w. (w u).recorder.part s) same_routers ∙ d.finished

    copied_there : (u : ℕ) (part : RouterPart) (d : Found u part) → (routes.reached (network_of g) (network_steps (network_of g) m.steps) u).recorder.copy s ≡ Some d.is.0
    copied_there u part d = ap (λ w. (w u).recorder.copy s) same_routers ∙ d.is.1

    has_all : (parts : ℕ → RouterPart) → Parts parts → routes.HasAllParts (network_of g) (routes.reached (network_of g) (network_steps (network_of g) m.steps)) s
    has_all parts found u is = let d = found u is in (d.channels, finished_there u (parts u) d)

    -- the law of cuts, of the link from u to v
    cut_of : (parts : ℕ → RouterPart) (found : Parts parts) (u v : ℕ) (near : linked g.net u v ≡ true) (a : Found u (parts u)) (b : Found v (parts v))
        → places.IsCutOfLink (network_of g) (b.is.0 u) (a.is.0 v) (b.channels u)
        × ((held : List (Passing Message)) → OnlyOctets held → ((b.is.0 u).taken ≡ (a.is.0 v).appended → held ≡ [])
        → IsPrefix (passing (written_in g) (b.is.0 u).taken ++ held) (passing (written_in g) ((((final (network_of g) m.steps).routers u).recorder.ends v).appended))
        → IsPrefix (passing (written_in g) (b.is.0 u).taken ++ held) (passing (written_in g) (a.is.0 v).appended))
    cut_of parts found u v near a b =
        let net = network_is laws g set in
        let law = more.cut (network_of g) net (network_steps (network_of g) m.steps) network_run s (has_all parts found) v u b.channels b.is.0 a.is.0 (net.both u v near)
        (finished_there v (parts v) b) (copied_there v (parts v) b) (copied_there u (parts u) a) in (
          law.0,
          λ held only none is. law.1 (written_in g) held only none (subst (λ w. IsPrefix (passing (written_in g) (b.is.0 u).taken ++ held) (passing (written_in g) ((w u).recorder.ends v).appended)) (sym same_routers) is),
        )

    -- what a router had taken as it recorded was said by the end of the run
    taken_there : (u v : ℕ) → IsRunTo g order state → (part : RouterPart) (b : Found v part) → linked g.net u v ≡ true
        → IsPrefix (all_passes (b.copied.at.taken u v)) (passing (written_in g) ((((final (network_of g) m.steps).routers u).recorder.ends v).appended))
    taken_there u v r part b near =
        let kept = kept_to laws g set order state r in
        subst (λ l. IsPrefix (all_passes (b.copied.at.taken u v)) (passing (written_in g) l)) (m.mirrors.log u v near)
        (prefix_trans (all_passes (b.copied.at.taken u v)) (all_passes (state.taken u v)) (passing (written_in g) (log_of state u v))
        (all_front laws (b.copied.at.taken u v) (state.taken u v) (taken_grows g b.copied.place.later b.copied.at state u v b.copied.place.goes_on))
        (taken_said laws g state u v (kept.reached.puts u v) (kept.reached.begins u v)))

    -- nothing is held behind the marker
    none_held : (u v : ℕ) (a b : ℕ → End Message) (rest : List (Passing Message)) → incarnation (b u) ≡ incarnation (a v) → IsIn (Mark (incarnation (a v)) s) (a v).appended
        → (rest ≡ []) ⊎ (IsIn (Mark (incarnation (b u)) s) (b u).taken → ⊥) → (b u).taken ≡ (a v).appended → rest ≡ []
    none_held u v a b rest one there (inl none) same = none
    none_held u v a b rest one there (inr unmarked) same =
        absurd (unmarked (subst (λ l. IsIn (Mark (incarnation (b u)) s) l) (sym same) (subst (λ e. IsIn (Mark e s) (a v).appended) (sym one) there)))

    -- the link from u to v in the cut
    link_is : IsRunTo g order state → (parts : ℕ → RouterPart) (found : Parts parts) (u v : ℕ) → linked g.net u v ≡ true → (a : Found u (parts u)) (b : Found v (parts v))
        → IsCutLink g a.copied.at b.copied.at u v (parts v)
    link_is r parts found u v near a b =
        let net = network_is laws g set in
        let near_back = net.both u v near in
        let cut = cut_of parts found u v near a b in
        let back = cut_of parts found v u near_back b a in
        let holds = b.copied.ends.holds u near_back in
        let taken = holds.passed in
        let at_u = a.copied.at in
        let at_v = b.copied.at in
        let e = (side_of at_v v u).link.epoch in
        let epoch : e ≡ incarnation (b.is.0 u) = (b.copied.ends.reads u near_back).epoch in
        let only = updates_in (b.channels u) in
        let marked = more.marked (network_of g) (network_steps (network_of g) m.steps) network_run u s v a.is.0 (copied_there u (parts u) a) back.0.up in
        let none = none_held u v a.is.0 b.is.0 holds.rest cut.0.one_incarnation marked (b.copied.unmarked u near_back cut.0.up) in
        record {
          consistent = subst (λ l. IsPrefix l (passing (written_in g) (log_of at_u u v))) (sym taken)
              (subst (λ l. IsPrefix (passing (written_in g) (b.is.0 u).taken ++ holds.rest) (passing (written_in g) l)) (sym (a.copied.ends.log v near))
              (cut.1 holds.rest holds.only none (subst (λ l. IsPrefix l (passing (written_in g) ((((final (network_of g) m.steps).routers u).recorder.ends v).appended))) taken (taken_there u v r (parts v) b near))));
          one_incarnation = (a.copied.ends.reads v near).epoch ∙ sym cut.0.one_incarnation ∙ sym epoch;
          in_flight = only;
          channel = b.is.6 u near_back ∙ sym (only_updates (b.channels u));
          sent =
              (a.copied.ends.reads v near).sent e
              ∙ sym (updates_of_updates (said e (a.is.0 v).appended))
              ∙ ap updates_in (subst (λ k. filter is_update (said k (a.is.0 v).appended) ≡ filter is_update (said k (b.is.0 u).used) ++ filter is_update (b.channels u)) (sym epoch) cut.0.in_flight)
              ∙ updates_append (filter is_update (said e (b.is.0 u).used)) (filter is_update (b.channels u))
              ∙ ap (λ us. us ++ updates_in (filter is_update (b.channels u))) (updates_of_updates (said e (b.is.0 u).used))
              ∙ ap (λ us. updates_in (said e (b.is.0 u).used) ++ us) (updates_of_updates (b.channels u))
              ∙ ap (λ us. us ++ only) (sym ((b.copied.ends.reads u near_back).acted e));
        }

    -- where each router recorded, and elsewhere the end of the run
    abbrev choose : (parts : ℕ → RouterPart) → Parts parts → (u : ℕ) (b : Bool) → is_router g u ≡ b → RunState
    choose parts found u true is = (found u is).copied.at
    choose parts found u false is = state

    abbrev places_of : (parts : ℕ → RouterPart) → Parts parts → ℕ → RunState
    places_of parts found u = choose parts found u (is_router g u) refl

    recorded_at : (parts : ℕ → RouterPart) (found : Parts parts) (u : ℕ) (b : Bool) (is : is_router g u ≡ b) → b ≡ true → RecordedAt g order state u s (choose parts found u b is)
    recorded_at parts found u true is h = (found u is).copied.place
    recorded_at parts found u false is h = absurd (cc h)

    state_at : (parts : ℕ → RouterPart) (found : Parts parts) (u : ℕ) (b : Bool) (is : is_router g u ≡ b) → b ≡ true → IsPartOf g u ((choose parts found u b is).routers u).router (parts u)
    state_at parts found u true is h = part_is u (parts u) (found u is)
    state_at parts found u false is h = absurd (cc h)

    link_at : IsRunTo g order state → (parts : ℕ → RouterPart) (found : Parts parts) (u v : ℕ) → linked g.net u v ≡ true → (a b : Bool) (is_u : is_router g u ≡ a) (is_v : is_router g v ≡ b)
        → a ≡ true → b ≡ true → IsCutLink g (choose parts found u a is_u) (choose parts found v b is_v) u v (parts v)
    link_at r parts found u v near true true is_u is_v h k = link_is r parts found u v near (found u is_u) (found v is_v)
    link_at r parts found u v near true false is_u is_v h k = absurd (cc k)
    link_at r parts found u v near false b is_u is_v h k = absurd (cc h)

    cut_is : IsRunTo g order state → (parts : ℕ → RouterPart) (found : Parts parts) → IsCutOf g order state s parts (places_of parts found)
    cut_is r parts found =
        let net = network_is laws g set in
        record {
          recorded = λ u is. recorded_at parts found u (is_router g u) refl is;
          states = λ u is. state_at parts found u (is_router g u) refl is;
          links = λ u v near. link_at r parts found u v near (is_router g u) (is_router g v) refl refl (net.known v u (net.both u v near)) (net.known u v near);
        }

  pub parts_are_of_a_cut : PartsAreOfACut
  parts_are_of_a_cut g set order state r s parts made =
      let m = mirrored g set order state r in
      let found : Parts g set order state m s parts = λ u is. data_of g order state m s u (parts u) (made u is) in
      (places_of g set order state m s parts found, cut_is g set order state m s r parts found)

  there : (g : Setting) (order : RunOrder) (state : RunState) (m : Mirrored g order state) (s : ℕ) (outcome : Outcome) → ComesOut g state s outcome
      → HasOutcome (network_of g) s (final (network_of g) m.steps).made outcome
  there g order state m s outcome h = subst (λ made. HasOutcome (network_of g) s made outcome) (sym m.mirrors.made) h

  pub mismatch_never_comes : MismatchNeverComes
  mismatch_never_comes g set order state r s u v h =
      let m = mirrored g set order state r in
      more.mismatch (network_of g) (network_is laws g set) m.steps m.run s u v (there g order state m s (Moving u (Mismatch v)) h)

  pub settled_is_stable : SettledIsStable
  settled_is_stable g set order state r s settled parts made q named originated says =
      let m = mirrored g set order state r in
      stable_of laws g set q named (λ u. (parts u).originated q) originated says (λ u. (parts u).kept q)
      (more.stable (network_of g) (network_is laws g set) m.steps m.run s (there g order state m s Settled settled) parts
      (λ u is. subst (IsIn (made_of u (Finished s (parts u)))) (sym m.mirrors.made) (made u is)) q named)

  module _ (goes_on : MirrorsGoOn) (recordings : RecordingsAreMirrored) where
    -- towards each peer a router is its ends, at each place of a run
    alike_there : (g : Setting) (state : RunState) (w : offers.Offering Message PrefixView (List ℕ)) → Mirrors g state w → (u : ℕ) → AreAlike g u (state.routers u).router (w.routers u).recorder.ends
    alike_there g state w m u = record {
      reads = λ v near. (m.sides u v near).reads;
      up = λ v near. up_is laws (state_of (side_of state u v).session.state) ((w.routers u).recorder.ends v) (m.sides u v near).fits ∙ up_in (side_of state u v).session.state;
    }

    pub settled_stays : SettledStays
    settled_stays g set before later at last r on s settled quiet u recording part place made q named =
        let recorded = recordings g set before at u s recording place in
        let m = recorded.0 in
        let beyond = goes_on g set before later at last m r on in
        let n = beyond.whole in
        let w = final (network_of g) m.steps in
        let is : is_router g u ≡ true = (router_is g u).1 place.step.1.known in
        let law = more.stays (network_of g) (network_is laws g set) m.steps beyond.more (subst (IsOfferRunOf (network_of g)) beyond.steps n.run) s
        (subst (λ ts. HasOutcome (network_of g) s (final (network_of g) ts).made Settled) beyond.steps (there g (before ++ later) last n s Settled settled))
        (m.quiet s quiet) u q recorded.1 part is named recorded.2
        (subst (λ ts. IsIn (made_of u (Finished s part)) (final (network_of g) ts).made) beyond.steps (subst (IsIn (made_of u (Finished s part))) (sym n.mirrors.made) made)) in
        let reads = m.mirrors.routers u in
        let x : Router = (at.routers u).router in (
          sym (ap (λ f. f q) reads.kept) ∙ law.0,
          sym (routes_alike g u x (w.routers u).recorder.ends (alike_there g at w m.mirrors u) q)
              ∙ ap (λ b. routes.route (network_of g) u (w.routers u).recorder.ends q b) (sym (ap (λ f. f q) reads.originated))
              ∙ law.1,
        )

    -- ---- all of it

    pub settled_snapshots_can_be_believed : SettledSnapshotsCanBeBelieved
    settled_snapshots_can_be_believed g set before later at last r on s settled parts made =
        let whole : IsRunTo g (before ++ later) last = runs_join g before later (runs.opening (λ u. new_logged g)) at last r on in
        let cut = parts_are_of_a_cut g set (before ++ later) last whole s parts made in
        record {
          recordings = cut.0;
          cut = cut.1;
          stable = settled_is_stable g set (before ++ later) last whole s settled parts made;
          stays = λ quiet u recording is place q named. settled_stays g set before later at last r on s settled quiet u recording (parts u) place (made u is) q named;
        }

    pub snapshots_hold : SnapshotsHoldInRuns
    snapshots_hold g set order state r = record {
      all = λ s u is comes. decided_has_all_parts g set order state r s u is comes;
      mismatch = λ s u v comes. mismatch_never_comes g set order state r s u v comes;
      cut = λ s parts made. parts_are_of_a_cut g set order state r s parts made;
      settled = λ s settled parts made before later at whole r on. settled_snapshots_can_be_believed g set before later at state r on s settled parts made;
    }
