-- How many items the pipes of a router hold: where a link joins it to a peer, as many as the network says.
use Rattle.std.proofs.Common.{◌≡◌, ℕ, suc, ◌<◌, ◌==◌, arith, Bool, true, false, cond, ◌&&◌, List, [], ◌∷◌, ◌++◌, map, refl, sym, ap, ◌∙◌, subst}
use Rattle.std.specs.Prelude.{◌||◌}
use Rattle.std.specs.List.{AllByRecursion, AllPairs, list_any}
use Rattle.std.proofs.lemmas.Bool.{eq-eqb, ne_eqb, eqb-true, eqb-false}
use Rattle.ranked_policy.specs.declared.network.Link.{Link}
use Rattle.ranked_policy.specs.Plans.{Plan, numbers}
use Rattle.ruled_pipe.specs.Ends.{TableId}
use Rattle.router_model.specs.Settings.{joins}
use Rattle.net_workers.specs.declared.worker_pipes.PipePair.{PipePair}
use Rattle.net_workers.specs.declared.running.Finished.{Finished}
use Rattle.net_workers.specs.Lanes.{Wire, wire_of, room_of}
use Rattle.net_workers.specs.Dealt.{lanes_in, lanes_by, wires_on, Dealt, wires_by, AreDealt}
use Rattle.net_workers.specs.Ran.{lines_of}
use Rattle.net_workers.proofs.Dealt.{wire_reaches}
use Rattle.net_workers.proofs.Records.{number, HasRooms, all_above, all_both}

-- ---- by the pipes of which a router holds the ends

abbrev wire_room : List Wire → ℕ → ℕ
wire_room [] v = 0
wire_room (w ∷ ws) v = cond (w.peer == v) w.room (wire_room ws v)

room_wires : (pairs : List PipePair) (v : ℕ) → room_of pairs v ≡ wire_room (map wire_of pairs) v
room_wires [] v = refl
room_wires (l ∷ ls) v = ap (λ (n : ℕ). cond (l.peer == v) l.out.room n) (room_wires ls v)

module _ (room : ℕ) where
  abbrev HaveRoom : List Wire → Type 0
  HaveRoom ws = AllByRecursion (λ w. w.room ≡ room) ws

  room_by : (w : Wire) (rest : ℕ) (b c : Bool) → w.room ≡ room → (c ≡ true → rest ≡ room) → cond b true c ≡ true → cond b w.room rest ≡ room
  room_by w rest true c here go h = here
  room_by w rest false c here go h = go h

  reached_room : (ws : List Wire) (v : ℕ) → HaveRoom ws → wire_reaches ws v ≡ true → wire_room ws v ≡ room
  reached_room [] v all h = absurd cc
  reached_room (w ∷ ws) v all h = room_by w (wire_room ws v) (w.peer == v) (wire_reaches ws v) all.0 (reached_room ws v all.1) h

  both_room : (xs ys : List Wire) → HaveRoom xs → HaveRoom ys → HaveRoom (xs ++ ys)
  both_room [] ys all more = more
  both_room (x ∷ xs) ys all more = (all.0, both_room xs ys all.1 more)

  on_room : (link : Link) (out back : TableId) (a b : Bool)
      → HaveRoom (cond a (record { peer = link.other; out = out; room = room; into = back } ∷ []) (cond b (record { peer = link.one; out = back; room = room; into = out } ∷ []) []))
  on_room link out back true b = (refl, tt)
  on_room link out back false true = (refl, tt)
  on_room link out back false false = tt

  dealt_room : (links : List Link) (wires : ℕ → List Wire) (u : ℕ) → Dealt room links wires → HaveRoom (wires u)
  dealt_room [] wires u dealt = subst HaveRoom (sym (dealt u)) tt
  dealt_room (l ∷ ls) wires u dealt =
      subst HaveRoom (sym (dealt.4 u)) (both_room (dealt.0 u) (wires_on room l dealt.1 dealt.2 u) (dealt_room ls dealt.0 u dealt.3) (on_room l dealt.1 dealt.2 (l.one == u) (l.other == u)))

  -- ---- a pipe leads where a link does

  cond_true : (b : Bool) → cond b true true ≡ true
  cond_true true = refl
  cond_true false = refl

  reaches_behind : (xs ys : List Wire) (v : ℕ) → wire_reaches ys v ≡ true → wire_reaches (xs ++ ys) v ≡ true
  reaches_behind [] ys v h = h
  reaches_behind (x ∷ xs) ys v h = ap (λ (c : Bool). cond (x.peer == v) true c) (reaches_behind xs ys v h) ∙ cond_true (x.peer == v)

  still_by : (b c d : Bool) → (c ≡ true → d ≡ true) → cond b true c ≡ true → cond b true d ≡ true
  still_by true c d go h = refl
  still_by false c d go h = go h

  reaches_still : (xs ys : List Wire) (v : ℕ) → wire_reaches xs v ≡ true → wire_reaches (xs ++ ys) v ≡ true
  reaches_still [] ys v h = absurd cc
  reaches_still (x ∷ xs) ys v h = still_by (x.peer == v) (wire_reaches xs v) (wire_reaches (xs ++ ys) v) (reaches_still xs ys v) h

  on_reaches : (link : Link) (out back : TableId) (u v : ℕ) (a b c d : Bool) → (link.one == u) ≡ a → (link.other == u) ≡ b → (link.other == v) ≡ c → (link.one == v) ≡ d → ((a && c) || (d && b)) ≡ true
      → wire_reaches (cond a (record { peer = link.other; out = out; room = room; into = back } ∷ []) (cond b (record { peer = link.one; out = back; room = room; into = out } ∷ []) [])) v ≡ true
  on_reaches link out back u v true b true d ea eb ec ed h = rw ec refl
  on_reaches link out back u v true true false true ea eb ec ed h = absurd (eqb-false link.other v ec (eqb-true link.other u eb ∙ sym (eqb-true link.one u ea) ∙ eqb-true link.one v ed))
  on_reaches link out back u v true false false true ea eb ec ed h = absurd cc
  on_reaches link out back u v true b false false ea eb ec ed h = absurd cc
  on_reaches link out back u v false true c true ea eb ec ed h = rw ed refl
  on_reaches link out back u v false true c false ea eb ec ed h = absurd cc
  on_reaches link out back u v false false c true ea eb ec ed h = absurd cc
  on_reaches link out back u v false false c false ea eb ec ed h = absurd cc

  joined_by : (link : Link) (rest : List Wire) (out back : TableId) (u v : ℕ) (here there : Bool) → joins u v link ≡ here → (here || there) ≡ true
      → (there ≡ true → wire_reaches rest v ≡ true) → wire_reaches (rest ++ wires_on room link out back u) v ≡ true
  joined_by link rest out back u v true there is h go =
      reaches_behind rest (wires_on room link out back u) v
      (on_reaches link out back u v (link.one == u) (link.other == u) (link.other == v) (link.one == v) refl refl refl refl is)
  joined_by link rest out back u v false there is h go = reaches_still rest (wires_on room link out back u) v (go h)

  joined : (links : List Link) (wires : ℕ → List Wire) (u v : ℕ) → Dealt room links wires → list_any (joins u v) links ≡ true → wire_reaches (wires u) v ≡ true
  joined [] wires u v dealt h = absurd cc
  joined (l ∷ ls) wires u v dealt h =
      ap (λ (ws : List Wire). wire_reaches ws v) (dealt.4 u)
      ∙ joined_by l (dealt.0 u) dealt.1 dealt.2 u v (joins u v l) (list_any (joins u v) ls) refl h (joined ls dealt.0 u v dealt.3)

-- ---- by the pairs of workers

module _ {G : Type 0} where
  -- the pairs of a worker are those of its router
  abbrev AreLanesOf : List (Finished G) → Finished G → Type 0
  AreLanesOf all e = lanes_by (map number all) (lanes_in (map lines_of all)) (number e) ≡ e.worker.lines.pairs.items

  lanes_at : (es : List (Finished G)) → AllPairs (λ a b. a < b) (map number es) → AllByRecursion (AreLanesOf es) es
  lanes_at [] rising = tt
  lanes_at (e ∷ es) rising = (
    rw (eq-eqb (number e) (number e) refl) refl,
    all_both (λ x. number e < number x) (AreLanesOf es) (AreLanesOf (e ∷ es))
        (λ x less h. rw (ne_eqb (number e) (number x) (λ same. absurd (omega (arith, less, same)))) h)
        es (all_above e es rising) (lanes_at es (λ i j d a b. rising (suc i) (suc j) d (omega (arith, a)) (omega (arith, b)))),
  )

  rooms_by : (plan : Plan) (all es : List (Finished G)) → Dealt plan.settings.pipe plan.links (wires_by (map number all) (lanes_in (map lines_of all))) → AllByRecursion (AreLanesOf all) es
      → AllByRecursion (HasRooms plan) es
  rooms_by plan all [] dealt at = tt
  rooms_by plan all (e ∷ es) dealt at =
      let room = plan.settings.pipe in
      let wires = wires_by (map number all) (lanes_in (map lines_of all)) in (
        λ v link.
            ap (λ (ls : List PipePair). room_of ls v) (sym at.0)
            ∙ room_wires (lanes_by (map number all) (lanes_in (map lines_of all)) (number e)) v
            ∙ reached_room room (wires (number e)) v (dealt_room room plan.links wires (number e) dealt) (joined room plan.links wires (number e) v dealt link),
        rooms_by plan all es dealt at.1,
      )

  pub rooms_are : (plan : Plan) (es : List (Finished G)) → AllPairs (λ a b. a < b) (numbers plan.routers) → map number es ≡ numbers plan.routers → AreDealt plan plan.links (map lines_of es)
      → AllByRecursion (HasRooms plan) es
  rooms_are plan es rising are dealt =
      rooms_by plan es es (subst (λ ns. Dealt plan.settings.pipe plan.links (wires_by ns (lanes_in (map lines_of es)))) (sym are) dealt)
      (lanes_at es (subst (AllPairs (λ a b. a < b)) (sym are) rising))
