-- What the sessions of a router do to what it records, as in the laws of runs.
use Rattle.std.proofs.Common.{◌≡◌, ◌≢◌, ℕ, nat_eq, Bool, true, false, ◌||◌, cond, List, [], ◌∷◌, ◌++◌, filter, refl, ap, sym, ◌∙◌, arith, subst, Option, None, Some, inl, inr, ◌⊎◌}
use Rattle.std.specs.Prelude.{map}
use Rattle.std.specs.List.{list_any}
use Rattle.std.proofs.lemmas.List.{append-nil}
use Rattle.std.proofs.lemmas.Bool.Decides.{nat_tests}
use Rattle.bgp_codec.specs.declared.message.Message.{Message}
use Rattle.bgp_codec.specs.declared.message.Message.TheVariants.{UpdateMsg}
use Rattle.bgp_codec.specs.declared.update.Update.{Update}
use Rattle.run_model.specs.Links.{Entry, End}
use Rattle.run_model.specs.Octets.{Passing}
use Rattle.run_model.specs.Routes as routes
use Rattle.run_model.specs.Offers as offers
use Rattle.run_model.specs.Offers.{lost_by_close, Closed}
use Rattle.snap_marker.specs.Recordings.{Recording, Snapshots, closed, lost}
use Rattle.router_model.specs.Messages.{is_update}
use Rattle.router_model.specs.Settings.{Setting, linked, peers}
use Rattle.router_model.specs.State.{Router}
use Rattle.router_model.specs.Step.{close_at, or_first}
use Rattle.router_runs.specs.Model.{network_of}
use Rattle.router_runs.specs.Mirrors.{ModelRouter, ReadsPart, ReadsRecording, ReadsSnapshots, number_of}
use Rattle.router_runs.proofs.Turning.{AllTurn, left_at, first_left, after_first, lost_first}
use Rattle.router_runs.proofs.Lower.{Laws}

-- these UPDATEs join the channels that still wait for their marker
pub record HearsIn (us : ℕ → List Update) (r q : Recording) : Type 0 where
  pub number : q.number ≡ r.number
  pub waits : q.waits ≡ r.waits
  pub kept : q.part.kept ≡ r.part.kept
  pub originated : q.part.originated ≡ r.part.originated
  pub incarnation : q.part.incarnation ≡ r.part.incarnation
  pub pending : q.part.pending ≡ r.part.pending
  pub channel : (v : ℕ) → q.part.channel v ≡ r.part.channel v ++ cond (r.waits v) (map UpdateMsg (us v)) []

abbrev pub HearsAll : (ℕ → List Update) → Option Recording → Option Recording → Type 0
HearsAll us None None = Unit {0}
HearsAll us None (Some q) = ⊥
HearsAll us (Some r) None = ⊥
HearsAll us (Some r) (Some q) = HearsIn us r q

pub record HearsUpdates (us : ℕ → List Update) (z y : Snapshots) : Type 0 where
  pub last : y.last ≡ z.last
  pub queue : y.queue ≡ z.queue
  pub unfinished : HearsAll us z.unfinished y.unfinished

number_same : (us : ℕ → List Update) (o p : Option Recording) → HearsAll us o p → number_of p ≡ number_of o
number_same us None None h = refl
number_same us None (Some q) h = absurd h
number_same us (Some r) None h = absurd h
number_same us (Some r) (Some q) h = ap Some h.number

nothing_heard : (us : ℕ → List Update) (p : Option Recording) → HearsAll us None p → p ≡ None
nothing_heard us None h = refl
nothing_heard us (Some q) h = absurd h

-- where only one side may leave, it is the first
only_first : (c : Option (ℕ × ℕ)) → or_first c None ≡ c
only_first None = refl
only_first (Some c) = refl

no_first : (vs : List ℕ) (left : ℕ → Option ℕ) → ((v : ℕ) → list_any (nat_eq v) vs ≡ true → left v ≡ None) → first_left vs left ≡ None
no_first [] left h = refl
no_first (v ∷ vs) left h =
    let hit : nat_eq v v ≡ true = grind (arith, nat_tests) in
    let here : (nat_eq v v || list_any (nat_eq v) vs) ≡ true = ap (λ c. c || list_any (nat_eq v) vs) hit in
    ap (λ l. or_first (close_at v l) (first_left vs left)) (h v here) ∙ no_first vs left (λ w k. h w (behind (nat_eq w v) (list_any (nat_eq w) vs) k))
  where
    behind : (b c : Bool) → c ≡ true → (b || c) ≡ true
    behind true c h = refl
    behind false c h = h

pub one_first : (vs : List ℕ) (left : ℕ → Option ℕ) (w : ℕ) → list_any (nat_eq w) vs ≡ true → ((v : ℕ) → nat_eq v w ≡ false → left v ≡ None) → first_left vs left ≡ close_at w (left w)
one_first [] left w member h = absurd (cc member)
one_first (v ∷ vs) left w member h = at (nat_eq w v) (list_any (nat_eq w) vs) refl refl member (λ m. one_first vs left w m h)
  where
    off : (k : ℕ) → (nat_eq w v ≡ true) → k ≢ w → nat_eq k w ≡ false
    off k is apart = grind (arith, nat_tests, apart)

    here : (k : Option ℕ) → left w ≡ k → first_left vs left ≡ None ⊎ (first_left vs left ≡ close_at w (left w)) → or_first (close_at w k) (first_left vs left) ≡ close_at w k
    here None is (inl none) = none
    here None is (inr same) = same ∙ ap (close_at w) is
    here (Some e) is h = refl

    rest : (b : Bool) → list_any (nat_eq w) vs ≡ b → (b ≡ true → first_left vs left ≡ close_at w (left w)) → first_left vs left ≡ None ⊎ (first_left vs left ≡ close_at w (left w))
    rest true is f = inr (f refl)
    rest false is f = inl (no_first vs left (λ k m. h k (away k m (nat_eq k w) refl)))
      where
        away : (k : ℕ) → list_any (nat_eq k) vs ≡ true → (c : Bool) → nat_eq k w ≡ c → nat_eq k w ≡ false
        away k m true same = absurd (let e : k ≡ w = grind (arith, nat_tests, same) in let t : list_any (nat_eq w) vs ≡ true = subst (λ i. list_any (nat_eq i) vs ≡ true) e m in cc (t, is))
        away k m false same = same

    at : (b c : Bool) → nat_eq w v ≡ b → list_any (nat_eq w) vs ≡ c → (nat_eq w v || list_any (nat_eq w) vs) ≡ true → (list_any (nat_eq w) vs ≡ true → first_left vs left ≡ close_at w (left w))
        → or_first (close_at v (left v)) (first_left vs left) ≡ close_at w (left w)
    at true c is m some f =
        let same : w ≡ v = grind (arith, nat_tests, is) in
        subst (λ i. or_first (close_at i (left i)) (first_left vs left) ≡ close_at w (left w)) same (here (left w) refl (rest c m (λ k. f (m ∙ k))))
    at false true is m some f =
        let away : nat_eq v w ≡ false = grind (arith, nat_tests, is) in
        ap (λ l. or_first (close_at v l) (first_left vs left)) (h v away) ∙ f m
    at false false is m some f = absurd (let k = rw (is, m) at some in cc k)

module _ (laws : Laws) (g : Setting) (u : ℕ) (far : ℕ → End Message) (Still : Type 0) (x y : Router) (new : ℕ → List (Entry Message)) (before items : ℕ → List (Passing Message)) (us : ℕ → List Update) (ends : ℕ → End Message) where
  part_heard : (n : ModelRouter) (t : AllTurn laws g u far Still x y new before items us ends n (peers g.net u)) (r q : Recording) → ((v : ℕ) → linked g.net u v ≡ true → list_any (nat_eq v) (peers g.net u) ≡ true)
      → HearsIn us r q → ReadsPart g u r n → ReadsPart g u q t.m
  part_heard n t r q member h p =
      let part = p.part in
      record {
        waits = λ v near. ap (λ (f : ℕ → Bool). f v) t.waits ∙ (p.waits v near ∙ ap (λ (f : ℕ → Bool). f v) (sym h.waits));
        some = ap (λ (f : ℕ → Bool). list_any f (peers g.net u)) h.waits ∙ p.some;
        part = subst (λ i. offers.IsPartOf (network_of g) u t.m i t.m.recorder.channel q.part) (sym h.number) (
          part.0,
          ap (λ (f : ℕ → Option (ℕ → End Message)). f r.number) t.copy ∙ part.1,
          (λ k named. ap (λ f. f k) h.kept ∙ (part.2 k named ∙ ap (λ f. f r.number k) (sym t.kept_at))),
          (λ k named. ap (λ f. f k) h.originated ∙ (part.3 k named ∙ ap (λ f. f r.number k) (sym t.originated_at))),
          (λ v near. ap (λ f. f v) h.incarnation ∙ part.4 v near),
          (
            (λ k. subst (λ f. routes.IsNotPending (network_of g) u part.0 (f r.number) (t.m.originated_at r.number)) (sym t.kept_at)
                (subst (λ f. routes.IsNotPending (network_of g) u part.0 (n.kept_at r.number) (f r.number)) (sym t.originated_at) (part.5.0 (sym h.pending ∙ k)))),
            (λ k. h.pending ∙ part.5.1 (subst (λ f. routes.IsNotPending (network_of g) u part.0 (f r.number) (n.originated_at r.number)) t.kept_at
                (subst (λ f. routes.IsNotPending (network_of g) u part.0 (t.m.kept_at r.number) (f r.number)) t.originated_at k))),
          ),
          (λ v near. h.channel v
              ∙ (ap (λ l. l ++ cond (r.waits v) (map UpdateMsg (us v)) []) (part.6 v near)
              ∙ (ap (λ c. filter is_update (n.recorder.channel v) ++ cond c (map UpdateMsg (us v)) []) (sym (p.waits v near)) ∙ sym (t.channel v (member v near))))),
        );
      }

  recording_heard : (n : ModelRouter) (t : AllTurn laws g u far Still x y new before items us ends n (peers g.net u)) (o p : Option Recording) → ((v : ℕ) → linked g.net u v ≡ true → list_any (nat_eq v) (peers g.net u) ≡ true)
      → HearsAll us o p → ReadsRecording g u o n → ReadsRecording g u p t.m
  recording_heard n t None None member h k = tt
  recording_heard n t None (Some q) member h k = absurd h
  recording_heard n t (Some r) None member h k = absurd h
  recording_heard n t (Some r) (Some q) member h k = part_heard n t r q member h k

  lost_is : (o : Option Recording) (v e : ℕ) → lost o v e Closed ≡ lost_by_close true (number_of o) v e
  lost_is None v e = refl
  lost_is (Some r) v e = refl

  -- what is recorded once all sides have turned: a close loses it, and UPDATEs join its channels
  pub snapshots_turn : (n : ModelRouter) (t : AllTurn laws g u far Still x y new before items us ends n (peers g.net u)) (c : Option (ℕ × ℕ)) (z z' : Snapshots) → ((v : ℕ) → linked g.net u v ≡ true → list_any (nat_eq v) (peers g.net u) ≡ true)
      → first_left (peers g.net u) (left_at laws g u far Still x y new before items us ends) ≡ c → HearsUpdates us (closed c z) z' → ReadsSnapshots g u z n
      → ReadsSnapshots g u z' t.m × (z'.queue ≡ z.queue ++ lost_first (first_left (peers g.net u) (left_at laws g u far Still x y new before items us ends)) n.recorder.unfinished)
  snapshots_turn n t None z z' member is h r = (
    record {
      last = t.last ∙ (r.last ∙ sym h.last);
      unfinished = t.unfinished ∙ (ap (λ c. after_first c n.recorder.unfinished) is ∙ (r.unfinished ∙ sym (number_same us z.unfinished z'.unfinished h.unfinished)));
      recording = recording_heard n t z.unfinished z'.unfinished member h.unfinished r.recording;
    },
    h.queue ∙ (sym (append-nil z.queue) ∙ ap (λ c. z.queue ++ lost_first c n.recorder.unfinished) (sym is)),
  )
  snapshots_turn n t (Some c) z z' member is h r = (
    record {
      last = t.last ∙ (r.last ∙ sym h.last);
      unfinished = t.unfinished ∙ (ap (λ k. after_first k n.recorder.unfinished) is ∙ ap number_of (sym (nothing_heard us z'.unfinished h.unfinished)));
      recording = subst (λ o. ReadsRecording g u o t.m) (sym (nothing_heard us z'.unfinished h.unfinished)) tt;
    },
    h.queue ∙ (ap (λ l. z.queue ++ l) (lost_is z.unfinished c.0 c.1 ∙ ap (λ o. lost_by_close true o c.0 c.1) (sym r.unfinished)) ∙ ap (λ k. z.queue ++ lost_first k n.recorder.unfinished) (sym is)),
  )
