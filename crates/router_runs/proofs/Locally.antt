-- What a step of one router is in the laws of runs, and that a step of its sessions is so.
use Rattle.std.proofs.Common.{◌≡◌, ℕ, ◌<◌, nat_eq, Bool, true, false, cond, List, [], ◌∷◌, ◌++◌, filter, refl, ap, sym, ◌∙◌, arith, subst, Option, None, Some, inl, ◌⊎◌}
use Rattle.std.specs.List.{list_any, AllPairs}
use Rattle.std.proofs.lemmas.List.Elements.{recursion_from_All}
use Rattle.std.proofs.lemmas.List.Kept.{AllPairs-filter}
use Rattle.std.proofs.lemmas.Bool.Decides.{nat_tests}
use Rattle.bgp_codec.specs.declared.message.Message.{Message}
use Rattle.bgp_codec.specs.declared.update.Update.{Update}
use Rattle.ranked_policy.specs.Plans.{IsNetwork, numbers}
use Rattle.run_model.specs.Links as links
use Rattle.run_model.specs.Links.{Entry, Mark, End, incarnation}
use Rattle.run_model.specs.Offers.{IsIn}
use Rattle.run_model.specs.Octets.{Passing}
use Rattle.run_model.specs.Routes.{IsNotPending}
use Rattle.snap_marker.specs.Recordings.{RouterOffer, Recording, Snapshots, closed}
use Rattle.router_model.specs.Messages.{is_update}
use Rattle.router_model.specs.Settings.{Setting, linked, peers}
use Rattle.router_model.specs.State.{Router}
use Rattle.router_runs.specs.Model.{network_of}
use Rattle.router_runs.specs.Mirrors.{ModelRouter, Goes, ReadsPart, ReadsRecording, ReadsSnapshots, ReadsRouter, Recorded}
use Rattle.router_runs.proofs.Turning.{IsTurned, MayTurn, AreApart, left_at, first_left, lost_first, all_turn}
use Rattle.router_runs.proofs.Hearing.{HearsUpdates, snapshots_turn}
use Rattle.router_runs.proofs.Markers.{above, pairs_head, pairs_tail}
use Rattle.router_runs.proofs.Lower.{Laws}

-- nothing new was recorded
pub nothing_recorded : (n m : ModelRouter) (low high : ℕ) → m.recorder.copy ≡ n.recorder.copy → m.kept_at ≡ n.kept_at → m.originated_at ≡ n.originated_at → low ≡ high → Recorded n m low high
nothing_recorded n m low high copy kept originated same = record {
  kept = λ k c is. (c, ap (λ (f : ℕ → Option (ℕ → End Message)). f k) copy ∙ is);
  new = λ k c is. inl (ap (λ (f : ℕ → Option (ℕ → End Message)). f k) (sym copy) ∙ is, ap (λ f. f k) kept, ap (λ f. f k) originated);
  recorded = λ k less is. absurd (omega (arith, same, less, is));
}

-- what is read of a recording hangs on these alone
part_like : (g : Setting) (u : ℕ) (r : Recording) (n m : ModelRouter) → m.recorder ≡ n.recorder → m.kept_at ≡ n.kept_at → m.originated_at ≡ n.originated_at → ReadsPart g u r n → ReadsPart g u r m
part_like g u r n m recorder kept originated p =
    let part = p.part in
    record {
      waits = λ v near. ap (λ i. i.waits v) recorder ∙ p.waits v near;
      some = p.some;
      part = (
        part.0,
        ap (λ i. i.copy r.number) recorder ∙ part.1,
        (λ k named. part.2 k named ∙ ap (λ f. f r.number k) (sym kept)),
        (λ k named. part.3 k named ∙ ap (λ f. f r.number k) (sym originated)),
        part.4,
        (
          (λ k. subst (λ f. IsNotPending (network_of g) u part.0 (f r.number) (m.originated_at r.number)) (sym kept) (subst (λ f. IsNotPending (network_of g) u part.0 (n.kept_at r.number) (f r.number)) (sym originated) (part.5.0 k))),
          (λ k. part.5.1 (subst (λ f. IsNotPending (network_of g) u part.0 (f r.number) (n.originated_at r.number)) kept (subst (λ f. IsNotPending (network_of g) u part.0 (m.kept_at r.number) (f r.number)) originated k))),
        ),
        (λ v near. part.6 v near ∙ ap (λ i. filter is_update (i.channel v)) (sym recorder)),
      );
    }

pub recording_like : (g : Setting) (u : ℕ) (o : Option Recording) (n m : ModelRouter) → m.recorder ≡ n.recorder → m.kept_at ≡ n.kept_at → m.originated_at ≡ n.originated_at → ReadsRecording g u o n → ReadsRecording g u o m
recording_like g u None n m recorder kept originated p = tt
recording_like g u (Some r) n m recorder kept originated p = part_like g u r n m recorder kept originated p

pub snapshots_like : (g : Setting) (u : ℕ) (z : Snapshots) (n m : ModelRouter) → m.recorder ≡ n.recorder → m.kept_at ≡ n.kept_at → m.originated_at ≡ n.originated_at → ReadsSnapshots g u z n → ReadsSnapshots g u z m
snapshots_like g u z n m recorder kept originated r = record {
  last = ap (λ i. i.last) recorder ∙ r.last;
  unfinished = ap (λ i. i.unfinished) recorder ∙ r.unfinished;
  recording = recording_like g u z.unfinished n m recorder kept originated r.recording;
}

passes_at : (q : ℕ → Bool) (w x : ℕ) (xs : List ℕ) (c b : Bool) → q x ≡ c → nat_eq w x ≡ b → (list_any (nat_eq w) (filter q xs) ≡ true → q w ≡ true) → list_any (nat_eq w) (cond c (x ∷ filter q xs) (filter q xs)) ≡ true → q w ≡ true
passes_at q w x xs true true h k f m = (let same : w ≡ x = grind (arith, nat_tests, k) in ap q same ∙ h)
passes_at q w x xs true false h k f m = f (rw k at m)
passes_at q w x xs false b h k f m = f m

passes : (q : ℕ → Bool) (w : ℕ) (xs : List ℕ) → list_any (nat_eq w) (filter q xs) ≡ true → q w ≡ true
passes q w [] m = absurd cc
passes q w (x ∷ xs) m = passes_at q w x xs (q x) (nat_eq w x) refl refl (passes q w xs) m

pub peer_linked : (g : Setting) (u v : ℕ) → list_any (nat_eq v) (peers g.net u) ≡ true → linked g.net u v ≡ true
peer_linked g u v m = passes (linked g.net u) v (numbers g.net.routers) m

module _ (laws : Laws) (g : Setting) (net : IsNetwork g.net) (u : ℕ) (far : ℕ → End Message) (Still : Type 0) where
  -- a step of router u from x to y, of which n is the router of the laws; so many of its events are commands
  pub record LocalStep (commands : ℕ) (x y : Router) (new : ℕ → List (Entry Message)) (before items : ℕ → List (Passing Message)) (n : ModelRouter) : Type 0 where
    pub m : ModelRouter
    pub offers : List RouterOffer
    pub goes : Goes g u far Still commands n m offers
    pub turned : (v : ℕ) → linked g.net u v ≡ true → IsTurned laws g u far Still v (y.sides v) (new v) (before v ++ items v) (n.recorder.ends v) (m.recorder.ends v)
    pub reads : ReadsRouter g u y m
    pub queue : y.snapshots.queue ≡ x.snapshots.queue ++ offers
    pub recorded : Recorded n m x.snapshots.last y.snapshots.last
    -- of a number that is recorded: nothing is held of a peer, or its marker was not taken yet
    pub unmarked : (k v : ℕ) → x.snapshots.last < k → y.snapshots.last ≡ k → (near : linked g.net u v ≡ true) → links.is_up (m.recorder.ends v) ≡ true
        → ((turned v near).holds.rest ≡ []) ⊎ (IsIn (Mark (incarnation (m.recorder.ends v)) k) (m.recorder.ends v).taken → ⊥)

  peer_of : (v : ℕ) → linked g.net u v ≡ true → list_any (nat_eq v) (peers g.net u) ≡ true
  peer_of v near = (laws.links g.net net u v near).peer

  module _ (x y : Router) (new : ℕ → List (Entry Message)) (before items : ℕ → List (Passing Message)) (us : ℕ → List Update) (n : ModelRouter) where
    apart_of : (xs : List ℕ) → AllPairs (λ a b. a < b) xs → AreApart laws g u far Still x y new before items us n.recorder.ends xs
    apart_of [] rising = tt
    apart_of (v ∷ xs) rising = (at (list_any (nat_eq v) xs) refl, apart_of xs (pairs_tail v xs rising))
      where
        at : (b : Bool) → list_any (nat_eq v) xs ≡ b → b ≡ false
        at true h = absurd (let l = above v v xs (recursion_from_All (λ i. v < i) xs (pairs_head v xs rising)) h in omega (arith, l))
        at false h = refl

    rising : AllPairs (λ a b. a < b) (peers g.net u)
    rising = AllPairs-filter (λ a b. a < b) (linked g.net u) (numbers g.net.routers) net.plan.rising

    -- all its sessions turn, and UPDATEs are heard
    pub sessions_step : ((v : ℕ) → linked g.net u v ≡ true → MayTurn laws g u far Still v (x.sides v) (y.sides v) (new v) (before v) (items v) (us v) (n.recorder.ends v))
        → y.kept ≡ x.kept → y.originated ≡ x.originated → (c : Option (ℕ × ℕ)) → first_left (peers g.net u) (left_at laws g u far Still x y new before items us n.recorder.ends) ≡ c
        → HearsUpdates us (closed c x.snapshots) y.snapshots → ReadsRouter g u x n → LocalStep 0 x y new before items n
    sessions_step may kept originated c is hears reads =
        let t = all_turn laws g u far Still x y new before items us n.recorder.ends (peers g.net u) (apart_of (peers g.net u) rising) n (λ v m. refl) (λ v m. may v (peer_linked g u v m)) in
        let s = snapshots_turn laws g u far Still x y new before items us n.recorder.ends n t c x.snapshots y.snapshots peer_of is hears reads.snapshots in
        let same : x.snapshots.last ≡ y.snapshots.last = sym reads.snapshots.last ∙ (sym t.last ∙ s.0.last) in
        record {
          m = t.m;
          offers = lost_first (first_left (peers g.net u) (left_at laws g u far Still x y new before items us n.recorder.ends)) n.recorder.unfinished;
          goes = t.goes;
          turned = λ v near. t.there v (peer_of v near);
          reads = record { kept = t.kept ∙ (reads.kept ∙ sym kept); originated = t.originated ∙ (reads.originated ∙ sym originated); snapshots = s.0 };
          queue = s.1;
          recorded = nothing_recorded n t.m x.snapshots.last y.snapshots.last t.copy t.kept_at t.originated_at same;
          unmarked = λ k v low is near up. absurd (omega (arith, low, is, same));
        }
