-- Routers that choose routes and tell them to their peers, over routers that record snapshots: ranked paths, choices and
-- stable path assignments (Griffin, Shepherd and Wilfong 2002).
use Rattle.std.specs.Prelude.{ℕ, ◌≡◌, ◌≢◌, ◌==◌, Bool, true, false, ◌&&◌, not, cond, List, [], ◌∷◌, Some, filter}
use Rattle.run_model.specs.Links.{End, Move, Tells, HangsUp, said, is_up, incarnation, RunsGoOn}
use Rattle.run_model.specs.Recordings.{Recorder, Act, Moves, Begins, Follows, recorder_after, new_recorder, MayAct}

-- a network of routers that speak messages M of prefixes P and paths W
pub record Network (M P W : Type 0) : Type 0 where
  pub routers : ℕ → Bool
  pub linked : ℕ → ℕ → Bool
  pub named : P → Bool  -- the prefixes that it names
  pub same_prefix : P → P → Bool
  pub is_update : M → Bool
  -- what an UPDATE tells: paths of prefixes, a withdrawal as no path, the deciding one last
  pub mentions : M → List (P × W)
  pub no_path : W
  -- the best of a router's choices for a prefix, by whether it originates it and the path heard from each peer
  pub best : ℕ → P → Bool → (ℕ → W) → W

pub record IsNetwork {M P W : Type 0} (g : Network M P W) : Type 0 where
  pub apart : (u v : ℕ) → g.linked u v ≡ true → u ≢ v
  pub both : (u v : ℕ) → g.linked u v ≡ true → g.linked v u ≡ true
  pub known : (u v : ℕ) → g.linked u v ≡ true → g.routers v ≡ true

module _ {M P W : Type 0} (g : Network M P W) where
  abbrev pub updates : List M → List M
  updates ms = filter g.is_update ms

  -- the last of these mentions of a prefix, or the given path if there is none
  abbrev pub last_mention : P → W → List (P × W) → W
  last_mention p path [] = path
  last_mention p path (mention ∷ rest) = last_mention p (cond (g.same_prefix p mention.0) mention.1 path) rest

  abbrev pub last_told : P → W → List M → W
  last_told p path [] = path
  last_told p path (m ∷ ms) = last_told p (last_mention p path (g.mentions m)) ms

  -- the last word of these UPDATEs on a prefix: no path if none mentions it
  abbrev pub word : P → List M → W
  word p ms = last_told p g.no_path ms

  -- the words of a connection: the last that was used, and the last that was said
  abbrev pub heard_word : (ℕ → End M) → ℕ → P → W
  heard_word ends v p = word p (updates (said (incarnation (ends v)) (ends v).used))

  abbrev pub told_word : (ℕ → End M) → ℕ → P → W
  told_word ends v p = word p (updates (said (incarnation (ends v)) (ends v).appended))

  -- the best choice now, by the words heard from the Established peers
  abbrev pub route : ℕ → (ℕ → End M) → P → Bool → W
  route u ends p originated =
      g.best u p originated (λ v. cond (g.linked u v && is_up (ends v)) (heard_word ends v p) g.no_path)

  -- nothing is pending: each kept path is the route, and each Established peer was told it
  abbrev pub IsNotPending : ℕ → (ℕ → End M) → (P → W) → (P → Bool) → Type 0
  IsNotPending u ends kept originated =
      ((p : P) → g.named p ≡ true → kept p ≡ route u ends p (originated p))
      × ((v : ℕ) (p : P) → g.linked u v ≡ true → is_up (ends v) ≡ true → g.named p ≡ true → told_word ends v p ≡ kept p)

  -- a stable path assignment for a prefix: each router's path is the best of its choices, given its peers' paths
  abbrev pub IsStableAssignment : P → (ℕ → Bool) → (ℕ → W) → Type 0
  IsStableAssignment p originated path =
      (u : ℕ) → g.routers u ≡ true
      → path u ≡ g.best u p (originated u) (λ v. cond (g.linked u v) (path v) g.no_path)

-- a router: what it records, and its table. Only definitions speak of what was recorded of the table
pub record Router (M P W : Type 0) : Type 0 where
  pub recorder : Recorder M
  pub kept : P → W  -- the path that it uses and tells
  pub originated : P → Bool
  pub kept_at : ℕ → P → W  -- as a number was recorded
  pub originated_at : ℕ → P → Bool
  pub quiet : ℕ → Bool  -- no session left Established and no command was done since a number was recorded

pub data Event (M P W : Type 0) : Type 0 where
  Acts : (act : Act M) → Event M P W  -- of its links and recordings, without an UPDATE told
  Advertise : (peer : ℕ) (prefix : P) (update : M) → Event M P W
  Decide : (prefix : P) → Event M P W
  Command : (originated : P → Bool) (kept : P → W) → Event M P W  -- any but Snapshot

module _ {M : Type 0} where
  -- whether this act records a number
  abbrev pub records : Act M → ℕ → Bool
  records (Begins s whole) n = n == s
  records (Follows v e s whole) n = n == s
  records _ n = false

  abbrev pub hangs_up : Move M → Bool
  hangs_up HangsUp = true
  hangs_up _ = false

  -- whether a session leaves Established
  abbrev pub leaves : Recorder M → Act M → Bool
  leaves x (Moves v move) = is_up (x.ends v) && hangs_up move
  leaves x _ = false

module _ {M P W : Type 0} (g : Network M P W) where
  abbrev pub router_after : ℕ → Router M P W → Event M P W → Router M P W
  router_after u n (Acts act) = record {
    recorder = recorder_after n.recorder act;
    kept = n.kept;
    originated = n.originated;
    kept_at = λ s. cond (records act s) n.kept (n.kept_at s);
    originated_at = λ s. cond (records act s) n.originated (n.originated_at s);
    quiet = λ s. cond (records act s) true (n.quiet s && not (leaves n.recorder act));
  }
  router_after u n (Advertise v p m) = record {
    recorder = recorder_after n.recorder (Moves v (Tells m));
    kept = n.kept;
    originated = n.originated;
    kept_at = n.kept_at;
    originated_at = n.originated_at;
    quiet = n.quiet;
  }
  router_after u n (Decide p) = record {
    recorder = n.recorder;
    kept = λ q. cond (g.same_prefix q p) (route g u n.recorder.ends p (n.originated p)) (n.kept q);
    originated = n.originated;
    kept_at = n.kept_at;
    originated_at = n.originated_at;
    quiet = n.quiet;
  }
  router_after u n (Command originated kept) = record {
    recorder = n.recorder;
    kept = kept;
    originated = originated;
    kept_at = n.kept_at;
    originated_at = n.originated_at;
    quiet = λ s. false;
  }

  abbrev pub TellsNoUpdate : Act M → Type 0
  TellsNoUpdate (Moves v (Tells m)) = updates g (m ∷ []) ≡ []
  TellsNoUpdate _ = Unit {0}

abbrev pub Routers : (M P W : Type 0) → Type 0
Routers M P W = ℕ → Router M P W

pub record NetworkStep (M P W : Type 0) : Type 0 where
  pub router : ℕ
  pub event : Event M P W

module _ {M P W : Type 0} (g : Network M P W) where
  -- an UPDATE is told of a prefix whose last word to the peer is not the kept path, and tells that path; a router decides
  -- for a prefix whose kept path is not the route
  abbrev pub MayHappen : Routers M P W → ℕ → Event M P W → Type 0
  MayHappen w u (Acts act) =
      MayAct u (w u).recorder (λ v. (w v).recorder.ends u) (g.linked u) act × TellsNoUpdate g act
  MayHappen w u (Advertise v p m) =
      (u ≢ v) × (g.linked u v ≡ true) × (is_up ((w u).recorder.ends v) ≡ true)
      × (told_word g (w u).recorder.ends v p ≢ (w u).kept p)
      × (g.named p ≡ true) × (g.is_update m ≡ true) × (g.mentions m ≡ (p, (w u).kept p) ∷ [])
  MayHappen w u (Decide p) =
      (g.named p ≡ true) × ((w u).kept p ≢ route g u (w u).recorder.ends p ((w u).originated p))
  MayHappen w u (Command originated kept) = Unit {0}

  abbrev pub advanced : Routers M P W → NetworkStep M P W → Routers M P W
  advanced w t = λ u. cond (u == t.router) (router_after g u (w u) t.event) (w u)

  abbrev pub IsNetworkRun : Routers M P W → List (NetworkStep M P W) → Type 0
  IsNetworkRun w [] = Unit {0}
  IsNetworkRun w (t ∷ ts) = MayHappen w t.router t.event × IsNetworkRun (advanced w t) ts

  abbrev pub routers_after : Routers M P W → List (NetworkStep M P W) → Routers M P W
  routers_after w [] = w
  routers_after w (t ∷ ts) = routers_after (advanced w t) ts

  -- nothing is linked, kept or recorded
  abbrev pub first_routers : Routers M P W
  first_routers = λ u. record {
    recorder = new_recorder;
    kept = λ p. g.no_path;
    originated = λ p. false;
    kept_at = λ s p. g.no_path;
    originated_at = λ s p. false;
    quiet = λ s. false;
  }

  -- these events are a run from the opening, and the routers that they reach
  abbrev pub IsRunOf : List (NetworkStep M P W) → Type 0
  IsRunOf ts = IsNetworkRun first_routers ts

  abbrev pub reached : List (NetworkStep M P W) → Routers M P W
  reached ts = routers_after first_routers ts

  -- a snapshot is settled: every router finished its recording, no channel has an UPDATE, and nothing was pending
  abbrev pub IsSettled : Routers M P W → ℕ → Type 0
  IsSettled w s =
      (u : ℕ) → g.routers u ≡ true → (channels : ℕ → List M) × (c : ℕ → End M)
      × ((w u).recorder.part s ≡ Some channels) × ((w u).recorder.copy s ≡ Some c)
      × ((v : ℕ) → g.linked u v ≡ true → updates g (channels v) ≡ [])
      × IsNotPending g u c ((w u).kept_at s) ((w u).originated_at s)

  -- every router finished its recording of s
  abbrev pub HasAllParts : Routers M P W → ℕ → Type 0
  HasAllParts w s =
      (u : ℕ) → g.routers u ≡ true → (channels : ℕ → List M) × ((w u).recorder.part s ≡ Some channels)

abbrev pub NetworkRunsGoOn : (M P W : Type 0) → Type 0
NetworkRunsGoOn M P W = (g : Network M P W) → RunsGoOn (IsNetworkRun g) (routers_after g) (first_routers g)

-- the recorded paths of a settled snapshot are a stable assignment, for each prefix
abbrev pub SettledIsStable : (M P W : Type 0) → Type 0
SettledIsStable M P W =
    (g : Network M P W) → IsNetwork g → (ts : List (NetworkStep M P W)) → IsRunOf g ts → (s : ℕ)
    → IsSettled g (reached g ts) s → (p : P) → g.named p ≡ true
    → IsStableAssignment g p (λ u. (reached g ts u).originated_at s p) (λ u. (reached g ts u).kept_at s p)
