-- What a worker does for each chore, exactly.
use Rattle.std.specs.Prelude.{ℕ, ◌+◌, ◌≡◌, ◌≤◌, max, Bool, true, false, ◌⊎◌, List, [], ◌∷◌, ◌++◌, length, Option, None, Some}
use Rattle.ranked_policy.specs.Plans.{Plan}
use Rattle.outbox.specs.declared.item.Item.{Item}
use Rattle.run_model.specs.Network.{takes, offers}
use Rattle.snap_marker.specs.Recordings.{RouterOffer}
use Rattle.router_model.specs.declared.refusal.RouterError.{RouterError}
use Rattle.router_model.specs.declared.refusal.RouterError.TheVariants as error
use Rattle.router_model.specs.Settings.{Setting, IsSetting}
use Rattle.router_model.specs.Step.{next_offer}
use Rattle.router_model.specs.Calls as calls
use Rattle.router_model.specs.Calls.{Call, Put, Handle, Answer, Steps, Idle, Refuses, answer, stamp_of}
use Rattle.worker_loop.specs.declared.chore.Chore.{Chore}
use Rattle.worker_loop.specs.declared.chore.Chore.TheVariants as chore
use Rattle.worker_loop.specs.Acts.{Act, act_of, Seen, Does}

-- events that lead from one state of a worker to another
abbrev pub Stage : Type 1
Stage = Seen → List Act → Seen → Type 0

-- one stage, and then another
abbrev pub Then : Stage → Stage → Stage
Then P Q a acts b = (m : Seen) × (front rest : List Act) × (acts ≡ front ++ rest) × P a front m × Q m rest b

abbrev pub Nothing : Stage
Nothing a acts b = (acts ≡ []) × (a ≡ b)

abbrev pub Each : {X : Type 0} → (X → Stage) → List X → Stage
Each P [] a acts b = Nothing a acts b
Each P (x ∷ xs) a acts b = Then (P x) (Each P xs) a acts b

-- refusals that say that there is nothing to do; the others end a worker
abbrev pub is_passed_over : RouterError → Bool
is_passed_over error.NoSuchPeer = true
is_passed_over error.NotOrigin = true
is_passed_over (error.OldSnapshot last) = true
is_passed_over (error.Blocked v) = true
is_passed_over (error.Held v) = true
is_passed_over error.StampEnd = false
is_passed_over error.EpochEnd = false
is_passed_over error.Memory = false

abbrev pub goes_on : Answer → Bool
goes_on (Steps e) = true
goes_on Idle = true
goes_on (Refuses why) = is_passed_over why

-- the one event of a call that is a step; no event of any other call
abbrev pub acts_by : ℕ → ℕ → Answer → List Act
acts_by u stamp (Steps e) = act_of u stamp stamp e ∷ []
acts_by u stamp Idle = []
acts_by u stamp (Refuses why) = []

abbrev pub acts_of : Setting → ℕ → Seen → Call → List Act
acts_of g u a call = acts_by u (stamp_of g u a.router call) (answer g u a.router call)

-- at most one item is taken from v
abbrev pub TakesOne : ℕ → ℕ → Seen → List Act → Type 0
TakesOne u v a acts = (acts ≡ []) ⊎ ((i : Item) × (acts ≡ act_of u (max a.router.stamp i.stamp + 1) i.stamp (takes v i.what) ∷ []))

-- the offer that waits in front, if any, is made
abbrev pub OffersOne : ℕ → Option RouterOffer → List Act → Type 0
OffersOne u None acts = acts ≡ []
OffersOne u (Some o) acts = (stamp : ℕ) × (acts ≡ act_of u stamp stamp (offers (record { router = u; offer = o })) ∷ [])

module _ (g : Setting) (u : ℕ) where
  -- a call of the router is tried: its event is done exactly if it is a step
  pub record Calls (call : Call) (a : Seen) (acts : List Act) (b : Seen) : Type 0 where
    pub only : acts ≡ acts_of g u a call
    pub goes_on : goes_on (answer g u a.router call) ≡ true
    pub does : Does g u a acts b

  -- a put towards v: it is missing only if there is nothing to put, or if as many were put as the line holds at most
  pub record Puts (v : ℕ) (a : Seen) (acts : List Act) (b : Seen) : Type 0 where
    pub only : (acts ≡ acts_of g u a (Put v)) ⊎ ((acts ≡ []) × (a.room v ≤ length (a.put v)))
    pub goes_on : goes_on (answer g u a.router (Put v)) ≡ true
    pub does : Does g u a acts b

  pub record Takes (v : ℕ) (a : Seen) (acts : List Act) (b : Seen) : Type 0 where
    pub only : TakesOne u v a acts
    pub does : Does g u a acts b

  pub record Offers (a : Seen) (acts : List Act) (b : Seen) : Type 0 where
    pub only : OffersOne u (next_offer a.router.router) acts
    pub does : Does g u a acts b

  -- what is tried with a peer
  abbrev pub Meets : ℕ → Stage
  Meets v = Then (Puts v) (Then (Takes v) (Calls (Handle v)))

  -- a turn: with each peer, rising, and then alone
  abbrev pub Turns : List ℕ → Stage
  Turns peers = Then (Each Meets peers) (Then (Calls calls.Decide) (Then (Calls calls.Advertise) Offers))

  abbrev pub Obeys : List ℕ → Chore → Stage
  Obeys peers chore.Turn = Turns peers
  Obeys peers chore.Tick = Calls calls.Tick
  Obeys peers (chore.Command c) = Calls (calls.Obey c)
  Obeys peers chore.Stop = Nothing

  -- the chores are done one after another
  abbrev pub Follows : List ℕ → List Chore → Stage
  Follows peers chores = Each (Obeys peers) chores

-- in every setting of the network, events of this stage were done
abbrev pub Did : (Setting → Stage) → Plan → Seen → Seen → Type 0
Did P net a b = (g : Setting) → g.net ≡ net → IsSetting g → (acts : List Act) × P g a acts b
