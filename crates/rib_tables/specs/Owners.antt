-- All that a router's choices depend on, and how each call changes it, told by look-ups alone.
use Rattle.std.specs.Prelude.{ℕ, ◌≡◌, ◌≢◌, ◌↔◌, List}
use Rattle.std.specs.List.{Contains}
use mathlib.Core.Logic.{◌⊎◌}
use Rattle.prefix_lanes.specs.Bits.{PrefixView}
use Rattle.bgp_codec.specs.declared.update.Update.{Update}
use Rattle.ranked_policy.specs.Plans.{Plan, IsNamed}
use Rattle.rib_tables.specs.Tables.{Words, Paths, word_of, IsSilent, KeepsNothing, IsTold, Applies, Forgets, Keeps}
use Rattle.rib_tables.specs.Least.{HoldsOfAll}
use Rattle.rib_tables.specs.Choices.{SourcesView, IsBest, IsDecided}

-- the tables of a router: what its choices are taken from, the words sent and the kept paths
pub record RibView : Type 0 where
  pub net : Plan
  pub router : ℕ
  pub heard : Words
  pub sent : Words
  pub established : List ℕ
  pub originated : List PrefixView
  pub kept : Paths

abbrev pub sources_of : RibView → SourcesView
sources_of s = record { net = s.net; router = s.router; heard = s.heard; established = s.established; originated = s.originated }

-- the kept path is the best
abbrev pub IsSettled : RibView → PrefixView → Type 0
IsSettled s q = IsDecided (sources_of s) s.kept q

-- the peer does not wait for the prefix: its session is not Established, or the last word sent to it is the kept path
abbrev pub IsServed : RibView → ℕ → PrefixView → Type 0
IsServed s peer q = Contains s.established peer → IsTold s.sent s.kept peer q

-- some Established peer was not told some kept path
pub record HasWaitingPeer (s : RibView) : Type 0 where
  pub peer : ℕ
  pub prefix : PrefixView
  pub is_named : IsNamed s.net.origins prefix
  pub waits : IsServed s peer prefix → ⊥

-- each Established peer was told each kept path
abbrev pub AllServed : RibView → Type 0
AllServed s = (v : ℕ) → HoldsOfAll s.net.origins (IsServed s v)

-- some kept path is not the best, or some Established peer was not told one
abbrev pub IsPending : RibView → Type 0
IsPending s = ((q : PrefixView) × IsNamed s.net.origins q × (IsSettled s q → ⊥)) ⊎ HasWaitingPeer s

-- the tables as they are made: nothing is heard, sent, originated or kept, and no session is Established
pub record IsNew (net : Plan) (router : ℕ) (s : RibView) : Type 0 where
  pub network : s.net ≡ net
  pub number : s.router ≡ router
  pub heard : IsSilent s.heard
  pub sent : IsSilent s.sent
  pub established : (v : ℕ) → Contains s.established v → ⊥
  pub originated : (q : PrefixView) → Contains s.originated q → ⊥
  pub kept : KeepsNothing s.kept

-- an UPDATE of a peer changes the words of the peer, and nothing else
pub record HearsUpdate (old new : RibView) (peer : ℕ) (u : Update) : Type 0 where
  pub words : Applies old.net.origins old.heard new.heard peer u
  pub rest : new ≡ record { net = old.net; router = old.router; heard = new.heard; sent = old.sent; established = old.established; originated = old.originated; kept = old.kept }

-- the kept path of a prefix is told to a peer
pub record TellsKept (old new : RibView) (peer : ℕ) (q : PrefixView) : Type 0 where
  pub told : IsTold new.sent old.kept peer q
  pub others : (v : ℕ) (p : PrefixView) → (v ≢ peer) ⊎ (p ≢ q) → word_of new.sent v p ≡ word_of old.sent v p
  pub rest : new ≡ record { net = old.net; router = old.router; heard = old.heard; sent = new.sent; established = old.established; originated = old.originated; kept = old.kept }

-- the session with a peer comes up
pub record ComesUp (old new : RibView) (peer : ℕ) : Type 0 where
  pub established : (v : ℕ) → (Contains new.established v ↔ ((v ≡ peer) ⊎ Contains old.established v))
  pub rest : new ≡ record { net = old.net; router = old.router; heard = old.heard; sent = old.sent; established = new.established; originated = old.originated; kept = old.kept }

-- the session with a peer is left: all its words are forgotten
pub record ForgetsPeer (old new : RibView) (peer : ℕ) : Type 0 where
  pub heard : Forgets old.heard new.heard peer
  pub sent : Forgets old.sent new.sent peer
  pub established : (v : ℕ) → (Contains new.established v ↔ ((v ≢ peer) × Contains old.established v))
  pub rest : new ≡ record { net = old.net; router = old.router; heard = new.heard; sent = new.sent; established = new.established; originated = old.originated; kept = old.kept }

-- a prefix is originated from now on, or no longer
pub record Originating (old new : RibView) (q : PrefixView) : Type 0 where
  pub originated : (p : PrefixView) → (Contains new.originated p ↔ ((p ≡ q) ⊎ Contains old.originated p))
  pub rest : new ≡ record { net = old.net; router = old.router; heard = old.heard; sent = old.sent; established = old.established; originated = new.originated; kept = old.kept }

pub record Withdrawing (old new : RibView) (q : PrefixView) : Type 0 where
  pub originated : (p : PrefixView) → (Contains new.originated p ↔ ((p ≢ q) × Contains old.originated p))
  pub rest : new ≡ record { net = old.net; router = old.router; heard = old.heard; sent = old.sent; established = old.established; originated = new.originated; kept = old.kept }

-- a path is kept for a prefix
pub record KeepsPath (old new : RibView) (q : PrefixView) (path : List ℕ) : Type 0 where
  pub paths : Keeps old.kept new.kept q path
  pub rest : new ≡ record { net = old.net; router = old.router; heard = old.heard; sent = old.sent; established = old.established; originated = old.originated; kept = new.kept }

-- a prefix gets its best path
pub record Decides (old new : RibView) (q : PrefixView) : Type 0 where
  pub best : List ℕ
  pub is_best : IsBest (sources_of old) q best
  pub keeps : KeepsPath old new q best

-- a restart: no path is kept, and nothing is originated
pub record Clears (old new : RibView) : Type 0 where
  pub kept : KeepsNothing new.kept
  pub originated : (q : PrefixView) → Contains new.originated q → ⊥
  pub rest : new ≡ record { net = old.net; router = old.router; heard = old.heard; sent = old.sent; established = old.established; originated = new.originated; kept = new.kept }
