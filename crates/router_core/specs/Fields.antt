-- A router, as clauses see it.
use Rattle.std.specs.Prelude.{ℕ, List}
use Rattle.bgp_codec.specs.declared.message.Message.{Message}
use Rattle.ranked_policy.specs.Plans.{Plan}
use Rattle.rib_tables.specs.Owners.{RibView}
use Rattle.snap_marker.specs.Parts.{MarkView}
use Rattle.router_core.specs.declared.peers.Peer.{Peer}

-- a router: its network and number, what it says of itself, its peers by rising number, its tables, what it records, and the stamp
-- of its last event
pub record RouterView : Type 0 where
  pub net : Plan
  pub number : ℕ
  pub own_open : Message
  pub peers : List Peer
  pub tables : RibView
  pub marks : MarkView
  pub stamp : ℕ
