-- What holds of every run of a network of routers: first in, first out in each incarnation of a session, from end to end.
-- g is a setting, u v routers' numbers, n an incarnation, d an event with its router; old and new are states of a run.
use Rattle.std.specs.Prelude.{ℕ, ◌≡◌, true, false, List, ◌++◌}
use mathlib.Core.List.{IsPrefix}
use Rattle.bgp_codec.specs.declared.message.Message.{Message}
use Rattle.link_epoch.specs.declared.link_end.Phase.TheVariants as phase
use Rattle.run_model.specs.Links.{said}
use Rattle.run_model.specs.Network as runs
use Rattle.run_model.specs.Network.{NetworkEvent}
use Rattle.outbox.specs.declared.item.What.{What}
use Rattle.snap_marker.specs.Recordings.{MadeOffer}
use Rattle.router_model.specs.Messages.{updates_in}
use Rattle.router_model.specs.Settings.{Setting, IsSetting, linked}
use Rattle.router_model.specs.Sides.{is_up}
use Rattle.router_model.specs.Step.{Own}
use Rattle.router_runs.specs.Runs.{RunOrder, RunState, IsRunTo, IsEventOf, logged_steps, side_of, log_of, octets_of_all, stream}

-- from u to v in incarnation n: the messages that v used are a beginning of those that u said; their octets were taken, and while v
-- is joined in n it holds what was taken behind them; what was taken was put, and what was put was said; the UPDATEs among them are
-- those that v acted on, and those said are those sent
pub record PassesInOrder (g : Setting) (state : RunState) (u v n : ℕ) : Type 0 where
  pub used : List Message
  pub begins : IsPrefix used (said n (log_of state u v))
  pub taken : IsPrefix (octets_of_all g used) (stream n (state.taken u v))
  pub held : (side_of state v u).link.phase ≡ phase.Joined → (side_of state v u).link.epoch ≡ n
      → stream n (state.taken u v) ≡ octets_of_all g used ++ (side_of state v u).held
  pub put : IsPrefix (stream n (state.taken u v)) (stream n (state.put u v))
  pub appended : IsPrefix (stream n (state.put u v)) (octets_of_all g (said n (log_of state u v)))
  pub acted : updates_in used ≡ (side_of state v u).acted n
  pub sent : updates_in (said n (log_of state u v)) ≡ (side_of state u v).sent n

-- the UPDATEs that v acted on are a beginning of those that u sent: in order, once each
abbrev pub UpdatesPassInOrder : Type 0
UpdatesPassInOrder =
    (g : Setting) → IsSetting g → (order : RunOrder) (state : RunState) → IsRunTo g order state
    → (u v n : ℕ) → linked g.net u v ≡ true
    → PassesInOrder g state u v n × IsPrefix ((side_of state v u).acted n) ((side_of state u v).sent n)

-- nothing is acted on after the close: if an event leaves Established, no later one acts on an UPDATE of that
-- incarnation
abbrev pub NothingIsActedOnAfterTheClose : Type 0
NothingIsActedOnAfterTheClose =
    (g : Setting) → IsSetting g → (before later : RunOrder) (d : NetworkEvent Own What MadeOffer) (old new last : RunState)
    → IsRunTo g before old → runs.NetworkStep (logged_steps g) old d new → runs.Run (logged_steps g) new later last
    → (v : ℕ) → is_up (side_of old d.router v) ≡ true → is_up (side_of new d.router v) ≡ false
    → (side_of last d.router v).acted (side_of old d.router v).link.epoch ≡ (side_of new d.router v).acted (side_of old d.router v).link.epoch

-- ---- in one run

-- octets pass in order from each router to each of its peers, in each incarnation
abbrev pub OctetsPassInOrder : Setting → RunState → Type 0
OctetsPassInOrder g state = (u v n : ℕ) → linked g.net u v ≡ true → PassesInOrder g state u v n

-- if an event of one run leaves Established, no later one acts on an UPDATE of that incarnation
abbrev pub ActsOnNothingAfterCloses : Setting → RunOrder → RunState → Type 0
ActsOnNothingAfterCloses g order last =
    (d : NetworkEvent Own What MadeOffer) (old new : RunState) → IsEventOf g order last d old new
    → (v : ℕ) → is_up (side_of old d.router v) ≡ true → is_up (side_of new d.router v) ≡ false
    → (side_of last d.router v).acted (side_of old d.router v).link.epoch ≡ (side_of new d.router v).acted (side_of old d.router v).link.epoch
