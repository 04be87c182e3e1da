-- A number of events that a network which is left alone does not go beyond.
-- g is a setting, q a prefix, u v routers' numbers; most is an incarnation, last the number of a snapshot.
use Rattle.std.specs.Prelude.{ℕ, ◌+◌, ◌*◌, ◌-◌, ◌≡◌, ◌≤◌, max, true, List, [], ◌∷◌, length, Option, None, Some}
use Rattle.prefix_lanes.specs.Bits.{PrefixView}
use Rattle.bgp_codec.specs.declared.message.Message.{Message}
use Rattle.ranked_policy.specs.declared.network.Link.{Link}
use Rattle.ranked_policy.specs.Plans.{IsRouter, IsNamed, numbers}
use Rattle.dispute_wheels.specs.Counting.{sum_over}
use Rattle.dispute_wheels.specs.Tests.{paths_of}
use Rattle.run_model.specs.Links.{Entry, Dial, Says, Mark, Shut}
use Rattle.run_model.specs.Network.{Run}
use Rattle.outbox.specs.declared.item.What.{What}
use Rattle.snap_marker.specs.Recordings.{Recording, Snapshots}
use Rattle.router_model.specs.Settings.{Setting, IsSetting, linked, prefixes}
use Rattle.router_model.specs.Laws.{all_passes}
use Rattle.router_runs.specs.Runs.{RunOrder, RunState, IsRunTo, logged_steps, side_of, log_of}
use Rattle.router_runs.specs.Mirrors.{table_commands_at}
use Rattle.wheel_runs.specs.Bounds.{IsBound}
use Rattle.rest_runs.specs.Calm.{AreCalm}
use Rattle.rest_runs.specs.Resting.{sum_of, changes_in}

-- the greatest number of a marker, 0 if there is none
abbrev pub greatest_mark : List (Entry Message) → ℕ
greatest_mark [] = 0
greatest_mark (Dial e ∷ rest) = greatest_mark rest
greatest_mark (Says e m ∷ rest) = greatest_mark rest
greatest_mark (Mark e s ∷ rest) = max s (greatest_mark rest)
greatest_mark (Shut e ∷ rest) = greatest_mark rest

-- no end is in a greater incarnation, and no greater number was marked or recorded
pub record Within (g : Setting) (state : RunState) (most last : ℕ) : Type 0 where
  pub dialled : (u v : ℕ) → linked g.net u v ≡ true → (side_of state u v).link.epoch ≤ most
  pub marked : (u v : ℕ) → linked g.net u v ≡ true → greatest_mark (log_of state u v) ≤ last
  pub recorded : (u : ℕ) → IsRouter g.net.routers u → (state.routers u).router.snapshots.last ≤ last

-- ---- what waits

-- items, and the octets and control entries in them
abbrev pub passage : List What → ℕ
passage is = length is + length (all_passes is)

-- towards one peer: what waits to be put, three times, since it is put, taken and handled; what is on its way, and what
-- is held
abbrev pub waits_towards : RunState → ℕ → ℕ → ℕ
waits_towards state u v =
    3 * length (side_of state u v).outbox + (passage (state.put u v) - passage (state.taken u v)) + length (side_of state u v).held

abbrev pub going_on : Option Recording → ℕ
going_on None = 0
going_on (Some r) = 1

-- offers that wait, and one for the recording
abbrev pub jobs : Snapshots → ℕ
jobs x = length x.queue + going_on x.unfinished

abbrev pub waiting : Setting → RunState → ℕ
waiting g state =
    sum_of (λ (l : Link). waits_towards state l.one l.other + waits_towards state l.other l.one) g.net.links
    + sum_of (λ u. jobs (state.routers u).router.snapshots) (numbers g.net.routers)

-- ---- what may come besides

-- each message has at most 4096 octets, and each of these is put, taken and handled. So an entry costs 12288 events,
-- and an UPDATE one more, since it is told
module _ (g : Setting) (most last : ℕ) where
  -- towards one peer: in each incarnation a session goes on ten steps at most, and then all prefixes are to be told
  -- again
  abbrev pub side_work : ℕ
  side_work = 12289 * (length (prefixes g) * (10 * most + 10)) + 12288 * (10 * most + 10) + 12289 * length (prefixes g)

  -- of one router: each number that it records costs a marker on each link
  abbrev pub marker_work : ℕ
  marker_work = (12288 * length g.net.links + 2) * last

  abbrev pub work : RunState → ℕ
  work state = 2 * side_work * length g.net.links + marker_work * length g.net.routers + waiting g state

-- a change of a kept path is to be told over each link
abbrev pub cost : Setting → ℕ
cost g = 12289 * length (prefixes g) * length g.net.links + 1

-- ---- the laws

-- with or without dispute wheels: no run goes on, without a command or a second, for more events than `work`, and
-- `cost` for each change of a kept path
abbrev pub CalmRunsAreCounted : Type 0
CalmRunsAreCounted =
    (g : Setting) → IsSetting g → (order : RunOrder) (state : RunState) → IsRunTo g order state → (most last : ℕ) → Within g state most last
    → (later : RunOrder) (end : RunState) (run : Run (logged_steps g) state later end) → AreCalm later
    → length later ≤ work g most last state + cost g * changes_in g later state end run

-- the numbers of these bounds, of all prefixes, routers and feasible paths
abbrev pub all_bounds : Setting → (PrefixView → List ℕ → ℕ) → ℕ
all_bounds g B = sum_of (λ u. sum_of (λ q. sum_over (B q) (paths_of g.net q u)) (prefixes g)) (numbers g.net.routers)

-- without dispute wheels: each prefix has a bound, for the commands so far; no run goes on for more events than these
-- give
abbrev pub BoundedCalmRunsAreCounted : Type 0
BoundedCalmRunsAreCounted =
    (g : Setting) → IsSetting g → (order : RunOrder) (state : RunState) → IsRunTo g order state → (most last : ℕ) → Within g state most last
    → (B : PrefixView → List ℕ → ℕ) → ((q : PrefixView) → IsNamed g.net.origins q → IsBound (λ u. table_commands_at u order) (λ u v. most) g.net q (B q))
    → (later : RunOrder) (end : RunState) → Run (logged_steps g) state later end → AreCalm later
    → length later ≤ work g most last state + cost g * all_bounds g B
