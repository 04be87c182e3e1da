-- The line that orders an event, and the lines before the first.
use Rattle.std.specs.Prelude.{ℕ, List, ◌++◌, codes, decimal}
use Rattle.prefix_lanes.specs.Bits.{PrefixView}
use Rattle.router_model.specs.declared.command.Command.{Command}
use Rattle.router_model.specs.declared.command.Command.TheVariants as command
use Rattle.world_core.specs.declared.schedule.Event.{Event}
use Rattle.world_core.specs.declared.schedule.Event.TheVariants as event
use Rattle.net_text.specs.Lexing.{Text}
use Rattle.net_text.specs.Layout.{network_text}
use Rattle.net_text.specs.Printing.{line, prefix_text}

-- the lines of a network, and the line that begins its schedule
abbrev pub head_of_schedule : List Text → List ℕ
head_of_schedule lines = network_text lines ++ line (codes "schedule")

-- a word with a number behind it, with two, and with a number and a prefix
unfoldable pub one_line : List ℕ → ℕ → List ℕ
one_line word u = line (word ++ decimal u)

unfoldable pub two_line : List ℕ → ℕ → ℕ → List ℕ
two_line word u v = line (word ++ (decimal u ++ (codes " " ++ decimal v)))

unfoldable pub prefix_line : List ℕ → ℕ → PrefixView → List ℕ
prefix_line word u q = line (word ++ (decimal u ++ prefix_text q))

abbrev pub command_line : ℕ → Command → List ℕ
command_line u (command.Start v) = two_line (codes "start ") u v
command_line u (command.Stop v) = two_line (codes "stop ") u v
command_line u (command.Reset v) = two_line (codes "reset ") u v
command_line u (command.Originate q) = prefix_line (codes "originate ") u q
command_line u (command.Withdraw q) = prefix_line (codes "withdraw ") u q
command_line u (command.Snapshot s) = two_line (codes "snapshot ") u s
command_line u command.Restart = one_line (codes "restart ") u

-- the line of the order that is this one event
abbrev pub event_line : Event → List ℕ
event_line (event.Command u c) = command_line u c
event_line (event.Tick u) = one_line (codes "tick ") u
event_line (event.Put u v) = two_line (codes "put ") u v
event_line (event.Take u v) = two_line (codes "take ") u v
event_line (event.Handle u v) = two_line (codes "handle ") u v
event_line (event.Decide u) = one_line (codes "decide ") u
event_line (event.Advertise u) = one_line (codes "advertise ") u
event_line (event.Offer u) = one_line (codes "offer ") u
