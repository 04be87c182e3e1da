-- The orders that the words of a line say.
use Rattle.std.specs.Prelude.{ℕ, ◌≡◌, ◌-◌, ◌^◌, ◌↔◌, true, false, List, [], ◌∷◌, Some, Ok, codes}
use Rattle.prefix_lanes.specs.Bits.{PrefixView}
use Rattle.ranked_policy.specs.Plans.{Plan}
use Rattle.router_model.specs.declared.command.Command.TheVariants as command
use Rattle.world_core.specs.declared.schedule.Event.TheVariants as event
use Rattle.world_core.specs.declared.schedule.Order.{Order}
use Rattle.world_core.specs.declared.schedule.Order.TheVariants as order
use Rattle.net_text.specs.Lexing.{Text, says_nothing, is_ascii}
use Rattle.net_text.specs.Layout.{HasWords}
use Rattle.net_text.specs.Words.{number_word, router_word, origin_word}
use Rattle.schedule_text.specs.declared.operands.TheConstants.{MOST_COUNT}
use Rattle.schedule_text.specs.Schedules.{is_within, line_order}

-- a word, then a router
abbrev pub NamesRouter : Plan → Text → ℕ → List Text → Type 0
NamesRouter net name u words = (a : Text) × (words ≡ name ∷ a ∷ []) × (router_word net.settings.width net.routers a ≡ Ok u)

-- a word, then two routers
abbrev pub NamesPeers : Plan → Text → ℕ → ℕ → List Text → Type 0
NamesPeers net name u v words =
    (a : Text) × (b : Text) × (words ≡ name ∷ a ∷ b ∷ []) × (router_word net.settings.width net.routers a ≡ Ok u) × (router_word net.settings.width net.routers b ≡ Ok v)

-- a word, then a router and a prefix that an origin line names
abbrev pub NamesPrefix : Plan → Text → ℕ → PrefixView → List Text → Type 0
NamesPrefix net name u q words =
    (a : Text) × (b : Text) × (words ≡ name ∷ a ∷ b ∷ []) × (router_word net.settings.width net.routers a ≡ Ok u) × (origin_word net.origins b ≡ Ok q)

-- a word, then a router and the number of a snapshot
abbrev pub NamesNumber : Plan → Text → ℕ → ℕ → List Text → Type 0
NamesNumber net name u s words =
    (a : Text) × (b : Text) × (words ≡ name ∷ a ∷ b ∷ []) × (router_word net.settings.width net.routers a ≡ Ok u) × (number_word (is_within (2 ^ 32 - 1)) b ≡ Ok s)

-- a word, then a count
abbrev pub NamesCount : Text → ℕ → List Text → Type 0
NamesCount name n words = (a : Text) × (words ≡ name ∷ a ∷ []) × (number_word (is_within MOST_COUNT) a ≡ Ok n)

-- these words say this order
abbrev pub Say : Plan → Order → List Text → Type 0
Say net (order.One (event.Command u (command.Start v))) words = NamesPeers net (codes "start") u v words
Say net (order.One (event.Command u (command.Stop v))) words = NamesPeers net (codes "stop") u v words
Say net (order.One (event.Command u (command.Reset v))) words = NamesPeers net (codes "reset") u v words
Say net (order.One (event.Command u (command.Originate q))) words = NamesPrefix net (codes "originate") u q words
Say net (order.One (event.Command u (command.Withdraw q))) words = NamesPrefix net (codes "withdraw") u q words
Say net (order.One (event.Command u (command.Snapshot s))) words = NamesNumber net (codes "snapshot") u s words
Say net (order.One (event.Command u command.Restart)) words = NamesRouter net (codes "restart") u words
Say net (order.One (event.Tick u)) words = NamesRouter net (codes "tick") u words
Say net (order.One (event.Put u v)) words = NamesPeers net (codes "put") u v words
Say net (order.One (event.Take u v)) words = NamesPeers net (codes "take") u v words
Say net (order.One (event.Handle u v)) words = NamesPeers net (codes "handle") u v words
Say net (order.One (event.Decide u)) words = NamesRouter net (codes "decide") u words
Say net (order.One (event.Advertise u)) words = NamesRouter net (codes "advertise") u words
Say net (order.One (event.Offer u)) words = NamesRouter net (codes "offer") u words
Say net (order.Rounds n) words = NamesCount (codes "rounds") n words
Say net (order.Ticks n) words = NamesCount (codes "ticks") n words

-- a line of ASCII, no comment, whose words say this order
abbrev pub SaysOrder : Plan → Text → Order → Type 0
SaysOrder net line o =
    (words : List Text) × HasWords line words × (says_nothing words ≡ false) × (is_ascii line ≡ true) × Say net o words

-- a line is read as the order that it says, and as no other
abbrev pub LinesAreReadAsTheySay : Type 0
LinesAreReadAsTheySay = (net : Plan) (line : Text) (o : Order) → line_order net line ≡ Ok (Some o) ↔ SaysOrder net line o
