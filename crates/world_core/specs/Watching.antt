-- What a watcher says of the events that a world does, and of its rounds. `Says` is what may be said of an event that was
-- done, by the worlds before and behind it, `line` what is said behind a round of a number that did so many events, `may`
-- whether the watcher may want memory.
use Rattle.std.specs.Prelude.{◌≡◌, ◌≢◌, ℕ, zero, suc, ◌+◌, ◌-◌, ◌==◌, Bool, true, List, [], ◌∷◌, ◌++◌, length, Option, None, Some, Result, Ok, Err, MatchResult, if◌then◌else◌, ◌⊎◌}
use Rattle.router_model.specs.Settings.{Setting, ChoosesByRank}
use Rattle.world_core.specs.declared.schedule.Event.{Event}
use Rattle.world_core.specs.declared.schedule.Order.{Order}
use Rattle.world_core.specs.declared.schedule.Order.TheVariants as order
use Rattle.world_core.specs.declared.schedule.StepFault.{StepFault}
use Rattle.world_core.specs.declared.schedule.StepFault.TheVariants.{Memory}
use Rattle.world_core.specs.World.{World, WorldAnswer, Does, Nothing, Stops, Played, world_answer, world_after, played}
use Rattle.world_core.specs.Orders.{events_of, repeated, round, second, StopsAt}
use Rattle.world_core.specs.Views.{WorldView, plain_world}

-- what may be said of an event that leads from a world to another
abbrev pub Sayings : Type 1
Sayings = World → Event → World → List ℕ → Type 0

-- what was shown before an event: a world, and the event
abbrev pub Shown : Type 1
Shown = World → Event → Type 0

-- the new text is the old one, with such a text behind it
abbrev pub Adds : List ℕ → List ℕ → (List ℕ → Type 0) → Type 0
Adds old new Is = (text : List ℕ) × Is text × (new ≡ old ++ text)

-- behind an event, and in this world, something of it is said that may be said from each world that was shown before it
abbrev pub SaysBehind : Shown → Sayings → Event → World → List ℕ → List ℕ → Type 0
SaysBehind saw says event behind old new = (before : World) → saw before event → Adds old new (says before event behind)

-- ---- events

-- of an event that is done something is said, and the world goes on; of an event that finds nothing to do nothing is
-- said; behind an event that is refused nothing is done
abbrev pub StepText : Sayings → Setting → World → Event → WorldAnswer → (World → List ℕ → Type 0) → List ℕ → Type 0
StepText Says g w event (Does u e stamp) More text =
    (said : List ℕ) × (rest : List ℕ) × Says w event (world_after g w event u e stamp) said × More (world_after g w event u e stamp) rest × (text ≡ said ++ rest)
StepText Says g w event Nothing More text = More w text
StepText Says g w event (Stops fault) More text = text ≡ []

abbrev pub EventsText : Sayings → Setting → World → List Event → List ℕ → Type 0
EventsText Says g w [] text = text ≡ []
EventsText Says g w (event ∷ events) text = StepText Says g w event (world_answer g w event) (λ next rest. EventsText Says g next events rest) text

-- ---- rounds

-- nothing is said of a round that did nothing
abbrev pub round_text : (ℕ → ℕ → List ℕ) → ℕ → ℕ → List ℕ
round_text line number count = if count == 0 then [] else line number count

-- behind a round that is done stands what is said of it, and then the other rounds; behind a round that is refused
-- nothing is done
abbrev pub BehindRound : (ℕ → ℕ → List ℕ) → World → ℕ → Played → (World → List ℕ → Type 0) → List ℕ → Type 0
BehindRound line w number (Ok y) More text = (rest : List ℕ) × More y rest × (text ≡ round_text line number (length y.run - length w.run) ++ rest)
BehindRound line w number (Err fault) More text = text ≡ []

-- the text of so many rounds, behind so many others
abbrev pub RoundsText : Sayings → (ℕ → ℕ → List ℕ) → Setting → World → ℕ → ℕ → List ℕ → Type 0
RoundsText Says line g w passed zero text = text ≡ []
RoundsText Says line g w passed (suc n) text =
    (events : List ℕ) × (behind : List ℕ) × EventsText Says g w (round g.net) events
    × BehindRound line w (passed + 1) (played g w 0 (round g.net)) (λ next rest. RoundsText Says line g next (passed + 1) n rest) behind × (text ≡ events ++ behind)

-- the text of the events of an order
abbrev pub WorkText : Sayings → (ℕ → ℕ → List ℕ) → Setting → World → Order → List ℕ → Type 0
WorkText Says line g w (order.One e) text = EventsText Says g w (e ∷ []) text
WorkText Says line g w (order.Rounds n) text = RoundsText Says line g w 0 n text
WorkText Says line g w (order.Ticks n) text = EventsText Says g w (repeated n (second g.net)) text

-- the world that events lead to, if all are done
abbrev pub end_of : World → Played → World
end_of w (Ok y) = y
end_of w (Err fault) = w

abbrev pub reached : Setting → World → List Event → World
reached g w events = end_of w (played g w 0 events)

-- how many rounds did something before one of the next so many did nothing, if one did
abbrev pub rest_in : Setting → World → ℕ → ℕ → Option ℕ
rest_in g w passed zero = None
rest_in g w passed (suc n) =
    if length (reached g w (round g.net)).run == length w.run then Some passed
    else rest_in g (reached g w (round g.net)) (passed + 1) n

abbrev pub rest_of : Setting → World → Order → Option ℕ
rest_of g w (order.One e) = None
rest_of g w (order.Rounds n) = rest_in g w 0 n
rest_of g w (order.Ticks n) = None

-- ---- what calls have to give and to leave, in every setting of the network that chooses by rank

-- the watcher wants memory, or it ends so
abbrev pub WantsOr : Bool → StepFault → Type 0 → Type 0
WantsOr may why ends = ((may ≡ true) × (why ≡ Memory)) ⊎ ends

-- the first event that is refused, and the text of those before it
abbrev pub HaltsAt : Sayings → Setting → World → List Event → StepFault → World → List ℕ → List ℕ → Type 0
HaltsAt Says g w events why y old new = (at : ℕ) × (s : StopsAt g w events at why y) × Adds old new (EventsText Says g w s.before)

-- a call that does events
abbrev pub WatchesEvents : Sayings → Bool → Result (Unit {0}) StepFault → WorldView → List Event → List ℕ → WorldView → List ℕ → Type 0
WatchesEvents Says may r x events old y new =
    (g : Setting) → g.net ≡ x.net → ChoosesByRank g
    → MatchResult r
    (λ _. (played g (plain_world x) 0 events ≡ Ok (plain_world y)) × Adds old new (EventsText Says g (plain_world x) events))
    (λ why. WantsOr may why (HaltsAt Says g (plain_world x) events why (plain_world y) old new))

-- the first event that is refused; if it wants no memory, the text up to it
abbrev pub HaltsIn : Setting → World → List Event → StepFault → World → List ℕ → List ℕ → (List ℕ → Type 0) → Type 0
HaltsIn g w events why y old new Is = (at : ℕ) × StopsAt g w events at why y × (why ≢ Memory → Adds old new Is)

-- a call that does so many rounds
abbrev pub WatchesRounds : Sayings → (ℕ → ℕ → List ℕ) → Bool → Result (Option ℕ) StepFault → WorldView → ℕ → List ℕ → WorldView → List ℕ → Type 0
WatchesRounds Says line may r x n old y new =
    (g : Setting) → g.net ≡ x.net → ChoosesByRank g
    → MatchResult r
    (λ rest. (played g (plain_world x) 0 (repeated n (round g.net)) ≡ Ok (plain_world y)) × Adds old new (RoundsText Says line g (plain_world x) 0 n) × (rest ≡ rest_in g (plain_world x) 0 n))
    (λ why. WantsOr may why (HaltsIn g (plain_world x) (repeated n (round g.net)) why (plain_world y) old new (RoundsText Says line g (plain_world x) 0 n)))

-- a call that does the events of an order, and answers how many rounds did something before one did nothing
abbrev pub WatchesOrder : Sayings → (ℕ → ℕ → List ℕ) → Bool → Result (Option ℕ) StepFault → WorldView → Order → List ℕ → WorldView → List ℕ → Type 0
WatchesOrder Says line may r x order old y new =
    (g : Setting) → g.net ≡ x.net → ChoosesByRank g
    → MatchResult r
    (λ rest. (played g (plain_world x) 0 (events_of g.net order) ≡ Ok (plain_world y)) × Adds old new (WorkText Says line g (plain_world x) order) × (rest ≡ rest_of g (plain_world x) order))
    (λ why. WantsOr may why (HaltsIn g (plain_world x) (events_of g.net order) why (plain_world y) old new (WorkText Says line g (plain_world x) order)))
