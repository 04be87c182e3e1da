-- The text of a trace: the run of a schedule as orders, with comments on orders that stood for many events. `shows` is
-- whether the octets that are sent are shown.
use Rattle.std.specs.Prelude.{◌≡◌, ◌≢◌, ℕ, ◌+◌, ◌-◌, ◌==◌, Bool, List, [], ◌∷◌, ◌++◌, length, Option, None, Some, Result, Ok, MatchResult, codes, decimal, if◌then◌else◌, ◌⊎◌}
use Rattle.ranked_policy.specs.Plans.{Plan}
use Rattle.router_model.specs.Settings.{Setting, ChoosesByRank}
use Rattle.world_core.specs.declared.schedule.Event.{Event}
use Rattle.world_core.specs.declared.schedule.Order.{Order}
use Rattle.world_core.specs.declared.schedule.Order.TheVariants as order
use Rattle.world_core.specs.declared.schedule.StepFault.{StepFault}
use Rattle.world_core.specs.declared.schedule.StepFault.TheVariants.{Memory}
use Rattle.world_core.specs.World.{World, new_world, played}
use Rattle.world_core.specs.Orders.{events_of, StopsAt}
use Rattle.world_core.specs.Watching.{Adds, Sayings, WorkText, reached, rest_of}
use Rattle.world_core.specs.Views.{WorldView, plain_world}
use Rattle.net_text.specs.Printing.{line}
use Rattle.schedule_text.specs.declared.schedule.ScheduledOrder.{ScheduledOrder}
use Rattle.schedule_text.specs.Events.{event_line}
use Rattle.schedule_text.specs.Reports.{stop_line}
use Rattle.schedule_text.specs.declared.report.RefusedOrder.{RefusedOrder}
use Rattle.schedule_text.specs.Obeying.{LeadTo, IsFirstRefused}
use Rattle.text_engines.specs.declared.status.TheConstants.{DONE, REFUSED}
use Rattle.text_engines.specs.Decoding.{Output, output}
use Rattle.text_engines.specs.Engine.{limited}
use Rattle.trace_engine.specs.Noting.{AreNotes}

-- ---- events and rounds

-- the line of an event that was done, with comments behind it
abbrev pub EventLines : Bool → Event → List ℕ → Type 0
EventLines shows event text = (comments : List ℕ) × AreNotes shows comments × (text ≡ event_line event ++ comments)

-- the same, whichever worlds the event leads from and to
abbrev pub SaysEvent : Bool → Sayings
SaysEvent shows before event behind = EventLines shows event

-- the line that says how many events a round had
unfoldable pub round_line : ℕ → ℕ → List ℕ
round_line number count = line (codes "# round " ++ (decimal number ++ (codes ": " ++ (decimal count ++ codes " events"))))

-- ---- comments

-- the words that say of which line a comment is
unfoldable pub place_text : ℕ → List ℕ
place_text at = codes "# line " ++ (decimal at ++ codes ": ")

-- the comment that says what an order orders
unfoldable pub head_line : ℕ → List ℕ → ℕ → List ℕ
head_line at word n = line (place_text at ++ (word ++ decimal n))

abbrev pub head_text : ℕ → Order → List ℕ
head_text at (order.One e) = []
head_text at (order.Rounds n) = head_line at (codes "rounds ") n
head_text at (order.Ticks n) = head_line at (codes "ticks ") n

-- the comment that an event found nothing to do
unfoldable pub idle_line : ℕ → List ℕ
idle_line at = line (place_text at ++ codes "nothing to do")

-- the comment that says how many events were done, and something of so many rounds
unfoldable pub counted_line : ℕ → ℕ → List ℕ → ℕ → List ℕ
counted_line at count said n = line (place_text at ++ (decimal count ++ (said ++ decimal n)))

unfoldable pub ticked_line : ℕ → ℕ → List ℕ
ticked_line at count = line (place_text at ++ (decimal count ++ codes " events"))

-- the comment that says how an order ended: how many events it did, and whether a round did nothing behind so many that
-- did something, or all did something
abbrev pub tail_text : ℕ → Order → ℕ → Option ℕ → List ℕ
tail_text at (order.One e) count rest = if count == 0 then idle_line at else []
tail_text at (order.Rounds n) count (Some passed) = counted_line at count (codes " events, rest behind round ") passed
tail_text at (order.Rounds n) count None = counted_line at count (codes " events, no rest by round ") n
tail_text at (order.Ticks n) count rest = ticked_line at count

-- the comment that an order was refused
abbrev pub stop_comment : ℕ → StepFault → List ℕ
stop_comment at why = codes "# " ++ stop_line at why

-- ---- orders

-- how many of these events are done
abbrev pub count_of : Setting → World → List Event → ℕ
count_of g w events = length (reached g w events).run - length w.run

-- the text of an order up to the event that is refused
abbrev pub BegunText : Bool → Setting → World → ScheduledOrder → List ℕ → Type 0
BegunText shows g w o text = (work : List ℕ) × WorkText (SaysEvent shows) round_line g w o.order work × (text ≡ head_text o.line o.order ++ work)

abbrev pub OrderText : Bool → Setting → World → ScheduledOrder → List ℕ → Type 0
OrderText shows g w o text =
    (begun : List ℕ) × BegunText shows g w o begun × (text ≡ begun ++ tail_text o.line o.order (count_of g w (events_of g.net o.order)) (rest_of g w o.order))

-- the text of orders of which none is refused
abbrev pub OrdersText : Bool → Setting → World → List ScheduledOrder → List ℕ → Type 0
OrdersText shows g w [] text = text ≡ []
OrdersText shows g w (o ∷ orders) text =
    (first : List ℕ) × (rest : List ℕ) × OrderText shows g w o first × OrdersText shows g (reached g w (events_of g.net o.order)) orders rest × (text ≡ first ++ rest)

-- the text of orders up to the first that is refused
abbrev pub StoppedText : (shows : Bool) (g : Setting) (w : World) (orders : List ScheduledOrder) (stop : RefusedOrder) → IsFirstRefused g w orders stop → List ℕ → Type 0
StoppedText shows g w orders stop s text = (done : List ℕ) × (begun : List ℕ) × OrdersText shows g w s.before done × BegunText shows g s.reached s.order begun × (text ≡ done ++ begun)

-- ---- the text printed for orders, behind what stands before them

abbrev pub OrdersTrace : Bool → Plan → List ℕ → List ScheduledOrder → Output → Type 0
OrdersTrace shows net head orders out =
    (g : Setting) → g.net ≡ net → ChoosesByRank g
    → ((w : World) × (text : List ℕ) × LeadTo g (new_world g) orders w × OrdersText shows g (new_world g) orders text × (out ≡ output (limited (head ++ text)) DONE))
    ⊎ ((stop : RefusedOrder) × (text : List ℕ) × (stop.why ≢ Memory) × (s : IsFirstRefused g (new_world g) orders stop) × StoppedText shows g (new_world g) orders stop s text × (out ≡ output (limited (head ++ (text ++ stop_comment stop.line stop.why))) REFUSED))

-- ---- what calls have to give and to leave, in every setting of the network that chooses by rank; nothing is said of
-- want of memory

-- the first event that is refused, and a text up to it
abbrev pub HaltsIn : Setting → World → List Event → StepFault → World → List ℕ → List ℕ → (List ℕ → Type 0) → Type 0
HaltsIn g w events why y old new Is = (at : ℕ) × StopsAt g w events at why y × Adds old new Is

-- a call that obeys an order
abbrev pub TracesOrder : Bool → Result (Unit {0}) StepFault → WorldView → ScheduledOrder → List ℕ → WorldView → List ℕ → Type 0
TracesOrder shows r x o old y new =
    (g : Setting) → g.net ≡ x.net → ChoosesByRank g
    → MatchResult r
    (λ _. (played g (plain_world x) 0 (events_of g.net o.order) ≡ Ok (plain_world y)) × Adds old new (OrderText shows g (plain_world x) o))
    (λ why. why ≢ Memory → HaltsIn g (plain_world x) (events_of g.net o.order) why (plain_world y) old new (BegunText shows g (plain_world x) o))

-- a call that obeys orders
abbrev pub TracesAll : Bool → Result (Unit {0}) RefusedOrder → WorldView → List ScheduledOrder → List ℕ → WorldView → List ℕ → Type 0
TracesAll shows r x orders old y new =
    (g : Setting) → g.net ≡ x.net → ChoosesByRank g
    → MatchResult r
    (λ _. LeadTo g (plain_world x) orders (plain_world y) × Adds old new (OrdersText shows g (plain_world x) orders))
    (λ stop. stop.why ≢ Memory → (s : IsFirstRefused g (plain_world x) orders stop) × Adds old new (StoppedText shows g (plain_world x) orders stop s))
