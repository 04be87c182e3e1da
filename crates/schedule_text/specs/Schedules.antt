-- Schedule texts: the order of each line, by its first word and the words behind that; whole texts, and the first faulty line.
use Rattle.std.specs.Prelude.{ℕ, ◌≡◌, ◌+◌, ◌-◌, ◌^◌, ◌&&◌, not, nat_le, Bool, List, [], ◌∷◌, ◌++◌, length, Option, Some, None, Result, Ok, Err, IsOk, if◌then◌else◌}
use Rattle.std.specs.List.{All}
use Rattle.prefix_lanes.specs.Bits.{PrefixView}
use Rattle.ranked_policy.specs.Plans.{Plan}
use Rattle.router_model.specs.declared.command.Command.{Command}
use Rattle.router_model.specs.declared.command.Command.TheVariants as command
use Rattle.world_core.specs.declared.schedule.Event.TheVariants as event
use Rattle.world_core.specs.declared.schedule.Order.{Order}
use Rattle.world_core.specs.declared.schedule.Order.TheVariants as order
use Rattle.net_text.specs.declared.code.Code.{Code}
use Rattle.net_text.specs.declared.code.Code.TheVariants as kinds
use Rattle.net_text.specs.Lexing.{Text, words_of, is_skipped, is_ascii}
use Rattle.net_text.specs.Words.{◌>>=◌, number_word, router_word, origin_word}
use Rattle.schedule_text.specs.declared.operands.TheConstants.{MOST_COUNT}
use Rattle.schedule_text.specs.declared.keyword.Keyword.{Keyword}
use Rattle.schedule_text.specs.declared.keyword.Keyword.TheVariants as keyword
use Rattle.schedule_text.specs.declared.schedule.ScheduledOrder.{ScheduledOrder}
use Rattle.schedule_text.specs.Keywords.{keyword_of}

-- ---- the words behind it, judged from left to right

abbrev pub is_within : ℕ → ℕ → Bool
is_within greatest n = nat_le 1 n && nat_le n greatest

abbrev pub router_operand : Plan → List Text → Result ℕ Code
router_operand net (a ∷ []) = router_word net.settings.width net.routers a
router_operand net words = Err kinds.BadForm

abbrev pub peer_operands : Plan → List Text → Result (ℕ × ℕ) Code
peer_operands net (a ∷ b ∷ []) = router_word net.settings.width net.routers a >>= λ u. router_word net.settings.width net.routers b >>= λ v. Ok (u, v)
peer_operands net words = Err kinds.BadForm

-- a prefix that a router originates
abbrev pub prefix_operands : Plan → List Text → Result (ℕ × PrefixView) Code
prefix_operands net (a ∷ b ∷ []) = router_word net.settings.width net.routers a >>= λ u. origin_word net.origins b >>= λ q. Ok (u, q)
prefix_operands net words = Err kinds.BadForm

-- the number of a snapshot: 1 to 4294967295
abbrev pub number_operands : Plan → List Text → Result (ℕ × ℕ) Code
number_operands net (a ∷ b ∷ []) = router_word net.settings.width net.routers a >>= λ u. number_word (is_within (2 ^ 32 - 1)) b >>= λ s. Ok (u, s)
number_operands net words = Err kinds.BadForm

abbrev pub count_operand : List Text → Result ℕ Code
count_operand (a ∷ []) = number_word (is_within MOST_COUNT) a
count_operand words = Err kinds.BadForm

-- ---- a line

abbrev pub commanded : ℕ → Command → Order
commanded u c = order.One (event.Command u c)

-- the order of a line with this keyword
abbrev pub ordered : Plan → Keyword → List Text → Result Order Code
ordered net keyword.Start words = peer_operands net words >>= λ p. Ok (commanded p.0 (command.Start p.1))
ordered net keyword.Stop words = peer_operands net words >>= λ p. Ok (commanded p.0 (command.Stop p.1))
ordered net keyword.Reset words = peer_operands net words >>= λ p. Ok (commanded p.0 (command.Reset p.1))
ordered net keyword.Originate words = prefix_operands net words >>= λ p. Ok (commanded p.0 (command.Originate p.1))
ordered net keyword.Withdraw words = prefix_operands net words >>= λ p. Ok (commanded p.0 (command.Withdraw p.1))
ordered net keyword.Snapshot words = number_operands net words >>= λ p. Ok (commanded p.0 (command.Snapshot p.1))
ordered net keyword.Restart words = router_operand net words >>= λ u. Ok (commanded u command.Restart)
ordered net keyword.Tick words = router_operand net words >>= λ u. Ok (order.One (event.Tick u))
ordered net keyword.Put words = peer_operands net words >>= λ p. Ok (order.One (event.Put p.0 p.1))
ordered net keyword.Take words = peer_operands net words >>= λ p. Ok (order.One (event.Take p.0 p.1))
ordered net keyword.Handle words = peer_operands net words >>= λ p. Ok (order.One (event.Handle p.0 p.1))
ordered net keyword.Decide words = router_operand net words >>= λ u. Ok (order.One (event.Decide u))
ordered net keyword.Advertise words = router_operand net words >>= λ u. Ok (order.One (event.Advertise u))
ordered net keyword.Offer words = router_operand net words >>= λ u. Ok (order.One (event.Offer u))
ordered net keyword.Rounds words = count_operand words >>= λ n. Ok (order.Rounds n)
ordered net keyword.Ticks words = count_operand words >>= λ n. Ok (order.Ticks n)

abbrev pub keyword_order : Plan → Option Keyword → List Text → Result (Option Order) Code
keyword_order net None words = Err kinds.BadForm
keyword_order net (Some k) words = ordered net k words >>= λ o. Ok (Some o)

abbrev pub words_order : Plan → List Text → Result (Option Order) Code
words_order net [] = Ok None
words_order net (name ∷ words) = keyword_order net (keyword_of name) words

-- the order of a line, which has none if it is skipped; or the line's fault
abbrev pub line_order : Plan → Text → Result (Option Order) Code
line_order net text =
    if is_skipped text then Ok None
    else if not (is_ascii text) then Err kinds.BadForm
    else words_order net (words_of text)

-- ---- texts: every line stands for itself

abbrev pub IsGood : Plan → Text → Type 0
IsGood net text = IsOk (line_order net text)

abbrev pub order_at : ℕ → Result (Option Order) Code → List ScheduledOrder
order_at line (Ok (Some o)) = record { line = line; order = o } ∷ []
order_at line (Ok None) = []
order_at line (Err code) = []

-- the orders of lines, so many lines standing before them
abbrev pub orders_of : Plan → ℕ → List Text → List ScheduledOrder
orders_of net before [] = []
orders_of net before (text ∷ texts) = order_at (before + 1) (line_order net text) ++ orders_of net (before + 1) texts

-- no line has a fault, and these are the orders
pub record SpellsSchedule (net : Plan) (before : ℕ) (lines : List Text) (orders : List ScheduledOrder) : Type 0 where
  pub good : All (IsGood net) lines
  pub are : orders ≡ orders_of net before lines

-- the line has this fault, and no line before it has one
pub record IsFirstFault (net : Plan) (before : ℕ) (lines : List Text) (line : ℕ) (code : Code) : Type 0 where
  pub front : List Text
  pub faulty : Text
  pub behind : List Text
  pub parted : lines ≡ front ++ faulty ∷ behind
  pub counted : before + length front + 1 ≡ line
  pub good : All (IsGood net) front
  pub fault : line_order net faulty ≡ Err code

-- no line up to this one has a fault
pub record IsGoodUpTo (net : Plan) (before : ℕ) (lines : List Text) (line : ℕ) : Type 0 where
  pub front : List Text
  pub behind : List Text
  pub parted : lines ≡ front ++ behind
  pub counted : before + length front ≡ line
  pub good : All (IsGood net) front

-- the line has this fault; or memory ran out, and it has none
abbrev pub IsFaulty : Plan → Text → Code → Type 0
IsFaulty net text kinds.Memory = IsGood net text
IsFaulty net text code = line_order net text ≡ Err code

-- a text is refused for its first faulty line; or memory ran out at a line, where no line so far has a fault
abbrev pub RefusesSchedule : Plan → ℕ → List Text → ℕ → Code → Type 0
RefusesSchedule net before lines line kinds.Memory = IsGoodUpTo net before lines line
RefusesSchedule net before lines line code = IsFirstFault net before lines line code
