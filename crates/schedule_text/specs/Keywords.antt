-- The first words of schedule lines.
use Rattle.std.specs.Prelude.{List, [], ◌∷◌, Option, Some, None, if◌then◌else◌, codes}
use Rattle.net_text.specs.Lexing.{Text, same}
use Rattle.schedule_text.specs.declared.keyword.Keyword.{Keyword}
use Rattle.schedule_text.specs.declared.keyword.Keyword.TheVariants as keyword

abbrev pub word_of : Keyword → Text
word_of keyword.Start = codes "start"
word_of keyword.Stop = codes "stop"
word_of keyword.Reset = codes "reset"
word_of keyword.Originate = codes "originate"
word_of keyword.Withdraw = codes "withdraw"
word_of keyword.Snapshot = codes "snapshot"
word_of keyword.Restart = codes "restart"
word_of keyword.Tick = codes "tick"
word_of keyword.Put = codes "put"
word_of keyword.Take = codes "take"
word_of keyword.Handle = codes "handle"
word_of keyword.Decide = codes "decide"
word_of keyword.Advertise = codes "advertise"
word_of keyword.Offer = codes "offer"
word_of keyword.Rounds = codes "rounds"
word_of keyword.Ticks = codes "ticks"

abbrev pub keywords : List Keyword
keywords =
    keyword.Start ∷ keyword.Stop ∷ keyword.Reset ∷ keyword.Originate ∷ keyword.Withdraw ∷ keyword.Snapshot ∷ keyword.Restart
    ∷ keyword.Tick ∷ keyword.Put ∷ keyword.Take ∷ keyword.Handle ∷ keyword.Decide ∷ keyword.Advertise ∷ keyword.Offer
    ∷ keyword.Rounds ∷ keyword.Ticks ∷ []

-- the first of these keywords whose word this is
abbrev pub keyword_among : List Keyword → Text → Option Keyword
keyword_among [] name = None
keyword_among (k ∷ ks) name = if same name (word_of k) then Some k else keyword_among ks name

abbrev pub keyword_of : Text → Option Keyword
keyword_of name = keyword_among keywords name
