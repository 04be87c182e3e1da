-- Where a line stands in an input, and which first words may stand there.
use Rattle.std.specs.Prelude.{ℕ, zero, suc, ◌+◌, ◌&&◌, ◌||◌, nat_lt, Bool, true, false, List, [], ◌∷◌, codes, if◌then◌else◌}
use Rattle.error_words.specs.declared.places.Place.{Place}
use Rattle.error_words.specs.declared.places.Place.TheVariants as place
use Rattle.net_text.specs.Lexing.{Text, lines_of, words_of, same}

-- ---- a line that says again what other words say

-- two operands of a line, and two of another of the same first word
abbrev pub pairs_clash : Text → Text → Text → Text → Text → Bool
pairs_clash name a b c d =
    if same name (codes "router") then same a c || same b d
    else if same name (codes "link") then (same a c && same b d) || (same a d && same b c)
    else if same name (codes "origin") then same b d
    else same a c && same b d

abbrev pub more_clash : Text → Text → Text → List Text → List Text → Bool
more_clash name a c [] [] = true
more_clash name a c [] (d ∷ others) = false
more_clash name a c (b ∷ words) [] = false
more_clash name a c (b ∷ words) (d ∷ others) = pairs_clash name a b c d

abbrev pub operands_clash : Text → List Text → List Text → Bool
operands_clash name [] [] = true
operands_clash name [] (c ∷ others) = false
operands_clash name (a ∷ words) [] = false
operands_clash name (a ∷ words) (c ∷ others) = more_clash name a c words others

-- the words of one line of a network or an assignment say again what others say, as they are spelt
abbrev pub clashes : List Text → List Text → Bool
clashes [] others = false
clashes (name ∷ words) [] = false
clashes (name ∷ words) (other ∷ others) = same name other && operands_clash name words others

-- how many lines stand before the first that clashes with these words
abbrev pub before_clash : List Text → List Text → ℕ
before_clash words [] = zero
before_clash words (line ∷ lines) = if clashes words (words_of line) then zero else suc (before_clash words lines)

-- ---- where a line stands

-- the line of this number stands behind the line that is this bare word
abbrev pub is_behind : Text → Text → ℕ → Bool
is_behind input name at = nat_lt (before_clash (name ∷ []) (lines_of input) + 1) at

-- where the line of this number stands
unfoldable pub place_of : Text → ℕ → Place
place_of input at =
    if is_behind input (codes "schedule") at then place.Schedule
    else if is_behind input (codes "assignment") at then place.Assignment
    else place.Network

-- ---- first words, each with its line

abbrev pub network_rows : List (Text × Text)
network_rows =
    (codes "router", codes "router AS IDENTIFIER")
    ∷ (codes "link", codes "link A B")
    ∷ (codes "origin", codes "origin AS PREFIX")
    ∷ (codes "rank", codes "rank AS PREFIX PATH PATH ..")
    ∷ (codes "asn", codes "asn 4")
    ∷ (codes "hold", codes "hold SECONDS")
    ∷ (codes "restart", codes "restart SECONDS")
    ∷ (codes "cut", codes "cut OCTETS")
    ∷ (codes "pipe", codes "pipe ITEMS")
    ∷ []

abbrev pub order_rows : List (Text × Text)
order_rows =
    (codes "start", codes "start U V")
    ∷ (codes "stop", codes "stop U V")
    ∷ (codes "reset", codes "reset U V")
    ∷ (codes "originate", codes "originate U PREFIX")
    ∷ (codes "withdraw", codes "withdraw U PREFIX")
    ∷ (codes "snapshot", codes "snapshot U S")
    ∷ (codes "restart", codes "restart U")
    ∷ (codes "tick", codes "tick U")
    ∷ (codes "put", codes "put U V")
    ∷ (codes "take", codes "take U V")
    ∷ (codes "handle", codes "handle U V")
    ∷ (codes "decide", codes "decide U")
    ∷ (codes "advertise", codes "advertise U")
    ∷ (codes "offer", codes "offer U")
    ∷ (codes "rounds", codes "rounds N")
    ∷ (codes "ticks", codes "ticks N")
    ∷ []

abbrev pub path_rows : List (Text × Text)
path_rows = (codes "path", codes "path AS PREFIX PATH") ∷ []

-- the words that part an input, each with what is said of it
abbrev pub section_rows : List (Text × Text)
section_rows =
    (codes "schedule", codes "'schedule' stands alone on its line, once, in what play, trace, cut and why read")
    ∷ (codes "assignment", codes "'assignment' stands alone on its line, once, in what check reads")
    ∷ []

-- the first words that may stand at a place
abbrev pub own_rows : Place → List (Text × Text)
own_rows place.Network = network_rows
own_rows place.Schedule = order_rows
own_rows place.Assignment = path_rows
