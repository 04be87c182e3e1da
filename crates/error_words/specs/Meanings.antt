-- What the codes of refusals mean: one sentence for each.
use Rattle.std.specs.Prelude.{ℕ, zero, suc, List, [], ◌∷◌, unwrap_or, codes, if◌then◌else◌}
use Rattle.net_text.specs.Lexing.{Text, same}
use Rattle.error_words.specs.Tables.{found_in}

-- what a line of a network or an assignment is refused for, what an order is, and what a run in threads is
abbrev pub meanings : List (Text × Text)
meanings =
    (codes "N1", codes "an unknown first word, a wrong number of words, or an octet past ASCII")
    ∷ (codes "N2", codes "a number, address or path that can't be read")
    ∷ (codes "N3", codes "a router that no earlier line names")
    ∷ (codes "N4", codes "what came before, or a link of a router with itself")
    ∷ (codes "N5", codes "the network isn't connected")
    ∷ (codes "N6", codes "a number or count outside its limit")
    ∷ (codes "N7", codes "a path that isn't simple, or doesn't begin with its router")
    ∷ (codes "N8", codes "a prefix that can't be read, or without an origin")
    ∷ (codes "S1", codes "a path that isn't permitted")
    ∷ (codes "E1", codes "a session with a router that is no peer")
    ∷ (codes "E2", codes "a router that is not the prefix's origin")
    ∷ (codes "E3", codes "a snapshot whose number is not above the router's last")
    ∷ (codes "E6", codes "a stamp past the greatest number")
    ∷ (codes "E8", codes "an incarnation past the greatest number")
    ∷ (codes "V1", codes "no router")
    ∷ (codes "V2", codes "no link")
    ∷ (codes "G2", codes "a router had no stamp or no incarnation left, or its offer was refused")
    ∷ (codes "G3", codes "chores that leave no room for the snapshots, or are not 1 to 1000000")
    ∷ (codes "G4", codes "the offers on the board are not those that the workers wrote down")
    ∷ []

-- the meaning of a code, or where it is told
abbrev pub meaning : Text → Text
meaning code = unwrap_or (found_in meanings code) (codes "docs/TEXTS.md says what it means")

-- the meaning of a code of a whole input, which has no line at fault
abbrev pub whole_meaning : Text → Text
whole_meaning code =
    if same code (codes "N3") then codes "the network has no router of this number"
    else if same code (codes "N6") then codes "no router, or more than 16777216 octets"
    else meaning code

-- the meaning of a code of a line, counted from 1, or of the whole input, whose number is 0
abbrev pub meaning_at : ℕ → Text → Text
meaning_at zero code = whole_meaning code
meaning_at (suc before) code = meaning code
