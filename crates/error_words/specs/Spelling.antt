-- How operands are spelt: which word can't be read, and which path of a rule is faulty.
use Rattle.std.specs.Prelude.{ℕ, zero, suc, ◌-◌, ◌==◌, ◌&&◌, ◌||◌, not, nat_lt, Bool, true, false, List, [], ◌∷◌, ◌++◌, length, take, drop, Option, None, Some, if◌then◌else◌}
use Rattle.error_words.specs.declared.showing.TheConstants.{MOST_SHOWN}
use Rattle.net_text.specs.Lexing.{Text, same}
use Rattle.net_text.specs.Words.{is_digit}

-- ---- numbers with dashes between them

-- what is left of numbers with dashes between them, behind a digit or not
abbrev pub are_numbers : Bool → Text → Bool
are_numbers behind [] = behind
are_numbers behind (x ∷ xs) = if is_digit x then are_numbers true xs else (x == 45) && (behind && are_numbers false xs)

abbrev pub is_dashed : Text → Bool
is_dashed word = are_numbers false word

-- the first word that is no numbers with dashes between them
abbrev pub no_path_in : List Text → Option Text
no_path_in [] = None
no_path_in (word ∷ words) = if is_dashed word then no_path_in words else Some word

-- ---- paths as they are spelt

-- how many octets stand before the first dash
abbrev pub before_dash : Text → ℕ
before_dash [] = zero
before_dash (x ∷ xs) = if x == 45 then zero else suc (before_dash xs)

-- the first number of a path
abbrev pub first_number : Text → Text
first_number word = take (before_dash word) word

-- a number stands behind a dash
abbrev pub stands_behind : Text → Text → Bool
stands_behind number [] = false
stands_behind number (x ∷ xs) = ((x == 45) && same (first_number xs) number) || stands_behind number xs

-- a number stands twice; `starts` says whether one begins here
abbrev pub twice_from : Bool → Text → Bool
twice_from starts [] = false
twice_from starts (x ∷ xs) = (starts && stands_behind (first_number (x ∷ xs)) xs) || twice_from (x == 45) xs

abbrev pub has_twice : Text → Bool
has_twice word = twice_from true word

-- the first path that does not begin with this number, or has a number twice; none if a path before it is a long one
abbrev pub faulty_in : Text → List Text → Option Text
faulty_in number [] = None
faulty_in number (word ∷ words) =
    if nat_lt MOST_SHOWN (length word) then None
    else if same (first_number word) number && not (has_twice word) then faulty_in number words
    else Some word

-- the last number of a path is this one
abbrev pub is_last : Text → Text → Bool
is_last number word = same (drop (length word - length number) word) number && nat_lt (length number) (length word)

-- the numbers in the other order: those done, the one that is begun, and what is left of the path
abbrev pub turned_onto : Text → Text → Text → Text
turned_onto done begun [] = begun ++ done
turned_onto done begun (x ∷ xs) = if x == 45 then turned_onto (45 ∷ (begun ++ done)) [] xs else turned_onto done (begun ++ (x ∷ [])) xs

abbrev pub turned : Text → Text
turned word = turned_onto [] [] word

-- a path that is turned round: it ends by its router, and would begin with it
abbrev pub is_turned : Text → Text → Bool
is_turned number word = not (same (first_number word) number) && (is_last number word && not (has_twice word))
