-- What to write in place of a line that is refused.
use Rattle.std.specs.Prelude.{ℕ, List, [], ◌∷◌, ◌++◌, Option, None, Some, is_some, codes, if◌then◌else◌}
use Rattle.std.specs.Option.{option_or}
use Rattle.net_text.specs.Lexing.{Text, words_of, same, is_ascii}
use Rattle.error_words.specs.declared.places.Place.{Place}
use Rattle.error_words.specs.Tables.{found_in, near_in}
use Rattle.error_words.specs.Showing.{shown, remark_text}
use Rattle.error_words.specs.Places.{place_of, own_rows, network_rows, order_rows, path_rows, section_rows}
use Rattle.error_words.specs.Spelling.{is_turned, turned}
use Rattle.error_words.specs.Reasons.{router_of, faulty_of}

-- ---- N1: a first word

-- the first word that a word nearly is, of any place
abbrev pub near_elsewhere : Text → Option Text
near_elsewhere name =
    option_or (near_in network_rows name) (option_or (near_in order_rows name) (option_or (near_in path_rows name) (near_in section_rows name)))

-- the same, one that may stand at a place before others
abbrev pub near_any : Place → Text → Option Text
near_any place name = option_or (near_in (own_rows place) name) (near_elsewhere name)

abbrev pub near_said : Option Text → Text
near_said None = []
near_said (Some name) = remark_text (codes "the nearest first word is " ++ name)

abbrev pub section_said : Option Text → Option Text → Text
section_said (Some text) near = remark_text text
section_said None near = near_said near

-- the words on a first word that may not stand at the place of the line
abbrev pub elsewhere_said : Text → Option Text → Text
elsewhere_said name near =
    if is_some (found_in network_rows name)
    then remark_text (codes "routers, links and policies stay as they are: their lines stand above 'schedule' or 'assignment'")
    else if is_some (found_in order_rows name)
    then remark_text (codes "an order stands behind a line 'schedule', in what play, trace, cut and why read")
    else if is_some (found_in path_rows name)
    then remark_text (codes "a path stands behind a line 'assignment', in what check reads")
    else section_said (found_in section_rows name) near

-- the line that a first word has at its place, or other words
abbrev pub form_said : Option Text → Text → Text
form_said None other = other
form_said (Some form) other = remark_text (codes "write: " ++ form)

-- the words on the first word of a line at a place
unfoldable pub place_said : Place → Text → Text
place_said place name = form_said (found_in (own_rows place) name) (elsewhere_said name (near_any place name))

abbrev pub first_word_said : Text → ℕ → Text → Text
first_word_said input at name = place_said (place_of input at) name

abbrev pub words_advice : Text → ℕ → List Text → Text
words_advice input at [] = []
words_advice input at (name ∷ words) = first_word_said input at name

-- ---- N7: a path

unfoldable pub way_text : Text → Text → Text
way_text router path = codes "write it from " ++ (shown router ++ (codes " to the origin: " ++ turned path))

abbrev pub turned_said : Text → Option Text → Text
turned_said router None = []
turned_said router (Some path) = if is_turned router path then remark_text (way_text router path) else []

-- ---- all

-- what to write in place of the line of this number, by the code that it is refused with
unfoldable pub advice : Text → ℕ → Text → Text → Text
advice input at code line =
    if same code (codes "N1") then (if is_ascii line then words_advice input at (words_of line) else [])
    else if same code (codes "N7") then turned_said (router_of (words_of line)) (faulty_of (words_of line))
    else []
