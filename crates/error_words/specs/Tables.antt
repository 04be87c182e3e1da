-- Tables of words: what stands behind each, and which is meant by one that is nearly it.
use Rattle.std.specs.Prelude.{ℕ, ◌+◌, ◌==◌, ◌&&◌, ◌||◌, nat_le, Bool, true, false, List, [], ◌∷◌, drop, Option, None, Some, if◌then◌else◌}
use denote.Ref.{Bor}
use Rattle.net_text.specs.Lexing.{Text, same}

-- a row of a table of the code
abbrev pub row_of : Bor Text × Bor Text → Text × Text
row_of row = (row.0.now, row.1.now)

-- what stands behind a word
abbrev pub found_in : List (Text × Text) → Text → Option Text
found_in [] word = None
found_in (row ∷ rows) word = if same word row.0 then Some row.1 else found_in rows word

-- ---- words that are nearly others

-- a letter of ASCII as a small one
abbrev pub lower : ℕ → ℕ
lower x = if nat_le 65 x && nat_le x 90 then x + 32 else x

-- the word is the name, in whatever letters
abbrev pub alike : Text → Text → Bool
alike [] [] = true
alike [] (y ∷ ys) = false
alike (x ∷ xs) [] = false
alike (x ∷ xs) (y ∷ ys) = (lower x == y) && alike xs ys

-- the first two octets are exchanged, and the others are those of the name
abbrev pub swapped : Text → Text → Bool
swapped [] ys = false
swapped (x ∷ []) ys = false
swapped (x ∷ z ∷ xs) [] = false
swapped (x ∷ z ∷ xs) (y ∷ []) = false
swapped (x ∷ z ∷ xs) (y ∷ w ∷ ys) = (lower x == w) && ((lower z == y) && alike xs ys)

-- in front an octet is another, or missing, or one too many, or exchanged with the next; or both texts are at their end
abbrev pub ends_near : Text → Text → Bool
ends_near word name =
    alike (drop 1 word) (drop 1 name) || alike word (drop 1 name) || alike (drop 1 word) name || swapped word name

-- the word is the name but for letters large and small, and one octet
abbrev pub is_near : Text → Text → Bool
is_near [] name = ends_near [] name
is_near (x ∷ xs) [] = ends_near (x ∷ xs) []
is_near (x ∷ xs) (y ∷ ys) = if lower x == y then is_near xs ys else ends_near (x ∷ xs) (y ∷ ys)

-- the first name that the word nearly is
abbrev pub near_in : List (Text × Text) → Text → Option Text
near_in [] word = None
near_in (row ∷ rows) word = if is_near word row.0 then Some row.0 else near_in rows word
