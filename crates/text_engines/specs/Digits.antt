-- Hex digits that come in pieces.
use Rattle.std.specs.Prelude.{◌≡◌, ℕ, ◌%◌, Bool, true, false, not, List, [], ◌∷◌, ◌++◌, length, filter, Option, Some, None, Ok}
use Rattle.std.specs.List.{list_all}
use Rattle.hex.specs.Hex.{decode_pairs, is_hex_digit}
use Rattle.text_engines.specs.declared.digits.Digits.{Digits}
use Rattle.text_engines.specs.Decoding.{is_blank}

-- the octets of pairs of digits stand behind the old ones, where all are digits
abbrev pub Adds : List ℕ → List ℕ → List ℕ → Bool → Type 0
Adds digits old new are_hex =
    (are_hex ≡ list_all is_hex_digit digits) × (are_hex ≡ true → (octets : List ℕ) × (decode_pairs 0 digits ≡ Ok octets) × (new ≡ old ++ octets))

-- digits are pairs, which stand for these octets, and the half of a pair where there is one
abbrev pub HoldsPairs : List ℕ → List ℕ → Option ℕ → Type 0
HoldsPairs digits octets None = (length digits % 2 ≡ 0) × (decode_pairs 0 digits ≡ Ok octets)
HoldsPairs digits octets (Some digit) = (pairs : List ℕ) × (digits ≡ pairs ++ digit ∷ []) × (length pairs % 2 ≡ 0) × (decode_pairs 0 pairs ≡ Ok octets)

-- this is what was read of these digits, from which octets were taken away: their other octets, or that one of them is none
abbrev pub HasRead : List ℕ → Digits → List ℕ → Type 0
HasRead taken reader digits =
    (reader.are_hex ≡ true → HoldsPairs digits (taken ++ reader.octets.items) reader.half) × (reader.are_hex ≡ false → list_all is_hex_digit digits ≡ false)

-- a text without its blanks
abbrev pub without_blanks : List ℕ → List ℕ
without_blanks text = filter (λ octet. not (is_blank octet)) text
