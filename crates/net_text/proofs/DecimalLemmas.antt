-- Numbers below 256 in decimal digits.
use Rattle.std.proofs.Common.{◌≡◌, ℕ, zero, suc, ◌+◌, ◌-◌, ◌*◌, ◌/◌, ◌%◌, ◌^◌, ◌<◌, ◌≤◌, Bool, true, List, [], ◌∷◌, ◌++◌, length, take, drop, decimal, nat_lt, refl, sym, ap, ◌∙◌, append_assoc, arith}
use Rattle.std.specs.Prelude.{◌&&◌, if◌then◌else◌, slice_index_or}
use Rattle.std.specs.Str.{bytes_eq}
use Rattle.std.specs.Cmp.Lexicographic.{bytes_decides}
use Rattle.std.proofs.lemmas.Bool.Decides.{Decides-below_and}
use Rattle.std.proofs.lemmas.Fmt.{decimal_digit, decimal_step}
use Rattle.std.proofs.lemmas.List.{get_or-take, length-append, length-take-le, take-take, take_at}
use Rattle.std.proofs.Math.Seq.{take-append-add}

-- the last digit behind the others
pub last_digit : (n : ℕ) → 10 ≤ n → n < 2 ^ 32 → decimal n ≡ decimal (n / 10) ++ ((48 + n % 10) ∷ [])
last_digit n low high = decimal_step n low (omega arith)

-- what a text has behind its front, where the last two digits were written behind the others
pub two_behind : (n m : ℕ) (front text new : List ℕ) → 100 ≤ n → n < 2 ^ 32 → m ≡ n / 100 → text ≡ front ++ decimal m → new ≡ text ++ ((48 + n / 10 % 10) ∷ (48 + n % 10) ∷ []) → new ≡ front ++ decimal n
two_behind n m front text new low high is others e =
    let tens = (48 + n / 10 % 10) ∷ [] in
    let ones = (48 + n % 10) ∷ [] in
    let rest : n / 10 / 10 ≡ m = omega (arith, is) in
    let before : decimal (n / 10) ≡ decimal m ++ tens = last_digit (n / 10) (omega arith) (omega arith) ∙ ap (λ (k : ℕ). decimal k ++ tens) rest in
    let digits : decimal n ≡ decimal m ++ (tens ++ ones) = last_digit n (omega arith) high ∙ ap (λ (ds : List ℕ). ds ++ ones) before ∙ append_assoc (decimal m) tens ones in
    e ∙ ap (λ (ds : List ℕ). ds ++ (tens ++ ones)) others ∙ append_assoc front (decimal m) (tens ++ ones) ∙ ap (λ (ds : List ℕ). front ++ ds) (sym digits)

-- the digits, by how many there are
pub two_digits : (n : ℕ) → 10 ≤ n → n < 100 → decimal n ≡ (48 + n / 10) ∷ (48 + n % 10) ∷ []
two_digits n low high =
    let front : n / 10 < 10 = omega arith in
    decimal_step n low (omega arith) ∙ ap (λ (ds : List ℕ). ds ++ ((48 + n % 10) ∷ [])) (decimal_digit (n / 10) front)

pub three_digits : (n : ℕ) → 100 ≤ n → n < 1000 → decimal n ≡ (48 + n / 10 / 10) ∷ (48 + n / 10 % 10) ∷ (48 + n % 10) ∷ []
three_digits n low high =
    let low_front : 10 ≤ n / 10 = omega arith in
    let high_front : n / 10 < 100 = omega arith in
    decimal_step n (omega arith) (omega arith) ∙ ap (λ (ds : List ℕ). ds ++ ((48 + n % 10) ∷ [])) (two_digits (n / 10) low_front high_front)

-- the last two of three digits, in a row that has them in front
pub two_in_row : (row : List ℕ) (n : ℕ) → 100 ≤ n → n < 1000 → take (length (decimal n) + 1) row ≡ decimal n ++ 46 ∷ [] → (slice_index_or row 1 0 ≡ 48 + n / 10 % 10) × (slice_index_or row 2 0 ≡ 48 + n % 10)
two_in_row row n low high is =
    let digits = three_digits n low high in
    let front : take 4 row ≡ (48 + n / 10 / 10) ∷ (48 + n / 10 % 10) ∷ (48 + n % 10) ∷ 46 ∷ [] = sym (ap (λ (ds : List ℕ). take (length ds + 1) row) digits) ∙ is ∙ ap (λ (ds : List ℕ). ds ++ 46 ∷ []) digits in
    (sym (get_or-take 4 row 1 0 (omega arith)) ∙ ap (λ (ds : List ℕ). slice_index_or ds 1 0) front, sym (get_or-take 4 row 2 0 (omega arith)) ∙ ap (λ (ds : List ℕ). slice_index_or ds 2 0) front)

-- the digits of a number below 256, by the number itself
abbrev pub digits_of : ℕ → List ℕ
digits_of n = if nat_lt n 10 then (48 + n) ∷ [] else if nat_lt n 100 then (48 + n / 10) ∷ (48 + n % 10) ∷ [] else (48 + n / 10 / 10) ∷ (48 + n / 10 % 10) ∷ (48 + n % 10) ∷ []

pub decimal_is : (n : ℕ) → n < 1000 → decimal n ≡ digits_of n
decimal_is n high = grind (arith, decimal_digit n, two_digits n, three_digits n)

-- two lists of octets for each number, the same below a number
abbrev pub agree : (ℕ → List ℕ) → (ℕ → List ℕ) → ℕ → Bool
agree f g zero = true
agree f g (suc n) = bytes_eq (f n) (g n) && agree f g n

agree_at : (f g : ℕ → List ℕ) (n : ℕ) → n < 256 → agree f g 256 ≡ true → f n ≡ g n
agree_at f g n low all = (Decides-below_and (λ k. bytes_eq (f k) (g k)) (λ k. f k ≡ g k) (agree f g) (λ k. bytes_decides (f k) (g k)) refl (λ _. refl) 256).0 all n low

-- the row of a number in a table: its digits in front and a dot behind them, in four places; in another table how many
-- of these they have
abbrev pub row_front : List ℕ → ℕ → List ℕ
row_front table n = take (length (digits_of n) + 1) (take 4 (drop (4 * n) table))

abbrev pub dotted : ℕ → List ℕ
dotted n = digits_of n ++ 46 ∷ []

abbrev pub span_in : List ℕ → ℕ → List ℕ
span_in table n = slice_index_or table n 0 ∷ []

abbrev pub span_of : ℕ → List ℕ
span_of n = (length (digits_of n) + 1) ∷ []

pub digits_in_row : (table : List ℕ) (n : ℕ) → n < 256 → agree (row_front table) dotted 256 ≡ true → take (length (decimal n) + 1) (take 4 (drop (4 * n) table)) ≡ decimal n ++ 46 ∷ []
digits_in_row table n low all =
    let this : row_front table n ≡ dotted n = agree_at (row_front table) dotted n low all in
    let is : decimal n ≡ digits_of n = decimal_is n (omega arith) in
    rw is this

pub span_in_table : (table : List ℕ) (n : ℕ) → n < 256 → agree (span_in table) span_of 256 ≡ true → slice_index_or table n 0 ≡ length (decimal n) + 1
span_in_table table n low all =
    let this : span_in table n ≡ span_of n = agree_at (span_in table) span_of n low all in
    let is : decimal n ≡ digits_of n = decimal_is n (omega arith) in
    ap (λ (ks : List ℕ). slice_index_or ks 0 0) this ∙ ap (λ (ds : List ℕ). length ds + 1) (sym is)

-- at most three digits
pub few_digits : (n : ℕ) → n < 256 → length (decimal n) ≤ 3
few_digits n low = grind (arith, decimal_is n)

-- what a text has in front, where a row of four was written behind, and not all of the row counts
pub row_written : (text new row : List ℕ) (at n : ℕ) → at ≤ length text → n ≤ 4 → take (at + 4) new ≡ take at text ++ row → take (at + n) new ≡ take at text ++ take n row
row_written text new row at n room few is =
    let front = take at text in
    let len : length front ≡ at = length-take-le at text room in
    sym (take-take (at + n) (at + 4) new (omega (arith, few))) ∙ ap (take (at + n)) is ∙ ap (λ (k : ℕ). take (k + n) (front ++ row)) (sym len) ∙ take-append-add front row n

-- without the last octet of what was written
pub without_last : (text new ds : List ℕ) (at n mark : ℕ) → at ≤ length text → n ≡ at + (length ds + 1) → take n new ≡ take at text ++ (ds ++ mark ∷ []) → take (n - 1) new ≡ take at text ++ ds
without_last text new ds at n mark room end is =
    let front = take at text in
    let len : length (front ++ ds) ≡ n - 1 = length-append front ds ∙ ap (λ (k : ℕ). k + length ds) (length-take-le at text room) ∙ omega (arith, end) in
    sym (take-take (n - 1) n new (omega arith)) ∙ ap (take (n - 1)) is ∙ ap (take (n - 1)) (sym (append_assoc front ds (mark ∷ []))) ∙ take_at (front ++ ds) (mark ∷ []) (n - 1) len
