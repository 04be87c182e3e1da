-- Digits as values, and values in pairs as octets.
use Rattle.std.proofs.Common.{◌≡◌, ℕ, suc, ◌+◌, ◌*◌, ◌/◌, ◌%◌, ◌<◌, ◌≤◌, Bool, true, false, List, [], ◌∷◌, ◌++◌, length, take, drop, map, Option, Some, None, unwrap_or, Result, Ok, Err, refl, sym, ap, subst, ◌∙◌, ◌⊎◌, inl, inr, arith, ne_eqb, eq-eqb, true≢false, ◌==◌}
use Rattle.std.specs.Prelude.{slice_index, nat_lt, nat_le, ◌-◌, ◌&&◌, is_some, is_ok, is_err, OnOk, MatchResult, if◌then◌else◌}
use Rattle.std.specs.List.{list_all}
use Rattle.std.proofs.lemmas.Bool.{lt-ltb, ltb-true, leb-true, cases_lt}
use Rattle.std.proofs.lemmas.List.{take_all, append-nil, append_assoc, take-append-drop, map-append, length-map, length-append, length-drop}
use Rattle.std.proofs.lemmas.Slice.{take-put_mid, put_mid-paste}
use borrow.Rule.Slice.PartMut.{put_mid}
use Rattle.std.proofs.lemmas.List.Edits.{length-paste}
use Rattle.text_engines.proofs.BlankLemmas.{behind_behind}
use Rattle.std.proofs.lemmas.List.Folds.{list_all-append, list_all-map}
use Rattle.hex.specs.Hex.{decode_of, decode_pairs, decode_sized, hex_digit_value, is_hex_digit, pair_value}
use Rattle.hex.specs.declared.error.FromHexError.{FromHexError}
use Rattle.text_engines.specs.Digits.{Adds, HoldsPairs}
use Rattle.hex.proofs.Pairs.{cons_byte, decode_pairs-ok_pair, decode_sized-pairs}

-- the value of a digit, or 255
abbrev pub value_of : ℕ → ℕ
value_of digit = unwrap_or (hex_digit_value digit) 255

-- whether all are digits
abbrev pub are_digits : List ℕ → Bool
are_digits s = list_all (λ digit. nat_lt (value_of digit) 16) s

-- the octet of the values of pair k
abbrev pub pair_at : List ℕ → ℕ → ℕ
pair_at values k = slice_index values (2 * k) % 16 * 16 + slice_index values (2 * k + 1) % 16

-- the octets of values in pairs
unfoldable pub join : List ℕ → List ℕ
join [] = []
join (h ∷ []) = []
join (h ∷ l ∷ rest) = (h % 16 * 16 + l % 16) ∷ join rest

-- ---- octets of more digits

join_append : (a b : List ℕ) → length a % 2 ≡ 0 → join (a ++ b) ≡ join a ++ join b
unfolding join
join_append [] b even = refl
join_append (h ∷ []) b even = absurd (omega arith)
join_append (h ∷ l ∷ rest) b even = ap (λ (t : List ℕ). (h % 16 * 16 + l % 16) ∷ t) (join_append rest b (omega arith))

-- a pair of the rest is the pair behind it of the whole
later_pair : (h l : ℕ) (rest : List ℕ) (k o : ℕ) (octets : List ℕ) → slice_index (o ∷ octets) (suc k) ≡ pair_at (h ∷ l ∷ rest) (suc k) → slice_index octets k ≡ pair_at rest k
later_pair h l rest k o octets e =
    let high : 2 * suc k ≡ suc (suc (2 * k)) = omega arith in
    let low : 2 * suc k + 1 ≡ suc (suc (2 * k + 1)) = omega arith in
    e ∙ ap (λ (n : ℕ). slice_index (h ∷ l ∷ rest) n % 16 * 16 + slice_index (h ∷ l ∷ rest) (2 * suc k + 1) % 16) high
    ∙ ap (λ (n : ℕ). slice_index (h ∷ l ∷ rest) (suc (suc (2 * k))) % 16 * 16 + slice_index (h ∷ l ∷ rest) n % 16) low

join_is : (values octets : List ℕ) → length values ≡ 2 * length octets → ((k : ℕ) → k < length octets → slice_index octets k ≡ pair_at values k) → join values ≡ octets
unfolding join
join_is [] [] len at = refl
join_is [] (o ∷ octets) len at = absurd (omega arith)
join_is (h ∷ []) octets len at = absurd (omega arith)
join_is (h ∷ l ∷ rest) [] len at = absurd (omega arith)
join_is (h ∷ l ∷ rest) (o ∷ octets) len at =
    let later : (k : ℕ) → k < length octets → slice_index octets k ≡ pair_at rest k
    = λ k lt. later_pair h l rest k o octets (at (suc k) (omega arith))
    in
    let first : o ≡ h % 16 * 16 + l % 16 = at 0 (omega arith) in
    ap (λ (y : ℕ). y ∷ join rest) (sym first) ∙ ap (λ (t : List ℕ). o ∷ t) (join_is rest octets (omega arith) later)

and_no : (a : Bool) → (a && false) ≡ false
and_no true = refl
and_no false = refl

and_assoc : (x y z : Bool) → (x && (y && z)) ≡ ((x && y) && z)
and_assoc true y z = refl
and_assoc false y z = refl

-- ---- octets written in place

-- the octets of digits
abbrev pub octets_of : List ℕ → List ℕ
octets_of s = join (map value_of s)

-- so many octets of a text stand in front, and are_hex says whether the digits that were seen were digits
abbrev pub Written : List ℕ → List ℕ → Bool → ℕ → Type 0
Written s out are_hex i =
    (octets_of s ≡ take i out ++ octets_of (drop (2 * i) s)) × ((are_hex && are_digits (drop (2 * i) s)) ≡ are_digits s) × (i ≤ length out) × (length s ≡ 2 * length out)

pub written_none : (s out : List ℕ) → length s ≡ 2 * length out → Written s out true 0
written_none s out len = (refl, refl, omega arith, len)

behind_block : (i : ℕ) (s : List ℕ) → drop 32 (drop (2 * i) s) ≡ drop (2 * (i + 16)) s
behind_block i s = let e : 2 * i + 32 ≡ 2 * (i + 16) = omega arith in behind_behind (2 * i) 32 s ∙ ap (λ (n : ℕ). drop n s) e

pub written_block : (s out block values octets : List ℕ) (i k : ℕ) (are_small are_hex : Bool) → 2 * i + 32 ≤ length s → length octets ≡ 16
    → block ≡ take 32 (drop (2 * i) s) → values ≡ map value_of block → are_small ≡ list_all (λ value. nat_lt value 16) values
    → ((k : ℕ) → k < 16 → slice_index octets k ≡ pair_at values k) → k ≡ 16
    → Written s out are_hex i → Written s (put_mid i k out octets) (are_hex && are_small) (i + 16)
written_block s out block values octets i k are_small are_hex fits size eb ev es at ek w =
    let next : List ℕ = drop (2 * (i + 16)) s in
    let two : block ++ next ≡ drop (2 * i) s = rw (eb, ← behind_block i s) (take-append-drop 32 (drop (2 * i) s)) in
    let size_of_block : length block ≡ 32 = omega (arith, ap length two, length-append block next, length-drop (2 * i) s, length-drop (2 * (i + 16)) s) in
    let size_of_values : length values ≡ 2 * length octets = ap length ev ∙ length-map block value_of ∙ size_of_block ∙ omega (arith, size) in
    let joined : octets_of block ≡ octets = ap join (sym ev) ∙ join_is values octets size_of_values (λ k lt. at k (omega (arith, size))) in
    let even : length (map value_of block) % 2 ≡ 0 = omega (arith, length-map block value_of, size_of_block) in
    let more : octets_of (drop (2 * i) s) ≡ octets ++ octets_of next
    = ap octets_of (sym two) ∙ ap join (map-append value_of block next) ∙ join_append (map value_of block) (map value_of next) even ∙ ap (λ (l : List ℕ). l ++ octets_of next) joined
    in
    let good : are_digits (drop (2 * i) s) ≡ (are_small && are_digits next)
    = ap are_digits (sym two) ∙ list_all-append (λ digit. nat_lt (value_of digit) 16) block next
    ∙ ap (λ (b : Bool). b && are_digits next) (sym (es ∙ ap (list_all (λ value. nat_lt value 16)) ev ∙ list_all-map (λ value. nat_lt value 16) value_of block))
    in
    let front : take (i + 16) (put_mid i k out octets) ≡ take i out ++ octets = take-put_mid i k out octets (i + 16) (omega (arith, size)) w.2 in
    let len : length (put_mid i k out octets) ≡ length out = ap length (put_mid-paste i k out octets octets 16 refl (sym ek) (sym size)) ∙ length-paste out i octets 16 (omega (arith, fits, w.3)) (omega (arith, size)) in (
      w.0 ∙ ap (λ (l : List ℕ). take i out ++ l) more ∙ sym (append_assoc (take i out) octets (octets_of next)) ∙ ap (λ (l : List ℕ). l ++ octets_of next) (sym front),
      sym (and_assoc are_hex are_small (are_digits next)) ∙ ap (λ (b : Bool). are_hex && b) (sym good) ∙ w.1,
      omega (arith, len, w.3),
      w.3 ∙ ap (λ (n : ℕ). 2 * n) (sym len),
    )

-- ---- what the octets are to the digits

digit_is : (o : Option ℕ) → nat_lt (unwrap_or o 255) 16 ≡ true → o ≡ Some (unwrap_or o 255)
digit_is (Some d) good = refl
digit_is None good = absurd cc

both : (a b : Bool) → (a && b) ≡ true → (a ≡ true) × (b ≡ true)
both true b e = (refl, e)
both false b e = absurd cc

pair_is : (a b i high low v : ℕ) → hex_digit_value a ≡ Some high → hex_digit_value b ≡ Some low → v ≡ high * 16 + low → pair_value a b i ≡ Ok v
pair_is a b i high low v ea eb ev = rw (ea, eb, ev) refl

-- the octet of two good digits
octet_is : (high low : ℕ) → high < 16 → low < 16 → high % 16 * 16 + low % 16 ≡ high * 16 + low
octet_is high low h l = omega arith

pub digits_are_read : (s : List ℕ) (i : ℕ) → length s % 2 ≡ 0 → are_digits s ≡ true → decode_pairs i s ≡ Ok (octets_of s)
unfolding decode_pairs join
digits_are_read [] i even good = refl
digits_are_read (x ∷ []) i even good = absurd (omega arith)
digits_are_read (a ∷ b ∷ rest) i even good =
    let first = both (nat_lt (value_of a) 16) (nat_lt (value_of b) 16 && are_digits rest) good in
    let second = both (nat_lt (value_of b) 16) (are_digits rest) first.1 in
    let octet = octet_is (value_of a) (value_of b) (ltb-true (value_of a) 16 first.0) (ltb-true (value_of b) 16 second.0) in
    let pair = pair_is a b i (value_of a) (value_of b) _ (digit_is (hex_digit_value a) first.0) (digit_is (hex_digit_value b) second.0) octet in
    decode_pairs-ok_pair i a b _ rest pair ∙ ap (cons_byte (value_of a % 16 * 16 + value_of b % 16)) (digits_are_read rest (i + 2) (omega arith) second.1)

-- ---- whether all are digits

value_fits : (d : ℕ) (upper lower figure : Bool) → (upper ≡ true → d ≤ 70) → (lower ≡ true → d ≤ 102) → (figure ≡ true → d ≤ 57)
    → nat_lt (unwrap_or (if upper then Some (d - 55) else if lower then Some (d - 87) else if figure then Some (d - 48) else None) 255) 16
    ≡ is_some (if upper then Some (d - 55) else if lower then Some (d - 87) else if figure then Some (d - 48) else None)
value_fits d true lower figure u l f = let le = u refl in lt-ltb (d - 55) 16 (omega arith)
value_fits d false true figure u l f = let le = l refl in lt-ltb (d - 87) 16 (omega arith)
value_fits d false false true u l f = let le = f refl in lt-ltb (d - 48) 16 (omega arith)
value_fits d false false false u l f = refl

at_most : (a n d : ℕ) → (nat_le a d && nat_le d n) ≡ true → d ≤ n
at_most a n d e = leb-true d n (both (nat_le a d) (nat_le d n) e).1

digit_fits : (d : ℕ) → nat_lt (value_of d) 16 ≡ is_hex_digit d
digit_fits d = value_fits d (nat_le 65 d && nat_le d 70) (nat_le 97 d && nat_le d 102) (nat_le 48 d && nat_le d 57) (at_most 65 70 d) (at_most 97 102 d) (at_most 48 57 d)

pub same_digits : (s : List ℕ) → are_digits s ≡ list_all is_hex_digit s
same_digits [] = refl
same_digits (d ∷ s) = ap (λ (b : Bool). b && are_digits s) (digit_fits d) ∙ ap (λ (b : Bool). is_hex_digit d && b) (same_digits s)

err_stays : (v : ℕ) (r : Result (List ℕ) FromHexError) → is_err r ≡ true → is_err (cons_byte v r) ≡ true
err_stays v (Ok x) e = absurd cc
err_stays v (Err x) e = refl

bad_pair : (a b i : ℕ) (rest : List ℕ) → (x : Option ℕ) → hex_digit_value a ≡ x → (y : Option ℕ) → hex_digit_value b ≡ y → list_all is_hex_digit (a ∷ b ∷ rest) ≡ false
    → (list_all is_hex_digit rest ≡ false → is_err (decode_pairs (i + 2) rest) ≡ true) → is_err (decode_pairs i (a ∷ b ∷ rest)) ≡ true
unfolding decode_pairs
bad_pair a b i rest (Some u) ex (Some v) ey bad later = rw (ex, ey) (err_stays (u * 16 + v) (decode_pairs (i + 2) rest) (later (rw (ex, ey) at bad)))
bad_pair a b i rest (Some u) ex None ey bad later = rw (ex, ey) refl
bad_pair a b i rest None ex y ey bad later = rw ex refl

-- pairs with an octet that is no digit
bad_pairs : (s : List ℕ) (i : ℕ) → length s % 2 ≡ 0 → list_all is_hex_digit s ≡ false → is_err (decode_pairs i s) ≡ true
unfolding decode_pairs
bad_pairs [] i even bad = absurd cc
bad_pairs (x ∷ []) i even bad = refl
bad_pairs (a ∷ b ∷ rest) i even bad = bad_pair a b i rest (hex_digit_value a) refl (hex_digit_value b) refl bad (λ later. bad_pairs rest (i + 2) (omega arith) later)

-- ---- pieces of a text in hex

octets_or_none : Result (List ℕ) FromHexError → List ℕ
octets_or_none (Ok x) = x
octets_or_none (Err e) = []

-- digits that read are digits
pub read_are_digits : (s x : List ℕ) → length s % 2 ≡ 0 → decode_pairs 0 s ≡ Ok x → (are_digits s ≡ true) × (x ≡ octets_of s)
unfolding octets_or_none
read_are_digits s x even e = by_cases (are_digits s) refl where
  same_octets : (y : List ℕ) → decode_pairs 0 s ≡ Ok y → Ok x ≡ decode_pairs 0 s → x ≡ y
  same_octets y f g = ap (λ (r : Result (List ℕ) FromHexError). octets_or_none r) (g ∙ f)

  by_cases : (b : Bool) → are_digits s ≡ b → (are_digits s ≡ true) × (x ≡ octets_of s)
  by_cases true good = (good, same_octets (octets_of s) (digits_are_read s 0 even good) (sym e))
  by_cases false bad = absurd (true≢false (sym (bad_pairs s 0 even (sym (same_digits s) ∙ bad)) ∙ ap is_err e))

-- what does not read is no digits
no_digits : (s : List ℕ) (e : FromHexError) → length s % 2 ≡ 0 → decode_pairs 0 s ≡ Err e → are_digits s ≡ false
no_digits s e even is = by_cases (are_digits s) refl where
  by_cases : (b : Bool) → are_digits s ≡ b → are_digits s ≡ false
  by_cases false bad = bad
  by_cases true good = absurd (let both = sym (digits_are_read s 0 even good) ∙ is in cc)

-- what the crate hex answers for the last octets, and writes behind those that stand in front
abbrev pub ReadsLast : Result (List ℕ) FromHexError → Result Unit FromHexError → List ℕ → Type 0
ReadsLast d r room = MatchResult d (λ bytes. (r ≡ Ok tt) × (room ≡ bytes)) (λ e. r ≡ Err e)

pub written_last : (s out last room : List ℕ) (i n : ℕ) (are_hex : Bool) (r : Result Unit FromHexError) → last ≡ drop (2 * i) s → n ≡ length out - i → ReadsLast (decode_sized last n) r room → Written s out are_hex i
    → ((are_hex && is_ok r) ≡ list_all is_hex_digit s) × ((are_hex && is_ok r) ≡ true → decode_pairs 0 s ≡ Ok (take i out ++ room))
written_last s out last room i n are_hex r is size says w =
    let len : length last ≡ length s - 2 * i = ap length is ∙ length-drop (2 * i) s in
    let even : length last % 2 ≡ 0 = omega (arith, len, w.2, w.3) in
    let half : length last / 2 ≡ n = omega (arith, len, size, w.2, w.3) in
    by_cases even (decode_pairs 0 last) refl (subst (λ (d : Result (List ℕ) FromHexError). ReadsLast d r room) (decode_sized-pairs last n even half) says) where
      judged : (is_ok r ≡ are_digits last) → (are_hex && is_ok r) ≡ are_digits s
      judged e = ap (λ (b : Bool). are_hex && b) e ∙ ap (λ (l : List ℕ). are_hex && are_digits l) is ∙ w.1

      by_cases : length last % 2 ≡ 0 → (d : Result (List ℕ) FromHexError) → decode_pairs 0 last ≡ d → ReadsLast d r room
          → ((are_hex && is_ok r) ≡ list_all is_hex_digit s) × ((are_hex && is_ok r) ≡ true → decode_pairs 0 s ≡ Ok (take i out ++ room))
      by_cases even (Ok bytes) e h =
          let read = read_are_digits last bytes even e in
          let all : (are_hex && is_ok r) ≡ are_digits s = judged (ap is_ok h.0 ∙ sym read.0) in
          let octets : octets_of s ≡ take i out ++ room = w.0 ∙ ap (λ (l : List ℕ). take i out ++ l) (ap octets_of (sym is) ∙ sym read.1 ∙ sym h.1) in
          (all ∙ same_digits s, λ yes. digits_are_read s 0 (omega (arith, w.3)) (sym all ∙ yes) ∙ ap Ok octets)
      by_cases even (Err bad) e h =
          let no : is_ok r ≡ false = ap is_ok h in
          let all : (are_hex && is_ok r) ≡ are_digits s = judged (no ∙ sym (no_digits last bad even e)) in
          (all ∙ same_digits s, λ yes. absurd (true≢false (sym yes ∙ ap (λ (b : Bool). are_hex && b) no ∙ and_no are_hex)))

pub more_pairs : (a b x y : List ℕ) → length a % 2 ≡ 0 → length b % 2 ≡ 0 → decode_pairs 0 a ≡ Ok x → decode_pairs 0 b ≡ Ok y → decode_pairs 0 (a ++ b) ≡ Ok (x ++ y)
more_pairs a b x y ea eb da db =
    let p = read_are_digits a x ea da in
    let q = read_are_digits b y eb db in
    let even : length (a ++ b) % 2 ≡ 0 = omega (arith, length-append a b) in
    let good : are_digits (a ++ b) ≡ true = list_all-append (λ digit. nat_lt (value_of digit) 16) a b ∙ rw (p.0, q.0) refl in
    let ev : length (map value_of a) % 2 ≡ 0 = omega (arith, length-map a value_of) in
    digits_are_read (a ++ b) 0 even good ∙ ap Ok (ap join (map-append value_of a b) ∙ join_append (map value_of a) (map value_of b) ev ∙ ap (λ (l : List ℕ). l ++ octets_of b) (sym p.1) ∙ ap (λ (l : List ℕ). x ++ l) (sym q.1))

-- what is no digit makes no octets
pub not_read : (s : List ℕ) → list_all is_hex_digit s ≡ false → is_err (decode_of s) ≡ true
not_read s bad = by_cases (cases_lt (length s % 2) 1) where
  by_cases : (length s % 2 < 1) ⊎ (1 ≤ length s % 2) → is_err (decode_of s) ≡ true
  by_cases (inl even) = let e : (length s % 2 == 1) ≡ false = ne_eqb (length s % 2) 1 (λ e. omega arith) in rw e (bad_pairs s 0 (omega arith) bad)
  by_cases (inr odd) = let e : (length s % 2 == 1) ≡ true = eq-eqb (length s % 2) 1 (omega arith) in rw e refl

-- neither does half a pair
odd_not_read : (s : List ℕ) → length s % 2 ≡ 1 → is_err (decode_of s) ≡ true
odd_not_read s odd = let e : (length s % 2 == 1) ≡ true = eq-eqb (length s % 2) 1 odd in rw e refl

even_read : (s octets : List ℕ) → length s % 2 ≡ 0 → decode_pairs 0 s ≡ Ok octets → decode_of s ≡ Ok octets
even_read s octets even e = let n : (length s % 2 == 1) ≡ false = ne_eqb (length s % 2) 1 (λ e. omega arith) in rw n e

-- ---- a reader of digits

abbrev pub half_of : Option ℕ → List ℕ
half_of None = []
half_of (Some digit) = digit ∷ []

-- what a reader with these fields has read
abbrev pub Has : Bool → List ℕ → Option ℕ → List ℕ → Type 0
Has are_hex octets half digits = (are_hex ≡ true → HoldsPairs digits octets half) × (are_hex ≡ false → list_all is_hex_digit digits ≡ false)

false_before : (a b : List ℕ) → list_all is_hex_digit a ≡ false → list_all is_hex_digit (a ++ b) ≡ false
false_before a b e = list_all-append is_hex_digit a b ∙ rw e refl

false_behind : (a b : List ℕ) → list_all is_hex_digit b ≡ false → list_all is_hex_digit (a ++ b) ≡ false
false_behind a b e = list_all-append is_hex_digit a b ∙ rw e (and_false (list_all is_hex_digit a)) where
  and_false : (x : Bool) → (x && false) ≡ false
  and_false true = refl
  and_false false = refl

pub begun : (octets : List ℕ) → octets ≡ [] → Has true octets None []
unfolding decode_pairs
begun octets none = (λ _. (refl, ap Ok (sym none)), λ bad. absurd (true≢false bad))

-- an octet that is no digit stays
spoilt : (digits new : List ℕ) (half : Option ℕ) (are_hex : Bool) → are_hex ≡ false → list_all is_hex_digit digits ≡ false → Has are_hex new half digits
spoilt digits new half are_hex is bad = (λ good. absurd (true≢false (sym good ∙ is)), λ _. bad)

-- what is added behind octets is added behind those that were taken away before them
pub adds_behind : (taken digits old new : List ℕ) (added : Bool) → Adds digits old new added → Adds digits (taken ++ old) (taken ++ new) added
adds_behind taken digits old new added adds = (
  adds.0,
  λ yes. let more = adds.1 yes in (more.0, more.1, ap (λ (l : List ℕ). taken ++ l) more.2 ∙ sym (append_assoc taken old more.0)),
)

-- octets that are taken away join those that were
pub took : (taken octets new digits : List ℕ) (n : ℕ) (hex : Bool) (half : Option ℕ) → new ≡ drop n octets → Has hex (taken ++ octets) half digits → Has hex ((taken ++ take n octets) ++ new) half digits
took taken octets new digits n hex half is has =
    let whole : taken ++ octets ≡ (taken ++ take n octets) ++ new
    = ap (λ (l : List ℕ). taken ++ l) (sym (take-append-drop n octets)) ∙ sym (append_assoc taken (take n octets) (drop n octets)) ∙ ap (λ (l : List ℕ). (taken ++ take n octets) ++ l) (sym is)
    in
    subst (λ (l : List ℕ). Has hex l half digits) whole has

pub completed : (before old new : List ℕ) (hex added : Bool) (high low : ℕ) → Adds (high ∷ low ∷ []) old new added → Has hex old (Some high) before → Has (added && hex) new None (before ++ low ∷ [])
completed before old new false added high low adds has = spoilt (before ++ low ∷ []) new None (added && false) (and_no added) (false_before before (low ∷ []) (has.1 refl))
completed before old new true false high low adds has =
    let holds = has.0 refl in
    let same : before ++ low ∷ [] ≡ holds.0 ++ high ∷ low ∷ [] = ap (λ (l : List ℕ). l ++ low ∷ []) holds.1 ∙ append_assoc holds.0 (high ∷ []) (low ∷ []) in
    spoilt (before ++ low ∷ []) new None false refl (ap (list_all is_hex_digit) same ∙ false_behind holds.0 (high ∷ low ∷ []) (sym adds.0))
completed before old new true true high low adds has =
    let holds = has.0 refl in
    let more = adds.1 refl in
    let same : before ++ low ∷ [] ≡ holds.0 ++ high ∷ low ∷ [] = ap (λ (l : List ℕ). l ++ low ∷ []) holds.1 ∙ append_assoc holds.0 (high ∷ []) (low ∷ []) in
    let read = more_pairs holds.0 (high ∷ low ∷ []) old more.0 holds.2 refl holds.3 more.1 in
    (λ _. (omega (arith, ap length same, length-append holds.0 (high ∷ low ∷ []), holds.2), ap (decode_pairs 0) same ∙ read ∙ ap Ok (sym more.2)), λ bad. absurd (true≢false bad))

pub appended : (before digits pairs last old new : List ℕ) (hex added : Bool) (half : Option ℕ) → digits ≡ pairs ++ last → length pairs % 2 ≡ 0 → last ≡ half_of half → Adds pairs old new added → Has hex old None before
    → Has (added && hex) new half (before ++ digits)
appended before digits pairs last old new false added half is even rest adds has = spoilt (before ++ digits) new half (added && false) (and_no added) (false_before before digits (has.1 refl))
appended before digits pairs last old new true false half is even rest adds has =
    spoilt (before ++ digits) new half false refl (false_behind before digits (ap (list_all is_hex_digit) is ∙ false_before pairs last (sym adds.0)))
appended before digits pairs last old new true true half is even rest adds has =
    let holds = has.0 refl in
    let more = adds.1 refl in
    let read = more_pairs before pairs old more.0 holds.0 even holds.1 more.1 ∙ ap Ok (sym more.2) in
    let size : length (before ++ pairs) % 2 ≡ 0 = omega (arith, length-append before pairs, holds.0, even) in
    let same : before ++ digits ≡ (before ++ pairs) ++ half_of half = ap (λ (l : List ℕ). before ++ l) (is ∙ ap (λ (l : List ℕ). pairs ++ l) rest) ∙ sym (append_assoc before pairs (half_of half)) in
    (λ _. holds_them half same size read, λ bad. absurd (true≢false bad)) where
      holds_them : (h : Option ℕ) → before ++ digits ≡ (before ++ pairs) ++ half_of h → length (before ++ pairs) % 2 ≡ 0 → decode_pairs 0 (before ++ pairs) ≡ Ok new → HoldsPairs (before ++ digits) new h
      holds_them None same size read =
          let whole : before ++ digits ≡ before ++ pairs = same ∙ append-nil (before ++ pairs) in
          (ap (λ (l : List ℕ). length l % 2) whole ∙ size, ap (decode_pairs 0) whole ∙ read)
      holds_them (Some digit) same size read = (before ++ pairs, same, size, read)

pub no_half : (last : List ℕ) (half : Option ℕ) → length last < 1 → half ≡ None → last ≡ half_of half
no_half [] half short is = sym (ap half_of is)
no_half (x ∷ last) half short is = absurd (omega arith)

pub one_half : (last : List ℕ) (half : Option ℕ) → 1 ≤ length last → length last ≤ 1 → half ≡ Some (slice_index last 0) → last ≡ half_of half
one_half [] half long short is = absurd (omega arith)
one_half (x ∷ []) half long short is = sym (ap half_of is)
one_half (x ∷ y ∷ last) half long short is = absurd (omega arith)

pub parted : (digits pairs last : List ℕ) (n : ℕ) → pairs ≡ take n digits → last ≡ drop n digits → digits ≡ pairs ++ last
parted digits pairs last n p l = rw (p, l) (sym (take-append-drop n digits))

pub first_and_rest : (digits : List ℕ) → 1 ≤ length digits → (slice_index digits 0 ∷ []) ++ take (length digits - 1) (drop 1 digits) ≡ digits
first_and_rest [] long = absurd (omega arith)
first_and_rest (x ∷ rest) long = ap (λ (l : List ℕ). x ∷ l) (take_all (length (x ∷ rest) - 1) rest (omega arith))

pub was_ok : {A E X : Type 0} (r : Result A E) → is_err r ≡ false → OnOk r X → X
was_ok (Ok a) e x = x
was_ok (Err a) e x = absurd cc

pub on_ok : {A E X Y : Type 0} (r : Result A E) → (X → Y) → OnOk r X → OnOk r Y
on_ok (Ok a) f x = f x
on_ok (Err e) f x = tt

-- what is read of a first and then of a second text is read of both
pub both_read : (before digits rest whole : List ℕ) (hex : Bool) (octets : List ℕ) (half : Option ℕ) → digits ++ rest ≡ whole → Has hex octets half ((before ++ digits) ++ rest) → Has hex octets half (before ++ whole)
both_read before digits rest whole hex octets half is has = subst (Has hex octets half) (append_assoc before digits rest ∙ ap (λ (l : List ℕ). before ++ l) is) has

-- ---- the end

pub wrong_end : (digits octets : List ℕ) (half : Option ℕ) (hex : Bool) → (hex ≡ false) ⊎ ((digit : ℕ) × (half ≡ Some digit)) → Has hex octets half digits → is_err (decode_of digits) ≡ true
wrong_end digits octets half false why has = not_read digits (has.1 refl)
wrong_end digits octets half true (inl is) has = absurd (true≢false is)
wrong_end digits octets None true (inr some) has = absurd cc
wrong_end digits octets (Some digit) true (inr some) has =
    let holds = has.0 refl in
    odd_not_read digits (omega (arith, ap length holds.1, length-append holds.0 (digit ∷ []), holds.2))
