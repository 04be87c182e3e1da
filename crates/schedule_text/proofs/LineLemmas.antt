-- Lines that are read again: each line of an event says that event, and a comment says nothing.
use Rattle.std.proofs.Common.{◌≡◌, ◌≢◌, ℕ, zero, suc, ◌+◌, ◌-◌, ◌/◌, ◌%◌, ◌^◌, ◌<◌, ◌≤◌, ◌==◌, Bool, true, false, List, [], ◌∷◌, ◌++◌, length, map, refl, ap, sym, subst, ◌∙◌, arith, append_assoc, Option, Some, None, Result, Ok, Err}
use Rattle.std.specs.Prelude.{◌&&◌, ◌||◌, not, nat_le, nat_lt, min, decimal, if◌then◌else◌, IsOk}
use Rattle.std.specs.List.{All, AllByRecursion, list_all}
use Rattle.std.proofs.lemmas.Bool.{and_parts, ne_eqb, eq-eqb, le-leb, leb-true, lt-ltb}
use Rattle.std.proofs.lemmas.List.{append-nil}
use Rattle.std.proofs.lemmas.List.Elements.{All-cons, All-nil}
use Rattle.std.proofs.lemmas.List.Folds.{list_all-append}
use Rattle.std.proofs.lemmas.Fmt.{digits_value-decimal, decimal_nonempty}
use Rattle.std.specs.Fmt.{digits, digits_onto, digit_glyph}
use Rattle.std.proofs.lemmas.Str.Parse.{IsDigitsTest, IsNumeralModel, numerals_by_fold}
use Rattle.bgp_values.specs.declared.width.Width.{Width}
use Rattle.bgp_values.specs.declared.width.Width.TheVariants.{Two, Four}
use Rattle.bgp_values.specs.Ranges.{is_asn, greatest_asn}
use Rattle.ranked_policy.specs.declared.network.NetRouter.{NetRouter}
use Rattle.ranked_policy.specs.Plans.{Plan}
use Rattle.world_core.specs.declared.schedule.Event.{Event}
use Rattle.world_core.specs.declared.schedule.Order.{Order}
use Rattle.world_core.specs.declared.schedule.Order.TheVariants as order
use Rattle.net_text.specs.declared.code.Code.{Code}
use Rattle.net_text.specs.declared.code.Code.TheVariants.{Unreadable, UnknownRouter, OutOfLimit}
use Rattle.net_text.specs.Lexing.{Text, lines_of, first_more, begins_with, without_return, is_blank, ends_word, is_ascii, is_skipped}
use Rattle.net_text.specs.Layout.{IsWord, HasWords, IsOneLine, LinesEndByLineFeeds}
use Rattle.net_text.specs.Words.{◌>>=◌, is_digit, is_number, value_behind, value_of, number_word, router_word, is_router}
use Rattle.net_text.specs.Printing.{line}
use Rattle.schedule_text.specs.declared.schedule.ScheduledOrder.{ScheduledOrder}
use Rattle.schedule_text.specs.Schedules.{line_order, order_at, orders_of, IsGood}
use Rattle.net_text.specs.Comments.{comment_line, comments_text, AreComments}

-- ---- octets

-- an octet of ASCII that ends no line
abbrev pub is_shown : ℕ → Bool
is_shown x = nat_le 32 x && nat_lt x 128

abbrev pub are_shown : Text → Bool
are_shown text = list_all is_shown text

not_below : (x n : ℕ) → nat_le 32 x ≡ true → nat_le 32 n ≡ false → x ≢ n
not_below x n h k e =
    let b : true ≡ false = sym h ∙ ap (λ (m : ℕ). nat_le 32 m) e ∙ k in
    absurd cc

pub one_line_of : (t : Text) → are_shown t ≡ true → IsOneLine t
one_line_of [] h = tt
one_line_of (x ∷ xs) h =
    let k = and_parts (is_shown x) (are_shown xs) h in
    (not_below x 10 (and_parts (nat_le 32 x) (nat_lt x 128) k.0).0 refl, one_line_of xs k.1)

last_kept : (x : ℕ) → (x == 13) ≡ false → (if x == 13 then [] else x ∷ []) ≡ x ∷ []
last_kept x h = ap (λ (b : Bool). if b then [] else x ∷ []) h

pub no_return : (t : Text) → are_shown t ≡ true → without_return t ≡ t
no_return [] h = refl
no_return (x ∷ []) h =
    let k = and_parts (is_shown x) true h in
    last_kept x (ne_eqb x 13 (not_below x 13 (and_parts (nat_le 32 x) (nat_lt x 128) k.0).0 refl))
no_return (x ∷ y ∷ ys) h = ap (λ (t : Text). x ∷ t) (no_return (y ∷ ys) (and_parts (is_shown x) (are_shown (y ∷ ys)) h).1)

pub both_true : (a b : Bool) → a ≡ true → b ≡ true → (a && b) ≡ true
both_true true true h k = refl
both_true true false h k = absurd cc
both_true false b h k = absurd cc

pub ascii_of : (t : Text) → are_shown t ≡ true → is_ascii t ≡ true
ascii_of [] h = refl
ascii_of (x ∷ xs) h =
    let k = and_parts (is_shown x) (are_shown xs) h in
    both_true (nat_lt x 128) (is_ascii xs) (and_parts (nat_le 32 x) (nat_lt x 128) k.0).1 (ascii_of xs k.1)

pub shown_both : (a b : Text) → are_shown a ≡ true → are_shown b ≡ true → are_shown (a ++ b) ≡ true
shown_both a b h k = list_all-append is_shown a b ∙ both_true (are_shown a) (are_shown b) h k

-- ---- numbers

pub digit_range : (c : ℕ) → is_digit c ≡ true → (48 ≤ c) × (c ≤ 57)
digit_range c h = (let k = and_parts (nat_le 48 c) (nat_le c 57) h in (leb-true 48 c k.0, leb-true c 57 k.1))

range_digit : (c : ℕ) → (48 ≤ c) × (c ≤ 57) → is_digit c ≡ true
range_digit c h = both_true (nat_le 48 c) (nat_le c 57) (le-leb 48 c h.0) (le-leb c 57 h.1)

are_digits : IsDigitsTest (λ ds. list_all is_digit ds ≡ true)
are_digits = record {
  empty = refl;
  parts = λ c cs h. (let k = and_parts (is_digit c) (list_all is_digit cs) h in (digit_range c k.0, k.1));
  more = λ c cs r h. both_true (is_digit c) (list_all is_digit cs) (range_digit c r) h;
}

model : IsNumeralModel (λ ds. list_all is_digit ds ≡ true) (value_behind 0)
model = numerals_by_fold (λ ds. list_all is_digit ds ≡ true) are_digits value_behind (record { empty = λ n. refl; more = λ n c cs r. refl })

number_by : (t : Text) → 0 < length t → list_all is_digit t ≡ true → is_number t ≡ true
number_by [] some h = absurd (omega (arith, some))
number_by (x ∷ xs) some h = h

digit_shown : (x : ℕ) → is_digit x ≡ true → is_shown x ≡ true
digit_shown x h = (let r = digit_range x h in both_true (nat_le 32 x) (nat_lt x 128) (le-leb 32 x (omega (arith, r.0))) (lt-ltb x 128 (omega (arith, r.1))))

digits_shown : (t : Text) → list_all is_digit t ≡ true → are_shown t ≡ true
digits_shown [] h = refl
digits_shown (x ∷ xs) h =
    let k = and_parts (is_digit x) (list_all is_digit xs) h in
    both_true (is_shown x) (are_shown xs) (digit_shown x k.0) (digits_shown xs k.1)

not_blank_by : (a b : Bool) → a ≡ false → b ≡ false → (a || b) ≡ false
not_blank_by false false h k = refl
not_blank_by false true h k = absurd cc
not_blank_by true b h k = absurd cc

digit_word : (x : ℕ) → is_digit x ≡ true → is_blank x ≡ false
digit_word x h =
    let r = digit_range x h in
    let a : x ≢ 32 = λ e. absurd (omega (arith, r.0, e)) in
    let b : x ≢ 9 = λ e. absurd (omega (arith, r.0, e)) in
    not_blank_by (x == 32) (x == 9) (ne_eqb x 32 a) (ne_eqb x 9 b)

digits_word : (t : Text) → list_all is_digit t ≡ true → AllByRecursion (λ x. is_blank x ≡ false) t
digits_word [] h = tt
digits_word (x ∷ xs) h =
    let k = and_parts (is_digit x) (list_all is_digit xs) h in
    (digit_word x k.0, digits_word xs k.1)

some_word : (t : Text) → 0 < length t → t ≢ []
some_word [] some = absurd (omega (arith, some))
some_word (x ∷ xs) some = λ e. absurd cc

glyph_digit : (d : ℕ) → d < 10 → is_digit (digit_glyph false d) ≡ true
glyph_digit d low =
    let small : nat_lt d 10 ≡ true = lt-ltb d 10 low in
    ap (λ (b : Bool). is_digit (if b then 48 + d else 87 + d)) small ∙ range_digit (48 + d) (omega (arith, low), omega (arith, low))

onto_digits_by : (k n : ℕ) (acc : Text) (b : Bool) → list_all is_digit acc ≡ true → ((more : Text) → list_all is_digit more ≡ true → list_all is_digit (digits_onto k 10 false (n / 10) more) ≡ true)
    → list_all is_digit (if b then digit_glyph false (n % 10) ∷ acc else digits_onto k 10 false (n / 10) (digit_glyph false (n % 10) ∷ acc)) ≡ true
onto_digits_by k n acc true h go = both_true (is_digit (digit_glyph false (n % 10))) (list_all is_digit acc) (glyph_digit (n % 10) (omega arith)) h
onto_digits_by k n acc false h go = go (digit_glyph false (n % 10) ∷ acc) (both_true (is_digit (digit_glyph false (n % 10))) (list_all is_digit acc) (glyph_digit (n % 10) (omega arith)) h)

onto_digits : (k n : ℕ) (acc : Text) → list_all is_digit acc ≡ true → list_all is_digit (digits_onto k 10 false n acc) ≡ true
onto_digits zero n acc h = h
onto_digits (suc k) n acc h = onto_digits_by k n acc (n / 10 == 0) h (λ more m. onto_digits k (n / 10) more m)

-- what a number is written as, digit by digit
onto_nothing : (n : ℕ) → digits_onto 64 10 false n [] ≡ decimal n
unfolding digits
onto_nothing n = refl

-- a number is written in digits alone
pub decimal_digits : (n : ℕ) → list_all is_digit (decimal n) ≡ true
decimal_digits n = ap (list_all is_digit) (sym (onto_nothing n)) ∙ onto_digits 64 n [] refl

pub decimal_shown : (n : ℕ) → are_shown (decimal n) ≡ true
decimal_shown n = digits_shown (decimal n) (decimal_digits n)

module _ (n : ℕ) (fits : n < 2 ^ 64) where
  pub decimal_number : is_number (decimal n) ≡ true
  decimal_number = number_by (decimal n) (decimal_nonempty n fits) (decimal_digits n)

  pub decimal_value : value_of (decimal n) ≡ n
  decimal_value =
      let there : value_behind 0 (decimal n) ≡ n = digits_value-decimal model n fits in
      let low : min (2 ^ 64 - 1) n ≡ n = omega (arith, fits) in
      ap (λ (m : ℕ). min (2 ^ 64 - 1) m) there ∙ low

  pub decimal_word : IsWord (decimal n)
  decimal_word = (some_word (decimal n) (decimal_nonempty n fits), digits_word (decimal n) (decimal_digits n))

  pub number_reads : (test : ℕ → Bool) → test n ≡ true → number_word test (decimal n) ≡ Ok n
  number_reads test ok =
      ap (λ (c : Bool). if not c then Err Unreadable else if not (test (value_of (decimal n))) then Err OutOfLimit else Ok (value_of (decimal n))) decimal_number
      ∙ ap (λ (m : ℕ). if not (test m) then Err OutOfLimit else Ok m) decimal_value
      ∙ ap (λ (c : Bool). if not c then Err OutOfLimit else Ok n) ok

-- ---- routers

-- a number that names a router
pub record IsNamed (net : Plan) (u : ℕ) : Type 0 where
  pub in_range : is_asn net.settings.width u ≡ true
  pub known : is_router net.routers u ≡ true

below_by : (width : Width) (u : ℕ) → nat_le u (greatest_asn width) ≡ true → u < 2 ^ 64
below_by Two u h = omega (arith, leb-true u (greatest_asn Two) h)
below_by Four u h = omega (arith, leb-true u (greatest_asn Four) h)

pub asn_fits : (width : Width) (u : ℕ) → is_asn width u ≡ true → u < 2 ^ 64
asn_fits width u h = below_by width u (and_parts (nat_le 1 u) (nat_le u (greatest_asn width)) h).1

pub router_reads : (net : Plan) (u : ℕ) → IsNamed net u → router_word net.settings.width net.routers (decimal u) ≡ Ok u
router_reads net u named =
    ap (λ (r : Result ℕ Code). r >>= λ v. if not (is_router net.routers v) then Err UnknownRouter else Ok v)
    (number_reads u (asn_fits net.settings.width u named.in_range) (is_asn net.settings.width) named.in_range)
    ∙ ap (λ (c : Bool). if not c then Err UnknownRouter else Ok u) named.known

-- a number that was read
test_in : (test : ℕ → Bool) (c : Bool) (v u : ℕ) → test v ≡ c → (if not c then Err OutOfLimit else Ok v) ≡ Ok u → test u ≡ true
test_in test true v u is h =
    let same : v ≡ u = cc in
    subst (λ (m : ℕ). test m ≡ true) same is
test_in test false v u is h = absurd cc

pub number_from : (test : ℕ → Bool) (b : Bool) (v u : ℕ) → (if not b then Err Unreadable else if not (test v) then Err OutOfLimit else Ok v) ≡ Ok u → test u ≡ true
number_from test true v u h = test_in test (test v) v u refl h
number_from test false v u h = absurd cc

known_in : (routers : List NetRouter) (c : Bool) (v u : ℕ) → is_router routers v ≡ c → (if not c then Err UnknownRouter else Ok v) ≡ Ok u → (v ≡ u) × (is_router routers u ≡ true)
known_in routers true v u is h =
    let same : v ≡ u = cc in
    (same, subst (λ (m : ℕ). is_router routers m ≡ true) same is)
known_in routers false v u is h = absurd cc

named_by : (net : Plan) (a : Text) (r : Result ℕ Code) (u : ℕ) → number_word (is_asn net.settings.width) a ≡ r → (r >>= λ v. if not (is_router net.routers v) then Err UnknownRouter else Ok v) ≡ Ok u → IsNamed net u
named_by net a (Ok v) u is h =
    let k = known_in net.routers (is_router net.routers v) v u refl h in
    record {
      in_range = number_from (is_asn net.settings.width) (is_number a) (value_of a) u (is ∙ ap Ok k.0);
      known = k.1;
    }
named_by net a (Err code) u is h = absurd cc

pub named_from : (net : Plan) (a : Text) (u : ℕ) → router_word net.settings.width net.routers a ≡ Ok u → IsNamed net u
named_from net a u h = named_by net a (number_word (is_asn net.settings.width) a) u refl h

-- ---- words

-- a blank, a word, and others behind it
pub more_words : (word rest : Text) (words : List Text) → IsWord word → ends_word rest ≡ true → HasWords rest words → HasWords (32 ∷ (word ++ rest)) (word ∷ words)
more_words word rest words is ends h = (32 ∷ [], rest, refl, (refl, tt), is, ends, h)

pub last_word : (word : Text) → IsWord word → HasWords (32 ∷ word) (word ∷ [])
last_word word is = subst (λ (t : Text). HasWords (32 ∷ t) (word ∷ [])) (append-nil word) (more_words word [] [] is refl tt)

-- a name, a blank, and others behind it
pub name_first : (name rest : Text) (words : List Text) → IsWord name → HasWords (32 ∷ rest) words → HasWords ((name ++ 32 ∷ []) ++ rest) (name ∷ words)
name_first name rest words is h = ([], 32 ∷ rest, append_assoc name (32 ∷ []) rest, tt, is, refl, h)

pub one_words : (name : Text) (u : ℕ) → u < 2 ^ 64 → IsWord name → HasWords ((name ++ 32 ∷ []) ++ decimal u) (name ∷ decimal u ∷ [])
one_words name u fits is = name_first name (decimal u) (decimal u ∷ []) is (last_word (decimal u) (decimal_word u fits))

pub two_words : (name word : Text) (u : ℕ) → u < 2 ^ 64 → IsWord name → IsWord word → HasWords ((name ++ 32 ∷ []) ++ (decimal u ++ 32 ∷ word)) (name ∷ decimal u ∷ word ∷ [])
two_words name word u fits is other =
    name_first name (decimal u ++ 32 ∷ word) (decimal u ∷ word ∷ []) is (more_words (decimal u) (32 ∷ word) (word ∷ []) (decimal_word u fits) refl (last_word word other))

-- ---- texts of whole lines

abbrev pub order_of : ScheduledOrder → Order
order_of o = o.order

abbrev pub as_orders : List Event → List Order
as_orders es = map (λ e. order.One e) es

-- a text of whole lines orders these events, and no line of it has a fault
pub record Says (net : Plan) (text : List ℕ) (es : List Event) : Type 0 where
  pub lines : List Text
  pub parted : (rest : Text) → lines_of (text ++ rest) ≡ lines ++ lines_of rest
  pub good : AllByRecursion (IsGood net) lines
  pub orders : (at : ℕ) → map order_of (orders_of net at lines) ≡ as_orders es

pub all_of : (P : Text → Type 0) (xs : List Text) → AllByRecursion P xs → All P xs
all_of P [] h = All-nil P
all_of P (x ∷ xs) h = All-cons P x xs h.0 (all_of P xs h.1)

all_both : (P : Text → Type 0) (xs ys : List Text) → AllByRecursion P xs → AllByRecursion P ys → AllByRecursion P (xs ++ ys)
all_both P [] ys h k = k
all_both P (x ∷ xs) ys h k = (h.0, all_both P xs ys h.1 k)

map_both : {A B : Type 0} (f : A → B) (xs ys : List A) → map f (xs ++ ys) ≡ map f xs ++ map f ys
map_both f [] ys = refl
map_both f (x ∷ xs) ys = ap (λ l. f x ∷ l) (map_both f xs ys)

orders_after : (net : Plan) (at : ℕ) (xs ys : List Text) (p : List Order) → ((n : ℕ) → map order_of (orders_of net n ys) ≡ p)
    → map order_of (orders_of net at (xs ++ ys)) ≡ map order_of (orders_of net at xs) ++ p
orders_after net at [] ys p k = k at
orders_after net at (x ∷ xs) ys p k =
    let front = order_at (at + 1) (line_order net x) in
    map_both order_of front (orders_of net (at + 1) (xs ++ ys)) ∙ ap (λ (l : List Order). map order_of front ++ l) (orders_after net (at + 1) xs ys p k)
    ∙ sym (append_assoc (map order_of front) (map order_of (orders_of net (at + 1) xs)) p)
    ∙ ap (λ (l : List Order). l ++ p) (sym (map_both order_of front (orders_of net (at + 1) xs)))

pub says_none : (net : Plan) → Says net [] []
says_none net = record { lines = []; parted = λ rest. refl; good = tt; orders = λ at. refl }

pub says_both : (net : Plan) (a b : List ℕ) (es fs : List Event) → Says net a es → Says net b fs → Says net (a ++ b) (es ++ fs)
says_both net a b es fs h k = record {
  lines = h.lines ++ k.lines;
  parted = λ rest.
      ap lines_of (append_assoc a b rest) ∙ h.parted (b ++ rest) ∙ ap (λ (l : List Text). h.lines ++ l) (k.parted rest)
      ∙ sym (append_assoc h.lines k.lines (lines_of rest));
  good = all_both (IsGood net) h.lines k.lines h.good k.good;
  orders = λ at.
      orders_after net at h.lines k.lines (as_orders fs) k.orders ∙ ap (λ (l : List Order). l ++ as_orders fs) (h.orders at)
      ∙ sym (map_both (λ e. order.One e) es fs);
}

good_by : (r s : Result (Option Order) Code) → r ≡ s → IsOk s → IsOk r
good_by r s is h = subst IsOk (sym is) h

skipped_by : (b : Bool) (rest : Result (Option Order) Code) → b ≡ true → (if b then Ok None else rest) ≡ Ok None
skipped_by true rest h = refl
skipped_by false rest h = absurd cc

module _ (feeds : LinesEndByLineFeeds) where
  pub line_parted : (t rest : Text) → are_shown t ≡ true → lines_of (line t ++ rest) ≡ t ∷ lines_of rest
  line_parted t rest h =
      ap lines_of (append_assoc t (10 ∷ []) rest) ∙ feeds.front t rest (one_line_of t h) ∙ ap (λ (l : Text). l ∷ lines_of rest) (no_return t h)

  -- a line that orders an event
  pub says_line : (net : Plan) (t : Text) (e : Event) → are_shown t ≡ true → line_order net t ≡ Ok (Some (order.One e)) → Says net (line t) (e ∷ [])
  says_line net t e h is = record {
    lines = t ∷ [];
    parted = λ rest. line_parted t rest h;
    good = (good_by (line_order net t) (Ok (Some (order.One e))) is refl, tt);
    orders = λ at. ap (λ (r : Result (Option Order) Code). map order_of (order_at (at + 1) r ++ [])) is;
  }

  -- a line that orders nothing
  pub says_nothing : (net : Plan) (t : Text) → are_shown t ≡ true → is_skipped t ≡ true → Says net (line t) []
  says_nothing net t h is =
      let none : line_order net t ≡ Ok None = skipped_by (is_skipped t) _ is in
      record {
        lines = t ∷ [];
        parted = λ rest. line_parted t rest h;
        good = (good_by (line_order net t) (Ok None) none refl, tt);
        orders = λ at. ap (λ (r : Result (Option Order) Code). map order_of (order_at (at + 1) r ++ [])) none;
      }

  -- the mark of a comment is a word of its own
  comment_skipped : (t : Text) → is_skipped (without_return (35 ∷ 32 ∷ t)) ≡ true
  comment_skipped [] = refl
  comment_skipped (y ∷ ys) = refl

  -- a comment orders nothing, whatever it says
  says_comment : (net : Plan) (t : Text) → IsOneLine t → Says net (comment_line t) []
  says_comment net t h =
      let l = without_return (35 ∷ 32 ∷ t) in
      let none : line_order net l ≡ Ok None = skipped_by (is_skipped l) _ (comment_skipped t) in
      record {
        lines = l ∷ [];
        parted = λ rest. ap lines_of (append_assoc (35 ∷ 32 ∷ t) (10 ∷ []) rest) ∙ feeds.front (35 ∷ 32 ∷ t) rest ((λ e. absurd cc), ((λ e. absurd cc), h));
        good = (good_by (line_order net l) (Ok None) none refl, tt);
        orders = λ at. ap (λ (r : Result (Option Order) Code). map order_of (order_at (at + 1) r ++ [])) none;
      }

  says_lines : (net : Plan) (ls : List Text) → AllByRecursion IsOneLine ls → Says net (comments_text ls) []
  says_lines net [] h = says_none net
  says_lines net (l ∷ ls) h = says_both net (comment_line l) (comments_text ls) [] [] (says_comment net l h.0) (says_lines net ls h.1)

  pub says_comments : (net : Plan) (text : List ℕ) → AreComments text → Says net text []
  says_comments net text c = subst (λ (t : List ℕ). Says net t []) (sym c.are) (says_lines net c.lines c.are_lines)

-- ---- the lines of a text have no line end

false_not_true : false ≡ true → ⊥
false_not_true e = absurd cc

first_whole : (x : ℕ) (texts : List Text) → x ≢ 10 → AllByRecursion IsOneLine texts → AllByRecursion IsOneLine (first_more x texts)
first_whole x [] n h = ((n, tt), tt)
first_whole x (t ∷ texts) n h = ((n, h.0), h.1)

whole_by : (x : ℕ) (b c : Bool) (texts : List Text) → (x == 10) ≡ b → AllByRecursion IsOneLine texts → AllByRecursion IsOneLine (if b then [] ∷ texts else if c then texts else first_more x texts)
whole_by x true c texts is h = (tt, h)
whole_by x false true texts is h = h
whole_by x false false texts is h = first_whole x texts (λ e. absurd (false_not_true (sym is ∙ eq-eqb x 10 e))) h

pub one_lines : (text : Text) → AllByRecursion IsOneLine (lines_of text)
one_lines [] = tt
one_lines (x ∷ xs) = whole_by x (x == 10) ((x == 13) && begins_with 10 xs) (lines_of xs) refl (one_lines xs)

-- each line of a text as a comment
pub all_comments : (text comments : List ℕ) → comments ≡ comments_text (lines_of text) → AreComments comments
all_comments text comments are = record { lines = lines_of text; are_lines = one_lines text; are = are }
