-- The line of an event as it is read.
use Rattle.std.proofs.Common.{◌≡◌, ◌≢◌, ℕ, ◌+◌, ◌-◌, ◌*◌, ◌/◌, ◌%◌, ◌^◌, ◌<◌, ◌==◌, Bool, true, false, List, [], ◌∷◌, ◌++◌, length, refl, ap, ◌∙◌, arith, Option, Some, None, Ok, Err}
use Rattle.std.specs.Prelude.{not, nat_le, nat_lt, codes, decimal, if◌then◌else◌}
use Rattle.std.specs.List.{AllByRecursion, list_all}
use Rattle.std.proofs.Math.Nat.{div-add-mod, mul_comm}
use Rattle.std.proofs.lemmas.Bool.{and_parts, ne_eqb, eq-eqb, le-leb, leb-true}
use Rattle.prefix_lanes.specs.Bits.{PrefixView, IsCanonical}
use Rattle.ranked_policy.specs.declared.network.Origin.{Origin}
use Rattle.ranked_policy.specs.Plans.{Plan}
use Rattle.router_model.specs.declared.command.Command.TheVariants as command
use Rattle.world_core.specs.declared.schedule.Event.{Event}
use Rattle.world_core.specs.declared.schedule.Event.TheVariants as event
use Rattle.world_core.specs.declared.schedule.Order.TheVariants as order
use Rattle.net_text.specs.declared.code.Code.TheVariants.{BadPrefix}
use Rattle.net_text.specs.Lexing.{Text, first_more, parts, begins_with, is_blank, says_nothing}
use Rattle.net_text.specs.Layout.{IsWord, HasWords, LinesEndByLineFeeds}
use Rattle.net_text.specs.Words.{◌>>=◌, is_digit, is_number, value_of, is_octet, address_of_parts, address_of, prefix_behind, prefix_of_parts, prefix_of, prefix_or_fault, origin_word, is_named, cleared}
use Rattle.net_text.specs.Printing.{line, address_text, prefix_text}
use Rattle.schedule_text.specs.Schedules.{is_within}
use Rattle.schedule_text.specs.Sayings.{NamesRouter, NamesPeers, NamesPrefix, NamesNumber, Say, LinesAreReadAsTheySay}
use Rattle.schedule_text.specs.Events.{one_line, two_line, prefix_line, event_line}
use Rattle.schedule_text.proofs.LineLemmas.{are_shown, both_true, ascii_of, shown_both, decimal_number, decimal_value, decimal_shown, decimal_word, decimal_digits, digit_range, number_reads, IsNamed, asn_fits, router_reads, one_words, two_words, Says, says_line}

-- ---- prefixes

-- no octet of these is the mark
abbrev Without : ℕ → Text → Type 0
Without mark t = AllByRecursion (λ x. (x == mark) ≡ false) t

same_number : (n : ℕ) → (n == n) ≡ true
same_number n = eq-eqb n n refl

parts_at : (mark : ℕ) (t rest : Text) → Without mark t → parts mark (t ++ mark ∷ rest) ≡ t ∷ parts mark rest
parts_at mark [] rest h = ap (λ (b : Bool). if b then [] ∷ parts mark rest else first_more mark (parts mark rest)) (same_number mark)
parts_at mark (x ∷ xs) rest h =
    ap (λ (b : Bool). if b then [] ∷ parts mark (xs ++ mark ∷ rest) else first_more x (parts mark (xs ++ mark ∷ rest))) h.0
    ∙ ap (first_more x) (parts_at mark xs rest h.1)

parts_end : (mark : ℕ) (t : Text) → Without mark t → parts mark t ≡ t ∷ []
parts_end mark [] h = refl
parts_end mark (x ∷ xs) h = ap (λ (b : Bool). if b then [] ∷ parts mark xs else first_more x (parts mark xs)) h.0 ∙ ap (first_more x) (parts_end mark xs h.1)

without_both : (mark : ℕ) (a b : Text) → Without mark a → Without mark b → Without mark (a ++ b)
without_both mark [] b h k = k
without_both mark (x ∷ xs) b h k = (h.0, without_both mark xs b h.1 k)

digits_without : (mark : ℕ) (t : Text) → mark < 48 → list_all is_digit t ≡ true → Without mark t
digits_without mark [] low h = tt
digits_without mark (x ∷ xs) low h =
    let k = and_parts (is_digit x) (list_all is_digit xs) h in
    let r = digit_range x k.0 in
    let other : x ≢ mark = λ e. absurd (omega (arith, r.0, low, e)) in
    (ne_eqb x mark other, digits_without mark xs low k.1)

words_both : (a b : Text) → AllByRecursion (λ x. is_blank x ≡ false) a → AllByRecursion (λ x. is_blank x ≡ false) b → AllByRecursion (λ x. is_blank x ≡ false) (a ++ b)
words_both [] b h k = k
words_both (x ∷ xs) b h k = (h.0, words_both xs b h.1 k)

some_front : (a b : Text) → a ≢ [] → (a ++ b) ≢ []
some_front [] b some = absurd (some refl)
some_front (x ∷ xs) b some = λ e. absurd cc

-- a word of two parts
word_both : (a b : Text) → IsWord a → AllByRecursion (λ x. is_blank x ≡ false) b → IsWord (a ++ b)
word_both a b h k = (some_front a b h.0, words_both a b h.1 k)

octet_reads : (n : ℕ) → n < 256 → is_octet (decimal n) ≡ true
octet_reads n low =
    let fits : n < 2 ^ 64 = omega (arith, low) in
    let small : nat_le n 255 ≡ true = le-leb n 255 (omega (arith, low)) in
    both_true (is_number (decimal n)) (nat_le (value_of (decimal n)) 255) (decimal_number n fits) (ap (λ (m : ℕ). nat_le m 255) (decimal_value n fits) ∙ small)

-- four octets, as their address
abbrev of_octets : ℕ → ℕ → ℕ → ℕ → ℕ
of_octets a b c d = ((a * 256 + b) * 256 + c) * 256 + d

octets_read : (a b c d : ℕ) → a < 256 → b < 256 → c < 256 → d < 256
    → address_of_parts (decimal a ∷ decimal b ∷ decimal c ∷ decimal d ∷ []) ≡ Some (of_octets a b c d)
octets_read a b c d la lb lc ld =
    let fa : a < 2 ^ 64 = omega (arith, la) in
    let fb : b < 2 ^ 64 = omega (arith, lb) in
    let fc : c < 2 ^ 64 = omega (arith, lc) in
    let fd : d < 2 ^ 64 = omega (arith, ld) in
    let value = of_octets (value_of (decimal a)) (value_of (decimal b)) (value_of (decimal c)) (value_of (decimal d)) in
    let all = both_true _ _ (both_true _ _ (both_true _ _ (octet_reads a la) (octet_reads b lb)) (octet_reads c lc)) (octet_reads d ld) in
    ap (λ (k : Bool). if k then Some value else None) all
    ∙ ap (λ (n : ℕ). Some (of_octets n (value_of (decimal b)) (value_of (decimal c)) (value_of (decimal d)))) (decimal_value a fa)
    ∙ ap (λ (n : ℕ). Some (of_octets a n (value_of (decimal c)) (value_of (decimal d)))) (decimal_value b fb)
    ∙ ap (λ (n : ℕ). Some (of_octets a b n (value_of (decimal d)))) (decimal_value c fc)
    ∙ ap (λ (n : ℕ). Some (of_octets a b c n)) (decimal_value d fd)

-- four numbers with dots between them
abbrev dotted : ℕ → ℕ → ℕ → ℕ → Text
dotted a b c d = decimal a ++ (codes "." ++ (decimal b ++ (codes "." ++ (decimal c ++ (codes "." ++ decimal d)))))

module _ (a b c d : ℕ) (la : a < 256) (lb : b < 256) (lc : c < 256) (ld : d < 256) where
  fits_a : a < 2 ^ 64
  fits_a = omega (arith, la)

  fits_b : b < 2 ^ 64
  fits_b = omega (arith, lb)

  fits_c : c < 2 ^ 64
  fits_c = omega (arith, lc)

  fits_d : d < 2 ^ 64
  fits_d = omega (arith, ld)

  dotted_parts : parts 46 (dotted a b c d) ≡ decimal a ∷ decimal b ∷ decimal c ∷ decimal d ∷ []
  dotted_parts =
      let low : 46 < 48 = omega arith in
      parts_at 46 (decimal a) (decimal b ++ (codes "." ++ (decimal c ++ (codes "." ++ decimal d)))) (digits_without 46 (decimal a) low (decimal_digits a))
      ∙ ap (λ (l : List Text). decimal a ∷ l) (parts_at 46 (decimal b) (decimal c ++ (codes "." ++ decimal d)) (digits_without 46 (decimal b) low (decimal_digits b))
      ∙ ap (λ (l : List Text). decimal b ∷ l) (parts_at 46 (decimal c) (decimal d) (digits_without 46 (decimal c) low (decimal_digits c))
      ∙ ap (λ (l : List Text). decimal c ∷ l) (parts_end 46 (decimal d) (digits_without 46 (decimal d) low (decimal_digits d)))))

  dotted_reads : address_of (dotted a b c d) ≡ Some (of_octets a b c d)
  dotted_reads = ap address_of_parts dotted_parts ∙ octets_read a b c d la lb lc ld

  dotted_without : Without 47 (dotted a b c d)
  dotted_without =
      let low : 47 < 48 = omega arith in
      let four = digits_without 47 (decimal d) low (decimal_digits d) in
      let three = without_both 47 (decimal c) (codes "." ++ decimal d) (digits_without 47 (decimal c) low (decimal_digits c)) (refl, four) in
      let two = without_both 47 (decimal b) (codes "." ++ (decimal c ++ (codes "." ++ decimal d))) (digits_without 47 (decimal b) low (decimal_digits b)) (refl, three) in
      without_both 47 (decimal a) (codes "." ++ (decimal b ++ (codes "." ++ (decimal c ++ (codes "." ++ decimal d))))) (digits_without 47 (decimal a) low (decimal_digits a)) (refl, two)

  dotted_word : IsWord (dotted a b c d)
  dotted_word =
      let three = words_both (decimal c) (codes "." ++ decimal d) (decimal_word c fits_c).1 (refl, (decimal_word d fits_d).1) in
      let two = words_both (decimal b) (codes "." ++ (decimal c ++ (codes "." ++ decimal d))) (decimal_word b fits_b).1 (refl, three) in
      word_both (decimal a) (codes "." ++ (decimal b ++ (codes "." ++ (decimal c ++ (codes "." ++ decimal d))))) (decimal_word a fits_a) (refl, two)

  dotted_shown : are_shown (dotted a b c d) ≡ true
  dotted_shown =
      let three = shown_both (decimal c) (codes "." ++ decimal d) (decimal_shown c) (decimal_shown d) in
      let two = shown_both (decimal b) (codes "." ++ (decimal c ++ (codes "." ++ decimal d))) (decimal_shown b) three in
      shown_both (decimal a) (codes "." ++ (decimal b ++ (codes "." ++ (decimal c ++ (codes "." ++ decimal d))))) (decimal_shown a) two

-- a prefix as one word
abbrev pub prefix_as_word : PrefixView → Text
prefix_as_word q = address_text q.addr ++ (codes "/" ++ decimal q.len)

masked_same : (addr m : ℕ) → addr % m ≡ 0 → addr / m * m ≡ addr
masked_same addr m none = omega (arith, div-add-mod addr m, mul_comm (addr / m) m, none)

module _ (q : PrefixView) (canonical : IsCanonical q) where
  octet_a : q.addr / 2 ^ 24 < 256
  octet_a = omega (arith, canonical.fits)

  octet_b : q.addr / 2 ^ 16 % 256 < 256
  octet_b = omega arith

  octet_c : q.addr / 2 ^ 8 % 256 < 256
  octet_c = omega arith

  octet_d : q.addr % 256 < 256
  octet_d = omega arith

  len_fits : q.len < 2 ^ 64
  len_fits = omega (arith, canonical.short)

  address_reads : address_of (address_text q.addr) ≡ Some q.addr
  unfolding address_text
  address_reads =
      let whole : of_octets (q.addr / 2 ^ 24) (q.addr / 2 ^ 16 % 256) (q.addr / 2 ^ 8 % 256) (q.addr % 256) ≡ q.addr = omega (arith, canonical.fits) in
      dotted_reads (q.addr / 2 ^ 24) (q.addr / 2 ^ 16 % 256) (q.addr / 2 ^ 8 % 256) (q.addr % 256) octet_a octet_b octet_c octet_d ∙ ap Some whole

  slash : parts 47 (prefix_as_word q) ≡ address_text q.addr ∷ decimal q.len ∷ []
  unfolding address_text
  slash =
      parts_at 47 (address_text q.addr) (decimal q.len) (dotted_without (q.addr / 2 ^ 24) (q.addr / 2 ^ 16 % 256) (q.addr / 2 ^ 8 % 256) (q.addr % 256) octet_a octet_b octet_c octet_d)
      ∙ ap (λ (l : List Text). address_text q.addr ∷ l) (parts_end 47 (decimal q.len) (digits_without 47 (decimal q.len) (omega arith) (decimal_digits q.len)))

  prefix_reads : prefix_of (prefix_as_word q) ≡ Some q
  prefix_reads =
      let short : nat_le q.len 32 ≡ true = le-leb q.len 32 canonical.short in
      let test = both_true (is_number (decimal q.len)) (nat_le (value_of (decimal q.len)) 32) (decimal_number q.len len_fits) (ap (λ (m : ℕ). nat_le m 32) (decimal_value q.len len_fits) ∙ short) in
      ap prefix_of_parts slash
      ∙ ap (λ (r : Option ℕ). prefix_behind r (decimal q.len)) address_reads
      ∙ ap (λ (b : Bool). if b then Some (cleared q.addr (value_of (decimal q.len))) else None) test
      ∙ ap (λ (n : ℕ). Some (cleared q.addr n)) (decimal_value q.len len_fits)
      ∙ ap (λ (n : ℕ). Some (record { addr = n; len = q.len })) (masked_same q.addr (2 ^ (32 - q.len)) canonical.clear)

  pub origin_reads : (origins : List Origin) → is_named origins q ≡ true → origin_word origins (prefix_as_word q) ≡ Ok q
  origin_reads origins named =
      ap (λ (r : Option PrefixView). prefix_or_fault r >>= λ p. if not (is_named origins p) then Err BadPrefix else Ok p) prefix_reads
      ∙ ap (λ (b : Bool). if not b then Err BadPrefix else Ok q) named

  pub prefix_is_word : IsWord (prefix_as_word q)
  unfolding address_text
  prefix_is_word =
      word_both (address_text q.addr) (codes "/" ++ decimal q.len) (dotted_word (q.addr / 2 ^ 24) (q.addr / 2 ^ 16 % 256) (q.addr / 2 ^ 8 % 256) (q.addr % 256) octet_a octet_b octet_c octet_d)
      (refl, (decimal_word q.len len_fits).1)

  pub prefix_shown : are_shown (prefix_as_word q) ≡ true
  unfolding address_text
  prefix_shown =
      shown_both (address_text q.addr) (codes "/" ++ decimal q.len) (dotted_shown (q.addr / 2 ^ 24) (q.addr / 2 ^ 16 % 256) (q.addr / 2 ^ 8 % 256) (q.addr % 256) octet_a octet_b octet_c octet_d)
      (decimal_shown q.len)

-- ---- events

-- a prefix that the network names
pub record IsOriginated (net : Plan) (q : PrefixView) : Type 0 where
  pub canonical : IsCanonical q
  pub named : is_named net.origins q ≡ true

-- an event whose numbers and prefix a line may name
abbrev pub MaySay : Plan → Event → Type 0
MaySay net (event.Command u (command.Start v)) = IsNamed net u × IsNamed net v
MaySay net (event.Command u (command.Stop v)) = IsNamed net u × IsNamed net v
MaySay net (event.Command u (command.Reset v)) = IsNamed net u × IsNamed net v
MaySay net (event.Command u (command.Originate q)) = IsNamed net u × IsOriginated net q
MaySay net (event.Command u (command.Withdraw q)) = IsNamed net u × IsOriginated net q
MaySay net (event.Command u (command.Snapshot s)) = IsNamed net u × (is_within (2 ^ 32 - 1) s ≡ true)
MaySay net (event.Command u command.Restart) = IsNamed net u
MaySay net (event.Tick u) = IsNamed net u
MaySay net (event.Put u v) = IsNamed net u × IsNamed net v
MaySay net (event.Take u v) = IsNamed net u × IsNamed net v
MaySay net (event.Handle u v) = IsNamed net u × IsNamed net v
MaySay net (event.Decide u) = IsNamed net u
MaySay net (event.Advertise u) = IsNamed net u
MaySay net (event.Offer u) = IsNamed net u

-- a name that begins no comment
pub record IsName (name : Text) : Type 0 where
  pub word : IsWord name
  pub shown : are_shown name ≡ true
  pub speaks : (words : List Text) → says_nothing (name ∷ words) ≡ false

not_true_is : (b : Bool) → not b ≡ true → b ≡ false
not_true_is false h = refl
not_true_is true h = absurd cc

module _ (feeds : LinesEndByLineFeeds) (read : LinesAreReadAsTheySay) (net : Plan) where
  -- a text whose words say an event
  said : (t : Text) (e : Event) (words : List Text) → are_shown t ≡ true → HasWords t words → says_nothing words ≡ false → Say net (order.One e) words → Says net (line t) (e ∷ [])
  said t e words shown has speaks says = says_line feeds net t e shown ((read net t (order.One e)).1 (words, has, speaks, ascii_of t shown, says))

  said_one : (name : Text) (u : ℕ) (e : Event) → IsName name → IsNamed net u → Say net (order.One e) (name ∷ decimal u ∷ []) → Says net (one_line (name ++ 32 ∷ []) u) (e ∷ [])
  unfolding one_line
  said_one name u e is named says =
      let fits = asn_fits net.settings.width u named.in_range in
      said ((name ++ 32 ∷ []) ++ decimal u) e (name ∷ decimal u ∷ []) (shown_both (name ++ 32 ∷ []) (decimal u) (shown_both name (32 ∷ []) is.shown refl) (decimal_shown u))
      (one_words name u fits is.word) (is.speaks (decimal u ∷ [])) says

  said_two : (name word : Text) (u : ℕ) (e : Event) → IsName name → IsNamed net u → IsWord word → are_shown word ≡ true → Say net (order.One e) (name ∷ decimal u ∷ word ∷ [])
      → Says net (line ((name ++ 32 ∷ []) ++ (decimal u ++ 32 ∷ word))) (e ∷ [])
  said_two name word u e is named other shown says =
      let fits = asn_fits net.settings.width u named.in_range in
      said ((name ++ 32 ∷ []) ++ (decimal u ++ 32 ∷ word)) e (name ∷ decimal u ∷ word ∷ [])
      (shown_both (name ++ 32 ∷ []) (decimal u ++ 32 ∷ word) (shown_both name (32 ∷ []) is.shown refl) (shown_both (decimal u) (32 ∷ word) (decimal_shown u) (both_true true (are_shown word) refl shown)))
      (two_words name word u fits is.word other) (is.speaks (decimal u ∷ word ∷ [])) says

  said_peers : (name : Text) (u v : ℕ) (e : Event) → IsName name → IsNamed net u → IsNamed net v → Say net (order.One e) (name ∷ decimal u ∷ decimal v ∷ []) → Says net (two_line (name ++ 32 ∷ []) u v) (e ∷ [])
  unfolding two_line
  said_peers name u v e is named other says =
      let fits = asn_fits net.settings.width v other.in_range in
      said_two name (decimal v) u e is named (decimal_word v fits) (decimal_shown v) says

  said_prefix : (name : Text) (u : ℕ) (q : PrefixView) (e : Event) → IsName name → IsNamed net u → IsOriginated net q → Say net (order.One e) (name ∷ decimal u ∷ prefix_as_word q ∷ [])
      → Says net (prefix_line (name ++ 32 ∷ []) u q) (e ∷ [])
  unfolding prefix_line prefix_text
  said_prefix name u q e is named from says =
      said_two name (prefix_as_word q) u e is named (prefix_is_word q from.canonical) (prefix_shown q from.canonical) says

  within_fits : (s : ℕ) → is_within (2 ^ 32 - 1) s ≡ true → s < 2 ^ 64
  within_fits s h = (let k = and_parts (nat_le 1 s) (nat_le s (2 ^ 32 - 1)) h in omega (arith, leb-true s (2 ^ 32 - 1) k.1))

  peers_named : (name : Text) (u v : ℕ) → IsNamed net u → IsNamed net v → NamesPeers net name u v (name ∷ decimal u ∷ decimal v ∷ [])
  peers_named name u v a b = (decimal u, decimal v, refl, router_reads net u a, router_reads net v b)

  router_named : (name : Text) (u : ℕ) → IsNamed net u → NamesRouter net name u (name ∷ decimal u ∷ [])
  router_named name u a = (decimal u, refl, router_reads net u a)

  prefix_named : (name : Text) (u : ℕ) (q : PrefixView) → IsNamed net u → IsOriginated net q → NamesPrefix net name u q (name ∷ decimal u ∷ prefix_as_word q ∷ [])
  prefix_named name u q a b = (decimal u, prefix_as_word q, refl, router_reads net u a, origin_reads q b.canonical net.origins b.named)

  number_named : (name : Text) (u s : ℕ) → IsNamed net u → is_within (2 ^ 32 - 1) s ≡ true → NamesNumber net name u s (name ∷ decimal u ∷ decimal s ∷ [])
  number_named name u s a b = (decimal u, decimal s, refl, router_reads net u a, number_reads s (within_fits s b) (is_within (2 ^ 32 - 1)) b)

  words_by : (name : Text) → list_all (λ x. not (is_blank x)) name ≡ true → AllByRecursion (λ x. is_blank x ≡ false) name
  words_by [] h = tt
  words_by (x ∷ xs) h =
      let k = and_parts (not (is_blank x)) (list_all (λ y. not (is_blank y)) xs) h in
      (not_true_is (is_blank x) k.0, words_by xs k.1)

  some_by : (name : Text) → nat_lt 0 (length name) ≡ true → name ≢ []
  some_by [] h = λ e. absurd cc
  some_by (x ∷ xs) h = λ e. absurd cc

  name_is : (name : Text) → nat_lt 0 (length name) ≡ true → list_all (λ x. not (is_blank x)) name ≡ true → are_shown name ≡ true → begins_with 35 name ≡ false → IsName name
  name_is name some words shown speaks = record { word = (some_by name some, words_by name words); shown = shown; speaks = λ ws. speaks }

  -- the line of an event says it
  pub event_said : (e : Event) → MaySay net e → Says net (event_line e) (e ∷ [])
  unfolding two_line
  event_said (event.Command u (command.Start v)) m = said_peers (codes "start") u v _ (name_is (codes "start") refl refl refl refl) m.0 m.1 (peers_named (codes "start") u v m.0 m.1)
  event_said (event.Command u (command.Stop v)) m = said_peers (codes "stop") u v _ (name_is (codes "stop") refl refl refl refl) m.0 m.1 (peers_named (codes "stop") u v m.0 m.1)
  event_said (event.Command u (command.Reset v)) m = said_peers (codes "reset") u v _ (name_is (codes "reset") refl refl refl refl) m.0 m.1 (peers_named (codes "reset") u v m.0 m.1)
  event_said (event.Command u (command.Originate q)) m =
      said_prefix (codes "originate") u q _ (name_is (codes "originate") refl refl refl refl) m.0 m.1 (prefix_named (codes "originate") u q m.0 m.1)
  event_said (event.Command u (command.Withdraw q)) m =
      said_prefix (codes "withdraw") u q _ (name_is (codes "withdraw") refl refl refl refl) m.0 m.1 (prefix_named (codes "withdraw") u q m.0 m.1)
  event_said (event.Command u (command.Snapshot s)) m =
      said_two (codes "snapshot") (decimal s) u _ (name_is (codes "snapshot") refl refl refl refl) m.0 (decimal_word s (within_fits s m.1)) (decimal_shown s) (number_named (codes "snapshot") u s m.0 m.1)
  event_said (event.Command u command.Restart) m = said_one (codes "restart") u _ (name_is (codes "restart") refl refl refl refl) m (router_named (codes "restart") u m)
  event_said (event.Tick u) m = said_one (codes "tick") u _ (name_is (codes "tick") refl refl refl refl) m (router_named (codes "tick") u m)
  event_said (event.Put u v) m = said_peers (codes "put") u v _ (name_is (codes "put") refl refl refl refl) m.0 m.1 (peers_named (codes "put") u v m.0 m.1)
  event_said (event.Take u v) m = said_peers (codes "take") u v _ (name_is (codes "take") refl refl refl refl) m.0 m.1 (peers_named (codes "take") u v m.0 m.1)
  event_said (event.Handle u v) m = said_peers (codes "handle") u v _ (name_is (codes "handle") refl refl refl refl) m.0 m.1 (peers_named (codes "handle") u v m.0 m.1)
  event_said (event.Decide u) m = said_one (codes "decide") u _ (name_is (codes "decide") refl refl refl refl) m (router_named (codes "decide") u m)
  event_said (event.Advertise u) m = said_one (codes "advertise") u _ (name_is (codes "advertise") refl refl refl refl) m (router_named (codes "advertise") u m)
  event_said (event.Offer u) m = said_one (codes "offer") u _ (name_is (codes "offer") refl refl refl refl) m (router_named (codes "offer") u m)
