-- The octets of what tells a path, put piece by piece.
use Rattle.std.proofs.Common.{◌≡◌, ℕ, suc, ◌+◌, ◌*◌, ◌≤◌, Bool, true, false, List, [], ◌∷◌, ◌++◌, length, get_or, take, refl, sym, ap, ◌∙◌, append_assoc, length-append, arith}
use Rattle.std.specs.Prelude.{nat_le}
use Rattle.std.specs.List.{flat_map, AllByRecursion, IsSplitAt}
use Rattle.std.specs.Int.{w16, w32, to_be_bytes}
use Rattle.std.proofs.lemmas.Bool.{lt-leb}
use Rattle.std.proofs.lemmas.List.{append-nil, length-take-le, take-append-drop}
use Rattle.bgp_values.specs.declared.width.Width.{Width}
use Rattle.bgp_values.specs.declared.width.Width.TheVariants.{Two, Four}
use Rattle.marker_lanes.specs.Marker.{marker}
use Rattle.prefix_lanes.specs.Bits.{PrefixView, IsCanonical}
use Rattle.bgp_codec.specs.declared.message.Message.TheVariants.{UpdateMsg}
use Rattle.bgp_codec.specs.AsNumbers.{asn_size, asn_octets, AsnFits}
use Rattle.bgp_codec.specs.Updates.{octet_count, attr_octets, raw_of}
use Rattle.bgp_codec.specs.Spelling.{header_of, framed, written}
use Rattle.router_model.specs.State.{withdrawal, announcement, telling}
use Rattle.router_side.specs.Histories.{spelt_by, PutsBehind}
use Rattle.router_side.specs.Layout.{marked, field, address, withdrawal_front, announcement_start, announcement_front, announcement_hop}
use Rattle.router_side.specs.Sayings.{IsSayable}

pub numbers_length : (w : Width) (ns : List ℕ) → length (flat_map (asn_octets w) ns) ≡ asn_size w * length ns
numbers_length Two [] = refl
numbers_length Two (n ∷ ns) = (let rest = numbers_length Two ns in omega (arith, rest))
numbers_length Four [] = refl
numbers_length Four (n ∷ ns) = (let rest = numbers_length Four ns in omega (arith, rest))

-- a number has four octets at most
pub size_at_most : (w : Width) (n : ℕ) → asn_size w * n ≤ 4 * n
size_at_most Two n = omega arith
size_at_most Four n = omega arith

at_most_four : (len : ℕ) → len ≤ 32 → octet_count len ≤ 4
at_most_four len le = omega arith

pub address_length : (q : PrefixView) → IsCanonical q → length (address q) ≡ octet_count q.len
address_length q canonical = length-take-le (octet_count q.len) (to_be_bytes w32 q.addr) (at_most_four q.len canonical.short)

one_more : (n : ℕ) → suc n ≡ 1 + n
one_more n = omega arith

two_more : (n : ℕ) → suc (suc n) ≡ 2 + n
two_more n = omega arith

-- what was put makes it longer by so much
pub grown : (old new part : List ℕ) → new ≡ old ++ part → length new ≡ length old + length part
grown old new part e = ap length e ∙ length-append old part

-- three pieces, put one after the other
three : (old front middle back a b c : List ℕ) → a ≡ old ++ front → b ≡ a ++ middle → c ≡ b ++ back → c ≡ old ++ (front ++ (middle ++ back))
three old front middle back a b c ea eb ec =
    ec ∙ ap (λ (x : List ℕ). x ++ back) (eb ∙ ap (λ (x : List ℕ). x ++ middle) ea)
    ∙ append_assoc (old ++ front) middle back ∙ append_assoc old front (middle ++ back)

-- the octets with their header
abbrev with_header : ℕ → List ℕ → List ℕ
with_header n octets = header_of 2 n ++ octets

header_at : (n : ℕ) (octets : List ℕ) → marked (get_or (to_be_bytes w16 (19 + n)) 0 0 ∷ get_or (to_be_bytes w16 (19 + n)) 1 0 ∷ 2 ∷ octets) ≡ with_header n octets
unfolding header_of marker
header_at n octets = refl

header_is : (n m : ℕ) (octets : List ℕ) → m ≡ 19 + n → marked (get_or (to_be_bytes w16 m) 0 0 ∷ get_or (to_be_bytes w16 m) 1 0 ∷ 2 ∷ octets) ≡ with_header n octets
header_is n m octets e = ap (λ (k : ℕ). marked (get_or (to_be_bytes w16 k) 0 0 ∷ get_or (to_be_bytes w16 k) 1 0 ∷ 2 ∷ octets)) e ∙ header_at n octets

-- ---- a withdrawal

module _ (w : Width) (q : PrefixView) (canonical : IsCanonical q) where
  -- the withdrawn prefix and its length, and no attributes
  abbrev withdrawn : ℕ → List ℕ → List ℕ
  withdrawn n octets = to_be_bytes w16 n ++ (q.len ∷ (octets ++ 0 ∷ 0 ∷ []))

  withdrawal_written : written w (UpdateMsg (withdrawal q)) ≡ with_header (length (withdrawn (suc (length (address q ++ []))) (address q ++ []))) (withdrawn (suc (length (address q ++ []))) (address q ++ []))
  unfolding framed
  withdrawal_written = refl

  withdrawal_size : length (withdrawn (1 + octet_count q.len) (address q)) ≡ 5 + octet_count q.len
  withdrawal_size = omega (arith, length-append (address q) (0 ∷ 0 ∷ []), address_length q canonical)

  withdrawal_is : written w (UpdateMsg (withdrawal q)) ≡ with_header (5 + octet_count q.len) (withdrawn (1 + octet_count q.len) (address q))
  withdrawal_is =
      withdrawal_written
      ∙ ap (λ (x : List ℕ). with_header (length (withdrawn (suc (length x)) x)) (withdrawn (suc (length x)) x)) (append-nil (address q))
      ∙ ap (λ (n : ℕ). with_header (length (withdrawn (suc n) (address q))) (withdrawn (suc n) (address q))) (address_length q canonical)
      ∙ ap (λ (n : ℕ). with_header (length (withdrawn n (address q))) (withdrawn n (address q))) (one_more (octet_count q.len))
      ∙ ap (λ (n : ℕ). with_header n (withdrawn (1 + octet_count q.len) (address q))) withdrawal_size

  pub withdrawal_length : 24 + octet_count q.len ≡ length (written w (UpdateMsg (withdrawal q)))
  withdrawal_length = omega (arith, ap length (withdrawal_is ∙ sym (header_at (5 + octet_count q.len) (withdrawn (1 + octet_count q.len) (address q)))), withdrawal_size)

  pub withdrawal_whole : withdrawal_front q.len (octet_count q.len) ++ (address q ++ 0 ∷ 0 ∷ []) ≡ written w (UpdateMsg (withdrawal q))
  withdrawal_whole = header_is (5 + octet_count q.len) (24 + octet_count q.len) (withdrawn (1 + octet_count q.len) (address q)) (omega arith) ∙ sym withdrawal_is

  pub withdrawal_put : (old a b d : List ℕ) → a ≡ old ++ withdrawal_front q.len (octet_count q.len) → b ≡ a ++ address q → d ≡ b ++ 0 ∷ 0 ∷ [] → d ≡ old ++ written w (UpdateMsg (withdrawal q))
  withdrawal_put old a b d ea eb ed =
      three old (withdrawal_front q.len (octet_count q.len)) (address q) (0 ∷ 0 ∷ []) a b d ea eb ed ∙ ap (λ (x : List ℕ). old ++ x) withdrawal_whole

-- ---- the front of an announcement

pub front_parts : (count m l : ℕ) → announcement_start (40 + m + l) (2 + m) ++ ((2 + m) ∷ 2 ∷ count ∷ []) ≡ announcement_front count m l
front_parts count m l =
    let more : 14 + (2 + m) ≡ 16 + m = omega arith in
    ap (λ (n : ℕ). marked (field (40 + m + l) (2 ∷ 0 ∷ 0 ∷ field n (64 ∷ 1 ∷ 1 ∷ 0 ∷ 64 ∷ 2 ∷ (2 + m) ∷ 2 ∷ count ∷ [])))) more

-- a frame that has it is spelt without it
pub frame_spelt : (frame front rest : List ℕ) → IsSplitAt frame 29 front rest → front ≡ announcement_start (length frame) (get_or rest 0 0) → spelt_by true (length frame) rest ≡ frame
frame_spelt frame front rest s e =
    ap (λ (f : List ℕ). f ++ rest) (sym e ∙ s.1) ∙ ap (λ (b : List ℕ). take 29 frame ++ b) s.2 ∙ take-append-drop 29 frame

-- ---- an announcement

module _ (w : Width) (id : ℕ) (q : PrefixView) (ns : List ℕ) (canonical : IsCanonical q) (few : length ns ≤ 63) where
  abbrev numbers : List ℕ
  numbers = flat_map (asn_octets w) ns

  abbrev size : ℕ
  size = asn_size w * length ns

  abbrev next_hop : List ℕ
  next_hop = 64 ∷ 3 ∷ 4 ∷ to_be_bytes w32 id

  -- the attributes, by whether the length of AS_PATH has two octets
  abbrev attrs_by : Bool → List ℕ → List ℕ
  attrs_by long xs = 64 ∷ 1 ∷ 1 ∷ 0 ∷ (attr_octets long 0 (raw_of 64 2 (2 ∷ length ns ∷ xs)) ++ (next_hop ++ []))

  abbrev announced : List ℕ → List ℕ → List ℕ
  announced attrs body = 0 ∷ 0 ∷ ((to_be_bytes w16 (length attrs) ++ attrs) ++ (q.len ∷ body))

  abbrev framed_by : List ℕ → List ℕ
  framed_by octets = with_header (length octets) octets

  -- the same with lengths that are counted
  abbrev counted : List ℕ
  counted = 0 ∷ 0 ∷ (to_be_bytes w16 (16 + size) ++ (64 ∷ 1 ∷ 1 ∷ 0 ∷ 64 ∷ 2 ∷ (2 + size) ∷ 2 ∷ length ns ∷ (numbers ++ (next_hop ++ (q.len ∷ address q)))))

  announcement_written : written w (UpdateMsg (announcement id q ns)) ≡ framed_by (announced (attrs_by (nat_le 256 (length (2 ∷ length ns ∷ (numbers ++ [])))) (numbers ++ [])) (address q ++ []))
  unfolding framed
  announcement_written = refl

  short : nat_le 256 (length (2 ∷ length ns ∷ numbers)) ≡ false
  short = lt-leb 256 (length (2 ∷ length ns ∷ numbers)) (omega (arith, numbers_length w ns, size_at_most w (length ns), few))

  attrs_size : length (attrs_by false numbers) ≡ 16 + size
  attrs_size = omega (arith, length-append numbers (next_hop ++ []), numbers_length w ns)

  behind : (numbers ++ (next_hop ++ [])) ++ (q.len ∷ address q) ≡ numbers ++ (next_hop ++ (q.len ∷ address q))
  behind = append_assoc numbers (next_hop ++ []) (q.len ∷ address q)

  counted_size : length counted ≡ 21 + (size + octet_count q.len)
  counted_size = omega (arith, length-append numbers (next_hop ++ (q.len ∷ address q)), numbers_length w ns, address_length q canonical)

  announcement_is : written w (UpdateMsg (announcement id q ns)) ≡ with_header (21 + (size + octet_count q.len)) counted
  announcement_is =
      announcement_written
      ∙ ap (λ (x : List ℕ). framed_by (announced (attrs_by (nat_le 256 (length (2 ∷ length ns ∷ x))) x) (address q ++ []))) (append-nil numbers)
      ∙ ap (λ (x : List ℕ). framed_by (announced (attrs_by (nat_le 256 (length (2 ∷ length ns ∷ numbers))) numbers) x)) (append-nil (address q))
      ∙ ap (λ (b : Bool). framed_by (announced (attrs_by b numbers) (address q))) short
      ∙ ap (λ (n : ℕ). framed_by (0 ∷ 0 ∷ ((to_be_bytes w16 n ++ attrs_by false numbers) ++ (q.len ∷ address q)))) attrs_size
      ∙ ap (λ (n : ℕ). framed_by (0 ∷ 0 ∷ (to_be_bytes w16 (16 + size) ++ (64 ∷ 1 ∷ 1 ∷ 0 ∷ 64 ∷ 2 ∷ suc (suc n) ∷ 2 ∷ length ns ∷ ((numbers ++ (next_hop ++ [])) ++ (q.len ∷ address q)))))) (numbers_length w ns)
      ∙ ap (λ (n : ℕ). framed_by (0 ∷ 0 ∷ (to_be_bytes w16 (16 + size) ++ (64 ∷ 1 ∷ 1 ∷ 0 ∷ 64 ∷ 2 ∷ n ∷ 2 ∷ length ns ∷ ((numbers ++ (next_hop ++ [])) ++ (q.len ∷ address q)))))) (two_more size)
      ∙ ap (λ (x : List ℕ). framed_by (0 ∷ 0 ∷ (to_be_bytes w16 (16 + size) ++ (64 ∷ 1 ∷ 1 ∷ 0 ∷ 64 ∷ 2 ∷ (2 + size) ∷ 2 ∷ length ns ∷ x)))) behind
      ∙ ap (λ (n : ℕ). with_header n counted) counted_size

  pub announcement_length : 40 + size + octet_count q.len ≡ length (written w (UpdateMsg (announcement id q ns)))
  announcement_length = omega (arith, ap length (announcement_is ∙ sym (header_at (21 + (size + octet_count q.len)) counted)), counted_size)

  abbrev front : List ℕ
  front = announcement_front (length ns) size (octet_count q.len)

  abbrev hop : List ℕ
  hop = announcement_hop id q.len

  pub announcement_whole : front ++ (numbers ++ (hop ++ address q)) ≡ written w (UpdateMsg (announcement id q ns))
  announcement_whole = header_is (21 + (size + octet_count q.len)) (40 + size + octet_count q.len) counted (omega arith) ∙ sym announcement_is

  abbrev tail : List ℕ
  tail = numbers ++ (hop ++ address q)

  abbrev segment : List ℕ
  segment = (2 + size) ∷ 2 ∷ length ns ∷ []

  pub announcement_put : (before old a b d e : List ℕ) → a ≡ old ++ segment → b ≡ a ++ numbers → d ≡ b ++ hop → e ≡ d ++ address q → before ≡ announcement_start (40 + size + octet_count q.len) (2 + size)
      → PutsBehind before (written w (UpdateMsg (announcement id q ns))) old e
  announcement_put before old a b d e ea eb ed ee is = record {
    rest = segment ++ tail;
    appended =
        ee ∙ ap (λ (x : List ℕ). x ++ address q) (three old segment numbers hop a b d ea eb ed)
        ∙ append_assoc old (segment ++ (numbers ++ hop)) (address q)
        ∙ ap (λ (x : List ℕ). old ++ x) (append_assoc segment (numbers ++ hop) (address q) ∙ ap (λ (x : List ℕ). segment ++ x) (append_assoc numbers hop (address q)));
    front_is = is ∙ ap (λ (n : ℕ). announcement_start n (2 + size)) announcement_length;
    spells =
        ap (λ (n : ℕ). announcement_start n (2 + size) ++ (segment ++ tail)) (sym announcement_length)
        ∙ sym (append_assoc (announcement_start (40 + size + octet_count q.len) (2 + size)) segment tail)
        ∙ ap (λ (x : List ℕ). x ++ tail) (front_parts (length ns) size (octet_count q.len))
        ∙ announcement_whole;
  }

-- ---- what tells a path

pub telling_none : (id : ℕ) (q : PrefixView) (path : List ℕ) → length path ≤ 0 → telling id q path ≡ withdrawal q
telling_none id q [] none = refl
telling_none id q (v ∷ path) none = absurd (omega (arith, none))

pub telling_some : (id : ℕ) (q : PrefixView) (path : List ℕ) → 1 ≤ length path → telling id q path ≡ announcement id q path
telling_some id q [] some = absurd (omega (arith, some))
telling_some id q (v ∷ path) some = refl

-- the numbers of a path that can be told fit the width
pub numbers_fit : (w : Width) (id : ℕ) (q : PrefixView) (path : List ℕ) → IsSayable w (UpdateMsg (telling id q path)) → AllByRecursion (AsnFits w) path
numbers_fit w id q [] sayable = tt
numbers_fit w id q (v ∷ path) sayable = sayable.0.attrs.path.0.1.1
