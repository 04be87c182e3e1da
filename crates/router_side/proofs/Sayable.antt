-- What tells of a kept path can be said: it is writable with nobody named, and short.
use Rattle.std.proofs.Common.{◌≡◌, ℕ, zero, suc, ◌+◌, ◌*◌, ◌^◌, ◌<◌, ◌≤◌, Bool, true, false, List, [], ◌∷◌, ◌++◌, length, take, refl, arith, length-append}
use Rattle.std.specs.Prelude.{nat_le}
use Rattle.std.specs.List.{flat_map, AllByRecursion}
use Rattle.std.specs.Int.{w32, to_be_bytes}
use Rattle.bgp_values.specs.declared.width.Width.{Width}
use Rattle.bgp_values.specs.declared.width.Width.TheVariants.{Two, Four}
use Rattle.bgp_codec.specs.AsNumbers.{asn_octets, AsnFits}
use Rattle.prefix_lanes.specs.Bits.{PrefixView, IsCanonical}
use Rattle.bgp_codec.specs.declared.message.Message.TheVariants.{UpdateMsg}
use Rattle.bgp_codec.specs.declared.path.SegmentKind.TheVariants.{AsSequence}
use Rattle.bgp_codec.specs.declared.attributes.Raw.{Raw}
use Rattle.bgp_codec.specs.declared.update.Update.{Update}
use Rattle.bgp_codec.specs.Updates.{prefix_octets, raw_octets, attr_octets, raw_of, attrs_octets, path_octets, long_string, octet_count, UpdateFits, AttrsFit}
use Rattle.bgp_codec.specs.Spelling.{WrittenHasAHeader}
use Rattle.bgp_values.specs.Ranges.{is_unicast}
use Rattle.router_model.specs.State.{withdrawal, announcement}
use Rattle.router_side.specs.Sayings.{IsSayable}
use Rattle.router_side.specs.Acting.{TellingsAreSayable}

-- ---- lengths

take_short : (n : ℕ) (xs : List ℕ) → length (take n xs) ≤ length xs
take_short zero xs = omega arith
take_short (suc n) [] = omega arith
take_short (suc n) (x ∷ xs) = (let rest = take_short n xs in omega arith)

prefix_length : (q : PrefixView) → length (prefix_octets q) ≤ 5
prefix_length q = (let front = take_short (octet_count q.len) (to_be_bytes w32 q.addr) in omega arith)

attr_by : (b : Bool) (r : Raw) → length (attr_octets b 0 r) ≤ 4 + length r.value
attr_by true r = omega arith
attr_by false r = omega arith

attr_length : (r : Raw) → length (raw_octets r) ≤ 4 + length r.value
attr_length r = attr_by (nat_le 256 (length r.value)) r

three_length : (a b c : Raw) → length (flat_map raw_octets (a ∷ b ∷ c ∷ [])) ≤ 12 + length a.value + length b.value + length c.value
three_length a b c =
    let first = length-append (raw_octets a) (raw_octets b ++ (raw_octets c ++ [])) in
    let next = length-append (raw_octets b) (raw_octets c ++ []) in
    let last = length-append (raw_octets c) [] in
    omega (arith, first, next, last, attr_length a, attr_length b, attr_length c)

numbers_length : (width : Width) (ns : List ℕ) → length (flat_map (asn_octets width) ns) ≤ 4 * length ns
numbers_length width [] = omega arith
numbers_length Two (n ∷ ns) = (let rest = numbers_length Two ns in omega (arith, rest))
numbers_length Four (n ∷ ns) = (let rest = numbers_length Four ns in omega (arith, rest))

path_length : (width : Width) (ns : List ℕ) → length (path_octets width (record { kind = AsSequence; numbers = ns } ∷ [])) ≤ 2 + 4 * length ns
path_length width ns = (let whole = length-append (flat_map (asn_octets width) ns) [] in omega (arith, whole, numbers_length width ns))

body_length : (a b c : List ℕ) → length (long_string a ++ (long_string b ++ c)) ≡ 4 + length a + length b + length c
body_length a b c =
    let first = length-append (long_string a) (long_string b ++ c) in
    let next = length-append (long_string b) c in
    omega (arith, first, next)

one_prefix : (q : PrefixView) → length (flat_map prefix_octets (q ∷ [])) ≤ 5
one_prefix q = (let whole = length-append (prefix_octets q) [] in omega (arith, whole, prefix_length q))

-- ---- a withdrawal

withdrawal_sayable : WrittenHasAHeader → (w : Width) (q : PrefixView) → IsCanonical q → IsSayable w (UpdateMsg (withdrawal q))
withdrawal_sayable header w q canonical =
    let u : Update = withdrawal q in
    let all = header w (UpdateMsg u) in
    let body = body_length (flat_map prefix_octets (q ∷ [])) (attrs_octets w u.attrs) [] in
    let one = one_prefix q in
    let attrs : AttrsFit w u.attrs = record { origin = tt; path = tt; next_hop = tt; med = tt; local_pref = tt; aggregator = tt; other = tt; rising = tt } in
    let fits : UpdateFits w u = record { withdrawn = (canonical, tt); attrs = attrs; nlri = tt; mandatory = λ some. absurd (some refl); withdrawn_size = omega (arith, one); attrs_size = omega arith } in
    (fits, omega (arith, all, body, one))

-- ---- an announcement

announcement_sayable : WrittenHasAHeader → (w : Width) (id : ℕ) (q : PrefixView) (path : List ℕ) → id < 2 ^ 32 → is_unicast id ≡ true → IsCanonical q → length path ≤ 63 → AllByRecursion (AsnFits w) path
    → 1 ≤ length path → IsSayable w (UpdateMsg (announcement id q path))
announcement_sayable header w id q path fit unicast canonical few short some =
    let u : Update = announcement id q path in
    let all = header w (UpdateMsg u) in
    let octets = path_length w path in
    let size = three_length (raw_of 64 1 (0 ∷ [])) (raw_of 64 2 (path_octets w (record { kind = AsSequence; numbers = path } ∷ []))) (raw_of 64 3 (to_be_bytes w32 id)) in
    let body = body_length [] (attrs_octets w u.attrs) (flat_map prefix_octets (q ∷ [])) in
    let one = one_prefix q in
    let attrs : AttrsFit w u.attrs = record {
      origin = omega arith;
      path = ((some, (omega (arith, few), short)), tt);
      next_hop = (fit, unicast);
      med = tt;
      local_pref = tt;
      aggregator = tt;
      other = tt;
      rising = tt;
    } in
    let within : length (attrs_octets w u.attrs) ≤ 300 = omega (arith, size, octets, few) in
    let fits : UpdateFits w u = record { withdrawn = tt; attrs = attrs; nlri = (canonical, tt); mandatory = λ there. refl; withdrawn_size = omega arith; attrs_size = omega (arith, within) } in
    (fits, omega (arith, all, body, one, within))

-- ---- what tells a path

pub tellings_sayable : WrittenHasAHeader → TellingsAreSayable
tellings_sayable header w id q [] fit unicast canonical few short = withdrawal_sayable header w q canonical
tellings_sayable header w id q (v ∷ path) fit unicast canonical few short = announcement_sayable header w id q (v ∷ path) fit unicast canonical few short (omega arith)
