-- The bits of a prefix, and of two prefixes of which one covers the other.
use Rattle.std.proofs.Common.{◌≡◌, ℕ, ◌+◌, ◌-◌, ◌*◌, ◌/◌, ◌%◌, ◌^◌, ◌<◌, ◌≤◌, false, ◌++◌, length, take, sym, ap, subst, ◌∙◌, arith, length-append, Bool}
use Rattle.std.specs.Prelude.{replicate, IsTrue, nat_le, ◌↔◌}
use Rattle.std.proofs.lemmas.Bool.{leb-true, le-leb}
use Rattle.std.proofs.lemmas.Nat.{shl-shr, shr-shr, shr_below, shl_below, shr_split}
use Rattle.std.proofs.Math.Nat.{mul-mod_left}
use Rattle.std.proofs.Math.Seq.{take-append_seam}
use Rattle.prefix_lanes.specs.Bits.{PrefixView, IsCanonical, low_bits, address_bits, bits, masked, Covers}
use Rattle.prefix_lanes.specs.Laws.{HasItsLength, SameBitsSamePrefix, EachListIsAPrefix, MaskedBits}
use Rattle.prefix_lanes.proofs.BitLists.{length_low, split_low, first_low, high_aside, low_of_zero, number, number_fits, low_of_number, same_number}

-- the first bits of an address are those of the number before its other bits
pub first_bits : (addr len : ℕ) → len ≤ 32 → take len (address_bits addr) ≡ low_bits len (addr / 2 ^ (32 - len))
unfolding address_bits
first_bits addr len l =
    let n : 32 ≡ len + (32 - len) = omega arith in
    ap (λ k. take len (low_bits k addr)) n ∙ first_low len (32 - len) addr

leading_fits : (addr len : ℕ) → addr < 2 ^ 32 → len ≤ 32 → addr / 2 ^ (32 - len) < 2 ^ len
leading_fits addr len f l = let n : 32 ≡ len + (32 - len) = omega arith in
    shr_below addr len (32 - len) (subst (λ k. addr < 2 ^ k) n f)

pub has_its_length : HasItsLength
has_its_length p c =
    let e : length (bits p) ≡ p.len = rw (first_bits p.addr p.len c.short) (length_low p.len (p.addr / 2 ^ (32 - p.len))) in
    (e, omega (arith, e, c.short))

-- an address is its first bits where the others are zero
same_address : (a b r : ℕ) → a / 2 ^ r ≡ b / 2 ^ r → a % 2 ^ r ≡ 0 → b % 2 ^ r ≡ 0 → a ≡ b
same_address a b r e c d = omega (arith, shr_split a r, shr_split b r, c, d, ap (λ k. k * 2 ^ r) e)

pub same_prefix : SameBitsSamePrefix
same_prefix p q c d e =
    let len : p.len ≡ q.len = sym (has_its_length p c).0 ∙ ap length e ∙ (has_its_length q d).0 in
    let r = 32 - p.len in
    let low : low_bits p.len (p.addr / 2 ^ r) ≡ low_bits p.len (q.addr / 2 ^ r) =
    sym (first_bits p.addr p.len c.short) ∙ e ∙ ap (λ k. take k (address_bits q.addr)) (sym len) ∙ first_bits q.addr p.len c.short in
    let high : p.addr / 2 ^ r ≡ q.addr / 2 ^ r = same_number p.len (p.addr / 2 ^ r) (q.addr / 2 ^ r) (leading_fits p.addr p.len c.fits c.short) (leading_fits q.addr p.len d.fits c.short) low in
    let addr : p.addr ≡ q.addr = same_address p.addr q.addr r high c.clear (subst (λ k. q.addr % 2 ^ (32 - k) ≡ 0) (sym len) d.clear) in
    ap (λ a. record { addr = a; len = p.len }) addr ∙ ap (λ l. record { addr = q.addr; len = l }) len

pub each_list : EachListIsAPrefix
each_list list l =
    let n = length list in
    let r = 32 - n in
    let all : n + r ≡ 32 = omega (arith, l) in (
      record { addr = number list * 2 ^ r; len = n },
      record {
        fits = subst (λ k. number list * 2 ^ r < 2 ^ k) all (shl_below (number list) n r (number_fits list));
        short = l;
        clear = mul-mod_left (number list) (2 ^ r);
      },
      first_bits (number list * 2 ^ r) n l ∙ ap (λ k. low_bits n k) (shl-shr (number list) r) ∙ low_of_number list,
    )

pub masked_first : (addr len : ℕ) → len ≤ 32 → take len (address_bits (masked addr len)) ≡ take len (address_bits addr)
masked_first addr len l = first_bits (masked addr len) len l ∙ ap (λ k. low_bits len k) (shl-shr (addr / 2 ^ (32 - len)) (32 - len)) ∙ sym (first_bits addr len l)

pub masked_bits : MaskedBits
unfolding address_bits
masked_bits addr len f l =
    let r = 32 - len in
    let high = addr / 2 ^ r in
    let n : 32 ≡ len + r = omega arith in
    let none : high * 2 ^ r ≡ high * 2 ^ r + 0 = omega arith in
    ap (λ k. low_bits k (high * 2 ^ r)) n ∙ split_low len r (high * 2 ^ r)
    ∙ ap (λ k. low_bits len k ++ low_bits r (high * 2 ^ r)) (shl-shr high r)
    ∙ ap (λ k. low_bits len high ++ k) (ap (λ k. low_bits r k) none ∙ high_aside r high 0 ∙ low_of_zero r)
    ∙ ap (λ k. k ++ replicate r false) (sym (first_bits addr len l))

-- the bits of the longer prefix, cut at the length of the shorter one
bits_split : (q : PrefixView) (m : ℕ) → q.len ≤ 32 → m ≤ q.len → bits q ≡ low_bits m (q.addr / 2 ^ (32 - m)) ++ low_bits (q.len - m) (q.addr / 2 ^ (32 - q.len))
bits_split q m s l =
    let i = q.len - m in
    let x = q.addr / 2 ^ (32 - q.len) in
    let n : q.len ≡ m + i = omega (arith, l) in
    let e : x / 2 ^ i ≡ q.addr / 2 ^ (32 - m) = shr-shr q.addr (32 - q.len) i ∙ ap (λ k. q.addr / 2 ^ k) (omega (arith, s, l)) in
    first_bits q.addr q.len s ∙ ap (λ k. low_bits k x) n ∙ split_low m i x ∙ ap (λ k. low_bits m k ++ low_bits i x) e

pub covers_from : (p q : PrefixView) → IsCanonical p → IsCanonical q → p.len ≤ q.len → p.addr / 2 ^ (32 - p.len) ≡ q.addr / 2 ^ (32 - p.len) → Covers p q
covers_from p q c d l e =
    let rest = low_bits (q.len - p.len) (q.addr / 2 ^ (32 - q.len)) in
    (rest, ap (λ k. k ++ rest) (first_bits p.addr p.len c.short ∙ ap (λ k. low_bits p.len k) e) ∙ sym (bits_split q p.len d.short l))

pub covers_length : (p q : PrefixView) → IsCanonical p → IsCanonical q → Covers p q → p.len ≤ q.len
covers_length p q c d h = omega (arith, (has_its_length p c).0, (has_its_length q d).0, ap length h.1, length-append (bits p) h.0)

pub covers_to : (p q : PrefixView) → IsCanonical p → IsCanonical q → Covers p q → p.addr / 2 ^ (32 - p.len) ≡ q.addr / 2 ^ (32 - p.len)
covers_to p q c d h =
    let m = p.len in
    let l = covers_length p q c d h in
    let a = p.addr / 2 ^ (32 - m) in
    let b = q.addr / 2 ^ (32 - m) in
    let rest = low_bits (q.len - m) (q.addr / 2 ^ (32 - q.len)) in
    let whole : low_bits m a ++ h.0 ≡ low_bits m b ++ rest = ap (λ k. k ++ h.0) (sym (first_bits p.addr m c.short)) ∙ h.1 ∙ bits_split q m d.short l in
    let front : low_bits m a ≡ low_bits m b =
    sym (take-append_seam (low_bits m a) h.0) ∙ ap (λ k. take k (low_bits m a ++ h.0)) (length_low m a ∙ sym (length_low m b))
    ∙ ap (λ k. take (length (low_bits m b)) k) whole ∙ take-append_seam (low_bits m b) rest in
    same_number m a b (leading_fits p.addr m c.fits c.short) (leading_fits q.addr m d.fits c.short) front

-- the test of the first bits, where the first prefix is no longer, and the test of the lengths
pub covers_test : (p q : PrefixView) (alike : Bool) → IsCanonical p → IsCanonical q → p.len ≤ q.len → IsTrue alike ↔ (p.addr / 2 ^ (32 - p.len) ≡ q.addr / 2 ^ (32 - p.len)) → IsTrue alike ↔ Covers p q
covers_test p q alike c d l e = ((λ t. covers_from p q c d l (e.0 t)), (λ h. e.1 (covers_to p q c d h)))

pub longer_test : (p q : PrefixView) → IsCanonical p → IsCanonical q → q.len < p.len → IsTrue (nat_le p.len q.len) ↔ Covers p q
longer_test p q c d l = (
  (λ t. absurd (omega (arith, l, leb-true p.len q.len t))),
  (λ h. le-leb p.len q.len (covers_length p q c d h)),
)
