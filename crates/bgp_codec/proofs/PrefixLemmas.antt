-- What is read of prefixes is spelt so, and what is spelt so is read.
use Rattle.std.proofs.Common.{◌≡◌, ℕ, zero, suc, ◌+◌, ◌-◌, ◌*◌, ◌/◌, ◌%◌, ◌^◌, ◌<◌, ◌≤◌, Bool, false, List, [], ◌∷◌, ◌++◌, length, take, drop, Ok, refl, sym, ap, subst, ◌∙◌, zero-add, arith}
use Rattle.std.specs.Prelude.{nat_lt, ◌==◌, ◌||◌, replicate}
use Rattle.std.specs.List.{flat_map, AllByRecursion}
use Rattle.std.specs.Int.{w32, to_be_bytes, from_be_bytes}
use Rattle.std.proofs.lemmas.Bool.{ltb-false, le-ltb, or_parts}
use Rattle.std.proofs.lemmas.List.{append-nil, length-append, length-drop, length-take-le, take-append-drop, take-append-le, take-take, take_at, drop_at}
use Rattle.std.proofs.lemmas.List.Concat.{flat_map-append}
use Rattle.std.proofs.lemmas.Nat.{from_be_bytes-to_be_bytes_4, pow_pos, shr-shr, shr_high, mod_below}
use Rattle.std.proofs.Math.Nat.{mul-add-div_right, mul-add-mod_self_right, pow-succ', mul_assoc}
use Rattle.prefix_lanes.specs.Bits.{PrefixView, IsCanonical, low_bits, address_bits, bits}
use Rattle.prefix_lanes.specs.Laws.{SameBitsSamePrefix, MaskedBits, MaskedIsCanonical}
use Rattle.bgp_codec.specs.Spelling.{IsOctets}
use Rattle.bgp_codec.specs.Updates.{SpellsEach, SpellsPrefix, octet_count, octet_bits, prefix_octets}
use Rattle.bgp_codec.specs.UpdateReading.{update_fault, prefix_of, prefix_at, prefixes_reading}
use Rattle.bgp_codec.specs.AsNumbers.{address_at}
use Rattle.bgp_codec.proofs.FaultData.{FaultsWithin, either_within}
use Rattle.bgp_codec.proofs.OctetLemmas.{octets_front, octets_tail, octets_left, octets_right, octets_cons, octets_each, four_octets}
use Rattle.bgp_codec.proofs.OctetLemmas.{octets_behind}
use Rattle.bgp_codec.proofs.EachLemmas.{Shortens, Takes, GivesBack, past_test, each_takes, each_again, each_written, each_faults}

-- ---- the bits of a number

-- there are as many as are asked for
length_low : (n x : ℕ) → length (low_bits n x) ≡ n
length_low zero x = refl
length_low (suc n) x = omega (arith, length_low n x)

-- the high bits of a number, then its low ones
split_low : (m r x : ℕ) → low_bits (m + r) x ≡ low_bits m (x / 2 ^ r) ++ low_bits r x
split_low zero r x = rw (zero-add r) refl
split_low (suc m) r x =
    let n : suc m + r ≡ suc (m + r) = omega arith in
    let h : x / 2 ^ r / 2 ^ m ≡ x / 2 ^ (m + r) = shr-shr x r m ∙ ap (λ k. x / 2 ^ k) (omega arith) in
    rw (n, h) (ap (λ l. (x / 2 ^ (m + r) % 2 == 1) ∷ l) (split_low m r x))

-- bits above those that are asked for have no part in them
high_aside : (n d x : ℕ) → low_bits n (d * 2 ^ n + x) ≡ low_bits n x
high_aside zero d x = refl
high_aside (suc n) d x =
    let twice : d * 2 ^ suc n ≡ d * 2 * 2 ^ n = ap (λ m. d * m) (pow-succ' 2 n) ∙ sym (mul_assoc d 2 (2 ^ n)) in
    let half : (d * 2 * 2 ^ n + x) / 2 ^ n ≡ d * 2 + x / 2 ^ n = mul-add-div_right (pow_pos n) (d * 2) x in
    let odd : (d * 2 + x / 2 ^ n) % 2 ≡ x / 2 ^ n % 2 = mul-add-mod_self_right d 2 (x / 2 ^ n) in
    rw (twice, half, odd) (ap (λ l. (x / 2 ^ n % 2 == 1) ∷ l) (high_aside n (d * 2) x))

-- an octet in front of a number
octet_first : (r b x y : ℕ) → x < 2 ^ r → y ≡ b * 2 ^ r + x → low_bits (8 + r) y ≡ low_bits 8 b ++ low_bits r x
octet_first r b x y lt e =
    split_low 8 r y ∙ ap (λ (z : ℕ). low_bits 8 (z / 2 ^ r) ++ low_bits r z) e
    ∙ ap (λ (z : ℕ). low_bits 8 z ++ low_bits r (b * 2 ^ r + x)) (shr_high b r x lt)
    ∙ ap (λ (l : List Bool). low_bits 8 b ++ l) (high_aside r b x)

-- the bits of an address are those of its four octets
address_octets : (a b c d : ℕ) → a < 256 → b < 256 → c < 256 → d < 256 → address_bits (from_be_bytes w32 (a ∷ b ∷ c ∷ d ∷ [])) ≡ octet_bits (a ∷ b ∷ c ∷ d ∷ [])
unfolding address_bits
address_octets a b c d la lb lc ld =
    let x = d in
    let y = c * 2 ^ 8 + d in
    let z = b * 2 ^ 16 + y in
    let three = octet_first 8 c d y (omega arith) refl in
    let two = octet_first 16 b y z (omega arith) refl in
    let one = octet_first 24 a z (from_be_bytes w32 (a ∷ b ∷ c ∷ d ∷ [])) (omega arith) (omega arith) in
    one ∙ ap (λ (l : List Bool). low_bits 8 a ++ l) (two ∙ ap (λ (l : List Bool). low_bits 8 b ++ l) (three ∙ ap (λ (l : List Bool). low_bits 8 c ++ l) (sym (append-nil (low_bits 8 d)))))

-- an octet has eight bits
length_octet_bits : (octets : List ℕ) → length (octet_bits octets) ≡ 8 * length octets
length_octet_bits [] = refl
length_octet_bits (x ∷ xs) = omega (arith, length-append (low_bits 8 x) (octet_bits xs), length_low 8 x, length_octet_bits xs)

-- octets behind have no part in the bits of those before them
bits_before : (len : ℕ) (octets more : List ℕ) → len ≤ 8 * length octets → take len (octet_bits (octets ++ more)) ≡ take len (octet_bits octets)
bits_before len octets more le =
    ap (take len) (flat_map-append (low_bits 8) octets more) ∙ take-append-le len (octet_bits octets) (octet_bits more) (omega (arith, length_octet_bits octets, le))

-- as many octets as the bits need hold them
holds : (len : ℕ) → len ≤ 8 * octet_count len
holds len = omega arith

-- of 32 bits at most, four at most
at_most_four : (len : ℕ) → len ≤ 32 → octet_count len ≤ 4
at_most_four len le = omega arith

-- the first bits of the address that begins with octets are theirs
address_first : (len : ℕ) (body : List ℕ) → IsOctets body → len ≤ 8 * length body → length body ≤ 4 → take len (address_bits (address_at body 0)) ≡ take len (octet_bits body)
address_first len [] are fits le = ap (take len) (address_octets 0 0 0 0 (omega arith) (omega arith) (omega arith) (omega arith)) ∙ bits_before len [] (0 ∷ 0 ∷ 0 ∷ 0 ∷ []) fits
address_first len (a ∷ []) are fits le = ap (take len) (address_octets a 0 0 0 (are 0) (omega arith) (omega arith) (omega arith)) ∙ bits_before len (a ∷ []) (0 ∷ 0 ∷ 0 ∷ []) fits
address_first len (a ∷ b ∷ []) are fits le = ap (take len) (address_octets a b 0 0 (are 0) (are 1) (omega arith) (omega arith)) ∙ bits_before len (a ∷ b ∷ []) (0 ∷ 0 ∷ []) fits
address_first len (a ∷ b ∷ c ∷ []) are fits le = ap (take len) (address_octets a b c 0 (are 0) (are 1) (are 2) (omega arith)) ∙ bits_before len (a ∷ b ∷ c ∷ []) (0 ∷ []) fits
address_first len (a ∷ b ∷ c ∷ d ∷ []) are fits le = ap (take len) (address_octets a b c d (are 0) (are 1) (are 2) (are 3))
address_first len (a ∷ b ∷ c ∷ d ∷ e ∷ rest) are fits le = absurd (omega arith)

-- an address of octets fits 32 bits
address_fits : (body : List ℕ) → IsOctets body → address_at body 0 < 2 ^ 32
address_fits body are = omega (arith, are 0, are 1, are 2, are 3)

-- it has 32 bits
length_address : (addr : ℕ) → length (address_bits addr) ≡ 32
unfolding address_bits
length_address addr = length_low 32 addr

-- ---- a prefix

-- its bits are the first of its octets
read_bits : MaskedBits → (len : ℕ) (body : List ℕ) → IsOctets body → len ≤ 32 → length body ≡ octet_count len → bits (prefix_of len body) ≡ take len (octet_bits body)
read_bits law len body are le size =
    let addr = address_at body 0 in
    let enough : len ≤ length (take len (address_bits addr)) = omega (arith, length-take-le len (address_bits addr) (omega (arith, length_address addr))) in
    ap (take len) (law addr len (address_fits body are) le)
    ∙ take-append-le len (take len (address_bits addr)) (replicate (32 - len) false) enough
    ∙ take-take len len (address_bits addr) (omega arith)
    ∙ address_first len body are (omega (arith, size, holds len)) (omega (arith, size, at_most_four len le))

-- the test of a prefix: too many bits, or their octets are not inside
abbrev pub is_bad_prefix : ℕ → List ℕ → Bool
is_bad_prefix len rest = nat_lt 32 len || nat_lt (length rest) (octet_count len)

-- a prefix that passes the test
pub record IsWithin (len : ℕ) (rest : List ℕ) : Type 0 where
  pub short : len ≤ 32
  pub size : octet_count len ≤ length rest

-- the parts of a prefix that is read
prefix_parts : (len : ℕ) (rest : List ℕ) (p : PrefixView) (more : List ℕ) → prefix_at (len ∷ rest) ≡ Ok (p, more)
    → IsWithin len rest × (prefix_of len (take (octet_count len) rest) ≡ p) × (drop (octet_count len) rest ≡ more)
prefix_parts len rest p more e =
    let q = past_test (is_bad_prefix len rest) (update_fault 10) (prefix_of len (take (octet_count len) rest), drop (octet_count len) rest) (p, more) e in
    let tests = or_parts (nat_lt 32 len) (nat_lt (length rest) (octet_count len)) q.0 in (
      record { short = ltb-false 32 len tests.0; size = ltb-false (length rest) (octet_count len) tests.1 },
      ap (λ (v : PrefixView × List ℕ). v.0) q.1,
      ap (λ (v : PrefixView × List ℕ). v.1) q.1,
    )

-- what follows a prefix is shorter
pub prefix_shortens : Shortens prefix_at
prefix_shortens [] p more e = absurd cc
prefix_shortens (len ∷ rest) p more e =
    let q = prefix_parts len rest p more e in
    omega (arith, ap length q.2, length-drop (octet_count len) rest)

-- a prefix that passes the test is spelt by its octets
prefix_spelt : MaskedBits → MaskedIsCanonical → (len : ℕ) (body : List ℕ) → len ≤ 32 → length body ≡ octet_count len → IsOctets body → SpellsPrefix (len ∷ body) (prefix_of len body)
prefix_spelt law made len body le size are =
    record { body = body; canonical = made (address_at body 0) len (address_fits body are) le; size = size; same = read_bits law len body are le size; whole = refl }

-- the octets of a prefix that is read spell it
pub prefix_takes : MaskedBits → MaskedIsCanonical → Takes IsOctets prefix_at SpellsPrefix
prefix_takes law made [] p more are e = absurd cc
prefix_takes law made (len ∷ rest) p more are e =
    let q = prefix_parts len rest p more e in
    let n = octet_count len in
    let behind : IsOctets rest = octets_tail len rest are in (
      len ∷ take n rest,
      subst (SpellsPrefix (len ∷ take n rest)) q.1 (prefix_spelt law made len (take n rest) q.0.short (length-take-le n rest q.0.size) (octets_front n rest behind)),
      subst IsOctets q.2 (octets_behind n rest behind),
      ap (λ (xs : List ℕ). len ∷ xs) (sym (take-append-drop n rest) ∙ ap (λ (xs : List ℕ). take n rest ++ xs) q.2),
    )

-- what spells a prefix reads as the prefix, since there is one prefix of these bits
prefix_read : MaskedBits → MaskedIsCanonical → SameBitsSamePrefix → (p : PrefixView) (body rest : List ℕ) → IsCanonical p → length body ≡ octet_count p.len → bits p ≡ take p.len (octet_bits body)
    → IsOctets body → prefix_at (p.len ∷ (body ++ rest)) ≡ Ok (p, rest)
prefix_read law made once p body rest canonical size same are =
    let n = octet_count p.len in
    let short : nat_lt 32 p.len ≡ false = le-ltb 32 p.len canonical.short in
    let inside : nat_lt (length (body ++ rest)) n ≡ false = le-ltb (length (body ++ rest)) n (omega (arith, size, length-append body rest)) in
    let read : prefix_of p.len body ≡ p =
    once (prefix_of p.len body) p (made (address_at body 0) p.len (address_fits body are) canonical.short) canonical
    (read_bits law p.len body are canonical.short size ∙ sym same) in
    rw (short, inside, take_at body rest n size, drop_at body rest n size, read) refl

-- a prefix that is spelt in front is read
pub prefix_again : MaskedBits → MaskedIsCanonical → SameBitsSamePrefix → GivesBack IsOctets prefix_at SpellsPrefix
prefix_again law made once front p rest are s =
    let all : IsOctets (p.len ∷ (s.body ++ rest)) = subst (λ (xs : List ℕ). IsOctets (xs ++ rest)) s.whole are in
    let behind : IsOctets (s.body ++ rest) = octets_tail p.len (s.body ++ rest) all in (
      ap (λ (xs : List ℕ). prefix_at (xs ++ rest)) s.whole ∙ prefix_read law made once p s.body rest s.canonical s.size s.same (octets_left s.body rest behind),
      octets_right s.body rest behind,
    )

-- an address is written as four octets
written_are : (addr : ℕ) → IsOctets (to_be_bytes w32 addr)
written_are addr =
    four_octets (addr / 2 ^ 24 % 256) (addr / 2 ^ 16 % 256) (addr / 2 ^ 8 % 256) (addr % 256)
    (mod_below (addr / 2 ^ 24) 256 (omega arith)) (mod_below (addr / 2 ^ 16) 256 (omega arith)) (mod_below (addr / 2 ^ 8) 256 (omega arith)) (mod_below addr 256 (omega arith))

-- the bits of an address are those of the octets that it is written as
written_bits : (addr : ℕ) → addr < 2 ^ 32 → address_bits addr ≡ octet_bits (to_be_bytes w32 addr)
written_bits addr fits =
    ap address_bits (sym (from_be_bytes-to_be_bytes_4 addr fits))
    ∙ address_octets (addr / 2 ^ 24 % 256) (addr / 2 ^ 16 % 256) (addr / 2 ^ 8 % 256) (addr % 256)
    (written_are addr 0) (written_are addr 1) (written_are addr 2) (written_are addr 3)

-- the octets that are written spell it
pub prefix_written : (p : PrefixView) → IsCanonical p → SpellsPrefix (prefix_octets p) p
prefix_written p canonical =
    let n = octet_count p.len in
    let four = to_be_bytes w32 p.addr in
    let size : length (take n four) ≡ n = length-take-le n four (at_most_four p.len canonical.short) in
    record {
      body = take n four;
      canonical = canonical;
      size = size;
      same = ap (take p.len) (written_bits p.addr canonical.fits ∙ ap octet_bits (sym (take-append-drop n four))) ∙ bits_before p.len (take n four) (drop n four) (omega (arith, size, holds p.len));
      whole = refl;
    }

-- what is written of a prefix is octets
prefix_octets_are : (p : PrefixView) → IsCanonical p → IsOctets (prefix_octets p)
prefix_octets_are p canonical =
    octets_cons p.len (take (octet_count p.len) (to_be_bytes w32 p.addr)) (omega (arith, canonical.short))
    (octets_front (octet_count p.len) (to_be_bytes w32 p.addr) (written_are p.addr))

-- its fault has no data
prefix_faults : (octets : List ℕ) → FaultsWithin 0 (prefix_at octets)
prefix_faults [] = omega arith
prefix_faults (len ∷ rest) = either_within 0 (is_bad_prefix len rest) _ _ (omega arith) tt

-- ---- prefixes

-- what is read is spelt so
pub prefixes_takes : MaskedBits → MaskedIsCanonical → (octets : List ℕ) (ps : List PrefixView) → IsOctets octets → prefixes_reading octets ≡ Ok ps → SpellsEach SpellsPrefix octets ps
prefixes_takes law made octets ps are e = each_takes IsOctets prefix_at SpellsPrefix octets ps prefix_shortens (prefix_takes law made) are e

-- what is spelt so is read
pub prefixes_again : MaskedBits → MaskedIsCanonical → SameBitsSamePrefix → (octets : List ℕ) (ps : List PrefixView) → IsOctets octets → SpellsEach SpellsPrefix octets ps → prefixes_reading octets ≡ Ok ps
prefixes_again law made once octets ps are s = each_again IsOctets prefix_at SpellsPrefix octets ps prefix_shortens (prefix_again law made once) are s

-- what is written is spelt so
pub prefixes_written : (ps : List PrefixView) → AllByRecursion IsCanonical ps → SpellsEach SpellsPrefix (flat_map prefix_octets ps) ps
prefixes_written ps all = each_written IsCanonical SpellsPrefix prefix_octets ps prefix_written all

-- it is octets
pub prefixes_octets : (ps : List PrefixView) → AllByRecursion IsCanonical ps → IsOctets (flat_map prefix_octets ps)
prefixes_octets ps all = octets_each IsCanonical prefix_octets ps prefix_octets_are all

-- and is read again
pub prefixes_written_again : MaskedBits → MaskedIsCanonical → SameBitsSamePrefix → (ps : List PrefixView) → AllByRecursion IsCanonical ps → prefixes_reading (flat_map prefix_octets ps) ≡ Ok ps
prefixes_written_again law made once ps all = prefixes_again law made once (flat_map prefix_octets ps) ps (prefixes_octets ps all) (prefixes_written ps all)

-- a fault has no data
pub prefixes_faults : (octets : List ℕ) → FaultsWithin 0 (prefixes_reading octets)
prefixes_faults octets = each_faults 0 prefix_at octets prefix_faults
