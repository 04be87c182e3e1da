-- What is read of a path is spelt so, and what is spelt so is read.
use Rattle.std.proofs.Common.{◌≡◌, ℕ, zero, suc, ◌*◌, ◌<◌, ◌≤◌, Bool, true, false, cond, List, [], ◌∷◌, ◌++◌, length, take, drop, Ok, refl, sym, ap, subst, ◌∙◌, ne_eqb, arith}
use Rattle.std.specs.Prelude.{nat_lt, ◌==◌, ◌||◌, not}
use Rattle.std.specs.List.{flat_map, AllByRecursion}
use Rattle.std.specs.Int.{w16, w32, to_be_bytes, from_be_bytes}
use Rattle.std.proofs.lemmas.Bool.{eqb-true, ltb-false, le-ltb, or_parts}
use Rattle.std.proofs.lemmas.List.{length-append, length-drop, length-take-le, take-append-drop, take_at, drop_at}
use Rattle.std.proofs.lemmas.Nat.{be_bytes_2, be_bytes_4, from_be_bytes-to_be_bytes_2, from_be_bytes-to_be_bytes_4}
use Rattle.bgp_values.specs.declared.width.Width.{Width}
use Rattle.bgp_values.specs.declared.width.Width.TheVariants.{Two, Four}
use Rattle.bgp_codec.specs.declared.path.Segment.{Segment}
use Rattle.bgp_codec.specs.declared.path.SegmentKind.{SegmentKind}
use Rattle.bgp_codec.specs.declared.path.SegmentKind.TheVariants.{AsSet, AsSequence}
use Rattle.bgp_codec.specs.Spelling.{IsOctets}
use Rattle.bgp_codec.specs.Updates.{segment_code, segment_octets, path_octets, SegmentFits}
use Rattle.bgp_codec.specs.UpdateReading.{update_fault, segment_of, segment_at, path_reading}
use Rattle.bgp_codec.specs.AsNumbers.{asn_size, asn_octets, AsnFits, AreNumbers, numbers_of}
use Rattle.bgp_codec.proofs.FaultData.{FaultsWithin, either_within}
use Rattle.bgp_codec.proofs.OctetLemmas.{octets_front, octets_tail, two_octets, four_octets}
use Rattle.bgp_codec.proofs.OctetLemmas.{octets_behind}
use Rattle.bgp_codec.proofs.EachLemmas.{Shortens, Takes, GivesBack, past_test, each_takes, each_again, each_written, each_whole, each_faults}

-- ---- the test of a segment

-- the type is none of the two, there is no number, or they are not inside
abbrev pub is_bad_segment : (width : Width) → ℕ → ℕ → List ℕ → Bool
is_bad_segment width code count rest = not ((code == 1) || (code == 2)) || ((count == 0) || nat_lt (length rest) (asn_size width * count))

-- a segment that passes the test
pub record IsInside (width : Width) (code : ℕ) (count : ℕ) (rest : List ℕ) : Type 0 where
  pub kind : segment_code (cond (code == 1) AsSet AsSequence) ≡ code
  pub some : 1 ≤ count
  pub size : asn_size width * count ≤ length rest

-- what is not false is true
not_not : (a : Bool) → not a ≡ false → a ≡ true
not_not true e = refl
not_not false e = absurd cc

-- the type of a kind that was made from a type is that type
kind_back : (code : ℕ) (b : Bool) → (code == 1) ≡ b → (b || (code == 2)) ≡ true → segment_code (cond b AsSet AsSequence) ≡ code
kind_back code true is any = sym (eqb-true code 1 is)
kind_back code false is any = sym (eqb-true code 2 any)

-- a number that is not zero is at least one
some_of : (n : ℕ) → (n == 0) ≡ false → 1 ≤ n
some_of zero e = absurd cc
some_of (suc n) e = omega arith

-- a segment that is not bad passes the test
is_inside : (width : Width) (code count : ℕ) (rest : List ℕ) → is_bad_segment width code count rest ≡ false → IsInside width code count rest
is_inside width code count rest e =
    let a = or_parts (not ((code == 1) || (code == 2))) ((count == 0) || nat_lt (length rest) (asn_size width * count)) e in
    let b = or_parts (count == 0) (nat_lt (length rest) (asn_size width * count)) a.1 in
    record {
      kind = kind_back code (code == 1) refl (not_not ((code == 1) || (code == 2)) a.0);
      some = some_of count b.0;
      size = ltb-false (length rest) (asn_size width * count) b.1;
    }

-- the parts of a segment that is read
pub segment_parts : (width : Width) (code count : ℕ) (rest : List ℕ) (s : Segment) (more : List ℕ) → segment_at width (code ∷ count ∷ rest) ≡ Ok (s, more)
    → IsInside width code count rest × (segment_of width code (take (asn_size width * count) rest) ≡ s) × (drop (asn_size width * count) rest ≡ more)
segment_parts width code count rest s more e =
    let p = past_test (is_bad_segment width code count rest) (update_fault 11) (segment_of width code (take (asn_size width * count) rest), drop (asn_size width * count) rest) (s, more) e in (
      is_inside width code count rest p.0,
      ap (λ (v : Segment × List ℕ). v.0) p.1,
      ap (λ (v : Segment × List ℕ). v.1) p.1,
    )

-- what follows a segment is shorter
pub segment_shortens : (width : Width) → Shortens (segment_at width)
segment_shortens width [] s more e = absurd cc
segment_shortens width (code ∷ []) s more e = absurd cc
segment_shortens width (code ∷ count ∷ rest) s more e =
    let p = segment_parts width code count rest s more e in
    omega (arith, ap length p.2, length-drop (asn_size width * count) rest)

-- ---- numbers of two octets each, or of four

-- octets are those of their number
one_of_two : (a b : ℕ) → a < 256 → b < 256 → to_be_bytes w16 (from_be_bytes w16 (a ∷ b ∷ [])) ≡ a ∷ b ∷ []
one_of_two a b x y = be_bytes_2 (a ∷ b ∷ []) (from_be_bytes w16 (a ∷ b ∷ [])) refl (two_octets a b x y) refl

one_of_four : (a b c d : ℕ) → a < 256 → b < 256 → c < 256 → d < 256 → to_be_bytes w32 (from_be_bytes w32 (a ∷ b ∷ c ∷ d ∷ [])) ≡ a ∷ b ∷ c ∷ d ∷ []
one_of_four a b c d x y z t = be_bytes_4 (a ∷ b ∷ c ∷ d ∷ []) (from_be_bytes w32 (a ∷ b ∷ c ∷ d ∷ [])) refl (four_octets a b c d x y z t) refl

-- octets, twice as many as the numbers, are those numbers
are_of_two : (count : ℕ) (octets : List ℕ) → length octets ≡ 2 * count → IsOctets octets → AreNumbers Two count octets
are_of_two zero [] n are = record { size = refl; whole = refl; small = tt }
are_of_two (suc count) [] n are = absurd (omega arith)
are_of_two count (a ∷ []) n are = absurd (omega arith)
are_of_two zero (a ∷ b ∷ rest) n are = absurd (omega arith)
are_of_two (suc count) (a ∷ b ∷ rest) n are =
    let more = are_of_two count rest (omega arith) (octets_tail b rest (octets_tail a (b ∷ rest) are)) in
    record {
      size = omega (arith, more.size);
      whole = ap (λ (xs : List ℕ). xs ++ flat_map (asn_octets Two) (numbers_of Two rest)) (one_of_two a b (are 0) (are 1)) ∙ ap (λ (xs : List ℕ). a ∷ b ∷ xs) more.whole;
      small = (omega (arith, are 0, are 1), more.small);
    }

-- four times as many
are_of_four : (count : ℕ) (octets : List ℕ) → length octets ≡ 4 * count → IsOctets octets → AreNumbers Four count octets
are_of_four zero [] n are = record { size = refl; whole = refl; small = tt }
are_of_four (suc count) [] n are = absurd (omega arith)
are_of_four count (a ∷ []) n are = absurd (omega arith)
are_of_four count (a ∷ b ∷ []) n are = absurd (omega arith)
are_of_four count (a ∷ b ∷ c ∷ []) n are = absurd (omega arith)
are_of_four zero (a ∷ b ∷ c ∷ d ∷ rest) n are = absurd (omega arith)
are_of_four (suc count) (a ∷ b ∷ c ∷ d ∷ rest) n are =
    let more = are_of_four count rest (omega arith) (octets_tail d rest (octets_tail c (d ∷ rest) (octets_tail b (c ∷ d ∷ rest) (octets_tail a (b ∷ c ∷ d ∷ rest) are)))) in
    record {
      size = omega (arith, more.size);
      whole = ap (λ (xs : List ℕ). xs ++ flat_map (asn_octets Four) (numbers_of Four rest)) (one_of_four a b c d (are 0) (are 1) (are 2) (are 3)) ∙ ap (λ (xs : List ℕ). a ∷ b ∷ c ∷ d ∷ xs) more.whole;
      small = (omega (arith, are 0, are 1, are 2, are 3), more.small);
    }

pub numbers_are : (width : Width) (count : ℕ) (octets : List ℕ) → length octets ≡ asn_size width * count → IsOctets octets → AreNumbers width count octets
numbers_are Two count octets n are = are_of_two count octets n are
numbers_are Four count octets n are = are_of_four count octets n are

-- a number is read as it was written, and the others behind it
pub numbers_again : (width : Width) (ns : List ℕ) → AllByRecursion (AsnFits width) ns → numbers_of width (flat_map (asn_octets width) ns) ≡ ns
numbers_again Two [] all = refl
numbers_again Two (n ∷ ns) all =
    ap (λ (m : ℕ). m ∷ numbers_of Two (flat_map (asn_octets Two) ns)) (from_be_bytes-to_be_bytes_2 n (omega (arith, all.0))) ∙ ap (λ (ms : List ℕ). n ∷ ms) (numbers_again Two ns all.1)
numbers_again Four [] all = refl
numbers_again Four (n ∷ ns) all =
    ap (λ (m : ℕ). m ∷ numbers_of Four (flat_map (asn_octets Four) ns)) (from_be_bytes-to_be_bytes_4 n (omega (arith, all.0))) ∙ ap (λ (ms : List ℕ). n ∷ ms) (numbers_again Four ns all.1)

-- they are so many octets each
pub length_numbers : (width : Width) (ns : List ℕ) → length (flat_map (asn_octets width) ns) ≡ asn_size width * length ns
length_numbers Two [] = refl
length_numbers Two (n ∷ ns) = omega (arith, length_numbers Two ns)
length_numbers Four [] = refl
length_numbers Four (n ∷ ns) = omega (arith, length_numbers Four ns)

-- one of some is inside
pub one_inside : (width : Width) (count : ℕ) → 1 ≤ count → asn_size width ≤ asn_size width * count
one_inside Two count some = omega (arith, some)
one_inside Four count some = omega (arith, some)

-- numbers of a count that has one octet
pub few_octets : (width : Width) (count : ℕ) → count < 256 → asn_size width * count ≤ 1020
few_octets Two count small = omega (arith, small)
few_octets Four count small = omega (arith, small)

-- ---- a segment

-- its one spelling
abbrev pub SpellsSegment : (width : Width) → List ℕ → Segment → Type 0
SpellsSegment width octets s = (octets ≡ segment_octets width s) × SegmentFits width s

-- a segment that passes the test is spelt by its octets
segment_spelt : (width : Width) (code count : ℕ) (rest : List ℕ) → IsInside width code count rest → count < 256 → IsOctets rest
    → SpellsSegment width (code ∷ count ∷ take (asn_size width * count) rest) (segment_of width code (take (asn_size width * count) rest))
segment_spelt width code count rest inside small are =
    let body = take (asn_size width * count) rest in
    let numbers = numbers_are width count body (length-take-le (asn_size width * count) rest inside.size) (octets_front (asn_size width * count) rest are) in (
      rw (inside.kind, numbers.size, numbers.whole) refl,
      (omega (arith, numbers.size, inside.some), (omega (arith, numbers.size, small), numbers.small)),
    )

-- the octets of a segment that is read spell it
pub segment_takes : (width : Width) → Takes IsOctets (segment_at width) (SpellsSegment width)
segment_takes width [] s more are e = absurd cc
segment_takes width (code ∷ []) s more are e = absurd cc
segment_takes width (code ∷ count ∷ rest) s more are e =
    let p = segment_parts width code count rest s more e in
    let behind : IsOctets rest = octets_tail count rest (octets_tail code (count ∷ rest) are) in (
      code ∷ count ∷ take (asn_size width * count) rest,
      subst (SpellsSegment width (code ∷ count ∷ take (asn_size width * count) rest)) p.1 (segment_spelt width code count rest p.0 (are 1) behind),
      subst IsOctets p.2 (octets_behind (asn_size width * count) rest behind),
      ap (λ (xs : List ℕ). code ∷ count ∷ xs) (sym (take-append-drop (asn_size width * count) rest) ∙ ap (λ (xs : List ℕ). take (asn_size width * count) rest ++ xs) p.2),
    )

-- a type is one of the two
kind_known : (kind : SegmentKind) → not ((segment_code kind == 1) || (segment_code kind == 2)) ≡ false
kind_known AsSet = refl
kind_known AsSequence = refl

-- and gives its kind
kind_again : (kind : SegmentKind) → cond (segment_code kind == 1) AsSet AsSequence ≡ kind
kind_again AsSet = refl
kind_again AsSequence = refl

-- at least one is not zero
some_numbers : (n : ℕ) → 1 ≤ n → (n == 0) ≡ false
some_numbers n some = ne_eqb n 0 (omega arith)

-- what is written of a segment reads as the segment
segment_read : (width : Width) (s : Segment) (body rest : List ℕ) → SegmentFits width s → body ≡ flat_map (asn_octets width) s.numbers → segment_at width (segment_code s.kind ∷ length s.numbers ∷ (body ++ rest)) ≡ Ok (s, rest)
segment_read width s body rest fits e =
    let n = asn_size width * length s.numbers in
    let size : length body ≡ n = ap length e ∙ length_numbers width s.numbers in
    let inside : nat_lt (length (body ++ rest)) n ≡ false = le-ltb (length (body ++ rest)) n (omega (arith, size, length-append body rest)) in
    let numbers : numbers_of width body ≡ s.numbers = ap (numbers_of width) e ∙ numbers_again width s.numbers fits.1.1 in
    rw (kind_known s.kind, some_numbers (length s.numbers) fits.0, inside, take_at body rest n size, drop_at body rest n size, kind_again s.kind, numbers) refl

-- a segment that is spelt in front is read
pub segment_again : (width : Width) → GivesBack (λ octets. Unit {0}) (segment_at width) (SpellsSegment width)
segment_again width front s rest are p =
    (ap (λ (xs : List ℕ). segment_at width (xs ++ rest)) p.0 ∙ segment_read width s (flat_map (asn_octets width) s.numbers) rest p.1 refl, tt)

-- its fault has no data
segment_faults : (width : Width) (octets : List ℕ) → FaultsWithin 0 (segment_at width octets)
segment_faults width [] = omega arith
segment_faults width (code ∷ []) = omega arith
segment_faults width (code ∷ count ∷ rest) = either_within 0 (is_bad_segment width code count rest) _ _ (omega arith) tt

-- ---- a path

-- what is read is spelt so
pub path_takes : (width : Width) (value : List ℕ) (p : List Segment) → IsOctets value → path_reading width value ≡ Ok p → (value ≡ path_octets width p) × AllByRecursion (SegmentFits width) p
path_takes width value p are e =
    each_whole (SegmentFits width) (SpellsSegment width) (segment_octets width) value p (λ front s spelt. spelt) (each_takes IsOctets (segment_at width) (SpellsSegment width) value p (segment_shortens width) (segment_takes width) are e)

-- what is spelt so is read
pub path_again : (width : Width) (p : List Segment) → AllByRecursion (SegmentFits width) p → path_reading width (path_octets width p) ≡ Ok p
path_again width p fit =
    each_again (λ octets. Unit {0}) (segment_at width) (SpellsSegment width) (path_octets width p) p (segment_shortens width) (segment_again width) tt
    (each_written (SegmentFits width) (SpellsSegment width) (segment_octets width) p (λ s fits. (refl, fits)) fit)

-- a fault has no data
pub path_faults : (width : Width) (octets : List ℕ) → FaultsWithin 0 (path_reading width octets)
path_faults width octets = each_faults 0 (segment_at width) octets (segment_faults width)
