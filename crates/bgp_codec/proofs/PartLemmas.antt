-- The parts of an UPDATE, one more at a time.
use Rattle.std.proofs.Common.{◌≡◌, ℕ, zero, suc, ◌+◌, ◌-◌, ◌*◌, ◌≤◌, List, [], ◌∷◌, ◌++◌, length, take, drop, Option, Some, Result, Ok, Err, refl, sym, ap, subst, ◌∙◌, arith, length-drop}
use Rattle.std.specs.Borrow.{Bor}
use Rattle.std.specs.Int.{w32, from_be_bytes}
use Rattle.std.specs.Prelude.{slice_index, IfSome, IfErr}
use Rattle.std.proofs.lemmas.List.{length-append, length-take-le, take_all}
use Rattle.prefix_lanes.specs.Bits.{PrefixView}
use Rattle.bgp_values.specs.declared.width.Width.{Width}
use Rattle.bgp_values.specs.declared.width.Width.TheVariants.{Two, Four}
use Rattle.bgp_codec.specs.declared.fault.Fault.{Fault}
use Rattle.bgp_codec.specs.declared.fault.CodecError.{CodecError}
use Rattle.bgp_codec.specs.declared.fault.CodecError.TheVariants as errors
use Rattle.bgp_codec.specs.declared.attributes.Attrs.{Attrs}
use Rattle.bgp_codec.specs.declared.message.Message.TheVariants.{UpdateMsg}
use Rattle.bgp_codec.specs.declared.parts.UpdateParts.{UpdateParts}
use Rattle.bgp_codec.specs.declared.path.Segment.{Segment}
use Rattle.bgp_codec.specs.declared.rule.Rule.{Rule}
use Rattle.bgp_codec.specs.Faults.{read_as, reading, body_reading, fault_in, RefusesAs}
use Rattle.bgp_codec.specs.Header.{kind_field, IsFrame}
use Rattle.bgp_codec.specs.Judging.{Shows, ShowsUpdate}
use Rattle.bgp_codec.specs.AsNumbers.{asn_size, numbers_of}
use Rattle.bgp_codec.specs.Parts.{values_of, ReadsAs, path_items}
use Rattle.bgp_codec.specs.Reading.{Reader, all_in, all_of, Judged, Judges}
use Rattle.bgp_codec.specs.UpdateReading.{prefix_at, prefixes_reading, segment_at, path_reading, nlri_reading, update_reading}
use Rattle.bgp_codec.proofs.EachLemmas.{Shortens, each_none, each_step, each_fault, each_go_on, each_end, with_front, front_found, found, nothing_read}
use Rattle.bgp_codec.proofs.JudgingLemmas.{judged_as}
use Rattle.bgp_codec.proofs.PathLemmas.{segment_parts}
use Rattle.bgp_codec.proofs.ReadingLemmas.{fault_of_frame}
use Rattle.bgp_codec.proofs.PrefixLemmas.{prefix_shortens}

-- ---- the first of what octets read as

module _ {A : Type 0} where
  -- where none can be read in front there is none
  pub front_none : (read : Reader A) (octets : List ℕ) (f : Fault) (xs : List A) → read octets ≡ Err f → all_of read octets ≡ Ok xs → values_of (all_of read octets) ≡ []
  front_none read [] f xs e is = ap values_of (each_none read)
  front_none read (x ∷ rest) f xs e is = absurd (let both = sym (each_fault read x rest f e) ∙ is in cc)

  -- else it is that, and the others are what is left
  pub front_some : (read : Reader A) (octets rest : List ℕ) (value : A) (xs : List A) → Shortens read → read octets ≡ Ok (value, rest) → all_of read octets ≡ Ok xs
      → (ys : List A) × (all_of read rest ≡ Ok ys) × (value ∷ ys ≡ xs)
  front_some read octets rest value xs s e is = front_found value (all_of read rest) xs (sym (each_step read octets rest value s e) ∙ is)

  pub front_values : (read : Reader A) (octets rest : List ℕ) (value : A) (xs : List A) → Shortens read → read octets ≡ Ok (value, rest) → all_of read octets ≡ Ok xs
      → values_of (all_of read octets) ≡ value ∷ values_of (all_of read rest)
  front_values read octets rest value xs s e is =
      let more = front_some read octets rest value xs s e is in
      ap values_of is ∙ sym more.2 ∙ ap (λ (ys : List A). value ∷ ys) (sym (ap values_of more.1))

-- so many prefixes, but for the first
pub one_fewer : (octets rest : List ℕ) (value : PrefixView) (count : ℕ) → prefix_at octets ≡ Ok (value, rest) → ReadsAs octets count → (1 ≤ count) × ReadsAs rest (count - 1)
one_fewer octets rest value count e r =
    let more = front_some prefix_at octets rest value r.0 prefix_shortens e r.1 in
    let size = ap length more.2 in
    (omega (arith, size, r.2), (more.0, more.1, omega (arith, size, r.2)))

-- ---- a loop over prefixes, which counts them

-- so many prefixes were passed, and what is left is what is left to read
abbrev pub Counted : List ℕ → ℕ → List ℕ → Type 0
Counted octets count left = (front : List PrefixView) × (prefixes_reading octets ≡ with_front front (prefixes_reading left)) × (count ≡ length front) × (count + length left ≤ length octets)

pub counted_more : (octets left rest : List ℕ) (count : ℕ) (value : PrefixView) → prefix_at left ≡ Ok (value, rest) → Counted octets count left → Counted octets (count + 1) rest
counted_more octets left rest count value e c =
    let shorter = prefix_shortens left value rest e in
    (c.0 ++ value ∷ [], each_go_on prefix_at octets left rest c.0 value prefix_shortens e c.1, omega (arith, c.2, length-append c.0 (value ∷ [])), omega (arith, shorter, c.3))

pub counted_end : (octets left : List ℕ) (count : ℕ) → length left ≡ 0 → Counted octets count left → ReadsAs octets count
counted_end octets left count none c = (c.0, each_end prefix_at octets left c.0 none c.1, c.2)

-- ---- how many items a path of so many octets has at most

halves : (width : Width) (octets : List ℕ) → 2 * length (numbers_of width octets) ≤ length octets
halves Two [] = omega arith
halves Two (a ∷ []) = omega arith
halves Two (a ∷ b ∷ rest) = omega (arith, halves Two rest)
halves Four [] = omega arith
halves Four (a ∷ []) = omega arith
halves Four (a ∷ b ∷ []) = omega arith
halves Four (a ∷ b ∷ c ∷ []) = omega arith
halves Four (a ∷ b ∷ c ∷ d ∷ rest) = omega (arith, halves Four rest)

segment_items : (width : Width) (octets : List ℕ) (s : Segment) (more : List ℕ) → segment_at width octets ≡ Ok (s, more) → 2 * (1 + length s.numbers) + length more ≤ length octets
segment_items width [] s more e = absurd cc
segment_items width (code ∷ []) s more e = absurd cc
segment_items width (code ∷ count ∷ rest) s more e =
    let n = asn_size width * count in
    let p = segment_parts width code count rest s more e in
    let half = halves width (take n rest) in
    let numbers = ap (λ (t : Segment). length t.numbers) p.1 in
    omega (arith, half, numbers, length-take-le n rest p.0.size, ap length p.2, length-drop n rest, p.0.size)

items_in : (width : Width) (n : ℕ) (octets : List ℕ) (ss : List Segment) → all_in (segment_at width) n octets ≡ Ok ss → 2 * path_items ss ≤ length octets
unfolding all_in
items_in width n [] ss e = subst (λ (t : List Segment). 2 * path_items t ≤ 0) (nothing_read ss e) (omega arith)
items_in width zero (x ∷ xs) ss e = subst (λ (t : List Segment). 2 * path_items t ≤ length (x ∷ xs)) (nothing_read ss e) (omega arith)
items_in width (suc n) (x ∷ xs) ss e =
    let f = found (segment_at width (x ∷ xs)) (all_in (segment_at width) n) ss e in
    let one = segment_items width (x ∷ xs) f.0.0 f.0.1 f.2 in
    let others = items_in width n f.0.1 f.1 f.3 in
    omega (arith, one, others, ap path_items f.4)

pub items_bound : (width : Width) (octets : List ℕ) (ss : List Segment) → path_reading width octets ≡ Ok ss → 2 * path_items ss ≤ length octets
items_bound width octets ss e = items_in width (length octets) octets ss e

-- ---- the parts of a body

-- of no octet, no prefix, whether announced or not
pub none_announced : (peer : Option ℕ) (a : Attrs) (octets : List ℕ) → length octets ≡ 0 → prefixes_reading octets ≡ nlri_reading peer a octets
none_announced peer a [] e = each_none prefix_at
none_announced peer a (x ∷ xs) e = absurd (omega arith)

-- the path that is remembered is that of the attributes
pub shown_path : (width : Width) (path : Option (Bor (List ℕ))) (a : Attrs) (octets : Bor (List ℕ)) → path ≡ Some octets
    → IfSome path (λ kept. (ss : List Segment) × (path_reading width kept.now ≡ Ok ss) × (a.path ≡ Some ss)) → Some (values_of (path_reading width octets.now)) ≡ a.path
shown_path width path a octets e has =
    let read = subst (λ (p : Option (Bor (List ℕ))). IfSome p (λ kept. (ss : List Segment) × (path_reading width kept.now ≡ Ok ss) × (a.path ≡ Some ss))) e has in
    ap Some (ap values_of read.1) ∙ sym read.2

-- ---- the first number of four octets

pub four_first : (octets : List ℕ) → 4 ≤ length octets
    → numbers_of Four octets ≡ from_be_bytes w32 (slice_index octets 0 ∷ slice_index octets 1 ∷ slice_index octets 2 ∷ slice_index octets 3 ∷ []) ∷ numbers_of Four (take (length octets - 4) (drop 4 octets))
four_first [] h = absurd (omega arith)
four_first (a ∷ []) h = absurd (omega arith)
four_first (a ∷ b ∷ []) h = absurd (omega arith)
four_first (a ∷ b ∷ c ∷ []) h = absurd (omega arith)
four_first (a ∷ b ∷ c ∷ d ∷ rest) h =
    let count : length (a ∷ b ∷ c ∷ d ∷ rest) - 4 ≡ length rest = omega arith in
    let all : take (length rest) rest ≡ rest = take_all (length rest) rest (omega arith) in
    rw (count, all) refl

-- ---- a frame

-- what is judged of a body holds of what the frame reads as
pub update_judged : (rule : Rule) (frame : List ℕ) (result : Result UpdateParts CodecError) → kind_field frame ≡ 2 → Judges Shows result (update_reading rule (drop 19 frame)) → Judges ShowsUpdate result (reading rule frame)
unfolding reading
update_judged rule frame (Ok parts) kind j =
    let is : reading rule frame ≡ read_as UpdateMsg (update_reading rule (drop 19 frame)) = ap (λ (k : ℕ). body_reading rule k (drop 19 frame)) kind in
    (UpdateMsg j.0, is ∙ ap (read_as UpdateMsg) j.1, (j.0, refl, j.2))
update_judged rule frame (Err e) kind j =
    let is : reading rule frame ≡ read_as UpdateMsg (update_reading rule (drop 19 frame)) = ap (λ (k : ℕ). body_reading rule k (drop 19 frame)) kind in
    subst (Judged e) (sym is) (judged_as UpdateMsg e (update_reading rule (drop 19 frame)) j)

-- a fault that is judged is that of the frame
pub refused_as : (rule : Rule) (frame : List ℕ) (result : Result UpdateParts CodecError) → IsFrame frame → Judges ShowsUpdate result (reading rule frame) → IfErr result (RefusesAs rule frame)
refused_as rule frame (Ok parts) is j = tt
refused_as rule frame (Err errors.Memory) is j = tt
refused_as rule frame (Err (errors.Fault first)) is j = fault_of_frame rule frame is ∙ ap fault_in j
refused_as rule frame (Err errors.TooLong) is j = j
