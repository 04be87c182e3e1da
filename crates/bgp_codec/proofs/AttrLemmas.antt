-- One attribute: its octets, its three high flags, its code and its value.
use Rattle.std.proofs.Common.{◌≡◌, ℕ, zero, suc, ◌+◌, ◌/◌, ◌%◌, ◌^◌, ◌<◌, ◌≤◌, Bool, true, false, cond, List, [], ◌∷◌, ◌++◌, length, take, drop, Ok, refl, sym, ap, subst, ◌∙◌, eq-eqb, arith}
use Rattle.std.specs.Prelude.{nat_lt, nat_le, ◌==◌, slice_index}
use Rattle.std.specs.Int.{w16, to_be_bytes}
use Rattle.std.proofs.lemmas.Bool.{eqb-true, ne_eqb, le-ltb, leb-false}
use Rattle.std.proofs.lemmas.List.{length-append, take_at, drop_at, length-take-le, take-take, take-append-drop, length-drop, get_or-take}
use Rattle.std.proofs.lemmas.Nat.{be_bytes_2, from_be_bytes-to_be_bytes_2}
use Rattle.bgp_codec.specs.declared.attributes.Raw.{Raw}
use Rattle.bgp_codec.specs.Spelling.{IsOctets}
use Rattle.bgp_codec.specs.AttrTable.{high_flags}
use Rattle.bgp_codec.specs.Updates.{raw_of, attr_octets, raw_octets, size_limit, SpellsAttr}
use Rattle.bgp_codec.specs.UpdateReading.{is_extended, head_size, value_size, attr_at}
use Rattle.bgp_codec.specs.AsNumbers.{number_at}
use Rattle.bgp_codec.proofs.AttrSteps.{HasAttr, has_attr, head_is}

-- ---- the octet of flags

-- a remainder that the test does not find to be one
not_one : (n : ℕ) → n % 2 ≡ 1 → (n % 2 == 1) ≡ false → ⊥
not_one n e f = let t = eq-eqb (n % 2) 1 e in absurd (let both = sym f ∙ t in cc)

-- Extended Length, the three above it, the four below it
pub flags_extended : (f : ℕ) → is_extended f ≡ true → f ≡ high_flags f + 16 + f % 16
flags_extended f e = let odd = eqb-true (f / 16 % 2) 1 e in omega (arith, odd)

-- where it is not set
pub flags_plain : (f : ℕ) → is_extended f ≡ false → f ≡ high_flags f + f % 16
flags_plain f e = let even = not_one (f / 16) in let ne : f / 16 % 2 ≡ 1 → ⊥ = (λ o. even o e) in grind (arith, ne)

-- the four lower flags are below 16
pub low_flags : (f : ℕ) → f % 16 < 16
low_flags f = omega arith

-- an octet that is put together shows whether Extended Length is in it
pub extended_again : (f low : ℕ) → high_flags f ≡ f → low < 16 → is_extended (f + 16 + low) ≡ true
extended_again f low h small = eq-eqb ((f + 16 + low) / 16 % 2) 1 (omega arith)

pub plain_again : (f low : ℕ) → high_flags f ≡ f → low < 16 → is_extended (f + low) ≡ false
plain_again f low h small = ne_eqb ((f + low) / 16 % 2) 1 (omega arith)

-- and its three high flags
pub high_of_extended : (f low : ℕ) → high_flags f ≡ f → low < 16 → high_flags (f + 16 + low) ≡ f
high_of_extended f low h small = omega arith

pub high_of_plain : (f low : ℕ) → high_flags f ≡ f → low < 16 → high_flags (f + low) ≡ f
high_of_plain f low h small = omega arith

-- ---- what is read of an attribute is spelt so

-- the octets before a short value, and before a long one
first_three : (octets : List ℕ) → 3 ≤ length octets → take 3 octets ≡ slice_index octets 0 ∷ slice_index octets 1 ∷ slice_index octets 2 ∷ []
first_three (a ∷ b ∷ c ∷ rest) le = refl
first_three [] le = absurd (omega arith)
first_three (a ∷ []) le = absurd (omega arith)
first_three (a ∷ b ∷ []) le = absurd (omega arith)

first_four : (octets : List ℕ) → 4 ≤ length octets → take 4 octets ≡ slice_index octets 0 ∷ slice_index octets 1 ∷ slice_index octets 2 ∷ slice_index octets 3 ∷ []
first_four (a ∷ b ∷ c ∷ d ∷ rest) le = refl
first_four [] le = absurd (omega arith)
first_four (a ∷ []) le = absurd (omega arith)
first_four (a ∷ b ∷ []) le = absurd (omega arith)
first_four (a ∷ b ∷ c ∷ []) le = absurd (omega arith)

-- two octets are octets
two_octets : (a b : ℕ) → a < 256 → b < 256 → IsOctets (a ∷ b ∷ [])
two_octets a b x y zero = x
two_octets a b x y (suc zero) = y
two_octets a b x y (suc (suc i)) = omega arith

-- what stands before the value, and the value
attr_parts : (octets attr value rest : List ℕ) (h : ℕ) → head_size octets ≡ h → HasAttr octets attr value rest → attr ≡ take h octets ++ value
attr_parts octets attr value rest h e has =
    let size = head_size octets + value_size octets in
    let front : take (head_size octets) (take size octets) ≡ take (head_size octets) octets = take-take (head_size octets) size octets (omega arith) in
    let whole : take (head_size octets) octets ++ value ≡ attr =
    ap (λ (ys : List ℕ). ys ++ value) (sym front) ∙ ap (λ (ys : List ℕ). take (head_size octets) (take size octets) ++ ys) (sym has.value_is)
    ∙ take-append-drop (head_size octets) (take size octets) ∙ has.attr_is in
    sym whole ∙ ap (λ (k : ℕ). take k octets ++ value) e

-- the value is as long as its length says
value_length : (octets attr value rest : List ℕ) → HasAttr octets attr value rest → length value ≡ value_size octets
value_length octets attr value rest has =
    let size = head_size octets + value_size octets in
    omega (arith, ap length has.value_is, length-drop (head_size octets) (take size octets), length-take-le size octets has.inside)

-- the attribute begins as the octets do
attr_begins : (octets attr value rest : List ℕ) (i : ℕ) → i < 3 → HasAttr octets attr value rest → slice_index attr i ≡ slice_index octets i
attr_begins octets attr value rest i lt has =
    let size = head_size octets + value_size octets in
    let three : 3 ≤ head_size octets = head_is (is_extended (slice_index octets 0)) in
    ap (λ (ys : List ℕ). slice_index ys i) (sym has.attr_is) ∙ get_or-take size octets i 0 (omega (arith, three))

-- the octets of an attribute are its spelling, with a length of two octets and of one
extended_whole : (f c x y low : ℕ) (flags : ℕ) (attr value : List ℕ) → attr ≡ f ∷ c ∷ x ∷ y ∷ value → f ≡ flags + 16 + low → to_be_bytes w16 (length value) ≡ x ∷ y ∷ []
    → attr ≡ attr_octets true low (raw_of flags c value)
extended_whole f c x y low flags attr value e ef es = e ∙ ap (λ (k : ℕ). k ∷ c ∷ x ∷ y ∷ value) ef ∙ ap (λ (ys : List ℕ). (flags + 16 + low) ∷ c ∷ (ys ++ value)) (sym es)

plain_whole : (f c x low : ℕ) (flags : ℕ) (attr value : List ℕ) → attr ≡ f ∷ c ∷ x ∷ value → f ≡ flags + low → length value ≡ x → attr ≡ attr_octets false low (raw_of flags c value)
plain_whole f c x low flags attr value e ef es = e ∙ ap (λ (k : ℕ). k ∷ c ∷ x ∷ value) ef ∙ ap (λ (k : ℕ). (flags + low) ∷ c ∷ k ∷ value) (sym es)

-- an attribute that is read is spelt so, with and without Extended Length
spells_by : (octets attr value rest : List ℕ) (b : Bool) → is_extended (slice_index octets 0) ≡ b → IsOctets octets → HasAttr octets attr value rest
    → SpellsAttr attr (raw_of (high_flags (slice_index octets 0)) (slice_index octets 1) value)
spells_by octets attr value rest true e are has =
    let f = slice_index octets 0 in
    let h : head_size octets ≡ 4 = ap (λ (b : Bool). cond b 4 3) e in
    let n : value_size octets ≡ number_at octets 2 = ap (λ (b : Bool). cond b (number_at octets 2) (slice_index octets 2)) e in
    let size : length value ≡ number_at octets 2 = value_length octets attr value rest has ∙ n in
    let parts = attr_parts octets attr value rest 4 h has ∙ ap (λ (ys : List ℕ). ys ++ value) (first_four octets (omega (arith, has.inside))) in
    let field : to_be_bytes w16 (length value) ≡ slice_index octets 2 ∷ slice_index octets 3 ∷ [] = be_bytes_2 _ (length value) refl (two_octets _ _ (are 2) (are 3)) size in
    record {
      extended = true;
      low = f % 16;
      small = low_flags f;
      size = omega (arith, size, are 2, are 3);
      whole = extended_whole f (slice_index octets 1) (slice_index octets 2) (slice_index octets 3) (f % 16) (high_flags f) attr value parts (flags_extended f e) field;
    }
spells_by octets attr value rest false e are has =
    let f = slice_index octets 0 in
    let h : head_size octets ≡ 3 = ap (λ (b : Bool). cond b 4 3) e in
    let n : value_size octets ≡ slice_index octets 2 = ap (λ (b : Bool). cond b (number_at octets 2) (slice_index octets 2)) e in
    let size : length value ≡ slice_index octets 2 = value_length octets attr value rest has ∙ n in
    let parts = attr_parts octets attr value rest 3 h has ∙ ap (λ (ys : List ℕ). ys ++ value) (first_three octets (omega (arith, has.inside))) in
    record {
      extended = false;
      low = f % 16;
      small = low_flags f;
      size = omega (arith, size, are 2);
      whole = plain_whole f (slice_index octets 1) (slice_index octets 2) (f % 16) (high_flags f) attr value parts (flags_plain f e) size;
    }

-- an attribute that is read, seen by its own octets
abbrev pub raw_in : List ℕ → List ℕ → Raw
raw_in attr value = raw_of (high_flags (slice_index attr 0)) (slice_index attr 1) value

-- the octets are the attribute and the rest, and the attribute is spelt as what was read of it
pub attr_takes : (octets attr value rest : List ℕ) → IsOctets octets → attr_at octets ≡ Ok (attr, value, rest) → (octets ≡ attr ++ rest) × SpellsAttr attr (raw_in attr value)
attr_takes octets attr value rest are e =
    let has = has_attr octets attr value rest e in
    let size = head_size octets + value_size octets in
    let whole : octets ≡ attr ++ rest = sym (take-append-drop size octets) ∙ ap (λ (ys : List ℕ). ys ++ drop size octets) has.attr_is ∙ ap (λ (ys : List ℕ). attr ++ ys) has.rest_is in
    let f : slice_index octets 0 ≡ slice_index attr 0 = sym (attr_begins octets attr value rest 0 (omega arith) has) in
    let c : slice_index octets 1 ≡ slice_index attr 1 = sym (attr_begins octets attr value rest 1 (omega arith) has) in
    let spelt = spells_by octets attr value rest (is_extended (slice_index octets 0)) refl are has in
    (whole, subst (SpellsAttr attr) (ap (λ (k : ℕ). raw_of (high_flags k) (slice_index octets 1) value) f ∙ ap (λ (k : ℕ). raw_of (high_flags (slice_index attr 0)) k value) c) spelt)

-- ---- what is spelt so is read

-- the sizes in front of octets say where an attribute ends
at_by : (octets front value rest : List ℕ) (h n : ℕ) → head_size octets ≡ h → value_size octets ≡ n → octets ≡ front ++ rest → length front ≡ h + n → drop h front ≡ value
    → attr_at octets ≡ Ok (front, value, rest)
at_by octets front value rest h n eh en whole size v =
    let inside : nat_lt (length octets) (h + n) ≡ false = le-ltb (length octets) (h + n) (omega (arith, ap length whole, length-append front rest, size)) in
    let front_is : take (h + n) octets ≡ front = ap (take (h + n)) whole ∙ take_at front rest (h + n) size in
    let rest_is : drop (h + n) octets ≡ rest = ap (drop (h + n)) whole ∙ drop_at front rest (h + n) size in
    rw (eh, en, inside, front_is, rest_is, v) refl

-- an attribute in front of others, seen by its spelling
pub record IsFront (front rest : List ℕ) (r : Raw) : Type 0 where
  pub at : attr_at (front ++ rest) ≡ Ok (front, r.value, rest)
  pub flags : high_flags (slice_index front 0) ≡ r.flags
  pub code : slice_index front 1 ≡ r.code

-- a spelling in front of others, with and without Extended Length
front_by : (rest : List ℕ) (r : Raw) (b : Bool) (low : ℕ) → low < 16 → length r.value < size_limit b → high_flags r.flags ≡ r.flags → IsFront (attr_octets b low r) rest r
front_by rest r true low small size high =
    let front = attr_octets true low r in
    let ext = extended_again r.flags low high small in
    let n : number_at (front ++ rest) 2 ≡ length r.value = from_be_bytes-to_be_bytes_2 (length r.value) size in
    record {
      at = at_by (front ++ rest) front r.value rest 4 (length r.value)
          (ap (λ (b : Bool). cond b 4 3) ext) (ap (λ (b : Bool). cond b (number_at (front ++ rest) 2) (slice_index (front ++ rest) 2)) ext ∙ n) refl (omega arith) refl;
      flags = high_of_extended r.flags low high small;
      code = refl;
    }
front_by rest r false low small size high =
    let front = attr_octets false low r in
    let ext = plain_again r.flags low high small in
    record {
      at = at_by (front ++ rest) front r.value rest 3 (length r.value)
          (ap (λ (b : Bool). cond b 4 3) ext) (ap (λ (b : Bool). cond b (number_at (front ++ rest) 2) (slice_index (front ++ rest) 2)) ext) refl (omega arith) refl;
      flags = high_of_plain r.flags low high small;
      code = refl;
    }

-- an attribute that is spelt so is read, whatever follows
pub attr_again : (front rest : List ℕ) (r : Raw) → SpellsAttr front r → high_flags r.flags ≡ r.flags → IsFront front rest r
attr_again front rest r s high = subst (λ (ys : List ℕ). IsFront ys rest r) (sym s.whole) (front_by rest r s.extended s.low s.small s.size high)

-- ---- the spelling that is written

-- the form of length that is written has room for the value
length_limit : (r : Raw) (b : Bool) → nat_le 256 (length r.value) ≡ b → length r.value < 2 ^ 16 → length r.value < size_limit b
length_limit r true e lt = lt
length_limit r false e lt = leb-false 256 (length r.value) e

-- what is written is a spelling
pub attr_written : (r : Raw) → length r.value < 2 ^ 16 → SpellsAttr (raw_octets r) r
attr_written r lt = record {
  extended = nat_le 256 (length r.value);
  low = 0;
  small = omega arith;
  size = length_limit r (nat_le 256 (length r.value)) refl lt;
  whole = refl;
}
