-- What stands in front, from the first nineteen octets.
use Rattle.std.proofs.Common.{◌≡◌, ℕ, ◌+◌, ◌-◌, ◌<◌, ◌≤◌, List, length, take, drop, slice_range, Some, None, refl, sym, ap, ◌∙◌, arith, inr}
use Rattle.std.proofs.lemmas.List.{length-take-le, drop-take, drop-drop}
use Rattle.bgp_codec.specs.declared.fault.Fault.{Fault}
use Rattle.bgp_codec.specs.Header.{header_fault, length_field, HeaderIsItsFront}
use Rattle.bgp_framing.specs.declared.framer.Next.TheVariants.{Whole, More, Bad}
use Rattle.bgp_framing.specs.Held.{Held, IsNext, with_octets}

-- the checks of a header look at its first nineteen octets alone
module _ (front : HeaderIsItsFront) where
  pub header_fault-take : (n : ℕ) (octets : List ℕ) → 19 ≤ n → header_fault (take n octets) ≡ header_fault octets
  header_fault-take n octets h = (front n octets h).same_fault

  pub length_field-take : (n : ℕ) (octets : List ℕ) → 19 ≤ n → length_field (take n octets) ≡ length_field octets
  length_field-take n octets h = (front n octets h).same_length

  pub good_len : (octets : List ℕ) → header_fault octets ≡ None → (19 ≤ length_field octets) × (length_field octets ≤ 4096)
  good_len octets e = (front 19 octets (omega arith)).bounds e

  fault_same : (held first : List ℕ) → first ≡ take 19 held → header_fault first ≡ header_fault held
  fault_same held first e = ap header_fault e ∙ header_fault-take 19 held (omega arith)

  field_same : (held first : List ℕ) → first ≡ take 19 held → length_field first ≡ length_field held
  field_same held first e = ap length_field e ∙ length_field-take 19 held (omega arith)

  pub is_bad : (held first : List ℕ) (fault : Fault) → 19 ≤ length held → first ≡ take 19 held → header_fault first ≡ Some fault → IsNext held (Bad fault)
  is_bad held first fault long e h = (long, sym (fault_same held first e) ∙ h)

  pub is_partial : (held first : List ℕ) (len : ℕ) → 19 ≤ length held → first ≡ take 19 held → header_fault first ≡ None → len ≡ length_field first → length held < len → IsNext held More
  is_partial held first len long e good n short = inr (long, sym (fault_same held first e) ∙ good, omega (arith, field_same held first e))

  pub is_whole : (held first : List ℕ) (len : ℕ) → 19 ≤ length held → first ≡ take 19 held → header_fault first ≡ None → len ≡ length_field first → len ≤ length held → IsNext held (Whole 0 len)
  is_whole held first len long e good n enough =
      let good_here : header_fault held ≡ None = sym (fault_same held first e) ∙ good in
      let field : len ≡ length_field held = n ∙ field_same held first e in
      let bounds = good_len held good_here in
      let wide : 19 ≤ len = omega (arith, bounds.0, field) in (
        refl,
        enough,
        record {
          has_header = omega (arith, length-take-le len held enough);
          good = header_fault-take len held wide ∙ good_here;
          whole = length-take-le len held enough ∙ field ∙ sym (length_field-take len held wide);
        },
      )

-- what stands behind the first octets of a part
range_behind : (xs : List ℕ) (from n end : ℕ) → from + n ≤ end → slice_range xs (from + n) end ≡ drop n (slice_range xs from end)
range_behind xs from n end h =
    let m = end - (from + n) in
    let long : end - from ≡ n + m = omega arith in
    sym (ap (λ k. drop n (take k (drop from xs))) long ∙ drop-take n m (drop from xs) ∙ ap (take m) (drop-drop n from xs))

-- the first octets are taken away, and the room stays
pub dropped_view : (now : Held) (xs : List ℕ) (from n end room : ℕ) → (let seen : Held = record { octets = slice_range xs from end; room = room } in seen ≡ now) → from + n ≤ end
    → (let left : Held = record { octets = slice_range xs (from + n) end; room = room } in left ≡ with_octets now (drop n now.octets))
dropped_view now xs from n end room v h = rw (← v, range_behind xs from n end h) refl
