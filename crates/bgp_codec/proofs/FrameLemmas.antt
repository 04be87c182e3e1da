-- A frame is its marker, length, type and body, joined.
use Rattle.std.proofs.Common.{◌≡◌, ℕ, zero, suc, ◌+◌, ◌^◌, ◌<◌, ◌≤◌, Bool, true, false, cond, List, [], ◌∷◌, ◌++◌, length, get_or, take, drop, drop-cons, Option, Some, None, refl, sym, ap, subst, ◌∙◌, append_assoc, arith, inl, inr, ◌⊎◌}
use Rattle.std.specs.Prelude.{nat_le, nat_eq, not, replicate, ◌&&◌}
use Rattle.std.specs.Int.{w16, to_be_bytes}
use Rattle.std.proofs.lemmas.Bool.{leb-true, eqb-true}
use Rattle.std.specs.Cmp.Lexicographic.{pointwise}
use Rattle.std.proofs.lemmas.List.{nil_from_length, get_or-take, take-take, take-append-drop, length-drop}
use Rattle.std.proofs.lemmas.Nat.{be_bytes_2, from_be_bytes-to_be_bytes_2}
use Rattle.marker_lanes.specs.Marker.{marker}
use Rattle.bgp_codec.specs.declared.fault.Fault.{Fault}
use Rattle.bgp_codec.specs.Header.{HeaderIsItsFront, header_fault, begins_with_marker, length_field, length_octets, kind_field, is_message_len, is_kind, length_fits, fault_of, IsFrame}
use Rattle.bgp_codec.specs.Spelling.{IsOctets, framed, header_of}
use Rattle.bgp_codec.proofs.MarkerLemmas.{marker_front}

-- the checks of a header that has no fault
pub record IsGood (bytes : List ℕ) : Type 0 where
  pub is_marked : begins_with_marker bytes ≡ true
  pub is_long : is_message_len (length_field bytes) ≡ true
  pub is_known : is_kind (kind_field bytes) ≡ true
  pub fits : length_fits (kind_field bytes) (length_field bytes) ≡ true

passes : (b : Bool) (f : Fault) (rest : Option Fault) → cond (not b) (Some f) rest ≡ None → (b ≡ true) × (rest ≡ None)
passes true f rest e = (refl, e)
passes false f rest e = absurd cc

pub good_header : (bytes : List ℕ) → header_fault bytes ≡ None → IsGood bytes
unfolding header_fault
good_header bytes e =
    let a = passes (begins_with_marker bytes) (fault_of 1 1 []) _ e in
    let b = passes (is_message_len (length_field bytes)) (fault_of 1 2 (length_octets bytes)) _ a.1 in
    let c = passes (is_kind (kind_field bytes)) (fault_of 1 3 (kind_field bytes ∷ [])) _ b.1 in
    let d = passes (length_fits (kind_field bytes) (length_field bytes)) (fault_of 1 2 (length_octets bytes)) None c.1 in
    record { is_marked = a.0; is_long = b.0; is_known = c.0; fits = d.0 }

both : (a b : Bool) → (a && b) ≡ true → (a ≡ true) × (b ≡ true)
both true b e = (refl, e)
both false b e = absurd cc

pub len_bounds : (n : ℕ) → is_message_len n ≡ true → (19 ≤ n) × (n ≤ 4096)
len_bounds n t = let p = both (nat_le 19 n) (nat_le n 4096) t in (leb-true 19 n p.0, leb-true n 4096 p.1)

pub no_fault : (bytes : List ℕ) → IsGood bytes → header_fault bytes ≡ None
unfolding header_fault
no_fault bytes good = rw (good.is_marked, good.is_long, good.is_known, good.fits) refl

-- the nineteenth byte and the two before it, in front of the rest
behind_marker : (bytes : List ℕ) → 19 ≤ length bytes → drop 16 bytes ≡ length_octets bytes ++ kind_field bytes ∷ drop 19 bytes
behind_marker bytes long =
    let a : drop 16 bytes ≡ get_or bytes 16 0 ∷ drop 17 bytes = drop-cons bytes 16 0 (omega arith) in
    let b : drop 17 bytes ≡ get_or bytes 17 0 ∷ drop 18 bytes = drop-cons bytes 17 0 (omega arith) in
    let d : drop 18 bytes ≡ get_or bytes 18 0 ∷ drop 19 bytes = drop-cons bytes 18 0 (omega arith) in
    a ∙ ap (λ (r : List ℕ). get_or bytes 16 0 ∷ r) (b ∙ ap (λ (r : List ℕ). get_or bytes 17 0 ∷ r) d)

two_bytes : (bytes : List ℕ) → IsOctets bytes → IsOctets (length_octets bytes)
two_bytes bytes are zero = are 16
two_bytes bytes are (suc zero) = are 17
two_bytes bytes are (suc (suc i)) = omega arith

pub frame_parts : (bytes : List ℕ) → IsOctets bytes → IsFrame bytes → bytes ≡ framed (kind_field bytes) (drop 19 bytes)
unfolding framed header_of
frame_parts bytes are frame =
    let good = good_header bytes frame.good in
    let front : take 16 bytes ≡ marker = marker_front bytes good.is_marked in
    let n : 19 + length (drop 19 bytes) ≡ length_field bytes = omega (arith, length-drop 19 bytes, frame.has_header, frame.whole) in
    let field_are : IsOctets (length_octets bytes) = two_bytes bytes are in
    let field : to_be_bytes w16 (length_field bytes) ≡ length_octets bytes = be_bytes_2 (length_octets bytes) (length_field bytes) refl field_are refl in
    sym (take-append-drop 16 bytes) ∙ ap (λ (r : List ℕ). r ++ drop 16 bytes) front
    ∙ ap (λ (r : List ℕ). marker ++ r) (behind_marker bytes frame.has_header)
    ∙ sym (append_assoc marker (length_octets bytes) (kind_field bytes ∷ drop 19 bytes))
    ∙ ap (λ (r : List ℕ). (marker ++ r) ++ kind_field bytes ∷ drop 19 bytes) (sym field ∙ ap (to_be_bytes w16) (sym n))
    ∙ sym (append_assoc (marker ++ to_be_bytes w16 (19 + length (drop 19 bytes))) (kind_field bytes ∷ []) (drop 19 bytes))

-- what the fields of joined parts are
pub record HasParts (bytes : List ℕ) (kind : ℕ) (body : List ℕ) : Type 0 where
  pub size : length bytes ≡ 19 + length body
  pub is_marked : begins_with_marker bytes ≡ true
  pub len : length_field bytes ≡ 19 + length body
  pub kind_is : kind_field bytes ≡ kind
  pub body_is : drop 19 bytes ≡ body

size_of : (kind : ℕ) (body : List ℕ) → length (framed kind body) ≡ 19 + length body
unfolding framed header_of marker
size_of kind body = omega arith

pub framed_parts : (kind : ℕ) (body : List ℕ) → 19 + length body < 2 ^ 16 → HasParts (framed kind body) kind body
unfolding framed header_of marker begins_with_marker
framed_parts kind body lt = record {
  size = size_of kind body;
  is_marked = refl;
  len = from_be_bytes-to_be_bytes_2 (19 + length body) lt;
  kind_is = refl;
  body_is = refl;
}

pub long_notice : (bytes : List ℕ) → IsFrame bytes → kind_field bytes ≡ 3 → 2 ≤ length (drop 19 bytes)
long_notice bytes frame e =
    let fits : length_fits 3 (length_field bytes) ≡ true = subst (λ (k : ℕ). length_fits k (length_field bytes) ≡ true) e (good_header bytes frame.good).fits in
    let long : 21 ≤ length_field bytes = leb-true 21 (length_field bytes) fits in
    omega (arith, length-drop 19 bytes)

pub long_open : (bytes : List ℕ) → IsFrame bytes → kind_field bytes ≡ 1 → 10 ≤ length (drop 19 bytes)
long_open bytes frame e =
    let fits : length_fits 1 (length_field bytes) ≡ true = subst (λ (k : ℕ). length_fits k (length_field bytes) ≡ true) e (good_header bytes frame.good).fits in
    let long : 29 ≤ length_field bytes = leb-true 29 (length_field bytes) fits in
    omega (arith, length-drop 19 bytes)

pub long_update : (bytes : List ℕ) → IsFrame bytes → kind_field bytes ≡ 2 → 4 ≤ length (drop 19 bytes)
long_update bytes frame e =
    let fits : length_fits 2 (length_field bytes) ≡ true = subst (λ (k : ℕ). length_fits k (length_field bytes) ≡ true) e (good_header bytes frame.good).fits in
    let long : 23 ≤ length_field bytes = leb-true 23 (length_field bytes) fits in
    omega (arith, length-drop 19 bytes)

pub no_body : (bytes : List ℕ) → IsFrame bytes → kind_field bytes ≡ 4 → drop 19 bytes ≡ []
no_body bytes frame e =
    let fits : length_fits 4 (length_field bytes) ≡ true = subst (λ (k : ℕ). length_fits k (length_field bytes) ≡ true) e (good_header bytes frame.good).fits in
    let short : length_field bytes ≡ 19 = eqb-true (length_field bytes) 19 fits in
    nil_from_length (drop 19 bytes) (omega (arith, length-drop 19 bytes))

-- ---- a header is its first nineteen bytes

front_same : (n k : ℕ) (bytes : List ℕ) (i : ℕ) → i < n → get_or (take n bytes) i 0 ≡ get_or bytes i 0
front_same n k bytes i h = get_or-take n bytes i 0 h

marker_same : (n : ℕ) (bytes : List ℕ) → 16 ≤ n → begins_with_marker (take n bytes) ≡ begins_with_marker bytes
unfolding begins_with_marker marker
marker_same n bytes h = ap (λ (xs : List ℕ). pointwise nat_eq (replicate 16 255) xs) (take-take 16 n bytes h)

pub header_fault-take : (n : ℕ) (bytes : List ℕ) → 19 ≤ n → header_fault (take n bytes) ≡ header_fault bytes
unfolding header_fault
header_fault-take n bytes h =
    let a : get_or (take n bytes) 16 0 ≡ get_or bytes 16 0 = front_same n 0 bytes 16 (omega arith) in
    let b : get_or (take n bytes) 17 0 ≡ get_or bytes 17 0 = front_same n 0 bytes 17 (omega arith) in
    let d : get_or (take n bytes) 18 0 ≡ get_or bytes 18 0 = front_same n 0 bytes 18 (omega arith) in
    rw (a, b, d, marker_same n bytes (omega arith)) refl

pub length_field-take : (n : ℕ) (bytes : List ℕ) → 19 ≤ n → length_field (take n bytes) ≡ length_field bytes
length_field-take n bytes h =
    let a : get_or (take n bytes) 16 0 ≡ get_or bytes 16 0 = front_same n 0 bytes 16 (omega arith) in
    let b : get_or (take n bytes) 17 0 ≡ get_or bytes 17 0 = front_same n 0 bytes 17 (omega arith) in
    rw (a, b) refl

pub good_len : (bytes : List ℕ) → header_fault bytes ≡ None → (19 ≤ length_field bytes) × (length_field bytes ≤ 4096)
good_len bytes e = len_bounds (length_field bytes) (good_header bytes e).is_long

-- a header's fault has at most two bytes of data
fault_cases : (b : Bool) (f g : Fault) (rest : Option Fault) → cond (not b) (Some f) rest ≡ Some g → (f ≡ g) ⊎ (rest ≡ Some g)
fault_cases true f g rest e = inr e
fault_cases false f g rest e = inl cc

pub header_fault_data : (bytes : List ℕ) (f : Fault) → header_fault bytes ≡ Some f → length f.extra ≤ 2
unfolding header_fault
header_fault_data bytes f e =
    elim (fault_cases (begins_with_marker bytes) (fault_of 1 1 []) f _ e) [
      | inl a ↦ subst (λ (g : Fault). length g.extra ≤ 2) a (omega arith)
      | inr p ↦ elim (fault_cases (is_message_len (length_field bytes)) (fault_of 1 2 (length_octets bytes)) f _ p) [
        | inl a ↦ subst (λ (g : Fault). length g.extra ≤ 2) a (omega arith)
        | inr q ↦ elim (fault_cases (is_kind (kind_field bytes)) (fault_of 1 3 (kind_field bytes ∷ [])) f _ q) [
          | inl a ↦ subst (λ (g : Fault). length g.extra ≤ 2) a (omega arith)
          | inr r ↦ elim (fault_cases (length_fits (kind_field bytes) (length_field bytes)) (fault_of 1 2 (length_octets bytes)) f None r) [
            | inl a ↦ subst (λ (g : Fault). length g.extra ≤ 2) a (omega arith)
            | inr s ↦ absurd cc
          ]
        ]
      ]
    ]

pub front_law : HeaderIsItsFront
front_law n octets h = record { same_fault = header_fault-take n octets h; same_length = length_field-take n octets h; bounds = good_len octets }

-- octets whose first nineteen are a good header with their length are a frame
pub is_frame : (octets first : List ℕ) → 19 ≤ length octets → first ≡ take 19 octets → header_fault first ≡ None → length octets ≡ length_field first → IsFrame octets
is_frame octets first long e good n =
    record {
      has_header = long;
      good = sym (ap header_fault e ∙ header_fault-take 19 octets (omega arith)) ∙ good;
      whole = n ∙ ap length_field e ∙ length_field-take 19 octets (omega arith);
    }
