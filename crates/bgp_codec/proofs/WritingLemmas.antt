-- A header is its marker, its length and its type, put one after the other.
use Rattle.std.proofs.Common.{◌≡◌, ℕ, ◌+◌, List, [], ◌∷◌, ◌++◌, length, get_or, replicate, ap, ◌∙◌, append_assoc, arith}
use Rattle.std.specs.Int.{w16, to_be_bytes}
use Rattle.bgp_values.specs.declared.width.Width.{Width}
use Rattle.marker_lanes.specs.Marker.{marker}
use Rattle.bgp_codec.specs.declared.message.Message.{Message}
use Rattle.bgp_codec.specs.Spelling.{header_of, framed, kind_of, written_body, written}

regroup : (old high low kind : ℕ) (xs ys : List ℕ) → (((xs ++ ys) ++ high ∷ []) ++ low ∷ []) ++ kind ∷ [] ≡ xs ++ ((ys ++ high ∷ low ∷ []) ++ kind ∷ [])
regroup old high low kind xs ys = simp append_assoc

pub header_put : (old a b c d field : List ℕ) (kind n : ℕ) → a ≡ old ++ replicate 16 255 → b ≡ a ++ get_or field 0 0 ∷ [] → c ≡ b ++ get_or field 1 0 ∷ [] → d ≡ c ++ kind ∷ []
    → field ≡ to_be_bytes w16 (19 + n) → d ≡ old ++ header_of kind n
unfolding header_of marker
header_put old a b c d field kind n ea eb ec ed ef =
    let w = to_be_bytes w16 (19 + n) in
    ed ∙ ap (λ (x : List ℕ). x ++ kind ∷ []) (ec ∙ ap (λ (x : List ℕ). x ++ get_or field 1 0 ∷ []) (eb ∙ ap (λ (x : List ℕ). x ++ get_or field 0 0 ∷ []) ea))
    ∙ regroup 0 (get_or field 0 0) (get_or field 1 0) kind old (replicate 16 255)
    ∙ ap (λ (f : List ℕ). old ++ ((replicate 16 255 ++ get_or f 0 0 ∷ get_or f 1 0 ∷ []) ++ kind ∷ [])) ef

pub written_put : (width : Width) (m : Message) (old a b : List ℕ) (n kind : ℕ) → n ≡ length (written_body width m) → kind ≡ kind_of m → a ≡ old ++ header_of kind n → b ≡ a ++ written_body width m
    → b ≡ old ++ written width m
unfolding framed
written_put width m old a b n kind en ek ea eb =
    eb ∙ ap (λ (x : List ℕ). x ++ written_body width m) (ea ∙ ap (λ (k : ℕ). old ++ header_of k n) ek ∙ ap (λ (j : ℕ). old ++ header_of (kind_of m) j) en)
    ∙ append_assoc old (header_of (kind_of m) (length (written_body width m))) (written_body width m)

pub length-written : (width : Width) (m : Message) → length (written width m) ≡ 19 + length (written_body width m)
unfolding framed header_of marker
length-written width m = omega arith
