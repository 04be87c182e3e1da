-- What is read from an UPDATE is spelt so, and what is spelt so is read.
use Rattle.std.proofs.Common.{◌≡◌, ◌≢◌, ℕ, suc, ◌+◌, ◌^◌, ◌<◌, ◌≤◌, Bool, true, false, cond, List, [], ◌∷◌, ◌++◌, length, take, drop, drop-cons, get_or, Option, Some, None, Result, Ok, Err, refl, sym, ap, subst, ◌∙◌, append_assoc, arith}
use Rattle.std.specs.Prelude.{nat_lt, ◌||◌, slice_index}
use Rattle.std.specs.List.{flat_map}
use Rattle.std.specs.Int.{w16, to_be_bytes, from_be_bytes}
use Rattle.std.proofs.lemmas.Bool.{ltb-false, le-ltb, or_parts}
use Rattle.std.proofs.lemmas.List.{length-append, length-drop, length-take-le, length-take, take-append-drop, take_at, drop_at, drop-drop, get_or-append-add}
use Rattle.std.proofs.lemmas.Nat.{be_bytes_2, from_be_bytes-to_be_bytes_2}
use Rattle.prefix_lanes.specs.Bits.{PrefixView}
use Rattle.prefix_lanes.specs.Laws.{MaskedBits, MaskedIsCanonical, SameBitsSamePrefix}
use Rattle.bgp_codec.specs.declared.fault.Fault.{Fault}
use Rattle.bgp_codec.specs.declared.attributes.Attrs.{Attrs}
use Rattle.bgp_codec.specs.declared.rule.Rule.{Rule}
use Rattle.bgp_codec.specs.declared.update.Update.{Update}
use Rattle.bgp_codec.specs.Reading.{◌>>=◌}
use Rattle.bgp_codec.specs.Spelling.{IsOctets}
use Rattle.bgp_codec.specs.Updates.{long_string, SpellsEach, SpellsPrefix, missing, is_from, IsAnnounced, SpellsUpdate, prefix_octets, attrs_octets, update_octets, UpdateFits}
use Rattle.bgp_codec.specs.UpdateReading.{update_fault, prefixes_reading, attrs_reading, announced_by, announced_reading, nlri_reading, withdrawn_len, attrs_len, update_of, parts_reading, update_reading}
use Rattle.bgp_codec.specs.AsNumbers.{number_at}
use Rattle.bgp_codec.proofs.OctetLemmas.{octets_behind}
use Rattle.bgp_codec.proofs.FaultData.{FaultsWithin, then_within, either_within, wider}
use Rattle.bgp_codec.proofs.OctetLemmas.{octets_front, two_octets}
use Rattle.bgp_codec.proofs.PrefixLemmas.{prefixes_takes, prefixes_again, prefixes_written, prefixes_octets, prefixes_faults}
use Rattle.bgp_codec.proofs.AttrsLemmas.{attrs_takes, attrs_again, attrs_written, attrs_faults}

-- what is known of a prefix's bits
pub record PrefixLaws : Type 0 where
  pub masked : MaskedBits
  pub canonical : MaskedIsCanonical
  pub once : SameBitsSamePrefix

-- ---- octets that begin with a length

-- two octets from a place on, and what follows them
split_two : (octets : List ℕ) (n : ℕ) → n + 2 ≤ length octets → drop n octets ≡ slice_index octets n ∷ slice_index octets (n + 1) ∷ drop (n + 2) octets
split_two octets n le =
    let one : suc n ≡ n + 1 = omega arith in
    let two : suc (n + 1) ≡ n + 2 = omega arith in
    let a : drop n octets ≡ get_or octets n 0 ∷ drop (n + 1) octets = drop-cons octets n 0 (omega arith) ∙ ap (λ (k : ℕ). get_or octets n 0 ∷ drop k octets) one in
    let b : drop (n + 1) octets ≡ get_or octets (n + 1) 0 ∷ drop (n + 2) octets = drop-cons octets (n + 1) 0 (omega arith) ∙ ap (λ (k : ℕ). get_or octets (n + 1) 0 ∷ drop k octets) two in
    a ∙ ap (λ (r : List ℕ). get_or octets n 0 ∷ r) b

-- a length at a place, and as many octets as it says
at_place : (octets : List ℕ) (n : ℕ) → IsOctets octets → n + 2 + number_at octets n ≤ length octets
    → drop n octets ≡ long_string (take (number_at octets n) (drop (n + 2) octets)) ++ drop (n + 2 + number_at octets n) octets
at_place octets n are le =
    let k = number_at octets n in
    let part = take k (drop (n + 2) octets) in
    let size : length part ≡ k = length-take-le k (drop (n + 2) octets) (omega (arith, length-drop (n + 2) octets)) in
    let field : to_be_bytes w16 k ≡ slice_index octets n ∷ slice_index octets (n + 1) ∷ [] = be_bytes_2 _ k refl (two_octets _ _ (are n) (are (n + 1))) refl in
    let rest : drop (n + 2) octets ≡ part ++ drop (n + 2 + k) octets =
    sym (take-append-drop k (drop (n + 2) octets)) ∙ ap (λ (r : List ℕ). part ++ r) (drop-drop k (n + 2) octets) in
    split_two octets n (omega arith) ∙ ap (λ (r : List ℕ). slice_index octets n ∷ slice_index octets (n + 1) ∷ r) rest
    ∙ ap (λ (f : List ℕ). f ++ (part ++ drop (n + 2 + k) octets)) (sym field ∙ ap (to_be_bytes w16) (sym size))
    ∙ sym (append_assoc (to_be_bytes w16 (length part)) part (drop (n + 2 + k) octets))

-- ---- the announced prefixes

found_prefixes : (ok : Bool) (r : Result (List PrefixView) Fault) (f : Fault) (ps : List PrefixView) → (r >>= λ qs. cond ok (Ok qs) (Err f)) ≡ Ok ps → (ok ≡ true) × (r ≡ Ok ps)
found_prefixes true (Ok qs) f ps e = (refl, e)
found_prefixes false (Ok qs) f ps e = absurd cc
found_prefixes ok (Err g) f ps e = absurd cc

announced_found : (peer : Option ℕ) (a : Attrs) (octets : List ℕ) (ps : List PrefixView) (m : Option ℕ) → announced_by m peer a octets ≡ Ok ps
    → (m ≡ None) × (is_from peer a ≡ true) × (prefixes_reading octets ≡ Ok ps)
announced_found peer a octets ps (Some code) e = absurd cc
announced_found peer a octets ps None e = let p = found_prefixes (is_from peer a) (prefixes_reading octets) (update_fault 11) ps e in (refl, p.0, p.1)

none_read : (ps : List PrefixView) → (let r : Result (List PrefixView) Fault = Ok [] in r ≡ Ok ps) → [] ≡ ps
none_read ps e = cc

nlri_takes : (laws : PrefixLaws) (peer : Option ℕ) (a : Attrs) (octets : List ℕ) (ps : List PrefixView) → IsOctets octets → nlri_reading peer a octets ≡ Ok ps
    → SpellsEach SpellsPrefix octets ps × (ps ≢ [] → IsAnnounced peer a)
nlri_takes laws peer a [] ps are e =
    let none = none_read ps e in (subst (SpellsEach SpellsPrefix []) none refl, λ some. absurd (some (sym none)))
nlri_takes laws peer a (x ∷ xs) ps are e =
    let p = announced_found peer a (x ∷ xs) ps (missing a) e in (prefixes_takes laws.masked laws.canonical (x ∷ xs) ps are p.2, λ some. record { mandatory = p.0; peer = p.1 })

announced_again : (peer : Option ℕ) (a : Attrs) (octets : List ℕ) (ps : List PrefixView) → IsAnnounced peer a → prefixes_reading octets ≡ Ok ps → announced_reading peer a octets ≡ Ok ps
announced_again peer a octets ps told e =
    ap (λ (m : Option ℕ). announced_by m peer a octets) told.mandatory ∙ ap (λ (r : Result (List PrefixView) Fault). r >>= λ qs. cond (is_from peer a) (Ok qs) (Err (update_fault 11))) e
    ∙ ap (λ (b : Bool). let r : Result (List PrefixView) Fault = cond b (Ok ps) (Err (update_fault 11)) in r) told.peer

nlri_some : (laws : PrefixLaws) (peer : Option ℕ) (a : Attrs) (octets : List ℕ) (ps : List PrefixView) → (octets ≡ [] → ⊥) → IsAnnounced peer a → prefixes_reading octets ≡ Ok ps
    → nlri_reading peer a octets ≡ Ok ps
nlri_some laws peer a [] ps some told e = absurd (some refl)
nlri_some laws peer a (x ∷ xs) ps some told e = announced_again peer a (x ∷ xs) ps told e

not_none : (p : PrefixView) (ps : List PrefixView) → p ∷ ps ≢ []
not_none p ps e = absurd cc

nlri_again : (laws : PrefixLaws) (peer : Option ℕ) (a : Attrs) (octets : List ℕ) (ps : List PrefixView) → IsOctets octets → SpellsEach SpellsPrefix octets ps → (ps ≢ [] → IsAnnounced peer a)
    → nlri_reading peer a octets ≡ Ok ps
nlri_again laws peer a octets [] are s told = ap (nlri_reading peer a) s
nlri_again laws peer a octets (p ∷ ps) are s told =
    let long : 1 ≤ length octets = omega (arith, ap length s.4, length-append s.0 s.1, ap length s.2.whole) in
    nlri_some laws peer a octets (p ∷ ps) (λ e. omega (arith, ap length e, long)) (told (not_none p ps)) (prefixes_again laws.masked laws.canonical laws.once octets (p ∷ ps) are s)

-- ---- the three parts

pub record PartsRead (rule : Rule) (withdrawn attrs nlri : List ℕ) (u : Update) : Type 0 where
  pub withdrawn_are : prefixes_reading withdrawn ≡ Ok u.withdrawn
  pub attrs_are : attrs_reading rule.width attrs ≡ Ok u.attrs
  pub nlri_are : nlri_reading rule.peer u.attrs nlri ≡ Ok u.nlri

made_update : (u v : Update) → (let r : Result Update Fault = Ok u in r ≡ Ok v) → u ≡ v
made_update u v e = cc

last_found : (rule : Rule) (withdrawn attrs nlri : List ℕ) (u : Update) (ws : List PrefixView) (b : Attrs) (n : Result (List PrefixView) Fault)
    → prefixes_reading withdrawn ≡ Ok ws → attrs_reading rule.width attrs ≡ Ok b → nlri_reading rule.peer b nlri ≡ n → (n >>= λ ps. Ok (update_of ws b ps)) ≡ Ok u → PartsRead rule withdrawn attrs nlri u
last_found rule withdrawn attrs nlri u ws b (Err f) ew ea en e = absurd cc
last_found rule withdrawn attrs nlri u ws b (Ok ps) ew ea en e =
    subst (PartsRead rule withdrawn attrs nlri) (made_update (update_of ws b ps) u e) (record { withdrawn_are = ew; attrs_are = ea; nlri_are = en })

parts_found : (rule : Rule) (withdrawn attrs nlri : List ℕ) (u : Update) (w : Result (List PrefixView) Fault) (a : Result Attrs Fault)
    → prefixes_reading withdrawn ≡ w → attrs_reading rule.width attrs ≡ a → (w >>= λ ws. a >>= λ b. nlri_reading rule.peer b nlri >>= λ ps. Ok (update_of ws b ps)) ≡ Ok u → PartsRead rule withdrawn attrs nlri u
parts_found rule withdrawn attrs nlri u (Err f) a ew ea e = absurd cc
parts_found rule withdrawn attrs nlri u (Ok ws) (Err f) ew ea e = absurd cc
parts_found rule withdrawn attrs nlri u (Ok ws) (Ok b) ew ea e = last_found rule withdrawn attrs nlri u ws b (nlri_reading rule.peer b nlri) ew ea refl e

parts_again : (rule : Rule) (withdrawn attrs nlri : List ℕ) (u : Update) → PartsRead rule withdrawn attrs nlri u → parts_reading rule withdrawn attrs nlri ≡ Ok u
parts_again rule withdrawn attrs nlri u p = rw (p.withdrawn_are, p.attrs_are, p.nlri_are) refl

-- ---- an UPDATE

abbrev pub is_cut : List ℕ → Bool
is_cut body = nat_lt (length body) (4 + withdrawn_len body) || nat_lt (length body) (4 + (withdrawn_len body + attrs_len body))

inside : (b : Bool) (f : Fault) (rest : Result Update Fault) (u : Update) → cond b (Err f) rest ≡ Ok u → (b ≡ false) × (rest ≡ Ok u)
inside true f rest u e = absurd cc
inside false f rest u e = (refl, e)

-- a body is its two parts with their lengths, and the rest
whole_again : (body : List ℕ) → IsOctets body → 4 + (withdrawn_len body + attrs_len body) ≤ length body
    → body
    ≡ long_string (take (withdrawn_len body) (drop 2 body))
    ++ (long_string (take (attrs_len body) (drop (4 + withdrawn_len body) body)) ++ drop (4 + (withdrawn_len body + attrs_len body)) body)
whole_again body are le =
    let first = withdrawn_len body in
    let second = attrs_len body in
    let two : 2 + first + 2 ≡ 4 + first = omega arith in
    let all : 4 + first + second ≡ 4 + (first + second) = omega arith in
    let back : drop (2 + first) body ≡ long_string (take second (drop (4 + first) body)) ++ drop (4 + (first + second)) body =
    at_place body (2 + first) are (omega (arith, le)) ∙ ap (λ (n : ℕ). long_string (take second (drop n body)) ++ drop (n + second) body) two
    ∙ ap (λ (n : ℕ). long_string (take second (drop (4 + first) body)) ++ drop n body) all in
    at_place body 0 are (omega (arith, le)) ∙ ap (λ (r : List ℕ). long_string (take first (drop 2 body)) ++ r) back

-- what is read is spelt so
pub update_takes : (laws : PrefixLaws) (rule : Rule) (body : List ℕ) (u : Update) → IsOctets body → update_reading rule body ≡ Ok u → SpellsUpdate rule body u
unfolding update_reading
update_takes laws rule body u are e =
    let first = withdrawn_len body in
    let second = attrs_len body in
    let g = inside (is_cut body) (update_fault 1) _ u e in
    let lt = or_parts (nat_lt (length body) (4 + first)) (nat_lt (length body) (4 + (first + second))) g.0 in
    let le : 4 + (first + second) ≤ length body = ltb-false (length body) (4 + (first + second)) lt.1 in
    let withdrawn = take first (drop 2 body) in
    let attrs = take second (drop (4 + first) body) in
    let nlri = drop (4 + (first + second)) body in
    let parts = parts_found rule withdrawn attrs nlri u (prefixes_reading withdrawn) (attrs_reading rule.width attrs) refl refl g.1 in
    let fields = attrs_takes rule.width attrs u.attrs (octets_front second (drop (4 + first) body) (octets_behind (4 + first) body are)) parts.attrs_are in
    let announced = nlri_takes laws rule.peer u.attrs nlri u.nlri (octets_behind (4 + (first + second)) body are) parts.nlri_are in
    let size : length withdrawn < 2 ^ 16 = omega (arith, length-take first (drop 2 body), are 0, are 1) in
    let size-2 : length attrs < 2 ^ 16 = omega (arith, length-take second (drop (4 + first) body), are (2 + first), are (2 + first + 1)) in
    record {
      withdrawn = withdrawn;
      attrs = attrs;
      nlri = nlri;
      withdrawn_are = prefixes_takes laws.masked laws.canonical withdrawn u.withdrawn (octets_front first (drop 2 body) (octets_behind 2 body are)) parts.withdrawn_are;
      attrs_are = fields.0;
      attrs_fit = fields.1;
      nlri_are = announced.0;
      announced = announced.1;
      withdrawn_size = size;
      attrs_size = size-2;
      whole = whole_again body are le;
    }

-- where the parts of a body stand
pub record Stands (body withdrawn attrs nlri : List ℕ) : Type 0 where
  pub first : withdrawn_len body ≡ length withdrawn
  pub second : attrs_len body ≡ length attrs
  pub size : length body ≡ 4 + (length withdrawn + (length attrs + length nlri))
  pub withdrawn_is : take (length withdrawn) (drop 2 body) ≡ withdrawn
  pub attrs_is : take (length attrs) (drop (4 + length withdrawn) body) ≡ attrs
  pub nlri_is : drop (4 + (length withdrawn + length attrs)) body ≡ nlri

-- a length of two octets behind octets, from their front
number_behind : (h l : ℕ) (xs ys : List ℕ) → number_at (h ∷ l ∷ (xs ++ ys)) (2 + length xs) ≡ number_at ys 0
number_behind h l xs ys =
    let zs = h ∷ l ∷ (xs ++ ys) in
    let first : 2 + length xs ≡ suc (suc (length xs + 0)) = omega arith in
    let next : 2 + length xs + 1 ≡ suc (suc (length xs + 1)) = omega arith in
    let a : get_or zs (2 + length xs) 0 ≡ get_or ys 0 0 = ap (λ (n : ℕ). get_or zs n 0) first ∙ get_or-append-add xs ys 0 0 in
    let b : get_or zs (2 + length xs + 1) 0 ≡ get_or ys 1 0 = ap (λ (n : ℕ). get_or zs n 0) next ∙ get_or-append-add xs ys 1 0 in
    ap (λ (n : ℕ). from_be_bytes w16 (n ∷ get_or zs (2 + length xs + 1) 0 ∷ [])) a ∙ ap (λ (n : ℕ). from_be_bytes w16 (get_or ys 0 0 ∷ n ∷ [])) b

stands : (withdrawn attrs nlri : List ℕ) → length withdrawn < 2 ^ 16 → length attrs < 2 ^ 16 → Stands (long_string withdrawn ++ (long_string attrs ++ nlri)) withdrawn attrs nlri
stands withdrawn attrs nlri left right =
    let body = long_string withdrawn ++ (long_string attrs ++ nlri) in
    let back : drop (2 + length withdrawn) body ≡ long_string attrs ++ nlri = drop_at (long_string withdrawn) (long_string attrs ++ nlri) (2 + length withdrawn) (omega arith) in
    let two : 4 + length withdrawn ≡ 2 + length withdrawn + 2 = omega arith in
    let all : 4 + (length withdrawn + length attrs) ≡ 4 + length withdrawn + length attrs = omega arith in
    let behind : drop (4 + length withdrawn) body ≡ attrs ++ nlri = ap (λ (n : ℕ). drop n body) two ∙ sym (drop-drop 2 (2 + length withdrawn) body) ∙ ap (drop 2) back in
    let one : withdrawn_len body ≡ length withdrawn = from_be_bytes-to_be_bytes_2 (length withdrawn) left in
    let two : number_at body (2 + length withdrawn) ≡ length attrs =
    number_behind _ _ withdrawn (long_string attrs ++ nlri) ∙ from_be_bytes-to_be_bytes_2 (length attrs) right in
    record {
      first = one;
      second = ap (λ (n : ℕ). number_at body (2 + n)) one ∙ two;
      size = omega (arith, length-append withdrawn (long_string attrs ++ nlri), length-append attrs nlri);
      withdrawn_is = take_at withdrawn (long_string attrs ++ nlri) (length withdrawn) refl;
      attrs_is = ap (take (length attrs)) behind ∙ take_at attrs nlri (length attrs) refl;
      nlri_is = ap (λ (n : ℕ). drop n body) all ∙ sym (drop-drop (length attrs) (4 + length withdrawn) body) ∙ ap (drop (length attrs)) behind ∙ drop_at attrs nlri (length attrs) refl;
    }

checks_pass : (body withdrawn attrs nlri : List ℕ) → Stands body withdrawn attrs nlri → is_cut body ≡ false
checks_pass body withdrawn attrs nlri s =
    let a : nat_lt (length body) (4 + withdrawn_len body) ≡ false = le-ltb (length body) (4 + withdrawn_len body) (omega (arith, s.first, s.size)) in
    let b : nat_lt (length body) (4 + (withdrawn_len body + attrs_len body)) ≡ false = le-ltb (length body) (4 + (withdrawn_len body + attrs_len body)) (omega (arith, s.first, s.second, s.size)) in
    rw (a, b) refl

standing_again : (rule : Rule) (body withdrawn attrs nlri : List ℕ) (u : Update) → Stands body withdrawn attrs nlri → PartsRead rule withdrawn attrs nlri u → update_reading rule body ≡ Ok u
unfolding update_reading
standing_again rule body withdrawn attrs nlri u s p =
    let w : take (withdrawn_len body) (drop 2 body) ≡ withdrawn = ap (λ (n : ℕ). take n (drop 2 body)) s.first ∙ s.withdrawn_is in
    let a : take (attrs_len body) (drop (4 + withdrawn_len body) body) ≡ attrs =
    ap (λ (n : ℕ). take n (drop (4 + withdrawn_len body) body)) s.second ∙ ap (λ (n : ℕ). take (length attrs) (drop (4 + n) body)) s.first ∙ s.attrs_is in
    let n : drop (4 + (withdrawn_len body + attrs_len body)) body ≡ nlri =
    ap (λ (k : ℕ). drop (4 + (k + attrs_len body)) body) s.first ∙ ap (λ (k : ℕ). drop (4 + (length withdrawn + k)) body) s.second ∙ s.nlri_is in
    ap (λ (b : Bool). cond b (Err (update_fault 1)) (parts_reading rule (take (withdrawn_len body) (drop 2 body)) (take (attrs_len body) (drop (4 + withdrawn_len body) body)) (drop (4 + (withdrawn_len body + attrs_len body)) body)))
    (checks_pass body withdrawn attrs nlri s)
    ∙ ap (λ (x : List ℕ). parts_reading rule x (take (attrs_len body) (drop (4 + withdrawn_len body) body)) (drop (4 + (withdrawn_len body + attrs_len body)) body)) w
    ∙ ap (λ (x : List ℕ). parts_reading rule withdrawn x (drop (4 + (withdrawn_len body + attrs_len body)) body)) a
    ∙ ap (parts_reading rule withdrawn attrs) n
    ∙ parts_again rule withdrawn attrs nlri u p

-- what is spelt so is read
pub update_again : (laws : PrefixLaws) (rule : Rule) (body : List ℕ) (u : Update) (s : SpellsUpdate rule body u) → IsOctets s.withdrawn → IsOctets s.nlri → update_reading rule body ≡ Ok u
update_again laws rule body u s left right =
    ap (update_reading rule) s.whole
    ∙ standing_again rule (long_string s.withdrawn ++ (long_string s.attrs ++ s.nlri)) s.withdrawn s.attrs s.nlri u (stands s.withdrawn s.attrs s.nlri s.withdrawn_size s.attrs_size)
    (record {
      withdrawn_are = prefixes_again laws.masked laws.canonical laws.once s.withdrawn u.withdrawn left s.withdrawn_are;
      attrs_are = attrs_again rule.width s.attrs u.attrs s.attrs_are s.attrs_fit;
      nlri_are = nlri_again laws rule.peer u.attrs s.nlri u.nlri right s.nlri_are s.announced;
    })

-- ---- the data of a fault

announced_faults : (peer : Option ℕ) (a : Attrs) (octets : List ℕ) (m : Option ℕ) → FaultsWithin 1 (announced_by m peer a octets)
announced_faults peer a octets (Some code) = omega arith
announced_faults peer a octets None =
    then_within 1 (prefixes_reading octets) _ (wider 0 1 (prefixes_reading octets) (omega arith) (prefixes_faults octets)) (λ ps. either_within 1 (is_from peer a) _ _ tt (omega arith))

nlri_faults : (peer : Option ℕ) (a : Attrs) (octets : List ℕ) → FaultsWithin 1 (nlri_reading peer a octets)
nlri_faults peer a [] = tt
nlri_faults peer a (x ∷ xs) = announced_faults peer a (x ∷ xs) (missing a)

-- an attribute stands behind the two lengths
pub update_faults : (rule : Rule) (body : List ℕ) (n : ℕ) → length body ≤ 4 + n → 1 ≤ n → FaultsWithin n (update_reading rule body)
unfolding update_reading
update_faults rule body n long some =
    let withdrawn = take (withdrawn_len body) (drop 2 body) in
    let attrs = take (attrs_len body) (drop (4 + withdrawn_len body) body) in
    let shorter : length attrs ≤ n = omega (arith, length-take (attrs_len body) (drop (4 + withdrawn_len body) body), length-drop (4 + withdrawn_len body) body) in
    either_within n (is_cut body) _ _ (omega arith)
    (then_within n (prefixes_reading withdrawn) _ (wider 0 n (prefixes_reading withdrawn) (omega arith) (prefixes_faults withdrawn))
    (λ ws. then_within n (attrs_reading rule.width attrs) _ (wider (length attrs) n (attrs_reading rule.width attrs) shorter (attrs_faults rule.width attrs))
    (λ a. then_within n (nlri_reading rule.peer a (drop (4 + (withdrawn_len body + attrs_len body)) body)) _
    (wider 1 n (nlri_reading rule.peer a (drop (4 + (withdrawn_len body + attrs_len body)) body)) (omega arith) (nlri_faults rule.peer a (drop (4 + (withdrawn_len body + attrs_len body)) body))) (λ ps. tt))))

-- what is written is spelt so, and its prefixes are octets
pub update_written : (u : Update) (rule : Rule) → (u.nlri ≢ [] → is_from rule.peer u.attrs ≡ true) → UpdateFits rule.width u → (s : SpellsUpdate rule (update_octets rule.width u) u) × (IsOctets s.withdrawn × IsOctets s.nlri)
update_written u rule from fits = (
  record {
    withdrawn = flat_map prefix_octets u.withdrawn;
    attrs = attrs_octets rule.width u.attrs;
    nlri = flat_map prefix_octets u.nlri;
    withdrawn_are = prefixes_written u.withdrawn fits.withdrawn;
    attrs_are = attrs_written rule.width u.attrs fits.attrs fits.attrs_size;
    attrs_fit = fits.attrs;
    nlri_are = prefixes_written u.nlri fits.nlri;
    announced = λ some. record { mandatory = fits.mandatory some; peer = from some };
    withdrawn_size = fits.withdrawn_size;
    attrs_size = fits.attrs_size;
    whole = refl;
  },
  (prefixes_octets u.withdrawn fits.withdrawn, prefixes_octets u.nlri fits.nlri),
)
