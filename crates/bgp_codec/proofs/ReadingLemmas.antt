-- What is read is spelt so, and what is spelt so is read.
use Rattle.std.proofs.Common.{◌≡◌, ℕ, ◌+◌, ◌≤◌, Bool, true, false, cond, List, [], ◌∷◌, ◌++◌, length, drop, eq-eqb, Option, Some, None, Result, Ok, Err, refl, sym, ap, subst, ◌∙◌, arith, inl, inr, ◌⊎◌}
use Rattle.std.specs.Int.{w16, to_be_bytes}
use Rattle.std.specs.Prelude.{slice_index, ◌==◌, ◌≢◌, ◌&&◌, nat_le, IfOk}
use Rattle.std.proofs.lemmas.Bool.{eqb-true, leb-true, le-leb}
use Rattle.std.proofs.lemmas.List.{length-drop, length-append}
use Rattle.bgp_codec.specs.declared.fault.Fault.{Fault}
use Rattle.bgp_codec.specs.declared.fault.CodecError.{CodecError}
use Rattle.bgp_codec.specs.declared.message.Message.{Message}
use Rattle.bgp_codec.specs.declared.message.Message.TheVariants.{OpenMsg, UpdateMsg, NoticeMsg, AliveMsg}
use Rattle.bgp_codec.specs.declared.rule.Rule.{Rule}
use Rattle.bgp_values.specs.declared.width.Width.{Width}
use Rattle.bgp_values.specs.declared.width.Width.TheVariants.{Two, Four}
use Rattle.bgp_codec.specs.Header.{kind_field, length_field, is_message_len, is_kind, length_fits, IsFrame}
use Rattle.bgp_codec.specs.Spelling.{IsWritable, IsOctets, Spells, SpellsBody, kind_of, framed, written, written_body}
use Rattle.bgp_codec.proofs.WritingLemmas.{length-written}
use Rattle.bgp_codec.specs.Reading.{Gives}
use Rattle.bgp_codec.specs.Opens.{open_reading, is_peer, number_fault, said_in}
use Rattle.bgp_codec.specs.Updates.{long_string}
use Rattle.bgp_codec.specs.UpdateReading.{update_reading}
use Rattle.bgp_codec.specs.Faults.{read_as, reading, body_reading, notice_reading, fault, fault_in, or_else, OneMessageOrFault, FaultFitsAMessage, WrittenIsSpelt, WrittenIsRead, IsFrom, PeersWritingIsRead}
use Rattle.bgp_codec.proofs.OpenLaws.{open_takes, open_again}
use Rattle.bgp_codec.proofs.FaultData.{FaultsWithin}
use Rattle.bgp_codec.proofs.OpenFaults.{open_faults}
use Rattle.bgp_codec.proofs.OctetLemmas.{octets_behind, octets_left, octets_right}
use Rattle.bgp_codec.proofs.UpdateLaws.{PrefixLaws, update_takes, update_again, update_written, update_faults}
use Rattle.bgp_codec.proofs.FrameLemmas.{frame_parts, framed_parts, HasParts, no_fault, good_header, long_notice, long_open, no_body}

chosen : {A : Type 0} (b : Bool) (x y z : A) → cond b x y ≡ z → ((b ≡ true) × (x ≡ z)) ⊎ ((b ≡ false) × (y ≡ z))
chosen true x y z e = inl (refl, e)
chosen false x y z e = inr (refl, e)

ok_is : (x y : Message) → (let z : Result Message Fault = Ok x in z ≡ Ok y) → x ≡ y
ok_is x y e = cc

first_of : (a b : Bool) → (a && b) ≡ true → a ≡ true
first_of true b e = refl
first_of false b e = absurd cc

second : (a b : Bool) → (a && b) ≡ true → b ≡ true
second true b e = e
second false b e = absurd cc

-- a body of two octets or more is its first two, and the rest
two_first : (body : List ℕ) → 2 ≤ length body → body ≡ slice_index body 0 ∷ slice_index body 1 ∷ drop 2 body
two_first [] h = absurd (omega arith)
two_first (a ∷ []) h = absurd (omega arith)
two_first (a ∷ b ∷ rest) h = refl

-- the prefixes of an UPDATE are spelt by octets
abbrev pub HasOctets : (rule : Rule) (body : List ℕ) (m : Message) → SpellsBody rule body m → Type 0
HasOctets rule body (OpenMsg o) s = Unit {0}
HasOctets rule body (UpdateMsg u) s = IsOctets s.withdrawn × IsOctets s.nlri
HasOctets rule body (NoticeMsg n) s = Unit {0}
HasOctets rule body AliveMsg s = Unit {0}

octets_of : (rule : Rule) (body : List ℕ) (m : Message) (s : SpellsBody rule body m) → IsOctets body → HasOctets rule body m s
octets_of rule body (OpenMsg o) s are = tt
octets_of rule body (UpdateMsg u) s are =
    let all : IsOctets (long_string s.withdrawn ++ (long_string s.attrs ++ s.nlri)) = subst IsOctets s.whole are in
    let back = octets_right (long_string s.withdrawn) (long_string s.attrs ++ s.nlri) all in (
      octets_right (to_be_bytes w16 (length s.withdrawn)) s.withdrawn (octets_left (long_string s.withdrawn) (long_string s.attrs ++ s.nlri) all),
      octets_right (long_string s.attrs) s.nlri back,
    )
octets_of rule body (NoticeMsg n) s are = tt
octets_of rule body AliveMsg s are = tt

-- what stands in a body reads as the message, whatever its kind
body_again : (laws : PrefixLaws) (rule : Rule) (body : List ℕ) (m : Message) (s : SpellsBody rule body m) → HasOctets rule body m s → body_reading rule (kind_of m) body ≡ Ok m
body_again laws rule body (OpenMsg o) s are = ap (read_as OpenMsg) (ap (open_reading rule) s.whole ∙ open_again rule o s.fits s.peer s.said)
body_again laws rule body (UpdateMsg u) s are = ap (read_as UpdateMsg) (update_again laws rule body u s are.0 are.1)
body_again laws rule body (NoticeMsg n) e are = ap (λ (b : List ℕ). Ok (notice_reading b)) e
body_again laws rule body AliveMsg e are = refl

-- a body that spells a message is as long as its kind wants
long_enough : (rule : Rule) (body : List ℕ) (m : Message) → SpellsBody rule body m → (is_kind (kind_of m) ≡ true) × (length_fits (kind_of m) (19 + length body) ≡ true)
long_enough rule body (OpenMsg o) s = (refl, le-leb 29 (19 + length body) (omega (arith, ap length s.whole)))
long_enough rule body (UpdateMsg u) s = (
  refl,
  le-leb 23 (19 + length body)
      (omega (arith, ap length s.whole, length-append (long_string s.withdrawn) (long_string s.attrs ++ s.nlri), length-append (long_string s.attrs) s.nlri)),
)
long_enough rule body (NoticeMsg n) e = (refl, le-leb 21 (19 + length body) (omega (arith, ap length e)))
long_enough rule body AliveMsg e = (refl, eq-eqb (19 + length body) 19 (omega (arith, ap length e)))

in_bounds : (n : ℕ) → 19 ≤ n → n ≤ 4096 → is_message_len n ≡ true
in_bounds n low high = let a = le-leb 19 n low in let b = le-leb n 4096 high in rw (a, b) refl

bounds_of : (n : ℕ) → is_message_len n ≡ true → n ≤ 4096
bounds_of n t = leb-true n 4096 (second (nat_le 19 n) (nat_le n 4096) t)

frame_from_parts : (octets : List ℕ) (kind : ℕ) (body : List ℕ) → HasParts octets kind body → 19 + length body ≤ 4096 → is_kind kind ≡ true → length_fits kind (19 + length body) ≡ true → IsFrame octets
frame_from_parts octets kind body parts fits known long =
    let n : is_message_len (length_field octets) ≡ true = in_bounds (length_field octets) (omega (arith, parts.len)) (omega (arith, parts.len)) in
    let k : is_kind (kind_field octets) ≡ true = rw parts.kind_is known in
    let f : length_fits (kind_field octets) (length_field octets) ≡ true = ap (λ (j : ℕ). length_fits j (length_field octets)) parts.kind_is ∙ ap (length_fits kind) parts.len ∙ long in
    record {
      has_header = omega (arith, parts.size);
      good = no_fault octets (record { is_marked = parts.is_marked; is_long = n; is_known = k; fits = f });
      whole = parts.size ∙ sym parts.len;
    }

-- what is spelt so is a frame, and is read
pub spelt_read : (laws : PrefixLaws) (rule : Rule) (octets : List ℕ) (m : Message) (s : Spells rule octets m) → HasOctets rule s.body m s.spelt → IsFrame octets × (reading rule octets ≡ Ok m)
unfolding reading
spelt_read laws rule octets m s are =
    let parts : HasParts octets (kind_of m) s.body = subst (λ (bs : List ℕ). HasParts bs (kind_of m) s.body) (sym s.whole) (framed_parts (kind_of m) s.body (omega (arith, s.fits))) in
    let long = long_enough rule s.body m s.spelt in (
      frame_from_parts octets (kind_of m) s.body parts s.fits long.0 long.1,
      ap (λ (k : ℕ). body_reading rule k (drop 19 octets)) parts.kind_is ∙ ap (body_reading rule (kind_of m)) parts.body_is ∙ body_again laws rule s.body m s.spelt are,
    )

-- the octets of a frame are octets, and so are those of its body
frame_octets : (rule : Rule) (octets : List ℕ) (m : Message) (s : Spells rule octets m) → IsOctets octets → HasOctets rule s.body m s.spelt
frame_octets rule octets m s are =
    let parts : HasParts octets (kind_of m) s.body = subst (λ (bs : List ℕ). HasParts bs (kind_of m) s.body) (sym s.whole) (framed_parts (kind_of m) s.body (omega (arith, s.fits))) in
    octets_of rule s.body m s.spelt (subst IsOctets parts.body_is (octets_behind 19 octets are))

made : {A : Type 0} (make : A → Message) (r : Result A Fault) (m : Message) → read_as make r ≡ Ok m → (x : A) × (r ≡ Ok x) × (make x ≡ m)
made make (Ok x) m e = (x, refl, ok_is (make x) m e)
made make (Err f) m e = absurd cc

-- what a body of each type has to have
pub record HasBody (kind : ℕ) (body : List ℕ) : Type 0 where
  pub octets : IsOctets body
  pub known : is_kind kind ≡ true
  pub at_open : kind ≡ 1 → 10 ≤ length body
  pub at_notice : kind ≡ 3 → 2 ≤ length body
  pub at_alive : kind ≡ 4 → body ≡ []

not_equal : (n k : ℕ) → (n == k) ≡ false → n ≡ k → ⊥
not_equal n k f e = let t = eq-eqb n k e in absurd (let both = sym f ∙ t in cc)

-- none of the first three is the fourth
last_kind : (kind : ℕ) → is_kind kind ≡ true → (kind == 1) ≡ false → (kind == 2) ≡ false → (kind == 3) ≡ false → kind ≡ 4
last_kind kind known a b d =
    let high : kind ≤ 4 = leb-true kind 4 (second (nat_le 1 kind) (nat_le kind 4) known) in
    let low : 1 ≤ kind = leb-true 1 kind (first_of (nat_le 1 kind) (nat_le kind 4) known) in
    let no_one : kind ≢ 1 = not_equal kind 1 a in
    let no_two : kind ≢ 2 = not_equal kind 2 b in
    let no_three : kind ≢ 3 = not_equal kind 3 d in
    omega arith

-- what is read from a body is spelt by it
body_takes : (laws : PrefixLaws) (rule : Rule) (kind : ℕ) (body : List ℕ) (m : Message) → HasBody kind body → body_reading rule kind body ≡ Ok m → (kind ≡ kind_of m) × SpellsBody rule body m
body_takes laws rule kind body m has e =
    let Good : Message → Type 0 = λ n. (kind ≡ kind_of n) × SpellsBody rule body n in
    elim (chosen (kind == 1) (read_as OpenMsg (open_reading rule body)) _ (Ok m) e) [
      | inl z ↦
          let k : kind ≡ 1 = eqb-true kind 1 z.0 in
          let o = made OpenMsg (open_reading rule body) m z.1 in
          subst Good o.2 (k, open_takes rule body o.0 has.octets (has.at_open k) o.1)
      | inr z ↦ elim (chosen (kind == 2) (read_as UpdateMsg (update_reading rule body)) _ (Ok m) z.1) [
        | inl a ↦
            let k : kind ≡ 2 = eqb-true kind 2 a.0 in
            let u = made UpdateMsg (update_reading rule body) m a.1 in
            subst Good u.2 (k, update_takes laws rule body u.0 has.octets u.1)
        | inr a ↦ elim (chosen (kind == 3) (Ok (notice_reading body)) (Ok AliveMsg) (Ok m) a.1) [
          | inl b ↦
              let k : kind ≡ 3 = eqb-true kind 3 b.0 in
              subst Good (ok_is (notice_reading body) m b.1) (k, two_first body (has.at_notice k))
          | inr b ↦
              let k : kind ≡ 4 = last_kind kind has.known z.0 a.0 b.0 in
              subst Good (ok_is AliveMsg m b.1) (k, has.at_alive k)
        ]
      ]
    ]

-- what is read is spelt so
pub read_spelt : (laws : PrefixLaws) (rule : Rule) (octets : List ℕ) (m : Message) → IsOctets octets → IsFrame octets → reading rule octets ≡ Ok m → Spells rule octets m
unfolding reading
read_spelt laws rule octets m are frame e =
    let good = good_header octets frame.good in
    let has : HasBody (kind_field octets) (drop 19 octets) =
    record { octets = octets_behind 19 octets are; known = good.is_known; at_open = long_open octets frame; at_notice = long_notice octets frame; at_alive = no_body octets frame } in
    let taken = body_takes laws rule (kind_field octets) (drop 19 octets) m has e in
    let high : length_field octets ≤ 4096 = bounds_of (length_field octets) good.is_long in
    record {
      body = drop 19 octets;
      spelt = taken.1;
      fits = omega (arith, length-drop 19 octets, high, frame.whole, frame.has_header);
      whole = frame_parts octets are frame ∙ ap (λ (k : ℕ). framed k (drop 19 octets)) taken.0;
    }

message_from : (r : Result Message Fault) → fault_in r ≡ None → (m : Message) × (r ≡ Ok m)
message_from (Ok m) e = (m, refl)
message_from (Err f) e = absurd cc

-- the fault of a frame is that of its body
pub fault_of_frame : (rule : Rule) (octets : List ℕ) → IsFrame octets → fault rule octets ≡ fault_in (reading rule octets)
fault_of_frame rule octets frame = ap (λ (o : Option Fault). or_else o (fault_in (reading rule octets))) frame.good

pub fault_law : PrefixLaws → OneMessageOrFault
fault_law laws rule octets are frame = (
  λ none. let made = message_from (reading rule octets) (sym (fault_of_frame rule octets frame) ∙ none) in (made.0, read_spelt laws rule octets made.0 are frame made.1),
  λ m s. fault_of_frame rule octets frame ∙ ap fault_in (spelt_read laws rule octets m s (frame_octets rule octets m s are)).1,
  λ m n s t. ok_is m n (sym (spelt_read laws rule octets m s (frame_octets rule octets m s are)).1 ∙ (spelt_read laws rule octets n t (frame_octets rule octets n t are)).1),
)

-- an answer that is what reading gives, or want of memory
pub is_spelt : (laws : PrefixLaws) (rule : Rule) (octets : List ℕ) (r : Result Message CodecError) → IsOctets octets → IsFrame octets → Gives (λ m. m) r (reading rule octets)
    → IfOk r (λ m. Spells rule octets m)
is_spelt laws rule octets (Ok m) are frame told = read_spelt laws rule octets m are frame told
is_spelt laws rule octets (Err e) are frame told = tt

-- under a rule that names nobody every message passes for the peer's
nobody_said : (width : Width) (said : Option ℕ) → number_fault width None None said ≡ None
nobody_said Two said = refl
nobody_said Four None = refl
nobody_said Four (Some asn) = refl

from_nobody : (rule : Rule) (m : Message) → rule.peer ≡ None → rule.own ≡ None → IsFrom rule m
from_nobody rule (OpenMsg o) nobody none = (
  ap (λ (peer : Option ℕ). is_peer rule.width peer o.asn) nobody,
  ap (λ (own : Option ℕ). number_fault rule.width own rule.peer (said_in o.params)) none ∙ ap (λ (peer : Option ℕ). number_fault rule.width None peer (said_in o.params)) nobody ∙ nobody_said rule.width (said_in o.params),
)
from_nobody rule (UpdateMsg u) nobody none = λ some. rw nobody refl
from_nobody rule (NoticeMsg n) nobody none = tt
from_nobody rule AliveMsg nobody none = tt

-- what is written spells the message, its prefixes by octets
body_spelt : (rule : Rule) (m : Message) → IsFrom rule m → IsWritable rule m → (s : SpellsBody rule (written_body rule.width m) m) × HasOctets rule (written_body rule.width m) m s
body_spelt rule (OpenMsg o) from may = (record { fits = may; peer = from.0; said = from.1; whole = refl }, tt)
body_spelt rule (UpdateMsg u) from may = update_written u rule from may
body_spelt rule (NoticeMsg n) from may = (refl, tt)
body_spelt rule AliveMsg from may = (refl, tt)

pub written_spelt : WrittenIsSpelt
written_spelt rule m nobody none may fits =
    record { body = written_body rule.width m; spelt = (body_spelt rule m (from_nobody rule m nobody none) may).0; fits = omega (arith, fits, length-written rule.width m); whole = refl }

pub peers_writing_read : PrefixLaws → PeersWritingIsRead
peers_writing_read laws rule m from may fits =
    let both = body_spelt rule m from may in
    spelt_read laws rule (written rule.width m) m (record { body = written_body rule.width m; spelt = both.0; fits = omega (arith, fits, length-written rule.width m); whole = refl }) both.1

pub written_read : PrefixLaws → WrittenIsRead
written_read laws rule m nobody none may fits = peers_writing_read laws rule m (from_nobody rule m nobody none) may fits

-- ---- the data of a fault

as_within : {A : Type 0} (n k : ℕ) (make : A → Message) (r : Result A Fault) → n ≤ k → FaultsWithin n r → FaultsWithin k (read_as make r)
as_within n k make (Ok x) le h = tt
as_within n k make (Err f) le h = omega (arith, h)

either : (k : ℕ) (b : Bool) (x y : Result Message Fault) → FaultsWithin k x → FaultsWithin k y → FaultsWithin k (cond b x y)
either k true x y h g = h
either k false x y h g = g

-- an attribute stands behind the two lengths of a body
body_faults : (rule : Rule) (kind : ℕ) (body : List ℕ) → length body ≤ 4077 → FaultsWithin 4075 (body_reading rule kind body)
body_faults rule kind body short =
    either 4075 (kind == 1) _ _ (as_within 6 4075 OpenMsg (open_reading rule body) (omega arith) (open_faults rule body))
    (either 4075 (kind == 2) _ _ (as_within 4075 4075 UpdateMsg (update_reading rule body) (omega arith) (update_faults rule body 4075 (omega (arith, short)) (omega arith)))
    (either 4075 (kind == 3) _ _ tt tt))

within_is : (r : Result Message Fault) (f : Fault) (k : ℕ) → FaultsWithin k r → fault_in r ≡ Some f → length f.extra ≤ k
within_is (Ok m) f k h e = absurd cc
within_is (Err g) f k h e = let same : g ≡ f = cc in subst (λ (x : Fault). length x.extra ≤ k) same h

pub fits_law : FaultFitsAMessage
unfolding reading
fits_law rule octets first frame e =
    let high : length_field octets ≤ 4096 = bounds_of (length_field octets) (good_header octets frame.good).is_long in
    within_is (reading rule octets) first 4075 (body_faults rule (kind_field octets) (drop 19 octets) (omega (arith, length-drop 19 octets, high, frame.whole))) (sym (fault_of_frame rule octets frame) ∙ e)
