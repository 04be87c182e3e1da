-- What is spelt is writable, and what is written of it is no longer.
use Rattle.std.proofs.Common.{◌≡◌, ℕ, ◌+◌, ◌<◌, ◌≤◌, Bool, true, false, List, [], ◌∷◌, ◌++◌, length, refl, sym, ap, ◌∙◌, arith, IsPermutation}
use Rattle.std.specs.Prelude.{nat_le}
use Rattle.std.specs.List.{flat_map, AllByRecursion}
use Rattle.std.specs.Int.{w32, to_be_bytes}
use Rattle.std.proofs.lemmas.Bool.{leb-true}
use Rattle.std.proofs.lemmas.List.{length-append, length-take}
use Rattle.std.proofs.lemmas.List.Concat.{length-flat_map}
use Rattle.std.proofs.lemmas.List.Sorted.{sum_by-IsPermutation}
use Rattle.prefix_lanes.specs.Bits.{PrefixView, IsCanonical}
use Rattle.bgp_codec.specs.declared.attributes.Attrs.{Attrs}
use Rattle.bgp_codec.specs.declared.attributes.Raw.{Raw}
use Rattle.bgp_codec.specs.declared.message.Message.{Message}
use Rattle.bgp_codec.specs.declared.message.Message.TheVariants.{OpenMsg, UpdateMsg, NoticeMsg, AliveMsg}
use Rattle.bgp_codec.specs.declared.rule.Rule.{Rule}
use Rattle.bgp_values.specs.declared.width.Width.{Width}
use Rattle.bgp_codec.specs.declared.update.Update.{Update}
use Rattle.bgp_codec.specs.Spelling.{SpellsBody, IsWritable, kind_of, written_body}
use Rattle.bgp_codec.specs.Updates.{SpellsEach, octet_count, SpellsPrefix, attr_octets, SpellsAttr, SpellsAttrs, size_limit, attributes, long_string, SpellsUpdate, UpdateFits, prefix_octets, raw_octets, attrs_octets, update_octets}
use Rattle.bgp_codec.specs.Faults.{SpeltIsWritable}
use Rattle.bgp_codec.proofs.FrameLemmas.{framed_parts}
use Rattle.bgp_codec.proofs.WritingLemmas.{length-written}

-- ---- one value after the other

-- what holds of each value that is spelt
each_holds : {A : Type 0} (P : A → Type 0) (spells : List ℕ → A → Type 0) (octets : List ℕ) (values : List A) → ((front : List ℕ) (x : A) → spells front x → P x)
    → SpellsEach spells octets values → AllByRecursion P values
each_holds P spells octets [] h e = tt
each_holds P spells octets (x ∷ xs) h p = (h p.0 x p.2, each_holds P spells p.1 xs h p.3)

-- where each value is written no longer than it is spelt, so are all of them
each_short : {A : Type 0} (spells : List ℕ → A → Type 0) (write : A → List ℕ) (octets : List ℕ) (values : List A) → ((front : List ℕ) (x : A) → spells front x → length (write x) ≤ length front)
    → SpellsEach spells octets values → length (flat_map write values) ≤ length octets
each_short spells write octets [] h e = omega arith
each_short spells write octets (x ∷ xs) h p =
    omega (arith, h p.0 x p.2, each_short spells write p.1 xs h p.3, length-append (write x) (flat_map write xs), length-append p.0 p.1, ap length p.4)

-- the order of values has no part in how long they are
permuted_length : {A : Type 0} (write : A → List ℕ) (xs ys : List A) → IsPermutation xs ys → length (flat_map write ys) ≡ length (flat_map write xs)
permuted_length write xs ys order =
    length-flat_map write ys ∙ sum_by-IsPermutation (λ x. length (write x)) xs ys order ∙ sym (length-flat_map write xs)

-- ---- prefixes

-- as many octets of the address as are spelt
prefix_short : (front : List ℕ) (p : PrefixView) → SpellsPrefix front p → length (prefix_octets p) ≤ length front
prefix_short front p s = omega (arith, ap length s.whole, s.size, length-take (octet_count p.len) (to_be_bytes w32 p.addr))

prefixes_canonical : (octets : List ℕ) (ps : List PrefixView) → SpellsEach SpellsPrefix octets ps → AllByRecursion IsCanonical ps
prefixes_canonical octets ps each = each_holds IsCanonical SpellsPrefix octets ps (λ front p s. s.canonical) each

prefixes_short : (octets : List ℕ) (ps : List PrefixView) → SpellsEach SpellsPrefix octets ps → length (flat_map prefix_octets ps) ≤ length octets
prefixes_short octets ps each = each_short SpellsPrefix prefix_octets octets ps prefix_short each

-- ---- attributes

-- Extended Length is written only where a length of one octet has no room
form_short : (r : Raw) (wide extended : Bool) (low : ℕ) → nat_le 256 (length r.value) ≡ wide → length r.value < size_limit extended
    → length (attr_octets wide 0 r) ≤ length (attr_octets extended low r)
form_short r true true low e lt = omega arith
form_short r true false low e lt = absurd (omega (arith, leb-true 256 (length r.value) e, lt))
form_short r false true low e lt = omega arith
form_short r false false low e lt = omega arith

attr_short : (front : List ℕ) (r : Raw) → SpellsAttr front r → length (raw_octets r) ≤ length front
attr_short front r s = omega (arith, ap length s.whole, form_short r (nat_le 256 (length r.value)) s.extended s.low refl s.size)

attrs_short : (width : Width) (octets : List ℕ) (a : Attrs) → SpellsAttrs width octets a → length (attrs_octets width a) ≤ length octets
attrs_short width octets a s = omega (arith, permuted_length raw_octets s.raws (attributes width a) s.order, each_short SpellsAttr raw_octets octets s.raws attr_short s.each)

-- ---- a message

-- three parts, two of them behind their lengths
parts_length : (withdrawn attrs nlri : List ℕ) → length (long_string withdrawn ++ (long_string attrs ++ nlri)) ≡ 4 + (length withdrawn + (length attrs + length nlri))
parts_length withdrawn attrs nlri = omega (arith, length-append withdrawn (long_string attrs ++ nlri), length-append attrs nlri)

update_writable : (rule : Rule) (body : List ℕ) (u : Update) → SpellsUpdate rule body u → UpdateFits rule.width u × (length (update_octets rule.width u) ≤ length body)
update_writable rule body u s =
    let withdrawn = prefixes_short s.withdrawn u.withdrawn s.withdrawn_are in
    let attrs = attrs_short rule.width s.attrs u.attrs s.attrs_are in
    let nlri = prefixes_short s.nlri u.nlri s.nlri_are in (
      record {
        withdrawn = prefixes_canonical s.withdrawn u.withdrawn s.withdrawn_are;
        attrs = s.attrs_fit;
        nlri = prefixes_canonical s.nlri u.nlri s.nlri_are;
        mandatory = λ some. (s.announced some).mandatory;
        withdrawn_size = omega (arith, withdrawn, s.withdrawn_size);
        attrs_size = omega (arith, attrs, s.attrs_size);
      },
      omega (
        arith,
        withdrawn,
        attrs,
        nlri,
        parts_length (flat_map prefix_octets u.withdrawn) (attrs_octets rule.width u.attrs) (flat_map prefix_octets u.nlri),
        parts_length s.withdrawn s.attrs s.nlri,
        ap length s.whole,
      ),
    )

body_writable : (rule : Rule) (body : List ℕ) (m : Message) → SpellsBody rule body m → IsWritable rule m × (length (written_body rule.width m) ≤ length body)
body_writable rule body (OpenMsg o) s = (s.fits, omega (arith, ap length s.whole))
body_writable rule body (UpdateMsg u) s = update_writable rule body u s
body_writable rule body (NoticeMsg n) e = (tt, omega (arith, ap length e))
body_writable rule body AliveMsg e = (tt, omega arith)

pub spelt_writable : SpeltIsWritable
spelt_writable rule octets m s =
    let body = body_writable rule s.body m s.spelt in
    let parts = framed_parts (kind_of m) s.body (omega (arith, s.fits)) in
    (body.0, omega (arith, body.1, length-written rule.width m, ap length s.whole, parts.size))
