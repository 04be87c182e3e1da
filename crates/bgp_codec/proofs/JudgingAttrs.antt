-- What is remembered of attributes that are passed.
use Rattle.std.proofs.Common.{◌≡◌, ℕ, zero, suc, ◌+◌, ◌*◌, ◌<◌, ◌≤◌, Bool, true, false, cond, List, [], ◌∷◌, ◌++◌, length, take, drop, get_or, set, Option, Some, None, Result, Ok, Err, refl, sym, ap, subst, ◌∙◌, arith, eq-eqb, ne_eqb, inl, inr}
use Rattle.std.specs.Borrow.{Bor}
use Rattle.std.specs.Prelude.{slice_index, ◌==◌, ◌||◌, ◌≢◌, nat_lt, replicate, is_some, IfSome, if◌then◌else◌}
use Rattle.std.specs.List.{flat_map, list_any}
use Rattle.std.proofs.lemmas.Bool.{cases_eq, cond_both}
use Rattle.std.proofs.lemmas.List.{get_or-set_same, get_or-set_other, length-set, get_or-replicate}
use Rattle.bgp_values.specs.declared.width.Width.{Width}
use Rattle.bgp_values.specs.declared.width.Width.TheVariants.{Two, Four}
use Rattle.bgp_codec.specs.declared.fault.Fault.{Fault}
use Rattle.bgp_codec.specs.declared.attributes.Attrs.{Attrs}
use Rattle.bgp_codec.specs.declared.attributes.Raw.{Raw}
use Rattle.bgp_codec.specs.declared.path.Segment.{Segment}
use Rattle.bgp_codec.specs.declared.judging.Came.{Came}
use Rattle.bgp_codec.specs.Reading.{Reader, all_of}
use Rattle.bgp_codec.specs.Judging.{Remembers, first_number}
use Rattle.bgp_codec.specs.AttrTable.{high_flags, is_known, flags_fit, size_fits}
use Rattle.bgp_codec.specs.Updates.{raw_of, path_numbers}
use Rattle.bgp_codec.specs.UpdateReading.{attr_fault, segment_at, path_reading, aggregator_of, with_origin, with_path, with_next_hop, with_med, with_local_pref, with_atomic, with_aggregator, with_other, no_attrs, has_code, put_raw, with_attr}
use Rattle.bgp_codec.specs.AsNumbers.{address_at, asn_size, asn_at, numbers_of}
use Rattle.bgp_codec.proofs.EachLemmas.{Shortens, each_none, each_step, each_fault, front_found}
use Rattle.bgp_codec.proofs.PathLemmas.{segment_shortens, segment_parts, one_inside}
use Rattle.bgp_codec.proofs.AttrSteps.{guarded}
use Rattle.bgp_codec.proofs.AttrLists.{has_other}
use Rattle.bgp_codec.proofs.AttrItems.{value_by, known_small, tests_passed, made_of, path_read, hop_read}

-- ---- the first number of a path

-- the values that some octets were read as begin with the one in front
front_of : {A : Type 0} (read : Reader A) (x : ℕ) (xs : List ℕ) (values : List A) (r : Result (A × List ℕ) Fault) → read (x ∷ xs) ≡ r → Shortens read → all_of read (x ∷ xs) ≡ Ok values
    → (v : A × List ℕ) × (vs : List A) × (r ≡ Ok v) × (v.0 ∷ vs ≡ values)
front_of read x xs values (Ok v) is s e =
    let f = front_found v.0 (all_of read v.1) values (sym (each_step read (x ∷ xs) v.1 v.0 s is) ∙ e) in
    (v, f.0, refl, f.2)
front_of read x xs values (Err f) is s e = absurd (let both = sym (each_fault read x xs f is) ∙ e in cc)

-- the first of numbers
first_of_two : (n : ℕ) (octets : List ℕ) → 2 ≤ n → 2 ≤ length octets → first_number (numbers_of Two (take n octets)) ≡ Some (asn_at Two octets)
first_of_two zero octets h k = absurd (omega arith)
first_of_two (suc zero) octets h k = absurd (omega arith)
first_of_two (suc (suc n)) [] h k = absurd (omega arith)
first_of_two (suc (suc n)) (a ∷ []) h k = absurd (omega arith)
first_of_two (suc (suc n)) (a ∷ b ∷ rest) h k = refl

first_of_four : (n : ℕ) (octets : List ℕ) → 4 ≤ n → 4 ≤ length octets → first_number (numbers_of Four (take n octets)) ≡ Some (asn_at Four octets)
first_of_four zero octets h k = absurd (omega arith)
first_of_four (suc zero) octets h k = absurd (omega arith)
first_of_four (suc (suc zero)) octets h k = absurd (omega arith)
first_of_four (suc (suc (suc zero))) octets h k = absurd (omega arith)
first_of_four (suc (suc (suc (suc n)))) [] h k = absurd (omega arith)
first_of_four (suc (suc (suc (suc n)))) (a ∷ []) h k = absurd (omega arith)
first_of_four (suc (suc (suc (suc n)))) (a ∷ b ∷ []) h k = absurd (omega arith)
first_of_four (suc (suc (suc (suc n)))) (a ∷ b ∷ c ∷ []) h k = absurd (omega arith)
first_of_four (suc (suc (suc (suc n)))) (a ∷ b ∷ c ∷ d ∷ rest) h k = refl

first_in : (width : Width) (n : ℕ) (octets : List ℕ) → asn_size width ≤ n → asn_size width ≤ length octets → first_number (numbers_of width (take n octets)) ≡ Some (asn_at width octets)
first_in Two n octets h k = first_of_two n octets h k
first_in Four n octets h k = first_of_four n octets h k

-- what is joined begins as its front does, where that has a number
first_joined : (xs ys : List ℕ) (n : ℕ) → first_number xs ≡ Some n → first_number (xs ++ ys) ≡ Some n
first_joined [] ys n e = absurd cc
first_joined (x ∷ xs) ys n e = e

-- the first number of a path, as it stands in the octets
abbrev pub number_in_front : Width → List ℕ → Option ℕ
number_in_front width [] = None
number_in_front width (code ∷ rest) = Some (asn_at width (drop 1 rest))

-- a segment that was read has a number
pub record HasFirst (width : Width) (octets : List ℕ) (segments : List Segment) : Type 0 where
  pub first : first_number (path_numbers (Some segments)) ≡ number_in_front width octets
  pub long : 1 ≤ length octets → 2 + asn_size width ≤ length octets

nothing : (segments : List Segment) → (let r : Result (List Segment) Fault = Ok [] in r ≡ Ok segments) → [] ≡ segments
nothing segments e = cc

pub path_first : (width : Width) (octets : List ℕ) (segments : List Segment) → path_reading width octets ≡ Ok segments → HasFirst width octets segments
path_first width [] segments e =
    let none = nothing segments (sym (each_none (segment_at width)) ∙ e) in
    subst (HasFirst width []) none (record { first = refl; long = λ h. absurd (omega arith) })
path_first width (code ∷ []) segments e = let f = front_of (segment_at width) code [] segments (segment_at width (code ∷ [])) refl (segment_shortens width) e in absurd (let q = f.2 in cc)
path_first width (code ∷ count ∷ rest) segments e =
    let f = front_of (segment_at width) code (count ∷ rest) segments (segment_at width (code ∷ count ∷ rest)) refl (segment_shortens width) e in
    let p = segment_parts width code count rest f.0.0 f.0.1 f.2 in
    let numbers : numbers_of width (take (asn_size width * count) rest) ≡ f.0.0.numbers = ap (λ (s : Segment). s.numbers) p.1 in
    let one = one_inside width count p.0.some in
    let inside : asn_size width ≤ length rest = omega (arith, one, p.0.size) in
    let first = first_in width (asn_size width * count) rest one inside in
    record {
      first = ap (λ (ss : List Segment). first_number (flat_map (λ s. s.numbers) ss)) (sym f.3) ∙ first_joined f.0.0.numbers (flat_map (λ s. s.numbers) f.1) _ (ap first_number (sym numbers) ∙ first);
      long = λ h. omega (arith, inside);
    }

-- less than two octets are the path without a number
pub not_first : (width : Width) (octets : List ℕ) (segments : List Segment) → length octets < 2 → path_reading width octets ≡ Ok segments → None ≡ first_number (path_numbers (Some segments))
not_first width [] segments h e = sym (path_first width [] segments e).first
not_first width (x ∷ xs) segments h e = let long = (path_first width (x ∷ xs) segments e).long (omega arith) in absurd (omega (arith, long))

-- two or more have it behind the two of the first segment
pub is_first : (width : Width) (octets : List ℕ) (segments : List Segment) → 2 ≤ length octets → path_reading width octets ≡ Ok segments
    → Some (asn_at width (drop 2 octets)) ≡ first_number (path_numbers (Some segments))
is_first width [] segments h e = absurd (omega arith)
is_first width (x ∷ xs) segments h e = sym (path_first width (x ∷ xs) segments e).first

-- ---- the codes that are there

-- one attribute more: its code is there, and else what was; the path is its value, or what it was, and so is the next hop
pub record Adds (width : Width) (code : ℕ) (value : List ℕ) (a b : Attrs) : Type 0 where
  pub same : has_code b code ≡ true
  pub others : (other : ℕ) → other ≢ code → has_code b other ≡ has_code a other
  pub path : code ≡ 2 → (segments : List Segment) × (path_reading width value ≡ Ok segments) × (b.path ≡ Some segments)
  pub kept : code ≢ 2 → b.path ≡ a.path
  pub hop : code ≡ 3 → b.next_hop ≡ Some (address_at value 0)
  pub hop_kept : code ≢ 3 → b.next_hop ≡ a.next_hop

origin_adds : (width : Width) (a : Attrs) (value : List ℕ) (o : ℕ) → Adds width 1 value a (with_origin a o)
origin_adds width a value o =
    record { same = refl; others = λ k ne. let f : (k == 1) ≡ false = ne_eqb k 1 ne in rw f refl; path = λ e. absurd (omega arith); kept = λ ne. refl; hop = λ e. absurd (omega arith); hop_kept = λ ne. refl }

path_adds : (width : Width) (a : Attrs) (value : List ℕ) (p : List Segment) → path_reading width value ≡ Ok p → Adds width 2 value a (with_path a p)
path_adds width a value p read =
    record { same = refl; others = λ k ne. let f : (k == 2) ≡ false = ne_eqb k 2 ne in rw f refl; path = λ e. (p, read, refl); kept = λ ne. absurd (ne refl); hop = λ e. absurd (omega arith); hop_kept = λ ne. refl }

next_hop_adds : (width : Width) (a : Attrs) (value : List ℕ) → Adds width 3 value a (with_next_hop a (address_at value 0))
next_hop_adds width a value =
    record {
      same = refl;
      others = λ k ne. let f : (k == 3) ≡ false = ne_eqb k 3 ne in rw f refl;
      path = λ e. absurd (omega arith);
      kept = λ ne. refl;
      hop = λ e. refl;
      hop_kept = λ ne. absurd (ne refl);
    }

med_adds : (width : Width) (a : Attrs) (value : List ℕ) (n : ℕ) → Adds width 4 value a (with_med a n)
med_adds width a value n =
    record { same = refl; others = λ k ne. let f : (k == 4) ≡ false = ne_eqb k 4 ne in rw f refl; path = λ e. absurd (omega arith); kept = λ ne. refl; hop = λ e. absurd (omega arith); hop_kept = λ ne. refl }

local_pref_adds : (width : Width) (a : Attrs) (value : List ℕ) (n : ℕ) → Adds width 5 value a (with_local_pref a n)
local_pref_adds width a value n =
    record { same = refl; others = λ k ne. let f : (k == 5) ≡ false = ne_eqb k 5 ne in rw f refl; path = λ e. absurd (omega arith); kept = λ ne. refl; hop = λ e. absurd (omega arith); hop_kept = λ ne. refl }

atomic_adds : (width : Width) (a : Attrs) (value : List ℕ) → Adds width 6 value a (with_atomic a)
atomic_adds width a value =
    record { same = refl; others = λ k ne. let f : (k == 6) ≡ false = ne_eqb k 6 ne in rw f refl; path = λ e. absurd (omega arith); kept = λ ne. refl; hop = λ e. absurd (omega arith); hop_kept = λ ne. refl }

aggregator_adds : (width : Width) (a : Attrs) (value : List ℕ) (flags : ℕ) → Adds width 7 value a (with_aggregator a (aggregator_of width value flags))
aggregator_adds width a value flags =
    record { same = refl; others = λ k ne. let f : (k == 7) ≡ false = ne_eqb k 7 ne in rw f refl; path = λ e. absurd (omega arith); kept = λ ne. refl; hop = λ e. absurd (omega arith); hop_kept = λ ne. refl }

-- a value of a known code that is taken
value_adds : (width : Width) (code : ℕ) (a b : Attrs) (attr value : List ℕ) → is_known code ≡ true → value_by width code a attr value ≡ Ok b → Adds width code value a b
value_adds width zero a b attr value known e = absurd cc
value_adds width (suc zero) a b attr value known e =
    let g = guarded (nat_lt 2 (slice_index value 0)) (attr_fault 6 attr) (with_origin a (slice_index value 0)) b e in
    subst (Adds width 1 value a) g.1 (origin_adds width a value (slice_index value 0))
value_adds width (suc (suc zero)) a b attr value known e =
    let p = path_read a b (path_reading width value) e in
    subst (Adds width 2 value a) p.2 (path_adds width a value p.0 p.1)
value_adds width (suc (suc (suc zero))) a b attr value known e =
    let h = hop_read a b (address_at value 0) (attr_fault 8 attr) _ e in
    subst (Adds width 3 value a) h.1 (next_hop_adds width a value)
value_adds width (suc (suc (suc (suc zero)))) a b attr value known e = subst (Adds width 4 value a) (made_of _ b e) (med_adds width a value (address_at value 0))
value_adds width (suc (suc (suc (suc (suc zero))))) a b attr value known e = subst (Adds width 5 value a) (made_of _ b e) (local_pref_adds width a value (address_at value 0))
value_adds width (suc (suc (suc (suc (suc (suc zero)))))) a b attr value known e = subst (Adds width 6 value a) (made_of _ b e) (atomic_adds width a value)
value_adds width (suc (suc (suc (suc (suc (suc (suc zero))))))) a b attr value known e = subst (Adds width 7 value a) (made_of _ b e) (aggregator_adds width a value (slice_index attr 0))
value_adds width (suc (suc (suc (suc (suc (suc (suc (suc n)))))))) a b attr value known e =
    let le = known_small (suc (suc (suc (suc (suc (suc (suc (suc n)))))))) known in absurd (omega (arith, le))

second_first : (b c d : Bool) → (b || (c || d)) ≡ (c || (b || d))
second_first true true d = refl
second_first true false d = refl
second_first false true d = refl
second_first false false d = refl

-- a test passes where the one that is put passes it, or one of those before
any_put : (p : Raw → Bool) (r : Raw) (rs : List Raw) → list_any p (put_raw r rs) ≡ (p r || list_any p rs)
any_put p r [] = refl
any_put p r (s ∷ rs) =
    cond_both (nat_lt r.code s.code) (r ∷ s ∷ rs) (s ∷ put_raw r rs) (λ ys. list_any p ys ≡ (p r || (p s || list_any p rs)))
    (λ _. refl)
    (λ _. ap (λ (b : Bool). p s || b) (any_put p r rs) ∙ second_first (p s) (p r) (list_any p rs))

-- the tests of known codes, then this answer
abbrev pub known_first : Attrs → ℕ → Bool → Bool
known_first a code last =
    if code == 1 then is_some a.origin
    else if code == 2 then is_some a.path
    else if code == 3 then is_some a.next_hop
    else if code == 4 then is_some a.med
    else if code == 5 then is_some a.local_pref
    else if code == 6 then a.atomic
    else if code == 7 then is_some a.aggregator
    else last

raw_adds : (width : Width) (a : Attrs) (value : List ℕ) (r : Raw) → is_known r.code ≡ false → Adds width r.code value a (with_other a (put_raw r a.other))
raw_adds width a value r unknown =
    let b = with_other a (put_raw r a.other) in
    let itself : (r.code == r.code) ≡ true = eq-eqb r.code r.code refl in
    record {
      same = has_other b r.code unknown ∙ any_put (λ s. s.code == r.code) r a.other ∙ ap (λ (t : Bool). t || list_any (λ s. s.code == r.code) a.other) itself;
      others = λ k ne.
          let f : (r.code == k) ≡ false = ne_eqb r.code k (λ e. ne (sym e)) in
          ap (known_first a k) (any_put (λ s. s.code == k) r a.other ∙ ap (λ (t : Bool). t || list_any (λ s. s.code == k) a.other) f);
      path = λ e. absurd (let both = sym unknown ∙ ap is_known e in cc);
      kept = λ ne. refl;
      hop = λ e. absurd (let both = sym unknown ∙ ap is_known e in cc);
      hop_kept = λ ne. refl;
    }

-- an attribute that is taken
pub attr_adds : (width : Width) (a b : Attrs) (attr value : List ℕ) → with_attr width a attr value ≡ Ok b → Adds width (slice_index attr 1) value a b
attr_adds width a b attr value e =
    let code = slice_index attr 1 in
    let t = tests_passed (has_code a code) (is_known code) (flags_fit code (slice_index attr 0)) (size_fits width code (length value)) _ _ _ _ _ b e in
    elim t.1 [
      | inl other ↦
          let r = raw_of (high_flags (slice_index attr 0)) code value in
          let g = guarded (nat_lt (slice_index attr 0) 128) (attr_fault 2 attr) (with_other a (put_raw r a.other)) b other.1 in
          subst (Adds width code value a) g.1 (raw_adds width a value r other.0)
      | inr known ↦ (value_adds width) code a b attr value known.0 known.1.1.1
    ]

-- ---- what is remembered

-- a mark more
pub marked : (width : Width) (codes : List Bool) (a b : Attrs) (code : ℕ) (value : List ℕ) → code < 256 → length codes ≡ 256 → ((k : ℕ) → k < 256 → get_or codes k false ≡ has_code a k) → Adds width code value a b
    → (k : ℕ) → k < 256 → get_or (set codes code true) k false ≡ has_code b k
marked width codes a b code value small all marks adds k h =
    elim (cases_eq k code) [
      | inl same ↦
          ap (λ (j : ℕ). get_or (set codes code true) j false) same ∙ get_or-set_same codes code true false (omega (arith, all)) ∙ sym adds.same ∙ ap (has_code b) (sym same)
      | inr other ↦ get_or-set_other codes code k true false other ∙ marks k h ∙ sym (adds.others k other)
    ]

-- a path came
pub path_remembered : (width : Width) (came : Came) (a b : Attrs) (attr : List ℕ) (value : Bor (List ℕ)) → slice_index attr 1 < 256 → slice_index attr 1 ≡ 2
    → Remembers width came a → with_attr width a attr value.now ≡ Ok b
    → Remembers width (record { codes = set came.codes (slice_index attr 1) true; path = Some value; next_hop = came.next_hop }) b
path_remembered width came a b attr value small two r e =
    let adds = attr_adds width a b attr value.now e in
    record {
      marks = length-set came.codes (slice_index attr 1) true ∙ r.marks;
      codes = marked width came.codes a b (slice_index attr 1) value.now small r.marks r.codes adds;
      path = adds.path two;
      no_path = λ none. absurd cc;
      next_hop = r.next_hop ∙ sym (adds.hop_kept (λ three. omega (arith, two, three)));
    }

-- the path that was remembered, as another attribute leaves it
path_kept : (width : Width) (path : Option (Bor (List ℕ))) (a b : Attrs) → b.path ≡ a.path → IfSome path (λ octets. (ss : List Segment) × (path_reading width octets.now ≡ Ok ss) × (a.path ≡ Some ss))
    → IfSome path (λ octets. (ss : List Segment) × (path_reading width octets.now ≡ Ok ss) × (b.path ≡ Some ss))
path_kept width None a b same has = tt
path_kept width (Some octets) a b same has = (has.0, has.1, same ∙ has.2)

-- a next hop came
pub hop_remembered : (width : Width) (came : Came) (a b : Attrs) (attr value : List ℕ) → slice_index attr 1 < 256 → slice_index attr 1 ≡ 3
    → Remembers width came a → with_attr width a attr value ≡ Ok b
    → Remembers width (record { codes = set came.codes (slice_index attr 1) true; path = came.path; next_hop = Some (address_at value 0) }) b
hop_remembered width came a b attr value small three r e =
    let adds = attr_adds width a b attr value e in
    let same = adds.kept (λ two. omega (arith, two, three)) in
    record {
      marks = length-set came.codes (slice_index attr 1) true ∙ r.marks;
      codes = marked width came.codes a b (slice_index attr 1) value small r.marks r.codes adds;
      path = path_kept width came.path a b same r.path;
      no_path = λ none. same ∙ r.no_path none;
      next_hop = sym (adds.hop three);
    }

-- another attribute came
pub other_remembered : (width : Width) (came : Came) (a b : Attrs) (attr value : List ℕ) → slice_index attr 1 < 256 → slice_index attr 1 ≢ 2 → slice_index attr 1 ≢ 3
    → Remembers width came a → with_attr width a attr value ≡ Ok b
    → Remembers width (record { codes = set came.codes (slice_index attr 1) true; path = came.path; next_hop = came.next_hop }) b
other_remembered width came a b attr value small no_path no_hop r e =
    let adds = attr_adds width a b attr value e in
    let same = adds.kept no_path in
    record {
      marks = length-set came.codes (slice_index attr 1) true ∙ r.marks;
      codes = marked width came.codes a b (slice_index attr 1) value small r.marks r.codes adds;
      path = path_kept width came.path a b same r.path;
      no_path = λ none. same ∙ r.no_path none;
      next_hop = r.next_hop ∙ sym (adds.hop_kept no_hop);
    }

-- ---- where nothing came

pass_on : (b c : Bool) → c ≡ false → cond b false c ≡ false
pass_on true c e = refl
pass_on false c e = e

-- no code is there
pub none_there : (k : ℕ) → has_code no_attrs k ≡ false
none_there k =
    pass_on (k == 1) _ (pass_on (k == 2) _ (pass_on (k == 3) _ (pass_on (k == 4) _ (pass_on (k == 5) _ (pass_on (k == 6) _ (pass_on (k == 7) false refl))))))

pub nothing_remembered : (width : Width) → Remembers width (record { codes = replicate 256 false; path = None; next_hop = None }) no_attrs
nothing_remembered width = record { marks = refl; codes = λ k h. get_or-replicate 256 k false false h ∙ sym (none_there k); path = tt; no_path = λ none. refl; next_hop = refl }
