-- Passes over octets that take no memory for values: what they find is what reading finds.
use Rattle.std.proofs.Common.{◌≡◌, ℕ, zero, suc, ◌<◌, ◌≤◌, Bool, true, false, cond, List, [], ◌∷◌, ◌++◌, length, Option, None, Result, Ok, Err, refl, sym, ap, subst, ◌∙◌, arith, eq-eqb, ne_eqb}
use Rattle.std.specs.Option.{option_or}
use Rattle.bgp_values.specs.declared.width.Width.{Width}
use Rattle.bgp_codec.specs.declared.fault.Fault.{Fault}
use Rattle.bgp_codec.specs.declared.fault.CodecError.{CodecError}
use Rattle.bgp_codec.specs.declared.fault.CodecError.TheVariants as errors
use Rattle.std.specs.Prelude.{slice_index, nat_lt, ◌==◌, not}
use Rattle.bgp_codec.specs.declared.message.Message.{Message}
use Rattle.bgp_codec.specs.declared.open.Cap.{Cap}
use Rattle.bgp_codec.specs.Faults.{read_as}
use Rattle.bgp_codec.specs.Opens.{value_at, cap_of, cap_at, caps_reading, param_at, open_fault, first_said, said_by}
use Rattle.bgp_codec.specs.Reading.{◌>>=◌, Reader, all_of, Fails, Judged, IsNoWant}
use Rattle.bgp_codec.specs.declared.attributes.Attrs.{Attrs}
use Rattle.bgp_values.specs.Ranges.{is_unicast}
use Rattle.bgp_codec.specs.AttrTable.{high_flags, is_known}
use Rattle.bgp_codec.specs.Updates.{raw_of}
use Rattle.bgp_codec.specs.UpdateReading.{aggregator_of, attr_at, with_origin, with_aggregator, with_next_hop, with_other, has_code, put_raw, with_attr, attrs_from}
use Rattle.bgp_codec.specs.AsNumbers.{address_at}
use Rattle.std.proofs.lemmas.Bool.{le-ltb}
use Rattle.bgp_codec.proofs.OpenNumbers.{one_more_says}
use Rattle.bgp_codec.proofs.AttrSteps.{attrs_cut, attrs_split}
use Rattle.bgp_codec.proofs.AttrItems.{value_by}
use Rattle.bgp_codec.proofs.EachLemmas.{Shortens, with_front, each_go_on, each_fault, each_end}

-- ---- an error

-- an error that reading gives, and that is no want of memory
pub judged_from : {Y : Type 0} (e : CodecError) (read : Result Y Fault) → Fails e read → IsNoWant e → Judged e read
judged_from errors.Memory read f other = absurd (other refl)
judged_from (errors.Fault first) read f other = f
judged_from errors.TooLong read f other = f

-- no error is judged so where reading gives a value
no_fault : (Y Z : Type 0) (e : CodecError) (y : Y) (read : Result Z Fault) → Judged e (let r : Result Y Fault = Ok y in r) → Judged e read
no_fault Y Z errors.Memory y read j = absurd j
no_fault Y Z (errors.Fault first) y read j = absurd cc
no_fault Y Z errors.TooLong y read j = absurd j

-- the same fault of another reading
same_fault : (Y Z : Type 0) (e : CodecError) (first : Fault) → Judged e (let r : Result Y Fault = Err first in r) → Judged e (let r : Result Z Fault = Err first in r)
same_fault Y Z errors.Memory first j = j
same_fault Y Z (errors.Fault f) first j = let same : first ≡ f = cc in ap Err same
same_fault Y Z errors.TooLong first j = j

-- a fault in front is the fault of what is read behind it too
pub judged_then : {A B : Type 0} (e : CodecError) (r : Result A Fault) (f : A → Result B Fault) → Judged e r → Judged e (r >>= f)
judged_then e (Ok x) f j = no_fault _ _ e x (f x) j
judged_then e (Err first) f j = same_fault _ _ e first j

-- and so is that of a message made of what is read
pub judged_as : {A : Type 0} (make : A → Message) (e : CodecError) (r : Result A Fault) → Judged e r → Judged e (read_as make r)
judged_as make e (Ok x) j = no_fault _ _ e x (Ok (make x)) j
judged_as make e (Err first) j = same_fault _ _ e first j

-- ---- a loop over what is left

-- some values were passed, and what is left is what is left to read
abbrev pub Behind : {A : Type 0} → Reader A → List ℕ → List ℕ → Type 0
Behind {A} read octets left = (front : List A) × (all_of read octets ≡ with_front front (all_of read left))

module _ {A : Type 0} where
  before_all : (r : Result (List A) Fault) → r ≡ with_front [] r
  before_all (Ok xs) = refl
  before_all (Err f) = refl

  -- at first all is left
  pub behind_none : (read : Reader A) (octets : List ℕ) → Behind read octets octets
  behind_none read octets = ([], before_all (all_of read octets))

  -- one value more is passed
  pub behind_more : (read : Reader A) (octets left rest : List ℕ) (value : A) → Shortens read → read left ≡ Ok (value, rest) → Behind read octets left → Behind read octets rest
  behind_more read octets left rest value s e b = (b.0 ++ value ∷ [], each_go_on read octets left rest b.0 value s e b.1)

  -- what a pass over the value in front answers: what follows it
  abbrev pub Passed : Reader A → List ℕ → List ℕ → Type 0
  Passed read left rest = (v : A × List ℕ) × (read left ≡ Ok v) × (v.1 ≡ rest)

  as_read : (read : Reader A) (left rest : List ℕ) → Passed read left rest → (value : A) × (read left ≡ Ok (value, rest))
  as_read read left rest p = (p.0.0, p.1 ∙ ap (λ (r : List ℕ). Ok (p.0.0, r)) p.2)

  pub behind_passed : (read : Reader A) (octets left rest : List ℕ) → Shortens read → Passed read left rest → Behind read octets left → Behind read octets rest
  behind_passed read octets left rest s p b = let v = as_read read left rest p in behind_more read octets left rest v.0 s v.1 b

  pub passed_shorter : (read : Reader A) (left rest : List ℕ) → Shortens read → Passed read left rest → length rest < length left
  passed_shorter read left rest s p = let v = as_read read left rest p in s left v.0 rest v.1

  front_judged : (e : CodecError) (front : List A) (r : Result (List A) Fault) → Judged e r → Judged e (with_front front r)
  front_judged e front (Ok xs) j = no_fault _ _ e xs (Ok (front ++ xs)) j
  front_judged e front (Err f) j = j

  -- a fault where a value is to be read
  left_judged : (read : Reader A) (x : ℕ) (xs : List ℕ) (e : CodecError) (r : Result (A × List ℕ) Fault) → read (x ∷ xs) ≡ r → Judged e r → Judged e (all_of read (x ∷ xs))
  left_judged read x xs e (Ok v) is j = no_fault _ _ e v (all_of read (x ∷ xs)) j
  left_judged read x xs e (Err f) is j = subst (Judged e) (sym (each_fault read x xs f is)) (same_fault _ _ e f j)

  pub behind_stop : (read : Reader A) (octets left : List ℕ) (e : CodecError) → (length left ≡ 0 → ⊥) → Judged e (read left) → Behind read octets left → Judged e (all_of read octets)
  behind_stop read octets [] e some j b = absurd (some refl)
  behind_stop read octets (x ∷ xs) e some j b = subst (Judged e) (sym b.1) (front_judged e b.0 (all_of read (x ∷ xs)) (left_judged read x xs e (read (x ∷ xs)) refl j))

  -- nothing is left
  pub behind_end : (read : Reader A) (octets left : List ℕ) → length left ≡ 0 → Behind read octets left → (values : List A) × (all_of read octets ≡ Ok values) × Unit {0}
  behind_end read octets left none b = (b.0, each_end read octets left b.0 none b.1, tt)

-- ---- a loop over what is left, that remembers the first number that is said

-- some values were passed, they say this number first, and what is left is what is left to read
abbrev pub Saying : {A : Type 0} → Reader A → (A → Option ℕ) → Option ℕ → List ℕ → List ℕ → Type 0
Saying {A} read says said octets left = (front : List A) × (said ≡ first_said says front) × (all_of read octets ≡ with_front front (all_of read left))

module _ {A : Type 0} where
  pub saying_none : (read : Reader A) (says : A → Option ℕ) (octets : List ℕ) → Saying read says None octets octets
  saying_none read says octets = ([], refl, before_all (all_of read octets))

  -- one value more is passed
  pub saying_more : (read : Reader A) (says : A → Option ℕ) (said more : Option ℕ) (octets left rest : List ℕ) → Shortens read
      → ((v : A × List ℕ) × (read left ≡ Ok v) × ((more ≡ says v.0) × (v.1 ≡ rest))) → Saying read says said octets left → Saying read says (option_or said more) octets rest
  saying_more read says said more octets left rest s p b =
      let value = p.0.0 in
      let one : read left ≡ Ok (value, rest) = p.1 ∙ ap (λ (r : List ℕ). Ok (value, r)) p.2.1 in (
        b.0 ++ value ∷ [],
        ap (λ (o : Option ℕ). option_or o more) b.1 ∙ ap (option_or (first_said says b.0)) p.2.0 ∙ sym (one_more_says says b.0 value),
        each_go_on read octets left rest b.0 value s one b.2,
      )

  -- what follows it is shorter
  pub saying_shorter : (read : Reader A) (says : A → Option ℕ) (more : Option ℕ) (left rest : List ℕ) → Shortens read → ((v : A × List ℕ) × (read left ≡ Ok v) × ((more ≡ says v.0) × (v.1 ≡ rest)))
      → length rest < length left
  saying_shorter read says more left rest s p = passed_shorter read left rest s (p.0, p.1, p.2.1)

  -- nothing is left
  pub saying_end : (read : Reader A) (says : A → Option ℕ) (said : Option ℕ) (octets left : List ℕ) → length left ≡ 0 → Saying read says said octets left
      → (values : List A) × (all_of read octets ≡ Ok values) × (said ≡ first_said says values)
  saying_end read says said octets left none b = (b.0, each_end read octets left b.0 none b.2, b.1)

-- ---- OPEN

-- a value in front is that of a capability
pub cap_passed : (octets value rest : List ℕ) → value_at octets ≡ Ok (value, rest) → cap_at octets ≡ Ok (cap_of (slice_index octets 0) value, rest)
cap_passed octets value rest e = ap (λ (r : Result (List ℕ × List ℕ) Fault). r >>= λ v. Ok (cap_of (slice_index octets 0) v.0, v.1)) e

-- a parameter of kind 2 whose capabilities are passed, and the first number that they say
pub param_passed : (octets value rest : List ℕ) (said : Option ℕ) → value_at octets ≡ Ok (value, rest) → slice_index octets 0 ≡ 2 → ((caps : List Cap) × (caps_reading value ≡ Ok caps) × (said ≡ said_by caps))
    → (y : List Cap × List ℕ) × (param_at octets ≡ Ok y) × ((said ≡ said_by y.0) × (y.1 ≡ rest))
param_passed octets value rest said e kind p =
    let behind : List ℕ × List ℕ → Result (List Cap × List ℕ) Fault = λ v. caps_reading v.0 >>= λ caps. Ok (caps, v.1) in
    let two : (slice_index octets 0 == 2) ≡ true = eq-eqb (slice_index octets 0) 2 kind in (
      (p.0, rest),
      ap (λ (r : Result (List ℕ × List ℕ) Fault). r >>= λ v. cond (not (slice_index octets 0 == 2)) (Err (open_fault 4)) (behind v)) e
          ∙ ap (λ (b : Bool). cond (not b) (Err (open_fault 4)) (behind (value, rest))) two
          ∙ ap (λ (r : Result (List Cap) Fault). r >>= λ caps. Ok (caps, rest)) p.1,
      (p.2, refl),
    )

-- ---- attributes

cut_judged : (width : Width) (a : Attrs) (left : List ℕ) (e : CodecError) (r : Result (List ℕ × List ℕ × List ℕ) Fault) → attr_at left ≡ r → (length left ≡ 0 → ⊥) → Judged e r → Judged e (attrs_from width a left)
cut_judged width a left e (Ok v) is some j = no_fault _ _ e v (attrs_from width a left) j
cut_judged width a left e (Err f) is some j = subst (Judged e) (sym (attrs_cut width a left f some is)) (same_fault _ _ e f j)

-- no whole attribute was left
pub attrs_judged : (width : Width) (read : Result Attrs Fault) (a : Attrs) (left : List ℕ) (e : CodecError) → (length left ≡ 0 → ⊥) → Judged e (attr_at left) → read ≡ attrs_from width a left → Judged e read
attrs_judged width read a left e some j inv = subst (Judged e) (sym inv) (cut_judged width a left e (attr_at left) refl some j)

-- one was refused
pub attr_judged : (width : Width) (read : Result Attrs Fault) (a : Attrs) (left attr value rest : List ℕ) (e : CodecError) → attr_at left ≡ Ok (attr, value, rest) → Judged e (with_attr width a attr value)
    → read ≡ attrs_from width a left → Judged e read
attr_judged width read a left attr value rest e is j inv =
    subst (Judged e) (sym (inv ∙ attrs_split width a left attr value rest is)) (judged_then e (with_attr width a attr value) (λ b. attrs_from width b rest) j)

-- the value of a known code that passes the tests on values
pub value_passed : (width : Width) (code : ℕ) (a : Attrs) (attr value : List ℕ) → (code ≡ 1 → slice_index value 0 ≤ 2) → (code ≡ 2 → ⊥) → (code ≡ 3 → is_unicast (address_at value 0) ≡ true)
    → (b : Attrs) × (value_by width code a attr value ≡ Ok b) × Unit {0}
value_passed width zero a attr value origin path hop = (_, refl, tt)
value_passed width (suc zero) a attr value origin path hop =
    let f : nat_lt 2 (slice_index value 0) ≡ false = le-ltb 2 (slice_index value 0) (origin refl) in
    (with_origin a (slice_index value 0), rw f refl, tt)
value_passed width (suc (suc zero)) a attr value origin path hop = absurd (path refl)
value_passed width (suc (suc (suc zero))) a attr value origin path hop = (with_next_hop a (address_at value 0), rw (hop refl) refl, tt)
value_passed width (suc (suc (suc (suc zero)))) a attr value origin path hop = (_, refl, tt)
value_passed width (suc (suc (suc (suc (suc zero))))) a attr value origin path hop = (_, refl, tt)
value_passed width (suc (suc (suc (suc (suc (suc zero)))))) a attr value origin path hop = (_, refl, tt)
value_passed width (suc (suc (suc (suc (suc (suc (suc n))))))) a attr value origin path hop =
    let code = suc (suc (suc (suc (suc (suc (suc n)))))) in
    let f1 : (code == 1) ≡ false = ne_eqb code 1 (λ e. omega arith) in
    let f2 : (code == 2) ≡ false = ne_eqb code 2 (λ e. omega arith) in
    let f3 : (code == 3) ≡ false = ne_eqb code 3 (λ e. omega arith) in
    let f4 : (code == 4) ≡ false = ne_eqb code 4 (λ e. omega arith) in
    let f5 : (code == 5) ≡ false = ne_eqb code 5 (λ e. omega arith) in
    let f6 : (code == 6) ≡ false = ne_eqb code 6 (λ e. omega arith) in
    (with_aggregator a (aggregator_of width value (slice_index attr 0)), rw (f1, f2, f3, f4, f5, f6) refl, tt)

-- an optional attribute of an unknown code that is not there
pub other_passed : (width : Width) (a : Attrs) (attr value : List ℕ) → has_code a (slice_index attr 1) ≡ false → is_known (slice_index attr 1) ≡ false → 128 ≤ slice_index attr 0
    → (b : Attrs) × (with_attr width a attr value ≡ Ok b) × Unit {0}
other_passed width a attr value none unknown optional =
    let f : nat_lt (slice_index attr 0) 128 ≡ false = le-ltb (slice_index attr 0) 128 optional in
    (with_other a (put_raw (raw_of (high_flags (slice_index attr 0)) (slice_index attr 1) value) a.other), rw (none, unknown, f) refl, tt)
