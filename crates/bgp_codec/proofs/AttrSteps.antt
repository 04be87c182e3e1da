-- The attributes of octets, one more at a time.
use Rattle.std.proofs.Common.{◌≡◌, ℕ, zero, suc, ◌+◌, ◌≤◌, Bool, true, false, cond, List, [], ◌∷◌, length, take, drop, Result, Ok, Err, refl, ap, ◌∙◌, arith}
use Rattle.std.specs.Prelude.{nat_lt, slice_index}
use Rattle.std.proofs.lemmas.Bool.{ltb-false}
use Rattle.std.proofs.lemmas.List.{length-drop}
use Rattle.bgp_values.specs.declared.width.Width.{Width}
use Rattle.bgp_codec.specs.declared.fault.Fault.{Fault}
use Rattle.bgp_codec.specs.declared.fault.CodecError.{CodecError}
use Rattle.bgp_codec.specs.declared.fault.CodecError.TheVariants as errors
use Rattle.bgp_codec.specs.declared.attributes.Attrs.{Attrs}
use Rattle.bgp_codec.specs.Reading.{◌>>=◌, Fails}
use Rattle.bgp_codec.specs.UpdateReading.{update_fault, is_extended, head_size, value_size, attr_at, with_attr, attrs_in, attrs_from}

-- a value behind a test, where the test lets it pass
pub guarded : {A : Type 0} (b : Bool) (e : Fault) (x y : A) → (let r : Result A Fault = cond b (Err e) (Ok x) in r ≡ Ok y) → (b ≡ false) × (x ≡ y)
guarded true e x y q = absurd cc
guarded false e x y q = (refl, cc)

-- three octets or four stand before a value
pub head_is : (b : Bool) → 3 ≤ cond b 4 3
head_is true = omega arith
head_is false = omega arith

-- an attribute that is read: its octets are inside
pub record HasAttr (octets attr value rest : List ℕ) : Type 0 where
  pub inside : head_size octets + value_size octets ≤ length octets
  pub attr_is : take (head_size octets + value_size octets) octets ≡ attr
  pub value_is : drop (head_size octets) (take (head_size octets + value_size octets) octets) ≡ value
  pub rest_is : drop (head_size octets + value_size octets) octets ≡ rest

-- what it means that an attribute is read
pub has_attr : (octets attr value rest : List ℕ) → attr_at octets ≡ Ok (attr, value, rest) → HasAttr octets attr value rest
has_attr octets attr value rest e =
    let size = head_size octets + value_size octets in
    let g = guarded (nat_lt (length octets) size) (update_fault 1) (take size octets, drop (head_size octets) (take size octets), drop size octets) (attr, value, rest) e in
    record {
      inside = ltb-false (length octets) size g.0;
      attr_is = ap (λ (p : List ℕ × List ℕ × List ℕ). p.0) g.1;
      value_is = ap (λ (p : List ℕ × List ℕ × List ℕ). p.1) g.1;
      rest_is = ap (λ (p : List ℕ × List ℕ × List ℕ). p.2) g.1;
    }

-- what follows an attribute is shorter by three at least
pub attr_shorter : (octets attr value rest : List ℕ) → attr_at octets ≡ Ok (attr, value, rest) → length rest + 3 ≤ length octets
attr_shorter octets attr value rest e =
    let h = has_attr octets attr value rest e in
    let three : 3 ≤ head_size octets = head_is (is_extended (slice_index octets 0)) in
    omega (arith, h.inside, three, ap length h.rest_is, length-drop (head_size octets + value_size octets) octets)

-- what is read behind an attribute depends on what is read of the rest alone
after_same : (width : Width) (n m : ℕ) (octets : List ℕ) (r : Result Attrs Fault) → ((b : Attrs) → attrs_in width n b octets ≡ attrs_in width m b octets)
    → (r >>= λ b. attrs_in width n b octets) ≡ (r >>= λ b. attrs_in width m b octets)
after_same width n m octets (Ok b) h = h b
after_same width n m octets (Err e) h = refl

-- and so it is in front of it
attrs_bind : (width : Width) (n m : ℕ) (a : Attrs) (r : Result (List ℕ × List ℕ × List ℕ) Fault) → ((v : List ℕ × List ℕ × List ℕ) → r ≡ Ok v → (b : Attrs) → attrs_in width n b v.2 ≡ attrs_in width m b v.2)
    → (r >>= λ v. with_attr width a v.0 v.1 >>= λ b. attrs_in width n b v.2) ≡ (r >>= λ v. with_attr width a v.0 v.1 >>= λ b. attrs_in width m b v.2)
attrs_bind width n m a (Ok v) h = after_same width n m v.2 (with_attr width a v.0 v.1) (h v refl)
attrs_bind width n m a (Err e) h = refl

-- enough turns are as good as more
attrs_enough : (width : Width) (n m : ℕ) (a : Attrs) (octets : List ℕ) → length octets ≤ n → length octets ≤ m → attrs_in width n a octets ≡ attrs_in width m a octets
unfolding attrs_in
attrs_enough width zero zero a [] h k = refl
attrs_enough width zero (suc m) a [] h k = refl
attrs_enough width (suc n) zero a [] h k = refl
attrs_enough width (suc n) (suc m) a [] h k = refl
attrs_enough width zero m a (x ∷ xs) h k = absurd (omega arith)
attrs_enough width (suc n) zero a (x ∷ xs) h k = absurd (omega arith)
attrs_enough width (suc n) (suc m) a (x ∷ xs) h k =
    attrs_bind width n m a (attr_at (x ∷ xs))
    (λ v e b. let s = attr_shorter (x ∷ xs) v.0 v.1 v.2 e in attrs_enough width n m b v.2 (omega (arith, s)) (omega (arith, s)))

-- where nothing is left, what was read is all
pub attrs_none : (width : Width) (a : Attrs) → attrs_from width a [] ≡ Ok a
unfolding attrs_in
attrs_none width a = refl

-- one attribute, and what is read of the rest
attrs_then : (width : Width) (a : Attrs) (x : ℕ) (xs attr value rest : List ℕ) → attr_at (x ∷ xs) ≡ Ok (attr, value, rest) → attrs_from width a (x ∷ xs) ≡ (with_attr width a attr value >>= λ b. attrs_from width b rest)
unfolding attrs_in
attrs_then width a x xs attr value rest e =
    let s = attr_shorter (x ∷ xs) attr value rest e in
    ap (λ (r : Result (List ℕ × List ℕ × List ℕ) Fault). r >>= λ v. with_attr width a v.0 v.1 >>= λ b. attrs_in width (length xs) b v.2) e
    ∙ after_same width (length xs) (length rest) rest (with_attr width a attr value) (λ b. attrs_enough width (length xs) (length rest) b rest (omega (arith, s)) (omega arith))

-- the same of octets that need not be known to be some
pub attrs_split : (width : Width) (a : Attrs) (left attr value rest : List ℕ) → attr_at left ≡ Ok (attr, value, rest) → attrs_from width a left ≡ (with_attr width a attr value >>= λ b. attrs_from width b rest)
attrs_split width a [] attr value rest e = let s = attr_shorter [] attr value rest e in absurd (omega (arith, s))
attrs_split width a (x ∷ xs) attr value rest e = attrs_then width a x xs attr value rest e

-- an attribute that is taken
pub attrs_step : (width : Width) (a b : Attrs) (left attr value rest : List ℕ) → attr_at left ≡ Ok (attr, value, rest) → with_attr width a attr value ≡ Ok b → attrs_from width a left ≡ attrs_from width b rest
attrs_step width a b left attr value rest e w = attrs_split width a left attr value rest e ∙ ap (λ (r : Result Attrs Fault). r >>= λ c. attrs_from width c rest) w

-- an attribute that is refused
pub attrs_refused : (width : Width) (a : Attrs) (left attr value rest : List ℕ) (f : Fault) → attr_at left ≡ Ok (attr, value, rest) → with_attr width a attr value ≡ Err f → attrs_from width a left ≡ Err f
attrs_refused width a left attr value rest f e w = attrs_split width a left attr value rest e ∙ ap (λ (r : Result Attrs Fault). r >>= λ c. attrs_from width c rest) w

-- octets that hold no whole attribute
pub attrs_cut : (width : Width) (a : Attrs) (left : List ℕ) (f : Fault) → (length left ≡ 0 → ⊥) → attr_at left ≡ Err f → attrs_from width a left ≡ Err f
unfolding attrs_in
attrs_cut width a [] f some e = absurd (some refl)
attrs_cut width a (x ∷ xs) f some e = ap (λ (r : Result (List ℕ × List ℕ × List ℕ) Fault). r >>= λ v. with_attr width a v.0 v.1 >>= λ b. attrs_in width (length xs) b v.2) e

-- ---- as the loop over what is left knows it: what all the octets read as is what is read of the rest

-- one attribute was taken
pub attrs_go_on : (width : Width) (read : Result Attrs Fault) (a b : Attrs) (left attr value rest : List ℕ) → attr_at left ≡ Ok (attr, value, rest) → with_attr width a attr value ≡ Ok b
    → read ≡ attrs_from width a left → read ≡ attrs_from width b rest
attrs_go_on width read a b left attr value rest e w inv = inv ∙ attrs_step width a b left attr value rest e w

-- one was refused
pub attrs_stop : (width : Width) (read : Result Attrs Fault) (a : Attrs) (left attr value rest : List ℕ) (e : CodecError) → attr_at left ≡ Ok (attr, value, rest) → Fails e (with_attr width a attr value)
    → read ≡ attrs_from width a left → Fails e read
attrs_stop width read a left attr value rest errors.Memory k h inv = tt
attrs_stop width read a left attr value rest (errors.Fault f) k h inv = inv ∙ attrs_refused width a left attr value rest f k h
attrs_stop width read a left attr value rest errors.TooLong k h inv = h

-- no whole attribute was left
pub attrs_broken : (width : Width) (read : Result Attrs Fault) (a : Attrs) (left : List ℕ) (e : CodecError) → (length left ≡ 0 → ⊥) → Fails e (attr_at left)
    → read ≡ attrs_from width a left → Fails e read
attrs_broken width read a left errors.Memory some h inv = tt
attrs_broken width read a left (errors.Fault f) some h inv = inv ∙ attrs_cut width a left f some h
attrs_broken width read a left errors.TooLong some h inv = h

-- nothing was left
pub attrs_end : (width : Width) (read : Result Attrs Fault) (a : Attrs) (left : List ℕ) → length left ≡ 0 → read ≡ attrs_from width a left → read ≡ Ok a
attrs_end width read a [] none inv = inv ∙ attrs_none width a
attrs_end width read a (x ∷ xs) none inv = absurd (omega arith)
