-- A capability and a parameter in front: what is read is spelt so, and what is spelt so is read.
use Rattle.std.proofs.Common.{◌≡◌, ℕ, ◌+◌, ◌<◌, ◌≤◌, Bool, true, false, cond, List, [], ◌∷◌, ◌++◌, length, take, drop, Result, Ok, Err, refl, sym, ap, subst, ◌∙◌, arith}
use Rattle.std.specs.Prelude.{nat_lt, ◌==◌, not, slice_index}
use Rattle.std.specs.List.{flat_map, AllByRecursion}
use Rattle.std.proofs.lemmas.Bool.{eqb-true, le-ltb, ltb-false}
use Rattle.std.proofs.lemmas.List.{length-append, length-drop, length-take-le, take_at, drop_at, take-append-drop}
use Rattle.bgp_codec.specs.declared.fault.Fault.{Fault}
use Rattle.bgp_codec.specs.declared.open.Cap.{Cap}
use Rattle.bgp_codec.specs.Reading.{◌>>=◌}
use Rattle.bgp_codec.specs.Spelling.{IsOctets}
use Rattle.bgp_codec.specs.Opens.{value_at, cap_of, cap_at, caps_reading, param_at, params_reading, open_fault, cap_octets, param_octets, CapFits, ParamFits}
use Rattle.bgp_codec.proofs.OctetLemmas.{octets_front, octets_tail, octets_behind}
use Rattle.bgp_codec.proofs.EachLemmas.{Shortens, Takes, GivesBack, past_test, each_takes, each_again, each_written, each_whole}

-- ---- a value in front

-- its octets are inside
pub record HasValue (octets value rest : List ℕ) : Type 0 where
  pub shorter : length rest + 2 ≤ length octets
  pub size : length value ≡ slice_index octets 1
  pub whole : octets ≡ slice_index octets 0 ∷ (length value ∷ (value ++ rest))

has_value : (octets value rest : List ℕ) → value_at octets ≡ Ok (value, rest) → HasValue octets value rest
has_value [] value rest e = absurd cc
has_value (k ∷ []) value rest e = absurd cc
has_value (k ∷ len ∷ more) value rest e =
    let g = past_test (nat_lt (length more) len) (open_fault 0) (take len more, drop len more) (value, rest) e in
    let inside : len ≤ length more = ltb-false (length more) len g.0 in
    let v : take len more ≡ value = ap (λ (p : List ℕ × List ℕ). p.0) g.1 in
    let r : drop len more ≡ rest = ap (λ (p : List ℕ × List ℕ). p.1) g.1 in
    let size : length value ≡ len = ap length (sym v) ∙ length-take-le len more inside in
    let joined : more ≡ value ++ rest = sym (take-append-drop len more) ∙ ap (λ (ys : List ℕ). ys ++ drop len more) v ∙ ap (λ (ys : List ℕ). value ++ ys) r in
    record {
      shorter = omega (arith, ap length r, length-drop len more);
      size = size;
      whole = ap (λ (ys : List ℕ). k ∷ (len ∷ ys)) joined ∙ ap (λ (n : ℕ). k ∷ (n ∷ (value ++ rest))) (sym size);
    }

-- the octets of a value that is inside are octets
pub record AreOctets (value rest : List ℕ) : Type 0 where
  pub in_value : IsOctets value
  pub in_rest : IsOctets rest
  pub small : length value < 256

value_octets : (octets value rest : List ℕ) → IsOctets octets → value_at octets ≡ Ok (value, rest) → AreOctets value rest
value_octets [] value rest are e = absurd cc
value_octets (k ∷ []) value rest are e = absurd cc
value_octets (k ∷ len ∷ more) value rest are e =
    let h = has_value (k ∷ len ∷ more) value rest e in
    let g = past_test (nat_lt (length more) len) (open_fault 0) (take len more, drop len more) (value, rest) e in
    let behind : IsOctets more = octets_tail len more (octets_tail k (len ∷ more) are) in
    record {
      in_value = subst IsOctets (ap (λ (p : List ℕ × List ℕ). p.0) g.1) (octets_front len more behind);
      in_rest = subst IsOctets (ap (λ (p : List ℕ × List ℕ). p.1) g.1) (octets_behind len more behind);
      small = omega (arith, h.size, are 1);
    }

-- it is read as it was spelt
value_again : (kind : ℕ) (value rest : List ℕ) → value_at (kind ∷ (length value ∷ (value ++ rest))) ≡ Ok (value, rest)
value_again kind value rest =
    let long : nat_lt (length (value ++ rest)) (length value) ≡ false = le-ltb (length (value ++ rest)) (length value) (omega (arith, length-append value rest)) in
    rw (long, take_at value rest (length value) refl, drop_at value rest (length value) refl) refl

-- ---- a capability

-- its one spelling
abbrev pub SpellsCap : List ℕ → Cap → Type 0
SpellsCap octets cap = (octets ≡ cap_octets cap) × CapFits cap

-- the capability of a value, and what follows it
abbrev pub with_code : ℕ → List ℕ × List ℕ → Result (Cap × List ℕ) Fault
with_code code v = Ok (cap_of code v.0, v.1)

cap_found : (octets : List ℕ) (r : Result (List ℕ × List ℕ) Fault) (cap : Cap) (rest : List ℕ) → (r >>= with_code (slice_index octets 0)) ≡ Ok (cap, rest)
    → (value : List ℕ) × (r ≡ Ok (value, rest)) × (cap_of (slice_index octets 0) value ≡ cap)
cap_found octets (Err f) cap rest e = absurd cc
cap_found octets (Ok v) cap rest e =
    let both : (cap_of (slice_index octets 0) v.0, v.1) ≡ (cap, rest) = cc in
    (v.0, ap (λ (r : List ℕ). let p : Result (List ℕ × List ℕ) Fault = Ok (v.0, r) in p) (ap (λ (p : Cap × List ℕ). p.1) both), ap (λ (p : Cap × List ℕ). p.0) both)

-- what follows it is shorter
pub cap_shortens : Shortens cap_at
cap_shortens octets cap rest e =
    let f = cap_found octets (value_at octets) cap rest e in
    let h = has_value octets f.0 rest f.1 in
    omega (arith, h.shorter)

cap_takes : Takes IsOctets cap_at SpellsCap
cap_takes octets cap rest are e =
    let f = cap_found octets (value_at octets) cap rest e in
    let h = has_value octets f.0 rest f.1 in
    let o = value_octets octets f.0 rest are f.1 in
    let one = cap_of (slice_index octets 0) f.0 in (
      cap_octets one,
      subst (SpellsCap (cap_octets one)) f.2 (refl, o.small),
      o.in_rest,
      h.whole,
    )

cap_again : GivesBack (λ octets. Unit {0}) cap_at SpellsCap
cap_again front cap rest are s = (
  ap (λ (xs : List ℕ). cap_at (xs ++ rest)) s.0
      ∙ ap (λ (r : Result (List ℕ × List ℕ) Fault). r >>= with_code cap.code) (value_again cap.code cap.value rest),
  tt,
)

-- ---- capabilities

-- what is read is spelt so
pub caps_takes : (octets : List ℕ) (caps : List Cap) → IsOctets octets → caps_reading octets ≡ Ok caps → (octets ≡ flat_map cap_octets caps) × AllByRecursion CapFits caps
caps_takes octets caps are e =
    each_whole CapFits SpellsCap cap_octets octets caps (λ front cap spelt. spelt) (each_takes IsOctets cap_at SpellsCap octets caps cap_shortens cap_takes are e)

-- what is spelt so is read
pub caps_again : (caps : List Cap) → AllByRecursion CapFits caps → caps_reading (flat_map cap_octets caps) ≡ Ok caps
caps_again caps fit =
    each_again (λ octets. Unit {0}) cap_at SpellsCap (flat_map cap_octets caps) caps cap_shortens cap_again tt (each_written CapFits SpellsCap cap_octets caps (λ cap fits. (refl, fits)) fit)

-- ---- a parameter

-- its one spelling
abbrev pub SpellsParam : List ℕ → List Cap → Type 0
SpellsParam octets caps = (octets ≡ param_octets caps) × ParamFits caps

-- the value of a parameter that is read, its kind being 2
pub record HasCaps (octets : List ℕ) (caps : List Cap) (rest : List ℕ) : Type 0 where
  pub value : List ℕ
  pub value_is : value_at octets ≡ Ok (value, rest)
  pub kind : slice_index octets 0 ≡ 2
  pub caps_are : caps_reading value ≡ Ok caps

-- capabilities, and what follows them
abbrev pub with_rest : List ℕ → List Cap → Result (List Cap × List ℕ) Fault
with_rest rest caps = Ok (caps, rest)

caps_found : (r : Result (List Cap) Fault) (v : List ℕ) (caps : List Cap) (rest : List ℕ) → (r >>= with_rest v) ≡ Ok (caps, rest) → (r ≡ Ok caps) × (v ≡ rest)
caps_found (Err f) v caps rest e = absurd cc
caps_found (Ok cs) v caps rest e =
    let both : (cs, v) ≡ (caps, rest) = cc in (ap (λ (p : List Cap × List ℕ). let q : Result (List Cap) Fault = Ok p.0 in q) both, ap (λ (p : List Cap × List ℕ). p.1) both)

kind_found : (b : Bool) (f : Fault) (r q : Result (List Cap × List ℕ) Fault) (caps : List Cap) (rest : List ℕ) → cond (not b) (Err f) r ≡ Ok (caps, rest) → (b ≡ true) × (r ≡ Ok (caps, rest))
kind_found true f r q caps rest e = (refl, e)
kind_found false f r q caps rest e = absurd cc

param_found : (octets : List ℕ) (r : Result (List ℕ × List ℕ) Fault) (caps : List Cap) (rest : List ℕ) → value_at octets ≡ r
    → (r >>= λ v. cond (not (slice_index octets 0 == 2)) (Err (open_fault 4)) (caps_reading v.0 >>= with_rest v.1)) ≡ Ok (caps, rest) → HasCaps octets caps rest
param_found octets (Err f) caps rest is e = absurd cc
param_found octets (Ok v) caps rest is e =
    let k = kind_found (slice_index octets 0 == 2) (open_fault 4) _ (Ok (caps, rest)) caps rest e in
    let c = caps_found (caps_reading v.0) v.1 caps rest k.1 in
    record {
      value = v.0;
      value_is = is ∙ ap (λ (r : List ℕ). let p : Result (List ℕ × List ℕ) Fault = Ok (v.0, r) in p) c.1;
      kind = eqb-true (slice_index octets 0) 2 k.0;
      caps_are = c.0;
    }

-- what follows it is shorter
pub param_shortens : Shortens param_at
param_shortens octets caps rest e =
    let p = param_found octets (value_at octets) caps rest refl e in
    let h = has_value octets p.value rest p.value_is in
    omega (arith, h.shorter)

param_takes : Takes IsOctets param_at SpellsParam
param_takes octets caps rest are e =
    let p = param_found octets (value_at octets) caps rest refl e in
    let h = has_value octets p.value rest p.value_is in
    let o = value_octets octets p.value rest are p.value_is in
    let c = caps_takes p.value caps o.in_value p.caps_are in (
      param_octets caps,
      (refl, (c.1, omega (arith, ap length c.0, o.small))),
      o.in_rest,
      h.whole ∙ ap (λ (k : ℕ). k ∷ (length p.value ∷ (p.value ++ rest))) p.kind ∙ ap (λ (v : List ℕ). 2 ∷ (length v ∷ (v ++ rest))) c.0,
    )

param_again : GivesBack (λ octets. Unit {0}) param_at SpellsParam
param_again front caps rest are s =
    let value = flat_map cap_octets caps in (
      ap (λ (xs : List ℕ). param_at (xs ++ rest)) s.0
          ∙ ap (λ (r : Result (List ℕ × List ℕ) Fault). r >>= λ v. (caps_reading v.0 >>= with_rest v.1)) (value_again 2 value rest)
          ∙ ap (λ (r : Result (List Cap) Fault). r >>= with_rest rest) (caps_again caps s.1.0),
      tt,
    )

-- ---- parameters

-- what is read is spelt so
pub params_takes : (octets : List ℕ) (params : List (List Cap)) → IsOctets octets → params_reading octets ≡ Ok params → (octets ≡ flat_map param_octets params) × AllByRecursion ParamFits params
params_takes octets params are e =
    each_whole ParamFits SpellsParam param_octets octets params (λ front caps spelt. spelt) (each_takes IsOctets param_at SpellsParam octets params param_shortens param_takes are e)

-- what is spelt so is read
pub params_again : (params : List (List Cap)) → AllByRecursion ParamFits params → params_reading (flat_map param_octets params) ≡ Ok params
params_again params fit =
    each_again (λ octets. Unit {0}) param_at SpellsParam (flat_map param_octets params) params param_shortens param_again tt
    (each_written ParamFits SpellsParam param_octets params (λ caps fits. (refl, fits)) fit)
