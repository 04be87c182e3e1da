-- The values that octets consist of, one more at a time.
use Rattle.std.proofs.Common.{sym, append_assoc, eq-eqb, ◌≡◌, ℕ, zero, suc, ◌<◌, ◌≤◌, Bool, true, false, cond, List, [], ◌∷◌, ◌++◌, length, Result, Ok, Err, refl, ap, subst, ◌∙◌, arith}
use Rattle.std.specs.List.{flat_map, AllByRecursion}
use Rattle.std.specs.Prelude.{◌==◌}
use Rattle.std.proofs.lemmas.Bool.{eqb-true}
use Rattle.std.proofs.lemmas.List.{append-nil}
use Rattle.bgp_codec.specs.declared.fault.CodecError.{CodecError}
use Rattle.bgp_codec.specs.declared.fault.CodecError.TheVariants as errors
use Rattle.bgp_codec.specs.declared.fault.Fault.{Fault}
use Rattle.bgp_codec.specs.Reading.{◌>>=◌, in_front, Reader, all_in, all_of, Fails}
use Rattle.bgp_codec.specs.Updates.{SpellsEach}
use Rattle.bgp_codec.proofs.FaultData.{FaultsWithin, then_within, front_within}

-- what was read, before what is read
abbrev pub with_front : {A : Type 0} → List A → Result (List A) Fault → Result (List A) Fault
with_front front (Ok rest) = Ok (front ++ rest)
with_front front (Err e) = Err e

front_more : {A : Type 0} (front : List A) (x : A) (r : Result (List A) Fault) → with_front front (in_front x r) ≡ with_front (front ++ x ∷ []) r
front_more front x (Ok xs) = ap Ok (sym (append_assoc front (x ∷ []) xs))
front_more front x (Err e) = refl

-- the test of a loop over what is left
pub some_left : (n : ℕ) → false ≡ (n == 0) → n ≡ 0 → ⊥
some_left n f e = let t = eq-eqb n 0 e in absurd (let both = f ∙ t in cc)

pub none_left : (n : ℕ) → true ≡ (n == 0) → n ≡ 0
none_left n t = eqb-true n 0 (sym t)

-- what follows a value is shorter
abbrev pub Shortens : {A : Type 0} → Reader A → Type 0
Shortens {A} read = (octets : List ℕ) (value : A) (rest : List ℕ) → read octets ≡ Ok (value, rest) → length rest < length octets

-- the octets of a value that is read spell it, and what follows is as the whole is
abbrev pub Takes : {A : Type 0} → (List ℕ → Type 0) → Reader A → (List ℕ → A → Type 0) → Type 0
Takes {A} Are read spells = (octets : List ℕ) (value : A) (rest : List ℕ) → Are octets → read octets ≡ Ok (value, rest)
    → (front : List ℕ) × spells front value × Are rest × (octets ≡ front ++ rest)

-- a value that is spelt in front is read, and what follows is as the whole is
abbrev pub GivesBack : {A : Type 0} → (List ℕ → Type 0) → Reader A → (List ℕ → A → Type 0) → Type 0
GivesBack {A} Are read spells = (front : List ℕ) (value : A) (rest : List ℕ) → Are (front ++ rest) → spells front value
    → (read (front ++ rest) ≡ Ok (value, rest)) × Are rest

module _ {A : Type 0} where
  -- two ways to read the rest that agree
  each_bind : (read : Reader A) (n m : ℕ) (r : Result (A × List ℕ) Fault) → ((v : A × List ℕ) → r ≡ Ok v → all_in read n v.1 ≡ all_in read m v.1)
      → (r >>= λ v. in_front v.0 (all_in read n v.1)) ≡ (r >>= λ v. in_front v.0 (all_in read m v.1))
  each_bind read n m (Ok v) h = ap (in_front v.0) (h v refl)
  each_bind read n m (Err e) h = refl

  -- enough turns are as good as more
  pub each_enough : (read : Reader A) (n m : ℕ) (octets : List ℕ) → Shortens read → length octets ≤ n → length octets ≤ m → all_in read n octets ≡ all_in read m octets
  unfolding all_in
  each_enough read zero zero [] s h k = refl
  each_enough read zero (suc m) [] s h k = refl
  each_enough read (suc n) zero [] s h k = refl
  each_enough read (suc n) (suc m) [] s h k = refl
  each_enough read zero m (x ∷ xs) s h k = absurd (omega arith)
  each_enough read (suc n) zero (x ∷ xs) s h k = absurd (omega arith)
  each_enough read (suc n) (suc m) (x ∷ xs) s h k =
      each_bind read n m (read (x ∷ xs)) (λ v e. let l = s (x ∷ xs) v.0 v.1 e in each_enough read n m v.1 s (omega (arith, l)) (omega (arith, l)))

  -- no octet, no value
  pub each_none : (read : Reader A) → all_of read [] ≡ Ok []
  unfolding all_in
  each_none read = refl

  -- one value, and what is read of the rest
  pub each_step : (read : Reader A) (octets rest : List ℕ) (value : A) → Shortens read → read octets ≡ Ok (value, rest) → all_of read octets ≡ in_front value (all_of read rest)
  unfolding all_in
  each_step read [] rest value s e = let l = s [] value rest e in absurd (omega (arith, l))
  each_step read (x ∷ xs) rest value s e =
      let l = s (x ∷ xs) value rest e in
      let more : all_in read (length xs) rest ≡ all_of read rest = each_enough read (length xs) (length rest) rest s (omega (arith, l)) (omega arith) in
      ap (λ (r : Result (A × List ℕ) Fault). r >>= λ v. in_front v.0 (all_in read (length xs) v.1)) e ∙ ap (in_front value) more

  -- a fault where a value is to be read
  pub each_fault : (read : Reader A) (x : ℕ) (xs : List ℕ) (f : Fault) → read (x ∷ xs) ≡ Err f → all_of read (x ∷ xs) ≡ Err f
  unfolding all_in
  each_fault read x xs f h = ap (λ (r : Result (A × List ℕ) Fault). r >>= λ v. in_front v.0 (all_in read (length xs) v.1)) h

  -- nothing was read yet
  pub no_front : (r : Result (List A) Fault) → r ≡ with_front [] r
  no_front (Ok xs) = refl
  no_front (Err e) = refl

  -- ---- as the loops know it: what is left is not empty

  -- one value more
  pub each_go_on : (read : Reader A) (octets left rest : List ℕ) (front : List A) (value : A) → Shortens read → read left ≡ Ok (value, rest)
      → all_of read octets ≡ with_front front (all_of read left) → all_of read octets ≡ with_front (front ++ value ∷ []) (all_of read rest)
  each_go_on read octets left rest front value s e inv = inv ∙ ap (with_front front) (each_step read left rest value s e) ∙ front_more front value (all_of read rest)

  -- a fault, or want of memory
  pub each_stop : (read : Reader A) (octets left : List ℕ) (front : List A) (e : CodecError) → (length left ≡ 0 → ⊥) → all_of read octets ≡ with_front front (all_of read left)
      → Fails e (read left) → Fails e (all_of read octets)
  each_stop read octets [] front e some inv h = absurd (some refl)
  each_stop read octets (x ∷ xs) front errors.Memory some inv h = tt
  each_stop read octets (x ∷ xs) front (errors.Fault f) some inv h = inv ∙ ap (with_front front) (each_fault read x xs f h)
  each_stop read octets (x ∷ xs) front errors.TooLong some inv h = h

  -- nothing is left
  pub each_end : (read : Reader A) (octets left : List ℕ) (front : List A) → length left ≡ 0 → all_of read octets ≡ with_front front (all_of read left) → all_of read octets ≡ Ok front
  each_end read octets [] front none inv = inv ∙ ap (with_front front) (each_none read) ∙ ap Ok (append-nil front)
  each_end read octets (x ∷ xs) front none inv = absurd (omega arith)

  -- ---- what is read is spelt so

  -- the values behind the first
  pub front_found : (x : A) (r : Result (List A) Fault) (ys : List A) → in_front x r ≡ Ok ys → (xs : List A) × (r ≡ Ok xs) × (x ∷ xs ≡ ys)
  front_found x (Ok xs) ys e = (xs, refl, cc)
  front_found x (Err f) ys e = absurd cc

  -- the value in front of octets, and those behind it
  pub found : (r : Result (A × List ℕ) Fault) (more : List ℕ → Result (List A) Fault) (values : List A) → (r >>= λ v. in_front v.0 (more v.1)) ≡ Ok values
      → (v : A × List ℕ) × (vs : List A) × (r ≡ Ok v) × (more v.1 ≡ Ok vs) × (v.0 ∷ vs ≡ values)
  found (Ok v) more values e = let p = front_found v.0 (more v.1) values e in (v, p.0, refl, p.1, p.2)
  found (Err f) more values e = absurd cc

  -- no value where nothing was read
  pub nothing_read : (values : List A) → (let r : Result (List A) Fault = Ok [] in r ≡ Ok values) → [] ≡ values
  nothing_read values e = cc

  -- what is read in turns enough is spelt so
  takes_in : (Are : List ℕ → Type 0) (read : Reader A) (spells : List ℕ → A → Type 0) (n : ℕ) (octets : List ℕ) (values : List A) → Shortens read → Takes Are read spells
      → length octets ≤ n → Are octets → all_in read n octets ≡ Ok values → SpellsEach spells octets values
  unfolding all_in
  takes_in Are read spells n [] values s t le are e = subst (SpellsEach spells []) (nothing_read values e) refl
  takes_in Are read spells zero (x ∷ xs) values s t le are e = absurd (omega arith)
  takes_in Are read spells (suc n) (x ∷ xs) values s t le are e =
      let f = found (read (x ∷ xs)) (all_in read n) values e in
      let l = s (x ∷ xs) f.0.0 f.0.1 f.2 in
      let p = t (x ∷ xs) f.0.0 f.0.1 are f.2 in
      let behind = takes_in Are read spells n f.0.1 f.1 s t (omega (arith, l)) p.2 f.3 in
      subst (SpellsEach spells (x ∷ xs)) f.4 (p.0, f.0.1, p.1, behind, p.3)

  -- the values that octets were read as are spelt by them
  pub each_takes : (Are : List ℕ → Type 0) (read : Reader A) (spells : List ℕ → A → Type 0) (octets : List ℕ) (values : List A) → Shortens read → Takes Are read spells
      → Are octets → all_of read octets ≡ Ok values → SpellsEach spells octets values
  each_takes Are read spells octets values s t are e = takes_in Are read spells (length octets) octets values s t (omega arith) are e

  -- ---- what is spelt so is read

  -- the values that octets spell are read from them
  pub each_again : (Are : List ℕ → Type 0) (read : Reader A) (spells : List ℕ → A → Type 0) (octets : List ℕ) (values : List A) → Shortens read → GivesBack Are read spells
      → Are octets → SpellsEach spells octets values → all_of read octets ≡ Ok values
  each_again Are read spells octets [] s g are e = ap (all_of read) e ∙ each_none read
  each_again Are read spells octets (x ∷ xs) s g are p =
      let all : Are (p.0 ++ p.1) = subst Are p.4 are in
      let one = g p.0 x p.1 all p.2 in
      ap (all_of read) p.4 ∙ each_step read (p.0 ++ p.1) p.1 x s one.0 ∙ ap (in_front x) (each_again Are read spells p.1 xs s g one.1 p.3)

  -- ---- values with one spelling

  -- what is written is spelt so
  pub each_written : (P : A → Type 0) (spells : List ℕ → A → Type 0) (write : A → List ℕ) (values : List A) → ((x : A) → P x → spells (write x) x)
      → AllByRecursion P values → SpellsEach spells (flat_map write values) values
  each_written P spells write [] w all = refl
  each_written P spells write (x ∷ xs) w all = (write x, flat_map write xs, w x all.0, each_written P spells write xs w all.1, refl)

  -- what is spelt as it is written is all that is written
  pub each_whole : (P : A → Type 0) (spells : List ℕ → A → Type 0) (write : A → List ℕ) (octets : List ℕ) (values : List A)
      → ((front : List ℕ) (x : A) → spells front x → (front ≡ write x) × P x) → SpellsEach spells octets values → (octets ≡ flat_map write values) × AllByRecursion P values
  each_whole P spells write octets [] w e = (e, tt)
  each_whole P spells write octets (x ∷ xs) w p =
      let one = w p.0 x p.2 in
      let more = each_whole P spells write p.1 xs w p.3 in (
        p.4 ∙ ap (λ (ys : List ℕ). ys ++ p.1) one.0 ∙ ap (λ (ys : List ℕ). write x ++ ys) more.0,
        (one.1, more.1),
      )

  -- ---- a value behind a test

  -- the test was not met, and the value is the one behind it
  pub past_test : (b : Bool) (e : Fault) (x y : A) → (let r : Result A Fault = cond b (Err e) (Ok x) in r ≡ Ok y) → (b ≡ false) × (x ≡ y)
  past_test true e x y q = absurd cc
  past_test false e x y q = (refl, cc)

  -- ---- the data of a fault

  -- in so many turns
  faults_in : (k : ℕ) (read : Reader A) (n : ℕ) (octets : List ℕ) → ((left : List ℕ) → FaultsWithin k (read left)) → FaultsWithin k (all_in read n octets)
  unfolding all_in
  faults_in k read zero [] w = tt
  faults_in k read (suc n) [] w = tt
  faults_in k read zero (x ∷ xs) w = tt
  faults_in k read (suc n) (x ∷ xs) w = then_within k (read (x ∷ xs)) _ (w (x ∷ xs)) (λ v. front_within k v.0 (all_in read n v.1) (faults_in k read n v.1 w))

  -- the data of a fault is no more than that of one value
  pub each_faults : (k : ℕ) (read : Reader A) (octets : List ℕ) → ((left : List ℕ) → FaultsWithin k (read left)) → FaultsWithin k (all_of read octets)
  each_faults k read octets w = faults_in k read (length octets) octets w
