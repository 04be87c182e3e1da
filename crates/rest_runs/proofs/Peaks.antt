-- The greatest numbers of entries, and of what passes for them.
use Rattle.std.proofs.Common.{◌≡◌, ℕ, ◌≤◌, max, List, [], ◌∷◌, ◌++◌, refl, ap, arith}
use mathlib.Core.List.{IsPrefix}
use Rattle.bgp_codec.specs.declared.message.Message.{Message}
use Rattle.run_model.specs.Links.{Entry, Dial, Says, Mark, Shut, greatest_dial}
use Rattle.run_model.specs.Octets.{Passing, Octet, Control, octets_of, passing}
use Rattle.rest_runs.specs.Counted.{greatest_mark}

abbrev pub dial_in : Entry Message → ℕ
dial_in (Dial e) = e
dial_in (Says e m) = 0
dial_in (Mark e s) = 0
dial_in (Shut e) = 0

abbrev pub mark_in : Entry Message → ℕ
mark_in (Dial e) = 0
mark_in (Says e m) = 0
mark_in (Mark e s) = s
mark_in (Shut e) = 0

-- the greatest number of entries, and of what passes
module _ (f : Entry Message → ℕ) where
  abbrev pub crest : List (Entry Message) → ℕ
  crest [] = 0
  crest (x ∷ xs) = max (f x) (crest xs)

  abbrev pub peak : List (Passing Message) → ℕ
  peak [] = 0
  peak (Octet e b ∷ rest) = peak rest
  peak (Control x ∷ rest) = max (f x) (peak rest)

  pub crest_append : (xs ys : List (Entry Message)) → crest (xs ++ ys) ≡ max (crest xs) (crest ys)
  crest_append [] ys = omega arith
  crest_append (x ∷ xs) ys = omega (arith, crest_append xs ys)

  pub peak_append : (xs ys : List (Passing Message)) → peak (xs ++ ys) ≡ max (peak xs) (peak ys)
  peak_append [] ys = omega arith
  peak_append (Octet e b ∷ rest) ys = peak_append rest ys
  peak_append (Control x ∷ rest) ys = omega (arith, peak_append rest ys)

  octets_flat : (e : ℕ) (bs : List ℕ) → peak (octets_of e bs) ≡ 0
  octets_flat e [] = refl
  octets_flat e (b ∷ bs) = octets_flat e bs

  pub peak_below : (written : Message → List ℕ) (xs : List (Entry Message)) → peak (passing written xs) ≤ crest xs
  peak_below written [] = omega arith
  peak_below written (Dial e ∷ rest) = omega (arith, peak_below written rest)
  peak_below written (Says e m ∷ rest) = omega (arith, peak_append (octets_of e (written m)) (passing written rest), octets_flat e (written m), peak_below written rest)
  peak_below written (Mark e s ∷ rest) = omega (arith, peak_below written rest)
  peak_below written (Shut e ∷ rest) = omega (arith, peak_below written rest)

  pub peak_of_prefix : (xs ys : List (Passing Message)) → IsPrefix xs ys → peak xs ≤ peak ys
  peak_of_prefix xs ys p = omega (arith, peak_append xs p.0, ap peak p.1)

pub dials_are : (xs : List (Entry Message)) → crest dial_in xs ≡ greatest_dial xs
dials_are [] = refl
dials_are (Dial e ∷ rest) = ap (max e) (dials_are rest)
dials_are (Says e m ∷ rest) = omega (arith, dials_are rest)
dials_are (Mark e s ∷ rest) = omega (arith, dials_are rest)
dials_are (Shut e ∷ rest) = omega (arith, dials_are rest)

pub marks_are : (xs : List (Entry Message)) → crest mark_in xs ≡ greatest_mark xs
marks_are [] = refl
marks_are (Dial e ∷ rest) = omega (arith, marks_are rest)
marks_are (Says e m ∷ rest) = omega (arith, marks_are rest)
marks_are (Mark e s ∷ rest) = ap (max s) (marks_are rest)
marks_are (Shut e ∷ rest) = omega (arith, marks_are rest)
