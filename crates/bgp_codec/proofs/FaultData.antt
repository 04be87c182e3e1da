-- How many octets of data a fault has at most.
use Rattle.std.proofs.Common.{ℕ, ◌≤◌, Bool, true, false, cond, List, length, Result, Ok, Err, arith}
use Rattle.bgp_codec.specs.declared.fault.Fault.{Fault}
use Rattle.bgp_codec.specs.Reading.{◌>>=◌, in_front}

-- a fault has at most so many octets of data
abbrev pub FaultsWithin : {A : Type 0} → ℕ → Result A Fault → Type 0
FaultsWithin n (Ok x) = Unit {0}
FaultsWithin n (Err f) = length f.extra ≤ n

pub then_within : {A B : Type 0} (n : ℕ) (r : Result A Fault) (f : A → Result B Fault) → FaultsWithin n r → ((x : A) → FaultsWithin n (f x)) → FaultsWithin n (r >>= f)
then_within n (Ok x) f h g = g x
then_within n (Err e) f h g = h

pub either_within : {A : Type 0} (n : ℕ) (b : Bool) (x y : Result A Fault) → FaultsWithin n x → FaultsWithin n y → FaultsWithin n (cond b x y)
either_within n true x y h g = h
either_within n false x y h g = g

pub front_within : {A : Type 0} (n : ℕ) (x : A) (r : Result (List A) Fault) → FaultsWithin n r → FaultsWithin n (in_front x r)
front_within n x (Ok xs) h = tt
front_within n x (Err e) h = h

pub wider : {A : Type 0} (n m : ℕ) (r : Result A Fault) → n ≤ m → FaultsWithin n r → FaultsWithin m r
wider n m (Ok x) le h = tt
wider n m (Err f) le h = omega (arith, h)
