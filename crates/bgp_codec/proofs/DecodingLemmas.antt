-- What decoding answers is what reading gives.
use Rattle.std.proofs.Common.{◌≡◌, Result, Ok, Err, ap, inl, inr}
use Rattle.bgp_codec.specs.declared.fault.Fault.{Fault}
use Rattle.bgp_codec.specs.declared.fault.CodecError.{CodecError}
use Rattle.bgp_codec.specs.declared.fault.CodecError.TheVariants as errors
use Rattle.bgp_codec.specs.Reading.{Fails, Gives, Refuses, Decodes}

module _ {Y : Type 0} where
  fails_of : (e : CodecError) (read : Result Y Fault) → Refuses e read → Fails e read
  fails_of errors.Memory read r = tt
  fails_of (errors.Fault f) (Ok m) r = absurd cc
  fails_of (errors.Fault f) (Err first) (inl same) = let is : first ≡ f = cc in ap Err is
  fails_of (errors.Fault f) (Err first) (inr both) = absurd (let no : errors.Fault f ≡ errors.Memory = both.0 in cc)
  fails_of errors.TooLong (Ok m) r = absurd cc
  fails_of errors.TooLong (Err first) (inl same) = absurd cc
  fails_of errors.TooLong (Err first) (inr both) = absurd (let no : errors.TooLong ≡ errors.Memory = both.0 in cc)

  -- what is decoded is what reading gives, unless memory ran out
  pub gives_of : (result : Result Y CodecError) (read : Result Y Fault) → Decodes result read → Gives (λ y. y) result read
  gives_of (Ok y) read d = d
  gives_of (Err e) read d = fails_of e read d
