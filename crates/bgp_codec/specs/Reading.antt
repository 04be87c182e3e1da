-- Readers: functions from octets to a value, or to the first fault that is met from left to right.
use Rattle.std.specs.Prelude.{◌≡◌, ◌<◌, ◌≢◌, ◌⊎◌, ℕ, zero, suc, List, [], ◌∷◌, length, Result, Ok, Err}
use Rattle.bgp_codec.specs.declared.fault.Fault.{Fault}
use Rattle.bgp_codec.specs.declared.fault.CodecError.{CodecError}
use Rattle.bgp_codec.specs.declared.fault.CodecError.TheVariants as errors

infixl 10 ◌>>=◌
abbrev pub ◌>>=◌ : {A B : Type 0} → Result A Fault → (A → Result B Fault) → Result B Fault
(Ok x) >>= f = f x
(Err first) >>= f = Err first

abbrev pub in_front : {A : Type 0} → A → Result (List A) Fault → Result (List A) Fault
in_front x (Ok xs) = Ok (x ∷ xs)
in_front x (Err first) = Err first

-- a reader of one value: the value in front, and what follows it
abbrev pub Reader : Type 0 → Type 0
Reader A = List ℕ → Result (A × List ℕ) Fault

-- the values that octets consist of, of which there are at most so many
unfoldable pub all_in : {A : Type 0} → Reader A → ℕ → List ℕ → Result (List A) Fault
all_in read n [] = Ok []
all_in read zero (octet ∷ rest) = Ok []
all_in read (suc n) (octet ∷ rest) = read (octet ∷ rest) >>= λ v. in_front v.0 (all_in read n v.1)

-- the values that octets consist of, each of at least one octet
abbrev pub all_of : {A : Type 0} → Reader A → List ℕ → Result (List A) Fault
all_of read octets = all_in read (length octets) octets

-- ---- what a reader of the code answers

-- the error is want of memory, or the fault that reading gives
abbrev pub Fails : {Y : Type 0} → CodecError → Result Y Fault → Type 0
Fails errors.Memory read = Unit {0}
Fails (errors.Fault first) read = read ≡ Err first
Fails errors.TooLong read = ⊥

-- the code answers what reading gives, as seen by view, or want of memory
abbrev pub Gives : {X Y : Type 0} → (X → Y) → Result X CodecError → Result Y Fault → Type 0
Gives view (Ok x) read = read ≡ Ok (view x)
Gives view (Err e) read = Fails e read

-- ---- what a pass of the code answers, which takes no memory for values

-- a fault whose own data take memory: more octets than stand in the fault itself
abbrev pub TakesMemory : {Y : Type 0} → Result Y Fault → Type 0
TakesMemory (Ok y) = ⊥
TakesMemory (Err first) = 16 < length first.extra

-- an error is the fault that reading gives, or want of memory in place of a fault whose own data take memory
abbrev pub Judged : {Y : Type 0} → CodecError → Result Y Fault → Type 0
Judged errors.Memory read = TakesMemory read
Judged (errors.Fault first) read = read ≡ Err first
Judged errors.TooLong read = ⊥

-- of a good pass: reading gives a value, and what the pass remembers fits it; of another: the error is judged as above
abbrev pub Judges : {X Y : Type 0} → (X → Y → Type 0) → Result X CodecError → Result Y Fault → Type 0
Judges {X} {Y} fits (Ok x) read = (y : Y) × (read ≡ Ok y) × fits x y
Judges fits (Err e) read = Judged e read

-- a pass that remembers nothing is good where reading gives a value, and else judged as above
abbrev pub Passes : {X Y : Type 0} → Result X CodecError → Result Y Fault → Type 0
Passes result read = Judges (λ x y. Unit {0}) result read

-- an error is no want of memory
abbrev pub IsNoWant : CodecError → Type 0
IsNoWant error = error ≢ errors.Memory

-- ---- what decoding answers

-- of what reads as a value, the refusal is want of memory; of what has a fault, the refusal is the fault, or want of
-- memory if its data take memory
abbrev pub Refuses : {Y : Type 0} → CodecError → Result Y Fault → Type 0
Refuses e (Ok y) = e ≡ errors.Memory
Refuses e (Err first) = (e ≡ errors.Fault first) ⊎ ((e ≡ errors.Memory) × (16 < length first.extra))

-- the code answers the value that reading gives, or a refusal of what reading gives
abbrev pub Decodes : {Y : Type 0} → Result Y CodecError → Result Y Fault → Type 0
Decodes (Ok y) read = read ≡ Ok y
Decodes (Err e) read = Refuses e read
