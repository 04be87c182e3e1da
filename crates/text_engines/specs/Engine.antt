-- How an engine reads and writes.
use Rattle.std.specs.Prelude.{◌≡◌, ◌⊎◌, ℕ, ◌≤◌, nat_lt, Bool, true, false, List, [], ◌++◌, length, take, codes, Option, IfSome, Result, Ok, IfOk, OnOk, OnErr, MatchResult, Vec, if◌then◌else◌}
use Rattle.std.specs.Io.KnownBytes.{Appends}
use Rattle.std.specs.Fn.{Once, FnOnceReturnsAt}
use denote.Ref.{Bor}
use Rattle.net_text.specs.Printing.{line}
use Rattle.text_engines.specs.declared.channel.IoStopped.{IoStopped}
use Rattle.text_engines.specs.declared.transfer.TheConstants.{INPUT_LIMIT}
use Rattle.text_engines.specs.Decoding.{Output, output, memory_output}

-- what was read is all the known octets that were left, or a beginning of them that is above the limit
abbrev pub ReadsUpTo : ℕ → Option (List ℕ) → List ℕ → Type 0
ReadsUpTo limit known items = IfSome known (λ input. (items ≡ take (length items) input) × (length items ≤ limit → items ≡ input))

-- a beginning of the text was appended
abbrev pub AppendsFront : Option (List ℕ) → Option (List ℕ) → List ℕ → Type 0
AppendsFront old new text = (n : ℕ) × Appends old new (take n text)

-- what is printed where this text, with its status, was made; or memory ran out
abbrev pub IsMade : {Z E : Type 0} → Result (Vec ℕ Z × ℕ) E → Output → Type 0
IsMade made out = MatchResult made (λ printed. out ≡ output printed.0.items printed.1) (λ _. out ≡ memory_output)

-- a closure may answer a text with this output
abbrev pub gives_by : {F Z E : Type 0} → Once F (Bor (List ℕ) × Unit {0}) (Result (Vec ℕ Z × ℕ) E) → F → List ℕ → Output → Type 0
gives_by {F} {Z} g answer text out = (printed : Vec ℕ Z × ℕ) × FnOnceReturnsAt g answer text (Ok printed) × (out ≡ output printed.0.items printed.1)

-- a whole output of these was appended, with this status
abbrev pub WrittenBy : (Output → Type 0) → Option (List ℕ) → Option (List ℕ) → ℕ → Type 0
WrittenBy IsPrinted old new status = (text : List ℕ) × IsPrinted (output text status) × Appends old new text

-- a beginning of one of these was appended
abbrev pub WrittenFrontBy : (Output → Type 0) → Option (List ℕ) → Option (List ℕ) → Type 0
WrittenFrontBy IsPrinted old new = (out : Output) × IsPrinted out × AppendsFront old new out.text

-- a whole output that is printed for these known octets was appended, with this status
abbrev pub PrintedBy : (List ℕ → Output → Type 0) → Option (List ℕ) → Option (List ℕ) → Option (List ℕ) → ℕ → Type 0
PrintedBy IsPrinted known old new status = IfSome known (λ input. (text : List ℕ) × IsPrinted input (output text status) × Appends old new text)

-- a beginning of an output that is printed for these known octets was appended
abbrev pub PrintedFrontBy : (List ℕ → Output → Type 0) → Option (List ℕ) → Option (List ℕ) → Option (List ℕ) → Type 0
PrintedFrontBy IsPrinted known old new = IfSome known (λ input. (out : Output) × IsPrinted input out × AppendsFront old new out.text)

-- what an engine that reads a whole input leaves: of the octets that were left to read, of what stands written before
-- and behind it, of whether reads and writes have failed before and behind it, and of what it answers
pub record IsAnswered (IsPrinted : List ℕ → Output → Type 0) (known old new : Option (List ℕ)) (unread unread_now unwritten unwritten_now : Bool) (result : Result ℕ IoStopped) : Type 0 where
  -- what is written is what is printed for what was read, and nothing else
  pub done : IfOk result (λ status. PrintedBy IsPrinted known old new status)
  -- it answers a status only where no read and no write failed, and stops only where one did
  pub unfailed : OnOk result ((unread_now ≡ unread) × (unwritten_now ≡ unwritten))
  pub failed : OnErr result ((unread_now ≡ true) ⊎ (unwritten_now ≡ true))
  -- where a read failed nothing is written
  pub silent : unread ≡ false → unread_now ≡ true → new ≡ old
  -- a failed read or write leaves a beginning of the text
  pub stopped : OnErr result (PrintedFrontBy IsPrinted known old new)

-- ---- texts that are read again

-- the comment that a text of so many octets is longer than an input may be
abbrev pub limit_comment : List ℕ
limit_comment = line (codes "# too long to be played: an input has at most 16777216 octets")

abbrev pub limit_text : ℕ → List ℕ
limit_text n = if nat_lt INPUT_LIMIT n then limit_comment else []

abbrev pub limited : List ℕ → List ℕ
limited text = text ++ limit_text (length text)
