-- Writing a text a piece at a time, and what an engine leaves written.
use Rattle.std.proofs.Common.{◌≡◌, ℕ, ◌+◌, ◌<◌, ◌≤◌, ◌==◌, Bool, true, false, List, [], ◌++◌, length, take, drop, take-add, codes, Option, Some, None, Result, Ok, Err, IfOk, refl, subst, sym, ap, ◌∙◌, arith, inl, inr}
use Rattle.std.specs.Prelude.{OnOk, OnErr, IfSome, Vec, ◌⊎◌, nat_lt, if◌then◌else◌}
use Rattle.std.proofs.lemmas.Bool.Decides.{nat_tests}
use Rattle.std.proofs.lemmas.List.{append-nil, length-append, length-take}
use Rattle.std.specs.Io.KnownBytes.{Appends}
use Rattle.std.specs.Fn.{Once, FnOnceReturns}
use denote.Ref.{Bor}
use Rattle.std.proofs.KnownBytes.{Appends-trans, Appends-nil}
use Rattle.std.specs.declared.alloc.AllocError.{AllocError}
use Rattle.bgp_codec.specs.declared.rule.Rule.{Rule}
use Rattle.text_engines.specs.declared.channel.IoStopped.{IoStopped}
use Rattle.text_engines.specs.declared.status.TheConstants.{DONE, MEMORY}
use Rattle.text_engines.specs.declared.transfer.TheConstants.{INPUT_LIMIT}
use Rattle.text_engines.specs.Decoding.{Output, output, memory_output, WithinLimit, OrMemory, DecodeGives, Prints}
use Rattle.text_engines.specs.Engine.{ReadsUpTo, AppendsFront, IsMade, WrittenBy, WrittenFrontBy, PrintedBy, PrintedFrontBy, IsAnswered, gives_by, limit_comment, limited}

pub one_more : (a b c : Option (List ℕ)) (text : List ℕ) (at n : ℕ) → Appends a b (take at text) → Appends b c (take n (drop at text)) → Appends a c (take (at + n) text)
one_more a b c text at n first second = subst (Appends a c) (sym (take-add at n text)) (Appends-trans a b c (take at text) (take n (drop at text)) first second)

pub one_more_at : (a b c : Option (List ℕ)) (text rest : List ℕ) (at n : ℕ) → rest ≡ drop at text → Appends a b (take at text) → Appends b c (take n rest) → Appends a c (take (at + n) text)
one_more_at a b c text rest at n e first second = one_more a b c text at n first (subst (λ (r : List ℕ). Appends b c (take n r)) e second)

-- ---- what is written of an output

-- what holds, holds where a call stopped
pub on_err : {A E X : Type 0} (r : Result A E) → X → OnErr r X
on_err (Ok a) x = tt
on_err (Err e) x = x

-- want of memory leaves a beginning of its own output
pub memory_front : (IsPrinted : Output → Type 0) (old new : Option (List ℕ)) (r : Result ℕ IoStopped) → IsPrinted memory_output → OnErr r (AppendsFront old new (codes "memory\n")) → OnErr r (WrittenFrontBy IsPrinted old new)
memory_front IsPrinted old new (Ok status) short h = tt
memory_front IsPrinted old new (Err stopped) short h = (memory_output, short, h)

-- where what was made is printed, what is written of it is written of what is printed
pub made_written : {Z : Type 0} (IsPrinted : Output → Type 0) (old new : Option (List ℕ)) (made : Result (Vec ℕ Z × ℕ) AllocError) (r : Result ℕ IoStopped)
    → ((out : Output) → IsMade made out → IsPrinted out) → IfOk r (λ status. WrittenBy (IsMade made) old new status) → IfOk r (λ status. WrittenBy IsPrinted old new status)
made_written IsPrinted old new made (Ok status) prints h = (h.0, prints (output h.0 status) h.1, h.2)
made_written IsPrinted old new made (Err stopped) prints h = tt

pub made_front : {Z : Type 0} (IsPrinted : Output → Type 0) (old new : Option (List ℕ)) (made : Result (Vec ℕ Z × ℕ) AllocError) (r : Result ℕ IoStopped)
    → ((out : Output) → IsMade made out → IsPrinted out) → OnErr r (WrittenFrontBy (IsMade made) old new) → OnErr r (WrittenFrontBy IsPrinted old new)
made_front IsPrinted old new made (Ok status) prints h = tt
made_front IsPrinted old new made (Err stopped) prints h = (h.0, prints h.0 h.1, h.2)

-- the same, of what is printed for known octets
module _ (IsPrinted : List ℕ → Output → Type 0) where
  pub nothing_stopped : (known old : Option (List ℕ)) → ((input : List ℕ) → IsPrinted input memory_output) → PrintedFrontBy IsPrinted known old old
  nothing_stopped None old short = tt
  nothing_stopped (Some input) old short = (memory_output, short input, (0, Appends-nil old))

  pub memory_stopped : (known old new : Option (List ℕ)) (r : Result ℕ IoStopped) → ((input : List ℕ) → IsPrinted input memory_output) → OnErr r (AppendsFront old new (codes "memory\n")) → OnErr r (PrintedFrontBy IsPrinted known old new)
  memory_stopped known old new (Ok status) short h = tt
  memory_stopped None old new (Err stopped) short h = tt
  memory_stopped (Some input) old new (Err stopped) short h = (memory_output, short input, h)

  pub made_done : {Z : Type 0} (known old new : Option (List ℕ)) (made : Result (Vec ℕ Z × ℕ) AllocError) (r : Result ℕ IoStopped)
      → IfSome known (λ input. (out : Output) → IsMade made out → IsPrinted input out) → IfOk r (λ status. WrittenBy (IsMade made) old new status) → IfOk r (λ status. PrintedBy IsPrinted known old new status)
  made_done None old new made (Ok status) prints h = tt
  made_done None old new made (Err stopped) prints h = tt
  made_done (Some input) old new made r prints h = made_written (IsPrinted input) old new made r prints h

  pub made_stopped : {Z : Type 0} (known old new : Option (List ℕ)) (made : Result (Vec ℕ Z × ℕ) AllocError) (r : Result ℕ IoStopped)
      → IfSome known (λ input. (out : Output) → IsMade made out → IsPrinted input out) → OnErr r (WrittenFrontBy (IsMade made) old new) → OnErr r (PrintedFrontBy IsPrinted known old new)
  made_stopped None old new made (Ok status) prints h = tt
  made_stopped None old new made (Err stopped) prints h = tt
  made_stopped (Some input) old new made r prints h = made_front (IsPrinted input) old new made r prints h

-- ---- what an engine leaves

-- no read failed
read_on : {A : Type 0} (unread now : Bool) → now ≡ unread → unread ≡ false → now ≡ true → A
read_on unread now same not_yet failed = absurd (let both = sym not_yet ∙ sym same ∙ failed in cc)

-- a write failed, or nothing did
ends_whole : (unread now unwritten ended : Bool) (r : Result ℕ IoStopped) → now ≡ unread → OnOk r (ended ≡ unwritten) → OnOk r ((now ≡ unread) × (ended ≡ unwritten))
ends_whole unread now unwritten ended (Ok status) same h = (same, h)
ends_whole unread now unwritten ended (Err stopped) same h = tt

ends_short : (now ended : Bool) (r : Result ℕ IoStopped) → OnErr r (ended ≡ true) → OnErr r ((now ≡ true) ⊎ (ended ≡ true))
ends_short now ended (Ok status) h = tt
ends_short now ended (Err stopped) h = inr h

memory_done : (IsPrinted : List ℕ → Output → Type 0) (known old new : Option (List ℕ)) (r : Result ℕ IoStopped) → ((input : List ℕ) → IsPrinted input memory_output)
    → IfOk r (λ status. (status ≡ MEMORY) × Appends old new (codes "memory\n")) → IfOk r (λ status. PrintedBy IsPrinted known old new status)
memory_done IsPrinted None old new (Ok status) short h = tt
memory_done IsPrinted (Some input) old new (Ok status) short h =
    (codes "memory\n", subst (λ (s : ℕ). IsPrinted input (output (codes "memory\n") s)) (sym h.0) (short input), h.1)
memory_done IsPrinted known old new (Err stopped) short h = tt

module _ (IsPrinted : List ℕ → Output → Type 0) (known old : Option (List ℕ)) (unread now unwritten : Bool) where
  -- a read failed
  pub unread_answered : (e : IoStopped) → ((input : List ℕ) → IsPrinted input memory_output) → now ≡ true → IsAnswered IsPrinted known old old unread now unwritten unwritten (Err e)
  unread_answered e short failed = record { done = tt; unfailed = tt; failed = inl failed; silent = λ a b. refl; stopped = nothing_stopped IsPrinted known old short }

  -- memory was wanting
  pub memory_answered : (new : Option (List ℕ)) (ended : Bool) (r : Result ℕ IoStopped) → ((input : List ℕ) → IsPrinted input memory_output) → now ≡ unread
      → IfOk r (λ status. (status ≡ MEMORY) × Appends old new (codes "memory\n")) → OnErr r (AppendsFront old new (codes "memory\n")) → OnErr r (ended ≡ true) → OnOk r (ended ≡ unwritten)
      → IsAnswered IsPrinted known old new unread now unwritten ended r
  memory_answered new ended r short same ok stopped failed unfailed =
      record {
        done = memory_done IsPrinted known old new r short ok;
        unfailed = ends_whole unread now unwritten ended r same unfailed;
        failed = ends_short now ended r failed;
        silent = read_on unread now same;
        stopped = memory_stopped IsPrinted known old new r short stopped;
      }

  -- this was made
  pub made_answered : {Z : Type 0} (new : Option (List ℕ)) (ended : Bool) (made : Result (Vec ℕ Z × ℕ) AllocError) (r : Result ℕ IoStopped) → now ≡ unread
      → IfSome known (λ input. (out : Output) → IsMade made out → IsPrinted input out) → IfOk r (λ status. WrittenBy (IsMade made) old new status)
      → OnErr r (WrittenFrontBy (IsMade made) old new) → OnErr r (ended ≡ true) → OnOk r (ended ≡ unwritten) → IsAnswered IsPrinted known old new unread now unwritten ended r
  made_answered new ended made r same prints done stopped failed unfailed =
      record {
        done = made_done IsPrinted known old new made r prints done;
        unfailed = ends_whole unread now unwritten ended r same unfailed;
        failed = ends_short now ended r failed;
        silent = read_on unread now same;
        stopped = made_stopped IsPrinted known old new made r prints stopped;
      }

-- ---- what is made of what was read

pub made_is : {Z : Type 0} (Gives : Output → Type 0) (made : Result (Vec ℕ Z × ℕ) AllocError) → IfOk made (λ printed. Gives (output printed.0.items printed.1)) → (out : Output) → IsMade made out → Gives out ⊎ (out ≡ memory_output)
made_is Gives (Ok printed) gives out is = inl (subst Gives (sym is) gives)
made_is Gives (Err short) gives out is = inr is

module _ (Gives : List ℕ → Output → Type 0) where
  -- for known octets of which these were read, up to the limit
  within_limit : (input items : List ℕ) (out : Output) → items ≡ take (length items) input → (length items ≤ INPUT_LIMIT → items ≡ input) → WithinLimit Gives items out → WithinLimit Gives input out
  within_limit input items out front same (inl long) =
      let size : length items ≤ length input = omega (arith, ap length front, length-take (length items) input) in
      inl (omega (arith, size, long.0), long.1)
  within_limit input items out front same (inr short) = subst (λ (xs : List ℕ). WithinLimit Gives xs out) (same short.0) (inr short)

  pub limited_made : {Z : Type 0} (known : Option (List ℕ)) (items : List ℕ) (made : Result (Vec ℕ Z × ℕ) AllocError) → ReadsUpTo INPUT_LIMIT known items
      → IfOk made (λ printed. WithinLimit Gives items (output printed.0.items printed.1)) → IfSome known (λ input. (out : Output) → IsMade made out → OrMemory (WithinLimit Gives) input out)
  limited_made None items made read gives = tt
  limited_made (Some input) items (Ok printed) read gives = λ out is. inl (within_limit input items out read.0 read.1 (subst (WithinLimit Gives items) (sym is) gives))
  limited_made (Some input) items (Err short) read gives = λ out is. inr is

-- and of what was made whole
pub given_made : {Z : Type 0} (rule : Rule) (known : Option (List ℕ)) (printed : Vec ℕ Z × ℕ) → IfSome known (λ input. DecodeGives rule input (output printed.0.items printed.1))
    → IfSome known (λ input. (out : Output) → IsMade {Z = Z} {E = AllocError} (Ok printed) out → Prints rule input out)
given_made rule None printed gives = tt
given_made rule (Some input) printed gives = λ out is. inl (subst (DecodeGives rule input) (sym is) gives)

-- ---- an answer that another one allows

module _ (P Q : List ℕ → Output → Type 0) (allows : (text : List ℕ) (out : Output) → P text out → Q text out) where
  -- what is printed within the limit, or that memory ran out
  pub or_memory_more : (input : List ℕ) (out : Output) → OrMemory (WithinLimit P) input out → OrMemory (WithinLimit Q) input out
  or_memory_more input out (inl (inl beyond)) = inl (inl beyond)
  or_memory_more input out (inl (inr within)) = inl (inr (within.0, allows input out within.1))
  or_memory_more input out (inr short) = inr short

  printed_more : (known old new : Option (List ℕ)) (status : ℕ) → PrintedBy P known old new status → PrintedBy Q known old new status
  printed_more None old new status h = tt
  printed_more (Some input) old new status h = (h.0, allows input (output h.0 status) h.1, h.2)

  front_more : (known old new : Option (List ℕ)) → PrintedFrontBy P known old new → PrintedFrontBy Q known old new
  front_more None old new h = tt
  front_more (Some input) old new h = (h.0, allows input h.0 h.1, h.2)

  -- what an engine leaves
  pub answered_more : (known old new : Option (List ℕ)) (unread now unwritten ended : Bool) (r : Result ℕ IoStopped) → IsAnswered P known old new unread now unwritten ended r → IsAnswered Q known old new unread now unwritten ended r
  answered_more known old new unread now unwritten ended (Ok status) h =
      record { done = printed_more known old new status h.done; unfailed = h.unfailed; failed = tt; silent = h.silent; stopped = tt }
  answered_more known old new unread now unwritten ended (Err stopped) h =
      record { done = tt; unfailed = tt; failed = h.failed; silent = h.silent; stopped = front_more known old new h.stopped }

-- a closure that was called once at a text within the limit
pub called : {F Z E : Type 0} (g : Once F (Bor (List ℕ) × Unit {0}) (Result (Vec ℕ Z × ℕ) E)) (answer : F) (text : List ℕ) (p : Bor (List ℕ)) (made : Result (Vec ℕ Z × ℕ) E)
    → p.now ≡ text → FnOnceReturns g answer (p, tt) made → length text ≤ INPUT_LIMIT → IfOk made (λ printed. WithinLimit (gives_by g answer) text (output printed.0.items printed.1))
called g answer text p (Ok printed) same met short = inr (short, (printed, (p, met, same), refl))
called g answer text p (Err want) same met short = tt

-- ---- texts that were printed whole

-- what was printed whole is no refusal
pub not_done : (text : List ℕ) (out : Output) → (out.status == 0) ≡ false → output text DONE ≡ out → ⊥
not_done text out other e =
    let k : true ≡ false = ap (λ (o : Output). o.status == 0) e ∙ other in
    absurd cc

-- a text that an input may be has no comment that it is too long
short_by : (limit : ℕ) (comment : List ℕ) (b : Bool) (t text : List ℕ) → nat_lt limit (length t) ≡ b → length text ≤ limit → text ≡ t ++ (if b then comment else []) → text ≡ t
short_by limit comment true t text long short is =
    let more : limit < length t = grind (arith, nat_tests, long) in
    absurd (omega (arith, ap length is, length-append t comment, short, more))
short_by limit comment false t text long short is = is ∙ append-nil t

pub short_text : (t text : List ℕ) → length text ≤ INPUT_LIMIT → text ≡ limited t → text ≡ t
short_text t text short is = short_by INPUT_LIMIT limit_comment (nat_lt INPUT_LIMIT (length t)) t text refl short is
