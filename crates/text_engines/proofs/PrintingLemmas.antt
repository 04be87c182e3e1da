-- What is printed for the octets so far, and for the whole stream.
use Rattle.std.proofs.Common.{◌≡◌, ℕ, ◌+◌, ◌≤◌, true, false, List, [], ◌∷◌, ◌++◌, codes, length, take, drop, take-add, Option, Some, None, Result, Ok, Err, MatchResult, refl, sym, ap, subst, ◌∙◌, append_assoc, inl, inr, arith}
use Rattle.std.specs.Prelude.{nat_lt, slice_index, is_err, IfOk}
use Rattle.std.proofs.lemmas.Bool.{le-ltb, lt-ltb}
use Rattle.std.proofs.lemmas.List.{take_all, drop_all, take-append-drop, length-append}
use Rattle.hex.specs.Hex.{decode_of}
use Rattle.bgp_codec.specs.declared.message.Message.{Message}
use Rattle.bgp_codec.specs.declared.message.Message.TheVariants.{AliveMsg}
use Rattle.bgp_codec.specs.declared.parts.UpdateParts.{UpdateParts}
use Rattle.bgp_codec.specs.declared.update.Update.{Update}
use Rattle.bgp_codec.specs.Judging.{Shows, ShowsUpdate}
use Rattle.bgp_codec.specs.declared.fault.Fault.{Fault}
use Rattle.bgp_codec.specs.declared.rule.Rule.{Rule}
use Rattle.bgp_codec.specs.Header.{header_fault, kind_field, IsFrame}
use Rattle.bgp_codec.specs.Faults.{reading}
use Rattle.bgp_framing.specs.Frames.{Splits, SplitsOnce, SplitsBehindAFrame, SplitsIntoNothing, IsPartial}
use Rattle.net_text.specs.Printing.{line, message_line, update_line, notice_line, noticed, fault_lines}
use Rattle.text_engines.specs.Decoding.{Output, output, behind, short_output, rest_output, read_output, frames_output, StreamGives, DigitsGive, Leads, PutsFrame, PutsShort}

-- what is taken and what is left are all
whole : (before octets : List ℕ) (n : ℕ) → (before ++ take n octets) ++ drop n octets ≡ before ++ octets
whole before octets n = append_assoc before (take n octets) (drop n octets) ∙ ap (λ (l : List ℕ). before ++ l) (take-append-drop n octets)

-- the laws of frames
module _ (once : SplitsOnce) (behind_one : SplitsBehindAFrame) (nothing : SplitsIntoNothing) where
  some_split : (octets : List ℕ) → (frames : List (List ℕ)) × (rest : List ℕ) × Splits octets frames rest
  some_split octets = (once octets).0

  frame_splits : (frame later : List ℕ) (fs : List (List ℕ)) (rest : List ℕ) → IsFrame frame → Splits later fs rest → Splits (frame ++ later) (frame ∷ fs) rest
  frame_splits frame later fs rest is s =
      let all : take (length frame) frame ≡ frame = take_all (length frame) frame (omega arith) in
      let none : drop (length frame) frame ≡ [] = drop_all (length frame) frame (omega arith) in
      subst (λ (f : List ℕ). Splits (frame ++ later) (f ∷ fs) rest) all
      ((behind_one frame later (length frame) (omega arith) (subst IsFrame (sym all) is)).1 fs rest (subst (λ (l : List ℕ). Splits (l ++ later) fs rest) (sym none) s))

  behind_twice : (a b new : List ℕ) (more : Output) → new ≡ a ++ b → behind a (behind b more) ≡ behind new more
  behind_twice a b new more e = ap (λ (t : List ℕ). output t more.status) (sym (append_assoc a b more.text) ∙ ap (λ (t : List ℕ). t ++ more.text) (sym e))

  -- before, some octets, the next ones, and later ones
  regroup : (before some next later more : List ℕ) → more ≡ some ++ next → (before ++ some) ++ (next ++ later) ≡ (before ++ more) ++ later
  regroup before some next later more e =
      sym (append_assoc (before ++ some) next later) ∙ ap (λ (t : List ℕ). t ++ later) (append_assoc before some next ∙ ap (λ (t : List ℕ). before ++ t) (sym e))

  pub goes_on : (rule : Rule) (before octets left old new : List ℕ) (at n : ℕ) (x : Option ℕ) → x ≡ None → left ≡ drop at octets → n ≤ length left → IsFrame (take n left)
      → PutsFrame rule (take n left) old new x → Leads rule (before ++ take at octets) old None → Leads rule (before ++ take (at + n) octets) new None
  unfolding frames_output
  goes_on rule before octets left old new at n x none e h is put so_far later more s =
      let frame : List ℕ = take n left in
      let puts : PutsFrame rule frame old new None = subst (PutsFrame rule frame old new) none put in
      let split : Splits (frame ++ later) (frame ∷ s.0) s.1 = frame_splits frame later s.0 s.1 is s.2 in
      let this : behind puts.0 more ≡ frames_output rule (frame ∷ s.0) s.1 = sym (puts.2 more) ∙ ap (read_output (reading rule frame)) s.3 in
      let next : take (at + n) octets ≡ take at octets ++ frame = take-add at n octets ∙ ap (λ (l : List ℕ). take at octets ++ take n l) (sym e) in
      subst (λ (l : List ℕ). StreamGives rule l (behind new more)) (regroup before (take at octets) frame later (take (at + n) octets) next)
      (subst (StreamGives rule ((before ++ take at octets) ++ (frame ++ later))) (behind_twice old puts.0 new more puts.1) (so_far (frame ++ later) (behind puts.0 more) (frame ∷ s.0, s.1, split, this)))

  -- a text and a status that are printed for what is left, whatever comes behind it
  stops : (rule : Rule) (before octets left old new text : List ℕ) (at status : ℕ) → left ≡ drop at octets → new ≡ old ++ text → Leads rule (before ++ take at octets) old None
      → ((later : List ℕ) → StreamGives rule (left ++ later) (output text status)) → Leads rule (before ++ take (length octets) octets) new (Some status)
  stops rule before octets left old new text at status e is so_far gives later =
      let all : take (length octets) octets ≡ take at octets ++ left
      = take_all (length octets) octets (omega arith) ∙ sym (take-append-drop at octets) ∙ ap (λ (l : List ℕ). take at octets ++ l) (sym e)
      in
      subst (λ (l : List ℕ). StreamGives rule l (output new status)) (regroup before (take at octets) left later (take (length octets) octets) all)
      (subst (λ (t : List ℕ). StreamGives rule ((before ++ take at octets) ++ (left ++ later)) (output t status)) (sym is) (so_far (left ++ later) (output text status) (gives later)))

  pub ends : (rule : Rule) (before octets left old new : List ℕ) (at n status : ℕ) (x : Option ℕ) → x ≡ Some status → left ≡ drop at octets → n ≤ length left → IsFrame (take n left)
      → PutsFrame rule (take n left) old new x → Leads rule (before ++ take at octets) old None → Leads rule (before ++ take (length octets) octets) new (Some status)
  unfolding frames_output
  ends rule before octets left old new at n status x some e h is put so_far =
      let puts : PutsFrame rule (take n left) old new (Some status) = subst (PutsFrame rule (take n left) old new) some put in
      stops rule before octets left old new puts.0 at status e puts.1 so_far (λ later.
      let s = some_split (drop n left ++ later) in
      (take n left ∷ s.0, s.1, (behind_one left later n h is).1 s.0 s.1 s.2, sym (puts.2 (frames_output rule s.0 s.1))))

  rest_fault : (rest : List ℕ) (f : Fault) → 19 ≤ length rest → header_fault rest ≡ Some f → rest_output rest ≡ output (fault_lines f) 1
  unfolding rest_output
  rest_fault rest f long bad = let b : nat_lt (length rest) 19 ≡ false = le-ltb (length rest) 19 long in rw (b, bad) refl

  pub stops_at_fault : (rule : Rule) (before octets left old new : List ℕ) (at : ℕ) (f : Fault) → left ≡ drop at octets → 19 ≤ length left → header_fault left ≡ Some f → new ≡ old ++ fault_lines f
      → Leads rule (before ++ take at octets) old None → Leads rule (before ++ take (length octets) octets) new (Some 1)
  unfolding frames_output
  stops_at_fault rule before octets left old new at f e long bad is so_far =
      stops rule before octets left old new (fault_lines f) at 1 e is so_far (λ later.
      let still = (nothing left).1 f later long bad in
      ([], left ++ later, still.1, sym (rest_fault (left ++ later) f (omega (arith, length-append left later, long)) still.0)))

-- ---- the last octets

rest_short : (rest : List ℕ) → IsPartial rest → rest_output rest ≡ short_output (length rest)
unfolding rest_output
rest_short rest (inl short) = let b : nat_lt (length rest) 19 ≡ true = lt-ltb (length rest) 19 short in rw b refl
rest_short rest (inr part) = let b : nat_lt (length rest) 19 ≡ false = le-ltb (length rest) 19 part.0 in rw (b, part.1) refl

pub stops_short : SplitsIntoNothing → (rule : Rule) (before octets old new : List ℕ) (used n status : ℕ) (x : Option ℕ) → x ≡ None → n ≡ length (drop used octets) → IsPartial (drop used octets) → PutsShort n old new status
    → Leads rule (before ++ take used octets) old x → StreamGives rule (before ++ octets) (output new status)
unfolding frames_output
stops_short nothing rule before octets old new used n status x none len part puts leads =
    let so_far : Leads rule (before ++ take used octets) old None = subst (Leads rule (before ++ take used octets) old) none leads in
    let rest : List ℕ = drop used octets in
    let this : short_output n ≡ frames_output rule [] rest = ap short_output len ∙ sym (rest_short rest part) in
    let here : StreamGives rule ((before ++ take used octets) ++ rest) (behind old (short_output n)) = so_far rest (short_output n) ([], rest, (nothing rest).0 part, this) in
    subst (λ (l : List ℕ). StreamGives rule l (output new status)) (whole before octets used)
    (subst (StreamGives rule ((before ++ take used octets) ++ rest)) (ap (λ (t : List ℕ). output t (short_output n).status) (sym puts.0) ∙ ap (output new) (sym puts.1)) here)

pub all_given : (rule : Rule) (before octets text : List ℕ) (used status : ℕ) (x : Option ℕ) → x ≡ Some status → Leads rule (before ++ take used octets) text x → StreamGives rule (before ++ octets) (output text status)
all_given rule before octets text used status x some leads =
    let so_far : Leads rule (before ++ take used octets) text (Some status) = subst (Leads rule (before ++ take used octets) text) some leads in
    subst (λ (l : List ℕ). StreamGives rule l (output text status)) (whole before octets used) (so_far (drop used octets))

-- ---- frames that are not decoded

-- a KEEPALIVE says nothing
pub alive_put : (rule : Rule) (frame old new : List ℕ) → kind_field frame ≡ 4 → new ≡ old ++ line (message_line AliveMsg) → PutsFrame rule frame old new None
unfolding reading
alive_put rule frame old new kind is = (line (message_line AliveMsg), is, λ more. rw kind refl)

-- the parts of a NOTIFICATION stand behind the header
pub notice_put : (rule : Rule) (frame body extra old new : List ℕ) (code sub : ℕ) → kind_field frame ≡ 3 → body ≡ drop 19 frame → code ≡ slice_index body 0 → sub ≡ slice_index body 1 → extra ≡ drop 2 body
    → new ≡ old ++ line (notice_line (noticed code sub extra)) → PutsFrame rule frame old new None
unfolding reading message_line
notice_put rule frame body extra old new code sub kind b c s e is = (line (notice_line (noticed code sub extra)), is, λ more. rw (e, s, c, b, kind) refl)

-- the parts are those of the UPDATE that the frame reads as
pub update_put : (rule : Rule) (frame old new : List ℕ) (parts : UpdateParts) → (message : Message) × (reading rule frame ≡ Ok message) × ShowsUpdate parts message
    → ((u : Update) → Shows parts u → new ≡ old ++ line (update_line u)) → PutsFrame rule frame old new None
unfolding message_line
update_put rule frame old new parts read put =
    let u = read.2.0 in
    (line (update_line u), put u read.2.2, λ more. rw (read.1, read.2.1) refl)

-- ---- a stream in hex

pub begun_leads : (rule : Rule) (text : List ℕ) → text ≡ [] → Leads rule [] text None
begun_leads rule text none later more s = subst (λ (t : List ℕ). StreamGives rule later (behind t more)) (sym none) s

-- behind a status nothing is printed for what comes
pub leads_still : (rule : Rule) (taken more text : List ℕ) (x : Option ℕ) (status : ℕ) → x ≡ Some status → Leads rule taken text x → Leads rule (taken ++ more) text x
leads_still rule taken more text x status some leads =
    let so_far : Leads rule taken text (Some status) = subst (Leads rule taken text) some leads in
    subst (Leads rule (taken ++ more) text) (sym some) (λ later. subst (λ (l : List ℕ). StreamGives rule l (output text status)) (sym (append_assoc taken more later)) (so_far (more ++ later)))

pub good_given : (rule : Rule) (digits octets : List ℕ) (out : Output) → decode_of digits ≡ Ok octets → StreamGives rule octets out → DigitsGive rule digits out
good_given rule digits octets out read gives = rw read gives

pub bad_given : (rule : Rule) (digits : List ℕ) (out : Output) → is_err (decode_of digits) ≡ true → out ≡ output (codes "bad hex\n") 1 → DigitsGive rule digits out
bad_given rule digits out bad is = by_cases (decode_of digits) bad where
  by_cases : {E : Type 0} (read : Result (List ℕ) E) → is_err read ≡ true → MatchResult read (λ octets. StreamGives rule octets out) (λ _. out ≡ output (codes "bad hex\n") 1)
  by_cases (Ok octets) bad = absurd cc
  by_cases (Err e) bad = is

pub given_status : (rule : Rule) (taken later text : List ℕ) (x : Option ℕ) (status : ℕ) → x ≡ Some status → Leads rule taken text x → StreamGives rule (taken ++ later) (output text status)
given_status rule taken later text x status some leads = let so_far : Leads rule taken text (Some status) = subst (Leads rule taken text) some leads in so_far later

pub if_ok : {A E : Type 0} {P Q : A → Type 0} (r : Result A E) → ((x : A) → P x → Q x) → IfOk r P → IfOk r Q
if_ok (Ok x) f p = f x p
if_ok (Err e) f p = tt
