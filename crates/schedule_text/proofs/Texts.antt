-- Schedule texts, one more line at a time.
use Rattle.std.proofs.Common.{◌≡◌, ℕ, ◌+◌, ◌<◌, ◌==◌, true, false, List, [], ◌∷◌, ◌++◌, length, Err, refl, sym, ap, ◌∙◌, arith, append_assoc}
use Rattle.std.proofs.lemmas.Bool.{eqb-true, eqb-false}
use Rattle.std.specs.List.{All}
use Rattle.std.proofs.lemmas.List.{append-nil, length-append}
use Rattle.std.proofs.lemmas.List.Elements.{All-append, All-nil, All-cons}
use Rattle.ranked_policy.specs.Plans.{Plan}
use Rattle.net_text.specs.declared.code.Code.{Code}
use Rattle.net_text.specs.declared.code.Code.TheVariants as codes
use Rattle.net_text.specs.Lexing.{Text, lines_of}
use Rattle.schedule_text.specs.declared.schedule.ScheduledOrder.{ScheduledOrder}
use Rattle.schedule_text.specs.Schedules.{line_order, order_at, orders_of, IsGood, IsFaulty, SpellsSchedule, IsFirstFault, RefusesSchedule}

-- the lines passed have no fault, and these are their orders
pub record Passed (net : Plan) (before : ℕ) (lines left : List Text) (line : ℕ) (orders : List ScheduledOrder) : Type 0 where
  pub front : List Text
  pub parted : lines ≡ front ++ left
  pub counted : before + length front ≡ line
  pub good : All (IsGood net) front
  pub are : orders ≡ orders_of net before front

module _ (net : Plan) (before : ℕ) where
  pub none_passed : (lines : List Text) → Passed net before lines lines before []
  none_passed lines = record { front = []; parted = refl; counted = omega arith; good = All-nil (IsGood net); are = refl }

  orders_on : (at : ℕ) (front : List Text) (next : Text) → orders_of net at (front ++ next ∷ []) ≡ orders_of net at front ++ order_at (at + length front + 1) (line_order net next)
  orders_on at [] next = append-nil (order_at (at + 1) (line_order net next)) ∙ ap (λ n. order_at n (line_order net next)) (omega arith)
  orders_on at (text ∷ texts) next =
      ap (λ (os : List ScheduledOrder). order_at (at + 1) (line_order net text) ++ os)
      (orders_on (at + 1) texts next ∙ ap (λ n. orders_of net (at + 1) texts ++ order_at n (line_order net next)) (omega arith))
      ∙ sym (append_assoc (order_at (at + 1) (line_order net text)) (orders_of net (at + 1) texts) (order_at (at + length (text ∷ texts) + 1) (line_order net next)))

  one_good : (next : Text) → IsGood net next → All (IsGood net) (next ∷ [])
  one_good next good = All-cons (IsGood net) next [] good (All-nil (IsGood net))

  parted_on : (lines front left rest : List Text) (next : Text) → lines ≡ front ++ left → left ≡ next ∷ rest → lines ≡ (front ++ next ∷ []) ++ rest
  parted_on lines front left rest next p l = p ∙ ap (λ (ls : List Text). front ++ ls) l ∙ sym (append_assoc front (next ∷ []) rest)

  counted_on : (front : List Text) (next : Text) (line : ℕ) → before + length front ≡ line → before + length (front ++ next ∷ []) ≡ line + 1
  counted_on front next line c = let size = length-append front (next ∷ []) in omega (arith, size, c)

  pub passed_on : (lines left rest : List Text) (line : ℕ) (old new : List ScheduledOrder) (next : Text) → left ≡ next ∷ rest → Passed net before lines left line old
      → IsGood net next → new ≡ old ++ order_at (line + 1) (line_order net next) → Passed net before lines rest (line + 1) new
  passed_on lines left rest line old new next l h good is = record {
    front = h.front ++ next ∷ [];
    parted = parted_on lines h.front left rest next h.parted l;
    counted = counted_on h.front next line h.counted;
    good = All-append (IsGood net) h.front (next ∷ []) h.good (one_good next good);
    are = is ∙ ap (λ (os : List ScheduledOrder). os ++ order_at (line + 1) (line_order net next)) h.are
        ∙ ap (λ n. orders_of net before h.front ++ order_at (n + 1) (line_order net next)) (sym h.counted) ∙ sym (orders_on before h.front next);
  }

  pub all_passed : (lines left : List Text) (line : ℕ) (orders : List ScheduledOrder) → left ≡ [] → Passed net before lines left line orders → SpellsSchedule net before lines orders
  all_passed lines left line orders l h =
      let whole : lines ≡ h.front = h.parted ∙ ap (λ (ls : List Text). h.front ++ ls) l ∙ append-nil h.front in
      record { good = rw whole h.good; are = h.are ∙ ap (orders_of net before) (sym whole) }

  fault_at : (lines left rest : List Text) (line : ℕ) (orders : List ScheduledOrder) (next : Text) (code : Code) → left ≡ next ∷ rest → Passed net before lines left line orders
      → line_order net next ≡ Err code → IsFirstFault net before lines (line + 1) code
  fault_at lines left rest line orders next code l h e = record {
    front = h.front;
    faulty = next;
    behind = rest;
    parted = h.parted ∙ ap (λ (ls : List Text). h.front ++ ls) l;
    counted = ap (λ n. n + 1) h.counted;
    good = h.good;
    fault = e;
  }

  -- a line's refusal is the text's
  pub refuses_at : (lines left rest : List Text) (line : ℕ) (orders : List ScheduledOrder) (next : Text) (code : Code) → left ≡ next ∷ rest → Passed net before lines left line orders
      → IsFaulty net next code → RefusesSchedule net before lines (line + 1) code
  refuses_at lines left rest line orders next codes.Memory l h good = record {
    front = h.front ++ next ∷ [];
    behind = rest;
    parted = parted_on lines h.front left rest next h.parted l;
    counted = counted_on h.front next line h.counted;
    good = All-append (IsGood net) h.front (next ∷ []) h.good (one_good next good);
  }
  refuses_at lines left rest line orders next codes.BadForm l h e = fault_at lines left rest line orders next codes.BadForm l h e
  refuses_at lines left rest line orders next codes.Unreadable l h e = fault_at lines left rest line orders next codes.Unreadable l h e
  refuses_at lines left rest line orders next codes.UnknownRouter l h e = fault_at lines left rest line orders next codes.UnknownRouter l h e
  refuses_at lines left rest line orders next codes.Repeated l h e = fault_at lines left rest line orders next codes.Repeated l h e
  refuses_at lines left rest line orders next codes.NotConnected l h e = fault_at lines left rest line orders next codes.NotConnected l h e
  refuses_at lines left rest line orders next codes.OutOfLimit l h e = fault_at lines left rest line orders next codes.OutOfLimit l h e
  refuses_at lines left rest line orders next codes.NotSimple l h e = fault_at lines left rest line orders next codes.NotSimple l h e
  refuses_at lines left rest line orders next codes.BadPrefix l h e = fault_at lines left rest line orders next codes.BadPrefix l h e
  refuses_at lines left rest line orders next codes.NotPermitted l h e = fault_at lines left rest line orders next codes.NotPermitted l h e

-- ---- the end of a text

pub no_lines : (text : Text) → true ≡ (length text == 0) → lines_of text ≡ []
no_lines [] e = refl
no_lines (x ∷ xs) e = absurd (let at = eqb-true (length (x ∷ xs)) 0 (sym e) in omega (arith, at))

pub some_octets : (text : Text) → false ≡ (length text == 0) → 0 < length text
some_octets [] e = absurd (eqb-false 0 0 (sym e) refl)
some_octets (x ∷ xs) e = omega arith
