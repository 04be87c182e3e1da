-- Texts, one more line at a time.
use Rattle.std.proofs.Common.{◌≡◌, ℕ, ◌+◌, List, [], ◌∷◌, ◌++◌, length, Result, Ok, Err, refl, sym, ap, ◌∙◌, arith, append_assoc}
use Rattle.std.specs.Prelude.{IsOk}
use Rattle.std.proofs.lemmas.List.{append-nil, length-append}
use Rattle.net_text.specs.declared.code.Code.{Code}
use Rattle.net_text.specs.declared.code.Refused.{Refused}
use Rattle.net_text.specs.Lexing.{Text}
use Rattle.net_text.specs.Networks.{refused_at, then_on, reading, AreGood}
use Rattle.net_text.specs.Laws.{IsFirstFault}

module _ {S : Type 0} where
  -- a good line leaves the rest
  pub good_on : (read : ℕ → S → Text → Result S Code) (before : ℕ) (s t : S) (line : Text) (lines : List Text) → read (before + 1) s line ≡ Ok t → reading read before s (line ∷ lines) ≡ reading read (before + 1) t lines
  good_on read before s t line lines e = ap (λ (r : Result S Code). then_on (before + 1) r (λ u. reading read (before + 1) u lines)) e

  pub fault_here : (read : ℕ → S → Text → Result S Code) (before : ℕ) (s : S) (line : Text) (lines : List Text) (code : Code) → read (before + 1) s line ≡ Err code → reading read before s (line ∷ lines) ≡ Err (refused_at (before + 1) code)
  fault_here read before s line lines code e = ap (λ (r : Result S Code). then_on (before + 1) r (λ u. reading read (before + 1) u lines)) e

  on_line : (read : ℕ → S → Text → Result S Code) (before : ℕ) (s t : S) (line : Text) (lines behind : List Text) (r : Result S Code) → read (before + 1) s line ≡ r
      → ((u : S) → reading read (before + 1) u lines ≡ Ok t → reading read (before + 1) u (lines ++ behind) ≡ reading read (before + 1 + length lines) t behind)
      → reading read before s (line ∷ lines) ≡ Ok t → reading read before s (line ∷ (lines ++ behind)) ≡ reading read (before + length (line ∷ lines)) t behind
  on_line read before s t line lines behind (Ok u) r more e =
      good_on read before s u line (lines ++ behind) r ∙ more u (sym (good_on read before s u line lines r) ∙ e) ∙ ap (λ n. reading read n t behind) (omega arith)
  on_line read before s t line lines behind (Err code) r more e = let both = sym (fault_here read before s line lines code r) ∙ e in absurd (cc)

  -- good lines in front leave what is behind
  pub reading_on : (read : ℕ → S → Text → Result S Code) (before : ℕ) (s t : S) (front behind : List Text) → reading read before s front ≡ Ok t → reading read before s (front ++ behind) ≡ reading read (before + length front) t behind
  reading_on read before s t [] behind e =
      let same : s ≡ t = cc in
      ap (λ (u : S). reading read before u behind) same ∙ ap (λ n. reading read n t behind) (omega arith)
  reading_on read before s t (line ∷ lines) behind e =
      on_line read before s t line lines behind (read (before + 1) s line) refl (λ u. reading_on read (before + 1) u t lines behind) e

-- ---- a loop over lines: those passed have led to what was made, with what is left behind them

pub record Reached {S : Type 0} (read : ℕ → S → Text → Result S Code) (before : ℕ) (s : S) (lines : List Text) (line : ℕ) (made : S) (left : List Text) : Type 0 where
  pub front : List Text
  pub parted : lines ≡ front ++ left
  pub counted : before + length front ≡ line
  pub good : reading read before s front ≡ Ok made

module _ {S : Type 0} where
  pub reached_start : (read : ℕ → S → Text → Result S Code) (before : ℕ) (s : S) (lines : List Text) → Reached read before s lines before s lines
  reached_start read before s lines = record { front = []; parted = refl; counted = omega arith; good = refl }

  pub reached_on : (read : ℕ → S → Text → Result S Code) (before : ℕ) (s made new : S) (lines left rest : List Text) (line : ℕ) (next : Text) → left ≡ next ∷ rest
      → Reached read before s lines line made left → read (line + 1) made next ≡ Ok new → Reached read before s lines (line + 1) new rest
  reached_on read before s made new lines left rest line next l h e =
      record {
        front = h.front ++ next ∷ [];
        parted = h.parted ∙ ap (λ (ls : List Text). h.front ++ ls) l ∙ sym (append_assoc h.front (next ∷ []) rest);
        counted = let size = length-append h.front (next ∷ []) in omega (arith, size, h.counted);
        good = reading_on read before s made h.front (next ∷ []) h.good ∙ ap (λ n. reading read n made (next ∷ [])) h.counted ∙ good_on read line made new next [] e;
      }

  pub reached_fault : (read : ℕ → S → Text → Result S Code) (before : ℕ) (s made : S) (lines left rest : List Text) (line : ℕ) (next : Text) (code : Code) → left ≡ next ∷ rest
      → Reached read before s lines line made left → read (line + 1) made next ≡ Err code → reading read before s lines ≡ Err (refused_at (line + 1) code)
  reached_fault read before s made lines left rest line next code l h e =
      ap (reading read before s) (h.parted ∙ ap (λ (ls : List Text). h.front ++ ls) l)
      ∙ reading_on read before s made h.front (next ∷ rest) h.good ∙ ap (λ n. reading read n made (next ∷ rest)) h.counted ∙ fault_here read line made next rest code e

  good_is : (r : Result S Code) → IsOk r → (new : S) × (r ≡ Ok new)
  good_is (Ok new) h = (new, refl)
  good_is (Err code) h = absurd (cc h)

  ok_is : (r : Result S Refused) (t : S) → r ≡ Ok t → IsOk r
  ok_is r t e = rw e refl

  pub reached_memory : (read : ℕ → S → Text → Result S Code) (before : ℕ) (s made : S) (lines left rest : List Text) (line : ℕ) (next : Text) → left ≡ next ∷ rest
      → Reached read before s lines line made left → IsOk (read (line + 1) made next) → AreGood read before s lines (line + 1)
  reached_memory read before s made lines left rest line next l h ok =
      let new = good_is (read (line + 1) made next) ok in
      let on = reached_on read before s made new.0 lines left rest line next l h new.1 in
      record { front = on.front; behind = rest; parted = on.parted; counted = on.counted; good = ok_is (reading read before s on.front) new.0 on.good }

  pub reached_end : (read : ℕ → S → Text → Result S Code) (before : ℕ) (s made : S) (lines left : List Text) (line : ℕ) → left ≡ []
      → Reached read before s lines line made left → reading read before s lines ≡ Ok made
  reached_end read before s made lines left line l h = ap (reading read before s) (h.parted ∙ ap (λ (ls : List Text). h.front ++ ls) l ∙ append-nil h.front) ∙ h.good

-- ---- the first faulty line decides

module _ {S : Type 0} where
  first_at : (read : ℕ → S → Text → Result S Code) (before : ℕ) (s : S) (next : Text) (lines : List Text) (line : ℕ) (code : Code) (r : Result S Code) → read (before + 1) s next ≡ r
      → ((t : S) → reading read (before + 1) t lines ≡ Err (refused_at line code) → IsFirstFault read (before + 1) t lines line code)
      → reading read before s (next ∷ lines) ≡ Err (refused_at line code) → IsFirstFault read before s (next ∷ lines) line code
  first_at read before s next lines line code (Ok t) r more e =
      let f = more t (sym (good_on read before s t next lines r) ∙ e) in
      record {
        front = next ∷ f.front;
        faulty = f.faulty;
        behind = f.behind;
        made = f.made;
        parted = ap (λ (ls : List Text). next ∷ ls) f.parted;
        counted = omega (arith, f.counted);
        good = good_on read before s t next f.front r ∙ f.good;
        fault = f.fault;
      }
  first_at read before s next lines line code (Err other) r more e =
      let both = sym (fault_here read before s next lines other r) ∙ e in
      let refusal : refused_at (before + 1) other ≡ refused_at line code = cc in
      let at : before + 1 ≡ line = ap (λ (f : Refused). f.line) refusal in
      let is : other ≡ code = ap (λ (f : Refused). f.code) refusal in
      record {
        front = [];
        faulty = next;
        behind = lines;
        made = s;
        parted = refl;
        counted = omega (arith, at);
        good = refl;
        fault = ap (λ n. read n s next) (sym at) ∙ r ∙ ap Err is;
      }

  pub first_found : (read : ℕ → S → Text → Result S Code) (before : ℕ) (s : S) (lines : List Text) (line : ℕ) (code : Code) → reading read before s lines ≡ Err (refused_at line code) → IsFirstFault read before s lines line code
  first_found read before s [] line code e = absurd (cc)
  first_found read before s (next ∷ lines) line code e = first_at read before s next lines line code (read (before + 1) s next) refl (λ t. first_found read (before + 1) t lines line code) e

  pub first_refused : (read : ℕ → S → Text → Result S Code) (before : ℕ) (s : S) (lines : List Text) (line : ℕ) (code : Code) → IsFirstFault read before s lines line code → reading read before s lines ≡ Err (refused_at line code)
  first_refused read before s lines line code f =
      ap (reading read before s) f.parted ∙ reading_on read before s f.made f.front (f.faulty ∷ f.behind) f.good
      ∙ fault_here read (before + length f.front) f.made f.faulty f.behind code (ap (λ n. read n f.made f.faulty) (sym f.counted) ∙ f.fault)
      ∙ ap (λ n. Err (refused_at n code)) (sym f.counted)
