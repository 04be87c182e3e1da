-- The lines of a network and of its schedule, read again.
use Rattle.std.proofs.Common.{◌≡◌, ℕ, suc, ◌-◌, ◌==◌, Bool, true, false, List, [], ◌∷◌, ◌++◌, length, get_or, refl, ap, sym, ◌∙◌, arith, append_assoc}
use Rattle.std.specs.Prelude.{codes, if◌then◌else◌, ◌&&◌, nat_lt}
use Rattle.std.specs.List.{AllByRecursion}
use Rattle.std.proofs.lemmas.Bool.{lt-ltb}
use Rattle.net_text.specs.Layout.{IsOneLine, LinesEndByLineFeeds, ends_in_return, whole_line, network_text}
use Rattle.net_text.specs.Lexing.{Text, lines_of, without_return, is_section, before_section, behind_section}
use Rattle.net_text.specs.Printing.{line}
use Rattle.schedule_text.specs.Events.{head_of_schedule}
use Rattle.schedule_text.proofs.LineLemmas.{line_parted}

-- a line that begins no section of this name
abbrev pub IsPlain : Text → Text → Type 0
IsPlain name l = is_section name l ≡ false

pub front_is : (name s : Text) (front rest : List Text) → AllByRecursion (IsPlain name) front → is_section name s ≡ true → before_section name (front ++ s ∷ rest) ≡ front
front_is name s [] rest h is = ap (λ (b : Bool). if b then [] else s ∷ before_section name rest) is
front_is name s (l ∷ ls) rest h is = ap (λ (b : Bool). if b then [] else l ∷ before_section name (ls ++ s ∷ rest)) h.0 ∙ ap (λ (k : List Text). l ∷ k) (front_is name s ls rest h.1 is)

pub rest_is : (name s : Text) (front rest : List Text) → AllByRecursion (IsPlain name) front → is_section name s ≡ true → behind_section name (front ++ s ∷ rest) ≡ rest
rest_is name s [] rest h is = ap (λ (b : Bool). if b then rest else behind_section name rest) is
rest_is name s (l ∷ ls) rest h is = ap (λ (b : Bool). if b then ls ++ s ∷ rest else behind_section name (ls ++ s ∷ rest)) h.0 ∙ rest_is name s ls rest h.1 is

return_gone : (l : Text) → without_return (l ++ 13 ∷ []) ≡ l
return_gone [] = refl
return_gone (x ∷ []) = refl
return_gone (x ∷ y ∷ ys) = ap (λ (t : Text). x ∷ t) (return_gone (y ∷ ys))

no_line_end : (l : Text) → IsOneLine l → IsOneLine (l ++ 13 ∷ [])
no_line_end [] h = ((λ e. absurd cc), tt)
no_line_end (x ∷ xs) h = (h.0, no_line_end xs h.1)

last_is : (x : ℕ) (b : Bool) → (x == 13) ≡ b → b ≡ false → (if x == 13 then [] else x ∷ []) ≡ x ∷ []
last_is x b is other = ap (λ (c : Bool). if c then [] else x ∷ []) (is ∙ other)

return_kept : (l : Text) → ends_in_return l ≡ false → without_return l ≡ l
return_kept [] h = refl
return_kept (x ∷ []) h = last_is x (x == 13) refl h
return_kept (x ∷ y ∷ ys) h =
    let long : length (x ∷ y ∷ ys) - 1 ≡ suc (length ys) = omega arith in
    let short : length (y ∷ ys) - 1 ≡ length ys = omega arith in
    let some : nat_lt 0 (length (x ∷ y ∷ ys)) ≡ true = lt-ltb 0 (length (x ∷ y ∷ ys)) (omega arith) in
    let more : nat_lt 0 (length (y ∷ ys)) ≡ true = lt-ltb 0 (length (y ∷ ys)) (omega arith) in
    let this : (get_or (y ∷ ys) (length ys) 0 == 13) ≡ false =
    sym (ap (λ (k : ℕ). get_or (x ∷ y ∷ ys) k 0 == 13) long)
    ∙ sym (ap (λ (b : Bool). b && (get_or (x ∷ y ∷ ys) (length (x ∷ y ∷ ys) - 1) 0 == 13)) some) ∙ h in
    let that : ends_in_return (y ∷ ys) ≡ false =
    ap (λ (b : Bool). b && (get_or (y ∷ ys) (length (y ∷ ys) - 1) 0 == 13)) more ∙ ap (λ (k : ℕ). get_or (y ∷ ys) k 0 == 13) short ∙ this in
    ap (λ (t : Text). x ∷ t) (return_kept (y ∷ ys) that)

module _ (feeds : LinesEndByLineFeeds) where
  whole_line_by : (b : Bool) (l rest : Text) → ends_in_return l ≡ b → IsOneLine l → lines_of ((l ++ (if b then 13 ∷ 10 ∷ [] else 10 ∷ [])) ++ rest) ≡ l ∷ lines_of rest
  whole_line_by true l rest is h =
      ap lines_of (append_assoc l (13 ∷ 10 ∷ []) rest ∙ sym (append_assoc l (13 ∷ []) (10 ∷ rest)))
      ∙ feeds.front (l ++ 13 ∷ []) rest (no_line_end l h) ∙ ap (λ (t : Text). t ∷ lines_of rest) (return_gone l)
  whole_line_by false l rest is h =
      ap lines_of (append_assoc l (10 ∷ []) rest) ∙ feeds.front l rest h ∙ ap (λ (t : Text). t ∷ lines_of rest) (return_kept l is)

  network_parted : (front : List Text) (rest : Text) → AllByRecursion IsOneLine front → lines_of (network_text front ++ rest) ≡ front ++ lines_of rest
  network_parted [] rest h = refl
  network_parted (l ∷ ls) rest h =
      ap lines_of (append_assoc (whole_line l) (network_text ls) rest) ∙ whole_line_by (ends_in_return l) l (network_text ls ++ rest) refl h.0
      ∙ ap (λ (k : List Text). l ∷ k) (network_parted ls rest h.1)

  pub head_parted : (front : List Text) (body : Text) → AllByRecursion IsOneLine front → lines_of (head_of_schedule front ++ body) ≡ front ++ codes "schedule" ∷ lines_of body
  head_parted front body h =
      ap lines_of (append_assoc (network_text front) (line (codes "schedule")) body) ∙ network_parted front (line (codes "schedule") ++ body) h
      ∙ ap (λ (k : List Text). front ++ k) (line_parted feeds (codes "schedule") body refl)
