-- Entries and origins, one more at a time.
use Rattle.std.proofs.Common.{◌≡◌, ℕ, zero, suc, ◌+◌, ◌-◌, ◌<◌, ◌≤◌, Bool, true, false, cond, List, [], ◌∷◌, ◌++◌, length, take, drop, get_or, refl, sym, ap, subst, ◌∙◌, arith, inl, inr, Result, Ok, Err, IfOk}
use Rattle.std.specs.Prelude.{◌==◌, ◌&&◌, IsTrue}
use Rattle.std.specs.List.{All}
use Rattle.std.proofs.lemmas.Bool.{cases_order}
use Rattle.std.proofs.lemmas.List.{take_more, drop_more, take_all, take-append-drop, length-take, get_or-take}
use Rattle.prefix_lanes.specs.Bits.{PrefixView, is_prefix}
use Rattle.ranked_policy.specs.Plans.{Plan}
use Rattle.ranked_policy.specs.declared.network.Origin.{Origin}
use Rattle.stable_paths.specs.Judging.{IsMoving, IsVerdict}
use Rattle.stable_paths.specs.declared.verdict.Check.{Check}
use Rattle.net_text.specs.declared.assignment.Entry.{Entry}
use Rattle.net_text.specs.Lexing.{Text, lines_of, before_section, behind_section}
use Rattle.text_engines.specs.Decoding.{Output}
use Rattle.text_engines.specs.Inputs.{NetworkGives, LinesGive}
use Rattle.text_engines.specs.Checking.{paths_by, paths_of, at_prefix, MayStand, IsFirstStray, IsStableAt, IsFirstMove}

module _ {X : Type 0} where
  -- a list is what stands before an item, the item, and what stands behind it
  pub parted : (xs : List X) (i : ℕ) (x : X) → i < length xs → x ≡ get_or xs i x → xs ≡ take i xs ++ x ∷ drop (i + 1) xs
  parted xs i x lt is =
      sym (take-append-drop i xs) ∙ ap (λ (ys : List X). take i xs ++ ys) (drop_more xs i x lt ∙ ap (λ (y : X). y ∷ drop (i + 1) xs) (sym is))

  -- an item is the same whatever stands for those past the end
  pub within : (xs : List X) (i : ℕ) (d e : X) → i < length xs → get_or xs i d ≡ get_or xs i e
  within [] i d e lt = absurd (omega (arith, lt))
  within (x ∷ xs) zero d e lt = refl
  within (x ∷ xs) (suc i) d e lt = within xs i d e (omega (arith, lt))

  -- what holds of those before and of one more
  pub all_on : (P : X → Type 0) (xs : List X) (i : ℕ) (x : X) → i < length xs → x ≡ get_or xs i x → P x → All P (take i xs) → All P (take (i + 1) xs)
  all_on P xs i x lt is p all =
      λ k d below.
      let size : length (take (i + 1) xs) ≤ i + 1 = omega (arith, length-take (i + 1) xs) in
      let inside : k < i + 1 = omega (arith, size, below) in
      let here : get_or (take (i + 1) xs) k d ≡ get_or xs k d = get_or-take (i + 1) xs k d inside in
      elim (cases_order k i) [
        | inl same ↦ subst P (sym (here ∙ ap (λ (j : ℕ). get_or xs j d) same ∙ within xs i d x lt ∙ sym is)) p
        | inr differ ↦ elim differ [
          | inl less ↦ subst P (sym (here ∙ sym (get_or-take i xs k d less))) (all k d (omega (arith, less, lt, length-take i xs)))
          | inr more ↦ absurd (omega (arith, inside, more))
        ]
      ]

  pub all_all : (P : X → Type 0) (xs : List X) (i : ℕ) → length xs ≤ i → All P (take i xs) → All P xs
  all_all P xs i le all = subst (All P) (take_all i xs le) all

-- the paths by one entry more
pub paths_more : (paths : ℕ → List ℕ) (q : PrefixView) (es : List Entry) (e : Entry) (u : ℕ) → paths_by paths q (es ++ e ∷ []) u ≡ cond ((e.router == u) && is_prefix e.prefix q) e.path (paths_by paths q es u)
paths_more paths q [] e u = refl
paths_more paths q (x ∷ es) e u = paths_more (λ v. cond ((x.router == v) && is_prefix x.prefix q) x.path (paths v)) q es e u

passed : (b c : Bool) (p old : List ℕ) → c ≡ false → cond (b && c) p old ≡ old
passed true c p old e = rw e refl
passed false c p old e = refl

given : (b c : Bool) (p old : List ℕ) → c ≡ true → cond (b && c) p old ≡ cond b p old
given true c p old e = rw e refl
given false c p old e = refl

-- an entry of another prefix gives nothing
pub paths_pass : (e : Entry) (q : PrefixView) (now : ℕ → List ℕ) → false ≡ is_prefix e.prefix q → (u : ℕ) → now u ≡ cond ((e.router == u) && is_prefix e.prefix q) e.path (now u)
paths_pass e q now other u = sym (passed (e.router == u) (is_prefix e.prefix q) e.path (now u) (sym other))

-- and one of this prefix gives its router its path
pub paths_give : (e : Entry) (q : PrefixView) (old new : ℕ → List ℕ) → true ≡ is_prefix e.prefix q → ((u : ℕ) → new u ≡ cond (e.router == u) e.path (old u))
    → (u : ℕ) → new u ≡ cond ((e.router == u) && is_prefix e.prefix q) e.path (old u)
paths_give e q old new same set u = set u ∙ sym (given (e.router == u) (is_prefix e.prefix q) e.path (old u) (sym same))

-- what the entries give, by one more
pub paths_on : (q : PrefixView) (es : List Entry) (i : ℕ) (e : Entry) (old new : ℕ → List ℕ) → i < length es → e ≡ get_or es i e
    → ((u : ℕ) → new u ≡ cond ((e.router == u) && is_prefix e.prefix q) e.path (old u)) → ((u : ℕ) → old u ≡ paths_by (λ v. []) q (take i es) u)
    → (u : ℕ) → new u ≡ paths_by (λ v. []) q (take (i + 1) es) u
paths_on q es i e old new lt is gives inv u =
    gives u ∙ ap (cond ((e.router == u) && is_prefix e.prefix q) e.path) (inv u) ∙ sym (paths_more (λ v. []) q (take i es) e u)
    ∙ ap (λ (xs : List Entry). paths_by (λ v. []) q xs u) (sym (take_more es i e lt ∙ ap (λ (x : Entry). take i es ++ x ∷ []) (sym is)))

-- the first entry that is not permitted
pub stray_found : (net : Plan) (es : List Entry) (i : ℕ) (e : Entry) → i < length es → e ≡ get_or es i e → (MayStand net e → ⊥) → All (MayStand net) (take i es) → IsFirstStray net es e.line
stray_found net es i e lt is not good =
    record { before = take i es; stray = e; behind = drop (i + 1) es; whole = parted es i e lt is; good = good; not_permitted = not; stands_at = refl }

-- the first prefix with a move
pub move_found : (net : Plan) (es : List Entry) (origins : List Origin) → origins ≡ net.origins → (i : ℕ) (o : Origin) → i < length origins → o ≡ get_or origins i o → (u : ℕ) (has best : List ℕ)
    → IsMoving (at_prefix net o.prefix) (paths_of es o.prefix) u has best → All (IsStableAt net es) (take i origins) → IsFirstMove net es u has best
move_found net es origins eo i o lt is u has best moves good =
    record { before = take i origins; moving = o; behind = drop (i + 1) origins; whole = sym eo ∙ parted origins i o lt is; stable = good; moves = moves }

-- a verdict on one form of the paths is one on another
pub verdict_as : (net : Plan) (q : PrefixView) (one other : ℕ → List ℕ) (check : Check) → ((u : ℕ) → one u ≡ other u) → IsVerdict (at_prefix net q) one check → IsVerdict (at_prefix net q) other check
verdict_as net q one other check same v = let e : one ≡ other = λ i u. same u i in subst (λ (paths : ℕ → List ℕ). IsVerdict (at_prefix net q) paths check) e v

pub not_true : IsTrue false → ⊥
not_true e = absurd cc

-- what follows from an answer follows from it
pub if_ok : {X E : Type 0} (P Q : X → Type 0) (r : Result X E) → ((x : X) → P x → Q x) → IfOk r P → IfOk r Q
if_ok P Q (Ok x) f h = f x h
if_ok P Q (Err e) f h = tt

-- and of two facts
pub both_ok : {X E : Type 0} (P Q S : X → Type 0) (r : Result X E) → ((x : X) → P x → Q x → S x) → IfOk r P → IfOk r Q → IfOk r S
both_ok P Q S (Ok x) f h k = f x h k
both_ok P Q S (Err e) f h k = tt

-- ---- what is printed for what was read

module _ (Gives : Plan → ℕ → List Text → Output → Type 0) (name : List ℕ) where
  -- for the two parts of a text
  pub lines_give : (text : List ℕ) (front behind : List Text) (before : ℕ) (out : Output) → front ≡ before_section name (lines_of text) → behind ≡ behind_section name (lines_of text)
      → before + length behind ≡ length (lines_of text) → NetworkGives Gives front before behind out → LinesGive Gives name (lines_of text) out
  lines_give text front behind before out ef eb total h =
      let size = ap length eb in
      let n : before ≡ length (lines_of text) - length (behind_section name (lines_of text)) = omega (arith, size, total) in
      subst (λ (f : List Text). NetworkGives Gives f (length (lines_of text) - length (behind_section name (lines_of text))) (behind_section name (lines_of text)) out) ef
      (subst (λ (b : List Text). NetworkGives Gives front (length (lines_of text) - length (behind_section name (lines_of text))) b out) eb
      (subst (λ (k : ℕ). NetworkGives Gives front k behind out) n h))
