-- What two tests mean, and warnings one behind the other.
use Rattle.std.proofs.Common.{◌≡◌, ℕ, zero, suc, ◌+◌, ◌-◌, ◌<◌, ◌==◌, ◌&&◌, ◌||◌, Bool, true, false, List, [], ◌∷◌, ◌++◌, length, get_or, take, drop, flat_map, append_assoc, refl, sym, ap, ◌∙◌, arith, inl, inr}
use Rattle.std.specs.Prelude.{nat_lt, Result, Ok, Err, IfOk}
use Rattle.std.specs.Bool.{Decides}
use mathlib.Core.List.{IsPrefix}
use Rattle.std.proofs.lemmas.Bool.{false≢true, cases_lt, ne_eqb, lt-ltb, le-ltb, cond-false}
use Rattle.std.proofs.lemmas.Bool.Decides.{Decides-and, Decides-or, Decides-eqb, Decides-like, same_from_decides}
use Rattle.std.proofs.lemmas.List.{drop_more, append-nil}
use Rattle.std.proofs.lemmas.List.Folds.{Any-from_list_any, list_any-from_Any}
use Rattle.prefix_lanes.specs.Bits.{PrefixView, Covers, bits}
use Rattle.ranked_policy.specs.declared.network.Link.{Link}
use Rattle.ranked_policy.specs.Plans.{Joins, Linked}
use Rattle.ranked_policy.specs.Tests.{same_bit, begins_with, covers}
use Rattle.net_text.specs.Lexing.{Text}
use Rattle.net_text.specs.Lines.{joins}
use Rattle.error_words.specs.Showing.{remark_text}
use Rattle.error_words.specs.Warnings.{are_linked, Warned, one_more, all_more, none_warned, more_said, warnings_text}

-- ---- tests

bit_test : (x y : Bool) → Decides (same_bit x y) (x ≡ y)
bit_test true true = (λ t. refl, λ e. refl)
bit_test true false = (λ t. absurd (false≢true t), λ e. absurd (cc e))
bit_test false true = (λ t. absurd (false≢true t), λ e. absurd (cc e))
bit_test false false = (λ t. refl, λ e. refl)

joined : (x y : Bool) (xs ys rest : List Bool) → x ≡ y → xs ++ rest ≡ ys → x ∷ (xs ++ rest) ≡ y ∷ ys
joined x y xs ys rest a b = cc (a, b)

begins_test : (xs ys : List Bool) → Decides (begins_with xs ys) (IsPrefix xs ys)
begins_test [] ys = (λ t. (ys, refl), λ h. refl)
begins_test (x ∷ xs) [] = (λ t. absurd (false≢true t), λ h. absurd (cc (h.1)))
begins_test (x ∷ xs) (y ∷ ys) = Decides-like (same_bit x y && begins_with xs ys)
    (λ h. (h.1.0, joined x y xs ys h.1.0 h.0 h.1.1))
    (λ h. (let e : x ≡ y = cc (h.1) in e, (h.0, cc (h.1))))
    (Decides-and (same_bit x y) (begins_with xs ys) (bit_test x y) (begins_test xs ys))

pub covered : (p q : PrefixView) (r : Bool) → Decides r (Covers p q) → r ≡ covers p q
covered p q r d = same_from_decides r (covers p q) d (begins_test (bits p) (bits q))

joins_test : (u v : ℕ) (link : Link) → Decides (joins u v link) (Joins link u v)
joins_test u v link = Decides-or ((link.one == u) && (link.other == v)) ((link.one == v) && (link.other == u))
    (Decides-and (link.one == u) (link.other == v) (Decides-eqb link.one u) (Decides-eqb link.other v))
    (Decides-and (link.one == v) (link.other == u) (Decides-eqb link.one v) (Decides-eqb link.other u))

linked_test : (links : List Link) (u v : ℕ) → Decides (are_linked links u v) (Linked links u v)
linked_test links u v = (
  λ t. let a = Any-from_list_any (joins u v) links t in (a.0, a.1, a.2, a.3, (joins_test u v a.1).0 a.4),
  λ a. list_any-from_Any (joins u v) links (a.0, a.1, a.2, a.3, (joins_test u v a.1).1 a.4),
)

pub linked : (links : List Link) (u v : ℕ) (r : Bool) → Decides r (Linked links u v) → r ≡ are_linked links u v
linked links u v r d = same_from_decides r (are_linked links u v) d (linked_test links u v)

-- ---- one warning behind the other

more_append : (a b : List Text) (w : Warned) → all_more (a ++ b) w ≡ all_more b (all_more a w)
more_append [] b w = refl
more_append (x ∷ a) b w = more_append a b (one_more x w)

-- the warnings of one more thing
pub more_on : {X : Type 0} (f : X → List Text) (xs : List X) (i : ℕ) (x : X) (mid new all : Warned) → i < length xs → x ≡ get_or xs i x → new ≡ all_more (f x) mid
    → all_more (flat_map f (drop i xs)) mid ≡ all → all_more (flat_map f (drop (i + 1) xs)) new ≡ all
more_on {X} f xs i x mid new all lt is put h =
    ap (λ (w : Warned). all_more (flat_map f (drop (i + 1) xs)) w) put ∙ sym (more_append (f x) (flat_map f (drop (i + 1) xs)) mid)
    ∙ ap (λ (t : List Text). all_more t mid) (sym (ap (flat_map f) (drop_more xs i x lt ∙ ap (λ (y : X). y ∷ drop (i + 1) xs) (sym is)))) ∙ h

-- ---- the first so many are named

or_without : (b x : Bool) → x ≡ false → b ≡ (b || x)
or_without true x e = refl
or_without false x e = sym e

or_with : (b x : Bool) → x ≡ true → true ≡ (b || x)
or_with true x e = refl
or_with false x e = sym e

lt_suc : (a b : ℕ) → nat_lt a b ≡ nat_lt (suc a) (suc b)
lt_suc a b = elim (cases_lt a b) [
  | inl less ↦ lt-ltb a b less ∙ sym (lt-ltb (suc a) (suc b) (omega (arith, less)))
  | inr more ↦ le-ltb a b more ∙ sym (le-ltb (suc a) (suc b) (omega (arith, more)))
]

-- a warning that is named
named_one : (x text : Text) (n : ℕ) (b : Bool) → one_more x (record { text = text; left = suc n; is_more = b }) ≡ record { text = text ++ remark_text x; left = n; is_more = b }
named_one x text n b =
    cond-false (suc n == 0) (record { text = text; left = suc n; is_more = true }) (record { text = text ++ remark_text x; left = suc n - 1; is_more = b }) (ne_eqb (suc n) 0 (λ e. absurd (omega (arith, e))))
    ∙ ap (λ (k : ℕ). let w : Warned = record { text = text ++ remark_text x; left = k; is_more = b } in w) (omega arith)

named : (texts : List Text) (text : Text) (n : ℕ) (b : Bool)
    → ((all_more texts (record { text = text; left = n; is_more = b })).text ≡ text ++ flat_map remark_text (take n texts))
    × ((all_more texts (record { text = text; left = n; is_more = b })).is_more ≡ (b || nat_lt n (length texts)))
named [] text zero b = (sym (append-nil text), or_without b (nat_lt 0 0) (le-ltb 0 0 (omega arith)))
named [] text (suc n) b = (sym (append-nil text), or_without b (nat_lt (suc n) 0) (le-ltb (suc n) 0 (omega arith)))
named (x ∷ texts) text zero b =
    let h = named texts text zero true in
    (h.0, h.1 ∙ or_with b (nat_lt 0 (suc (length texts))) (lt-ltb 0 (suc (length texts)) (omega arith)))
named (x ∷ texts) text (suc n) b =
    let e = named_one x text n b in
    let h = named texts (text ++ remark_text x) n b in (
      ap (λ (w : Warned). (all_more texts w).text) e ∙ h.0 ∙ append_assoc text (remark_text x) (flat_map remark_text (take n texts)),
      ap (λ (w : Warned). (all_more texts w).is_more) e ∙ h.1 ∙ ap (λ (y : Bool). b || y) (lt_suc n (length texts)),
    )

pub first_named : (texts : List Text) → (all_more texts none_warned).text ++ more_said (all_more texts none_warned).is_more ≡ warnings_text texts
first_named texts =
    let h = named texts [] 10 false in
    ap (λ (t : Text). t ++ more_said (all_more texts none_warned).is_more) h.0
    ∙ ap (λ (y : Bool). flat_map remark_text (take 10 texts) ++ more_said y) h.1

-- ---- what an answer ensures

pub if_ok : {T E : Type 0} {P Q : T → Type 0} (r : Result T E) → ((x : T) → P x → Q x) → IfOk r P → IfOk r Q
if_ok (Ok x) f p = f x p
if_ok (Err e) f p = tt

pub if_both : {T E : Type 0} {P Q R : T → Type 0} (r : Result T E) → ((x : T) → P x → Q x → R x) → IfOk r P → IfOk r Q → IfOk r R
if_both (Ok x) f p q = f x p q
if_both (Err e) f p q = tt
