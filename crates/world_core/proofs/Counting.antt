-- Counts of what was done in each direction, and what comes first by them.
use Rattle.std.proofs.Common.{Less, Equal, Greater, ◌≡◌, ℕ, ◌+◌, ◌<◌, ◌≤◌, ◌==◌, Bool, true, false, ◌&&◌, cond, List, [], ◌∷◌, ◌++◌, length, take, get_or, refl, ap, sym, ◌∙◌, arith, suc, subst, add-zero}
use Rattle.std.specs.Prelude.{if◌then◌else◌, ltb, nat_lt, ◌||◌, not, Some}
use Rattle.std.specs.Option.{unwrap_or}
use Rattle.std.specs.Ordering.{is_eq, ordering_then}
use Rattle.std.specs.BTreeMap.{get, is_at}
use Rattle.std.proofs.Math.Seq.{take-suc}
use Rattle.std.proofs.lemmas.List.{append-nil, length-take-le}
use Rattle.std.proofs.lemmas.Bool.Decides.{nat_tests}
use Rattle.world_core.specs.declared.counts.Counts.{Counts}
use Rattle.world_core.specs.declared.schedule.Event.{Event}
use Rattle.world_core.specs.declared.schedule.Event.TheVariants as schedule
use Rattle.world_core.specs.Counting.{by_ends, count_of, CountsPuts}
use Rattle.world_core.specs.Picking.{is_put, is_take, puts_by, taken_inside, goes_first, firsts, laters}
use Rattle.world_core.specs.Through.{count_true}
use Rattle.world_core.proofs.Loops.{puts_more, taken_more, true_more, firsts_more, laters_more}

-- ---- one more of a direction

apart : (a u : ℕ) → nat_lt a u ≡ true → (a == u) ≡ false
apart a u h = grind (arith, nat_tests)

by_tests : (l e m f : Bool) → (l ≡ true → e ≡ false) → (m ≡ true → f ≡ false)
    → is_eq (ordering_then (cond l Less (cond e Equal Greater)) (cond m Less (cond f Equal Greater))) ≡ (e && f)
by_tests true e m f p q = ap (λ k. k && f) (sym (p refl))
by_tests false true true f p q = sym (q refl)
by_tests false true false true p q = refl
by_tests false true false false p q = refl
by_tests false false m f p q = refl

same_ends : (a b u v : ℕ) → is_at (by_ends (a, b)) (u, v) ≡ ((a == u) && (b == v))
same_ends a b u v = by_tests (nat_lt a u) (a == u) (nat_lt b v) (b == v) (apart a u) (apart b v)

pub added : (m n : Counts) (a b w : ℕ) → w ≡ count_of m a b + 1 → ((q : ℕ × ℕ) → get by_ends n.counts q ≡ cond (is_at (by_ends (a, b)) q) (Some w) (get by_ends m.counts q)) → (u v : ℕ)
    → count_of n u v ≡ count_of m u v + cond ((a == u) && (b == v)) 1 0
added m n a b w is h u v = ap (λ o. unwrap_or o 0) (h (u, v)) ∙ ap (λ t. unwrap_or (cond t (Some w) (get by_ends m.counts (u, v))) 0) (same_ends a b u v) ∙ at (a == u) (b == v) refl refl
  where
    at : (s t : Bool) → (a == u) ≡ s → (b == v) ≡ t → unwrap_or (cond (s && t) (Some w) (get by_ends m.counts (u, v))) 0 ≡ count_of m u v + cond (s && t) 1 0
    at true true p q =
        let x : a ≡ u = grind (arith, nat_tests, p) in
        let y : b ≡ v = grind (arith, nat_tests, q) in
        is ∙ (λ i. count_of m (x i) (y i) + 1)
    at true false p q = omega arith
    at false t p q = omega arith

-- ---- counts are at most as many as the events

few_puts : (u v : ℕ) (es : List Event) → puts_by u v es ≤ length es
few_puts u v [] = omega arith
few_puts u v (e ∷ es) = at (is_put u v e) (few_puts u v es)
  where
    at : (b : Bool) → puts_by u v es ≤ length es → cond b 1 0 + puts_by u v es ≤ length (e ∷ es)
    at true h = omega arith
    at false h = omega arith

few_taken : (u v : ℕ) (bs : List Bool) (es : List Event) → taken_inside u v bs es ≤ length es
few_taken u v [] es = omega arith
few_taken u v (b ∷ bs) [] = omega arith
few_taken u v (b ∷ bs) (e ∷ es) = at (b && is_take u v e) (few_taken u v bs es)
  where
    at : (t : Bool) → taken_inside u v bs es ≤ length es → cond t 1 0 + taken_inside u v bs es ≤ length (e ∷ es)
    at true h = omega arith
    at false h = omega arith

few_true : (bs : List Bool) → count_true bs ≤ length bs
few_true [] = omega arith
few_true (true ∷ bs) = (let ih = few_true bs in omega arith)
few_true (false ∷ bs) = (let ih = few_true bs in omega arith)

pub puts_fit : (c : Counts) (run : List Event) (i : ℕ) → i ≤ length run → CountsPuts c (take i run) → (u v : ℕ) → count_of c u v ≤ i
puts_fit c run i l h u v =
    let few = few_puts u v (take i run) in
    let long = length-take-le i run l in
    let is = h u v in
    omega arith

pub taken_fit : (bs : List Bool) (run : List Event) (i n u v : ℕ) → i ≤ length run → n ≡ taken_inside u v bs (take i run) → n ≤ i
taken_fit bs run i n u v l is =
    let few = few_taken u v bs (take i run) in
    let long = length-take-le i run l in
    omega arith

pub true_fit : (bs : List Bool) (i n : ℕ) → i ≤ length bs → n ≡ count_true (take i bs) → n ≤ i
true_fit bs i n l is =
    let few = few_true (take i bs) in
    let long = length-take-le i bs l in
    omega arith

-- ---- whether an event comes first

put_first : (needed put after : Counts) (b t : Bool) (from to : ℕ) → t ≡ ltb (count_of put from to) (count_of needed from to)
    → ((u v : ℕ) → count_of after u v ≡ count_of put u v + cond ((from == u) && (to == v)) 1 0) → (es : List Event) → CountsPuts put es
    → ((b || t) ≡ goes_first (count_of needed) es b (schedule.Put from to)) × CountsPuts after (es ++ schedule.Put from to ∷ [])
put_first needed put after b t from to is more es counts = (
  ap (λ k. b || k) (is ∙ ap (λ k. ltb k (count_of needed from to)) (counts from to)),
  λ u v. more u v ∙ ap (λ k. k + cond ((from == u) && (to == v)) 1 0) (counts u v) ∙ sym (puts_more u v es (schedule.Put from to)),
)

pub put_says : (needed put after : Counts) (b t r : Bool) (from to : ℕ) (e : Event) → e ≡ schedule.Put from to → t ≡ ltb (count_of put from to) (count_of needed from to) → r ≡ (b || t)
    → ((u v : ℕ) → count_of after u v ≡ count_of put u v + cond ((from == u) && (to == v)) 1 0) → (es : List Event) → CountsPuts put es
    → (r ≡ goes_first (count_of needed) es b e) × CountsPuts after (es ++ e ∷ [])
put_says needed put after b t r from to e puts is says more es counts =
    let p = put_first needed put after b t from to is more es counts in
    subst (λ (k : Event). (r ≡ goes_first (count_of needed) es b k) × CountsPuts after (es ++ k ∷ [])) (sym puts) (says ∙ p.0, p.1)

abbrev IsNoPut : Event → Type 0
IsNoPut e = (from to : ℕ) → e ≡ schedule.Put from to → ⊥

goes_if_inside : (n : ℕ → ℕ → ℕ) (es : List Event) (b : Bool) (e : Event) → IsNoPut e → b ≡ goes_first n es b e
goes_if_inside n es b (schedule.Command u c) never = refl
goes_if_inside n es b (schedule.Tick u) never = refl
goes_if_inside n es b (schedule.Put u v) never = absurd (never u v refl)
goes_if_inside n es b (schedule.Take u v) never = refl
goes_if_inside n es b (schedule.Handle u v) never = refl
goes_if_inside n es b (schedule.Decide u) never = refl
goes_if_inside n es b (schedule.Advertise u) never = refl
goes_if_inside n es b (schedule.Offer u) never = refl

puts_nothing : (u v : ℕ) (e : Event) → IsNoPut e → is_put u v e ≡ false
puts_nothing u v (schedule.Command k c) never = refl
puts_nothing u v (schedule.Tick k) never = refl
puts_nothing u v (schedule.Put a b) never = absurd (never a b refl)
puts_nothing u v (schedule.Take a b) never = refl
puts_nothing u v (schedule.Handle a b) never = refl
puts_nothing u v (schedule.Decide k) never = refl
puts_nothing u v (schedule.Advertise k) never = refl
puts_nothing u v (schedule.Offer k) never = refl

pub other_first : (needed put : Counts) (b : Bool) (e : Event) → ((from to : ℕ) → e ≡ schedule.Put from to → ⊥) → (es : List Event) → CountsPuts put es
    → (b ≡ goes_first (count_of needed) es b e) × CountsPuts put (es ++ e ∷ [])
other_first needed put b e never es counts = (
  goes_if_inside (count_of needed) es b e never,
  λ u v.
      let more = puts_more u v es e in
      let none : cond (is_put u v e) 1 0 ≡ 0 = ap (λ (t : Bool). cond {A = ℕ} t 1 0) (puts_nothing u v e never) in
      let is = counts u v in
      omega arith,
)

-- ---- what is taken inside

swapped : (s t : Bool) → (s && t) ≡ (t && s)
swapped s t = grind arith

-- the next of a list
pub next : {A : Type 0} (xs : List A) (i : ℕ) (x d : A) → i < length xs → x ≡ get_or xs i d → take (i + 1) xs ≡ take i xs ++ x ∷ []
next xs i x d l is =
    let one : i + 1 ≡ suc i = omega arith in
    ap (λ k. take k xs) one ∙ take-suc xs i d l ∙ ap (λ k. take i xs ++ k ∷ []) (sym is)

as_long : {A B : Type 0} (xs : List A) (ys : List B) (i : ℕ) → i ≤ length xs → i ≤ length ys → length (take i xs) ≡ length (take i ys)
as_long xs ys i l m = length-take-le i xs l ∙ sym (length-take-le i ys m)

taken_next : (u v : ℕ) (bs : List Bool) (es : List Event) (i : ℕ) (b c : Bool) (e f : Event) → i < length bs → i < length es → b ≡ get_or bs i c → e ≡ get_or es i f
    → taken_inside u v (take (i + 1) bs) (take (i + 1) es) ≡ taken_inside u v (take i bs) (take i es) + cond (b && is_take u v e) 1 0
taken_next u v bs es i b c e f l m p q =
    (λ j. taken_inside u v (next bs i b c l p j) (next es i e f m q j)) ∙ taken_more u v (take i bs) (take i es) b e (as_long bs es i (omega arith) (omega arith))

pub taken_one : (c after : Counts) (bs : List Bool) (es : List Event) (i number peer : ℕ) (b d : Bool) (e f : Event) → i < length bs → i < length es → b ≡ get_or bs i d → b ≡ true
    → e ≡ get_or es i f → e ≡ schedule.Take number peer → ((u v : ℕ) → count_of after u v ≡ count_of c u v + cond ((peer == u) && (number == v)) 1 0)
    → ((u v : ℕ) → count_of c u v ≡ taken_inside u v (take i bs) (take i es)) → (u v : ℕ) → count_of after u v ≡ taken_inside u v (take (i + 1) bs) (take (i + 1) es)
taken_one c after bs es i number peer b d e f l m p holds q is more counts u v =
    let so : ((peer == u) && (number == v)) ≡ (b && is_take u v e) = swapped (peer == u) (number == v) ∙ (λ j. sym holds j && is_take u v (sym is j)) in
    more u v ∙ (λ j. counts u v j + cond (so j) 1 0) ∙ sym (taken_next u v bs es i b d e f l m p q)

pub taken_none : (c : Counts) (bs : List Bool) (es : List Event) (i : ℕ) (b d : Bool) (e f : Event) → i < length bs → i < length es → b ≡ get_or bs i d → e ≡ get_or es i f
    → ((u v : ℕ) → (b && is_take u v e) ≡ false) → ((u v : ℕ) → count_of c u v ≡ taken_inside u v (take i bs) (take i es)) → (u v : ℕ)
    → count_of c u v ≡ taken_inside u v (take (i + 1) bs) (take (i + 1) es)
taken_none c bs es i b d e f l m p q never counts u v =
    let before = taken_inside u v (take i bs) (take i es) in
    counts u v ∙ sym (taken_next u v bs es i b d e f l m p q ∙ ap (λ (t : Bool). before + cond t 1 0) (never u v) ∙ add-zero before)

pub outside : (b t : Bool) → b ≡ false → (b && t) ≡ false
outside b t h = ap (λ k. k && t) h

takes_nothing : (u v : ℕ) (e : Event) → ((number peer : ℕ) → e ≡ schedule.Take number peer → ⊥) → is_take u v e ≡ false
takes_nothing u v (schedule.Command k c) never = refl
takes_nothing u v (schedule.Tick k) never = refl
takes_nothing u v (schedule.Put a b) never = refl
takes_nothing u v (schedule.Take a b) never = absurd (never a b refl)
takes_nothing u v (schedule.Handle a b) never = refl
takes_nothing u v (schedule.Decide k) never = refl
takes_nothing u v (schedule.Advertise k) never = refl
takes_nothing u v (schedule.Offer k) never = refl

none_of : (b t : Bool) → t ≡ false → (b && t) ≡ false
none_of true t h = h
none_of false t h = refl

pub no_take : (b : Bool) (e : Event) → ((number peer : ℕ) → e ≡ schedule.Take number peer → ⊥) → (u v : ℕ) → (b && is_take u v e) ≡ false
no_take b e never u v = none_of b (is_take u v e) (takes_nothing u v e never)

-- ---- the two parts

pub record Parted (n : ℕ → ℕ → ℕ) (bs : List Bool) (es : List Event) (i : ℕ) (first later : List Event) : Type 0 where
  pub in_front : first ≡ firsts n [] (take i bs) (take i es)
  pub behind : later ≡ laters n [] (take i bs) (take i es)

parted_more : (n : ℕ → ℕ → ℕ) (bs : List Bool) (es : List Event) (i : ℕ) (b d t : Bool) (e f : Event) (first later : List Event) → i < length bs → i < length es → b ≡ get_or bs i d → e ≡ get_or es i f
    → t ≡ goes_first n (take i es) b e → Parted n bs es i first later → Parted n bs es (i + 1) (first ++ (if t then e ∷ [] else [])) (later ++ (if not t then e ∷ [] else []))
parted_more n bs es i b d t e f first later l m p q is parted = record {
  in_front = (λ j. parted.in_front j ++ (if is j then e ∷ [] else [])) ∙ sym (firsts_more n [] (take i bs) (take i es) b e (as_long bs es i (omega arith) (omega arith)))
      ∙ (λ j. firsts n [] (sym (next bs i b d l p) j) (sym (next es i e f m q) j));
  behind = (λ j. parted.behind j ++ (if not (is j) then e ∷ [] else [])) ∙ sym (laters_more n [] (take i bs) (take i es) b e (as_long bs es i (omega arith) (omega arith)))
      ∙ (λ j. laters n [] (sym (next bs i b d l p) j) (sym (next es i e f m q) j));
}

pub joins_first : (n : ℕ → ℕ → ℕ) (bs : List Bool) (es : List Event) (i : ℕ) (b d t : Bool) (e f : Event) (first later : List Event) → i < length bs → i < length es → b ≡ get_or bs i d → e ≡ get_or es i f
    → t ≡ goes_first n (take i es) b e → t ≡ true → Parted n bs es i first later → Parted n bs es (i + 1) (first ++ e ∷ []) later
joins_first n bs es i b d t e f first later l m p q is holds parted =
    let more = parted_more n bs es i b d true e f first later l m p q (sym holds ∙ is) parted in
    record { in_front = more.in_front; behind = sym (append-nil later) ∙ more.behind }

pub joins_later : (n : ℕ → ℕ → ℕ) (bs : List Bool) (es : List Event) (i : ℕ) (b d t : Bool) (e f : Event) (first later : List Event) → i < length bs → i < length es → b ≡ get_or bs i d → e ≡ get_or es i f
    → t ≡ goes_first n (take i es) b e → t ≡ false → Parted n bs es i first later → Parted n bs es (i + 1) first (later ++ e ∷ [])
joins_later n bs es i b d t e f first later l m p q is never parted =
    let more = parted_more n bs es i b d false e f first later l m p q (sym never ∙ is) parted in
    record { in_front = sym (append-nil first) ∙ more.in_front; behind = more.behind }

pub parted_at : (n : ℕ → ℕ → ℕ) (bs : List Bool) (es : List Event) (i : ℕ) (first later front rest : List Event) → front ≡ first → rest ≡ later → Parted n bs es i first later → Parted n bs es i front rest
parted_at n bs es i first later front rest p q parted = record { in_front = p ∙ parted.in_front; behind = q ∙ parted.behind }

-- ---- how many are inside

pub true_one : (bs : List Bool) (i n : ℕ) (b d : Bool) → i < length bs → b ≡ get_or bs i d → n ≡ count_true (take i bs) → n + cond b 1 0 ≡ count_true (take (i + 1) bs)
true_one bs i n b d l p is = ap (λ k. k + cond b 1 0) is ∙ sym (true_more (take i bs) b) ∙ ap count_true (sym (next bs i b d l p))
