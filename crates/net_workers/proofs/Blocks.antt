-- The journals of routers that stand one after another, by rising router.
use Rattle.std.proofs.Common.{◌≡◌, ℕ, suc, ◌-◌, ◌<◌, ◌≤◌, ◌==◌, Bool, true, false, cond, List, [], ◌∷◌, ◌++◌, map, length, refl, ap, subst, ◌∙◌, arith, inl, inr, length-append, eqb-true, eq-eqb}
use Rattle.std.specs.Prelude.{filter}
use Rattle.std.specs.List.{All, AllPairs, AllByRecursion}
use Rattle.std.specs.List.Sorted.{IsNonDecreasingBy}
use Rattle.std.proofs.lemmas.List.{append-nil, length-map, get_or-map, get_or_append_left, get_or-append_right}
use Rattle.std.proofs.lemmas.List.Elements.{All-nil, All-append, All-head, All-tail, All-weaker, filter-append}
use Rattle.std.proofs.lemmas.List.Sorted.{IsNonDecreasingBy-from_default}
use Rattle.std.proofs.lemmas.Bool.{cases_lt}
use Rattle.run_model.specs.Journals.{events_of}
use Rattle.run_model.specs.Stamps.{events_in, FitsItem}
use Rattle.worker_loop.specs.Acts.{Act, journal_of}
use Rattle.worker_loop.specs.Laws.{IsOf}

-- what one router did
pub record Block : Type 0 where
  pub router : ℕ
  pub acts : List Act

pub record IsFit (b : Block) : Type 0 where
  pub rises : IsNonDecreasingBy (λ a. a.stamp) b.acts
  pub of : All (IsOf b.router) b.acts

abbrev pub acts_of : List Block → List Act
acts_of [] = []
acts_of (b ∷ bs) = b.acts ++ acts_of bs

-- what router u did among them
abbrev pub acts_by : List Block → ℕ → List Act
acts_by [] u = []
acts_by (b ∷ bs) u = cond (b.router == u) b.acts (acts_by bs u)

abbrev pub routers_of : List Block → List ℕ
routers_of bs = map (λ b. b.router) bs

-- ---- lists that do not fall

pub rises_map : {X Y : Type 0} (f : X → Y) (n : Y → ℕ) (xs : List X) → IsNonDecreasingBy (λ x. n (f x)) xs → IsNonDecreasingBy n (map f xs)
rises_map f n [] r = λ i j d le l. absurd (omega (arith, l))
rises_map f n (x ∷ xs) r =
    IsNonDecreasingBy-from_default n (map f (x ∷ xs)) (f x)
    (λ i j le l.
    let inside : j < length (x ∷ xs) = omega (arith, l, length-map xs f) in
    let a = ap n (get_or-map f (x ∷ xs) i x (f x) (omega (arith, le, inside))) in
    let b = ap n (get_or-map f (x ∷ xs) j x (f x) inside) in
    let c = r i j x le inside in
    omega (arith, a, b, c))

pub rises_append : {X : Type 0} (n : X → ℕ) (m : ℕ) (xs ys : List X) → IsNonDecreasingBy n xs → IsNonDecreasingBy n ys → All (λ x. n x ≤ m) xs → All (λ y. m ≤ n y) ys → IsNonDecreasingBy n (xs ++ ys)
rises_append n m xs ys rx ry low high i j d le l = elim (cases_lt j (length xs)) [
  | inl inside ↦
      let a = ap n (get_or_append_left xs ys d i (omega (arith, le, inside))) in
      let b = ap n (get_or_append_left xs ys d j inside) in
      let c = rx i j d le inside in
      omega (arith, a, b, c)
  | inr beyond ↦
      let k : j - length xs < length ys = omega (arith, l, beyond, length-append xs ys) in
      let b = ap n (get_or-append_right xs ys (length xs) j d refl beyond) in
      elim (cases_lt i (length xs)) [
        | inl inside ↦
            let a = ap n (get_or_append_left xs ys d i inside) in
            let x = low i d inside in
            let y = high (j - length xs) d k in
            omega (arith, a, b, x, y)
        | inr also ↦
            let a = ap n (get_or-append_right xs ys (length xs) i d refl also) in
            let c = ry (i - length xs) (j - length xs) d (omega (arith, le, also)) k in
            omega (arith, a, b, c)
      ]
]

-- ---- what one router did

filter_all : {X : Type 0} (p : X → Bool) (xs : List X) → All (λ x. p x ≡ true) xs → filter p xs ≡ xs
filter_all p [] all = refl
filter_all p (x ∷ xs) all = ap (λ b. cond b (x ∷ filter p xs) (filter p xs)) (All-head (λ y. p y ≡ true) x xs all) ∙ ap (λ l. x ∷ l) (filter_all p xs (All-tail (λ y. p y ≡ true) x xs all))

filter_none : {X : Type 0} (p : X → Bool) (xs : List X) → All (λ x. p x ≡ false) xs → filter p xs ≡ []
filter_none p [] all = refl
filter_none p (x ∷ xs) all = ap (λ b. cond b (x ∷ filter p xs) (filter p xs)) (All-head (λ y. p y ≡ false) x xs all) ∙ filter_none p xs (All-tail (λ y. p y ≡ false) x xs all)

abbrev pub by : ℕ → Act → Bool
by u a = a.event.router == u

pub own_of_block : (b : Block) (u : ℕ) → IsFit b → (c : Bool) → (b.router == u) ≡ c → filter (by u) b.acts ≡ cond c b.acts []
own_of_block b u fit true h =
    filter_all (by u) b.acts (All-weaker (IsOf b.router) (λ a. by u a ≡ true) (λ a is. eq-eqb a.event.router u (is.router ∙ eqb-true b.router u h)) b.acts fit.of)
own_of_block b u fit false h =
    filter_none (by u) b.acts (All-weaker (IsOf b.router) (λ a. by u a ≡ false) (λ a is. ap (λ r. r == u) is.router ∙ h) b.acts fit.of)

pairs_head : (x : ℕ) (xs : List ℕ) → AllPairs (λ a b. a < b) (x ∷ xs) → All (λ y. x < y) xs
pairs_head x xs pairs k d l = pairs 0 (suc k) d (omega arith) (omega (arith, l))

pairs_tail : (x : ℕ) (xs : List ℕ) → AllPairs (λ a b. a < b) (x ∷ xs) → AllPairs (λ a b. a < b) xs
pairs_tail x xs pairs i j d l m = pairs (suc i) (suc j) d (omega (arith, l)) (omega (arith, m))

-- none of those behind a router did anything as it
none_by : (bs : List Block) (u : ℕ) → All (λ v. u < v) (routers_of bs) → acts_by bs u ≡ []
none_by [] u all = refl
none_by (b ∷ bs) u all =
    let above : u < b.router = All-head (λ v. u < v) b.router (routers_of bs) all in
    ap (λ c. cond c b.acts (acts_by bs u)) (miss b.router u above) ∙ none_by bs u (All-tail (λ v. u < v) b.router (routers_of bs) all)
  where
    miss : (v u : ℕ) → u < v → (v == u) ≡ false
    miss v u above = at (v == u) refl
      where
        at : (c : Bool) → (v == u) ≡ c → c ≡ false
        at true h = absurd (omega (arith, above, eqb-true v u h))
        at false h = refl

pub own_acts : (bs : List Block) (u : ℕ) → AllPairs (λ a b. a < b) (routers_of bs) → AllByRecursion IsFit bs → filter (by u) (acts_of bs) ≡ acts_by bs u
own_acts [] u rising fit = refl
own_acts (b ∷ bs) u rising fit =
    filter-append (by u) b.acts (acts_of bs)
    ∙ (ap (λ l. filter (by u) b.acts ++ l) (own_acts bs u (pairs_tail b.router (routers_of bs) rising) fit.1)
    ∙ at (b.router == u) refl)
  where
    at : (c : Bool) → (b.router == u) ≡ c → filter (by u) b.acts ++ acts_by bs u ≡ cond c b.acts (acts_by bs u)
    at true h =
        let same : b.router ≡ u = eqb-true b.router u h in
        ap (λ l. l ++ acts_by bs u) (own_of_block b u fit.0 true h)
        ∙ ap (λ l. b.acts ++ l) (none_by bs u (subst (λ r. All (λ v. r < v) (routers_of bs)) same (pairs_head b.router (routers_of bs) rising)))
        ∙ append-nil b.acts
    at false h = ap (λ l. l ++ acts_by bs u) (own_of_block b u fit.0 false h)

-- ---- all of them

pub all_fit : (bs : List Block) → AllByRecursion IsFit bs → All (λ a. FitsItem a.stamp a.event.event) (acts_of bs)
all_fit [] fit = All-nil (λ a. FitsItem a.stamp a.event.event)
all_fit (b ∷ bs) fit =
    All-append (λ a. FitsItem a.stamp a.event.event) b.acts (acts_of bs)
    (All-weaker (IsOf b.router) (λ a. FitsItem a.stamp a.event.event) (λ a is. is.fits) b.acts fit.0.of) (all_fit bs fit.1)

above_all : (bs : List Block) (u : ℕ) → AllByRecursion IsFit bs → All (λ v. u < v) (routers_of bs) → All (λ a. u ≤ a.event.router) (acts_of bs)
above_all [] u fit all = All-nil (λ a. u ≤ a.event.router)
above_all (b ∷ bs) u fit all =
    let above : u < b.router = All-head (λ v. u < v) b.router (routers_of bs) all in
    All-append (λ a. u ≤ a.event.router) b.acts (acts_of bs)
    (All-weaker (IsOf b.router) (λ a. u ≤ a.event.router) (λ a is. (let r = is.router in omega (arith, above, r))) b.acts fit.0.of)
    (above_all bs u fit.1 (All-tail (λ v. u < v) b.router (routers_of bs) all))

same_router : (u : ℕ) (acts : List Act) → All (IsOf u) acts → IsNonDecreasingBy (λ a. a.event.router) acts
same_router u acts of i j d le l =
    let a = (of i d (omega (arith, le, l))).router in
    let b = (of j d l).router in
    omega (arith, a, b)

pub routers_rise : (bs : List Block) → AllPairs (λ a b. a < b) (routers_of bs) → AllByRecursion IsFit bs → IsNonDecreasingBy (λ a. a.event.router) (acts_of bs)
routers_rise [] rising fit = λ i j d le l. absurd (omega (arith, l))
routers_rise (b ∷ bs) rising fit =
    rises_append (λ a. a.event.router) b.router b.acts (acts_of bs) (same_router b.router b.acts fit.0.of) (routers_rise bs (pairs_tail b.router (routers_of bs) rising) fit.1)
    (All-weaker (IsOf b.router) (λ a. a.event.router ≤ b.router) (λ a is. (let r = is.router in omega (arith, r))) b.acts fit.0.of)
    (above_all bs b.router fit.1 (pairs_head b.router (routers_of bs) rising))

pub own_rise : (bs : List Block) (u : ℕ) → AllByRecursion IsFit bs → IsNonDecreasingBy (λ a. a.stamp) (acts_by bs u)
own_rise [] u fit = λ i j d le l. absurd (omega (arith, l))
own_rise (b ∷ bs) u fit = at (b.router == u) (own_rise bs u fit.1)
  where
    at : (c : Bool) → IsNonDecreasingBy (λ a. a.stamp) (acts_by bs u) → IsNonDecreasingBy (λ a. a.stamp) (cond c b.acts (acts_by bs u))
    at true rest = fit.0.rises
    at false rest = rest

-- ---- events and offers of one router

pub events_are : (u : ℕ) (ms : List Act) → events_of u (events_in ms) ≡ journal_of (filter (by u) ms)
events_are u [] = refl
events_are u (m ∷ ms) = at (m.event.router == u) (events_are u ms)
  where
    at : (c : Bool) → events_of u (events_in ms) ≡ journal_of (filter (by u) ms) → cond c (m.event.event ∷ []) [] ++ events_of u (events_in ms) ≡ journal_of (cond c (m ∷ filter (by u) ms) (filter (by u) ms))
    at true h = ap (λ l. m.event.event ∷ l) h
    at false h = h
