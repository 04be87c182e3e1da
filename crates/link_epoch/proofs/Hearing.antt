-- What an end has heard, and when it is joined.
use Rattle.std.proofs.Common.{◌≡◌, ℕ, ◌+◌, ◌<◌, ◌≤◌, ◌==◌, Bool, true, false, cond, List, [], ◌∷◌, ◌++◌, refl, sym, ap, subst, ◌∙◌, arith, inl, inr, ◌⊎◌, append_assoc, append-nil}
use Rattle.std.specs.Prelude.{max, nat_lt, ◌↔◌}
use Rattle.std.proofs.lemmas.Bool.{cases_Bool, ltb-true, ltb-false, eqb-true, eqb-false, and_parts, cases_lt}
use Rattle.link_epoch.specs.declared.link_end.Phase.{Phase}
use Rattle.link_epoch.specs.declared.link_end.Phase.TheVariants.{Offered, Joined}
use Rattle.link_epoch.specs.declared.link_end.Phase.TheVariants as phase
use Rattle.link_epoch.specs.declared.link_end.Sign.{Sign}
use Rattle.link_epoch.specs.declared.link_end.Sign.TheVariants.{Dial, Shut}
use Rattle.link_epoch.specs.Ends.{LinkView, is_joinable, dialled, hung_up, heard_by, opening, phase_at_dial}
use Rattle.link_epoch.specs.Histories.{Move, Dials, HangsUp, Hears, after, after_all, end_after, signs_heard, greatest_dial, IsHeard, IsShut, HeardIsGreatest, HeardIsShut, HeardIsShutAnywhere, NeverHangsUp, HoldsOn, JoinedWhereDialledAndHeard}

-- a sign with the property P of those before it
abbrev Stands : (List Sign → Type 0) → Sign → List Sign → Type 0
Stands P s signs = (before : List Sign) × (later : List Sign) × (signs ≡ before ++ s ∷ later) × P before

stands_more : (P : List Sign → Type 0) (s : Sign) (past : List Sign) (t : Sign) → Stands P s past → Stands P s (past ++ t ∷ [])
stands_more P s past t h = (h.0, h.1 ++ t ∷ [], ap (λ x. x ++ t ∷ []) h.2 ∙ append_assoc h.0 (s ∷ h.1) (t ∷ []), h.3)

stands_last : (P : List Sign → Type 0) (past : List Sign) (t : Sign) → P past → Stands P t (past ++ t ∷ [])
stands_last P past t h = (past, [], refl, h)

split_last : (past before later : List Sign) (s t : Sign) → past ++ t ∷ [] ≡ before ++ s ∷ later → ((rest : List Sign) × (past ≡ before ++ s ∷ rest)) ⊎ ((before ≡ past) × (t ≡ s))
split_last [] [] later s t e = inr (refl, cc e)
split_last [] (b ∷ []) later s t e = absurd (cc e)
split_last [] (b ∷ c ∷ before) later s t e = absurd (cc e)
split_last (p ∷ past) [] later s t e = inl (past, cc e)
split_last (p ∷ past) (b ∷ before) later s t e =
    let same : p ≡ b = cc e in
    elim (split_last past before later s t (cc e)) [ inl h ↦ inl (h.0, cc (same, h.1)) | inr h ↦ inr (cc (same, h.0), h.1) ]

stands_cases : (P : List Sign → Type 0) (s t : Sign) (past : List Sign) → Stands P s (past ++ t ∷ []) → Stands P s past ⊎ ((t ≡ s) × P past)
stands_cases P s t past h = elim (split_last past h.0 h.1 s t h.2) [
  | inl k ↦ inl (h.0, k.0, k.1, h.3)
  | inr k ↦ inr (k.1, subst P k.0 h.3)
]

pub greatest-append : (xs ys : List Sign) → greatest_dial (xs ++ ys) ≡ max (greatest_dial xs) (greatest_dial ys)
greatest-append [] ys = omega arith
greatest-append (Dial n ∷ xs) ys = omega (arith, greatest-append xs ys)
greatest-append (Shut n ∷ xs) ys = greatest-append xs ys

-- a sign that stands somewhere dials no more than the greatest
heard_is_below : (n : ℕ) (past : List Sign) → IsHeard n past → n ≤ greatest_dial past
heard_is_below n past h = rw h.2 (omega (arith, greatest-append h.0 (Dial n ∷ h.1)))

-- what stands here stands in what comes before and this, too
stands_behind : (n : ℕ) (s : Sign) (past : List Sign) → greatest_dial (s ∷ []) < n → IsHeard n past → IsHeard n (s ∷ past)
stands_behind n s past l h = (s ∷ h.0, h.1, ap (λ x. s ∷ x) h.2, omega (arith, greatest-append (s ∷ []) h.0, l, h.3))

-- the greatest number was heard
greatest_is_heard : (past : List Sign) (n : ℕ) → greatest_dial past ≡ n → 0 < n → IsHeard n past
greatest_is_heard [] n e l = absurd (omega (arith, e, l))
greatest_is_heard (Shut k ∷ past) n e l = stands_behind n (Shut k) past l (greatest_is_heard past n e l)
greatest_is_heard (Dial k ∷ past) n e l = elim (cases_lt k n) [
  | inl h ↦ stands_behind n (Dial k) past (omega arith) (greatest_is_heard past n (omega arith) l)
  | inr h ↦ let same : k ≡ n = omega arith in ([], past, ap (λ x. Dial x ∷ past) same, l)
]

-- what the state says of the signs heard
pub record Knows (past : List Sign) (a : LinkView) : Type 0 where
  pub heard : a.heard ≡ greatest_dial past
  pub shut : (a.heard_is_shut ≡ true) ↔ IsShut a.heard past
  pub joined : a.phase ≡ Joined → IsHeard a.epoch past
  pub offered : a.phase ≡ Offered → IsHeard a.epoch past → ⊥

-- a sign that changes nothing
knows_same : (past : List Sign) (a : LinkView) (t : Sign) → Knows past a → greatest_dial (past ++ t ∷ []) ≡ greatest_dial past
    → (t ≡ Shut a.heard → ⊥) → Knows (past ++ t ∷ []) a
knows_same past a t k g other = record {
  heard = k.heard ∙ sym g;
  shut = (
    (λ e. stands_more (λ b. greatest_dial b ≡ a.heard) (Shut a.heard) past t (k.shut.0 e)),
    (λ h. elim (stands_cases (λ b. greatest_dial b ≡ a.heard) (Shut a.heard) t past h) [
      | inl old ↦ k.shut.1 old
      | inr new ↦ absurd (other new.0)
    ]),
  );
  joined = λ e. stands_more (λ b. greatest_dial b < a.epoch) (Dial a.epoch) past t (k.joined e);
  offered = λ e h. elim (stands_cases (λ b. greatest_dial b < a.epoch) (Dial a.epoch) t past h) [
    | inl old ↦ k.offered e old
    | inr new ↦ let d : greatest_dial (past ++ Dial a.epoch ∷ []) ≡ greatest_dial past = subst (λ x. greatest_dial (past ++ x ∷ []) ≡ greatest_dial past) new.0 g in
        omega (arith, d, new.1, greatest-append past (Dial a.epoch ∷ []))
  ];
}

-- the phase once the peer has dialled a number above all before it
joined_at_dial : (p : Phase) (b : Bool) (past : List Sign) (e n : ℕ) → greatest_dial past < n → (n == e) ≡ b
    → (p ≡ Joined → IsHeard e past) → phase_at_dial p b ≡ Joined → IsHeard e (past ++ Dial n ∷ [])
joined_at_dial phase.Shut b past e n l t k j = absurd (cc j)
joined_at_dial Offered true past e n l t k j = let same : n ≡ e = eqb-true n e t in
    subst (λ x. IsHeard x (past ++ Dial n ∷ [])) same (stands_last (λ c. greatest_dial c < n) past (Dial n) l)
joined_at_dial Offered false past e n l t k j = absurd (cc j)
joined_at_dial Joined b past e n l t k j = stands_more (λ c. greatest_dial c < e) (Dial e) past (Dial n) (k refl)

offered_at_dial : (p : Phase) (b : Bool) (past : List Sign) (e n : ℕ) → (n == e) ≡ b
    → (p ≡ Offered → IsHeard e past → ⊥) → phase_at_dial p b ≡ Offered → IsHeard e (past ++ Dial n ∷ []) → ⊥
offered_at_dial phase.Shut b past e n t k o h = absurd (cc o)
offered_at_dial Offered true past e n t k o h = absurd (cc o)
offered_at_dial Offered false past e n t k o h = elim (stands_cases (λ c. greatest_dial c < e) (Dial e) (Dial n) past h) [
  | inl old ↦ k refl old
  | inr new ↦ let same : n ≡ e = cc (new.0) in eqb-false n e t same
]
offered_at_dial Joined b past e n t k o h = absurd (cc o)

-- a number above all that was heard before
knows_dial : (past : List Sign) (a : LinkView) (n : ℕ) → Knows past a → a.heard < n
    → Knows (past ++ Dial n ∷ []) (record { epoch = a.epoch; heard = n; heard_is_shut = false; phase = phase_at_dial a.phase (n == a.epoch) })
knows_dial past a n k l = record {
  heard = omega (arith, k.heard, greatest-append past (Dial n ∷ []));
  shut = (
    (λ e. absurd (cc e)),
    (λ h. elim (stands_cases (λ b. greatest_dial b ≡ n) (Shut n) (Dial n) past h) [
      | inl old ↦ absurd (omega (arith, old.3, k.heard, ap greatest_dial old.2, greatest-append old.0 (Shut n ∷ old.1)))
      | inr new ↦ absurd (cc (new.0))
    ]),
  );
  joined = joined_at_dial a.phase (n == a.epoch) past a.epoch n (omega (arith, k.heard)) refl k.joined;
  offered = offered_at_dial a.phase (n == a.epoch) past a.epoch n refl k.offered;
}

-- the greatest number is shut
knows_shut : (past : List Sign) (a : LinkView) (n : ℕ) → Knows past a → n ≡ a.heard → Knows (past ++ Shut n ∷ []) (record a { heard_is_shut = true })
knows_shut past a n k same = record {
  heard = omega (arith, k.heard, greatest-append past (Shut n ∷ []));
  shut = ((λ e. subst (λ x. IsShut x (past ++ Shut n ∷ [])) same (stands_last (λ b. greatest_dial b ≡ n) past (Shut n) (omega (arith, k.heard)))), (λ h. refl));
  joined = λ e. stands_more (λ b. greatest_dial b < a.epoch) (Dial a.epoch) past (Shut n) (k.joined e);
  offered = λ e h. elim (stands_cases (λ b. greatest_dial b < a.epoch) (Dial a.epoch) (Shut n) past h) [
    | inl old ↦ k.offered e old
    | inr new ↦ absurd (cc (new.0))
  ];
}

knows_sign : (past : List Sign) (a : LinkView) (s : Sign) → Knows past a → Knows (past ++ s ∷ []) (heard_by a s)
knows_sign past a (Dial n) k = elim (cases_Bool (nat_lt a.heard n)) [
  | inl e ↦ rw e (knows_dial past a n k (ltb-true a.heard n e))
  | inr e ↦ rw e (knows_same past a (Dial n) k (omega (arith, k.heard, ltb-false a.heard n e, greatest-append past (Dial n ∷ []))) (λ d. cc d))
]
knows_sign past a (Shut n) k = elim (cases_Bool (n == a.heard)) [
  | inl e ↦ rw e (knows_shut past a n k (eqb-true n a.heard e))
  | inr e ↦ rw e (knows_same past a (Shut n) k (omega (arith, greatest-append past (Shut n ∷ []))) (λ d. let same : n ≡ a.heard = cc d in eqb-false n a.heard e same))
]

-- a dial joins exactly where its number was heard
knows_dialled : (past : List Sign) (a : LinkView) → Knows past a → Knows past (dialled a)
knows_dialled past a k = elim (cases_Bool (is_joinable a)) [
  | inl e ↦ rw e (record {
    heard = k.heard;
    shut = k.shut;
    joined = λ j. greatest_is_heard past a.heard (sym k.heard) (omega (arith, ltb-true a.epoch a.heard (and_parts _ _ e).0));
    offered = λ o h. cc o;
  })
  | inr e ↦ rw e (record {
    heard = k.heard;
    shut = k.shut;
    joined = λ j. absurd (cc j);
    offered = λ o h. omega (arith, k.heard, heard_is_below (max a.epoch a.heard + 1) past h);
  })
]

knows_all : (past : List Sign) (a : LinkView) (ms : List Move) → Knows past a → Knows (past ++ signs_heard ms) (after_all a ms)
knows_all past a [] k = rw append-nil k
knows_all past a (Dials ∷ ms) k = knows_all past (dialled a) ms (knows_dialled past a k)
knows_all past a (HangsUp ∷ ms) k = knows_all past (hung_up a) ms (record { heard = k.heard; shut = k.shut; joined = λ j. absurd (cc j); offered = λ o h. cc o })
knows_all past a (Hears s ∷ ms) k = rw (← append_assoc past (s ∷ []) (signs_heard ms)) (knows_all (past ++ s ∷ []) (heard_by a s) ms (knows_sign past a s k))

nothing_stands : (before later : List Sign) (s : Sign) → [] ≡ before ++ s ∷ later → ⊥
nothing_stands [] later s e = cc e
nothing_stands (b ∷ before) later s e = cc e

pub knows : (ms : List Move) → Knows (signs_heard ms) (end_after ms)
knows ms = knows_all [] opening ms (record {
  heard = refl;
  shut = ((λ e. absurd (cc e)), (λ h. absurd (nothing_stands h.0 h.1 (Shut 0) h.2)));
  joined = λ j. absurd (cc j);
  offered = λ o h. cc o;
})

pub heard_is_greatest : HeardIsGreatest
heard_is_greatest ms = (knows ms).heard

pub heard_is_shut : HeardIsShut
heard_is_shut ms = (knows ms).shut

pub heard_is_shut_anywhere : HeardIsShutAnywhere
heard_is_shut_anywhere ms true_to = (
  (λ e. let h = (knows ms).shut.0 e in (h.0, h.1, h.2)),
  (λ h. (knows ms).shut.1 (
    h.0,
    h.1,
    h.2,
    omega (arith, (knows ms).heard, true_to h.0 h.1 (end_after ms).heard h.2, ap greatest_dial h.2, greatest-append h.0 (Shut (end_after ms).heard ∷ h.1)),
  )),
)

-- an end is in phase Shut exactly where it has not dialled since it last hung up
shut_stays : (a : LinkView) (s : Sign) → a.phase ≡ phase.Shut → (heard_by a s).phase ≡ phase.Shut
shut_stays a (Dial n) e = elim (cases_Bool (nat_lt a.heard n)) [ inl t ↦ rw (t, e) refl | inr t ↦ rw t e ]
shut_stays a (Shut n) e = elim (cases_Bool (n == a.heard)) [ inl t ↦ rw t e | inr t ↦ rw t e ]

open_at_dial : (p : Phase) (b : Bool) → (p ≡ phase.Shut → ⊥) → phase_at_dial p b ≡ phase.Shut → ⊥
open_at_dial phase.Shut b o e = o refl
open_at_dial Offered true o e = cc e
open_at_dial Offered false o e = cc e
open_at_dial Joined b o e = cc e

open_stays : (a : LinkView) (s : Sign) → (a.phase ≡ phase.Shut → ⊥) → (heard_by a s).phase ≡ phase.Shut → ⊥
open_stays a (Dial n) o = elim (cases_Bool (nat_lt a.heard n)) [ inl t ↦ rw t (open_at_dial a.phase (n == a.epoch) o) | inr t ↦ rw t o ]
open_stays a (Shut n) o = elim (cases_Bool (n == a.heard)) [ inl t ↦ rw t o | inr t ↦ rw t o ]

dial_opens : (b : Bool) → cond b Joined Offered ≡ phase.Shut → ⊥
dial_opens true e = cc e
dial_opens false e = cc e

holds_behind : (m : Move) (ms : List Move) → HoldsOn ms → HoldsOn (m ∷ ms)
holds_behind m ms h = (m ∷ h.0, h.1, ap (λ x. m ∷ x) h.2, h.3)

open_holds : (a : LinkView) (ms : List Move) → ((after_all a ms).phase ≡ phase.Shut → ⊥) → HoldsOn ms ⊎ ((a.phase ≡ phase.Shut → ⊥) × NeverHangsUp ms)
open_holds a [] o = inr (o, tt)
open_holds a (Dials ∷ ms) o = elim (open_holds (dialled a) ms o) [ inl h ↦ inl (holds_behind Dials ms h) | inr h ↦ inl ([], ms, refl, h.1) ]
open_holds a (HangsUp ∷ ms) o = elim (open_holds (hung_up a) ms o) [ inl h ↦ inl (holds_behind HangsUp ms h) | inr h ↦ absurd (h.0 refl) ]
open_holds a (Hears s ∷ ms) o = elim (open_holds (heard_by a s) ms o) [
  | inl h ↦ inl (holds_behind (Hears s) ms h)
  | inr h ↦ inr ((λ e. h.0 (shut_stays a s e)), h.1)
]

holds_open : (a : LinkView) (ms : List Move) → (a.phase ≡ phase.Shut → ⊥) → NeverHangsUp ms → (after_all a ms).phase ≡ phase.Shut → ⊥
holds_open a [] o never = o
holds_open a (Dials ∷ ms) o never = holds_open (dialled a) ms (dial_opens (is_joinable a)) never
holds_open a (HangsUp ∷ ms) o never = absurd never
holds_open a (Hears s ∷ ms) o never = holds_open (heard_by a s) ms (open_stays a s o) never

after-append : (a : LinkView) (xs ys : List Move) → after_all a (xs ++ ys) ≡ after_all (after_all a xs) ys
after-append a [] ys = refl
after-append a (x ∷ xs) ys = after-append (after a x) xs ys

joined_of : (p : Phase) → (p ≡ phase.Shut → ⊥) → (p ≡ Offered → ⊥) → p ≡ Joined
joined_of phase.Shut s o = absurd (s refl)
joined_of Offered s o = absurd (o refl)
joined_of Joined s o = refl

pub joined_is : JoinedWhereDialledAndHeard
joined_is ms = (
  (λ j. (elim (open_holds opening ms (λ e. cc (e, j))) [ inl h ↦ h | inr h ↦ absurd (h.0 refl) ], (knows ms).joined j)),
  (λ h. joined_of (end_after ms).phase
      (rw (h.0.2, after-append opening h.0.0 (Dials ∷ h.0.1)) (holds_open (dialled (end_after h.0.0)) h.0.1 (dial_opens (is_joinable (end_after h.0.0))) h.0.3))
      (λ o. (knows ms).offered o h.1)),
)
