-- The numbers that an end dials.
use Rattle.std.proofs.Common.{◌≡◌, ℕ, ◌+◌, ◌<◌, ◌==◌, List, [], ◌∷◌, ◌++◌, refl, arith, inl, inr}
use Rattle.std.specs.Prelude.{max, nat_lt}
use Rattle.std.proofs.lemmas.Bool.{cases_Bool, ltb-true, and_parts, cond-true, cond-false}
use Rattle.link_epoch.specs.declared.link_end.Sign.{Sign}
use Rattle.link_epoch.specs.declared.link_end.Sign.TheVariants.{Dial, Shut}
use Rattle.link_epoch.specs.Ends.{LinkView, is_joinable, next_number, dialled, hung_up, heard_by, opening}
use Rattle.link_epoch.specs.Histories.{Move, Dials, HangsUp, Hears, after_all, numbers_from, greatest, EpochIsGreatest, NumbersRise}

-- a dial's number is above the last one
pub next_is_above : (a : LinkView) → a.epoch < next_number a
next_is_above a = elim (cases_Bool (is_joinable a)) [
  | inl e ↦ rw (cond-true (is_joinable a) a.heard (max a.epoch a.heard + 1) e) (ltb-true a.epoch a.heard (and_parts _ _ e).0)
  | inr e ↦ rw (cond-false (is_joinable a) a.heard (max a.epoch a.heard + 1) e) (omega arith)
]

-- a sign leaves the last number dialled
pub epoch_stays : (a : LinkView) (s : Sign) → (heard_by a s).epoch ≡ a.epoch
epoch_stays a (Dial n) = elim (cases_Bool (nat_lt a.heard n)) [ inl e ↦ rw e refl | inr e ↦ rw e refl ]
epoch_stays a (Shut n) = elim (cases_Bool (n == a.heard)) [ inl e ↦ rw e refl | inr e ↦ rw e refl ]

pub epoch_after : (a : LinkView) (ms : List Move) → (after_all a ms).epoch ≡ max a.epoch (greatest (numbers_from a ms))
epoch_after a [] = omega arith
epoch_after a (Dials ∷ ms) = omega (arith, epoch_after (dialled a) ms, next_is_above a)
epoch_after a (HangsUp ∷ ms) = epoch_after (hung_up a) ms
epoch_after a (Hears s ∷ ms) = omega (arith, epoch_after (heard_by a s) ms, epoch_stays a s)

pub epoch_is_greatest : EpochIsGreatest
epoch_is_greatest ms = omega (arith, epoch_after opening ms)

-- each number that is dialled from here on is above the last one and those before it
pub numbers_rise_from : (a : LinkView) (ms : List Move) (before later : List ℕ) (n : ℕ) → numbers_from a ms ≡ before ++ n ∷ later → max a.epoch (greatest before) < n
numbers_rise_from a [] [] later n e = absurd (cc e)
numbers_rise_from a [] (b ∷ before) later n e = absurd (cc e)
numbers_rise_from a (Dials ∷ ms) [] later n e = let same : next_number a ≡ n = cc e in omega (arith, same, next_is_above a)
numbers_rise_from a (Dials ∷ ms) (b ∷ before) later n e =
    let same : next_number a ≡ b = cc e in
    omega (arith, same, next_is_above a, numbers_rise_from (dialled a) ms before later n (cc e))
numbers_rise_from a (HangsUp ∷ ms) before later n e = numbers_rise_from (hung_up a) ms before later n e
numbers_rise_from a (Hears s ∷ ms) before later n e = omega (arith, numbers_rise_from (heard_by a s) ms before later n e, epoch_stays a s)

pub numbers_rise : NumbersRise
numbers_rise ms before later n e = omega (arith, numbers_rise_from opening ms before later n e)
