-- What is judged first, and what was met before it.
use Rattle.std.proofs.Common.{◌≡◌, ℕ, zero, suc, ◌<◌, Bool, false, refl, arith, inl, inr}
use Rattle.std.specs.Prelude.{◌==◌, Err}
use Rattle.std.proofs.lemmas.Bool.{both_ways}
use Rattle.ranked_policy.specs.declared.refusal.NetError.{NetError}
use Rattle.ranked_policy.specs.declared.refusal.NetError.TheVariants.{NotSimple, TooLong, Repeated, Memory, UnknownRouter, Limit, BadNumber, NotConnected}
use Rattle.ranked_policy.specs.Adding.{turn, IsRefused, IsJudged, MeetsAll}

-- an earlier refusal, where all but the last few are met
before_long : (Meets : NetError → Type 0) → Meets NotSimple → (f : NetError) → turn f < turn TooLong → Meets f
before_long Meets simple NotSimple l = simple
before_long Meets simple TooLong l = absurd (omega (arith, l))
before_long Meets simple Repeated l = absurd (omega (arith, l))
before_long Meets simple UnknownRouter l = absurd (omega (arith, l))
before_long Meets simple Limit l = absurd (omega (arith, l))
before_long Meets simple BadNumber l = absurd (omega (arith, l))
before_long Meets simple NotConnected l = absurd (omega (arith, l))
before_long Meets simple Memory l = absurd (omega (arith, l))

before_repeated : (Meets : NetError → Type 0) → Meets NotSimple → Meets TooLong → (f : NetError) → turn f < turn Repeated → Meets f
before_repeated Meets simple short NotSimple l = simple
before_repeated Meets simple short TooLong l = short
before_repeated Meets simple short Repeated l = absurd (omega (arith, l))
before_repeated Meets simple short UnknownRouter l = absurd (omega (arith, l))
before_repeated Meets simple short Limit l = absurd (omega (arith, l))
before_repeated Meets simple short BadNumber l = absurd (omega (arith, l))
before_repeated Meets simple short NotConnected l = absurd (omega (arith, l))
before_repeated Meets simple short Memory l = absurd (omega (arith, l))

before_unknown : (Meets : NetError → Type 0) → Meets NotSimple → Meets TooLong → Meets Repeated → (f : NetError) → turn f < turn UnknownRouter → Meets f
before_unknown Meets simple short new NotSimple l = simple
before_unknown Meets simple short new TooLong l = short
before_unknown Meets simple short new Repeated l = new
before_unknown Meets simple short new UnknownRouter l = absurd (omega (arith, l))
before_unknown Meets simple short new Limit l = absurd (omega (arith, l))
before_unknown Meets simple short new BadNumber l = absurd (omega (arith, l))
before_unknown Meets simple short new NotConnected l = absurd (omega (arith, l))
before_unknown Meets simple short new Memory l = absurd (omega (arith, l))

before_limit : (Meets : NetError → Type 0) → Meets NotSimple → Meets TooLong → Meets Repeated → Meets UnknownRouter → (f : NetError) → turn f < turn Limit → Meets f
before_limit Meets simple short new known NotSimple l = simple
before_limit Meets simple short new known TooLong l = short
before_limit Meets simple short new known Repeated l = new
before_limit Meets simple short new known UnknownRouter l = known
before_limit Meets simple short new known Limit l = absurd (omega (arith, l))
before_limit Meets simple short new known BadNumber l = absurd (omega (arith, l))
before_limit Meets simple short new known NotConnected l = absurd (omega (arith, l))
before_limit Meets simple short new known Memory l = absurd (omega (arith, l))

before_unconnected : (Meets : NetError → Type 0) → Meets NotSimple → Meets TooLong → Meets Repeated → Meets UnknownRouter → Meets Limit → Meets BadNumber → (f : NetError) → turn f < turn NotConnected → Meets f
before_unconnected Meets simple short new known few good NotSimple l = simple
before_unconnected Meets simple short new known few good TooLong l = short
before_unconnected Meets simple short new known few good Repeated l = new
before_unconnected Meets simple short new known few good UnknownRouter l = known
before_unconnected Meets simple short new known few good Limit l = few
before_unconnected Meets simple short new known few good BadNumber l = good
before_unconnected Meets simple short new known few good NotConnected l = absurd (omega (arith, l))
before_unconnected Meets simple short new known few good Memory l = absurd (omega (arith, l))

pub refused_unconnected : (Meets : NetError → Type 0) → Meets NotSimple → Meets TooLong → Meets Repeated → Meets UnknownRouter → Meets Limit → Meets BadNumber → (Meets NotConnected → ⊥) → IsJudged Meets (Err NotConnected)
refused_unconnected Meets simple short new known few good fails = ((λ e. cc), record { unmet = inr fails; earlier = before_unconnected Meets simple short new known few good })

pub refused_long : (Meets : NetError → Type 0) → Meets NotSimple → (Meets TooLong → ⊥) → IsJudged Meets (Err TooLong)
refused_long Meets simple fails = ((λ e. cc), record { unmet = inr fails; earlier = before_long Meets simple })

pub refused_repeated : (Meets : NetError → Type 0) → Meets NotSimple → Meets TooLong → (Meets Repeated → ⊥) → IsJudged Meets (Err Repeated)
refused_repeated Meets simple short fails = ((λ e. cc), record { unmet = inr fails; earlier = before_repeated Meets simple short })

pub refused_unknown : (Meets : NetError → Type 0) → Meets NotSimple → Meets TooLong → Meets Repeated → (Meets UnknownRouter → ⊥) → IsJudged Meets (Err UnknownRouter)
refused_unknown Meets simple short new fails = ((λ e. cc), record { unmet = inr fails; earlier = before_unknown Meets simple short new })

pub refused_limit : (Meets : NetError → Type 0) → Meets NotSimple → Meets TooLong → Meets Repeated → Meets UnknownRouter → (Meets Limit → ⊥) → IsJudged Meets (Err Limit)
refused_limit Meets simple short new known fails = ((λ e. cc), record { unmet = inr fails; earlier = before_limit Meets simple short new known })

pub meets_all : (Meets : NetError → Type 0) → Meets NotSimple → Meets TooLong → Meets Repeated → Meets UnknownRouter → Meets Limit → Meets BadNumber → Meets NotConnected → Meets Memory → MeetsAll Meets
meets_all Meets simple short new known few good connected memory NotSimple = simple
meets_all Meets simple short new known few good connected memory TooLong = short
meets_all Meets simple short new known few good connected memory Repeated = new
meets_all Meets simple short new known few good connected memory UnknownRouter = known
meets_all Meets simple short new known few good connected memory Limit = few
meets_all Meets simple short new known few good connected memory BadNumber = good
meets_all Meets simple short new known few good connected memory NotConnected = connected
meets_all Meets simple short new known few good connected memory Memory = memory

-- a growth was refused where all is met
pub refused_memory : (Meets : NetError → Type 0) → MeetsAll Meets → IsRefused Meets Memory
refused_memory Meets all = record { unmet = inl refl; earlier = λ f l. all f }

-- a list that is not empty
pub not_empty : (n : ℕ) (b : Bool) → b ≡ (n == 0) → b ≡ false → 0 < n
not_empty zero b says e = absurd (both_ways b e says)
not_empty (suc n) b says e = omega arith
