-- What offers hold, by tests and as the laws of runs say it.
use Rattle.std.proofs.Common.{inl, inr, ◌≡◌, ◌≢◌, ℕ, ◌==◌, Bool, true, false, ◌&&◌, ◌||◌, not, List, [], ◌∷◌, refl, ap, ◌∙◌, subst}
use Rattle.std.proofs.lemmas.Bool.{eqb-true, eq-eqb, false≢true}
use Rattle.bgp_codec.specs.declared.message.Message.{Message}
use Rattle.run_model.specs.Offers.{Finished, Lost, Cause, made_of, number_of, IsIn}
use Rattle.snap_marker.specs.Parts.{is_empty}
use Rattle.snap_marker.specs.Recordings.{RouterOffer, MadeOffer, RouterPart}
use Rattle.snap_collector.specs.Verdicts.{of_part, has_part, any_lost, is_lost, AreFor}

abbrev pub Found : List MadeOffer → ℕ → (RouterPart → Bool) → Type 0
Found ms u holds = (s : ℕ) × (part : RouterPart) × IsIn (made_of u (Finished s part)) ms × (holds part ≡ true)

later : (m : MadeOffer) (ms : List MadeOffer) (u : ℕ) (holds : RouterPart → Bool) → Found ms u holds → Found (m ∷ ms) u holds
later m ms u holds f = (f.0, f.1, inr f.2, f.3)

finished : (c : Bool) (r u s : ℕ) (part : RouterPart) (ms : List MadeOffer) (holds : RouterPart → Bool) → holds part ≡ c → u ≡ r
    → (c || has_part ms u holds) ≡ true → (has_part ms u holds ≡ true → Found ms u holds) → Found (made_of r (Finished s part) ∷ ms) u holds
finished true r u s part ms holds e is h rest = (s, part, inl (ap (λ n. made_of n (Finished s part)) is), e)
finished false r u s part ms holds e is h rest = later (made_of r (Finished s part)) ms u holds (rest h)

found_head : (b : Bool) (r u : ℕ) (o : RouterOffer) (ms : List MadeOffer) (holds : RouterPart → Bool) → (u == r) ≡ b
    → ((b && of_part holds o) || has_part ms u holds) ≡ true → (has_part ms u holds ≡ true → Found ms u holds) → Found (made_of r o ∷ ms) u holds
found_head true r u (Finished s part) ms holds e h rest = finished (holds part) r u s part ms holds refl (eqb-true u r e) h rest
found_head true r u (Lost s v n cause) ms holds e h rest = later (made_of r (Lost s v n cause)) ms u holds (rest h)
found_head false r u o ms holds e h rest = later (made_of r o) ms u holds (rest h)

-- a part that is found stands among the offers
pub found : (ms : List MadeOffer) (u : ℕ) (holds : RouterPart → Bool) → has_part ms u holds ≡ true → Found ms u holds
found [] u holds h = absurd (false≢true h)
found (m ∷ ms) u holds h = found_head (u == m.router) m.router u m.offer ms holds refl h (found ms u holds)

or_later : (b c : Bool) → c ≡ true → (b || c) ≡ true
or_later true c h = refl
or_later false c h = h

-- and one that stands there is found
pub stands : (ms : List MadeOffer) (u s : ℕ) (part : RouterPart) (holds : RouterPart → Bool) → IsIn (made_of u (Finished s part)) ms → holds part ≡ true
    → has_part ms u holds ≡ true
stands [] u s part holds i h = absurd i
stands (m ∷ ms) u s part holds (inl e) h =
    subst (λ (x : MadeOffer). has_part (x ∷ ms) u holds ≡ true) e (rw (eq-eqb u u refl, h) refl)
stands (m ∷ ms) u s part holds (inr i) h = or_later ((u == m.router) && of_part holds m.offer) (has_part ms u holds) (stands ms u s part holds i h)

-- ---- a Lost

abbrev pub FoundLost : List MadeOffer → Type 0
FoundLost ms = (u s v e : ℕ) × (cause : Cause) × IsIn (made_of u (Lost s v e cause)) ms

lost_head : (r : ℕ) (o : RouterOffer) (ms : List MadeOffer) → (is_lost o || any_lost ms) ≡ true → (any_lost ms ≡ true → FoundLost ms) → FoundLost (made_of r o ∷ ms)
lost_head r (Finished s part) ms h rest = let f = rest h in (f.0, f.1, f.2, f.3, f.4, inr f.5)
lost_head r (Lost s v e cause) ms h rest = (r, s, v, e, cause, inl refl)

pub found_lost : (ms : List MadeOffer) → any_lost ms ≡ true → FoundLost ms
found_lost [] h = absurd (false≢true h)
found_lost (m ∷ ms) h = lost_head m.router m.offer ms h (found_lost ms)

pub lost_stands : (ms : List MadeOffer) (u s v e : ℕ) (cause : Cause) → IsIn (made_of u (Lost s v e cause)) ms → any_lost ms ≡ true
lost_stands [] u s v e cause i = absurd i
lost_stands (m ∷ ms) u s v e cause (inl is) = subst (λ (x : MadeOffer). any_lost (x ∷ ms) ≡ true) is refl
lost_stands (m ∷ ms) u s v e cause (inr i) = or_later (is_lost m.offer) (any_lost ms) (lost_stands ms u s v e cause i)

-- ---- offers for one number

pub number_is : (s : ℕ) (ms : List MadeOffer) (m : MadeOffer) → AreFor s ms → IsIn m ms → number_of m.offer ≡ s
number_is s [] m are i = absurd i
number_is s (x ∷ ms) m are (inl e) = ap (λ (y : MadeOffer). number_of y.offer) e ∙ are.0
number_is s (x ∷ ms) m are (inr i) = number_is s ms m are.1 i

-- ---- a channel is empty or not

pub not_nil : (ms : List Message) → not (is_empty ms) ≡ true → ms ≢ []
not_nil [] h e = false≢true h
not_nil (m ∷ ms) h e = false≢true (ap is_empty e)

pub is_some : (ms : List Message) → ms ≢ [] → not (is_empty ms) ≡ true
is_some [] n = absurd (n refl)
is_some (m ∷ ms) n = refl
