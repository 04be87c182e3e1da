-- When a sign joins, is an offer, and closes.
use Rattle.std.proofs.Common.{◌≡◌, ◌≢◌, ℕ, ◌==◌, Bool, true, false, ◌&&◌, cond, refl, sym, ap, ◌∙◌, arith}
use Rattle.std.specs.Prelude.{nat_lt}
use Rattle.std.proofs.lemmas.Bool.{ltb-true, eqb-true, eq-eqb, lt-ltb, and_parts}
use Rattle.link_epoch.specs.declared.link_end.Phase.{Phase}
use Rattle.link_epoch.specs.declared.link_end.Phase.TheVariants.{Offered, Joined}
use Rattle.link_epoch.specs.declared.link_end.Phase.TheVariants as phase
use Rattle.link_epoch.specs.declared.link_end.Sign.TheVariants.{Dial, Shut}
use Rattle.link_epoch.specs.declared.link_end.Heard.TheVariants as heard
use Rattle.link_epoch.specs.Ends.{meaning_of_dial, meaning_of_shut}
use Rattle.link_epoch.specs.Histories.{JoinsAtItsOwnNumber, OffersAboveTheOwn, ClosesAtItsOwnNumber}

-- a Dial: whether it is above all heard, whether it is the own number, whether it is above the own
dial_joins : (p : Phase) (new own above : Bool) (n : ℕ) → cond new (meaning_of_dial p own above n) heard.Quiet ≡ heard.Joined → (new ≡ true) × (own ≡ true) × (p ≡ Offered)
dial_joins p false own above n e = absurd (cc e)
dial_joins phase.Shut true own true n e = absurd (cc e)
dial_joins phase.Shut true own false n e = absurd (cc e)
dial_joins Offered true true above n e = (refl, refl, refl)
dial_joins Offered true false true n e = absurd (cc e)
dial_joins Offered true false false n e = absurd (cc e)
dial_joins Joined true own above n e = absurd (cc e)

dial_offers : (p : Phase) (new own above : Bool) (n k : ℕ) → cond new (meaning_of_dial p own above n) heard.Quiet ≡ heard.Offered k → (new ≡ true) × (above ≡ true) × (p ≢ Joined) × (n ≡ k)
dial_offers p false own above n k e = absurd (cc e)
dial_offers phase.Shut true own true n k e = (refl, refl, (λ j. cc j), cc e)
dial_offers phase.Shut true own false n k e = absurd (cc e)
dial_offers Offered true true above n k e = absurd (cc e)
dial_offers Offered true false true n k e = (refl, refl, (λ j. cc j), cc e)
dial_offers Offered true false false n k e = absurd (cc e)
dial_offers Joined true own above n k e = absurd (cc e)

dial_closes : (p : Phase) (new own above : Bool) (n : ℕ) → cond new (meaning_of_dial p own above n) heard.Quiet ≡ heard.Closed → ⊥
dial_closes p false own above n e = cc e
dial_closes phase.Shut true own true n e = cc e
dial_closes phase.Shut true own false n e = cc e
dial_closes Offered true true above n e = cc e
dial_closes Offered true false true n e = cc e
dial_closes Offered true false false n e = cc e
dial_closes Joined true own above n e = cc e

offer_is : (p : Phase) (own : Bool) (n : ℕ) → (own ≡ true → ⊥) → (p ≢ Joined) → meaning_of_dial p own true n ≡ heard.Offered n
offer_is phase.Shut own n o j = refl
offer_is Offered true n o j = absurd (o refl)
offer_is Offered false n o j = refl
offer_is Joined own n o j = absurd (j refl)

-- a Shut: whether it is the number heard and the own one
shut_closes : (p : Phase) (own : Bool) → meaning_of_shut p own ≡ heard.Closed → (own ≡ true) × (p ≡ Joined)
shut_closes phase.Shut own e = absurd (cc e)
shut_closes Offered own e = absurd (cc e)
shut_closes Joined true e = (refl, refl)
shut_closes Joined false e = absurd (cc e)

shut_joins : (p : Phase) (own : Bool) → meaning_of_shut p own ≡ heard.Joined → ⊥
shut_joins phase.Shut own e = cc e
shut_joins Offered own e = cc e
shut_joins Joined true e = cc e
shut_joins Joined false e = cc e

shut_offers : (p : Phase) (own : Bool) (k : ℕ) → meaning_of_shut p own ≡ heard.Offered k → ⊥
shut_offers phase.Shut own k e = cc e
shut_offers Offered own k e = cc e
shut_offers Joined true k e = cc e
shut_offers Joined false k e = cc e

pub joins : JoinsAtItsOwnNumber
joins a (Dial n) = (
  (λ e. let h = dial_joins a.phase (nat_lt a.heard n) (n == a.epoch) (nat_lt a.epoch n) n e in
      let same : n ≡ a.epoch = eqb-true n a.epoch h.1 in
      (ap Dial same, omega (arith, ltb-true a.heard n h.0, same), h.2)),
  (λ h. let same : n ≡ a.epoch = cc (h.0) in
      rw (h.2, lt-ltb a.heard n (omega (arith, h.1, same)), eq-eqb n a.epoch same) refl),
)
joins a (Shut n) = ((λ e. absurd (shut_joins a.phase ((n == a.heard) && (n == a.epoch)) e)), (λ h. absurd (cc (h.0))))

pub offers : OffersAboveTheOwn
offers a (Dial n) k = (
  (λ e. let h = dial_offers a.phase (nat_lt a.heard n) (n == a.epoch) (nat_lt a.epoch n) n k e in
      (ap Dial h.3, omega (arith, ltb-true a.heard n h.0, h.3), omega (arith, ltb-true a.epoch n h.1, h.3), h.2)),
  (λ h. let same : n ≡ k = cc (h.0) in
      rw (
        lt-ltb a.heard n (omega (arith, h.1, same)),
        lt-ltb a.epoch n (omega (arith, h.2, same)),
        offer_is a.phase (n == a.epoch) n (λ t. omega (arith, eqb-true n a.epoch t, h.2, same)) h.3,
        same,
      ) refl),
)
offers a (Shut n) k = ((λ e. absurd (shut_offers a.phase ((n == a.heard) && (n == a.epoch)) k e)), (λ h. absurd (cc (h.0))))

pub closes : ClosesAtItsOwnNumber
closes a (Dial n) = ((λ e. absurd (dial_closes a.phase (nat_lt a.heard n) (n == a.epoch) (nat_lt a.epoch n) n e)), (λ h. absurd (cc (h.0))))
closes a (Shut n) = (
  (λ e. let h = shut_closes a.phase ((n == a.heard) && (n == a.epoch)) e in
      let both = and_parts (n == a.heard) (n == a.epoch) h.0 in
      let own : n ≡ a.epoch = eqb-true n a.epoch both.1 in
      (ap Shut own, sym (eqb-true n a.heard both.0) ∙ own, h.1)),
  (λ h. let own : n ≡ a.epoch = cc (h.0) in
      rw (h.2, eq-eqb n a.heard (own ∙ sym h.1), eq-eqb n a.epoch own) refl),
)
