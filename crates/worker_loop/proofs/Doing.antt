-- What was done, put together.
use Rattle.std.proofs.Common.{◌≡◌, ℕ, zero, suc, ◌<◌, arith, List, [], ◌∷◌, ◌++◌, length, get_or, map, All, refl, sym, ap, ◌∙◌, subst, append_assoc}
use Rattle.std.proofs.lemmas.List.{append-nil, map-append}
use Rattle.std.specs.List.Sorted.{IsNonDecreasingBy}
use Rattle.run_model.specs.Network.{put_towards, taken_from}
use Rattle.run_model.specs.Journals.{puts_towards, takes_from}
use Rattle.run_model.specs.Stamps.{StampedItem, collected_by, stamped_offers, without_stamp}
use Rattle.outbox.specs.declared.item.What.{What}
use Rattle.snap_marker.specs.Recordings.{MadeOffer}
use Rattle.router_model.specs.Settings.{Setting}
use Rattle.router_model.specs.Step.{Own, Step, says}
use Rattle.router_model.specs.Calls.{Stamped, Call, Handle}
use Rattle.router_model.specs.Calls as calls
use Rattle.router_runs.specs.Runs.{Logged, LoggedStep}
use Rattle.run_model.specs.Network.{Event}
use Rattle.worker_loop.specs.declared.chore.Chore.{Chore}
use Rattle.worker_loop.specs.declared.chore.Chore.TheVariants as chore
use Rattle.worker_loop.specs.Acts.{Act, Seen, Does, Leads, passed, journal_of, entry_of}
use Rattle.worker_loop.specs.Following.{Stage, Then, Nothing, Each, Calls, Puts, Takes, Offers, Meets, Turns, Obeys}
use Rattle.worker_loop.specs.Laws.{WhatFollowsIsDone, ActsAreJournals, StampsRise, IsOf}

-- ---- one after the other

leads_append : (g : Setting) (u : ℕ) (x y z : Stamped) (front back : List Act) → Leads g u x front y → Leads g u y back z → Leads g u x (front ++ back) z
leads_append g u x y z [] back p q = subst (λ k. Leads g u k back z) (sym p) q
leads_append g u x y z (a ∷ front) back p q = (p.0, p.1, leads_append g u p.0 y z front back p.2 q)

abbrev StampedEvent : Type 0
StampedEvent = Event Own (StampedItem What) MadeOffer

puts_append : (v : ℕ) (es fs : List StampedEvent) → puts_towards v (es ++ fs) ≡ puts_towards v es ++ puts_towards v fs
puts_append v [] fs = refl
puts_append v (e ∷ es) fs = ap (λ l. put_towards v e ++ l) (puts_append v es fs) ∙ sym (append_assoc (put_towards v e) (puts_towards v es) (puts_towards v fs))

takes_append : (v : ℕ) (es fs : List StampedEvent) → takes_from v (es ++ fs) ≡ takes_from v es ++ takes_from v fs
takes_append v [] fs = refl
takes_append v (e ∷ es) fs = ap (λ l. taken_from v e ++ l) (takes_append v es fs) ∙ sym (append_assoc (taken_from v e) (takes_from v es) (takes_from v fs))

offers_append : (front back : List Act) → stamped_offers (front ++ back) ≡ stamped_offers front ++ stamped_offers back
offers_append [] back = refl
offers_append (a ∷ front) back =
    ap (λ l. collected_by a.stamp a.event.router a.event.event ++ l) (offers_append front back)
    ∙ sym (append_assoc (collected_by a.stamp a.event.router a.event.event) (stamped_offers front) (stamped_offers back))

onto : {A : Type 0} → (a b c x y xy : List A) → b ≡ a ++ x → c ≡ b ++ y → xy ≡ x ++ y → c ≡ a ++ xy
onto a b c x y xy p q r = q ∙ ap (λ l. l ++ y) p ∙ append_assoc a x y ∙ ap (λ l. a ++ l) (sym r)

does_append : (g : Setting) (u : ℕ) (a b c : Seen) (front back : List Act) → Does g u a front b → Does g u b back c → Does g u a (front ++ back) c
does_append g u a b c front back p q =
    let both : journal_of (front ++ back) ≡ journal_of front ++ journal_of back = map-append (λ (k : Act). k.event.event) front back in
    record {
      leads = leads_append g u a.router b.router c.router front back p.leads q.leads;
      put = λ v. onto (map passed (a.put v)) (map passed (b.put v)) (map passed (c.put v)) (puts_towards v (journal_of front)) (puts_towards v (journal_of back)) (puts_towards v (journal_of (front ++ back)))
          (p.put v) (q.put v) (ap (puts_towards v) both ∙ puts_append v (journal_of front) (journal_of back));
      taken = λ v. onto (map passed (a.taken v)) (map passed (b.taken v)) (map passed (c.taken v)) (takes_from v (journal_of front)) (takes_from v (journal_of back)) (takes_from v (journal_of (front ++ back)))
          (p.taken v) (q.taken v) (ap (takes_from v) both ∙ takes_append v (journal_of front) (journal_of back));
      room = q.room ∙ p.room;
      made = onto a.made b.made c.made (stamped_offers front) (stamped_offers back) (stamped_offers (front ++ back)) p.made q.made (offers_append front back);
      events = onto a.events b.events c.events (map entry_of front) (map entry_of back) (map entry_of (front ++ back)) p.events q.events (map-append entry_of front back);
    }

does_nothing : (g : Setting) (u : ℕ) (a b : Seen) (acts : List Act) → Nothing a acts b → Does g u a acts b
does_nothing g u a b acts (none, same) =
    subst (λ (k : Seen). Does g u a acts k) same
    (subst (λ (l : List Act). Does g u a l a) (sym none)
    (record {
      leads = refl;
      put = λ v. sym (append-nil (map passed (a.put v)));
      taken = λ v. sym (append-nil (map passed (a.taken v)));
      room = refl;
      made = sym (append-nil a.made);
      events = sym (append-nil a.events);
    }))

-- ---- stages

abbrev Done : Setting → ℕ → Stage → Type 0
Done g u P = (a b : Seen) (acts : List Act) → P a acts b → Does g u a acts b

does_then : (g : Setting) (u : ℕ) (P Q : Stage) → Done g u P → Done g u Q → Done g u (Then P Q)
does_then g u P Q p q a b acts (m, first, rest, whole, one, other) =
    subst (λ (l : List Act). Does g u a l b) (sym whole) (does_append g u a m b first rest (p a m first one) (q m b rest other))

does_each : {X : Type 0} → (g : Setting) (u : ℕ) (P : X → Stage) → ((x : X) → Done g u (P x)) → (xs : List X) → Done g u (Each P xs)
does_each g u P p [] a b acts h = does_nothing g u a b acts h
does_each g u P p (x ∷ xs) a b acts h = does_then g u (P x) (Each P xs) (p x) (does_each g u P p xs) a b acts h

meets_does : (g : Setting) (u v : ℕ) → Done g u (Meets g u v)
meets_does g u v =
    does_then g u (Puts g u v) (Then (Takes g u v) (Calls g u (Handle v))) (λ a b acts h. h.does)
    (does_then g u (Takes g u v) (Calls g u (Handle v)) (λ a b acts h. h.does) (λ a b acts h. h.does))

turns_does : (g : Setting) (u : ℕ) (peers : List ℕ) → Done g u (Turns g u peers)
turns_does g u peers =
    does_then g u (Each (Meets g u) peers) (Then (Calls g u calls.Decide) (Then (Calls g u calls.Advertise) (Offers g u))) (does_each g u (Meets g u) (meets_does g u) peers)
    (does_then g u (Calls g u calls.Decide) (Then (Calls g u calls.Advertise) (Offers g u)) (λ a b acts h. h.does)
    (does_then g u (Calls g u calls.Advertise) (Offers g u) (λ a b acts h. h.does) (λ a b acts h. h.does)))

obeys_does : (g : Setting) (u : ℕ) (peers : List ℕ) (c : Chore) → Done g u (Obeys g u peers c)
obeys_does g u peers chore.Turn a b acts h = turns_does g u peers a b acts h
obeys_does g u peers chore.Tick a b acts h = h.does
obeys_does g u peers (chore.Command c) a b acts h = h.does
obeys_does g u peers chore.Stop a b acts h = does_nothing g u a b acts h

pub what_follows_is_done : WhatFollowsIsDone
what_follows_is_done g u peers chores a b acts h = does_each g u (Obeys g u peers) (obeys_does g u peers) chores a b acts h

-- ---- journals

pub acts_are_journals : ActsAreJournals
acts_are_journals g u known x y [] leads old same = record { last = old; journal = refl; router = same ∙ ap (λ (k : Stamped). k.router) leads }
acts_are_journals g u known x y (a ∷ acts) (m, moves, rest) old same =
    let e = without_stamp a.event.event in
    let next : Logged = record { router = m.router; log = λ v. old.log v ++ says g u old.router e v } in
    let step : LoggedStep g u old e next =
    record { known = known; step = subst (λ r. Step g u r e m.router) (sym same) moves.step; log = refl } in
    let tail = acts_are_journals g u known m y acts rest next refl in
    record { last = tail.last; journal = (next, step, tail.journal); router = tail.router }

-- ---- stamps

rises_from : (g : Setting) (u : ℕ) (x y : Stamped) (acts : List Act) → Leads g u x acts y → (j : ℕ) (d : Act) → j < length acts → x.stamp < (get_or acts j d).stamp
rises_from g u x y [] leads j d below = absurd (omega (arith, below))
rises_from g u x y (a ∷ acts) leads zero d below = subst (λ n. x.stamp < n) (sym leads.1.stamp) leads.1.later
rises_from g u x y (a ∷ acts) leads (suc j) d below =
    let far = rises_from g u leads.0 y acts leads.2 j d (omega (arith, below)) in
    let near = leads.1.later in
    omega (arith, far, near)

rising : (g : Setting) (u : ℕ) (x y : Stamped) (acts : List Act) → Leads g u x acts y → IsNonDecreasingBy (λ a. a.stamp) acts
rising g u x y [] leads i j d le below = absurd (omega (arith, below))
rising g u x y (a ∷ acts) leads zero zero d le below = omega arith
rising g u x y (a ∷ acts) leads zero (suc j) d le below =
    let far = rises_from g u leads.0 y acts leads.2 j d (omega (arith, below)) in
    let here = leads.1.stamp in
    omega (arith, far, here)
rising g u x y (a ∷ acts) leads (suc i) zero d le below = absurd (omega (arith, le))
rising g u x y (a ∷ acts) leads (suc i) (suc j) d le below = rising g u leads.0 y acts leads.2 i j d (omega (arith, le)) (omega (arith, below))

all_of : (g : Setting) (u : ℕ) (x y : Stamped) (acts : List Act) → Leads g u x acts y → All (IsOf u) acts
all_of g u x y [] leads k d below = absurd (omega (arith, below))
all_of g u x y (a ∷ acts) leads zero d below = record { router = leads.1.router; fits = leads.1.fits }
all_of g u x y (a ∷ acts) leads (suc k) d below = all_of g u leads.0 y acts leads.2 k d (omega (arith, below))

pub stamps_rise : StampsRise
stamps_rise g u x y acts leads = (rising g u x y acts leads, all_of g u x y acts leads)
