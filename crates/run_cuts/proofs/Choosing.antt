-- The choices of calls survive the exchange of a put with an event before it.
use Rattle.std.proofs.Common.{◌≡◌, ℕ, zero, suc, ◌-◌, ◌≤◌, ◌<◌, ◌==◌, Bool, true, false, ◌&&◌, cond, List, [], ◌∷◌, ◌++◌, length, drop, refl, ap, sym, subst, ◌∙◌, arith, Some}
use Rattle.std.specs.Prelude.{nat_lt, if◌then◌else◌}
use Rattle.std.specs.List.{find}
use mathlib.Core.List.{IsPrefix}
use Rattle.bgp_codec.specs.declared.message.Message.{Message}
use Rattle.run_model.specs.Octets.{Passing, Octet, Control, octets_of, passing}
use Rattle.run_model.specs.Network.{alone, puts, takes, offers, put_towards}
use Rattle.outbox.specs.Items.{passes, octets_in_front, item_of, next_item, octets_waiting}
use Rattle.outbox.specs.declared.item.What.{What}
use Rattle.outbox.specs.declared.item.What.TheVariants as item
use Rattle.router_model.specs.declared.limits.TheConstants.{OUTBOX_LIMIT}
use Rattle.router_model.specs.Settings.{Setting, peers}
use Rattle.router_model.specs.State.{Router, is_waiting_peer}
use Rattle.router_model.specs.Step.{RouterEvent, Obeys, Ticks, Handles, Decides, Advertises, HasSize, Step, says}
use Rattle.router_model.specs.Laws.{StepsAppendWhatTheySay, all_passes}
use Rattle.bgp_codec.specs.Spelling.{written}
use Rattle.router_runs.specs.Runs.{Logged, LoggedStep, logged_steps}
use Rattle.run_cuts.specs.Choices.{IsChosen, HasRoom}
use Rattle.run_cuts.proofs.Loggeds.{only_one}
use Rattle.run_cuts.proofs.FineJournals.{Survives}

-- ---- the next item of a beginning of an outbox that has all of it

front_same : (n e : ℕ) (o part : List (Passing Message)) → IsPrefix (octets_of e (octets_in_front n e o)) part → IsPrefix part o → octets_in_front n e part ≡ octets_in_front n e o
front_same n e [] [] h p = refl
front_same n e [] (x ∷ part) h p = (let f : x ∷ (part ++ p.0) ≡ [] = p.1 in absurd cc)
front_same n e (Control x ∷ o) [] h p = refl
front_same n e (Control x ∷ o) (Control y ∷ part) h p = refl
front_same n e (Control x ∷ o) (Octet f b ∷ part) h p = (let k : Octet f b ∷ (part ++ p.0) ≡ Control x ∷ o = p.1 in absurd cc)
front_same n e (Octet f b ∷ o) part h p = at ((e == f) && nat_lt 0 n) refl (λ rest. front_same (n - 1) e o rest) part h p
  where
    at : (c : Bool) → ((e == f) && nat_lt 0 n) ≡ c
        → ((rest : List (Passing Message)) → IsPrefix (octets_of e (octets_in_front (n - 1) e o)) rest → IsPrefix rest o → octets_in_front (n - 1) e rest ≡ octets_in_front (n - 1) e o)
        → (part : List (Passing Message)) → IsPrefix (octets_of e (octets_in_front n e (Octet f b ∷ o))) part → IsPrefix part (Octet f b ∷ o)
        → octets_in_front n e part ≡ octets_in_front n e (Octet f b ∷ o)
    at false is ih [] h p = rw is refl
    at true is ih [] h p = (let k : IsPrefix (Octet e b ∷ octets_of e (octets_in_front (n - 1) e o)) [] = rw is at h in let q = k.1 in absurd cc)
    at c is ih (Control y ∷ part) h p = (let k : Control y ∷ (part ++ p.0) ≡ Octet f b ∷ o = p.1 in absurd cc)
    at false is ih (Octet k c ∷ part) h p =
        let q : Octet k c ∷ (part ++ p.0) ≡ Octet f b ∷ o = p.1 in
        let same : k ≡ f = cc in
        let here : ((e == k) && nat_lt 0 n) ≡ false = ap (λ j. (e == j) && nat_lt 0 n) same ∙ is in
        rw (here, is) refl
    at true is ih (Octet k c ∷ part) h p =
        let q : Octet k c ∷ (part ++ p.0) ≡ Octet f b ∷ o = p.1 in
        let same : k ≡ f = cc in
        let octet : c ≡ b = cc in
        let rest : part ++ p.0 ≡ o = cc in
        let here : ((e == k) && nat_lt 0 n) ≡ true = ap (λ j. (e == j) && nat_lt 0 n) same ∙ is in
        let more : IsPrefix (Octet e b ∷ octets_of e (octets_in_front (n - 1) e o)) (Octet k c ∷ part) = rw is at h in
        let m : Octet e b ∷ (octets_of e (octets_in_front (n - 1) e o) ++ more.0) ≡ Octet k c ∷ part = more.1 in
        let behind : octets_of e (octets_in_front (n - 1) e o) ++ more.0 ≡ part = cc in
        let later : octets_in_front (n - 1) e part ≡ octets_in_front (n - 1) e o = ih part (more.0, behind) (p.0, rest) in
        rw (here, is) (λ i. octet i ∷ later i)

none_in_front : (cut : ℕ) (i : What) → HasSize cut i → IsPrefix (passes i) [] → ⊥
none_in_front cut (item.Dial e) size h = (let q : _ ∷ ([] ++ h.0) ≡ [] = h.1 in cc)
none_in_front cut (item.Piece e []) size h = (let k = size.0 in omega (arith, k))
none_in_front cut (item.Piece e (b ∷ octets)) size h = (let q : Octet e b ∷ (octets_of e octets ++ h.0) ≡ [] = h.1 in cc)
none_in_front cut (item.Mark e s) size h = (let q : _ ∷ ([] ++ h.0) ≡ [] = h.1 in cc)
none_in_front cut (item.Shut e) size h = (let q : _ ∷ ([] ++ h.0) ≡ [] = h.1 in cc)

pub next_same : (cut : ℕ) (o part : List (Passing Message)) (i : What) → HasSize cut i → next_item cut o ≡ Some i → IsPrefix (passes i) part → IsPrefix part o → next_item cut part ≡ Some i
next_same cut [] part i size is h p = absurd cc
next_same cut (x ∷ o) [] i size is h p = absurd (none_in_front cut i size h)
next_same cut (Control x ∷ o) (Control y ∷ part) i size is h p =
    let q : Control y ∷ (part ++ p.0) ≡ Control x ∷ o = p.1 in
    let same : y ≡ x = cc in ap item_of same ∙ is
next_same cut (Control x ∷ o) (Octet f b ∷ part) i size is h p = (let k : Octet f b ∷ (part ++ p.0) ≡ Control x ∷ o = p.1 in absurd cc)
next_same cut (Octet e b ∷ o) (Control y ∷ part) i size is h p = (let k : Control y ∷ (part ++ p.0) ≡ Octet e b ∷ o = p.1 in absurd cc)
next_same cut (Octet e b ∷ o) (Octet k c ∷ part) i size is h p =
    let q : Octet k c ∷ (part ++ p.0) ≡ Octet e b ∷ o = p.1 in
    let same : k ≡ e = cc in
    let piece : item.Piece e (octets_in_front cut e (Octet e b ∷ o)) ≡ i = cc in
    let front : octets_in_front cut e (Octet k c ∷ part) ≡ octets_in_front cut e (Octet e b ∷ o) = front_same cut e (Octet e b ∷ o) (Octet k c ∷ part) (subst (λ j. IsPrefix (passes j) (Octet k c ∷ part)) (sym piece) h) p in
    (λ j. Some (item.Piece (same j) (octets_in_front cut (same j) (Octet k c ∷ part)))) ∙ ap (λ octets. Some (item.Piece e octets)) front ∙ ap (λ j. Some j) piece

-- ---- what waits

waits_less : (n : ℕ) (o : List (Passing Message)) → octets_waiting (drop n o) ≤ octets_waiting o
waits_less zero o = omega arith
waits_less (suc n) [] = omega arith
waits_less (suc n) (Octet e b ∷ o) = (let ih = waits_less n o in omega (arith, ih))
waits_less (suc n) (Control x ∷ o) = waits_less n o

module _ (appends : StepsAppendWhatTheySay) (g : Setting) (u : ℕ) where
  abbrev pub IsFine : Logged → RouterEvent → Type 0
  IsFine x e = IsChosen g u x.router e × HasRoom g u x.router

  -- an event that puts nothing in a direction only appends there
  grows : (v : ℕ) (e : RouterEvent) (x y : Router) → put_towards v e ≡ [] → Step g u x e y → IsPrefix (x.sides v).outbox (y.sides v).outbox
  grows v e x y none did = (passing (written (x.sides v).width) (says g u x e v), sym (appends g u v x y e did) ∙ ap (λ is. all_passes is ++ (y.sides v).outbox) none)

  not_there : (b : Bool) (j : What) → (if b then j ∷ [] else []) ≡ [] → b ≡ false
  not_there true j h = absurd cc
  not_there false j h = refl

  module _ (v : ℕ) (i : What) (old put : Logged) (did : LoggedStep g u old (puts v i) put) where
    put_outbox : (w : ℕ) → (put.router.sides w).outbox ≡ cond (w == v) (drop (length (passes i)) (old.router.sides w).outbox) (old.router.sides w).outbox
    put_outbox w = ap (λ (r : Router). (r.sides w).outbox) did.step.leaves ∙ at (w == v)
      where
        at : (b : Bool) → (cond b (record (old.router.sides w) { outbox = drop (length (passes i)) (old.router.sides w).outbox }) (old.router.sides w)).outbox
            ≡ cond b (drop (length (passes i)) (old.router.sides w).outbox) (old.router.sides w).outbox
        at true = refl
        at false = refl

    room_after : HasRoom g u old.router → HasRoom g u put.router
    room_after room w = subst (λ o. octets_waiting o < OUTBOX_LIMIT) (sym (put_outbox w)) (at (w == v))
      where
        at : (b : Bool) → octets_waiting (cond b (drop (length (passes i)) (old.router.sides w).outbox) (old.router.sides w).outbox) < OUTBOX_LIMIT
        at true = (let a = waits_less (length (passes i)) (old.router.sides w).outbox in let r = room w in omega (arith, a, r))
        at false = room w

    chosen_after : (e : RouterEvent) → put_towards v e ≡ [] → IsChosen g u old.router e → IsChosen g u put.router e
    chosen_after (alone (Obeys c)) none is = tt
    chosen_after (alone Ticks) none is = tt
    chosen_after (alone (Handles w)) none is = tt
    chosen_after (alone Decides) none is = tt
    chosen_after (alone (Advertises w)) none is =
        subst (λ (r : Router). find (is_waiting_peer g u r) (peers g.net u) ≡ Some w) (sym (only_one g u v i old put did).router) is
    chosen_after (puts w j) none is =
        let apart : (w == v) ≡ false = not_there (w == v) j none in
        let same : (put.router.sides w).outbox ≡ (old.router.sides w).outbox = put_outbox w ∙ rw apart refl in
        ap (next_item g.net.settings.cut) same ∙ is
    chosen_after (takes w j) none is = tt
    chosen_after (offers made) none is = tt

  pub survives : Survives (logged_steps g) u IsFine
  survives v i e old done both put none did fine after fine_after putting = (
    (next_same g.net.settings.cut (done.router.sides v).outbox (old.router.sides v).outbox i putting.step.may.1 fine_after.0 putting.step.may.2 (grows v e old.router done.router none did.step), fine.1),
    (chosen_after v i old put putting e none fine.0, room_after v i old put putting fine.1),
  )
