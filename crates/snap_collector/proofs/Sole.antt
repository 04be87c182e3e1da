-- The only part of a router.
use Rattle.std.proofs.Common.{ℕ, suc, ◌≡◌, ◌<◌, ◌+◌, ◌-◌, ◌==◌, arith, take, length-drop, Bool, true, false, ◌&&◌, ◌||◌, not, cond, List, [], ◌∷◌, drop, get_or, length, refl, ap, sym, ◌∙◌, drop-cons, add-one}
use Rattle.std.specs.Prelude.{Option, None, Some}
use Rattle.std.specs.List.{find}
use Rattle.std.specs.Option.{option_map}
use Rattle.std.proofs.lemmas.Bool.{false≢true, true≢false}
use Rattle.std.proofs.lemmas.List.{take_all}
use Rattle.snap_marker.specs.declared.part.Offer.{Offer}
use Rattle.snap_marker.specs.declared.part.Offer.TheVariants as offer
use Rattle.snap_marker.specs.declared.part.Part.{Part}
use Rattle.snap_marker.specs.Parts.{part_of, is_empty}
use Rattle.snap_marker.specs.Recordings.{MadeOffer, RouterPart}
use Rattle.run_model.specs.Offers.{Pending, InFlight, Mismatch}
use Rattle.snap_collector.specs.Collecting.{made_in}
use Rattle.snap_collector.specs.Verdicts.{Member, has_part, of_part, in_flight, mismatch, or_else, fault_at}

split_at : (os : List Offer) (at : ℕ) (o : Offer) → at < length os → o ≡ get_or os at o → drop at os ≡ o ∷ drop (at + 1) os
split_at os at o l is = drop-cons os at o l ∙ ap (λ (x : Offer). x ∷ drop (suc at) os) (sym is) ∙ ap (λ n. o ∷ drop n os) (sym (add-one at))

pub rest_is : (os : List Offer) (k : ℕ) → take (length os - k) (drop k os) ≡ drop k os
rest_is os k = let long = length-drop k os in take_all (length os - k) (drop k os) (omega (arith, long))

-- ---- an offer that is no part of the router

past : (b c : Bool) → b ≡ false → (b && c) ≡ false
past true c h = absurd (true≢false h)
past false c h = refl

never : (b : Bool) → (b && false) ≡ false
never true = refl
never false = refl

-- ---- the only one

left : (b c : Bool) → (b || c) ≡ false → b ≡ false
left true c h = absurd (true≢false h)
left false c h = refl

right : (b c : Bool) → (b || c) ≡ false → c ≡ false
right true c h = absurd (true≢false h)
right false c h = h

none_by : (b : Bool) (m : MadeOffer) (rest any : Bool) (holds : RouterPart → Bool) → ((b && of_part (λ part. true) m.offer) || any) ≡ false → rest ≡ false → ((b && of_part holds m.offer) || rest) ≡ false
none_by b m rest any holds h e = grind arith

none_holds : (ms : List MadeOffer) (u : ℕ) (holds : RouterPart → Bool) → has_part ms u (λ part. true) ≡ false → has_part ms u holds ≡ false
none_holds [] u holds h = refl
none_holds (m ∷ ms) u holds h =
    none_by (u == m.router) m (has_part ms u holds) (has_part ms u (λ part. true)) holds h
    (none_holds ms u holds (right ((u == m.router) && of_part (λ part. true) m.offer) (has_part ms u (λ part. true)) h))

here : (b c d : Bool) → b ≡ true → d ≡ false → ((b && c) || d) ≡ c
here true true d e h = refl
here true false d e h = h
here false c d e h = absurd (false≢true e)

pub only_part : (os : List Offer) (at u : ℕ) (p : Part) (holds : RouterPart → Bool) → at < length os → offer.Part p ≡ get_or os at (offer.Part p) → (u == p.router) ≡ true
    → has_part (made_in (drop (at + 1) os)) u (λ part. true) ≡ false → has_part (made_in (drop at os)) u holds ≡ holds (part_of p)
only_part os at u p holds l is h none =
    ap (λ (l : List Offer). has_part (made_in l) u holds) (split_at os at (offer.Part p) l is)
    ∙ here (u == p.router) (holds (part_of p)) (has_part (made_in (drop (at + 1) os)) u holds) h (none_holds (made_in (drop (at + 1) os)) u holds none)

-- ---- its first fault

find_by : (b c : Bool) (v : ℕ) (x y : Option ℕ) → b ≡ c → x ≡ y → cond b (Some v) x ≡ cond c (Some v) y
find_by true true v x y e h = refl
find_by true false v x y e h = absurd (true≢false e)
find_by false true v x y e h = absurd (false≢true e)
find_by false false v x y e h = h

find_same : (p q : ℕ → Bool) → ((v : ℕ) → p v ≡ q v) → (vs : List ℕ) → find p vs ≡ find q vs
find_same p q same [] = refl
find_same p q same (v ∷ vs) = find_by (p v) (q v) v (find p vs) (find q vs) (same v) (find_same p q same vs)

-- by its only part
pub fault_is : (ms : List MadeOffer) (m : Member) (part : RouterPart) → ((holds : RouterPart → Bool) → has_part ms m.router holds ≡ holds part)
    → fault_at ms m ≡ cond part.pending (Some Pending) (or_else (option_map InFlight (find (λ v. not (is_empty (part.channel v))) m.peers))
    (option_map Mismatch (find (λ v. has_part ms v (λ other. not (part.incarnation v == other.incarnation m.router))) m.peers)))
fault_is ms m part sole =
    let flights : find (in_flight ms m.router) m.peers ≡ find (λ v. not (is_empty (part.channel v))) m.peers =
    find_same (in_flight ms m.router) (λ v. not (is_empty (part.channel v))) (λ v. sole (λ p. not (is_empty (p.channel v)))) m.peers in
    let others : find (mismatch ms m.router) m.peers ≡ find (λ v. has_part ms v (λ other. not (part.incarnation v == other.incarnation m.router))) m.peers =
    find_same (mismatch ms m.router) (λ v. has_part ms v (λ other. not (part.incarnation v == other.incarnation m.router)))
    (λ v. sole (λ p. has_part ms v (λ other. not (p.incarnation v == other.incarnation m.router)))) m.peers in
    ap (λ b. cond b (Some Pending) (or_else (option_map InFlight (find (in_flight ms m.router) m.peers)) (option_map Mismatch (find (mismatch ms m.router) m.peers)))) (sole (λ p. p.pending))
    ∙ ap (λ o. cond part.pending (Some Pending) (or_else (option_map InFlight o) (option_map Mismatch (find (mismatch ms m.router) m.peers)))) flights
    ∙ ap (λ o. cond part.pending (Some Pending) (or_else (option_map InFlight (find (λ v. not (is_empty (part.channel v))) m.peers)) (option_map Mismatch o))) others

-- where it isn't pending and no channel of it holds anything
pub fault_from : (ms : List MadeOffer) (m : Member) (part : RouterPart) → ((holds : RouterPart → Bool) → has_part ms m.router holds ≡ holds part) → (peers : List ℕ) → peers ≡ m.peers → (n : Option ℕ)
    → part.pending ≡ false → None ≡ find (λ v. not (is_empty (part.channel v))) peers → n ≡ find (λ v. has_part ms v (λ other. not (part.incarnation v == other.incarnation m.router))) peers
    → option_map Mismatch n ≡ fault_at ms m
fault_from ms m part sole peers same n calm none is =
    let flights = λ (vs : List ℕ). find (λ v. not (is_empty (part.channel v))) vs in
    let others = λ (vs : List ℕ). find (λ v. has_part ms v (λ other. not (part.incarnation v == other.incarnation m.router))) vs in
    ap (λ (o : Option ℕ). option_map Mismatch o) (is ∙ ap others same)
    ∙ sym (fault_is ms m part sole
    ∙ ap (λ b. cond b (Some Pending) (or_else (option_map InFlight (flights m.peers)) (option_map Mismatch (others m.peers)))) calm
    ∙ ap (λ (o : Option ℕ). or_else (option_map InFlight o) (option_map Mismatch (others m.peers))) (sym (none ∙ ap flights same)))
