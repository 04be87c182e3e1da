-- Of a snapshot that is settled nothing was in flight.
use Rattle.std.proofs.Common.{ℕ, ◌≡◌, ◌==◌, Bool, true, false, ◌&&◌, ◌||◌, not, cond, List, [], ◌∷◌, ◌++◌, refl, ap, ◌∙◌}
use Rattle.std.specs.Prelude.{Option, None, Some, MatchOption}
use Rattle.std.specs.Option.{option_map}
use Rattle.std.specs.List.{find, flat_map}
use Rattle.std.proofs.lemmas.Bool.{false≢true, true≢false}
use Rattle.bgp_codec.specs.declared.message.Message.{Message}
use Rattle.run_model.specs.Offers.{Finished, Lost, Why, Pending, InFlight, Mismatch, Outcome, Waiting, Abandoned, Moving, Settled}
use Rattle.snap_marker.specs.Parts.{is_empty}
use Rattle.snap_marker.specs.Recordings.{RouterOffer, MadeOffer, RouterPart}
use Rattle.snap_collector.specs.Verdicts.{Member, of_part, has_part, all_parts, pending, in_flight, mismatch, or_else, fault_at, moving_at, first_fault, whole_or_waiting, abandoned_by, abandoned_or, verdict}
use Rattle.snap_collector.specs.Flights.{Flight, flights_from, flights_by, flights_at, part_or, part_in, is_whole, in_flight_of}

-- ---- no fault of it

abbrev is_moving : Outcome → Bool
is_moving Waiting = false
is_moving (Abandoned u v e cause) = false
is_moving (Moving u why) = true
is_moving Settled = false

abbrev is_some : {A : Type 0} → Option A → Bool
is_some None = false
is_some (Some x) = true

not_lost : (u : ℕ) (o : RouterOffer) (rest : Outcome) → abandoned_by u o rest ≡ Settled → rest ≡ Settled
not_lost u (Finished s part) rest h = h
not_lost u (Lost s v e cause) rest h = absurd (false≢true (ap is_whole h))

none_lost : (ms : List MadeOffer) (o : Outcome) → abandoned_or ms o ≡ Settled → o ≡ Settled
none_lost [] o h = h
none_lost (m ∷ ms) o h = none_lost ms o (not_lost m.router m.offer (abandoned_or ms o) h)

no_fault : (b : Bool) (fault : Option (ℕ × Why)) → whole_or_waiting b fault ≡ Settled → fault ≡ None
no_fault true None h = refl
no_fault true (Some f) h = absurd (true≢false (ap is_moving h))
no_fault false fault h = absurd (false≢true (ap is_whole h))

none_at : (u : ℕ) (o : Option Why) (rest : Option (ℕ × Why)) → moving_at u o rest ≡ None → (o ≡ None) × (rest ≡ None)
none_at u None rest h = (refl, h)
none_at u (Some why) rest h = absurd (true≢false (ap is_some h))

none_first : (found other : Option Why) → or_else found other ≡ None → found ≡ None
none_first None other h = refl
none_first (Some why) other h = absurd (true≢false (ap is_some h))

none_found : (o : Option ℕ) → option_map InFlight o ≡ None → o ≡ None
none_found None h = refl
none_found (Some v) h = absurd (true≢false (ap is_some h))

not_pending : (b : Bool) (rest : Option Why) → cond b (Some Pending) rest ≡ None → rest ≡ None
not_pending true rest h = absurd (true≢false (ap is_some h))
not_pending false rest h = h

-- ---- no channel of a part holds anything

left : (b c : Bool) → (b || c) ≡ false → b ≡ false
left true c h = absurd (true≢false h)
left false c h = refl

right : (b c : Bool) → (b || c) ≡ false → c ≡ false
right true c h = absurd (true≢false h)
right false c h = h

abbrev Fails : (RouterPart → Bool) → Option RouterPart → Type 0
Fails holds o = MatchOption o (Unit {0}) (λ part. holds part ≡ false)

fails_head : (b : Bool) (o : RouterOffer) (rest : Bool) (found : Option RouterPart) (holds : RouterPart → Bool) → ((b && of_part holds o) || rest) ≡ false → Fails holds found
    → Fails holds (cond b (part_or o found) found)
fails_head true (Finished s part) rest found holds h next = left (holds part) rest h
fails_head true (Lost s v e cause) rest found holds h next = next
fails_head false o rest found holds h next = next

fails : (ms : List MadeOffer) (u : ℕ) (holds : RouterPart → Bool) → has_part ms u holds ≡ false → Fails holds (part_in ms u)
fails [] u holds h = tt
fails (m ∷ ms) u holds h =
    fails_head (u == m.router) m.offer (has_part ms u holds) (part_in ms u) holds h (fails ms u holds (right ((u == m.router) && of_part holds m.offer) (has_part ms u holds) h))

nothing_from : (u v : ℕ) (ms : List Message) → not (is_empty ms) ≡ false → flights_from u v ms ≡ []
nothing_from u v [] h = refl
nothing_from u v (m ∷ ms) h = absurd (true≢false h)

find_head : (b : Bool) (v : ℕ) (rest : Option ℕ) → cond b (Some v) rest ≡ None → (b ≡ false) × (rest ≡ None)
find_head true v rest h = absurd (true≢false (ap is_some h))
find_head false v rest h = (refl, h)

none_of : (test : ℕ → Bool) (u : ℕ) (part : RouterPart) → ((v : ℕ) → test v ≡ false → not (is_empty (part.channel v)) ≡ false) → (peers : List ℕ) → find test peers ≡ None
    → flat_map (λ v. flights_from u v (part.channel v)) peers ≡ []
none_of test u part empty [] h = refl
none_of test u part empty (v ∷ vs) h =
    let here = find_head (test v) v (find test vs) h in
    let at : flights_from u v (part.channel v) ≡ [] = nothing_from u v (part.channel v) (empty v here.0) in
    ap (λ (l : List Flight). l ++ flat_map (λ w. flights_from u w (part.channel w)) vs) at ∙ none_of test u part empty vs here.1

none_by : (test : ℕ → Bool) (m : Member) (o : Option RouterPart) → ((v : ℕ) → test v ≡ false → Fails (λ part. not (is_empty (part.channel v))) o) → find test m.peers ≡ None → flights_by m o ≡ []
none_by test m None empty h = refl
none_by test m (Some part) empty h = none_of test m.router part empty m.peers h

none_to : (ms : List MadeOffer) (m : Member) → fault_at ms m ≡ None → flights_at ms m ≡ []
none_to ms m h =
    let quiet = none_found (find (in_flight ms m.router) m.peers) (none_first (option_map InFlight (find (in_flight ms m.router) m.peers)) (option_map Mismatch (find (mismatch ms m.router) m.peers))
    (not_pending (pending ms m.router) (or_else (option_map InFlight (find (in_flight ms m.router) m.peers)) (option_map Mismatch (find (mismatch ms m.router) m.peers))) h)) in
    none_by (in_flight ms m.router) m (part_in ms m.router) (λ v e. fails ms m.router (λ part. not (is_empty (part.channel v))) e) quiet

none_to_all : (ms : List MadeOffer) (members : List Member) → first_fault members ms ≡ None → flat_map (flights_at ms) members ≡ []
none_to_all ms [] h = refl
none_to_all ms (m ∷ rest) h =
    let here = none_at m.router (fault_at ms m) (first_fault rest ms) h in
    ap (λ (l : List Flight). l ++ flat_map (flights_at ms) rest) (none_to ms m here.0) ∙ none_to_all ms rest here.1

pub settled_has_none : (members : List Member) (ms : List MadeOffer) → verdict members ms ≡ Settled → in_flight_of members ms ≡ []
settled_has_none members ms h =
    let quiet = no_fault (all_parts members ms) (first_fault members ms) (none_lost ms (whole_or_waiting (all_parts members ms) (first_fault members ms)) h) in
    ap (λ o. cond (is_whole o) (flat_map (flights_at ms) members) []) h ∙ none_to_all ms members quiet
