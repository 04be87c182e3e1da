-- What is printed of a snapshot that is settled or moving is what every router recorded.
use Rattle.std.proofs.Common.{◌≡◌, ℕ, ◌==◌, Bool, true, false, ◌&&◌, cond, List, [], ◌∷◌, ◌++◌, map, filter, Option, Some, None, refl, sym, ap, subst, ◌∙◌, inl, inr, append_assoc}
use Rattle.std.specs.Prelude.{◌||◌}
use Rattle.std.specs.List.{list_any}
use Rattle.std.proofs.lemmas.Bool.{eqb-true, and_parts}
use Rattle.std.proofs.lemmas.List.{append-nil}
use Rattle.ranked_policy.specs.Plans.{numbers}
use Rattle.run_model.specs.Offers.{Finished, Lost, Why, Outcome, IsIn, made_of}
use Rattle.snap_marker.specs.Recordings.{RouterOffer, RouterPart, MadeOffer}
use Rattle.snap_collector.specs.Verdicts.{Member, has_part, of_part, all_parts, first_fault, decides, whole_or_waiting, abandoned_by, abandoned_or}
use Rattle.snap_collector.specs.Collector.{kept_behind, is_for}
use Rattle.snap_collector.specs.Flights.{part_or, is_whole}
use Rattle.router_model.specs.Settings.{Setting, is_router, peers}
use Rattle.router_runs.specs.Runs.{RunState}
use Rattle.router_runs.specs.Snapshots.{HaveMade}
use Rattle.world_core.specs.Verdicts.{members_of}
use Rattle.schedule_text.specs.Routes.{deciding, outcome, recorded}

-- ---- it has a part of every router

not_lost : (u : ℕ) (o : RouterOffer) (rest other : Outcome) → is_whole (abandoned_by u o rest) ≡ true → (is_whole rest ≡ true → is_whole other ≡ true) → is_whole other ≡ true
not_lost u (Finished s part) rest other h go = go h
not_lost u (Lost s v e cause) rest other h go = absurd cc

no_loss : (ms : List MadeOffer) (other : Outcome) → is_whole (abandoned_or ms other) ≡ true → is_whole other ≡ true
no_loss [] other h = h
no_loss (m ∷ ms) other h = not_lost m.router m.offer (abandoned_or ms other) other h (no_loss ms other)

all_have : (b : Bool) (fault : Option (ℕ × Why)) → is_whole (whole_or_waiting b fault) ≡ true → b ≡ true
all_have true fault h = refl
all_have false fault h = absurd cc

part_at : (u n : ℕ) (ms : List MadeOffer) (b c : Bool) → (u == n) ≡ b → has_part ms n (λ part. true) ≡ true → (b || c) ≡ true → (c ≡ true → has_part ms u (λ part. true) ≡ true) → has_part ms u (λ part. true) ≡ true
part_at u n ms true c is here h go = subst (λ k. has_part ms k (λ part. true) ≡ true) (sym (eqb-true u n is)) here
part_at u n ms false c is here h go = go h

part_of_each : (ns : List ℕ) (with_peers : ℕ → List ℕ) (ms : List MadeOffer) (u : ℕ) → all_parts (map (λ n. record { router = n; peers = with_peers n }) ns) ms ≡ true
    → list_any (λ n. u == n) ns ≡ true → has_part ms u (λ part. true) ≡ true
part_of_each [] with_peers ms u h i = absurd cc
part_of_each (n ∷ ns) with_peers ms u h i =
    let both = and_parts (has_part ms n (λ part. true)) (all_parts (map (λ n. record { router = n; peers = with_peers n }) ns) ms) h in
    part_at u n ms (u == n) (list_any (λ n. u == n) ns) refl both.0 i (part_of_each ns with_peers ms u both.1)

-- ---- and that is what is printed of it

some_at : (u : ℕ) (o : RouterOffer) (ms : List MadeOffer) (b : Bool) → ((b && of_part (λ part. true) o) || has_part ms u (λ part. true)) ≡ true
    → (has_part ms u (λ part. true) ≡ true → (p : RouterPart) × (recorded ms u ≡ Some p)) → (p : RouterPart) × (cond b (part_or o (recorded ms u)) (recorded ms u) ≡ Some p)
some_at u (Finished s p) ms true h go = (p, refl)
some_at u (Lost s v e cause) ms true h go = go h
some_at u o ms false h go = go h

is_recorded : (ms : List MadeOffer) (u : ℕ) → has_part ms u (λ part. true) ≡ true → (p : RouterPart) × (recorded ms u ≡ Some p)
is_recorded [] u h = absurd cc
is_recorded (m ∷ ms) u h = some_at u m.offer ms (u == m.router) h (is_recorded ms u)

abbrev pub nothing_recorded : RouterPart
nothing_recorded = record { kept = λ q. []; originated = λ q. false; incarnation = λ v. 0; pending = false; channel = λ v. [] }

abbrev pub the_part : Option RouterPart → RouterPart
the_part None = nothing_recorded
the_part (Some p) = p

the_same : (o : Option RouterPart) (p : RouterPart) → o ≡ Some p → o ≡ Some (the_part o)
the_same None p h = absurd cc
the_same (Some q) p h = refl

-- ---- which is a part that it made

in_at : (u r : ℕ) (o : RouterOffer) (p : RouterPart) (ms : List MadeOffer) (b : Bool) → (u == r) ≡ b → cond b (part_or o (recorded ms u)) (recorded ms u) ≡ Some p
    → (recorded ms u ≡ Some p → (s : ℕ) × IsIn (made_of u (Finished s p)) ms) → (s : ℕ) × IsIn (made_of u (Finished s p)) (made_of r o ∷ ms)
in_at u r (Finished s q) p ms true is h go =
    let same : q ≡ p = cc in
    (s, inl (ap (λ (n : ℕ). made_of n (Finished s p)) (eqb-true u r is) ∙ ap (λ (k : RouterPart). made_of r (Finished s k)) (sym same)))
in_at u r (Lost s v e cause) p ms true is h go = (let k = go h in (k.0, inr k.1))
in_at u r o p ms false is h go = (let k = go h in (k.0, inr k.1))

is_made : (ms : List MadeOffer) (u : ℕ) (p : RouterPart) → recorded ms u ≡ Some p → (s : ℕ) × IsIn (made_of u (Finished s p)) ms
is_made [] u p h = absurd cc
is_made (m ∷ ms) u p h = in_at u m.router m.offer p ms (u == m.router) refl h (is_made ms u p)

in_front : (x : MadeOffer) (xs ys : List MadeOffer) → IsIn x xs → IsIn x (xs ++ ys)
in_front x [] ys h = absurd h
in_front x (y ∷ xs) ys h = elim h [ inl e ↦ inl e | inr i ↦ inr (in_front x xs ys i) ]

kept_by : (members : List Member) (front : List MadeOffer) (m : MadeOffer) (ms : List MadeOffer) (x : MadeOffer) (b : Bool)
    → (IsIn x (kept_behind members (front ++ m ∷ []) ms) → IsIn x ((front ++ m ∷ []) ++ ms)) → IsIn x (cond b front (kept_behind members (front ++ m ∷ []) ms)) → IsIn x (front ++ m ∷ ms)
kept_by members front m ms x true go h = in_front x front (m ∷ ms) h
kept_by members front m ms x false go h = subst (IsIn x) (append_assoc front (m ∷ []) ms) (go h)

in_all : (members : List Member) (front ms : List MadeOffer) (x : MadeOffer) → IsIn x (kept_behind members front ms) → IsIn x (front ++ ms)
in_all members front [] x h = subst (IsIn x) (sym (append-nil front)) h
in_all members front (m ∷ ms) x h = kept_by members front m ms x (decides members front) (in_all members (front ++ m ∷ []) ms x) h

for_by : (s : ℕ) (m : MadeOffer) (ms : List MadeOffer) (x : MadeOffer) (b : Bool) → is_for s m ≡ b → (IsIn x (filter (is_for s) ms) → IsIn x ms × (is_for s x ≡ true))
    → IsIn x (cond b (m ∷ filter (is_for s) ms) (filter (is_for s) ms)) → IsIn x (m ∷ ms) × (is_for s x ≡ true)
for_by s m ms x true is go h = elim h [ inl e ↦ (inl e, ap (is_for s) e ∙ is) | inr i ↦ (let k = go i in (inr k.0, k.1)) ]
for_by s m ms x false is go h = (let k = go h in (inr k.0, k.1))

in_offered : (s : ℕ) (ms : List MadeOffer) (x : MadeOffer) → IsIn x (filter (is_for s) ms) → IsIn x ms × (is_for s x ≡ true)
in_offered s [] x h = absurd h
in_offered s (m ∷ ms) x h = for_by s m ms x (is_for s m) refl (in_offered s ms x) h

-- ---- all of it

-- the offers for each number are those of all that were made
abbrev pub AreOffersOf : (ℕ → List MadeOffer) → List MadeOffer → Type 0
AreOffersOf made offered = (t : ℕ) → made t ≡ filter (is_for t) offered

-- what each router recorded by these offers
abbrev pub parts_in : List MadeOffer → ℕ → RouterPart
parts_in ms u = the_part (recorded ms u)

module _ (g : Setting) (made : ℕ → List MadeOffer) (s : ℕ) (whole : is_whole (outcome g.net made s) ≡ true) where
  abbrev parts_of : ℕ → RouterPart
  parts_of = parts_in (deciding g.net made s)

  pub printed_is : (u : ℕ) → is_router g u ≡ true → recorded (deciding g.net made s) u ≡ Some (parts_of u)
  printed_is u i =
      let ms = deciding g.net made s in
      let members = members_of g.net in
      let all = all_have (all_parts members ms) (first_fault members ms) (no_loss ms (whole_or_waiting (all_parts members ms) (first_fault members ms)) whole) in
      let p = is_recorded ms u (part_of_each (numbers g.net.routers) (peers g.net) ms u all i) in
      the_same (recorded ms u) p.0 p.1

  pub have_made : (state : RunState) → AreOffersOf made state.offered → HaveMade g state s parts_of
  have_made state of u i =
      let at = is_made (deciding g.net made s) u (parts_of u) (printed_is u i) in
      let x = made_of u (Finished at.0 (parts_of u)) in
      let all = in_all (members_of g.net) [] (made s) x at.1 in
      let k = in_offered s state.offered x (subst (IsIn x) (of s) all) in
      let number : at.0 ≡ s = eqb-true at.0 s k.1 in
      subst (λ (n : ℕ). IsIn (made_of u (Finished n (parts_of u))) state.offered) number k.0
