-- Facts of a run's state, for one router's next event.
use Rattle.std.proofs.Common.{◌≡◌, ℕ, suc, ◌==◌, ◌<◌, ◌≤◌, max, nat_lt, Bool, ◌&&◌, ◌||◌, not, cond, true, false, List, [], ◌∷◌, ◌++◌, refl, ap, sym, ◌∙◌, subst, Some, inl, inr, arith}
use mathlib.Core.List.{IsPrefix}
use Rattle.run_model.specs.Links.{Entry, Dial, Says, Mark, Shut, End, greatest_dial, has_shut, incarnation, heard_number, dialling, next_incarnation, LinkStep, opening, ends_after}
use Rattle.run_model.proofs.EntryLists.{Sound, sound-front, greatest_dial-append}
use Rattle.run_model.specs.Octets.{passing}
use Rattle.run_model.specs.Recordings.{Finishes, recorder_after}
use Rattle.run_model.specs.Routes.{Network, Routers, Event, Acts, NetworkStep, router_after, advanced, routers_after, IsRunOf, reached, first_routers}
use Rattle.run_model.specs.Places.{IsCutOfLink, RecordsAt, step_of, after_own, end_inside}
use Rattle.run_model.specs.NetworkLinks.{reached_end, moves_between}
use Rattle.run_model.specs.Steps.{NetworkEndFactsHold, CopiesAreACut, CopiesAreTheState, heard_with, heard_in, LinkEndsKeepEnough, MarkersAreObeyed, CopiesAreMarked}
use Rattle.run_model.specs.Offers.{IsIn}
use Rattle.run_model.proofs.MarkerFacts.{is_mark, has_mark}
use Rattle.run_model.proofs.RecordingRuns.{holds_start}
use Rattle.run_model.proofs.LinkFacts.{EndFacts}
use Rattle.run_model.proofs.IncarnationRuns.{all_facts}
use Rattle.run_model.proofs.NetworkLinkRuns.{network_runs_are_link_runs}
use Rattle.run_model.proofs.SettledFacts.{some_same, facts_run}
use Rattle.run_model.proofs.PlaceFacts.{records_its_state}
use Rattle.run_model.proofs.CutPlaces.{recorded_at_one_place}
use Rattle.run_model.proofs.WholeCut.{recordings_make_a_cut}
use Rattle.run_model.proofs.OctetCut.{taken_octets_are_inside, copy_marked}
use Rattle.std.proofs.lemmas.Bool.Decides.{nat_tests}

module _ {M P W : Type 0} where
  pub facts_of : NetworkEndFactsHold M P W
  facts_of g ts r u v apart =
      let f = network_runs_are_link_runs g ts r u v apart in
      let moves : List (LinkStep M) = moves_between g (first_routers g) u v ts in
      subst (λ (b : End M). EndFacts (reached_end g ts u v) b) f.2
      (subst (λ (a : End M). EndFacts a (ends_after opening moves v u)) f.1 (all_facts moves f.0 u v apart))

  -- a cut of recordings leaves each router where it recorded
  inside_is : (g : Network M P W) (ts : List (NetworkStep M P W)) → IsRunOf g ts → (u s v : ℕ) (c : ℕ → End M) → (reached g ts u).recorder.copy s ≡ Some c
      → (n : ℕ) → ((k : ℕ) × (n ≡ suc k) × RecordsAt ts u s k) → (after_own g (first_routers g) ts u n).recorder.ends v ≡ c v
  inside_is g ts r u s v c is n cut =
      let p = recorded_at_one_place g ts r u s c is in
      ap (λ i. (after_own g (first_routers g) ts u i).recorder.ends v) (cut.1 ∙ ap (λ i. suc i) (p.2 cut.0 cut.2)) ∙ ap (λ (f : ℕ → End M). f v) p.3

  pub copies_are_a_cut : CopiesAreACut M P W
  copies_are_a_cut g net ts r s all u v channels cu cv link part is_u is_v =
      let cut = recordings_make_a_cut g net ts r s all in
      let inside : ℕ → ℕ = cut.0 in
      let ru = net.known v u (net.both u v link) in
      let rv = net.known u v link in
      let at_u : end_inside g ts inside u v ≡ cu v = inside_is g ts r u s v cu is_u (inside u) (cut.1 u ru) in
      let at_v : end_inside g ts inside v u ≡ cv u = inside_is g ts r v s u cv is_v (inside v) (cut.1 v rv) in
      let law = cut.2 u v channels link part in (
        subst (λ (b : End M). IsCutOfLink g (cu v) b (channels v)) at_v (subst (λ (a : End M). IsCutOfLink g a (end_inside g ts inside v u) (channels v)) at_u law),
        λ written held only none is.
            subst (λ (b : End M). IsPrefix (passing written (cu v).taken ++ held) (passing written b.appended)) at_v
            (subst (λ (a : End M). IsPrefix (passing written a.taken ++ held) (passing written (end_inside g ts inside v u).appended)) at_u
            (taken_octets_are_inside g net ts r s all inside cut.1 written u v link held only
            (λ e. none (sym (ap (λ (i : End M). i.taken) at_u) ∙ (e ∙ ap (λ (i : End M). i.appended) at_v)))
            (subst (λ (a : End M). IsPrefix (passing written a.taken ++ held) (passing written ((reached g ts v).recorder.ends u).appended)) (sym at_u) is))),
      )

  after_more : (g : Network M P W) (xs ys : List (NetworkStep M P W)) (w : Routers M P W) → routers_after g w (xs ++ ys) ≡ routers_after g (routers_after g w xs) ys
  after_more g [] ys w = refl
  after_more g (x ∷ xs) ys w = after_more g xs ys (advanced g w x)

  here : (g : Network M P W) (w : Routers M P W) (u : ℕ) (e : Event M P W) → advanced g w (record { router = u; event = e }) u ≡ router_after g u (w u) e
  here g w u e = let hit : (u == u) ≡ true = grind (arith, nat_tests) in rw hit refl

  pub copies_are_the_state : CopiesAreTheState M P W
  copies_are_the_state g before behind later u s act c r is shape copy =
      let stands = records_its_state g before (behind ++ later) u s act r is in
      let w : Routers M P W = reached g before in
      let x = (w u).recorder in
      let same : (recorder_after x act).ends ≡ c = some_same (recorder_after x act).ends c ((reached g (before ++ step_of u act ∷ (behind ++ later)) u).recorder.copy s) stands.0 copy in
      let one : advanced g w (step_of u act) u ≡ router_after g u (w u) (Acts act) = here g w u (Acts act) in
      elim shape [
        | inl none ↦ (
            let at : reached g (before ++ step_of u act ∷ behind) u ≡ router_after g u (w u) (Acts act) =
            ap (λ (f : Routers M P W). f u) (after_more g before (step_of u act ∷ behind) (first_routers g)) ∙ (ap (λ l. routers_after g w (step_of u act ∷ l) u) none ∙ one) in
            (ap (λ n. n.recorder.ends) at ∙ same, ap (λ n. n.kept) at ∙ sym stands.1, ap (λ n. n.originated) at ∙ sym stands.2))
        | inr more ↦ (
            let w' : Routers M P W = advanced g w (step_of u act) in
            let at : reached g (before ++ step_of u act ∷ behind) u ≡ router_after g u (router_after g u (w u) (Acts act)) (Acts (Finishes s)) =
            ap (λ (f : Routers M P W). f u) (after_more g before (step_of u act ∷ behind) (first_routers g)) ∙ (ap (λ l. routers_after g w (step_of u act ∷ l) u) more ∙ (here g w' u (Acts (Finishes s)) ∙ ap (λ n. router_after g u n (Acts (Finishes s))) one)) in
            (ap (λ n. n.recorder.ends) at ∙ same, ap (λ n. n.kept) at ∙ sym stands.1, ap (λ n. n.originated) at ∙ sym stands.2))
      ]

and_false : (b : Bool) → (b && false) ≡ false
and_false true = refl
and_false false = refl

or_true : (b : Bool) → (b || true) ≡ true
or_true true = refl
or_true false = refl

or_false : (b : Bool) → (b || false) ≡ b
or_false true = refl
or_false false = refl

module _ {M : Type 0} where
  abbrev SaysSo : ℕ → Bool → List (Entry M) → Type 0
  SaysSo hi b xs =
      ((heard_in (record { number = hi; shut = b }) xs).number ≡ max hi (greatest_dial xs))
      × ((heard_in (record { number = hi; shut = b }) xs).shut ≡ (has_shut (max hi (greatest_dial xs)) xs || (b && (max hi (greatest_dial xs) == hi))))

  dial_so : (e : ℕ) (xs : List (Entry M)) (hi : ℕ) (b t : Bool) → ((h : ℕ) (c : Bool) → Sound h xs → SaysSo h c xs) → nat_lt hi e ≡ t → Sound (max hi e) xs → SaysSo hi b (Dial e ∷ xs)
  dial_so e xs hi b true so is s =
      let above : hi < e = grind (arith, nat_tests, is) in
      let top : max hi e ≡ e = omega (arith, above) in
      let ih = so e false (subst (λ h. Sound h xs) top s) in
      let n : max hi (max e (greatest_dial xs)) ≡ max e (greatest_dial xs) = omega (arith, above) in
      let ne : (max e (greatest_dial xs) == hi) ≡ false = grind (arith, nat_tests, above) in
      let w : heard_with {M = M} (record { number = hi; shut = b }) (Dial e) ≡ record { number = e; shut = false } = ap (λ t. cond t (record { number = e; shut = false }) (record { number = hi; shut = b })) is in
      let all : (heard_in (record { number = e; shut = false }) xs).shut ≡ (has_shut (max hi (max e (greatest_dial xs))) xs || (b && (max hi (max e (greatest_dial xs)) == hi))) = rw (n, ne, and_false b) ih.1 in
      (ap (λ h. (heard_in h xs).number) w ∙ (ih.0 ∙ sym n), ap (λ h. (heard_in h xs).shut) w ∙ all)
  dial_so e xs hi b false so is s =
      let below : e ≤ hi = grind (arith, nat_tests, is) in
      let top : max hi e ≡ hi = omega (arith, below) in
      let ih = so hi b (subst (λ h. Sound h xs) top s) in
      let n : max hi (max e (greatest_dial xs)) ≡ max hi (greatest_dial xs) = omega (arith, below) in
      let w : heard_with {M = M} (record { number = hi; shut = b }) (Dial e) ≡ record { number = hi; shut = b } = ap (λ t. cond t (record { number = e; shut = false }) (record { number = hi; shut = b })) is in
      let all : (heard_in (record { number = hi; shut = b }) xs).shut ≡ (has_shut (max hi (max e (greatest_dial xs))) xs || (b && (max hi (max e (greatest_dial xs)) == hi))) = rw n ih.1 in
      (ap (λ h. (heard_in h xs).number) w ∙ (ih.0 ∙ sym n), ap (λ h. (heard_in h xs).shut) w ∙ all)

  shut_so : (e : ℕ) (xs : List (Entry M)) (hi : ℕ) (b t : Bool) → ((h : ℕ) (c : Bool) → Sound h xs → SaysSo h c xs) → (max hi (greatest_dial xs) == hi) ≡ t → e ≡ hi → Sound hi xs → SaysSo hi b (Shut e ∷ xs)
  shut_so e xs hi b true so is same s =
      let ih = so hi true s in
      let hit : (e == hi) ≡ true = grind (arith, nat_tests, same) in
      let n : ℕ = max hi (greatest_dial xs) in
      let own : (n == e) ≡ true = ap (λ i. n == i) same ∙ is in
      let w : heard_with {M = M} (record { number = hi; shut = b }) (Shut e) ≡ record { number = hi; shut = true } = ap (λ t. cond t (record { number = hi; shut = true }) (record { number = hi; shut = b })) hit in
      let left : (has_shut n xs || (true && (n == hi))) ≡ true = ap (λ i. has_shut n xs || i) is ∙ or_true (has_shut n xs) in
      let right : (cond (n == e) true (has_shut n xs) || (b && (n == hi))) ≡ true = ap (λ i. cond i true (has_shut n xs) || (b && (n == hi))) own in
      (ap (λ h. (heard_in h xs).number) w ∙ ih.0, ap (λ h. (heard_in h xs).shut) w ∙ (ih.1 ∙ (left ∙ sym right)))
  shut_so e xs hi b false so is same s =
      let ih = so hi true s in
      let hit : (e == hi) ≡ true = grind (arith, nat_tests, same) in
      let n : ℕ = max hi (greatest_dial xs) in
      let own : (n == e) ≡ false = ap (λ i. n == i) same ∙ is in
      let w : heard_with {M = M} (record { number = hi; shut = b }) (Shut e) ≡ record { number = hi; shut = true } = ap (λ t. cond t (record { number = hi; shut = true }) (record { number = hi; shut = b })) hit in
      let left : (has_shut n xs || (true && (n == hi))) ≡ (has_shut n xs || false) = ap (λ i. has_shut n xs || i) is in
      let right : (cond (n == e) true (has_shut n xs) || (b && (n == hi))) ≡ (has_shut n xs || false) = ap (λ i. cond i true (has_shut n xs) || (b && (n == hi))) own ∙ ap (λ i. has_shut n xs || i) (ap (λ i. b && i) is ∙ and_false b) in
      (ap (λ h. (heard_in h xs).number) w ∙ ih.0, ap (λ h. (heard_in h xs).shut) w ∙ (ih.1 ∙ (left ∙ sym right)))

  heard_so : (xs : List (Entry M)) (hi : ℕ) (b : Bool) → Sound hi xs → SaysSo hi b xs
  heard_so [] hi b s =
      let n : max hi 0 ≡ hi = omega arith in
      let eq : (hi == hi) ≡ true = grind (arith, nat_tests) in
      (sym n, rw (n, eq) (last b))
    where
      last : (c : Bool) → c ≡ (c && true)
      last true = refl
      last false = refl
  heard_so (Dial e ∷ xs) hi b s = dial_so e xs hi b (nat_lt hi e) (λ h c. heard_so xs h c) refl s
  heard_so (Says e m ∷ xs) hi b s = heard_so xs hi b s.1
  heard_so (Mark e k ∷ xs) hi b s = heard_so xs hi b s.1
  heard_so (Shut e ∷ xs) hi b s = shut_so e xs hi b (max hi (greatest_dial xs) == hi) (λ h c. heard_so xs h c) refl s.0 s.1

  dial_number : (a : End M) → incarnation (dialling a) ≡ next_incarnation a
  dial_number a =
      let grown : incarnation (dialling a) ≡ max (incarnation a) (max (next_incarnation a) 0) = greatest_dial-append a.appended (Dial (next_incarnation a) ∷ []) in
      let above : incarnation a < next_incarnation a = at (nat_lt (incarnation a) (heard_number a)) (not (has_shut (heard_number a) a.taken)) refl refl in
      omega (arith, grown, above)
    where
      at : (b c : Bool) → nat_lt (incarnation a) (heard_number a) ≡ b → not (has_shut (heard_number a) a.taken) ≡ c → incarnation a < next_incarnation a
      at true true hb hc = let above : incarnation a < heard_number a = grind (arith, nat_tests, hb) in rw (hb, hc) above
      at true false hb hc = rw (hb, hc) (omega arith)
      at false c hb hc = rw hb (omega arith)

module _ {M P W : Type 0} where
  pub link_ends_keep_enough : LinkEndsKeepEnough M P W
  link_ends_keep_enough g ts r u v apart =
      let mine = facts_of g ts r u v apart in
      let theirs = facts_of g ts r v u (λ e. apart (sym e)) in
      let a : End M = reached_end g ts u v in
      let sound : Sound 0 a.taken = sound-front 0 a.taken mine.front.0 (subst (Sound 0) (sym mine.front.1) theirs.sound) in
      let h = heard_so a.taken 0 false sound in
      let low : max 0 (greatest_dial a.taken) ≡ greatest_dial a.taken = omega arith in
      (h.0 ∙ low, h.1 ∙ (or_false (has_shut (max 0 (greatest_dial a.taken)) a.taken) ∙ ap (λ i. has_shut i a.taken) low), dial_number a)

-- ---- markers that were taken

found_later : (b : Bool) (h : Bool) → h ≡ true → cond b true h ≡ true
found_later true h e = refl
found_later false h e = e

module _ {M : Type 0} where
  is_here : (x : Entry M) (n s : ℕ) → Mark n s ≡ x → is_mark n s x ≡ true
  is_here x n s same =
      let a : (n == n) ≡ true = grind (arith, nat_tests) in
      let b : (s == s) ≡ true = grind (arith, nat_tests) in
      subst (λ (y : Entry M). is_mark n s y ≡ true) same (rw (a, b) refl)

  in_last : (x : Entry M) (xs : List (Entry M)) → IsIn x (xs ++ x ∷ [])
  in_last x [] = inl refl
  in_last x (y ∷ xs) = inr (in_last x xs)

  has_one : (n s : ℕ) (xs : List (Entry M)) → IsIn (Mark n s) xs → has_mark n s xs ≡ true
  has_one n s [] h = absurd h
  has_one n s (x ∷ xs) (inl now) = rw (is_here x n s now) refl
  has_one n s (x ∷ xs) (inr later) = found_later (is_mark n s x) (has_mark n s xs) (has_one n s xs later)

module _ {M P W : Type 0} where
  pub markers_are_obeyed : MarkersAreObeyed M P W
  markers_are_obeyed g ts r u v apart joined s h =
      ((facts_run g ts (first_routers g) (holds_start g.linked) r).locals u v apart).obeyed s joined (has_one (incarnation (reached_end g ts u v)) s (reached_end g ts u v).taken h)

  pub copies_are_marked : CopiesAreMarked M P W
  copies_are_marked g ts r u s v c is up =
      let m = copy_marked g ts r u s v c is up in
      let same : m.1 ≡ incarnation (c v) = (let a = m.3 in let b = greatest_dial-append m.0 (Mark m.1 s ∷ []) in let d = ap greatest_dial m.2 in omega (arith, a, b, d)) in
      subst (λ e. IsIn (Mark e s) (c v).appended) same (subst (IsIn (Mark m.1 s)) (sym m.2) (in_last (Mark m.1 s) m.0))
