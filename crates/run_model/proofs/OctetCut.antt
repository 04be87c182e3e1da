-- Octets that were taken inside a cut were appended inside.
use Rattle.std.proofs.Common.{◌≡◌, ℕ, suc, ◌==◌, Bool, true, false, cond, List, [], ◌∷◌, ◌++◌, Some, refl, ap, sym, ◌∙◌, arith, append_assoc, subst, inl, inr, ◌⊎◌}
use mathlib.Core.List.{IsPrefix}
use Rattle.run_model.specs.Links.{Entry, End, Mark, Marks, after, incarnation, is_up, taking, greatest_dial}
use Rattle.run_model.specs.Octets.{Passing, passing, OnlyOctets}
use Rattle.run_model.specs.Recordings.{Recorder, Act, Moves, EndsChannel, IgnoresMarker, Begins, Follows, Finishes, with_end, marked, recorder_after}
use Rattle.run_model.specs.Routes.{Network, NetworkStep, records, first_routers, IsNetworkRun, IsRunOf, reached}
use Rattle.run_model.specs.Places.{step_of, after_own, end_inside, TakenOctetsAreInside}
use Rattle.run_model.proofs.EntryLists.{prefix_push}
use Rattle.run_model.proofs.OctetFacts.{passing_more, octets_stay_before_mark}
use Rattle.run_model.proofs.RecordingRuns.{holds_start}
use Rattle.run_model.proofs.SettledFacts.{facts_run, some_same}
use Rattle.run_model.proofs.PlaceFacts.{records_its_state, was_recorded}
use Rattle.run_model.proofs.CutPlaces.{only_once, recorded_at_one_place}
use Rattle.std.proofs.lemmas.List.{append-nil}
use Rattle.std.proofs.lemmas.Bool.Decides.{nat_tests}

-- a beginning of a list with one more element is one of the list, or the whole
prefix_last : {A : Type 0} (xs ys : List A) (x : A) → IsPrefix xs (ys ++ x ∷ []) → IsPrefix xs ys ⊎ (xs ≡ ys ++ x ∷ [])
prefix_last [] ys x p = inl (ys, refl)
prefix_last (z ∷ []) [] x p = inr (cc (p.1))
prefix_last (z ∷ y ∷ xs) [] x p = absurd (cc (p.1))
prefix_last (z ∷ xs) (y ∷ ys) x p =
    let same : z ≡ y = cc (p.1) in
    elim (prefix_last xs ys x (p.0, cc (p.1))) [ inl q ↦ inl (q.0, cc (same, q.1)) | inr q ↦ inr (cc (same, q)) ]

module _ {M : Type 0} where
  -- what was recorded while a session was up ends with the marker
  ends_marked : (s : ℕ) (a : End M) → is_up (marked s a) ≡ true → (marked s a).appended ≡ a.appended ++ Mark (incarnation a) s ∷ []
  ends_marked s a up = at (is_up a) refl up
    where
      at : (b : Bool) → is_up a ≡ b → is_up (cond b (after a (Marks s)) a) ≡ true → (cond (is_up a) (after a (Marks s)) a).appended ≡ a.appended ++ Mark (incarnation a) s ∷ []
      at true is h = rw is refl
      at false is h = absurd (cc (is, h))

  recorded_marked : (x : Recorder M) (act : Act M) (s y : ℕ) → records act s ≡ true → (a : End M) × ((recorder_after x act).ends y ≡ marked s a)
  recorded_marked x (Begins k whole) s y is = (x.ends y, ap (λ i. marked i (x.ends y)) (number k s is))
    where
      number : (k s : ℕ) → (s == k) ≡ true → k ≡ s
      number k s h = grind (arith, nat_tests, h)
  recorded_marked x (Follows v e k whole) s y is = (with_end x.ends v (taking (x.ends v) (Mark e k)) y, ap (λ i. marked i (with_end x.ends v (taking (x.ends v) (Mark e k)) y)) (number k s is))
    where
      number : (k s : ℕ) → (s == k) ≡ true → k ≡ s
      number k s h = grind (arith, nat_tests, h)
  recorded_marked x (Moves v m) s y is = absurd (cc is)
  recorded_marked x (EndsChannel v e k) s y is = absurd (cc is)
  recorded_marked x (IgnoresMarker v e k) s y is = absurd (cc is)
  recorded_marked x (Finishes k) s y is = absurd (cc is)

  octets_inside : (written : M → List ℕ) (taken before appended now : List (Entry M)) (e s : ℕ) (held : List (Passing M)) → appended ≡ before ++ Mark e s ∷ [] → IsPrefix taken appended → IsPrefix appended now → OnlyOctets held
      → (taken ≡ appended → held ≡ []) → IsPrefix (passing written taken ++ held) (passing written now) → IsPrefix (passing written taken ++ held) (passing written appended)
  octets_inside written taken before appended now e s held shape front grown only none is =
      elim (prefix_last taken before (Mark e s) (subst (IsPrefix taken) shape front)) [
        | inl short ↦ (
            let now_is : now ≡ before ++ Mark e s ∷ grown.0 = sym grown.1 ∙ (ap (λ l. l ++ grown.0) shape ∙ append_assoc before (Mark e s ∷ []) grown.0) in
            let stay = octets_stay_before_mark written taken before grown.0 e s held short only (subst (λ l. IsPrefix (passing written taken ++ held) (passing written l)) now_is is) in
            let whole : passing written appended ≡ passing written before ++ passing written (Mark e s ∷ []) = ap (passing written) shape ∙ passing_more written before (Mark e s ∷ []) in
            subst (IsPrefix (passing written taken ++ held)) (sym whole) (prefix_push (passing written taken ++ held) (passing written before) (passing written (Mark e s ∷ [])) stay))
        | inr all ↦ (
            let same : taken ≡ appended = all ∙ sym shape in
            ([], append-nil (passing written taken ++ held) ∙ (ap (λ h. passing written taken ++ h) (none same) ∙ (append-nil (passing written taken) ∙ ap (passing written) same))))
      ]

module _ {M P W : Type 0} where
  -- so a copy of an end that was up ends with the marker
  pub copy_marked : (g : Network M P W) (ts : List (NetworkStep M P W)) → IsRunOf g ts → (u s y : ℕ) (c : ℕ → End M) → (reached g ts u).recorder.copy s ≡ Some c → is_up (c y) ≡ true
      → (before : List (Entry M)) × (e : ℕ) × ((c y).appended ≡ before ++ Mark e s ∷ []) × (e ≡ greatest_dial before)
  copy_marked g ts r u s y c is up =
      let d = was_recorded g ts u s c is in
      let run : IsNetworkRun g (first_routers g) (d.0 ++ step_of u d.2 ∷ d.1) = subst (IsNetworkRun g (first_routers g)) d.3 r in
      let stands = records_its_state g d.0 d.1 u s d.2 run d.4 in
      let x : Recorder M = (reached g d.0 u).recorder in
      let same : (recorder_after x d.2).ends ≡ c = some_same (recorder_after x d.2).ends c ((reached g ts u).recorder.copy s) (ap (λ l. (reached g l u).recorder.copy s) d.3 ∙ stands.0) is in
      let m = recorded_marked x d.2 s y d.4 in
      let here : c y ≡ marked s m.0 = sym (ap (λ (f : ℕ → End M). f y) same) ∙ m.1 in
      (m.0.appended, incarnation m.0, ap (λ (i : End M). i.appended) here ∙ ends_marked s m.0 (subst (λ (i : End M). is_up i ≡ true) here up), refl)

  pub taken_octets_are_inside : TakenOctetsAreInside M P W
  taken_octets_are_inside g net ts r s all inside cut written u v link held only none is =
      let h = facts_run g ts (first_routers g) (holds_start g.linked) r in
      let ru = net.known v u (net.both u v link) in
      let rv = net.known u v link in
      let ch = (h.windows u v (net.apart u v link) link).parts s (all u ru).0 (all u ru).1 in
      let back = (h.windows v u (net.apart v u (net.both u v link)) (net.both u v link)).parts s (all v rv).0 (all v rv).1 in
      let cv : back.0 ≡ ch.1 = some_same back.0 ch.1 ((reached g ts v).recorder.copy s) back.2 ch.3 in
      let up : is_up (ch.1 u) ≡ true = subst (λ (c : ℕ → End M). is_up (c u) ≡ true) cv back.7 in
      let shape = copy_marked g ts r v s u ch.1 ch.3 up in
      let grown = ((h.locals v u (net.apart v u (net.both u v link))).copied s ch.1 ch.3).0 in
      let pu = recorded_at_one_place g ts r u s ch.0 ch.2 in
      let pv = recorded_at_one_place g ts r v s ch.1 ch.3 in
      let at_u : end_inside g ts inside u v ≡ ch.0 v =
      ap (λ i. (after_own g (first_routers g) ts u i).recorder.ends v) ((cut u ru).1 ∙ ap (λ i. suc i) (only_once g ts (first_routers g) u s (cut u ru).0 pu.0 r (cut u ru).2 pu.1)) ∙ ap (λ (c : ℕ → End M). c v) pu.3 in
      let at_v : end_inside g ts inside v u ≡ ch.1 u =
      ap (λ i. (after_own g (first_routers g) ts v i).recorder.ends u) ((cut v rv).1 ∙ ap (λ i. suc i) (only_once g ts (first_routers g) v s (cut v rv).0 pv.0 r (cut v rv).2 pv.1)) ∙ ap (λ (c : ℕ → End M). c u) pv.3 in
      let now : List (Entry M) = ((reached g ts v).recorder.ends u).appended in
      let none' : (ch.0 v).taken ≡ (ch.1 u).appended → held ≡ [] = λ e. none (ap (λ (i : End M). i.taken) at_u ∙ (e ∙ sym (ap (λ (i : End M). i.appended) at_v))) in
      let is' : IsPrefix (passing written (ch.0 v).taken ++ held) (passing written now) = subst (λ (i : End M). IsPrefix (passing written i.taken ++ held) (passing written now)) at_u is in
      let inside' = octets_inside written (ch.0 v).taken shape.0 (ch.1 u).appended now shape.1 s held shape.2 ch.5 grown only none' is' in
      subst (λ (i : End M). IsPrefix (passing written (end_inside g ts inside u v).taken ++ held) (passing written i.appended)) (sym at_v)
      (subst (λ (i : End M). IsPrefix (passing written i.taken ++ held) (passing written (ch.1 u).appended)) (sym at_u) inside')
