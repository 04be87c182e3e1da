-- The small runs, step by step.
use Rattle.std.proofs.Common.{◌≡◌, ◌≢◌, ℕ, ◌==◌, Bool, true, false, cond, List, [], ◌∷◌, ◌++◌, refl, ap, sym, ◌∙◌, arith, subst, inl, inr, ◌⊎◌}
use mathlib.Core.List.{IsPrefix}
use Rattle.run_model.specs.Links.{End, Mark, greatest_dial, is_up, taking}
use Rattle.run_model.specs.Recordings.{with_end, marked}
use Rattle.run_model.specs.Routes.{IsNotPending, updates, route, told_word, IsNetwork, first_routers}
use Rattle.run_model.specs.Quiet.{IsQuietSince}
use Rattle.run_model.specs.Offers.{Offer, Finished, Lost, Part, Cause, IsIn, Made, Offering, OfferStep, IsOfferRun, offerings_after, first_offering, Decides, IsDeciding, Why, Pending, InFlight, Mismatch, Shows, network_steps}
use Rattle.run_model.specs.Examples.{Sample, DialAtOnceJoins, pair, comes_up, announces, part_1, part_2, begins_5, follows_5, finishes_2, finishes_1, offers_5, settled_steps, SettledRun}
use Rattle.std.proofs.lemmas.Bool.Decides.{nat_tests}

pub at_only : (P : ℕ → Type 0) (v k : ℕ) → (v == k) ≡ true → P k → P v
at_only P v k is p = let same : k ≡ v = grind (arith, nat_tests, is) in subst P same p

pub dial_at_once_joins : DialAtOnceJoins
dial_at_once_joins =
    (((λ e. absurd (cc e)), ((λ e. absurd (cc e)), (λ e. absurd (cc e))), ((λ e. absurd (cc e)), ((λ e. absurd (cc e)), (λ e. absurd (cc e))), ((λ e. absurd (cc e)), (refl, tt), ((λ e. absurd (cc e)), (refl, tt), tt)))), refl, refl, refl, refl)

abbrev pub Offerings : Type 0
Offerings = Offering Sample ℕ ℕ

abbrev pub up_12 : Offerings
up_12 = offerings_after pair (first_offering pair) comes_up

pub comes_up_runs : IsOfferRun pair (first_offering pair) comes_up
comes_up_runs = ((
  ((((λ e. absurd (cc e)), tt, ((λ e. absurd (cc e)), (λ e. absurd (cc e)))), tt), refl),
  (
    ((((λ e. absurd (cc e)), tt, ((λ e. absurd (cc e)), (λ e. absurd (cc e)))), tt), refl),
    (
      ((((λ e. absurd (cc e)), tt, (refl, tt)), tt), refl),
      (
        ((((λ e. absurd (cc e)), tt, (refl, tt)), tt), refl),
        (
          ((((λ e. absurd (cc e)), tt, refl), refl), refl),
          (
            ((((λ e. absurd (cc e)), tt, refl), refl), refl),
            (
              ((((λ e. absurd (cc e)), tt, (refl, tt)), tt), refl),
              (
                ((((λ e. absurd (cc e)), tt, (refl, tt)), tt), refl),
                (
                  ((((λ e. absurd (cc e)), tt, refl), refl), refl),
                  (
                    ((((λ e. absurd (cc e)), tt, refl), refl), refl),
                    (
                      ((((λ e. absurd (cc e)), tt, (refl, tt)), tt), refl),
                      (((((λ e. absurd (cc e)), tt, (refl, tt)), tt), refl), tt),
                    ),
                  ),
                ),
              ),
            ),
          ),
        ),
      ),
    ),
  ),
))

abbrev pub told_19 : Offerings
told_19 = offerings_after pair up_12 announces

pub announces_runs : IsOfferRun pair up_12 announces
announces_runs = ((
  (tt, refl),
  (
    ((refl, (λ e. absurd (cc e))), refl),
    (
      (((λ e. absurd (cc e)), refl, refl, (λ e. absurd (cc e)), refl, refl, refl), refl),
      (
        ((((λ e. absurd (cc e)), tt, (refl, tt)), tt), refl),
        (
          ((refl, (λ e. absurd (cc e))), refl),
          (
            (((λ e. absurd (cc e)), refl, refl, (λ e. absurd (cc e)), refl, refl, refl), refl),
            (((((λ e. absurd (cc e)), tt, (refl, tt)), tt), refl), tt),
          ),
        ),
      ),
    ),
  ),
))

-- the snapshot
abbrev pub step : OfferStep Sample ℕ ℕ → Offerings → Offerings
step t x = offerings_after pair x (t ∷ [])

abbrev pub begun_20 : Offerings
begun_20 = offerings_after pair told_19 begins_5

pub begins_runs : IsOfferRun pair told_19 begins_5
begins_runs = ((((omega arith, (λ h v l. at_only (λ v. is_up ((told_19.routers 1).recorder.ends v) ≡ true) v 2 l refl)), tt), ([], [], refl, refl, refl)), tt)

abbrev pub followed_21 : Offerings
followed_21 = offerings_after pair begun_20 follows_5

pub follows_runs : IsOfferRun pair begun_20 follows_5
follows_runs =
    (((((λ e. absurd (cc e)), refl, refl, refl, omega arith, (λ h v l. at_only (λ v. is_up ((begun_20.routers 2).recorder.ends v) ≡ true) v 1 l refl)), tt), ([], [], refl, refl, refl)), tt)

abbrev pub ends_1 : ℕ → End Sample
ends_1 = λ y. marked 5 ((told_19.routers 1).recorder.ends y)

abbrev pub ends_2 : ℕ → End Sample
ends_2 = λ y. marked 5 (with_end (begun_20.routers 2).recorder.ends 1 (taking ((begun_20.routers 2).recorder.ends 1) (Mark 1 5)) y)

calm_2 : IsNotPending pair 2 ends_2 ((followed_21.routers 2).kept_at 5) ((followed_21.routers 2).originated_at 5)
calm_2 = (
  (λ p n. at_only (λ p. (followed_21.routers 2).kept_at 5 p ≡ route pair 2 ends_2 p ((followed_21.routers 2).originated_at 5 p)) p 7 n refl),
  (λ v p l up n. at_only (λ v. told_word pair ends_2 v p ≡ (followed_21.routers 2).kept_at 5 p) v 1 l
      (at_only (λ p. told_word pair ends_2 1 p ≡ (followed_21.routers 2).kept_at 5 p) p 7 n refl)),
)

abbrev pub finished_22 : Offerings
finished_22 = offerings_after pair followed_21 finishes_2

finishes_2_runs : IsOfferRun pair followed_21 finishes_2
finishes_2_runs = (
  ((
    ((refl, (λ v l. at_only (λ v. (followed_21.routers 2).recorder.waits v ≡ false) v 1 l refl)), tt),
    (
      part_2,
      (
        ends_2,
        refl,
        (λ p n. refl),
        (λ p n. refl),
        (λ v l. at_only (λ v. 1 ≡ greatest_dial (ends_2 v).appended) v 1 l refl),
        ((λ e. calm_2), (λ e. refl)),
        (λ v l. at_only (λ v. [] ≡ updates pair ((followed_21.routers 2).recorder.channel v)) v 1 l refl),
      ),
      refl,
    ),
  )),
  tt,
)

abbrev pub finished_24 : Offerings
finished_24 = offerings_after pair finished_22 finishes_1

calm_1 : IsNotPending pair 1 ends_1 ((finished_22.routers 1).kept_at 5) ((finished_22.routers 1).originated_at 5)
calm_1 = (
  (λ p n. at_only (λ p. (finished_22.routers 1).kept_at 5 p ≡ route pair 1 ends_1 p ((finished_22.routers 1).originated_at 5 p)) p 7 n refl),
  (λ v p l up n. at_only (λ v. told_word pair ends_1 v p ≡ (finished_22.routers 1).kept_at 5 p) v 2 l
      (at_only (λ p. told_word pair ends_1 2 p ≡ (finished_22.routers 1).kept_at 5 p) p 7 n refl)),
)

finishes_1_runs : IsOfferRun pair finished_22 finishes_1
finishes_1_runs = (
  ((((λ e. absurd (cc e)), refl, refl, refl, refl, refl), tt), refl),
  (
    (
      ((refl, (λ v l. at_only (λ v. cond (v == 2) false true ≡ false) v 2 l refl)), tt),
      (
        part_1,
        (
          ends_1,
          refl,
          (λ p n. refl),
          (λ p n. refl),
          (λ v l. at_only (λ v. 1 ≡ greatest_dial (ends_1 v).appended) v 2 l refl),
          ((λ e. calm_1), (λ e. refl)),
          (λ v l. at_only (λ v. [] ≡ updates pair ((finished_22.routers 1).recorder.channel v)) v 2 l refl),
        ),
        refl,
      ),
    ),
    tt,
  ),
)

offers_5_run : IsOfferRun pair finished_24 offers_5
offers_5_run = (refl, (refl, tt))

pub run_on : (xs ys : List (OfferStep Sample ℕ ℕ)) (x : Offerings) → IsOfferRun pair x xs → IsOfferRun pair (offerings_after pair x xs) ys → IsOfferRun pair x (xs ++ ys)
run_on [] ys x r q = q
run_on (t ∷ xs) ys x r q = (r.0, run_on xs ys (offerings_after pair x (t ∷ [])) r.1 q)

settled_steps_run : IsOfferRun pair (first_offering pair) settled_steps
settled_steps_run =
    run_on comes_up (announces ++ (begins_5 ++ (follows_5 ++ (finishes_2 ++ (finishes_1 ++ offers_5))))) (first_offering pair) comes_up_runs
    (run_on announces (begins_5 ++ (follows_5 ++ (finishes_2 ++ (finishes_1 ++ offers_5)))) up_12 announces_runs
    (run_on begins_5 (follows_5 ++ (finishes_2 ++ (finishes_1 ++ offers_5))) told_19 begins_runs
    (run_on follows_5 (finishes_2 ++ (finishes_1 ++ offers_5)) begun_20 follows_runs
    (run_on finishes_2 (finishes_1 ++ offers_5) followed_21 finishes_2_runs
    (run_on finishes_1 offers_5 finished_22 finishes_1_runs offers_5_run)))))

abbrev pub router_of : Made Sample ℕ ℕ → ℕ
router_of m = m.router

abbrev pub offer_of : Made Sample ℕ ℕ → Offer Sample ℕ ℕ
offer_of m = m.offer

-- the outcome of two parts, one of each router
module _ (s : ℕ) (first then : Part Sample ℕ ℕ) where
  abbrev pub made_2 : Made Sample ℕ ℕ
  made_2 = record { router = 2; offer = Finished s first }

  abbrev pub made_1 : Made Sample ℕ ℕ
  made_1 = record { router = 1; offer = Finished s then }

  pub no_lost : (w v e : ℕ) (cause : Cause) → IsIn (record { router = w; offer = Lost s v e cause }) (made_2 ∷ made_1 ∷ []) → ⊥
  no_lost w v e cause (inl q) = cc (ap offer_of q)
  no_lost w v e cause (inr (inl q)) = cc (ap offer_of q)
  no_lost w v e cause (inr (inr q)) = q

  pub member_2 : (part : Part Sample ℕ ℕ) → IsIn (record { router = 2; offer = Finished s part }) (made_2 ∷ made_1 ∷ []) → part ≡ first
  member_2 part (inl q) = cc (ap offer_of q)
  member_2 part (inr (inl q)) = absurd (cc (ap router_of q))
  member_2 part (inr (inr q)) = absurd q

  pub member_1 : (part : Part Sample ℕ ℕ) → IsIn (record { router = 1; offer = Finished s part }) (made_2 ∷ made_1 ∷ []) → part ≡ then
  member_1 part (inl q) = absurd (cc (ap router_of q))
  member_1 part (inr (inl q)) = cc (ap offer_of q)
  member_1 part (inr (inr q)) = absurd q

  two_cases : (Q : ℕ → Type 0) → Q 1 → Q 2 → (u : ℕ) → pair.routers u ≡ true → Q u
  two_cases Q one two u r = at (u == 1) refl r
    where
      at : (b : Bool) → (u == 1) ≡ b → cond b true (u == 2) ≡ true → Q u
      at true is r = at_only Q u 1 is one
      at false is r = at_only Q u 2 r two

  decides_both : Decides pair s (made_2 ∷ made_1 ∷ [])
  decides_both = inr (two_cases (λ u. (part : Part Sample ℕ ℕ) × IsIn (record { router = u; offer = Finished s part }) (made_2 ∷ made_1 ∷ [])) (then, inr (inl refl)) (first, inl refl))

  not_none : Decides pair s [] → ⊥
  not_none (inl d) = d.4
  not_none (inr d) = (d 1 refl).1

  not_one : Decides pair s (made_2 ∷ []) → ⊥
  not_one (inl d) = lost d.4
    where
      lost : IsIn (record { router = d.0; offer = Lost s d.1 d.2 d.3 }) (made_2 ∷ []) → ⊥
      lost (inl q) = cc (ap offer_of q)
      lost (inr q) = q
  not_one (inr d) = part (d 1 refl).1
    where
      part : IsIn (record { router = 1; offer = Finished s (d 1 refl).0 }) (made_2 ∷ []) → ⊥
      part (inl q) = cc (ap router_of q)
      part (inr q) = q

  shortest : (shorter : List (Made Sample ℕ ℕ)) → IsPrefix shorter (made_2 ∷ made_1 ∷ []) → Decides pair s shorter → shorter ≡ made_2 ∷ made_1 ∷ []
  shortest [] p d = absurd (not_none d)
  shortest (a ∷ []) p d = (let same : a ≡ made_2 = cc (p.1) in absurd (not_one (subst (λ i. Decides pair s (i ∷ [])) same d)))
  shortest (a ∷ b ∷ []) p d = cc (p.1)
  shortest (a ∷ b ∷ c ∷ rest) p d = absurd (cc (p.1))

  pub deciding : IsDeciding pair s (made_2 ∷ made_1 ∷ []) (made_2 ∷ made_1 ∷ [])
  deciding = (([], refl), decides_both, shortest)

-- nothing is shown by the two parts of snapshot 5
shows_none : (u : ℕ) → (u ≡ 1) ⊎ (u ≡ 2) → (why : Why) → Shows pair 5 (made_2 5 part_2 part_1 ∷ made_1 5 part_2 part_1 ∷ []) u why → ⊥
shows_none u k Pending h = by_part k h.1 h.2
  where
    by_part : (u ≡ 1) ⊎ (u ≡ 2) → IsIn (record { router = u; offer = Finished 5 h.0 }) (made_2 5 part_2 part_1 ∷ made_1 5 part_2 part_1 ∷ []) → h.0.pending ≡ true → ⊥
    by_part (inl e) i q = (let same = member_1 5 part_2 part_1 h.0 (subst (λ (j : ℕ). IsIn (record { router = j; offer = Finished 5 h.0 }) (made_2 5 part_2 part_1 ∷ made_1 5 part_2 part_1 ∷ [])) e i) in cc (ap (λ (p : Part Sample ℕ ℕ). p.pending) same, q))
    by_part (inr e) i q = (let same = member_2 5 part_2 part_1 h.0 (subst (λ (j : ℕ). IsIn (record { router = j; offer = Finished 5 h.0 }) (made_2 5 part_2 part_1 ∷ made_1 5 part_2 part_1 ∷ [])) e i) in cc (ap (λ (p : Part Sample ℕ ℕ). p.pending) same, q))
shows_none u k (InFlight v) h = by_part k h.1 h.3
  where
    by_part : (u ≡ 1) ⊎ (u ≡ 2) → IsIn (record { router = u; offer = Finished 5 h.0 }) (made_2 5 part_2 part_1 ∷ made_1 5 part_2 part_1 ∷ []) → (h.0.channel v ≡ [] → ⊥) → ⊥
    by_part (inl e) i q = (let same = member_1 5 part_2 part_1 h.0 (subst (λ (j : ℕ). IsIn (record { router = j; offer = Finished 5 h.0 }) (made_2 5 part_2 part_1 ∷ made_1 5 part_2 part_1 ∷ [])) e i) in q (ap (λ (p : Part Sample ℕ ℕ). p.channel v) same))
    by_part (inr e) i q = (let same = member_2 5 part_2 part_1 h.0 (subst (λ (j : ℕ). IsIn (record { router = j; offer = Finished 5 h.0 }) (made_2 5 part_2 part_1 ∷ made_1 5 part_2 part_1 ∷ [])) e i) in q (ap (λ (p : Part Sample ℕ ℕ). p.channel v) same))
shows_none u k (Mismatch v) h = by_part k h.2
  where
    other_is : (w : ℕ) → (w ≡ 1) ⊎ (w ≡ 2) → IsIn (record { router = w; offer = Finished 5 h.1 }) (made_2 5 part_2 part_1 ∷ made_1 5 part_2 part_1 ∷ []) → h.1.incarnation u ≡ 1
    other_is w (inl e) i = (let same = member_1 5 part_2 part_1 h.1 (subst (λ (j : ℕ). IsIn (record { router = j; offer = Finished 5 h.1 }) (made_2 5 part_2 part_1 ∷ made_1 5 part_2 part_1 ∷ [])) e i) in ap (λ (p : Part Sample ℕ ℕ). p.incarnation u) same)
    other_is w (inr e) i = (let same = member_2 5 part_2 part_1 h.1 (subst (λ (j : ℕ). IsIn (record { router = j; offer = Finished 5 h.1 }) (made_2 5 part_2 part_1 ∷ made_1 5 part_2 part_1 ∷ [])) e i) in ap (λ (p : Part Sample ℕ ℕ). p.incarnation u) same)

    by_part : (u ≡ 1) ⊎ (u ≡ 2) → IsIn (record { router = u; offer = Finished 5 h.0 }) (made_2 5 part_2 part_1 ∷ made_1 5 part_2 part_1 ∷ []) → ⊥
    by_part (inl e) i =
        let same = member_1 5 part_2 part_1 h.0 (subst (λ (j : ℕ). IsIn (record { router = j; offer = Finished 5 h.0 }) (made_2 5 part_2 part_1 ∷ made_1 5 part_2 part_1 ∷ [])) e i) in
        let peer : (v == 2) ≡ true = ap (λ (j : ℕ). pair.linked j v) (sym e) ∙ h.4 in
        let is : v ≡ 2 = grind (arith, nat_tests, peer) in
        h.5 (ap (λ (p : Part Sample ℕ ℕ). p.incarnation v) same ∙ sym (other_is v (inr is) h.3))
    by_part (inr e) i =
        let same = member_2 5 part_2 part_1 h.0 (subst (λ (j : ℕ). IsIn (record { router = j; offer = Finished 5 h.0 }) (made_2 5 part_2 part_1 ∷ made_1 5 part_2 part_1 ∷ [])) e i) in
        let peer : (v == 1) ≡ true = ap (λ (j : ℕ). pair.linked j v) (sym e) ∙ h.4 in
        let is : v ≡ 1 = grind (arith, nat_tests, peer) in
        h.5 (ap (λ (p : Part Sample ℕ ℕ). p.incarnation v) same ∙ sym (other_is v (inl is) h.3))

which_router : (u : ℕ) → pair.routers u ≡ true → (u ≡ 1) ⊎ (u ≡ 2)
which_router u r = two_cases 5 part_2 part_1 (λ i. (i ≡ 1) ⊎ (i ≡ 2)) (inl refl) (inr refl) u r

linked_either : (Q : ℕ → ℕ → Type 0) → Q 1 2 → Q 2 1 → (u v : ℕ) → pair.linked u v ≡ true → Q u v
linked_either Q one two u v l = at_1 (u == 1) refl l
  where
    at_2 : (b : Bool) → (u == 2) ≡ b → cond b (v == 1) false ≡ true → Q u v
    at_2 true is l = at_only (λ i. Q i v) u 2 is (at_only (λ j. Q 2 j) v 1 l two)
    at_2 false is l = absurd (cc l)

    at_1 : (b : Bool) → (u == 1) ≡ b → cond b (v == 2) (cond (u == 2) (v == 1) false) ≡ true → Q u v
    at_1 true is l = at_only (λ i. Q i v) u 1 is (at_only (λ j. Q 1 j) v 2 l one)
    at_1 false is l = at_2 (u == 2) refl l

pair_is_network : IsNetwork pair
pair_is_network = record {
  apart = λ u v l. linked_either (λ u v. u ≢ v) (λ e. absurd (cc e)) (λ e. absurd (cc e)) u v l;
  both = λ u v l. linked_either (λ u v. pair.linked v u ≡ true) refl refl u v l;
  known = λ u v l. linked_either (λ u v. pair.routers v ≡ true) refl refl u v l;
}

quiet_to_its_end : IsQuietSince pair 5 (first_routers pair) (network_steps pair settled_steps)
quiet_to_its_end =
    ((λ r c e. refl), ((λ r c e. refl), ((λ r c e. refl), ((λ r c e. refl), ((λ r c e. refl), ((λ r c e. refl), ((λ r c e. refl), ((λ r c e. refl), ((λ r c e. refl), ((λ r c e. refl), ((λ r c e. refl), ((λ r c e. refl), ((λ r c e. cc e), ((λ r c e. tt), ((λ r c e. tt), ((λ r c e. refl), ((λ r c e. tt), ((λ r c e. tt), ((λ r c e. refl), ((λ r c e. refl), ((λ r c e. refl), ((λ r c e. refl), ((λ r c e. refl), ((λ r c e. refl), tt))))))))))))))))))))))))

pub settled_run : SettledRun
settled_run = (
  pair_is_network,
  settled_steps_run,
  (made_2 5 part_2 part_1 ∷ made_1 5 part_2 part_1 ∷ [], deciding 5 part_2 part_1, no_lost 5 part_2 part_1, (λ w r why. shows_none w (which_router w r) why)),
  refl,
  refl,
  quiet_to_its_end,
)
