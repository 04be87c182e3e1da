-- A run whose snapshot is moving, and one in which a session is reset.
use Rattle.std.proofs.Common.{◌≡◌, ℕ, ◌<◌, ◌==◌, Bool, true, false, cond, List, [], ◌∷◌, ◌++◌, length, Some, refl, ap, sym, ◌∙◌, arith, subst, inl, inr}
use mathlib.Core.List.{IsPrefix}
use Rattle.run_model.specs.Links.{End, greatest_dial, is_up}
use Rattle.run_model.specs.Recordings.{marked}
use Rattle.run_model.specs.Routes.{IsNotPending, IsSettled, updates, route, told_word}
use Rattle.run_model.specs.Offers.{Finished, Lost, Part, Cause, IsIn, Made, IsOfferRun, offerings_after, first_offering, final, Decides, Precedes, Why, Pending, InFlight, Mismatch, Shows}
use Rattle.run_model.specs.Examples.{Sample, Update, pair, comes_up, announces, begins_5, follows_5, withdraws, begins_6, moving_part_1, moving_part_2, finishes_6, offers_6, made_6, moving_steps, MovingRun, resets, comes_up_again, reset_steps, ResetRun, SessionsComeUp, by_length, LengthsAreFrames}
use Rattle.run_model.proofs.ExampleRuns.{at_only, Offerings, up_12, comes_up_runs, told_19, announces_runs, begun_20, begins_runs, followed_21, follows_runs, run_on, made_1, made_2, no_lost, member_1, member_2, deciding}
use Rattle.std.proofs.lemmas.Bool.Decides.{nat_tests}

abbrev pub withdrawn_22 : Offerings
withdrawn_22 = offerings_after pair told_19 withdraws

withdraws_runs : IsOfferRun pair told_19 withdraws
withdraws_runs = ((
  (tt, refl),
  (
    ((refl, (λ e. absurd (cc e))), refl),
    ((((λ e. absurd (cc e)), refl, refl, (λ e. absurd (cc e)), refl, refl, refl), refl), tt),
  ),
))

abbrev pub begun_23 : Offerings
begun_23 = offerings_after pair withdrawn_22 (begins_6 1)

begins_6_runs : IsOfferRun pair withdrawn_22 (begins_6 1)
begins_6_runs = ((((omega arith, (λ h v l. at_only (λ v. is_up ((withdrawn_22.routers 1).recorder.ends v) ≡ true) v 2 l refl)), tt), ([], [], refl, refl, refl)), tt)

abbrev pub begun_24 : Offerings
begun_24 = offerings_after pair begun_23 (begins_6 2)

begins_6_too : IsOfferRun pair begun_23 (begins_6 2)
begins_6_too = ((((omega arith, (λ h v l. at_only (λ v. is_up ((begun_23.routers 2).recorder.ends v) ≡ true) v 1 l refl)), tt), ([], [], refl, refl, refl)), tt)

abbrev pub taken_27 : Offerings
taken_27 = offerings_after pair begun_24 finishes_6

finishes_6_runs : IsOfferRun pair begun_24 finishes_6
finishes_6_runs = (
  ((((λ e. absurd (cc e)), tt, (refl, tt)), tt), refl),
  (
    ((((λ e. absurd (cc e)), refl, refl, refl, refl, refl), tt), refl),
    (((((λ e. absurd (cc e)), refl, refl, refl, refl, refl), tt), refl), tt),
  ),
)

abbrev pub ends_1 : ℕ → End Sample
ends_1 = λ y. marked 6 ((withdrawn_22.routers 1).recorder.ends y)

abbrev pub ends_2 : ℕ → End Sample
ends_2 = λ y. marked 6 ((begun_23.routers 2).recorder.ends y)

calm_1 : IsNotPending pair 1 ends_1 ((taken_27.routers 1).kept_at 6) ((taken_27.routers 1).originated_at 6)
calm_1 = (
  (λ p n. at_only (λ p. (taken_27.routers 1).kept_at 6 p ≡ route pair 1 ends_1 p ((taken_27.routers 1).originated_at 6 p)) p 7 n refl),
  (λ v p l up n. at_only (λ v. told_word pair ends_1 v p ≡ (taken_27.routers 1).kept_at 6 p) v 2 l
      (at_only (λ p. told_word pair ends_1 2 p ≡ (taken_27.routers 1).kept_at 6 p) p 7 n refl)),
)

calm_2 : IsNotPending pair 2 ends_2 ((taken_27.routers 2).kept_at 6) ((taken_27.routers 2).originated_at 6)
calm_2 = (
  (λ p n. at_only (λ p. (taken_27.routers 2).kept_at 6 p ≡ route pair 2 ends_2 p ((taken_27.routers 2).originated_at 6 p)) p 7 n refl),
  (λ v p l up n. at_only (λ v. told_word pair ends_2 v p ≡ (taken_27.routers 2).kept_at 6 p) v 1 l
      (at_only (λ p. told_word pair ends_2 1 p ≡ (taken_27.routers 2).kept_at 6 p) p 7 n refl)),
)

abbrev pub finished_29 : Offerings
finished_29 = offerings_after pair taken_27 offers_6

offers_6_run : IsOfferRun pair taken_27 offers_6
offers_6_run = (
  (
    ((refl, (λ v l. at_only (λ v. (taken_27.routers 2).recorder.waits v ≡ false) v 1 l refl)), tt),
    (
      moving_part_2,
      (
        ends_2,
        refl,
        (λ p n. refl),
        (λ p n. refl),
        (λ v l. at_only (λ v. 1 ≡ greatest_dial (ends_2 v).appended) v 1 l refl),
        ((λ e. calm_2), (λ e. refl)),
        (λ v l. at_only (λ v. Update 7 0 ∷ [] ≡ updates pair ((taken_27.routers 2).recorder.channel v)) v 1 l refl),
      ),
      refl,
    ),
  ),
  (
    (
      ((refl, (λ v l. at_only (λ v. (taken_27.routers 1).recorder.waits v ≡ false) v 2 l refl)), tt),
      (
        moving_part_1,
        (
          ends_1,
          refl,
          (λ p n. at_only (λ p. 0 ≡ (taken_27.routers 1).kept_at 6 p) p 7 n refl),
          (λ p n. refl),
          (λ v l. at_only (λ v. 1 ≡ greatest_dial (ends_1 v).appended) v 2 l refl),
          ((λ e. calm_1), (λ e. refl)),
          (λ v l. at_only (λ v. [] ≡ updates pair ((taken_27.routers 1).recorder.channel v)) v 2 l refl),
        ),
        refl,
      ),
    ),
    tt,
  ),
)

made_6_run : IsOfferRun pair finished_29 made_6
made_6_run = (refl, (refl, tt))

moving_steps_run : IsOfferRun pair (first_offering pair) moving_steps
moving_steps_run =
    run_on comes_up (announces ++ (withdraws ++ (begins_6 1 ++ (begins_6 2 ++ (finishes_6 ++ (offers_6 ++ made_6)))))) (first_offering pair) comes_up_runs
    (run_on announces (withdraws ++ (begins_6 1 ++ (begins_6 2 ++ (finishes_6 ++ (offers_6 ++ made_6))))) up_12 announces_runs
    (run_on withdraws (begins_6 1 ++ (begins_6 2 ++ (finishes_6 ++ (offers_6 ++ made_6)))) told_19 withdraws_runs
    (run_on (begins_6 1) (begins_6 2 ++ (finishes_6 ++ (offers_6 ++ made_6))) withdrawn_22 begins_6_runs
    (run_on (begins_6 2) (finishes_6 ++ (offers_6 ++ made_6)) begun_23 begins_6_too
    (run_on finishes_6 (offers_6 ++ made_6) begun_24 finishes_6_runs
    (run_on offers_6 made_6 taken_27 offers_6_run made_6_run))))))

abbrev pub front : List (Made Sample ℕ ℕ)
front = made_2 6 moving_part_2 moving_part_1 ∷ made_1 6 moving_part_2 moving_part_1 ∷ []

-- router 1 shows nothing, and router 2 nothing before the channel from router 1
first_shows_none : (u : ℕ) → u ≡ 1 → (why : Why) → Shows pair 6 front u why → ⊥
first_shows_none u e Pending h =
    let same = member_1 6 moving_part_2 moving_part_1 h.0 (subst (λ (j : ℕ). IsIn (record { router = j; offer = Finished 6 h.0 }) front) e h.1) in let q = h.2 in cc (ap (λ (p : Part Sample ℕ ℕ). p.pending) same, q)
first_shows_none u e (InFlight v) h =
    let same = member_1 6 moving_part_2 moving_part_1 h.0 (subst (λ (j : ℕ). IsIn (record { router = j; offer = Finished 6 h.0 }) front) e h.1) in h.3 (ap (λ (p : Part Sample ℕ ℕ). p.channel v) same)
first_shows_none u e (Mismatch v) h =
    let same = member_1 6 moving_part_2 moving_part_1 h.0 (subst (λ (j : ℕ). IsIn (record { router = j; offer = Finished 6 h.0 }) front) e h.2) in
    let peer : (v == 2) ≡ true = ap (λ (j : ℕ). pair.linked j v) (sym e) ∙ h.4 in
    let is : v ≡ 2 = grind (arith, nat_tests, peer) in
    let other = member_2 6 moving_part_2 moving_part_1 h.1 (subst (λ (j : ℕ). IsIn (record { router = j; offer = Finished 6 h.1 }) front) is h.3) in
    h.5 (ap (λ (p : Part Sample ℕ ℕ). p.incarnation v) same ∙ sym (ap (λ (p : Part Sample ℕ ℕ). p.incarnation u) other))

second_shows_first : (why : Why) → Precedes why (InFlight 1) → Shows pair 6 front 2 why → ⊥
second_shows_first Pending before h = let same = member_2 6 moving_part_2 moving_part_1 h.0 h.1 in let q = h.2 in cc (ap (λ (p : Part Sample ℕ ℕ). p.pending) same, q)
second_shows_first (InFlight v) before h = let link : (v == 1) ≡ true = h.2 in let is : v ≡ 1 = grind (arith, nat_tests, link) in omega (arith, before, is)
second_shows_first (Mismatch v) before h = before

below_2 : (w : ℕ) → w < 2 → pair.routers w ≡ true → w ≡ 1
below_2 w l r = at (w == 1) refl r
  where
    at : (b : Bool) → (w == 1) ≡ b → cond b true (w == 2) ≡ true → w ≡ 1
    at true is r = grind (arith, nat_tests, is)
    at false is r = absurd (let two : w ≡ 2 = grind (arith, nat_tests, r) in omega (arith, l, two))

same_some : (f g : ℕ → List Sample) → Some f ≡ Some g → f ≡ g
same_some f g e = cc e

not_settled : IsSettled pair (final pair moving_steps).routers 6 → ⊥
not_settled h =
    let x = h 2 refl in
    let same : (taken_27.routers 2).recorder.channel ≡ x.0 = same_some (taken_27.routers 2).recorder.channel x.0 x.2 in
    let none : updates pair ((taken_27.routers 2).recorder.channel 1) ≡ [] = subst (λ (f : ℕ → List Sample). updates pair (f 1) ≡ []) (sym same) (x.4 1 refl) in cc none

pub moving_run : MovingRun
moving_run = (
  moving_steps_run,
  (front, deciding 6 moving_part_2 moving_part_1, no_lost 6 moving_part_2 moving_part_1, refl, (moving_part_2, inl refl, refl, (λ e. cc e)), (λ w l r why h. first_shows_none w (below_2 w l r) why h), second_shows_first),
  not_settled,
)

-- the reset
resets_run : IsOfferRun pair followed_21 resets
resets_run = ((
  ((((λ e. absurd (cc e)), tt, (λ e. absurd (cc e))), tt), refl),
  (
    refl,
    (
      ((((λ e. absurd (cc e)), tt, (λ e. absurd (cc e))), tt), refl),
      (((((λ e. absurd (cc e)), tt, (refl, (λ e. absurd (cc e)))), tt), refl), tt),
    ),
  ),
))

abbrev pub reset_25 : Offerings
reset_25 = offerings_after pair followed_21 resets

again_runs : IsOfferRun pair reset_25 comes_up_again
again_runs = ((
  ((((λ e. absurd (cc e)), refl, inl refl), tt), refl),
  (
    ((((λ e. absurd (cc e)), tt, (refl, (λ e. absurd (cc e)))), tt), refl),
    (
      ((((λ e. absurd (cc e)), tt, ((λ e. absurd (cc e)), (λ e. absurd (cc e)))), tt), refl),
      (
        ((((λ e. absurd (cc e)), tt, (refl, tt)), tt), refl),
        (
          ((((λ e. absurd (cc e)), tt, ((λ e. absurd (cc e)), (λ e. absurd (cc e)))), tt), refl),
          (
            ((((λ e. absurd (cc e)), tt, (refl, tt)), tt), refl),
            (
              ((((λ e. absurd (cc e)), tt, refl), refl), refl),
              (
                ((((λ e. absurd (cc e)), tt, refl), refl), refl),
                (
                  ((((λ e. absurd (cc e)), tt, (refl, tt)), tt), refl),
                  (
                    ((((λ e. absurd (cc e)), tt, (refl, tt)), tt), refl),
                    (
                      ((((λ e. absurd (cc e)), tt, refl), refl), refl),
                      (
                        ((((λ e. absurd (cc e)), tt, refl), refl), refl),
                        (
                          ((((λ e. absurd (cc e)), tt, (refl, tt)), tt), refl),
                          (((((λ e. absurd (cc e)), tt, (refl, tt)), tt), refl), tt),
                        ),
                      ),
                    ),
                  ),
                ),
              ),
            ),
          ),
        ),
      ),
    ),
  ),
))

reset_steps_run : IsOfferRun pair (first_offering pair) reset_steps
reset_steps_run =
    run_on comes_up (announces ++ (begins_5 ++ (follows_5 ++ (resets ++ comes_up_again)))) (first_offering pair) comes_up_runs
    (run_on announces (begins_5 ++ (follows_5 ++ (resets ++ comes_up_again))) up_12 announces_runs
    (run_on begins_5 (follows_5 ++ (resets ++ comes_up_again)) told_19 begins_runs
    (run_on follows_5 (resets ++ comes_up_again) begun_20 follows_runs
    (run_on resets comes_up_again followed_21 resets_run again_runs))))

abbrev pub lost : Made Sample ℕ ℕ
lost = record { router = 1; offer = Lost 5 2 1 Cause.Closed }

shortest : (shorter : List (Made Sample ℕ ℕ)) → IsPrefix shorter (lost ∷ []) → Decides pair 5 shorter → shorter ≡ lost ∷ []
shortest [] p (inl d) = absurd d.4
shortest [] p (inr d) = absurd (d 1 refl).1
shortest (a ∷ []) p d = cc (p.1)
shortest (a ∷ b ∷ rest) p d = absurd (cc (p.1))

pub reset_run : ResetRun
reset_run = (reset_steps_run, (lost ∷ [], (([], refl), inl (1, 2, 1, Cause.Closed, inl refl), shortest), inl refl), refl, refl, refl, refl)

-- two sessions
pub sessions_come_up : SessionsComeUp
sessions_come_up = (((λ e. absurd (cc e)), tt, ((λ e. absurd (cc e)), tt, ((λ e. absurd (cc e)), (refl, refl, refl, omega arith), ((λ e. absurd (cc e)), (refl, refl, refl, omega arith), ((λ e. absurd (cc e)), (refl, refl), ((λ e. absurd (cc e)), (refl, refl), ((λ e. absurd (cc e)), (refl, refl), ((λ e. absurd (cc e)), (refl, refl), ((λ e. absurd (cc e)), ((λ e. absurd (cc e)), omega arith), ((λ e. absurd (cc e)), tt, ((λ e. absurd (cc e)), ((λ e. absurd (cc e)), omega arith), ((λ e. absurd (cc e)), (refl, (λ e. absurd (cc e))), ((λ e. absurd (cc e)), (refl, (λ e. absurd (cc e))), ((λ e. absurd (cc e)), (refl, refl), ((λ e. absurd (cc e)), tt, tt))))))))))))))), refl, refl, refl, refl, refl)

-- lists of one length at the head of one list
same_heads : (xs ys a b : List ℕ) → length xs ≡ length ys → xs ++ a ≡ ys ++ b → xs ≡ ys
same_heads [] [] a b l e = refl
same_heads [] (y ∷ ys) a b l e = absurd (cc l)
same_heads (x ∷ xs) [] a b l e = absurd (cc l)
same_heads (x ∷ xs) (y ∷ ys) a b l e =
    let rest : xs ≡ ys = same_heads xs ys a b (cc l) (cc e) in
    let head : x ≡ y = cc e in cc (head, rest)

heads_of : (f h a b m n : List ℕ) → f ≡ by_length m → h ≡ by_length n → f ++ a ≡ h ++ b → f ≡ h
heads_of f h a b m n p q e =
    let both : by_length m ++ a ≡ by_length n ++ b = ap (λ i. i ++ a) (sym p) ∙ (e ∙ ap (λ i. i ++ b) q) in
    let long : length m ≡ length n = cc both in
    let rest : m ++ a ≡ n ++ b = cc both in
    p ∙ (ap by_length (same_heads m n a b long rest) ∙ sym q)

pub lengths_are_frames : LengthsAreFrames
lengths_are_frames = record {
  some = λ f is e. absurd (let k = is.1 in cc (k, e));
  prefix_free = λ f h a b is there e. heads_of f h a b is.0 there.0 is.1 there.1 e;
}
