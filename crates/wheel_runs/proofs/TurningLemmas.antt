-- DISAGREE turns for ever.
use Rattle.std.proofs.Common.{◌≡◌, ◌≢◌, ℕ, zero, suc, ◌≤◌, ◌==◌, Bool, true, false, ◌&&◌, cond, List, [], ◌∷◌, ◌++◌, length, Some, slice_get, refl, ap, sym, ◌∙◌, subst, arith, length-append}
use Rattle.std.specs.Prelude.{nat_lt}
use Rattle.std.proofs.lemmas.Bool.Decides.{nat_tests}
use Rattle.std.proofs.lemmas.List.Elements.{filter-append}
use Rattle.run_model.specs.Links.{Entry, Phase, End, Joined, is_joined, Says, Tells, Takes, said, incarnation, is_up, after, used_with}
use Rattle.run_model.specs.Routes.{Routers, Advertise, Decide, IsNetworkRun, IsRunOf, advanced, routers_after, first_routers, reached, updates, last_told, word, heard_word, route}
use Rattle.run_model.specs.RankedExamples.{first_choice}
use Rattle.ranked_policy.specs.Tests.{same_path}
use Rattle.run_model.proofs.EntryLists.{said-append}
use Rattle.dispute_wheels.specs.RunChanges.{shifts, moments, commanded}
use Rattle.dispute_wheels.proofs.EndSteps.{told_stays}
use Rattle.wheel_runs.specs.Turning.{Note, Update, is_update, disagree, Steps, does, moves, comes_up, announces, begins, AreCalm, DisagreeTurnsForEver}

abbrev States : Type 0
States = Routers Note ℕ (List ℕ)

-- ---- the sessions come up, and the routes of router 1 come

abbrev up_12 : States
up_12 = routers_after disagree (first_routers disagree) (comes_up 1 2)

abbrev up_13 : States
up_13 = routers_after disagree up_12 (comes_up 1 3)

abbrev up_23 : States
up_23 = routers_after disagree up_13 (comes_up 2 3)

abbrev told : States
told = routers_after disagree up_23 announces

run_on : (ts us : Steps) (w : States) → IsNetworkRun disagree w ts → IsNetworkRun disagree (routers_after disagree w ts) us → IsNetworkRun disagree w (ts ++ us)
run_on [] us w a b = b
run_on (t ∷ ts) us w a b = (a.0, run_on ts us (advanced disagree w t) a.1 b)

runs_12 : IsNetworkRun disagree (first_routers disagree) (comes_up 1 2)
runs_12 = ((((λ e. absurd (cc e)), tt, ((λ e. absurd (cc e)), (λ e. absurd (cc e)))), tt), ((((λ e. absurd (cc e)), tt, ((λ e. absurd (cc e)), (λ e. absurd (cc e)))), tt), ((((λ e. absurd (cc e)), tt, (refl, tt)), tt), ((((λ e. absurd (cc e)), tt, (refl, tt)), tt), ((((λ e. absurd (cc e)), tt, refl), refl), ((((λ e. absurd (cc e)), tt, refl), refl), ((((λ e. absurd (cc e)), tt, (refl, tt)), tt), ((((λ e. absurd (cc e)), tt, (refl, tt)), tt), ((((λ e. absurd (cc e)), tt, refl), refl), ((((λ e. absurd (cc e)), tt, refl), refl), ((((λ e. absurd (cc e)), tt, (refl, tt)), tt), ((((λ e. absurd (cc e)), tt, (refl, tt)), tt), tt))))))))))))

runs_13 : IsNetworkRun disagree up_12 (comes_up 1 3)
runs_13 = ((((λ e. absurd (cc e)), tt, ((λ e. absurd (cc e)), (λ e. absurd (cc e)))), tt), ((((λ e. absurd (cc e)), tt, ((λ e. absurd (cc e)), (λ e. absurd (cc e)))), tt), ((((λ e. absurd (cc e)), tt, (refl, tt)), tt), ((((λ e. absurd (cc e)), tt, (refl, tt)), tt), ((((λ e. absurd (cc e)), tt, refl), refl), ((((λ e. absurd (cc e)), tt, refl), refl), ((((λ e. absurd (cc e)), tt, (refl, tt)), tt), ((((λ e. absurd (cc e)), tt, (refl, tt)), tt), ((((λ e. absurd (cc e)), tt, refl), refl), ((((λ e. absurd (cc e)), tt, refl), refl), ((((λ e. absurd (cc e)), tt, (refl, tt)), tt), ((((λ e. absurd (cc e)), tt, (refl, tt)), tt), tt))))))))))))

runs_23 : IsNetworkRun disagree up_13 (comes_up 2 3)
runs_23 = ((((λ e. absurd (cc e)), tt, ((λ e. absurd (cc e)), (λ e. absurd (cc e)))), tt), ((((λ e. absurd (cc e)), tt, ((λ e. absurd (cc e)), (λ e. absurd (cc e)))), tt), ((((λ e. absurd (cc e)), tt, (refl, tt)), tt), ((((λ e. absurd (cc e)), tt, (refl, tt)), tt), ((((λ e. absurd (cc e)), tt, refl), refl), ((((λ e. absurd (cc e)), tt, refl), refl), ((((λ e. absurd (cc e)), tt, (refl, tt)), tt), ((((λ e. absurd (cc e)), tt, (refl, tt)), tt), ((((λ e. absurd (cc e)), tt, refl), refl), ((((λ e. absurd (cc e)), tt, refl), refl), ((((λ e. absurd (cc e)), tt, (refl, tt)), tt), ((((λ e. absurd (cc e)), tt, (refl, tt)), tt), tt))))))))))))

announces_runs : IsNetworkRun disagree up_23 announces
announces_runs = (tt, ((refl, (λ e. absurd (cc e))), (((λ e. absurd (cc e)), refl, refl, (λ e. absurd (cc e)), refl, refl, refl), (((λ e. absurd (cc e)), refl, refl, (λ e. absurd (cc e)), refl, refl, refl), ((((λ e. absurd (cc e)), tt, (refl, tt)), tt), ((((λ e. absurd (cc e)), tt, (refl, tt)), tt), ((refl, (λ e. absurd (cc e))), ((refl, (λ e. absurd (cc e))), (((λ e. absurd (cc e)), refl, refl, (λ e. absurd (cc e)), refl, refl, refl), (((λ e. absurd (cc e)), refl, refl, (λ e. absurd (cc e)), refl, refl, refl), ((((λ e. absurd (cc e)), tt, (refl, tt)), tt), ((((λ e. absurd (cc e)), tt, (refl, tt)), tt), tt))))))))))))

begins_run : IsRunOf disagree begins
begins_run =
    run_on (comes_up 1 2) (comes_up 1 3 ++ (comes_up 2 3 ++ announces)) (first_routers disagree) runs_12
    (run_on (comes_up 1 3) (comes_up 2 3 ++ announces) up_12 runs_13 (run_on (comes_up 2 3) announces up_13 runs_23 announces_runs))

-- ---- an UPDATE passes over a link

-- the last word of UPDATEs
last_is : (ms : List Note) (path word_before : List ℕ) → last_told disagree 7 word_before (ms ++ Update path ∷ []) ≡ path
last_is [] path before = refl
last_is (m ∷ ms) path before = last_is ms path _

-- two ends, of which each took all that the other appended, and each last told the other this path
record Facing (a b : End Note) (pa pb : List ℕ) : Type 0 where
  pub joined_a : a.phase ≡ Joined
  pub joined_b : b.phase ≡ Joined
  pub one : incarnation a ≡ incarnation b
  pub taken_a : length a.taken ≡ length b.appended
  pub taken_b : length b.taken ≡ length a.appended
  pub up_a : is_up a ≡ true
  pub up_b : is_up b ≡ true
  pub told_a : word disagree 7 (updates disagree (said (incarnation a) a.appended)) ≡ pa
  pub told_b : word disagree 7 (updates disagree (said (incarnation b) b.appended)) ≡ pb
  pub heard_a : word disagree 7 (updates disagree (said (incarnation a) a.used)) ≡ pb
  pub heard_b : word disagree 7 (updates disagree (said (incarnation b) b.used)) ≡ pa

back : (a b : End Note) (pa pb : List ℕ) → Facing a b pa pb → Facing b a pb pa
back a b pa pb f = record {
  joined_a = f.joined_b;
  joined_b = f.joined_a;
  one = sym f.one;
  taken_a = f.taken_b;
  taken_b = f.taken_a;
  up_a = f.up_b;
  up_b = f.up_a;
  told_a = f.told_b;
  told_b = f.told_a;
  heard_a = f.heard_b;
  heard_b = f.heard_a;
}

both_true : (p q : Bool) → (p && q) ≡ true → (p ≡ true) × (q ≡ true)
both_true true q h = (refl, h)
both_true false q h = absurd (cc h)

more_above : (n k : ℕ) → nat_lt 1 n ≡ true → n ≤ k → nat_lt 1 k ≡ true
more_above n k h l = grind (arith, nat_tests, h, l)

-- what is said in an incarnation by one entry more of it
said_one : (xs : List (Entry Note)) (n : ℕ) (m : Note) → said n (xs ++ Says n m ∷ []) ≡ said n xs ++ m ∷ []
said_one xs n m =
    let here : (n == n) ≡ true = grind (arith, nat_tests) in
    said-append n xs (Says n m ∷ []) ∙ ap (λ (c : Bool). said n xs ++ cond c (m ∷ []) []) here

longer : (ms : List Note) (m : Note) → length ms ≤ length (ms ++ m ∷ [])
longer ms m = omega (arith, length-append ms (m ∷ []))

word_one : (ms : List Note) (path : List ℕ) → word disagree 7 (updates disagree (ms ++ Update path ∷ [])) ≡ path
word_one ms path = ap (word disagree 7) (filter-append is_update ms (Update path ∷ [])) ∙ last_is (updates disagree ms) path []

-- an end that is up tells
module _ (a : End Note) (path : List ℕ) where
  abbrev telling : End Note
  telling = after a (Tells (Update path))

  stays : incarnation telling ≡ incarnation a
  stays = told_stays is_update a (Update path)

  told_now : word disagree 7 (updates disagree (said (incarnation telling) telling.appended)) ≡ path
  told_now =
      ap (λ (n : ℕ). word disagree 7 (updates disagree (said n telling.appended))) stays
      ∙ (ap (λ (ms : List Note). word disagree 7 (updates disagree ms)) (said_one a.appended (incarnation a) (Update path)) ∙ word_one (said (incarnation a) a.appended) path)

  heard_still : said (incarnation telling) telling.used ≡ said (incarnation a) a.used
  heard_still = ap (λ (n : ℕ). said n a.used) stays

  tells_up : is_up a ≡ true → is_up telling ≡ true
  tells_up up =
      let p = both_true (is_joined a.phase) (nat_lt 1 (length (said (incarnation a) a.used)) && nat_lt 1 (length (said (incarnation a) a.appended))) up in
      let q = both_true (nat_lt 1 (length (said (incarnation a) a.used))) (nat_lt 1 (length (said (incarnation a) a.appended))) p.1 in
      let used : nat_lt 1 (length (said (incarnation telling) telling.used)) ≡ true = ap (λ (ms : List Note). nat_lt 1 (length ms)) heard_still ∙ q.0 in
      let more : length (said (incarnation a) a.appended) ≤ length (said (incarnation telling) telling.appended) =
      omega (
        arith,
        longer (said (incarnation a) a.appended) (Update path),
        ap (λ (n : ℕ). length (said n telling.appended)) stays,
        ap (λ (ms : List Note). length ms) (said_one a.appended (incarnation a) (Update path)),
      ) in
      let appended : nat_lt 1 (length (said (incarnation telling) telling.appended)) ≡ true =
      more_above (length (said (incarnation a) a.appended)) (length (said (incarnation telling) telling.appended)) q.1 more in
      rw (p.0, used, appended) refl

-- an end that is joined takes what was told in its incarnation
module _ (b : End Note) (path : List ℕ) (n : ℕ) (joined : b.phase ≡ Joined) (same : incarnation b ≡ n) where
  abbrev hearing : End Note
  hearing = after b (Takes (Says n (Update path)))

  used_is : hearing.used ≡ b.used ++ Says n (Update path) ∷ []
  used_is =
      let here : (incarnation b == n) ≡ true = grind (arith, nat_tests, same) in
      ap (λ (ph : Phase). used_with ph (incarnation b) n (Update path) b.used) joined
      ∙ ap (λ (c : Bool). cond c (b.used ++ Says n (Update path) ∷ []) b.used) here

  said_used : said (incarnation hearing) hearing.used ≡ said n b.used ++ Update path ∷ []
  said_used = ap (λ (k : ℕ). said k hearing.used) same ∙ (ap (said n) used_is ∙ said_one b.used n (Update path))

  heard_now : word disagree 7 (updates disagree (said (incarnation hearing) hearing.used)) ≡ path
  heard_now = ap (λ (ms : List Note). word disagree 7 (updates disagree ms)) said_used ∙ word_one (said n b.used) path

  hears_up : is_up b ≡ true → is_up hearing ≡ true
  hears_up up =
      let p = both_true (is_joined b.phase) (nat_lt 1 (length (said (incarnation b) b.used)) && nat_lt 1 (length (said (incarnation b) b.appended))) up in
      let q = both_true (nat_lt 1 (length (said (incarnation b) b.used))) (nat_lt 1 (length (said (incarnation b) b.appended))) p.1 in
      let more : length (said (incarnation b) b.used) ≤ length (said (incarnation hearing) hearing.used) =
      omega (
        arith,
        longer (said n b.used) (Update path),
        ap (λ (k : ℕ). length (said k b.used)) same,
        ap (λ (ms : List Note). length ms) said_used,
      ) in
      let used : nat_lt 1 (length (said (incarnation hearing) hearing.used)) ≡ true =
      more_above (length (said (incarnation b) b.used)) (length (said (incarnation hearing) hearing.used)) q.0 more in
      rw (p.0, used, q.1) refl

-- both tell, and both take
exchanged : (a b : End Note) (pa pb qa qb : List ℕ) (n m : ℕ) → Facing a b pa pb → n ≡ incarnation a → m ≡ incarnation b
    → Facing (after (after a (Tells (Update qa))) (Takes (Says m (Update qb)))) (after (after b (Tells (Update qb))) (Takes (Says n (Update qa)))) qa qb
exchanged a b pa pb qa qb n m f na mb =
    let a1 : End Note = telling a qa in
    let b1 : End Note = telling b qb in
    let in_a : incarnation a1 ≡ m = stays a qa ∙ (f.one ∙ sym mb) in
    let in_b : incarnation b1 ≡ n = stays b qb ∙ (sym f.one ∙ sym na) in
    record {
      joined_a = f.joined_a;
      joined_b = f.joined_b;
      one = in_a ∙ (mb ∙ (sym f.one ∙ (sym na ∙ sym in_b)));
      taken_a = omega (arith, f.taken_a, length-append a.taken (Says m (Update qb) ∷ []), length-append b.appended (Says (incarnation b) (Update qb) ∷ []));
      taken_b = omega (arith, f.taken_b, length-append b.taken (Says n (Update qa) ∷ []), length-append a.appended (Says (incarnation a) (Update qa) ∷ []));
      up_a = hears_up a1 qb m f.joined_a in_a (tells_up a qa f.up_a);
      up_b = hears_up b1 qa n f.joined_b in_b (tells_up b qb f.up_b);
      told_a = told_now a qa;
      told_b = told_now b qb;
      heard_a = heard_now a1 qb m f.joined_a in_a;
      heard_b = heard_now b1 qa n f.joined_b in_b;
    }

-- what is taken is next
next_is : (xs : List (Entry Note)) (x : Entry Note) (n : ℕ) → n ≡ length xs → slice_get (xs ++ x ∷ []) n ≡ Some x
next_is xs x n e = ap (slice_get (xs ++ x ∷ [])) e ∙ at xs
  where
    at : (ys : List (Entry Note)) → slice_get (ys ++ x ∷ []) (length ys) ≡ Some x
    at [] = refl
    at (y ∷ ys) = at ys

-- ---- half a turn: routers 2 and 3 decide, tell each other and hear it

record Stands (w : States) (p2 p3 : List ℕ) : Type 0 where
  pub kept_2 : (w 2).kept 7 ≡ p2
  pub kept_3 : (w 3).kept 7 ≡ p3
  pub up_2 : is_up ((w 2).recorder.ends 1) ≡ true
  pub up_3 : is_up ((w 3).recorder.ends 1) ≡ true
  pub heard_2 : heard_word disagree (w 2).recorder.ends 1 7 ≡ 1 ∷ []
  pub heard_3 : heard_word disagree (w 3).recorder.ends 1 7 ≡ 1 ∷ []
  pub ends : Facing ((w 2).recorder.ends 3) ((w 3).recorder.ends 2) p2 p3

abbrev with_words : (v : ℕ) (one other : List ℕ) → ℕ → List ℕ
with_words v one other u = cond (u == 1) one (cond (u == v) other [])

abbrev paths_2 : List (List ℕ)
paths_2 = (2 ∷ 3 ∷ 1 ∷ []) ∷ (2 ∷ 1 ∷ []) ∷ []

abbrev paths_3 : List (List ℕ)
paths_3 = (3 ∷ 2 ∷ 1 ∷ []) ∷ (3 ∷ 1 ∷ []) ∷ []

route_2 : (ends : ℕ → End Note) (o : Bool) (path : List ℕ) → is_up (ends 1) ≡ true → heard_word disagree ends 1 7 ≡ 1 ∷ [] → is_up (ends 3) ≡ true → heard_word disagree ends 3 7 ≡ path
    → route disagree 2 ends 7 o ≡ first_choice paths_2 (with_words 3 (1 ∷ []) path)
route_2 ends o path up_1 heard_1 up_3 heard_3 = rw (up_1, heard_1, up_3, heard_3) refl

route_3 : (ends : ℕ → End Note) (o : Bool) (path : List ℕ) → is_up (ends 1) ≡ true → heard_word disagree ends 1 7 ≡ 1 ∷ [] → is_up (ends 2) ≡ true → heard_word disagree ends 2 7 ≡ path
    → route disagree 3 ends 7 o ≡ first_choice paths_3 (with_words 2 (1 ∷ []) path)
route_3 ends o path up_1 heard_1 up_2 heard_2 = rw (up_1, heard_1, up_2, heard_2) refl

module _ (w : States) (p2 p3 q2 q3 : List ℕ) (s : Stands w p2 p3) (best_2 : first_choice paths_2 (with_words 3 (1 ∷ []) p3) ≡ q2) (best_3 : first_choice paths_3 (with_words 2 (1 ∷ []) p2) ≡ q3)
    (other_2 : p2 ≢ q2) (other_3 : p3 ≢ q3) where
  abbrev in_2 : ℕ
  in_2 = incarnation ((w 2).recorder.ends 3)

  abbrev in_3 : ℕ
  in_3 = incarnation ((w 3).recorder.ends 2)

  abbrev half : Steps
  half =
      does 2 (Decide 7) ∷ does 3 (Decide 7) ∷ does 2 (Advertise 3 7 (Update q2)) ∷ does 3 (Advertise 2 7 (Update q3))
      ∷ moves 3 2 (Takes (Says in_2 (Update q2))) ∷ moves 2 3 (Takes (Says in_3 (Update q3))) ∷ []

  goes_2 : route disagree 2 (w 2).recorder.ends 7 ((w 2).originated 7) ≡ q2
  goes_2 = route_2 (w 2).recorder.ends ((w 2).originated 7) p3 s.up_2 s.heard_2 s.ends.up_a s.ends.heard_a ∙ best_2

  goes_3 : route disagree 3 (w 3).recorder.ends 7 ((w 3).originated 7) ≡ q3
  goes_3 = route_3 (w 3).recorder.ends ((w 3).originated 7) p2 s.up_3 s.heard_3 s.ends.up_b s.ends.heard_b ∙ best_3

  half_with : (more : Steps) → IsNetworkRun disagree (routers_after disagree w half) more → IsNetworkRun disagree w (half ++ more)
  half_with more run = (
    (refl, (λ e. other_2 (sym s.kept_2 ∙ (e ∙ goes_2)))),
    (
      (refl, (λ e. other_3 (sym s.kept_3 ∙ (e ∙ goes_3)))),
      (
        ((λ e. absurd (cc e)), refl, s.ends.up_a, (λ e. other_2 (sym s.ends.told_a ∙ (e ∙ goes_2))), refl, refl, ap (λ (path : List ℕ). (7, path) ∷ []) (sym goes_2)),
        (
          ((λ e. absurd (cc e)), refl, s.ends.up_b, (λ e. other_3 (sym s.ends.told_b ∙ (e ∙ goes_3))), refl, refl, ap (λ (path : List ℕ). (7, path) ∷ []) (sym goes_3)),
          (
            (((λ e. absurd (cc e)), tt, (next_is ((w 2).recorder.ends 3).appended (Says in_2 (Update q2)) (length ((w 3).recorder.ends 2).taken) s.ends.taken_b, tt)), tt),
            ((((λ e. absurd (cc e)), tt, (next_is ((w 3).recorder.ends 2).appended (Says in_3 (Update q3)) (length ((w 2).recorder.ends 3).taken) s.ends.taken_a, tt)), tt), run),
          ),
        ),
      ),
    ),
  )

  half_stands : Stands (routers_after disagree w half) q2 q3
  half_stands = record {
    kept_2 = goes_2;
    kept_3 = goes_3;
    up_2 = s.up_2;
    up_3 = s.up_3;
    heard_2 = s.heard_2;
    heard_3 = s.heard_3;
    ends = exchanged ((w 2).recorder.ends 3) ((w 3).recorder.ends 2) p2 p3 q2 q3 in_2 in_3 s.ends refl refl;
  }

-- ---- as often as one likes

-- from these routers on, router 2 changes its path so often
record Turns (n : ℕ) (w : States) : Type 0 where
  pub more : Steps
  pub run : IsNetworkRun disagree w more
  pub calm : AreCalm more
  pub often : (c : ℕ → ℕ) → n ≤ shifts disagree 7 2 (record { at = w; command = c }) (moments disagree 7 w more)

same_not : (b : Bool) → b ≡ false → 1 ≤ cond b 0 1
same_not true h = absurd (cc h)
same_not false h = omega arith

turn_on : (n : ℕ) (w : States) (p2 p3 q2 q3 : List ℕ) (s : Stands w p2 p3) (best_2 : first_choice paths_2 (with_words 3 (1 ∷ []) p3) ≡ q2) (best_3 : first_choice paths_3 (with_words 2 (1 ∷ []) p2) ≡ q3)
    → p2 ≢ q2 → p3 ≢ q3 → same_path p2 q2 ≡ false → ((z : States) → Stands z q2 q3 → Turns n z) → Turns (suc n) w
turn_on n w p2 p3 q2 q3 s best_2 best_3 other_2 other_3 apart rest =
    let steps : Steps = half w p2 p3 q2 q3 s best_2 best_3 other_2 other_3 in
    let z : States = routers_after disagree w steps in
    let next = rest z (half_stands w p2 p3 q2 q3 s best_2 best_3 other_2 other_3) in
    record {
      more = steps ++ next.more;
      run = half_with w p2 p3 q2 q3 s best_2 best_3 other_2 other_3 next.more next.run;
      calm = (tt, (tt, (tt, (tt, (tt, (tt, next.calm))))));
      often = λ c.
          (let first : same_path ((w 2).kept 7) ((advanced disagree w (does 2 (Decide 7)) 2).kept 7) ≡ false =
          ap (λ (x : List ℕ). same_path x ((advanced disagree w (does 2 (Decide 7)) 2).kept 7)) s.kept_2
          ∙ (ap (same_path p2) (goes_2 w p2 p3 q2 q3 s best_2 best_3 other_2 other_3) ∙ apart) in
          omega (arith, same_not (same_path ((w 2).kept 7) ((advanced disagree w (does 2 (Decide 7)) 2).kept 7)) first, next.often (commanded (moves 2 3 (Takes (Says (incarnation ((w 3).recorder.ends 2)) (Update q3)))))));
    }

-- the paths before each half of a turn
abbrev path_2 : Bool → List ℕ
path_2 false = 2 ∷ 1 ∷ []
path_2 true = 2 ∷ 3 ∷ 1 ∷ []

abbrev path_3 : Bool → List ℕ
path_3 false = 3 ∷ 1 ∷ []
path_3 true = 3 ∷ 2 ∷ 1 ∷ []

turns : (n : ℕ) (b : Bool) (w : States) → Stands w (path_2 b) (path_3 b) → Turns n w
turns zero b w s = record { more = []; run = tt; calm = tt; often = λ c. omega arith }
turns (suc n) false w s =
    turn_on n w (path_2 false) (path_3 false) (path_2 true) (path_3 true) s refl refl (λ e. absurd (omega (arith, ap length e))) (λ e. absurd (omega (arith, ap length e))) refl (turns n true)
turns (suc n) true w s =
    turn_on n w (path_2 true) (path_3 true) (path_2 false) (path_3 false) s refl refl (λ e. absurd (omega (arith, ap length e))) (λ e. absurd (omega (arith, ap length e))) refl (turns n false)

told_stands : Stands told (2 ∷ 1 ∷ []) (3 ∷ 1 ∷ [])
told_stands = record {
  kept_2 = refl;
  kept_3 = refl;
  up_2 = refl;
  up_3 = refl;
  heard_2 = refl;
  heard_3 = refl;
  ends = record {
    joined_a = refl;
    joined_b = refl;
    one = refl;
    taken_a = refl;
    taken_b = refl;
    up_a = refl;
    up_b = refl;
    told_a = refl;
    told_b = refl;
    heard_a = refl;
    heard_b = refl;
  };
}

told_is : reached disagree begins ≡ told
told_is = refl

pub disagree_turns_for_ever : DisagreeTurnsForEver
disagree_turns_for_ever = (
  begins_run,
  λ n. (let t = turns n false (reached disagree begins) (subst (λ (w : States). Stands w (2 ∷ 1 ∷ []) (3 ∷ 1 ∷ [])) (sym told_is) told_stands) in
      (t.more, t.run, t.calm, t.often (λ u. 0))),
)
