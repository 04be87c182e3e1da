-- The octets of an incarnation, and that nothing is said in it behind its end.
use Rattle.std.proofs.Common.{◌≡◌, ◌≢◌, ℕ, ◌<◌, ◌==◌, Bool, true, false, ◌&&◌, cond, List, [], ◌∷◌, ◌++◌, refl, ap, sym, ◌∙◌, subst, arith, append_assoc}
use Rattle.std.specs.Prelude.{nat_lt}
use mathlib.Core.List.{IsPrefix}
use Rattle.std.proofs.lemmas.Bool.Decides.{nat_tests}
use Rattle.run_model.specs.Links.{Entry, Dial, Says, Mark, Shut, Phase, Closed, Offered, Joined, End, Move, Dials, Tells, Marks, HangsUp, Takes, Ends, LinkStep, IsRun, May, after, moved, ends_after, opening, incarnation, greatest_dial, has_shut, said, answers, next_incarnation, phase_joining}
use Rattle.run_model.specs.Octets.{Passing, Octet, Control, octets_of, passing}
use Rattle.run_model.specs.Facts.{EndFacts}
use Rattle.run_model.specs.Streams.{all_written, octets_in, BeginningsPass, OctetsBeginWhatIsSaid, NothingSaidBehindShut, AllOctetsPass, UsedOctetsWereTaken, NoStaleOctetAtAnEnd, NoneDroppedAtAnEnd}
use Rattle.run_model.proofs.EntryLists.{greatest_dial-append, said-append, prefix_trans}
use Rattle.run_model.proofs.Incarnations.{shut-append, sound-no_shut}
use Rattle.run_model.proofs.LinkFacts.{AllEndFacts, facts_moved, answers_true}
use Rattle.run_model.proofs.IncarnationRuns.{first_facts, all_facts, answers_above}
use Rattle.run_model.proofs.OctetFacts.{no_stale_octet, none_stale}

joins_closed : (b : Bool) (p : Phase) → p ≡ Closed → cond b (phase_joining p) p ≡ Closed
joins_closed true Closed is = refl
joins_closed true Offered is = absurd (cc is)
joins_closed true Joined is = absurd (cc is)
joins_closed false p is = is

-- a beginning has a beginning of the octets
in_cond : (c : Bool) (b : ℕ) (xs ys : List ℕ) → IsPrefix xs ys → IsPrefix (cond c (b ∷ xs) xs) (cond c (b ∷ ys) ys)
in_cond true b xs ys p = (p.0, ap (λ w. b ∷ w) p.1)
in_cond false b xs ys p = p

in_end : (c : Bool) (xs ys : List ℕ) → IsPrefix xs ys → IsPrefix (cond c [] xs) (cond c [] ys)
in_end true xs ys p = ([], refl)
in_end false xs ys p = p

grow : (c : Bool) (bs xs ys : List ℕ) → IsPrefix xs ys → IsPrefix (cond c (bs ++ xs) xs) (cond c (bs ++ ys) ys)
grow true bs xs ys p = (p.0, append_assoc bs xs p.0 ∙ ap (λ w. bs ++ w) p.1)
grow false bs xs ys p = p

cut_off : (c : Bool) (xs ys : List ℕ) → IsPrefix xs ys → IsPrefix (cond c [] xs) ys
cut_off true xs ys p = (ys, refl)
cut_off false xs ys p = p

module _ {M : Type 0} where
  -- ---- nothing is said behind the end of an incarnation

  abbrev NoneBehind : List (Entry M) → Type 0
  NoneBehind [] = Unit {0}
  NoneBehind (Dial e ∷ xs) = NoneBehind xs
  NoneBehind (Says e m ∷ xs) = NoneBehind xs
  NoneBehind (Mark e n ∷ xs) = NoneBehind xs
  NoneBehind (Shut e ∷ xs) = (said e xs ≡ []) × NoneBehind xs

  none_front : (xs ys : List (Entry M)) → NoneBehind (xs ++ ys) → NoneBehind xs
  none_front [] ys n = tt
  none_front (Dial e ∷ xs) ys n = none_front xs ys n
  none_front (Says e m ∷ xs) ys n = none_front xs ys n
  none_front (Mark e k ∷ xs) ys n = none_front xs ys n
  none_front (Shut e ∷ xs) ys n = (empty_left (said e xs) (said e ys) (sym (said-append e xs ys) ∙ n.0), none_front xs ys n.1)
    where
      empty_left : (ps qs : List M) → ps ++ qs ≡ [] → ps ≡ []
      empty_left [] qs h = refl
      empty_left (p ∷ ps) qs h = absurd (cc h)

  none_at : (e : ℕ) (before behind : List (Entry M)) → NoneBehind (before ++ Shut e ∷ behind) → said e behind ≡ []
  none_at e [] behind n = n.0
  none_at e (Dial f ∷ before) behind n = none_at e before behind n
  none_at e (Says f m ∷ before) behind n = none_at e before behind n
  none_at e (Mark f k ∷ before) behind n = none_at e before behind n
  none_at e (Shut f ∷ before) behind n = none_at e before behind n.1

  -- an entry more, which is no message of an incarnation that ended
  none_more : (xs : List (Entry M)) (x : Entry M) → NoneBehind (x ∷ []) → ((e : ℕ) → has_shut e xs ≡ true → said e (x ∷ []) ≡ []) → NoneBehind xs → NoneBehind (xs ++ x ∷ [])
  none_more [] x one quiet n = one
  none_more (Dial e ∷ xs) x one quiet n = none_more xs x one quiet n
  none_more (Says e m ∷ xs) x one quiet n = none_more xs x one quiet n
  none_more (Mark e k ∷ xs) x one quiet n = none_more xs x one quiet n
  none_more (Shut e ∷ xs) x one quiet n =
      let hit : (e == e) ≡ true = grind (arith, nat_tests) in
      (said-append e xs (x ∷ []) ∙ (ap (λ w. w ++ said e (x ∷ [])) n.0 ∙ quiet e (rw hit refl)), none_more xs x one (λ k h. quiet k (deeper (k == e) (has_shut k xs) h)) n.1)
    where
      deeper : (p q : Bool) → q ≡ true → cond p true q ≡ true
      deeper true q h = refl
      deeper false q h = h

  -- an end that is not closed has not ended its incarnation
  record Late (a : End M) : Type 0 where
    none : NoneBehind a.appended
    goes_on : a.phase ≢ Closed → has_shut (incarnation a) a.appended ≡ false

  late_move : (a b : End M) (x : Move M) → May a b x → EndFacts a b → Late a → Late (after a x)
  late_move a b Dials may g l =
      let above : greatest_dial a.appended < next_incarnation a = answers_true a (answers a) refl in
      let now : greatest_dial (a.appended ++ Dial (next_incarnation a) ∷ []) ≡ next_incarnation a = omega (arith, greatest_dial-append a.appended (Dial (next_incarnation a) ∷ []), above) in
      let fresh : has_shut (next_incarnation a) a.appended ≡ false = sound-no_shut (next_incarnation a) 0 a.appended g.sound (omega (arith, above)) in
      record {
        none = none_more a.appended (Dial (next_incarnation a)) tt (λ e h. refl) l.none;
        goes_on = λ n. ap (λ i. has_shut i (a.appended ++ Dial (next_incarnation a) ∷ [])) now ∙ (shut-append (next_incarnation a) a.appended (Dial (next_incarnation a) ∷ []) ∙ ap (λ c. cond c true false) fresh);
      }
  late_move a b (Tells m) may g l =
      let n : ℕ = greatest_dial a.appended in
      let same : greatest_dial (a.appended ++ Says n m ∷ []) ≡ n = omega (arith, greatest_dial-append a.appended (Says n m ∷ [])) in
      let on : has_shut n a.appended ≡ false = l.goes_on (λ c. cc (c, may)) in
      record {
        none = none_more a.appended (Says n m) tt (λ e h. at (e == n) e refl h on) l.none;
        goes_on = λ k. ap (λ i. has_shut i (a.appended ++ Says n m ∷ [])) same ∙ (shut-append n a.appended (Says n m ∷ []) ∙ ap (λ c. cond c true false) on);
      }
    where
      at : (c : Bool) (e : ℕ) → (e == greatest_dial a.appended) ≡ c → has_shut e a.appended ≡ true → has_shut (greatest_dial a.appended) a.appended ≡ false → said e (Says (greatest_dial a.appended) m ∷ []) ≡ []
      at true e is h on = absurd (let to : e ≡ greatest_dial a.appended = grind (arith, nat_tests, is) in let k : has_shut (greatest_dial a.appended) a.appended ≡ true = ap (λ i. has_shut i a.appended) (sym to) ∙ h in cc (k, on))
      at false e is h on = rw is refl
  late_move a b (Marks s) may g l =
      let n : ℕ = greatest_dial a.appended in
      let same : greatest_dial (a.appended ++ Mark n s ∷ []) ≡ n = omega (arith, greatest_dial-append a.appended (Mark n s ∷ [])) in
      record {
        none = none_more a.appended (Mark n s) tt (λ e h. refl) l.none;
        goes_on = λ k. ap (λ i. has_shut i (a.appended ++ Mark n s ∷ [])) same ∙ (shut-append n a.appended (Mark n s ∷ []) ∙ ap (λ c. cond c true false) (l.goes_on k));
      }
  late_move a b HangsUp may g l = record { none = none_more a.appended (Shut (greatest_dial a.appended)) (refl, tt) (λ e h. refl) l.none; goes_on = λ n. absurd (n refl) }
  late_move a b (Takes (Dial e)) may g l =
      record { none = l.none; goes_on = λ n. l.goes_on (λ c. n (joins_closed (nat_lt (greatest_dial a.taken) e && (e == greatest_dial a.appended)) a.phase c)) }
  late_move a b (Takes (Says e m)) may g l = record { none = l.none; goes_on = l.goes_on }
  late_move a b (Takes (Mark e s)) may g l = record { none = l.none; goes_on = l.goes_on }
  late_move a b (Takes (Shut e)) may g l = record { none = l.none; goes_on = l.goes_on }

  late_step : (w : Ends M) (m : LinkStep M) (u v : ℕ) (b c : Bool) → (u == m.router) ≡ b → (v == m.peer) ≡ c → AllEndFacts w → u ≢ v → May (w m.router m.peer) (w m.peer m.router) m.move → Late (w u v)
      → Late (cond b (cond c (after (w u v) m.move) (w u v)) (w u v))
  late_step w m u v true true bi ci s apart may l =
      let to_u : m.router ≡ u = grind (arith, nat_tests, bi) in
      let to_v : m.peer ≡ v = grind (arith, nat_tests, ci) in
      late_move (w u v) (w v u) m.move (rw (to_u, to_v) at may) (s u v apart) l
  late_step w m u v true false bi ci s apart may l = l
  late_step w m u v false c bi ci s apart may l = l

  late_run : (ms : List (LinkStep M)) (w : Ends M) → AllEndFacts w → ((u v : ℕ) → u ≢ v → Late (w u v)) → IsRun w ms → (u v : ℕ) → u ≢ v → Late (ends_after w ms u v)
  late_run [] w s l r u v apart = l u v apart
  late_run (m ∷ ms) w s l r u v apart =
      late_run ms (moved w m) (facts_moved w m s r.1) (λ x y d. late_step w m x y (x == m.router) (y == m.peer) refl refl s d r.1 (l x y d)) r.2 u v apart

  ends_late : (ms : List (LinkStep M)) → IsRun opening ms → (u v : ℕ) → u ≢ v → Late (ends_after opening ms u v)
  ends_late ms r u v apart = late_run ms opening first_facts (λ x y d. record { none = tt; goes_on = λ n. absurd (n refl) }) r u v apart

  pub nothing_said_behind_shut : NothingSaidBehindShut M
  nothing_said_behind_shut moves r u v e apart before behind is = none_at e before behind (subst NoneBehind is (ends_late moves r u v apart).none)

  -- ---- octets of an incarnation, up to its end

  piece_in : (c : Bool) (e f : ℕ) (bs : List ℕ) (xs : List (Passing M)) → (e == f) ≡ c → octets_in e (octets_of f bs ++ xs) ≡ cond c (bs ++ octets_in e xs) (octets_in e xs)
  piece_in true e f [] xs is = refl
  piece_in false e f [] xs is = refl
  piece_in true e f (b ∷ bs) xs is = ap (λ c. cond c (b ∷ octets_in e (octets_of f bs ++ xs)) (octets_in e (octets_of f bs ++ xs))) is ∙ ap (λ w. b ∷ w) (piece_in true e f bs xs is)
  piece_in false e f (b ∷ bs) xs is = ap (λ c. cond c (b ∷ octets_in e (octets_of f bs ++ xs)) (octets_in e (octets_of f bs ++ xs))) is ∙ piece_in false e f bs xs is

  in_front : (e : ℕ) (xs ys : List (Passing M)) → IsPrefix (octets_in e xs) (octets_in e (xs ++ ys))
  in_front e [] ys = (octets_in e ys, refl)
  in_front e (Octet f b ∷ xs) ys = in_cond (e == f) b (octets_in e xs) (octets_in e (xs ++ ys)) (in_front e xs ys)
  in_front e (Control (Dial f) ∷ xs) ys = in_front e xs ys
  in_front e (Control (Says f m) ∷ xs) ys = in_front e xs ys
  in_front e (Control (Mark f n) ∷ xs) ys = in_front e xs ys
  in_front e (Control (Shut f) ∷ xs) ys = in_end (e == f) (octets_in e xs) (octets_in e (xs ++ ys)) (in_front e xs ys)

  pub beginnings_pass : BeginningsPass M
  beginnings_pass e xs ys p = subst (λ l. IsPrefix (octets_in e xs) (octets_in e l)) p.1 (in_front e xs p.0)

  -- ---- and of what is said

  said_octets : (written : M → List ℕ) (c : Bool) (m : M) (ms : List M) → all_written written (cond c (m ∷ ms) ms) ≡ cond c (written m ++ all_written written ms) (all_written written ms)
  said_octets written true m ms = refl
  said_octets written false m ms = refl

  -- what passes of an incarnation is a beginning of what is said in it
  in_said : (written : M → List ℕ) (e : ℕ) (xs : List (Entry M)) → IsPrefix (octets_in e (passing written xs)) (all_written written (said e xs))
  in_said written e [] = ([], refl)
  in_said written e (Dial f ∷ xs) = in_said written e xs
  in_said written e (Says f m ∷ xs) =
      subst (λ l. IsPrefix l (all_written written (said e (Says f m ∷ xs)))) (sym (piece_in (e == f) e f (written m) (passing written xs) refl))
      (subst (λ l. IsPrefix (cond (e == f) (written m ++ octets_in e (passing written xs)) (octets_in e (passing written xs))) l) (sym (said_octets written (e == f) m (said e xs))) (grow (e == f) (written m) (octets_in e (passing written xs)) (all_written written (said e xs)) (in_said written e xs)))
  in_said written e (Mark f n ∷ xs) = in_said written e xs
  in_said written e (Shut f ∷ xs) = cut_off (e == f) (octets_in e (passing written xs)) (all_written written (said e xs)) (in_said written e xs)

  pub octets_begin_what_is_said : OctetsBeginWhatIsSaid M
  octets_begin_what_is_said written e entries passed p =
      prefix_trans (octets_in e passed) (octets_in e (passing written entries)) (all_written written (said e entries)) (beginnings_pass e passed (passing written entries) p) (in_said written e entries)

  -- and all of it, where nothing is said behind its end
  shut_all : (written : M → List ℕ) (c : Bool) (e f : ℕ) (xs : List (Entry M)) (os : List ℕ) → (e == f) ≡ c → said f xs ≡ [] → os ≡ all_written written (said e xs) → cond c [] os ≡ all_written written (said e xs)
  shut_all written true e f xs os is none same = (let to : f ≡ e = grind (arith, nat_tests, is) in sym (ap (all_written written) (ap (λ i. said i xs) (sym to) ∙ none)))
  shut_all written false e f xs os is none same = same

  all_said : (written : M → List ℕ) (e : ℕ) (xs : List (Entry M)) → NoneBehind xs → octets_in e (passing written xs) ≡ all_written written (said e xs)
  all_said written e [] n = refl
  all_said written e (Dial f ∷ xs) n = all_said written e xs n
  all_said written e (Says f m ∷ xs) n =
      piece_in (e == f) e f (written m) (passing written xs) refl ∙ (ap (λ w. cond (e == f) (written m ++ w) w) (all_said written e xs n) ∙ sym (said_octets written (e == f) m (said e xs)))
  all_said written e (Mark f k ∷ xs) n = all_said written e xs n
  all_said written e (Shut f ∷ xs) n = shut_all written (e == f) e f xs (octets_in e (passing written xs)) refl n.0 (all_said written e xs n.1)

  pub all_octets_pass : AllOctetsPass M
  all_octets_pass written moves r u v e apart entries front =
      all_said written e entries (none_front entries front.0 (subst NoneBehind (sym front.1) (ends_late moves r u v apart).none))

  octets_append : (written : M → List ℕ) (xs ys : List M) → all_written written (xs ++ ys) ≡ all_written written xs ++ all_written written ys
  octets_append written [] ys = refl
  octets_append written (x ∷ xs) ys = ap (λ w. written x ++ w) (octets_append written xs ys) ∙ sym (append_assoc (written x) (all_written written xs) (all_written written ys))

  octets_front : (written : M → List ℕ) (xs ys : List M) → IsPrefix xs ys → IsPrefix (all_written written xs) (all_written written ys)
  octets_front written xs ys p = (all_written written p.0, sym (octets_append written xs p.0) ∙ ap (all_written written) p.1)

  pub used_octets_were_taken : UsedOctetsWereTaken M
  used_octets_were_taken written moves r u v e apart rest =
      let a : End M = ends_after opening moves u v in
      let g = all_facts moves r u v apart in
      let all : octets_in e (passing written a.taken) ≡ all_written written (said e a.taken) = all_octets_pass written moves r v u e (λ q. apart (sym q)) a.taken g.front in
      prefix_trans (all_written written (said e a.used)) (octets_in e (passing written a.taken)) (octets_in e (passing written a.taken ++ rest))
      (subst (λ l. IsPrefix (all_written written (said e a.used)) l) (sym all) (octets_front written (said e a.used) (said e a.taken) (g.begins e)))
      (in_front e (passing written a.taken) rest)

  -- ---- of two ends

  pub none_dropped_at_an_end : NoneDroppedAtAnEnd M
  none_dropped_at_an_end written a b mine theirs answer dropped only is =
      none_stale written a.taken b.appended dropped mine.front theirs.sound (theirs.told (greatest_dial a.taken) (answers_above a answer)) only is

module _ {M : Type 0} (frame : List ℕ → Type 0) where
  pub no_stale_at_an_end : NoStaleOctetAtAnEnd M frame
  no_stale_at_an_end written code a b mine theirs heard all e octet octets held whole is =
      no_stale_octet frame written code a.taken b.appended (greatest_dial a.appended) e octet octets held all mine.front theirs.sound heard whole is
