-- How many calm events there can be: each leaves less to do, but for decisions, and these change a kept path.
use Rattle.std.proofs.Common.{◌≡◌, ◌-◌, ℕ, zero, suc, ◌+◌, ◌*◌, ◌<◌, ◌≤◌, ◌==◌, Bool, true, false, not, cond, List, [], ◌∷◌, ◌++◌, length, map, refl, ap, sym, ◌∙◌, subst, arith, inl, inr, get_or, Option, None, Some}
use Rattle.std.specs.Prelude.{if◌then◌else◌, is_some, nat_eq}
use Rattle.std.proofs.lemmas.List.{length-map}
use Rattle.std.proofs.Math.Nat.{mul-le-mul_left, mul-suc}
use Rattle.prefix_lanes.specs.Bits.{PrefixView, is_prefix}
use Rattle.ranked_policy.specs.declared.network.Link.{Link}
use Rattle.ranked_policy.specs.declared.network.Origin.{Origin}
use Rattle.ranked_policy.specs.Plans.{IsRouter, IsNamed, numbers}
use Rattle.ranked_policy.specs.Tests as tests
use Rattle.ranked_policy.proofs.TestLemmas.{prefix_test}
use Rattle.run_model.specs.Network as runs
use Rattle.run_model.specs.Network.{NetworkEvent, alone, puts, takes, offers}
use Rattle.outbox.specs.declared.item.What.{What}
use Rattle.snap_marker.specs.Recordings.{MadeOffer}
use Rattle.session_fsm.specs.declared.state.State.{State}
use Rattle.router_model.specs.Settings.{Setting, IsSetting, linked, joins, names, prefixes}
use Rattle.router_model.specs.State.{Router, same_path, best_path, undecided, is_undecided}
use Rattle.router_model.specs.Step.{Own, Obeys, Ticks, Handles, Decides, Advertises, RouterEvent, May, after, keeping}
use Rattle.router_runs.specs.Runs.{RunOrder, RunState, IsRunTo, logged_steps, side_of, log_of}
use Rattle.router_runs.specs.Mirrors.{EachSettingHasItsModel, is_table_command, table_commands_at}
use Rattle.router_runs.specs.Said.{RunsKeep, Kept}
use Rattle.dispute_wheels.specs.Counting.{sum_over}
use Rattle.dispute_wheels.specs.Tests.{paths_of}
use Rattle.wheel_runs.specs.Changes.{RunsChangeSeldom, SafeRunsAreBounded, states_of, changes_by, kept_by, run_changes, first_state}
use Rattle.rest_runs.specs.Calm.{IsCalm, AreCalm}
use Rattle.rest_runs.specs.Resting.{sum_of, changes_in, AllAreSafe, CalmRunsDialNoHigher, CalmRunsChangeOrEnd, CalmRunsEnd}
use Rattle.rest_runs.specs.Counted.{greatest_mark, Within, waits_towards, jobs, side_work, marker_work, work, cost, all_bounds, CalmRunsAreCounted, BoundedCalmRunsAreCounted}
use Rattle.rest_runs.proofs.Rows.{height}
use Rattle.rest_runs.proofs.Drafts.{tall}
use Rattle.rest_runs.proofs.Weights.{unsaid_most}
use Rattle.rest_runs.proofs.Peaks.{marks_are}
use Rattle.rest_runs.proofs.Numbers.{times, Among, sum_has, any_of, found, numbered, or_true, own, both_true, sum_below}
use Rattle.rest_runs.proofs.Links.{Laws, Level, left, each_choice, is_choice, falls, stays_level, joined, way, both, records_left}

-- ---- products and sums

times_more : (a b c : ℕ) → times (a + b) c ≡ times a c + times b c
times_more zero b c = (let e : zero + b ≡ b = omega arith in let k = ap (λ n. times n c) e in omega (arith, k))
times_more (suc a) b c = (let e : suc a + b ≡ suc (a + b) = omega arith in let k = ap (λ n. times n c) e in omega (arith, k, times_more a b c))

times_are : (a c : ℕ) → times a c ≡ c * a
times_are zero c = omega arith
times_are (suc a) c = (let k : c * suc a ≡ c * a + c = mul-suc c a in omega (arith, times_are a c, k))

choice_most : (a : RouterEvent) (n c : ℕ) → is_choice a ≤ n → is_choice a * c ≤ times n c
choice_most (alone Decides) zero c most = absurd (omega (arith, most))
choice_most (alone Decides) (suc n) c most = omega arith
choice_most (alone (Handles w)) n c most = omega arith
choice_most (alone (Advertises w)) n c most = omega arith
choice_most (alone (Obeys k)) n c most = omega arith
choice_most (alone Ticks) n c most = omega arith
choice_most (puts w i) n c most = omega arith
choice_most (takes w i) n c most = omega arith
choice_most (offers made) n c most = omega arith

sum_splits : {A : Type 0} (f h : A → ℕ) (xs : List A) → sum_of (λ x. f x + h x) xs ≡ sum_of f xs + sum_of h xs
sum_splits f h [] = refl
sum_splits f h (x ∷ xs) = omega (arith, sum_splits f h xs)

sum_alike : {A : Type 0} (f h : A → ℕ) (xs : List A) → ((x : A) → f x ≡ h x) → sum_of f xs ≡ sum_of h xs
sum_alike f h [] same = refl
sum_alike f h (x ∷ xs) same = omega (arith, same x, sum_alike f h xs same)

sum_under : {A : Type 0} (f h : A → ℕ) (xs : List A) → ((x : A) → f x ≤ h x) → sum_of f xs ≤ sum_of h xs
sum_under f h [] below = omega arith
sum_under f h (x ∷ xs) below = omega (arith, below x, sum_under f h xs below)

-- ---- changes of kept paths

module _ (g : Setting) where
  abbrev us : List ℕ
  us = numbers g.net.routers

  abbrev far : List ℕ → List ℕ → ℕ
  far a b = cond (tests.same_path a b) 0 1

  -- how many kept paths differ between two states
  abbrev pub shift : RunState → RunState → ℕ
  shift old new = sum_of (λ u. sum_of (λ q. far (kept_by q u old) (kept_by q u new)) (prefixes g)) us

  one_more : (d : NetworkEvent Own What MadeOffer) (ds : RunOrder) (old last : RunState) (run : runs.Run (logged_steps g) old (d ∷ ds) last)
      → changes_in g (d ∷ ds) old last run ≡ shift old run.0 + changes_in g ds run.0 last run.2
  one_more d ds old last run =
      sum_alike (λ u. sum_of (λ q. changes_by q u old (states_of g (d ∷ ds) old last run)) (prefixes g))
      (λ u. sum_of (λ q. far (kept_by q u old) (kept_by q u run.0)) (prefixes g) + sum_of (λ q. changes_by q u run.0 (states_of g ds run.0 last run.2)) (prefixes g)) us
      (λ u. sum_splits (λ q. far (kept_by q u old) (kept_by q u run.0)) (λ q. changes_by q u run.0 (states_of g ds run.0 last run.2)) (prefixes g))
      ∙ sum_splits (λ u. sum_of (λ q. far (kept_by q u old) (kept_by q u run.0)) (prefixes g)) (λ u. sum_of (λ q. changes_by q u run.0 (states_of g ds run.0 last run.2)) (prefixes g)) us

  -- ---- a decision changes a kept path

  same_so : (a b : List ℕ) → tests.same_path a b ≡ true → same_path a b ≡ true
  same_so [] [] h = refl
  same_so [] (v ∷ b) h = absurd cc
  same_so (u ∷ a) [] h = absurd cc
  same_so (u ∷ a) (v ∷ b) h =
      let k = both_true (u == v) (tests.same_path a b) h in
      let e : nat_eq u v ≡ true = k.0 in
      rw (e, same_so a b k.1) refl

  far_if : (a b : List ℕ) (c : Bool) → tests.same_path a b ≡ c → not (same_path a b) ≡ true → far a b ≡ 1
  far_if a b true is off = absurd (let e = ap not (same_so a b is) ∙ refl in let k = sym off ∙ e in cc k)
  far_if a b false is off = ap (λ (t : Bool). cond t 0 1) is

  module _ (old new : RunState) (d : NetworkEvent Own What MadeOffer) (step : runs.NetworkStep (logged_steps g) old d new) where
    abbrev x : Router
    x = (old.routers d.router).router

    kept_new : (new.routers d.router).router ≡ after g d.router x d.event
    kept_new =
        ap (λ (s : RunState). (s.routers d.router).router) step.2 ∙ ap (λ (b : Bool). (if b then step.0 else old.routers d.router).router) (own d.router)
        ∙ step.1.step.leaves

    decided : (o : Option PrefixView) → undecided g d.router x ≡ o → is_some o ≡ true → d.event ≡ alone Decides → 1 ≤ shift old new
    decided None is some e = absurd cc
    decided (Some q) is some e =
        let f = found (is_undecided g d.router x) (prefixes g) q is in
        let best : List ℕ = best_path g d.router x q in
        let left : after g d.router x d.event ≡ keeping x (Some q) (best_path g d.router x) =
        ap (after g d.router x) e ∙ ap (λ (o : Option PrefixView). keeping x o (best_path g d.router x)) is in
        let self : is_prefix q q ≡ true = (prefix_test q q).1 refl in
        let kept : kept_by q d.router new ≡ best = ap (λ (r : Router). r.kept q) (kept_new ∙ left) ∙ ap (λ (b : Bool). cond b best (x.kept q)) self in
        let apart : far (x.kept q) best ≡ 1 = far_if (x.kept q) best (tests.same_path (x.kept q) best) refl f.1 in
        omega (
          arith,
          ap (far (x.kept q)) kept,
          apart,
          sum_has (λ p. far (kept_by p d.router old) (kept_by p d.router new)) (prefixes g) q f.0,
          sum_has (λ u. sum_of (λ p. far (kept_by p u old) (kept_by p u new)) (prefixes g)) us d.router (numbered us step.1.known.0 d.router step.1.known.1 step.1.known.2),
        )

    pub choices_shift : is_choice d.event ≤ shift old new
    choices_shift = at d.event refl
      where
        at : (a : RouterEvent) → d.event ≡ a → is_choice a ≤ shift old new
        at (alone Decides) is = decided (undecided g d.router x) refl (subst (λ (a : RouterEvent). May g d.router x a) is step.1.step.may) is
        at (alone (Handles w)) is = omega arith
        at (alone (Advertises w)) is = omega arith
        at (alone (Obeys k)) is = omega arith
        at (alone Ticks) is = omega arith
        at (puts w i) is = omega arith
        at (takes w i) is = omega arith
        at (offers made) is = omega arith

  -- ---- one run behind another

  pub record Joined (before later : RunOrder) (old mid last : RunState) (run : runs.Run (logged_steps g) mid later last) : Type 0 where
    pub whole : runs.Run (logged_steps g) old (before ++ later) last
    pub more : changes_in g later mid last run ≤ changes_in g (before ++ later) old last whole

  pub join : (before later : RunOrder) (old mid last : RunState) → runs.Run (logged_steps g) old before mid → (run : runs.Run (logged_steps g) mid later last) → Joined before later old mid last run
  join [] later old mid last r run =
      subst (λ (i : RunState). Joined [] later i mid last run) (sym r) (record { whole = run; more = omega arith })
  join (d ∷ ds) later old mid last r run =
      let k = join ds later r.0 mid last r.2 run in
      record {
        whole = (r.0, r.1, k.whole);
        more = omega (arith, k.more, one_more d (ds ++ later) old last (r.0, r.1, k.whole));
      }

  -- ---- commands

  one_command : (e : RouterEvent) → is_table_command e ≤ 1
  one_command e = grind arith

  no_command : (e : RouterEvent) → IsCalm e → is_table_command e ≡ 0
  no_command (alone (Obeys c)) is = absurd is
  no_command (alone Ticks) is = absurd is
  no_command (alone (Handles w)) is = refl
  no_command (alone (Advertises w)) is = refl
  no_command (alone Decides) is = refl
  no_command (puts w i) is = refl
  no_command (takes w i) is = refl
  no_command (offers made) is = refl

  if_less : (b : Bool) (n m : ℕ) → n ≤ m → cond b n 0 ≤ m
  if_less true n m h = h
  if_less false n m h = omega arith

  calm_commands : (v : ℕ) (later : RunOrder) → AreCalm later → table_commands_at v later ≤ 0
  calm_commands v [] is = omega arith
  calm_commands v (d ∷ ds) is = omega (arith, calm_commands v ds is.1, if_less (v == d.router) (is_table_command d.event) 0 (omega (arith, no_command d.event is.0)))

  few_commands : (v : ℕ) (order later : RunOrder) → AreCalm later → table_commands_at v (order ++ later) ≤ length order
  few_commands v [] later is = calm_commands v later is
  few_commands v (d ∷ ds) later is = omega (arith, few_commands v ds later is, if_less (v == d.router) (is_table_command d.event) 1 (one_command d.event))

-- ---- what all links have, and all routers

module _ (g : Setting) (st : RunState) where
  -- what both directions of a link have, for each link
  abbrev over_links : (ℕ → ℕ → ℕ) → ℕ
  over_links f = sum_of (λ (l : Link). f l.one l.other + f l.other l.one) g.net.links

  link_of : (f : ℕ → ℕ → ℕ) (u v : ℕ) (l : Link) → joins u v l ≡ true → f u v ≤ f l.one l.other + f l.other l.one
  link_of f u v l h = elim (joined u v l h) [
    | inl same ↦ omega (arith, ap (λ (k : ℕ). f k l.other) same.0, ap (λ (k : ℕ). f u k) same.1)
    | inr same ↦ omega (arith, ap (λ (k : ℕ). f l.other k) same.0, ap (λ (k : ℕ). f k v) same.1)
  ]

  within : (f : ℕ → ℕ → ℕ) (u v : ℕ) → linked g.net u v ≡ true → f u v ≤ over_links f
  within f u v near =
      let l = any_of (joins u v) g.net.links near in
      omega (arith, link_of f u v l.0 l.2, sum_has (λ (k : Link). f k.one k.other + f k.other k.one) g.net.links l.0 l.1)

  abbrev dialled_most : ℕ
  dialled_most = over_links (λ u v. (side_of st u v).link.epoch)

  abbrev marks_most : ℕ
  marks_most = over_links (λ u v. greatest_mark (log_of st u v)) + sum_of (λ u. (st.routers u).router.snapshots.last) (numbers g.net.routers)

  within_all : (most : ℕ) → ((u v : ℕ) → linked g.net u v ≡ true → (side_of st u v).link.epoch ≤ most) → Within g st most marks_most
  within_all most low = record {
    dialled = low;
    marked = λ u v near. omega (arith, within (λ a b. greatest_mark (log_of st a b)) u v near);
    recorded = λ u known. omega (arith, sum_has (λ a. (st.routers a).router.snapshots.last) (numbers g.net.routers) u (numbered (numbers g.net.routers) known.0 u known.1 known.2));
  }

-- ---- what is left is no more than the work

times_below : (a b c : ℕ) → a ≤ b → times a c ≤ times b c
times_below zero b c below = omega arith
times_below (suc a) zero c below = absurd (omega (arith, below))
times_below (suc a) (suc b) c below = omega (arith, times_below a b c (omega (arith, below)))

height_most : (st : State) → height st ≤ 5
height_most st = grind arith

sum_const : {A : Type 0} (c : ℕ) (f : A → ℕ) (xs : List A) → sum_of (λ x. c + f x) xs ≡ c * length xs + sum_of f xs
sum_const c f [] = omega arith
sum_const c f (x ∷ xs) = (let k : c * suc (length xs) ≡ c * length xs + c = mul-suc c (length xs) in omega (arith, sum_const c f xs, k))

module _ (laws : Laws) (g : Setting) (set : IsSetting g) (M K : ℕ) (st : RunState) where
  way_few : (a b : ℕ) → way laws g set M K st a b ≤ side_work g M K + waits_towards st a b
  way_few a b =
      let s = side_of st a b in
      let tallest : tall M s.session.state s.link.epoch ≤ 10 * M + 10 = omega (arith, height_most s.session.state) in
      omega (
        arith,
        tallest,
        times_below (tall M s.session.state s.link.epoch) (10 * M + 10) (length (prefixes g)) tallest,
        times_are (10 * M + 10) (length (prefixes g)),
        unsaid_most (prefixes g) s (st.routers a).router.kept,
      )

  records_few : (u : ℕ) → records_left laws g set M K st u ≤ marker_work g M K + jobs (st.routers u).router.snapshots
  records_few u =
      let size : times (length g.net.links) 12288 + 2 ≡ 12288 * length g.net.links + 2 = omega (arith, times_are (length g.net.links) 12288) in
      omega (
        arith,
        times_below (K - (st.routers u).router.snapshots.last) K (times (length g.net.links) 12288 + 2) (omega arith),
        times_are K (times (length g.net.links) 12288 + 2),
        ap (λ (n : ℕ). n * K) size,
      )

  pub left_few : left laws g set M K st ≤ work g M K st
  left_few =
      let pairs = sum_under (λ (l : Link). both laws g set M K st l.one l.other) (λ (l : Link). 2 * side_work g M K + (waits_towards st l.one l.other + waits_towards st l.other l.one)) g.net.links
      (λ l. omega (arith, way_few l.one l.other, way_few l.other l.one)) in
      let all = sum_const (2 * side_work g M K) (λ (l : Link). waits_towards st l.one l.other + waits_towards st l.other l.one) g.net.links in
      let each = sum_under (records_left laws g set M K st) (λ u. marker_work g M K + jobs (st.routers u).router.snapshots) (numbers g.net.routers) records_few in
      let routers = sum_const (marker_work g M K) (λ u. jobs (st.routers u).router.snapshots) (numbers g.net.routers) in
      let long = ap (λ (n : ℕ). marker_work g M K * n) (length-map g.net.routers (λ r. r.asn)) in
      omega (arith, pairs, all, each, routers, long)

module _ (laws : Laws) (runs_keep : RunsKeep) where
  -- ---- a stretch of calm events

  module _ (g : Setting) (set : IsSetting g) (M K : ℕ) where
    record Stretch (at last : RunState) (later : RunOrder) (run : runs.Run (logged_steps g) at later last) : Type 0 where
      level : Level laws g set M K last
      few : length later + left laws g set M K last ≤ left laws g set M K at + times (changes_in g later at last run) (each_choice laws g set M K)

    stretch : (later order : RunOrder) (at last : RunState) → IsRunTo g order at → Level laws g set M K at → (run : runs.Run (logged_steps g) at later last) → AreCalm later → Stretch at last later run
    stretch [] order at last reached level run is =
        record { level = subst (λ (i : RunState). Level laws g set M K i) run level; few = omega (arith, sym (ap (left laws g set M K) run)) }
    stretch (d ∷ ds) order at last reached level run is =
        let next : RunState = run.0 in
        let longer : IsRunTo g (order ++ d ∷ []) next = (join g order (d ∷ []) (first_state g) at next reached (next, run.1, refl)).whole in
        let kept : Kept g next = runs_keep g set (order ++ d ∷ []) next longer in
        let fell = falls laws g set M K at next d is.0 run.1 level kept in
        let after = stays_level laws g set M K at next d is.0 run.1 level kept in
        let rest = stretch ds (order ++ d ∷ []) next last longer after run.2 is.1 in
        let c = each_choice laws g set M K in
        record {
          level = rest.level;
          few = omega (
            arith,
            rest.few,
            fell,
            choice_most d.event (shift g at next) c (choices_shift g at next d run.1),
            times_more (shift g at next) (changes_in g ds next last run.2) c,
            ap (λ (n : ℕ). times n c) (one_more g d ds at last run),
          );
        }

  -- ---- from a state of a run

  level_at : (g : Setting) (set : IsSetting g) (st : RunState) → Kept g st → (most last : ℕ) → Within g st most last → Level laws g set most last st
  level_at g set st kept most last within = record {
    kept = kept;
    low = within.dialled;
    marks = λ u v near. omega (arith, marks_are (log_of st u v), within.marked u v near);
    lasts = within.recorded;
  }

  pub dial_no_higher : CalmRunsDialNoHigher
  dial_no_higher g set order later state last reached run calm most low =
      let kept = runs_keep g set order state reached in
      let w = within_all g state most low in
      (stretch g set most (marks_most g state) later order state last reached (level_at g set state kept most (marks_most g state) w) run calm).level.low

  pub counted : CalmRunsAreCounted
  counted g set order state reached most last within later end run calm =
      let kept = runs_keep g set order state reached in
      let level = level_at g set state kept most last within in
      let few = (stretch g set most last later order state end reached level run calm).few in
      let cost_is : each_choice laws g set most last ≡ cost g = omega (arith, times_are (length g.net.links) (12289 * length (prefixes g))) in
      omega (
        arith,
        few,
        left_few laws g set most last state,
        times_are (changes_in g later state end run) (each_choice laws g set most last),
        ap (λ (c : ℕ). c * changes_in g later state end run) cost_is,
      )

pub change_or_end : CalmRunsAreCounted → CalmRunsChangeOrEnd
change_or_end counted g set order state reached =
    let most : ℕ = dialled_most g state in
    let last : ℕ = marks_most g state in
    let w = within_all g state most (within g state (λ u v. (side_of state u v).link.epoch)) in (
      work g most last state,
      cost g,
      λ later end run calm. counted g set order state reached most last w later end run calm,
    )

-- ---- the routers and prefixes of a network

pub known_in : (ns : List ℕ) (u : ℕ) → Among u ns → (k : ℕ) × (k < length ns) × (get_or ns k u ≡ u)
known_in [] u i = absurd i
known_in (n ∷ ns) u (inl same) = (0, omega arith, same)
known_in (n ∷ ns) u (inr i) = (let k = known_in ns u i in (suc k.0, omega (arith, k.1), k.2))

pub named_in : (origins : List Origin) (q : PrefixView) → Among q (map (λ origin. origin.prefix) origins) → names origins q ≡ true
named_in [] q i = absurd i
named_in (o ∷ origins) q (inl same) = (let h : is_prefix o.prefix q ≡ true = (prefix_test o.prefix q).1 same in rw h refl)
named_in (o ∷ origins) q (inr i) = or_true (is_prefix o.prefix q) (names origins q) (named_in origins q i)

-- ---- how often kept paths change at all

module _ (bounded : SafeRunsAreBounded) (has_model : EachSettingHasItsModel) (g : Setting) (set : IsSetting g) (safe : AllAreSafe g.net) (few most : ℕ) where
  -- what is bounded for each run
  abbrev Bounds : ℕ → ((order : RunOrder) (state : RunState) → IsRunTo g order state → ℕ) → Type 0
  Bounds n f =
      (order : RunOrder) (state : RunState) (run : IsRunTo g order state) → ((v : ℕ) → table_commands_at v order ≤ few)
      → ((v w : ℕ) → linked g.net v w ≡ true → (side_of state v w).link.epoch ≤ most) → f order state run ≤ n

  in_prefixes : (u : ℕ) → IsRouter g.net.routers u → (qs : List PrefixView) → ((q : PrefixView) → Among q qs → IsNamed g.net.origins q)
      → (n : ℕ) × Bounds n (λ order state run. sum_of (λ q. run_changes g q order state run u) qs)
  in_prefixes u router [] named = (0, λ order state run c d. omega arith)
  in_prefixes u router (q ∷ qs) named =
      let rest = in_prefixes u router qs (λ p i. named p (inr i)) in
      let here = bounded g set q (named q (inl refl)) (safe q (named q (inl refl))) few most u router in
      (here.0 + rest.0, λ order state run c d. omega (arith, here.1 order state run c d, rest.1 order state run c d))

  in_routers : (ns : List ℕ) → ((u : ℕ) → Among u ns → IsRouter g.net.routers u) → (qs : List PrefixView) → ((q : PrefixView) → Among q qs → IsNamed g.net.origins q)
      → (n : ℕ) × Bounds n (λ order state run. sum_of (λ u. sum_of (λ q. run_changes g q order state run u) qs) ns)
  in_routers [] known qs named = (0, λ order state run c d. omega arith)
  in_routers (u ∷ ns) known qs named =
      let rest = in_routers ns (λ v i. known v (inr i)) qs named in
      let here = in_prefixes u (known u (inl refl)) qs named in
      (here.0 + rest.0, λ order state run c d. omega (arith, here.1 order state run c d, rest.1 order state run c d))

  changes_most : (n : ℕ) × Bounds n (λ order state run. changes_in g order (first_state g) state run)
  changes_most =
      in_routers (numbers g.net.routers) (λ u i. known_in (numbers g.net.routers) u i) (prefixes g)
      (λ q i. (has_model g set).named q (named_in g.net.origins q i))

pub calm_runs_end : CalmRunsDialNoHigher → CalmRunsChangeOrEnd → SafeRunsAreBounded → EachSettingHasItsModel → CalmRunsEnd
calm_runs_end dial_no_higher change_or_end bounded has_model g set safe order state reached =
    let M : ℕ = dialled_most g state in
    let low = within g state (λ u v. (side_of state u v).link.epoch) in
    let most = changes_most bounded has_model g set safe (length order) M in
    let ends = change_or_end g set order state reached in (
      ends.0 + ends.1 * most.0,
      λ later last run calm.
          let whole = join g order later (first_state g) state last reached run in
          let dialled = dial_no_higher g set order later state last reached run calm M low in
          let all = most.1 (order ++ later) last whole.whole (λ v. few_commands g v order later calm) dialled in
          let few : changes_in g later state last run ≤ most.0 = omega (arith, whole.more, all) in
          omega (arith, ends.2 later last run calm, mul-le-mul_left ends.1 few),
    )

-- ---- with a bound of each prefix

fewer_commands : (g : Setting) (v : ℕ) (order later : RunOrder) → AreCalm later → table_commands_at v (order ++ later) ≤ table_commands_at v order
fewer_commands g v [] later is = calm_commands g v later is
fewer_commands g v (d ∷ ds) later is = omega (arith, fewer_commands g v ds later is)

pub bounded_counted : CalmRunsAreCounted → CalmRunsDialNoHigher → RunsChangeSeldom → EachSettingHasItsModel → BoundedCalmRunsAreCounted
bounded_counted counted dial_no_higher seldom has_model g set order state reached most last within B bound later end run calm =
    let whole = join g order later (first_state g) state end reached run in
    let dialled = dial_no_higher g set order later state end reached run calm most within.dialled in
    let named = (λ (q : PrefixView) (i : Among q (prefixes g)). (has_model g set).named q (named_in g.net.origins q i)) in
    let seldom_at = (λ (u : ℕ) (known : IsRouter g.net.routers u) (q : PrefixView) (i : Among q (prefixes g)).
    (seldom g set q (named q i) (order ++ later) end).routers whole.whole (B q)
    (record { commands = λ v. table_commands_at v order; dialled = λ v w. most; few = λ v. fewer_commands g v order later calm; low = dialled; bound = bound q (named q i) }) u known) in
    let one = (λ (u : ℕ) (i : Among u (numbers g.net.routers)).
    sum_below (λ q. changes_by q u (first_state g) (states_of g (order ++ later) (first_state g) end whole.whole)) (λ q. sum_over (B q) (paths_of g.net q u)) 0 (prefixes g)
    (λ q j. omega (arith, seldom_at u (known_in (numbers g.net.routers) u i) q j))) in
    let all = sum_below (λ u. sum_of (λ q. changes_by q u (first_state g) (states_of g (order ++ later) (first_state g) end whole.whole)) (prefixes g)) (λ u. sum_of (λ q. sum_over (B q) (paths_of g.net q u)) (prefixes g)) 0 (numbers g.net.routers)
    (λ u i. omega (arith, one u i, times_are (length (prefixes g)) 0)) in
    let few : changes_in g later state end run ≤ all_bounds g B = omega (arith, whole.more, all, times_are (length (numbers g.net.routers)) 0) in
    omega (arith, counted g set order state reached most last within later end run calm, mul-le-mul_left (cost g) few)
