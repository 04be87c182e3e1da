-- What a router keeps along a run, and along the run of the laws beside it.
use Rattle.std.proofs.Common.{◌≡◌, ℕ, ◌+◌, ◌≤◌, Bool, true, false, cond, List, [], ◌∷◌, ◌++◌, append_assoc, refl, ap, sym, ◌∙◌, subst, arith}
use Rattle.std.proofs.lemmas.List.{append-nil}
use Rattle.prefix_lanes.specs.Bits.{PrefixView}
use Rattle.bgp_codec.specs.declared.message.Message.{Message}
use Rattle.ranked_policy.specs.Tests.{same_path}
use Rattle.run_model.specs.Network as runs
use Rattle.run_model.specs.Routes.{advanced, routers_after, first_routers}
use Rattle.run_model.specs.Offers.{OffersAside, network_steps}
use Rattle.router_model.specs.Settings.{Setting, IsSetting}
use Rattle.router_runs.specs.Runs.{RunOrder, RunState, IsRunTo, logged_steps}
use Rattle.router_runs.specs.Model.{network_of}
use Rattle.router_runs.specs.Acts.{ModelRouters, ModelStep}
use Rattle.router_runs.specs.Mirrors.{Mirrored, MirrorsGoOn}
use Rattle.router_runs.proofs.Believing.{runs_join}
use Rattle.router_runs.proofs.Lengthening.{steps_append}
use Rattle.dispute_wheels.specs.Counting.{differ, changes}
use Rattle.dispute_wheels.specs.RunChanges as model
use Rattle.dispute_wheels.specs.RunChanges.{head_of}
use Rattle.dispute_wheels.proofs.CountLemmas.{differ_self, differ_by}
use Rattle.dispute_wheels.proofs.TestLemmas.{path_test}
use Rattle.wheel_runs.specs.Changes.{states_of, kept_by, changes_by, keeps, first_state}

-- ---- how far two paths are apart

abbrev pub apart : List ℕ → List ℕ → ℕ
apart a b = cond (same_path a b) 0 1

abbrev pub parted : List ℕ → List ℕ → List ℕ → ℕ
parted path a b = differ (same_path a path) (same_path b path)

pub apart_self : (a : List ℕ) → apart a a ≡ 0
apart_self a = ap (λ (b : Bool). cond b 0 1) ((path_test a a).1 refl)

same_both : (a b c : List ℕ) → same_path a b ≡ true → same_path b c ≡ true → same_path a c ≡ true
same_both a b c x y = (path_test a c).1 ((path_test a b).0 x ∙ (path_test b c).0 y)

by_tests : (x y z : Bool) → (x ≡ true → y ≡ true → z ≡ true) → cond z 0 1 ≤ cond x 0 1 + cond y 0 1
by_tests true true true h = omega arith
by_tests true true false h = absurd (let e = h refl refl in cc e)
by_tests true false true h = omega arith
by_tests true false false h = omega arith
by_tests false true true h = omega arith
by_tests false true false h = omega arith
by_tests false false true h = omega arith
by_tests false false false h = omega arith

pub apart_by : (a b c : List ℕ) → apart a c ≤ apart a b + apart b c
apart_by a b c = by_tests (same_path a b) (same_path b c) (same_path a c) (same_both a b c)

pub parted_self : (path a : List ℕ) → parted path a a ≡ 0
parted_self path a = differ_self (same_path a path)

pub parted_by : (path a b c : List ℕ) → parted path a c ≤ parted path a b + parted path b c
parted_by path a b c = differ_by (same_path a path) (same_path b path) (same_path c path)

-- ---- along runs

module _ (g : Setting) (q : PrefixView) (u : ℕ) (far : List ℕ → List ℕ → ℕ) where
  -- the sum of the distances, step by step
  abbrev pub walk : ModelRouters → List ModelStep → ℕ
  walk w [] = 0
  walk w (t ∷ ts) = far ((w u).kept q) ((advanced (network_of g) w t u).kept q) + walk (advanced (network_of g) w t) ts

  abbrev pub run_walk : (order : RunOrder) (old last : RunState) → runs.Run (logged_steps g) old order last → ℕ
  run_walk [] old last run = 0
  run_walk (d ∷ ds) old last run = far (kept_by q u old) (kept_by q u run.0) + run_walk ds run.0 last run.2

  pub walk_append : (ts us : List ModelStep) (w : ModelRouters) → walk w (ts ++ us) ≡ walk w ts + walk (routers_after (network_of g) w ts) us
  walk_append [] us w = omega arith
  walk_append (t ∷ ts) us w = omega (arith, walk_append ts us (advanced (network_of g) w t))

  after_append : (ts us : List ModelStep) (w : ModelRouters) → routers_after (network_of g) w (ts ++ us) ≡ routers_after (network_of g) (routers_after (network_of g) w ts) us
  after_append [] us w = refl
  after_append (t ∷ ts) us w = after_append ts us (advanced (network_of g) w t)

  module _ (self : (a : List ℕ) → far a a ≡ 0) (by : (a b c : List ℕ) → far a c ≤ far a b + far b c) where
    far_walk : (ts : List ModelStep) (w : ModelRouters) → far ((w u).kept q) ((routers_after (network_of g) w ts u).kept q) ≤ walk w ts
    far_walk [] w = omega (arith, self ((w u).kept q))
    far_walk (t ∷ ts) w =
        let next : ModelRouters = advanced (network_of g) w t in
        omega (arith, by ((w u).kept q) ((next u).kept q) ((routers_after (network_of g) next ts u).kept q), far_walk ts next)

    module _ (aside : OffersAside Message PrefixView (List ℕ)) (on : MirrorsGoOn) (set : IsSetting g) where
      abbrev pub steps_of : (before : RunOrder) (at : RunState) → Mirrored g before at → List ModelStep
      steps_of before at m = network_steps (network_of g) m.steps

      abbrev pub routers_of : (before : RunOrder) (at : RunState) → Mirrored g before at → ModelRouters
      routers_of before at m = routers_after (network_of g) (first_routers (network_of g)) (steps_of before at m)

      kept_is : (before : RunOrder) (at : RunState) (m : Mirrored g before at) → (routers_of before at m u).kept q ≡ kept_by q u at
      kept_is before at m = ap (λ (w : ModelRouters). (w u).kept q) (aside (network_of g) m.steps m.run).1 ∙ ap (λ k. k q) (m.mirrors.routers u).kept

      -- the run of the laws goes on with the run, and walks no less far
      pub record Follows (before : RunOrder) (at : RunState) (m : Mirrored g before at) (order : RunOrder) (last : RunState) (n : ℕ) : Type 0 where
        pub whole : Mirrored g order last
        pub added : List ModelStep
        pub steps : steps_of order last whole ≡ steps_of before at m ++ added
        pub walks : n ≤ walk (routers_of before at m) added

      pub follow : (later before : RunOrder) (at last : RunState) (m : Mirrored g before at) → IsRunTo g before at → (run : runs.Run (logged_steps g) at later last)
          → Follows before at m (before ++ later) last (run_walk later at last run)
      follow [] before at last m r run =
          subst (λ (i : RunState). Follows before at m (before ++ []) i 0) run
          (subst (λ (o : RunOrder). Follows before at m o at 0) (sym (append-nil before)) (record { whole = m; added = []; steps = sym (append-nil (steps_of before at m)); walks = omega arith }))
      follow (d ∷ ds) before at last m r run =
          let next : RunState = run.0 in
          let front : RunOrder = before ++ d ∷ [] in
          let one = on g set before (d ∷ []) at next m r (next, run.1, refl) in
          let first : List ModelStep = network_steps (network_of g) one.more in
          let longer : steps_of front next one.whole ≡ steps_of before at m ++ first = ap (network_steps (network_of g)) one.steps ∙ steps_append g m.steps one.more in
          let rest = follow ds front next last one.whole (runs_join g before (d ∷ []) (first_state g) at next r (next, run.1, refl)) run.2 in
          let there : routers_of front next one.whole ≡ routers_after (network_of g) (routers_of before at m) first =
          ap (routers_after (network_of g) (first_routers (network_of g))) longer ∙ after_append (steps_of before at m) first (first_routers (network_of g)) in
          let kept_next : (routers_after (network_of g) (routers_of before at m) first u).kept q ≡ kept_by q u next = ap (λ (w : ModelRouters). (w u).kept q) (sym there) ∙ kept_is front next one.whole in
          let here : far ((routers_of before at m u).kept q) ((routers_after (network_of g) (routers_of before at m) first u).kept q) ≡ far (kept_by q u at) (kept_by q u next) =
          ap (λ k. far k ((routers_after (network_of g) (routers_of before at m) first u).kept q)) (kept_is before at m) ∙ ap (λ k. far (kept_by q u at) k) kept_next in
          subst (λ (o : RunOrder). Follows before at m o last (run_walk (d ∷ ds) at last run)) (append_assoc before (d ∷ []) ds) (record {
            whole = rest.whole;
            added = first ++ rest.added;
            steps = rest.steps ∙ ap (λ l. l ++ rest.added) longer ∙ append_assoc (steps_of before at m) first rest.added;
            walks = omega (
              arith,
              here,
              far_walk first (routers_of before at m),
              walk_append first rest.added (routers_of before at m),
              ap (λ (w : ModelRouters). walk w rest.added) there,
              rest.walks,
            );
          })

-- ---- what is counted is such a walk

pub changes_walk : (g : Setting) (q : PrefixView) (u : ℕ) (order : RunOrder) (old last : RunState) (run : runs.Run (logged_steps g) old order last)
    → changes_by q u old (states_of g order old last run) ≡ run_walk g q u apart order old last run
changes_walk g q u [] old last run = refl
changes_walk g q u (d ∷ ds) old last run = ap (λ n. apart (kept_by q u old) (kept_by q u run.0) + n) (changes_walk g q u ds run.0 last run.2)

pub path_walk : (g : Setting) (q : PrefixView) (path : List ℕ) (order : RunOrder) (old last : RunState) (run : runs.Run (logged_steps g) old order last)
    → changes (keeps q path) old (states_of g order old last run) ≡ run_walk g q (head_of path) (parted path) order old last run
path_walk g q path [] old last run = refl
path_walk g q path (d ∷ ds) old last run = ap (λ n. parted path (kept_by q (head_of path) old) (kept_by q (head_of path) run.0) + n) (path_walk g q path ds run.0 last run.2)

pub model_changes_walk : (g : Setting) (q : PrefixView) (u : ℕ) (ts : List ModelStep) (w : ModelRouters) (c : ℕ → ℕ)
    → model.shifts (network_of g) q u (record { at = w; command = c }) (model.moments (network_of g) q w ts) ≡ walk g q u apart w ts
model_changes_walk g q u [] w c = refl
model_changes_walk g q u (t ∷ ts) w c =
    ap (λ n. apart ((w u).kept q) ((advanced (network_of g) w t u).kept q) + n) (model_changes_walk g q u ts (advanced (network_of g) w t) (model.commanded t))

pub model_path_walk : (g : Setting) (q : PrefixView) (path : List ℕ) (ts : List ModelStep) (w : ModelRouters) (c : ℕ → ℕ)
    → changes (model.keeps (network_of g) q path) (record { at = w; command = c }) (model.moments (network_of g) q w ts) ≡ walk g q (head_of path) (parted path) w ts
model_path_walk g q path [] w c = refl
model_path_walk g q path (t ∷ ts) w c =
    ap (λ n. parted path ((w (head_of path)).kept q) ((advanced (network_of g) w t (head_of path)).kept q) + n) (model_path_walk g q path ts (advanced (network_of g) w t) (model.commanded t))
