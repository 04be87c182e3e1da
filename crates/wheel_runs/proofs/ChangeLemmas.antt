-- In every run a router changes what it keeps no more often than the bound.
use Rattle.std.proofs.Common.{◌≡◌, ℕ, zero, suc, ◌+◌, ◌≤◌, ◌==◌, Bool, true, false, cond, List, [], ◌∷◌, length, refl, ap, sym, ◌∙◌, subst, arith, inl, inr}
use Rattle.std.proofs.lemmas.Bool.Decides.{nat_tests}
use Rattle.prefix_lanes.specs.Bits.{PrefixView}
use Rattle.bgp_codec.specs.declared.message.Message.{Message}
use Rattle.bgp_values.specs.Ranges.{IsAsn}
use Rattle.ranked_policy.specs.Plans.{IsNetwork, IsRouter, IsNamed}
use Rattle.ranked_policy.specs.Promises.{EachPolicyIsAnOrder}
use Rattle.ranked_policy.specs.Tests.{PermitsIsATest, PrefersIsATest}
use Rattle.ranked_policy.proofs.TestLemmas.{prefix_test}
use Rattle.run_model.specs.Links.{incarnation}
use Rattle.run_model.specs.Network as runs
use Rattle.run_model.specs.Routes.{Acts, Advertise, Decide, Command, advanced, first_routers, IsRunOf}
use Rattle.run_model.specs.Offers.{OffersAside, network_steps, final}
use Rattle.stable_paths.specs.Stable.{Problem, IsProblem}
use Rattle.router_model.specs.Settings.{Setting, IsSetting, linked}
use Rattle.router_runs.specs.Runs.{RunOrder, RunState, IsRunTo, logged_steps}
use Rattle.router_runs.specs.Model.{network_of}
use Rattle.router_runs.specs.Acts.{ModelRouters, ModelStep}
use Rattle.router_runs.specs.Mirrors as mirrors
use Rattle.router_runs.specs.Mirrors.{ModelEvent, IsModelOf, EachSettingHasItsModel, Mirrored, RunsAreMirrored, MirrorsGoOn, commands_at, table_commands_at}
use Rattle.dispute_wheels.specs.Counting.{total, last_of, sum_over, rest_of, bound}
use Rattle.dispute_wheels.specs.Feasible.{IsFeasible}
use Rattle.dispute_wheels.specs.Tests.{better_than, paths_of}
use Rattle.dispute_wheels.specs.Promises.{IsSafe, SafeOrWheel}
use Rattle.dispute_wheels.specs.RunChanges as model
use Rattle.dispute_wheels.specs.RunChanges.{head_of}
use Rattle.dispute_wheels.specs.RunLaws.{ChoosesBest, SafeRunsChangeSeldom, SafeRoutersChangeSeldom}
use Rattle.dispute_wheels.proofs.CountLemmas.{sum_below}
use Rattle.dispute_wheels.proofs.RunCounts.{moments_last}
use Rattle.wheel_runs.specs.Bounds.{heard_at_most, SafeHaveBounds, WheelsHaveNoBound}
use Rattle.wheel_runs.specs.Changes.{problem_of, first_state, run_changes, path_changes, BoundsRun, RunsChangeSeldom, SafeRunsAreBounded}
use Rattle.wheel_runs.proofs.BoundLemmas.{is_better, feasible_in, path_feasible, sum_none}
use Rattle.wheel_runs.proofs.WalkLemmas.{apart, apart_self, apart_by, parted, parted_self, parted_by, walk, walk_append, follow, changes_walk, path_walk, model_changes_walk, model_path_walk}

-- ---- commands

same_command : (e : ModelEvent) → model.is_command e ≡ mirrors.is_command e
same_command (Acts act) = refl
same_command (Advertise v q m) = refl
same_command (Decide q) = refl
same_command (Command o k) = refl

commands_total : (g : Setting) (q : PrefixView) (path : List ℕ) (ts : List ModelStep) (w : ModelRouters) (c : ℕ → ℕ)
    → total (model.commands (network_of g) q path) (record { at = w; command = c }) (model.moments (network_of g) q w ts) ≡ commands_at (head_of path) ts
commands_total g q path [] w c = refl
commands_total g q path (t ∷ ts) w c =
    ap (λ n. cond (head_of path == t.router) n 0 + total (model.commands (network_of g) q path) (record { at = advanced (network_of g) w t; command = model.commanded t }) (model.moments (network_of g) q (advanced (network_of g) w t) ts)) (same_command t.event)
    ∙ ap (λ n. cond (head_of path == t.router) (mirrors.is_command t.event) 0 + n) (commands_total g q path ts (advanced (network_of g) w t) (model.commanded t))

forgets_as : (g : Setting) (q : PrefixView) (w : ModelRouters) (u : ℕ) (e : ModelEvent) → mirrors.Forgets (w u) e → model.Forgets (network_of g) q w u e
forgets_as g q w u (Acts act) f = tt
forgets_as g q w u (Advertise v p m) f = tt
forgets_as g q w u (Decide p) f = tt
forgets_as g q w u (Command o k) (inl same) = inl (ap (λ (h : PrefixView → List ℕ). h q) same)
forgets_as g q w u (Command o k) (inr none) = inr (ap (λ (h : PrefixView → List ℕ). h q) none)

forget_as : (g : Setting) (q : PrefixView) (ts : List ModelStep) (w : ModelRouters) → mirrors.CommandsForget g w ts → model.CommandsForget (network_of g) q w ts
forget_as g q [] w f = tt
forget_as g q (t ∷ ts) w f = (forgets_as g q w t.router t.event f.0, forget_as g q ts (advanced (network_of g) w t) f.1)

-- no router has the number 0
positive : (g : Setting) → IsNetwork g.net → (u : ℕ) → IsRouter g.net.routers u → 1 ≤ u
positive g net u at =
    let fits = net.plan.in_range at.0 u at.1 in
    (subst (λ (n : ℕ). IsAsn g.net.settings.width n) at.2 fits).0

none_at : (n u : ℕ) → 1 ≤ u → cond (0 == u) n 0 ≡ 0
none_at n u low = (let off : (0 == u) ≡ false = grind (arith, nat_tests, low) in ap (λ (b : Bool). cond b n 0) off)

none_commanded : (g : Setting) → IsNetwork g.net → (order : RunOrder) (old last : RunState) → runs.Run (logged_steps g) old order last → table_commands_at 0 order ≡ 0
none_commanded g net [] old last run = refl
none_commanded g net (d ∷ ds) old last run =
    omega (arith, none_at (mirrors.is_table_command d.event) d.router (positive g net d.router run.1.1.known), none_commanded g net ds run.0 last run.2)

-- ---- the laws below

pub record Laws : Type 0 where
  pub permits : PermitsIsATest
  pub prefers : PrefersIsATest
  pub orders : EachPolicyIsAnOrder
  pub aside : OffersAside Message PrefixView (List ℕ)
  pub has_model : EachSettingHasItsModel
  pub mirrored : RunsAreMirrored
  pub on : MirrorsGoOn
  pub either : SafeOrWheel
  pub no_bound : WheelsHaveNoBound
  pub paths : SafeRunsChangeSeldom Message
  pub routers : SafeRoutersChangeSeldom Message

module _ (laws : Laws) (g : Setting) (set : IsSetting g) (q : PrefixView) (named : IsNamed g.net.origins q) where
  abbrev p : Problem
  p = problem_of g q

  is_problem : IsProblem p
  is_problem = record { network = set.network; named = named }

  model_is : IsModelOf g
  model_is = laws.has_model g set

  chooses : ChoosesBest p (network_of g)
  chooses = record {
    routers = model_is.routers;
    linked = model_is.linked;
    no_path = refl;
    compares = λ o e. sym ((prefix_test o q).0 e);
    best = λ u router o words. set.chooses u router q named o words;
  }

  module _ (order : RunOrder) (state : RunState) (run : IsRunTo g order state) where
    abbrev first : Mirrored g [] (first_state g)
    first = laws.mirrored g set [] (first_state g) refl

    module _ (B : List ℕ → ℕ) (bounds : BoundsRun g q order state B) where
      safe : IsSafe p
      safe = elim (laws.either p is_problem) [
        | inl s ↦ s
        | inr wheel ↦ absurd (laws.no_bound p is_problem wheel bounds.commands bounds.dialled B bounds.bound)
      ]

      -- the bound of a run of the laws that ends where the run does
      module _ (m : Mirrored g order state) where
        abbrev steps : List ModelStep
        steps = network_steps (network_of g) m.steps

        abbrev opening : model.Moment Message PrefixView
        opening = model.opening (network_of g) q

        abbrev moments : List (model.Moment Message PrefixView)
        moments = model.moments (network_of g) q (first_routers (network_of g)) steps

        abbrev slack : List ℕ → ℕ
        slack = model.slack_of (network_of g) q opening moments

        abbrev frees : List ℕ → ℕ
        frees path = total (model.commands (network_of g) q path) opening moments

        frees_are : (path : List ℕ) → frees path ≡ table_commands_at (head_of path) order
        frees_are path = commands_total g q path steps (first_routers (network_of g)) (λ u. 0) ∙ m.commands (head_of path)

        last_is : (last_of opening moments).at ≡ (final (network_of g) m.steps).routers
        last_is = moments_last (network_of g) q (first_routers (network_of g)) (λ u. 0) steps ∙ (laws.aside (network_of g) m.steps m.run).1

        dialled_is : (u v : ℕ) → linked g.net u v ≡ true → incarnation (((last_of opening moments).at u).recorder.ends v) ≤ bounds.dialled u v
        dialled_is u v near =
            omega (
              arith,
              ap (λ (w : ModelRouters). incarnation ((w u).recorder.ends v)) last_is,
              (m.mirrors.sides u v near).reads.epoch,
              bounds.low u v near,
            )

        none_better : (f : List ℕ → ℕ) → sum_over f (better_than g.net q []) ≡ 0
        none_better f = sum_none f (better_than g.net q []) (λ other i.
            (let x = is_better laws.permits laws.prefers laws.orders p is_problem [] other i in
            absurd (omega (arith, ap length x.1.second.1))))

        bound_none : (n : ℕ) → bound (better_than g.net q) slack frees n [] ≡ 0
        bound_none zero = refl
        bound_none (suc n) =
            omega (
              arith,
              frees_are [],
              none_commanded g set.network order (first_state g) state run,
              bound_none n,
              none_better (λ other. slack other + bound (better_than g.net q) slack frees n (rest_of other)),
            )

        heard_below : (n : ℕ) → ((path : List ℕ) → IsFeasible g.net q path → bound (better_than g.net q) slack frees n path ≤ B path)
            → (other : List ℕ) → IsFeasible g.net q other → slack other + bound (better_than g.net q) slack frees n (rest_of other) ≤ heard_at_most bounds.commands bounds.dialled B other
        heard_below n below [] f = absurd f
        heard_below n below (u ∷ []) f = omega (arith, frees_are (u ∷ []), bounds.few u, bound_none n)
        heard_below n below (u ∷ v ∷ rest) f =
            let near : linked g.net u v ≡ true = (model_is.linked u v).1 f.1 in
            let back : linked g.net v u ≡ true = model_is.network.both u v near in
            omega (arith, dialled_is u v near, dialled_is v u back, below (v ∷ rest) f.2)

        bound_below : (n : ℕ) (path : List ℕ) → IsFeasible g.net q path → bound (better_than g.net q) slack frees n path ≤ B path
        bound_below zero path f = omega arith
        bound_below (suc n) path f =
            omega (
              arith,
              frees_are path,
              bounds.few (head_of path),
              sum_below (λ other. slack other + bound (better_than g.net q) slack frees n (rest_of other)) (heard_at_most bounds.commands bounds.dialled B) (path ∷ better_than g.net q path)
                  (λ other i. heard_below n (bound_below n) other (feasible_in laws.permits laws.prefers laws.orders p is_problem path other f i)),
              bounds.bound path f,
            )

        runs_so : IsRunOf (network_of g) steps
        runs_so = (laws.aside (network_of g) m.steps m.run).0

        forgets_so : model.CommandsForget (network_of g) q (first_routers (network_of g)) steps
        forgets_so = forget_as g q steps (first_routers (network_of g)) m.forgets

        path_below : (path : List ℕ) → IsFeasible g.net q path → walk g q (head_of path) (parted path) (first_routers (network_of g)) steps ≤ B path
        path_below path f =
            omega (
              arith,
              model_path_walk g q path steps (first_routers (network_of g)) (λ u. 0),
              laws.paths p is_problem safe (network_of g) model_is.network chooses steps runs_so forgets_so path f,
              bound_below (suc (safe.rank path)) path f,
            )

        router_below : (u : ℕ) → IsRouter g.net.routers u → walk g q u apart (first_routers (network_of g)) steps ≤ sum_over B (paths_of g.net q u)
        router_below u router =
            omega (
              arith,
              model_changes_walk g q u steps (first_routers (network_of g)) (λ v. 0),
              laws.routers p is_problem safe (network_of g) model_is.network chooses steps runs_so forgets_so u router,
              sum_below (λ path. bound (better_than g.net q) slack frees (suc (safe.rank path)) path) B (paths_of g.net q u)
                  (λ path i. bound_below (suc (safe.rank path)) path (path_feasible laws.permits laws.prefers laws.orders p is_problem u path i)),
            )

      -- ---- of the run

      of_path : (path : List ℕ) → IsFeasible g.net q path → path_changes g q order state run path ≤ B path
      of_path path f =
          let u : ℕ = head_of path in
          let far : List ℕ → List ℕ → ℕ = parted path in
          let k = follow g q u far (parted_self path) (parted_by path) laws.aside laws.on set order [] (first_state g) state first refl run in
          let before : List ModelStep = network_steps (network_of g) first.steps in
          omega (
            arith,
            path_walk g q path order (first_state g) state run,
            k.walks,
            walk_append g q u far before k.added (first_routers (network_of g)),
            ap (walk g q u far (first_routers (network_of g))) k.steps,
            path_below k.whole path f,
          )

      of_router : (u : ℕ) → IsRouter g.net.routers u → run_changes g q order state run u ≤ sum_over B (paths_of g.net q u)
      of_router u router =
          let k = follow g q u apart apart_self apart_by laws.aside laws.on set order [] (first_state g) state first refl run in
          let before : List ModelStep = network_steps (network_of g) first.steps in
          omega (
            arith,
            changes_walk g q u order (first_state g) state run,
            k.walks,
            walk_append g q u apart before k.added (first_routers (network_of g)),
            ap (walk g q u apart (first_routers (network_of g))) k.steps,
            router_below k.whole u router,
          )

pub runs_change_seldom : Laws → RunsChangeSeldom
runs_change_seldom laws g set q named order state = record {
  paths = λ run B bounds. of_path laws g set q named order state run B bounds;
  routers = λ run B bounds. of_router laws g set q named order state run B bounds;
}

pub safe_runs_are_bounded : RunsChangeSeldom → SafeHaveBounds → SafeRunsAreBounded
safe_runs_are_bounded law bounds g set q named safe few most u router =
    let B = bounds (problem_of g q) (record { network = set.network; named = named }) safe (λ v. few) (λ v w. most) in (
      sum_over B.0 (paths_of g.net q u),
      λ order state run commanded dialled.
          (law g set q named order state).routers run B.0 (record { commands = λ v. few; dialled = λ v w. most; few = commanded; low = dialled; bound = B.1 }) u router,
    )
