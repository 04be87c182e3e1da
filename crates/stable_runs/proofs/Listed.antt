-- A settled snapshot is a stable assignment, and so one of those that are listed.
use Rattle.std.proofs.Common.{◌≡◌, ℕ, zero, suc, ◌==◌, Bool, true, false, cond, List, [], ◌∷◌, length, map, refl, sym, subst, ◌∙◌, arith, inl}
use Rattle.std.specs.List.{Any, Contains}
use Rattle.std.proofs.lemmas.Bool.{eqb-true, eqb-false}
use Rattle.prefix_lanes.specs.Bits.{PrefixView}
use Rattle.ranked_policy.specs.Plans.{IsOrigin}
use Rattle.ranked_policy.proofs.PlaceLemmas.{one_origin}
use Rattle.stable_search.specs.declared.every.Every.{Every}
use Rattle.stable_search.specs.declared.every.Component.{Component}
use Rattle.stable_search.specs.Every.{choices_of, HasChoice, IsEveryStable}
use Rattle.run_model.specs.Offers.{Settled}
use Rattle.snap_marker.specs.Recordings.{RouterPart}
use Rattle.router_model.specs.Settings.{Setting, IsSetting, names}
use Rattle.router_runs.specs.Runs.{RunOrder, RunState, IsRunTo}
use Rattle.router_runs.specs.Snapshots.{HasMade, HaveMade, ComesOut, AsOriginated, SettledIsStable}
use Rattle.run_cuts.specs.ThroughSnapshot.{DecidedRunsPassThrough}
use Rattle.net_workers.specs.Runs.{RecordsKeepTheirPromises}
use Rattle.worker_loop.specs.declared.chore.Chore.{Chore}
use Rattle.stable_runs.specs.Listing.{originated, AreListed, ListsNone, ListsOne, SettlesInListed, RunsSettleInListed, WorldsSettleInListed, RecordsSettleInListed}

-- ---- lists of one choice

none_in_empty : {X : Type 0} (xs : List X) (x : X) → xs ≡ [] → Contains xs x → ⊥
none_in_empty [] x e c = absurd (omega (arith, c.1))
none_in_empty (y ∷ ys) x e c = absurd (cc e)

both_first : {X : Type 0} (xs : List X) (x y : X) → length xs ≡ 1 → Contains xs x → Contains xs y → x ≡ y
both_first [] x y e a b = absurd (cc e)
both_first (z ∷ []) x y e (zero, in_a, a) (zero, in_b, b) = sym a ∙ b
both_first (z ∷ []) x y e (suc i, in_a, a) b = absurd (omega (arith, in_a))
both_first (z ∷ []) x y e (zero, in_a, a) (suc j, in_b, b) = absurd (omega (arith, in_b))
both_first (z ∷ w ∷ zs) x y e a b = absurd (cc e)

same_at : {X : Type 0} (f h : ℕ → X) (us : List ℕ) (u : ℕ) → map f us ≡ map h us → Contains us u → f u ≡ h u
same_at f h [] u e c = absurd (omega (arith, c.1))
same_at f h (v ∷ us) u e (zero, lt, c) = let first : f v ≡ h v = cc e in subst (λ (w : ℕ). f w ≡ h w) c first
same_at f h (v ∷ us) u e (suc i, lt, c) = let rest : map f us ≡ map h us = cc e in same_at f h us u rest (i, omega (arith, lt), c)

pub is_in_none : (paths : ℕ → List ℕ) (every : Every) → ListsNone every → AreListed paths every → ⊥
is_in_none paths every none listed =
    none_in_empty (choices_of none.1) (map paths none.1.routers) none.4 (subst (HasChoice paths) none.3 (listed none.0 none.1 none.2))

pub same_in_one : (paths others : ℕ → List ℕ) (every : Every) → ListsOne every → AreListed paths every → AreListed others every
    → (u : ℕ) → Any (λ part. Contains part.routers u) every.parts → paths u ≡ others u
same_in_one paths others every one mine theirs u at =
    let single : length (choices_of at.1) ≡ 1 = subst (λ (part : Component). length (choices_of part) ≡ 1) at.3 (one at.0 at.1 at.2) in
    let a : HasChoice paths at.1 = subst (HasChoice paths) at.3 (mine at.0 at.1 at.2) in
    let b : HasChoice others at.1 = subst (HasChoice others) at.3 (theirs at.0 at.1 at.2) in
    same_at paths others at.1.routers u (both_first (choices_of at.1) (map paths at.1.routers) (map others at.1.routers) single a b) at.4

-- ---- a settled snapshot

module _ (stable : SettledIsStable) (decided : DecidedRunsPassThrough) (g : Setting) (set : IsSetting g) (order : RunOrder) (state : RunState) (run : IsRunTo g order state) where
  is_listed : (s : ℕ) → ComesOut g state s Settled → (parts : ℕ → RouterPart) → HaveMade g state s parts
      → (q : PrefixView) → names g.net.origins q ≡ true → AsOriginated g q parts true
      → (every : Every) → IsEveryStable (originated g.net q) every → AreListed (λ u. (parts u).kept q) every
  is_listed s settled parts made q named own every all =
      all.listed (λ u. (parts u).kept q) (stable g set order state run s settled parts made q named true own)

  -- the parts that all routers made, with this one of router u
  module _ (s u : ℕ) (part : RouterPart) (made : HasMade state s u part) (parts : ℕ → RouterPart) (all_made : HaveMade g state s parts) where
    abbrev with_part : ℕ → RouterPart
    with_part w = cond (w == u) part (parts w)

    made_by : (w : ℕ) (b : Bool) → (w == u) ≡ b → HasMade state s w (parts w) → HasMade state s w (cond b part (parts w))
    made_by w true is other = subst (λ (n : ℕ). HasMade state s n part) (sym (eqb-true w u is)) made
    made_by w false is other = other

    have_made : HaveMade g state s with_part
    have_made w router = made_by w (w == u) refl (all_made w router)

    own_by : (q : PrefixView) (w : ℕ) (b : Bool) → (w == u) ≡ b → part.originated q ≡ true → w ≡ u → (cond b part (parts w)).originated q ≡ true
    own_by q w true is own same = own
    own_by q w false is own same = absurd (eqb-false w u is same)

    originates : (q : PrefixView) → IsOrigin g.net.origins u q → part.originated q ≡ true → AsOriginated g q with_part true
    originates q origin own w other = own_by q w (w == u) refl own (one_origin g.net.origins q w u set.network.plan.origins.rising other origin)

  pub settles_in_listed : SettlesInListed g state
  settles_in_listed = record {
    listed = is_listed;
    none = λ s u q named origin part made own every all none settled.
        (let d = decided g set order state run s (inl settled) in
        is_in_none (λ w. (with_part s u part made d.0 d.1 w).kept q) every none
        (is_listed s settled (with_part s u part made d.0 d.1) (have_made s u part made d.0 d.1) q named (originates s u part made d.0 d.1 q origin own) every all));
    one = λ s settled parts made q named own every all one paths is_stable u router.
        same_in_one (λ w. (parts w).kept q) paths every one (is_listed s settled parts made q named own every all) (all.listed paths is_stable) u ((all.routers u).0 router);
  }

pub runs_settle_in_listed : SettledIsStable → DecidedRunsPassThrough → RunsSettleInListed
runs_settle_in_listed stable decided g set order state run = settles_in_listed stable decided g set order state run

pub worlds_settle_in_listed : SettledIsStable → DecidedRunsPassThrough → WorldsSettleInListed
worlds_settle_in_listed stable decided g set events w is order state run agrees = settles_in_listed stable decided g set order state run

pub records_settle_in_listed : {G : Type 0} (given : G → List Chore) → SettledIsStable → DecidedRunsPassThrough → RecordsKeepTheirPromises given → RecordsSettleInListed given
records_settle_in_listed given stable decided keep plan turns p workers c gathered is in_turn g same set =
    let keeps = keep plan turns p workers c gathered is in_turn g same set in
    (keeps, settles_in_listed stable decided g set keeps.run.order keeps.run.state keeps.run.run)
