-- A decision of the tables as a step of the router.
use Rattle.std.proofs.Common.{◌≡◌, ℕ, ◌+◌, ◌≤◌, Bool, true, false, cond, List, [], ◌∷◌, length, Option, None, Some, refl, sym, ap, subst, ◌∙◌, arith, inl, inr}
use Rattle.std.specs.Prelude.{nat_lt, Ok, Err}
use Rattle.std.specs.List.{Contains, AllByRecursion}
use Rattle.std.proofs.Math.Path.{fun_ext}
use Rattle.std.proofs.lemmas.Bool.Decides.{not_from_Decides}
use Rattle.prefix_lanes.specs.Bits.{PrefixView, is_prefix}
use Rattle.ranked_policy.specs.Plans.{Plan, IsNamed}
use Rattle.ranked_policy.specs.Policies.{Table, IsPermitted}
use Rattle.rib_tables.specs.Words.{path_in}
use Rattle.rib_tables.specs.Tables.{path_of, Paths}
use Rattle.rib_tables.specs.Least.{HoldsOfAll, IsLeastWithout}
use Rattle.ranked_policy.specs.Choices.{IsFirstOrNone}
use Rattle.rib_tables.specs.Choices.{Hears, IsOwn, IsBest}
use Rattle.rib_tables.specs.Owners.{RibView, sources_of, IsSettled, KeepsPath, Decides}
use Rattle.rib_tables.specs.Promises.{BestOverWords}
use Rattle.stable_paths.specs.Promises.{OneBest}
use Rattle.router_model.specs.declared.refusal.RouterError.TheVariants as error
use Rattle.router_model.specs.declared.refusal.Stepped.TheVariants as stepped
use Rattle.router_model.specs.Settings.{Setting}
use Rattle.router_model.specs.State.{undecided, best_path}
use Rattle.run_model.specs.Network.{alone}
use Rattle.router_model.specs.Step as step
use Rattle.router_model.specs.Step.{keeping}
use Rattle.router_model.specs.Calls.{Decide, Gives, answer}
use Rattle.run_model.specs.declared.stamps.TheConstants.{GREATEST_STAMP}
use Rattle.router_core.specs.Views.{RouterView, IsSound, IsTabled, IsTellable, plain_of}
use Rattle.router_core.specs.Calling.{no_step}
use Rattle.bgp_codec.specs.AsNumbers.{AsnFits}
use Rattle.router_core.proofs.NoStep.{gives_no_step}
use Rattle.router_core.proofs.Naming.{is_prefix-true, is_prefix-from}
use Rattle.router_core.proofs.Beginnings.{asn_fits}
use Rattle.router_core.proofs.Originations.{with_tables, stays_sound}
use Rattle.router_core.proofs.Choosing.{Chooses, undecided_is, best_is_route}

-- ---- the best can be told

module _ (x : RouterView) (sound : IsSound x) where
  number_fits : AsnFits x.net.settings.width x.number
  number_fits = asn_fits x.net sound.network x.number sound.router

  alone_tellable : (u : ℕ) → u ≡ x.number → (path : List ℕ) → path ≡ u ∷ [] → IsTellable x.net.settings.width path
  alone_tellable u e path is = subst (IsTellable x.net.settings.width) (sym is) (record { few = omega arith; short = (subst (AsnFits x.net.settings.width) (sym e) number_fits, tt) })

  none_tellable : (path : List ℕ) → path ≡ [] → IsTellable x.net.settings.width path
  none_tellable path is = subst (IsTellable x.net.settings.width) (sym is) (record { few = omega arith; short = tt })

  permitted_few : (table : Table) (q : PrefixView) (path : List ℕ) → IsPermitted table q path → length path ≤ 16
  permitted_few table q path (inl h) = (let e = ap length h.1 in omega (arith, e))
  permitted_few table q path (inr h) = h.1.short

  own_tellable : (P : Type 0) (u : ℕ) → u ≡ x.number → (path : List ℕ) → IsOwn P u path → IsTellable x.net.settings.width path
  own_tellable P u e path (inl h) = alone_tellable u e path h.1
  own_tellable P u e path (inr h) = none_tellable path h.1

  first_tellable : (table : Table) → table.router ≡ x.number → (q : PrefixView) (path : List ℕ) → IsFirstOrNone (Hears x.tables.heard x.tables.established q) table q path → IsTellable x.net.settings.width path
  first_tellable table e q path (inl f) =
      let c = f.choice in
      let rest : AllByRecursion (AsnFits x.net.settings.width) c.rest = subst (AllByRecursion (AsnFits x.net.settings.width)) (ap path_in c.heard.1) (sound.tabled.short c.peer q) in
      record {
        few = permitted_few table q path c.permitted;
        short = subst (AllByRecursion (AsnFits x.net.settings.width)) (sym c.goes_on) (subst (AsnFits x.net.settings.width) (sym e) number_fits, rest);
      }
  first_tellable table e q path (inr h) = none_tellable path h.0

  best_tellable : (q : PrefixView) (path : List ℕ) → IsBest (sources_of x.tables) q path → IsTellable x.net.settings.width path
  best_tellable q path (table, (own, origins, rules), inl h) = own_tellable (Contains x.tables.originated q) table.router (own ∙ sound.tabled.router) path h.1
  best_tellable q path (table, (own, origins, rules), inr h) = first_tellable table (own ∙ sound.tabled.router) q path h.1

  -- ---- the tables after

  abbrev with_kept : RibView → Paths → RibView
  with_kept t ks = record { net = t.net; router = t.router; heard = t.heard; sent = t.sent; established = t.established; originated = t.originated; kept = ks }

  kept_by : (t : RibView) (q : PrefixView) (path : List ℕ) → KeepsPath x.tables t q path → (p : PrefixView) (b : Bool) → is_prefix q p ≡ b → path_of t.kept p ≡ cond b path (path_of x.tables.kept p)
  kept_by t q path k p true e = ap (path_of t.kept) (sym (is_prefix-true q p e)) ∙ k.paths.kept
  kept_by t q path k p false e = k.paths.others p (λ same. not_from_Decides (is_prefix q p) (is_prefix-true q p, is_prefix-from q p) e (sym same))

  tellable_by : (t : RibView) (q : PrefixView) (path : List ℕ) → KeepsPath x.tables t q path → IsTellable x.net.settings.width path → (p : PrefixView) (b : Bool) → is_prefix q p ≡ b → IsTellable x.net.settings.width (path_of t.kept p)
  tellable_by t q path k tells p true e = subst (IsTellable x.net.settings.width) (sym (kept_by t q path k p true e)) tells
  tellable_by t q path k tells p false e = subst (IsTellable x.net.settings.width) (sym (kept_by t q path k p false e)) (sound.tabled.tellable p)

  tabled_kept : (t : RibView) (q : PrefixView) (path : List ℕ) → KeepsPath x.tables t q path → IsTellable x.net.settings.width path → IsNamed x.net.origins q → (stamp : ℕ) → IsTabled (with_tables x (with_kept x.tables t.kept) stamp)
  tabled_kept t q path k tells named stamp =
      let h = sound.tabled in
      record {
        net = h.net;
        router = h.router;
        peers = λ v l. let f = h.peers v l in record { up = f.up; heard = f.heard; told = f.told };
        fresh = h.fresh;
        width = h.width;
        short = h.short;
        sent = h.sent;
        kept = λ p none. k.paths.others p (λ same. none (subst (IsNamed x.net.origins) (sym same) named)) ∙ h.kept p none;
        tellable = λ p. tellable_by t q path k tells p (is_prefix q p) refl;
        originated = h.originated;
      }

  pub sound_deciding : (t : RibView) (q : PrefixView) → Decides x.tables t q → IsNamed x.tables.net.origins q → (stamp : ℕ) → stamp ≤ GREATEST_STAMP → IsSound (with_tables x t stamp)
  sound_deciding t q d named stamp few =
      let here : IsNamed x.net.origins q = subst (λ (net : Plan). IsNamed net.origins q) sound.tabled.net named in
      let whole = tabled_kept t q d.best d.keeps (best_tellable q d.best d.is_best) here stamp in
      stays_sound x stamp sound few t (subst (λ (s : RibView). IsTabled (with_tables x s stamp)) (sym d.keeps.rest) whole)

-- ---- what is answered

module _ (over : BestOverWords) (one : OneBest) (g : Setting) (x : RouterView) (c : Chooses g x) where
  pub decided_all : HoldsOfAll x.tables.net.origins (IsSettled x.tables) → Gives g x.number (Ok stepped.Nothing) (answer g x.number (plain_of x) Decide) (plain_of x) Decide (plain_of x)
  decided_all all = rw (← undecided_is over one g x c None all) (refl, refl)

  module _ (q : PrefixView) (least : IsLeastWithout x.tables.net.origins (IsSettled x.tables) q) where
    first : undecided g x.number (plain_of x).router ≡ Some q
    first = sym (undecided_is over one g x c (Some q) least)

    pub no_step_to_decide : Gives g x.number (Err (no_step x.stamp)) (answer g x.number (plain_of x) Decide) (plain_of x) Decide (plain_of x)
    no_step_to_decide = rw first (gives_no_step g x.number (nat_lt GREATEST_STAMP (x.stamp + 1)) (plain_of x) Decide (alone step.Decides))

    pub no_memory_to_decide : nat_lt GREATEST_STAMP (x.stamp + 1) ≡ false → Gives g x.number (Err error.Memory) (answer g x.number (plain_of x) Decide) (plain_of x) Decide (plain_of x)
    no_memory_to_decide early = rw (first, early) (refl, refl)

    pub decides : (t : RibView) → Decides x.tables t q → nat_lt GREATEST_STAMP (x.stamp + 1) ≡ false
        → Gives g x.number (Ok stepped.Did) (answer g x.number (plain_of x) Decide) (plain_of x) Decide (plain_of (with_tables x t (x.stamp + 1)))
    decides t d early =
        let named = subst (λ (net : Plan). IsNamed net.origins q) c.sound.tabled.net least.is_named in
        let is : d.best ≡ best_path g x.number (plain_of x).router q = best_is_route over one g x c q named d.best d.is_best in
        let all : (p : PrefixView) → path_of t.kept p ≡ cond (is_prefix q p) (best_path g x.number (plain_of x).router q) (path_of x.tables.kept p) =
        λ p. kept_by x c.sound t q d.best d.keeps p (is_prefix q p) refl ∙ ap (λ (path : List ℕ). cond (is_prefix q p) path (path_of x.tables.kept p)) is in
        rw (first, early) (
          refl,
          ap (λ (s : RibView). plain_of (with_tables x s (x.stamp + 1))) d.keeps.rest
              ∙ ap (λ (f : PrefixView → List ℕ). record { router = record (plain_of x).router { kept = f }; stamp = x.stamp + 1 }) (fun_ext all)
              ∙ ap (λ (o : Option PrefixView). record { router = keeping (plain_of x).router o (best_path g x.number (plain_of x).router); stamp = x.stamp + 1 }) (sym first),
        )
