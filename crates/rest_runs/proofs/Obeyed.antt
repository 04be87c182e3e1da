-- A world of the code that obeyed enough rounds is at rest in each setting of its network.
use Rattle.std.proofs.Common.{◌≡◌, ℕ, zero, suc, List, [], ◌∷◌, ap, sym, ◌∙◌, subst, inl, inr, Some}
use Rattle.std.specs.Prelude.{Ok, slice_get}
use Rattle.std.specs.List.{AllByRecursion}
use Rattle.ranked_policy.specs.Plans.{Plan, IsRouter, numbers}
use Rattle.stable_paths.specs.Promises.{OneBest}
use Rattle.router_model.specs.Settings.{Setting, IsSetting, ChoosesByRank}
use Rattle.router_model.specs.Laws.{LinkedRoutersArePeers}
use Rattle.router_runs.specs.Existence.{EachNetworkHasASetting}
use Rattle.router_runs.specs.Mirrors.{EachSettingHasItsModel}
use Rattle.world_core.specs.World.{World, Nothing, world_answer, played}
use Rattle.world_core.specs.Orders.{turn, round, repeated}
use Rattle.world_core.specs.Views.{plain_world}
use Rattle.rest_runs.specs.Resting.{AllAreSafe}
use Rattle.rest_runs.specs.Rounds.{IsAtRest, RoundsComeToRest}
use Rattle.rest_runs.specs.Obeyed.{ObeyedRoundsComeToRest}
use Rattle.rest_runs.proofs.Numbers.{Among}
use Rattle.rest_runs.proofs.Stretch.{known_in}
use Rattle.rest_runs.proofs.Worlds.{idle_plays}
use Rattle.rest_runs.proofs.Transfer.{idle_too}

at_place : (ns : List ℕ) (i u : ℕ) → slice_get ns i ≡ Some u → Among u ns
at_place [] i u is = absurd cc
at_place (n ∷ ns) zero u is = inl (let k : Some n ≡ Some u = is in cc k)
at_place (n ∷ ns) (suc i) u is = inr (at_place ns i u is)

module _ (law : LinkedRoutersArePeers) (one : OneBest) (has_model : EachSettingHasItsModel) where
  -- at rest in one setting of a network, a world is in another
  idle_turn : (g h : Setting) → IsSetting g → ChoosesByRank h → (net : Plan) → g.net ≡ net → h.net ≡ net → (w : World) → IsAtRest g w → (u : ℕ) → IsRouter net.routers u
      → played h w 0 (turn net u) ≡ Ok w
  idle_turn g h set chooses net near_g near_h w rest u known =
      let mine : Setting = record { net = net; best = g.best } in
      let other : Setting = record { net = net; best = h.best } in
      let to_mine : g ≡ mine = ap (λ (n : Plan). record { net = n; best = g.best }) near_g in
      let from_other : other ≡ h = ap (λ (n : Plan). record { net = n; best = h.best }) (sym near_h) in
      let is_set : IsSetting mine = subst IsSetting to_mine set in
      let idle : AllByRecursion (λ event. world_answer mine w event ≡ Nothing) (round net) =
      subst (λ (k : Setting). AllByRecursion (λ event. world_answer k w event ≡ Nothing) (round k.net)) to_mine rest.events in
      let ranks : ChoosesByRank other = subst ChoosesByRank (sym from_other) chooses in
      subst (λ (k : Setting). played k w 0 (turn net u) ≡ Ok w) from_other
      (idle_plays other (turn net u) w 0 (idle_too law one has_model net g.best h.best is_set ranks w idle u known))

  pub obeyed_rounds : EachNetworkHasASetting → RoundsComeToRest → ObeyedRoundsComeToRest
  obeyed_rounds has_setting rests x network hold safe comes =
      let s = has_setting x.net network in
      let g : Setting = s.setting in
      let set : IsSetting g = s.is hold in
      let r = rests g set (subst AllAreSafe (sym s.over) safe) (plain_world x).run (plain_world x) (comes g s.over s.chooses) in (
        r.0,
        λ n enough y same obeys marks i u marked at.
            let w : World = plain_world y in
            let done : played g (plain_world x) 0 (repeated n (round g.net)) ≡ Ok w =
            subst (λ (k : Plan). played g (plain_world x) 0 (repeated n (round k)) ≡ Ok w) (sym s.over) (obeys g s.over s.chooses) in
            let rest : IsAtRest g w = r.1 n enough w done in
            λ h e ranks. idle_turn g h set ranks y.net (s.over ∙ sym same) e w rest u (known_in (numbers y.net.routers) u (at_place (numbers y.net.routers) i u at)),
      )
