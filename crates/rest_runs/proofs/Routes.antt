-- The kept paths of a world at rest are a stable assignment.
use Rattle.std.proofs.Common.{◌≡◌, ℕ, Bool, true, false, ◌&&◌, not, cond, List, [], ◌∷◌, ◌++◌, map, append-nil, refl, ap, sym, ◌∙◌, subst, arith, inl, inr}
use Rattle.std.specs.Cmp.Lexicographic.{same_text}
use Rattle.std.proofs.Math.Path.{fun_ext}
use Rattle.prefix_lanes.specs.Bits.{PrefixView, is_prefix}
use Rattle.bgp_codec.specs.declared.message.Message.{Message}
use Rattle.ranked_policy.specs.declared.network.Origin.{Origin}
use Rattle.ranked_policy.specs.Plans.{IsRouter}
use Rattle.ranked_policy.proofs.TestLemmas.{prefix_test}
use Rattle.stable_paths.specs.Stable.{Problem, IsStable}
use Rattle.stable_paths.specs.Promises.{StableIsTheModels}
use Rattle.dispute_wheels.specs.Promises.{SafeHaveOneStable}
use Rattle.bgp_framing.specs.Held.{is_waiting}
use Rattle.rib_tables.specs.Words.{nothing, path_in, last_word}
use Rattle.router_model.specs.Settings.{Setting, IsSetting, linked, names, prefixes, is_router}
use Rattle.router_model.specs.Sides.{Side, is_up}
use Rattle.router_model.specs.State.{Router, same_path, heard, last_told, best_path}
use Rattle.router_model.specs.Laws.{LinkedRoutersArePeers, all_passes}
use Rattle.router_runs.specs.Runs.{side_of, log_of, written_in}
use Rattle.router_runs.specs.Model.{network_of}
use Rattle.router_runs.specs.Mirrors.{EachSettingHasItsModel}
use Rattle.router_runs.specs.Said.{RunsKeep, Kept}
use Rattle.router_runs.proofs.Stability.{chooses_as}
use Rattle.world_core.specs.World.{World, IsRunOfWorld}
use Rattle.world_core.specs.Keeping.{WhatIsPlayedIsARun}
use Rattle.wheel_runs.specs.Changes.{problem_of}
use Rattle.rest_runs.specs.Rounds.{IsAtRest, AllAreUp, kept_in, IsOriginated, RestIsStable, RestIsTheOne}
use Rattle.rest_runs.proofs.Numbers.{Among, any_of}
use Rattle.rest_runs.proofs.Peaks.{peak, peak_append}
use Rattle.rest_runs.proofs.Idling.{says_in, passing_plain, outbox_none, no_item, none_waits, pipe_empty, decided, told}
use Rattle.rest_runs.proofs.Heard.{LawsHeard, Quiet, not_later, acted_is_sent}

same_is : (a b : List ℕ) → not (same_path a b) ≡ false → a ≡ b
same_is a b h = at (same_path a b) refl
  where
    at : (c : Bool) → same_path a b ≡ c → a ≡ b
    at true is = same_text a b (sym is)
    at false is = absurd (let k = sym (ap not is) ∙ h in cc k)

named_among : (origins : List Origin) (o : Origin) → Among o origins → Among o.prefix (map (λ origin. origin.prefix) origins)
named_among [] o i = absurd i
named_among (p ∷ origins) o (inl same) = inl (ap (λ (k : Origin). k.prefix) same)
named_among (p ∷ origins) o (inr i) = inr (named_among origins o i)

in_prefixes : (g : Setting) (q : PrefixView) → names g.net.origins q ≡ true → Among q (prefixes g)
in_prefixes g q named =
    let o = any_of (λ origin. is_prefix origin.prefix q) g.net.origins named in
    subst (λ (k : PrefixView). Among k (prefixes g)) ((prefix_test o.0.prefix q).0 o.2) (named_among g.net.origins o.0 o.1)

if_linked : (b up : Bool) (heard kept : List ℕ) → (b ≡ true → (up ≡ true) × (heard ≡ kept)) → cond (b && up) heard [] ≡ cond b kept []
if_linked true up heard kept h = (let k = h refl in ap (λ (c : Bool). cond c heard []) k.0 ∙ k.1)
if_linked false up heard kept h = refl

pub record Laws : Type 0 where
  pub heard : LawsHeard
  pub peers : LinkedRoutersArePeers
  pub runs_keep : RunsKeep
  pub is_run : WhatIsPlayedIsARun
  pub stable : StableIsTheModels Message
  pub has_model : EachSettingHasItsModel

module _ (laws : Laws) (g : Setting) (set : IsSetting g) (w : World) (r : IsRunOfWorld g w) (rest : IsAtRest g w) (up : AllAreUp g w) where
  kept : Kept g r.state
  kept = laws.runs_keep g set r.order r.state r.run

  side_is : (u v : ℕ) → IsRouter g.net.routers u → (w.routers u).router.sides v ≡ side_of r.state u v
  side_is u v known = ap (λ (x : Router). x.sides v) (r.agrees.routers u known)

  empty : (u v : ℕ) → linked g.net u v ≡ true → ((w.routers u).router.sides v).outbox ≡ []
  empty u v near =
      let known = (laws.peers g.net set.network u v near).one in
      let plain : peak says_in (side_of r.state u v).outbox ≡ 0 =
      omega (
        arith,
        peak_append says_in (all_passes (r.state.put u v)) (side_of r.state u v).outbox,
        ap (peak says_in) (kept.reached.puts u v),
        passing_plain (written_in g) (log_of r.state u v),
      ) in
      outbox_none g.net.settings.cut ((w.routers u).router.sides v).outbox (ap (λ (s : Side). peak says_in s.outbox) (side_is u v known) ∙ plain) (no_item laws.peers g set w rest.events u v near)

  quiet : (u v : ℕ) → linked g.net u v ≡ true → Quiet laws.heard g set r.state kept u v
  quiet u v near =
      let p = laws.peers g.net set.network u v near in
      record {
        outbox = sym (ap (λ (s : Side). s.outbox) (side_is v u p.other)) ∙ empty v u p.back;
        pipe = r.agrees.pipes v u ∙ ap (λ items. r.state.taken v u ++ map (λ i. i.what) items) (pipe_empty laws.peers g set w rest.events u v near) ∙ append-nil (r.state.taken v u);
        none_waits = sym (ap (λ (s : Side). is_waiting s.held) (side_is u v p.one)) ∙ none_waits laws.peers g set w rest.events u v near;
        near = near;
        back = p.back;
        teller = p.other;
        up = sym (ap is_up (side_is u v p.one)) ∙ up u v near;
      }

  module _ (q : PrefixView) (named : names g.net.origins q ≡ true) where
    -- what a router heard of a peer is what the peer keeps
    heard_is : (u v : ℕ) → linked g.net u v ≡ true → path_in (heard ((w.routers u).router.sides v) q) ≡ kept_in w q v
    heard_is u v near =
        let p = laws.peers g.net set.network u v near in
        let s : Side = side_of r.state u v in
        let t : Side = side_of r.state v u in
        let here = not_later laws.heard g set r.state kept u v (quiet u v near) in
        let there = not_later laws.heard g set r.state kept v u (quiet v u p.back) in
        let one : s.link.epoch ≡ t.link.epoch = omega (arith, here, there) in
        let words : s.acted s.link.epoch ≡ t.sent t.link.epoch = acted_is_sent laws.heard g set r.state kept u v (quiet u v near) ∙ ap t.sent one in
        let said : kept_in w q v ≡ path_in (last_told ((w.routers v).router.sides u) q) =
        same_is (kept_in w q v) (path_in (last_told ((w.routers v).router.sides u) q)) (told laws.peers g set w rest.events v u p.back (up v u p.back) (empty v u p.back) q (in_prefixes g q named)) in
        ap (λ (k : Side). path_in (heard k q)) (side_is u v p.one) ∙ ap (λ us. path_in (last_word nothing us q)) words ∙ sym (ap (λ (k : Side). path_in (last_told k q)) (side_is v u p.other)) ∙ sym said

    best_is : (u : ℕ) → is_router g u ≡ true → kept_in w q u ≡ g.best u q ((w.routers u).router.originated q) (λ v. cond (linked g.net u v) (kept_in w q v) [])
    best_is u is =
        let known = ((laws.has_model g set).routers u).0 is in
        let x : Router = (w.routers u).router in
        same_is (kept_in w q u) (best_path g u x q) (decided laws.peers g set w rest.events u known q (in_prefixes g q named))
        ∙ ap (λ (words : ℕ → List ℕ). g.best u q (x.originated q) words)
        (fun_ext (λ v. if_linked (linked g.net u v) (is_up (x.sides v)) (path_in (heard (x.sides v) q)) (kept_in w q v) (λ near. (up u v near, heard_is u v near))))

    pub is_stable : (originated : Bool) → IsOriginated g w q originated → IsStable (record { net = g.net; prefix = q; originated = originated }) (kept_in w q)
    is_stable originated own =
        let by = (λ (u : ℕ). (w.routers u).router.originated q) in
        let is = (laws.has_model g set).named q named in
        let p : Problem = record { net = g.net; prefix = q; originated = originated } in
        (laws.stable p (record { network = set.network; named = is }) by (network_of g) (chooses_as g set q is by originated own) (kept_in w q)).1 best_is

pub rest_is_stable : Laws → RestIsStable
rest_is_stable laws g set events w is rest up q named originated own = is_stable laws g set w (laws.is_run g set events w is) rest up q named originated own

pub rest_is_the_one : EachSettingHasItsModel → RestIsStable → SafeHaveOneStable → RestIsTheOne
rest_is_the_one has_model stable one g set safe events w is rest up q named own paths is_stable u known =
    let is_named = (has_model g set).named q named in
    let only = one (problem_of g q) (record { problem = record { network = set.network; named = is_named }; originated = refl }) (safe q is_named) in
    only.2 (kept_in w q) (stable g set events w is rest up q named true own) u known ∙ sym (only.2 paths is_stable u known)
