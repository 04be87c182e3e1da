-- What threads ended in is what is reported of a world that stands where they ended.
use Rattle.std.proofs.Common.{◌≡◌, ℕ, List, [], ◌∷◌, ◌++◌, map, true, refl, ap, sym, subst, ◌∙◌}
use Rattle.std.specs.Prelude.{◌↔◌}
use Rattle.std.specs.List.{AllByRecursion, Contains, flat_map}
use Rattle.std.proofs.lemmas.List.Folds.{flat_map-map}
use Rattle.ranked_policy.specs.declared.network.Origin.{Origin}
use Rattle.ranked_policy.specs.Plans.{Plan, numbers}
use Rattle.run_model.specs.Offers.{Outcome}
use Rattle.snap_marker.specs.Recordings.{MadeOffer}
use Rattle.snap_collector.specs.Collecting.{member_of}
use Rattle.snap_collector.specs.Collector.{CollectorView, made_for, kept_of}
use Rattle.snap_collector.specs.Collector as collected
use Rattle.snap_collector.specs.Verdicts.{Member, decides, verdict}
use Rattle.router_model.specs.Settings.{Setting}
use Rattle.router_model.specs.State.{Router}
use Rattle.router_core.specs.Views.{plain_of}
use Rattle.world_core.specs.Verdicts.{judged, members_of}
use Rattle.world_core.specs.World.{World}
use Rattle.net_workers.specs.declared.record.Worked.{Worked}
use Rattle.schedule_text.specs.Reports.{snapshot_line, now_line}
use Rattle.schedule_text.specs.Routes.{AreDecided, router_text, routes_text, outcome}
use Rattle.schedule_text.proofs.DecidedLemmas.{decided_one}
use Rattle.thread_engines.specs.declared.gates.RunGate.{RunGate}
use Rattle.thread_engines.specs.Recording.{verdicts_text, kept_text, ending_text}
use Rattle.thread_engines.specs.Laws.{ends_of}

-- ---- snapshots

flat_alike : (f h : ℕ → List ℕ) (xs : List ℕ) → ((x : ℕ) → f x ≡ h x) → flat_map f xs ≡ flat_map h xs
flat_alike f h [] same = refl
flat_alike f h (x ∷ xs) same = ap (λ (l : List ℕ). l ++ flat_map f xs) (same x) ∙ ap (λ (l : List ℕ). h x ++ l) (flat_alike f h xs same)

-- a collector of the network's routers, which was made the offers that these are
module _ (net : Plan) (made : ℕ → List MadeOffer) (c : CollectorView) (members : map member_of c.members ≡ members_of net) (offers : (s : ℕ) → made s ≡ made_for c s) where
  judged_alike : (s : ℕ) → outcome net made s ≡ judged c s
  judged_alike s =
      ap (λ (ms : List Member). verdict ms (kept_of ms (made s))) (sym members)
      ∙ ap (λ (o : List MadeOffer). verdict (map member_of c.members) (kept_of (map member_of c.members) o)) (offers s)

  decided_alike : collected.AreDecided c c.decided → AreDecided (members_of net) made c.decided
  decided_alike h = record {
    rising = h.rising;
    exact = λ s.
        subst (λ (ms : List Member). Contains c.decided s ↔ (decides ms (made s) ≡ true)) members
        (subst (λ (o : List MadeOffer). Contains c.decided s ↔ (decides (map member_of c.members) o ≡ true)) (sym (offers s)) (h.exact s));
  }

  verdicts_alike : (ds : List ℕ) → AreDecided (members_of net) made ds → collected.AreDecided c c.decided → flat_map (λ s. snapshot_line s (outcome net made s)) ds ≡ verdicts_text c c.decided
  verdicts_alike ds are told =
      ap (λ (ns : List ℕ). flat_map (λ s. snapshot_line s (outcome net made s)) ns) (decided_one (members_of net) made ds c.decided are (decided_alike told))
      ∙ flat_alike (λ s. snapshot_line s (outcome net made s)) (λ s. snapshot_line s (judged c s)) c.decided (λ s. ap (λ (o : Outcome). snapshot_line s o) (judged_alike s))

-- ---- routes

kept_alike : (origins : List Origin) (w : World) (ws : List (Worked RunGate)) → AllByRecursion (λ k. (w.routers k.router.number).router ≡ (plain_of k.router).router) ws
    → flat_map (λ k. router_text (w.routers k.router.number).router.kept k.router.number origins) ws ≡ kept_text origins ws
kept_alike origins w [] h = refl
kept_alike origins w (k ∷ ks) h =
    ap (λ (r : Router). router_text r.kept k.router.number origins ++ flat_map (λ j. router_text (w.routers j.router.number).router.kept j.router.number origins) ks) h.0
    ∙ ap (λ (l : List ℕ). router_text (plain_of k.router).router.kept k.router.number origins ++ l) (kept_alike origins w ks h.1)

routes_alike : (net : Plan) (w : World) (ws : List (Worked RunGate)) → map (λ k. k.router.number) ws ≡ numbers net.routers
    → AllByRecursion (λ k. (w.routers k.router.number).router ≡ (plain_of k.router).router) ws → routes_text net w ≡ kept_text net.origins ws
routes_alike net w ws numbered same =
    let text : ℕ → List ℕ = (λ u. router_text (w.routers u).router.kept u net.origins) in
    sym (flat_map-map text (λ r. r.asn) net.routers) ∙ ap (λ (ns : List ℕ). flat_map text ns) (sym numbered) ∙ flat_map-map text (λ (k : Worked RunGate). k.router.number) ws ∙ kept_alike net.origins w ws same

-- ---- both

pub ends_alike : (g : Setting) (w : World) (ds : List ℕ) (net : Plan) (c : CollectorView) (ws : List (Worked RunGate)) → g.net ≡ net → map member_of c.members ≡ members_of g.net → ((s : ℕ) → w.made s ≡ made_for c s)
    → AreDecided (members_of g.net) w.made ds → collected.AreDecided c c.decided → map (λ k. k.router.number) ws ≡ numbers g.net.routers
    → AllByRecursion (λ k. (w.routers k.router.number).router ≡ (plain_of k.router).router) ws → ends_of g w ds ≡ ending_text net c ws
ends_alike g w ds net c ws e members offers are told numbered same =
    let routes : routes_text g.net w ≡ kept_text net.origins ws = routes_alike g.net w ws numbered same ∙ ap (λ (n : Plan). kept_text n.origins ws) e in
    ap (λ (l : List ℕ). (l ++ now_line) ++ routes_text g.net w) (verdicts_alike g.net w.made c members offers ds are told)
    ∙ ap (λ (l : List ℕ). (verdicts_text c c.decided ++ now_line) ++ l) routes
