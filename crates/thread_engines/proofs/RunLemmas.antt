-- What a network in threads prints, by what its collector says of the run.
use Rattle.std.proofs.Common.{◌≡◌, ℕ, zero, suc, arith, ◌<◌, ◌≤◌, Bool, true, false, ◌&&◌, List, [], ◌∷◌, ◌++◌, map, length, drop, get_or, ◌+◌, Option, Some, None, refl, sym, ap, subst, ◌∙◌, ◌⊎◌, inl, inr}
use Rattle.std.specs.Prelude.{◌==◌, ◌||◌, slice_index_or}
use Rattle.std.specs.List.{flat_map, list_all, list_any, Any}
use Rattle.std.proofs.lemmas.Bool.{and_parts, eq-eqb}
use Rattle.std.proofs.lemmas.List.{append-nil, drop_more}
use Rattle.prefix_lanes.specs.Bits.{PrefixView}
use Rattle.ranked_policy.specs.Plans.{Plan, IsNetwork, IsOrigin, numbers}
use Rattle.ranked_policy.specs.declared.network.NetRouter.{NetRouter}
use Rattle.ranked_policy.specs.declared.network.Origin.{Origin}
use Rattle.stable_paths.specs.Stable.{IsStable}
use Rattle.run_model.specs.Offers.{HasOutcome, Outcome, Waiting, Abandoned, Moving, Settled, OutcomeIsOne}
use Rattle.bgp_codec.specs.declared.message.Message.{Message}
use Rattle.snap_marker.specs.Recordings.{RouterPart, MadeOffer}
use Rattle.snap_collector.specs.Collecting.{member_of}
use Rattle.snap_collector.specs.Collector.{CollectorView, made_for, kept_of}
use Rattle.snap_collector.specs.Flights.{is_whole}
use Rattle.snap_collector.specs.Verdicts.{Member, verdict}
use Rattle.router_model.specs.Settings.{Setting, IsSetting, is_router, names}
use Rattle.router_runs.specs.Model.{network_of}
use Rattle.router_runs.specs.Runs.{RunState}
use Rattle.router_runs.specs.Snapshots.{ComesOut, HaveMade}
use Rattle.world_core.specs.Verdicts.{judged, members_of, MembersAreTheRouters}
use Rattle.net_workers.specs.Ways.{passed_in}
use Rattle.net_workers.specs.Runs.{KeepsPromises}
use Rattle.text_engines.specs.declared.status.TheConstants.{DONE}
use Rattle.text_engines.specs.Decoding.{Output, output}
use Rattle.text_engines.specs.Checking.{at_prefix}
use Rattle.schedule_text.specs.Routes.{recorded, part_text, parts_text, router_text}
use Rattle.schedule_text.proofs.SettledLemmas.{AreOffersOf, parts_in, the_part, printed_is, have_made}
use Rattle.thread_engines.specs.declared.chores.RunOptions.{RunOptions}
use Rattle.thread_engines.specs.Records.{RunRecord}
use Rattle.thread_engines.specs.Running.{HasSetting, EveryOriginOriginates, IsPassedOver, SettlesOn, SettlesOnNone, PrintsStableRoutes, PrintsUnsettled, is_settled, decided_by, says, all_originate, is_wanted, IsFirstWanted, CollectorGives}

-- ---- the text of parts that were recorded

any_first : (u : ℕ) (rest : Bool) → ((u == u) || rest) ≡ true
any_first u rest = rw (eq-eqb u u refl) refl

any_behind : (b c : Bool) → c ≡ true → (b || c) ≡ true
any_behind true c h = refl
any_behind false c h = h

routes_are : (origins : List Origin) (offers : List MadeOffer) (rs : List NetRouter)
    → ((u : ℕ) → list_any (λ n. u == n) (numbers rs) ≡ true → recorded offers u ≡ Some (parts_in offers u))
    → flat_map (λ r. part_text origins r.asn (recorded offers r.asn)) rs ≡ flat_map (λ r. router_text (parts_in offers r.asn).kept r.asn origins) rs
routes_are origins offers [] all = refl
routes_are origins offers (r ∷ rs) all =
    let here : recorded offers r.asn ≡ Some (parts_in offers r.asn) = all r.asn (any_first r.asn (list_any (λ n. r.asn == n) (numbers rs))) in
    let rest = routes_are origins offers rs (λ u i. all u (any_behind (u == r.asn) (list_any (λ n. u == n) (numbers rs)) i)) in
    ap (λ (o : Option RouterPart). part_text origins r.asn o ++ flat_map (λ x. part_text origins x.asn (recorded offers x.asn)) rs) here
    ∙ ap (λ (t : List ℕ). router_text (parts_in offers r.asn).kept r.asn origins ++ t) rest

-- ---- whether every origin originates

said : (o : Option RouterPart) (q : PrefixView) → says o q ≡ true → (the_part o).originated q ≡ true
said None q h = absurd cc
said (Some part) q h = h

unsaid : (o : Option RouterPart) (q : PrefixView) → says o q ≡ false → (the_part o).originated q ≡ false
unsaid None q h = refl
unsaid (Some part) q h = h

module _ {X : Type 0} (p : X → Bool) where
  all_at : (xs : List X) (k : ℕ) (x : X) → k < length xs → slice_index_or xs k x ≡ x → list_all p xs ≡ true → p x ≡ true
  all_at [] k x below at h = absurd (omega (arith, below))
  all_at (y ∷ xs) zero x below at h = subst (λ (z : X). p z ≡ true) at (and_parts (p y) (list_all p xs) h).0
  all_at (y ∷ xs) (suc k) x below at h = all_at xs k x (omega (arith, below)) at (and_parts (p y) (list_all p xs) h).1

  one_more : (y : X) (xs : List X) → Any (λ x. p x ≡ false) xs → Any (λ x. p x ≡ false) (y ∷ xs)
  one_more y xs f = let below = f.2 in (suc f.0, f.1, omega (arith, below), f.3, f.4)

  none_by : (y : X) (xs : List X) (b : Bool) → p y ≡ b → (b && list_all p xs) ≡ false → (list_all p xs ≡ false → Any (λ x. p x ≡ false) xs) → Any (λ x. p x ≡ false) (y ∷ xs)
  none_by y xs true is h go = one_more y xs (go h)
  none_by y xs false is h go = (let some : 0 < length (y ∷ xs) = omega arith in (0, y, some, refl, is))

  not_all : (xs : List X) → list_all p xs ≡ false → Any (λ x. p x ≡ false) xs
  not_all [] h = absurd cc
  not_all (y ∷ xs) h = none_by y xs (p y) refl h (not_all xs)

-- ---- the origins, one by one

module _ (offers : List MadeOffer) (os : List Origin) (i : ℕ) (o : Origin) (below : i < length os) (at : o ≡ get_or os i o) where
  abbrev rest_of : List Origin
  rest_of = drop (i + 1) os

  parts_at : all_originate (drop i os) offers ≡ (says (recorded offers o.router) o.prefix && all_originate rest_of offers)
  parts_at = ap (λ (xs : List Origin). all_originate xs offers) (drop_more os i o below ∙ ap (λ (x : Origin). x ∷ rest_of) (sym at))

  pub origin_fails : (all : Bool) → says (recorded offers o.router) o.prefix ≡ false → all_originate (drop i os) offers ≡ all → false ≡ all
  origin_fails all no_word h = sym (ap (λ (b : Bool). b && all_originate rest_of offers) no_word) ∙ sym parts_at ∙ h

  pub origin_passes : (all : Bool) → says (recorded offers o.router) o.prefix ≡ true → all_originate (drop i os) offers ≡ all → all_originate rest_of offers ≡ all
  origin_passes all word h = sym (ap (λ (b : Bool). b && all_originate rest_of offers) word) ∙ sym parts_at ∙ h

all_do : (net : Plan) (offers : List MadeOffer) → all_originate net.origins offers ≡ true → EveryOriginOriginates net (parts_in offers)
all_do net offers h = λ u q origin.
    let o : Origin = origin.1 in
    let says_so = all_at (λ (x : Origin). says (recorded offers x.router) x.prefix) net.origins origin.0 o origin.2 origin.3 h in
    subst (λ (n : ℕ). (parts_in offers n).originated q ≡ true) origin.4.1
    (subst (λ (r : PrefixView). (parts_in offers o.router).originated r ≡ true) origin.4.0 (said (recorded offers o.router) o.prefix says_so))

one_does_not : (net : Plan) (offers : List MadeOffer) → all_originate net.origins offers ≡ false → EveryOriginOriginates net (parts_in offers) → ⊥
one_does_not net offers h all =
    let f = not_all (λ (x : Origin). says (recorded offers x.router) x.prefix) net.origins h in
    let o : Origin = f.1 in
    let no : (parts_in offers o.router).originated o.prefix ≡ false = unsaid (recorded offers o.router) o.prefix f.4 in
    let yes : (parts_in offers o.router).originated o.prefix ≡ true = all o.router o.prefix (f.0, o, f.2, f.3, (refl, refl)) in
    absurd cc

-- ---- how a snapshot came out

is_so : (o : Outcome) → is_settled o ≡ true → o ≡ Settled
is_so Settled h = refl
is_so Waiting h = absurd cc
is_so (Moving u why) h = absurd cc
is_so (Abandoned u v e cause) h = absurd cc

is_not : (o : Outcome) → is_settled o ≡ false → o ≡ Settled → ⊥
is_not o h e = let yes : is_settled o ≡ true = ap is_settled e in absurd cc

-- what all routers recorded and made, by the members of the collector
abbrev RecordedAndMade : Setting → RunState → ℕ → (ℕ → List MadeOffer) → List Member → Type 0
RecordedAndMade g state s made members =
    verdict members (kept_of members (made s)) ≡ Settled
    → ((u : ℕ) → is_router g u ≡ true → recorded (kept_of members (made s)) u ≡ Some (parts_in (kept_of members (made s)) u))
    × HaveMade g state s (parts_in (kept_of members (made s)))

recorded_and_made : (g : Setting) (state : RunState) (s : ℕ) (made : ℕ → List MadeOffer) (members : List Member) → members ≡ members_of g.net → AreOffersOf made state.offered
    → RecordedAndMade g state s made members
recorded_and_made g state s made members are of =
    subst (RecordedAndMade g state s made) (sym are) (λ settled. (printed_is g made s (ap is_whole settled), have_made g made s (ap is_whole settled) state of))

-- without a run
abbrev IsRecorded : Plan → ℕ → (ℕ → List MadeOffer) → List Member → Type 0
IsRecorded net s made members =
    verdict members (kept_of members (made s)) ≡ Settled
    → (u : ℕ) → list_any (λ n. u == n) (numbers net.routers) ≡ true → recorded (kept_of members (made s)) u ≡ Some (parts_in (kept_of members (made s)) u)

all_recorded : (net : Plan) (s : ℕ) (made : ℕ → List MadeOffer) (members : List Member) → members ≡ members_of net → IsRecorded net s made members
all_recorded net s made members are =
    subst (IsRecorded net s made) (sym are) (λ settled. printed_is (record { net = net; best = λ u q originated words. [] }) made s (ap is_whole settled))

abbrev One : Type 0
One = OutcomeIsOne Message PrefixView (List ℕ)

module _ (one : One) (g : Setting) (state : RunState) (c : CollectorView) (are : map member_of c.members ≡ members_of g.net) (of : AreOffersOf (made_for c) state.offered)
    (outcomes : (s : ℕ) → HasOutcome (network_of g) s state.offered (judged c s)) where
  passed_by : (s : ℕ) (b m : Bool) → is_settled (judged c s) ≡ b → all_originate g.net.origins (decided_by c s) ≡ m → (b && m) ≡ false → IsPassedOver g state s
  passed_by s false m is it h = inl (λ out. is_not (judged c s) is (one (network_of g) s state.offered (judged c s) Settled (outcomes s) out))
  passed_by s true false is it h =
      let all = recorded_and_made g state s (made_for c) (map member_of c.members) are of (is_so (judged c s) is) in
      inr (parts_in (decided_by c s), all.1, one_does_not g.net (decided_by c s) it)
  passed_by s true true is it h = absurd cc

  passed : (s : ℕ) → is_wanted g.net c s ≡ false → IsPassedOver g state s
  passed s h = passed_by s (is_settled (judged c s)) (all_originate g.net.origins (decided_by c s)) refl refl h

-- ---- what is printed

module _ (one : One) (routers : MembersAreTheRouters) {options : RunOptions} {taken : ℕ} (net : Plan) (is : IsNetwork net) (has : HasSetting net) (r : RunRecord options net taken) where
  abbrev c : CollectorView
  c = r.collector

  members_are : map member_of c.members ≡ members_of net
  members_are = routers net is c.members r.recorded.members

  module _ (g : Setting) (e : g.net ≡ net) (set : IsSetting g) where
    abbrev kept : KeepsPromises g (passed_in r.ways) r.workers c r.gathered
    kept = r.promises g e set

    are_members : map member_of c.members ≡ members_of g.net
    are_members = members_are ∙ ap members_of (sym e)

    are_offers : AreOffersOf (made_for c) kept.run.state.offered
    are_offers t = ap (λ (f : ℕ → List MadeOffer). f t) kept.offered

    passed_over : (s : ℕ) → is_wanted net c s ≡ false → IsPassedOver g kept.run.state s
    passed_over s h = passed one g kept.run.state c are_members are_offers kept.outcomes s (ap (λ (n : Plan). is_wanted n c s) e ∙ h)

    settles_on : (last s : ℕ) → IsFirstWanted net c last s → judged c s ≡ Settled → SettlesOn r g s (parts_in (decided_by c s))
    settles_on last s first is_so =
        let k = kept in
        let out : ComesOut g k.run.state s Settled = subst (λ (o : Outcome). HasOutcome (network_of g) s k.run.state.offered o) is_so (k.outcomes s) in
        let all = recorded_and_made g k.run.state s (made_for c) (map member_of c.members) are_members are_offers is_so in
        let parts = parts_in (decided_by c s) in
        record {
          run = k.run;
          settled = out;
          made = all.1;
          stable = (k.snapshots.settled s out parts all.1 k.run.order [] k.run.state (sym (append-nil k.run.order)) k.run.run refl).stable;
          believed = λ before later at eq reached goes. k.snapshots.settled s out parts all.1 before later at eq reached goes;
          least = λ t some below. passed_over t (first.first t some below);
        }

    settles_on_none : ((s : ℕ) → 0 < s → s ≤ options.snapshots → is_wanted net c s ≡ false) → SettlesOnNone r g
    settles_on_none none = record { run = kept.run; none = λ s some few. passed_over s (none s some few) }

  -- parts in which every origin originates are stable, as the run of one setting shows
  are_stable : (s : ℕ) (parts : ℕ → RouterPart) → EveryOriginOriginates net parts → ((g : Setting) → g.net ≡ net → IsSetting g → SettlesOn r g s parts) → (q : PrefixView) → names net.origins q ≡ true
      → IsStable (at_prefix net q) (λ u. (parts u).kept q)
  are_stable s parts all settled q named =
      let g = has.0 in
      let e : g.net ≡ net = has.1 in
      let named_here = ap (λ (n : Plan). names n.origins q) e ∙ named in
      let originated = λ (u : ℕ) (o : IsOrigin g.net.origins u q). all u q (subst (λ (n : Plan). IsOrigin n.origins u q) e o) in
      subst (λ (n : Plan). IsStable (at_prefix n q) (λ u. (parts u).kept q)) e ((settled g e has.2).stable q named_here true originated)

  prints_routes : (s : ℕ) (out : Output) → IsFirstWanted net c options.snapshots s → out ≡ output (parts_text net (decided_by c s)) DONE → PrintsStableRoutes r out
  prints_routes s out first printed =
      let both = and_parts (is_settled (judged c s)) (all_originate net.origins (decided_by c s)) first.wanted in
      let settled = is_so (judged c s) both.0 in
      let offers = decided_by c s in
      let all = all_do net offers both.1 in
      let on = λ (g : Setting) (e : g.net ≡ net) (set : IsSetting g). settles_on g e set options.snapshots s first settled in
      record {
        number = s;
        some = first.some;
        few = first.few;
        parts = parts_in offers;
        originated = all;
        settled = on;
        stable = are_stable s (parts_in offers) all on;
        printed = printed ∙ ap (λ (t : List ℕ). output t DONE) (routes_are net.origins offers net.routers (all_recorded net s (made_for c) (map member_of c.members) members_are settled));
      }

  -- no snapshot is missing if none is wanted
  none_missing : ((s : ℕ) → 0 < s → s ≤ options.snapshots → is_wanted net c s ≡ false) → (taken ≡ options.snapshots) ⊎ ((s : ℕ) × IsFirstWanted net c options.snapshots s) → taken ≡ options.snapshots
  none_missing none (inl all) = all
  none_missing none (inr found) = absurd (let no = none found.0 found.1.some found.1.few in let yes = found.1.wanted in let e : true ≡ false = sym yes ∙ no in cc)

  pub record_gives : (out : Output) → (taken ≡ options.snapshots) ⊎ ((s : ℕ) × IsFirstWanted net c options.snapshots s) → CollectorGives net c options.snapshots out
      → PrintsStableRoutes r out ⊎ PrintsUnsettled r out
  record_gives out answered (inl found) = inl (prints_routes found.0 out found.1 found.2)
  record_gives out answered (inr none) = inr (record { all = none_missing none.0 answered; unsettled = λ g e set. settles_on_none g e set none.0; printed = none.1 })
