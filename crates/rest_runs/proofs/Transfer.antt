-- A world that is at rest in one setting of its network is at rest in each: routers that choose by rank choose alike.
use Rattle.std.proofs.Common.{◌≡◌, ℕ, Bool, true, false, not, List, [], ◌∷◌, refl, ap, sym, ◌∙◌, inl, inr, Option, None, Some}
use Rattle.std.specs.Prelude.{filter, nat_lt}
use Rattle.std.specs.List.{AllByRecursion, find, flat_map}
use Rattle.prefix_lanes.specs.Bits.{PrefixView}
use Rattle.ranked_policy.specs.Plans.{Plan, IsRouter, numbers}
use Rattle.stable_paths.specs.Promises.{OneBest}
use Rattle.run_model.specs.declared.stamps.TheConstants.{GREATEST_STAMP}
use Rattle.router_model.specs.Settings.{Setting, IsSetting, ChoosesByRank, linked, names, peers, prefixes}
use Rattle.router_model.specs.State.{same_path, path_from, undecided, is_undecided, is_waiting_peer}
use Rattle.router_model.specs.Laws.{LinkedRoutersArePeers}
use Rattle.router_model.specs.Calls.{Stamped, Advertise, judged, blocked, stamp_of}
use Rattle.router_runs.specs.Mirrors.{EachSettingHasItsModel}
use Rattle.world_core.specs.declared.schedule.Event.TheVariants as schedule
use Rattle.world_core.specs.World.{World, Nothing, of_answer, world_answer}
use Rattle.world_core.specs.Orders.{with_peer, turn, round}
use Rattle.rest_runs.proofs.Numbers.{Among}
use Rattle.rest_runs.proofs.Worlds.{all_append}
use Rattle.rest_runs.proofs.Idling.{known_is, with_peers, no_item, none_waits, pipe_empty, decided, no_room}
use Rattle.rest_runs.proofs.Stretch.{named_in}

all_each : {A B : Type 0} (P : B → Type 0) (f : A → List B) (xs : List A) → ((a : A) → Among a xs → AllByRecursion P (f a)) → AllByRecursion P (flat_map f xs)
all_each P f [] each = tt
all_each P f (x ∷ xs) each = all_append P (f x) (flat_map f xs) (each x (inl refl)) (all_each P f xs (λ a i. each a (inr i)))

passes_at : {A : Type 0} (p : A → Bool) (x : A) (xs : List A) (a : A) (b : Bool) → p x ≡ b → (Among a (filter p xs) → p a ≡ true) → Among a (filter p (x ∷ xs)) → p a ≡ true
passes_at p x xs a true is on i = at (rw is at i)
  where
    at : Among a (x ∷ filter p xs) → p a ≡ true
    at (inl same) = sym (ap p same) ∙ is
    at (inr j) = on j
passes_at p x xs a false is on i = on (rw is at i)

passes : {A : Type 0} (p : A → Bool) (xs : List A) (a : A) → Among a (filter p xs) → p a ≡ true
passes p [] a i = absurd i
passes p (x ∷ xs) a i = passes_at p x xs a (p x) refl (passes p xs a) i

none_at : {A : Type 0} (p : A → Bool) (xs : List A) → ((a : A) → Among a xs → p a ≡ false) → find p xs ≡ None
none_at p [] off = refl
none_at p (x ∷ xs) off = (let h = off x (inl refl) in let k = none_at p xs (λ a i. off a (inr i)) in rw (h, k) refl)

nobody : (u stamp : ℕ) (waiting : Option ℕ) (b c : Bool) → of_answer u stamp (judged (blocked None waiting) None b c) ≡ Nothing
nobody u stamp None b c = refl
nobody u stamp (Some v) b c = refl

module _ (law : LinkedRoutersArePeers) (one : OneBest) (has_model : EachSettingHasItsModel) (net : Plan) (mine other : ℕ → PrefixView → Bool → (ℕ → List ℕ) → List ℕ) where
  abbrev g : Setting
  g = record { net = net; best = mine }

  abbrev h : Setting
  h = record { net = net; best = other }

  module _ (set : IsSetting g) (chooses : ChoosesByRank h) (w : World) (idle : AllByRecursion (λ event. world_answer g w event ≡ Nothing) (round net)) (u : ℕ) (known : IsRouter net.routers u) where
    abbrev r : Stamped
    r = w.routers u

    alike : (q : PrefixView) → names net.origins q ≡ true → (originated : Bool) (words : ℕ → List ℕ) → mine u q originated words ≡ other u q originated words
    alike q named originated words =
        let is = (has_model g set).named q named in
        one (record { net = net; prefix = q; originated = originated }) (record { network = set.network; named = is }) words u (mine u q originated words) (other u q originated words)
        (set.chooses u known q is originated words) (chooses u known q is originated words)

    decided_too : undecided h u r.router ≡ None
    decided_too =
        none_at (is_undecided h u r.router) (prefixes h) (λ q i.
        sym (ap (λ (path : List ℕ). not (same_path (r.router.kept q) path)) (alike q (named_in net.origins q i) (r.router.originated q) (path_from g u r.router q))) ∙ decided law g set w idle u known q i)

    three : (v : ℕ) → Among v (peers net u) → AllByRecursion (λ event. world_answer h w event ≡ Nothing) (with_peer u v)
    three v i =
        let near = passes (linked net u) (numbers net.routers) v i in
        let here = known_is law g set w idle u known in
        let there = known_is law g set w idle v (law net set.network u v near).other in
        let item = no_item law g set w idle u v near in
        let pipe = pipe_empty law g set w idle u v near in
        let free = none_waits law g set w idle u v near in (
          (rw (here, there, near, item) refl),
          (
            (rw (here, there, near, pipe) refl),
            ((rw (here, there, near, free) refl), tt),
          ),
        )

    pub idle_too : AllByRecursion (λ event. world_answer h w event ≡ Nothing) (turn net u)
    idle_too =
        let here = known_is law g set w idle u known in
        let none = decided_too in
        let room = no_room law g set w idle u known in
        let waiting : Option ℕ = find (is_waiting_peer h u r.router) (peers net u) in
        all_append (λ event. world_answer h w event ≡ Nothing) (flat_map (with_peer u) (peers net u)) (schedule.Decide u ∷ schedule.Advertise u ∷ schedule.Offer u ∷ [])
        (all_each (λ event. world_answer h w event ≡ Nothing) (with_peer u) (peers net u) three) (
          (rw (here, none) refl),
          (
            (rw (here, room) (nobody u (stamp_of h u r Advertise) waiting (nat_lt GREATEST_STAMP (stamp_of h u r Advertise)) false)),
            ((with_peers law g set w idle u known).1.1.1.0, tt),
          ),
        )
