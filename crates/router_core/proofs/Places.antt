-- The place of a peer: its index among the peers of the network, and among those that a router keeps, is one.
use Rattle.std.proofs.Common.{◌≡◌, ◌∙◌, ℕ, zero, suc, ◌<◌, true, false, List, [], ◌∷◌, length, map, Option, None, Some, ap, sym, subst, arith, get_or}
use Rattle.std.specs.Prelude.{slice_get, IfSome, MatchOption}
use Rattle.std.specs.List.{AllPairs}
use Rattle.std.proofs.lemmas.List.Kept.{AllPairs-filter}
use Rattle.std.specs.Option.{option_map}
use Rattle.std.proofs.lemmas.Option.{same_Some, slice_get_within, get_or_from_slice_get, slice_get-get_or, slice_get-map}
use Rattle.ranked_policy.specs.declared.network.Origin.{Origin}
use Rattle.ranked_policy.specs.Plans.{Plan, numbers}
use Rattle.router_model.specs.Settings.{linked, peers}
use Rattle.router_core.specs.declared.peers.Peer.{Peer}
use Rattle.router_core.specs.Views.{RouterView, IsSound, IsAt, IsFound, IsNamedAt, listed}
use Rattle.router_core.proofs.PeerLemmas.{is_below, is_listed}

-- the numbers of the peers rise
pub rising : (x : RouterView) → IsSound x → AllPairs (λ a b. a < b) (map (λ p. p.number) x.peers)
rising x s = subst (AllPairs (λ a b. a < b)) (sym s.numbers) (AllPairs-filter (λ a b. a < b) (linked x.net x.number) (numbers x.net.routers) s.network.plan.rising)

-- where they rise, a number stands at its place first
at_number : (ps : List Peer) → AllPairs (λ a b. a < b) (map (λ p. p.number) ps) → (v i : ℕ) → slice_get (map (λ p. p.number) ps) i ≡ Some v → IsAt ps v i
at_number [] up v i h = absurd cc
at_number (p ∷ ps) up v zero h = same_Some p.number v h
at_number (p ∷ ps) up v (suc i) h =
    let ns = map (λ (w : Peer). w.number) ps in
    let inside : i < length ns = slice_get_within ns i v h in
    let below : p.number < get_or ns i 0 = up 0 (suc i) 0 (omega arith) (omega (arith, inside)) in
    let here : get_or ns i 0 ≡ v = get_or_from_slice_get ns i v 0 h in
    let rest : AllPairs (λ a b. a < b) ns = λ j k e l m. up (suc j) (suc k) e (omega (arith, l)) (omega (arith, m)) in
    ((λ same. absurd (omega (arith, below, here, same))), at_number ps rest v i h)

number_at : (ps : List Peer) (v i : ℕ) → IsAt ps v i → slice_get (map (λ p. p.number) ps) i ≡ Some v
number_at [] v i h = absurd h
number_at (p ∷ ps) v zero h = ap Some h
number_at (p ∷ ps) v (suc i) h = number_at ps v i h.1

-- a router finds the peer at its place
pub found_here : (x : RouterView) (v i : ℕ) → IsSound x → slice_get (peers x.net x.number) i ≡ Some v → IsFound x.peers v i
found_here x v i s h =
    let at = at_number x.peers (rising x s) v i (ap (λ (ns : List ℕ). slice_get ns i) s.numbers ∙ h) in
    (is_below x.peers v i at, is_listed x.peers v i at, at)

-- and a link leads to it
pub linked_here : (x : RouterView) (v i : ℕ) → IsSound x → slice_get (peers x.net x.number) i ≡ Some v → linked x.net x.number v ≡ true
linked_here x v i s h = sym (s.links v) ∙ (found_here x v i s h).1

-- what is found is the peer at its place
pub found_stands : (x : RouterView) (v : ℕ) (o : Option ℕ) → IsSound x → MatchOption o (listed v x.peers ≡ false) (IsFound x.peers v) → IfSome o (λ i. slice_get (peers x.net x.number) i ≡ Some v)
found_stands x v None s h = tt
found_stands x v (Some i) s h = ap (λ (ns : List ℕ). slice_get ns i) (sym s.numbers) ∙ number_at x.peers v i h.2

-- what a list that is read by a function has at a place
read_at : {X Y : Type 0} (f : X → Y) (xs : List X) (i : ℕ) (x : X) → i < length xs → x ≡ get_or xs i x → slice_get (map f xs) i ≡ Some (f x)
read_at f xs i x lt is = slice_get-map f xs i ∙ ap (option_map f) (slice_get-get_or xs i x lt) ∙ ap (λ y. Some (f y)) (sym is)

-- the peer at a place stands there among the peers of the tables
pub told_here : (x : RouterView) (v i : ℕ) → IsSound x → slice_get (peers x.net x.number) i ≡ Some v → slice_get (peers x.tables.net x.tables.router) i ≡ Some v
told_here x v i s h = rw (s.tabled.net, s.tabled.router) h

pub listed_here : (x : RouterView) (i : ℕ) (p : Peer) → IsSound x → i < length x.peers → p ≡ get_or x.peers i p → slice_get (peers x.tables.net x.tables.router) i ≡ Some p.number
listed_here x i p s lt is = told_here x p.number i s (ap (λ (ns : List ℕ). slice_get ns i) (sym s.numbers) ∙ read_at (λ w. w.number) x.peers i p lt is)

-- the prefix of the origin at a place stands there in the network
pub named_here : (net : Plan) (i : ℕ) (o : Origin) (origins : List Origin) → origins ≡ net.origins → i < length origins → o ≡ get_or origins i o → IsNamedAt net o.prefix i
named_here net i o origins all lt is = subst (λ (os : List Origin). slice_get (map (λ k. k.prefix) os) i ≡ Some o.prefix) all (read_at (λ k. k.prefix) origins i o lt is)
