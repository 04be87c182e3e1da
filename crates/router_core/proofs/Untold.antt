-- What is known where a peer is to be told the kept path of a prefix.
use Rattle.std.proofs.Common.{◌≡◌, ℕ, zero, suc, ◌<◌, Bool, true, false, cond, ◌&&◌, List, [], ◌∷◌, length, map, Option, None, Some, refl, sym, ap, subst, ◌∙◌, arith, get_or}
use Rattle.std.specs.List.{find}
use Rattle.std.proofs.lemmas.Bool.{and_parts}
use Rattle.prefix_lanes.specs.Bits.{PrefixView}
use Rattle.ranked_policy.specs.declared.network.Origin.{Origin}
use Rattle.ranked_policy.specs.Plans.{Plan, IsNamed, Linked}
use Rattle.router_model.specs.Settings.{linked, prefixes}
use Rattle.router_model.specs.Sides.{Side, is_up}
use Rattle.router_model.specs.State.{is_unadvertised}
use Rattle.router_side.specs.SideOf.{side, side_opening}
use Rattle.router_core.specs.declared.peers.Peer.{Peer}
use Rattle.router_core.specs.Views.{RouterView, IsSound, IsAt, MayTell, config_of, sides_of, plain_of, unchosen}
use Rattle.router_core.proofs.PeerLemmas.{side_here, number_here}
use Rattle.router_core.proofs.Naming.{decides_linked}
use Rattle.router_core.proofs.Leasts.{named_here, named_further}

found_named : (test : PrefixView → Bool) (os : List Origin) (q : PrefixView) → find test (map (λ o. o.prefix) os) ≡ Some q → IsNamed os q
found_named test [] q h = absurd cc
found_named test (o ∷ os) q h = at (test o.prefix) refl h (λ k. found_named test os q k)
  where
    at : (b : Bool) → test o.prefix ≡ b → cond b (Some o.prefix) (find test (map (λ (y : Origin). y.prefix) os)) ≡ Some q
        → (find test (map (λ (y : Origin). y.prefix) os) ≡ Some q → IsNamed os q) → IsNamed (o ∷ os) q
    at true e k rest = (let same : o.prefix ≡ q = cc in subst (IsNamed (o ∷ os)) same (named_here o os))
    at false e k rest = named_further o os q (rest k)

where_some : {A : Type 0} (b : Bool) (o : Option A) (a : A) → cond b o None ≡ Some a → (b ≡ true) × (o ≡ Some a)
where_some true o a h = (refl, h)
where_some false o a h = absurd cc

is_below : (ps : List Peer) (v i : ℕ) → IsAt ps v i → i < length ps
is_below [] v i h = absurd h
is_below (p ∷ ps) v zero h = omega arith
is_below (p ∷ ps) v (suc i) h = (let l = is_below ps v i h.1 in omega arith)

module _ (x : RouterView) (sound : IsSound x) (i : ℕ) (q : PrefixView) (may : MayTell x i q) where
  pub below : i < length x.peers
  below = is_below x.peers may.peer i may.place

  parts : (linked x.net x.number may.peer && is_up (sides_of x may.peer) ≡ true) × (find (is_unadvertised (unchosen x.net) x.number (plain_of x).router may.peer) (prefixes (unchosen x.net)) ≡ Some q)
  parts =
      where_some (linked x.net x.number may.peer && is_up (sides_of x may.peer)) (find (is_unadvertised (unchosen x.net) x.number (plain_of x).router may.peer) (prefixes (unchosen x.net))) q may.waits

  pub named : IsNamed x.net.origins q
  named = found_named (is_unadvertised (unchosen x.net) x.number (plain_of x).router may.peer) x.net.origins q parts.1

  pub named_there : IsNamed x.tables.net.origins q
  named_there = subst (λ (net : Plan). IsNamed net.origins q) (sym sound.tabled.net) named

  module _ (p : Peer) (is : p ≡ get_or x.peers i p) where
    pub same : may.peer ≡ p.number
    same = sym (ap (λ (w : Peer). w.number) is ∙ number_here x.peers may.peer i p may.place)

    pub place : IsAt x.peers p.number i
    place = subst (λ (n : ℕ). IsAt x.peers n i) same may.place

    pub here : side p.side ≡ sides_of x p.number
    here = ap (λ (w : Peer). side w.side) is ∙ sym (side_here (side_opening (config_of x.net) x.net.settings.width) x.peers p.number i p place)

    pub has_width : (side p.side).width ≡ x.net.settings.width
    has_width = ap (λ (s : Side). s.width) here ∙ sound.tabled.width p.number

    pub is_linked : Linked x.tables.net.links x.tables.router p.number
    is_linked =
        let l = and_parts (linked x.net x.number may.peer) (is_up (sides_of x may.peer)) parts.0 in
        let there : linked x.net x.number p.number ≡ true = subst (λ (n : ℕ). linked x.net x.number n ≡ true) same l.0 in
        subst (λ (net : Plan). Linked net.links x.tables.router p.number) (sym sound.tabled.net)
        (subst (λ (n : ℕ). Linked x.net.links n p.number) (sym sound.tabled.router) ((decides_linked x.net x.number p.number).0 there))

    pub up : is_up (sides_of x p.number) ≡ true
    up = (let l = and_parts (linked x.net x.number may.peer) (is_up (sides_of x may.peer)) parts.0 in subst (λ (n : ℕ). is_up (sides_of x n) ≡ true) same l.1)

    -- it is the number that stands there
    pub number_is : (v : ℕ) → IsAt x.peers v i → p.number ≡ v
    number_is v at = ap (λ (w : Peer). w.number) is ∙ number_here x.peers v i p at
