-- The peers in their order: which of them is told next.
use Rattle.std.proofs.Common.{◌≡◌, ℕ, zero, suc, ◌+◌, ◌<◌, ◌≤◌, Bool, true, false, cond, List, [], ◌∷◌, length, map, drop, Option, None, Some, refl, sym, ap, subst, ◌∙◌, arith, get_or, drop-cons}
use Rattle.std.specs.Prelude.{MatchOption, is_some, nat_lt}
use Rattle.std.specs.Option.{option_or}
use Rattle.std.specs.List.{AllPairs, find}
use Rattle.std.proofs.lemmas.Bool.{eq-eqb, ne_eqb}
use Rattle.std.proofs.lemmas.List.{length-map}
use Rattle.prefix_lanes.specs.Bits.{PrefixView}
use Rattle.rib_tables.specs.Least.{HoldsOfAll, IsLeastWithout}
use Rattle.rib_tables.specs.Owners.{AllServed, IsServed}
use Rattle.outbox.specs.Items.{octets_waiting}
use Rattle.router_model.specs.Settings.{linked, peers}
use Rattle.router_model.specs.declared.limits.TheConstants.{OUTBOX_LIMIT}
use Rattle.router_side.specs.SideOf.{side, side_opening}
use Rattle.router_core.specs.declared.peers.Peer.{Peer}
use Rattle.router_core.specs.declared.router.choose.Next.TheVariants as next
use Rattle.router_core.specs.Views.{RouterView, IsSound, IsAt, IsNamedAt, IsNext, MayTell, listed, config_of, sides_of, unchosen, waits_at, has_room_at}
use Rattle.router_core.proofs.PeerLemmas.{side_here}
use Rattle.router_core.proofs.Places.{rising}
use Rattle.router_core.proofs.Awaiting.{waiting_is, untold_is}

-- ---- places of peers

is_listed : (ps : List Peer) (v i : ℕ) → IsAt ps v i → listed v ps ≡ true
is_listed [] v i h = absurd h
is_listed (p ∷ ps) v zero h = rw (eq-eqb p.number v h) refl
is_listed (p ∷ ps) v (suc i) h = rw (ne_eqb p.number v h.0) (is_listed ps v i h.1)

number_in : (ps : List Peer) (i : ℕ) (d : Peer) (n : ℕ) → i < length ps → get_or (map (λ p. p.number) ps) i n ≡ (get_or ps i d).number
number_in [] i d n lt = absurd (omega (arith, lt))
number_in (p ∷ ps) zero d n lt = refl
number_in (p ∷ ps) (suc i) d n lt = number_in ps i d n (omega (arith, lt))

-- where numbers rise, each stands at its place first
is_at : (ps : List Peer) → AllPairs (λ a b. a < b) (map (λ p. p.number) ps) → (i : ℕ) (d : Peer) → i < length ps → IsAt ps (get_or ps i d).number i
is_at [] rising i d lt = absurd (omega (arith, lt))
is_at (p ∷ ps) rising zero d lt = refl
is_at (p ∷ ps) rising (suc i) d lt =
    let size : length (map (λ (w : Peer). w.number) ps) ≡ length ps = length-map ps (λ (w : Peer). w.number) in
    let up : p.number < get_or (map (λ (w : Peer). w.number) ps) i 0 = rising 0 (suc i) 0 (omega arith) (omega (arith, size, lt)) in
    let there : get_or (map (λ (w : Peer). w.number) ps) i 0 ≡ (get_or ps i d).number = number_in ps i d 0 (omega (arith, lt)) in
    let rest : AllPairs (λ a b. a < b) (map (λ (w : Peer). w.number) ps) = λ j k e l m. rising (suc j) (suc k) e (omega (arith, l)) (omega (arith, m)) in
    ((λ same. absurd (omega (arith, up, there, same))), is_at ps rest i d (omega (arith, lt)))

abbrev pub numbers_from : List Peer → ℕ → List ℕ
numbers_from ps i = map (λ p. p.number) (drop i ps)

find_on : (test : ℕ → Bool) (ps : List Peer) (i : ℕ) (p : Peer) → i < length ps → p ≡ get_or ps i p
    → find test (numbers_from ps i) ≡ cond (test p.number) (Some p.number) (find test (numbers_from ps (i + 1)))
find_on test ps i p lt is =
    let next : suc i ≡ i + 1 = omega arith in
    let cut : drop i ps ≡ p ∷ drop (i + 1) ps = drop-cons ps i p lt ∙ ap (λ (w : Peer). w ∷ drop (suc i) ps) (sym is) ∙ ap (λ (n : ℕ). p ∷ drop n ps) next in
    ap (λ (ws : List Peer). find test (map (λ (w : Peer). w.number) ws)) cut

drop_all : (ps : List Peer) (i : ℕ) → length ps ≤ i → drop i ps ≡ []
drop_all [] zero le = refl
drop_all [] (suc i) le = refl
drop_all (p ∷ ps) zero le = absurd (omega (arith, le))
drop_all (p ∷ ps) (suc i) le = drop_all ps i (omega (arith, le))

none_on : (test : ℕ → Bool) (ps : List Peer) (i : ℕ) → length ps ≤ i → find test (numbers_from ps i) ≡ None
none_on test ps i le = ap (λ (ws : List Peer). find test (map (λ (w : Peer). w.number) ws)) (drop_all ps i le)

element : (ps : List Peer) (i : ℕ) → i < length ps → (p : Peer) × (p ≡ get_or ps i p)
element [] i lt = absurd (omega (arith, lt))
element (p ∷ ps) zero lt = (p, refl)
element (p ∷ ps) (suc i) lt = element ps i (omega (arith, lt))

-- ---- one after the other

-- no peer before this place has room, and the first of them that waits is this one
pub record Looked (x : RouterView) (i : ℕ) (blocked : Option ℕ) : Type 0 where
  pub rooms : find (has_room_at x) (numbers_from x.peers i) ≡ find (has_room_at x) (numbers_from x.peers 0)
  pub waits : option_or blocked (find (waits_at x) (numbers_from x.peers i)) ≡ find (waits_at x) (numbers_from x.peers 0)

pub looked_none : (x : RouterView) → Looked x 0 None
looked_none x = record { rooms = refl; waits = refl }

module _ (x : RouterView) (sound : IsSound x) where
  all_numbers : (test : ℕ → Bool) → find test (numbers_from x.peers 0) ≡ find test (peers x.net x.number)
  all_numbers test = ap (find test) sound.numbers

  pub nobody_has_room : (i : ℕ) (blocked : Option ℕ) → Looked x i blocked → length x.peers ≤ i → find (has_room_at x) (peers x.net x.number) ≡ None
  nobody_has_room i blocked k le = sym (all_numbers (has_room_at x)) ∙ sym k.rooms ∙ none_on (has_room_at x) x.peers i le

  or_none : (b : Option ℕ) → option_or b None ≡ b
  or_none None = refl
  or_none (Some v) = refl

  pub first_waits : (i : ℕ) (blocked : Option ℕ) → Looked x i blocked → length x.peers ≤ i → find (waits_at x) (peers x.net x.number) ≡ blocked
  first_waits i blocked k le =
      sym (all_numbers (waits_at x)) ∙ sym k.waits ∙ ap (option_or blocked) (none_on (waits_at x) x.peers i le) ∙ or_none blocked

  module _ (i : ℕ) (p : Peer) (lt : i < length x.peers) (is : p ≡ get_or x.peers i p) where
    pub at : IsAt x.peers p.number i
    at = subst (λ (w : Peer). IsAt x.peers w.number i) (sym is) (is_at x.peers (rising x sound) i p lt)

    link : linked x.net x.number p.number ≡ true
    link = sym (sound.links p.number) ∙ is_listed x.peers p.number i at

    here : side p.side ≡ sides_of x p.number
    here = ap (λ (w : Peer). side w.side) is ∙ sym (side_here (side_opening (config_of x.net) x.net.settings.width) x.peers p.number i p at)

    octets : octets_waiting (sides_of x p.number).outbox ≡ octets_waiting (side p.side).outbox
    octets = ap (λ s. octets_waiting s.outbox) (sym here)

    waits_is : (found : Option PrefixView) → MatchOption found (HoldsOfAll x.tables.net.origins (IsServed x.tables p.number)) (IsLeastWithout x.tables.net.origins (IsServed x.tables p.number))
        → waits_at x p.number ≡ is_some found
    waits_is found h = waiting_is (unchosen x.net) x sound refl p.number link found h

    pub past_idle : HoldsOfAll x.tables.net.origins (IsServed x.tables p.number) → (blocked : Option ℕ) → Looked x i blocked → Looked x (i + 1) blocked
    past_idle all blocked k =
        let idle : waits_at x p.number ≡ false = waits_is None all in
        record {
          rooms = sym (find_on (has_room_at x) x.peers i p lt is ∙ rw idle refl) ∙ k.rooms;
          waits = sym (ap (option_or blocked) (find_on (waits_at x) x.peers i p lt is ∙ rw idle refl)) ∙ k.waits;
        }

    module _ (q : PrefixView) (least : IsLeastWithout x.tables.net.origins (IsServed x.tables p.number) q) where
      waits : waits_at x p.number ≡ true
      waits = waits_is (Some q) least

      or_some : (b c : Option ℕ) → option_or (option_or b (Some p.number)) c ≡ option_or b (Some p.number)
      or_some None c = refl
      or_some (Some v) c = refl

      pub past_full : nat_lt (octets_waiting (side p.side).outbox) OUTBOX_LIMIT ≡ false → (blocked : Option ℕ) → Looked x i blocked → Looked x (i + 1) (option_or blocked (Some p.number))
      past_full full blocked k =
          let no_room : has_room_at x p.number ≡ false = rw (waits, octets, full) refl in
          let first : find (waits_at x) (numbers_from x.peers i) ≡ Some p.number = find_on (waits_at x) x.peers i p lt is ∙ rw waits refl in
          record {
            rooms = sym (find_on (has_room_at x) x.peers i p lt is ∙ rw no_room refl) ∙ k.rooms;
            waits = or_some blocked (find (waits_at x) (numbers_from x.peers (i + 1))) ∙ sym (ap (option_or blocked) first) ∙ k.waits;
          }

      may_tell : MayTell x i q
      may_tell = record { peer = p.number; place = at; waits = sym (untold_is (unchosen x.net) x sound refl p.number link (Some q) least) }

      pub is_next : nat_lt (octets_waiting (side p.side).outbox) OUTBOX_LIMIT ≡ true → (blocked : Option ℕ) → Looked x i blocked → (place : ℕ) → IsNamedAt x.net q place → IsNext x (next.Peer i place q)
      unfolding may_tell
      is_next free blocked k place named =
          let room : has_room_at x p.number ≡ true = rw (waits, octets, free) refl in
          (may_tell, sym (all_numbers (has_room_at x)) ∙ sym k.rooms ∙ find_on (has_room_at x) x.peers i p lt is ∙ rw room refl, named)

  -- where each peer was told all, none of those before a place waits
  idle_through : AllServed x.tables → (i : ℕ) → i ≤ length x.peers → Looked x i None
  idle_through all zero l = looked_none x
  idle_through all (suc i) l =
      let inside : i < length x.peers = omega (arith, l) in
      let here = element x.peers i inside in
      let next : i + 1 ≡ suc i = omega arith in
      subst (λ n. Looked x n None) next (past_idle i here.0 inside here.1 (all here.0.number) None (idle_through all i (omega (arith, l))))

  pub nobody_waits : AllServed x.tables → IsNext x next.Nobody
  nobody_waits all =
      let k = idle_through all (length x.peers) (omega arith) in
      (nobody_has_room (length x.peers) None k (omega arith), first_waits (length x.peers) None k (omega arith))
