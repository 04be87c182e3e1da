-- What is empty, decided and told where no event of a round finds anything to do.
use Rattle.std.proofs.Common.{◌≡◌, ℕ, ◌==◌, Bool, true, false, ◌&&◌, cond, List, [], ◌∷◌, refl, ap, sym, ◌∙◌, subst, arith, inl, inr, Option, None, Some}
use Rattle.std.specs.Prelude.{nat_lt, nat_eq, is_some, slice_get}
use Rattle.std.specs.List.{AllByRecursion, find, flat_map, list_any}
use Rattle.std.proofs.lemmas.Bool.{eqb-true}
use Rattle.prefix_lanes.specs.Bits.{PrefixView}
use Rattle.bgp_codec.specs.declared.message.Message.{Message}
use Rattle.bgp_framing.specs.Held.{is_waiting}
use Rattle.ranked_policy.specs.Plans.{IsRouter, numbers}
use Rattle.run_model.specs.declared.stamps.TheConstants.{GREATEST_STAMP}
use Rattle.run_model.specs.Links.{Entry, Dial, Says, Mark, Shut}
use Rattle.run_model.specs.Octets.{Passing, Octet, Control, octets_of, passing}
use Rattle.outbox.specs.declared.item.Item.{Item}
use Rattle.outbox.specs.declared.item.What.{What}
use Rattle.outbox.specs.Items.{next_item, octets_waiting}
use Rattle.router_model.specs.declared.limits.TheConstants.{OUTBOX_LIMIT}
use Rattle.router_model.specs.Settings.{Setting, IsSetting, linked, peers, is_router, prefixes}
use Rattle.router_model.specs.Sides.{Side, is_up}
use Rattle.router_model.specs.State.{undecided, is_undecided, is_unadvertised, is_waiting_peer}
use Rattle.router_model.specs.Step.{Handles, Decides, RouterEvent}
use Rattle.run_model.specs.Network.{alone, takes}
use Rattle.router_model.specs.Laws.{AreLinked, LinkedRoutersArePeers}
use Rattle.router_model.specs.Calls.{Stamped, Put, Take, Handle, Decide, Advertise, judged, if_so, put_event, advertise_event, blocked, has_room, stamp_of, overflows_at}
use Rattle.world_core.specs.declared.schedule.Event.{Event}
use Rattle.world_core.specs.declared.schedule.Event.TheVariants as schedule
use Rattle.world_core.specs.World.{World, WorldAnswer, Nothing, of_answer, called, taking_of, where_router, where_linked, world_answer}
use Rattle.world_core.specs.Orders.{with_peer, turn, round}
use Rattle.rest_runs.proofs.Numbers.{Among, any_of, any_has, numbered, own}
use Rattle.rest_runs.proofs.Peaks.{peak, peak_append}
use Rattle.rest_runs.proofs.Worlds.{all_parts}

-- ---- among all

among_all : {A : Type 0} (P : Event → Type 0) (f : A → List Event) (xs : List A) (a : A) → Among a xs → AllByRecursion P (flat_map f xs) → AllByRecursion P (f a)
among_all P f [] a i all = absurd i
among_all P f (x ∷ xs) a (inl same) all = subst (λ y. AllByRecursion P (f y)) same (all_parts P (f x) (flat_map f xs) all).0
among_all P f (x ∷ xs) a (inr i) all = among_all P f xs a i (all_parts P (f x) (flat_map f xs) all).1

none_found_at : {A : Type 0} (p : A → Bool) (xs : List A) (x a : A) (b : Bool) → p x ≡ b → is_some (find p (x ∷ xs)) ≡ false → (is_some (find p xs) ≡ false → Among a xs → p a ≡ false) → Among a (x ∷ xs) → p a ≡ false
none_found_at p xs x a true is none on i = absurd (let h : is_some (find p (x ∷ xs)) ≡ true = rw is refl in let k = sym h ∙ none in cc k)
none_found_at p xs x a false is none on (inl same) = sym (ap p same) ∙ is
none_found_at p xs x a false is none on (inr j) = on (rw is at none) j

none_found : {A : Type 0} (p : A → Bool) (xs : List A) → is_some (find p xs) ≡ false → (a : A) → Among a xs → p a ≡ false
none_found p [] none a i = absurd i
none_found p (x ∷ xs) none a i = none_found_at p xs x a (p x) refl none (λ later j. none_found p xs later a j) i

-- ---- what answers that there is nothing to do

nothing_judged : (u stamp : ℕ) (o : Option RouterEvent) (b c : Bool) → of_answer u stamp (judged None o b c) ≡ Nothing → is_some o ≡ false
nothing_judged u stamp None b c h = refl
nothing_judged u stamp (Some e) true c h = absurd cc
nothing_judged u stamp (Some e) false true h = absurd cc
nothing_judged u stamp (Some e) false false h = absurd cc

put_none : (v : ℕ) (o : Option What) → is_some (put_event v o) ≡ false → o ≡ None
put_none v None h = refl
put_none v (Some i) h = absurd cc

if_none : (b : Bool) (e : RouterEvent) → is_some (if_so b e) ≡ false → b ≡ false
if_none false e h = refl
if_none true e h = absurd cc

-- ---- an outbox with no next item

-- no message is a control entry of what passes
abbrev pub says_in : Entry Message → ℕ
says_in (Dial e) = 0
says_in (Says e m) = 1
says_in (Mark e s) = 0
says_in (Shut e) = 0

octets_plain : (e : ℕ) (bs : List ℕ) → peak says_in (octets_of e bs) ≡ 0
octets_plain e [] = refl
octets_plain e (b ∷ bs) = octets_plain e bs

pub passing_plain : (written : Message → List ℕ) (xs : List (Entry Message)) → peak says_in (passing written xs) ≡ 0
passing_plain written [] = refl
passing_plain written (Dial e ∷ rest) = omega (arith, passing_plain written rest)
passing_plain written (Says e m ∷ rest) = omega (arith, peak_append says_in (octets_of e (written m)) (passing written rest), octets_plain e (written m), passing_plain written rest)
passing_plain written (Mark e s ∷ rest) = omega (arith, passing_plain written rest)
passing_plain written (Shut e ∷ rest) = omega (arith, passing_plain written rest)

pub outbox_none : (cut : ℕ) (passings : List (Passing Message)) → peak says_in passings ≡ 0 → next_item cut passings ≡ None → passings ≡ []
outbox_none cut [] plain none = refl
outbox_none cut (Octet e b ∷ rest) plain none = absurd cc
outbox_none cut (Control (Dial e) ∷ rest) plain none = absurd cc
outbox_none cut (Control (Says e m) ∷ rest) plain none = absurd (omega (arith, plain))
outbox_none cut (Control (Mark e s) ∷ rest) plain none = absurd cc
outbox_none cut (Control (Shut e) ∷ rest) plain none = absurd cc

-- ---- where nobody waits for an outbox, nobody waits

room_none : (room waiting : Option ℕ) (u stamp : ℕ) (b c : Bool) → of_answer u stamp (judged (blocked room waiting) (advertise_event room) b c) ≡ Nothing → room ≡ None
room_none None waiting u stamp b c h = refl
room_none (Some v) waiting u stamp true c h = absurd cc
room_none (Some v) waiting u stamp false true h = absurd cc
room_none (Some v) waiting u stamp false false h = absurd cc

waits_not : (b c : Bool) → c ≡ true → (b && c) ≡ false → b ≡ false
waits_not true c is h = absurd (let k = sym h ∙ is in cc k)
waits_not false c is h = refl

if_up : (b c : Bool) → b ≡ true → cond b c false ≡ false → c ≡ false
if_up true c is h = h
if_up false c is h = absurd cc

no_path : (p : PrefixView → Bool) (qs : List PrefixView) (q : PrefixView) → list_any p qs ≡ false → Among q qs → p q ≡ false
no_path p qs q none i = at (p q) refl
  where
    at : (b : Bool) → p q ≡ b → p q ≡ false
    at true is = absurd (let k = sym none ∙ any_has p qs q i is in cc k)
    at false is = is

module _ (law : LinkedRoutersArePeers) (g : Setting) (set : IsSetting g) (w : World) (idle : AllByRecursion (λ event. world_answer g w event ≡ Nothing) (round g.net)) where
  abbrev Idle : Event → Type 0
  Idle event = world_answer g w event ≡ Nothing

  pub known_is : (u : ℕ) → IsRouter g.net.routers u → is_router g u ≡ true
  known_is u known = any_has (λ v. u == v) (numbers g.net.routers) u (numbered (numbers g.net.routers) known.0 u known.1 known.2) (own u)

  in_turn : (u : ℕ) → IsRouter g.net.routers u → AllByRecursion Idle (turn g.net u)
  in_turn u known = among_all Idle (turn g.net) (numbers g.net.routers) u (numbered (numbers g.net.routers) known.0 u known.1 known.2) idle

  pub with_peers : (u : ℕ) → IsRouter g.net.routers u → AllByRecursion Idle (flat_map (with_peer u) (peers g.net u)) × AllByRecursion Idle (schedule.Decide u ∷ schedule.Advertise u ∷ schedule.Offer u ∷ [])
  with_peers u known = all_parts Idle (flat_map (with_peer u) (peers g.net u)) (schedule.Decide u ∷ schedule.Advertise u ∷ schedule.Offer u ∷ []) (in_turn u known)

  module _ (u v : ℕ) (near : linked g.net u v ≡ true) where
    abbrev link : AreLinked g.net u v
    link = law g.net set.network u v near

    among_peers : Among v (peers g.net u)
    among_peers = (let a = any_of (nat_eq v) (peers g.net u) link.peer in subst (λ (k : ℕ). Among k (peers g.net u)) (sym (eqb-true v a.0 a.2)) a.1)

    three : AllByRecursion Idle (with_peer u v)
    three = among_all Idle (with_peer u) (peers g.net u) v among_peers (with_peers u link.one).0

    abbrev r : Stamped
    r = w.routers u

    abbrev side : Side
    side = r.router.sides v

    -- an event of both, without the tests of its numbers
    of_both : (a : WorldAnswer) → where_linked g u v a ≡ Nothing → a ≡ Nothing
    of_both a h = (let one = known_is u link.one in let other = known_is v link.other in rw (one, other, near) at h)

    pub no_item : next_item g.net.settings.cut side.outbox ≡ None
    no_item =
        let o : Option What = next_item g.net.settings.cut side.outbox in
        let h = of_both (called g w u (Put v)) three.0 in
        put_none v o (nothing_judged u (stamp_of g u r (Put v)) (put_event v o) (nat_lt GREATEST_STAMP (stamp_of g u r (Put v))) (overflows_at g u r.router (put_event v o)) (rw near at h))

    pub none_waits : is_waiting side.held ≡ false
    none_waits =
        let o : Option RouterEvent = if_so (is_waiting side.held) (alone (Handles v)) in
        let h = of_both (called g w u (Handle v)) three.1.1.0 in
        if_none (is_waiting side.held) (alone (Handles v)) (nothing_judged u (stamp_of g u r (Handle v)) o (nat_lt GREATEST_STAMP (stamp_of g u r (Handle v))) (overflows_at g u r.router o) (rw near at h))

    pub pipe_empty : w.pipes v u ≡ []
    pipe_empty = at (w.pipes v u) refl
      where
        at : (items : List Item) → w.pipes v u ≡ items → w.pipes v u ≡ []
        at [] is = is
        at (i ∷ items) is =
            let h = of_both (taking_of g w u v (slice_get (w.pipes v u) 0)) three.1.0 in
            let k : called g w u (Take v i.stamp i.what) ≡ Nothing = ap (λ (all : List Item). taking_of g w u v (slice_get all 0)) (sym is) ∙ h in
            let free = none_waits in
            let o : Option RouterEvent = Some (takes v i.what) in
            absurd (let n = nothing_judged u (stamp_of g u r (Take v i.stamp i.what)) o (nat_lt GREATEST_STAMP (stamp_of g u r (Take v i.stamp i.what))) (overflows_at g u r.router o) (rw (near, free) at k) in cc n)

  of_one : (u : ℕ) → IsRouter g.net.routers u → (a : WorldAnswer) → where_router g u a ≡ Nothing → a ≡ Nothing
  of_one u known a h = (let one = known_is u known in rw one at h)

  pub decided : (u : ℕ) → IsRouter g.net.routers u → (q : PrefixView) → Among q (prefixes g) → is_undecided g u (w.routers u).router q ≡ false
  decided u known q i =
      let r : Stamped = w.routers u in
      let b : Bool = is_some (undecided g u r.router) in
      let o : Option RouterEvent = if_so b (alone Decides) in
      let h = of_one u known (called g w u Decide) (with_peers u known).1.0 in
      none_found (is_undecided g u r.router) (prefixes g) (if_none b (alone Decides) (nothing_judged u (stamp_of g u r Decide) o (nat_lt GREATEST_STAMP (stamp_of g u r Decide)) (overflows_at g u r.router o) h)) q i

  pub no_room : (u : ℕ) → IsRouter g.net.routers u → find (has_room g u (w.routers u).router) (peers g.net u) ≡ None
  no_room u known =
      let r : Stamped = w.routers u in
      let room : Option ℕ = find (has_room g u r.router) (peers g.net u) in
      let waiting : Option ℕ = find (is_waiting_peer g u r.router) (peers g.net u) in
      let h = of_one u known (called g w u Advertise) (with_peers u known).1.1.0 in
      room_none room waiting u (stamp_of g u r Advertise) (nat_lt GREATEST_STAMP (stamp_of g u r Advertise)) (overflows_at g u r.router (advertise_event room)) h

  pub told : (u v : ℕ) → linked g.net u v ≡ true → is_up ((w.routers u).router.sides v) ≡ true → ((w.routers u).router.sides v).outbox ≡ [] → (q : PrefixView) → Among q (prefixes g) → is_unadvertised g u (w.routers u).router v q ≡ false
  told u v near up empty q i =
      let r : Stamped = w.routers u in
      let known = (law g.net set.network u v near).one in
      let off : has_room g u r.router v ≡ false = none_found (has_room g u r.router) (peers g.net u) (ap is_some (no_room u known)) v (among_peers u v near) in
      let free : nat_lt (octets_waiting (r.router.sides v).outbox) OUTBOX_LIMIT ≡ true = ap (λ (k : List (Passing Message)). nat_lt (octets_waiting k) OUTBOX_LIMIT) empty ∙ refl in
      let waits = waits_not (is_waiting_peer g u r.router v) (nat_lt (octets_waiting (r.router.sides v).outbox) OUTBOX_LIMIT) free off in
      no_path (is_unadvertised g u r.router v) (prefixes g) q (if_up (is_up (r.router.sides v)) (list_any (is_unadvertised g u r.router v) (prefixes g)) up waits) i
