-- Drafts of all peers, made one after the other and then carried out one after the other.
use Rattle.std.proofs.Common.{◌≡◌, ℕ, zero, suc, ◌+◌, ◌<◌, ◌≤◌, ◌++◌, Bool, true, false, ◌||◌, List, [], ◌∷◌, length, map, Option, None, Some, refl, sym, ap, ◌∙◌, subst, arith, get_or, set}
use Rattle.std.specs.List.{list_any}
use Rattle.std.proofs.lemmas.Bool.{eq-eqb, ne_eqb}
use Rattle.std.proofs.lemmas.List.{length-map}
use Rattle.bgp_codec.specs.declared.message.Message.{Message}
use Rattle.snap_marker.specs.Recordings.{RouterOffer, Snapshots, closed}
use Rattle.router_model.specs.Sides.{Side, Draft, NoMessage}
use Rattle.router_model.specs.Step.{close_at, or_first, first_close}
use Rattle.router_side.specs.declared.draft.SideDraft.{SideDraft}
use Rattle.router_side.specs.Freshness.{IsFresh, KeepsFresh, SessionsKeepFresh}
use Rattle.router_side.specs.SideOf.{side}
use Rattle.router_core.specs.declared.peers.Peer.{Peer}
use Rattle.router_core.specs.Views.{RouterView, IsAt, side_at}
use Rattle.router_core.specs.declared.router.carry.SessionEvent.{SessionEvent}
use Rattle.router_core.specs.declared.router.carry.SessionEvent.TheVariants as event
use Rattle.router_core.specs.ToAll.{draft_by, overflow_in, IsReady, AreReady, IsRest, first_left}
use Rattle.router_core.proofs.Marking.{Passed}
use Rattle.router_core.proofs.Recording.{Rises}

-- ---- drafts that are made

module _ (own : Message) (D : Side → Draft) where
  -- the first peers have theirs
  abbrev pub ReadyBelow : ℕ → List Peer → List SideDraft → Type 0
  ReadyBelow zero ps ms = ms ≡ []
  ReadyBelow (suc i) (p ∷ ps) (a ∷ ms) = IsReady own D p a × ReadyBelow i ps ms
  ReadyBelow (suc i) [] ms = ⊥
  ReadyBelow (suc i) (p ∷ ps) [] = ⊥

  ready_more : (i : ℕ) (ps : List Peer) (ms : List SideDraft) (p : Peer) (a : SideDraft) → ReadyBelow i ps ms → i < length ps → IsReady own D p a → ReadyBelow (suc i) (set ps i p) (ms ++ a ∷ [])
  ready_more i [] ms p a h l r = absurd (omega (arith, l))
  ready_more zero (q ∷ ps) ms p a h l r = rw h (r, refl)
  ready_more (suc i) (q ∷ ps) [] p a h l r = absurd h
  ready_more (suc i) (q ∷ ps) (b ∷ ms) p a h l r = (h.0, ready_more i ps ms p a h.1 (omega (arith, l)) r)

  pub ready_next : (i : ℕ) (ps : List Peer) (ms : List SideDraft) (p : Peer) (a : SideDraft) → ReadyBelow i ps ms → i < length ps → IsReady own D p a → ReadyBelow (i + 1) (set ps i p) (ms ++ a ∷ [])
  ready_next i ps ms p a h l r = (let one : suc i ≡ i + 1 = omega arith in subst (λ n. ReadyBelow n (set ps i p) (ms ++ a ∷ [])) one (ready_more i ps ms p a h l r))

  pub ready_all : (i : ℕ) (ps : List Peer) (ms : List SideDraft) → ReadyBelow i ps ms → length ps ≤ i → AreReady own D ps ms
  ready_all zero [] ms h l = rw h tt
  ready_all zero (p ∷ ps) ms h l = absurd (omega (arith, l))
  ready_all (suc i) [] ms h l = absurd h
  ready_all (suc i) (p ∷ ps) [] h l = absurd h
  ready_all (suc i) (p ∷ ps) (a ∷ ms) h l = (h.0, ready_all i ps ms h.1 (omega (arith, l)))

  pub ready_here : (i : ℕ) (ps : List Peer) (ms : List SideDraft) (p : Peer) (a : SideDraft) → AreReady own D ps ms → i < length ms → IsReady own D (get_or ps i p) (get_or ms i a)
  ready_here i ps [] p a h l = absurd (omega (arith, l))
  ready_here i [] (b ∷ ms) p a h l = absurd h
  ready_here zero (q ∷ ps) (b ∷ ms) p a h l = h.0
  ready_here (suc i) (q ∷ ps) (b ∷ ms) p a h l = ready_here i ps ms p a h.1 (omega (arith, l))

  pub ready_long : (ps : List Peer) (ms : List SideDraft) → AreReady own D ps ms → length ms ≡ length ps
  ready_long [] [] h = refl
  ready_long [] (a ∷ ms) h = absurd h
  ready_long (p ∷ ps) [] h = absurd h
  ready_long (p ∷ ps) (a ∷ ms) h = ap suc (ready_long ps ms h.1)

-- ---- peers that are passed

pub passed_here : (f : Side → Side) (i : ℕ) (ps qs : List Peer) (d : Peer) → Passed f i ps qs → get_or qs i d ≡ get_or ps i d
passed_here f zero ps qs d h = ap (λ (xs : List Peer). get_or xs 0 d) h
passed_here f (suc i) [] [] d h = refl
passed_here f (suc i) [] (q ∷ qs) d h = absurd h
passed_here f (suc i) (p ∷ ps) [] d h = absurd h
passed_here f (suc i) (p ∷ ps) (q ∷ qs) d h = passed_here f i ps qs d h.2

pub passed_long : (f : Side → Side) (i : ℕ) (ps qs : List Peer) → Passed f i ps qs → length qs ≡ length ps
passed_long f zero ps qs h = ap length h
passed_long f (suc i) [] [] h = refl
passed_long f (suc i) [] (q ∷ qs) h = absurd h
passed_long f (suc i) (p ∷ ps) [] h = absurd h
passed_long f (suc i) (p ∷ ps) (q ∷ qs) h = ap suc (passed_long f i ps qs h.2)

-- ---- what leaves Established

module _ (D : Side → Draft) where
  abbrev left_of : Peer → Option (ℕ × ℕ)
  left_of p = close_at p.number (D (side p.side)).left

  -- the first of the first peers
  abbrev pub left_below : ℕ → List Peer → Option (ℕ × ℕ)
  left_below zero ps = None
  left_below (suc i) [] = None
  left_below (suc i) (p ∷ ps) = or_first (close_at p.number (D (side p.side)).left) (left_below i ps)

  or_all : (a b c : Option (ℕ × ℕ)) → or_first a (or_first b c) ≡ or_first (or_first a b) c
  or_all None b c = refl
  or_all (Some k) b c = refl

  or_none : (a : Option (ℕ × ℕ)) → or_first a None ≡ a
  or_none None = refl
  or_none (Some k) = refl

  left_more : (i : ℕ) (ps : List Peer) (d : Peer) → i < length ps → left_below (suc i) ps ≡ or_first (left_below i ps) (left_of (get_or ps i d))
  left_more i [] d l = absurd (omega (arith, l))
  left_more zero (p ∷ ps) d l = or_none (left_of p)
  left_more (suc i) (p ∷ ps) d l = ap (or_first (left_of p)) (left_more i ps d (omega (arith, l))) ∙ or_all (left_of p) (left_below i ps) (left_of (get_or ps i d))

  pub left_all : (i : ℕ) (ps : List Peer) → length ps ≤ i → left_below i ps ≡ first_left D ps
  left_all zero [] l = refl
  left_all zero (p ∷ ps) l = absurd (omega (arith, l))
  left_all (suc i) [] l = refl
  left_all (suc i) (p ∷ ps) l = ap (or_first (left_of p)) (left_all i ps (omega (arith, l)))

  no_more : (os : List RouterOffer) → os ++ [] ≡ os
  no_more [] = refl
  no_more (o ∷ os) = ap (λ (xs : List RouterOffer). o ∷ xs) (no_more os)

  -- a recording is lost once
  closed_twice : (a b : Option (ℕ × ℕ)) (x : Snapshots) → closed b (closed a x) ≡ closed (or_first a b) x
  closed_twice None b x = refl
  closed_twice (Some k) None x = refl
  closed_twice (Some k) (Some n) x = ap (λ (os : List RouterOffer). record (closed (Some k) x) { queue = os }) (no_more (closed (Some k) x).queue)

  pub closed_next : (i : ℕ) (ps : List Peer) (d : Peer) (x y z : Snapshots) → i < length ps → y ≡ closed (left_below i ps) x → z ≡ closed (left_of (get_or ps i d)) y → z ≡ closed (left_below (i + 1) ps) x
  closed_next i ps d x y z l e f =
      let one : suc i ≡ i + 1 = omega arith in
      f ∙ ap (closed (left_of (get_or ps i d))) e ∙ closed_twice (left_below i ps) (left_of (get_or ps i d)) x ∙ ap (λ o. closed o x) (sym (left_more i ps d l))
      ∙ ap (λ n. closed (left_below n ps) x) one

  -- ---- by the numbers of the peers, which rise

  any_same : (p q : ℕ → Bool) (xs : List ℕ) → ((k d : ℕ) → k < length xs → p (get_or xs k d) ≡ q (get_or xs k d)) → list_any p xs ≡ list_any q xs
  any_same p q [] h = refl
  any_same p q (x ∷ xs) h =
      ap (λ (b : Bool). b || list_any p xs) (h 0 x (omega arith)) ∙ ap (λ (b : Bool). q x || b) (any_same p q xs (λ k d l. h (suc k) d (omega (arith, l))))

  first_same : (e f : ℕ → Draft) (xs : List ℕ) → ((k d : ℕ) → k < length xs → e (get_or xs k d) ≡ f (get_or xs k d)) → first_close xs e ≡ first_close xs f
  first_same e f [] h = refl
  first_same e f (x ∷ xs) h =
      ap (λ (a : Draft). or_first (close_at x a.left) (first_close xs e)) (h 0 x (omega arith))
      ∙ ap (or_first (close_at x (f x).left)) (first_same e f xs (λ k d l. h (suc k) d (omega (arith, l))))

  module _ (none : Side) where
    behind : (p : Peer) (ps : List Peer) → Rises (p ∷ ps) → (k d : ℕ) → k < length (map (λ q. q.number) ps)
        → side_at none (p ∷ ps) (get_or (map (λ q. q.number) ps) k d) ≡ side_at none ps (get_or (map (λ q. q.number) ps) k d)
    behind p ps r k d l =
        let ns = map (λ (q : Peer). q.number) ps in
        let above : p.number < get_or ns k d = r 0 (suc k) d (omega arith) (omega (arith, l)) in
        rw (ne_eqb p.number (get_or ns k d) (λ e. absurd (omega (arith, above, e)))) refl

    rest_rises : (p : Peer) (ps : List Peer) → Rises (p ∷ ps) → Rises ps
    rest_rises p ps r = λ i j d lt le. r (suc i) (suc j) d (omega (arith, lt)) (omega (arith, le))

    at_front : (p : Peer) (ps : List Peer) → side_at none (p ∷ ps) p.number ≡ side p.side
    at_front p ps = rw (eq-eqb p.number p.number refl) refl

    pub overflow_is : (ps : List Peer) → Rises ps → overflow_in D ps ≡ list_any (λ v. (D (side_at none ps v)).overflows) (map (λ p. p.number) ps)
    overflow_is [] r = refl
    overflow_is (p ∷ ps) r =
        ap (λ (b : Bool). (D (side p.side)).overflows || b) (overflow_is ps (rest_rises p ps r)
        ∙ sym (any_same (λ v. (D (side_at none (p ∷ ps) v)).overflows) (λ v. (D (side_at none ps v)).overflows) (map (λ q. q.number) ps) (λ k d l. ap (λ (s : Side). (D s).overflows) (behind p ps r k d l))))
        ∙ ap (λ (s : Side). (D s).overflows || list_any (λ v. (D (side_at none (p ∷ ps) v)).overflows) (map (λ q. q.number) ps)) (sym (at_front p ps))

    pub left_is : (ps : List Peer) → Rises ps → first_left D ps ≡ first_close (map (λ p. p.number) ps) (λ v. D (side_at none ps v))
    left_is [] r = refl
    left_is (p ∷ ps) r =
        ap (or_first (left_of p)) (left_is ps (rest_rises p ps r) ∙ sym (first_same (λ v. D (side_at none (p ∷ ps) v)) (λ v. D (side_at none ps v)) (map (λ q. q.number) ps) (λ k d l. ap D (behind p ps r k d l))))
        ∙ ap (λ (s : Side). or_first (close_at p.number (D s).left) (first_close (map (λ q. q.number) ps) (λ v. D (side_at none (p ∷ ps) v)))) (sym (at_front p ps))

  -- where no dial passes the greatest incarnation, none of a peer does
  or_parts : (b c : Bool) → (b || c) ≡ false → (b ≡ false) × (c ≡ false)
  or_parts true c h = absurd cc
  or_parts false c h = (refl, h)

  pub fits_here : (ps : List Peer) (i : ℕ) (d : Peer) → overflow_in D ps ≡ false → i < length ps → (D (side (get_or ps i d).side)).overflows ≡ false
  fits_here [] i d h l = absurd (omega (arith, l))
  fits_here (p ∷ ps) zero d h l = (or_parts (D (side p.side)).overflows (overflow_in D ps) h).0
  fits_here (p ∷ ps) (suc i) d h l = fits_here ps i d (or_parts (D (side p.side)).overflows (overflow_in D ps) h).1 (omega (arith, l))

-- ---- the peer at a place, by its number

pub at_here : (ps : List Peer) (i : ℕ) (d : Peer) → Rises ps → i < length ps → IsAt ps (get_or ps i d).number i
at_here [] i d r l = absurd (omega (arith, l))
at_here (p ∷ ps) zero d r l = refl
at_here (p ∷ ps) (suc i) d r l =
    let ns = map (λ (q : Peer). q.number) ps in
    let long : length ns ≡ length ps = length-map ps (λ (q : Peer). q.number) in
    let above : p.number < get_or ns i d.number = r 0 (suc i) d.number (omega arith) (omega (arith, long, l)) in
    let same : get_or ns i d.number ≡ (get_or ps i d).number = number_at ps i d in
    (λ e. absurd (omega (arith, above, e ∙ sym same)), at_here ps i d (λ j k b lt le. r (suc j) (suc k) b (omega (arith, lt)) (omega (arith, le))) (omega (arith, l)))
  where
    number_at : (qs : List Peer) (k : ℕ) (b : Peer) → get_or (map (λ (q : Peer). q.number) qs) k b.number ≡ (get_or qs k b).number
    number_at [] k b = refl
    number_at (q ∷ qs) zero b = refl
    number_at (q ∷ qs) (suc k) b = number_at qs k b

pub get_same : (ps : List Peer) (i : ℕ) (d e : Peer) → i < length ps → get_or ps i d ≡ get_or ps i e
get_same [] i d e l = absurd (omega (arith, l))
get_same (p ∷ ps) zero d e l = refl
get_same (p ∷ ps) (suc i) d e l = get_same ps i d e (omega (arith, l))

-- a draft of all keeps histories fresh
pub event_keeps : SessionsKeepFresh → (w : SessionEvent) (own : Message) (s : Side) → IsFresh s → (draft_by w own s).overflows ≡ false → KeepsFresh s NoMessage (draft_by w own s)
event_keeps law event.Start own s f o = (law own s f).start o
event_keeps law event.Stop own s f o = (law own s f).stop
event_keeps law event.Reset own s f o = (law own s f).reset o
event_keeps law event.Second own s f o = (law own s f).second o

pub rest_then : (x y z : RouterView) → IsRest x y → IsRest y z → IsRest x z
rest_then x y z a b = record {
  net = b.net ∙ a.net;
  number = b.number ∙ a.number;
  own_open = b.own_open ∙ a.own_open;
  kept = b.kept ∙ a.kept;
  originated = b.originated ∙ a.originated;
  stamp = b.stamp ∙ a.stamp;
}
