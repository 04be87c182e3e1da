-- How many offers are kept and how many routers awaited, with an offer more.
use Rattle.std.proofs.Common.{ℕ, suc, ◌≡◌, ◌≢◌, ◌≤◌, ◌+◌, ◌==◌, arith, Bool, true, false, ◌&&◌, ◌||◌, cond, List, [], ◌∷◌, ◌++◌, length, take, map, refl, ap, sym, ◌∙◌, subst, append_assoc}
use Rattle.std.proofs.Math.Seq.{take-length}
use Rattle.std.proofs.lemmas.Bool.{eqb-true, ne_eqb, false≢true, true≢false}
use Rattle.std.proofs.lemmas.List.{append-nil, length-append, length-map, length-take-le, map-append, take-append-le}
use Rattle.std.proofs.lemmas.List.Folds.{list_any-append}
use Rattle.snap_marker.specs.declared.part.Part.{Part}
use Rattle.snap_marker.specs.declared.part.Offer.{Offer}
use Rattle.snap_marker.specs.declared.part.Offer.TheVariants as offer
use Rattle.snap_marker.specs.Recordings.{MadeOffer}
use Rattle.snap_collector.specs.Booking.{missing, missing_parts, times, IsBooked}
use Rattle.snap_collector.specs.declared.members.Member.{Member as MemberOf}
use Rattle.snap_collector.specs.Collecting.{made_by, made_in, member_of}
use Rattle.snap_collector.specs.Collector.{CollectorView, AreKept, kept_behind, kept_of, offers_at}
use Rattle.snap_collector.specs.Verdicts.{Member, of_part, has_part, is_lost, any_lost, all_parts, decides}
use Rattle.snap_collector.proofs.Deciding.{decides_more}

-- ---- they decide where none is awaited

all_by : (b : Bool) (n : ℕ) (all : Bool) → all ≡ (n == 0) → (b && all) ≡ (cond b n (suc n) == 0)
all_by true n all h = h
all_by false n all h = sym (ne_eqb (suc n) 0 (λ e. omega (arith, e)))

all_where_none : (members : List Member) (ms : List MadeOffer) → all_parts members ms ≡ (missing members ms == 0)
all_where_none [] ms = refl
all_where_none (m ∷ rest) ms = all_by (has_part ms m.router (λ part. true)) (missing rest ms) (all_parts rest ms) (all_where_none rest ms)

or_by : (b all : Bool) (n : ℕ) → all ≡ (n == 0) → (b || all) ≡ (cond b 0 n == 0)
or_by true all n h = refl
or_by false all n h = h

pub decides_by : (members : List Member) (ms : List MadeOffer) → decides members ms ≡ (missing_parts members ms == 0)
decides_by members ms = or_by (any_lost ms) (all_parts members ms) (missing members ms) (all_where_none members ms)

-- ---- before any offer

pub all_missing : (members : List Member) → missing members [] ≡ length members
all_missing [] = refl
all_missing (m ∷ rest) = ap suc (all_missing rest)

-- ---- an offer more

has_more : (ms : List MadeOffer) (p : Part) (u : ℕ) → has_part (ms ++ made_by (offer.Part p) ∷ []) u (λ part. true) ≡ (has_part ms u (λ part. true) || (((u == p.router) && true) || false))
has_more ms p u = list_any-append (λ m. (u == m.router) && of_part (λ part. true) m.offer) ms (made_by (offer.Part p) ∷ [])

or_either : (b c : Bool) → (c ≡ true → b ≡ true) → (b || ((c && true) || false)) ≡ b
or_either true c h = refl
or_either false true h = sym (h refl)
or_either false false h = refl

-- a part more of a router that has one
still_has : (ms : List MadeOffer) (p : Part) (u : ℕ) → has_part ms p.router (λ part. true) ≡ true → has_part (ms ++ made_by (offer.Part p) ∷ []) u (λ part. true) ≡ has_part ms u (λ part. true)
still_has ms p u h =
    has_more ms p u ∙ or_either (has_part ms u (λ part. true)) (u == p.router) (λ e. ap (λ n. has_part ms n (λ part. true)) (eqb-true u p.router e) ∙ h)

pub same_missing : (members : List Member) (ms : List MadeOffer) (p : Part) → has_part ms p.router (λ part. true) ≡ true → missing members (ms ++ made_by (offer.Part p) ∷ []) ≡ missing members ms
same_missing [] ms p h = refl
same_missing (m ∷ rest) ms p h = rw (still_has ms p m.router h, same_missing rest ms p h) refl

-- the first part of a router
fewer_by : (b c : Bool) (now was some : ℕ) → (c ≡ true → b ≡ false) → now + some ≡ was
    → cond (b || ((c && true) || false)) now (suc now) + cond c (suc some) some ≡ cond b was (suc was)
fewer_by true true now was some h e = absurd (true≢false (h refl))
fewer_by true false now was some h e = e
fewer_by false true now was some h e = omega (arith, e)
fewer_by false false now was some h e = omega (arith, e)

pub fewer_missing : (members : List Member) (ms : List MadeOffer) (p : Part) → has_part ms p.router (λ part. true) ≡ false
    → missing members (ms ++ made_by (offer.Part p) ∷ []) + times members p.router ≡ missing members ms
fewer_missing [] ms p h = refl
fewer_missing (m ∷ rest) ms p h =
    rw (has_more ms p m.router)
    (fewer_by (has_part ms m.router (λ part. true)) (m.router == p.router) (missing rest (ms ++ made_by (offer.Part p) ∷ [])) (missing rest ms) (times rest p.router)
    (λ e. ap (λ n. has_part ms n (λ part. true)) (eqb-true m.router p.router e) ∙ h) (fewer_missing rest ms p h))

none_lost : (ms : List MadeOffer) (p : Part) → any_lost ms ≡ false → any_lost (ms ++ made_by (offer.Part p) ∷ []) ≡ false
none_lost ms p h = list_any-append (λ m. is_lost m.offer) ms (made_by (offer.Part p) ∷ []) ∙ ap (λ b. b || false) h

open_is : (members : List Member) (ms : List MadeOffer) → any_lost ms ≡ false → missing_parts members ms ≡ missing members ms
open_is members ms h = ap (λ b. cond b 0 (missing members ms)) h

pub with_same : (members : List Member) (ms : List MadeOffer) (p : Part) (awaited : ℕ) → any_lost ms ≡ false → has_part ms p.router (λ part. true) ≡ true → awaited ≡ missing members ms
    → awaited ≡ missing_parts members (ms ++ made_by (offer.Part p) ∷ [])
with_same members ms p awaited unlost has is =
    is ∙ sym (same_missing members ms p has) ∙ sym (open_is members (ms ++ made_by (offer.Part p) ∷ []) (none_lost ms p unlost))

pub with_fewer : (members : List Member) (ms : List MadeOffer) (p : Part) (awaited n left : ℕ) → any_lost ms ≡ false → has_part ms p.router (λ part. true) ≡ false → awaited ≡ missing members ms
    → n ≡ times members p.router → left + n ≡ awaited → left ≡ missing_parts members (ms ++ made_by (offer.Part p) ∷ [])
with_fewer members ms p awaited n left unlost has is many sub =
    let fewer = fewer_missing members ms p has in
    let now : left ≡ missing members (ms ++ made_by (offer.Part p) ∷ []) = omega (arith, fewer, is, many, sub) in
    now ∙ sym (open_is members (ms ++ made_by (offer.Part p) ∷ []) (none_lost ms p unlost))

pub times_within : (members : List Member) (ms : List MadeOffer) (p : Part) → has_part ms p.router (λ part. true) ≡ false → times members p.router ≤ missing members ms
times_within members ms p has = let fewer = fewer_missing members ms p has in omega (arith, fewer)

-- ---- what is kept

module _ (members : List Member) where
  late_by : (b : Bool) (front kept : List MadeOffer) → b ≡ true → cond b front kept ≡ front
  late_by true front kept h = refl
  late_by false front kept h = absurd (false≢true h)

  -- an offer behind what decides
  late : (front ms : List MadeOffer) (m : MadeOffer) → decides members (front ++ ms) ≡ true → kept_behind members front (ms ++ m ∷ []) ≡ kept_behind members front ms
  late front [] m h = late_by (decides members front) front (front ++ m ∷ []) (ap (decides members) (sym (append-nil front)) ∙ h)
  late front (x ∷ ms) m h =
      ap (λ (l : List MadeOffer). cond (decides members front) front l) (late (front ++ x ∷ []) ms m (ap (decides members) (append_assoc front (x ∷ []) ms) ∙ h))

  undecided : (front ms : List MadeOffer) (b : Bool) → decides members front ≡ b → decides members (front ++ ms) ≡ false → b ≡ false
  undecided front ms true e h = absurd (true≢false (sym (decides_more members front ms e) ∙ h))
  undecided front ms false e h = refl

  open_by : (b : Bool) (front kept : List MadeOffer) → b ≡ false → cond b front kept ≡ kept
  open_by true front kept h = absurd (true≢false h)
  open_by false front kept h = refl

  -- one where nothing decided
  whole : (front ms : List MadeOffer) (m : MadeOffer) → decides members (front ++ ms) ≡ false → kept_behind members front (ms ++ m ∷ []) ≡ front ++ (ms ++ m ∷ [])
  whole front [] m h = open_by (decides members front) front (front ++ m ∷ []) (undecided front [] (decides members front) refl h)
  whole front (x ∷ ms) m h =
      open_by (decides members front) front (kept_behind members (front ++ x ∷ []) (ms ++ m ∷ [])) (undecided front (x ∷ ms) (decides members front) refl h)
      ∙ whole (front ++ x ∷ []) ms m (ap (decides members) (append_assoc front (x ∷ []) ms) ∙ h) ∙ append_assoc front (x ∷ []) (ms ++ m ∷ [])

  made_more : (os : List Offer) (o : Offer) → made_in (os ++ o ∷ []) ≡ made_in os ++ made_by o ∷ []
  made_more os o = map-append made_by os (o ∷ [])

  zero_test : (n : ℕ) → n ≢ 0 → (n == 0) ≡ false
  zero_test n h = ne_eqb n 0 h

  pub nothing_lost : (ms : List MadeOffer) (awaited : ℕ) → awaited ≢ 0 → awaited ≡ missing_parts members ms → any_lost ms ≡ false
  nothing_lost ms awaited some is = by (any_lost ms) some is
    where
      by : (b : Bool) → awaited ≢ 0 → awaited ≡ cond b 0 (missing members ms) → b ≡ false
      by true some is = absurd (some is)
      by false some is = refl

  pub booked_first : IsBooked members [] 0 (length members)
  booked_first = record { inside = omega arith; exact = refl; waiting = λ some. refl; awaits = sym (all_missing members) }

  pub booked_late : (os : List Offer) (o : Offer) (kept : ℕ) → IsBooked members os kept 0 → IsBooked members (os ++ o ∷ []) kept 0
  booked_late os o kept b =
      let none : decides members (made_in os) ≡ true = decides_by members (made_in os) ∙ ap (λ n. n == 0) (sym b.awaits) in
      let long = length-append os (o ∷ []) in
      let within = b.inside in
      let more = decides_more members (made_in os) (made_by o ∷ []) none in
      record {
        inside = omega (arith, within, long);
        exact =
            ap made_in (take-append-le kept os (o ∷ []) b.inside) ∙ b.exact ∙ sym (late [] (made_in os) (made_by o) none) ∙ ap (kept_of members) (sym (made_more os o));
        waiting = λ some. absurd (some refl);
        awaits = sym (eqb-true (missing_parts members (made_in (os ++ o ∷ []))) 0 (sym (decides_by members (made_in (os ++ o ∷ []))) ∙ ap (decides members) (made_more os o) ∙ more));
      }

  pub booked_more : (os : List Offer) (o : Offer) (kept awaited next : ℕ) → IsBooked members os kept awaited → awaited ≢ 0 → next ≡ missing_parts members (made_in os ++ made_by o ∷ [])
      → IsBooked members (os ++ o ∷ []) (length (os ++ o ∷ [])) next
  booked_more os o kept awaited next b some is =
      let none : decides members (made_in os) ≡ false = decides_by members (made_in os) ∙ ap (λ n. n == 0) (sym b.awaits) ∙ zero_test awaited some in
      record {
        inside = omega arith;
        exact =
            ap made_in (take-length (os ++ o ∷ [])) ∙ made_more os o ∙ sym (whole [] (made_in os) (made_by o) none) ∙ ap (kept_of members) (sym (made_more os o));
        waiting = λ n. refl;
        awaits = is ∙ ap (missing_parts members) (sym (made_more os o));
      }

-- ---- as the code has them

pub booked_new : (members : List MemberOf) (os : List Offer) → os ≡ [] → IsBooked (map member_of members) os 0 (length members)
booked_new members os none =
    subst (λ (l : List Offer). IsBooked (map member_of members) l 0 (length members)) (sym none)
    (subst (λ n. IsBooked (map member_of members) [] 0 n) (length-map members member_of) (booked_first (map member_of members)))

pub booked_behind : (members : List Member) (os xs : List Offer) (o : Offer) (kept awaited : ℕ) → awaited ≡ 0 → xs ≡ os ++ o ∷ [] → IsBooked members os kept awaited
    → IsBooked members xs kept awaited
booked_behind members os xs o kept awaited none is b =
    subst (λ n. IsBooked members xs kept n) (sym none)
    (subst (λ (l : List Offer). IsBooked members l kept 0) (sym is) (booked_late members os o kept (subst (λ n. IsBooked members os kept n) none b)))

pub booked_with : (members : List Member) (os xs ys : List Offer) (o : Offer) (kept awaited len next : ℕ) → awaited ≢ 0 → ys ≡ os → xs ≡ os ++ o ∷ [] → len ≡ length xs → IsBooked members os kept awaited
    → next ≡ missing_parts members (made_in ys ++ made_by o ∷ []) → IsBooked members xs len next
booked_with members os xs ys o kept awaited len next some same is long b now =
    subst (λ n. IsBooked members xs n next) (sym long)
    (subst (λ (l : List Offer). IsBooked members l (length l) next) (sym is)
    (booked_more members os o kept awaited next b some (now ∙ ap (λ (l : List Offer). missing_parts members (made_in l ++ made_by o ∷ [])) same)))

pub none_decides : (members : List MemberOf) (os : List Offer) → [] ≡ os → (length members == 0) ≡ decides (map member_of members) (made_in os)
none_decides members os none = at_first members ∙ ap (λ (l : List Offer). decides (map member_of members) (made_in l)) none
  where
    at_first : (members : List MemberOf) → (length members == 0) ≡ decides (map member_of members) []
    at_first [] = refl
    at_first (m ∷ rest) = ne_eqb (suc (length rest)) 0 (λ e. omega (arith, e))

-- those that are kept are the beginning that was noted
pub kept_in_book : (c : CollectorView) (s kept awaited : ℕ) (os xs : List Offer) → xs ≡ os → os ≡ offers_at c.offers s → IsBooked (map member_of c.members) os kept awaited
    → AreKept c s (take kept xs)
kept_in_book c s kept awaited os xs same is b =
    subst (λ (l : List Offer). AreKept c s (take kept l)) (sym same) (record {
      beginning = ap (λ n. take n os) (sym (length-take-le kept os b.inside)) ∙ ap (λ (l : List Offer). take (length (take kept os)) l) is;
      exact = b.exact ∙ ap (λ (l : List Offer). kept_of (map member_of c.members) (made_in l)) is;
    })

pub none_kept : (c : CollectorView) (s : ℕ) → [] ≡ offers_at c.offers s → AreKept c s []
none_kept c s is = record { beginning = refl; exact = ap (λ (l : List Offer). kept_of (map member_of c.members) (made_in l)) is }
