-- The offers that a router still has to make, as its recordings go on.
use Rattle.std.proofs.Common.{◌≡◌, ℕ, ◌+◌, ◌≤◌, ◌==◌, Bool, true, false, ◌&&◌, cond, List, [], ◌∷◌, length, drop, refl, ap, arith, Option, None, Some}
use Rattle.std.specs.Prelude.{not, slice_get}
use Rattle.std.specs.List.{find, list_any}
use Rattle.std.proofs.lemmas.List.{length-append, length-drop}
use Rattle.bgp_codec.specs.declared.message.Message.{Message}
use Rattle.bgp_codec.specs.declared.message.Message.TheVariants.{UpdateMsg}
use Rattle.run_model.specs.Offers.{Cause, Finished, Lost, Closed, Superseded, NotUp}
use Rattle.snap_marker.specs.Recordings.{RouterOffer, Recording, Snapshots, queueing, lost, closed, joins_channel, goes_on, ends_channel, lost_at, superseded, begins_or_is_lost, superseding, begun}
use Rattle.router_model.specs.Sides.{AtHand, NoMessage, HasFault, HasUpdate}
use Rattle.router_model.specs.Step.{seen}
use Rattle.rest_runs.specs.Counted.{going_on, jobs}

-- no more offers, and no number recorded
pub record Stays (x y : Snapshots) : Type 0 where
  pub last : y.last ≡ x.last
  pub jobs : jobs y ≤ jobs x

stays : (x : Snapshots) → Stays x x
stays x = record { last = refl; jobs = omega arith }

lost_few : (o : Option Recording) (v e : ℕ) (cause : Cause) → length (lost o v e cause) ≤ going_on o
lost_few None v e cause = omega arith
lost_few (Some r) v e cause = omega arith

pub closed_stays : (close : Option (ℕ × ℕ)) (x : Snapshots) → Stays x (closed close x)
closed_stays None x = stays x
closed_stays (Some close) x = record {
  last = refl;
  jobs = omega (arith, length-append x.queue (lost x.unfinished close.0 close.1 Closed), lost_few x.unfinished close.0 close.1 Closed);
}

joins_on : (v : ℕ) (m : Message) (o : Option Recording) → going_on (joins_channel v m o) ≡ going_on o
joins_on v m None = refl
joins_on v m (Some r) = refl

pub seen_stays : (b : Bool) (h : AtHand) (v : ℕ) (x : Snapshots) → Stays x (seen b h v x)
seen_stays true (HasUpdate update) v x = record { last = refl; jobs = omega (arith, joins_on v (UpdateMsg update) x.unfinished) }
seen_stays true NoMessage v x = stays x
seen_stays true (HasFault fault) v x = stays x
seen_stays false h v x = stays x

-- a recording goes on, or is finished
record Goes (x y : Snapshots) : Type 0 where
  last : y.last ≡ x.last
  jobs : jobs y ≡ length x.queue + 1

goes_by : (b : Bool) (r : Recording) (x : Snapshots) → Goes x (cond b (record x { unfinished = Some r }) (queueing (record x { unfinished = None }) (Finished r.number r.part ∷ [])))
goes_by true r x = record { last = refl; jobs = refl }
goes_by false r x = record { last = refl; jobs = omega (arith, length-append x.queue (Finished r.number r.part ∷ [])) }

goes : (peers : List ℕ) (r : Recording) (x : Snapshots) → Goes x (goes_on peers r x)
goes peers r x = goes_by (list_any r.waits peers) r x

ends_by : (b : Bool) (x y : Snapshots) → jobs x ≡ length x.queue + 1 → Goes x y → Stays x (cond b y x)
ends_by true x y is g = record { last = g.last; jobs = omega (arith, g.jobs, is) }
ends_by false x y is g = stays x

pub ends_stay : (peers : List ℕ) (v s : ℕ) (o : Option Recording) (x : Snapshots) → x.unfinished ≡ o → Stays x (ends_channel peers v s o x)
ends_stay peers v s None x is = stays x
ends_stay peers v s (Some r) x is =
    ends_by ((r.number == s) && r.waits v) x (goes_on peers (record r { waits = λ y. cond (y == v) false (r.waits y) }) x) (ap (λ (o : Option Recording). length x.queue + going_on o) is)
    (goes peers (record r { waits = λ y. cond (y == v) false (r.waits y) }) x)

-- a number is recorded: one offer more
pub record Records (x y : Snapshots) (k : ℕ) : Type 0 where
  pub last : y.last ≡ k
  pub jobs : jobs y ≤ jobs x + 1

at_most_one : (s : ℕ) (incarnation : ℕ → ℕ) (cause : Cause) (o : Option ℕ) → length (lost_at s incarnation cause o) ≤ 1
at_most_one s incarnation cause None = omega arith
at_most_one s incarnation cause (Some v) = omega arith

superseded_few : (peers : List ℕ) (incarnation : ℕ → ℕ) (o : Option Recording) → length (superseded peers incarnation o) ≤ going_on o
superseded_few peers incarnation None = omega arith
superseded_few peers incarnation (Some r) = at_most_one r.number incarnation Superseded (find r.waits peers)

begins : (peers : List ℕ) (down : Option ℕ) (r : Recording) (x : Snapshots) → Goes x (begins_or_is_lost peers down r x)
begins peers None r x = goes peers r x
begins peers (Some v) r x = record { last = refl; jobs = omega (arith, length-append x.queue (Lost r.number v (r.part.incarnation v) NotUp ∷ [])) }

pub begun_records : (peers : List ℕ) (is_up : ℕ → Bool) (r : Recording) (x : Snapshots) → Records x (begun peers is_up r x) r.number
begun_records peers is_up r x =
    let b = begins peers (find (λ v. not (is_up v)) peers) r (superseding r peers x) in
    record {
      last = b.last;
      jobs = omega (arith, b.jobs, length-append x.queue (superseded peers r.part.incarnation x.unfinished), superseded_few peers r.part.incarnation x.unfinished);
    }

some_there : (xs : List RouterOffer) (o : RouterOffer) → slice_get xs 0 ≡ Some o → 1 ≤ length xs
some_there [] o h = absurd cc
some_there (x ∷ xs) o h = omega arith

-- an offer is made
pub offer_less : (x : Snapshots) (o : RouterOffer) → slice_get x.queue 0 ≡ Some o → jobs (record x { queue = drop 1 x.queue }) + 1 ≤ jobs x
offer_less x o h = omega (arith, length-drop 1 x.queue, some_there x.queue o h)
