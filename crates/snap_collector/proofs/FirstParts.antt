-- The first parts of routers, as they are kept and as the definitions see them.
use Rattle.std.proofs.Common.{ℕ, suc, ◌≡◌, ◌<◌, ◌+◌, ◌==◌, arith, Bool, true, false, cond, List, [], ◌∷◌, ◌++◌, map, drop, length, get_or, refl, ap, sym, ◌∙◌, append_assoc}
use Rattle.std.specs.Prelude.{Option, None, Some}
use Rattle.std.specs.Option.{option_map}
use Rattle.std.specs.List.{flat_map}
use Rattle.std.proofs.Math.Seq.{drop-cons}
use Rattle.snap_marker.specs.declared.part.Part.{Part}
use Rattle.snap_marker.specs.declared.part.Offer.{Offer}
use Rattle.snap_marker.specs.declared.part.Offer.TheVariants as offer
use Rattle.snap_marker.specs.Parts.{part_of}
use Rattle.snap_marker.specs.Recordings.{RouterPart}
use Rattle.snap_collector.specs.declared.members.Member.{Member as MemberOf}
use Rattle.snap_collector.specs.Collecting.{made_in, member_of}
use Rattle.snap_collector.specs.Collector.{first_part}
use Rattle.snap_collector.specs.Flights.{Flight, part_in, flights_of, flights_by, flights_at}
use Rattle.snap_collector.specs.Verdicts.{Member}

first_by : (b : Bool) (p : Part) (rest : Option RouterPart) (o : Option Part) → rest ≡ option_map part_of o → cond b (Some (part_of p)) rest ≡ option_map part_of (cond b (Some p) o)
first_by true p rest o h = refl
first_by false p rest o h = h

either : (b : Bool) (rest other : Option RouterPart) → rest ≡ other → cond b rest rest ≡ other
either true rest other h = h
either false rest other h = h

first_is : (os : List Offer) (u : ℕ) → part_in (made_in os) u ≡ option_map part_of (first_part os u)
first_is [] u = refl
first_is (offer.Part p ∷ os) u = first_by (u == p.router) p (part_in (made_in os) u) (first_part os u) (first_is os u)
first_is (offer.Lost l ∷ os) u = either (u == l.router) (part_in (made_in os) u) (option_map part_of (first_part os u)) (first_is os u)

-- a router with a part, and one without
pub of_part : (os : List Offer) (m : Member) (p : Part) → Some p ≡ first_part os m.router → flights_of m (part_of p) ≡ flights_at (made_in os) m
of_part os m p e = ap (flights_by m) (ap (option_map part_of) e ∙ sym (first_is os m.router))

pub of_none : (os : List Offer) (m : Member) → None ≡ first_part os m.router → [] ≡ flights_at (made_in os) m
of_none os m e = ap (flights_by m) (ap (option_map part_of) e ∙ sym (first_is os m.router))

-- those of one router more were put
pub router_more : (f : Member → List Flight) (ms : List MemberOf) (i : ℕ) (x : MemberOf) (old new : List Flight) → i < length ms → x ≡ get_or ms i x → new ≡ old ++ f (member_of x)
    → new ++ flat_map f (map member_of (drop (i + 1) ms)) ≡ old ++ flat_map f (map member_of (drop i ms))
router_more f ms i x old new l is e =
    let next : i + 1 ≡ suc i = omega (arith) in
    let behind : drop i ms ≡ get_or ms i x ∷ drop (i + 1) ms = drop-cons ms i x l ∙ ap (λ n. get_or ms i x ∷ drop n ms) (sym next) in
    let rest = flat_map f (map member_of (drop (i + 1) ms)) in
    let put : new ++ rest ≡ old ++ (f (member_of x) ++ rest) = rw e (append_assoc old (f (member_of x)) rest) in
    put ∙ ap (λ (y : MemberOf). old ++ (f (member_of y) ++ rest)) is ∙ ap (λ (l : List MemberOf). old ++ flat_map f (map member_of l)) (sym behind)
