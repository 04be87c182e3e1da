-- Groups of places that follow none, and places that follow.
use Rattle.std.proofs.Common.{◌≡◌, ◌≢◌, ℕ, ◌<◌, List, length, get_or, refl, sym, ap, ◌∙◌, arith, inl, inr}
use Rattle.std.specs.List.{All, Any, Contains}
use Rattle.std.proofs.lemmas.Bool.{cases_lt}
use Rattle.std.proofs.lemmas.List.{get_or_default}
use Rattle.std.proofs.lemmas.List.Elements.{Contains-get_or}
use Rattle.stable_search.specs.declared.group.Group.{Group}
use Rattle.stable_search.specs.declared.way.Way.{Way}
use Rattle.stable_search.specs.Following.{AreLevels}
use Rattle.stable_search.specs.Groups.{IsAway, IsGroup, AreGroups, IsLed}
use Rattle.stable_search.specs.Led.{IsOpen, AreLed}
use Rattle.stable_search.specs.Parting.{InPart, KeepsPart, AreCopies}
use Rattle.stable_search.specs.Picks.{Narrows}
use Rattle.stable_search.proofs.FollowLemmas.{levels_start}
use Rattle.stable_search.proofs.NarrowLemmas.{narrows_start}

-- a group of which all places are one has one place
one_place : (sets : List ℕ) (group : Group) (place : ℕ) → IsGroup sets group → ((other : ℕ) → Contains group.places other → other ≡ place) → length group.places ≡ 1
one_place sets group place is all = elim (cases_lt 1 (length group.places)) [
  | inl more ↦
      let some = is.some in
      let a = all (get_or group.places 0 0) (Contains-get_or group.places 0 0 some) in
      let b = all (get_or group.places 1 0) (Contains-get_or group.places 1 0 more) in
      let up : get_or group.places 0 0 < get_or group.places 1 0 = is.rising 0 1 0 (omega arith) more in
      absurd (omega (arith, a, b, up))
  | inr few ↦ (let some = is.some in omega (arith, some, few))
]

pub led_of : (ways ends : List Way) (old wide sets levels : List ℕ) (core : List Way) (groups : List Group) → Narrows ways old wide → Narrows ways wide sets → AreLevels ends wide levels → KeepsPart levels 0 ways core → AreCopies levels 0 ways core → All (InPart levels 0) core → AreGroups core sets groups
    → (Any (IsLed levels) groups → Any (IsOpen levels) groups) → AreLed ways ends old sets levels groups
led_of ways ends old wide sets levels core groups before narrowed are keeps copies inside fall needed = record {
  wide = wide;
  before = before;
  narrowed = narrowed;
  levels_are = are;
  core = core;
  keeps = keeps;
  copies = copies;
  fall = fall;
  alone = λ k d lt place c up.
      (let is = fall.each k d lt in
      let low = is.inside c.0 place c.1 in
      let away : All (IsAway place) core = λ n e nlt. (let x = inside n e nlt in (differs place (get_or core n e).from up x.0, differs place (get_or core n e).to up x.1)) in
      one_place sets (get_or groups k d) place is (fall.alone place (omega (arith, low, c.2)) away k d lt c));
  needed = needed;
}
  where
    differs : (place other : ℕ) → 0 < get_or levels place 0 → get_or levels other 0 ≡ 0 → other ≢ place
    differs place other up flat e = (let z : get_or levels place 0 ≡ 0 = ap (λ (n : ℕ). get_or levels n 0) (sym e) ∙ flat in omega (arith, z, up))

-- where no place follows
pub led_by_none : (ways ends : List Way) (old sets levels : List ℕ) (groups : List Group) → Narrows ways old sets → length levels ≡ length sets → ((i : ℕ) → get_or levels i 0 ≡ 0) → AreGroups ways sets groups → AreLed ways ends old sets levels groups
led_by_none ways ends old sets levels groups before size flat fall = record {
  wide = sets;
  before = before;
  narrowed = narrows_start ways sets;
  levels_are = levels_start ends sets levels size flat;
  core = ways;
  keeps = λ pick. ((λ all k d lt in_part. all k d lt), (λ all k d lt. all k d lt (flat (get_or ways k d).from, flat (get_or ways k d).to)));
  copies = record {
    all = λ k d lt in_part. (k, get_or ways k d, lt, get_or_default ways k (get_or ways k d) d lt, (refl, refl, refl));
    only = λ k d lt. (k, get_or ways k d, lt, get_or_default ways k (get_or ways k d) d lt, (refl, refl, refl));
  };
  fall = fall;
  alone = λ k d lt place c up. (let z = flat place in absurd (omega (arith, z, up)));
  needed = λ any. (let z = flat (get_or any.1.places 0 0) in let up = any.4.1 in absurd (omega (arith, z, up)));
}
