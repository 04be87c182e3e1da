-- What a recording queues as it begins: the loss of the recording that it supersedes, and its own where a session is not up.
use Rattle.std.proofs.Common.{◌≡◌, ℕ, ◌<◌, nat_eq, Bool, true, false, ◌||◌, cond, List, [], ◌∷◌, length, get_or, suc, refl, ap, sym, ◌∙◌, arith, subst, Option, None, Some}
use Rattle.std.specs.Prelude.{not, is_some, filter}
use Rattle.std.specs.List.{find, list_any, AllPairs, AllByRecursion}
use Rattle.std.proofs.lemmas.List.Elements.{recursion_from_All}
use Rattle.std.proofs.lemmas.List.Kept.{AllPairs-filter}
use Rattle.std.proofs.lemmas.Bool.Decides.{nat_tests}
use Rattle.ranked_policy.specs.Plans.{IsNetwork, numbers}
use Rattle.run_model.specs.Recordings.{AllUp}
use Rattle.run_model.specs.Offers.{Lost, NotUp, Superseded, Supersedes, BeginsLost}
use Rattle.snap_marker.specs.Recordings.{RouterOffer, Recording, Snapshots, superseded, lost_at}
use Rattle.router_model.specs.Settings.{Setting, linked, peers}
use Rattle.router_model.specs.Sides.{is_up}
use Rattle.router_model.specs.State.{Router}
use Rattle.router_runs.specs.Model.{network_of}
use Rattle.router_runs.specs.Mirrors.{ModelRouter, AreAlike, ReadsPart, ReadsRecording, ReadsSnapshots, number_of}
use Rattle.router_runs.proofs.Lower.{Laws}

-- ---- what is found

found_at : {A : Type 0} (p : A → Bool) (x v : A) (rest : Option A) (b : Bool) → p x ≡ b → (rest ≡ Some v → p v ≡ true) → cond b (Some x) rest ≡ Some v → p v ≡ true
found_at p x v rest true e f h = (let same : x ≡ v = cc in subst (λ k. p k ≡ true) same e)
found_at p x v rest false e f h = f h

pub found : {A : Type 0} (p : A → Bool) (xs : List A) (v : A) → find p xs ≡ Some v → p v ≡ true
found p [] v h = absurd cc
found p (x ∷ xs) v h = found_at p x v (find p xs) (p x) refl (found p xs v) h

-- what is found in a filtered list passes the filter
kept_at : (p q : ℕ → Bool) (x v : ℕ) (rest : List ℕ) (b c : Bool) → q x ≡ b → p x ≡ c → (find p rest ≡ Some v → q v ≡ true) → find p (cond b (x ∷ rest) rest) ≡ Some v → q v ≡ true
kept_at p q x v rest true true e d f h = (let same : x ≡ v = (let g : Some x ≡ Some v = rw d at h in cc) in subst (λ k. q k ≡ true) same e)
kept_at p q x v rest true false e d f h = f (rw d at h)
kept_at p q x v rest false c e d f h = f h

pub found_kept : (p q : ℕ → Bool) (xs : List ℕ) (v : ℕ) → find p (filter q xs) ≡ Some v → q v ≡ true
found_kept p q [] v h = absurd cc
found_kept p q (x ∷ xs) v h = kept_at p q x v (filter q xs) (q x) (p x) refl refl (found_kept p q xs v) h

any_found_at : {A : Type 0} (p : A → Bool) (x : A) (xs : List A) (b : Bool) → (b || list_any p xs) ≡ true → (list_any p xs ≡ true → is_some (find p xs) ≡ true) → is_some (cond b (Some x) (find p xs)) ≡ true
any_found_at p x xs true h f = refl
any_found_at p x xs false h f = f h

pub any_found : {A : Type 0} (p : A → Bool) (xs : List A) → list_any p xs ≡ true → is_some (find p xs) ≡ true
any_found p [] h = absurd cc
any_found p (x ∷ xs) h = any_found_at p x xs (p x) h (any_found p xs)

none_at : (p : ℕ → Bool) (v x : ℕ) (xs : List ℕ) (b c : Bool) → nat_eq v x ≡ b → p x ≡ c → (b || list_any (nat_eq v) xs) ≡ true → p v ≡ true → cond c (Some x) (find p xs) ≡ None
    → (list_any (nat_eq v) xs ≡ true → find p xs ≡ None → ⊥) → ⊥
none_at p v x xs b true eb ec m pv none f = absurd cc
none_at p v x xs true false eb ec m pv none f = (let same : v ≡ x = grind (arith, nat_tests, eb) in let d : p x ≡ true = subst (λ k. p k ≡ true) same pv in absurd cc)
none_at p v x xs false false eb ec m pv none f = f m none

-- where none is found, no member passes
pub none_found : (p : ℕ → Bool) (v : ℕ) (xs : List ℕ) → list_any (nat_eq v) xs ≡ true → p v ≡ true → find p xs ≡ None → ⊥
none_found p v [] m pv none = absurd cc
none_found p v (x ∷ xs) m pv none = none_at p v x xs (nat_eq v x) (p x) refl refl m pv none (λ m2 none2. none_found p v xs m2 pv none2)

-- ---- the least of rising numbers

above_at : (x w y : ℕ) (xs : List ℕ) (b : Bool) → nat_eq w y ≡ b → (b || list_any (nat_eq w) xs) ≡ true → x < y → (list_any (nat_eq w) xs ≡ true → x < w) → x < w
above_at x w y xs true e h l f = (let same : w ≡ y = grind (arith, nat_tests, e) in omega (arith, same, l))
above_at x w y xs false e h l f = f h

pub above : (x w : ℕ) (xs : List ℕ) → AllByRecursion (λ y. x < y) xs → list_any (nat_eq w) xs ≡ true → x < w
above x w [] a h = absurd cc
above x w (y ∷ ys) a h = above_at x w y ys (nat_eq w y) refl h a.0 (above x w ys a.1)

-- what is found first is the least that passes
least_at : (p : ℕ → Bool) (x v w : ℕ) (xs : List ℕ) (b c : Bool) → nat_eq w x ≡ b → p x ≡ c → (b || list_any (nat_eq w) xs) ≡ true → p w ≡ true → w < v
    → (list_any (nat_eq w) xs ≡ true → x < w) → cond c (Some x) (find p xs) ≡ Some v → (list_any (nat_eq w) xs ≡ true → find p xs ≡ Some v → ⊥) → ⊥
least_at p x v w xs true true eb ec m pw low over h f = (let same : w ≡ x = grind (arith, nat_tests, eb) in let top : x ≡ v = cc in absurd (omega (arith, same, top, low)))
least_at p x v w xs true false eb ec m pw low over h f = (let same : w ≡ x = grind (arith, nat_tests, eb) in let q : p x ≡ true = subst (λ k. p k ≡ true) same pw in absurd cc)
least_at p x v w xs false true eb ec m pw low over h f = (let top : x ≡ v = cc in let o = over m in absurd (omega (arith, top, low, o)))
least_at p x v w xs false false eb ec m pw low over h f = f m h

pub pairs_head : (x : ℕ) (xs : List ℕ) → AllPairs (λ a b. a < b) (x ∷ xs) → (k : ℕ) (d : ℕ) → k < length xs → x < get_or xs k d
pairs_head x xs pairs k d l = pairs 0 (suc k) d (omega arith) (omega (arith, l))

pub pairs_tail : (x : ℕ) (xs : List ℕ) → AllPairs (λ a b. a < b) (x ∷ xs) → AllPairs (λ a b. a < b) xs
pairs_tail x xs pairs i j d l m = pairs (suc i) (suc j) d (omega (arith, l)) (omega (arith, m))

least : (p : ℕ → Bool) (xs : List ℕ) (v w : ℕ) → AllPairs (λ a b. a < b) xs → find p xs ≡ Some v → w < v → list_any (nat_eq w) xs ≡ true → p w ≡ true → ⊥
least p [] v w rising h low m pw = absurd cc
least p (x ∷ xs) v w rising h low m pw =
    least_at p x v w xs (nat_eq w x) (p x) refl refl m pw low
    (above x w xs (recursion_from_All (λ y. x < y) xs (pairs_head x xs rising))) h
    (λ m2 h2. least p xs v w (pairs_tail x xs rising) h2 low m2 pw)

turned : (b : Bool) → not b ≡ true → b ≡ false
turned true h = absurd cc
turned false h = refl

all_up_at : (b : Bool) → (not b ≡ true → ⊥) → b ≡ true
all_up_at true f = refl
all_up_at false f = absurd (f refl)

-- ---- a recording begins

-- the least linked peer whose session is not up
abbrev pub first_down : Setting → ℕ → Router → Option ℕ
first_down g u x = find (λ v. not (is_up (x.sides v))) (peers g.net u)

-- every session is up
abbrev pub is_whole : Option ℕ → Bool
is_whole None = true
is_whole (Some v) = false

-- the loss of a recording that begins
abbrev pub lost_now : ℕ → Router → Option ℕ → List RouterOffer
lost_now s x None = []
lost_now s x (Some v) = Lost s v (x.sides v).link.epoch NotUp ∷ []

module _ (laws : Laws) (g : Setting) (net : IsNetwork g.net) (u : ℕ) (x : Router) (n : ModelRouter) (alike : AreAlike g u x n.recorder.ends) where
  -- of linked peers
  pub least_peer : (v w : ℕ) (p : ℕ → Bool) → find p (peers g.net u) ≡ Some v → w < v → linked g.net u w ≡ true → p w ≡ true → ⊥
  least_peer v w p h low near pw =
      least p (peers g.net u) v w (AllPairs-filter (λ a b. a < b) (linked g.net u) (numbers g.net.routers) net.plan.rising) h low (laws.links g.net net u w near).peer pw

  sup_found : (r : Recording) → ReadsPart g u r n → (f : Option ℕ) → find r.waits (peers g.net u) ≡ f
      → Supersedes (network_of g) u n.recorder (Some r.number) (lost_at r.number (λ v. (x.sides v).link.epoch) Superseded f)
  sup_found r part None e = absurd (let k : is_some (find r.waits (peers g.net u)) ≡ true = any_found r.waits (peers g.net u) part.some in let k2 : false ≡ true = rw e at k in cc)
  sup_found r part (Some v) e =
      let near = found_kept r.waits (linked g.net u) (numbers g.net.routers) v e in (
        v,
        ((near, part.waits v near ∙ found r.waits (peers g.net u) v e), λ w low is. least_peer v w r.waits e low is.0 (sym (part.waits w is.0) ∙ is.1)),
        ap (λ k. Lost r.number v k Superseded ∷ []) (alike.reads v near).epoch,
      )

  sup_at : (o : Option Recording) → n.recorder.unfinished ≡ number_of o → ReadsRecording g u o n
      → Supersedes (network_of g) u n.recorder n.recorder.unfinished (superseded (peers g.net u) (λ v. (x.sides v).link.epoch) o)
  sup_at None e rec = subst (λ k. Supersedes (network_of g) u n.recorder k []) (sym e) refl
  sup_at (Some r) e rec =
      subst (λ k. Supersedes (network_of g) u n.recorder k (superseded (peers g.net u) (λ v. (x.sides v).link.epoch) (Some r))) (sym e)
      (sup_found r rec (find r.waits (peers g.net u)) refl)

  -- the unfinished recording is superseded, by the least peer that it waits for
  pub sup_is : (z : Snapshots) → ReadsSnapshots g u z n → Supersedes (network_of g) u n.recorder n.recorder.unfinished (superseded (peers g.net u) (λ v. (x.sides v).link.epoch) z.unfinished)
  sup_is z reads = sup_at z.unfinished reads.unfinished reads.recording

  -- the new one is lost by the least peer whose session is not up
  pub begins_lost : (s : ℕ) (d : Option ℕ) → first_down g u x ≡ d → BeginsLost (network_of g) u n.recorder s (is_whole d) (lost_now s x d)
  begins_lost s None e = refl
  begins_lost s (Some v) e =
      let near = found_kept (λ w. not (is_up (x.sides w))) (linked g.net u) (numbers g.net.routers) v e in (
        v,
        (
          (near, alike.up v near ∙ turned (is_up (x.sides v)) (found (λ w. not (is_up (x.sides w))) (peers g.net u) v e)),
          λ w low is. least_peer v w (λ k. not (is_up (x.sides k))) e low is.0 (ap not (sym (alike.up w is.0) ∙ is.1)),
        ),
        ap (λ k. Lost s v k NotUp ∷ []) (alike.reads v near).epoch,
      )

  -- where there is none, every session is up
  pub all_up : (d : Option ℕ) → first_down g u x ≡ d → AllUp (linked g.net u) n.recorder.ends (is_whole d)
  all_up None e h v near =
      alike.up v near ∙ all_up_at (is_up (x.sides v)) (λ k. none_found (λ w. not (is_up (x.sides w))) v (peers g.net u) (laws.links g.net net u v near).peer k e)
  all_up (Some v) e h w near = absurd cc
