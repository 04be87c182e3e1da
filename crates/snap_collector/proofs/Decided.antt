-- The numbers that are decided, rising.
use Rattle.std.proofs.Common.{ℕ, ◌≡◌, ◌≢◌, ◌<◌, ◌≤◌, ◌+◌, ◌-◌, ◌==◌, arith, inl, inr, Bool, true, false, cond, List, [], ◌∷◌, ◌++◌, length, get_or, filter, map, refl, ap, sym, ◌∙◌, subst}
use Rattle.std.specs.Prelude.{◌↔◌, Result, Ok, Err, is_ok, if◌then◌else◌}
use Rattle.std.specs.Ordering.{nat_cmp}
use Rattle.std.specs.List.{AllPairs, Contains, insert}
use Rattle.std.specs.List.Sorted.{IsBinarySearchResult}
use mathlib.Core.Logic.{◌⊎◌}
use Rattle.std.proofs.lemmas.Bool.{cases_eq, cases_order, ne_eqb, true≢false, false≢true}
use Rattle.std.proofs.lemmas.List.{append-nil, get_or_default, length-map}
use Rattle.std.proofs.lemmas.List.Edits.{length-insert, get_or-insert_below, get_or-insert_at, get_or-insert_above}
use Rattle.std.proofs.lemmas.List.Elements.{Contains-append_left, Contains-push, Contains-push_cases}
use Rattle.std.proofs.lemmas.List.Sorted.{searched, Contains-permutation, IsPermutation-sym, IsPermutation-to_front, IsPermutation-insert}
use Rattle.ranked_policy.specs.declared.network.NetRouter.{NetRouter}
use Rattle.ranked_policy.specs.Plans.{Plan, IsNetwork, numbers}
use Rattle.run_model.specs.Offers.{number_of}
use Rattle.snap_marker.specs.Parts as parts
use Rattle.snap_marker.specs.declared.part.Offer.{Offer}
use Rattle.snap_marker.specs.Recordings.{MadeOffer}
use Rattle.snap_collector.specs.declared.members.Member.{Member as MemberOf}
use Rattle.snap_collector.specs.Collecting.{member_of, made_by}
use Rattle.snap_collector.specs.Collector.{AreDecided, AreMembers, is_for, made_at, with_offers}
use Rattle.snap_collector.specs.declared.book.Book.{Book}
use Rattle.snap_collector.specs.Booking.{entry_of}
use Rattle.snap_collector.specs.Verdicts.{Member, decides}
use Rattle.snap_collector.proofs.Books.{number_same}
use Rattle.snap_collector.proofs.Deciding.{decides_more}

-- ---- a number more among rising ones

searchable : (xs : List ℕ) → AllPairs (λ s t. s < t) xs → (i j : ℕ) → i ≤ j → j < length xs → get_or xs i 0 ≤ get_or xs j 0
searchable xs up i j l m =
    elim (cases_order i j) [
      | inl same ↦ (let e = ap (λ n. get_or xs n 0) same in omega arith)
      | inr other ↦ elim other [ inl below ↦ (let h = up i j 0 below m in omega arith) | inr above ↦ absurd (omega (arith, l, above)) ]
    ]

-- where a number is not found it may be put
pub place_for : (xs ys : List ℕ) (x i : ℕ) → ys ≡ xs → AllPairs (λ s t. s < t) xs → IsBinarySearchResult (λ y. nat_cmp y x) ys (Err i)
    → (i ≤ length xs) × ((k : ℕ) → k < i → get_or xs k 0 < x) × ((k : ℕ) → i ≤ k → k < length xs → x < get_or xs k 0)
place_for xs ys x i same up found = searched xs x (Err i) (subst (λ (l : List ℕ). IsBinarySearchResult (λ y. nat_cmp y x) l (Err i)) same found) (searchable xs up)

module _ (xs : List ℕ) (i y : ℕ) (up : AllPairs (λ s t. s < t) xs) (inside : i ≤ length xs) (below : (k : ℕ) → k < i → get_or xs k 0 < y) (above : (k : ℕ) → i ≤ k → k < length xs → y < get_or xs k 0) where
  -- an element in front of its place, and one behind it, with any default
  less : (k d : ℕ) → k < i → get_or (insert xs i y) k d < y
  less k d l =
      let e = get_or-insert_below xs i y d k l inside in
      let f = get_or_default xs k d 0 (omega (arith, l, inside)) in
      let h = below k l in
      omega arith

  more : (k d : ℕ) → i ≤ k → k < length xs → y < get_or (insert xs i y) (k + 1) d
  more k d l m =
      let e = get_or-insert_above xs i y d k l inside in
      let f = get_or_default xs k d 0 m in
      let h = above k l m in
      omega arith

  at_place : (k d : ℕ) → k ≡ i → get_or (insert xs i y) k d ≡ y
  at_place k d same = ap (λ n. get_or (insert xs i y) n d) same ∙ get_or-insert_at xs i y d inside

  behind : (k d : ℕ) → i < k → k < length (insert xs i y) → y < get_or (insert xs i y) k d
  behind k d l m =
      let long = length-insert xs i y inside in
      let next : k ≡ (k - 1) + 1 = omega (arith, l) in
      subst (λ n. y < get_or (insert xs i y) n d) (sym next) (more (k - 1) d (omega (arith, l)) (omega (arith, l, m, long)))

  both_before : (j k d : ℕ) → j < k → k < i → get_or (insert xs i y) j d < get_or (insert xs i y) k d
  both_before j k d l m =
      let e = get_or-insert_below xs i y d j (omega (arith, l, m)) inside in
      let f = get_or-insert_below xs i y d k m inside in
      let h = up j k d l (omega (arith, m, inside)) in
      omega arith

  both_behind : (j k d : ℕ) → i ≤ j → j < k → k < length xs → get_or (insert xs i y) (j + 1) d < get_or (insert xs i y) (k + 1) d
  both_behind j k d l m n =
      let e = get_or-insert_above xs i y d j l inside in
      let f = get_or-insert_above xs i y d k (omega (arith, l, m)) inside in
      let h = up j k d m n in
      omega arith

  then_behind : (j k d : ℕ) → i < j → j < k → k < length (insert xs i y) → get_or (insert xs i y) j d < get_or (insert xs i y) k d
  then_behind j k d l m n =
      let long = length-insert xs i y inside in
      let first : j ≡ (j - 1) + 1 = omega (arith, l) in
      let last : k ≡ (k - 1) + 1 = omega (arith, l, m) in
      subst (λ a. get_or (insert xs i y) a d < get_or (insert xs i y) k d) (sym first)
      (subst (λ b. get_or (insert xs i y) ((j - 1) + 1) d < get_or (insert xs i y) b d) (sym last)
      (both_behind (j - 1) (k - 1) d (omega (arith, l)) (omega (arith, l, m)) (omega (arith, m, n, long))))

  pub still_rises : AllPairs (λ s t. s < t) (insert xs i y)
  still_rises j k d l m = elim (cases_order j i) [
    | inl here ↦ (
        let e = at_place j d here in
        let h = behind k d (omega (arith, l, here)) m in
        omega arith)
    | inr other ↦ elim other [
      | inl before ↦ elim (cases_order k i) [
        | inl there ↦ (
            let e = at_place k d there in
            let h = less j d before in
            omega arith)
        | inr far ↦ elim far [
          | inl also ↦ both_before j k d l also
          | inr past ↦ (
              let h = less j d before in
              let t = behind k d past m in
              omega arith)
        ]
      ]
      | inr past ↦ then_behind j k d past l m
    ]
  ]

pub is_more : (xs : List ℕ) (i y s : ℕ) → Contains (insert xs i y) s ↔ (Contains xs s ⊎ (s ≡ y))
is_more xs i y s = (forth, back)
  where
    forth : Contains (insert xs i y) s → Contains xs s ⊎ (s ≡ y)
    forth h =
        let front = Contains-permutation (insert xs i y) (y ∷ xs) s (IsPermutation-sym (y ∷ xs) (insert xs i y) (IsPermutation-insert xs i y)) h in
        let last = Contains-permutation (y ∷ xs) (xs ++ y ∷ []) s (IsPermutation-sym (xs ++ y ∷ []) (y ∷ xs) (IsPermutation-to_front xs y)) front in
        elim (Contains-push_cases xs y s last) [ inl there ↦ inl there | inr same ↦ inr (sym same) ]

    placed : (t : ℕ) → Contains (xs ++ y ∷ []) t → Contains (insert xs i y) t
    placed t h = Contains-permutation (y ∷ xs) (insert xs i y) t (IsPermutation-insert xs i y) (Contains-permutation (xs ++ y ∷ []) (y ∷ xs) t (IsPermutation-to_front xs y) h)

    back : Contains xs s ⊎ (s ≡ y) → Contains (insert xs i y) s
    back (inl there) = placed s (Contains-append_left xs (y ∷ []) s there)
    back (inr same) = subst (λ t. Contains (insert xs i y) t) (sym same) (placed y (Contains-push xs y))

pub is_there : (xs : List ℕ) (i y s : ℕ) → i < length xs → get_or xs i 0 ≡ y → Contains xs s ↔ (Contains xs s ⊎ (s ≡ y))
is_there xs i y s l e = (inl, back)
  where
    back : Contains xs s ⊎ (s ≡ y) → Contains xs s
    back (inl there) = there
    back (inr same) = (i, l, get_or_default xs i s 0 l ∙ e ∙ sym same)

pub placed : {X Y E : Type 0} (r : Result Y E) (y : Y) (xs a b : List X) → r ≡ Ok y → xs ≡ (if is_ok r then a else b) → xs ≡ a
placed r y xs a b e h = h ∙ ap (λ q. if is_ok q then a else b) e

-- ---- before any offer

pub none_decided : (net : Plan) → IsNetwork net → (members : List MemberOf) → AreMembers net members → decides (map member_of members) [] ≡ false
none_decided net n [] are = (
    let none : 0 ≡ length net.routers = ap length are.routers ∙ length-map net.routers (λ (r : NetRouter). r.asn) in
    let some = n.some in
    absurd (omega arith))
none_decided net n (m ∷ ms) are = refl

opened : (net : Plan) → IsNetwork net → (members : List MemberOf) → AreMembers net members → AreDecided (record { members = members; offers = []; decided = [] }) []
opened net n members are = record {
  rising = λ i j d l m. absurd (omega (arith, m));
  exact = λ s. (λ h. absurd (omega (arith, h.1)), λ e. absurd (true≢false (sym e ∙ none_decided net n members are)));
}

pub nothing_decided : (net : Plan) → IsNetwork net → (members : List MemberOf) (entries : List (ℕ × Book)) (numbers : List ℕ) → AreMembers net members → entries ≡ [] → numbers ≡ []
    → AreDecided (record { members = members; offers = map entry_of entries; decided = numbers }) numbers
nothing_decided net n members entries numbers are none nothing =
    subst (λ (l : List (ℕ × Book)). AreDecided (record { members = members; offers = map entry_of l; decided = numbers }) numbers) (sym none)
    (subst (λ (l : List ℕ). AreDecided (record { members = members; offers = []; decided = l }) l) (sym nothing) (opened net n members are))

-- ---- room for an offer more

-- they are still so where the same offers stand among new entries
pub still_decided : (ks ms : List MemberOf) (old new : List (ℕ × List Offer)) (before after : List ℕ) → ks ≡ ms → made_at new ≡ made_at old → after ≡ before
    → AreDecided (record { members = ms; offers = old; decided = before }) before → AreDecided (record { members = ks; offers = new; decided = after }) after
still_decided ks ms old new before after same made kept was = record {
  rising = subst (λ (l : List ℕ). AllPairs (λ s t. s < t) l) (sym kept) was.rising;
  exact = λ s. subst (λ (l : List ℕ). Contains l s ↔ (decides (map member_of ks) (made_at new s) ≡ true)) (sym kept)
      (subst (λ (f : ℕ → List MadeOffer). Contains before s ↔ (decides (map member_of ks) (f s) ≡ true)) (sym made)
      (subst (λ (l : List MemberOf). Contains before s ↔ (decides (map member_of l) (made_at old s) ≡ true)) (sym same) (was.exact s)));
}

-- ---- an offer more

module _ (members : List Member) (old new : ℕ → List MadeOffer) (m : MadeOffer) (is : new ≡ with_offers old (m ∷ [])) where
  more_at : (s : ℕ) → new s ≡ old s ++ filter (is_for s) (m ∷ [])
  more_at s = ap (λ (f : ℕ → List MadeOffer). f s) is

  still : (s : ℕ) → decides members (old s) ≡ true → decides members (new s) ≡ true
  still s h = ap (decides members) (more_at s) ∙ decides_more members (old s) (filter (is_for s) (m ∷ [])) h

  others_by : (s : ℕ) (b : Bool) → (number_of m.offer == s) ≡ b → b ≡ false → cond b (m ∷ []) [] ≡ []
  others_by s true e f = absurd (true≢false f)
  others_by s false e f = refl

  others : (s : ℕ) → number_of m.offer ≢ s → new s ≡ old s
  others s apart =
      more_at s ∙ ap (λ (l : List MadeOffer). old s ++ l) (others_by s (number_of m.offer == s) refl (ne_eqb (number_of m.offer) s apart)) ∙ append-nil (old s)

  -- the numbers that were decided, and this one where it is now
  pub decided_after : (number : ℕ) (b : Bool) → number ≡ number_of m.offer → decides members (new number) ≡ b → (before after : List ℕ)
      → ((s : ℕ) → Contains before s ↔ (decides members (old s) ≡ true)) → ((s : ℕ) → Contains after s ↔ (Contains before s ⊎ ((b ≡ true) × (s ≡ number))))
      → (s : ℕ) → Contains after s ↔ (decides members (new s) ≡ true)
  decided_after number b same now before after was more s = (forth, back (cases_eq s number))
    where
      forth_by : Contains before s ⊎ ((b ≡ true) × (s ≡ number)) → decides members (new s) ≡ true
      forth_by (inl there) = still s ((was s).0 there)
      forth_by (inr here) = ap (λ n. decides members (new n)) here.1 ∙ now ∙ here.0

      forth : Contains after s → decides members (new s) ≡ true
      forth h = forth_by ((more s).0 h)

      back : (s ≡ number) ⊎ (s ≢ number) → decides members (new s) ≡ true → Contains after s
      back (inl here) h = (more s).1 (inr (sym now ∙ ap (λ n. decides members (new n)) (sym here) ∙ h, here))
      back (inr apart) h = (more s).1 (inl ((was s).1 (ap (decides members) (sym (others s (λ e. apart (sym e ∙ sym same)))) ∙ h)))

-- the collector's numbers, where the offers now decide and where they do not
module _ (ms : List MemberOf) (old new : List (ℕ × List Offer)) (o : Offer) (is : made_at new ≡ with_offers (made_at old) (made_by o ∷ [])) (number : ℕ) (same : number ≡ parts.number_of o) (before : List ℕ)
    (was : AreDecided (record { members = ms; offers = old; decided = before }) before) where
  pub decided_now : (mid after : List ℕ) → mid ≡ before → (b : Bool) → b ≡ decides (map member_of ms) (made_at new number) → b ≡ true → AllPairs (λ s t. s < t) after
      → ((s : ℕ) → Contains after s ↔ (Contains mid s ⊎ (s ≡ number))) → AreDecided (record { members = ms; offers = new; decided = after }) after
  decided_now mid after kept b at true_now rising more = record {
    rising = rising;
    exact = decided_after (map member_of ms) (made_at old) (made_at new) (made_by o) is number true (same ∙ number_same o) (sym at ∙ true_now) before after was.exact (λ s. with_reason s (more s));
  }
    where
      to : (s : ℕ) → Contains mid s ⊎ (s ≡ number) → Contains before s ⊎ ((true ≡ true) × (s ≡ number))
      to s (inl there) = inl (subst (λ (l : List ℕ). Contains l s) kept there)
      to s (inr here) = inr (refl, here)

      from : (s : ℕ) → Contains before s ⊎ ((true ≡ true) × (s ≡ number)) → Contains mid s ⊎ (s ≡ number)
      from s (inl there) = inl (subst (λ (l : List ℕ). Contains l s) (sym kept) there)
      from s (inr here) = inr here.1

      with_reason : (s : ℕ) → Contains after s ↔ (Contains mid s ⊎ (s ≡ number)) → Contains after s ↔ (Contains before s ⊎ ((true ≡ true) × (s ≡ number)))
      with_reason s h = (λ k. to s (h.0 k), λ k. h.1 (from s k))

  same_rising : (after : List ℕ) → after ≡ before → AllPairs (λ s t. s < t) after
  same_rising after kept = subst (λ (l : List ℕ). AllPairs (λ s t. s < t) l) (sym kept) was.rising

  pub not_yet : (after : List ℕ) → after ≡ before → (b : Bool) → b ≡ decides (map member_of ms) (made_at new number) → b ≡ false → AreDecided (record { members = ms; offers = new; decided = after }) after
  not_yet after kept b at false_now = record {
    rising = same_rising after kept;
    exact = decided_after (map member_of ms) (made_at old) (made_at new) (made_by o) is number false (same ∙ number_same o) (sym at ∙ false_now) before after was.exact
        (λ s. (λ k. inl (subst (λ (l : List ℕ). Contains l s) kept k), λ k. stays s k));
  }
    where
      stays : (s : ℕ) → Contains before s ⊎ ((false ≡ true) × (s ≡ number)) → Contains after s
      stays s (inl there) = subst (λ (l : List ℕ). Contains l s) (sym kept) there
      stays s (inr here) = absurd (false≢true here.0)
