-- Where stamps rise, the order is causal.
use Rattle.std.proofs.Common.{◌≡◌, ℕ, ◌≤◌, ◌<◌, ◌==◌, if◌then◌else◌, ◌⊎◌, inl, inr, ⊎_elim, Bool, true, false, List, [], ◌∷◌, ◌++◌, length, refl, sym, ap, ◌∙◌, subst, append_assoc, arith}
use mathlib.Core.List.{IsPrefix}
use Rattle.run_model.specs.Network.{Journal, Order, Steps, Event, alone, puts, takes, offers, put_towards, taken_from, put_between, taken_between, offered_by, puts_in, takes_in, offers_in}
use Rattle.run_model.specs.Journals.{puts_towards, takes_from, events_of}
use Rattle.run_model.specs.CausalOrder.{IsCausal, IsCausalOrder}
use Rattle.run_model.specs.Stamps.{StampedItem, Stamped, Collected, events_in, FitsItem, collected_by, stamped_offers, offers_on, without_stamps, order_of, IsStampedOrder, StampsGiveCausalOrders, StampsGiveTheCollectorsOrder, ThreadsAreARun}
use Rattle.run_model.proofs.Pairs.{Each, Ordered, each, ordered, rises}
use Rattle.run_model.proofs.Beginnings.{shorter_begins}
use Rattle.run_model.proofs.Runs.{puts_in-append, takes_in-append, every}
use Rattle.run_model.proofs.OwnEvents.{puts_are, takes_are}
use Rattle.run_model.proofs.Stripping.{as_stripped, offers_strip, events_strip, strip_causal}
use Rattle.run_model.proofs.SameLists.{same_lists}

abbrev In : {A : Type 0} → A → List A → Type 0
In y [] = ⊥
In y (x ∷ xs) = (y ≡ x) ⊎ In y xs

in_append : {A : Type 0} → (y : A) (xs ys : List A) → In y (xs ++ ys) → In y xs ⊎ In y ys
in_append y [] ys i = inr i
in_append y (x ∷ xs) ys (inl e) = inl (inl e)
in_append y (x ∷ xs) ys (inr i) = ⊎_elim (λ (a : In y xs). inl (inr a)) (λ (b : In y ys). inr b) (in_append y xs ys i)

in_if : {A : Type 0} → (y : A) (b : Bool) (xs : List A) → In y (if b then xs else []) → In y xs
in_if y true xs i = i
in_if y false xs i = absurd i

-- what stands beyond a cut in one list, and before it in another that begins the first
cross : {A : Type 0} → (front rest begun left : List A) → begun ++ left ≡ front ++ rest → (length begun ≤ length front) ⊎ ((y : A) × In y begun × In y rest)
cross front rest [] left e = inl (omega arith)
cross [] [] (y ∷ begun) left e = cc
cross [] (x ∷ rest) (y ∷ begun) left e = let s : y ≡ x = cc in inr (y, inl refl, inl s)
cross (x ∷ front) rest (y ∷ begun) left e =
    let r : begun ++ left ≡ front ++ rest = cc in
    ⊎_elim (λ (h : length begun ≤ length front). inl (omega arith)) (λ (z : (y : _) × In y begun × In y rest). inr (z.0, inr z.1, z.2)) (cross front rest begun left r)

module _ {Own Item Offer : Type 0} where
  abbrev Fits : Stamped Own Item Offer → Type 0
  Fits m = FitsItem m.stamp m.event.event

  put_fits : (v : ℕ) (y : StampedItem Item) (stamp : ℕ) (e : Event Own (StampedItem Item) Offer) → FitsItem stamp e → In y (put_towards v e) → y.stamp ≡ stamp
  put_fits v y stamp (puts to x) f i = ⊎_elim (λ (e : y ≡ x). ap (λ (z : StampedItem Item). z.stamp) e ∙ f) (λ (n : ⊥). absurd n) (in_if y (to == v) (x ∷ []) i)
  put_fits v y stamp (takes from x) f i = absurd i
  put_fits v y stamp (alone e) f i = absurd i
  put_fits v y stamp (offers o) f i = absurd i

  take_fits : (u : ℕ) (y : StampedItem Item) (stamp : ℕ) (e : Event Own (StampedItem Item) Offer) → FitsItem stamp e → In y (taken_from u e) → y.stamp < stamp
  take_fits u y stamp (takes from x) f i = ⊎_elim (λ (e : y ≡ x). let s : y.stamp ≡ x.stamp = ap (λ (z : StampedItem Item). z.stamp) e in omega arith) (λ (n : ⊥). absurd n) (in_if y (from == u) (x ∷ []) i)
  take_fits u y stamp (puts to x) f i = absurd i
  take_fits u y stamp (alone e) f i = absurd i
  take_fits u y stamp (offers o) f i = absurd i

  -- what is taken by then has a stamp below b
  taken_below : (u v : ℕ) (y : StampedItem Item) (b : ℕ) (ms : List (Stamped Own Item Offer)) → Each Fits ms → Each (λ m. m.stamp ≤ b) ms → In y (takes_in u v (events_in ms)) → y.stamp < b
  taken_below u v y b [] f h i = absurd i
  taken_below u v y b (m ∷ ms) f h i =
      ⊎_elim
      (λ (j : In y (taken_between u v m.event)).
      let s = take_fits u y m.stamp m.event.event f.0 (in_if y (m.event.router == v) (taken_from u m.event.event) j) in let t = h.0 in omega arith)
      (λ (j : In y (takes_in u v (events_in ms))). taken_below u v y b ms f.1 h.1 j)
      (in_append y (taken_between u v m.event) (takes_in u v (events_in ms)) i)

  -- what is put from then on has a stamp of b or more
  put_above : (u v : ℕ) (y : StampedItem Item) (b : ℕ) (ms : List (Stamped Own Item Offer)) → Each Fits ms → Each (λ m. b ≤ m.stamp) ms → In y (puts_in u v (events_in ms)) → b ≤ y.stamp
  put_above u v y b [] f h i = absurd i
  put_above u v y b (m ∷ ms) f h i =
      ⊎_elim
      (λ (j : In y (put_between u v m.event)).
      let s = put_fits v y m.stamp m.event.event f.0 (in_if y (m.event.router == u) (put_towards v m.event.event) j) in let t = h.0 in omega arith)
      (λ (j : In y (puts_in u v (events_in ms))). put_above u v y b ms f.1 h.1 j)
      (in_append y (put_between u v m.event) (puts_in u v (events_in ms)) i)

  each_front : (P : Stamped Own Item Offer → Type 0) (xs ys : List (Stamped Own Item Offer)) → Each P (xs ++ ys) → Each P xs × Each P ys
  each_front P [] ys e = (tt, e)
  each_front P (x ∷ xs) ys e = let r = each_front P xs ys e.1 in ((e.0, r.0), r.1)

  -- at a place, stamps before are at most the stamp there, and those from it on at least
  cut : (early : List (Stamped Own Item Offer)) (n : Stamped Own Item Offer) (later : List (Stamped Own Item Offer)) → Ordered (λ (a b : Stamped Own Item Offer). a.stamp ≤ b.stamp) (early ++ n ∷ later)
      → Each (λ m. m.stamp ≤ n.stamp) early × Each (λ m. n.stamp ≤ m.stamp) (n ∷ later)
  cut [] n later r = (tt, (omega arith, r.0))
  cut (m ∷ early) n later r = let c = cut early n later r.1 in let e = each_front (λ k. m.stamp ≤ k.stamp) early (n ∷ later) r.0 in ((e.1.0, c.0), c.1)

  split : (ms : List (Stamped Own Item Offer)) (front rest : Order Own (StampedItem Item) Offer) → events_in ms ≡ front ++ rest
      → (early later : List (Stamped Own Item Offer)) × (ms ≡ early ++ later) × (events_in early ≡ front) × (events_in later ≡ rest)
  split ms [] rest e = ([], ms, refl, refl, e)
  split [] (d ∷ front) rest e = cc
  split (m ∷ ms) (d ∷ front) rest e =
      let a : m.event ≡ d = cc in let b : events_in ms ≡ front ++ rest = cc in
      let s = split ms front rest b in (m ∷ s.0, s.1, (λ i. m ∷ s.2 i), (λ i. a i ∷ s.3 i), s.4)

  none_beyond : (u v : ℕ) (y : StampedItem Item) (early later : List (Stamped Own Item Offer)) → Each Fits (early ++ later) → Ordered (λ (a b : Stamped Own Item Offer). a.stamp ≤ b.stamp) (early ++ later) → In y (takes_in u v (events_in early))
      → In y (puts_in u v (events_in later)) → ⊥
  none_beyond u v y early [] f r i j = j
  none_beyond u v y early (n ∷ later) f r i j =
      let c = cut early n later r in let g = each_front Fits early (n ∷ later) f in
      let a : y.stamp < n.stamp = taken_below u v y n.stamp early g.0 c.0 i in
      let b : n.stamp ≤ y.stamp = put_above u v y n.stamp (n ∷ later) g.1 c.1 j in
      omega arith

  events_in-append : (xs ys : List (Stamped Own Item Offer)) → events_in (xs ++ ys) ≡ events_in xs ++ events_in ys
  events_in-append [] ys = refl
  events_in-append (x ∷ xs) ys = ap (λ l. x.event ∷ l) (events_in-append xs ys)

  in_order : (u v : ℕ) (early later : List (Stamped Own Item Offer)) → Each Fits (early ++ later) → Ordered (λ (a b : Stamped Own Item Offer). a.stamp ≤ b.stamp) (early ++ later)
      → IsPrefix (takes_in u v (events_in (early ++ later))) (puts_in u v (events_in (early ++ later)))
      → IsPrefix (takes_in u v (events_in early)) (puts_in u v (events_in early))
  in_order u v early later f r s =
      let p = ap (puts_in u v) (events_in-append early later) ∙ puts_in-append u v (events_in early) (events_in later) in
      let t = ap (takes_in u v) (events_in-append early later) ∙ takes_in-append u v (events_in early) (events_in later) in
      let whole = sym (append_assoc (takes_in u v (events_in early)) (takes_in u v (events_in later)) s.0) ∙ ap (λ l. l ++ s.0) (sym t) ∙ s.1 ∙ p in
      let all = puts_in u v (events_in early) ++ puts_in u v (events_in later) in
      ⊎_elim
      (λ (h : length (takes_in u v (events_in early)) ≤ length (puts_in u v (events_in early))).
      shorter_begins (takes_in u v (events_in early)) (puts_in u v (events_in early)) all
      (takes_in u v (events_in later) ++ s.0, whole) (puts_in u v (events_in later), refl) h)
      (λ (z : (y : StampedItem Item) × In y (takes_in u v (events_in early)) × In y (puts_in u v (events_in later))). absurd (none_beyond u v z.0 early later f r z.1 z.2))
      (cross (puts_in u v (events_in early)) (puts_in u v (events_in later)) (takes_in u v (events_in early)) (takes_in u v (events_in later) ++ s.0) whole)

  causal : (ms : List (Stamped Own Item Offer)) → Each Fits ms → Ordered (λ (a b : Stamped Own Item Offer). a.stamp ≤ b.stamp) ms → ((u v : ℕ) → IsPrefix (takes_in u v (events_in ms)) (puts_in u v (events_in ms)))
      → IsCausal (events_in ms)
  causal ms f r s u v front rest e =
      let c = split ms front rest e in
      let f' = subst (Each Fits) c.2 f in let r' = subst (Ordered (λ (a b : Stamped Own Item Offer). a.stamp ≤ b.stamp)) c.2 r in
      let s' = subst (λ l. IsPrefix (takes_in u v (events_in l)) (puts_in u v (events_in l))) c.2 (s u v) in
      subst (λ l. IsPrefix (takes_in u v l) (puts_in u v l)) c.3 (in_order u v c.0 c.1 f' r' s')

  pub causal_by_stamps : (journal : ℕ → Journal Own (StampedItem Item) Offer) (ms : List (Stamped Own Item Offer)) → IsStampedOrder Own Item Offer journal ms → IsCausal (events_in ms)
  causal_by_stamps journal ms is =
      causal ms (each Fits ms is.fit) (rises (λ m. m.stamp) ms is.rise)
      (λ u v.
      let t = is.in_turn u v in
      let p = ap (puts_towards v) (sym (is.journals u)) ∙ puts_are u v (events_in ms) in
      let q = ap (takes_from u) (sym (is.journals v)) ∙ takes_are u v (events_in ms) in
      (t.0, ap (λ l. l ++ t.0) (sym q) ∙ t.1 ∙ p))

module _ {Offer : Type 0} where
  not_below : (a b : Collected Offer) → a.stamp ≤ b.stamp → b.stamp < a.stamp → a.router ≡ b.router
  not_below a b h k = absurd (omega arith)

module _ {Own Item Offer : Type 0} where
  one : (stamp u : ℕ) (e : Event Own (StampedItem Item) Offer) (os : List Offer) (cs : List (Collected Offer)) → os ≡ offers_on cs → offered_by e ++ os ≡ offers_on (collected_by stamp u e ++ cs)
  one stamp u (offers o) os cs h = ap (λ l. o ∷ l) h
  one stamp u (alone e) os cs h = h
  one stamp u (puts to x) os cs h = h
  one stamp u (takes from x) os cs h = h

  offers_as_stamped : (ms : List (Stamped Own Item Offer)) → offers_in (events_in ms) ≡ offers_on (stamped_offers ms)
  offers_as_stamped [] = refl
  offers_as_stamped (m ∷ ms) = one m.stamp m.event.router m.event.event (offers_in (events_in ms)) (stamped_offers ms) (offers_as_stamped ms)

  each_one : (b stamp u : ℕ) (e : Event Own (StampedItem Item) Offer) (cs : List (Collected Offer)) → b ≤ stamp → Each (λ (c : Collected Offer). b ≤ c.stamp) cs
      → Each (λ (c : Collected Offer). b ≤ c.stamp) (collected_by stamp u e ++ cs)
  each_one b stamp u (offers o) cs h k = (h, k)
  each_one b stamp u (alone e) cs h k = k
  each_one b stamp u (puts to x) cs h k = k
  each_one b stamp u (takes from x) cs h k = k

  rise_one : (stamp u : ℕ) (e : Event Own (StampedItem Item) Offer) (cs : List (Collected Offer)) → Each (λ (c : Collected Offer). stamp ≤ c.stamp) cs
      → Ordered (λ (a b : Collected Offer). a.stamp ≤ b.stamp) cs → Ordered (λ (a b : Collected Offer). a.stamp ≤ b.stamp) (collected_by stamp u e ++ cs)
  rise_one stamp u (offers o) cs h k = (h, k)
  rise_one stamp u (alone e) cs h k = k
  rise_one stamp u (puts to x) cs h k = k
  rise_one stamp u (takes from x) cs h k = k

  -- the offers of a list whose stamps rise rise by stamp
  each_offer : (b : ℕ) (ms : List (Stamped Own Item Offer)) → Each (λ m. b ≤ m.stamp) ms → Each (λ (c : Collected Offer). b ≤ c.stamp) (stamped_offers ms)
  each_offer b [] h = tt
  each_offer b (m ∷ ms) h = each_one b m.stamp m.event.router m.event.event (stamped_offers ms) h.0 (each_offer b ms h.1)

  offers_rise : (ms : List (Stamped Own Item Offer)) → Ordered (λ (a b : Stamped Own Item Offer). a.stamp ≤ b.stamp) ms → Ordered (λ (a b : Collected Offer). a.stamp ≤ b.stamp) (stamped_offers ms)
  offers_rise [] r = tt
  offers_rise (m ∷ ms) r = rise_one m.stamp m.event.router m.event.event (stamped_offers ms) (each_offer m.stamp ms r.0) (offers_rise ms r.1)

  pub stamps_give_the_collectors_order : StampsGiveTheCollectorsOrder Own Item Offer
  stamps_give_the_collectors_order board ms rise above same =
      same_lists (λ (o : Collected Offer). o.router) (λ a b. a.stamp ≤ b.stamp) (λ a b. a.stamp < b.stamp) not_below (stamped_offers ms) board (offers_rise ms (rises (λ m. m.stamp) ms rise))
      (ordered (λ a b. a.stamp < b.stamp) board above) same

  pub stamps_give_causal_orders : StampsGiveCausalOrders Own Item Offer
  stamps_give_causal_orders journal ms is =
      record {
        journals = λ u. ap (events_of u) (as_stripped ms) ∙ events_strip u (events_in ms) ∙ ap without_stamps (is.journals u);
        causal = subst IsCausal (sym (as_stripped ms)) (strip_causal (events_in ms) (causal_by_stamps journal ms is));
        collected_so = ap offers_in (as_stripped ms) ∙ offers_strip (events_in ms) ∙ offers_as_stamped ms;
      }

module _ {State Own Item Offer : Type 0} (step : Steps State Own Item Offer) where
  pub threads_are_a_run : ThreadsAreARun step
  threads_are_a_run start finish journal board ms joined stamped same =
      let here = stamps_give_causal_orders {Own = Own} {Item = Item} {Offer = Offer} journal ms stamped in
      let order : IsCausalOrder (λ u. without_stamps (journal u)) (offers_on board) (order_of ms) =
      record { journals = here.journals; causal = here.causal; collected_so = here.collected_so ∙ ap offers_on same } in
      (order, every step start finish (λ u. without_stamps (journal u)) (offers_on board) (order_of ms) joined order)
