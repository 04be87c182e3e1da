-- Offers by their number, and those of them that are kept.
use Rattle.std.proofs.Common.{ℕ, ◌≡◌, ◌<◌, ◌==◌, arith, Bool, true, false, cond, List, [], ◌∷◌, ◌++◌, map, filter, refl, ap, sym, ◌∙◌, subst}
use Rattle.std.specs.Prelude.{Option, None, Some, Result, Ok, Err, OnErr, nat_lt, vec_len, vec_capacity}
use Rattle.std.specs.Ordering.{nat_cmp, is_eq}
use Rattle.std.specs.declared.cmp.Ordering.TheVariants.{Less, Equal, Greater}
use Rattle.std.specs.BTreeMap.{is_at}
use Rattle.std.proofs.Math.Path.{fun_ext}
use Rattle.std.proofs.lemmas.List.{map-append}
use Rattle.std.specs.Map.{lookup, set_value}
use Rattle.std.proofs.lemmas.Bool.{eq-eqb, eqb-true, false≢true, true≢false}
use Rattle.std.proofs.lemmas.Bool.Decides.{nat_tests}
use Rattle.std.proofs.lemmas.List.{append-nil}
use Rattle.snap_marker.specs.declared.part.Offer.{Offer}
use Rattle.run_model.specs.Offers.{number_of}
use Rattle.snap_collector.specs.Collecting.{made_in, made_by}
use Rattle.snap_collector.specs.declared.book.Book.{Book}
use Rattle.snap_collector.specs.Booking.{entry_of, IsBook, AreBooks, HasRoom}
use Rattle.snap_collector.specs.Verdicts.{Member}
use Rattle.snap_marker.specs.Parts as parts
use Rattle.snap_marker.specs.Parts.{offer_of}
use Rattle.snap_marker.specs.declared.part.Offer.TheVariants as offer
use Rattle.snap_collector.specs.Collector.{made_at, with_offers, offers_at, is_for}

-- ---- a number's entry

by_test : (b c : Bool) → (b ≡ true → c ≡ false) → is_eq (cond b Less (cond c Equal Greater)) ≡ c
by_test true c h = sym (h refl)
by_test false true h = refl
by_test false false h = refl

below_apart : (n q : ℕ) → nat_lt n q ≡ true → (n == q) ≡ false
below_apart n q e = grind (arith, nat_tests, e)

pub is_same : (n q : ℕ) → is_at (nat_cmp n) q ≡ (n == q)
is_same n q = by_test (nat_lt n q) (n == q) (below_apart n q)

abbrev pub items_of : Option Book → List Offer
items_of None = []
items_of (Some b) = b.offers.items

one_for : (t : Bool) (o : Offer) (s : ℕ) → (number_of (offer_of o) == s) ≡ t → filter (is_for s) (made_by o ∷ []) ≡ cond t (made_by o ∷ []) []
one_for true o s e = rw e refl
one_for false o s e = rw e refl

module _ where
  at_cond : (b c : Bool) → b ≡ c → (v : Book) (o : Option Book) → cond c v.offers.items (items_of o) ≡ items_of (cond b (Some v) o)
  at_cond true true e v o = refl
  at_cond true false e v o = absurd (true≢false e)
  at_cond false true e v o = absurd (false≢true e)
  at_cond false false e v o = refl

  -- what is read at a number
  pub at_number : (es : List (ℕ × Book)) (s : ℕ) → offers_at (map entry_of es) s ≡ items_of (lookup (is_at (nat_cmp s)) es)
  at_number [] s = refl
  at_number (e ∷ es) s =
      ap (λ (l : List Offer). cond (s == e.0) e.1.offers.items l) (at_number es s)
      ∙ at_cond (is_at (nat_cmp s) e.0) (s == e.0) (is_same s e.0) e.1 (lookup (is_at (nat_cmp s)) es)

  joined_by : (t : Bool) (o : Offer) (w : Book) (g : Option Book) → (t ≡ true → w.offers.items ≡ items_of g ++ o ∷ []) → made_in (items_of (cond t (Some w) g)) ≡ made_in (items_of g) ++ cond t (made_by o ∷ []) []
  joined_by true o w g h = ap made_in (h refl) ∙ map-append made_by (items_of g) (o ∷ [])
  joined_by false o w g h = sym (append-nil (made_in (items_of g)))

  abbrev pub Gets : List (ℕ × Book) → ℕ → Option Book
  Gets es s = lookup (is_at (nat_cmp s)) es

  -- the entry of a number has one offer more
  pub joined_at : (es fs : List (ℕ × Book)) (n : ℕ) (w : Book) (o : Offer) → ((q : ℕ) → Gets fs q ≡ cond (is_at (nat_cmp n) q) (Some w) (Gets es q))
      → w.offers.items ≡ items_of (Gets es n) ++ o ∷ [] → n ≡ number_of (offer_of o)
      → (λ s. made_in (offers_at (map entry_of fs) s)) ≡ with_offers (λ s. made_in (offers_at (map entry_of es) s)) (made_by o ∷ [])
  joined_at es fs n w o updates items is = fun_ext at
    where
      same : (s : ℕ) (t : Bool) → (n == s) ≡ t → t ≡ true → w.offers.items ≡ items_of (Gets es s) ++ o ∷ []
      same s t e h = subst (λ k. w.offers.items ≡ items_of (Gets es k) ++ o ∷ []) (eqb-true n s (e ∙ h)) items

      at : (s : ℕ) → made_in (offers_at (map entry_of fs) s) ≡ made_in (offers_at (map entry_of es) s) ++ filter (is_for s) (made_by o ∷ [])
      at s = rw (at_number fs s, at_number es s, updates s, is_same n s, one_for (n == s) o s (ap (λ k. k == s) (sym is)))
          (joined_by (n == s) o w (Gets es s) (same s (n == s) refl))

  -- a list that is written where the same elements were
  same_cond : (b : Bool) (e : ℕ × Book) (es fs : List (ℕ × Book)) (o : Option Book) (v w : Book) → w.offers.items ≡ v.offers.items → cond b (Some e.1) o ≡ Some v
      → (o ≡ Some v → map entry_of fs ≡ map entry_of es) → map entry_of (cond b ((e.0, w) ∷ es) (e ∷ fs)) ≡ entry_of e ∷ map entry_of es
  same_cond true e es fs o v w i h next =
      let same : e.1 ≡ v = cc in
      ap (λ (l : List Offer). (e.0, l) ∷ map entry_of es) (i ∙ ap (λ (x : Book). x.offers.items) (sym same))
  same_cond false e es fs o v w i h next = ap (λ (l : List (ℕ × List Offer)). entry_of e ∷ l) (next h)

  pub same_entries : (n : ℕ) (es : List (ℕ × Book)) (v w : Book) → w.offers.items ≡ v.offers.items → Gets es n ≡ Some v → map entry_of (set_value (is_at (nat_cmp n)) es w) ≡ map entry_of es
  same_entries n [] v w i h = refl
  same_entries n (e ∷ es) v w i h =
      same_cond (is_at (nat_cmp n) e.0) e es (set_value (is_at (nat_cmp n)) es w) (Gets es n) v w i h (same_entries n es v w i)

  -- a book that is there where none was, with no offer
  same_by : (t : Bool) (w : Book) (g : Option Book) → (t ≡ true → w.offers.items ≡ items_of g) → made_in (items_of (cond t (Some w) g)) ≡ made_in (items_of g)
  same_by true w g h = ap made_in (h refl)
  same_by false w g h = refl

  pub same_made : (was es fs : List (ℕ × Book)) (n : ℕ) (w : Book) → was ≡ es → ((q : ℕ) → Gets fs q ≡ cond (is_at (nat_cmp n) q) (Some w) (Gets was q))
      → w.offers.items ≡ items_of (Gets es n) → made_at (map entry_of fs) ≡ made_at (map entry_of es)
  same_made was es fs n w is updates items = fun_ext at
    where
      same : (s : ℕ) (t : Bool) → (n == s) ≡ t → t ≡ true → w.offers.items ≡ items_of (Gets es s)
      same s t e h = subst (λ k. w.offers.items ≡ items_of (Gets es k)) (eqb-true n s (e ∙ h)) items

      at : (s : ℕ) → made_at (map entry_of fs) s ≡ made_at (map entry_of es) s
      at s = rw (at_number fs s, at_number es s, updates s, is, is_same n s) (same_by (n == s) w (Gets es s) (same s (n == s) refl))

  -- ---- room for an offer more

  here : (b : Bool) (w : Book) (o : Option Book) → b ≡ true → cond b (Some w) o ≡ Some w
  here true w o h = refl
  here false w o h = absurd (false≢true h)

  pub room_for : (es fs : List (ℕ × Book)) (n : ℕ) (w : Book) → ((q : ℕ) → Gets fs q ≡ cond (is_at (nat_cmp n) q) (Some w) (Gets es q)) → vec_len w.offers < vec_capacity w.offers → HasRoom fs n
  room_for es fs n w updates room = record { book = w; there = updates n ∙ here (is_at (nat_cmp n) n) w (Gets es n) (is_same n n ∙ eq-eqb n n refl); room = room }

  pub room_of : (es : List (ℕ × Book)) (n : ℕ) (b : Book) → Some b ≡ Gets es n → HasRoom es n → vec_len b.offers < vec_capacity b.offers
  room_of es n b is has =
      let same : has.book ≡ b = some_same has.book b (sym has.there ∙ sym is) in
      subst (λ (x : Book). vec_len x.offers < vec_capacity x.offers) same has.room
    where
      some_same : (a b : Book) → Some a ≡ Some b → a ≡ b
      some_same a b e = cc

-- ---- each entry is a book

module _ (members : List Member) where
  of_cond : (b : Bool) (w : Book) (o : Option Book) (v : Book) → cond b (Some w) o ≡ Some v → IsBook members w → (o ≡ Some v → IsBook members v) → IsBook members v
  of_cond true w o v e h next = let same : w ≡ v = cc in subst (λ (x : Book). IsBook members x) same h
  of_cond false w o v e h next = next e

  pub books_more : (es fs : List (ℕ × Book)) (n : ℕ) (w : Book) → ((q : ℕ) → Gets fs q ≡ cond (is_at (nat_cmp n) q) (Some w) (Gets es q))
      → AreBooks members es → IsBook members w → AreBooks members fs
  books_more es fs n w updates are is s v e = of_cond (is_at (nat_cmp n) s) w (Gets es s) v (sym (updates s) ∙ e) is (are s v)

  apart : (o : Option Book) (v : Book) → o ≡ None → o ≡ Some v → ⊥
  apart o v none some = cc

  pub no_books : (es : List (ℕ × Book)) → es ≡ [] → AreBooks members es
  no_books es none s v e = absurd (apart (Gets es s) v (ap (λ (l : List (ℕ × Book)). Gets l s) none) e)

-- ---- an offer, and a refusal

pub number_same : (o : Offer) → parts.number_of o ≡ number_of (offer_of o)
number_same (offer.Part p) = refl
number_same (offer.Lost l) = refl

pub on_err : {A B : Type 0} (r : Result A B) (P : Type 0) → P → OnErr r P
on_err (Ok x) P p = tt
on_err (Err x) P p = p
