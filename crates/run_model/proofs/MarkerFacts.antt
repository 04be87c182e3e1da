-- Where a marker stands in a list of entries.
use Rattle.std.proofs.Common.{◌≡◌, ℕ, ◌<◌, ◌≤◌, ◌==◌, Bool, true, false, ◌&&◌, cond, List, [], ◌∷◌, ◌++◌, length, refl, ap, sym, ◌∙◌, arith, append_assoc, length-append}
use Rattle.std.specs.Prelude.{max, nat_lt}
use mathlib.Core.List.{IsPrefix}
use Rattle.run_model.specs.Links.{Entry, Dial, Says, Mark, Shut, greatest_dial, said, Phase, Closed, Offered, Joined, End, is_joined, is_up}
use Rattle.run_model.proofs.EntryLists.{greatest_dial-append, Sound, said_front}
use Rattle.std.proofs.lemmas.Bool.Decides.{nat_tests}

module _ {M : Type 0} where
  abbrev pub is_mark : ℕ → ℕ → Entry M → Bool
  is_mark n s (Dial e) = false
  is_mark n s (Says e m) = false
  is_mark n s (Mark e k) = (n == e) && (s == k)
  is_mark n s (Shut e) = false

  abbrev pub has_mark : ℕ → ℕ → List (Entry M) → Bool
  has_mark n s [] = false
  has_mark n s (x ∷ xs) = cond (is_mark n s x) true (has_mark n s xs)

  -- the entries up to the marker, or all
  abbrev pub up_to : ℕ → ℕ → List (Entry M) → List (Entry M)
  up_to n s [] = []
  up_to n s (x ∷ xs) = x ∷ cond (is_mark n s x) [] (up_to n s xs)

has_either : (b : Bool) (p q r : Bool) → r ≡ cond p true q → cond b true r ≡ cond (cond b true p) true q
has_either true p q r e = refl
has_either false p q r e = e

module _ {M : Type 0} where
  pub has-append : (n s : ℕ) (xs ys : List (Entry M)) → has_mark n s (xs ++ ys) ≡ cond (has_mark n s xs) true (has_mark n s ys)
  has-append n s [] ys = refl
  has-append n s (x ∷ xs) ys = has_either (is_mark n s x) (has_mark n s xs) (has_mark n s ys) (has_mark n s (xs ++ ys)) (has-append n s xs ys)

  found_head : (b : Bool) (x : Entry M) (h : Bool) (us vs : List (Entry M)) → cond b true h ≡ true → (h ≡ true → us ≡ vs) → x ∷ cond b [] us ≡ x ∷ cond b [] vs
  found_head true x h us vs e k = refl
  found_head false x h us vs e k = ap (λ w. x ∷ w) (k e)

  pub up_to-found : (n s : ℕ) (xs ys : List (Entry M)) → has_mark n s xs ≡ true → up_to n s (xs ++ ys) ≡ up_to n s xs
  up_to-found n s [] ys h = absurd cc
  up_to-found n s (x ∷ xs) ys h =
      found_head (is_mark n s x) x (has_mark n s xs) (up_to n s (xs ++ ys)) (up_to n s xs) h (λ k. up_to-found n s xs ys k)

  none_head : (b : Bool) (x : Entry M) (h : Bool) (us vs : List (Entry M)) → cond b true h ≡ false → (h ≡ false → us ≡ vs) → x ∷ cond b [] us ≡ x ∷ vs
  none_head true x h us vs e k = absurd cc
  none_head false x h us vs e k = ap (λ w. x ∷ w) (k e)

  pub up_to-next : (n s : ℕ) (xs : List (Entry M)) (x : Entry M) (ys : List (Entry M)) → has_mark n s xs ≡ false → is_mark n s x ≡ true
      → up_to n s (xs ++ x ∷ ys) ≡ xs ++ x ∷ []
  up_to-next n s [] x ys h is = rw is refl
  up_to-next n s (y ∷ xs) x ys h is =
      none_head (is_mark n s y) y (has_mark n s xs) (up_to n s (xs ++ x ∷ ys)) (xs ++ x ∷ []) h (λ k. up_to-next n s xs x ys k is)

  pub has_front : (n s : ℕ) (xs ys : List (Entry M)) → IsPrefix xs ys → has_mark n s xs ≡ true → has_mark n s ys ≡ true
  has_front n s xs ys p h = ap (has_mark n s) (sym p.1) ∙ (has-append n s xs p.0 ∙ rw h refl)

  -- a marker that isn't in the whole isn't in a beginning
  not_front : (n s : ℕ) (xs ys : List (Entry M)) (b : Bool) → has_mark n s xs ≡ b → IsPrefix xs ys → has_mark n s ys ≡ false → b ≡ false
  not_front n s xs ys true is p h = cc (has_front n s xs ys p is, h)
  not_front n s xs ys false is p h = refl

  pub has_not_front : (n s : ℕ) (xs ys : List (Entry M)) → IsPrefix xs ys → has_mark n s ys ≡ false → has_mark n s xs ≡ false
  has_not_front n s xs ys p h = not_front n s xs ys (has_mark n s xs) refl p h

pub mark_is : (e s : ℕ) → ((e == e) && (s == s)) ≡ true
mark_is e s = grind (arith, nat_tests)

module _ {M : Type 0} where
  -- where a list without the marker goes on by it, the whole up to it is that list and the marker
  pub up_to_here : (n s : ℕ) (xs ys : List (Entry M)) → has_mark n s xs ≡ false → IsPrefix (xs ++ Mark n s ∷ []) ys → up_to n s ys ≡ xs ++ Mark n s ∷ []
  up_to_here n s xs ys h p =
      let whole : ys ≡ xs ++ Mark n s ∷ p.0 = sym p.1 ∙ append_assoc xs (Mark n s ∷ []) p.0 in
      ap (up_to n s) whole ∙ up_to-next n s xs (Mark n s) p.0 h (mark_is n s)

  -- no marker of an incarnation above all that were dialled
  pub sound-no_mark : (n s hi : ℕ) (xs : List (Entry M)) → Sound hi xs → max hi (greatest_dial xs) < n → has_mark n s xs ≡ false
  sound-no_mark n s hi [] g l = refl
  sound-no_mark n s hi (Dial e ∷ xs) g l = sound-no_mark n s (max hi e) xs g (omega arith)
  sound-no_mark n s hi (Says e m ∷ xs) g l = sound-no_mark n s hi xs g.1 l
  sound-no_mark n s hi (Mark e k ∷ xs) g l = let apart : (n == e) ≡ false = grind (arith, nat_tests, g.0) in rw apart (sound-no_mark n s hi xs g.1 l)
  sound-no_mark n s hi (Shut e ∷ xs) g l = sound-no_mark n s hi xs g.1 l

  -- what holds of the markers between two ends
  pub record MarkerFacts (a b : End M) : Type 0 where
    -- none in an incarnation that the peer hasn't dialled
    pub told : (n s : ℕ) → greatest_dial b.appended < n → has_mark n s a.appended ≡ false
    -- two messages stand before a marker, and the peer has said two
    pub behind : (n s : ℕ) → has_mark n s a.appended ≡ true → (1 < length (said n (up_to n s a.appended))) × (1 < length (said n b.appended))

pub prefix_length : {A : Type 0} (xs ys : List A) → IsPrefix xs ys → length xs ≤ length ys
prefix_length xs ys p = omega (arith, sym (ap length p.1) ∙ length-append xs p.0)

module _ {M : Type 0} where
  -- the peer's log grows
  pub marked_peer : (b a a' : End M) (more : List (Entry M)) → a'.appended ≡ a.appended ++ more → MarkerFacts b a → MarkerFacts b a'
  marked_peer b a a' more e g = record {
    told = λ n s l. g.told n s (omega (arith, greatest_dial-append a.appended more, ap greatest_dial e));
    behind = λ n s h. (
      (g.behind n s h).0,
      (let l = (g.behind n s h).1 in
          let grown = prefix_length (said n a.appended) (said n a'.appended) (said_front n a.appended a'.appended (more, sym e)) in omega (arith, l, grown)),
    );
  }

  pub behind_one : (n s : ℕ) (xs : List (Entry M)) (x : Entry M) (b : Bool) → has_mark n s xs ≡ b → has_mark n s (x ∷ []) ≡ false → has_mark n s (xs ++ x ∷ []) ≡ true → b ≡ true
  behind_one n s xs x true is absent h = refl
  behind_one n s xs x false is absent h = absurd (cc (h, rw (is, absent) at (has-append n s xs (x ∷ []))))

  -- an append that is no marker
  pub marked_append : (a b a' : End M) (x : Entry M) → a'.appended ≡ a.appended ++ x ∷ [] → ((n s : ℕ) → has_mark n s (x ∷ []) ≡ false) → MarkerFacts a b → MarkerFacts a' b
  marked_append a b a' x e absent g = record {
    told = λ n s l. (ap (has_mark n s) e ∙ (has-append n s a.appended (x ∷ []) ∙ rw (g.told n s l, absent n s) refl));
    behind = λ n s h. (
        let was : has_mark n s a.appended ≡ true = behind_one n s a.appended x (has_mark n s a.appended) refl (absent n s) (ap (has_mark n s) (sym e) ∙ h) in
        let same : up_to n s a'.appended ≡ up_to n s a.appended = ap (up_to n s) e ∙ up_to-found n s a.appended (x ∷ []) was in
        (rw same (g.behind n s was).0, (g.behind n s was).1)
        );
  }

  pub marked_same : (a b a' : End M) → a'.appended ≡ a.appended → MarkerFacts a b → MarkerFacts a' b
  marked_same a b a' e g = record {
    told = λ n s l. (ap (has_mark n s) e ∙ g.told n s l);
    behind = λ n s h. (rw e ((g.behind n s (ap (has_mark n s) (sym e) ∙ h)).0), (g.behind n s (ap (has_mark n s) (sym e) ∙ h)).1);
  }

-- the two counts of a session that is up
pub up_joined : (p : Phase) (b : Bool) → (is_joined p && b) ≡ true → (p ≡ Joined) × (b ≡ true)
up_joined Closed b h = absurd cc
up_joined Offered b h = absurd cc
up_joined Joined b h = (refl, h)

pub both : (b c : Bool) → (b && c) ≡ true → (b ≡ true) × (c ≡ true)
both true c h = (refl, h)
both false c h = absurd cc

module _ {M : Type 0} where
  pub record Up (a : End M) : Type 0 where
    pub joined : a.phase ≡ Joined
    pub used : 1 < length (said (greatest_dial a.appended) a.used)
    pub told : 1 < length (said (greatest_dial a.appended) a.appended)

  pub up_is : (a : End M) → is_up a ≡ true → Up a
  up_is a h =
      let j = up_joined a.phase (nat_lt 1 (length (said (greatest_dial a.appended) a.used)) && nat_lt 1 (length (said (greatest_dial a.appended) a.appended))) h in
      let k = both (nat_lt 1 (length (said (greatest_dial a.appended) a.used))) (nat_lt 1 (length (said (greatest_dial a.appended) a.appended))) j.1 in
      let used : 1 < length (said (greatest_dial a.appended) a.used) = grind (arith, nat_tests, k.0) in
      let told : 1 < length (said (greatest_dial a.appended) a.appended) = grind (arith, nat_tests, k.1) in
      record { joined = j.0; used = used; told = told }

  pub is_up_of : (a : End M) → Up a → is_up a ≡ true
  is_up_of a u =
      let k : nat_lt 1 (length (said (greatest_dial a.appended) a.used)) ≡ true = grind (arith, nat_tests, u.used) in
      let l : nat_lt 1 (length (said (greatest_dial a.appended) a.appended)) ≡ true = grind (arith, nat_tests, u.told) in
      rw (u.joined, k, l) refl

which : (b c : Bool) (n s e k : ℕ) → (n == e) ≡ b → (s == k) ≡ c → cond (b && c) true false ≡ true → (n ≡ e) × (s ≡ k)
which true true n s e k p q h = (grind (arith, nat_tests, p), grind (arith, nat_tests, q))
which true false n s e k p q h = absurd cc
which false c n s e k p q h = absurd cc

pub mark_which : (n s e k : ℕ) → cond ((n == e) && (s == k)) true false ≡ true → (n ≡ e) × (s ≡ k)
mark_which n s e k h = which (n == e) (s == k) n s e k refl refl h
