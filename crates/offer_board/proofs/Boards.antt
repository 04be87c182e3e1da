-- A board stays one.
use Rattle.std.proofs.Common.{◌≡◌, ℕ, ◌<◌, ◌≤◌, ◌==◌, arith, Bool, true, false, cond, List, [], ◌∷◌, ◌++◌, refl, sym, ap, ◌∙◌, subst, map, filter}
use Rattle.std.specs.Prelude.{Ok}
use Rattle.std.specs.List.{AllByRecursion}
use Rattle.std.proofs.lemmas.Bool.{eq-eqb, eqb-true}
use Rattle.std.proofs.lemmas.List.{map-append, append-nil}
use Rattle.std.proofs.lemmas.List.Elements.{All-push}
use Rattle.run_model.specs.Stamps.{Collected, Pairwise}
use Rattle.run_model.specs.Offers as model
use Rattle.snap_marker.specs.Recordings.{MadeOffer}
use Rattle.snap_marker.specs.Parts.{number_of}
use Rattle.snap_marker.specs.declared.part.Offer.{Offer}
use Rattle.snap_marker.specs.declared.part.Offer.TheVariants as offer
use Rattle.snap_collector.specs.declared.answer.Taken.{Taken}
use Rattle.snap_collector.specs.declared.answer.Taken.TheVariants as taken
use Rattle.snap_collector.specs.Verdicts.{decides}
use Rattle.snap_collector.specs.Collecting.{made_by, member_of}
use Rattle.snap_collector.specs.Collector.{CollectorView, made_for, is_for}
use Rattle.snap_collector.specs.Laws.{IsKeptOf, KeptGoesOn, NothingIsKept}
use Rattle.snap_collector.specs.Taking.{Takes, Keeps, has_decided}
use Rattle.offer_board.specs.declared.board.Made.{Made}
use Rattle.offer_board.specs.Boards.{BoardView, IsBoard, collected, collected_in, offers_in}
use Rattle.run_model.specs.declared.stamps.TheConstants.{GREATEST_STAMP}

-- ---- stamps

none_above : (stamp n : ℕ) (os : List Made) → stamp ≤ n → AllByRecursion (λ m. m.stamp ≤ stamp) os → AllByRecursion (λ m. m.stamp ≤ n) os
none_above stamp n [] le all = tt
none_above stamp n (o ∷ os) le (here, rest) = ((let p = here in omega (arith, le, p)), none_above stamp n os le rest)

all_behind : {X : Type 0} → (P : X → Type 0) (xs : List X) (x : X) → AllByRecursion P xs → P x → AllByRecursion P (xs ++ x ∷ [])
all_behind P [] x all p = (p, tt)
all_behind P (y ∷ xs) x (here, rest) p = (here, all_behind P xs x rest p)

all_below : (stamp n : ℕ) (os : List Made) → stamp < n → AllByRecursion (λ m. m.stamp ≤ stamp) os → AllByRecursion (λ (a : Collected MadeOffer). a.stamp < n) (collected_in os)
all_below stamp n [] le all = tt
all_below stamp n (o ∷ os) le (here, rest) = ((let p = here in omega (arith, le, p)), all_below stamp n os le rest)

pairs_more : {A : Type 0} → (R : A → A → Type 0) (xs : List A) (x : A) → Pairwise R xs → AllByRecursion (λ a. R a x) xs → Pairwise R (xs ++ x ∷ [])
pairs_more R [] x p all = ((λ k d below. absurd (let b = below in omega (arith, b))), tt)
pairs_more R (y ∷ xs) x (here, rest) (one, others) = (All-push (R y) xs x here one, pairs_more R xs x rest others)

-- ---- what is kept

same_number : (o : Offer) → model.number_of (made_by o).offer ≡ number_of o
same_number (offer.Part p) = refl
same_number (offer.Lost l) = refl

abbrev Keeping : CollectorView → ℕ → List MadeOffer → Type 0
Keeping c s made = IsKeptOf (map member_of c.members) s made (made_for c s)

others_kept : (law : KeptGoesOn) (c : CollectorView) (s : ℕ) (made : List MadeOffer) (o : Offer) → (model.number_of (made_by o).offer == s) ≡ false
    → Keeping c s made → IsKeptOf (map member_of c.members) s (made ++ made_by o ∷ []) (made_for c s)
others_kept law c s made o apart k = (law (map member_of c.members) s made (made_for c s) (made_by o) k).0 (λ same. let e = eq-eqb (model.number_of (made_by o).offer) s same in cc)

late_by : (law : KeptGoesOn) (c : CollectorView) (s : ℕ) (made : List MadeOffer) (o : Offer) (b : Bool) → (model.number_of (made_by o).offer == s) ≡ b
    → has_decided c o ≡ true → Keeping c s made → IsKeptOf (map member_of c.members) s (made ++ made_by o ∷ []) (made_for c s)
late_by law c s made o true is late k =
    let same : model.number_of (made_by o).offer ≡ s = eqb-true (model.number_of (made_by o).offer) s is in
    (law (map member_of c.members) s made (made_for c s) (made_by o) k).1.0 same
    (subst (λ n. decides (map member_of c.members) (made_for c n) ≡ true) (sym (same_number o) ∙ same) late)
late_by law c s made o false is late k = others_kept law c s made o is k

new_by : (law : KeptGoesOn) (c : CollectorView) (s : ℕ) (made : List MadeOffer) (o : Offer) (b : Bool) → (model.number_of (made_by o).offer == s) ≡ b
    → has_decided c o ≡ false → Keeping c s made
    → IsKeptOf (map member_of c.members) s (made ++ made_by o ∷ []) (made_for c s ++ cond b (made_by o ∷ []) [])
new_by law c s made o true is waits k =
    let same : model.number_of (made_by o).offer ≡ s = eqb-true (model.number_of (made_by o).offer) s is in
    (law (map member_of c.members) s made (made_for c s) (made_by o) k).1.1 same
    (subst (λ n. decides (map member_of c.members) (made_for c n) ≡ false) (sym (same_number o) ∙ same) waits)
new_by law c s made o false is waits k =
    subst (IsKeptOf (map member_of c.members) s (made ++ made_by o ∷ [])) (sym (append-nil (made_for c s))) (others_kept law c s made o is k)

filtered : (s : ℕ) (m : MadeOffer) (b : Bool) → is_for s m ≡ b → filter (is_for s) (m ∷ []) ≡ cond b (m ∷ []) []
filtered s m true is = rw is refl
filtered s m false is = rw is refl

new_kept : (law : KeptGoesOn) (c d : CollectorView) (s : ℕ) (made : List MadeOffer) (o : Offer) (decided : Bool) → Keeps c d o decided → Keeping c s made
    → Keeping d s (made ++ made_by o ∷ [])
new_kept law c d s made o decided keeps k =
    let whole : made_for d s ≡ made_for c s ++ cond (is_for s (made_by o)) (made_by o ∷ []) [] =
    ap (λ f. f s) keeps.made ∙ ap (λ l. made_for c s ++ l) (filtered s (made_by o) (is_for s (made_by o)) refl) in
    subst (λ ms. IsKeptOf ms s (made ++ made_by o ∷ []) (made_for d s)) (ap (map member_of) (sym keeps.members))
    (subst (IsKeptOf (map member_of c.members) s (made ++ made_by o ∷ [])) (sym whole)
    (new_by law c s made o (is_for s (made_by o)) refl keeps.news.waits k))

kept_on : (law : KeptGoesOn) (c d : CollectorView) (s : ℕ) (made : List MadeOffer) (o : Offer) (t : Taken) → Takes c d o (Ok t) → Keeping c s made → Keeping d s (made ++ made_by o ∷ [])
kept_on law c d s made o taken.Kept takes k = new_kept law c d s made o false takes k
kept_on law c d s made o taken.Decided takes k = new_kept law c d s made o true takes k
kept_on law c d s made o taken.Late takes k =
    subst (λ x. Keeping x s (made ++ made_by o ∷ [])) (sym takes.2) (late_by law c s made o (is_for s (made_by o)) refl takes.1 k)

-- ---- boards

pub first_board : NothingIsKept → (c : CollectorView) (offers : List Made) → made_for c ≡ (λ s. []) → offers ≡ [] → IsBoard (record { collector = c; offers = offers; stamp = 0 })
first_board law c offers nothing none =
    subst (λ os. IsBoard (record { collector = c; offers = os; stamp = 0 })) (sym none)
    (record {
      rising = tt;
      last = tt;
      few = omega arith;
      kept = λ s. subst (IsKeptOf (map member_of c.members) s []) (sym (ap (λ f. f s) nothing)) (law (map member_of c.members) s);
    })

pub next_board : KeptGoesOn → (x : BoardView) → IsBoard x → (c : CollectorView) (offers : List Made) (at : ℕ) (o : Offer) (m : Made) (t : Taken) → x.stamp < at → at ≤ GREATEST_STAMP
    → offers ≡ x.offers ++ m ∷ [] → m.stamp ≡ at → made_by m.offer ≡ made_by o → Takes x.collector c o (Ok t) → IsBoard (record { collector = c; offers = offers; stamp = at })
next_board law x board c offers at o m t later few more stamp says takes =
    subst (λ os. IsBoard (record { collector = c; offers = os; stamp = at })) (sym more)
    (record {
      rising = subst (Pairwise (λ a b. a.stamp < b.stamp)) (sym (map-append collected x.offers (m ∷ [])))
          (pairs_more (λ a b. a.stamp < b.stamp) (collected_in x.offers) (collected m) board.rising
          (subst (λ n. AllByRecursion (λ (a : Collected MadeOffer). a.stamp < n) (collected_in x.offers)) (sym stamp) (all_below x.stamp at x.offers later board.last)));
      last = all_behind (λ k. k.stamp ≤ at) x.offers m (none_above x.stamp at x.offers (omega (arith, later)) board.last) (omega (arith, stamp));
      few = few;
      kept = λ s. subst (λ l. IsKeptOf (map member_of c.members) s l (made_for c s))
          (ap (λ k. offers_in x.offers ++ k ∷ []) (sym says) ∙ sym (map-append (λ k. made_by k.offer) x.offers (m ∷ [])))
          (kept_on law x.collector c s (offers_in x.offers) o t takes (board.kept s));
    })
