-- What decides a snapshot, and how it comes out.
use Rattle.std.proofs.Common.{inl, inr, ◌≡◌, ◌≢◌, ℕ, ◌==◌, Bool, true, false, ◌&&◌, ◌||◌, cond, List, [], ◌∷◌, ◌++◌, Option, None, Some, refl, ap, sym, ◌∙◌, subst, append_assoc}
use Rattle.std.specs.List.{list_any}
use mathlib.Core.Logic.{◌⊎◌}
use Rattle.std.proofs.lemmas.Bool.{eqb-true, eq-eqb, ne_eqb, false≢true, true≢false}
use Rattle.std.proofs.lemmas.List.{append-nil}
use Rattle.std.proofs.lemmas.List.Elements.{filter-append}
use Rattle.snap_collector.specs.Laws.{IsKeptOf}
use Rattle.std.proofs.lemmas.List.Folds.{list_any-append}
use Rattle.prefix_lanes.specs.Bits.{PrefixView}
use Rattle.bgp_codec.specs.declared.message.Message.{Message}
use Rattle.run_model.specs.Routes.{Network}
use Rattle.run_model.specs.Offers.{Finished, Lost, Cause, made_of, made_for, number_of, IsIn, Why, Outcome, Waiting, Abandoned, Decides, IsDeciding, HasOutcome}
use Rattle.snap_marker.specs.Recordings.{RouterOffer, MadeOffer, RouterPart}
use Rattle.snap_collector.specs.Verdicts.{Member, of_part, has_part, is_lost, any_lost, all_parts, decides, is_member, first_fault, moving_or_settled, whole_or_waiting, abandoned_by, abandoned_or, verdict, IsKept, AreFor, IsOver}
use Rattle.snap_collector.specs.Collector.{kept_behind, kept_of}
use Rattle.snap_collector.proofs.Holding.{found, stands, found_lost, lost_stands, number_is}
use Rattle.snap_collector.proofs.Faults.{first_is, IsFirstOf}

-- ---- more offers decide where fewer do

or_front : (b c : Bool) → b ≡ true → (b || c) ≡ true
or_front true c h = refl
or_front false c h = absurd (false≢true h)

any_more : (p : MadeOffer → Bool) (xs ys : List MadeOffer) → list_any p xs ≡ true → list_any p (xs ++ ys) ≡ true
any_more p xs ys h = list_any-append p xs ys ∙ or_front (list_any p xs) (list_any p ys) h

both : (b c : Bool) → (b && c) ≡ true → (b ≡ true) × (c ≡ true)
both true c h = (refl, h)
both false c h = absurd (false≢true h)

parts_more : (members : List Member) (xs ys : List MadeOffer) → all_parts members xs ≡ true → all_parts members (xs ++ ys) ≡ true
parts_more [] xs ys h = refl
parts_more (m ∷ rest) xs ys h =
    let two = both (has_part xs m.router (λ part. true)) (all_parts rest xs) h in
    rw (any_more (λ x. (m.router == x.router) && of_part (λ part. true) x.offer) xs ys two.0, parts_more rest xs ys two.1) refl

either : (b c : Bool) → (b || c) ≡ true → (b ≡ true) ⊎ (c ≡ true)
either true c h = inl refl
either false c h = inr h

or_later : (b c : Bool) → c ≡ true → (b || c) ≡ true
or_later true c h = refl
or_later false c h = h

pub decides_more : (members : List Member) (xs ys : List MadeOffer) → decides members xs ≡ true → decides members (xs ++ ys) ≡ true
decides_more members xs ys h = by (either (any_lost xs) (all_parts members xs) h)
  where
    by : (any_lost xs ≡ true) ⊎ (all_parts members xs ≡ true) → decides members (xs ++ ys) ≡ true
    by (inl l) = or_front (any_lost (xs ++ ys)) (all_parts members (xs ++ ys)) (any_more (λ m. is_lost m.offer) xs ys l)
    by (inr a) = or_later (any_lost (xs ++ ys)) (all_parts members (xs ++ ys)) (parts_more members xs ys a)

-- ---- the last of some offers

snoc : (x : MadeOffer) (xs : List MadeOffer) → (front : List MadeOffer) × (last : MadeOffer) × (x ∷ xs ≡ front ++ last ∷ [])
snoc x [] = ([], x, refl)
snoc x (y ∷ ys) = let t = snoc y ys in (x ∷ t.0, t.1, ap (λ (l : List MadeOffer). x ∷ l) t.2)

-- a beginning that decides is the whole of what was kept
shortest : (members : List Member) (ms shorter rest : List MadeOffer) → IsKept members ms → shorter ++ rest ≡ ms → decides members shorter ≡ true → shorter ≡ ms
shortest members ms shorter [] kept is h = sym (append-nil shorter) ∙ is
shortest members ms shorter (x ∷ rest) kept is h =
    let t = snoc x rest in
    let whole : ms ≡ (shorter ++ t.0) ++ t.1 ∷ [] = sym is ∙ ap (λ (l : List MadeOffer). shorter ++ l) t.2 ∙ sym (append_assoc shorter t.0 (t.1 ∷ [])) in
    absurd (true≢false (sym (decides_more members shorter t.0 h) ∙ kept (shorter ++ t.0) t.1 whole))

-- ---- as the laws of runs say it

module _ (g : Network Message PrefixView (List ℕ)) (members : List Member) (over : IsOver g members) (s : ℕ) where
  parts_of : (rest : List Member) (ms : List MadeOffer) → AreFor s ms → all_parts rest ms ≡ true → (u : ℕ) → is_member rest u ≡ true
      → (part : RouterPart) × IsIn (made_of u (Finished s part)) ms
  parts_of [] ms are h u i = absurd (false≢true i)
  parts_of (m ∷ rest) ms are h u i =
      let two = both (has_part ms m.router (λ part. true)) (all_parts rest ms) h in
      by (either (u == m.router) (is_member rest u) i) two.0 (parts_of rest ms are two.1 u)
    where
      by : ((u == m.router) ≡ true) ⊎ (is_member rest u ≡ true) → has_part ms m.router (λ part. true) ≡ true
          → (is_member rest u ≡ true → (part : RouterPart) × IsIn (made_of u (Finished s part)) ms) → (part : RouterPart) × IsIn (made_of u (Finished s part)) ms
      by (inl e) a next =
          let f = found ms m.router (λ part. true) a in
          let at_s = subst (λ k. IsIn (made_of m.router (Finished k f.1)) ms) (number_is s ms (made_of m.router (Finished f.0 f.1)) are f.2) f.2 in
          (f.1, subst (λ k. IsIn (made_of k (Finished s f.1)) ms) (sym (eqb-true u m.router e)) at_s)
      by (inr j) a next = next j

  parts_stand : (rest : List Member) (ms : List MadeOffer)
      → ((u : ℕ) → is_member rest u ≡ true → (part : RouterPart) × IsIn (made_of u (Finished s part)) ms) → all_parts rest ms ≡ true
  parts_stand [] ms h = refl
  parts_stand (m ∷ rest) ms h =
      let first = h m.router (rw (eq-eqb m.router m.router refl) refl) in
      let here = stands ms m.router s first.0 (λ part. true) first.1 refl in
      rw here (parts_stand rest ms (λ u i. h u (or_later (u == m.router) (is_member rest u) i)))

  decided : (ms : List MadeOffer) → AreFor s ms → decides members ms ≡ true → Decides g s ms
  decided ms are h = by (either (any_lost ms) (all_parts members ms) h)
    where
      by : (any_lost ms ≡ true) ⊎ (all_parts members ms ≡ true) → Decides g s ms
      by (inl l) =
          let f = found_lost ms l in
          inl (f.0, f.2, f.3, f.4, subst (λ k. IsIn (made_of f.0 (Lost k f.2 f.3 f.4)) ms) (number_is s ms (made_of f.0 (Lost f.1 f.2 f.3 f.4)) are f.5) f.5)
      by (inr a) = inr (λ u i. parts_of members ms are a u (sym (over.routers u) ∙ i))

  decides_so : (ms : List MadeOffer) → Decides g s ms → decides members ms ≡ true
  decides_so ms (inl l) = or_front (any_lost ms) (all_parts members ms) (lost_stands ms l.0 s l.1 l.2 l.3 l.4)
  decides_so ms (inr a) = or_later (any_lost ms) (all_parts members ms) (parts_stand members ms (λ u i. a u (over.routers u ∙ i)))

  module _ (made ms rest : List MadeOffer) (is : made_for s made ≡ ms ++ rest) (end : (rest ≡ []) ⊎ (decides members ms ≡ true)) (are : AreFor s ms) (kept : IsKept members ms) where
    deciding : decides members ms ≡ true → IsDeciding g s ms (made_for s made)
    deciding h = ((rest, sym is), decided ms are h, λ shorter p d. shortest members ms shorter p.0 kept p.1 (decides_so shorter d))

    none_left : (rest ≡ []) ⊎ (decides members ms ≡ true) → decides members ms ≡ false → made_for s made ≡ ms
    none_left (inl e) h = is ∙ ap (λ (l : List MadeOffer). ms ++ l) e ∙ append-nil ms
    none_left (inr d) h = absurd (true≢false (sym d ∙ h))

    -- nothing decides yet
    waits : decides members ms ≡ false → HasOutcome g s made Waiting
    waits h = λ front p d.
        let more = decides_more members front p.0 (decides_so front d) in
        true≢false (sym more ∙ ap (decides members) (p.1 ∙ none_left end h) ∙ h)

    no_lost : any_lost ms ≡ false → (w v e : ℕ) (cause : Cause) → IsIn (made_of w (Lost s v e cause)) ms → ⊥
    no_lost h w v e cause i = true≢false (sym (lost_stands ms w s v e cause i) ∙ h)

    comes_out : any_lost ms ≡ false → all_parts members ms ≡ true → (o : Option (ℕ × Why)) → IsFirstOf g s ms are members o → HasOutcome g s made (moving_or_settled o)
    comes_out l a None f =
        (ms, deciding (or_later (any_lost ms) (all_parts members ms) a), no_lost l, λ w i other. f w (sym (over.routers w) ∙ i) other)
    comes_out l a (Some fault) f = (
      ms,
      deciding (or_later (any_lost ms) (all_parts members ms) a),
      no_lost l,
      over.routers fault.0 ∙ f.0,
      f.1.0,
      (λ w b i other. f.2 w b (sym (over.routers w) ∙ i) other),
      f.1.1,
    )

    abandoned_head : (b : Bool) (r : ℕ) (o : RouterOffer) (rest : List MadeOffer) (other : Outcome) → is_lost o ≡ b → (b || any_lost rest) ≡ true
        → (any_lost rest ≡ true → (u n v e : ℕ) × (cause : Cause) × (abandoned_or rest other ≡ Abandoned u v e cause) × IsIn (made_of u (Lost n v e cause)) rest)
        → (u n v e : ℕ) × (cause : Cause) × (abandoned_by r o (abandoned_or rest other) ≡ Abandoned u v e cause) × IsIn (made_of u (Lost n v e cause)) (made_of r o ∷ rest)
    abandoned_head b r (Finished n part) rest other e h next =
        let f = next (subst (λ c. (c || any_lost rest) ≡ true) (sym e) h) in (f.0, f.1, f.2, f.3, f.4, f.5, inr f.6)
    abandoned_head b r (Lost n v i cause) rest other e h next = (r, n, v, i, cause, refl, inl refl)

    abandoned : (rest : List MadeOffer) (other : Outcome) → any_lost rest ≡ true
        → (u n v e : ℕ) × (cause : Cause) × (abandoned_or rest other ≡ Abandoned u v e cause) × IsIn (made_of u (Lost n v e cause)) rest
    abandoned [] other h = absurd (false≢true h)
    abandoned (m ∷ rest) other h = abandoned_head (is_lost m.offer) m.router m.offer rest other refl h (abandoned rest other)

    kept_whole : (o : RouterOffer) (b : Bool) (r : ℕ) (rest : Outcome) → is_lost o ≡ b → b ≡ false → abandoned_by r o rest ≡ rest
    kept_whole (Finished n part) b r rest e h = refl
    kept_whole (Lost n v i cause) b r rest e h = absurd (true≢false (e ∙ h))

    neither : (b c : Bool) → (b || c) ≡ false → (b ≡ false) × (c ≡ false)
    neither true c h = absurd (true≢false h)
    neither false c h = (refl, h)

    not_abandoned : (rest : List MadeOffer) (other : Outcome) → any_lost rest ≡ false → abandoned_or rest other ≡ other
    not_abandoned [] other h = refl
    not_abandoned (m ∷ rest) other h =
        let two = neither (is_lost m.offer) (any_lost rest) h in
        kept_whole m.offer (is_lost m.offer) m.router (abandoned_or rest other) refl two.0 ∙ not_abandoned rest other two.1

    by_parts : (b : Bool) → any_lost ms ≡ false → all_parts members ms ≡ b → HasOutcome g s made (whole_or_waiting b (first_fault members ms))
    by_parts true l a = comes_out l a (first_fault members ms) (first_is g s ms are members over.rising over.links)
    by_parts false l a = waits (rw (l, a) refl)

    by_lost : (b : Bool) → any_lost ms ≡ b → HasOutcome g s made (verdict members ms)
    by_lost true l =
        let f = abandoned ms (whole_or_waiting (all_parts members ms) (first_fault members ms)) l in
        let at_s = subst (λ k. IsIn (made_of f.0 (Lost k f.2 f.3 f.4)) ms) (number_is s ms (made_of f.0 (Lost f.1 f.2 f.3 f.4)) are f.6) f.6 in
        subst (HasOutcome g s made) (sym f.5) (ms, deciding (or_front (any_lost ms) (all_parts members ms) l), at_s)
    by_lost false l =
        subst (HasOutcome g s made) (sym (not_abandoned ms (whole_or_waiting (all_parts members ms) (first_fault members ms)) l)) (by_parts (all_parts members ms) l refl)

    -- a verdict is how the snapshot comes out
    pub verdict_is : HasOutcome g s made (verdict members ms)
    verdict_is = by_lost (any_lost ms) refl

-- ---- offers that come, one after another

same_front : (xs ys : List MadeOffer) (a b : MadeOffer) → xs ++ a ∷ [] ≡ ys ++ b ∷ [] → xs ≡ ys
same_front [] [] a b e = refl
same_front [] (y ∷ []) a b e = let f : a ∷ [] ≡ y ∷ b ∷ [] = e in cc
same_front [] (y ∷ z ∷ ys) a b e = let f : a ∷ [] ≡ y ∷ z ∷ (ys ++ b ∷ []) = e in cc
same_front (x ∷ []) [] a b e = let f : x ∷ a ∷ [] ≡ b ∷ [] = e in cc
same_front (x ∷ w ∷ xs) [] a b e = let f : x ∷ w ∷ (xs ++ a ∷ []) ≡ b ∷ [] = e in cc
same_front (x ∷ xs) (y ∷ ys) a b e =
    let f : x ∷ (xs ++ a ∷ []) ≡ y ∷ (ys ++ b ∷ []) = e in
    let first : x ≡ y = cc in
    let rest : xs ++ a ∷ [] ≡ ys ++ b ∷ [] = cc in
    let same = same_front xs ys a b rest in λ i. first i ∷ same i

for_more : (s : ℕ) (ms : List MadeOffer) (m : MadeOffer) → AreFor s ms → number_of m.offer ≡ s → AreFor s (ms ++ m ∷ [])
for_more s [] m are e = (e, tt)
for_more s (x ∷ ms) m are e = (are.0, for_more s ms m are.1 e)

made_more : (s : ℕ) (made : List MadeOffer) (m : MadeOffer) (b : Bool) → (number_of m.offer == s) ≡ b → made_for s (made ++ m ∷ []) ≡ made_for s made ++ cond b (m ∷ []) []
made_more s made m b e = filter-append (λ x. number_of x.offer == s) made (m ∷ []) ∙ ap (λ (l : List MadeOffer). made_for s made ++ l) (one b e)
  where
    one : (b : Bool) → (number_of m.offer == s) ≡ b → made_for s (m ∷ []) ≡ cond b (m ∷ []) []
    one true e = rw e refl
    one false e = rw e refl

pub kept_at_first : (members : List Member) (s : ℕ) → IsKeptOf members s [] []
kept_at_first members s = record { rest = []; parts = refl; done = inl refl; number = tt; whole = λ front last e. absurd (none front last e) }
  where
    none : (front : List MadeOffer) (last : MadeOffer) → [] ≡ front ++ last ∷ [] → ⊥
    none [] last e = let f : [] ≡ last ∷ [] = e in cc
    none (x ∷ front) last e = let f : [] ≡ x ∷ (front ++ last ∷ []) = e in cc

pub kept_aside : (members : List Member) (s : ℕ) (made kept : List MadeOffer) (m : MadeOffer) → number_of m.offer ≢ s → IsKeptOf members s made kept → IsKeptOf members s (made ++ m ∷ []) kept
kept_aside members s made kept m n k = record {
  rest = k.rest;
  parts = made_more s made m false (ne_eqb (number_of m.offer) s n) ∙ append-nil (made_for s made) ∙ k.parts;
  done = k.done;
  number = k.number;
  whole = k.whole;
}

pub kept_late : (members : List Member) (s : ℕ) (made kept : List MadeOffer) (m : MadeOffer) → number_of m.offer ≡ s → decides members kept ≡ true
    → IsKeptOf members s made kept → IsKeptOf members s (made ++ m ∷ []) kept
kept_late members s made kept m e d k = record {
  rest = k.rest ++ m ∷ [];
  parts = made_more s made m true (eq-eqb (number_of m.offer) s e) ∙ ap (λ (l : List MadeOffer). l ++ m ∷ []) k.parts ∙ append_assoc kept k.rest (m ∷ []);
  done = inr d;
  number = k.number;
  whole = k.whole;
}

pub kept_more : (members : List Member) (s : ℕ) (made kept : List MadeOffer) (m : MadeOffer) → number_of m.offer ≡ s → decides members kept ≡ false
    → IsKeptOf members s made kept → IsKeptOf members s (made ++ m ∷ []) (kept ++ m ∷ [])
kept_more members s made kept m e d k = record {
  rest = [];
  parts = made_more s made m true (eq-eqb (number_of m.offer) s e) ∙ ap (λ (l : List MadeOffer). l ++ m ∷ []) (all k.done) ∙ sym (append-nil (kept ++ m ∷ []));
  done = inl refl;
  number = for_more s kept m k.number e;
  whole = λ front last is. ap (decides members) (sym (same_front kept front m last is)) ∙ d;
}
  where
    all : (k.rest ≡ []) ⊎ (decides members kept ≡ true) → made_for s made ≡ kept
    all (inl none) = k.parts ∙ ap (λ (l : List MadeOffer). kept ++ l) none ∙ append-nil kept
    all (inr h) = absurd (true≢false (sym h ∙ d))

-- ---- of offers for a number, those up to the first that decides

abbrev Ends : List Member → ℕ → List MadeOffer → List MadeOffer → Type 0
Ends members s all kept = (rest : List MadeOffer) × (all ≡ kept ++ rest) × ((rest ≡ []) ⊎ (decides members kept ≡ true)) × AreFor s kept × IsKept members kept

pick : (members : List Member) (s : ℕ) (all : List MadeOffer) (b : Bool) (x y : List MadeOffer) → (b ≡ true → Ends members s all x) → (b ≡ false → Ends members s all y) → Ends members s all (cond b x y)
pick members s all true x y f g = f refl
pick members s all false x y f g = g refl

longer : (members : List Member) (front : List MadeOffer) (m : MadeOffer) → decides members front ≡ false → IsKept members (front ++ m ∷ [])
longer members front m e = λ shorter last h. subst (λ ms. decides members ms ≡ false) (same_front front shorter m last h) e

ends : (members : List Member) (s : ℕ) (all front ms : List MadeOffer) → all ≡ front ++ ms → IsKept members front → AreFor s front → AreFor s ms → Ends members s all (kept_behind members front ms)
ends members s all front [] is kept are more = ([], is, inl refl, are, kept)
ends members s all front (m ∷ ms) is kept are more =
    pick members s all (decides members front) front (kept_behind members (front ++ m ∷ []) ms) (λ e. (m ∷ ms, is, inr e, are, kept))
    (λ e. ends members s all (front ++ m ∷ []) ms (is ∙ sym (append_assoc front (m ∷ []) ms)) (longer members front m e) (for_more s front m are more.0) more.1)

for_one : (s : ℕ) (b : Bool) (m : MadeOffer) (ms : List MadeOffer) → (number_of m.offer == s) ≡ b → AreFor s ms → AreFor s (cond b (m ∷ ms) ms)
for_one s true m ms e h = (eqb-true (number_of m.offer) s e, h)
for_one s false m ms e h = h

all_for_it : (s : ℕ) (made : List MadeOffer) → AreFor s (made_for s made)
all_for_it s [] = tt
all_for_it s (m ∷ made) = for_one s (number_of m.offer == s) m (made_for s made) refl (all_for_it s made)

pub collected : (members : List Member) (s : ℕ) (made : List MadeOffer) → IsKeptOf members s made (kept_of members (made_for s made))
collected members s made =
    let e = ends members s (made_for s made) [] (made_for s made) refl (kept_at_first members s).whole tt (all_for_it s made) in
    record { rest = e.0; parts = e.1; done = e.2; number = e.3; whole = e.4 }
