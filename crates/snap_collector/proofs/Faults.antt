-- The first fault of the parts, as the laws of runs say it.
use Rattle.std.proofs.Common.{◌≡◌, ◌≢◌, ℕ, ◌<◌, ◌==◌, Bool, true, false, ◌||◌, not, cond, List, [], ◌∷◌, map, Option, None, Some, refl, ap, sym, ◌∙◌, subst, arith}
use Rattle.std.specs.Prelude.{MatchOption}
use Rattle.std.specs.Option.{option_map}
use Rattle.std.specs.List.{find, list_any}
use Rattle.std.proofs.lemmas.Bool.{eqb-true, eqb-false, eq-eqb, ne_eqb, false≢true, true≢false}
use Rattle.prefix_lanes.specs.Bits.{PrefixView}
use Rattle.bgp_codec.specs.declared.message.Message.{Message}
use Rattle.run_model.specs.Routes.{Network}
use Rattle.run_model.specs.Offers.{Finished, made_of, IsIn, Why, Pending, InFlight, Mismatch, Shows, Precedes}
use Rattle.snap_marker.specs.Parts.{is_empty}
use Rattle.snap_marker.specs.Recordings.{MadeOffer, RouterPart}
use Rattle.snap_collector.specs.Verdicts.{Member, has_part, pending, in_flight, mismatch, or_else, fault_at, moving_at, first_fault, AreFor, IsAbove, Rises, is_member, HasLinks}
use Rattle.snap_collector.proofs.Holding.{found, stands, number_is, not_nil, is_some}

-- ---- the least of rising numbers that pass a test

abbrev pub among : ℕ → List ℕ → Bool
among v vs = list_any (λ w. v == w) vs

abbrev pub IsLeastOf : (ℕ → Bool) → List ℕ → Option ℕ → Type 0
IsLeastOf p vs o =
    MatchOption o ((w : ℕ) → among w vs ≡ true → p w ≡ false)
    (λ v. (among v vs ≡ true) × (p v ≡ true) × ((w : ℕ) → w < v → among w vs ≡ true → p w ≡ false))

above_head : (b : Bool) (u w v : ℕ) (vs : List ℕ) → (w == v) ≡ b → u < v → (b || among w vs) ≡ true → (among w vs ≡ true → u < w) → u < w
above_head true u w v vs e a h rest = subst (λ n. u < n) (sym (eqb-true w v e)) a
above_head false u w v vs e a h rest = rest h

above : (u w : ℕ) (vs : List ℕ) → IsAbove u vs → among w vs ≡ true → u < w
above u w [] a h = absurd (false≢true h)
above u w (v ∷ vs) a h = above_head (w == v) u w v vs refl a.0 h (above u w vs a.1)

-- what holds of a head and of those behind it holds of all
each_head : (p : ℕ → Bool) (b : Bool) (w v : ℕ) (vs : List ℕ) → (w == v) ≡ b → p v ≡ false → (b || among w vs) ≡ true → (among w vs ≡ true → p w ≡ false) → p w ≡ false
each_head p true w v vs e a h rest = ap p (eqb-true w v e) ∙ a
each_head p false w v vs e a h rest = rest h

here : (v : ℕ) (vs : List ℕ) → among v (v ∷ vs) ≡ true
here v vs = rw (eq-eqb v v refl) refl

or_later : (b c : Bool) → c ≡ true → (b || c) ≡ true
or_later true c h = refl
or_later false c h = h

least_rest : (p : ℕ → Bool) (v : ℕ) (vs : List ℕ) (o : Option ℕ) → p v ≡ false → IsAbove v vs → IsLeastOf p vs o → IsLeastOf p (v ∷ vs) o
least_rest p v vs None e a h = λ w i. each_head p (w == v) w v vs refl e i (h w)
least_rest p v vs (Some x) e a h = (or_later (x == v) (among x vs) h.0, h.1, λ w l i. each_head p (w == v) w v vs refl e i (h.2 w l))

below_by : (b : Bool) (w v : ℕ) (vs : List ℕ) → (w == v) ≡ b → w < v → IsAbove v vs → (b || among w vs) ≡ true → ⊥
below_by true w v vs e l a i = let same = eqb-true w v e in omega (arith, same, l)
below_by false w v vs e l a i = let more = above v w vs a i in omega (arith, more, l)

least_head : (p : ℕ → Bool) (b : Bool) (v : ℕ) (vs : List ℕ) → p v ≡ b → IsAbove v vs → IsLeastOf p vs (find p vs) → IsLeastOf p (v ∷ vs) (cond b (Some v) (find p vs))
least_head p true v vs e a h = (here v vs, e, λ w l i. absurd (below_by (w == v) w v vs refl l a i))
least_head p false v vs e a h = least_rest p v vs (find p vs) e a h

pub least : (p : ℕ → Bool) (vs : List ℕ) → Rises vs → IsLeastOf p vs (find p vs)
least p [] r = λ w i. absurd (false≢true i)
least p (v ∷ vs) r = least_head p (p v) v vs refl r.0 (least p vs r.1)

-- ---- the faults of one router's part

module _ (g : Network Message PrefixView (List ℕ)) (s : ℕ) (ms : List MadeOffer) (are : AreFor s ms) where
  numbered : (u n : ℕ) (part : RouterPart) → IsIn (made_of u (Finished n part)) ms → IsIn (made_of u (Finished s part)) ms
  numbered u n part i = subst (λ k. IsIn (made_of u (Finished k part)) ms) (number_is s ms (made_of u (Finished n part)) are i) i

  shows_pending : (u : ℕ) → pending ms u ≡ true → Shows g s ms u Pending
  shows_pending u h = let f = found ms u (λ part. part.pending) h in (f.1, numbered u f.0 f.1 f.2, f.3)

  no_pending : (u : ℕ) → pending ms u ≡ false → Shows g s ms u Pending → ⊥
  no_pending u h f = true≢false (sym (stands ms u s f.0 (λ part. part.pending) f.1 f.2) ∙ h)

  shows_flight : (u v : ℕ) → g.linked u v ≡ true → in_flight ms u v ≡ true → Shows g s ms u (InFlight v)
  shows_flight u v l h =
      let f = found ms u (λ part. not (is_empty (part.channel v))) h in (f.1, numbered u f.0 f.1 f.2, l, not_nil (f.1.channel v) f.3)

  no_flight : (u v : ℕ) → in_flight ms u v ≡ false → Shows g s ms u (InFlight v) → ⊥
  no_flight u v h f =
      true≢false (sym (stands ms u s f.0 (λ part. not (is_empty (part.channel v))) f.1 (is_some (f.0.channel v) f.3)) ∙ h)

  abbrev differs : ℕ → RouterPart → RouterPart → ℕ → Bool
  differs v part other u = not (part.incarnation v == other.incarnation u)

  apart : (a b : ℕ) (c : Bool) → (a == b) ≡ c → not c ≡ true → a ≢ b
  apart a b true e h = absurd (false≢true h)
  apart a b false e h = eqb-false a b e

  shows_mismatch : (u v : ℕ) → g.linked u v ≡ true → mismatch ms u v ≡ true → Shows g s ms u (Mismatch v)
  shows_mismatch u v l h =
      let f = found ms u (λ part. has_part ms v (λ other. differs v part other u)) h in
      let k = found ms v (λ other. differs v f.1 other u) f.3 in
      (f.1, k.1, numbered u f.0 f.1 f.2, numbered v k.0 k.1 k.2, l, apart (f.1.incarnation v) (k.1.incarnation u) (f.1.incarnation v == k.1.incarnation u) refl k.3)

  no_mismatch : (u v : ℕ) → mismatch ms u v ≡ false → Shows g s ms u (Mismatch v) → ⊥
  no_mismatch u v h f =
      let ne : not (f.0.incarnation v == f.1.incarnation u) ≡ true = rw (ne_eqb (f.0.incarnation v) (f.1.incarnation u) f.5) refl in
      let inner = stands ms v s f.1 (λ other. differs v f.0 other u) f.3 ne in
      true≢false (sym (stands ms u s f.0 (λ part. has_part ms v (λ other. differs v part other u)) f.2 inner) ∙ h)

  abbrev pub IsFaultOf : ℕ → Option Why → Type 0
  IsFaultOf u o =
      MatchOption o ((why : Why) → Shows g s ms u why → ⊥)
      (λ why. Shows g s ms u why × ((other : Why) → Precedes other why → Shows g s ms u other → ⊥))

  linked_shows : (u v : ℕ) (why : Why) → Shows g s ms u (InFlight v) → g.linked u v ≡ true
  linked_shows u v why f = f.2

  linked_differs : (u v : ℕ) → Shows g s ms u (Mismatch v) → g.linked u v ≡ true
  linked_differs u v f = f.4

  -- no channel of u is in flight, and then no two parts differ
  behind : (u : ℕ) (peers : List ℕ) → ((v : ℕ) → g.linked u v ≡ among v peers) → pending ms u ≡ false
      → ((w : ℕ) → among w peers ≡ true → in_flight ms u w ≡ false)
      → (o : Option ℕ) → IsLeastOf (mismatch ms u) peers o → IsFaultOf u (option_map Mismatch o)
  behind u peers is p q None m = none
    where
      none : (why : Why) → Shows g s ms u why → ⊥
      none Pending f = no_pending u p f
      none (InFlight v) f = no_flight u v (q v (sym (is v) ∙ f.2)) f
      none (Mismatch v) f = no_mismatch u v (m v (sym (is v) ∙ f.4)) f
  behind u peers is p q (Some x) m = (shows_mismatch u x (is x ∙ m.0) m.1, before)
    where
      before : (other : Why) → Precedes other (Mismatch x) → Shows g s ms u other → ⊥
      before Pending l f = no_pending u p f
      before (InFlight v) l f = no_flight u v (q v (sym (is v) ∙ f.2)) f
      before (Mismatch v) l f = no_mismatch u v (m.2 v l (sym (is v) ∙ f.4)) f

  flight : (u : ℕ) (peers : List ℕ) → ((v : ℕ) → g.linked u v ≡ among v peers) → pending ms u ≡ false
      → (o : Option ℕ) → IsLeastOf (in_flight ms u) peers o → (n : Option ℕ) → IsLeastOf (mismatch ms u) peers n
      → IsFaultOf u (or_else (option_map InFlight o) (option_map Mismatch n))
  flight u peers is p None h n m = behind u peers is p h n m
  flight u peers is p (Some x) h n m = (shows_flight u x (is x ∙ h.0) h.1, before)
    where
      before : (other : Why) → Precedes other (InFlight x) → Shows g s ms u other → ⊥
      before Pending l f = no_pending u p f
      before (InFlight v) l f = no_flight u v (h.2 v l (sym (is v) ∙ f.2)) f
      before (Mismatch v) l f = l

  first_pending : (other : Why) → Precedes other Pending → ⊥
  first_pending Pending l = l
  first_pending (InFlight v) l = l
  first_pending (Mismatch v) l = l

  fault_by : (b : Bool) (u : ℕ) (peers : List ℕ) → ((v : ℕ) → g.linked u v ≡ among v peers) → Rises peers → pending ms u ≡ b
      → IsFaultOf u (cond b (Some Pending) (or_else (option_map InFlight (find (in_flight ms u) peers)) (option_map Mismatch (find (mismatch ms u) peers))))
  fault_by true u peers is r e = (shows_pending u e, λ other l f. first_pending other l)
  fault_by false u peers is r e =
      flight u peers is e (find (in_flight ms u) peers) (least (in_flight ms u) peers r) (find (mismatch ms u) peers) (least (mismatch ms u) peers r)

  pub fault_is : (m : Member) → ((v : ℕ) → g.linked m.router v ≡ among v m.peers) → Rises m.peers → IsFaultOf m.router (fault_at ms m)
  fault_is m is r = fault_by (pending ms m.router) m.router m.peers is r refl

  -- ---- the first of all routers' faults

  abbrev pub IsFirstOf : List Member → Option (ℕ × Why) → Type 0
  IsFirstOf members o =
      MatchOption o ((w : ℕ) → is_member members w ≡ true → (why : Why) → Shows g s ms w why → ⊥)
      (λ f. (is_member members f.0 ≡ true) × IsFaultOf f.0 (Some f.1)
      × ((w : ℕ) → w < f.0 → is_member members w ≡ true → (why : Why) → Shows g s ms w why → ⊥))

  same_shows : (w u : ℕ) (why : Why) → w ≡ u → Shows g s ms w why → Shows g s ms u why
  same_shows w u why e f = subst (λ n. Shows g s ms n why) e f

  above_members : (u w : ℕ) (members : List Member) → IsAbove u (map (λ m. m.router) members) → is_member members w ≡ true → u < w
  above_members u w [] a i = absurd (false≢true i)
  above_members u w (m ∷ rest) a i = member_above (w == m.router) u w m.router rest refl a.0 i (above_members u w rest a.1)
    where
      member_above : (b : Bool) (u w v : ℕ) (rest : List Member) → (w == v) ≡ b → u < v → (b || is_member rest w) ≡ true → (is_member rest w ≡ true → u < w) → u < w
      member_above true u w v rest e a h next = subst (λ n. u < n) (sym (eqb-true w v e)) a
      member_above false u w v rest e a h next = next h

  each_member : (b : Bool) (w : ℕ) (m : Member) (rest : List Member) → (w == m.router) ≡ b → ((why : Why) → Shows g s ms m.router why → ⊥)
      → (b || is_member rest w) ≡ true → (is_member rest w ≡ true → (why : Why) → Shows g s ms w why → ⊥) → (why : Why) → Shows g s ms w why → ⊥
  each_member true w m rest e nay h next why f = nay why (same_shows w m.router why (eqb-true w m.router e) f)
  each_member false w m rest e nay h next why f = next h why f

  first_rest : (m : Member) (rest : List Member) (o : Option (ℕ × Why)) → ((why : Why) → Shows g s ms m.router why → ⊥) → IsFirstOf rest o → IsFirstOf (m ∷ rest) o
  first_rest m rest None nay h = λ w i. each_member (w == m.router) w m rest refl nay i (h w)
  first_rest m rest (Some f) nay h = (or_later (f.0 == m.router) (is_member rest f.0) h.0, h.1, λ w l i. each_member (w == m.router) w m rest refl nay i (h.2 w l))

  none_below : (b : Bool) (w : ℕ) (m : Member) (rest : List Member) → (w == m.router) ≡ b → w < m.router → IsAbove m.router (map (λ n. n.router) rest)
      → (b || is_member rest w) ≡ true → ⊥
  none_below true w m rest e l a i = let same = eqb-true w m.router e in omega (arith, same, l)
  none_below false w m rest e l a i = let more = above_members m.router w rest a i in omega (arith, more, l)

  first_at : (m : Member) (rest : List Member) (o : Option Why) → IsFaultOf m.router o → IsAbove m.router (map (λ n. n.router) rest)
      → (n : Option (ℕ × Why)) → IsFirstOf rest n → IsFirstOf (m ∷ rest) (moving_at m.router o n)
  first_at m rest None nay a n h = first_rest m rest n nay h
  first_at m rest (Some why) is a n h =
      (rw (eq-eqb m.router m.router refl) refl, is, λ w l i other f. none_below (w == m.router) w m rest refl l a i)

  pub first_is : (members : List Member) → Rises (map (λ m. m.router) members) → HasLinks g members → IsFirstOf members (first_fault members ms)
  first_is [] r l = λ w i why f. false≢true i
  first_is (m ∷ rest) r l = first_at m rest (fault_at ms m) (fault_is m l.0 l.1) r.0 (first_fault rest ms) (first_is rest r.1 l.2)
