-- The links of a part as a function of peers: where a peer's link stands, and what a change of it makes of the others.
use Rattle.std.proofs.Common.{◌≡◌, ◌≢◌, ℕ, zero, suc, ◌+◌, ◌<◌, ◌≤◌, ◌==◌, Bool, true, false, ◌||◌, cond, not, List, [], ◌∷◌, length, Option, None, Some, refl, ap, sym, ◌∙◌, arith, subst, get_or, set}
use Rattle.std.specs.Prelude.{nat_lt, MatchOption}
use Rattle.std.proofs.Math.Path.{fun_ext}
use Rattle.std.specs.List.{position, position_or_len}
use Rattle.std.proofs.lemmas.Bool.{false≢true, eqb-true, eqb-false, eq-eqb, ne_eqb}
use Rattle.std.proofs.lemmas.Bool.Decides.{nat_tests}
use Rattle.snap_marker.specs.declared.part.Channel.{Channel}
use Rattle.snap_marker.specs.Parts.{leads, leads_to, link_has, with_link, is_heard_in, waits_for_marker, peers_of, IsAt}

at_head : (b : Bool) (c : Channel) (cs : List Channel) (v k : ℕ) → (v == c.peer) ≡ b → (k < length cs → IsAt cs v k)
    → cond (not b) (1 + k) 0 < length (c ∷ cs) → IsAt (c ∷ cs) v (cond (not b) (1 + k) 0)
at_head true c cs v k e rest h = eqb-true v c.peer e
at_head false c cs v k e rest h =
    let one : suc k ≡ 1 + k = omega arith in
    subst (λ n. IsAt (c ∷ cs) v n) one (eqb-false v c.peer e, rest (omega arith))

at_first : (cs : List Channel) (v : ℕ) → position_or_len (leads v) cs < length cs → IsAt cs v (position_or_len (leads v) cs)
at_first [] v h = absurd (omega arith)
at_first (c ∷ cs) v h = at_head (v == c.peer) c cs v (position_or_len (leads v) cs) refl (at_first cs v) h

none_head : (b : Bool) (c : Channel) (cs : List Channel) (v k : ℕ) → (v == c.peer) ≡ b → (length cs ≤ k → leads_to v cs ≡ false)
    → length (c ∷ cs) ≤ cond (not b) (1 + k) 0 → leads_to v (c ∷ cs) ≡ false
none_head true c cs v k e rest h = absurd (omega arith)
none_head false c cs v k e rest h = rw e (rest (omega arith))

none_first : (cs : List Channel) (v : ℕ) → length cs ≤ position_or_len (leads v) cs → leads_to v cs ≡ false
none_first [] v h = refl
none_first (c ∷ cs) v h = none_head (v == c.peer) c cs v (position_or_len (leads v) cs) refl (none_first cs v) h

abbrev pub IsFound : List Channel → ℕ → ℕ → Type 0
IsFound cs v i = (i < length cs) × IsAt cs v i

seek_by : (b : Bool) (cs : List Channel) (v : ℕ) → nat_lt (position_or_len (leads v) cs) (length cs) ≡ b
    → MatchOption (cond b (Some (position_or_len (leads v) cs)) None) (leads_to v cs ≡ false) (IsFound cs v)
seek_by true cs v e =
    let below : position_or_len (leads v) cs < length cs = grind (arith, nat_tests, e) in
    (below, at_first cs v below)
seek_by false cs v e = none_first cs v (grind (arith, nat_tests, e))

-- a search finds the first link to a peer, or there is none
pub seek : (cs : List Channel) (v : ℕ) → MatchOption (position (leads v) cs) (leads_to v cs ≡ false) (IsFound cs v)
seek cs v = seek_by (nat_lt (position_or_len (leads v) cs) (length cs)) cs v refl

-- the link that stands at a peer's place is that to the peer
pub peer_here : (cs : List Channel) (v i : ℕ) (d : Channel) → IsAt cs v i → v ≡ (get_or cs i d).peer
peer_here [] v i d h = absurd h
peer_here (c ∷ cs) v zero d h = h
peer_here (c ∷ cs) v (suc i) d h = peer_here cs v i d h.1

pub is_below : (cs : List Channel) (v i : ℕ) → IsAt cs v i → i < length cs
is_below [] v i h = absurd h
is_below (c ∷ cs) v zero h = omega arith
is_below (c ∷ cs) v (suc i) h = let l = is_below cs v i h.1 in omega arith

module _ {A : Type 0} (none : A) (what : Channel → A) where
  -- what a peer's link has
  pub has_here : (cs : List Channel) (v i : ℕ) (d : Channel) → IsAt cs v i → link_has none what cs v ≡ what (get_or cs i d)
  has_here [] v i d h = absurd h
  has_here (c ∷ cs) v zero d h = rw (eq-eqb v c.peer h) refl
  has_here (c ∷ cs) v (suc i) d h = rw (ne_eqb v c.peer h.0) (has_here cs v i d h.1)

  set_here : (cs : List Channel) (v i : ℕ) (q : Channel) → IsAt cs v i → v ≡ q.peer → link_has none what (set cs i q) v ≡ what q
  set_here [] v i q h e = absurd h
  set_here (c ∷ cs) v zero q h e = rw (eq-eqb v q.peer e) refl
  set_here (c ∷ cs) v (suc i) q h e = rw (ne_eqb v c.peer h.0) (set_here cs v i q h.1 e)

  set_there : (cs : List Channel) (v i : ℕ) (q : Channel) (y : ℕ) → IsAt cs v i → v ≡ q.peer → y ≢ v → link_has none what (set cs i q) y ≡ link_has none what cs y
  set_there [] v i q y h e n = absurd h
  set_there (c ∷ cs) v zero q y h e n = rw (ne_eqb y q.peer (λ k. n (k ∙ sym e)), ne_eqb y c.peer (λ k. n (k ∙ sym h))) refl
  set_there (c ∷ cs) v (suc i) q y h e n = ap (λ (x : A). cond (y == c.peer) (what c) x) (set_there cs v i q y h.1 e n)

  set_at : (cs : List Channel) (v i : ℕ) (q : Channel) (x : A) → IsAt cs v i → v ≡ q.peer → what q ≡ x → (y : ℕ) (b : Bool) → (y == v) ≡ b
      → link_has none what (set cs i q) y ≡ cond b x (link_has none what cs y)
  set_at cs v i q x h e is y true t = ap (λ (n : ℕ). link_has none what (set cs i q) n) (eqb-true y v t) ∙ set_here cs v i q h e ∙ is
  set_at cs v i q x h e is y false t = set_there cs v i q y h e (eqb-false y v t)

  -- another link in a peer's place: to the peer there is what it has, to every other peer what there was
  pub link_set : (cs : List Channel) (v i : ℕ) (q : Channel) (x : A) → IsAt cs v i → v ≡ q.peer → what q ≡ x
      → link_has none what (set cs i q) ≡ (λ y. cond (y == v) x (link_has none what cs y))
  link_set cs v i q x h e is = fun_ext (λ y. set_at cs v i q x h e is y (y == v) refl)

  same_at : (cs : List Channel) (v i : ℕ) (q : Channel) (x : A) → IsAt cs v i → link_has none what cs v ≡ x → (y : ℕ) (b : Bool) → (y == v) ≡ b
      → cond b x (link_has none what cs y) ≡ link_has none what cs y
  same_at cs v i q x h is y true t = sym is ∙ ap (link_has none what cs) (sym (eqb-true y v t))
  same_at cs v i q x h is y false t = refl

  -- and where that is what it had, nothing changes
  pub link_same : (cs : List Channel) (v i : ℕ) (q d : Channel) → IsAt cs v i → v ≡ q.peer → what q ≡ what (get_or cs i d)
      → link_has none what (set cs i q) ≡ link_has none what cs
  link_same cs v i q d h e is =
      link_set cs v i q (what q) h e refl ∙ fun_ext (λ y. same_at cs v i q (what q) h (has_here cs v i d h ∙ sym is) y (y == v) refl)

pub peers_set : (cs : List Channel) (v i : ℕ) (q : Channel) → IsAt cs v i → v ≡ q.peer → peers_of (set cs i q) ≡ peers_of cs
peers_set [] v i q h e = absurd h
peers_set (c ∷ cs) v zero q h e = ap (λ (n : ℕ). n ∷ peers_of cs) (sym e ∙ h)
peers_set (c ∷ cs) v (suc i) q h e = ap (λ (ns : List ℕ). c.peer ∷ ns) (peers_set cs v i q h.1 e)

pub found_at : (cs : List Channel) (v : ℕ) (r : Option ℕ) → r ≡ position (leads v) cs → MatchOption r (leads_to v cs ≡ false) (IsFound cs v)
found_at cs v r is = rw is (seek cs v)

-- ---- the same in the terms of the code: p stood at the place of v, and q stands there now

named : (cs : List Channel) (v i : ℕ) (p q : Channel) → IsAt cs v i → p ≡ get_or cs i p → q.peer ≡ p.peer → v ≡ q.peer
named cs v i p q h here n = peer_here cs v i p h ∙ ap (λ (c : Channel). c.peer) (sym here) ∙ sym n

module _ {A : Type 0} (none : A) (what : Channel → A) where
  pub has_found : (cs : List Channel) (v i : ℕ) (p : Channel) → IsAt cs v i → p ≡ get_or cs i p → link_has none what cs v ≡ what p
  has_found cs v i p h here = has_here none what cs v i p h ∙ ap what (sym here)

  pub has_changed : (cs : List Channel) (v i : ℕ) (p q : Channel) → IsAt cs v i → p ≡ get_or cs i p → q.peer ≡ p.peer → link_has none what (set cs i q) v ≡ what q
  has_changed cs v i p q h here n = set_here none what cs v i q h (named cs v i p q h here n)

  pub link_changed : (cs : List Channel) (v i : ℕ) (p q : Channel) (x : A) → IsAt cs v i → p ≡ get_or cs i p → q.peer ≡ p.peer → what q ≡ x
      → link_has none what (set cs i q) ≡ with_link v x (link_has none what cs)
  link_changed cs v i p q x h here n is = link_set none what cs v i q x h (named cs v i p q h here n) is

  pub link_kept : (cs : List Channel) (v i : ℕ) (p q : Channel) → IsAt cs v i → p ≡ get_or cs i p → q.peer ≡ p.peer → what q ≡ what p
      → link_has none what (set cs i q) ≡ link_has none what cs
  link_kept cs v i p q h here n is = link_same none what cs v i q p h (named cs v i p q h here n) (is ∙ ap what here)

pub peers_kept : (cs : List Channel) (v i : ℕ) (p q : Channel) → IsAt cs v i → p ≡ get_or cs i p → q.peer ≡ p.peer → peers_of (set cs i q) ≡ peers_of cs
peers_kept cs v i p q h here n = peers_set cs v i q h (named cs v i p q h here n)

-- a channel that is heard is there, and waits for its marker
heard_head : (b : Bool) (c : Channel) (cs : List Channel) (v : ℕ) → (v == c.peer) ≡ b
    → (is_heard_in cs v ≡ true → (leads_to v cs ≡ true) × (waits_for_marker cs v ≡ true))
    → cond b c.is_open (is_heard_in cs v) ≡ true → ((b || leads_to v cs) ≡ true) × (cond b c.is_open (waits_for_marker cs v) ≡ true)
heard_head true c cs v e rest h = (refl, h)
heard_head false c cs v e rest h = rest h

pub heard_is : (cs : List Channel) (v : ℕ) → is_heard_in cs v ≡ true → (leads_to v cs ≡ true) × (waits_for_marker cs v ≡ true)
heard_is [] v h = absurd (false≢true h)
heard_is (c ∷ cs) v h = heard_head (v == c.peer) c cs v refl (heard_is cs v) h

-- one that is not heard does not wait, where it is there
unheard_head : (b : Bool) (c : Channel) (cs : List Channel) (v : ℕ) → (v == c.peer) ≡ b
    → (leads_to v cs ≡ true → is_heard_in cs v ≡ waits_for_marker cs v)
    → (b || leads_to v cs) ≡ true → cond b c.is_open (is_heard_in cs v) ≡ cond b c.is_open (waits_for_marker cs v)
unheard_head true c cs v e rest h = refl
unheard_head false c cs v e rest h = rest h

pub heard_as : (cs : List Channel) (v : ℕ) → leads_to v cs ≡ true → is_heard_in cs v ≡ waits_for_marker cs v
heard_as [] v h = absurd (false≢true h)
heard_as (c ∷ cs) v h = unheard_head (v == c.peer) c cs v refl (heard_as cs v) h
