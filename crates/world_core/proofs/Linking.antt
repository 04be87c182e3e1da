-- The pipe from a peer is found where a link joins the two.
use Rattle.std.proofs.Common.{◌≡◌, ℕ, zero, suc, ◌+◌, ◌<◌, ◌≤◌, ◌==◌, nat_eq, Bool, true, false, ◌&&◌, not, cond, List, [], ◌∷◌, length, map, filter, refl, ap, sym, ◌∙◌, arith, subst, ◌↔◌, inl, inr, Option, None, Some}
use Rattle.std.specs.Prelude.{nat_lt, MatchOption, ◌||◌, IsTrue}
use Rattle.std.specs.List.{position, position_or_len, list_any}
use Rattle.std.proofs.lemmas.Bool.{eqb-true, eqb-false, eq-eqb}
use Rattle.std.proofs.lemmas.Bool.Decides.{nat_tests}
use Rattle.std.proofs.lemmas.List.Folds.{Any-from_list_any, list_any-from_Any}
use Rattle.ranked_policy.specs.declared.network.Link.{Link}
use Rattle.ranked_policy.specs.Plans.{Plan, IsNetwork, Joins, Linked, numbers}
use Rattle.router_model.specs.Settings.{Setting, joins, linked, peers, is_router}
use Rattle.router_model.specs.Laws.{LinkedRoutersArePeers}
use Rattle.world_core.specs.declared.inbox.Pipe.{Pipe}
use Rattle.world_core.specs.declared.schedule.StepFault.TheVariants.{NoSuchRouter, NoSuchLink}
use Rattle.world_core.specs.World.{WorldAnswer, Stops, where_linked}
use Rattle.world_core.specs.Views.{is_from, IsAt}

at_head : (b : Bool) (p : Pipe) (ps : List Pipe) (v k : ℕ) → (p.peer == v) ≡ b → (k < length ps → IsAt (λ p. p.peer) ps v k)
    → cond (not b) (1 + k) 0 < length (p ∷ ps) → IsAt (λ p. p.peer) (p ∷ ps) v (cond (not b) (1 + k) 0)
at_head true p ps v k e rest h = eqb-true p.peer v e
at_head false p ps v k e rest h =
    let one : suc k ≡ 1 + k = omega arith in
    subst (λ n. IsAt (λ p. p.peer) (p ∷ ps) v n) one (eqb-false p.peer v e, rest (omega arith))

at_first : (ps : List Pipe) (v : ℕ) → position_or_len (is_from v) ps < length ps → IsAt (λ p. p.peer) ps v (position_or_len (is_from v) ps)
at_first [] v h = absurd (omega arith)
at_first (p ∷ ps) v h = at_head (p.peer == v) p ps v (position_or_len (is_from v) ps) refl (at_first ps v) h

turned : (a b : ℕ) → (a == b) ≡ nat_eq b a
turned a b = grind (arith, nat_tests)

none_head : (b : Bool) (p : Pipe) (ps : List Pipe) (v k : ℕ) → (p.peer == v) ≡ b → (length ps ≤ k → list_any (nat_eq v) (map (λ p. p.peer) ps) ≡ false)
    → length (p ∷ ps) ≤ cond (not b) (1 + k) 0 → list_any (nat_eq v) (map (λ p. p.peer) (p ∷ ps)) ≡ false
none_head true p ps v k e rest h = absurd (omega arith)
none_head false p ps v k e rest h = rw (sym (turned p.peer v), e) (rest (omega arith))

none_first : (ps : List Pipe) (v : ℕ) → length ps ≤ position_or_len (is_from v) ps → list_any (nat_eq v) (map (λ p. p.peer) ps) ≡ false
none_first [] v h = refl
none_first (p ∷ ps) v h = none_head (p.peer == v) p ps v (position_or_len (is_from v) ps) refl (none_first ps v) h

seek_by : (b : Bool) (ps : List Pipe) (v : ℕ) → nat_lt (position_or_len (is_from v) ps) (length ps) ≡ b
    → MatchOption (cond b (Some (position_or_len (is_from v) ps)) None) (list_any (nat_eq v) (map (λ p. p.peer) ps) ≡ false) (IsAt (λ p. p.peer) ps v)
seek_by true ps v e = at_first ps v (grind (arith, nat_tests, e))
seek_by false ps v e = none_first ps v (grind (arith, nat_tests, e))

pub seek : (ps : List Pipe) (v : ℕ) (r : Option ℕ) → r ≡ position (is_from v) ps → MatchOption r (list_any (nat_eq v) (map (λ p. p.peer) ps) ≡ false) (IsAt (λ p. p.peer) ps v)
seek ps v r is = rw is (seek_by (nat_lt (position_or_len (is_from v) ps) (length ps)) ps v refl)

-- ---- what is there, and what is linked

or_true : (b : Bool) → (b || true) ≡ true
or_true true = refl
or_true false = refl

there : (ps : List Pipe) (v k : ℕ) → IsAt (λ p. p.peer) ps v k → list_any (nat_eq v) (map (λ p. p.peer) ps) ≡ true
there [] v k h = absurd h
there (p ∷ ps) v zero h = rw (sym (turned p.peer v), eq-eqb p.peer v h) refl
there (p ∷ ps) v (suc k) h = rw (there ps v k h.1) (or_true (nat_eq v p.peer))

passes_at : (p : ℕ → Bool) (v x : ℕ) (xs : List ℕ) (b c : Bool) → nat_eq v x ≡ b → p x ≡ c → list_any (nat_eq v) (cond c (x ∷ filter p xs) (filter p xs)) ≡ true
    → (list_any (nat_eq v) (filter p xs) ≡ true → p v ≡ true) → p v ≡ true
passes_at p v x xs true true eb ec h f = (let same : x ≡ v = grind (arith, nat_tests, eb) in subst (λ n. p n ≡ true) same ec)
passes_at p v x xs false true eb ec h f = f (rw eb at h)
passes_at p v x xs b false eb ec h f = f h

pub passes : (p : ℕ → Bool) (v : ℕ) (xs : List ℕ) → list_any (nat_eq v) (filter p xs) ≡ true → p v ≡ true
passes p v [] h = absurd cc
passes p v (x ∷ xs) h = passes_at p v x xs (nat_eq v x) (p x) refl refl h (passes p v xs)

pub is_linked : (net : Plan) (u v k : ℕ) (ps : List Pipe) → map (λ p. p.peer) ps ≡ peers net u → IsAt (λ p. p.peer) ps v k → linked net u v ≡ true
is_linked net u v k ps all at = passes (linked net u) v (numbers net.routers) (sym (ap (list_any (nat_eq v)) all) ∙ there ps v k at)

unlinked_by : LinkedRoutersArePeers → (net : Plan) → IsNetwork net → (u v : ℕ) (b : Bool) → linked net u v ≡ b → list_any (nat_eq v) (peers net u) ≡ false → linked net u v ≡ false
unlinked_by law net n u v true e none = (let found = (law net n u v e).peer in absurd (let k : true ≡ false = sym found ∙ none in cc))
unlinked_by law net n u v false e none = e

pub unlinked : LinkedRoutersArePeers → (net : Plan) → IsNetwork net → (u v : ℕ) (ps : List Pipe) → map (λ p. p.peer) ps ≡ peers net u → list_any (nat_eq v) (map (λ p. p.peer) ps) ≡ false → linked net u v ≡ false
unlinked law net n u v ps all none = unlinked_by law net n u v (linked net u v) refl (sym (ap (list_any (nat_eq v)) all) ∙ none)

-- ---- where both are routers

pub passes_link : (g : Setting) (net : Plan) (u v : ℕ) (a : WorldAnswer) → g.net ≡ net → is_router g u ≡ true → is_router g v ≡ true → linked net u v ≡ true → where_linked g u v a ≡ a
passes_link g net u v a e p q l = rw (p, q, ap (λ (n : Plan). linked n u v) e ∙ l) refl

pub no_link : (g : Setting) (net : Plan) (u v : ℕ) (a : WorldAnswer) → g.net ≡ net → is_router g u ≡ true → is_router g v ≡ true → linked net u v ≡ false → where_linked g u v a ≡ Stops NoSuchLink
no_link g net u v a e p q l = rw (p, q, ap (λ (n : Plan). linked n u v) e ∙ l) refl

-- ---- a link is one of both

or_turned : (a b : Bool) → (a || b) ≡ (b || a)
or_turned a b = grind arith

and_turned : (a b : Bool) → (a && b) ≡ (b && a)
and_turned a b = grind arith

joins_back : (u v : ℕ) (links : List Link) → list_any (joins u v) links ≡ list_any (joins v u) links
joins_back u v [] = refl
joins_back u v (l ∷ ls) =
    ap (λ (b : Bool). b || list_any (joins u v) ls) (or_turned ((l.one == u) && (l.other == v)) ((l.one == v) && (l.other == u)))
    ∙ ap (λ (b : Bool). joins v u l || b) (joins_back u v ls)

pub link_turned : (g : Setting) (u v : ℕ) (a : WorldAnswer) → where_linked g u v a ≡ where_linked g v u a
link_turned g u v a =
    ap (λ (b : Bool). cond b (cond (linked g.net u v) a (Stops NoSuchLink)) (Stops NoSuchRouter)) (and_turned (is_router g u) (is_router g v))
    ∙ ap (λ (b : Bool). cond (is_router g v && is_router g u) (cond b a (Stops NoSuchLink)) (Stops NoSuchRouter)) (joins_back u v g.net.links)

-- ---- the relation and the test

joins_of : (link : Link) (u v : ℕ) (a b c d : Bool) → (link.one == u) ≡ a → (link.other == v) ≡ b → (link.one == v) ≡ c → (link.other == u) ≡ d
    → ((a && b) || (c && d)) ≡ true → Joins link u v
joins_of link u v true true c d ea eb ec ed h = inl (eqb-true link.one u ea, eqb-true link.other v eb)
joins_of link u v true false true true ea eb ec ed h = inr (eqb-true link.one v ec, eqb-true link.other u ed)
joins_of link u v true false true false ea eb ec ed h = absurd cc
joins_of link u v true false false d ea eb ec ed h = absurd cc
joins_of link u v false b true true ea eb ec ed h = inr (eqb-true link.one v ec, eqb-true link.other u ed)
joins_of link u v false b true false ea eb ec ed h = absurd cc
joins_of link u v false b false d ea eb ec ed h = absurd cc

is_joined : (link : Link) (u v : ℕ) → joins u v link ≡ true → Joins link u v
is_joined link u v h = joins_of link u v (link.one == u) (link.other == v) (link.one == v) (link.other == u) refl refl refl refl h

joins_is : (link : Link) (u v : ℕ) → Joins link u v → joins u v link ≡ true
joins_is link u v h =
    elim h [
      | inl k ↦ rw (eq-eqb link.one u k.0, eq-eqb link.other v k.1) refl
      | inr k ↦ rw (eq-eqb link.one v k.0, eq-eqb link.other u k.1) (or_true ((link.one == u) && (link.other == v)))
    ]

same_bool : (a b : Bool) → (a ≡ true → b ≡ true) → (b ≡ true → a ≡ true) → a ≡ b
same_bool true b f g = sym (f refl)
same_bool false true f g = g refl
same_bool false false f g = refl

pub decides_linked : (net : Plan) (u v : ℕ) → (linked net u v ≡ true → Linked net.links u v) × (Linked net.links u v → linked net u v ≡ true)
decides_linked net u v = (
  λ t. let found = Any-from_list_any (joins u v) net.links t in (found.0, found.1, found.2, found.3, is_joined found.1 u v found.4),
  λ found. list_any-from_Any (joins u v) net.links (found.0, found.1, found.2, found.3, joins_is found.1 u v found.4),
)

pub linked_is : (net : Plan) (u v : ℕ) (b : Bool) → (IsTrue b ↔ Linked net.links u v) → b ≡ linked net u v
linked_is net u v b h =
    same_bool b (linked net u v)
    (λ t. (decides_linked net u v).1 (h.0 t)) (λ t. h.1 ((decides_linked net u v).0 t))
