-- What a network refuses of a link, as a text says it.
use Rattle.std.proofs.Common.{◌≡◌, ℕ, ◌==◌, ◌&&◌, ◌||◌, nat_le, Bool, true, false, cond, List, Ok, Err, get_or, refl, sym, ap, ◌∙◌, arith, inl, inr}
use Rattle.std.specs.List.{All, list_any, count_by}
use Rattle.std.proofs.lemmas.Bool.{cases_Bool, both_ways, and_parts, and_from, or_parts, or_from, eqb-true, eqb-false, eq-eqb, ne_eqb, leb-false, lt-leb, false_from_ne_true, true_from_ne_false}
use Rattle.std.proofs.lemmas.List.Folds.{list_any_none, list_any_at}
use Rattle.ranked_policy.specs.declared.network.NetRouter.{NetRouter}
use Rattle.ranked_policy.specs.declared.network.Link.{Link}
use Rattle.ranked_policy.specs.declared.refusal.NetError.{NetError}
use Rattle.ranked_policy.specs.declared.refusal.NetError.TheVariants as refusals
use Rattle.ranked_policy.specs.Plans.{Joins, touches}
use Rattle.ranked_policy.specs.Adding.{LinkMeets, IsRefused, with_link}
use Rattle.net_text.specs.declared.code.Code.TheVariants as codes
use Rattle.net_text.specs.declared.network_so_far.NetworkSoFar.{NetworkSoFar}
use Rattle.net_text.specs.Words.{is_router}
use Rattle.net_text.specs.Lines.{joins}
use Rattle.net_text.specs.Steps.{Refuses, link_told, link_code}
use Rattle.net_text.proofs.RouterLemmas.{listed}

-- ---- a test and what it means

joined : (u v : ℕ) (link : Link) → joins u v link ≡ true → Joins link u v
joined u v link t =
    let other : Bool = (link.one == v) && (link.other == u) in
    elim (cases_Bool ((link.one == u) && (link.other == v))) [
      | inl first ↦ let both = and_parts (link.one == u) (link.other == v) first in inl (eqb-true link.one u both.0, eqb-true link.other v both.1)
      | inr second ↦
          let both = and_parts (link.one == v) (link.other == u) (ap (λ (b : Bool). b || other) (sym second) ∙ t) in
          inr (eqb-true link.one v both.0, eqb-true link.other u both.1)
    ]

joins_is : (u v : ℕ) (link : Link) → Joins link u v → joins u v link ≡ true
joins_is u v link h =
    let one : Bool = (link.one == u) && (link.other == v) in
    let other : Bool = (link.one == v) && (link.other == u) in
    true_from_ne_false (joins u v link) (λ f.
    let b = or_parts one other f in
    elim h [
      | inl p ↦ both_ways one b.0 (and_from (link.one == u) (link.other == v) (eq-eqb link.one u p.0) (eq-eqb link.other v p.1))
      | inr p ↦ both_ways other b.1 (and_from (link.one == v) (link.other == u) (eq-eqb link.one v p.0) (eq-eqb link.other u p.1))
    ])

none_joins : (links : List Link) (u v : ℕ) → All (λ link. Joins link u v → ⊥) links → list_any (joins u v) links ≡ false
none_joins links u v all = list_any_none (joins u v) links (λ k d l. false_from_ne_true (joins u v (get_or links k d)) (λ t. all k d l (joined u v (get_or links k d) t)))

none_joined : (links : List Link) (u v : ℕ) → list_any (joins u v) links ≡ false → All (λ link. Joins link u v → ⊥) links
none_joined links u v e = λ k d l h. both_ways (list_any (joins u v) links) e (list_any_at (joins u v) links k d l (joins_is u v (get_or links k d) h))

-- ---- what is refused

fresh : (routers : List NetRouter) (links : List Link) (u v : ℕ) → LinkMeets routers links u v refusals.Repeated → ((u == v) || list_any (joins u v) links) ≡ false
fresh routers links u v met = or_from (u == v) (list_any (joins u v) links) (ne_eqb u v met.0) (none_joins links u v met.1)

stale : (routers : List NetRouter) (links : List Link) (u v : ℕ) → (LinkMeets routers links u v refusals.Repeated → ⊥) → ((u == v) || list_any (joins u v) links) ≡ true
stale routers links u v unmet =
    true_from_ne_false ((u == v) || list_any (joins u v) links) (λ f.
    let b = or_parts (u == v) (list_any (joins u v) links) f in
    unmet (eqb-false u v b.0, none_joined links u v b.1))

few : (routers : List NetRouter) (links : List Link) (u v : ℕ) → LinkMeets routers links u v refusals.Limit → (nat_le 16 (count_by (touches u) links) || nat_le 16 (count_by (touches v) links)) ≡ false
few routers links u v met =
    or_from (nat_le 16 (count_by (touches u) links)) (nat_le 16 (count_by (touches v) links)) (lt-leb 16 (count_by (touches u) links) met.0) (lt-leb 16 (count_by (touches v) links) met.1)

many : (routers : List NetRouter) (links : List Link) (u v : ℕ) → (LinkMeets routers links u v refusals.Limit → ⊥) → (nat_le 16 (count_by (touches u) links) || nat_le 16 (count_by (touches v) links)) ≡ true
many routers links u v unmet =
    true_from_ne_false (nat_le 16 (count_by (touches u) links) || nat_le 16 (count_by (touches v) links)) (λ f.
    let b = or_parts (nat_le 16 (count_by (touches u) links)) (nat_le 16 (count_by (touches v) links)) f in
    unmet (leb-false 16 (count_by (touches u) links) b.0, leb-false 16 (count_by (touches v) links) b.1))

by_tests : (b c : Bool) (d e : NetworkSoFar) (x y : Bool) → b ≡ x → c ≡ y → cond b (Err codes.Repeated) (cond c (Err codes.OutOfLimit) (Ok e)) ≡ cond x (Err codes.Repeated) (cond y (Err codes.OutOfLimit) (Ok e))
by_tests b c d e x y p q = rw (p, q) refl

-- a link that is not refused
pub told_new : (d : NetworkSoFar) (u v : ℕ) → LinkMeets d.net.routers d.net.links u v refusals.Repeated → LinkMeets d.net.routers d.net.links u v refusals.Limit
    → link_told d u v ≡ Ok (record d { net = with_link d.net u v })
told_new d u v one other = by_tests _ _ d (record d { net = with_link d.net u v }) false false (fresh d.net.routers d.net.links u v one) (few d.net.routers d.net.links u v other)

-- a link that is refused
pub told_refused : (d : NetworkSoFar) (u v : ℕ) (e : NetError) → is_router d.net.routers u ≡ true → is_router d.net.routers v ≡ true → IsRefused (LinkMeets d.net.routers d.net.links u v) e
    → Refuses (link_code e) (link_told d u v)
told_refused d u v refusals.Memory one other r = rw (told_new d u v (r.earlier refusals.Repeated (omega arith)) (r.earlier refusals.Limit (omega arith))) refl
told_refused d u v refusals.Repeated one other r = elim r.unmet [
  | inl same ↦ absurd (cc)
  | inr unmet ↦ by_tests _ _ d (record d { net = with_link d.net u v }) true _ (stale d.net.routers d.net.links u v unmet) refl
]
told_refused d u v refusals.Limit one other r = elim r.unmet [
  | inl same ↦ absurd (cc)
  | inr unmet ↦ by_tests _ _ d (record d { net = with_link d.net u v }) false true (fresh d.net.routers d.net.links u v (r.earlier refusals.Repeated (omega arith))) (many d.net.routers d.net.links u v unmet)
]
told_refused d u v refusals.UnknownRouter one other r = elim r.unmet [ inl same ↦ absurd (cc) | inr unmet ↦ absurd (unmet (listed d.net.routers u one, listed d.net.routers v other)) ]
told_refused d u v refusals.NotSimple one other r = elim r.unmet [ inl same ↦ absurd (cc) | inr unmet ↦ absurd (unmet tt) ]
told_refused d u v refusals.TooLong one other r = elim r.unmet [ inl same ↦ absurd (cc) | inr unmet ↦ absurd (unmet tt) ]
told_refused d u v refusals.BadNumber one other r = elim r.unmet [ inl same ↦ absurd (cc) | inr unmet ↦ absurd (unmet tt) ]
told_refused d u v refusals.NotConnected one other r = elim r.unmet [ inl same ↦ absurd (cc) | inr unmet ↦ absurd (unmet tt) ]
