-- Links and peers of a network.
use Rattle.std.proofs.Common.{◌≡◌, ◌≢◌, ℕ, ◌==◌, Bool, true, false, ◌&&◌, ◌||◌, cond, List, [], ◌∷◌, filter, refl, ap, sym, ◌∙◌, arith, subst}
use Rattle.std.specs.Prelude.{nat_eq}
use Rattle.std.specs.List.{list_any, Contains, AllByRecursion}
use Rattle.std.proofs.lemmas.Bool.Decides.{nat_tests}
use Rattle.std.proofs.lemmas.List.Elements.{recursion_from_All}
use Rattle.std.proofs.lemmas.Map.Views.{list_any-from_Contains, Contains-from_any}
use Rattle.std.proofs.lemmas.Cmp.{nat_eq_equiv}
use Rattle.ranked_policy.specs.Plans.{IsNetwork, IsRouter, numbers}
use Rattle.ranked_policy.specs.declared.network.Link.{Link}
use Rattle.router_model.specs.Settings.{Setting, linked, joins}
use Rattle.router_model.specs.Laws.{LinkedRoutersArePeers}

same_number : (a b : ℕ) → (a == b) ≡ true → a ≡ b
same_number a b h = grind (arith, nat_tests, h)

joins_other : (u v one other : ℕ) (all : List ℕ) (a b c d : Bool) → (one == u) ≡ a → (other == v) ≡ b → (one == v) ≡ c → (other == u) ≡ d
    → ((a && b) || (c && d)) ≡ true → Contains all one → Contains all other → Contains all v
joins_other u v one other all true true c d ea eb ec ed h k l = (let same : other ≡ v = grind (arith, nat_tests, eb) in subst (Contains all) same l)
joins_other u v one other all true false true d ea eb ec ed h k l = (let same : one ≡ v = grind (arith, nat_tests, ec) in subst (Contains all) same k)
joins_other u v one other all true false false d ea eb ec ed h k l = absurd cc
joins_other u v one other all false b true d ea eb ec ed h k l = (let same : one ≡ v = grind (arith, nat_tests, ec) in subst (Contains all) same k)
joins_other u v one other all false b false d ea eb ec ed h k l = absurd cc

either : (b c : Bool) → (b || c) ≡ true → b ≡ false → c ≡ true
either true c h e = absurd cc
either false c h e = h

known_at : (u v : ℕ) (all : List ℕ) (link : Link) (links : List Link) (b : Bool) → joins u v link ≡ b → (joins u v link || list_any (joins u v) links) ≡ true
    → Contains all link.one × Contains all link.other → (list_any (joins u v) links ≡ true → Contains all v) → Contains all v
known_at u v all link links true e h k f =
    joins_other u v link.one link.other all (link.one == u) (link.other == v) (link.one == v) (link.other == u) refl refl refl refl e k.0 k.1
known_at u v all link links false e h k f = f (either (joins u v link) (list_any (joins u v) links) h e)

known : (u v : ℕ) (all : List ℕ) (links : List Link) → AllByRecursion (λ link. Contains all link.one × Contains all link.other) links → list_any (joins u v) links ≡ true → Contains all v
known u v all [] k h = absurd cc
known u v all (link ∷ links) k h = known_at u v all link links (joins u v link) refl h k.0 (known u v all links k.1)

pub is_peer : (g : Setting) → IsNetwork g.net → (u v : ℕ) → linked g.net u v ≡ true → list_any (nat_eq v) (numbers g.net.routers) ≡ true
is_peer g net u v h =
    list_any-from_Contains nat_eq_equiv v (numbers g.net.routers) (known u v (numbers g.net.routers) g.net.links (recursion_from_All _ g.net.links net.plan.links.known) h)

stays_at : (q : ℕ → Bool) (w x : ℕ) (xs : List ℕ) (b c : Bool) → nat_eq w x ≡ b → q x ≡ c → q w ≡ true → (b || list_any (nat_eq w) xs) ≡ true
    → (list_any (nat_eq w) xs ≡ true → list_any (nat_eq w) (filter q xs) ≡ true) → list_any (nat_eq w) (cond c (x ∷ filter q xs) (filter q xs)) ≡ true
stays_at q w x xs true true eb ec qw m f = rw eb refl
stays_at q w x xs true false eb ec qw m f = (let same : w ≡ x = grind (arith, nat_tests, eb) in let k : q x ≡ true = subst (λ k. q k ≡ true) same qw in absurd cc)
stays_at q w x xs false true eb ec qw m f = rw eb (f m)
stays_at q w x xs false false eb ec qw m f = f m

-- a member that passes stays a member
pub stays : (q : ℕ → Bool) (w : ℕ) (xs : List ℕ) → q w ≡ true → list_any (nat_eq w) xs ≡ true → list_any (nat_eq w) (filter q xs) ≡ true
stays q w [] qw m = absurd cc
stays q w (x ∷ xs) qw m = stays_at q w x xs (nat_eq w x) (q x) refl refl qw m (stays q w xs qw)

or_turned : (p q : Bool) → (p || q) ≡ (q || p)
or_turned p q = grind arith

links_turned : (u v : ℕ) (ls : List Link) → list_any (joins u v) ls ≡ list_any (joins v u) ls
links_turned u v [] = refl
links_turned u v (l ∷ ls) =
    ap (λ c. c || list_any (joins u v) ls) (or_turned ((l.one == u) && (l.other == v)) ((l.one == v) && (l.other == u))) ∙ ap (λ c. joins v u l || c) (links_turned u v ls)

pub linked_both : (g : Setting) (u v : ℕ) → linked g.net u v ≡ true → linked g.net v u ≡ true
linked_both g u v h = sym (links_turned u v g.net.links) ∙ h

own_link : (u : ℕ) (ls : List Link) → AllByRecursion (λ l. l.one ≢ l.other) ls → list_any (joins u u) ls ≡ true → ⊥
own_link u [] all h = cc h
own_link u (l ∷ ls) all h = at (l.one == u) (l.other == u) refl refl h (λ k. own_link u ls all.1 k)
  where
    at : (p q : Bool) → (l.one == u) ≡ p → (l.other == u) ≡ q → ((((l.one == u) && (l.other == u)) || ((l.one == u) && (l.other == u))) || list_any (joins u u) ls) ≡ true → (list_any (joins u u) ls ≡ true → ⊥) → ⊥
    at true true hp hq h rest = all.0 (let a : l.one ≡ u = same_number l.one u hp in let b : l.other ≡ u = same_number l.other u hq in a ∙ sym b)
    at true false hp hq h rest = rest (rw (hp, hq) at h)
    at false q hp hq h rest = rest (rw hp at h)

pub linked_apart : (g : Setting) → IsNetwork g.net → (u v : ℕ) → linked g.net u v ≡ true → u ≢ v
linked_apart g net u v h = λ same. own_link u g.net.links (recursion_from_All (λ (l : Link). l.one ≢ l.other) g.net.links net.plan.links.apart) (subst (λ i. linked g.net u i ≡ true) (sym same) h)

pub linked_router : (g : Setting) → IsNetwork g.net → (u v : ℕ) → linked g.net u v ≡ true → IsRouter g.net.routers u
linked_router g net u v h = Contains-from_any {eq = nat_eq} (λ m n e. grind (arith, nat_tests, e)) u (numbers g.net.routers) (is_peer g net v u (linked_both g u v h))

pub linked_routers_are_peers : LinkedRoutersArePeers
linked_routers_are_peers net is u v h =
    let g : Setting = record { net = net; best = λ u q originated words. [] } in
    record {
      apart = linked_apart g is u v h;
      back = linked_both g u v h;
      one = linked_router g is u v h;
      other = linked_router g is v u (linked_both g u v h);
      peer = stays (linked net u) v (numbers net.routers) h (is_peer g is u v h);
    }
