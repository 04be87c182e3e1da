-- Whether anything is left to decide or to tell, by the tables and by the definitions.
use Rattle.std.proofs.Common.{◌≡◌, ℕ, zero, suc, ◌<◌, Bool, true, false, not, cond, ◌||◌, List, [], ◌∷◌, length, map, filter, refl, sym, ap, subst, ◌∙◌, arith, inl, inr, get_or}
use Rattle.std.specs.Prelude.{nat_eq}
use Rattle.std.specs.List.{list_any}
use Rattle.std.proofs.lemmas.Bool.{or_left, or_right, or_from, false_from_ne_true}
use Rattle.std.proofs.lemmas.Bool.Decides.{nat_tests}
use Rattle.prefix_lanes.specs.Bits.{PrefixView}
use Rattle.ranked_policy.specs.declared.network.Origin.{Origin}
use Rattle.ranked_policy.specs.Plans.{Plan, IsNamed, numbers}
use Rattle.rib_tables.specs.Least.{HoldsOfAll}
use Rattle.rib_tables.specs.Owners.{IsSettled, IsServed, HasWaitingPeer, AllServed, IsPending}
use Rattle.rib_tables.specs.Promises.{BestOverWords}
use Rattle.stable_paths.specs.Promises.{OneBest}
use Rattle.router_model.specs.Settings.{Setting, linked, peers, prefixes}
use Rattle.router_model.specs.Laws.{LinkedRoutersArePeers}
use Rattle.router_model.specs.Sides.{is_up}
use Rattle.router_model.specs.State.{Router, is_undecided, is_unadvertised, is_waiting_peer, is_pending}
use Rattle.router_core.specs.Views.{RouterView, sides_of, plain_of}
use Rattle.router_core.proofs.Leasts.{named_here, named_further}
use Rattle.router_core.proofs.Awaiting.{served_decides, down_served, link_is}
use Rattle.router_core.proofs.Choosing.{Chooses, settled_decides}

-- ---- lists

any_named : (p : PrefixView → Bool) (os : List Origin) (q : PrefixView) (k : ℕ) (x : Origin) → k < length os → get_or os k x ≡ x → x.prefix ≡ q → p q ≡ true → list_any p (map (λ o. o.prefix) os) ≡ true
any_named p [] q k x lt at is t = absurd (omega (arith, lt))
any_named p (o ∷ os) q zero x lt at is t =
    or_left (p o.prefix) (list_any p (map (λ (y : Origin). y.prefix) os)) (ap p (ap (λ (y : Origin). y.prefix) at ∙ is) ∙ t)
any_named p (o ∷ os) q (suc k) x lt at is t =
    or_right (p o.prefix) (list_any p (map (λ (y : Origin). y.prefix) os)) (any_named p os q k x (omega (arith, lt)) at is t)

none_named : (p : PrefixView → Bool) (os : List Origin) → ((q : PrefixView) → IsNamed os q → p q ≡ false) → list_any p (map (λ o. o.prefix) os) ≡ false
none_named p [] all = refl
none_named p (o ∷ os) all =
    or_from (p o.prefix) (list_any p (map (λ (y : Origin). y.prefix) os)) (all o.prefix (named_here o os)) (none_named p os (λ q n. all q (named_further o os q n)))

any_number : (p : ℕ → Bool) (xs : List ℕ) (v : ℕ) → list_any (nat_eq v) xs ≡ true → p v ≡ true → list_any p xs ≡ true
any_number p [] v h t = absurd cc
any_number p (x ∷ xs) v h t = at (nat_eq v x) refl h (λ k. any_number p xs v k t)
  where
    at : (b : Bool) → nat_eq v x ≡ b → (b || list_any (nat_eq v) xs) ≡ true → (list_any (nat_eq v) xs ≡ true → list_any p xs ≡ true) → (p x || list_any p xs) ≡ true
    at true e k rest = (let same : v ≡ x = grind (arith, nat_tests, e) in or_left (p x) (list_any p xs) (sym (ap p same) ∙ t))
    at false e k rest = or_right (p x) (list_any p xs) (rest k)

none_number : (p q : ℕ → Bool) (xs : List ℕ) → ((v : ℕ) → q v ≡ true → p v ≡ false) → list_any p (filter q xs) ≡ false
none_number p q [] all = refl
none_number p q (x ∷ xs) all = at (q x) refl (none_number p q xs all)
  where
    at : (b : Bool) → q x ≡ b → list_any p (filter q xs) ≡ false → list_any p (cond b (x ∷ filter q xs) (filter q xs)) ≡ false
    at true e rest = or_from (p x) (list_any p (filter q xs)) (all x e) rest
    at false e rest = rest

not_same : (b : Bool) → (b ≡ true → ⊥) → not b ≡ true
not_same b never = rw (false_from_ne_true b never) refl

same_not : (b : Bool) → b ≡ true → not b ≡ false
same_not b t = rw t refl

-- ---- the router

module _ (over : BestOverWords) (one : OneBest) (law : LinkedRoutersArePeers) (g : Setting) (x : RouterView) (c : Chooses g x) where
  abbrev r : Router
  r = (plain_of x).router

  in_prefixes : (p : PrefixView → Bool) (b : Bool) → list_any p (map (λ o. o.prefix) x.net.origins) ≡ b → list_any p (prefixes g) ≡ b
  in_prefixes p b h = ap (λ (net : Plan). list_any p (map (λ o. o.prefix) net.origins)) c.net ∙ h

  in_peers : (p : ℕ → Bool) (b : Bool) → list_any p (peers x.net x.number) ≡ b → list_any p (peers g.net x.number) ≡ b
  in_peers p b h = ap (λ (net : Plan). list_any p (peers net x.number)) c.net ∙ h

  named : (q : PrefixView) → IsNamed x.tables.net.origins q → IsNamed x.net.origins q
  named q n = subst (λ (net : Plan). IsNamed net.origins q) c.sound.tabled.net n

  named_back : (q : PrefixView) → IsNamed x.net.origins q → IsNamed x.tables.net.origins q
  named_back q n = subst (λ (net : Plan). IsNamed net.origins q) (sym c.sound.tabled.net) n

  some_undecided : (q : PrefixView) → IsNamed x.net.origins q → (IsSettled x.tables q → ⊥) → list_any (is_undecided g x.number r) (prefixes g) ≡ true
  some_undecided q n fails =
      let d = settled_decides over one g x c q n in
      in_prefixes (is_undecided g x.number r) true (any_named (is_undecided g x.number r) x.net.origins q n.0 n.1 n.2 n.3 n.4 (not_same _ (λ t. fails (d.0 t))))

  waits_by : (v : ℕ) → linked x.net x.number v ≡ true → (q : PrefixView) → IsNamed x.net.origins q → (IsServed x.tables v q → ⊥) → (b : Bool) → is_up (sides_of x v) ≡ b
      → is_waiting_peer g x.number r v ≡ true
  waits_by v l q n fails true up =
      let d = served_decides g x c.sound c.net v l up q n in
      rw up (in_prefixes (is_unadvertised g x.number r v) true (any_named (is_unadvertised g x.number r v) x.net.origins q n.0 n.1 n.2 n.3 n.4 (not_same _ (λ t. fails (d.0 t)))))
  waits_by v l q n fails false down = absurd (fails (down_served g x c.sound c.net v l down q))

  some_waits : (v : ℕ) → linked x.net x.number v ≡ true → (q : PrefixView) → IsNamed x.net.origins q → (IsServed x.tables v q → ⊥) → list_any (is_waiting_peer g x.number r) (peers g.net x.number) ≡ true
  some_waits v l q n fails =
      in_peers (is_waiting_peer g x.number r) true
      (any_number (is_waiting_peer g x.number r) (peers x.net x.number) v (let a = law x.net c.sound.network x.number v l in a.peer) (waits_by v l q n fails (is_up (sides_of x v)) refl))

  awaited_by : (a : HasWaitingPeer x.tables) → (b : Bool) → linked x.net x.number a.peer ≡ b → list_any (is_waiting_peer g x.number r) (peers g.net x.number) ≡ true
  awaited_by a true l = some_waits a.peer l a.prefix (named a.prefix a.is_named) a.waits
  awaited_by a false l = absurd (a.waits (λ k. absurd (let t = link_is g x c.sound c.net a.peer (c.linked a.peer k) in let both = sym l ∙ t in cc)))

  pending : IsPending x.tables → is_pending g x.number r ≡ true
  pending (inl h) = or_left (list_any (is_undecided g x.number r) (prefixes g)) (list_any (is_waiting_peer g x.number r) (peers g.net x.number)) (some_undecided h.0 (named h.0 h.1) h.2)
  pending (inr a) = or_right (list_any (is_undecided g x.number r) (prefixes g)) (list_any (is_waiting_peer g x.number r) (peers g.net x.number)) (awaited_by a (linked x.net x.number a.peer) refl)

  served_by : AllServed x.tables → (v : ℕ) → linked x.net x.number v ≡ true → (b : Bool) → is_up (sides_of x v) ≡ b → is_waiting_peer g x.number r v ≡ false
  served_by all v l true up =
      rw up (in_prefixes (is_unadvertised g x.number r v) false
      (none_named (is_unadvertised g x.number r v) x.net.origins (λ q n. let d = served_decides g x c.sound c.net v l up q n in same_not _ (d.1 (all v q (named_back q n))))))
  served_by all v l false down = rw down refl

  quiet : HoldsOfAll x.tables.net.origins (IsSettled x.tables) → AllServed x.tables → is_pending g x.number r ≡ false
  quiet settled served =
      or_from (list_any (is_undecided g x.number r) (prefixes g)) (list_any (is_waiting_peer g x.number r) (peers g.net x.number))
      (in_prefixes (is_undecided g x.number r) false
      (none_named (is_undecided g x.number r) x.net.origins (λ q n. let d = settled_decides over one g x c q n in same_not _ (d.1 (settled q (named_back q n))))))
      (in_peers (is_waiting_peer g x.number r) false
      (none_number (is_waiting_peer g x.number r) (linked x.net x.number) (numbers x.net.routers) (λ v l. served_by served v l (is_up (sides_of x v)) refl)))

  -- whether anything is left, as the tables tell it
  pub pending_is : (b : Bool) → (b ≡ true → IsPending x.tables) → (b ≡ false → HoldsOfAll x.tables.net.origins (IsSettled x.tables) × AllServed x.tables) → b ≡ is_pending g x.number r
  pending_is true some none = sym (pending (some refl))
  pending_is false some none = sym (let h = none refl in quiet h.0 h.1)
