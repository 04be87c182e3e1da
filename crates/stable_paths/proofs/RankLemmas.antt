-- The best of a router's choices, as it is computed.
use Rattle.std.proofs.Common.{◌≡◌, ◌≢◌, ℕ, zero, suc, ◌==◌, Bool, true, false, cond, List, [], ◌∷◌, get_or, refl, sym, ap, subst, ◌∙◌, arith, inl, inr}
use Rattle.std.specs.Prelude.{◌↔◌}
use Rattle.std.specs.Bool.{Decides}
use Rattle.std.specs.List.{Any, Contains, list_any}
use Rattle.std.proofs.lemmas.Bool.Decides.{nat_tests}
use Rattle.std.proofs.lemmas.Bool.{false≢true}
use Rattle.std.proofs.lemmas.List.Folds.{Any-from_list_any, list_any-from_Any}
use Rattle.prefix_lanes.specs.Bits.{PrefixView}
use Rattle.ranked_policy.specs.declared.network.NetRouter.{NetRouter}
use Rattle.ranked_policy.specs.declared.network.Link.{Link}
use Rattle.ranked_policy.specs.Plans.{Plan, IsNetwork, IsRouter, IsOrigin, Linked, Joins, numbers}
use Rattle.ranked_policy.specs.Policies.{Table, IsTableOf, Originates, IsPermitted}
use Rattle.ranked_policy.specs.Tests.{originates, best_of, BestIsFirst, PermitsIsATest}
use Rattle.ranked_policy.specs.Choices.{HasPathOver, IsChoice, IsFirstOrNone}
use Rattle.stable_paths.specs.Stable.{IsBestOf, IsBest}
use Rattle.stable_paths.specs.ByRank.{rules_of, table_of, peers_over, with_choice, choices_of, best_by_rank, BestByRankIsBest, EachNetworkHasItsModel}
use Rattle.ranked_policy.proofs.OneTable.{table_stands}
use Rattle.ranked_policy.proofs.TestLemmas.{contains_cons, origin_test}
use Rattle.stable_paths.proofs.TableLemmas.{linked_is}

-- ---- the table of a router

rules_here : (routers : List NetRouter) (u : ℕ) → IsRouter routers u → Any (λ r. (r.asn ≡ u) × (r.rules ≡ rules_of routers u)) routers
rules_here [] u is = absurd (let l = is.1 in omega (arith, l))
rules_here (r ∷ rs) u is = at (r.asn == u) refl (λ miss. rules_here rs u (later is miss))
  where
    later : IsRouter (r ∷ rs) u → (r.asn ≢ u) → IsRouter rs u
    later (zero, l, e) miss = absurd (miss e)
    later (suc k, l, e) miss = (k, omega (arith, l), e)

    at : (b : Bool) → (r.asn == u) ≡ b → ((r.asn ≢ u) → Any (λ x. (x.asn ≡ u) × (x.rules ≡ rules_of rs u)) rs) → Any (λ x. (x.asn ≡ u) × (x.rules ≡ cond (r.asn == u) r.rules (rules_of rs u))) (r ∷ rs)
    at true e rest =
        let same : r.asn ≡ u = grind (arith, nat_tests, e) in
        (0, r, omega arith, refl, (same, ap (λ c. cond c r.rules (rules_of rs u)) (sym e)))
    at false e rest =
        let a = rest (λ same. (let hit : (r.asn == u) ≡ true = grind (arith, nat_tests, same) in false≢true (sym e ∙ hit))) in
        (suc a.0, a.1, omega (arith, a.2), a.3, (a.4.0, a.4.1 ∙ ap (λ c. cond c r.rules (rules_of rs u)) (sym e)))

pub table_is : (net : Plan) (u : ℕ) → IsRouter net.routers u → IsTableOf net u (table_of net u)
table_is net u is = (refl, refl, rules_here net.routers u is)

-- ---- peers

any_cons : (P : Link → Type 0) (l : Link) (ls : List Link) → Any P ls → Any P (l ∷ ls)
any_cons P l ls a = (suc a.0, a.1, omega (arith, a.2), a.3, a.4)

any_here : (P : Link → Type 0) (l : Link) (ls : List Link) → P l → Any P (l ∷ ls)
any_here P l ls p = (0, l, omega arith, refl, p)

uncons : {A : Type 0} (P : Link → Type 0) (l : Link) (ls : List Link) → Any P (l ∷ ls) → (P l → A) → (Any P ls → A) → A
uncons P l ls (zero, x, lt, e, p) one rest = one (subst P (sym e) p)
uncons P l ls (suc k, x, lt, e, p) one rest = rest (k, x, omega (arith, lt), e, p)

contains_here : {X : Type 0} (x : X) (xs : List X) (y : X) → x ≡ y → Contains (x ∷ xs) y
contains_here x xs y e = (0, omega arith, e)

split : {X A : Type 0} (x : X) (xs : List X) (y : X) → Contains (x ∷ xs) y → (x ≡ y → A) → (Contains xs y → A) → A
split x xs y (zero, l, e) one rest = one e
split x xs y (suc k, l, e) one rest = rest (k, omega (arith, l), e)

-- a router stands among the peers exactly where a link joins the two; no link joins a router to itself
peer_linked : (links : List Link) (u v : ℕ) → Contains (peers_over links u) v → Linked links u v
peer_linked [] u v c = absurd (let l = c.1 in omega (arith, l))
peer_linked (l ∷ ls) u v c = at (l.one == u) refl (l.other == u) refl c (λ k. peer_linked ls u v k)
  where
    at : (b : Bool) → (l.one == u) ≡ b → (d : Bool) → (l.other == u) ≡ d
        → Contains (cond (l.one == u) (l.other ∷ peers_over ls u) (cond (l.other == u) (l.one ∷ peers_over ls u) (peers_over ls u))) v
        → (Contains (peers_over ls u) v → Linked ls u v) → Linked (l ∷ ls) u v
    at true e d f c on =
        let here : l.one ≡ u = grind (arith, nat_tests, e) in
        split l.other (peers_over ls u) v (subst (λ x. Contains (cond x (l.other ∷ peers_over ls u) (cond (l.other == u) (l.one ∷ peers_over ls u) (peers_over ls u))) v) e c)
        (λ same. any_here (λ k. Joins k u v) l ls (inl (here, same))) (λ k. any_cons (λ k. Joins k u v) l ls (on k))
    at false e true f c on =
        let here : l.other ≡ u = grind (arith, nat_tests, f) in
        split l.one (peers_over ls u) v
        (subst (λ x. Contains (cond x (l.one ∷ peers_over ls u) (peers_over ls u)) v) f (subst (λ x. Contains (cond x (l.other ∷ peers_over ls u) (cond (l.other == u) (l.one ∷ peers_over ls u) (peers_over ls u))) v) e c))
        (λ same. any_here (λ k. Joins k u v) l ls (inr (same, here))) (λ k. any_cons (λ k. Joins k u v) l ls (on k))
    at false e false f c on =
        any_cons (λ k. Joins k u v) l ls
        (on (subst (λ x. Contains (cond x (l.one ∷ peers_over ls u) (peers_over ls u)) v) f (subst (λ x. Contains (cond x (l.other ∷ peers_over ls u) (cond (l.other == u) (l.one ∷ peers_over ls u) (peers_over ls u))) v) e c)))

linked_peer : (links : List Link) (u v : ℕ) → Linked links u v → u ≢ v → Contains (peers_over links u) v
linked_peer [] u v a apart = absurd (let l = a.2 in omega (arith, l))
linked_peer (l ∷ ls) u v a apart = at (l.one == u) refl (l.other == u) refl (λ k. linked_peer ls u v k apart)
  where
    at : (b : Bool) → (l.one == u) ≡ b → (d : Bool) → (l.other == u) ≡ d → (Linked ls u v → Contains (peers_over ls u) v)
        → Contains (cond (l.one == u) (l.other ∷ peers_over ls u) (cond (l.other == u) (l.one ∷ peers_over ls u) (peers_over ls u))) v
    at true e d f on =
        let here : l.one ≡ u = grind (arith, nat_tests, e) in
        subst (λ x. Contains (cond x (l.other ∷ peers_over ls u) (cond (l.other == u) (l.one ∷ peers_over ls u) (peers_over ls u))) v) (sym e)
        (uncons (λ k. Joins k u v) l ls a
        (λ j. elim j [ inl x ↦ contains_here l.other (peers_over ls u) v x.1 | inr x ↦ absurd (apart (sym here ∙ x.0)) ])
        (λ k. contains_cons l.other (peers_over ls u) v (on k)))
    at false e true f on =
        let miss : l.one ≢ u = (λ same. (let hit : (l.one == u) ≡ true = grind (arith, nat_tests, same) in false≢true (sym e ∙ hit))) in
        subst (λ x. Contains (cond x (l.other ∷ peers_over ls u) (cond (l.other == u) (l.one ∷ peers_over ls u) (peers_over ls u))) v) (sym e)
        (subst (λ x. Contains (cond x (l.one ∷ peers_over ls u) (peers_over ls u)) v) (sym f)
        (uncons (λ k. Joins k u v) l ls a
        (λ j. elim j [ inl x ↦ absurd (miss x.0) | inr x ↦ contains_here l.one (peers_over ls u) v x.0 ])
        (λ k. contains_cons l.one (peers_over ls u) v (on k))))
    at false e false f on =
        let miss : l.one ≢ u = (λ same. (let hit : (l.one == u) ≡ true = grind (arith, nat_tests, same) in false≢true (sym e ∙ hit))) in
        let also : l.other ≢ u = (λ same. (let hit : (l.other == u) ≡ true = grind (arith, nat_tests, same) in false≢true (sym f ∙ hit))) in
        subst (λ x. Contains (cond x (l.other ∷ peers_over ls u) (cond (l.other == u) (l.one ∷ peers_over ls u) (peers_over ls u))) v) (sym e)
        (subst (λ x. Contains (cond x (l.one ∷ peers_over ls u) (peers_over ls u)) v) (sym f)
        (uncons (λ k. Joins k u v) l ls a (λ j. elim j [ inl x ↦ absurd (miss x.0) | inr x ↦ absurd (also x.1) ]) on))

linked_apart : (net : Plan) → IsNetwork net → (u v : ℕ) → Linked net.links u v → u ≢ v
linked_apart net is u v a same =
    let apart = is.plan.links.apart a.0 a.1 a.2 in
    apart (elim (subst (λ l. Joins l u v) (sym a.3) a.4) [ inl x ↦ x.0 ∙ (same ∙ sym x.1) | inr x ↦ x.0 ∙ (sym same ∙ sym x.1) ])

-- ---- choices

-- a choice of the list is the router and then the path of a peer that has one
choice_from : (u : ℕ) (vs : List ℕ) (words : ℕ → List ℕ) (path : List ℕ) → Contains (choices_of u vs words) path → (v : ℕ) × Contains vs v × (words v ≢ []) × (path ≡ u ∷ words v)
choice_from u [] words path c = absurd (let l = c.1 in omega (arith, l))
choice_from u (v ∷ vs) words path c = at (words v) refl c (λ k. choice_from u vs words path k)
  where
    on : ((w : ℕ) × Contains vs w × (words w ≢ []) × (path ≡ u ∷ words w)) → (w : ℕ) × Contains (v ∷ vs) w × (words w ≢ []) × (path ≡ u ∷ words w)
    on k = (k.0, contains_cons v vs k.0 k.1, k.2, k.3)

    at : (word : List ℕ) → words v ≡ word → Contains (with_choice u word (choices_of u vs words)) path
        → (Contains (choices_of u vs words) path → (w : ℕ) × Contains vs w × (words w ≢ []) × (path ≡ u ∷ words w))
        → (w : ℕ) × Contains (v ∷ vs) w × (words w ≢ []) × (path ≡ u ∷ words w)
    at [] e c rest = on (rest c)
    at (x ∷ xs) e c rest =
        split (u ∷ x ∷ xs) (choices_of u vs words) path c
        (λ same. (v, contains_here v vs v refl, λ none. (let z : x ∷ xs ≡ [] = sym e ∙ none in cc z), sym same ∙ ap (λ w. u ∷ w) (sym e)))
        (λ k. on (rest k))

choice_to : (u : ℕ) (vs : List ℕ) (words : ℕ → List ℕ) (v : ℕ) → Contains vs v → words v ≢ [] → Contains (choices_of u vs words) (u ∷ words v)
choice_to u [] words v c some = absurd (let l = c.1 in omega (arith, l))
choice_to u (w ∷ vs) words v c some = at (words w) refl (λ k. choice_to u vs words v k some)
  where
    at : (word : List ℕ) → words w ≡ word → (Contains vs v → Contains (choices_of u vs words) (u ∷ words v)) → Contains (with_choice u word (choices_of u vs words)) (u ∷ words v)
    at [] e rest = split w vs v c (λ same. absurd (some (ap words (sym same) ∙ e))) rest
    at (x ∷ xs) e rest =
        split w vs v c
        (λ same. contains_here (u ∷ x ∷ xs) (choices_of u vs words) (u ∷ words v) (ap (λ l. u ∷ l) (sym e ∙ ap words same)))
        (λ k. contains_cons (u ∷ x ∷ xs) (choices_of u vs words) (u ∷ words v) (rest k))

module _ (permits : PermitsIsATest) (law : BestIsFirst) where
  -- the first of the choices in the list is the first of the choices over the links
  first_over : (net : Plan) → IsNetwork net → (u : ℕ) → IsRouter net.routers u → (q : PrefixView) (words : ℕ → List ℕ)
      → IsFirstOrNone (HasPathOver net.links words u) (table_of net u) q (best_of (table_of net u) q (choices_of u (peers_over net.links u) words))
  first_over net is u router q words =
      let t : Table = table_of net u in
      let choices : List (List ℕ) = choices_of u (peers_over net.links u) words in
      let Hears : ℕ → List ℕ → Type 0 = HasPathOver net.links words u in
      let listed : (path : List ℕ) → IsChoice Hears t q path → Contains choices path = λ path c.
      subst (Contains choices) (sym (c.goes_on ∙ ap (λ (r : List ℕ). u ∷ r) c.heard.1))
      (choice_to u (peers_over net.links u) words c.peer (linked_peer net.links u c.peer c.heard.0 (linked_apart net is u c.peer c.heard.0)) (λ none. c.some (c.heard.1 ∙ none))) in
      let chosen : (path : List ℕ) → Contains choices path → IsPermitted t q path → IsChoice Hears t q path = λ path c may.
      (let k = choice_from u (peers_over net.links u) words path c in
      record { peer = k.0; rest = words k.0; heard = (peer_linked net.links u k.0 k.1, refl); some = k.2; goes_on = k.3; permitted = may }) in
      elim (law t (table_stands net u t is (table_is net u router)) q choices) [
        | inl first ↦ inl (record {
          choice = chosen (best_of t q choices) first.listed first.permitted;
          before = λ other c apart. first.before other (listed other c) c.permitted apart;
        })
        | inr none ↦ inr (none.0, λ other c. none.1 other (listed other c) c.permitted)
      ]

  pub best_by_rank_is_best : BestByRankIsBest
  best_by_rank_is_best net is u router q originated words = (
    table_of net u,
    table_is net u router,
    at (originates (table_of net u) q u) (origin_test (table_of net u) q u),
  )
    where
      at : (b : Bool) → Decides b (Originates (table_of net u) q u)
          → IsBestOf (record { net = net; prefix = q; originated = originated }) words (table_of net u)
          (cond b (cond originated (u ∷ []) []) (best_of (table_of net u) q (choices_of u (peers_over net.links u) words)))
      at true d = inl (d.0 refl, refl)
      at false d = inr ((λ o. false≢true (d.1 o)), first_over net is u router q words)

  -- ---- the model's network

  in_list : (xs : List ℕ) (u : ℕ) → (list_any (λ v. v == u) xs ≡ true) ↔ Contains xs u
  in_list xs u = (
    λ h. (let a = Any-from_list_any (λ v. v == u) xs h in let b = a.4 in let same : a.1 ≡ u = grind (arith, nat_tests, b) in (a.0, a.2, subst (λ z. get_or xs a.0 z ≡ z) same a.3)),
    λ c. list_any-from_Any (λ v. v == u) xs (c.0, u, c.1, c.2, grind (arith, nat_tests)),
  )

  pub each_network_has_its_model : {M : Type 0} → EachNetworkHasItsModel M
  each_network_has_its_model is_update mentions p is =
      let net : Plan = p.net in
      let linked : (u v : ℕ) → ((list_any (λ w. w == v) (peers_over net.links u) ≡ true) ↔ Linked net.links u v) = λ u v. (
        λ h. peer_linked net.links u v ((in_list (peers_over net.links u) v).0 h),
        λ l. (in_list (peers_over net.links u) v).1 (linked_peer net.links u v l (linked_apart net is.network u v l)),
      ) in (
        record {
          apart = λ u v h. linked_apart net is.network u v ((linked u v).0 h);
          both = λ u v h. (linked v u).1 (turned u v ((linked u v).0 h));
          known = λ u v h. (in_list (numbers net.routers) v).1 (linked_is net is.network u v ((linked u v).0 h));
        },
        λ originated says. record {
          routers = λ u. in_list (numbers net.routers) u;
          linked = linked;
          no_path = refl;
          best = λ u router words. as_said originated says u words (best_by_rank_is_best net is.network u router p.prefix (originated u) words);
        },
      )
    where
      turned : (u v : ℕ) → Linked p.net.links u v → Linked p.net.links v u
      turned u v a = (a.0, a.1, a.2, a.3, elim a.4 [ inl x ↦ inr x | inr x ↦ inl x ])

      as_said : (originated : ℕ → Bool) → ((u : ℕ) → IsOrigin p.net.origins u p.prefix → originated u ≡ p.originated) → (u : ℕ) (words : ℕ → List ℕ)
          → IsBest (record { net = p.net; prefix = p.prefix; originated = originated u }) words u (best_by_rank p.net u p.prefix (originated u) words)
          → IsBest p words u (best_by_rank p.net u p.prefix (originated u) words)
      as_said originated says u words b = (
        b.0,
        b.1,
        elim b.2 [
          | inl own ↦
              let here : IsOrigin p.net.origins u p.prefix = subst (λ w. IsOrigin p.net.origins w p.prefix) b.1.0 (subst (λ os. IsOrigin os b.0.router p.prefix) b.1.1 own.0) in
              inl (own.0, own.1 ∙ ap (λ c. cond c (b.0.router ∷ []) []) (says u here))
          | inr other ↦ inr (other.0, other.1)
        ],
      )
