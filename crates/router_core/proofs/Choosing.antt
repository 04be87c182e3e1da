-- What a router chooses and whom it tells, by its tables and by the definitions.
use Rattle.std.proofs.Common.{◌≡◌, ℕ, Bool, true, false, List, [], Option, refl, sym, ap, subst, ◌∙◌, inl, inr}
use Rattle.std.specs.Prelude.{MatchOption, ◌↔◌, ◌⊎◌}
use Rattle.std.specs.Bool.{Decides}
use Rattle.std.specs.List.{Contains}
use Rattle.std.proofs.lemmas.Bool.{true≢false}
use Rattle.prefix_lanes.specs.Bits.{PrefixView}
use Rattle.ranked_policy.specs.Plans.{Plan, IsNetwork, IsRouter, IsNamed, Linked}
use Rattle.ranked_policy.specs.Policies.{Table, IsTableOf}
use Rattle.rib_tables.specs.Words.{path_in, lists}
use Rattle.rib_tables.specs.Tables.{word_of, path_of}
use Rattle.rib_tables.specs.Least.{HoldsOfAll, IsLeastWithout}
use Rattle.rib_tables.specs.Choices as tables
use Rattle.rib_tables.specs.Owners.{sources_of, IsSettled}
use Rattle.ranked_policy.specs.Choices.{HasPathOver}
use Rattle.rib_tables.specs.Promises.{BestOverWords, HearsWords}
use Rattle.stable_paths.specs.Stable.{IsBest}
use Rattle.stable_paths.specs.Promises.{OneBest}
use Rattle.router_model.specs.Settings.{Setting, ChoosesByRank, linked}
use Rattle.router_model.specs.Sides.{is_up}
use Rattle.router_model.specs.State.{Router, heard, same_path, path_from, best_path, is_undecided, undecided}
use Rattle.router_core.specs.Views.{RouterView, IsSound, IsTabled, sides_of, plain_of}
use Rattle.router_core.proofs.Leasts.{least_is}
use Rattle.router_core.proofs.Awaiting.{path_decides, link_is, rising, found_in, prefixes_are}
use Rattle.router_core.proofs.BestLemmas.{problem, best_to, best_from}

-- a router whose tables are those of its sides, in a setting of its network that chooses by rank
pub record Chooses (g : Setting) (x : RouterView) : Type 0 where
  pub sound : IsSound x
  pub net : g.net ≡ x.net
  pub ranks : ChoosesByRank g
  pub linked : (v : ℕ) → Contains x.tables.established v → Linked x.tables.net.links x.tables.router v

module _ (over : BestOverWords) (one : OneBest) (g : Setting) (x : RouterView) (c : Chooses g x) where
  abbrev r : Router
  r = (plain_of x).router

  abbrev words : PrefixView → ℕ → List ℕ
  words q = path_from g x.number r q

  tabled : IsTabled x
  tabled = c.sound.tabled

  tables_net : x.tables.net ≡ g.net
  tables_net = tabled.net ∙ sym c.net

  said_by : (q : PrefixView) → IsNamed x.net.origins q → (v : ℕ) → linked x.net x.number v ≡ true → (b : Bool) → is_up (sides_of x v) ≡ b
      → (Contains x.tables.established v × (words q v ≡ path_in (word_of x.tables.heard v q))) ⊎ ((Contains x.tables.established v → ⊥) × (words q v ≡ []))
  said_by q n v l true up =
      let f = tabled.peers v l in
      let there : linked g.net x.number v ≡ true = ap (λ (net : Plan). linked net x.number v) c.net ∙ l in
      let says : words q v ≡ path_in (heard (sides_of x v) q) = rw (there, up) refl in
      let hears : word_of x.tables.heard v q ≡ heard (sides_of x v) q = f.heard q n ∙ rw up refl in
      inl (f.up.1 up, says ∙ ap path_in (sym hears))
  said_by q n v l false up =
      let f = tabled.peers v l in
      let there : linked g.net x.number v ≡ true = ap (λ (net : Plan). linked net x.number v) c.net ∙ l in
      inr ((λ k. true≢false (sym (f.up.0 k) ∙ up)), rw (there, up) refl)

  hears_words : (q : PrefixView) → IsNamed x.net.origins q → HearsWords (sources_of x.tables) q (words q)
  hears_words q n = record { linked = c.linked; said = λ v l. said_by q n v (link_is g x c.sound c.net v l) (is_up (sides_of x v)) refl }

  named_in : (q : PrefixView) → IsNamed x.net.origins q → IsNamed g.net.origins q
  named_in q n = subst (λ (net : Plan). IsNamed net.origins q) (sym c.net) n

  router_in : IsRouter g.net.routers x.number
  router_in = subst (λ (net : Plan). IsRouter net.routers x.number) (sym c.net) c.sound.router

  abbrev Over : Plan → ℕ → PrefixView → List ℕ → Type 0
  Over net u q path = (table : Table) × IsTableOf net u table × tables.IsBestOf (Contains x.tables.originated q) (HasPathOver net.links (words q) u) table q path

  over_words : (q : PrefixView) → IsNamed x.net.origins q → (path : List ℕ) → tables.IsBest (sources_of x.tables) q path ↔ Over x.tables.net x.tables.router q path
  over_words q n path = over (sources_of x.tables) q (words q) (hears_words q n) path

  best_over : (q : PrefixView) → IsNamed x.net.origins q → (path : List ℕ) → tables.IsBest (sources_of x.tables) q path
      → IsBest (problem g.net x.number q x.tables.originated (words q)) (words q) x.number path
  best_over q n path best =
      let b : Over g.net x.number q path =
      subst (λ (net : Plan). Over net x.number q path) tables_net (subst (λ (u : ℕ). Over x.tables.net u q path) tabled.router ((over_words q n path).0 best)) in
      (b.0, b.1, best_to g.net x.number q x.tables.originated (words q) b.0 b.1.0 path b.2)

  best_under : (q : PrefixView) → IsNamed x.net.origins q → (path : List ℕ) → IsBest (problem g.net x.number q x.tables.originated (words q)) (words q) x.number path
      → tables.IsBest (sources_of x.tables) q path
  best_under q n path best =
      let b : Over g.net x.number q path = (best.0, best.1, best_from g.net x.number q x.tables.originated (words q) best.0 best.1.0 path best.2) in
      (over_words q n path).1
      (subst (λ (u : ℕ). Over x.tables.net u q path) (sym tabled.router) (subst (λ (net : Plan). Over net x.number q path) (sym tables_net) b))

  by_rank : (q : PrefixView) → IsNamed x.net.origins q → IsBest (problem g.net x.number q x.tables.originated (words q)) (words q) x.number (best_path g x.number r q)
  by_rank q n = c.ranks x.number router_in q (named_in q n) (lists x.tables.originated q) (words q)

  -- the best of the tables is the route
  pub best_is_route : (q : PrefixView) → IsNamed x.net.origins q → (path : List ℕ) → tables.IsBest (sources_of x.tables) q path → path ≡ best_path g x.number r q
  best_is_route q n path best =
      let is : IsNetwork g.net = subst IsNetwork (sym c.net) c.sound.network in
      one (problem g.net x.number q x.tables.originated (words q)) (record { network = is; named = named_in q n }) (words q) x.number path (best_path g x.number r q) (best_over q n path best) (by_rank q n)

  -- ---- what is to be decided

  pub settled_decides : (q : PrefixView) → IsNamed x.net.origins q → Decides (same_path (path_of x.tables.kept q) (best_path g x.number r q)) (IsSettled x.tables q)
  settled_decides q n =
      let d = path_decides (path_of x.tables.kept q) (best_path g x.number r q) in (
        λ t. subst (tables.IsBest (sources_of x.tables) q) (sym (d.0 t)) (best_under q n (best_path g x.number r q) (by_rank q n)),
        λ s. d.1 (best_is_route q n (path_of x.tables.kept q) s),
      )

  pub undecided_is : (found : Option PrefixView) → MatchOption found (HoldsOfAll x.tables.net.origins (IsSettled x.tables)) (IsLeastWithout x.tables.net.origins (IsSettled x.tables))
      → found ≡ undecided g x.number r
  undecided_is found h =
      least_is (λ q. same_path (path_of x.tables.kept q) (best_path g x.number r q)) (IsSettled x.tables) x.net.origins (rising g x c.sound c.net) settled_decides found (found_in g x c.sound c.net (IsSettled x.tables) found h)
      ∙ prefixes_are g x c.sound c.net (is_undecided g x.number r)
