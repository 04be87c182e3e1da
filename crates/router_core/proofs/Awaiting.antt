-- Whom a router tells, by its tables and by the definitions. It depends on no choice.
use Rattle.std.proofs.Common.{◌≡◌, ℕ, Bool, true, false, List, map, Option, None, Some, refl, sym, ap, subst, ◌∙◌}
use Rattle.std.specs.Prelude.{MatchOption, is_some}
use Rattle.std.specs.Bool.{Decides}
use Rattle.std.specs.List.{AllPairs, find}
use Rattle.std.proofs.lemmas.Bool.{true≢false}
use Rattle.std.proofs.lemmas.Slice.Eq.{bytes_eq-Decides}
use Rattle.prefix_lanes.specs.Bits.{PrefixView}
use Rattle.ranked_policy.specs.Plans.{Plan, IsNamed, IsBefore, Linked}
use Rattle.rib_tables.specs.declared.word.Word.{Word}
use Rattle.rib_tables.specs.declared.word.Word.TheVariants.{Sequence}
use Rattle.rib_tables.specs.Words.{path_in}
use Rattle.rib_tables.specs.Tables.{word_of, path_of}
use Rattle.rib_tables.specs.Least.{HoldsOfAll, IsLeastWithout}
use Rattle.rib_tables.specs.Owners.{IsServed}
use Rattle.router_model.specs.Settings.{Setting, linked, prefixes}
use Rattle.router_model.specs.Sides.{is_up}
use Rattle.router_model.specs.State.{Router, last_told, same_path, is_unadvertised, unadvertised, is_waiting_peer}
use Rattle.router_core.specs.Views.{RouterView, IsSound, IsTabled, Follows, sides_of, plain_of}
use Rattle.router_core.proofs.Naming.{decides_linked}
use Rattle.router_core.proofs.Leasts.{least_is, any_is_found}

pub path_decides : (a b : List ℕ) → Decides (same_path a b) (a ≡ b)
path_decides a b = bytes_eq-Decides a b

module _ (g : Setting) (x : RouterView) (sound : IsSound x) (same : g.net ≡ x.net) where
  abbrev r : Router
  r = (plain_of x).router

  tabled : IsTabled x
  tabled = sound.tabled

  pub link_is : (v : ℕ) → Linked x.tables.net.links x.tables.router v → linked x.net x.number v ≡ true
  link_is v l =
      (decides_linked x.net x.number v).1
      (subst (λ (n : ℕ). Linked x.net.links n v) tabled.router (subst (λ (net : Plan). Linked net.links x.tables.router v) tabled.net l))

  pub rising : AllPairs (λ a b. IsBefore a.prefix b.prefix) x.net.origins
  rising = sound.network.plan.origins.rising

  pub found_in : (Holds : PrefixView → Type 0) (found : Option PrefixView) → MatchOption found (HoldsOfAll x.tables.net.origins Holds) (IsLeastWithout x.tables.net.origins Holds)
      → MatchOption found (HoldsOfAll x.net.origins Holds) (IsLeastWithout x.net.origins Holds)
  found_in Holds found h = subst (λ (net : Plan). MatchOption found (HoldsOfAll net.origins Holds) (IsLeastWithout net.origins Holds)) tabled.net h

  pub prefixes_are : (p : PrefixView → Bool) → find p (map (λ o. o.prefix) x.net.origins) ≡ find p (prefixes g)
  prefixes_are p = ap (λ (net : Plan). find p (map (λ o. o.prefix) net.origins)) (sym same)

  -- ---- what is to be told

  module _ (v : ℕ) (l : linked x.net x.number v ≡ true) where
    f : Follows x.net.origins x.tables v (sides_of x v)
    f = tabled.peers v l

    pub there : linked g.net x.number v ≡ true
    there = ap (λ (net : Plan). linked net x.number v) same ∙ l

    told_word : is_up (sides_of x v) ≡ true → (q : PrefixView) → IsNamed x.net.origins q → word_of x.tables.sent v q ≡ last_told (sides_of x v) q
    told_word up q n = f.told q n ∙ rw up refl

    pub served_decides : is_up (sides_of x v) ≡ true → (q : PrefixView) → IsNamed x.net.origins q
        → Decides (same_path (path_of x.tables.kept q) (path_in (last_told (sides_of x v) q))) (IsServed x.tables v q)
    served_decides up q n =
        let d = path_decides (path_of x.tables.kept q) (path_in (last_told (sides_of x v) q)) in
        let word = told_word up q n in (
          λ t k. tabled.sent v q ∙ ap (λ (w : Word). Sequence (path_in w)) word ∙ ap Sequence (sym (d.0 t)),
          λ s. d.1 (sym (ap path_in (sym word ∙ s (f.up.1 up)))),
        )

    -- a peer that is not Established waits for nothing
    pub down_served : is_up (sides_of x v) ≡ false → (q : PrefixView) → IsServed x.tables v q
    down_served down q k = absurd (true≢false (sym (f.up.0 k) ∙ down))

    none_down : is_up (sides_of x v) ≡ false → (found : Option PrefixView) → MatchOption found (HoldsOfAll x.tables.net.origins (IsServed x.tables v)) (IsLeastWithout x.tables.net.origins (IsServed x.tables v))
        → found ≡ None
    none_down down None h = refl
    none_down down (Some q) h = absurd (h.fails (down_served down q))

    untold_by : (b : Bool) → is_up (sides_of x v) ≡ b → (found : Option PrefixView)
        → MatchOption found (HoldsOfAll x.tables.net.origins (IsServed x.tables v)) (IsLeastWithout x.tables.net.origins (IsServed x.tables v)) → found ≡ unadvertised g x.number r v
    untold_by true up found h =
        least_is (λ q. same_path (path_of x.tables.kept q) (path_in (last_told (sides_of x v) q))) (IsServed x.tables v) x.net.origins rising (served_decides up) found (found_in (IsServed x.tables v) found h)
        ∙ prefixes_are (is_unadvertised g x.number r v) ∙ rw (there, up) refl
    untold_by false up found h = none_down up found h ∙ rw (there, up) refl

    pub untold_is : (found : Option PrefixView) → MatchOption found (HoldsOfAll x.tables.net.origins (IsServed x.tables v)) (IsLeastWithout x.tables.net.origins (IsServed x.tables v))
        → found ≡ unadvertised g x.number r v
    untold_is found h = untold_by (is_up (sides_of x v)) refl found h

    waits_by : (b : Bool) → is_up (sides_of x v) ≡ b → is_waiting_peer g x.number r v ≡ is_some (unadvertised g x.number r v)
    waits_by true up = rw (there, up) (any_is_found (is_unadvertised g x.number r v) (prefixes g))
    waits_by false up = rw (there, up) refl

    pub waiting_is : (found : Option PrefixView) → MatchOption found (HoldsOfAll x.tables.net.origins (IsServed x.tables v)) (IsLeastWithout x.tables.net.origins (IsServed x.tables v))
        → is_waiting_peer g x.number r v ≡ is_some found
    waiting_is found h = waits_by (is_up (sides_of x v)) refl ∙ ap is_some (sym (untold_is found h))
