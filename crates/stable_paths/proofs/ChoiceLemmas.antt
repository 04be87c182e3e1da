-- The paths that a router hears over links, one link more at a time.
use Rattle.std.proofs.Common.{◌≡◌, ℕ, List, [], ◌∷◌, ◌++◌, refl, sym, ap, subst, ◌∙◌, arith, inl, inr}
use Rattle.std.specs.Prelude.{◌↔◌}
use Rattle.std.specs.List.{All}
use Rattle.prefix_lanes.specs.Bits.{PrefixView}
use Rattle.ranked_policy.specs.declared.network.Link.{Link}
use Rattle.ranked_policy.specs.Choices.{HasPathOver, IsFirstOrNone}
use Rattle.ranked_policy.specs.Plans.{Joins, Linked}
use Rattle.ranked_policy.specs.Ways.{HasWay}
use Rattle.ranked_policy.specs.Policies.{Table}
use Rattle.ranked_policy.proofs.ChoiceLemmas.{HearsMore, first_as}
use Rattle.stable_paths.proofs.ListLemmas.{any_split, any_more, any_last}

-- a link has one other end
joins_once : (link : Link) (u v w : ℕ) → Joins link u v → Joins link u w → v ≡ w
joins_once link u v w (inl a) (inl b) = sym a.1 ∙ b.1
joins_once link u v w (inl a) (inr b) = sym a.1 ∙ b.1 ∙ sym a.0 ∙ b.0
joins_once link u v w (inr a) (inl b) = sym a.0 ∙ b.0 ∙ sym a.1 ∙ b.1
joins_once link u v w (inr a) (inr b) = sym a.0 ∙ b.0

-- over one link more the path of its other end is heard
pub link_hears : (links : List Link) (link : Link) (paths : ℕ → List ℕ) (u v : ℕ) → Joins link u v → (path : List ℕ) → path ≡ paths v
    → HearsMore (HasPathOver links paths u) (HasPathOver (links ++ link ∷ []) paths u) v path
link_hears links link paths u v joins path is = record {
  onto = λ w p h. (any_more (λ (l : Link). Joins l u w) links link h.0, h.1);
  here = λ some. (any_last (λ (l : Link). Joins l u v) links link joins, is);
  back = λ w p some h. elim (any_split (λ (l : Link). Joins l u w) links link h.0) [
    | inl before ↦ inl (before, h.1)
    | inr here ↦ inr (h.1 ∙ ap paths (joins_once link u w v here joins) ∙ sym is)
  ];
}

-- over no link nothing is heard
pub none_yet : (paths : ℕ → List ℕ) (u : ℕ) (table : Table) (q : PrefixView) → IsFirstOrNone (HasPathOver [] paths u) table q []
none_yet paths u table q = inr (refl, λ other c. absurd (omega (arith, c.heard.0.2)))

-- the first over links that lead to the same peers
pub same_links : (links other : List Link) (paths : ℕ → List ℕ) (u : ℕ) (table : Table) (q : PrefixView) (best : List ℕ) → ((v : ℕ) → (Linked links u v ↔ Linked other u v))
    → IsFirstOrNone (HasPathOver links paths u) table q best → IsFirstOrNone (HasPathOver other paths u) table q best
same_links links other paths u table q best same =
    first_as table q (HasPathOver links paths u) (HasPathOver other paths u) best (λ v p some h. ((same v).0 h.0, h.1)) (λ v p some h. ((same v).1 h.0, h.1))

-- ways from one router lead where its links do
pub way_links : (ways links : List Link) (u : ℕ) → All (λ link. link.one ≡ u) ways → ((v : ℕ) → (HasWay ways u v ↔ Linked links u v)) → (v : ℕ) → (Linked ways u v ↔ Linked links u v)
way_links ways links u from exact v = (
  λ l. (exact v).0 (way_of l),
  λ l. (let w = (exact v).1 l in (w.0, w.1, w.2, w.3, inl w.4)),
)
  where
    way_of : Linked ways u v → HasWay ways u v
    way_of l = elim l.4 [
      | inl there ↦ (l.0, l.1, l.2, l.3, there)
      | inr back ↦
          let one : l.1.one ≡ u = subst (λ k. k.one ≡ u) l.3 (from l.0 l.1 l.2) in
          (l.0, l.1, l.2, l.3, (one, back.1 ∙ (sym one ∙ back.0)))
    ]
