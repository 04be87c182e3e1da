-- A router of a network has one table of policies, and so one best path.
use Rattle.std.proofs.Common.{◌≡◌, ◌≢◌, ℕ, List, [], sym, ap, subst, ◌∙◌, inl, inr}
use Rattle.std.specs.List.{Contains}
use Rattle.prefix_lanes.specs.Bits.{PrefixView}
use Rattle.ranked_policy.specs.Policies.{Table, IsTable}
use Rattle.ranked_policy.specs.Promises.{EachPolicyIsAnOrder}
use Rattle.rib_tables.specs.declared.word.Word.TheVariants.{Sequence}
use Rattle.rib_tables.specs.Words.{path_in}
use Rattle.rib_tables.specs.Choices.{Hears, IsOwn, IsBestOf}
use Rattle.ranked_policy.specs.Choices.{HasPathOver}
use Rattle.rib_tables.specs.Promises.{OneBest, BestAmongPaths, BestOverWords}
use Rattle.rib_tables.specs.Tables.{word_of}
use Rattle.ranked_policy.proofs.ChoiceLemmas.{first_once, first_as}
use Rattle.rib_tables.proofs.ChoiceLemmas.{word_is}
use Rattle.ranked_policy.proofs.OneTable.{one_table, table_stands}

-- ---- one best

own_once : (Originated : Type 0) (u : ℕ) (a b : List ℕ) → IsOwn Originated u a → IsOwn Originated u b → a ≡ b
own_once Originated u a b (inl x) (inl y) = x.1 ∙ sym y.1
own_once Originated u a b (inl x) (inr y) = absurd (y.0 x.0)
own_once Originated u a b (inr x) (inl y) = absurd (x.0 y.0)
own_once Originated u a b (inr x) (inr y) = x.1 ∙ sym y.1

pub best_once : EachPolicyIsAnOrder → (Originated : Type 0) (Heard : ℕ → List ℕ → Type 0) (t : Table) (q : PrefixView) (a b : List ℕ) → IsTable t
    → IsBestOf Originated Heard t q a → IsBestOf Originated Heard t q b → a ≡ b
best_once law Originated Heard t q a b table (inl x) (inl y) = own_once Originated t.router a b x.1 y.1
best_once law Originated Heard t q a b table (inl x) (inr y) = absurd (y.0 x.0)
best_once law Originated Heard t q a b table (inr x) (inl y) = absurd (x.0 y.0)
best_once law Originated Heard t q a b table (inr x) (inr y) = first_once Heard t q (law t table q) a b x.1 y.1

pub one_best : EachPolicyIsAnOrder → OneBest
one_best law s is q a b x y =
    let table = table_stands s.net s.router x.0 is.network x.1 in
    let same : y.0 ≡ x.0 = one_table s.net s.router y.0 x.0 is.network y.1 x.1 in
    best_once law (Contains s.originated q) (Hears s.heard s.established q) x.0 q a b table x.2
    (subst (λ (t : Table). IsBestOf (Contains s.originated q) (Hears s.heard s.established q) t q b) same y.2)

-- ---- the same choices where the same paths are heard

pub best_as : (Originated : Type 0) (One Other : ℕ → List ℕ → Type 0) (t : Table) (q : PrefixView) (path : List ℕ) → ((v : ℕ) (p : List ℕ) → p ≢ [] → One v p → Other v p) → ((v : ℕ) (p : List ℕ) → p ≢ [] → Other v p → One v p)
    → IsBestOf Originated One t q path → IsBestOf Originated Other t q path
best_as Originated One Other t q path onto back (inl own) = inl own
best_as Originated One Other t q path onto back (inr x) = inr (x.0, first_as t q One Other path onto back x.1)

pub best_among : BestAmongPaths
best_among s q paths hears path =
    let Mine : ℕ → List ℕ → Type 0 = Hears s.heard s.established q in
    let Theirs : ℕ → List ℕ → Type 0 = HasPathOver s.net.links paths s.router in
    let onto : (v : ℕ) (p : List ℕ) → p ≢ [] → Mine v p → Theirs v p = λ v p some m.
    let linked = (hears.linked v).0 m.0 in
    (linked, ap path_in (sym m.1 ∙ hears.words v linked)) in
    let back : (v : ℕ) (p : List ℕ) → p ≢ [] → Theirs v p → Mine v p = λ v p some t. ((hears.linked v).1 t.0, hears.words v t.0 ∙ ap Sequence (sym t.1)) in
    (λ b. (b.0, b.1, best_as (Contains s.originated q) Mine Theirs b.0 q path onto back b.2), λ b. (b.0, b.1, best_as (Contains s.originated q) Theirs Mine b.0 q path back onto b.2))

pub best_over_words : BestOverWords
best_over_words s q words hears path =
    let Mine : ℕ → List ℕ → Type 0 = Hears s.heard s.established q in
    let Theirs : ℕ → List ℕ → Type 0 = HasPathOver s.net.links words s.router in
    let onto : (v : ℕ) (p : List ℕ) → p ≢ [] → Mine v p → Theirs v p = λ v p some m.
    let linked = hears.linked v m.0 in
    (linked, elim (hears.said v linked) [ inl up ↦ ap path_in (sym m.1) ∙ sym up.1 | inr down ↦ absurd (down.0 m.0) ]) in
    let back : (v : ℕ) (p : List ℕ) → p ≢ [] → Theirs v p → Mine v p = λ v p some t.
    elim (hears.said v t.0) [ inl up ↦ (up.0, word_is (word_of s.heard v q) p (t.1 ∙ up.1) some) | inr down ↦ absurd (some (t.1 ∙ down.1)) ] in
    (λ b. (b.0, b.1, best_as (Contains s.originated q) Mine Theirs b.0 q path onto back b.2), λ b. (b.0, b.1, best_as (Contains s.originated q) Theirs Mine b.0 q path back onto b.2))
