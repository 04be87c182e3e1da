-- The first of a router's choices: it is one, and stays or changes as other paths are heard.
use Rattle.std.proofs.Common.{◌≡◌, ◌≢◌, ℕ, false, List, [], ◌∷◌, length, refl, sym, ap, subst, ◌∙◌, inl, inr, ◌⊎◌}
use Rattle.std.specs.Prelude.{◌==◌}
use Rattle.std.specs.Str.{bytes_eq}
use Rattle.std.proofs.lemmas.Bool.{cases_Bool, both_ways, eq-eqb}
use Rattle.std.proofs.lemmas.Slice.Eq.{bytes_eq-Decides}
use Rattle.prefix_lanes.specs.Bits.{PrefixView}
use Rattle.ranked_policy.specs.declared.policy.Chosen.{Chosen}
use Rattle.ranked_policy.specs.Orders.{IsStrictTotalOrder}
use Rattle.ranked_policy.specs.Policies.{Table, IsPermitted, IsPreferred}
use Rattle.ranked_policy.specs.Choosing.{chosen_prefers}
use Rattle.ranked_policy.specs.Choices.{IsChoice, IsFirstOrNone, Speaks, path_by, IsTaken, IsBetterWay}

-- two paths are the same or not
pub same_or_not : (p q : List ℕ) → (p ≡ q) ⊎ (p ≢ q)
same_or_not p q = let says = bytes_eq-Decides p q in
    elim (cases_Bool (bytes_eq p q)) [ inl t ↦ inl (says.0 t) | inr f ↦ inr (λ e. both_ways (bytes_eq p q) f (says.1 e)) ]

router_ahead : (x : ℕ) (xs : List ℕ) → x ∷ xs ≡ [] → ⊥
router_ahead x xs e = absurd cc

pub path_by_some : (router : ℕ) (rest : List ℕ) → rest ≢ [] → path_by router rest ≡ router ∷ rest
path_by_some router [] some = absurd (some refl)
path_by_some router (v ∷ rest) some = refl

pub path_by_none : (router : ℕ) (rest : List ℕ) → rest ≡ [] → path_by router rest ≡ []
path_by_none router rest e = ap (path_by router) e

-- the first is one
pub first_once : (Heard : ℕ → List ℕ → Type 0) (table : Table) (q : PrefixView) → IsStrictTotalOrder (IsPermitted table q) (IsPreferred table q) → (a b : List ℕ)
    → IsFirstOrNone Heard table q a → IsFirstOrNone Heard table q b → a ≡ b
first_once Heard table q order a b (inr x) (inr y) = x.0 ∙ sym y.0
first_once Heard table q order a b (inr x) (inl y) = absurd (x.1 b y.choice)
first_once Heard table q order a b (inl x) (inr y) = absurd (y.1 a x.choice)
first_once Heard table q order a b (inl x) (inl y) =
    elim (same_or_not a b) [
      | inl same ↦ same
      | inr apart ↦
          let mine = x.before b y.choice apart in
          let theirs = y.before a x.choice (λ e. apart (sym e)) in
          absurd (order.irreflexive a x.choice.permitted (order.transitive a b a x.choice.permitted y.choice.permitted x.choice.permitted mine theirs))
    ]

module _ (table : Table) (q : PrefixView) (One Other : ℕ → List ℕ → Type 0) where
  choice_as : (path : List ℕ) → ((v : ℕ) (p : List ℕ) → p ≢ [] → One v p → Other v p) → IsChoice One table q path → IsChoice Other table q path
  choice_as path onto c = record { peer = c.peer; rest = c.rest; heard = onto c.peer c.rest c.some c.heard; some = c.some; goes_on = c.goes_on; permitted = c.permitted }

-- where the same paths are heard, the first is the same
pub first_as : (table : Table) (q : PrefixView) (One Other : ℕ → List ℕ → Type 0) (best : List ℕ)
    → ((v : ℕ) (p : List ℕ) → p ≢ [] → One v p → Other v p) → ((v : ℕ) (p : List ℕ) → p ≢ [] → Other v p → One v p)
    → IsFirstOrNone One table q best → IsFirstOrNone Other table q best
first_as table q One Other best onto back (inl first) =
    inl (record { choice = choice_as table q One Other best onto first.choice; before = λ other c apart. first.before other (choice_as table q Other One other back c) apart })
first_as table q One Other best onto back (inr none) = inr (none.0, λ other c. none.1 other (choice_as table q Other One other back c))

-- ---- other paths are heard

module _ (table : Table) (q : PrefixView) (order : IsStrictTotalOrder (IsPermitted table q) (IsPreferred table q)) (One Two : ℕ → List ℕ → Type 0) where
  -- the path along a way is no choice, or no better than the best
  abbrev pub Worse : List ℕ → List ℕ → Type 0
  Worse best p = IsPermitted table q (table.router ∷ p) → (best ≡ []) ⊎ IsPreferred table q (table.router ∷ p) best → ⊥

  module _ (best : List ℕ) (holds : (v : ℕ) (p : List ℕ) → p ≢ [] → best ≡ table.router ∷ p → One v p → Two v p) (back : (v : ℕ) (p : List ℕ) → p ≢ [] → Two v p → One v p ⊎ Worse best p) where
    old_or_worse : (path : List ℕ) → (c : IsChoice Two table q path) → IsChoice One table q path ⊎ Worse best c.rest
    old_or_worse path c = elim (back c.peer c.rest c.some c.heard) [
      | inl h ↦ inl (record { peer = c.peer; rest = c.rest; heard = h; some = c.some; goes_on = c.goes_on; permitted = c.permitted })
      | inr worse ↦ inr worse
    ]

    -- the first stays where what is new is no better, and where the path by which it goes on is heard still
    pub first_stays : IsFirstOrNone One table q best → IsFirstOrNone Two table q best
    first_stays (inr empty) = inr (
      empty.0,
      λ other c. elim (old_or_worse other c) [
        | inl old ↦ empty.1 other old
        | inr worse ↦ worse (subst (IsPermitted table q) c.goes_on c.permitted) (inl empty.0)
      ],
    )
    first_stays (inl first) =
        let mine = first.choice in
        inl (record {
          choice = record { peer = mine.peer; rest = mine.rest; heard = holds mine.peer mine.rest mine.some mine.goes_on mine.heard; some = mine.some; goes_on = mine.goes_on; permitted = mine.permitted };
          before = λ other c apart. elim (old_or_worse other c) [
            | inl old ↦ first.before other old apart
            | inr worse ↦
                let may = subst (IsPermitted table q) c.goes_on c.permitted in
                elim (order.total best (table.router ∷ c.rest) mine.permitted may (λ e. apart (e ∙ sym c.goes_on))) [
                  | inl better ↦ subst (IsPreferred table q best) (sym c.goes_on) better
                  | inr theirs ↦ absurd (worse may (inr theirs))
                ]
          ];
        })

  -- a choice that is preferred to the first so far is the first, if nothing else is new
  module _ (v : ℕ) (way : List ℕ) (some : way ≢ []) (here : Two v way) (back : (w : ℕ) (p : List ℕ) → p ≢ [] → Two w p → One w p ⊎ (p ≡ way)) where
    abbrev new : List ℕ
    new = table.router ∷ way

    old_or_new : (path : List ℕ) → IsChoice Two table q path → IsChoice One table q path ⊎ (path ≡ new)
    old_or_new path c = elim (back c.peer c.rest c.some c.heard) [
      | inl h ↦ inl (record { peer = c.peer; rest = c.rest; heard = h; some = c.some; goes_on = c.goes_on; permitted = c.permitted })
      | inr e ↦ inr (c.goes_on ∙ ap (λ (p : List ℕ). table.router ∷ p) e)
    ]

    first_taken : (best : List ℕ) → IsPermitted table q new → (best ≡ []) ⊎ IsPreferred table q new best → IsFirstOrNone One table q best → IsFirstOrNone Two table q new
    first_taken best may better before = inl (record {
      choice = record { peer = v; rest = way; heard = here; some = some; goes_on = refl; permitted = may };
      before = λ other c apart. elim (old_or_new other c) [ inl old ↦ over better before other old | inr same ↦ absurd (apart (sym same)) ];
    })
      where
        over : (best ≡ []) ⊎ IsPreferred table q new best → IsFirstOrNone One table q best → (other : List ℕ) → IsChoice One table q other → IsPreferred table q new other
        over better (inr empty) other old = absurd (empty.1 other old)
        over (inl none) (inl first) other old = absurd (router_ahead table.router first.choice.rest (sym first.choice.goes_on ∙ none))
        over (inr preferred) (inl first) other old = elim (same_or_not best other) [
          | inl same ↦ subst (IsPreferred table q new) same preferred
          | inr differ ↦ order.transitive new best other may first.choice.permitted old.permitted preferred (first.before other old differ)
        ]

-- ---- the path of one peer more, as the code takes it

-- besides what was heard, this path from this peer is heard; an empty one is none
pub record HearsMore (One More : ℕ → List ℕ → Type 0) (v : ℕ) (path : List ℕ) : Type 0 where
  pub onto : (w : ℕ) (p : List ℕ) → One w p → More w p
  pub here : path ≢ [] → More v path
  pub back : (w : ℕ) (p : List ℕ) → p ≢ [] → More w p → One w p ⊎ (p ≡ path)

module _ (policy : Chosen) (table : Table) (q : PrefixView) (order : IsStrictTotalOrder (IsPermitted table q) (IsPreferred table q)) (speaks : Speaks policy table q)
    (One More : ℕ → List ℕ → Type 0) (v : ℕ) (way : List ℕ) (more : HearsMore One More v way) where
  -- preferred to a best way, and to the path along it
  is_better : (best : List ℕ) → (best ≡ []) ⊎ chosen_prefers policy (table.router ∷ way) (table.router ∷ best)
      → (path_by table.router best ≡ []) ⊎ IsPreferred table q (table.router ∷ way) (path_by table.router best)
  is_better [] b = inl refl
  is_better (r ∷ rs) (inl e) = absurd (router_ahead r rs e)
  is_better (r ∷ rs) (inr b) = inr ((speaks.prefers (table.router ∷ way) (table.router ∷ r ∷ rs)).0 b)

  was_better : (best : List ℕ) → (path_by table.router best ≡ []) ⊎ IsPreferred table q (table.router ∷ way) (path_by table.router best)
      → (best ≡ []) ⊎ chosen_prefers policy (table.router ∷ way) (table.router ∷ best)
  was_better [] b = inl refl
  was_better (r ∷ rs) (inl e) = absurd (router_ahead table.router (r ∷ rs) e)
  was_better (r ∷ rs) (inr b) = inr ((speaks.prefers (table.router ∷ way) (table.router ∷ r ∷ rs)).1 b)

  better_first : (best better : List ℕ) → IsBetterWay policy table.router way best better → IsFirstOrNone One table q (path_by table.router best)
      → IsFirstOrNone More table q (path_by table.router better)
  better_first best better (inl (some, taken, is)) before =
      subst (IsFirstOrNone More table q) (sym (ap (path_by table.router) is ∙ path_by_some table.router way some))
      (first_taken table q order One More v way some (more.here some) more.back (path_by table.router best) ((speaks.permits (table.router ∷ way)).0 taken.0) (is_better best taken.1) before)
  better_first best better (inr (not, is)) before =
      subst (λ (b : List ℕ). IsFirstOrNone More table q (path_by table.router b)) (sym is)
      (first_stays table q order One More (path_by table.router best) (λ w p some goes h. more.onto w p h) (λ w p some h. elim (more.back w p some h) [
        | inl old ↦ inl old
        | inr new ↦ inr (λ may better. (
            let Goes : List ℕ → Type 0 = λ x. IsPermitted table q (table.router ∷ x) × ((path_by table.router best ≡ []) ⊎ IsPreferred table q (table.router ∷ x) (path_by table.router best)) in
            let here : Goes way = subst Goes new (may, better) in
            not (λ none. some (new ∙ none)) ((speaks.permits (table.router ∷ way)).1 here.0, was_better best here.1)))
      ]) before)

  -- the path along the better of two ways is the first
  pub better_is_first : (u : ℕ) → table.router ≡ u → (best better : List ℕ) → IsBetterWay policy u way best better → IsFirstOrNone One table q (path_by u best)
      → IsFirstOrNone More table q (path_by u better)
  better_is_first u is best better =
      subst (λ (n : ℕ). IsBetterWay policy n way best better → IsFirstOrNone One table q (path_by n best) → IsFirstOrNone More table q (path_by n better)) is (better_first best better)
