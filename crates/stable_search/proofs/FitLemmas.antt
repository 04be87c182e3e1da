-- A stable assignment is one whose routers fit their peers.
use Rattle.std.proofs.Common.{◌≡◌, ◌≢◌, ℕ, true, List, [], ◌∷◌, ◌++◌, refl, sym, ap, subst, ◌∙◌, inl, inr, ◌⊎◌}
use Rattle.prefix_lanes.specs.Bits.{PrefixView}
use Rattle.ranked_policy.specs.Plans.{IsRouter, Linked}
use Rattle.ranked_policy.specs.Policies.{Table, Originates, IsPermitted, IsPreferred}
use Rattle.ranked_policy.specs.Choices.{HasPathOver, IsChoice, IsFirst}
use Rattle.stable_paths.specs.Stable.{Problem, IsStable, IsBestOf}
use Rattle.stable_paths.proofs.TableLemmas.{linked_is, own_is}
use Rattle.stable_search.specs.Fits.{GoesOver, FitsAt, FitsPeers, StableIsFitting}

pub not_nil : (x : ℕ) (xs : List ℕ) → x ∷ xs ≡ [] → ⊥
not_nil x xs e = absurd cc

-- the last of one number is that number
last_of_one : (u v : ℕ) (front : List ℕ) → u ∷ [] ≡ front ++ v ∷ [] → u ≡ v
last_of_one u v [] e = cc
last_of_one u v (x ∷ []) e = absurd cc
last_of_one u v (x ∷ y ∷ ys) e = absurd cc

-- a permitted path of a router that isn't the origin has another router behind it
pub no_path_alone : (table : Table) (q : PrefixView) (theirs : List ℕ) → (Originates table q table.router → ⊥) → IsPermitted table q (table.router ∷ theirs) → theirs ≢ []
no_path_alone table q theirs other (inl own) = absurd (other own.0)
no_path_alone table q theirs other (inr x) = λ none.
    let ends = x.1.ends in
    let e : table.router ∷ [] ≡ ends.2.0 ++ ends.0 ∷ [] = ap (λ (r : List ℕ). table.router ∷ r) (sym none) ∙ ends.2.1 in
    other (subst (Originates table q) (sym (last_of_one table.router ends.0 ends.2.0 e)) ends.1)

pub begins_at : (p : Problem) (paths : ℕ → List ℕ) → p.originated ≡ true → IsStable p paths → (v : ℕ) → IsRouter p.net.routers v → (paths v ≡ []) ⊎ ((rest : List ℕ) × (paths v ≡ v ∷ rest))
begins_at p paths is_true stable v router =
    let b = stable v router in
    elim b.2 [
      | inl own ↦ inr ([], own.1 ∙ sym (own_is p b.0.router is_true) ∙ ap (λ (n : ℕ). n ∷ []) b.1.0)
      | inr x ↦ elim x.1 [
        | inl first ↦ inr (first.choice.rest, first.choice.goes_on ∙ ap (λ (n : ℕ). n ∷ first.choice.rest) b.1.0)
        | inr none ↦ inl none.0
      ]
    ]

module _ (p : Problem) (paths : ℕ → List ℕ) (table : Table) where
  abbrev mine : List ℕ
  mine = paths table.router

  -- a choice over the links
  abbrev Choice : List ℕ → Type 0
  Choice = IsChoice (HasPathOver p.net.links paths table.router) table p.prefix

  abbrev First : Type 0
  First = IsFirst (HasPathOver p.net.links paths table.router) table p.prefix mine

  along : (path : List ℕ) → (c : Choice path) → path ≡ table.router ∷ paths c.peer
  along path c = c.goes_on ∙ ap (λ (r : List ℕ). table.router ∷ r) c.heard.1

  -- the path over a peer is a choice
  choice_over : (v : ℕ) → (Originates table p.prefix table.router → ⊥) → Linked p.net.links table.router v → IsPermitted table p.prefix (table.router ∷ paths v)
      → Choice (table.router ∷ paths v)
  choice_over v other linked may = record { peer = v; rest = paths v; heard = (linked, refl); some = no_path_alone table p.prefix (paths v) other may; goes_on = refl; permitted = may }

  fits_first : (v : ℕ) → (Originates table p.prefix table.router → ⊥) → Linked p.net.links table.router v
      → ((w : ℕ) → Linked p.net.links table.router w → (paths w ≡ []) ⊎ ((rest : List ℕ) × (paths w ≡ w ∷ rest)))
      → First → FitsAt table p.prefix v mine (paths v)
  fits_first v other linked begins first = record {
    over = λ rest e. elim (begins first.choice.peer first.choice.heard.0) [
      | inl none ↦ absurd (first.choice.some (first.choice.heard.1 ∙ none))
      | inr on ↦
          let goes = along mine first.choice in
          let same : table.router ∷ v ∷ rest ≡ table.router ∷ first.choice.peer ∷ on.0 = sym e ∙ goes ∙ ap (λ (r : List ℕ). table.router ∷ r) on.1 in
          let peer : first.choice.peer ≡ v = cc in
          goes ∙ ap (λ (w : ℕ). table.router ∷ paths w) peer
    ];
    best = λ may apart. (
      (λ none. not_nil table.router first.choice.rest (sym first.choice.goes_on ∙ none)),
      first.before (table.router ∷ paths v) (choice_over v other linked may) apart,
    );
  }

  fits_none : (v : ℕ) → (Originates table p.prefix table.router → ⊥) → Linked p.net.links table.router v → mine ≡ []
      → ((path : List ℕ) → Choice path → ⊥) → FitsAt table p.prefix v mine (paths v)
  fits_none v other linked empty none = record {
    over = λ rest e. absurd (not_nil table.router (v ∷ rest) (sym e ∙ empty));
    best = λ may apart. absurd (none (table.router ∷ paths v) (choice_over v other linked may));
  }

  goes_over : ((w : ℕ) → Linked p.net.links table.router w → (paths w ≡ []) ⊎ ((rest : List ℕ) × (paths w ≡ w ∷ rest)))
      → First → GoesOver p.net.links table.router mine
  goes_over begins first = elim (begins first.choice.peer first.choice.heard.0) [
    | inl none ↦ absurd (first.choice.some (first.choice.heard.1 ∙ none))
    | inr on ↦ record {
      peer = first.choice.peer;
      rest = on.0;
      linked = first.choice.heard.0;
      whole = along mine first.choice ∙ ap (λ (r : List ℕ). table.router ∷ r) on.1;
    }
  ]

  -- a router that has its best fits its peers
  best_fits : p.originated ≡ true → ((w : ℕ) → Linked p.net.links table.router w → (paths w ≡ []) ⊎ ((rest : List ℕ) × (paths w ≡ w ∷ rest)))
      → IsBestOf p paths table mine → FitsPeers p paths table
  best_fits is_true begins (inl own) = record {
    may = inl (own.0, own.1 ∙ sym (own_is p table.router is_true));
    fits = λ v linked other. absurd (other own.0);
  }
  best_fits is_true begins (inr x) = elim x.1 [
    | inl first ↦ record {
      may = inr (x.0, inr (first.choice.permitted, goes_over begins first));
      fits = λ v linked other. fits_first v other linked begins first;
    }
    | inr none ↦ record {
      may = inr (x.0, inl none.0);
      fits = λ v linked other. fits_none v other linked none.0 none.1;
    }
  ]

  -- and one that fits its peers has its best
  fits_best : p.originated ≡ true → FitsPeers p paths table → IsBestOf p paths table mine
  fits_best is_true all = elim all.may [
    | inl own ↦ inl (own.0, own.1 ∙ own_is p table.router is_true)
    | inr x ↦ inr (
      x.0,
      elim x.1 [
        | inl empty ↦ inr (
          empty,
          λ path c.
              (let may : IsPermitted table p.prefix (table.router ∷ paths c.peer) = subst (IsPermitted table p.prefix) (along path c) c.permitted in
              ((all.fits c.peer c.heard.0 x.0).best may (λ e. not_nil table.router (paths c.peer) (sym e ∙ empty))).0 empty),
        )
        | inr y ↦
            let on : GoesOver p.net.links table.router mine = y.1 in
            let goes : mine ≡ table.router ∷ paths on.peer = (all.fits on.peer on.linked x.0).over on.rest on.whole in
            inl (record {
              choice = record {
                peer = on.peer;
                rest = paths on.peer;
                heard = (on.linked, refl);
                some = no_path_alone table p.prefix (paths on.peer) x.0 (subst (IsPermitted table p.prefix) goes y.0);
                goes_on = goes;
                permitted = y.0;
              };
              before = λ path c apart.
                  (let may : IsPermitted table p.prefix (table.router ∷ paths c.peer) = subst (IsPermitted table p.prefix) (along path c) c.permitted in
                  let better = (all.fits c.peer c.heard.0 x.0).best may (λ e. apart (e ∙ sym (along path c))) in
                  subst (IsPreferred table p.prefix mine) (sym (along path c)) better.1);
            })
      ],
    )
  ]

pub stable_is_fitting : StableIsFitting
stable_is_fitting p is paths = (
  λ stable u router.
      (let b = stable u router in
      let here : IsBestOf p paths b.0 (paths b.0.router) = subst (λ (n : ℕ). IsBestOf p paths b.0 (paths n)) (sym b.1.0) b.2 in (
        b.0,
        b.1,
        best_fits p paths b.0 is.originated
            (λ w linked. begins_at p paths is.originated stable w (linked_is p.net is.problem.network b.0.router w linked)) here,
      )),
  λ fitting u router.
      (let f = fitting u router in
      (f.0, f.1, subst (λ (n : ℕ). IsBestOf p paths f.0 (paths n)) f.1.0 (fits_best p paths f.0 is.originated f.2))),
)
