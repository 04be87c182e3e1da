-- Every causal order of journals is a run.
use Rattle.std.proofs.Common.{◌≡◌, ℕ, ◌==◌, if◌then◌else◌, Bool, true, false, List, [], ◌∷◌, ◌++◌, refl, sym, ap, ◌∙◌, subst, append_assoc}
use Rattle.std.proofs.lemmas.List.{append-nil}
use Rattle.std.proofs.lemmas.Bool.{eq-eqb, eqb-true}
use mathlib.Core.List.{IsPrefix}
use Rattle.run_model.specs.Network.{Order, Steps, NetworkEvent, NetworkState, put_between, taken_between, offered_by, puts_in, takes_in, offers_in, after, Run, opening}
use Rattle.run_model.specs.Journals.{events_of, event_of, IsJournal}
use Rattle.run_model.specs.CausalOrder.{CausalOrdersAreRuns, closing}

module _ {A : Type 0} where
  trim : (a b c d : List A) → IsPrefix (c ++ (d ++ [])) (a ++ (b ++ [])) → IsPrefix (c ++ d) (a ++ b)
  trim a b c d h = (h.0, ap (λ l. (c ++ l) ++ h.0) (sym (append-nil d)) ∙ h.1 ∙ ap (λ l. a ++ l) (append-nil b))

  pub regroup : (a b x c d y : List A) → IsPrefix (c ++ (d ++ y)) (a ++ (b ++ x)) → IsPrefix ((c ++ d) ++ y) ((a ++ b) ++ x)
  regroup a b x c d y h = (h.0, ap (λ l. l ++ h.0) (append_assoc c d y) ∙ h.1 ∙ sym (append_assoc a b x))

module _ {Own Item Offer : Type 0} where
  pub puts_in-append : (u v : ℕ) (xs ys : Order Own Item Offer) → puts_in u v (xs ++ ys) ≡ puts_in u v xs ++ puts_in u v ys
  puts_in-append u v [] ys = refl
  puts_in-append u v (x ∷ xs) ys = ap (λ l. put_between u v x ++ l) (puts_in-append u v xs ys) ∙ sym (append_assoc (put_between u v x) (puts_in u v xs) (puts_in u v ys))

  pub takes_in-append : (u v : ℕ) (xs ys : Order Own Item Offer) → takes_in u v (xs ++ ys) ≡ takes_in u v xs ++ takes_in u v ys
  takes_in-append u v [] ys = refl
  takes_in-append u v (x ∷ xs) ys = ap (λ l. taken_between u v x ++ l) (takes_in-append u v xs ys) ∙ sym (append_assoc (taken_between u v x) (takes_in u v xs) (takes_in u v ys))

module _ {State Own Item Offer : Type 0} (step : Steps State Own Item Offer) where
  -- the state after the events
  abbrev pub end : NetworkState State Item Offer → (ℕ → State) → Order Own Item Offer → NetworkState State Item Offer
  end old finish ds =
      record {
        routers = finish;
        put = λ u v. old.put u v ++ puts_in u v ds;
        taken = λ u v. old.taken u v ++ takes_in u v ds;
        offered = old.offered ++ offers_in ds;
      }

  -- in every beginning of the events, what is taken by then was put by then
  abbrev pub Flows : NetworkState State Item Offer → Order Own Item Offer → Type 0
  Flows old ds = (u v : ℕ) (front rest : Order Own Item Offer) → ds ≡ front ++ rest → IsPrefix (old.taken u v ++ takes_in u v front) (old.put u v ++ puts_in u v front)

  pub end-after : (old : NetworkState State Item Offer) (finish : ℕ → State) (d : NetworkEvent Own Item Offer) (own : State) (ds : Order Own Item Offer)
      → end (after step old d own) finish ds ≡ end old finish (d ∷ ds)
  end-after old finish d own ds i =
      record {
        routers = finish;
        put = λ u v. append_assoc (old.put u v) (put_between u v d) (puts_in u v ds) i;
        taken = λ u v. append_assoc (old.taken u v) (taken_between u v d) (takes_in u v ds) i;
        offered = append_assoc old.offered (offered_by d.event) (offers_in ds) i;
      }

  pub end-none : (old : NetworkState State Item Offer) (finish : ℕ → State) → ((u : ℕ) → old.routers u ≡ finish u) → old ≡ end old finish []
  end-none old finish same i =
      record {
        routers = λ u. same u i;
        put = λ u v. sym (append-nil (old.put u v)) i;
        taken = λ u v. sym (append-nil (old.taken u v)) i;
        offered = sym (append-nil old.offered) i;
      }

  first_by : (u : ℕ) (old new : State) (d : NetworkEvent Own Item Offer) (ds : Order Own Item Offer) (b : Bool) → b ≡ true
      → IsJournal step u old ((if b then d.event ∷ [] else []) ++ events_of u ds) new → (next : State) × step u old d.event next × IsJournal step u next (events_of u ds) new
  first_by u old new d ds true e j = j
  first_by u old new d ds false e j = cc

  -- the first event of a journal
  first : (d : NetworkEvent Own Item Offer) (old new : State) (ds : Order Own Item Offer)
      → IsJournal step d.router old (event_of d.router d ++ events_of d.router ds) new
      → (next : State) × step d.router old d.event next × IsJournal step d.router next (events_of d.router ds) new
  first d old new ds j = first_by d.router old new d ds (d.router == d.router) (eq-eqb d.router d.router refl) j

  others_by : (u : ℕ) (old next new : State) (d : NetworkEvent Own Item Offer) (ds : Order Own Item Offer) (b : Bool) → (b ≡ true → IsJournal step u next (events_of u ds) new)
      → IsJournal step u old ((if b then d.event ∷ [] else []) ++ events_of u ds) new
      → IsJournal step u (if b then next else old) (events_of u ds) new
  others_by u old next new d ds true mine j = mine refl
  others_by u old next new d ds false mine j = j

  pub runs : (old : NetworkState State Item Offer) (finish : ℕ → State) (ds : Order Own Item Offer) → ((u : ℕ) → IsJournal step u (old.routers u) (events_of u ds) (finish u))
      → Flows old ds → Run step old ds (end old finish ds)
  runs old finish [] j f = end-none old finish j
  runs old finish (d ∷ ds) j f =
      let a = first d (old.routers d.router) (finish d.router) ds (j d.router) in
      let m : NetworkState State Item Offer = after step old d a.0 in (
        m,
        (a.0, a.1, refl, λ u v. trim (old.put u v) (put_between u v d) (old.taken u v) (taken_between u v d) (f u v (d ∷ []) ds refl)),
        subst (Run step m ds) (end-after old finish d a.0 ds)
            (runs m finish ds
            (λ u. others_by u (old.routers u) a.0 (finish u) d ds (d.router == u)
            (λ e. subst (λ w. IsJournal step w a.0 (events_of w ds) (finish w)) (eqb-true d.router u e) a.2) (j u))
            (λ u v front rest e.
            regroup (old.put u v) (put_between u v d) (puts_in u v front) (old.taken u v) (taken_between u v d) (takes_in u v front)
            (f u v (d ∷ front) rest (ap (λ l. d ∷ l) e)))),
      )

  pub every : CausalOrdersAreRuns step
  every start finish journal collected order journals causal =
      subst (λ o. Run step (opening start) order (closing finish o order)) causal.collected_so
      (runs (opening start) finish order (λ u. subst (λ es. IsJournal step u (start u) es (finish u)) (sym (causal.journals u)) (journals u)) (λ u v front rest e. causal.causal u v front rest e))
