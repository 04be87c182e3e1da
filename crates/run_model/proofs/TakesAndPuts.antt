-- The two forms of causal say the same, and a run is a causal order of its routers' journals.
use Rattle.std.proofs.Common.{◌≡◌, ℕ, ◌==◌, if◌then◌else◌, ◌⊎◌, inl, inr, ⊎_elim, Bool, true, false, List, [], ◌∷◌, ◌++◌, length, Some, slice_get, refl, sym, ap, ◌∙◌, subst, append_assoc}
use Rattle.std.proofs.lemmas.List.{append-nil}
use Rattle.std.proofs.lemmas.Bool.{eq-eqb, eqb-true}
use mathlib.Core.List.{IsPrefix}
use Rattle.run_model.specs.Network.{Order, Steps, Event, NetworkEvent, NetworkState, alone, puts, takes, offers, put_towards, put_between, taken_between, puts_in, takes_in, after, opening, Run}
use Rattle.run_model.specs.Journals.{events_of, IsJournal}
use Rattle.run_model.specs.CausalOrder.{IsCausal, EachTakeHasItsPut, TakesHaveTheirPuts, RunsAreCausalOrders}
use Rattle.run_model.proofs.Runs.{puts_in-append, takes_in-append, end, end-after, end-none}
use Rattle.run_model.proofs.SameLists.{decide}

module _ {A : Type 0} where
  -- the element behind a beginning
  pub behind : (xs : List A) (x : A) (ys : List A) → slice_get (xs ++ x ∷ ys) (length xs) ≡ Some x
  behind [] x ys = refl
  behind (y ∷ xs) x ys = behind xs x ys

  -- a beginning and the element behind it are a beginning
  pub longer : (xs all : List A) (x : A) → IsPrefix xs all → slice_get all (length xs) ≡ Some x → IsPrefix (xs ++ x ∷ []) all
  longer [] [] x p e = cc
  longer [] (y ∷ all) x p e = let same : y ≡ x = cc in (all, (λ i. sym same i ∷ all))
  longer (z ∷ xs) [] x p e = let f : z ∷ (xs ++ p.0) ≡ [] = p.1 in cc
  longer (z ∷ xs) (y ∷ all) x p e =
      let f : z ∷ (xs ++ p.0) ≡ y ∷ all = p.1 in
      let g : xs ++ p.0 ≡ all = cc in
      let h : z ≡ y = cc in
      let r = longer xs all x (p.0, g) e in
      (r.0, (λ i. h i ∷ r.1 i))

  nothing_yet : (xs ys : List A) → IsPrefix xs ys → IsPrefix (xs ++ []) (ys ++ [])
  nothing_yet xs ys p = (p.0, ap (λ l. l ++ p.0) (append-nil xs) ∙ p.1 ∙ sym (append-nil ys))

module _ {Own Item Offer : Type 0} where
  abbrev pub taking : ℕ → ℕ → Item → NetworkEvent Own Item Offer
  taking u v x = record { router = v; event = takes u x }

  taking_puts_none : (u v : ℕ) (x : Item) (b : Bool) (d : NetworkEvent Own Item Offer) → d ≡ taking u v x → (if b then put_towards v d.event else []) ≡ []
  taking_puts_none u v x true d is = ap (λ (c : NetworkEvent Own Item Offer). put_towards v c.event) is
  taking_puts_none u v x false d is = refl

  pub no_put : (u v : ℕ) (x : Item) (d : NetworkEvent Own Item Offer) → d ≡ taking u v x → put_between u v d ≡ []
  no_put u v x d is = taking_puts_none u v x (d.router == u) d is

  pub its_take : (u v : ℕ) (x : Item) (d : NetworkEvent Own Item Offer) → d ≡ taking u v x → taken_between u v d ≡ x ∷ []
  its_take u v x d is = ap (taken_between u v) is ∙ rw (eq-eqb v v refl, eq-eqb u u refl) refl

  forward : (order : Order Own Item Offer) → IsCausal order → EachTakeHasItsPut order
  forward order c u v x front rest e =
      let p = c u v (front ++ taking u v x ∷ []) rest (e ∙ sym (append_assoc front (taking u v x ∷ []) rest)) in
      let t : takes_in u v (front ++ taking u v x ∷ []) ≡ takes_in u v front ++ x ∷ [] =
      takes_in-append u v front (taking u v x ∷ []) ∙ ap (λ l. takes_in u v front ++ (l ++ [])) (its_take u v x (taking u v x) refl) in
      let q : puts_in u v (front ++ taking u v x ∷ []) ≡ puts_in u v front =
      puts_in-append u v front (taking u v x ∷ []) ∙ ap (λ l. puts_in u v front ++ (l ++ [])) (no_put u v x (taking u v x) refl) ∙ append-nil (puts_in u v front) in
      let all : (takes_in u v front ++ x ∷ []) ++ p.0 ≡ puts_in u v front = ap (λ l. l ++ p.0) (sym t) ∙ p.1 ∙ q in
      ap (λ l. slice_get l (length (takes_in u v front))) (sym all ∙ append_assoc (takes_in u v front) (x ∷ []) p.0) ∙ behind (takes_in u v front) x p.0

  pub which : (u v w : ℕ) (e : Event Own Item Offer) (b : Bool) → (w == v) ≡ b
      → (taken_between u v (record { router = w; event = e }) ≡ []) ⊎ ((x : Item) × (record { router = w; event = e } ≡ taking u v x))
  which u v w (alone e) true is = rw is (inl refl)
  which u v w (puts to x) true is = rw is (inl refl)
  which u v w (offers o) true is = rw is (inl refl)
  which u v w e false is = rw is (inl refl)
  which u v w (takes from x) true is =
      ⊎_elim (λ (t : (from == u) ≡ true). inr (x, (λ i. record { router = eqb-true w v is i; event = takes (eqb-true from u t i) x })))
      (λ (f : (from == u) ≡ false). rw (is, f) (inl refl)) (decide (from == u))

  next_flows : (u v : ℕ) (done : Order Own Item Offer) (d : NetworkEvent Own Item Offer)
      → ((x : Item) → d ≡ taking u v x → slice_get (puts_in u v done) (length (takes_in u v done)) ≡ Some x)
      → IsPrefix (takes_in u v done) (puts_in u v done) → (taken_between u v d ≡ []) ⊎ ((x : Item) × (d ≡ taking u v x))
      → IsPrefix (takes_in u v (done ++ d ∷ [])) (puts_in u v (done ++ d ∷ []))
  next_flows u v done d each p (inl e) =
      let t : takes_in u v (done ++ d ∷ []) ≡ takes_in u v done = takes_in-append u v done (d ∷ []) ∙ ap (λ l. takes_in u v done ++ (l ++ [])) e ∙ append-nil (takes_in u v done) in
      let q : puts_in u v (done ++ d ∷ []) ≡ puts_in u v done ++ puts_in u v (d ∷ []) = puts_in-append u v done (d ∷ []) in
      (p.0 ++ puts_in u v (d ∷ []), ap (λ l. l ++ (p.0 ++ puts_in u v (d ∷ []))) t ∙ sym (append_assoc (takes_in u v done) p.0 (puts_in u v (d ∷ []))) ∙ ap (λ l. l ++ puts_in u v (d ∷ [])) p.1 ∙ sym q)
  next_flows u v done d each p (inr h) =
      let x = h.0 in
      let t : takes_in u v (done ++ d ∷ []) ≡ takes_in u v done ++ x ∷ [] =
      takes_in-append u v done (d ∷ []) ∙ ap (λ l. takes_in u v done ++ (l ++ [])) (its_take u v x d h.1) in
      let q : puts_in u v (done ++ d ∷ []) ≡ puts_in u v done =
      puts_in-append u v done (d ∷ []) ∙ ap (λ l. puts_in u v done ++ (l ++ [])) (no_put u v x d h.1) ∙ append-nil (puts_in u v done) in
      let r = longer (takes_in u v done) (puts_in u v done) x p (each x h.1) in
      (r.0, ap (λ l. l ++ r.0) t ∙ r.1 ∙ sym q)

  flows_on : (order : Order Own Item Offer) → EachTakeHasItsPut order → (u v : ℕ) (done front rest : Order Own Item Offer) → order ≡ done ++ (front ++ rest)
      → IsPrefix (takes_in u v done) (puts_in u v done) → IsPrefix (takes_in u v (done ++ front)) (puts_in u v (done ++ front))
  flows_on order each u v done [] rest e p = subst (λ l. IsPrefix (takes_in u v l) (puts_in u v l)) (sym (append-nil done)) p
  flows_on order each u v done (d ∷ front) rest e p =
      subst (λ l. IsPrefix (takes_in u v l) (puts_in u v l)) (append_assoc done (d ∷ []) front)
      (flows_on order each u v (done ++ d ∷ []) front rest (e ∙ sym (append_assoc done (d ∷ []) (front ++ rest)))
      (next_flows u v done d (λ x is. each u v x done (front ++ rest) (e ∙ ap (λ h. done ++ h ∷ (front ++ rest)) is)) p (which u v d.router d.event (d.router == v) refl)))

  backward : (order : Order Own Item Offer) → EachTakeHasItsPut order → IsCausal order
  backward order each u v front rest e = flows_on order each u v [] front rest e ([], refl)

  pub takes_have_their_puts : TakesHaveTheirPuts Own Item Offer
  takes_have_their_puts order = (forward order, backward order)

module _ {State Own Item Offer : Type 0} (step : Steps State Own Item Offer) where
  -- what a run shows of the events that it has
  pub record Shows (old : NetworkState State Item Offer) (ds : Order Own Item Offer) (new : NetworkState State Item Offer) : Type 0 where
    pub journals : (u : ℕ) → IsJournal step u (old.routers u) (events_of u ds) (new.routers u)
    pub flows : (u v : ℕ) (front rest : Order Own Item Offer) → ds ≡ front ++ rest → IsPrefix (old.taken u v ++ takes_in u v front) (old.put u v ++ puts_in u v front)
    pub ends : new ≡ end step old new.routers ds

  none : (old : NetworkState State Item Offer) (u v : ℕ) (front rest : Order Own Item Offer) → ((u v : ℕ) → IsPrefix (old.taken u v) (old.put u v)) → [] ≡ front ++ rest
      → IsPrefix (old.taken u v ++ takes_in u v front) (old.put u v ++ puts_in u v front)
  none old u v [] rest p e = nothing_yet (old.taken u v) (old.put u v) (p u v)
  none old u v (d ∷ front) rest p e = cc

  joined : (u : ℕ) (old own new : State) (d : NetworkEvent Own Item Offer) (ds : Order Own Item Offer) (b : Bool) → (b ≡ true → step u old d.event own)
      → IsJournal step u (if b then own else old) (events_of u ds) new → IsJournal step u old ((if b then d.event ∷ [] else []) ++ events_of u ds) new
  joined u old own new d ds true did j = (own, did refl, j)
  joined u old own new d ds false did j = j

  flows_first : (old : NetworkState State Item Offer) (d : NetworkEvent Own Item Offer) (own : State) (ds : Order Own Item Offer) (u v : ℕ) (front rest : Order Own Item Offer)
      → IsPrefix (old.taken u v) (old.put u v)
      → ((front rest : Order Own Item Offer) → ds ≡ front ++ rest
      → IsPrefix ((old.taken u v ++ taken_between u v d) ++ takes_in u v front) ((old.put u v ++ put_between u v d) ++ puts_in u v front))
      → d ∷ ds ≡ front ++ rest → IsPrefix (old.taken u v ++ takes_in u v front) (old.put u v ++ puts_in u v front)
  flows_first old d own ds u v [] rest p later e = nothing_yet (old.taken u v) (old.put u v) p
  flows_first old d own ds u v (c ∷ front) rest p later e =
      let same : d ≡ c = cc in let left : ds ≡ front ++ rest = cc in
      let r = later front rest left in
      subst (λ c. IsPrefix (old.taken u v ++ (taken_between u v c ++ takes_in u v front)) (old.put u v ++ (put_between u v c ++ puts_in u v front))) same (
        r.0,
        ap (λ l. l ++ r.0) (sym (append_assoc (old.taken u v) (taken_between u v d) (takes_in u v front))) ∙ r.1 ∙ append_assoc (old.put u v) (put_between u v d) (puts_in u v front),
      )

  pub shows : (old : NetworkState State Item Offer) (ds : Order Own Item Offer) (new : NetworkState State Item Offer)
      → ((u v : ℕ) → IsPrefix (old.taken u v) (old.put u v)) → Run step old ds new → Shows old ds new
  shows old [] new p r =
      subst (λ s. Shows old [] s) r
      (record {
        journals = λ u. refl;
        flows = λ u v front rest e. none old u v front rest p e;
        ends = end-none step old old.routers (λ u. refl);
      })
  shows old (d ∷ ds) new p r =
      let own = r.1.0 in
      let next : NetworkState State Item Offer = after step old d own in
      let rest : Run step next ds new = subst (λ s. Run step s ds new) r.1.2 r.2 in
      let p' : (u v : ℕ) → IsPrefix (next.taken u v) (next.put u v) = subst (λ s. (u v : ℕ) → IsPrefix (s.taken u v) (s.put u v)) r.1.2 r.1.3 in
      let later = shows next ds new p' rest in
      record {
        journals = λ u.
            joined u (old.routers u) own (new.routers u) d ds (d.router == u) (λ is. subst (λ w. step w (old.routers w) d.event own) (eqb-true d.router u is) r.1.1) (later.journals u);
        flows = λ u v front rest e. flows_first old d own ds u v front rest (p u v) (later.flows u v) e;
        ends = later.ends ∙ end-after step old new.routers d own ds;
      }

  pub runs_are_causal_orders : RunsAreCausalOrders step
  runs_are_causal_orders start order last run =
      let s = shows (opening start) order last (λ u v. ([], refl)) run in (s.journals, (λ u v front rest e. s.flows u v front rest e), s.ends)
