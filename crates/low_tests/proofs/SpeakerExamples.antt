-- The examples of toy speakers.
use Rattle.std.proofs.Common.{◌≡◌, ℕ, zero, suc, ◌+◌, ◌==◌, if◌then◌else◌, Bool, true, false, List, [], ◌∷◌, ◌++◌, Some, slice_get, refl, sym, ◌∙◌, subst, arith}
use Rattle.std.proofs.lemmas.Bool.Decides.{nat_tests}
use mathlib.Core.List.{IsPrefix}
use Rattle.run_model.specs.Network.{Event, NetworkEvent, NetworkState, alone, puts, takes, offers, put_towards, after, opening, NetworkStep, GetsTheNext, Run, StepsAreTakesInOrder}
use Rattle.run_model.specs.Journals.{events_of, IsJournal}
use Rattle.run_model.specs.CausalOrder.{IsCausal, RunsAreCausalOrders}
use Rattle.run_model.specs.Exchange.{CanPut}
use Rattle.run_model.specs.ThroughCut.{inside, outside, put_outside}
use Rattle.low_tests.specs.Speakers.{Speaker, Word, SpeakerStep, silent, appends, sends, hears, told, foretold, after_one, SpeakersPutsCommute, ToldIsARun, ForetoldIsNoRun, ToldThroughTheCut, NotThroughAnyCut, CountersDoNotCommute}

still_there : (xs ys : List ℕ) (k x : ℕ) → slice_get xs k ≡ Some x → slice_get (xs ++ ys) k ≡ Some x
still_there [] ys k x e = cc
still_there (y ∷ xs) ys zero x e = e
still_there (y ∷ xs) ys (suc k) x e = still_there xs ys k x e

abbrev said : Speaker → Word → Speaker
said s w = record { log = λ v. if w.towards == v then s.log v ++ w.number ∷ [] else s.log v; put = s.put; total = s.total }

abbrev sent : Speaker → ℕ → Speaker
sent s to = record { log = s.log; put = λ v. if to == v then s.put v + 1 else s.put v; total = s.total }

abbrev heard : Speaker → ℕ → Speaker
heard s x = record { log = s.log; put = s.put; total = s.total + x }

logged : (b : Bool) (xs : List ℕ) (n k x : ℕ) → slice_get xs k ≡ Some x → slice_get (if b then xs ++ n ∷ [] else xs) k ≡ Some x
logged true xs n k x e = still_there xs (n ∷ []) k x e
logged false xs n k x e = e

apart : (v to y : ℕ) (b : Bool) → (to == v) ≡ b → (if b then y ∷ [] else []) ≡ [] → (to == v) ≡ false
apart v to y true is none = cc
apart v to y false is none = is

turned : (a b : ℕ) → (a == b) ≡ false → (b == a) ≡ false
turned a b h = grind (arith, nat_tests, h)

either_order : (b c : Bool) (n : ℕ) → (if b then (if c then n + 1 else n) + 1 else (if c then n + 1 else n)) ≡ (if c then (if b then n + 1 else n) + 1 else (if b then n + 1 else n))
either_order true true n = refl
either_order true false n = refl
either_order false true n = refl
either_order false false n = refl

commute : (u v x : ℕ) (e : Event Word ℕ ℕ) (old done put : Speaker) → put_towards v e ≡ [] → SpeakerStep u old e done → SpeakerStep u old (puts v x) put
    → (both : Speaker) × SpeakerStep u done (puts v x) both × SpeakerStep u put e both
commute u v x (alone w) old done put none did can =
    let both = sent (said old w) v in (
      both,
      subst (λ s. SpeakerStep u s (puts v x) both) (sym did) (logged (w.towards == v) (old.log v) w.number (old.put v) x can.0, refl),
      subst (λ s. SpeakerStep u s (alone w) both) (sym can.1) refl,
    )
commute u v x (puts to y) old done put none did can =
    let both = sent (sent old to) v in
    let other = apart v to y (to == v) refl none in
    let back = turned to v other in
    let here : slice_get (old.log v) (if to == v then old.put v + 1 else old.put v) ≡ Some x = rw other can.0 in
    let there : slice_get (old.log to) (if v == to then old.put to + 1 else old.put to) ≡ Some y = rw back did.0 in
    let same : both ≡ sent (sent old v) to = λ i. record { log = old.log; put = λ k. either_order (v == k) (to == k) (old.put k) i; total = old.total } in (
      both,
      subst (λ s. SpeakerStep u s (puts v x) both) (sym did.1) (here, refl),
      subst (λ s. SpeakerStep u s (puts to y) both) (sym can.1) (there, same),
    )
commute u v x (takes from y) old done put none did can =
    let both = sent (heard old y) v in
    (both, subst (λ s. SpeakerStep u s (puts v x) both) (sym did) (can.0, refl), subst (λ s. SpeakerStep u s (takes from y) both) (sym can.1) refl)
commute u v x (offers n) old done put none did can =
    let both = sent old v in (
      both,
      subst (λ s. SpeakerStep u s (puts v x) both) (sym did.1) (can.0, refl),
      subst (λ s. SpeakerStep u s (offers n) both) (sym can.1) (did.0, refl),
    )

pub speakers_puts_commute : SpeakersPutsCommute
speakers_puts_commute =
    record {
      one = λ u v x old first second a b. a.1 ∙ sym b.1;
      commute = commute;
    }

zero_is_not_one : (x : ℕ) → x ≡ 0 → x ≡ 1 → ⊥
zero_is_not_one x e f = absurd (omega arith)

pub counters_do_not_commute : CountersDoNotCommute
counters_do_not_commute law =
    let none : put_towards {Own = ℕ} {Item = ℕ} {Offer = ℕ} 1 (alone 1) ≡ [] = refl in
    let both = law.commute 0 1 0 (alone 1) 0 1 0 none (omega arith) (refl, refl) in
    zero_is_not_one 0 refl both.1.0

-- a run, step by step; the laws that it needs are those of the network, at speakers
abbrev Flows : NetworkState Speaker ℕ ℕ → Type 0
Flows s = (u v : ℕ) → IsPrefix (s.taken u v) (s.put u v)

abbrev Takes : Type 0
Takes = StepsAreTakesInOrder SpeakerStep

abbrev Orders : Type 0
Orders = RunsAreCausalOrders SpeakerStep

goes : Takes → (old : NetworkState Speaker ℕ ℕ) (d : NetworkEvent Word ℕ ℕ) (own : Speaker) → Flows old → SpeakerStep d.router (old.routers d.router) d.event own → GetsTheNext old d.router d.event
    → NetworkStep SpeakerStep old d (after SpeakerStep old d own)
goes takes_law old d own flows did gets = (takes_law old (after SpeakerStep old d own) d flows).1 (own, did, refl) gets

abbrev s1 : Speaker
s1 = said (silent 0) (record { towards = 1; number = 7 })

abbrev s2 : Speaker
s2 = said s1 (record { towards = 1; number = 9 })

abbrev n0 : NetworkState Speaker ℕ ℕ
n0 = opening silent

abbrev n1 : NetworkState Speaker ℕ ℕ
n1 = after SpeakerStep n0 (appends 0 1 7) s1

abbrev n2 : NetworkState Speaker ℕ ℕ
n2 = after SpeakerStep n1 (appends 0 1 9) s2

abbrev n3 : NetworkState Speaker ℕ ℕ
n3 = after SpeakerStep n2 (sends 0 1 7) (sent s2 1)

abbrev n4 : NetworkState Speaker ℕ ℕ
n4 = after SpeakerStep n3 (hears 1 0 7) (heard (silent 1) 7)

told_runs : Takes → Run SpeakerStep n0 told n4
told_runs takes_law =
    let g1 = goes takes_law n0 (appends 0 1 7) s1 (λ u v. ([], refl)) refl tt in
    let g2 = goes takes_law n1 (appends 0 1 9) s2 g1.3 refl tt in
    let g3 = goes takes_law n2 (sends 0 1 7) (sent s2 1) g2.3 (refl, refl) tt in
    let g4 = goes takes_law n3 (hears 1 0 7) (heard (silent 1) 7) g3.3 refl refl in
    (n1, g1, (n2, g2, (n3, g3, (n4, g4, refl))))

told_causal : Takes → Orders → IsCausal told
told_causal takes_law orders_law u v front rest e = (orders_law silent told n4 (told_runs takes_law)).1 u v front rest e

pub told_is_a_run : Takes → Orders → ToldIsARun
told_is_a_run takes_law orders_law = ((n4, told_runs takes_law, refl, refl, refl), (λ u v front rest e. told_causal takes_law orders_law u v front rest e))

-- 0 and 1 are two routers
never_both : (u : ℕ) → (0 == u) ≡ true → (1 == u) ≡ true → ⊥
never_both u p q = absurd (grind (arith, nat_tests, p, q))

foretold_by : (u : ℕ) (b c : Bool) → (0 == u) ≡ b → (1 == u) ≡ c → events_of u foretold ≡ events_of u told
foretold_by u true true p q = absurd (never_both u p q)
foretold_by u true false p q = simp (p, q) refl
foretold_by u false true p q = simp (p, q) refl
foretold_by u false false p q = simp (p, q) refl

not_causal : IsCausal foretold → ⊥
not_causal c =
    let p = c 0 1 (hears 1 0 7 ∷ []) (appends 0 1 7 ∷ appends 0 1 9 ∷ sends 0 1 7 ∷ []) refl in
    let e : 7 ∷ p.0 ≡ [] = p.1 in
    cc

pub foretold_is_no_run : Orders → ForetoldIsNoRun
foretold_is_no_run orders_law = (
  (λ u. foretold_by u (0 == u) (1 == u) refl refl),
  not_causal,
  (λ last run. not_causal (λ u v front rest e. (orders_law silent foretold last run).1 u v front rest e)),
)

abbrev at_one : ℕ → Speaker
at_one u = if 0 == u then s1 else (if 1 == u then heard (silent 1) 7 else silent u)

leads_in : (u : ℕ) (b c : Bool) → (0 == u) ≡ b → (1 == u) ≡ c → IsJournal SpeakerStep u (silent u) (inside after_one told u) (at_one u)
leads_in u true true p q = absurd (never_both u p q)
leads_in u true false p q = simp (p, q) (s1, refl, refl)
leads_in u false true p q = simp (p, q) (heard (silent 1) 7, refl, refl)
leads_in u false false p q = simp (p, q) refl

leads_out : (u : ℕ) (b c : Bool) → (0 == u) ≡ b → (1 == u) ≡ c → IsJournal SpeakerStep u (at_one u) (outside after_one told u) (n4.routers u)
leads_out u true true p q = absurd (never_both u p q)
leads_out u true false p q = simp (p, q) (s2, refl, (sent s2 1, (refl, refl), refl))
leads_out u false true p q = simp (p, q) refl
leads_out u false false p q = simp (p, q) refl

can_by : (u v : ℕ) (b c d e : Bool) → (0 == u) ≡ b → (1 == u) ≡ c → (0 == v) ≡ d → (1 == v) ≡ e → CanPut SpeakerStep u (at_one u) v (put_outside after_one told u v)
can_by u v true true d e p q r s = absurd (never_both u p q)
can_by u v b c true true p q r s = absurd (never_both v r s)
can_by u v true false false true p q r s = simp (p, q, r, s) (sent s1 v, (refl, refl), tt)
can_by u v true false true false p q r s = simp (p, q, r, s) tt
can_by u v true false false false p q r s = simp (p, q, r, s) tt
can_by u v false true true false p q r s = simp (p, q, r, s) tt
can_by u v false true false true p q r s = simp (p, q, r, s) tt
can_by u v false true false false p q r s = simp (p, q, r, s) tt
can_by u v false false true false p q r s = simp (p, q, r, s) tt
can_by u v false false false true p q r s = simp (p, q, r, s) tt
can_by u v false false false false p q r s = simp (p, q, r, s) tt

pub told_through_the_cut : Takes → ToldThroughTheCut
told_through_the_cut takes_law = (
  refl,
  refl,
  (
    at_one,
    n4,
    told_runs takes_law,
    record {
      states = record {
        inside_leads = λ u. leads_in u (0 == u) (1 == u) refl refl;
        outside_leads = λ u. leads_out u (0 == u) (1 == u) refl refl;
      };
      appended_inside = λ u v. can_by u v (0 == u) (1 == u) (0 == v) (1 == v) refl refl refl refl;
    },
  ),
)

no_such : (xs : List ℕ) (x : ℕ) → xs ≡ [] → slice_get xs 0 ≡ Some x → ⊥
no_such [] x e f = cc
no_such (y ∷ xs) x e f = cc

-- a cut that is not consistent: what 1 heard, and nothing of 0
abbrev heard_alone : ℕ → ℕ
heard_alone u = if 1 == u then 1 else 0

abbrev at_none : ℕ → Speaker
at_none u = if 1 == u then heard (silent 1) 7 else silent u

alone_in : (u : ℕ) (b c : Bool) → (0 == u) ≡ b → (1 == u) ≡ c → IsJournal SpeakerStep u (silent u) (inside heard_alone told u) (at_none u)
alone_in u true true p q = absurd (never_both u p q)
alone_in u true false p q = simp (p, q) refl
alone_in u false true p q = simp (p, q) (heard (silent 1) 7, refl, refl)
alone_in u false false p q = simp (p, q) refl

alone_out : (u : ℕ) (b c : Bool) → (0 == u) ≡ b → (1 == u) ≡ c → IsJournal SpeakerStep u (at_none u) (outside heard_alone told u) (n4.routers u)
alone_out u true true p q = absurd (never_both u p q)
alone_out u true false p q = simp (p, q) (s1, refl, (s2, refl, (sent s2 1, (refl, refl), refl)))
alone_out u false true p q = simp (p, q) refl
alone_out u false false p q = simp (p, q) refl

pub not_through_any_cut : Takes → NotThroughAnyCut
not_through_any_cut takes_law law =
    let r = law heard_alone told silent at_none n4 speakers_puts_commute (told_runs takes_law)
    (record { inside_leads = λ u. alone_in u (0 == u) (1 == u) refl refl; outside_leads = λ u. alone_out u (0 == u) (1 == u) refl refl }) in
    let j = r.1.early_leads 0 in
    no_such [] 7 refl j.1.0
