-- Steps of routers with their logs: an event leads to one state, puts commute, and what is left where a router only puts.
use Rattle.std.proofs.Common.{◌≡◌, ℕ, suc, ◌==◌, Bool, true, false, cond, List, [], ◌∷◌, ◌++◌, length, drop, refl, ap, sym, subst, ◌∙◌, append_assoc, arith}
use Rattle.std.specs.Prelude.{if◌then◌else◌}
use Rattle.std.specs.List.{All}
use Rattle.std.proofs.lemmas.List.{append-nil}
use Rattle.std.proofs.lemmas.Bool.{eq-eqb, eqb-true}
use Rattle.std.proofs.Math.Path.{fun_ext}
use Rattle.std.proofs.Math.Seq.{drop-append_seam}
use mathlib.Core.List.{IsPrefix}
use Rattle.bgp_codec.specs.declared.message.Message.{Message}
use Rattle.ranked_policy.specs.Plans.{IsRouter}
use Rattle.run_model.specs.Links.{Entry}
use Rattle.run_model.specs.Network.{puts, put_towards, taken_from, alone, takes, offers}
use Rattle.run_model.specs.Journals.{IsJournal, puts_towards, takes_from}
use Rattle.run_model.specs.Exchange.{CanPut, PutsCommute}
use Rattle.run_model.specs.ThroughCut.{IsPut}
use Rattle.outbox.specs.Items.{passes}
use Rattle.outbox.specs.declared.item.What.{What}
use Rattle.router_model.specs.Settings.{Setting, linked}
use Rattle.router_model.specs.Sides.{Side}
use Rattle.router_model.specs.State.{Router}
use Rattle.router_model.specs.Step.{RouterEvent, HasSize, after, says, put_from}
use Rattle.router_model.specs.Laws.{RouterPutsCommute, PutsLeaveWhatIsSaid, all_passes}
use Rattle.router_runs.specs.Runs.{Logged, LoggedStep, logged_steps}
use Rattle.run_cuts.specs.ThroughSnapshot.{with_outboxes, HasOnlyPut}

-- ---- an event leads to one state

module _ (g : Setting) (u : ℕ) where
  pub same_after : (x y z : Logged) (e : RouterEvent) → LoggedStep g u x e y → LoggedStep g u x e z → y ≡ z
  same_after x y z e a b i = record { router = (a.step.leaves ∙ sym b.step.leaves) i; log = (a.log ∙ sym b.log) i }

  pub same_end : (es : List RouterEvent) (x y z : Logged) → IsJournal (logged_steps g) u x es y → IsJournal (logged_steps g) u x es z → y ≡ z
  same_end [] x y z a b = sym a ∙ b
  same_end (e ∷ es) x y z a b =
      let same : a.0 ≡ b.0 = same_after x a.0 b.0 e a.1 b.1 in
      same_end es b.0 y z (subst (λ (w : Logged). IsJournal (logged_steps g) u w es y) same a.2) b.2

-- ---- puts commute

pub logged_puts_commute : RouterPutsCommute → PutsLeaveWhatIsSaid → (g : Setting) → PutsCommute (logged_steps g)
logged_puts_commute commute said g = record {
  one = λ u v x old first second a b. same_after g u old first second (puts v x) a b;
  commute = λ u v x e old done put none a b. both u v x e old done put none a b;
}
  where
    both : (u v : ℕ) (x : What) (e : RouterEvent) (old done put : Logged) → put_towards v e ≡ [] → LoggedStep g u old e done → LoggedStep g u old (puts v x) put
        → (new : Logged) × LoggedStep g u done (puts v x) new × LoggedStep g u put e new
    both u v x e old done put none a b =
        let r = (commute g).commute u v x e old.router done.router put.router none a.step b.step in
        let log : ℕ → List (Entry Message) = λ w. done.log w ++ [] in
        let same : (w : ℕ) → done.log w ++ [] ≡ put.log w ++ says g u put.router e w =
        λ w. append-nil (done.log w) ∙ ap (λ f. f w) a.log ∙ ap (λ l. l ++ says g u old.router e w) (sym (ap (λ f. f w) b.log ∙ append-nil (old.log w)))
        ∙ ap (λ l. put.log w ++ l) (sym (said g u v x old.router put.router b.step e w)) in (
          record { router = r.0; log = log },
          record { known = a.known; step = r.1; log = refl },
          record { known = a.known; step = r.2; log = fun_ext same },
        )

-- ---- what a router is once it has only put

put_one : (b : Bool) (s : Side) (i : What) → cond b (put_from s i) s ≡ record s { outbox = (cond b (put_from s i) s).outbox }
put_one true s i = refl
put_one false s i = refl

pub only_one : (g : Setting) (u v : ℕ) (i : What) (x y : Logged) → LoggedStep g u x (puts v i) y → HasOnlyPut x y
only_one g u v i x y did = record {
  router = did.step.leaves ∙ ap (λ s. record x.router { sides = s }) (fun_ext (λ w. put_one (w == v) (x.router.sides w) i))
      ∙ ap (λ (z : Router). with_outboxes x.router (λ w. (z.sides w).outbox)) (sym did.step.leaves);
  log = did.log ∙ fun_ext (λ w. append-nil (x.log w));
}

only_both : (x y z : Logged) → HasOnlyPut x y → HasOnlyPut y z → HasOnlyPut x z
only_both x y z a b = record {
  router = b.router ∙ ap (λ r. with_outboxes r (λ v. (z.router.sides v).outbox)) a.router;
  log = b.log ∙ a.log;
}

tail_all : {A : Type 0} (P : A → Type 0) (x : A) (xs : List A) → All P (x ∷ xs) → All P xs
tail_all P x xs h k d less = h (suc k) d (omega arith)

pub only_puts : (g : Setting) (u : ℕ) (es : List RouterEvent) (x y : Logged) → All IsPut es → IsJournal (logged_steps g) u x es y → HasOnlyPut x y
only_puts g u [] x y all j = subst (HasOnlyPut x) j (record { router = refl; log = refl })
only_puts g u (e ∷ es) x y all j =
    let first : IsPut e = all 0 e (omega arith) in
    only_both x j.0 y (only_one g u first.0 first.1 x j.0 (subst (λ d. LoggedStep g u x d j.0) first.2 j.1)) (only_puts g u es j.0 y (tail_all IsPut e es all) j.2)

-- ---- what can be put

pub passes_more : (xs ys : List What) → all_passes (xs ++ ys) ≡ all_passes xs ++ all_passes ys
passes_more [] ys = refl
passes_more (x ∷ xs) ys = ap (λ w. passes x ++ w) (passes_more xs ys) ∙ sym (append_assoc (passes x) (all_passes xs) (all_passes ys))

abbrev pub HaveSizes : Setting → List What → Type 0
HaveSizes g [] = Unit {0}
HaveSizes g (i ∷ is) = HasSize g.net.settings.cut i × HaveSizes g is

-- items that stand in front of an outbox can be put, one after another
pub can_put : (g : Setting) (u v : ℕ) (is : List What) (x : Logged) → IsRouter g.net.routers u → linked g.net u v ≡ true → HaveSizes g is → IsPrefix (all_passes is) (x.router.sides v).outbox
    → CanPut (logged_steps g) u x v is
can_put g u v [] x known near sizes front = tt
can_put g u v (i ∷ is) x known near sizes front =
    let out = (x.router.sides v).outbox in
    let whole : passes i ++ (all_passes is ++ front.0) ≡ out = sym (append_assoc (passes i) (all_passes is) front.0) ∙ front.1 in
    let next : Logged = record { router = after g u x.router (puts v i); log = λ w. x.log w ++ [] } in
    let left : (next.router.sides v).outbox ≡ drop (length (passes i)) out = rw (eq-eqb v v refl) refl in
    let rest : all_passes is ++ front.0 ≡ (next.router.sides v).outbox = sym (drop-append_seam (passes i) (all_passes is ++ front.0)) ∙ ap (drop (length (passes i))) whole ∙ sym left in (
      next,
      record { known = known; step = record { may = (near, sizes.0, (all_passes is ++ front.0, whole)); numbers = refl; leaves = refl }; log = refl },
      can_put g u v is next known near sizes.1 (front.0, rest),
    )

sizes_more : (g : Setting) (xs ys : List What) → HaveSizes g xs → HaveSizes g ys → HaveSizes g (xs ++ ys)
sizes_more g [] ys a b = b
sizes_more g (x ∷ xs) ys a b = (a.0, sizes_more g xs ys a.1 b)

pub sizes_behind : (g : Setting) (xs ys : List What) → HaveSizes g (xs ++ ys) → HaveSizes g ys
sizes_behind g [] ys a = a
sizes_behind g (x ∷ xs) ys a = sizes_behind g xs ys a.1

pub sizes_front : (g : Setting) (xs ys : List What) → HaveSizes g (xs ++ ys) → HaveSizes g xs
sizes_front g [] ys a = tt
sizes_front g (x ∷ xs) ys a = (a.0, sizes_front g xs ys a.1)

-- what a router put has its size
size_one : (g : Setting) (u w : ℕ) (x y : Logged) (e : RouterEvent) → LoggedStep g u x e y → HaveSizes g (put_towards w e)
size_one g u w x y (alone e) did = tt
size_one g u w x y (takes v i) did = tt
size_one g u w x y (offers o) did = tt
size_one g u w x y (puts v i) did = at (v == w)
  where
    at : (b : Bool) → HaveSizes g (if b then i ∷ [] else [])
    at true = (did.step.may.1, tt)
    at false = tt

pub sizes : (g : Setting) (u w : ℕ) (es : List RouterEvent) (x y : Logged) → IsJournal (logged_steps g) u x es y → HaveSizes g (puts_towards w es)
sizes g u w [] x y j = tt
sizes g u w (e ∷ es) x y j = sizes_more g (put_towards w e) (puts_towards w es) (size_one g u w x j.0 e j.1) (sizes g u w es j.0 y j.2)

-- ---- what is taken comes from a linked peer

none_one : (g : Setting) (v u : ℕ) (x y : Logged) (e : RouterEvent) → linked g.net v u ≡ false → LoggedStep g v x e y → taken_from u e ≡ []
none_one g v u x y (alone e) apart did = refl
none_one g v u x y (puts w i) apart did = refl
none_one g v u x y (offers o) apart did = refl
none_one g v u x y (takes w i) apart did = at (w == u) refl
  where
    at : (b : Bool) → (w == u) ≡ b → (if b then i ∷ [] else []) ≡ []
    at false is = refl
    at true is = absurd (let same : w ≡ u = eqb-true w u is in let near : linked g.net v w ≡ true = did.step.may.0 in cc (ap (linked g.net v) same, near, apart))

pub none_taken : (g : Setting) (v u : ℕ) (es : List RouterEvent) (x y : Logged) → linked g.net v u ≡ false → IsJournal (logged_steps g) v x es y → takes_from u es ≡ []
none_taken g v u [] x y apart j = refl
none_taken g v u (e ∷ es) x y apart j = λ i. none_one g v u x j.0 e apart j.1 i ++ none_taken g v u es j.0 y apart j.2 i
