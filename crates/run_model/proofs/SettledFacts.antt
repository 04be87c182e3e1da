-- A settled snapshot is a stable assignment.
use Rattle.std.proofs.Common.{◌≡◌, ℕ, ◌==◌, Bool, true, false, ◌&&◌, cond, List, [], ◌∷◌, ◌++◌, Option, Some, refl, ap, sym, ◌∙◌, subst}
use Rattle.std.proofs.Math.Path.{fun_ext}
use Rattle.run_model.specs.Links.{greatest_dial, said, End, Tells, is_up}
use Rattle.run_model.specs.Recordings.{Recorder, Act, Moves, Recorders, stepped}
use Rattle.run_model.specs.Routes.{updates, word, heard_word, told_word, Network, Router, Event, Acts, Advertise, Decide, Command, router_after, Routers, MayHappen, NetworkStep, advanced, IsNetworkRun, routers_after, first_routers, IsNetwork, IsSettled, SettledIsStable}
use Rattle.run_model.proofs.MarkerFacts.{up_is}
use Rattle.run_model.proofs.RecordingRuns.{RunFacts, holds_step, holds_start}
use Rattle.std.proofs.lemmas.List.{append-nil}
use Rattle.std.proofs.lemmas.List.Elements.{filter-append}

module _ {M P W : Type 0} (g : Network M P W) where
  pub updates-append : (xs ys : List M) → updates g (xs ++ ys) ≡ updates g xs ++ updates g ys
  updates-append xs ys = filter-append g.is_update xs ys

module _ {M P W : Type 0} where
  -- the routers of the network
  abbrev pub recorders_of : Routers M P W → Recorders M
  recorders_of w = λ u. (w u).recorder

  recorder_if : (b : Bool) (n m : Router M P W) → (cond b n m).recorder ≡ cond b n.recorder m.recorder
  recorder_if true n m = refl
  recorder_if false n m = refl

module _ {M : Type 0} where
  same_if : (b : Bool) (x : Recorder M) → cond b x x ≡ x
  same_if true x = refl
  same_if false x = refl

module _ {M P W : Type 0} where
  -- a by_step's step of the routers
  pub facts_step : (g : Network M P W) (w : Routers M P W) (t : NetworkStep M P W) → RunFacts g.linked (recorders_of w) → MayHappen g w t.router t.event → RunFacts g.linked (recorders_of (advanced g w t))
  facts_step g w t h may = by_event t.event refl may
    where
      by_event : (e : Event M P W) → t.event ≡ e → MayHappen g w t.router e → RunFacts g.linked (recorders_of (advanced g w t))
      by_event (Acts d) is may =
          let same : stepped (recorders_of w) (record { router = t.router; act = d }) ≡ recorders_of (advanced g w t) =
          fun_ext (λ u. (sym (recorder_if (u == t.router) (router_after g u (w u) (Acts d)) (w u)) ∙ ap (λ e. (cond (u == t.router) (router_after g u (w u) e) (w u)).recorder) (sym is))) in
          subst (RunFacts g.linked) same (holds_step g.linked (recorders_of w) (record { router = t.router; act = d }) h may.0)
      by_event (Advertise v p m) is may =
          let d : Act M = Moves v (Tells m) in
          let same : stepped (recorders_of w) (record { router = t.router; act = d }) ≡ recorders_of (advanced g w t) =
          fun_ext (λ u. (sym (recorder_if (u == t.router) (router_after g u (w u) (Advertise v p m)) (w u)) ∙ ap (λ e. (cond (u == t.router) (router_after g u (w u) e) (w u)).recorder) (sym is))) in
          subst (RunFacts g.linked) same (holds_step g.linked (recorders_of w) (record { router = t.router; act = d }) h (may.0, tt, (up_is ((w t.router).recorder.ends v) may.2).joined))
      by_event (Decide p) is may =
          let same : recorders_of w ≡ recorders_of (advanced g w t) =
          fun_ext (λ u. (sym (same_if (u == t.router) (w u).recorder) ∙ (sym (recorder_if (u == t.router) (router_after g u (w u) (Decide p)) (w u)) ∙ ap (λ e. (cond (u == t.router) (router_after g u (w u) e) (w u)).recorder) (sym is)))) in
          subst (RunFacts g.linked) same h
      by_event (Command own kept) is may =
          let same : recorders_of w ≡ recorders_of (advanced g w t) =
          fun_ext (λ u. (sym (same_if (u == t.router) (w u).recorder) ∙ (sym (recorder_if (u == t.router) (router_after g u (w u) (Command own kept)) (w u)) ∙ ap (λ e. (cond (u == t.router) (router_after g u (w u) e) (w u)).recorder) (sym is)))) in
          subst (RunFacts g.linked) same h

  pub facts_run : (g : Network M P W) (ts : List (NetworkStep M P W)) (w : Routers M P W) → RunFacts g.linked (recorders_of w) → IsNetworkRun g w ts → RunFacts g.linked (recorders_of (routers_after g w ts))
  facts_run g [] w h r = h
  facts_run g (t ∷ ts) w h r = facts_run g ts (advanced g w t) (facts_step g w t h r.0) r.1

module _ {M : Type 0} where
  pub some_same : (c d : ℕ → End M) (o : Option (ℕ → End M)) → o ≡ Some c → o ≡ Some d → c ≡ d
  some_same c d o h k = cc

module _ {M P W : Type 0} where
  -- what u had heard from v is what v kept
  word_kept : (g : Network M P W) (w : Routers M P W) (s u v : ℕ) (p : P) → g.named p ≡ true → IsNetwork g → RunFacts g.linked (recorders_of w) → g.routers u ≡ true → g.linked u v ≡ true
      → (cu : ℕ → End M) → (w u).recorder.copy s ≡ Some cu → (settled : IsSettled g w s)
      → (is_up (cu v) ≡ true) × (heard_word g cu v p ≡ (w v).kept_at s p)
  word_kept g w s u v p named net h ru link cu is settled =
      let su = settled u ru in
      let sv = settled v (net.known u v link) in
      let ch = (h.windows u v (net.apart u v link) link).parts s su.0 su.2 in
      let back = (h.windows v u (net.apart v u (net.both u v link)) (net.both u v link)).parts s sv.0 sv.2 in
      let cx : ch.0 ≡ cu = some_same ch.0 cu ((w u).recorder.copy s) ch.2 is in
      let cy : sv.1 ≡ ch.1 = some_same sv.1 ch.1 ((w v).recorder.copy s) sv.3 ch.3 in
      let cz : back.0 ≡ sv.1 = some_same back.0 sv.1 ((w v).recorder.copy s) back.2 sv.3 in
      let up : is_up (sv.1 u) ≡ true = subst (λ i. is_up (i u) ≡ true) cz back.7 in
      let tells : told_word g sv.1 u p ≡ (w v).kept_at s p = sv.5.1 u p (net.both u v link) up named in
      let flows : updates g (said (greatest_dial (ch.0 v).appended) (ch.1 u).appended) ≡ updates g (said (greatest_dial (ch.0 v).appended) (ch.0 v).used) =
      ap (updates g) ch.6 ∙ (updates-append g (said (greatest_dial (ch.0 v).appended) (ch.0 v).used) (su.0 v) ∙ (ap (λ i. updates g (said (greatest_dial (ch.0 v).appended) (ch.0 v).used) ++ i) (su.4 v link) ∙ append-nil (updates g (said (greatest_dial (ch.0 v).appended) (ch.0 v).used)))) in
      let one : heard_word g ch.0 v p ≡ told_word g ch.1 u p = ap (word g p) (sym flows ∙ ap (λ i. updates g (said i (ch.1 u).appended)) ch.4) in
      (subst (λ i. is_up (i v) ≡ true) cx ch.7, subst (λ i. heard_word g i v p ≡ (w v).kept_at s p) cx (one ∙ (ap (λ i. told_word g i u p) (sym cy) ∙ tells)))

module _ {W : Type 0} where
  pub words_case : (none : W) (b c : Bool) (x y : W) → (b ≡ true → (c ≡ true) × (x ≡ y)) → cond (b && c) x none ≡ cond b y none
  words_case none true c x y h = (let k = h refl in rw k.0 k.1)
  words_case none false c x y h = refl

module _ {M P W : Type 0} where
  pub stable : SettledIsStable M P W
  stable g net ts r s settled p named u ru =
      let w = routers_after g (first_routers g) ts in
      let h = facts_run g ts (first_routers g) (holds_start g.linked) r in
      let su = settled u ru in
      let words : (λ v. cond (g.linked u v && is_up (su.1 v)) (heard_word g su.1 v p) g.no_path) ≡ (λ v. cond (g.linked u v) ((w v).kept_at s p) g.no_path) =
      fun_ext (λ v. words_case g.no_path (g.linked u v) (is_up (su.1 v)) (heard_word g su.1 v p) ((w v).kept_at s p) (λ link. word_kept g w s u v p named net h ru link su.1 su.3 settled)) in
      su.5.0 p named ∙ ap (g.best u p ((w u).originated_at s p)) words
