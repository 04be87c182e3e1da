-- The routes of a settled snapshot stay while the run is quiet.
use Rattle.std.proofs.Common.{◌≡◌, ◌≢◌, ℕ, suc, ◌==◌, Bool, true, false, ◌&&◌, not, cond, List, [], ◌∷◌, ◌++◌, Some, refl, ap, sym, ◌∙◌, arith, length-append, subst, inl, inr, ◌⊎◌}
use mathlib.Core.List.{IsPrefix}
use Rattle.std.proofs.Math.Path.{fun_ext}
use Rattle.run_model.specs.Links.{Entry, Dial, Says, Mark, Shut, greatest_dial, said, Phase, Closed, Offered, Joined, End, Move, Dials, Tells, Marks, HangsUp, Takes, used_with, taking, after, May, is_joined, is_up}
use Rattle.run_model.specs.Recordings.{Recorder, Act, Moves, EndsChannel, IgnoresMarker, Begins, Follows, Finishes, with_end, marked, used_by, recorder_after, IsPlain, IsNext, MayAct, Copies, IsChannel}
use Rattle.run_model.specs.Routes.{updates, word, heard_word, told_word, Network, Router, route, IsNotPending, Event, Acts, Advertise, Decide, Command, records, leaves, router_after, TellsNoUpdate, Routers, MayHappen, NetworkStep, advanced, IsNetworkRun, routers_after, first_routers, IsNetwork, IsSettled}
use Rattle.run_model.specs.Quiet.{HasStillChannels, IsStillSettling, AreStillSettling, IsEndAsRecorded, IsAsRecorded, IsFlaggedQuiet}
use Rattle.run_model.proofs.EntryLists.{greatest_dial-append, said-append, prefix_next, said_front}
use Rattle.run_model.proofs.MarkerFacts.{up_is, is_up_of, prefix_length}
use Rattle.run_model.proofs.RecordingFacts.{LinkFacts, CopyFacts, copy_which, fresh_copy, whole_was, unfinished_was, up_act}
use Rattle.run_model.proofs.RecordingRuns.{RunFacts, holds_start, PeerFacts, up_marked, copies_stay, window_by_act}
use Rattle.run_model.proofs.SettledFacts.{updates-append, recorders_of, facts_step, facts_run, some_same}
use Rattle.std.proofs.lemmas.List.{append-nil}
use Rattle.std.proofs.lemmas.Bool.Decides.{nat_tests}

module _ {M P W : Type 0} where
  -- the invariant of unfinished snapshots
  abbrev pub Steady : Network M P W → Routers M P W → Type 0
  Steady g w = (s : ℕ) → AreStillSettling g w s → IsFlaggedQuiet g w s → (u : ℕ) (c : ℕ → End M) → g.routers u ≡ true → (w u).recorder.copy s ≡ Some c → IsAsRecorded g u (w u) s c

-- a recorded router's routes are the recorded ones
same_words : {W : Type 0} (none : W) (b p q : Bool) (x y : W) → (b ≡ true → (p ≡ true) × (q ≡ true) × (x ≡ y)) → cond (b && p) x none ≡ cond (b && q) y none
same_words none true p q x y h = (let k = h refl in rw (k.0, k.1) k.2)
same_words none false p q x y h = refl

module _ {M P W : Type 0} where
  pub same_route : (g : Network M P W) (u : ℕ) (n : Router M P W) (s : ℕ) (c : ℕ → End M) → IsAsRecorded g u n s c → (p : P) → route g u n.recorder.ends p (n.originated p) ≡ route g u c p (n.originated_at s p)
  same_route g u n s c r p =
      let words : (λ v. cond (g.linked u v && is_up (n.recorder.ends v)) (heard_word g n.recorder.ends v p) g.no_path) ≡ (λ v. cond (g.linked u v && is_up (c v)) (heard_word g c v p) g.no_path) =
      fun_ext (λ v. same_words g.no_path (g.linked u v) (is_up (n.recorder.ends v)) (is_up (c v)) (heard_word g n.recorder.ends v p) (heard_word g c v p) (λ link. ((r.ends v link).up, (r.ends v link).c_up, ap (word g p) (r.ends v link).heard))) in
      ap (λ o. route g u n.recorder.ends p o) (r.originated p) ∙ ap (g.best u p (n.originated_at s p)) words

  -- so it neither decides
  pub no_decide : (g : Network M P W) (u : ℕ) (n : Router M P W) (s : ℕ) (c : ℕ → End M) → IsAsRecorded g u n s c → IsStillSettling g u n s c → (p : P) → g.named p ≡ true → n.kept p ≡ route g u n.recorder.ends p (n.originated p)
  no_decide g u n s c r f p named = r.kept p ∙ (f.calm.0 p named ∙ sym (same_route g u n s c r p))

  -- nor tells
  pub no_tell : (g : Network M P W) (u v : ℕ) (n : Router M P W) (s : ℕ) (c : ℕ → End M) → IsAsRecorded g u n s c → IsStillSettling g u n s c → g.linked u v ≡ true → (p : P) → g.named p ≡ true → told_word g n.recorder.ends v p ≡ n.kept p
  no_tell g u v n s c r f link p named = ap (word g p) (r.ends v link).told ∙ (f.calm.1 v p link (r.ends v link).c_up named ∙ sym (r.kept p))

prefix_self_none : {A : Type 0} (xs ys : List A) → IsPrefix (xs ++ ys) xs → ys ≡ []
prefix_self_none xs [] p = refl
prefix_self_none xs (y ∷ ys) p = absurd (let l = prefix_length (xs ++ y ∷ ys) xs p in omega (arith, l, length-append xs (y ∷ ys)))

module _ {M : Type 0} where
  updates_front : {P W : Type 0} (g : Network M P W) → (xs ys : List M) → IsPrefix xs ys → IsPrefix (updates g xs) (updates g ys)
  updates_front g xs ys p = (updates g p.0, sym (updates-append g xs p.0) ∙ ap (updates g) p.1)

tail_none : {A : Type 0} (xs ys : List A) → xs ++ ys ≡ [] → ys ≡ []
tail_none [] ys e = e
tail_none (x ∷ xs) ys e = absurd (cc (e))

module _ {M P W : Type 0} where
  -- behind a closed channel without an UPDATE no UPDATE comes, as long as the peer is as it recorded
  pub nothing_comes : (g : Network M P W) (w : Routers M P W) (u v s e : ℕ) (m : M) (cu : ℕ → End M) (ms : List M) → LinkFacts ((w u).recorder.ends v) ((w v).recorder.ends u) → IsNext ((w u).recorder.ends v) ((w v).recorder.ends u) (Says e m)
      → e ≡ greatest_dial ((w u).recorder.ends v).appended → (w u).recorder.copy s ≡ Some cu → IsEndAsRecorded g ((w u).recorder.ends v) (cu v)
      → (chan : IsChannel (w u).recorder.copy (w v).recorder.copy u v s ms) → updates g ms ≡ [] → ((cv : ℕ → End M) → (w v).recorder.copy s ≡ Some cv → IsEndAsRecorded g ((w v).recorder.ends u) (cv u))
      → updates g (m ∷ []) ≡ []
  nothing_comes g w u v s e m cu ms p is here iu su chan none sv =
      let a : End M = (w u).recorder.ends v in
      let b : End M = (w v).recorder.ends u in
      let n : ℕ = greatest_dial a.appended in
      let cx : chan.0 ≡ cu = some_same chan.0 cu ((w u).recorder.copy s) chan.2 iu in
      let there : IsEndAsRecorded g b (chan.1 u) = sv chan.1 chan.3 in
      let cn : greatest_dial (chan.0 v).appended ≡ n = ap (λ (i : ℕ → End M). greatest_dial (i v).appended) cx ∙ sym su.number in
      let bn : greatest_dial b.appended ≡ n = there.number ∙ (sym chan.4 ∙ cn) in
      let dn : greatest_dial (chan.1 u).appended ≡ n = sym chan.4 ∙ cn in
      -- what v said is what it had said
      let said_b : updates g (said n b.appended) ≡ updates g (said n (chan.1 u).appended) = ap (λ i. updates g (said i b.appended)) (sym bn) ∙ (there.told ∙ ap (λ i. updates g (said i (chan.1 u).appended)) dn) in
      -- which is what u had used
      let flows : updates g (said (greatest_dial (chan.0 v).appended) (chan.1 u).appended) ≡ updates g (said (greatest_dial (chan.0 v).appended) (chan.0 v).used) =
      ap (updates g) chan.6 ∙ (updates-append g (said (greatest_dial (chan.0 v).appended) (chan.0 v).used) ms ∙ (ap (λ i. updates g (said (greatest_dial (chan.0 v).appended) (chan.0 v).used) ++ i) none ∙ append-nil (updates g (said (greatest_dial (chan.0 v).appended) (chan.0 v).used)))) in
      let flows_n : updates g (said n (chan.1 u).appended) ≡ updates g (said n (chan.0 v).used) = subst (λ i. updates g (said i (chan.1 u).appended) ≡ updates g (said i (chan.0 v).used)) cn flows in
      let used_c : updates g (said n (chan.0 v).used) ≡ updates g (said n a.used) = ap (λ (i : ℕ → End M). updates g (said n (i v).used)) cx ∙ (ap (λ i. updates g (said i (cu v).used)) su.number ∙ sym su.heard) in
      let used_p : updates g (said n a.used) ≡ updates g (said n a.taken) = ap (updates g) (p.good.whole (up_is a su.up).joined) in
      let all : updates g (said n b.appended) ≡ updates g (said n a.taken) = said_b ∙ (flows_n ∙ (used_c ∙ used_p)) in
      -- and the message stands behind that
      let longer : IsPrefix (a.taken ++ Says e m ∷ []) b.appended = prefix_next a.taken b.appended (Says e m) p.good.front is in
      let more : IsPrefix (updates g (said n (a.taken ++ Says e m ∷ []))) (updates g (said n b.appended)) = updates_front g (said n (a.taken ++ Says e m ∷ [])) (said n b.appended) (said_front n (a.taken ++ Says e m ∷ []) b.appended longer) in
      let mine : (n == e) ≡ true = (let q : n ≡ e = sym here in grind (arith, nat_tests, q)) in
      let one : said n (Says e m ∷ []) ≡ m ∷ [] = rw mine refl in
      let parts : updates g (said n (a.taken ++ Says e m ∷ [])) ≡ updates g (said n a.taken) ++ updates g (m ∷ []) = ap (updates g) (said-append n a.taken (Says e m ∷ []) ∙ ap (λ i. said n a.taken ++ i) one) ∙ updates-append g (said n a.taken) (m ∷ []) in
      prefix_self_none (updates g (said n a.taken)) (updates g (m ∷ [])) (subst (λ i. IsPrefix (updates g (said n a.taken) ++ updates g (m ∷ [])) i) all (subst (λ i. IsPrefix i (updates g (said n b.appended))) parts more))

module _ {M : Type 0} where
  -- an act uses no UPDATE
  abbrev pub UsesNone : {P W : Type 0} (g : Network M P W) → ℕ → Move M → Type 0
  UsesNone g n Dials = Unit {0}
  UsesNone g n (Tells m) = updates g (m ∷ []) ≡ []
  UsesNone g n (Marks s) = ⊥
  UsesNone g n HangsUp = ⊥
  UsesNone g n (Takes (Dial e)) = Unit {0}
  UsesNone g n (Takes (Says e m)) = e ≡ n → updates g (m ∷ []) ≡ []
  UsesNone g n (Takes (Mark e s)) = ⊥
  UsesNone g n (Takes (Shut e)) = Unit {0}

  used_none : {P W : Type 0} (g : Network M P W) → (p : Phase) (b : Bool) (n e : ℕ) (m : M) (used : List (Entry M)) → p ≡ Joined → (n == e) ≡ b → (e ≡ n → updates g (m ∷ []) ≡ []) → updates g (said n (used_with p n e m used)) ≡ updates g (said n used)
  used_none g Closed b n e m used j is none = refl
  used_none g Offered b n e m used j is none = refl
  used_none g Joined false n e m used j is none = rw is refl
  used_none g Joined true n e m used j is none =
      let here : e ≡ n = grind (arith, nat_tests, is) in
      let one : said n (Says e m ∷ []) ≡ m ∷ [] = rw is refl in
      let more : updates g (said n (used ++ Says e m ∷ [])) ≡ updates g (said n used) =
      ap (updates g) (said-append n used (Says e m ∷ []) ∙ ap (λ i. said n used ++ i) one) ∙ (updates-append g (said n used) (m ∷ []) ∙ (ap (λ i. updates g (said n used) ++ i) (none here) ∙ append-nil (updates g (said n used)))) in
      rw is more

  same_act : {P W : Type 0} (g : Network M P W) → (a b c : End M) (x : Move M) → IsPlain x → May a b x → UsesNone g (greatest_dial a.appended) x → IsEndAsRecorded g a c → IsEndAsRecorded g (after a x) c
  same_act g a b c Dials plain may none s = absurd (may.0 (up_is a s.up).joined)
  same_act g a b c (Tells m) plain may none s =
      let t = up_act a b (Tells m) plain may (λ h. absurd cc) (up_is a s.up) in
      let n : ℕ = greatest_dial a.appended in
      let one : (n == n) ≡ true = grind (arith, nat_tests) in
      let said_more : updates g (said n (a.appended ++ Says n m ∷ [])) ≡ updates g (said n a.appended) =
      ap (updates g) (said-append n a.appended (Says n m ∷ []) ∙ ap (λ i. said n a.appended ++ i) (only n m one)) ∙ (updates-append g (said n a.appended) (m ∷ []) ∙ (ap (λ i. updates g (said n a.appended) ++ i) none ∙ append-nil (updates g (said n a.appended)))) in
      record { up = is_up_of (after a (Tells m)) t.0; c_up = s.c_up; number = t.1 ∙ s.number; heard = rw t.1 s.heard; told = rw t.1 (said_more ∙ s.told) }
    where
      only : (n : ℕ) (m : M) → (n == n) ≡ true → said n (Says n m ∷ []) ≡ m ∷ []
      only n m h = rw h refl
  same_act g a b c (Marks k) plain may none s = absurd plain
  same_act g a b c HangsUp plain may none s = absurd none
  same_act g a b c (Takes (Dial e)) plain may none s =
      let t = up_act a b (Takes (Dial e)) plain may (λ h. absurd cc) (up_is a s.up) in
      record { up = is_up_of (taking a (Dial e)) t.0; c_up = s.c_up; number = s.number; heard = s.heard; told = s.told }
  same_act g a b c (Takes (Says e m)) plain may none s =
      let t = up_act a b (Takes (Says e m)) plain may (λ h. absurd cc) (up_is a s.up) in
      record { up = is_up_of (taking a (Says e m)) t.0; c_up = s.c_up; number = s.number; heard = used_none g a.phase (greatest_dial a.appended == e) (greatest_dial a.appended) e m a.used (up_is a s.up).joined refl none ∙ s.heard; told = s.told }
  same_act g a b c (Takes (Mark e k)) plain may none s = absurd plain
  same_act g a b c (Takes (Shut e)) plain may none s = record { up = s.up; c_up = s.c_up; number = s.number; heard = s.heard; told = s.told }

  same_taking : {P W : Type 0} (g : Network M P W) → (a c : End M) (e k : ℕ) → IsEndAsRecorded g a c → IsEndAsRecorded g (taking a (Mark e k)) c
  same_taking g a c e k s = record { up = s.up; c_up = s.c_up; number = s.number; heard = s.heard; told = s.told }

  same_marked : {P W : Type 0} (g : Network M P W) → (a c : End M) (k : ℕ) → IsEndAsRecorded g a c → IsEndAsRecorded g (marked k a) c
  same_marked g a c k s =
      let m : marked k a ≡ after a (Marks k) = ap (λ h. cond h (after a (Marks k)) a) s.up in
      let same : greatest_dial (a.appended ++ Mark (greatest_dial a.appended) k ∷ []) ≡ greatest_dial a.appended = omega (arith, greatest_dial-append a.appended (Mark (greatest_dial a.appended) k ∷ [])) in
      let then : IsEndAsRecorded g (after a (Marks k)) c = record {
        up = up_marked a k s.up;
        c_up = s.c_up;
        number = same ∙ s.number;
        heard = rw same s.heard;
        told = rw (same, said-append (greatest_dial a.appended) a.appended (Mark (greatest_dial a.appended) k ∷ []), append-nil (said (greatest_dial a.appended) a.appended)) s.told;
      } in
      subst (λ i. IsEndAsRecorded g i c) (sym m) then

  same_self : {P W : Type 0} (g : Network M P W) → (a : End M) → is_up a ≡ true → IsEndAsRecorded g a a
  same_self g a up = record { up = up; c_up = up; number = refl; heard = refl; told = refl }

  -- an earlier recording isn't the one that begins now
  not_now : (u : ℕ) (x : Recorder M) (far : ℕ → End M) (linked : ℕ → Bool) (d : Act M) (v s : ℕ) (c : ℕ → End M) → MayAct u x far linked d → CopyFacts x.copy x.last v (x.ends v) → x.copy s ≡ Some c → records d s ≡ false
  not_now u x far linked (Moves w act) v s c can l is = refl
  not_now u x far linked (EndsChannel w e k) v s c can l is = refl
  not_now u x far linked (IgnoresMarker w e k) v s c can l is = refl
  not_now u x far linked (Begins k whole) v s c can l is = (let q = (l.copied s c is).2 in let r = can.0 in grind (arith, nat_tests, q, r))
  not_now u x far linked (Follows w e k whole) v s c can l is = (let q = (l.copied s c is).2 in let r = can.4 in grind (arith, nat_tests, q, r))
  not_now u x far linked (Finishes k) v s c can l is = refl

head_none : {A : Type 0} (xs ys : List A) → xs ++ ys ≡ [] → xs ≡ []
head_none [] ys e = refl
head_none (x ∷ xs) ys e = absurd (cc (e))

module _ {M : Type 0} where
  chan_back : {P W : Type 0} (g : Network M P W) → (b w : Bool) (xs ys : List M) → updates g (cond b (cond w (xs ++ ys) xs) xs) ≡ [] → updates g xs ≡ []
  chan_back g true true xs ys h = head_none (updates g xs) (updates g ys) (sym (updates-append g xs ys) ∙ h)
  chan_back g true false xs ys h = h
  chan_back g false w xs ys h = h

module _ {M P W : Type 0} where
  finish_back : (b : Bool) (g : Network M P W) (u : ℕ) (x : Recorder M) (s k : ℕ) (ch : ℕ → List M) → (s == k) ≡ b → x.unfinished ≡ Some k → cond b (Some x.channel) (x.part s) ≡ Some ch → ((v : ℕ) → g.linked u v ≡ true → updates g (ch v) ≡ []) → HasStillChannels g u x s
  finish_back true g u x s k ch is now h none =
      let same : s ≡ k = grind (arith, nat_tests, is) in
      let chans : ch ≡ x.channel = cc in
      inl (now ∙ ap Some (sym same), λ v link. (ap (λ (i : ℕ → List M). updates g (i v)) (sym chans) ∙ none v link))
  finish_back false g u x s k ch is now h none = inr (ch, h, none)

  alive_back : (g : Network M P W) (u : ℕ) (x : Recorder M) (far : ℕ → End M) (d : Act M) (v s : ℕ) (c : ℕ → End M) → MayAct u x far (g.linked u) d → CopyFacts x.copy x.last v (x.ends v) → x.copy s ≡ Some c → HasStillChannels g u (recorder_after x d) s → HasStillChannels g u x s
  alive_back g u x far (Moves w act) v s c can l is (inl h) = inl (unfinished_was (is_up (x.ends w)) act x.unfinished s h.0, λ y link. chan_back g (y == w) (x.waits y) (x.channel y) (used_by (x.ends w) act) (h.1 y link))
  alive_back g u x far (Moves w act) v s c can l is (inr h) = inr h
  alive_back g u x far (EndsChannel w e k) v s c can l is h = h
  alive_back g u x far (IgnoresMarker w e k) v s c can l is h = h
  alive_back g u x far (Begins k whole) v s c can l is (inl h) = (let q = whole_was whole k s h.0 in let f = fresh_copy x.copy x.last k v (x.ends v) can.0 l in absurd (cc (f, is, ap x.copy q.1)))
  alive_back g u x far (Begins k whole) v s c can l is (inr h) = inr h
  alive_back g u x far (Follows w e k whole) v s c can l is (inl h) = (let q = whole_was whole k s h.0 in let f = fresh_copy x.copy x.last k v (x.ends v) can.4 l in absurd (cc (f, is, ap x.copy q.1)))
  alive_back g u x far (Follows w e k whole) v s c can l is (inr h) = inr h
  alive_back g u x far (Finishes k) v s c can l is (inl h) = absurd (let q = h.0 in cc)
  alive_back g u x far (Finishes k) v s c can l is (inr h) = finish_back (s == k) g u x s k h.0 refl can.0 h.1 h.2

  still_back : (g : Network M P W) (w : Routers M P W) (u : ℕ) (e : Event M P W) (v s : ℕ) (c : ℕ → End M) → MayHappen g w u e → CopyFacts (w u).recorder.copy (w u).recorder.last v ((w u).recorder.ends v) → (w u).recorder.copy s ≡ Some c
      → IsStillSettling g u (router_after g u (w u) e) s c → IsStillSettling g u (w u) s c
  still_back g w u (Acts d) v s c may l is f =
      let old = not_now u (w u).recorder (λ y. (w y).recorder.ends u) (g.linked u) d v s c may.0 l is in record {
        calm = rw old at f.calm;
        alive = alive_back g u (w u).recorder (λ y. (w y).recorder.ends u) d v s c may.0 l is f.alive;
      }
  still_back g w u (Advertise y p m) v s c may l is f = record { calm = f.calm; alive = tell_back f.alive }
    where
      tell_back : HasStillChannels g u (router_after g u (w u) (Advertise y p m)).recorder s → HasStillChannels g u (w u).recorder s
      tell_back (inl h) = inl (h.0, λ z link. chan_back g (z == y) ((w u).recorder.waits z) ((w u).recorder.channel z) [] (h.1 z link))
      tell_back (inr h) = inr h
  still_back g w u (Decide p) v s c may l is f = record { calm = f.calm; alive = f.alive }
  still_back g w u (Command own kept) v s c may l is f = record { calm = f.calm; alive = f.alive }

hung : (q up : Bool) → up ≡ true → (q && not (up && true)) ≡ true → ⊥
hung true true is h = cc (h)
hung true false is h = cc (is)
hung false up is h = cc (h)

module _ {M : Type 0} where
  used_is : (p : Phase) (b : Bool) (m : M) → p ≡ Joined → b ≡ true → cond (is_joined p && b) (m ∷ []) [] ≡ m ∷ []
  used_is Closed b m j h = absurd cc
  used_is Offered b m j h = absurd cc
  used_is Joined b m j h = rw h refl

module _ {M P W : Type 0} where
  -- the message is in the recorded channel, or behind its marker
  says_none : (g : Network M P W) (w : Routers M P W) (u y s e : ℕ) (m : M) (c : ℕ → End M) (b : Bool) → (w u).recorder.waits y ≡ b → u ≢ y → g.linked u y ≡ true → RunFacts g.linked (recorders_of w)
      → IsNext ((w u).recorder.ends y) ((w y).recorder.ends u) (Says e m) → (w u).recorder.copy s ≡ Some c → IsEndAsRecorded g ((w u).recorder.ends y) (c y)
      → HasStillChannels g u (recorder_after (w u).recorder (Moves y (Takes (Says e m)))) s → ((cv : ℕ → End M) → (w y).recorder.copy s ≡ Some cv → IsEndAsRecorded g ((w y).recorder.ends u) (cv u))
      → e ≡ greatest_dial ((w u).recorder.ends y).appended → updates g (m ∷ []) ≡ []
  says_none g w u y s e m c true waits apart link h is iu su (inl a) sv here =
      let x : Recorder M = (w u).recorder in
      let hit : (y == y) ≡ true = grind (arith, nat_tests) in
      let mine : (greatest_dial (x.ends y).appended == e) ≡ true = (let q : greatest_dial (x.ends y).appended ≡ e = sym here in grind (arith, nat_tests, q)) in
      let used : used_by (x.ends y) (Takes (Says e m)) ≡ m ∷ [] = used_is (x.ends y).phase (greatest_dial (x.ends y).appended == e) m (up_is (x.ends y) su.up).joined mine in
      let chan : updates g (x.channel y ++ used_by (x.ends y) (Takes (Says e m))) ≡ [] = rw (hit, waits) at (a.1 y link) in
      let more : updates g (x.channel y) ++ updates g (m ∷ []) ≡ [] = sym (updates-append g (x.channel y) (m ∷ [])) ∙ (ap (λ i. updates g (x.channel y ++ i)) (sym used) ∙ chan) in
      tail_none (updates g (x.channel y)) (updates g (m ∷ [])) more
  says_none g w u y s e m c false waits apart link h is iu su (inl a) sv here =
      let x : Recorder M = (w u).recorder in
      let none : updates g (x.channel y) ≡ [] = chan_back g (y == y) (x.waits y) (x.channel y) (used_by (x.ends y) (Takes (Says e m))) (a.1 y link) in
      nothing_comes g w u y s e m c (x.channel y) (h.pairs u y apart) is here iu su (((h.windows u y apart link).rec s a.0).closed waits) none sv
  says_none g w u y s e m c b waits apart link h is iu su (inr a) sv here =
      nothing_comes g w u y s e m c (a.0 y) (h.pairs u y apart) is here iu su ((h.windows u y apart link).parts s a.0 a.1) (a.2 y link) sv

  uses_none : (g : Network M P W) (w : Routers M P W) (u y s : ℕ) (act : Move M) (c : ℕ → End M) → g.linked u y ≡ true → RunFacts g.linked (recorders_of w) → MayAct u (w u).recorder (λ v. (w v).recorder.ends u) (g.linked u) (Moves y act) → TellsNoUpdate g (Moves y act)
      → (w u).recorder.copy s ≡ Some c → IsEndAsRecorded g ((w u).recorder.ends y) (c y) → HasStillChannels g u (recorder_after (w u).recorder (Moves y act)) s → ((w u).quiet s && not (leaves (w u).recorder (Moves y act))) ≡ true
      → ((cv : ℕ → End M) → (w y).recorder.copy s ≡ Some cv → IsEndAsRecorded g ((w y).recorder.ends u) (cv u)) → UsesNone g (greatest_dial ((w u).recorder.ends y).appended) act
  uses_none g w u y s Dials c link h can none iu su a q sv = tt
  uses_none g w u y s (Tells m) c link h can none iu su a q sv = none
  uses_none g w u y s (Marks k) c link h can none iu su a q sv = absurd can.1
  uses_none g w u y s HangsUp c link h can none iu su a q sv = absurd (hung ((w u).quiet s) (is_up ((w u).recorder.ends y)) su.up q)
  uses_none g w u y s (Takes (Dial e)) c link h can none iu su a q sv = tt
  uses_none g w u y s (Takes (Says e m)) c link h can none iu su a q sv = λ here. says_none g w u y s e m c ((w u).recorder.waits y) refl can.0 link h can.2.0 iu su a sv here
  uses_none g w u y s (Takes (Mark e k)) c link h can none iu su a q sv = absurd can.1
  uses_none g w u y s (Takes (Shut e)) c link h can none iu su a q sv = tt

  moves_same : (g : Network M P W) (w : Routers M P W) (u y s : ℕ) (act : Move M) (c : ℕ → End M) (v : ℕ) (b : Bool) → (v == y) ≡ b → g.linked u v ≡ true → RunFacts g.linked (recorders_of w) → MayAct u (w u).recorder (λ v. (w v).recorder.ends u) (g.linked u) (Moves y act) → TellsNoUpdate g (Moves y act)
      → (w u).recorder.copy s ≡ Some c → IsEndAsRecorded g ((w u).recorder.ends v) (c v) → HasStillChannels g u (recorder_after (w u).recorder (Moves y act)) s → ((w u).quiet s && not (leaves (w u).recorder (Moves y act))) ≡ true
      → ((cv : ℕ → End M) → (w v).recorder.copy s ≡ Some cv → IsEndAsRecorded g ((w v).recorder.ends u) (cv u)) → IsEndAsRecorded g (cond b (after ((w u).recorder.ends y) act) ((w u).recorder.ends v)) (c v)
  moves_same g w u y s act c v false is link h can none iu su a q sv = su
  moves_same g w u y s act c v true is link h can none iu su a q sv =
      let same : v ≡ y = grind (arith, nat_tests, is) in
      let link' : g.linked u y ≡ true = subst (λ i. g.linked u i ≡ true) same link in
      let su' : IsEndAsRecorded g ((w u).recorder.ends y) (c y) = subst (λ i. IsEndAsRecorded g ((w u).recorder.ends i) (c i)) same su in
      let sv' : (cv : ℕ → End M) → (w y).recorder.copy s ≡ Some cv → IsEndAsRecorded g ((w y).recorder.ends u) (cv u) = subst (λ i. (cv : ℕ → End M) → (w i).recorder.copy s ≡ Some cv → IsEndAsRecorded g ((w i).recorder.ends u) (cv u)) same sv in
      subst (λ i. IsEndAsRecorded g (after ((w u).recorder.ends y) act) (c i)) (sym same)
      (same_act g ((w u).recorder.ends y) ((w y).recorder.ends u) (c y) act can.1 can.2 (uses_none g w u y s act c link' h can none iu su' a q sv') su')

module _ {M : Type 0} where
  take_same : {P W : Type 0} (g : Network M P W) → (x : Recorder M) (c : ℕ → End M) (y v e k : ℕ) (b : Bool) → (v == y) ≡ b → IsEndAsRecorded g (x.ends v) (c v) → IsEndAsRecorded g (cond b (taking (x.ends y) (Mark e k)) (x.ends v)) (c v)
  take_same g x c y v e k false is s = s
  take_same g x c y v e k true is s =
      let same : v ≡ y = grind (arith, nat_tests, is) in
      subst (λ i. IsEndAsRecorded g (taking (x.ends y) (Mark e k)) (c i)) (sym same) (same_taking g (x.ends y) (c y) e k (subst (λ i. IsEndAsRecorded g (x.ends i) (c i)) same s))

module _ {M P W : Type 0} where
  -- an earlier recording stays
  same_by_act : (g : Network M P W) (w : Routers M P W) (u s : ℕ) (d : Act M) (c : ℕ → End M) (v : ℕ) → g.linked u v ≡ true → RunFacts g.linked (recorders_of w) → MayAct u (w u).recorder (λ v. (w v).recorder.ends u) (g.linked u) d → TellsNoUpdate g d
      → (w u).recorder.copy s ≡ Some c → IsEndAsRecorded g ((w u).recorder.ends v) (c v) → HasStillChannels g u (recorder_after (w u).recorder d) s → ((w u).quiet s && not (leaves (w u).recorder d)) ≡ true
      → ((cv : ℕ → End M) → (w v).recorder.copy s ≡ Some cv → IsEndAsRecorded g ((w v).recorder.ends u) (cv u)) → IsEndAsRecorded g ((recorder_after (w u).recorder d).ends v) (c v)
  same_by_act g w u s (Moves y act) c v link h can none iu su a q sv = moves_same g w u y s act c v (v == y) refl link h can none iu su a q sv
  same_by_act g w u s (EndsChannel y e k) c v link h can none iu su a q sv = take_same g (w u).recorder c y v e k (v == y) refl su
  same_by_act g w u s (IgnoresMarker y e k) c v link h can none iu su a q sv = take_same g (w u).recorder c y v e k (v == y) refl su
  same_by_act g w u s (Begins k whole) c v link h can none iu su a q sv = same_marked g ((w u).recorder.ends v) (c v) k su
  same_by_act g w u s (Follows y e k whole) c v link h can none iu su a q sv = same_marked g (with_end (w u).recorder.ends y (taking ((w u).recorder.ends y) (Mark e k)) v) (c v) k (take_same g (w u).recorder c y v e k (v == y) refl su)
  same_by_act g w u s (Finishes k) c v link h can none iu su a q sv = su

module _ {M : Type 0} where
  -- which recordings there are after a act: an earlier one, or the one that begins, whose copy is the ends
  pub which_copy : (u : ℕ) (x : Recorder M) (far : ℕ → End M) (linked : ℕ → Bool) (d : Act M) (s : ℕ) (c : ℕ → End M) → (recorder_after x d).copy s ≡ Some c → (x.copy s ≡ Some c) ⊎ ((records d s ≡ true) × ((recorder_after x d).ends ≡ c))
  which_copy u x far linked (Moves w act) s c is = inl is
  which_copy u x far linked (EndsChannel w e k) s c is = inl is
  which_copy u x far linked (IgnoresMarker w e k) s c is = inl is
  which_copy u x far linked (Begins k whole) s c is =
      elim (copy_which x.copy k (λ y. marked k (x.ends y)) s c is) [ inl new ↦ inr (grind (arith, nat_tests, new.0), new.1) | inr old ↦ inl old ]
  which_copy u x far linked (Follows w e k whole) s c is =
      elim (copy_which x.copy k (λ y. marked k (with_end x.ends w (taking (x.ends w) (Mark e k)) y)) s c is) [ inl new ↦ inr (grind (arith, nat_tests, new.0), new.1) | inr old ↦ inl old ]
  which_copy u x far linked (Finishes k) s c is = inl is

module _ {M P W : Type 0} where
  -- the sessions of a recording that isn't lost were up
  alive_up : (g : Network M P W) (linked : ℕ → ℕ → Bool) (u v s : ℕ) (x : Recorder M) (other : Copies M) (c : ℕ → End M) → PeerFacts x other u v → x.copy s ≡ Some c → HasStillChannels g u x s → is_up (c v) ≡ true
  alive_up g linked u v s x other c w is (inl a) = (let r = w.rec s a.0 in subst (λ i. is_up (i v) ≡ true) (some_same r.c c (x.copy s) r.is is) r.c_up)
  alive_up g linked u v s x other c w is (inr a) = (let ch = w.parts s a.0 a.1 in subst (λ i. is_up (i v) ≡ true) (some_same ch.0 c (x.copy s) ch.2 is) ch.7)

next_apart : (u : ℕ) → u ≢ suc u
next_apart u h = omega arith

module _ {M P W : Type 0} where
  router_copy : (g : Network M P W) (w : Routers M P W) (u : ℕ) (e : Event M P W) (s : ℕ) (c : ℕ → End M) → RunFacts g.linked (recorders_of w) → MayHappen g w u e → (w u).recorder.copy s ≡ Some c → (router_after g u (w u) e).recorder.copy s ≡ Some c
  router_copy g w u (Acts d) s c h may is = copies_stay u (w u).recorder (λ v. (w v).recorder.ends u) (g.linked u) d (suc u) may.0 (h.locals u (suc u) (next_apart u)) s c is
  router_copy g w u (Advertise v p m) s c h may is = is
  router_copy g w u (Decide p) s c h may is = is
  router_copy g w u (Command own kept) s c h may is = is

quiet_was : (b q l : Bool) → b ≡ false → cond b true (q && l) ≡ true → (q ≡ true) × ((q && l) ≡ true)
quiet_was true q l is h = absurd cc
quiet_was false true l is h = (refl, h)
quiet_was false false l is h = absurd cc

module _ {M P W : Type 0} where
  router_quiet : (g : Network M P W) (w : Routers M P W) (u : ℕ) (e : Event M P W) (s : ℕ) (c : ℕ → End M) → RunFacts g.linked (recorders_of w) → MayHappen g w u e → (w u).recorder.copy s ≡ Some c → (router_after g u (w u) e).quiet s ≡ true → (w u).quiet s ≡ true
  router_quiet g w u (Acts d) s c h may is q =
      (quiet_was (records d s) ((w u).quiet s) (not (leaves (w u).recorder d)) (not_now u (w u).recorder (λ v. (w v).recorder.ends u) (g.linked u) d (suc u) s c may.0 (h.locals u (suc u) (next_apart u)) is) q).0
  router_quiet g w u (Advertise v p m) s c h may is q = q
  router_quiet g w u (Decide p) s c h may is q = q
  router_quiet g w u (Command own kept) s c h may is q = absurd cc

  still_case : (g : Network M P W) (w : Routers M P W) (u : ℕ) (e : Event M P W) (s : ℕ) (b : Bool) → RunFacts g.linked (recorders_of w) → (b ≡ true → MayHappen g w u e)
      → ((c : ℕ → End M) → (cond b (router_after g u (w u) e) (w u)).recorder.copy s ≡ Some c → IsStillSettling g u (cond b (router_after g u (w u) e) (w u)) s c)
      → (c : ℕ → End M) → (w u).recorder.copy s ≡ Some c → IsStillSettling g u (w u) s c
  still_case g w u e s true h may fine c is = still_back g w u e (suc u) s c (may refl) (h.locals u (suc u) (next_apart u)) is (fine c (router_copy g w u e s c h (may refl) is))
  still_case g w u e s false h may fine c is = fine c is

  quiet_case : (g : Network M P W) (w : Routers M P W) (u : ℕ) (e : Event M P W) (s : ℕ) (b : Bool) → RunFacts g.linked (recorders_of w) → (b ≡ true → MayHappen g w u e)
      → ((c : ℕ → End M) → (cond b (router_after g u (w u) e) (w u)).recorder.copy s ≡ Some c → (cond b (router_after g u (w u) e) (w u)).quiet s ≡ true)
      → (c : ℕ → End M) → (w u).recorder.copy s ≡ Some c → (w u).quiet s ≡ true
  quiet_case g w u e s true h may quiet c is = router_quiet g w u e s c h (may refl) is (quiet c (router_copy g w u e s c h (may refl) is))
  quiet_case g w u e s false h may quiet c is = quiet c is

  may_at : (g : Network M P W) (w : Routers M P W) (t : NetworkStep M P W) (u : ℕ) (b : Bool) → (u == t.router) ≡ b → MayHappen g w t.router t.event → b ≡ true → MayHappen g w u t.event
  may_at g w t u true is may h = let same : t.router ≡ u = grind (arith, nat_tests, is) in subst (λ i. MayHappen g w i t.event) same may
  may_at g w t u false is may h = absurd cc

  act_recorded : (g : Network M P W) (w : Routers M P W) (u s : ℕ) (d : Act M) (c : ℕ → End M) → IsNetwork g → RunFacts g.linked (recorders_of w) → MayHappen g w u (Acts d)
      → ((x : ℕ) (cx : ℕ → End M) → g.routers x ≡ true → (w x).recorder.copy s ≡ Some cx → IsAsRecorded g x (w x) s cx) → g.routers u ≡ true
      → IsStillSettling g u (router_after g u (w u) (Acts d)) s c → (router_after g u (w u) (Acts d)).quiet s ≡ true → (recorder_after (w u).recorder d).copy s ≡ Some c
      → ((w u).recorder.copy s ≡ Some c) ⊎ ((records d s ≡ true) × ((recorder_after (w u).recorder d).ends ≡ c)) → IsAsRecorded g u (router_after g u (w u) (Acts d)) s c
  act_recorded g w u s d c net h may r ru fine quiet is (inl old) =
      let was : records d s ≡ false = not_now u (w u).recorder (λ v. (w v).recorder.ends u) (g.linked u) d (suc u) s c may.0 (h.locals u (suc u) (next_apart u)) old in
      let before = r u c ru old in
      let q = (quiet_was (records d s) ((w u).quiet s) (not (leaves (w u).recorder d)) was quiet).1 in record {
        kept = λ p. rw was (before.kept p);
        originated = λ p. rw was (before.originated p);
        ends = λ v link. same_by_act g w u s d c v link h may.0 may.1 old (before.ends v link) fine.alive q
            (λ cv iv. (r v cv (net.known u v link) iv).ends u (net.both u v link));
      }
  act_recorded g w u s d c net h may r ru fine quiet is (inr new) = record {
    kept = λ p. rw new.0 refl;
    originated = λ p. rw new.0 refl;
    ends = λ v link. (
        let apart = net.apart u v link in
        let win = window_by_act u (w u).recorder (λ y. (w y).recorder.ends u) (g.linked u) (λ y. (w y).recorder.copy) (λ y. (w y).recorder.last) d may.0 (λ y a. h.pairs u y a) (λ y a. h.locals u y a) (λ y a. h.locals y u (λ e. a (sym e))) v apart link (h.windows u v apart link) in
        let up : is_up (c v) ≡ true = alive_up g g.linked u v s (recorder_after (w u).recorder d) (w v).recorder.copy c win is fine.alive in
        subst (λ i. IsEndAsRecorded g i (c v)) (ap (λ (i : ℕ → End M). i v) (sym new.1)) (same_self g (c v) up)
        );
  }

  router_recorded : (g : Network M P W) (w : Routers M P W) (u s : ℕ) (e : Event M P W) (c : ℕ → End M) → IsNetwork g → RunFacts g.linked (recorders_of w) → MayHappen g w u e
      → ((x : ℕ) (cx : ℕ → End M) → g.routers x ≡ true → (w x).recorder.copy s ≡ Some cx → IsAsRecorded g x (w x) s cx) → ((x : ℕ) (cx : ℕ → End M) → g.routers x ≡ true → (w x).recorder.copy s ≡ Some cx → IsStillSettling g x (w x) s cx) → g.routers u ≡ true
      → IsStillSettling g u (router_after g u (w u) e) s c → (router_after g u (w u) e).quiet s ≡ true → (router_after g u (w u) e).recorder.copy s ≡ Some c → IsAsRecorded g u (router_after g u (w u) e) s c
  router_recorded g w u s (Acts d) c net h may r f ru fine quiet is =
      act_recorded g w u s d c net h may r ru fine quiet is (which_copy u (w u).recorder (λ v. (w v).recorder.ends u) (g.linked u) d s c is)
  router_recorded g w u s (Advertise v p m) c net h may r f ru fine quiet is = absurd (may.3 (no_tell g u v (w u) s c (r u c ru is) (f u c ru is) may.1 p may.4))
  router_recorded g w u s (Decide p) c net h may r f ru fine quiet is = absurd (may.1 (no_decide g u (w u) s c (r u c ru is) (f u c ru is) p may.0))
  router_recorded g w u s (Command own kept) c net h may r f ru fine quiet is = absurd cc

  recorded_case : (g : Network M P W) (w : Routers M P W) (u s : ℕ) (e : Event M P W) (c : ℕ → End M) (b : Bool) → IsNetwork g → RunFacts g.linked (recorders_of w) → (b ≡ true → MayHappen g w u e)
      → ((x : ℕ) (cx : ℕ → End M) → g.routers x ≡ true → (w x).recorder.copy s ≡ Some cx → IsAsRecorded g x (w x) s cx) → ((x : ℕ) (cx : ℕ → End M) → g.routers x ≡ true → (w x).recorder.copy s ≡ Some cx → IsStillSettling g x (w x) s cx) → g.routers u ≡ true
      → IsStillSettling g u (cond b (router_after g u (w u) e) (w u)) s c → (cond b (router_after g u (w u) e) (w u)).quiet s ≡ true → (cond b (router_after g u (w u) e) (w u)).recorder.copy s ≡ Some c → IsAsRecorded g u (cond b (router_after g u (w u) e) (w u)) s c
  recorded_case g w u s e c true net h may r f ru fine quiet is = router_recorded g w u s e c net h (may refl) r f ru fine quiet is
  recorded_case g w u s e c false net h may r f ru fine quiet is = r u c ru is

  -- what was still settling after a by_step was still settling before it
  pub still_before : (g : Network M P W) (w : Routers M P W) (t : NetworkStep M P W) (s : ℕ) → RunFacts g.linked (recorders_of w) → MayHappen g w t.router t.event → AreStillSettling g (advanced g w t) s → AreStillSettling g w s
  still_before g w t s h may fine = λ x cx rx ix. still_case g w x t.event s (x == t.router) h (may_at g w t x (x == t.router) refl may) (λ c i. fine x c rx i) cx ix

  pub steady_step : (g : Network M P W) (w : Routers M P W) (t : NetworkStep M P W) → IsNetwork g → RunFacts g.linked (recorders_of w) → MayHappen g w t.router t.event → Steady g w → Steady g (advanced g w t)
  steady_step g w t net h may steady s fine' quiet' u c ru is =
      let fine : AreStillSettling g w s = still_before g w t s h may fine' in
      let quiet : IsFlaggedQuiet g w s = λ x cx rx ix. quiet_case g w x t.event s (x == t.router) h (may_at g w t x (x == t.router) refl may) (λ d i. quiet' x d rx i) cx ix in
      recorded_case g w u s t.event c (u == t.router) net h (may_at g w t u (u == t.router) refl may) (steady s fine quiet) fine ru (fine' u c ru is) (quiet' u c ru is) is

  pub steady_run : (g : Network M P W) (ts : List (NetworkStep M P W)) (w : Routers M P W) → IsNetwork g → RunFacts g.linked (recorders_of w) → IsNetworkRun g w ts → Steady g w → Steady g (routers_after g w ts)
  steady_run g [] w net h r steady = steady
  steady_run g (t ∷ ts) w net h r steady = steady_run g ts (advanced g w t) net (facts_step g w t h r.0) r.1 (steady_step g w t net h r.0 steady)

  pub still_run : (g : Network M P W) (ts : List (NetworkStep M P W)) (w : Routers M P W) (s : ℕ) → RunFacts g.linked (recorders_of w) → IsNetworkRun g w ts → AreStillSettling g (routers_after g w ts) s → AreStillSettling g w s
  still_run g [] w s h r fine = fine
  still_run g (t ∷ ts) w s h r fine = still_before g w t s h r.0 (still_run g ts (advanced g w t) s (facts_step g w t h r.0) r.1 fine)

  settled_still : (g : Network M P W) (w : Routers M P W) (s : ℕ) → IsSettled g w s → AreStillSettling g w s
  settled_still g w s settled = λ u c ru is. (
      let q = settled u ru in
      let same : q.1 ≡ c = some_same q.1 c ((w u).recorder.copy s) q.3 is in
      record { calm = subst (λ i. IsNotPending g u i ((w u).kept_at s) ((w u).originated_at s)) same q.5; alive = inr (q.0, q.2, q.4) }
      )

module _ {M P W : Type 0} where
  -- by the flags
  pub stays : (g : Network M P W) → IsNetwork g → (ts more : List (NetworkStep M P W)) → IsNetworkRun g (first_routers g) ts → IsNetworkRun g (routers_after g (first_routers g) ts) more → (s : ℕ)
      → IsSettled g (routers_after g (routers_after g (first_routers g) ts) more) s → IsFlaggedQuiet g (routers_after g (first_routers g) ts) s → (u : ℕ) (p : P) (c : ℕ → End M) → g.routers u ≡ true → g.named p ≡ true
      → (routers_after g (first_routers g) ts u).recorder.copy s ≡ Some c
      → ((routers_after g (first_routers g) ts u).kept p ≡ (routers_after g (first_routers g) ts u).kept_at s p)
      × (route g u (routers_after g (first_routers g) ts u).recorder.ends p ((routers_after g (first_routers g) ts u).originated p) ≡ (routers_after g (first_routers g) ts u).kept_at s p)
  stays g net ts more r r' s settled quiet u p c ru named is =
      let w = routers_after g (first_routers g) ts in
      let h = facts_run g ts (first_routers g) (holds_start g.linked) r in
      let fine = still_run g more w s h r' (settled_still g (routers_after g w more) s settled) in
      let steady = steady_run g ts (first_routers g) net (holds_start g.linked) r (λ k f q x d rx i. absurd cc) in
      let rec = steady s fine quiet u c ru is in
      let f = fine u c ru is in
      (rec.kept p, same_route g u (w u) s c rec p ∙ sym (f.calm.0 p named))
