-- The octets that a side holds or dropped, at each kind of step.
use Rattle.std.proofs.Common.{◌≡◌, ◌≢◌, ◌⊎◌, ℕ, zero, suc, ◌+◌, ◌<◌, ◌≤◌, ◌==◌, Bool, true, false, ◌&&◌, cond, List, [], ◌∷◌, ◌++◌, length, take, drop, slice_get, refl, ap, sym, ◌∙◌, subst, arith, append_assoc, length-append, Option, None, Some, inl, inr}
use Rattle.std.specs.Prelude.{Ok, nat_le}
use mathlib.Core.List.{IsPrefix}
use Rattle.std.proofs.lemmas.List.{append-nil}
use Rattle.std.proofs.lemmas.Bool.Decides.{nat_tests}
use Rattle.std.proofs.Math.Seq.{take-append_seam, drop-append_seam}
use Rattle.bgp_codec.specs.declared.message.Message.{Message}
use Rattle.bgp_codec.specs.Header.{IsFrame, header_fault, length_field}
use Rattle.bgp_codec.specs.Faults.{reading}
use Rattle.bgp_framing.specs.Held.{is_waiting}
use Rattle.link_epoch.specs.declared.link_end.Phase.{Phase}
use Rattle.link_epoch.specs.declared.link_end.Phase.TheVariants as phase
use Rattle.run_model.specs.Links as links
use Rattle.run_model.specs.Links.{Entry, Dial, Says, Mark, Shut, End, incarnation, heard_number, answers, greatest_dial}
use Rattle.run_model.specs.Octets.{Passing, Octet, Control, octets_of, passing, OnlyOctets, AllGood, AllFrames, IsFraming}
use Rattle.router_model.specs.Settings.{Setting}
use Rattle.router_model.specs.Sides.{Side, Draft, AtHand, at_hand, carried, without_front, front, read_front, rest_behind, fed, uses, is_joined}
use Rattle.router_model.specs.State.{rule_of}
use Rattle.router_runs.specs.Runs.{written_in}
use Rattle.router_runs.specs.Reading.{sides_after, model_side}
use Rattle.router_runs.specs.Doing.{Stands, Row, Hand}
use Rattle.router_runs.specs.Kept.{IsGood, Holds}
use Rattle.router_runs.proofs.Lower.{Laws, passing_more}
use Rattle.router_runs.proofs.Entries.{octets_more}

module _ (laws : Laws) where
  -- ---- frames

  -- a frame in front tells what a header of so many octets does
  record HasFront (octets frame : List ℕ) : Type 0 where
    long : 19 ≤ length octets
    good : header_fault octets ≡ None
    field : length_field octets ≡ length frame
    enough : length frame ≤ length octets

  front_of : (octets frame more : List ℕ) → IsFrame frame → octets ≡ frame ++ more → HasFront octets frame
  front_of octets frame more is e =
      let i = laws.header (length frame) octets is.has_header in
      let cut : take (length frame) octets ≡ frame = ap (take (length frame)) e ∙ take-append_seam frame more in
      let size : length octets ≡ length frame + length more = ap length e ∙ length-append frame more in
      let wide = is.has_header in
      record {
        long = omega (arith, size, wide);
        good = sym i.same_fault ∙ (ap header_fault cut ∙ is.good);
        field = sym i.same_length ∙ (ap length_field cut ∙ sym is.whole);
        enough = omega (arith, size);
      }

  pub framing : IsFraming IsFrame
  framing = record {
    some = λ f is. λ none. (let l = is.has_header in let z : length f ≡ 0 = ap length none in omega (arith, l, z));
    prefix_free = λ f g a b is theirs same.
        let one = front_of (f ++ a) f a is refl in
        let other = front_of (f ++ a) g b theirs same in
        let size : length f ≡ length g = sym one.field ∙ other.field in
        sym (take-append_seam f a) ∙ (ap (λ n. take n (f ++ a)) size ∙ (ap (take (length g)) same ∙ take-append_seam g b));
  }

  -- messages that are good are written as frames
  pub all_frames : (g : Setting) (u : ℕ) (entries : List (Entry Message)) → AllGood (IsGood g u) entries → AllFrames IsFrame (written_in g) entries
  all_frames g u [] all = tt
  all_frames g u (Dial e ∷ r) all = all_frames g u r all
  all_frames g u (Says e m ∷ r) all = (all.0.0, all_frames g u r all.1)
  all_frames g u (Mark e s ∷ r) all = all_frames g u r all
  all_frames g u (Shut e ∷ r) all = all_frames g u r all

  pub waiting_frame : (f rest : List ℕ) → IsFrame f → is_waiting (f ++ rest) ≡ true
  waiting_frame f rest is =
      let h = front_of (f ++ rest) f rest is refl in
      let l1 = h.long in
      let l2 = h.field in
      let l3 = h.enough in
      let long : nat_le 19 (length (f ++ rest)) ≡ true = grind (arith, nat_tests, l1) in
      let enough : nat_le (length_field (f ++ rest)) (length (f ++ rest)) ≡ true = (let k : length_field (f ++ rest) ≤ length (f ++ rest) = omega (arith, l2, l3) in grind (arith, nat_tests, k)) in
      rw (long, h.good, enough) refl

  -- octets with a message in front read as it
  pub front_ok : (g : Setting) (v u : ℕ) (m : Message) (rest : List ℕ) → IsGood g u m → front (rule_of g.net v u) (written_in g m ++ rest) ≡ Ok m
  front_ok g v u m rest good =
      let h = front_of (written_in g m ++ rest) (written_in g m) rest good.0 refl in
      ap (λ x. read_front (rule_of g.net v u) x (written_in g m ++ rest)) h.good ∙ (ap (λ n. reading (rule_of g.net v u) (take n (written_in g m ++ rest))) h.field ∙ (ap (reading (rule_of g.net v u)) (take-append_seam (written_in g m) rest) ∙ good.1 v))

  pub rest_ok : (g : Setting) (u : ℕ) (m : Message) (rest : List ℕ) → IsGood g u m → rest_behind (header_fault (written_in g m ++ rest)) (written_in g m ++ rest) ≡ rest
  rest_ok g u m rest good =
      let h = front_of (written_in g m ++ rest) (written_in g m) rest good.0 refl in
      ap (λ x. rest_behind x (written_in g m ++ rest)) h.good ∙ (ap (λ n. drop n (written_in g m ++ rest)) h.field ∙ drop-append_seam (written_in g m) rest)

  -- too few octets of a frame wait for more
  short_at : (b : Bool) (held : List ℕ) (h : ℕ) (t : List ℕ) → nat_le 19 (length held) ≡ b → IsFrame (held ++ h ∷ t) → is_waiting held ≡ false
  short_at false held h t is frame = rw is refl
  short_at true held h t is frame =
      let long : 19 ≤ length held = grind (arith, nat_tests, is) in
      let k = laws.header (length held) (held ++ h ∷ t) long in
      let cut : take (length held) (held ++ h ∷ t) ≡ held = take-append_seam held (h ∷ t) in
      let good : header_fault held ≡ None = ap header_fault (sym cut) ∙ (k.same_fault ∙ frame.good) in
      let field : length_field held ≡ length (held ++ h ∷ t) = ap length_field (sym cut) ∙ (k.same_length ∙ sym frame.whole) in
      let more : length held < length (held ++ h ∷ t) = omega (arith, length-append held (h ∷ t)) in
      let few : nat_le (length_field held) (length held) ≡ false = grind (arith, nat_tests, field, more) in
      rw (is, good, few) refl

  -- what waits in front of what is held is the next message
  pub record Found (g : Setting) (u e : ℕ) (held : List ℕ) (place : Option (Entry Message)) : Type 0 where
    pub message : Message
    pub rest : List ℕ
    pub good : IsGood g u message
    pub is : held ≡ written_in g message ++ rest
    pub next : place ≡ Some (Says e message)

  -- an entry at a place is good
  good_at : (g : Setting) (u e n : ℕ) (m : Message) (log : List (Entry Message)) → AllGood (IsGood g u) log → slice_get log n ≡ Some (Says e m) → IsGood g u m
  good_at g u e n m [] all is = absurd (cc is)
  good_at g u e zero m (Says d k ∷ log) all is = (let same : k ≡ m = cc is in subst (IsGood g u) same all.0)
  good_at g u e zero m (Dial d ∷ log) all is = absurd (cc is)
  good_at g u e zero m (Mark d k ∷ log) all is = absurd (cc is)
  good_at g u e zero m (Shut d ∷ log) all is = absurd (cc is)
  good_at g u e (suc n) m (Says d k ∷ log) all is = good_at g u e n m log all.1 is
  good_at g u e (suc n) m (Dial d ∷ log) all is = good_at g u e n m log all is
  good_at g u e (suc n) m (Mark d k ∷ log) all is = good_at g u e n m log all is
  good_at g u e (suc n) m (Shut d ∷ log) all is = good_at g u e n m log all is

  -- what waits is no mere beginning of a frame
  whole : (held f : List ℕ) → IsFrame f → is_waiting held ≡ true → IsPrefix held f ⊎ IsPrefix f held → (rest : List ℕ) × (held ≡ f ++ rest)
  whole held f is waits (inr p) = (p.0, sym p.1)
  whole held f is waits (inl p) = at p.0 p.1
    where
      at : (t : List ℕ) → held ++ t ≡ f → (rest : List ℕ) × (held ≡ f ++ rest)
      at [] same = ([], sym (append-nil held) ∙ (same ∙ sym (append-nil f)))
      at (h ∷ t) same = absurd (let no = short_at (nat_le 19 (length held)) held h t refl (subst IsFrame (sym same) is) in cc (waits, no))

  pub found : (g : Setting) (u e : ℕ) (held : List ℕ) (past log : List (Entry Message)) → IsPrefix past log → AllGood (IsGood g u) log → IsPrefix (passing (written_in g) past ++ octets_of e held) (passing (written_in g) log) → is_waiting held ≡ true
      → Found g u e held (slice_get log (length past))
  found g u e held past log front all is waits =
      let some : held ≢ [] = λ none. (let no : is_waiting held ≡ false = ap is_waiting none in cc (waits, no)) in
      let h = laws.held (written_in g) framing past log e held (all_frames g u log all) front some is in
      let w = whole held (written_in g h.0) h.2 waits h.3 in
      record { message = h.0; rest = w.0; good = good_at g u e (length past) h.0 log all h.1; is = w.1; next = h.1 }

  -- ---- octets alone

  pub only_octets : (e : ℕ) (bs : List ℕ) → OnlyOctets {M = Message} (octets_of e bs)
  only_octets e [] = tt
  only_octets e (b ∷ bs) = only_octets e bs

  only_more : (xs ys : List (Passing Message)) → OnlyOctets xs → OnlyOctets ys → OnlyOctets (xs ++ ys)
  only_more [] ys p q = q
  only_more (Octet e b ∷ xs) ys p q = only_more xs ys p q
  only_more (Control x ∷ xs) ys p q = absurd p

  pub cleared : (b : Bool) (xs : List ℕ) → xs ≡ [] → cond b [] xs ≡ []
  cleared true xs h = refl
  cleared false xs h = h

  -- ---- what is held, after each kind of step

  -- nothing is taken
  pub holds_quiet : (g : Setting) (s : Side) (h : AtHand) (d : Draft) (items : List (Passing Message)) (a b : End Message) → Stands s a b → Holds g s items a → IsPrefix items (passing (written_in g) b.appended) → (r : Row s h d a b)
      → Holds g (carried h s d) items (sides_after (model_side s a) r.does.events).end
  holds_quiet g s h d items a b x k is r =
      let none : answers a ≡ true → k.rest ≡ [] = λ yes.
      laws.none_dropped (written_in g) a b x.mine x.theirs yes k.rest k.only (subst (λ i. IsPrefix i (passing (written_in g) b.appended)) k.passed is) in
      record {
        rest = k.rest;
        only = k.only;
        passed = k.passed ∙ ap (λ t. passing (written_in g) t ++ k.rest) (sym (r.does.takes ∙ append-nil a.taken));
        joined = λ j. elim (r.joined j) [
          | inl w ↦ k.joined w.0 ∙ (ap (λ e. octets_of e s.held) (sym w.1) ∙ ap (λ c. octets_of d.link.epoch (cond c [] s.held)) (sym w.2))
          | inr w ↦ none w.1 ∙ ap (λ o. octets_of d.link.epoch o) (sym (cleared d.drops s.held (k.apart w.0)))
        ];
        apart = λ n. elim (r.apart n) [
          | inl w ↦ cleared d.drops s.held (k.apart w)
          | inr w ↦ ap (λ c. cond c [] s.held) w
        ];
      }

  -- a message is handled
  pub holds_handled : (g : Setting) (s : Side) (m : Message) (d : Draft) (behind : List ℕ) (items : List (Passing Message)) (a b : End Message) → Holds g s items a → s.link.phase ≡ phase.Joined
      → s.held ≡ written_in g m ++ behind → (without_front s).held ≡ behind → (r : Hand s m d a b)
      → Holds g (carried (at_hand (Ok m)) (without_front s) d) items (sides_after (model_side s a) r.does.events).end
  holds_handled g s m d behind items a b k joined is left r =
      let e : ℕ = s.link.epoch in
      let split : k.rest ≡ octets_of e (written_in g m) ++ octets_of e behind = k.joined joined ∙ (ap (octets_of e) is ∙ octets_more e (written_in g m) behind) in
      let one : passing (written_in g) (Says e m ∷ []) ≡ octets_of e (written_in g m) = append-nil (octets_of e (written_in g m)) in
      record {
        rest = octets_of e behind;
        only = only_octets e behind;
        passed = k.passed ∙ (ap (λ w. passing (written_in g) a.taken ++ w) split ∙ (sym (append_assoc (passing (written_in g) a.taken) (octets_of e (written_in g m)) (octets_of e behind))
            ∙ ap (λ w. w ++ octets_of e behind) (ap (λ w. passing (written_in g) a.taken ++ w) (sym one) ∙ (sym (passing_more laws (written_in g) a.taken (Says e m ∷ [])) ∙ ap (passing (written_in g)) (sym r.does.takes)))));
        joined = λ j. (let w = r.joined j in ap (octets_of e) (sym left) ∙ (ap (λ i. octets_of i (without_front s).held) (sym w.0) ∙ ap (λ c. octets_of d.link.epoch (cond c [] (without_front s).held)) (sym w.1)));
        apart = λ n. ap (λ c. cond c [] (without_front s).held) (r.apart n);
      }

  -- an entry that is no message is taken, and whatever was dropped passed before it
  pub control_passed : (g : Setting) (x : Entry Message) (messages : List (Entry Message)) (items : List (Passing Message)) (s : Side) (a c : End Message) → (k : Holds g s items a) → passing (written_in g) messages ≡ k.rest
      → c.taken ≡ a.taken ++ (messages ++ x ∷ []) → passing (written_in g) (x ∷ []) ≡ Control x ∷ [] → items ++ Control x ∷ [] ≡ passing (written_in g) c.taken ++ []
  control_passed g x messages items s a c k are takes one =
      ap (λ w. w ++ Control x ∷ []) k.passed ∙ (append_assoc (passing (written_in g) a.taken) k.rest (Control x ∷ [])
      ∙ (ap (λ w. passing (written_in g) a.taken ++ w) (ap (λ w. w ++ Control x ∷ []) (sym are) ∙ (ap (λ w. passing (written_in g) messages ++ w) (sym one) ∙ sym (passing_more laws (written_in g) messages (x ∷ []))))
      ∙ (sym (passing_more laws (written_in g) a.taken (messages ++ x ∷ [])) ∙ (ap (passing (written_in g)) (sym takes) ∙ sym (append-nil (passing (written_in g) c.taken))))))

  pub holds_control : (g : Setting) (t : Side) (x : Entry Message) (messages : List (Entry Message)) (items : List (Passing Message)) (s : Side) (a c : End Message) → (k : Holds g s items a) → passing (written_in g) messages ≡ k.rest
      → c.taken ≡ a.taken ++ (messages ++ x ∷ []) → passing (written_in g) (x ∷ []) ≡ Control x ∷ [] → t.held ≡ [] → Holds g t (items ++ Control x ∷ []) c
  holds_control g t x messages items s a c k are takes one none = record {
    rest = [];
    only = tt;
    passed = control_passed g x messages items s a c k are takes one;
    joined = λ j. ap (octets_of t.link.epoch) (sym none);
    apart = λ n. none;
  }

  -- octets are taken
  not_used : (p : Phase) (c : Bool) → p ≢ phase.Joined → (is_joined p && c) ≡ false
  not_used phase.Shut c n = refl
  not_used phase.Offered c n = refl
  not_used phase.Joined c n = absurd (n refl)

  pub fed_same : (b : Bool) (s : Side) (octets : List ℕ) → (((cond b (record s { held = s.held ++ octets }) s).link ≡ s.link) × ((cond b (record s { held = s.held ++ octets }) s).held ≡ cond b (s.held ++ octets) s.held))
  fed_same true s octets = (refl, refl)
  fed_same false s octets = (refl, refl)

  empty_feed : (b : Bool) (xs : List ℕ) → cond b (xs ++ []) xs ≡ xs
  empty_feed true xs = append-nil xs
  empty_feed false xs = refl

  pub holds_piece : (g : Setting) (u : ℕ) (s : Side) (e : ℕ) (octets : List ℕ) (items : List (Passing Message)) (a b : End Message) → Stands s a b → (a.phase ≡ links.Joined → heard_number a ≡ incarnation a)
      → (s.link.phase ≡ phase.Joined → a.phase ≡ links.Joined) → AllGood (IsGood g u) b.appended → is_waiting s.held ≡ false → Holds g s items a → IsPrefix (items ++ octets_of e octets) (passing (written_in g) b.appended)
      → Holds g (fed s e octets) (items ++ octets_of e octets) a
  holds_piece g u s e octets items a b x own here all waits k is =
      let b' : Bool = uses s.link e in
      let l = fed_same b' s octets in
      let whole : (f rest : List ℕ) → IsFrame f → s.held ≢ f ++ rest = λ f rest fr h. (let yes : is_waiting s.held ≡ true = ap is_waiting h ∙ waiting_frame f rest fr in cc (waits, yes)) in
      record {
        rest = k.rest ++ octets_of e octets;
        only = only_more k.rest (octets_of e octets) k.only (only_octets e octets);
        passed = ap (λ w. w ++ octets_of e octets) k.passed ∙ append_assoc (passing (written_in g) a.taken) k.rest (octets_of e octets);
        joined = λ j. (let was : s.link.phase ≡ phase.Joined = ap (λ i. i.phase) (sym l.0) ∙ j in
            at octets was (k.joined was) whole is ∙ (ap (octets_of s.link.epoch) (sym l.1) ∙ ap (λ i. octets_of i.epoch (fed s e octets).held) (sym l.0)));
        apart = λ n. (let was : s.link.phase ≢ phase.Joined = λ j. n (ap (λ i. i.phase) l.0 ∙ j) in
            l.1 ∙ (ap (λ c. cond c (s.held ++ octets) s.held) (not_used s.link.phase (e == s.link.epoch) was) ∙ k.apart was));
      }
    where
      at : (os : List ℕ) → s.link.phase ≡ phase.Joined → k.rest ≡ octets_of s.link.epoch s.held → ((f rest : List ℕ) → IsFrame f → s.held ≢ f ++ rest)
          → IsPrefix (items ++ octets_of e os) (passing (written_in g) b.appended) → k.rest ++ octets_of e os ≡ octets_of s.link.epoch (cond (uses s.link e) (s.held ++ os) s.held)
      at [] j same whole is = append-nil k.rest ∙ (same ∙ ap (octets_of s.link.epoch) (sym (empty_feed (uses s.link e) s.held)))
      at (o ∷ os) j same whole is =
          let n : ℕ = s.link.epoch in
          let there : IsPrefix (passing (written_in g) a.taken ++ (octets_of n s.held ++ octets_of e (o ∷ os))) (passing (written_in g) b.appended) =
          subst (λ w. IsPrefix w (passing (written_in g) b.appended)) (ap (λ w. w ++ octets_of e (o ∷ os)) (k.passed ∙ ap (λ w. passing (written_in g) a.taken ++ w) same) ∙ append_assoc (passing (written_in g) a.taken) (octets_of n s.held) (octets_of e (o ∷ os))) is in
          let stale : e ≡ n = laws.no_stale (written_in g) framing a b x.mine x.theirs (own (here j)) (all_frames g u b.appended all) e o os s.held whole (subst (λ i. IsPrefix (passing (written_in g) a.taken ++ (octets_of i s.held ++ octets_of e (o ∷ os))) (passing (written_in g) b.appended)) x.reads.epoch there) ∙ sym x.reads.epoch in
          let hit : (e == n) ≡ true = grind (arith, nat_tests, stale) in
          let used : uses s.link e ≡ true = ap (λ p. is_joined p && (e == n)) j ∙ hit in
          ap (λ w. w ++ octets_of e (o ∷ os)) same ∙ (ap (λ i. octets_of n s.held ++ octets_of i (o ∷ os)) stale ∙ (sym (octets_more n s.held (o ∷ os)) ∙ ap (λ c. octets_of n (cond c (s.held ++ o ∷ os) s.held)) (sym used)))
