-- A router records a number, by a command or by the first marker of it.
use Rattle.std.proofs.Common.{◌≡◌, ℕ, ◌<◌, ◌==◌, Bool, true, false, ◌&&◌, not, cond, List, [], ◌++◌, refl, ap, sym, ◌∙◌, arith, append_assoc, subst, Option, None, Some, inl, inr, ◌⊎◌}
use Rattle.std.proofs.lemmas.List.{append-nil}
use Rattle.std.proofs.lemmas.Bool.Decides.{nat_tests}
use Rattle.bgp_codec.specs.declared.message.Message.{Message}
use Rattle.ranked_policy.specs.Plans.{IsNetwork}
use Rattle.run_model.specs.Links as links
use Rattle.run_model.specs.Links.{Entry, Mark, End, Marks, incarnation}
use Rattle.run_model.specs.Octets.{Passing}
use Rattle.run_model.specs.Recordings as model
use Rattle.run_model.specs.Recordings.{recording, Begins}
use Rattle.run_model.specs.Routes.{IsNotPending}
use Rattle.run_model.specs.Offers as offers
use Rattle.run_model.specs.Offers.{IsPartOf, IsIn, Lost, NotUp}
use Rattle.snap_marker.specs.Recordings.{RouterOffer, Recording, Snapshots, goes_on, begins_or_is_lost, superseding, superseded}
use Rattle.router_model.specs.Settings.{Setting, linked, peers}
use Rattle.router_model.specs.Sides.{Side, is_up, marked}
use Rattle.router_model.specs.State.{Router}
use Rattle.router_model.specs.Step.{awaits_marker, recording_of, records, says_markers}
use Rattle.router_runs.specs.Model.{network_of}
use Rattle.router_runs.specs.Doing.{Stands}
use Rattle.router_runs.specs.Kept.{Holds}
use Rattle.router_runs.specs.Mirrors.{ModelRouter, Goes, AreAlike, ReadsRouter, Recorded}
use Rattle.router_runs.proofs.Doing.{reads_like}
use Rattle.router_runs.proofs.Words.{pending_alike}
use Rattle.router_runs.proofs.Markers.{first_down, is_whole, lost_now, sup_is, begins_lost, all_up}
use Rattle.router_runs.proofs.Marking.{up_alike, SendsWhere, sends_where}
use Rattle.router_runs.proofs.Parting.{parts_on}
use Rattle.router_runs.proofs.Going.{then_goes}
use Rattle.router_runs.proofs.Turning.{IsTurned}
use Rattle.router_runs.proofs.Locally.{LocalStep}
use Rattle.router_runs.proofs.Lower.{Laws}

-- the router of the laws that records s, from one whose ends are these
abbrev pub begun_from : ModelRouter → (ℕ → End Message) → ℕ → Bool → (ℕ → Bool) → ModelRouter
begun_from n ends s whole waits = record {
  recorder = recording n.recorder ends s whole waits;
  kept = n.kept;
  originated = n.originated;
  kept_at = λ i. cond (i == s) n.kept (n.kept_at i);
  originated_at = λ i. cond (i == s) n.originated (n.originated_at i);
  quiet = λ i. cond (i == s) true (n.quiet i && not false);
}

both_true : (p q : Bool) → (p && q) ≡ true → q ≡ true
both_true true q h = h
both_true false q h = absurd (cc h)

and_linked : (l b : Bool) → l ≡ true → (l && b) ≡ b
and_linked true b h = refl
and_linked false b h = absurd (cc h)

module _ (laws : Laws) (g : Setting) (net : IsNetwork g.net) (u : ℕ) (far : ℕ → End Message) (Still : Type 0) (still : Still) (x : Router) (before items : ℕ → List (Passing Message)) (n : ModelRouter) where
  -- what is known as it records: the router acting that acts, and its ends once the marker that came was taken
  pub record MayBegin (first : Option ℕ) (s : ℕ) (acting : ModelRouter) (ends : ℕ → End Message) (queued : List RouterOffer) : Type 0 where
    pub greater : x.snapshots.last < s
    pub goes : Goes g u far Still 0 n acting queued
    pub reads : ReadsRouter g u x acting
    pub queue : x.snapshots.queue ≡ x.snapshots.queue ++ queued
    pub recorded : Recorded n acting x.snapshots.last x.snapshots.last
    pub act : (whole : Bool) (queues : List RouterOffer) → model.AllUp (linked g.net u) acting.recorder.ends whole
        → offers.Records (network_of g) u acting.recorder s whole queues
        → Goes g u far Still 0 acting (begun_from acting ends s whole (awaits_marker first)) queues
    pub alike : AreAlike g u x acting.recorder.ends
    pub stands : (v : ℕ) → linked g.net u v ≡ true → Stands (x.sides v) (ends v) (far v)
    pub appended : (v : ℕ) → linked g.net u v ≡ true → (ends v).appended ≡ (n.recorder.ends v).appended
    pub holds : (v : ℕ) → linked g.net u v ≡ true → Holds g (x.sides v) (before v ++ items v) (ends v)
    pub unmarked : (v : ℕ) (near : linked g.net u v ≡ true) → is_up (x.sides v) ≡ true → ((holds v near).rest ≡ []) ⊎ (IsIn (Mark (incarnation (ends v)) s) (ends v).taken → ⊥)

  module _ (first : Option ℕ) (s : ℕ) (acting : ModelRouter) (ends : ℕ → End Message) (queued : List RouterOffer) (k : MayBegin first s acting ends queued) where
    abbrev sides : ℕ → Side
    sides = λ v. cond (linked g.net u v && is_up (x.sides v)) (marked s (x.sides v)) (x.sides v)

    abbrev r : Recording
    r = recording_of g u x s first

    abbrev left_by : Option ℕ → Router
    left_by d = record x { sides = sides; snapshots = begins_or_is_lost (peers g.net u) d r (superseding r (peers g.net u) x.snapshots) }

    abbrev becomes : Option ℕ → ModelRouter
    becomes d = begun_from acting ends s (is_whole d) (awaits_marker first)

    abbrev sup : List RouterOffer
    sup = superseded (peers g.net u) (λ v. (x.sides v).link.epoch) x.snapshots.unfinished

    here : (s == s) ≡ true
    here = grind (arith, nat_tests)

    sent : (v : ℕ) → (near : linked g.net u v ≡ true) → SendsWhere laws g (linked g.net u v && is_up (x.sides v)) (links.is_up (ends v)) s (x.sides v) (before v ++ items v) (ends v) (far v) (k.holds v near)
    sent v near =
        let up = and_linked (linked g.net u v) (is_up (x.sides v)) near in
        sends_where laws g (linked g.net u v && is_up (x.sides v)) (links.is_up (ends v)) s (x.sides v) (before v ++ items v) (ends v) (far v) (k.holds v near) (k.stands v near) up (up_alike laws (x.sides v) (ends v) (far v) (k.stands v near) ∙ sym up)

    -- as it was, the router is that which recorded
    alike_after : (d : Option ℕ) → AreAlike g u x (becomes d).recorder.ends
    alike_after d = record {
      reads = λ v near. (let m = sent v near in
          reads_like laws (sides v) (x.sides v) ((becomes d).recorder.ends v) m.like.0 m.like.1 m.like.2 m.stands.reads);
      up = λ v near. (let m = sent v near in up_alike laws (sides v) ((becomes d).recorder.ends v) (far v) m.stands ∙ m.like.3);
    }

    part_is : (d : Option ℕ) → IsPartOf (network_of g) u (becomes d) s (becomes d).recorder.channel r.part
    part_is d =
        let a = alike_after d in
        let p = pending_alike laws g net u x (becomes d).recorder.ends a in
        let kept : (becomes d).kept_at s ≡ x.kept = ap (λ c. cond c acting.kept (acting.kept_at s)) here ∙ k.reads.kept in
        let originated : (becomes d).originated_at s ≡ x.originated = ap (λ c. cond c acting.originated (acting.originated_at s)) here ∙ k.reads.originated in (
          (becomes d).recorder.ends,
          ap (λ c. cond c (Some (becomes d).recorder.ends) (acting.recorder.copy s)) here,
          (λ q named. ap (λ f. f q) (sym kept)),
          (λ q named. ap (λ f. f q) (sym originated)),
          (λ v near. (a.reads v near).epoch),
          (
            (λ h. subst (λ f. IsNotPending (network_of g) u (becomes d).recorder.ends f ((becomes d).originated_at s)) (sym kept) (subst (λ f. IsNotPending (network_of g) u (becomes d).recorder.ends x.kept f) (sym originated) (p.0 h))),
            (λ h. p.1 (subst (λ f. IsNotPending (network_of g) u (becomes d).recorder.ends f x.originated) kept (subst (λ f. IsNotPending (network_of g) u (becomes d).recorder.ends ((becomes d).kept_at s) f) originated h))),
          ),
          (λ v near. refl),
        )

    acts : (d : Option ℕ) → first_down g u x ≡ d → Goes g u far Still 0 acting (becomes d) (sup ++ lost_now s x d)
    acts d e =
        k.act (is_whole d) (sup ++ lost_now s x d) (all_up laws g net u x acting k.alike d e)
        (sup, lost_now s x d, sup_is laws g net u x acting k.alike x.snapshots k.reads.snapshots, begins_lost laws g net u x acting k.alike s d e, refl)

    both : (d : Option ℕ) → first_down g u x ≡ d → Goes g u far Still 0 n (becomes d) (queued ++ (sup ++ lost_now s x d))
    both d e = then_goes g u far Still n acting (becomes d) queued (sup ++ lost_now s x d) k.goes (acts d e) (λ i h. inl still)

    -- the sides, once their markers are sent
    turned : (d : Option ℕ) (v : ℕ) → linked g.net u v ≡ true → IsTurned laws g u far Still v (sides v) (says_markers g u x s v) (before v ++ items v) (n.recorder.ends v) ((becomes d).recorder.ends v)
    turned d v near =
        let m = sent v near in
        record { stands = m.stands; appended = m.appended ∙ ap (λ l. l ++ says_markers g u x s v) (k.appended v near); holds = m.holds }

    clear : (d : Option ℕ) (i v : ℕ) → i ≡ s → (near : linked g.net u v ≡ true) → links.is_up ((becomes d).recorder.ends v) ≡ true
        → ((turned d v near).holds.rest ≡ []) ⊎ (IsIn (Mark (incarnation ((becomes d).recorder.ends v)) i) ((becomes d).recorder.ends v).taken → ⊥)
    unfolding turned sent
    clear d i v is near up =
        let m = sent v near in
        let was : is_up (x.sides v) ≡ true = sym ((alike_after d).up v near) ∙ up in
        elim (k.unmarked v near was) [
          | inl none ↦ inl (m.rest ∙ none)
          | inr off ↦ inr (λ h. off (subst (λ j. IsIn (Mark (incarnation (ends v)) j) (ends v).taken) is (subst (λ l. IsIn (Mark (incarnation (ends v)) i) l) m.taken (subst (λ j. IsIn (Mark j i) ((becomes d).recorder.ends v).taken) m.number h))))
        ]

    new_copy : (d : Option ℕ) (high : ℕ) → high ≡ s → Recorded n (becomes d) x.snapshots.last high
    new_copy d high is = record {
      kept = λ i c old. (let o = k.recorded.kept i c old in some_copy i (i == s) o.0 o.1);
      new = λ i c now. at_number i c (i == s) refl now;
      recorded = λ i low same. ((becomes d).recorder.ends, ap (λ b. cond b (Some (becomes d).recorder.ends) (acting.recorder.copy i)) (hit i (sym is ∙ same)));
    }
      where
        hit : (i : ℕ) → s ≡ i → (i == s) ≡ true
        hit i same = grind (arith, nat_tests, same)

        some_copy : (i : ℕ) (b : Bool) (c : ℕ → End Message) → acting.recorder.copy i ≡ Some c → (e : ℕ → End Message) × (cond b (Some (becomes d).recorder.ends) (acting.recorder.copy i) ≡ Some e)
        some_copy i true c h = ((becomes d).recorder.ends, refl)
        some_copy i false c h = (c, h)

        low_end : (i : ℕ) → x.snapshots.last < i → x.snapshots.last ≡ i → ⊥
        low_end i l e = omega (arith, l, e)

        at_number : (i : ℕ) (c : ℕ → End Message) (b : Bool) → (i == s) ≡ b → cond (i == s) (Some (becomes d).recorder.ends) (acting.recorder.copy i) ≡ Some c
            → ((n.recorder.copy i ≡ Some c) × (cond (i == s) acting.kept (acting.kept_at i) ≡ n.kept_at i) × (cond (i == s) acting.originated (acting.originated_at i) ≡ n.originated_at i))
            ⊎ ((x.snapshots.last < i) × (high ≡ i) × ((becomes d).recorder.ends ≡ c) × (cond (i == s) acting.kept (acting.kept_at i) ≡ acting.kept) × (cond (i == s) acting.originated (acting.originated_at i) ≡ acting.originated))
        at_number i c true e now =
            let same : i ≡ s = grind (arith, nat_tests, e) in
            let own : (becomes d).recorder.ends ≡ c = some_same (sym (ap (λ b. cond b (Some (becomes d).recorder.ends) (acting.recorder.copy i)) e) ∙ now) in
            inr (subst (λ j. x.snapshots.last < j) (sym same) k.greater, is ∙ sym same, own, ap (λ b. cond b acting.kept (acting.kept_at i)) e, ap (λ b. cond b acting.originated (acting.originated_at i)) e)
          where
            some_same : {A : Type 0} {a b : A} → Some a ≡ Some b → a ≡ b
            some_same h = cc h
        at_number i c false e now =
            elim (k.recorded.new i c (sym (ap (λ b. cond b (Some (becomes d).recorder.ends) (acting.recorder.copy i)) e) ∙ now)) [
              | inl old ↦ inl (old.0, ap (λ b. cond b acting.kept (acting.kept_at i)) e ∙ old.1, ap (λ b. cond b acting.originated (acting.originated_at i)) e ∙ old.2)
              | inr no' ↦ absurd (low_end i no'.0 no'.1)
            ]

    -- both, of the ends that the router has in the end
    turned_like : (d : Option ℕ) (f : ℕ → End Message) → f ≡ (becomes d).recorder.ends → (v : ℕ) → (near : linked g.net u v ≡ true)
        → (t : IsTurned laws g u far Still v (sides v) (says_markers g u x s v) (before v ++ items v) (n.recorder.ends v) (f v))
        × ((i : ℕ) → i ≡ s → links.is_up (f v) ≡ true → (t.holds.rest ≡ []) ⊎ (IsIn (Mark (incarnation (f v)) i) (f v).taken → ⊥))
    turned_like d f same v near =
        subst (λ (e : ℕ → End Message). (t : IsTurned laws g u far Still v (sides v) (says_markers g u x s v) (before v ++ items v) (n.recorder.ends v) (e v))
        × ((i : ℕ) → i ≡ s → links.is_up (e v) ≡ true → (t.holds.rest ≡ []) ⊎ (IsIn (Mark (incarnation (e v)) i) (e v).taken → ⊥)))
        (sym same) (turned d v near, λ i is up. clear d i v is near up)

    recorded_like : (d : Option ℕ) (m : ModelRouter) (high : ℕ) → m.recorder.ends ≡ (becomes d).recorder.ends → m.recorder.copy ≡ (becomes d).recorder.copy → m.kept ≡ acting.kept → m.originated ≡ acting.originated
        → m.kept_at ≡ (becomes d).kept_at → m.originated_at ≡ (becomes d).originated_at → high ≡ s → Recorded n m x.snapshots.last high
    recorded_like d m high ends' copy kept originated kept_at originated_at is =
        let q = new_copy d high is in
        record {
          kept = λ i c old. (let e = q.kept i c old in (e.0, ap (λ (f : ℕ → Option (ℕ → End Message)). f i) copy ∙ e.1));
          new = λ i c now. elim (q.new i c (ap (λ (f : ℕ → Option (ℕ → End Message)). f i) (sym copy) ∙ now)) [
            | inl old ↦ inl (old.0, ap (λ f. f i) kept_at ∙ old.1, ap (λ f. f i) originated_at ∙ old.2)
            | inr fresh ↦ inr (fresh.0, fresh.1, ends' ∙ fresh.2, ap (λ f. f i) kept_at ∙ (fresh.3 ∙ sym kept), ap (λ f. f i) originated_at ∙ (fresh.4 ∙ sym originated))
          ];
          recorded = λ i low same. (let e = q.recorded i low same in (e.0, ap (λ (f : ℕ → Option (ℕ → End Message)). f i) copy ∙ e.1));
        }

    queues : (a b c e : List RouterOffer) → a ≡ a ++ b → (a ++ c) ++ e ≡ a ++ ((b ++ c) ++ e)
    queues a b c e h = ap (λ l. (l ++ c) ++ e) h ∙ (ap (λ l. l ++ e) (append_assoc a b c) ∙ append_assoc a (b ++ c) e)

    -- it records
    pub begins : (d : Option ℕ) → first_down g u x ≡ d → LocalStep laws g net u far Still 0 x (left_by d) (λ v. says_markers g u x s v) before items n
    begins None e =
        let z : Snapshots = superseding r (peers g.net u) x.snapshots in
        let p = parts_on laws g net u far Still (becomes None) r z refl refl (λ v near. refl) (part_is None) in
        let q = p.parts in
        let t = turned_like None q.m.recorder.ends q.ends in
        record {
          m = q.m;
          offers = (queued ++ (sup ++ [])) ++ q.offers;
          goes = then_goes g u far Still n (becomes None) q.m (queued ++ (sup ++ [])) q.offers (both None e) q.goes (λ i h. inl still);
          turned = λ v near. (t v near).0;
          reads = record { kept = q.kept ∙ k.reads.kept; originated = q.originated ∙ k.reads.originated; snapshots = q.reads };
          queue = p.queue ∙ (queues x.snapshots.queue queued sup q.offers k.queue ∙ ap (λ l. x.snapshots.queue ++ ((queued ++ l) ++ q.offers)) (sym (append-nil sup)));
          recorded = recorded_like None q.m (goes_on (peers g.net u) r z).last q.ends q.copy q.kept q.originated q.kept_at q.originated_at p.last;
          unmarked = λ i v low is near up. (t v near).1 i (sym is ∙ p.last) up;
        }
    begins (Some w) e =
        let t = turned_like (Some w) (becomes (Some w)).recorder.ends refl in
        record {
          m = becomes (Some w);
          offers = queued ++ (sup ++ lost_now s x (Some w));
          goes = both (Some w) e;
          turned = λ v near. (t v near).0;
          reads = record { kept = k.reads.kept; originated = k.reads.originated; snapshots = record { last = refl; unfinished = refl; recording = tt } };
          queue = queues x.snapshots.queue queued sup (lost_now s x (Some w)) k.queue ∙ ap (λ l. x.snapshots.queue ++ l) (append_assoc queued sup (lost_now s x (Some w)));
          recorded = recorded_like (Some w) (becomes (Some w)) s refl refl refl refl refl refl refl;
          unmarked = λ i v low is near up. (t v near).1 i (sym is) up;
        }

    pub begins_step : LocalStep laws g net u far Still 0 x (records g u x s first) (λ v. says_markers g u x s v) before items n
    begins_step = begins (first_down g u x) refl
