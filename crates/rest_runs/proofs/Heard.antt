-- At rest an end that is up has heard all that its peer told.
use Rattle.std.proofs.Common.{◌≡◌, ℕ, ◌≤◌, Bool, true, false, ◌&&◌, ◌||◌, List, [], ◌∷◌, ◌++◌, length, append-nil, refl, ap, sym, ◌∙◌, subst, arith}
use Rattle.std.specs.Prelude.{nat_le, is_some}
use Rattle.std.proofs.lemmas.List.{length-append}
use Rattle.std.proofs.Math.Seq.{take-append_seam}
use Rattle.std.proofs.lemmas.Bool.Decides.{nat_tests}
use Rattle.bgp_values.specs.declared.messages.TheConstants.{HEADER_LEN}
use Rattle.bgp_codec.specs.declared.message.Message.{Message}
use Rattle.bgp_codec.specs.Header.{IsFrame, HeaderIsItsFront, header_fault, length_field}
use Rattle.bgp_framing.specs.Held.{is_waiting}
use Rattle.link_epoch.specs.declared.link_end.Phase.{Phase}
use Rattle.link_epoch.specs.declared.link_end.Phase.TheVariants as phase
use Rattle.ranked_policy.specs.Plans.{IsRouter}
use Rattle.session_fsm.specs.declared.state.State.{State}
use Rattle.session_fsm.specs.declared.state.State.TheVariants as state
use Rattle.run_model.specs.Links.{Entry, Dial, Says, Mark, Shut, Joined, greatest_dial, said}
use Rattle.run_model.specs.Sessions as model
use Rattle.run_model.specs.Octets.{Passing, Octet, Control, octets_of, passing, AllGood, PassingAppends}
use Rattle.router_model.specs.Messages.{updates_in}
use Rattle.router_model.specs.Settings.{Setting, IsSetting, linked}
use Rattle.router_model.specs.Sides.{Side, is_up, is_established}
use Rattle.router_model.specs.Laws.{all_passes}
use Rattle.router_runs.specs.Runs.{RunState, side_of, log_of, written_in}
use Rattle.router_runs.specs.Reading.{phase_of, state_of}
use Rattle.router_runs.specs.Kept.{LinkAt}
use Rattle.router_runs.specs.Said.{IsSaid, SaidIsGood, Kept}
use Rattle.rest_runs.proofs.Links.{good_behind}

-- ---- a frame in front is waiting

frame_waits : HeaderIsItsFront → (f rest : List ℕ) → IsFrame f → is_waiting (f ++ rest) ≡ true
frame_waits law f rest is =
    let front = take-append_seam f rest in
    let l = law (length f) (f ++ rest) is.has_header in
    let size : length_field (f ++ rest) ≡ length f = sym l.same_length ∙ ap length_field front ∙ sym is.whole in
    let long = length-append f rest in
    let high : nat_le HEADER_LEN (length (f ++ rest)) ≡ true = (let least = is.has_header in let k : HEADER_LEN ≤ length (f ++ rest) = omega (arith, least, long) in grind (arith, nat_tests, k)) in
    let whole : nat_le (length_field (f ++ rest)) (length (f ++ rest)) ≡ true = (let k : length_field (f ++ rest) ≤ length (f ++ rest) = omega (arith, size, long) in grind (arith, nat_tests, k)) in
    both_true high (or_true (is_some (header_fault (f ++ rest))) whole)
  where
    both_true : {a b : Bool} → a ≡ true → b ≡ true → (a && b) ≡ true
    both_true h k = rw (h, k) refl

    or_true : (a : Bool) {b : Bool} → b ≡ true → (a || b) ≡ true
    or_true true k = refl
    or_true false k = k

-- ---- octets alone

abbrev octets_in : List (Passing Message) → List ℕ
octets_in [] = []
octets_in (Octet e b ∷ rest) = b ∷ octets_in rest
octets_in (Control x ∷ rest) = octets_in rest

octets_back : (e : ℕ) (bs : List ℕ) → octets_in (octets_of e bs) ≡ bs
octets_back e [] = refl
octets_back e (b ∷ bs) = ap (λ k. b ∷ k) (octets_back e bs)

octets_in_append : (xs ys : List (Passing Message)) → octets_in (xs ++ ys) ≡ octets_in xs ++ octets_in ys
octets_in_append [] ys = refl
octets_in_append (Octet e b ∷ xs) ys = ap (λ k. b ∷ k) (octets_in_append xs ys)
octets_in_append (Control x ∷ xs) ys = octets_in_append xs ys

no_control : (e : ℕ) (held : List ℕ) (x : Entry Message) (rest : List (Passing Message)) → octets_of e held ≡ Control x ∷ rest → ⊥
no_control e [] x rest h = absurd cc
no_control e (b ∷ held) x rest h = absurd cc

append_cancel : {A : Type 0} (xs ys zs : List A) → xs ++ ys ≡ xs ++ zs → ys ≡ zs
append_cancel [] ys zs h = h
append_cancel (x ∷ xs) ys zs h = append_cancel xs ys zs (let k : xs ++ ys ≡ xs ++ zs = cc h in k)

-- entries that pass as octets held, of which no frame waits, are none
none_more : HeaderIsItsFront → (spell : Message → List ℕ) (P : Message → Type 0) → ((m : Message) → P m → IsFrame (spell m)) → (e : ℕ) (held : List ℕ) (more : List (Entry Message)) → AllGood P more
    → octets_of e held ≡ passing spell more → is_waiting held ≡ false → more ≡ []
none_more law spell P frames e held [] good same none = refl
none_more law spell P frames e held (Dial n ∷ more) good same none = absurd (no_control e held (Dial n) (passing spell more) same)
none_more law spell P frames e held (Mark n k ∷ more) good same none = absurd (no_control e held (Mark n k) (passing spell more) same)
none_more law spell P frames e held (Shut n ∷ more) good same none = absurd (no_control e held (Shut n) (passing spell more) same)
none_more law spell P frames e held (Says n m ∷ more) good same none =
    let parts : held ≡ spell m ++ octets_in (passing spell more) =
    sym (octets_back e held) ∙ ap octets_in same ∙ octets_in_append (octets_of n (spell m)) (passing spell more) ∙ ap (λ (k : List ℕ). k ++ octets_in (passing spell more)) (octets_back n (spell m)) in
    let waits : is_waiting held ≡ true = ap is_waiting parts ∙ frame_waits law (spell m) (octets_in (passing spell more)) (frames m good.0) in
    absurd (let k = sym none ∙ waits in cc k)

-- ---- an end that is up

established_is : (st : State) → is_established st ≡ true → st ≡ state.Established
established_is st h = grind arith

joined_is : (p : Phase) → phase_of p ≡ Joined → p ≡ phase.Joined
joined_is p h = grind arith

pub record LawsHeard : Type 0 where
  pub header : HeaderIsItsFront
  pub good : SaidIsGood
  pub append : PassingAppends Message

module _ (laws : LawsHeard) (g : Setting) (set : IsSetting g) (st : RunState) (kept : Kept g st) where
  -- nothing is on its way from v to u, and no message waits
  pub record Quiet (u v : ℕ) : Type 0 where
    pub outbox : (side_of st v u).outbox ≡ []
    pub pipe : st.put v u ≡ st.taken v u
    pub none_waits : is_waiting (side_of st u v).held ≡ false
    pub near : linked g.net u v ≡ true
    pub back : linked g.net v u ≡ true
    pub teller : IsRouter g.net.routers v
    pub up : is_up (side_of st u v) ≡ true

  module _ (u v : ℕ) (q : Quiet u v) where
    abbrev at : LinkAt g st u v
    at = kept.reached.links u v q.near

    abbrev s : Side
    s = side_of st u v

    abbrev t : Side
    t = side_of st v u

    phase_joined : s.link.phase ≡ phase.Joined
    phase_joined =
        joined_is s.link.phase (sym at.here.stands.reads.phase ∙ at.here.stands.fits.phase ∙ ap (λ (k : State). model.phase_in (state_of k)) (established_is s.session.state q.up))

    all_taken : (model.sides_after model.first_sides at.steps u v).end.taken ≡ log_of st v u
    all_taken =
        let mine = (model.sides_after model.first_sides at.steps u v).end in
        let front = at.here.stands.mine.front in
        let log : log_of st v u ≡ mine.taken ++ front.0 = at.there.log ∙ sym front.1 in
        let passed : passing (written_in g) mine.taken ++ at.here.holds.rest ≡ passing (written_in g) (log_of st v u) =
        sym at.here.holds.passed ∙ ap all_passes (sym q.pipe) ∙ sym (append-nil (all_passes (st.put v u))) ∙ ap (λ (k : List (Passing Message)). all_passes (st.put v u) ++ k) (sym q.outbox) ∙ kept.reached.puts v u in
        let rest : at.here.holds.rest ≡ octets_of s.link.epoch s.held = at.here.holds.joined phase_joined in
        let same : octets_of s.link.epoch s.held ≡ passing (written_in g) front.0 =
        sym rest ∙ append_cancel (passing (written_in g) mine.taken) at.here.holds.rest (passing (written_in g) front.0) (passed ∙ ap (passing (written_in g)) log ∙ laws.append (written_in g) mine.taken front.0) in
        let good : AllGood (IsSaid g v) front.0 = good_behind (IsSaid g v) mine.taken front.0 (subst (λ (k : List (Entry Message)). AllGood (IsSaid g v) k) log (kept.said v u q.back)) in
        let none = none_more laws.header (written_in g) (IsSaid g v) (λ m is. (laws.good g set v q.teller m is).0) s.link.epoch s.held front.0 good same q.none_waits in
        sym (log ∙ ap (λ (k : List (Entry Message)). mine.taken ++ k) none ∙ append-nil mine.taken)

    -- it is in no later incarnation than the peer
    pub not_later : s.link.epoch ≤ t.link.epoch
    not_later =
        let j = at.here.stands.mine.joined (at.here.stands.reads.phase ∙ ap phase_of phase_joined) in
        omega (arith, j, at.here.stands.reads.epoch, at.there.stands.reads.epoch, ap greatest_dial all_taken, ap greatest_dial at.there.log)

    -- what it acted on is what the peer sent
    pub acted_is_sent : s.acted s.link.epoch ≡ t.sent s.link.epoch
    acted_is_sent =
        let mine = (model.sides_after model.first_sides at.steps u v).end in
        let whole = at.here.stands.mine.whole (at.here.stands.reads.phase ∙ ap phase_of phase_joined) in
        let now : s.link.epoch ≡ greatest_dial mine.appended = at.here.stands.reads.epoch in
        at.here.stands.reads.acted s.link.epoch
        ∙ ap (λ (n : ℕ). updates_in (said n mine.used)) now ∙ ap updates_in whole ∙ ap (λ (n : ℕ). updates_in (said n mine.taken)) (sym now)
        ∙ ap (λ (k : List (Entry Message)). updates_in (said s.link.epoch k)) (all_taken ∙ at.there.log)
        ∙ sym (at.there.stands.reads.sent s.link.epoch)
