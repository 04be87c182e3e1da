-- What an UPDATE does that comes in Established, and what the recognised frame of one reads as.
use Rattle.std.proofs.Common.{◌≡◌, ◌≢◌, ◌∙◌, ℕ, ◌*◌, ◌≤◌, ◌^◌, ◌<◌, true, List, [], ◌∷◌, ◌++◌, length, take, drop, refl, ap, sym, subst, arith}
use Rattle.std.specs.Prelude.{Option, None, Some, Ok}
use Rattle.std.specs.List.{flat_map, IsSplitAt}
use Rattle.bgp_values.specs.Ranges.{is_unicast}
use Rattle.std.proofs.lemmas.List.{append-nil, length-take-le, take-append-drop}
use Rattle.session_fsm.specs.Table.{SessionView, on_event, held}
use Rattle.session_fsm.specs.declared.event.FsmEvent.TheVariants as event
use Rattle.session_fsm.specs.declared.state.State.{State}
use Rattle.session_fsm.specs.declared.state.State.TheVariants.{Idle, Connect, Active, OpenSent, OpenConfirm, Established}
use Rattle.bgp_values.specs.declared.width.Width.{Width}
use Rattle.prefix_lanes.specs.Bits.{PrefixView, IsCanonical}
use Rattle.bgp_values.specs.declared.messages.TheConstants.{MESSAGE_LIMIT}
use Rattle.bgp_codec.specs.declared.fault.Fault.{Fault}
use Rattle.bgp_codec.specs.declared.message.Message.{Message}
use Rattle.bgp_codec.specs.declared.message.Message.TheVariants.{UpdateMsg}
use Rattle.bgp_codec.specs.declared.rule.Rule.{Rule}
use Rattle.bgp_codec.specs.declared.update.Update.{Update}
use Rattle.bgp_codec.specs.AsNumbers.{asn_size, asn_octets, numbers_of, AreNumbers}
use Rattle.bgp_codec.specs.Updates.{octet_count, UpdateFits, begins_with, is_from}
use Rattle.bgp_codec.specs.Faults.{reading, PeersWritingIsRead}
use Rattle.bgp_codec.specs.Header.{IsFrame, HeaderIsItsFront, header_fault, length_field}
use Rattle.bgp_codec.specs.Spelling.{written}
use Rattle.router_model.specs.Sides.{Side, HasUpdate, is_up, is_established, front, read_front, draft_message, react, apply, carried, with_update, rest_behind, without_front}
use Rattle.router_model.specs.State.{withdrawal, announcement, telling}
use Rattle.router_side.specs.Acting.{UpdatesAreActedOn, TellingsAreSayable, IsToldBy, IsToldInFront}
use Rattle.router_side.specs.Layout.{address, withdrawal_front, announcement_front, announcement_hop, IsWithdrawal, IsAnnouncement}
use Rattle.router_side.specs.Sayings.{IsSayable}
use Rattle.router_side.specs.SideOf.{acting}
use Rattle.router_side.proofs.Spelt.{address_length, withdrawal_whole, announcement_whole, telling_some}

-- ---- an UPDATE in Established

acted_at : (o : Message) (u : Update) (s : Side) (state : State) → s.session.state ≡ state → is_established state ≡ true → draft_message o (Ok (UpdateMsg u)) s ≡ acting s
unfolding react apply
acted_at o u s Idle is up = absurd cc
acted_at o u s Connect is up = absurd cc
acted_at o u s Active is up = absurd cc
acted_at o u s OpenSent is up = absurd cc
acted_at o u s OpenConfirm is up = absurd cc
acted_at o u s Established is up = rw is refl

pub acted_on : UpdatesAreActedOn
acted_on o u s up = acted_at o u s s.session.state refl up

-- the session of an UPDATE that comes in Established
held_at : (x : SessionView) (state : State) → x.state ≡ state → is_established state ≡ true → (on_event x event.UpdateMsg).session ≡ held x
held_at x state h k = grind arith

-- a side in which that was done
pub act_is : (s z : Side) (u : Update) → is_up s ≡ true → z.session ≡ (on_event s.session event.UpdateMsg).session → z.link ≡ s.link → z.outbox ≡ s.outbox → z.held ≡ rest_behind (header_fault s.held) s.held
    → z.acted ≡ with_update s.acted s.link.epoch u → z.sent ≡ s.sent → z.width ≡ s.width → z ≡ carried (HasUpdate u) (without_front s) (acting s)
act_is s z u up session link outbox octets acted sent width =
    let session_is = session ∙ held_at s.session s.session.state refl up in
    let outbox_is = outbox ∙ sym (append-nil s.outbox) in
    λ i. record { session = session_is i; link = link i; outbox = outbox_is i; held = octets i; acted = acted i; sent = sent i; width = width i }

-- ---- octets in parts

whole_of : (xs : List ℕ) (mid : ℕ) (front back : List ℕ) → IsSplitAt xs mid front back → xs ≡ front ++ back
whole_of xs mid front back s =
    sym (take-append-drop mid xs) ∙ ap (λ (f : List ℕ). f ++ drop mid xs) (sym s.1) ∙ ap (λ (b : List ℕ). front ++ b) (sym s.2)

pub withdrawal_in : (frame front rest address_octets end : List ℕ) (m n : ℕ) (q : PrefixView) → IsCanonical q → IsSplitAt frame m front rest → IsSplitAt rest n address_octets end → address_octets ≡ address q
    → front ≡ withdrawal_front q.len (length address_octets) → end ≡ 0 ∷ 0 ∷ [] → IsWithdrawal frame q
withdrawal_in frame front rest address_octets end m n q canonical s t a f e =
    let len = ap length a ∙ address_length q canonical in
    whole_of frame m front rest s
    ∙ ap (λ (xs : List ℕ). front ++ xs) (whole_of rest n address_octets end t ∙ ap (λ (xs : List ℕ). xs ++ end) a ∙ ap (λ (xs : List ℕ). address q ++ xs) e)
    ∙ ap (λ (xs : List ℕ). xs ++ (address q ++ 0 ∷ 0 ∷ [])) (f ∙ ap (withdrawal_front q.len) len)

pub announcement_in : (width : Width) (frame front rest path behind hop address_octets : List ℕ) (k m n count id : ℕ) (q : PrefixView) → IsCanonical q → IsSplitAt frame k front rest → IsSplitAt rest m path behind
    → IsSplitAt behind n hop address_octets → m ≡ asn_size width * count → address_octets ≡ address q → 1 ≤ count → count ≤ 63 → id < 2 ^ 32 → is_unicast id ≡ true → front ≡ announcement_front count m (length address_octets)
    → hop ≡ announcement_hop id q.len → IsAnnouncement width frame id q path
announcement_in width frame front rest path behind hop address_octets k m n count id q canonical s t r size a some few fits unicast f h =
    let len = ap length a ∙ address_length q canonical in
    record {
      count = count;
      some = some;
      few = few;
      size = t.3 ∙ size;
      fits = fits;
      unicast = unicast;
      whole =
          whole_of frame k front rest s
          ∙ ap (λ (xs : List ℕ). front ++ xs)
          (whole_of rest m path behind t ∙ ap (λ (xs : List ℕ). path ++ xs) (whole_of behind n hop address_octets r ∙ ap (λ (xs : List ℕ). hop ++ xs) a ∙ ap (λ (xs : List ℕ). xs ++ address q) h))
          ∙ ap (λ (xs : List ℕ). xs ++ (path ++ (announcement_hop id q.len ++ address q)))
          (f ∙ ap (announcement_front count m) len ∙ ap (λ (l : ℕ). announcement_front count l (octet_count q.len)) size);
    }

-- ---- the frame of a telling

module _ (law : PeersWritingIsRead) (width : Width) (peer : ℕ) (frame : List ℕ) where
  -- what is written of an UPDATE that can be said, and that a peer may tell, is read
  told_by : (u : Update) → frame ≡ written width (UpdateMsg u) → IsSayable width (UpdateMsg u) → ((rule : Rule) → rule.peer ≡ Some peer → u.nlri ≢ [] → is_from rule.peer u.attrs ≡ true) → IsToldBy width peer frame u
  told_by u is sayable from = record {
    sayable = sayable;
    reads = λ rule same who.
        let fits = subst (λ (w : Width). UpdateFits w u) (sym same) sayable.0 in
        let short : length (written rule.width (UpdateMsg u)) ≤ MESSAGE_LIMIT = subst (λ (w : Width). length (written w (UpdateMsg u)) ≤ MESSAGE_LIMIT) (sym same) sayable.1 in
        ap (reading rule) (is ∙ ap (λ (w : Width). written w (UpdateMsg u)) (sym same)) ∙ (law rule (UpdateMsg u) (from rule who) fits short).1;
  }

  pub withdrawal_told : TellingsAreSayable → (q : PrefixView) → IsCanonical q → IsWithdrawal frame q → IsToldBy width peer frame (withdrawal q)
  withdrawal_told sayable q canonical is =
      told_by (withdrawal q) (is ∙ withdrawal_whole width q canonical) (sayable width 1677721600 q [] (omega arith) refl canonical (omega arith) tt) (λ rule who some. absurd (some refl))

  -- the numbers of the path, of which the first is the peer
  pub announcement_told : TellingsAreSayable → (id : ℕ) (q : PrefixView) (octets : List ℕ) → IsCanonical q → IsAnnouncement width frame id q octets → ((count : ℕ) → length octets ≡ asn_size width * count → AreNumbers width count octets)
      → begins_with peer (numbers_of width octets) ≡ true → IsToldBy width peer frame (announcement id q (numbers_of width octets))
  announcement_told sayable id q octets canonical is are first =
      let n = are is.count is.size in
      let ns = numbers_of width octets in
      let few : length ns ≤ 63 = omega (arith, n.size, is.few) in
      let some : 1 ≤ length ns = omega (arith, n.size, is.some) in
      let said = subst (λ (u : Update). IsSayable width (UpdateMsg u)) (telling_some id q ns some) (sayable width id q ns is.fits is.unicast canonical few n.small) in
      let whole : frame ≡ announcement_front (length ns) (asn_size width * length ns) (octet_count q.len) ++ (flat_map (asn_octets width) ns ++ (announcement_hop id q.len ++ address q)) =
      is.whole
      ∙ ap (λ (k : ℕ). announcement_front k (asn_size width * k) (octet_count q.len) ++ (octets ++ (announcement_hop id q.len ++ address q))) (sym n.size)
      ∙ ap (λ (os : List ℕ). announcement_front (length ns) (asn_size width * length ns) (octet_count q.len) ++ (os ++ (announcement_hop id q.len ++ address q))) (sym n.whole) in
      told_by (announcement id q ns) (whole ∙ announcement_whole width id q ns canonical few) said
      (λ rule who some_prefix. ap (λ (p : Option ℕ). is_from p (announcement id q ns).attrs) who ∙ ap (begins_with peer) (append-nil ns) ∙ first)

  -- the same of the path that was read
  pub path_told : TellingsAreSayable → (id : ℕ) (q : PrefixView) (octets path : List ℕ) → IsCanonical q × IsAnnouncement width frame id q octets → path ≡ numbers_of width octets → ((count : ℕ) → length octets ≡ asn_size width * count → AreNumbers width count octets)
      → begins_with peer path ≡ true → IsToldBy width peer frame (telling id q path)
  path_told sayable id q octets path is numbers are first =
      let a = is.1 in
      let n = are a.count a.size in
      let some : 1 ≤ length (numbers_of width octets) = omega (arith, n.size, a.some) in
      subst (IsToldBy width peer frame) (sym (ap (telling id q) numbers ∙ telling_some id q (numbers_of width octets) some))
      (announcement_told sayable id q octets is.0 a are (ap (begins_with peer) (sym numbers) ∙ first))

-- ---- the frame in front

pub in_front : HeaderIsItsFront → (width : Width) (peer : ℕ) (octets : List ℕ) (end : ℕ) (u : Update) → end ≤ length octets → IsFrame (take end octets) → IsToldBy width peer (take end octets) u → IsToldInFront width peer octets u
in_front its width peer octets end u inside is told =
    let len : length (take end octets) ≡ end = length-take-le end octets inside in
    let at = its end octets (omega (arith, len, is.has_header)) in
    let good : header_fault octets ≡ None = sym at.same_fault ∙ is.good in
    let whole : length_field octets ≡ end = sym at.same_length ∙ sym is.whole ∙ len in
    record {
      sayable = told.sayable;
      reads = λ rule same who.
          ap (λ (f : Option Fault). read_front rule f octets) good ∙ ap (λ (n : ℕ). reading rule (take n octets)) whole ∙ told.reads rule same who;
    }
