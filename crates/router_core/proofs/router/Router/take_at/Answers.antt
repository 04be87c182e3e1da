use Rattle.std.proofs.Common.{◌≡◌, ◌∙◌, ◌+◌, ◌≤◌, Bool, ap, sym, refl, subst, true, false, arith}
use Rattle.std.specs.Prelude.{nat_lt, max, Ok, Err}
use Rattle.std.proofs.lemmas.Bool.Decides.{nat_tests}
use Rattle.std.proofs.lemmas.Result.{err_from_is_err_and}
use Rattle.bgp_framing.specs.Held.{is_waiting}
use Rattle.outbox.specs.declared.item.What.TheVariants as item
use Rattle.router_model.specs.declared.refusal.RouterError.TheVariants as error
use Rattle.router_model.specs.declared.refusal.Stepped.TheVariants as stepped
use Rattle.router_model.specs.Sides.{Side, NoMessage, fed, draft_sign}
use Rattle.router_model.specs.Calls.{Take}
use Rattle.run_model.specs.declared.stamps.TheConstants.{GREATEST_STAMP}
use Rattle.link_epoch.specs.declared.link_end.Sign.TheVariants as sign
use Rattle.router_side.specs.SideOf.{side}
use Rattle.router_core.specs.declared.peers.Peer.{Peer}
use Rattle.router_core.specs.Views.{view_of, RouterView, IsFound, Answers, Carries, TakesSign, TakesMark, sides_of, plain_of}
use Rattle.router_core.proofs.PeerLemmas.{here_same}
use Rattle.router_core.proofs.Carrying.{Changes, with_peer, of_sound, stays, tracks_alike, records_same}
use Rattle.router_core.proofs.Taking.{takes_held, takes_late, takes_dial, takes_shut, takes_piece, refuses_piece, takes_mark, fed_is, shut_fits, stands_at}
use Rattle.router_core.proofs.router.Router.take_at.Goals as goal

pub returns-then-is_waiting-clause-answers : goal.returns-then-is_waiting-clause-answers
returns-then-is_waiting-clause-answers c =
    let r = view_of c.self.inside in
    let found = subst (λ (x : RouterView). IsFound x.peers c.args.peer c.args.peer_at) (sym c.self.view_is) c.peer_stands_at.ensures.found in
    subst (λ (x : RouterView). Answers (Err (error.Held c.args.peer)) x (Take c.args.peer c.args.item.now.stamp c.args.item.now.what) x) c.self.view_is (λ g e ranks.
    takes_held g r c.args.peer c.args.peer_at c.index.result.now (of_sound g r c.self.invariant e) found.2 c.index.ensures found.1 c.args.item.now.stamp c.args.item.now.what
    (sym c.is_waiting.ensures ∙ c.if-is_waiting.true))

pub returns-then-stamp-gt-GREATEST_STAMP-clause-answers : goal.returns-then-stamp-gt-GREATEST_STAMP-clause-answers
returns-then-stamp-gt-GREATEST_STAMP-clause-answers c =
    let r = view_of c.self.inside in
    let found = subst (λ (x : RouterView). IsFound x.peers c.args.peer c.args.peer_at) (sym c.self.view_is) c.peer_stands_at.ensures.found in
    let late : nat_lt GREATEST_STAMP (max r.stamp c.args.item.now.stamp + 1) ≡ true = grind (arith, nat_tests, c.if-stamp-gt-GREATEST_STAMP.true, c.max.ensures, c.saturating_add-stamp.ensures) in
    subst (λ (x : RouterView). Answers (Err error.StampEnd) x (Take c.args.peer c.args.item.now.stamp c.args.item.now.what) x) c.self.view_is (λ g e ranks.
    takes_late g r c.args.peer c.args.peer_at c.index.result.now (of_sound g r c.self.invariant e) found.2 c.index.ensures found.1 c.args.item.now.stamp c.args.item.now.what
    (sym c.is_waiting.ensures ∙ c.if-is_waiting.false) late)

pub invariant_of-self : goal.invariant_of-self
invariant_of-self c =
    let r = view_of c.self.inside in
    let found = subst (λ (x : RouterView). IsFound x.peers c.args.peer c.args.peer_at) (sym c.self.view_is) c.peer_stands_at.ensures.found in
    let p = c.index_mut.result.now in
    let q : Peer = record { number = p.number; side = c.take_piece.new.self } in
    let ch : Changes r c.args.peer c.args.peer_at p q = record { place = found.2; here = c.index_mut.ensures.value; number = refl } in
    let few : c.saturating_add-stamp.result ≤ GREATEST_STAMP = omega (arith, c.if-stamp-gt-GREATEST_STAMP.false) in
    let on = c.take_piece.ensures ∙ fed_is (side p.side) c.in-Piece.epoch c.as_slice.result.now in
    let tracks = tracks_alike r c.args.peer c.args.peer_at p q ch c.self.invariant (ap (λ (z : Side). z.session) on) (ap (λ (z : Side). z.link) on) (ap (λ (z : Side). z.acted) on) (ap (λ (z : Side). z.sent) on) (ap (λ (z : Side). z.width) on) in
    stays r c.args.peer c.args.peer_at p q ch r.tables r.marks c.saturating_add-stamp.result c.self.invariant few tracks (records_same r)

pub returns-in-Dial-clause-answers : goal.returns-in-Dial-clause-answers
returns-in-Dial-clause-answers c =
    let r = view_of c.self.inside in
    let v = c.args.peer in
    let found = subst (λ (x : RouterView). IsFound x.peers c.args.peer c.args.peer_at) (sym c.self.view_is) c.peer_stands_at.ensures.found in
    let next : c.saturating_add-stamp.result ≡ max r.stamp c.args.item.now.stamp + 1 = omega (arith, c.if-stamp-gt-GREATEST_STAMP.false, c.max.ensures, c.saturating_add-stamp.ensures) in
    let p = c.index.result.now in
    let x = sign.Dial c.in-Dial.number in
    let a = draft_sign r.own_open (sides_of r v) x in
    let made = ap (λ (s : Side). draft_sign r.own_open s x) (stands_at r v c.args.peer_at p found.2 c.index.ensures) in
    let free = sym c.is_waiting.ensures ∙ c.if-is_waiting.false in
    let takes = subst (λ (w : RouterView). TakesSign c.take_sign.result w v x c.saturating_add-stamp.result c.take_sign.new.self) (sym c.self.view_is) c.take_sign.ensures.takes in
    let ends = subst (λ n. Carries c.take_sign.result r v NoMessage a a.overflows n c.take_sign.new.self) next takes in
    rw c.in-Dial.is
    (subst (λ (w : RouterView). Answers c.take_sign.result w (Take v c.args.item.now.stamp (item.Dial c.in-Dial.number)) c.take_sign.new.self) c.self.view_is (λ g e ranks.
    takes_dial g r v c.args.peer_at p (of_sound g r c.self.invariant e) found.2 c.index.ensures found.1 c.args.item.now.stamp (plain_of c.take_sign.new.self) a c.take_sign.result c.in-Dial.number free made ends))

pub returns-in-Shut-clause-answers : goal.returns-in-Shut-clause-answers
returns-in-Shut-clause-answers c =
    let r = view_of c.self.inside in
    let v = c.args.peer in
    let found = subst (λ (x : RouterView). IsFound x.peers c.args.peer c.args.peer_at) (sym c.self.view_is) c.peer_stands_at.ensures.found in
    let next : c.saturating_add-stamp.result ≡ max r.stamp c.args.item.now.stamp + 1 = omega (arith, c.if-stamp-gt-GREATEST_STAMP.false, c.max.ensures, c.saturating_add-stamp.ensures) in
    let p = c.index.result.now in
    let x = sign.Shut c.in-Shut.number in
    let a = draft_sign r.own_open (sides_of r v) x in
    let made = ap (λ (s : Side). draft_sign r.own_open s x) (stands_at r v c.args.peer_at p found.2 c.index.ensures) in
    let free = sym c.is_waiting.ensures ∙ c.if-is_waiting.false in
    let takes = subst (λ (w : RouterView). TakesSign c.take_sign-in-Shut.result w v x c.saturating_add-stamp.result c.take_sign-in-Shut.new.self) (sym c.self.view_is) c.take_sign-in-Shut.ensures.takes in
    let ends = subst (λ n. Carries c.take_sign-in-Shut.result r v NoMessage a a.overflows n c.take_sign-in-Shut.new.self) next takes in
    let none = subst (λ (o : Bool). Carries c.take_sign-in-Shut.result r v NoMessage a o (max r.stamp c.args.item.now.stamp + 1) c.take_sign-in-Shut.new.self) (shut_fits r.own_open (sides_of r v) c.in-Shut.number) ends in
    rw c.in-Shut.is
    (subst (λ (w : RouterView). Answers c.take_sign-in-Shut.result w (Take v c.args.item.now.stamp (item.Shut c.in-Shut.number)) c.take_sign-in-Shut.new.self) c.self.view_is (λ g e ranks.
    takes_shut g r v c.args.peer_at p (of_sound g r c.self.invariant e) found.2 c.index.ensures found.1 c.args.item.now.stamp (plain_of c.take_sign-in-Shut.new.self) a c.take_sign-in-Shut.result c.in-Shut.number free made none))

pub returns-in_err-room-in-Piece-clause-answers : goal.returns-in_err-room-in-Piece-clause-answers
returns-in_err-room-in-Piece-clause-answers c =
    let p = err_from_is_err_and c.from_residual.result c.from_residual.ensures.1 in
    let r = view_of c.self.inside in
    let found = subst (λ (x : RouterView). IsFound x.peers c.args.peer c.args.peer_at) (sym c.self.view_is) c.peer_stands_at.ensures.found in
    let next : c.saturating_add-stamp.result ≡ max r.stamp c.args.item.now.stamp + 1 = omega (arith, c.if-stamp-gt-GREATEST_STAMP.false, c.max.ensures, c.saturating_add-stamp.ensures) in
    let early : nat_lt GREATEST_STAMP (max r.stamp c.args.item.now.stamp + 1) ≡ false = grind (arith, nat_tests, c.if-stamp-gt-GREATEST_STAMP.false, next) in
    rw (p.1, p.2, c.in-Piece.is)
    (subst (λ (x : RouterView). Answers (Err error.Memory) x (Take c.args.peer c.args.item.now.stamp (item.Piece c.in-Piece.epoch c.in-Piece.octets)) x) c.self.view_is (λ g e ranks.
    refuses_piece g r c.args.peer c.args.peer_at c.index.result.now (of_sound g r c.self.invariant e) found.2 c.index.ensures found.1 c.args.item.now.stamp c.in-Piece.epoch c.in-Piece.octets
    (sym c.is_waiting.ensures ∙ c.if-is_waiting.false) early))

pub returns-in_ok-room-in-Piece-clause-answers : goal.returns-in_ok-room-in-Piece-clause-answers
returns-in_ok-room-in-Piece-clause-answers c =
    let r = view_of c.self.inside in
    let found = subst (λ (x : RouterView). IsFound x.peers c.args.peer c.args.peer_at) (sym c.self.view_is) c.peer_stands_at.ensures.found in
    let next : c.saturating_add-stamp.result ≡ max r.stamp c.args.item.now.stamp + 1 = omega (arith, c.if-stamp-gt-GREATEST_STAMP.false, c.max.ensures, c.saturating_add-stamp.ensures) in
    let p = c.index_mut.result.now in
    let q : Peer = record { number = p.number; side = c.take_piece.new.self } in
    let ch : Changes r c.args.peer c.args.peer_at p q = record { place = found.2; here = c.index_mut.ensures.value; number = refl } in
    let same : p ≡ c.index.result.now = c.index_mut.ensures.value ∙ here_same r.peers c.args.peer c.args.peer_at p c.index.result.now found.2 ∙ sym c.index.ensures in
    let free = ap (λ (w : Peer). is_waiting (side w.side).held) same ∙ sym c.is_waiting.ensures ∙ c.if-is_waiting.false in
    let late : nat_lt GREATEST_STAMP (max r.stamp c.args.item.now.stamp + 1) ≡ false = grind (arith, nat_tests, c.if-stamp-gt-GREATEST_STAMP.false, next) in
    let is = c.take_piece.ensures ∙ ap (fed (side p.side) c.in-Piece.epoch) c.as_slice.ensures.value in
    rw (c.in-Piece.is, next)
    (subst (λ (x : RouterView). Answers (Ok stepped.Did) x (Take c.args.peer c.args.item.now.stamp (item.Piece c.in-Piece.epoch c.in-Piece.octets)) (with_peer r c.args.peer_at q r.tables r.marks (max r.stamp c.args.item.now.stamp + 1))) c.self.view_is (λ g e ranks.
    takes_piece g r c.args.peer c.args.peer_at p (of_sound g r c.self.invariant e) found.2 c.index_mut.ensures.value found.1 c.args.item.now.stamp c.in-Piece.epoch c.in-Piece.octets q ch is free late))

pub returns-in-Mark-clause-answers : goal.returns-in-Mark-clause-answers
returns-in-Mark-clause-answers c =
    let r = view_of c.self.inside in
    let found = subst (λ (x : RouterView). IsFound x.peers c.args.peer c.args.peer_at) (sym c.self.view_is) c.peer_stands_at.ensures.found in
    let next : c.saturating_add-stamp.result ≡ max r.stamp c.args.item.now.stamp + 1 = omega (arith, c.if-stamp-gt-GREATEST_STAMP.false, c.max.ensures, c.saturating_add-stamp.ensures) in
    let late : nat_lt GREATEST_STAMP (max r.stamp c.args.item.now.stamp + 1) ≡ false = grind (arith, nat_tests, c.if-stamp-gt-GREATEST_STAMP.false, next) in
    let takes = subst (λ n. TakesMark c.take_mark.result r c.args.peer c.in-Mark.epoch c.in-Mark.number n c.take_mark.new.self) next
    (subst (λ (x : RouterView). TakesMark c.take_mark.result x c.args.peer c.in-Mark.epoch c.in-Mark.number c.saturating_add-stamp.result c.take_mark.new.self) (sym c.self.view_is) c.take_mark.ensures.takes) in
    rw c.in-Mark.is
    (subst (λ (x : RouterView). Answers c.take_mark.result x (Take c.args.peer c.args.item.now.stamp (item.Mark c.in-Mark.epoch c.in-Mark.number)) c.take_mark.new.self) c.self.view_is (λ g e ranks.
    takes_mark g r c.args.peer c.args.peer_at c.index.result.now (of_sound g r c.self.invariant e) found.2 c.index.ensures found.1 c.args.item.now.stamp c.take_mark.result (plain_of c.take_mark.new.self) c.in-Mark.epoch c.in-Mark.number
    (sym c.is_waiting.ensures ∙ c.if-is_waiting.false) late (takes g e ranks)))
