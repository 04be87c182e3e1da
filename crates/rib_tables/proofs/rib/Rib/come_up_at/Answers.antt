use Rattle.std.proofs.Common.{◌≡◌, ℕ, List, length, set, subst, sym, ap, ◌∙◌, arith, rules}
use Rattle.std.specs.List.{slice_get}
use Rattle.rib_tables.specs.declared.row.Peer.{Peer}
use Rattle.rib_tables.specs.declared.row.Row.{Row}
use Rattle.rib_tables.specs.Owners.{RibView, ComesUp}
use Rattle.rib_tables.specs.Rows.{IsRib, MarksSpeaking, view_of}
use Rattle.rib_tables.proofs.RibLemmas.{peer_at_place, place_in}
use Rattle.rib_tables.proofs.SessionLemmas.{rise_keeps_rib, rises_view}
use Rattle.rib_tables.proofs.rib.Rib.come_up_at.Goals as goal

pub mark_words-requires-clause-words : goal.mark_words-requires-clause-words
mark_words-requires-clause-words c = λ i r at.
    let s = c.self.inside in
    let lt = place_in s.network.now s.router s.peers.items s.keys.keys s.rows.items c.self.invariant.whole c.args.peer c.args.self.now c.self.view_is c.args.peer_at c.requires.stands in
    let size = (c.self.invariant.whole.each i r (ap (λ (rs : List Row). slice_get rs i) (sym c.as_slice.ensures.value) ∙ at)).heard in
    omega (arith, lt, size)

pub set_up-requires : goal.set_up-requires
set_up-requires c =
    let s = c.self.inside in
    place_in s.network.now s.router s.peers.items s.keys.keys s.rows.items c.self.invariant.whole c.args.peer c.args.self.now c.self.view_is c.args.peer_at c.requires.stands

pub unadvertised-requires-clause-words : goal.unadvertised-requires-clause-words
unadvertised-requires-clause-words c = λ i r at.
    let s = c.self.inside in
    let lt = place_in s.network.now s.router s.peers.items s.keys.keys s.rows.items c.self.invariant.whole c.args.peer c.args.self.now c.self.view_is c.args.peer_at c.requires.stands in
    let size = (c.self.invariant.whole.each i r (ap (λ (rs : List Row). slice_get rs i) (sym c.as_slice-2.ensures.value) ∙ at)).sent in
    omega (arith, lt, size)

pub index_mut-requires : goal.index_mut-requires
index_mut-requires c =
    let s = c.self.inside in
    let lt = place_in s.network.now s.router s.peers.items s.keys.keys s.rows.items c.self.invariant.whole c.args.peer c.args.self.now c.self.view_is c.args.peer_at c.requires.stands in
    let long : length s.waits.items ≡ length s.peers.items = c.self.invariant.told.long in
    let len : length s.waits.items ≡ s.waits.len = search rules in
    omega (arith, lt, long, len)

pub invariant_of-self : goal.invariant_of-self
invariant_of-self c =
    let s = c.self.inside in
    let k = c.args.peer_at in
    let here = peer_at_place s.network.now s.router s.peers.items s.keys.keys s.rows.items c.self.invariant.whole c.args.peer c.args.self.now c.self.view_is c.args.peer_at c.requires.stands in
    let marks : MarksSpeaking k s.rows.items s.dirty c.mark_words.new.dirty = subst (λ (rs : List Row). MarksSpeaking k rs s.dirty c.mark_words.new.dirty) c.as_slice.ensures.value c.mark_words.ensures in
    subst (λ (ps : List Peer). IsRib s.network.now s.router ps s.keys.keys s.rows.items c.mark_words.new.dirty (set s.waits.items k c.unadvertised.result)) (sym (c.set_up.ensures here.0 here.1))
    (rise_keeps_rib s.network.now s.router s.peers.items s.keys.keys s.rows.items s.dirty s.waits.items c.self.invariant k here.0 here.1 c.mark_words.new.dirty c.unadvertised.result marks
    (λ i r at. c.unadvertised.ensures i r (ap (λ (rs : List Row). slice_get rs i) c.as_slice-2.ensures.value ∙ at)))

pub returns : goal.returns
returns c =
    let s = c.self.inside in
    let here = peer_at_place s.network.now s.router s.peers.items s.keys.keys s.rows.items c.self.invariant.whole c.args.peer c.args.self.now c.self.view_is c.args.peer_at c.requires.stands in
    let seen = rises_view s.network.now s.router s.peers.items c.set_up.new.peers.items s.rows.items c.args.peer_at here.0 here.1 (c.set_up.ensures here.0 here.1) in
    subst (λ (v : RibView). ComesUp v (view_of s.network.now s.router c.set_up.new.peers.items s.rows.items) c.args.peer) c.self.view_is
    (subst (λ (n : ℕ). ComesUp (view_of s.network.now s.router s.peers.items s.rows.items) (view_of s.network.now s.router c.set_up.new.peers.items s.rows.items) n) here.2 seen)
