use Rattle.std.proofs.Common.{◌≡◌, ℕ, List, length, set, subst, sym, arith, rules}
use Rattle.rib_tables.specs.declared.row.Peer.{Peer}
use Rattle.rib_tables.specs.Owners.{RibView, ForgetsPeer}
use Rattle.rib_tables.specs.Rows.{IsRib, view_of}
use Rattle.rib_tables.proofs.RibLemmas.{peer_at_place, place_in, fit_of}
use Rattle.rib_tables.proofs.ChangeLemmas.{many}
use Rattle.rib_tables.proofs.SessionLemmas.{forget_keeps_rib, forgets_view}
use Rattle.rib_tables.proofs.rib.Rib.forget_at.Goals as goal

pub forget_all-requires-clause-words : goal.forget_all-requires-clause-words
forget_all-requires-clause-words c = λ i r at.
    let s = c.self.inside in
    let lt = place_in s.network.now s.router s.peers.items s.keys.keys s.rows.items c.self.invariant.whole c.args.peer c.args.self.now c.self.view_is c.args.peer_at c.requires.stands in
    let is = c.self.invariant.whole.each i r at in
    (let size = is.heard in omega (arith, lt, size), let size = is.sent in omega (arith, lt, size))

pub forget_all-requires-clause-few : goal.forget_all-requires-clause-few
forget_all-requires-clause-few c =
    let s = c.self.inside in
    let few = (fit_of s.network.now s.router s.peers.items s.keys.keys s.rows.items c.self.invariant.whole).few in
    let size = many s.keys.keys s.rows.items c.self.invariant.whole.listed in
    omega (arith, few, size)

pub set_up-requires : goal.set_up-requires
set_up-requires c =
    let s = c.self.inside in
    place_in s.network.now s.router s.peers.items s.keys.keys s.rows.items c.self.invariant.whole c.args.peer c.args.self.now c.self.view_is c.args.peer_at c.requires.stands

pub index_mut-requires : goal.index_mut-requires
index_mut-requires c =
    let s = c.self.inside in
    let lt = place_in s.network.now s.router s.peers.items s.keys.keys s.rows.items c.self.invariant.whole c.args.peer c.args.self.now c.self.view_is c.args.peer_at c.requires.stands in
    let long : length s.waits.items ≡ length s.peers.items = c.self.invariant.told.long in
    let len : length s.waits.items ≡ s.waits.len = search rules in
    omega (arith, lt, long, len)

pub invariant_of-self : goal.invariant_of-self
invariant_of-self c =
    let s = c.self.inside in
    let k = c.args.peer_at in
    let here = peer_at_place s.network.now s.router s.peers.items s.keys.keys s.rows.items c.self.invariant.whole c.args.peer c.args.self.now c.self.view_is c.args.peer_at c.requires.stands in
    subst (λ (ps : List Peer). IsRib s.network.now s.router ps s.keys.keys c.forget_all.new.rows.items c.forget_all.new.dirty (set s.waits.items k c.new.result)) (sym (c.set_up.ensures here.0 here.1))
    (forget_keeps_rib s.network.now s.router s.peers.items s.keys.keys s.rows.items s.dirty s.waits.items c.self.invariant k here.0 here.1 c.forget_all.new.rows.items c.forget_all.new.dirty c.new.result c.forget_all.ensures.rows c.forget_all.ensures.dirty c.new.ensures)

pub returns : goal.returns
returns c =
    let s = c.self.inside in
    let here = peer_at_place s.network.now s.router s.peers.items s.keys.keys s.rows.items c.self.invariant.whole c.args.peer c.args.self.now c.self.view_is c.args.peer_at c.requires.stands in
    let seen = forgets_view s.network.now s.router s.peers.items c.set_up.new.peers.items s.keys.keys s.rows.items c.forget_all.new.rows.items c.self.invariant.whole c.args.peer_at here.0 here.1 (c.set_up.ensures here.0 here.1) c.forget_all.ensures.rows in
    subst (λ (v : RibView). ForgetsPeer v (view_of s.network.now s.router c.set_up.new.peers.items c.forget_all.new.rows.items) c.args.peer) c.self.view_is
    (subst (λ (n : ℕ). ForgetsPeer (view_of s.network.now s.router s.peers.items s.rows.items) (view_of s.network.now s.router c.set_up.new.peers.items c.forget_all.new.rows.items) n) here.2 seen)
