use Rattle.std.proofs.Common.{ℕ, length, subst}
use Rattle.rib_tables.specs.Owners.{RibView, HearsUpdate}
use Rattle.rib_tables.specs.Rows.{view_of}
use Rattle.rib_tables.proofs.RibLemmas.{fit_of, hear_keeps_rib, hears_view, peer_at_place, place_in}
use Rattle.rib_tables.proofs.TellsLemmas.{telling_update, it_tells, hears_told}
use Rattle.rib_tables.proofs.rib.Rib.hear_path_at.Goals as goal

pub hear_one-requires : goal.hear_one-requires
hear_one-requires c =
    let s = c.self.inside in
    (length s.peers.items, fit_of s.network.now s.router s.peers.items s.keys.keys s.rows.items c.self.invariant.whole, place_in s.network.now s.router s.peers.items s.keys.keys s.rows.items c.self.invariant.whole c.args.peer c.args.self.now c.self.view_is c.args.peer_at c.requires.stands)

pub invariant_of-self : goal.invariant_of-self
invariant_of-self c =
    let s = c.self.inside in
    let u = telling_update c.args.prefix.now c.args.path.now in
    let heard = hears_told c.args.peer_at s.rows.items c.args.prefix.now c.args.path.now c.in_ok-from_slice.field-0 c.hear_one.new.rows.items u (it_tells c.args.prefix.now c.args.path.now) c.in_ok-from_slice.ensures.ok c.hear_one.ensures.rows in
    hear_keeps_rib c.args.peer_at u s.network.now s.router s.peers.items s.keys.keys s.rows.items c.hear_one.new.rows.items s.dirty c.hear_one.new.dirty s.waits.items c.self.invariant heard c.hear_one.ensures.dirty

pub returns-clause-ok : goal.returns-clause-ok
returns-clause-ok c = λ u tells.
    let s = c.self.inside in
    let here = peer_at_place s.network.now s.router s.peers.items s.keys.keys s.rows.items c.self.invariant.whole c.args.peer c.args.self.now c.self.view_is c.args.peer_at c.requires.stands in
    let heard = hears_told c.args.peer_at s.rows.items c.args.prefix.now c.args.path.now c.in_ok-from_slice.field-0 c.hear_one.new.rows.items u tells c.in_ok-from_slice.ensures.ok c.hear_one.ensures.rows in
    let seen = hears_view c.args.peer_at u s.network.now s.router s.peers.items s.keys.keys s.rows.items c.self.invariant.whole here.0 here.1 c.hear_one.new.rows.items heard in
    subst (λ (v : RibView). HearsUpdate v (view_of s.network.now s.router s.peers.items c.hear_one.new.rows.items) c.args.peer u) c.self.view_is
    (subst (λ (n : ℕ). HearsUpdate (view_of s.network.now s.router s.peers.items s.rows.items) (view_of s.network.now s.router s.peers.items c.hear_one.new.rows.items) n u) here.2 seen)
