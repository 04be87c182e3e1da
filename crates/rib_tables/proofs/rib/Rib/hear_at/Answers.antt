use Rattle.std.proofs.Common.{ℕ, List, length, subst, sym, ap, ◌∙◌}
use Rattle.rib_tables.specs.declared.place_set.PlaceSet.{PlaceSet}
use Rattle.rib_tables.specs.declared.row.Row.{Row}
use Rattle.rib_tables.specs.Owners.{RibView, HearsUpdate}
use Rattle.rib_tables.specs.Rows.{IsRib, view_of}
use Rattle.rib_tables.proofs.RibLemmas.{fit_of, hear_keeps_rib, hears_view, peer_at_place, place_in}
use Rattle.rib_tables.proofs.BestLemmas.{on_refused}
use Rattle.rib_tables.proofs.rib.Rib.hear_at.Goals as goal

-- a refusal leaves rows and places as they were
pub invariant_of-self : goal.invariant_of-self
invariant_of-self c =
    let s = c.self.inside in
    subst (λ (rs : List Row). IsRib s.network.now s.router s.peers.items s.keys.keys rs c.hear_update.new.dirty s.waits.items) (sym c.in_err-hear_update.ensures.same_rows)
    (subst (λ (d : PlaceSet). IsRib s.network.now s.router s.peers.items s.keys.keys s.rows.items d s.waits.items) (sym c.in_err-hear_update.ensures.same_dirty) c.self.invariant)

pub returns-in_err-hear_update-clause-err : goal.returns-in_err-hear_update-clause-err
returns-in_err-hear_update-clause-err c =
    let s = c.self.inside in
    on_refused c.from_residual.result (ap (λ (rs : List Row). view_of s.network.now s.router s.peers.items rs) c.in_err-hear_update.ensures.same_rows ∙ c.self.view_is)

pub invariant_of-self-2 : goal.invariant_of-self-2
invariant_of-self-2 c =
    let s = c.self.inside in
    hear_keeps_rib c.args.peer_at c.args.update.now s.network.now s.router s.peers.items s.keys.keys s.rows.items c.hear_update.new.rows.items s.dirty c.hear_update.new.dirty s.waits.items c.self.invariant c.in_ok-hear_update.ensures.rows c.in_ok-hear_update.ensures.dirty

pub hear_update-requires : goal.hear_update-requires
hear_update-requires c =
    let s = c.self.inside in
    (length s.peers.items, fit_of s.network.now s.router s.peers.items s.keys.keys s.rows.items c.self.invariant.whole, place_in s.network.now s.router s.peers.items s.keys.keys s.rows.items c.self.invariant.whole c.args.peer c.args.self.now c.self.view_is c.args.peer_at c.requires.stands)

pub returns-clause-ok : goal.returns-clause-ok
returns-clause-ok c =
    let s = c.self.inside in
    let here = peer_at_place s.network.now s.router s.peers.items s.keys.keys s.rows.items c.self.invariant.whole c.args.peer c.args.self.now c.self.view_is c.args.peer_at c.requires.stands in
    let seen = hears_view c.args.peer_at c.args.update.now s.network.now s.router s.peers.items s.keys.keys s.rows.items c.self.invariant.whole here.0 here.1 c.hear_update.new.rows.items c.in_ok-hear_update.ensures.rows in
    subst (λ (v : RibView). HearsUpdate v (view_of s.network.now s.router s.peers.items c.hear_update.new.rows.items) c.args.peer c.args.update.now) c.self.view_is
    (subst (λ (n : ℕ). HearsUpdate (view_of s.network.now s.router s.peers.items s.rows.items) (view_of s.network.now s.router s.peers.items c.hear_update.new.rows.items) n c.args.update.now) here.2 seen)
