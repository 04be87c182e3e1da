use Rattle.std.proofs.Common.{List, length, subst, sym, ap, ◌∙◌}
use Rattle.std.specs.List.{slice_get}
use Rattle.rib_tables.specs.declared.row.Peer.{Peer}
use Rattle.rib_tables.specs.declared.row.Row.{Row}
use Rattle.rib_tables.specs.Owners.{RibView, Clears}
use Rattle.rib_tables.specs.Rows.{AreWaiting, clearing, view_of}
use Rattle.rib_tables.proofs.ChangeLemmas.{from_map}
use Rattle.rib_tables.proofs.OneRowLemmas.{clear_keeps_rib, clears_view}
use Rattle.rib_tables.proofs.rib.Rib.clear.Goals as goal

pub wait_after_all-requires-clause-words : goal.wait_after_all-requires-clause-words
wait_after_all-requires-clause-words c = λ i r at.
    let s = c.self.inside in
    let x = from_map clearing s.rows.items i r (ap (λ (rs : List Row). slice_get rs i) (sym (c.as_slice-2.ensures.value ∙ c.clear_all.ensures.rows)) ∙ at) in
    ap (λ (y : Row). length y.sent) x.2 ∙ (c.self.invariant.whole.each i x.0 x.1).sent ∙ ap (λ (ps : List Peer). length ps) (sym c.as_slice.ensures.value)

pub invariant_of-self : goal.invariant_of-self
invariant_of-self c =
    let s = c.self.inside in
    clear_keeps_rib s.network.now s.router s.peers.items s.keys.keys s.rows.items c.self.invariant.whole c.clear_all.new.rows.items c.clear_all.ensures.rows c.clear_all.new.dirty c.wait_after_all.new.waits.items c.clear_all.ensures.dirty
    (subst (λ (ps : List Peer). AreWaiting ps c.clear_all.new.rows.items c.wait_after_all.new.waits.items) c.as_slice.ensures.value
    (subst (λ (rs : List Row). AreWaiting c.as_slice.result.now rs c.wait_after_all.new.waits.items) c.as_slice-2.ensures.value c.wait_after_all.ensures))

pub returns : goal.returns
returns c =
    let s = c.self.inside in
    subst (λ (v : RibView). Clears v (view_of s.network.now s.router s.peers.items c.clear_all.new.rows.items)) c.self.view_is
    (clears_view s.network.now s.router s.peers.items s.keys.keys s.rows.items c.self.invariant.whole c.clear_all.new.rows.items c.clear_all.ensures.rows)
