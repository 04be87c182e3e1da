use Rattle.std.proofs.Common.{◌≡◌, length, subst, sym, ◌∙◌, arith, rules}
use Rattle.std.proofs.lemmas.Option.{slice_get_within, get_or_from_slice_get}
use Rattle.rib_tables.specs.declared.row.Row.{Row}
use Rattle.rib_tables.specs.Least.{HoldsOfAll, IsLeastWithout}
use Rattle.rib_tables.specs.Owners.{RibView, IsSettled}
use Rattle.rib_tables.specs.Rows.{view_of}
use Rattle.rib_tables.proofs.AskingLemmas.{all_settled, first_unsettled}
use Rattle.rib_tables.proofs.BestLemmas.{found_all, found_first}
use Rattle.rib_tables.proofs.rib.Rib.dirty.Goals as goal

pub returns-in_err-prefix_at : goal.returns-in_err-prefix_at
returns-in_err-prefix_at c =
    let s = c.self.inside in
    let net = s.network.now in
    rw c.from_residual.ensures (subst (λ (v : RibView). HoldsOfAll v.net.origins (IsSettled v)) c.self.view_is
    (all_settled net s.router s.peers.items s.keys.keys s.rows.items s.dirty s.waits.items c.self.invariant
    (found_all net s.router s.peers.items s.keys.keys s.rows.items s.dirty s.waits.items c.self.invariant c.as_slice-peers.result.now c.as_slice-rows.result.now c.as_slice-peers.ensures.value c.as_slice-rows.ensures.value (c.in_err-prefix_at.ensures.least net))))

pub index-requires : goal.index-requires
index-requires c =
    let s = c.self.inside in
    let net = s.network.now in
    let place = c.in_ok-prefix_at.prefix_at in
    let is = found_first net s.router s.peers.items s.keys.keys s.rows.items s.dirty s.waits.items c.self.invariant c.as_slice-peers.result.now c.as_slice-rows.result.now c.as_slice-peers.ensures.value c.as_slice-rows.ensures.value place (c.in_ok-prefix_at.ensures.least net) in
    let lt = slice_get_within s.rows.items place is.row is.at in
    let len : length s.rows.items ≡ s.rows.len = search rules in
    omega (arith, lt, len)

pub returns : goal.returns
returns c =
    let s = c.self.inside in
    let net = s.network.now in
    let place = c.in_ok-prefix_at.prefix_at in
    let is = found_first net s.router s.peers.items s.keys.keys s.rows.items s.dirty s.waits.items c.self.invariant c.as_slice-peers.result.now c.as_slice-rows.result.now c.as_slice-peers.ensures.value c.as_slice-rows.ensures.value place (c.in_ok-prefix_at.ensures.least net) in
    let row : c.index.result.now ≡ is.row = c.index.ensures ∙ get_or_from_slice_get s.rows.items place is.row c.index.result.now is.at in
    subst (λ (v : RibView). IsLeastWithout v.net.origins (IsSettled v) c.index.result.now.prefix) c.self.view_is
    (subst (λ (r : Row). IsLeastWithout net.origins (IsSettled (view_of net s.router s.peers.items s.rows.items)) r.prefix) (sym row)
    (first_unsettled net s.router s.peers.items s.keys.keys s.rows.items s.dirty s.waits.items c.self.invariant place is))
