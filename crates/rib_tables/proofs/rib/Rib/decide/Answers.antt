use Rattle.std.proofs.Common.{◌<◌, List, ◌∷◌, length, subst, sym, ap, ◌∙◌}
use Rattle.std.specs.List.{slice_get}
use Rattle.prefix_lanes.specs.Bits.{PrefixView}
use Rattle.rib_tables.specs.declared.row.Peer.{Peer}
use Rattle.rib_tables.specs.Least.{HoldsOfAll, IsLeastWithout}
use Rattle.rib_tables.specs.Owners.{RibView, IsSettled, Decides}
use Rattle.rib_tables.specs.Rows.{view_of}
use Rattle.rib_tables.proofs.AskingLemmas.{all_settled, first_unsettled}
use Rattle.rib_tables.proofs.BestLemmas.{if_refused, left_rib, found_all, found_first, found_best, place_below, best_keeps_rib, best_view}
use Rattle.rib_tables.proofs.rib.Rib.decide.Goals as goal
use Rattle.rib_tables.proofs.rib.Rib.decide.Goals.{In-Some}

-- the place is one of a row
below : (c : In-Some) → (c.in-Some.prefix_at < length c.self.inside.rows.items) × (c.in-Some.prefix_at < 256)
below c =
    let s = c.self.inside in
    let net = s.network.now in
    let place = c.in-Some.prefix_at in
    let first = found_first net s.router s.peers.items s.keys.keys s.rows.items s.dirty s.waits.items c.self.invariant c.as_slice-peers.result.now c.as_slice-rows.result.now c.as_slice-peers.ensures.value c.as_slice-rows.ensures.value place (c.in-Some.ensures.least net) in
    place_below net s.router s.peers.items s.keys.keys s.rows.items s.dirty s.waits.items c.self.invariant place first.row first.at

pub returns-then-is_empty-clause-least : goal.returns-then-is_empty-clause-least
returns-then-is_empty-clause-least c =
    let s = c.self.inside in
    let net = s.network.now in
    subst (λ (v : RibView). HoldsOfAll v.net.origins (IsSettled v)) c.self.view_is
    (all_settled net s.router s.peers.items s.keys.keys s.rows.items s.dirty s.waits.items c.self.invariant (λ i r at. c.self.invariant.decided i r at (c.is_empty.ensures c.if-is_empty.true i)))

pub invariant_of-self : goal.invariant_of-self
invariant_of-self c =
    let s = c.self.inside in
    let net = s.network.now in
    left_rib net s.router s.peers.items s.keys.keys s.rows.items s.dirty s.waits.items c.self.invariant c.as_slice-peers.result.now c.as_slice-rows.result.now c.as_slice-peers.ensures.value c.as_slice-rows.ensures.value c.first_undecided-found.new.dirty (c.in_default.ensures.decided net)

pub returns-in_default-clause-least : goal.returns-in_default-clause-least
returns-in_default-clause-least c =
    let s = c.self.inside in
    let net = s.network.now in
    subst (λ (v : RibView). HoldsOfAll v.net.origins (IsSettled v)) c.self.view_is
    (all_settled net s.router s.peers.items s.keys.keys s.rows.items s.dirty s.waits.items c.self.invariant (found_all net s.router s.peers.items s.keys.keys s.rows.items s.dirty s.waits.items c.self.invariant c.as_slice-peers.result.now c.as_slice-rows.result.now c.as_slice-peers.ensures.value c.as_slice-rows.ensures.value (c.in_default.ensures.least net)))

pub invariant_of-self-in_err-best : goal.invariant_of-self-in_err-best
invariant_of-self-in_err-best c =
    let s = c.self.inside in
    let net = s.network.now in
    left_rib net s.router s.peers.items s.keys.keys s.rows.items s.dirty s.waits.items c.self.invariant c.as_slice-peers.result.now c.as_slice-rows.result.now c.as_slice-peers.ensures.value c.as_slice-rows.ensures.value c.first_undecided-found.new.dirty (c.in-Some.ensures.decided net)

pub returns-in_err-best-clause-pending : goal.returns-in_err-best-clause-pending
returns-in_err-best-clause-pending c =
    let s = c.self.inside in
    let net = s.network.now in
    let place = c.in-Some.prefix_at in
    let first = found_first net s.router s.peers.items s.keys.keys s.rows.items s.dirty s.waits.items c.self.invariant c.as_slice-peers.result.now c.as_slice-rows.result.now c.as_slice-peers.ensures.value c.as_slice-rows.ensures.value place (c.in-Some.ensures.least net) in
    if_refused c.from_residual.result (
      first.row.prefix,
      subst (λ (v : RibView). IsLeastWithout v.net.origins (IsSettled v) first.row.prefix) c.self.view_is
          (first_unsettled net s.router s.peers.items s.keys.keys s.rows.items s.dirty s.waits.items c.self.invariant place first),
    )

pub keep_at-prefix-requires-clause-within : goal.keep_at-prefix-requires-clause-within
keep_at-prefix-requires-clause-within c = (below (goal.at.keep_at-prefix-requires-clause-within c).In-Some).0

pub keep_at-prefix-requires-clause-place : goal.keep_at-prefix-requires-clause-place
keep_at-prefix-requires-clause-place c = (below (goal.at.keep_at-prefix-requires-clause-place c).In-Some).1

pub keep_at-prefix-requires-clause-sent : goal.keep_at-prefix-requires-clause-sent
keep_at-prefix-requires-clause-sent c =
    let s = c.self.inside in
    λ r at. (c.self.invariant.whole.each c.in-Some.prefix_at r at).sent ∙ ap (λ (ps : List Peer). length ps) (sym c.as_slice-peers.ensures.value)

pub take_out-requires : goal.take_out-requires
take_out-requires c = (below (goal.at.take_out-requires c).In-Some).1

pub invariant_of-self-2 : goal.invariant_of-self-2
invariant_of-self-2 c =
    let s = c.self.inside in
    let net = s.network.now in
    let place = c.in-Some.prefix_at in
    let first = found_first net s.router s.peers.items s.keys.keys s.rows.items s.dirty s.waits.items c.self.invariant c.as_slice-peers.result.now c.as_slice-rows.result.now c.as_slice-peers.ensures.value c.as_slice-rows.ensures.value place (c.in-Some.ensures.least net) in
    let rib = left_rib net s.router s.peers.items s.keys.keys s.rows.items s.dirty s.waits.items c.self.invariant c.as_slice-peers.result.now c.as_slice-rows.result.now c.as_slice-peers.ensures.value c.as_slice-rows.ensures.value c.first_undecided-found.new.dirty (c.in-Some.ensures.decided net) in
    let best = found_best net s.router s.peers.items s.keys.keys s.rows.items s.dirty s.waits.items c.self.invariant c.as_slice-peers.result.now c.as_slice-rows.result.now c.as_slice-peers.ensures.value c.as_slice-rows.ensures.value place c.in-Some.way (λ rest. s.router ∷ rest.now) c.in_ok-best.best first.row first.at (c.in-Some.ensures.best net) c.in_ok-best.ensures in
    best_keeps_rib net s.router s.peers.items s.keys.keys s.rows.items c.first_undecided-found.new.dirty s.waits.items rib place first.row first.at c.in_ok-best.best best c.keep_at-prefix.new.rows.items (c.keep_at-prefix.ensures.rows first.row first.at) c.take_out.new.self c.keep_at-prefix.new.waits.items first.fails c.take_out.ensures.others c.keep_at-prefix.ensures.len
    (λ k p w at told. c.keep_at-prefix.ensures.here first.row k p w first.at (ap (λ (ps : List Peer). slice_get ps k) c.as_slice-peers.ensures.value ∙ at) told) c.keep_at-prefix.ensures.others

pub returns-clause-least : goal.returns-clause-least
returns-clause-least c =
    let s = c.self.inside in
    let net = s.network.now in
    let place = c.in-Some.prefix_at in
    let first = found_first net s.router s.peers.items s.keys.keys s.rows.items s.dirty s.waits.items c.self.invariant c.as_slice-peers.result.now c.as_slice-rows.result.now c.as_slice-peers.ensures.value c.as_slice-rows.ensures.value place (c.in-Some.ensures.least net) in
    subst (λ (v : RibView). IsLeastWithout v.net.origins (IsSettled v) c.keep_at-prefix.result) c.self.view_is
    (subst (λ (q : PrefixView). IsLeastWithout net.origins (IsSettled (view_of net s.router s.peers.items s.rows.items)) q) (sym (c.keep_at-prefix.ensures.prefix first.row first.at))
    (first_unsettled net s.router s.peers.items s.keys.keys s.rows.items s.dirty s.waits.items c.self.invariant place first))

pub returns-clause-decides : goal.returns-clause-decides
returns-clause-decides c =
    let s = c.self.inside in
    let net = s.network.now in
    let place = c.in-Some.prefix_at in
    let first = found_first net s.router s.peers.items s.keys.keys s.rows.items s.dirty s.waits.items c.self.invariant c.as_slice-peers.result.now c.as_slice-rows.result.now c.as_slice-peers.ensures.value c.as_slice-rows.ensures.value place (c.in-Some.ensures.least net) in
    let rib = left_rib net s.router s.peers.items s.keys.keys s.rows.items s.dirty s.waits.items c.self.invariant c.as_slice-peers.result.now c.as_slice-rows.result.now c.as_slice-peers.ensures.value c.as_slice-rows.ensures.value c.first_undecided-found.new.dirty (c.in-Some.ensures.decided net) in
    let best = found_best net s.router s.peers.items s.keys.keys s.rows.items s.dirty s.waits.items c.self.invariant c.as_slice-peers.result.now c.as_slice-rows.result.now c.as_slice-peers.ensures.value c.as_slice-rows.ensures.value place c.in-Some.way (λ rest. s.router ∷ rest.now) c.in_ok-best.best first.row first.at (c.in-Some.ensures.best net) c.in_ok-best.ensures in
    subst (λ (v : RibView). Decides v (view_of net s.router s.peers.items c.keep_at-prefix.new.rows.items) c.keep_at-prefix.result) c.self.view_is
    (subst (Decides (view_of net s.router s.peers.items s.rows.items) (view_of net s.router s.peers.items c.keep_at-prefix.new.rows.items)) (sym (c.keep_at-prefix.ensures.prefix first.row first.at))
    (best_view net s.router s.peers.items s.keys.keys s.rows.items c.first_undecided-found.new.dirty s.waits.items rib place first.row first.at c.in_ok-best.best best c.keep_at-prefix.new.rows.items (c.keep_at-prefix.ensures.rows first.row first.at)))
