use Rattle.std.proofs.Common.{◌≡◌, ℕ, Some, length, map, subst, sym, ap, ◌∙◌, arith, rules}
use Rattle.std.specs.List.{slice_get}
use Rattle.std.proofs.lemmas.Option.{get_or_from_slice_get}
use Rattle.rib_tables.specs.declared.row.Row.{Row}
use Rattle.rib_tables.specs.Least.{HoldsOfAll, IsLeastWithout}
use Rattle.rib_tables.specs.Owners.{RibView, IsServed}
use Rattle.rib_tables.specs.Rows.{view_of}
use Rattle.rib_tables.proofs.ChangeLemmas.{key_at, within}
use Rattle.rib_tables.proofs.RibLemmas.{peer_at_place, place_in}
use Rattle.rib_tables.proofs.OneRowLemmas.{place_at_key}
use Rattle.rib_tables.proofs.AskingLemmas.{waits_at, waits_for_none, waits_for_first}
use Rattle.rib_tables.proofs.rib.Rib.waiting_at.Goals as goal

pub index-requires : goal.index-requires
index-requires c =
    let s = c.self.inside in
    let lt = place_in s.network.now s.router s.peers.items s.keys.keys s.rows.items c.self.invariant.whole c.args.peer c.args.self.now c.self.view_is c.args.peer_at c.requires.stands in
    let long = c.self.invariant.told.long in
    let len : length s.waits.items ≡ s.waits.len = search rules in
    omega (arith, lt, long, len)

pub returns-in_err-prefix_at-clause-least : goal.returns-in_err-prefix_at-clause-least
returns-in_err-prefix_at-clause-least c =
    let s = c.self.inside in
    let net = s.network.now in
    let to = c.args.peer_at in
    let here = peer_at_place s.network.now s.router s.peers.items s.keys.keys s.rows.items c.self.invariant.whole c.args.peer c.args.self.now c.self.view_is c.args.peer_at c.requires.stands in
    let set = waits_at net s.router s.peers.items s.keys.keys s.rows.items s.dirty s.waits.items c.self.invariant to here.0 c.index.result.now here.1 c.index.ensures in
    rw c.from_residual.ensures (subst (λ (v : RibView). HoldsOfAll v.net.origins (IsServed v c.args.peer)) c.self.view_is
    (subst (λ (n : ℕ). HoldsOfAll net.origins (IsServed (view_of net s.router s.peers.items s.rows.items) n)) here.2
    (waits_for_none net s.router s.peers.items s.keys.keys s.rows.items s.dirty s.waits.items c.self.invariant to here.0 c.index.result.now here.1 set (λ i _. c.in_err-prefix_at.ensures i))))

pub returns-then-prefix_at-len-clause-least : goal.returns-then-prefix_at-len-clause-least
returns-then-prefix_at-len-clause-least c =
    let s = c.self.inside in
    let net = s.network.now in
    let to = c.args.peer_at in
    let here = peer_at_place s.network.now s.router s.peers.items s.keys.keys s.rows.items c.self.invariant.whole c.args.peer c.args.self.now c.self.view_is c.args.peer_at c.requires.stands in
    let set = waits_at net s.router s.peers.items s.keys.keys s.rows.items s.dirty s.waits.items c.self.invariant to here.0 c.index.result.now here.1 c.index.ensures in
    let past = c.if-prefix_at-len.true in
    let many = c.len.ensures in
    let len : length s.rows.items ≡ s.rows.len = search rules in
    subst (λ (v : RibView). HoldsOfAll v.net.origins (IsServed v c.args.peer)) c.self.view_is
    (subst (λ (n : ℕ). HoldsOfAll net.origins (IsServed (view_of net s.router s.peers.items s.rows.items) n)) here.2
    (waits_for_none net s.router s.peers.items s.keys.keys s.rows.items s.dirty s.waits.items c.self.invariant to here.0 c.index.result.now here.1 set (λ i below. c.in_ok-prefix_at.ensures.2 i (omega (arith, below, past, many, len)))))

pub returns-clause-least : goal.returns-clause-least
returns-clause-least c =
    let s = c.self.inside in
    let net = s.network.now in
    let to = c.args.peer_at in
    let place = c.in_ok-prefix_at.prefix_at in
    let here = peer_at_place s.network.now s.router s.peers.items s.keys.keys s.rows.items c.self.invariant.whole c.args.peer c.args.self.now c.self.view_is c.args.peer_at c.requires.stands in
    let set = waits_at net s.router s.peers.items s.keys.keys s.rows.items s.dirty s.waits.items c.self.invariant to here.0 c.index.result.now here.1 c.index.ensures in
    let inside = c.if-prefix_at-len.false in
    let many = c.len.ensures in
    let len : length s.rows.items ≡ s.rows.len = search rules in
    let row = within s.rows.items place (omega (arith, inside, many, len)) in
    let is : c.index-2.result.now ≡ row.0 = c.index-2.ensures ∙ get_or_from_slice_get s.rows.items place row.0 c.index-2.result.now row.1 in
    let found = c.in_ok-prefix_at.ensures in
    subst (λ (v : RibView). IsLeastWithout v.net.origins (IsServed v c.args.peer) c.index-2.result.now.prefix) c.self.view_is
    (subst (λ (r : Row). IsLeastWithout net.origins (IsServed (view_of net s.router s.peers.items s.rows.items) c.args.peer) r.prefix) (sym is)
    (subst (λ (n : ℕ). IsLeastWithout net.origins (IsServed (view_of net s.router s.peers.items s.rows.items) n) row.0.prefix) here.2
    (waits_for_first net s.router s.peers.items s.keys.keys s.rows.items s.dirty s.waits.items c.self.invariant to here.0 c.index.result.now here.1 set place row.0 row.1 found.1 found.2)))

pub returns-clause-named : goal.returns-clause-named
returns-clause-named c =
    let s = c.self.inside in
    let at = c.in_ok-prefix_at.prefix_at in
    let inside = c.if-prefix_at-len.false in
    let many = c.len.ensures in
    let len : length s.rows.items ≡ s.rows.len = search rules in
    let row = within s.rows.items at (omega (arith, inside, many, len)) in
    let is : c.index-2.result.now ≡ row.0 = c.index-2.ensures ∙ get_or_from_slice_get s.rows.items at row.0 c.index-2.result.now row.1 in
    let key = key_at s.keys.keys s.rows.items c.self.invariant.whole.listed at row.0 row.1 ∙ ap (λ (r : Row). Some r.prefix) (sym is) in
    subst (λ (v : RibView). slice_get (map (λ o. o.prefix) v.net.origins) at ≡ Some c.index-2.result.now.prefix) c.self.view_is
    (place_at_key s.network.now s.router s.peers.items s.keys.keys s.rows.items c.self.invariant.whole c.index-2.result.now.prefix at key)
