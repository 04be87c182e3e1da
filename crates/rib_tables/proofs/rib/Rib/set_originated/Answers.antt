use Rattle.std.proofs.Common.{length, subst, sym}
use Rattle.ranked_policy.specs.Plans.{IsOrigin}
use Rattle.rib_tables.specs.Owners.{RibView, Originating, Withdrawing}
use Rattle.rib_tables.specs.Rows.{view_of}
use Rattle.rib_tables.proofs.ChangeLemmas.{place_fits}
use Rattle.rib_tables.proofs.RibLemmas.{fit_of}
use Rattle.rib_tables.proofs.OneRowLemmas.{named_origin, key_some, key_is, key_row, originate_keeps_rib, originates_view, withdraws_view}
use Rattle.rib_tables.proofs.rib.Rib.set_originated.Goals as goal

pub unwrap-prefix_at-requires : goal.unwrap-prefix_at-requires
unwrap-prefix_at-requires c =
    let s = c.self.inside in
    let q = c.args.prefix.now in
    key_some s.network.now s.router s.peers.items s.keys.keys s.rows.items c.self.invariant.whole q c.place_of.result c.place_of.ensures
    (named_origin s.network.now.origins s.router q (subst (λ (v : RibView). IsOrigin v.net.origins v.router q) (sym c.self.view_is) c.requires))

pub originate_at-requires : goal.originate_at-requires
originate_at-requires c =
    let s = c.self.inside in
    let key = key_is s.network.now s.router s.peers.items s.keys.keys s.rows.items c.self.invariant.whole c.args.prefix.now c.place_of.result c.unwrap-prefix_at.result c.place_of.ensures c.unwrap-prefix_at.ensures in
    (place_fits s.keys.keys (length s.peers.items) s.rows.items (fit_of s.network.now s.router s.peers.items s.keys.keys s.rows.items c.self.invariant.whole) c.args.prefix.now c.unwrap-prefix_at.result key).0

pub put-requires : goal.put-requires
put-requires c =
    let s = c.self.inside in
    let key = key_is s.network.now s.router s.peers.items s.keys.keys s.rows.items c.self.invariant.whole c.args.prefix.now c.place_of.result c.unwrap-prefix_at.result c.place_of.ensures c.unwrap-prefix_at.ensures in
    (place_fits s.keys.keys (length s.peers.items) s.rows.items (fit_of s.network.now s.router s.peers.items s.keys.keys s.rows.items c.self.invariant.whole) c.args.prefix.now c.unwrap-prefix_at.result key).1

pub invariant_of-self : goal.invariant_of-self
invariant_of-self c =
    let s = c.self.inside in
    let x = key_row s.network.now s.router s.peers.items s.keys.keys s.rows.items c.self.invariant.whole c.args.prefix.now c.place_of.result c.unwrap-prefix_at.result c.place_of.ensures c.unwrap-prefix_at.ensures in
    originate_keeps_rib s.network.now s.router s.peers.items s.keys.keys s.rows.items s.dirty c.put.new.self s.waits.items c.self.invariant c.args.prefix.now c.unwrap-prefix_at.result x.0 x.1 x.2 c.put.ensures.here c.put.ensures.others c.args.now
    c.originate_at.new.rows.items (c.originate_at.ensures x.0 x.1)

pub returns-clause-originating : goal.returns-clause-originating
returns-clause-originating c = λ t.
    let s = c.self.inside in
    let x = key_row s.network.now s.router s.peers.items s.keys.keys s.rows.items c.self.invariant.whole c.args.prefix.now c.place_of.result c.unwrap-prefix_at.result c.place_of.ensures c.unwrap-prefix_at.ensures in
    subst (λ (v : RibView). Originating v (view_of s.network.now s.router s.peers.items c.originate_at.new.rows.items) c.args.prefix.now) c.self.view_is
    (originates_view s.network.now s.router s.peers.items s.keys.keys s.rows.items s.dirty c.put.new.self s.waits.items c.self.invariant c.args.prefix.now c.unwrap-prefix_at.result x.0 x.1 x.2 c.put.ensures.here c.put.ensures.others c.args.now t
    c.originate_at.new.rows.items (c.originate_at.ensures x.0 x.1))

pub returns-clause-withdrawing : goal.returns-clause-withdrawing
returns-clause-withdrawing c = λ n.
    let s = c.self.inside in
    let x = key_row s.network.now s.router s.peers.items s.keys.keys s.rows.items c.self.invariant.whole c.args.prefix.now c.place_of.result c.unwrap-prefix_at.result c.place_of.ensures c.unwrap-prefix_at.ensures in
    subst (λ (v : RibView). Withdrawing v (view_of s.network.now s.router s.peers.items c.originate_at.new.rows.items) c.args.prefix.now) c.self.view_is
    (withdraws_view s.network.now s.router s.peers.items s.keys.keys s.rows.items s.dirty c.put.new.self s.waits.items c.self.invariant c.args.prefix.now c.unwrap-prefix_at.result x.0 x.1 x.2 c.put.ensures.here c.put.ensures.others c.args.now n
    c.originate_at.new.rows.items (c.originate_at.ensures x.0 x.1))
