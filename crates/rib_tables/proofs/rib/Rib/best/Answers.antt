use Rattle.std.proofs.Common.{◌≡◌, List, [], ◌∷◌, length, subst, sym, ap, ◌∙◌, arith, rules}
use Rattle.std.specs.Prelude.{MatchOption}
use Rattle.std.proofs.lemmas.Option.{slice_get_within, get_or_from_slice_get}
use Rattle.std.proofs.lemmas.Result.{IfOk-weaker}
use Rattle.prefix_lanes.specs.Bits.{PrefixView}
use Rattle.ranked_policy.specs.Plans.{IsNetwork, IsRouter, IsNamed}
use Rattle.rib_tables.specs.declared.row.Peer.{Peer}
use Rattle.rib_tables.specs.declared.row.Row.{Row}
use Rattle.rib_tables.specs.Choices.{IsBest}
use Rattle.rib_tables.specs.Owners.{RibView, sources_of}
use Rattle.rib_tables.specs.Rows.{IsRow, IsRowBest, view_of}
use Rattle.rib_tables.proofs.SeenLemmas.{best_seen}
use Rattle.rib_tables.proofs.BestLemmas.{best_along}
use Rattle.rib_tables.proofs.OneRowLemmas.{key_some, key_row}
use Rattle.rib_tables.proofs.rib.Rib.best.Goals as goal

pub unwrap-prefix_at-requires : goal.unwrap-prefix_at-requires
unwrap-prefix_at-requires c =
    let s = c.self.inside in
    let q = c.args.prefix.now in
    key_some s.network.now s.router s.peers.items s.keys.keys s.rows.items c.self.invariant.whole q c.place_of.result c.place_of.ensures
    (subst (λ (v : RibView). IsNamed v.net.origins q) (sym c.self.view_is) c.requires)

pub index-requires : goal.index-requires
index-requires c =
    let s = c.self.inside in
    let x = key_row s.network.now s.router s.peers.items s.keys.keys s.rows.items c.self.invariant.whole c.args.prefix.now c.place_of.result c.unwrap-prefix_at.result c.place_of.ensures c.unwrap-prefix_at.ensures in
    let lt = slice_get_within s.rows.items c.unwrap-prefix_at.result x.0 x.1 in
    let len : length s.rows.items ≡ s.rows.len = search rules in
    omega (arith, lt, len)

pub best_way-way-requires : goal.best_way-way-requires
best_way-way-requires c =
    let s = c.self.inside in
    let place = c.unwrap-prefix_at.result in
    let x = key_row s.network.now s.router s.peers.items s.keys.keys s.rows.items c.self.invariant.whole c.args.prefix.now c.place_of.result place c.place_of.ensures c.unwrap-prefix_at.ensures in
    let row : c.index.result.now ≡ x.0 = c.index.ensures ∙ get_or_from_slice_get s.rows.items place x.0 c.index.result.now x.1 in
    ap (λ (r : Row). length r.heard) row ∙ (c.self.invariant.whole.each place x.0 x.1).heard ∙ ap (λ (ps : List Peer). length ps) (sym c.as_slice.ensures.value)

pub returns : goal.returns
returns c =
    let s = c.self.inside in
    let q = c.args.prefix.now in
    let net = s.network.now in
    let whole = c.self.invariant.whole in
    let place = c.unwrap-prefix_at.result in
    let x = key_row net s.router s.peers.items s.keys.keys s.rows.items whole q c.place_of.result place c.place_of.ensures c.unwrap-prefix_at.ensures in
    let row : c.index.result.now ≡ x.0 = c.index.ensures ∙ get_or_from_slice_get s.rows.items place x.0 c.index.result.now x.1 in
    let Best : List Peer → Row → Type 0 = λ ps r. IsNetwork net → IsRouter net.routers s.router → IsRow net s.router ps r → MatchOption c.best_way-way.result (IsRowBest net s.router ps r []) (λ rest. IsRowBest net s.router ps r (s.router ∷ rest.now)) in
    let way = subst (λ (ps : List Peer). Best ps x.0) c.as_slice.ensures.value (subst (Best c.as_slice.result.now) row (c.best_way-way.ensures net)) in
    IfOk-weaker c.path_along.result (λ path. MatchOption c.best_way-way.result (path ≡ []) (λ rest. path ≡ s.router ∷ rest.now)) (IsBest (sources_of c.args.self.now) q)
    (λ path along.
    let best = best_along (IsRowBest net s.router s.peers.items x.0) (λ rest. s.router ∷ rest.now) c.best_way-way.result path (way whole.network whole.routers (whole.each place x.0 x.1)) along in
    let seen = (best_seen net s.router s.peers.items s.keys.keys s.rows.items whole place x.0 x.1 path).0 best in
    subst (λ (v : RibView). IsBest (sources_of v) q path) c.self.view_is (subst (λ (p : PrefixView). IsBest (sources_of (view_of net s.router s.peers.items s.rows.items)) p path) x.2 seen))
    c.path_along.ensures
