use Rattle.std.proofs.Common.{◌≡◌, length, subst, sym, ap, ◌∙◌, arith, rules}
use Rattle.std.proofs.lemmas.Option.{slice_get_within, get_or_from_slice_get}
use Rattle.rib_tables.specs.declared.row.Row.{Row}
use Rattle.rib_tables.specs.Tables.{path_of}
use Rattle.rib_tables.specs.Owners.{RibView}
use Rattle.rib_tables.proofs.SeenLemmas.{once, kept_at}
use Rattle.rib_tables.proofs.OneRowLemmas.{row_at_place}
use Rattle.rib_tables.proofs.rib.Rib.path_at.Goals as goal

pub index-requires : goal.index-requires
index-requires c =
    let s = c.self.inside in
    let x = row_at_place s.network.now s.router s.peers.items s.keys.keys s.rows.items c.self.invariant.whole c.args.self.now c.self.view_is c.args.prefix.now c.args.prefix_at c.requires.stands in
    let lt = slice_get_within s.rows.items c.args.prefix_at x.0 x.1 in
    let len : length s.rows.items ≡ s.rows.len = search rules in
    omega (arith, lt, len)

pub returns : goal.returns
returns c =
    let s = c.self.inside in
    let q = c.args.prefix.now in
    let x = row_at_place s.network.now s.router s.peers.items s.keys.keys s.rows.items c.self.invariant.whole c.args.self.now c.self.view_is q c.args.prefix_at c.requires.stands in
    let row : c.index.result.now ≡ x.0 = c.index.ensures ∙ get_or_from_slice_get s.rows.items c.args.prefix_at x.0 c.index.result.now x.1 in
    subst (λ (v : RibView). c.as_slice.result.now ≡ path_of v.kept q) c.self.view_is
    (c.as_slice.ensures ∙ ap (λ (r : Row). r.kept) row ∙ sym (kept_at s.rows.items q c.args.prefix_at x.0 (once s.network.now s.router s.peers.items s.keys.keys s.rows.items c.self.invariant.whole) x.1 x.2))
