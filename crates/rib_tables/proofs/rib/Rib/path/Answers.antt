use Rattle.std.proofs.Common.{Some, map, ◌≡◌, List, [], ℕ, subst, sym}
use Rattle.std.specs.List.{slice_get}
use Rattle.rib_tables.specs.Tables.{path_of}
use Rattle.rib_tables.specs.Owners.{RibView}
use Rattle.rib_tables.proofs.SeenLemmas.{no_kept}
use Rattle.rib_tables.proofs.OneRowLemmas.{key_none, place_at_key}
use Rattle.rib_tables.proofs.rib.Rib.path.Goals as goal

pub path_at-requires : goal.path_at-requires
path_at-requires c =
    let s = c.self.inside in
    let stands = place_at_key s.network.now s.router s.peers.items s.keys.keys s.rows.items c.self.invariant.whole c.args.prefix.now c.in-Some.prefix_at c.in-Some.ensures in
    record { stands = subst (λ (v : RibView). slice_get (map (λ o. o.prefix) v.net.origins) c.in-Some.prefix_at ≡ Some c.args.prefix.now) c.self.view_is stands }

pub returns-in-None : goal.returns-in-None
returns-in-None c =
    let s = c.self.inside in
    let q = c.args.prefix.now in
    subst (λ (v : RibView). ◌≡◌ {A = List ℕ} [] (path_of v.kept q)) c.self.view_is
    (sym (no_kept s.rows.items q (key_none s.network.now s.router s.peers.items s.keys.keys s.rows.items c.self.invariant.whole q c.in-None.ensures)))
