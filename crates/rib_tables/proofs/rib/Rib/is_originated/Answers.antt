use Rattle.std.proofs.Common.{Some, map, ◌≡◌, subst, sym}
use Rattle.std.specs.List.{slice_get, Contains}
use Rattle.rib_tables.specs.Owners.{RibView}
use Rattle.rib_tables.proofs.SeenLemmas.{listed_originated}
use Rattle.rib_tables.proofs.OneRowLemmas.{key_none, place_at_key}
use Rattle.rib_tables.proofs.rib.Rib.is_originated.Goals as goal

pub is_originated_at-requires : goal.is_originated_at-requires
is_originated_at-requires c =
    let s = c.self.inside in
    let stands = place_at_key s.network.now s.router s.peers.items s.keys.keys s.rows.items c.self.invariant.whole c.args.prefix.now c.in-Some.prefix_at c.in-Some.ensures in
    record { stands = subst (λ (v : RibView). slice_get (map (λ o. o.prefix) v.net.origins) c.in-Some.prefix_at ≡ Some c.args.prefix.now) c.self.view_is stands }

pub returns-in-None : goal.returns-in-None
returns-in-None c =
    let s = c.self.inside in
    let q = c.args.prefix.now in (
      λ t. absurd cc,
      λ o.
          let x = listed_originated s.rows.items q (subst (λ (v : RibView). Contains v.originated q) (sym c.self.view_is) o) in
          absurd (key_none s.network.now s.router s.peers.items s.keys.keys s.rows.items c.self.invariant.whole q c.in-None.ensures x.0 x.1 x.2 x.4),
    )
