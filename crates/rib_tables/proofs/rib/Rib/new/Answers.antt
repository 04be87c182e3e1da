use Rattle.std.proofs.Common.{ℕ, false, List, map, ap, sym, subst, ◌∙◌}
use Rattle.prefix_lanes.specs.Bits.{PrefixView}
use Rattle.ranked_policy.specs.declared.network.Origin.{Origin}
use Rattle.rib_tables.specs.declared.row.Peer.{Peer}
use Rattle.rib_tables.specs.Owners.{IsNew}
use Rattle.rib_tables.specs.Rows.{IsRib, AreFresh, view_of}
use Rattle.rib_tables.proofs.OpeningLemmas.{first_rib, first_view}
use Rattle.rib_tables.proofs.rib.Rib.new.Goals as goal

pub invariant_of-result : goal.invariant_of-result
invariant_of-result c =
    let net = c.args.network.now in
    let router = c.args.router in
    let numbers = c.in_ok-numbers.numbers in
    let table = c.unwrap-table.result in
    let rows = c.in_ok-rows.rows.items in
    let waits = c.in_ok-waits.waits.items in
    let peers = c.in_ok-peers.ensures ∙ ap (map (λ (n : ℕ). record { asn = n; up = false })) c.as_slice.ensures in
    let keys = c.in_ok-keys.ensures ∙ ap (map (λ (o : Origin). o.prefix)) c.origins-origins.ensures.value in
    let fresh = subst (λ (n : ℕ). AreFresh net.origins table n net.origins rows) c.len-2.ensures c.in_ok-rows.ensures in
    subst (λ (ps : List Peer). IsRib net router ps c.in_ok-keys.keys.keys rows c.new.result waits) (sym peers)
    (subst (λ (ks : List PrefixView). IsRib net router (map (λ (n : ℕ). record { asn = n; up = false }) numbers) ks rows c.new.result waits) (sym keys)
    (first_rib net router table numbers rows c.origins-origins.ensures.network c.requires (rw c.unwrap-table.ensures at c.policies.ensures.value) c.in_ok-numbers.ensures.peers c.in_ok-numbers.ensures.rising c.in_ok-numbers.ensures.exact fresh c.new.result waits c.new.ensures (c.in_ok-waits.ensures.len ∙ c.len.ensures) c.in_ok-waits.ensures.none))

pub returns : goal.returns
returns c =
    let net = c.args.network.now in
    let router = c.args.router in
    let numbers = c.in_ok-numbers.numbers in
    let table = c.unwrap-table.result in
    let rows = c.in_ok-rows.rows.items in
    let peers = c.in_ok-peers.ensures ∙ ap (map (λ (n : ℕ). record { asn = n; up = false })) c.as_slice.ensures in
    let fresh = subst (λ (n : ℕ). AreFresh net.origins table n net.origins rows) c.len-2.ensures c.in_ok-rows.ensures in
    subst (λ (ps : List Peer). IsNew net router (view_of net router ps rows)) (sym peers)
    (first_view net router table numbers rows c.origins-origins.ensures.network c.requires (rw c.unwrap-table.ensures at c.policies.ensures.value) c.in_ok-numbers.ensures.peers c.in_ok-numbers.ensures.rising c.in_ok-numbers.ensures.exact fresh)
