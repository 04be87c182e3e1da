use Rattle.std.proofs.Common.{◌+◌, ◌≡◌, ◌∙◌, ℕ, List, get_or, [], ◌∷◌, false, length, sym, subst, ap, arith}
use Rattle.std.proofs.lemmas.Bool.{both_ways, eqb-true}
use Rattle.std.proofs.lemmas.List.{nil_from_length}
use Rattle.std.proofs.lemmas.Option.{slice_get-get_or, slice_get_read}
use Rattle.prefix_lanes.specs.Bits.{PrefixView}
use Rattle.ranked_policy.specs.Choices.{IsFirstOrNone, Speaks, path_by}
use Rattle.ranked_policy.specs.Plans.{Plan, IsNetwork, IsRouter}
use Rattle.ranked_policy.specs.Policies.{Table, IsTable}
use Rattle.ranked_policy.proofs.ChoiceLemmas.{better_is_first, path_by_some, path_by_none}
use Rattle.ranked_policy.proofs.OneTable.{table_stands}
use Rattle.ranked_policy.proofs.WaysOn.{not_empty}
use Rattle.rib_tables.specs.Words.{nothing}
use Rattle.rib_tables.specs.declared.word.Word.{Word}
use Rattle.rib_tables.specs.declared.row.Peer.{Peer}
use Rattle.rib_tables.specs.declared.row.Row.{Row}
use Rattle.rib_tables.specs.Rows.{RowHears, IsRow, IsRowBest}
use Rattle.rib_tables.proofs.DecidingLemmas.{own_best, own_none, heard_best}
use Rattle.rib_tables.proofs.RowChoices.{row_silent, row_hears, nothing_heard}
use Rattle.rib_tables.proofs.row.best_way.Goals.{then-peer, else-peer}
use Rattle.rib_tables.proofs.row.best_way.Goals as goal

-- the first path over all peers, whose words are those of the row, is the best of the row
best_of_all : (router : ℕ) (peers : List Peer) (r : Row) (heard : List Word) (n : ℕ) (best path : List ℕ) → heard ≡ r.heard → n ≡ length peers → path_by router best ≡ path
    → ((table : Table) (q : PrefixView) → IsTable table → table.router ≡ router → Speaks r.policy table q → IsFirstOrNone (RowHears peers heard n) table q (path_by router best))
    → r.own ≡ false → (net : Plan) → IsNetwork net → IsRouter net.routers router → IsRow net router peers r → IsRowBest net router peers r path
best_of_all router peers r heard n best path words all same first other net is routers row =
    heard_best net router peers r is routers row other path (λ table of.
    subst (λ (p : List ℕ). IsFirstOrNone (RowHears peers r.heard (length peers)) table r.prefix p) same
    (subst (λ (m : ℕ). IsFirstOrNone (RowHears peers r.heard m) table r.prefix (path_by router best)) all
    (subst (λ (ws : List Word). IsFirstOrNone (RowHears peers ws n) table r.prefix (path_by router best)) words (first table r.prefix (table_stands net router table is of) of.0 (row.speaks table of)))))

pub returns-then-row-2 : goal.returns-then-row-2
returns-then-row-2 c = λ net is routers row. own_best net c.args.router c.args.peers.now c.args.row.now is routers row c.if-row.true c.if-row-2.true

pub returns-else-row-2 : goal.returns-else-row-2
returns-else-row-2 c = λ net is routers row. own_none net c.args.router c.args.peers.now c.args.row.now is routers row c.if-row.true c.if-row-2.false

pub loop-peer_at-init : goal.loop-peer_at-init
loop-peer_at-init c = λ table q is at speaks. nothing_heard c.args.peers.now c.as_slice-heard.result.now table q

pub loop-peer_at-preserved : goal.loop-peer_at-preserved
loop-peer_at-preserved c = λ table q is at speaks.
    let peers = c.args.peers.now in
    let heard = c.as_slice-heard.result.now in
    let n = c.loop-peer_at.peer_at in
    let x = get_or peers n (record { asn = 0; up = false }) in
    let here = slice_get-get_or peers n (record { asn = 0; up = false }) c.loop-peer_at-test.true in
    let size : length heard ≡ length peers = ap (λ (ws : List Word). length ws) c.as_slice-heard.ensures ∙ c.requires in
    let order = c.each_policy_is_an_order.ensures table is q in
    let before = c.loop-peer_at.invariant table q is at speaks in
    let Goal : List ℕ → Type 0 = λ b. IsFirstOrNone (RowHears peers heard (n + 1)) table q (path_by c.args.router b) in
    elim c.if-peer.branch [
      | then-peer w ↦
          let word = slice_get_read heard (length peers) n w.index-heard-peer_at.result (sym size) c.loop-peer_at-test.true w.index-heard-peer_at.is in
          subst Goal (sym (ap (λ b. b.now) w.best-is))
          (better_is_first c.args.row.now.policy table q order speaks (RowHears peers heard n) (RowHears peers heard (n + 1)) x.asn w.path.result.now
          (row_hears peers heard n x w.index-heard-peer_at.result here word w.if-peer.true w.path.result.now w.path.ensures) c.args.router at c.loop-peer_at.best.now w.better_onward-best.result.now w.better_onward-best.ensures before)
      | else-peer w ↦
          let word = slice_get-get_or heard n nothing (omega (arith, size, c.loop-peer_at-test.true)) in
          subst Goal (sym (ap (λ b. b.now) w.best-is))
          (row_silent peers heard n x (get_or heard n nothing) here word (λ up. both_ways x.up w.if-peer.false up) table q (path_by c.args.router c.loop-peer_at.best.now) before)
    ]

pub returns-then-is_empty : goal.returns-then-is_empty
returns-then-is_empty c =
    let best = c.loop-peer_at.best.now in
    let none : best ≡ [] = nil_from_length best (eqb-true (length best) 0 (sym c.is_empty.ensures ∙ c.if-is_empty.true)) in
    best_of_all c.args.router c.args.peers.now c.args.row.now c.as_slice-heard.result.now c.loop-peer_at.peer_at best [] c.as_slice-heard.ensures (omega (arith, c.loop-peer_at.auto.peer_at-end, c.loop-peer_at-test.false))
    (path_by_none c.args.router best none) c.loop-peer_at.invariant c.if-row.false

pub returns-else-is_empty : goal.returns-else-is_empty
returns-else-is_empty c =
    let best = c.loop-peer_at.best.now in
    best_of_all c.args.router c.args.peers.now c.args.row.now c.as_slice-heard.result.now c.loop-peer_at.peer_at best (c.args.router ∷ best) c.as_slice-heard.ensures (omega (arith, c.loop-peer_at.auto.peer_at-end, c.loop-peer_at-test.false))
    (path_by_some c.args.router best (not_empty best (sym c.is_empty.ensures ∙ c.if-is_empty.false))) c.loop-peer_at.invariant c.if-row.false
