use Rattle.std.proofs.Common.{◌≡◌, ℕ, List, [], Some, length, get_or, subst, sym, ap, ◌∙◌, arith, inl, inr, rules}
use Rattle.std.specs.List.{slice_get}
use Rattle.std.proofs.lemmas.Bool.{cases_order}
use Rattle.std.proofs.lemmas.Option.{slice_get_within, slice_get-get_or, same_Some}
use Rattle.rib_tables.specs.declared.place_set.PlaceSet.{PlaceSet}
use Rattle.rib_tables.specs.Places.{has}
use Rattle.rib_tables.specs.Owners.{HasWaitingPeer, AllServed}
use Rattle.rib_tables.proofs.ChangeLemmas.{within}
use Rattle.rib_tables.proofs.AskingLemmas.{is_awaited_there, all_served}
use Rattle.rib_tables.proofs.rib.Rib.has_waiting_peer.Goals as goal

pub loop-waiting-preserved : goal.loop-waiting-preserved
loop-waiting-preserved c = λ k w lt at i below.
    let s = c.self.inside in
    let n = c.loop-waiting.waiting-index in
    let items = c.as_slice-waiting-items.result.now in
    let none : PlaceSet = record { words = [] } in
    elim (cases_order k n) [
      | inl same ↦
          let is : w ≡ get_or items n none = same_Some w (get_or items n none) (sym at ∙ ap (λ (j : ℕ). slice_get items j) same ∙ slice_get-get_or items n none c.loop-waiting-test.true) in
          let len : length s.rows.items ≡ s.rows.len = search rules in
          let many = c.len.ensures in
          ap (λ (x : PlaceSet). has x i) is ∙ c.has_below.ensures.none c.if-has_below.false i (omega (arith, below, len, many))
      | inr differ ↦ elim differ [
        | inl less ↦ c.loop-waiting.invariant k w less at i below
        | inr more ↦ absurd (omega (arith, more, lt))
      ]
    ]

pub returns-then-has_below-clause-some : goal.returns-then-has_below-clause-some
returns-then-has_below-clause-some c = λ yes.
    let s = c.self.inside in
    let n = c.loop-waiting.waiting-index in
    let items = c.as_slice-waiting-items.result.now in
    let none : PlaceSet = record { words = [] } in
    let waits = c.as_slice-waiting-items.ensures.value in
    let here : slice_get s.waits.items n ≡ Some (get_or items n none) = ap (λ (ws : List PlaceSet). slice_get ws n) (sym waits) ∙ slice_get-get_or items n none c.loop-waiting-test.true in
    let lt = slice_get_within s.waits.items n (get_or items n none) here in
    let long = c.self.invariant.told.long in
    let peer = within s.peers.items n (omega (arith, lt, long)) in
    let found = c.has_below.ensures.some c.if-has_below.true in
    let len : length s.rows.items ≡ s.rows.len = search rules in
    let many = c.len.ensures in
    let below = found.1 in
    let row = within s.rows.items found.0 (omega (arith, below, len, many)) in
    subst HasWaitingPeer c.self.view_is
    (is_awaited_there s.network.now s.router s.peers.items s.keys.keys s.rows.items s.dirty s.waits.items c.self.invariant n peer.0 (get_or items n none) peer.1 here found.0 row.0 row.1 found.2)

pub returns-clause-none : goal.returns-clause-none
returns-clause-none c = λ no.
    let s = c.self.inside in
    let waits = c.as_slice-waiting-items.ensures.value in
    subst AllServed c.self.view_is
    (all_served s.network.now s.router s.peers.items s.keys.keys s.rows.items s.dirty s.waits.items c.self.invariant (λ k w at i below.
    let lt = slice_get_within s.waits.items k w at in
    let done = c.loop-waiting-test.false in
    let size = ap (λ (ws : List PlaceSet). length ws) waits in
    c.loop-waiting.invariant k w (omega (arith, lt, done, size)) (ap (λ (ws : List PlaceSet). slice_get ws k) waits ∙ at) i below))
