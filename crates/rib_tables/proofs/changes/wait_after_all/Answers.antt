use Rattle.std.proofs.Common.{◌≡◌, ◌≢◌, ℕ, false, slice_set, get_or, sym, subst, ap, ◌∙◌, arith, inl, inr}
use Rattle.std.specs.List.{slice_get}
use Rattle.std.proofs.lemmas.Bool.{cases_order}
use Rattle.std.proofs.lemmas.List.{length-set}
use Rattle.std.proofs.lemmas.Option.{slice_get_within, slice_get-get_or, same_Some}
use Rattle.rib_tables.specs.declared.place_set.PlaceSet.{PlaceSet}
use Rattle.rib_tables.specs.declared.row.Peer.{Peer}
use Rattle.rib_tables.specs.Rows.{IsWaiting}
use Rattle.rib_tables.proofs.RibLemmas.{set_here, set_there}
use Rattle.rib_tables.proofs.changes.wait_after_all.Goals as goal

pub loop-peer_at-preserved : goal.loop-peer_at-preserved
loop-peer_at-preserved c =
    let n = c.loop-peer_at.peer_at in
    let waits = c.loop-peer_at.waits.items in
    let long = c.loop-peer_at.invariant.len in
    let lt = c.loop-peer_at-test.true in
    record {
      len = length-set waits n c.waiting_now.result ∙ long;
      passed = λ k p waiting under at there. elim (cases_order k n) [
        | inl same ↦
            let x : Peer = get_or c.args.peers.now n (record { asn = 0; up = false }) in
            let peer : p ≡ x = same_Some p x (sym at ∙ ap (λ (j : ℕ). slice_get c.args.peers.now j) same ∙ slice_get-get_or c.args.peers.now n (record { asn = 0; up = false }) lt) in
            let set : waiting ≡ c.waiting_now.result =
            same_Some waiting c.waiting_now.result (sym there ∙ ap (λ (j : ℕ). slice_get (slice_set waits n c.waiting_now.result) j) same ∙ set_here waits n c.waiting_now.result (omega (arith, lt, long))) in
            subst (λ (j : ℕ). IsWaiting j p c.args.rows.now waiting) (sym same)
            (subst (λ (y : Peer). IsWaiting n y c.args.rows.now waiting) (sym peer) (subst (λ (w : PlaceSet). IsWaiting n x c.args.rows.now w) (sym set) c.waiting_now.ensures))
        | inr differ ↦
            let apart : k ≢ n = λ e. elim differ [ inl l ↦ omega (arith, l, e) | inr m ↦ omega (arith, m, e) ] in
            c.loop-peer_at.invariant.passed k p waiting (elim differ [ inl l ↦ l | inr m ↦ absurd (omega (arith, m, under)) ]) at (sym (set_there waits n k c.waiting_now.result apart) ∙ there)
      ];
    }

pub returns : goal.returns
returns c = record {
  long = c.loop-peer_at.invariant.len;
  each = λ k p waiting at there.
      let lt = slice_get_within c.args.peers.now k p at in
      let done = c.loop-peer_at-test.false in
      c.loop-peer_at.invariant.passed k p waiting (omega (arith, lt, done)) at there;
}
