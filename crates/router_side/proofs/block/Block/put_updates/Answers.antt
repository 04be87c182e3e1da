use Rattle.std.proofs.Common.{◌≡◌, ◌++◌, ◌∷◌, ◌+◌, ◌∙◌, ℕ, List, [], false, take, drop, get_or, append_assoc, sym, ap, subst}
use Rattle.std.proofs.lemmas.List.{append-nil, drop_more, drop_all}
use Rattle.bgp_codec.specs.Faults.{reading}
use Rattle.router_side.specs.declared.block.Stored.{Stored}
use Rattle.router_side.specs.declared.history.PastUpdate.{PastUpdate}
use Rattle.router_side.specs.Histories.{updates_read, dated, told_stored, spelt, stored_len, IsStored, AreStored}
use Rattle.router_side.specs.Sayings.{nobody}
use Rattle.router_side.proofs.Kept.{told_at, first_told}
use Rattle.router_side.proofs.block.Block.put_updates.Goals as goal

pub loop-place-init : goal.loop-place-init
loop-place-init c =
    let ps = c.as_slice-place-items.ensures.value in
    let os = c.as_slice-rest.ensures.value in
    let octets = c.as_slice-rest.result.now in
    record {
      kept = subst (λ (xs : List Stored). AreStored xs octets) (sym ps) (subst (AreStored c.args.self.now.places.items) (sym os) c.requires);
      all =
          ap (λ (xs : List Stored). c.args.all.now.items ++ told_stored c.args.width xs octets) ps
          ∙ ap (λ (xs : List ℕ). c.args.all.now.items ++ told_stored c.args.width c.args.self.now.places.items xs) os;
    }

-- each place has its octets
pub stored_len-requires : goal.stored_len-requires
stored_len-requires c =
    let os = c.loop-place.rest.now in
    let all =
    subst (λ (xs : List Stored). AreStored xs os)
    (drop_more c.as_slice-place-items.result.now c.loop-place.place-index (record { epoch = 0; len = 0; short = false }) c.loop-place-test.true) c.loop-place.invariant.kept in
    (take (stored_len (get_or c.as_slice-place-items.result.now c.loop-place.place-index (record { epoch = 0; len = 0; short = false }))) os, all.1)

pub split_at-requires : goal.split_at-requires
split_at-requires c =
    let all =
    subst (λ (xs : List Stored). AreStored xs c.loop-place.rest.now)
    (drop_more c.as_slice-place-items.result.now c.loop-place.place-index (record { epoch = 0; len = 0; short = false }) c.loop-place-test.true) c.loop-place.invariant.kept in
    rw c.stored_len.ensures all.0

pub read_stored-requires : goal.read_stored-requires
read_stored-requires c =
    let xs = c.as_slice-place-items.result.now in
    let none : Stored = record { epoch = 0; len = 0; short = false } in
    let p : Stored = get_or xs c.loop-place.place-index none in
    let all =
    subst (λ (xs : List Stored). AreStored xs c.loop-place.rest.now) (drop_more xs c.loop-place.place-index none c.loop-place-test.true) c.loop-place.invariant.kept in
    subst (IsStored p) (sym (c.split_at.ensures.front ∙ ap (λ (n : ℕ). take n c.loop-place.rest.now) c.stored_len.ensures)) all.1

pub loop-place-preserved : goal.loop-place-preserved
loop-place-preserved c =
    let xs = c.as_slice-place-items.result.now in
    let i = c.loop-place.place-index in
    let octets = c.loop-place.rest.now in
    let none : Stored = record { epoch = 0; len = 0; short = false } in
    let p : Stored = get_or xs i none in
    let step = drop_more xs i none c.loop-place-test.true in
    let kept = subst (λ (ys : List Stored). AreStored ys octets) step c.loop-place.invariant.kept in
    let rest = drop (i + 1) xs in
    let one = c.in_ok-read_stored.field-0 in
    let front = c.split_at.ensures.front ∙ ap (λ (n : ℕ). take n octets) c.stored_len.ensures in
    let back = c.split_at.ensures.back ∙ ap (λ (n : ℕ). drop n octets) c.stored_len.ensures in
    let told =
    told_at c.args.width (spelt p c.split_at.result.0.now) one p.epoch c.in_ok-read_stored.ensures.epoch c.in_ok-read_stored.ensures.update in
    let first : (one ∷ []) ++ told_stored c.args.width rest (drop (stored_len p) octets) ≡ told_stored c.args.width (drop i xs) octets =
    ap (λ (ts : List PastUpdate). ts ++ told_stored c.args.width rest (drop (stored_len p) octets)) (sym told)
    ∙ ap (λ (os : List ℕ). dated p.epoch (updates_read (reading (nobody c.args.width) (spelt p os))) ++ told_stored c.args.width rest (drop (stored_len p) octets)) front
    ∙ sym (first_told c.args.width p rest octets kept)
    ∙ ap (λ (ys : List Stored). told_stored c.args.width ys octets) (sym step) in
    record {
      kept = subst (AreStored rest) (sym back) kept.2;
      all =
          ap (λ (ts : List PastUpdate). ts ++ told_stored c.args.width rest c.split_at.result.1.now) c.in_ok-push.ensures.items
          ∙ append_assoc c.loop-place.all.items (one ∷ []) (told_stored c.args.width rest c.split_at.result.1.now)
          ∙ ap (λ (os : List ℕ). c.loop-place.all.items ++ ((one ∷ []) ++ told_stored c.args.width rest os)) back
          ∙ ap (λ (ts : List PastUpdate). c.loop-place.all.items ++ ts) first
          ∙ c.loop-place.invariant.all;
    }

pub returns : goal.returns
returns c =
    let xs = c.as_slice-place-items.result.now in
    let none = drop_all c.loop-place.place-index xs c.loop-place-test.false in
    sym (append-nil c.loop-place.all.items)
    ∙ ap (λ (ys : List Stored). c.loop-place.all.items ++ told_stored c.args.width ys c.loop-place.rest.now) (sym none)
    ∙ c.loop-place.invariant.all
