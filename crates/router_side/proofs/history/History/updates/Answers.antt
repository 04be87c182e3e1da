use Rattle.std.proofs.Common.{◌≡◌, ◌++◌, ◌∙◌, List, sym, ap, subst}
use Rattle.std.proofs.lemmas.List.{append-nil, drop_all}
use Rattle.router_side.specs.declared.block.Block.{Block}
use Rattle.router_side.specs.declared.history.PastUpdate.{PastUpdate}
use Rattle.router_side.specs.Histories.{told_stored, told_by_blocks, told_with, places_of, spelt_in, AreAllStored}
use Rattle.router_side.proofs.Kept.{told_behind}
use Rattle.router_side.proofs.history.History.updates.Goals as goal

pub loop-block-init : goal.loop-block-init
loop-block-init c =
    record {
      kept = subst AreAllStored (sym c.as_slice-block-items.ensures.value) c.self.invariant.0;
      all = ap (λ (ts : List PastUpdate). ts ++ told_by_blocks c.args.width c.as_slice-block-items.result.now) c.new-all.ensures.items;
    }

pub returns : goal.returns
returns c =
    let width = c.args.width in
    let bs = c.as_slice-block-items.result.now in
    let last = c.self.inside.last in
    let all = c.loop-block.all.items in
    let none = drop_all c.loop-block.block-index bs c.loop-block-test.false in
    let full : all ≡ told_by_blocks width bs = sym (append-nil all) ∙ ap (λ (xs : List Block). all ++ told_by_blocks width xs) (sym none) ∙ c.loop-block.invariant.all in
    c.in_ok-put_updates-2.ensures
    ∙ ap (λ (ts : List PastUpdate). ts ++ told_stored width last.places.items last.octets.items) (full ∙ ap (told_by_blocks width) c.as_slice-block-items.ensures.value)
    ∙ sym (told_behind width c.self.inside.full.items (places_of last.places.items) (spelt_in last.places.items last.octets.items) c.self.invariant.0)
    ∙ ap (λ v. told_with width v) c.self.view_is
