use Rattle.std.proofs.Common.{◌∙◌, List, ap, sym}
use Rattle.router_model.specs.Sides.{with_update}
use Rattle.router_side.specs.declared.history.PastUpdate.{PastUpdate}
use Rattle.router_side.specs.Histories.{history, told_stored, told_by_blocks, told_with, places_of, spelt_in}
use Rattle.router_side.proofs.Kept.{told_behind, grown_behind}
use Rattle.router_side.proofs.history.History.keep_path.Goals as goal

pub invariant_of-self : goal.invariant_of-self
invariant_of-self c = (c.self.invariant.0, c.keep_path.ensures.kept)

-- it is told behind what the full blocks tell
pub returns-clause-told : goal.returns-clause-told
returns-clause-told c =
    let width = c.args.width in
    let u = c.args.told.now in
    let bs = c.self.inside.full.items in
    let old = c.self.inside.last in
    let new = c.keep_path.new.self in
    ap history (told_behind width bs (places_of new.places.items) (spelt_in new.places.items new.octets.items) c.self.invariant.0)
    ∙ grown_behind (told_by_blocks width bs) (told_stored width old.places.items old.octets.items) (told_stored width new.places.items new.octets.items) c.args.epoch u c.keep_path.ensures.told
    ∙ ap (λ (ts : List PastUpdate). with_update (history ts) c.args.epoch u) (sym (told_behind width bs (places_of old.places.items) (spelt_in old.places.items old.octets.items) c.self.invariant.0))
    ∙ ap (λ v. with_update (history (told_with width v)) c.args.epoch u) c.self.view_is
