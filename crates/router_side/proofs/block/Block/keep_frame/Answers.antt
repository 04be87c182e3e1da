use Rattle.std.proofs.Common.{◌++◌, ◌∷◌, ◌∙◌, ℕ, List, [], length, sym, ap, subst}
use Rattle.std.specs.Prelude.{is_ok, if◌then◌else◌}
use Rattle.bgp_codec.specs.Header.{IsFrame}
use Rattle.bgp_codec.specs.Faults.{reading}
use Rattle.router_side.specs.declared.block.Stored.{Stored}
use Rattle.router_side.specs.Histories.{history, told_stored, IsStored, AreStored}
use Rattle.router_side.specs.Sayings.{nobody}
use Rattle.router_side.proofs.Kept.{stored_on, one_stored, history_stored}
use Rattle.router_side.proofs.block.Block.keep_frame.Goals as goal

-- what is stored of it stands behind what is stored of the others
pub returns-clause-kept : goal.returns-clause-kept
returns-clause-kept c =
    let ps = c.args.self.now.places.items in
    let os = c.args.self.now.octets.items in
    let new = c.shortened-short.result.1.now in
    let p : Stored = record { epoch = c.args.epoch; len = length c.args.frame.now; short = c.shortened-short.result.0 } in
    let grown = c.extend_from_slice.ensures.items ∙ ap (λ r. if is_ok r then os ++ new else os) c.unwrap.ensures in
    let spells = c.shortened-short.ensures.spells in
    let one : IsStored p new = (subst IsFrame (sym spells) c.requires.frame, sym (ap length spells)) in
    let all = stored_on ps os new p c.requires.kept (one_stored p new one) in
    subst (λ (xs : List Stored). AreStored xs c.extend_from_slice.new.self.items) (sym c.push_reserved.ensures.items)
    (subst (λ (xs : List ℕ). AreStored (ps ++ p ∷ []) xs) (sym grown) all)

pub returns-clause-told : goal.returns-clause-told
returns-clause-told c = λ width u read.
    let ps = c.args.self.now.places.items in
    let os = c.args.self.now.octets.items in
    let new = c.shortened-short.result.1.now in
    let p : Stored = record { epoch = c.args.epoch; len = length c.args.frame.now; short = c.shortened-short.result.0 } in
    let grown = c.extend_from_slice.ensures.items ∙ ap (λ r. if is_ok r then os ++ new else os) c.unwrap.ensures in
    let spells = c.shortened-short.ensures.spells in
    let one : IsStored p new = (subst IsFrame (sym spells) c.requires.frame, sym (ap length spells)) in
    ap history (ap (λ (xs : List Stored). told_stored width xs c.extend_from_slice.new.self.items) c.push_reserved.ensures.items
    ∙ ap (λ (xs : List ℕ). told_stored width (ps ++ p ∷ []) xs) grown)
    ∙ history_stored width ps os new p u c.requires.kept one (ap (reading (nobody width)) spells ∙ read)
