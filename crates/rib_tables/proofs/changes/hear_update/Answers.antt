use Rattle.std.proofs.Common.{◌≡◌, ◌∷◌, [], List, map, refl, sym, ap, arith, ◌∙◌}
use Rattle.std.proofs.lemmas.Grind.{common_steps}
use Rattle.prefix_lanes.specs.Bits.{PrefixView}
use Rattle.rib_tables.specs.declared.word.Word.{Word}
use Rattle.rib_tables.specs.Words.{nothing, announced_word}
use Rattle.rib_tables.specs.Rows.{on, hearing, hearing_all, hearing_update}
use Rattle.rib_tables.proofs.ChangeLemmas.{fits_hearing, map_after, hears_single}
use Rattle.rib_tables.proofs.StayingLemmas.{both_heard}
use Rattle.rib_tables.proofs.changes.hear_update.Goals as goal

pub hear_one-requires : goal.hear_one-requires
hear_one-requires c =
    (c.requires.0, fits_hearing c.args.by.now.keys.now.keys c.requires.0 c.args.rows.now.items c.hear_withdrawn.new.rows.items c.args.update.now.withdrawn c.args.by.now.peer nothing c.requires.1 c.hear_withdrawn.ensures.rows, c.requires.2)

pub hear_announced-requires-clause-fit : goal.hear_announced-requires-clause-fit
hear_announced-requires-clause-fit c = (
  c.requires.0,
  fits_hearing c.args.by.now.keys.now.keys c.requires.0 c.args.rows.now.items c.hear_withdrawn-in_default.new.rows.items c.args.update.now.withdrawn c.args.by.now.peer nothing c.requires.1 c.hear_withdrawn-in_default.ensures.rows,
  c.requires.2,
)

pub returns-in_ok-word-clause-rows : goal.returns-in_ok-word-clause-rows
returns-in_ok-word-clause-rows c =
    let u = c.args.update.now in
    let k = c.args.by.now.peer in
    let q = c.prefix-item.result in
    let a = announced_word u.attrs in
    let mid = c.hear_withdrawn.new.rows.items in
    let only : u.nlri ≡ q ∷ [] = grind (arith, common_steps) in
    c.hear_one.ensures.rows ∙ ap (λ (w : Word). map (on q (hearing k w)) mid) c.in_ok-word.ensures ∙ hears_single k a mid q ∙ ap (λ (ps : List PrefixView). map (hearing_all ps k a) mid) (sym only)
    ∙ ap (map (hearing_all u.nlri k a)) c.hear_withdrawn.ensures.rows ∙ map_after (hearing_all u.withdrawn k nothing) (hearing_all u.nlri k a) (hearing_update k u) (λ r. refl) c.args.rows.now.items

pub returns-in_ok-word-clause-dirty : goal.returns-in_ok-word-clause-dirty
returns-in_ok-word-clause-dirty c =
    both_heard c.args.by.now.router c.args.rows.now.items c.hear_withdrawn.new.rows.items c.hear_one.new.rows.items c.args.dirty.now c.hear_withdrawn.new.dirty c.hear_one.new.dirty c.hear_withdrawn.ensures.dirty c.hear_one.ensures.dirty

pub returns-in_ok-words-clause-rows : goal.returns-in_ok-words-clause-rows
returns-in_ok-words-clause-rows c =
    let u = c.args.update.now in
    let k = c.args.by.now.peer in
    let a = announced_word u.attrs in
    c.hear_announced.ensures.rows
    ∙ ap (map (hearing_all u.nlri k a)) c.hear_withdrawn-in_default.ensures.rows ∙ map_after (hearing_all u.withdrawn k nothing) (hearing_all u.nlri k a) (hearing_update k u) (λ r. refl) c.args.rows.now.items

pub returns-in_ok-words-clause-dirty : goal.returns-in_ok-words-clause-dirty
returns-in_ok-words-clause-dirty c =
    both_heard c.args.by.now.router c.args.rows.now.items c.hear_withdrawn-in_default.new.rows.items c.hear_announced.new.rows.items c.args.dirty.now c.hear_withdrawn-in_default.new.dirty c.hear_announced.new.dirty c.hear_withdrawn-in_default.ensures.dirty
    c.hear_announced.ensures.dirty
