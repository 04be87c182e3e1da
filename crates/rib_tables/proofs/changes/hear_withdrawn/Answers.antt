use Rattle.std.proofs.Common.{◌++◌, ◌∷◌, [], ℕ, List, take, map, sym, ap, ◌∙◌}
use Rattle.std.proofs.lemmas.List.{take_all, take_more}
use Rattle.prefix_lanes.specs.Bits.{PrefixView}
use Rattle.rib_tables.specs.declared.word.Word.TheVariants.{Sequence}
use Rattle.rib_tables.specs.Words.{nothing}
use Rattle.rib_tables.specs.Rows.{on, hearing, hearing_all}
use Rattle.rib_tables.proofs.ChangeLemmas.{fits_hearing, hears_one_more, hears_none}
use Rattle.rib_tables.proofs.StayingLemmas.{none_heard, both_heard}
use Rattle.rib_tables.proofs.changes.hear_withdrawn.Goals as goal

pub loop-prefix-init : goal.loop-prefix-init
loop-prefix-init c = record { rows = hears_none c.args.by.now.peer nothing c.args.rows.now.items; dirty = none_heard c.args.by.now.router c.args.rows.now.items c.args.dirty.now }

pub hear_one-requires : goal.hear_one-requires
hear_one-requires c =
    (c.requires.0, fits_hearing c.args.by.now.keys.now.keys c.requires.0 c.args.rows.now.items c.loop-prefix.rows.items (take c.loop-prefix.prefix-index c.as_slice-prefix-items.result.now) c.args.by.now.peer nothing c.requires.1 c.loop-prefix.invariant.rows, c.requires.2)

pub loop-prefix-preserved : goal.loop-prefix-preserved
loop-prefix-preserved c =
    let i = c.loop-prefix.prefix-index in
    let ps = c.as_slice-prefix-items.result.now in
    let q = c.prefix-item.result in
    let more = take_more ps i q c.loop-prefix-test.true ∙ ap (λ (p : PrefixView). take i ps ++ p ∷ []) (sym c.prefix-item.is) in
    record {
      rows =
          c.hear_one.ensures.rows
          ∙ ap (λ (p : List ℕ). map (on q (hearing c.args.by.now.peer (Sequence p))) c.loop-prefix.rows.items) c.new.ensures
          ∙ ap (map (on q (hearing c.args.by.now.peer nothing))) c.loop-prefix.invariant.rows
          ∙ hears_one_more c.args.by.now.peer nothing c.args.rows.now.items (take i ps) q
          ∙ ap (λ (qs : List PrefixView). map (hearing_all qs c.args.by.now.peer nothing) c.args.rows.now.items) (sym more);
      dirty = both_heard c.args.by.now.router c.args.rows.now.items c.loop-prefix.rows.items c.hear_one.new.rows.items c.args.dirty.now c.loop-prefix.dirty c.hear_one.new.dirty c.loop-prefix.invariant.dirty c.hear_one.ensures.dirty;
    }

pub returns-clause-rows : goal.returns-clause-rows
returns-clause-rows c =
    c.loop-prefix.invariant.rows ∙ ap (λ (qs : List PrefixView). map (hearing_all qs c.args.by.now.peer nothing) c.args.rows.now.items) (take_all c.loop-prefix.prefix-index c.as_slice-prefix-items.result.now c.loop-prefix-test.false ∙ c.as_slice-prefix-items.ensures)
