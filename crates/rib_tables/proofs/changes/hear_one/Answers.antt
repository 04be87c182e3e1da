use Rattle.std.proofs.Common.{◌≡◌, ◌∙◌, ℕ, List, false, get_or, set, sym, subst, ap}
use Rattle.std.specs.Prelude.{Some}
use Rattle.std.specs.List.{slice_get}
use Rattle.std.proofs.lemmas.Option.{get_or_from_slice_get}
use Rattle.rib_tables.specs.Places.{has}
use Rattle.rib_tables.specs.declared.row.Row.{Row}
use Rattle.rib_tables.specs.declared.word.Word.{Word}
use Rattle.rib_tables.specs.Rows.{BestStays, StaysDecided, hearing}
use Rattle.rib_tables.proofs.ChangeLemmas.{row_at, set_at_key, same_rows}
use Rattle.rib_tables.proofs.StayingLemmas.{row_stays, none_heard}
use Rattle.rib_tables.proofs.changes.hear_one.Goals as goal

-- the row that was read is the one at the place
row_is : (rows : List Row) (i : ℕ) (r x : Row) → slice_get rows i ≡ Some r → x ≡ get_or rows i x → x ≡ r
row_is rows i r x at is = is ∙ get_or_from_slice_get rows i r x at

-- the word stands in it
heard_at : (rows : List Row) (i : ℕ) (r x : Row) → x ≡ r → (k : ℕ) (w : Word) (words : List Word) → words ≡ set x.heard k w → set rows i (record x { heard = words }) ≡ set rows i (hearing k w r)
heard_at rows i r x is k w words heard = ap (λ (ws : List Word). set rows i (record x { heard = ws })) heard ∙ ap (λ (y : Row). set rows i (hearing k w y)) is

pub returns-in-Some-clause-rows : goal.returns-in-Some-clause-rows
returns-in-Some-clause-rows c =
    let keys = c.args.by.now.keys.now.keys in
    let rows = c.args.rows.now.items in
    let fit = c.requires.1 in
    let at = c.in-Some.ensures in
    let here = row_at keys rows fit.listed c.in-Some.prefix_at c.args.prefix.now at in
    let row = row_is rows c.in-Some.prefix_at here.0 c.index_mut-row.result.now here.1 c.index_mut-row.ensures.value in
    heard_at rows c.in-Some.prefix_at here.0 c.index_mut-row.result.now row c.args.by.now.peer c.args.word c.set.new.self c.set.ensures
    ∙ set_at_key keys c.requires.0 rows fit c.args.prefix.now c.in-Some.prefix_at at (hearing c.args.by.now.peer c.args.word) here.0 here.1

pub returns-in-Some-clause-dirty : goal.returns-in-Some-clause-dirty
returns-in-Some-clause-dirty c =
    let rows = c.args.rows.now.items in
    let here = row_at c.args.by.now.keys.now.keys rows c.requires.1.listed c.in-Some.prefix_at c.args.prefix.now c.in-Some.ensures in
    let row = row_is rows c.in-Some.prefix_at here.0 c.index_mut-row.result.now here.1 c.index_mut-row.ensures.value in
    subst (λ (rs : List Row). StaysDecided c.args.by.now.router rows rs c.args.dirty.now c.mark_heard.new.dirty) (sym (heard_at rows c.in-Some.prefix_at here.0 c.index_mut-row.result.now row c.args.by.now.peer c.args.word c.set.new.self c.set.ensures))
    (row_stays c.args.by.now.router rows c.in-Some.prefix_at here.0 here.1 c.args.by.now.peer c.args.word c.args.dirty.now c.mark_heard.new.dirty c.mark_heard.ensures.others
    (subst (λ (r : Row). has c.mark_heard.new.dirty c.in-Some.prefix_at ≡ false → (has c.args.dirty.now c.in-Some.prefix_at ≡ false) × BestStays c.args.by.now.router r c.args.by.now.peer c.args.word) row c.mark_heard.ensures.here))

pub returns-in_default-clause-rows : goal.returns-in_default-clause-rows
returns-in_default-clause-rows c = same_rows c.args.by.now.keys.now.keys c.requires.0 c.args.rows.now.items c.requires.1 c.args.prefix.now c.in_default.ensures (hearing c.args.by.now.peer c.args.word)

pub returns-in_default-clause-dirty : goal.returns-in_default-clause-dirty
returns-in_default-clause-dirty c = none_heard c.args.by.now.router c.args.rows.now.items c.args.dirty.now
