use Rattle.std.proofs.Common.{◌≡◌, ◌++◌, ◌∷◌, [], List, take, map, length, sym, ap, ◌∙◌, arith}
use Rattle.std.specs.Option.{option_to_list}
use Rattle.std.proofs.lemmas.List.{take_all, take_more, length-append}
use Rattle.prefix_lanes.specs.Bits.{PrefixView}
use Rattle.rib_tables.specs.declared.word.Word.{Word}
use Rattle.rib_tables.specs.Words.{announced_word}
use Rattle.rib_tables.specs.Rows.{on, hearing, hearing_all}
use Rattle.rib_tables.proofs.ChangeLemmas.{fits_hearing, hears_one_more, hears_none, last_of, front_of}
use Rattle.rib_tables.proofs.StayingLemmas.{none_heard, both_heard}
use Rattle.rib_tables.proofs.changes.hear_announced.Goals as goal

pub loop-prefix-init : goal.loop-prefix-init
loop-prefix-init c = record {
  rows = hears_none c.args.by.now.peer (announced_word c.args.update.now.attrs) c.args.rows.now.items;
  dirty = none_heard c.args.by.now.router c.args.rows.now.items c.args.dirty.now;
  len = omega (arith, c.requires.len, ap (λ (ps : List PrefixView). length ps) c.as_slice-prefix-items.ensures);
  same = c.requires.same;
}

pub hear_one-requires : goal.hear_one-requires
hear_one-requires c = (
  c.requires.fit.0,
  fits_hearing c.args.by.now.keys.now.keys c.requires.fit.0 c.args.rows.now.items c.loop-prefix.rows.items (take c.loop-prefix.prefix-index c.as_slice-prefix-items.result.now) c.args.by.now.peer (announced_word c.args.update.now.attrs) c.requires.fit.1 c.loop-prefix.invariant.rows,
  c.requires.fit.2,
)

pub loop-prefix-preserved : goal.loop-prefix-preserved
loop-prefix-preserved c =
    let i = c.loop-prefix.prefix-index in
    let ps = c.as_slice-prefix-items.result.now in
    let q = c.prefix-item.result in
    let a = announced_word c.args.update.now.attrs in
    let more = take_more ps i q c.loop-prefix-test.true ∙ ap (λ (p : PrefixView). take i ps ++ p ∷ []) (sym c.prefix-item.is) in
    let w = c.unwrap-word.result in
    let popped : c.loop-prefix.words.items ≡ c.pop.new.self.items ++ w ∷ [] = c.pop.ensures.items ∙ ap (λ o. c.pop.new.self.items ++ option_to_list o) c.unwrap-word.ensures in
    let word : w ≡ a = last_of a c.loop-prefix.words.items c.pop.new.self.items w popped c.loop-prefix.invariant.same in
    record {
      rows =
          c.hear_one.ensures.rows
          ∙ ap (λ (x : Word). map (on q (hearing c.args.by.now.peer x)) c.loop-prefix.rows.items) word
          ∙ ap (map (on q (hearing c.args.by.now.peer a))) c.loop-prefix.invariant.rows
          ∙ hears_one_more c.args.by.now.peer a c.args.rows.now.items (take i ps) q
          ∙ ap (λ (qs : List PrefixView). map (hearing_all qs c.args.by.now.peer a) c.args.rows.now.items) (sym more);
      dirty = both_heard c.args.by.now.router c.args.rows.now.items c.loop-prefix.rows.items c.hear_one.new.rows.items c.args.dirty.now c.loop-prefix.dirty c.hear_one.new.dirty c.loop-prefix.invariant.dirty c.hear_one.ensures.dirty;
      len = let l = ap (λ (ws : List Word). length ws) popped ∙ length-append c.pop.new.self.items (w ∷ []) in let m = c.loop-prefix.invariant.len in omega (arith, l, m);
      same = front_of a c.loop-prefix.words.items c.pop.new.self.items w popped c.loop-prefix.invariant.same;
    }

pub returns-clause-rows : goal.returns-clause-rows
returns-clause-rows c =
    c.loop-prefix.invariant.rows
    ∙ ap (λ (qs : List PrefixView). map (hearing_all qs c.args.by.now.peer (announced_word c.args.update.now.attrs)) c.args.rows.now.items) (take_all c.loop-prefix.prefix-index c.as_slice-prefix-items.result.now c.loop-prefix-test.false ∙ c.as_slice-prefix-items.ensures)
