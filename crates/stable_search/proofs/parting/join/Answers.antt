use Rattle.std.proofs.Common.{refl, get_or, arith}
use Rattle.stable_search.proofs.PartLemmas.{joins_up, joins_down, joins_free}
use Rattle.stable_search.proofs.parting.join.Goals as goal

pub returns-then-is_free : goal.returns-then-is_free
returns-then-is_free c = joins_free c.args.sets.now c.args.way.now c.args.labels.now (c.is_free.ensures c.if-is_free.true)

pub returns-then-mine-theirs : goal.returns-then-mine-theirs
returns-then-mine-theirs c =
    let way = c.args.way.now in
    let labels = c.args.labels.now in
    joins_up c.args.sets.now way labels c.merge.new.labels (get_or labels way.from 0) (get_or labels way.to 0) c.if-mine-theirs.true c.merge.auto.labels c.merge.ensures way.from way.to (omega (arith, c.requires.within.from, c.requires.size))
    (omega (arith, c.requires.within.to, c.requires.size)) refl refl refl refl

pub returns-else-mine-theirs : goal.returns-else-mine-theirs
returns-else-mine-theirs c =
    let way = c.args.way.now in
    let labels = c.args.labels.now in
    joins_down c.args.sets.now way labels c.merge-else-mine-theirs.new.labels (get_or labels way.to 0) (get_or labels way.from 0) (omega (arith, c.if-mine-theirs.false)) c.merge-else-mine-theirs.auto.labels
    c.merge-else-mine-theirs.ensures way.to way.from (omega (arith, c.requires.within.to, c.requires.size)) (omega (arith, c.requires.within.from, c.requires.size)) refl refl refl refl
