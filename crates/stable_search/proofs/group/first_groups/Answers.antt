use Rattle.std.proofs.Common.{sym, subst}
use Rattle.std.specs.List.{All}
use Rattle.std.proofs.lemmas.Result.{err_from_is_err_and}
use Rattle.stable_search.specs.Groups.{IsGroup, AreGroups}
use Rattle.stable_search.proofs.group.first_groups.Goals as goal

pub keep_picked-requires : goal.keep_picked-requires
keep_picked-requires c = subst (All (IsGroup c.args.sets.now)) (sym c.as_slice.ensures.value) c.in-Ok.ensures.0.each

pub returns-then-have_several-clause-narrows : goal.returns-then-have_several-clause-narrows
returns-then-have_several-clause-narrows c =
    let ways = c.args.ways.now in
    let kept = c.keep_picked.ensures.narrows ways (subst (AreGroups ways c.args.sets.now) (sym c.as_slice.ensures.value) c.in-Ok.ensures.0) in
    kept

pub returns-else-have_several-clause-narrows : goal.returns-else-have_several-clause-narrows
returns-else-have_several-clause-narrows c =
    let ways = c.args.ways.now in
    let kept = c.keep_picked.ensures.narrows ways (subst (AreGroups ways c.args.sets.now) (sym c.as_slice.ensures.value) c.in-Ok.ensures.0) in
    kept

pub returns-else-have_several-clause-found : goal.returns-else-have_several-clause-found
returns-else-have_several-clause-found c = c.in-Ok.ensures

pub returns-in_err-keep_possible-in-Err-TooManyChoices-clause-refused : goal.returns-in_err-keep_possible-in-Err-TooManyChoices-clause-refused
returns-in_err-keep_possible-in-Err-TooManyChoices-clause-refused c =
    let p = err_from_is_err_and c.from_residual.result c.from_residual.ensures.1 in
    rw (p.1, p.2)
    c.in_err-keep_possible-in-Err-TooManyChoices.ensures.refused
