use Rattle.stable_search.proofs.KeepLemmas.{kept_by, some_left}
use Rattle.stable_search.proofs.keeping.keep_only.Goals as goal

pub returns-clause-narrows : goal.returns-clause-narrows
returns-clause-narrows c = λ ways has. kept_by ways c.args.sets.now c.args.place c.args.values c.requires has

pub returns-clause-some : goal.returns-clause-some
returns-clause-some c = some_left c.args.sets.now c.args.place _ c.requires (c.has_some.ensures c.if-not-has_some.false)
