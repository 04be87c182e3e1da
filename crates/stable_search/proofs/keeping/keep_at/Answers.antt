use Rattle.stable_search.proofs.KeepLemmas.{seen_there}
use Rattle.stable_search.proofs.keeping.keep_at.Goals as goal

pub returns-clause-narrows : goal.returns-clause-narrows
returns-clause-narrows c = λ ways covered. c.keep_only.ensures.narrows ways (seen_there ways c.args.sets.now c.args.place c.args.k c.seen_at.result c.args.picks.now c.seen_at.ensures covered)
