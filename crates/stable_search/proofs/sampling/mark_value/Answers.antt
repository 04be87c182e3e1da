use Rattle.std.proofs.Common.{◌*◌, ◌%◌, ◌^◌}
use Rattle.stable_search.proofs.SampleLemmas.{marks_on, marked_on}
use Rattle.stable_search.proofs.sampling.mark_value.Goals as goal

pub returns-clause-more : goal.returns-clause-more
returns-clause-more c = marks_on c.args.seen.now c.args.place (1 * 2 ^ c.args.value % 18446744073709551616) c.requires.place

pub returns-clause-marked : goal.returns-clause-marked
returns-clause-marked c = marked_on c.args.seen.now c.args.place c.args.value c.requires.place c.requires.value
