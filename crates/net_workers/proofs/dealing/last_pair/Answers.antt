use Rattle.std.proofs.Common.{ap, sym, ◌∙◌}
use Rattle.net_workers.specs.declared.worker_pipes.WorkerPipes.{WorkerPipes}
use Rattle.net_workers.proofs.Dealt.{popped_by}
use Rattle.net_workers.proofs.dealing.last_pair.Goals as goal

pub returns-clause-some : goal.returns-clause-some
returns-clause-some c =
    popped_by c.args.ends.now.items c.args.at c.index_mut.result.now (record { pairs = c.pop.new.self; order = c.index_mut.result.now.order }) c.pop.result c.requires.below
    (sym (ap (λ (e : WorkerPipes). e.pairs.items) c.index_mut.ensures.value) ∙ c.pop.ensures.items)
