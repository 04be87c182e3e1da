use Rattle.std.proofs.Common.{◌∷◌, [], ◌++◌, ap, ◌∙◌}
use Rattle.net_workers.specs.declared.worker_pipes.WorkerPipes.{WorkerPipes}
use Rattle.net_workers.proofs.Dealt.{pushed}
use Rattle.net_workers.proofs.dealing.add.Goals as goal

pub returns-clause-pairs : goal.returns-clause-pairs
returns-clause-pairs c =
    pushed c.args.ends.now.items c.args.at c.index_mut.result.now (record { pairs = c.push.new.self; order = c.index_mut.result.now.order }) c.args.pair c.requires.below
    (c.in_ok-push.ensures.items ∙ ap (λ (e : WorkerPipes). e.pairs.items ++ c.args.pair ∷ []) c.index_mut.ensures.value)
