use Rattle.std.proofs.Common.{ℕ, rules, subst, List}
use Rattle.std.proofs.lemmas.List.Sorted.{IsNonDecreasingBy-from_sort_by_key, answers_always}
use Rattle.worker_loop.specs.declared.journal.WorkerEvent.{WorkerEvent}
use Rattle.net_workers.specs.Gathered.{IsSorted}
use Rattle.net_workers.proofs.gathering.gather.Goals as goal

abbrev stamp : WorkerEvent → ℕ
stamp e = e.stamp

pub returns : goal.returns
returns g c =
    subst (λ (all : List WorkerEvent). IsSorted all c.sort_by_key.new.self.items) c.in_ok-all.ensures
    (record {
      rising = IsNonDecreasingBy-from_sort_by_key stamp _ c.in_ok-sort_by_key.ensures.sorted (λ a r q k. search rules);
      stable = c.in_ok-sort_by_key.ensures.stable stamp (answers_always _ _ _ (λ f a r g h. search rules));
    })
