use Rattle.std.proofs.Common.{◌≡◌, ◌<◌, ℕ, List, sym, subst}
use Rattle.std.specs.Prelude.{◌↔◌}
use Rattle.std.specs.List.{AllPairs, Contains, insert}
use mathlib.Core.Logic.{◌⊎◌}
use Rattle.snap_collector.proofs.Decided.{place_for, still_rises, is_more, placed}
use Rattle.snap_collector.proofs.collector.note.Goals as goal

pub returns-in-Err-clause-rising : goal.returns-in-Err-clause-rising
returns-in-Err-clause-rising c =
    let xs = c.args.numbers.now.items in
    let found = place_for xs c.deref.result.now c.args.number c.in-Err.at c.deref.ensures.value c.requires.rising c.in-Err.ensures.position in
    let is = placed _ _ c.insert.new.self.items (insert xs c.in-Err.at c.args.number) xs c.unwrap.ensures c.insert.ensures.items in
    subst (λ (l : List ℕ). AllPairs (λ s t. s < t) l) (sym is) (still_rises xs c.in-Err.at c.args.number c.requires.rising found.0 found.1 found.2)

pub returns-in-Err-clause-more : goal.returns-in-Err-clause-more
returns-in-Err-clause-more c = λ s.
    let xs = c.args.numbers.now.items in
    let is = placed _ _ c.insert.new.self.items (insert xs c.in-Err.at c.args.number) xs c.unwrap.ensures c.insert.ensures.items in
    subst (λ (l : List ℕ). Contains l s ↔ (Contains xs s ⊎ (s ≡ c.args.number))) (sym is) (is_more xs c.in-Err.at c.args.number s)
