use Rattle.std.proofs.Common.{refl, subst, sym, List, ℕ, arith}
use Rattle.std.specs.List.{All}
use Rattle.stable_paths.proofs.ListLemmas.{never}
use Rattle.stable_search.specs.Picks.{FitsWay}
use Rattle.stable_search.proofs.PickLemmas.{adds_none, adds_one, more_one, misfit}
use Rattle.stable_search.proofs.searching.add_fitting.Goals as goal

pub returns-then-not-fits_all-clause-all : goal.returns-then-not-fits_all-clause-all
returns-then-not-fits_all-clause-all c = λ sets is.
    adds_none c.args.ways.now sets c.args.found.now.items c.args.found.now.items refl
    (λ other s. misfit c.args.ways.now sets c.args.pick other is
    (λ all. never (c.if-not-fits_all.ensures.1 (subst (λ (p : List ℕ). All (FitsWay p) c.args.ways.now) (sym c.as_slice.ensures) all))) s)

pub returns-clause-all : goal.returns-clause-all
returns-clause-all c = λ sets is.
    adds_one c.args.ways.now sets c.args.pick c.args.found.now.items c.push-pushed.new.self.items c.in-Ok.ensures.items is
    (subst (λ (p : List ℕ). All (FitsWay p) c.args.ways.now) c.as_slice.ensures (c.if-not-fits_all.ensures.0 refl))

pub returns-then-is_full-clause-full : goal.returns-then-is_full-clause-full
returns-then-is_full-clause-full c = λ sets is.
    more_one c.args.ways.now sets c.args.pick c.args.most c.args.found.now.items (omega (arith, c.if-is_full.true)) is
    (subst (λ (p : List ℕ). All (FitsWay p) c.args.ways.now) c.as_slice.ensures (c.if-not-fits_all.ensures.0 refl))
