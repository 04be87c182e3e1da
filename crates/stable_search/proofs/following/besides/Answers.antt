use Rattle.std.proofs.Common.{◌+◌, ℕ, sym, subst}
use Rattle.stable_paths.proofs.ListLemmas.{never}
use Rattle.stable_search.proofs.SettleLemmas.{BesidesBelow, besides_on, besides_skip}
use Rattle.stable_search.proofs.following.besides.Goals as goal
use Rattle.stable_search.proofs.following.besides.Goals.{then-has+then-has-2, else-has, else-has-via-then-has+else-has-2, else-has-via-else-has}

pub loop-their-preserved : goal.loop-their-preserved
loop-their-preserved c =
    let end = c.args.end.now in
    let theirs = c.args.theirs in
    let value = c.args.value in
    let n = c.loop-their.their in
    let partners = c.loop-their.partners in
    let rivals = c.loop-their.rivals in
    let fits = c.fitting-fits.result in
    let was = c.loop-their.invariant in
    elim c.if-has.branch [
      | then-has+then-has-2 w ↦ besides_on end theirs value n partners rivals fits c.if-has.partners c.if-has.rivals c.loop-their-test.true c.fitting-fits.ensures w.partners-is w.rivals-is was
      | else-has w ↦
          subst (λ (m : ℕ). BesidesBelow end theirs value (n + 1) m c.if-has.rivals) (sym w.partners-is)
          (subst (BesidesBelow end theirs value (n + 1) partners) (sym w.rivals-is)
          (besides_skip end theirs value n partners rivals fits c.fitting-fits.ensures (λ has fit. elim w.else-has.branch [
            | else-has-via-then-has+else-has-2 x ↦ never (x.if-has-2.ensures.1 fit)
            | else-has-via-else-has x ↦ never (x.if-has.ensures.1 has)
          ]) was))
    ]
