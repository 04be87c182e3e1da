use Rattle.std.proofs.Common.{◌++◌, List, ap, ◌∙◌}
use Rattle.stable_paths.specs.declared.verdict.Mover.{Mover}
use Rattle.text_engines.specs.Checking.{movers_text}
use Rattle.text_engines.proofs.PlaceLemmas.{movers_here, text_more}
use Rattle.text_engines.proofs.movers.put_all.Goals as goal

pub loop-place-preserved : goal.loop-place-preserved
loop-place-preserved c =
    let net = c.args.network.now in
    let l = c.loop-place in
    let o = c.index-origins-place.result in
    let found = c.in_ok-found.found.items in
    let are = movers_here net c.args.origins.now c.args.entries.now c.args.all.now l.place o c.index-all-place.result found c.loop-place-test.true c.index-origins-place.is c.index-all-place.is c.requires.all c.in_ok-found.ensures in
    text_more net c.args.entries.now c.args.origins.now l.place o found c.args.out.now.items l.out.items c.put_prefix.new.out.items c.loop-place-test.true c.index-origins-place.is l.invariant are
    (c.in_ok-put_prefix.ensures ∙ ap (λ (ms : List Mover). l.out.items ++ movers_text o.prefix ms) c.as_slice.ensures.value)
