use Rattle.text_engines.proofs.PrintingLemmas.{update_put}
use Rattle.text_engines.proofs.stream.put_update.Goals as goal

pub returns-in_ok-parts_line-in-Ok : goal.returns-in_ok-parts_line-in-Ok
returns-in_ok-parts_line-in-Ok c =
    update_put c.args.rule.now c.args.frame.now c.args.out.now.items _ c.in-Ok.parts c.in-Ok.ensures.parts c.in_ok-parts_line-in-Ok.ensures.ok
