use Rattle.std.proofs.Common.{arith, refl, drop, ◌-◌, length, length-drop, take_all}
use Rattle.text_engines.proofs.PrintingLemmas.{alive_put, notice_put}
use Rattle.text_engines.proofs.stream.put_frame.Goals as goal

pub returns-in_ok-message_line-in-4-default : goal.returns-in_ok-message_line-in-4-default
returns-in_ok-message_line-in-4-default c = alive_put c.args.rule.now c.args.frame.now c.args.out.now.items _ c.in-4-default.is-0 c.in_ok-message_line-in-4-default.ensures.ok

pub returns-in_ok-notice_line-in-3-len2-up : goal.returns-in_ok-notice_line-in-3-len2-up
returns-in_ok-notice_line-in-3-len2-up c =
    let body = c.split_at.result.1.now in
    notice_put c.args.rule.now c.args.frame.now body _ c.args.out.now.items _ _ _ c.in-3-len2-up.is-0 c.split_at.ensures.back refl refl (take_all (length body - 2) (drop 2 body) (omega (arith, length-drop 2 body)))
    c.in_ok-notice_line-in-3-len2-up.ensures.ok
