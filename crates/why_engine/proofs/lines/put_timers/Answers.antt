use Rattle.std.proofs.Common.{append_assoc}
use Rattle.why_engine.specs.Explaining.{timers_text}
use Rattle.why_engine.proofs.lines.put_timers.Goals as goal

pub returns : goal.returns
unfolding timers_text
returns c =
    let h = c.put_timer-4.ensures in
    rw (c.in_ok-put_timer-3.ensures, c.in_ok-put_timer-2.ensures, c.in_ok-put_timer.ensures, c.connect_retry_timer.ensures, c.hold_timer.ensures, c.keepalive_timer.ensures, c.restart_timer.ensures, append_assoc, append_assoc, append_assoc) at h
