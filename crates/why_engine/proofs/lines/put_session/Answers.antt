use Rattle.std.proofs.Common.{append_assoc}
use Rattle.why_engine.specs.Explaining.{session_text}
use Rattle.why_engine.proofs.lines.put_session.Goals as goal

pub returns : goal.returns
unfolding session_text
returns c =
    let h = c.put_behind.ensures in
    rw (c.in_ok-put_state.ensures, c.in_ok-put_number.ensures, append_assoc, append_assoc) at h
