use Rattle.std.proofs.Common.{◌∙◌, ap, sym, false}
use Rattle.snap_marker.proofs.Copies.{alike}
use Rattle.snap_marker.proofs.Places.{heard_is}
use Rattle.snap_marker.proofs.links.copy_update.Goals as goal

-- it is heard, so it is there, and room was made
pub returns-clause-room : goal.returns-clause-room
returns-clause-room c = λ heard. c.in_ok-reserve_update.ensures.room
    (heard_is c.args.channels.now.items c.args.peer (ap (λ f. f c.args.peer) (sym (alike false (λ x. x.is_open) c.reserve_update.new.channels.items c.args.channels.now.items c.reserve_update.ensures.seen)) ∙ heard)).0
