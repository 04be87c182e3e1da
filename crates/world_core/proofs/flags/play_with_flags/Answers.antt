use Rattle.std.proofs.Common.{[]}
use Rattle.std.proofs.lemmas.Result.{err_from_is_err_and}
use Rattle.world_core.proofs.Flagging.{flags_first, refused_alone, as_long}
use Rattle.world_core.proofs.flags.play_with_flags.Goals as goal

pub returns-in_err-play_on-clause-plays : goal.returns-in_err-play_on-clause-plays
returns-in_err-play_on-clause-plays c =
    let new = flags_first c.args.network.now c.args.number c.in-Ok.world c.new-inside.result.items c.in-Ok.ensures.opens c.new-inside.ensures.items in
    let p = err_from_is_err_and c.from_residual.result c.from_residual.ensures.1 in
    rw (p.1, p.2)
    (refused_alone c.args.network.now c.args.events.now c.args.number c.in-Ok.world c.play_on.new.world c.new-inside.result.items c.play_on.new.inside.items c.in_err-play_on.field-0.0 new c.in_err-play_on.ensures.plays)

pub returns-clause-plays : goal.returns-clause-plays
returns-clause-plays c =
    let new = flags_first c.args.network.now c.args.number c.in-Ok.world c.new-inside.result.items c.in-Ok.ensures.opens c.new-inside.ensures.items in
    c.in_ok-play_on.ensures.plays c.args.network.now [] new

pub returns-clause-long : goal.returns-clause-long
returns-clause-long c =
    let new = flags_first c.args.network.now c.args.number c.in-Ok.world c.new-inside.result.items c.in-Ok.ensures.opens c.new-inside.ensures.items in
    as_long c.each_network_has_a_setting.ensures c.args.network.now c.args.events.now c.args.number c.play_on.new.world c.play_on.new.inside.items c.built.ensures.network
    (c.in_ok-play_on.ensures.plays c.args.network.now [] new)
