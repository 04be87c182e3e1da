use Rattle.std.proofs.Common.{arith}
use Rattle.net_text.proofs.RouterLemmas.{found, too_great}
use Rattle.net_text.proofs.paths.names_router.Goals as goal

pub returns : goal.returns
returns c = found c.args.net.now.routers c.args.number c.has_router.result c.has_router.ensures

pub returns-then-number-from : goal.returns-then-number-from
returns-then-number-from c = too_great c.args.net.now.settings.width c.args.net.now.routers c.args.number c.settings-plan.ensures.plan.in_range (omega (arith, c.if-number-from.true, c.from.ensures))
