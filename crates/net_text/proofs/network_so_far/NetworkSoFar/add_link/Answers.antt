use Rattle.ranked_policy.specs.declared.refusal.NetError.TheVariants.{Repeated, Limit}
use Rattle.net_text.proofs.LinkLemmas.{told_new, told_refused}
use Rattle.net_text.proofs.network_so_far.NetworkSoFar.add_link.Goals as goal

pub returns-in-Ok : goal.returns-in-Ok
returns-in-Ok c = rw c.in-Ok.ensures.ok (told_new c.args.self.now c.args.a c.args.b (c.in-Ok.ensures.met Repeated) (c.in-Ok.ensures.met Limit))

pub returns-in-Err : goal.returns-in-Err
returns-in-Err c = rw c.code_of.ensures (told_refused c.args.self.now c.args.a c.args.b c.in-Err.error c.requires.a c.requires.b c.in-Err.ensures.refused)
