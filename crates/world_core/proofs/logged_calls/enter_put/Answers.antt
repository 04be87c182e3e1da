use Rattle.std.proofs.Common.{◌∙◌, ◌+◌, ap, ◌++◌, ◌∷◌, []}
use Rattle.router_core.specs.Views.{plain_of}
use Rattle.world_core.proofs.RouterAnswers.{puts_in}
use Rattle.world_core.proofs.logged_calls.enter_put.Goals as goal

pub returns-clause-enters : goal.returns-clause-enters
returns-clause-enters c =
    let pushed = rw c.unwrap.ensures at c.push_back.ensures.items in
    let shows = rw c.in-Ok-Some.field-0-is at c.in-Ok-Some.ensures in
    λ g e ranks. puts_in g c.args.router.now.number c.args.peer (c.args.router.now.stamp + 1) (plain_of c.args.router.now) (plain_of c.item_put_at.new.self) c.args.pipe.now.items c.push_back.new.self.items c.in-Ok-Some.item _ _
    (c.item_put_at.ensures.answers g e ranks) (shows g e) (c.join.ensures ∙ ap (λ k. k ++ c.args.event.now ∷ []) c.reserve.ensures.items) (pushed ∙ ap (λ k. k ++ c.in-Ok-Some.item ∷ []) c.reserve-2.ensures.items)
