use Rattle.std.proofs.Common.{◌++◌, ◌∙◌, ap, sym, List}
use Rattle.run_model.specs.Links.{Entry}
use Rattle.bgp_codec.specs.declared.message.Message.{Message}
use Rattle.router_model.specs.Sides.{apply_once}
use Rattle.router_side.specs.Sayings.{told_of, said_where, all_entries}
use Rattle.router_side.specs.declared.drafted.Say.TheVariants as say
use Rattle.router_side.specs.Drafts.{draft, hand}
use Rattle.router_side.proofs.Said.{said_on, says_given}
use Rattle.router_side.proofs.draft.SideDraft.apply_once.Goals as goal

pub returns-in-SendGiven-clause-after : goal.returns-in-SendGiven-clause-after
returns-in-SendGiven-clause-after c =
    let own = c.args.own_open.now in
    let g = hand c.args.given.now in
    let a = draft own g c.args.self.now in
    let said = ap (all_entries own (told_of g)) c.push-in-SendGiven.ensures ∙ said_on own (told_of g) c.args.self.now.says (say.Given c.epoch-epoch.result) in
    ap (λ (w : List (Entry Message)). record a { says = w }) (said ∙ ap (λ n. a.says ++ said_where n (told_of g)) c.epoch-epoch.ensures) ∙ says_given g a ∙ ap (apply_once own g a) (sym c.in-SendGiven.is)
