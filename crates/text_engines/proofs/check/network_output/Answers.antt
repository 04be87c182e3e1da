use Rattle.std.proofs.Common.{List, inl, inr, subst}
use Rattle.net_text.specs.declared.assignment.Entry.{Entry}
use Rattle.text_engines.specs.Decoding.{output}
use Rattle.text_engines.specs.Checking.{EntriesGive}
use Rattle.text_engines.proofs.CheckLemmas.{if_ok, both_ok}
use Rattle.text_engines.proofs.check.network_output.Goals as goal

pub returns-in-Ok-read_assignment : goal.returns-in-Ok-read_assignment
returns-in-Ok-read_assignment c =
    if_ok _ _ c.entries_output.result
    (λ printed gives. inr (
      c.in-Ok.network,
      c.in-Ok.ensures.ok,
      inr (
        c.in-Ok-read_assignment.entries,
        c.in-Ok-read_assignment.ensures.ok,
        subst (λ (entries : List Entry). EntriesGive c.args.lists_all c.in-Ok.network entries (output printed.0.items printed.1)) c.as_slice.ensures gives,
      ),
    ))
    c.entries_output.ensures

pub returns-in-Ok : goal.returns-in-Ok
returns-in-Ok c =
    let refused = c.in-Err-read_assignment.refused in
    both_ok _ _ _ c.text_output.result (λ printed kind is. inr (c.in-Ok.network, c.in-Ok.ensures.ok, inl (refused.line, refused.code, kind, c.in-Err-read_assignment.ensures.err, is)))
    c.text_output.ensures.kind c.text_output.ensures.output
