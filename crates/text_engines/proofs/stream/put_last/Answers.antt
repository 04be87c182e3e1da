use Rattle.std.proofs.Common.{sym, length-drop}
use Rattle.text_engines.proofs.PrintingLemmas.{all_given, stops_short, if_ok}
use Rattle.text_engines.proofs.stream.put_last.Goals as goal

pub returns-in_default-Some : goal.returns-in_default-Some
returns-in_default-Some c = λ before leads. all_given c.args.rule.now before c.args.octets.now c.put_messages.new.out.items _ c.in_default-Some.status _ c.in_default-Some.is-1 (c.in_ok-status.ensures.text before leads)

pub returns-in_default-None : goal.returns-in_default-None
returns-in_default-None c =
    if_ok c.put_rest.result (λ status puts before leads.
    stops_short c.splits_into_nothing.ensures c.args.rule.now before c.args.octets.now c.put_messages.new.out.items c.put_rest.new.out.items _ _ status _ c.in_default-None.is-1
    (sym (length-drop _ c.args.octets.now)) (c.in_ok-status.ensures.rest c.in_default-None.is-1) puts (c.in_ok-status.ensures.text before leads)) c.put_rest.ensures
