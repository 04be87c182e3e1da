use Rattle.std.proofs.Common.{sym}
use Rattle.std.proofs.lemmas.Result.{err_from_is_err_and}
use Rattle.net_text.specs.Lexing.{words_of}
use Rattle.net_text.specs.Lines.{width_named}
use Rattle.net_text.specs.Words.{rule_path_words}
use Rattle.net_text.proofs.StepLemmas.{takeable, refuses, rule_paths_no_memory, rule_stops}
use Rattle.net_text.proofs.network_lines.read_rule.Goals as goal

pub returns-in_err-brief : goal.returns-in_err-brief
returns-in_err-brief c =
    let p = err_from_is_err_and c.from_residual-in_err-brief.result c.from_residual-in_err-brief.ensures.1 in
    let e = rw (c.width_named.ensures, c.routers.ensures.value) at c.in_ok-asn.ensures in
    let g = rw c.width_named-2.ensures at c.in_err-brief.ensures.err in
    rw (p.1, p.2)
    (refuses c.in_err-brief.field-0.0 (rule_path_words (width_named c.args.draft.now.named) c.args.draft.now.net.routers c.in_ok-asn.asn (words_of c.in-Some-next_word.words.now)) _
    (rule_paths_no_memory (width_named c.args.draft.now.named) c.args.draft.now.net.routers c.in_ok-asn.asn (words_of c.in-Some-next_word.words.now)) (sym g)
    (rule_stops c.args.draft.now _ _ _ _ _ _ _ _ c.in-Some.ensures.some c.in-Some-next_word.ensures.some e c.in_ok-prefix.ensures g))

pub take_paths-requires : goal.take_paths-requires
take_paths-requires c =
    let a = rw c.width_named-2.ensures at c.in_ok-brief.ensures.ok.0 in
    let b = rw c.routers-2.ensures.value at c.in_ok-judge_rule.ensures in
    takeable (width_named c.args.draft.now.named) c.args.draft.now.net.routers c.in_ok-asn.asn c.in_ok-prefix.prefix (words_of c.in-Some-next_word.words.now) _ tt (sym a) (sym b)
