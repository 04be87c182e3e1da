-- what lines spell is not refused
use Rattle.std.proofs.Common.{inl, inr}
use Rattle.net_text.specs.Lexing.{lines_of}
use Rattle.error_words.proofs.WarningLemmas.{if_ok, if_both}
use Rattle.error_words.proofs.warnings.lines_warnings.Goals as goal

pub returns-in-Ok : goal.returns-in-Ok
returns-in-Ok c = if_ok c.network_warnings.result (λ text said. inl (c.in-Ok.network, c.in-Ok.ensures.ok, said)) c.network_warnings.ensures

pub returns-in-Err : goal.returns-in-Err
returns-in-Err c =
    let lines = lines_of c.args.lines.now in
    if_both c.no_warnings.result (λ text kind empty. inr (
      λ net spells. kind (c.what_is_spelt_is_not_refused.ensures lines net c.in-Err.refused.line c.in-Err.refused.code spells c.in-Err.ensures.err),
      empty,
    )) c.no_warnings.ensures.kind c.no_warnings.ensures.empty
