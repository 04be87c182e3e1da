use Rattle.std.proofs.Common.{◌+◌, ap, refl, sym, subst, ◌∙◌, arith}
use Rattle.std.specs.Prelude.{IsOk}
use Rattle.net_text.specs.declared.code.Code.TheVariants.{Memory}
use Rattle.net_text.specs.Lexing.{lines_of}
use Rattle.net_text.specs.Lines.{line_reading}
use Rattle.net_text.specs.Networks.{empty_draft, last_behind}
use Rattle.net_text.proofs.TextLemmas.{reached_on, reached_end}
use Rattle.net_text.proofs.NetworkLemmas.{refuses_network, spells_network, fails_network, some_lines, no_lines, both_ok, both_err}
use Rattle.net_text.proofs.network_so_far.read_network.Goals as goal

pub returns-in-Err-clause-err : goal.returns-in-Err-clause-err
returns-in-Err-clause-err c =
    refuses_network (lines_of c.args.text.now) _ _ c.lines.line c.lines.draft c.lines.front.now c.in-Err.code (c.lines.invariant.ahead (some_lines c.lines.left.now c.lines-test.ensures)) c.lines.invariant.reached c.in-Err.ensures

pub returns-then-is_err-clause-err : goal.returns-then-is_err-clause-err
returns-then-is_err-clause-err c =
    refuses_network (lines_of c.args.text.now) _ _ c.lines.line c.lines.draft c.lines.front.now Memory (c.lines.invariant.ahead (some_lines c.lines.left.now c.lines-test.ensures)) c.lines.invariant.reached
    (subst IsOk (sym c.in_default.ensures) refl)

pub lines-preserved : goal.lines-preserved
lines-preserved c =
    let some = some_lines c.lines.left.now c.lines-test.ensures in
    let lines = c.lines.invariant.ahead some in
    record {
      reached = reached_on (λ line d words. line_reading d words) 0 (empty_draft (lines_of c.args.text.now)) c.lines.draft c.read_line.new.draft _ _ _ c.lines.line c.lines.front.now lines c.lines.invariant.reached c.in_default.ensures;
      last = c.lines.invariant.last ∙ ap (last_behind c.lines.last c.lines.line) lines ∙ ap (λ n. last_behind n (c.lines.line + 1) (lines_of c.lines.rest.now)) (sym c.last_said-last.ensures);
      ahead = c.line_ahead-in-lines.ensures.lines;
      shorter = c.line_ahead-in-lines.ensures.shorter;
      inside = omega (arith, c.lines.invariant.inside, c.lines.invariant.shorter some);
    }

pub returns-clause-ok : goal.returns-clause-ok
returns-clause-ok c =
    let whole = reached_end (λ line d words. line_reading d words) 0 (empty_draft (lines_of c.args.text.now)) c.lines.draft _ _ c.lines.line (no_lines c.lines.left.now c.lines-test.ensures) c.lines.invariant.reached in
    both_ok c.finish.result _ _ _ (λ net is network. spells_network (lines_of c.args.text.now) c.lines.draft net whole is network) c.finish.ensures.ok c.finish.ensures.network

pub returns-clause-err : goal.returns-clause-err
returns-clause-err c =
    let none = no_lines c.lines.left.now c.lines-test.ensures in
    let whole = reached_end (λ line d words. line_reading d words) 0 (empty_draft (lines_of c.args.text.now)) c.lines.draft _ _ c.lines.line none c.lines.invariant.reached in
    let last = c.lines.invariant.last ∙ ap (last_behind c.lines.last c.lines.line) none in
    both_err c.finish.result _ _ _ (λ refused is fault. fails_network (lines_of c.args.text.now) c.lines.draft refused.line refused.code whole (is ∙ sym last) fault) c.finish.ensures.line c.finish.ensures.err
