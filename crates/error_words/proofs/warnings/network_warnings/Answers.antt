use Rattle.std.proofs.Common.{◌≡◌, ◌++◌, ◌∙◌, ap, subst}
use Rattle.std.specs.Prelude.{IfOk}
use Rattle.net_text.specs.Lexing.{Text}
use Rattle.error_words.specs.Warnings.{Warned, warnings, all_more, more_said}
use Rattle.error_words.proofs.WarningLemmas.{first_named}
use Rattle.error_words.proofs.warnings.network_warnings.Goals as goal

pub returns : goal.returns
returns c =
    let all = warnings c.args.network.now in
    let said = subst (λ (w : Warned). IfOk c.into_text.result (λ text. text.items ≡ w.text ++ more_said w.is_more)) (c.in_ok-warn_of_network.ensures ∙ ap (all_more all) c.new-out.ensures) c.into_text.ensures in
    subst (λ (t : Text). IfOk c.into_text.result (λ text. text.items ≡ t)) (first_named all) said
