use Rattle.std.proofs.Common.{◌≡◌, subst, List, ℕ, sym}
use Rattle.bgp_codec.specs.Judging.{Shows}
use Rattle.bgp_codec.specs.Reading.{Judges}
use Rattle.bgp_codec.specs.UpdateReading.{update_reading}
use Rattle.bgp_codec.proofs.FrameLemmas.{long_update}
use Rattle.bgp_codec.proofs.PartLemmas.{update_judged, refused_as}
use Rattle.bgp_codec.proofs.reading.update_parts.Goals as goal

pub judge_update-requires : goal.judge_update-requires
judge_update-requires c = rw c.split_at.ensures.back (long_update c.args.frame.now c.requires.frame c.requires.kind)

pub returns-clause-parts : goal.returns-clause-parts
returns-clause-parts c =
    update_judged c.args.rule.now c.args.frame.now c.judge_update.result c.requires.kind
    (subst (λ (body : List ℕ). Judges Shows c.judge_update.result (update_reading c.args.rule.now body)) c.split_at.ensures.back c.judge_update.ensures)

pub returns-clause-refused : goal.returns-clause-refused
returns-clause-refused c =
    refused_as c.args.rule.now c.args.frame.now c.judge_update.result c.requires.frame
    (update_judged c.args.rule.now c.args.frame.now c.judge_update.result c.requires.kind
    (subst (λ (body : List ℕ). Judges Shows c.judge_update.result (update_reading c.args.rule.now body)) c.split_at.ensures.back c.judge_update.ensures))
