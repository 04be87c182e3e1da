use Rattle.std.proofs.Common.{◌≡◌, ◌++◌, Option, Some, None, sym, subst}
use Rattle.std.specs.Prelude.{OnOk}
use Rattle.std.proofs.lemmas.List.{append-nil}
use Rattle.snap_marker.specs.Recordings.{RouterPart}
use Rattle.schedule_text.specs.Routes.{part_text}
use Rattle.schedule_text.proofs.PartLemmas.{part_is_recorded}
use Rattle.schedule_text.proofs.parts.put_recorded.Goals as goal

pub returns-in-Some-clause-ok : goal.returns-in-Some-clause-ok
returns-in-Some-clause-ok c =
    subst (λ (o : Option RouterPart). OnOk c.put_part.result (c.put_part.new.out.items ≡ c.args.out.now.items ++ part_text c.args.origins.now c.args.router o))
    (part_is_recorded c.args.collector.now c.args.number c.args.router (Some c.in-Some.part.now) c.in-Some.ensures) c.put_part.ensures.ok

pub returns-in-None-clause-ok : goal.returns-in-None-clause-ok
returns-in-None-clause-ok c =
    subst (λ (o : Option RouterPart). c.args.out.now.items ≡ c.args.out.now.items ++ part_text c.args.origins.now c.args.router o)
    (part_is_recorded c.args.collector.now c.args.number c.args.router None c.in-None.ensures) (sym (append-nil c.args.out.now.items))
