use Rattle.std.proofs.Common.{◌≡◌, subst, List, Result}
use Rattle.prefix_lanes.specs.Bits.{PrefixView}
use Rattle.bgp_codec.specs.declared.fault.Fault.{Fault}
use Rattle.bgp_codec.specs.Reading.{Judges}
use Rattle.bgp_codec.specs.UpdateReading.{prefixes_reading}
use Rattle.bgp_codec.proofs.EachLemmas.{none_left}
use Rattle.bgp_codec.proofs.PartLemmas.{none_announced}
use Rattle.bgp_codec.proofs.judging.judge_nlri.Goals as goal

pub returns-then-is_empty : goal.returns-then-is_empty
returns-then-is_empty c = λ a r.
    subst (λ (read : Result (List PrefixView) Fault). Judges (λ prefixes found. prefixes ≡ found) c.judge_prefixes.result read)
    (none_announced c.args.rule.now.peer a c.args.octets.now (none_left _ c.if-is_empty.ensures)) c.judge_prefixes.ensures
