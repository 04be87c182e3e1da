use Rattle.prefix_lanes.proofs.Prefixes.{has_its_length, same_prefix, each_list}
use Rattle.prefix_lanes.proofs.laws.a_prefix_is_its_bits.Goals as goal

pub returns-clause-length : goal.returns-clause-length
returns-clause-length c = has_its_length

pub returns-clause-once : goal.returns-clause-once
returns-clause-once c = same_prefix

pub returns-clause-each : goal.returns-clause-each
returns-clause-each c = each_list
