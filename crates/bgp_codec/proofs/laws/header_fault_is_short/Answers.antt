use Rattle.bgp_codec.proofs.FrameLemmas.{header_fault_data}
use Rattle.bgp_codec.proofs.laws.header_fault_is_short.Goals as goal

pub returns : goal.returns
returns c = header_fault_data
