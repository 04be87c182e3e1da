use Rattle.bgp_codec.proofs.ReadWritable.{spelt_writable}
use Rattle.bgp_codec.proofs.laws.spelt_is_writable.Goals as goal

pub returns : goal.returns
returns c = spelt_writable
