use Rattle.bgp_codec.proofs.FrameLemmas.{long_notice, long_open, long_update}
use Rattle.bgp_codec.proofs.reading.decode_by_type.Goals as goal

pub read_notice-requires : goal.read_notice-requires
read_notice-requires c = rw c.split_at.ensures.back (long_notice c.args.frame.now c.requires c.in-3.is)

pub decode_update-requires : goal.decode_update-requires
decode_update-requires c = rw c.split_at.ensures.back (long_update c.args.frame.now c.requires c.in-2.is)

pub decode_open-requires : goal.decode_open-requires
decode_open-requires c = rw c.split_at.ensures.back (long_open c.args.frame.now c.requires c.in-1.is)
