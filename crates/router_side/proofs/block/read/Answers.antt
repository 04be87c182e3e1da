use Rattle.router_side.proofs.block.read.Goals as goal

pub decode-requires : goal.decode-requires
decode-requires c = c.requires
