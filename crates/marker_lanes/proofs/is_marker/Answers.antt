use Rattle.std.proofs.Common.{sym, ◌∙◌}
use Rattle.std.proofs.lemmas.Bool.{eqb-true, eq-eqb}
use Rattle.marker_lanes.proofs.Ones.{all_ones}
use Rattle.marker_lanes.proofs.is_marker.Goals as goal

pub returns : goal.returns
returns c =
    let ones = all_ones c.args.octets.now c.told-octets in
    (λ t. ones.0 (sym c.others.ensures ∙ eqb-true c.others.result 0 t), λ e. eq-eqb c.others.result 0 (c.others.ensures ∙ ones.1 e))
