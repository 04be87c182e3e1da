use Rattle.stable_paths.proofs.TableLemmas.{no_path_without}
use Rattle.stable_paths.proofs.laws.no_origin_no_path.Goals as goal

pub returns : goal.returns
returns c = no_path_without
