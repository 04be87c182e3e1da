use Rattle.net_text.proofs.LayoutLemmas.{lines_end_by_line_feeds}
use Rattle.net_text.proofs.laws.lines_end_by_line_feeds.Goals as goal

pub returns : goal.returns
returns c = lines_end_by_line_feeds
