use Rattle.net_text.specs.Printing.{segment_text}
use Rattle.net_text.proofs.PrintLemmas.{joined_rest}
use Rattle.net_text.proofs.updates.put_segments.Goals as goal

pub loop-segment-init : goal.loop-segment-init
loop-segment-init c =
    record {
      text =
          joined_rest segment_text 45 c.args.segments.now c.first-item.result c.first-item.result c.args.out.now.text c.put_segment.new.out.text c.in-len1-up.len_at_least c.first-item.is c.in_ok-put_segment-in-len1-up.ensures.text;
      front = c.put_segment.ensures.front;
    }
