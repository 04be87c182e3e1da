use Rattle.std.proofs.Common.{ap, ◌∙◌, arith}
use Rattle.bgp_codec.specs.Parts.{segment, path_items, items_of}
use Rattle.net_text.proofs.PrintLemmas.{path_front}
use Rattle.net_text.proofs.update_lines.write_path.Goals as goal

pub segments-init : goal.segments-init
segments-init c =
    let first = segment c.in-Some-next.kind c.in-Some-next.numbers in
    let count = ap items_of c.in-Some.is ∙ ap path_items c.in-Some-next.ensures in
    record {
      text = path_front c.args.path c.in-Some.left first c.next.new.self _ _ c.in-Some.is c.in-Some-next.ensures c.write_segment-at.ensures.text;
      room = omega (arith, count, c.requires, c.write_segment-at.ensures.end, c.write_segment-at.auto.text);
      end = omega (arith, count, c.write_segment-at.ensures.end);
    }
