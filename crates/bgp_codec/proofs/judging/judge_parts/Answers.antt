use Rattle.std.proofs.Common.{◌≡◌, refl, sym, ◌∙◌}
use Rattle.bgp_codec.specs.UpdateReading.{update_of}
use Rattle.bgp_codec.proofs.PartLemmas.{shown_path}
use Rattle.bgp_codec.proofs.judging.judge_parts.Goals as goal
use Rattle.bgp_codec.proofs.judging.judge_parts.Goals.{in-Some, in-None}

pub returns : goal.returns
returns c =
    let w = c.in_ok-withdrawn.ensures in
    let a = c.in_ok-came.ensures in
    let n = c.in_ok-nlri.ensures a.0 a.2 in
    let path : c.match-came.path ≡ a.0.path =
    elim c.match-came.branch [
      | in-Some s ↦ s.path-is ∙ shown_path c.args.rule.now.width c.in_ok-came.came.path a.0 s.in-Some.octets s.in-Some.is a.2.path
      | in-None s ↦ s.path-is ∙ sym (a.2.no_path s.in-None.is)
    ] in
    (update_of w.0 a.0 n.0, rw (w.1, a.1, n.1) refl, record { withdrawn = w.2; path = path; next_hop = a.2.next_hop; nlri = n.2 })
