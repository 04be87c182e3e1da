use Rattle.std.proofs.Common.{rules, arith, ◌≡◌, ◌+◌, ◌*◌, ◌≤◌, ◌∙◌, ap, drop}
use Rattle.std.proofs.lemmas.Grind.{common_steps}
use Rattle.std.specs.Prelude.{slice_index}
use Rattle.bgp_framing.specs.Held.{with_octets}
use Rattle.bgp_framing.proofs.FrontLemmas.{dropped_view}
use Rattle.bgp_framing.proofs.framer.Framer.drop_front.Goals as goal

pub returns : goal.returns
returns c =
    let s = c.self.inside in
    let n = c.from_be_bytes-len.result in
    let now = c.args.self.now in
    let len : n ≡ slice_index now.octets 16 * 256 + slice_index now.octets 17 = search rules in
    let fits : s.used + n ≤ s.end = grind (arith, common_steps) in
    dropped_view now s.octets.items s.used n s.end _ c.self.view_is fits ∙ ap (λ k. with_octets now (drop k now.octets)) len
