use Rattle.std.proofs.Common.{◌<◌, false, true, replicate, length, refl, arith}
use Rattle.std.specs.Prelude.{set}
use Rattle.std.proofs.lemmas.List.{length-set}
use Rattle.ranked_policy.proofs.Reached.{first_sound, only_first, mark_stays, mark_sound, all_joined, all_marked}
use Rattle.ranked_policy.proofs.connected.is_connected.Goals as goal

pub marking-init : goal.marking-init
marking-init c = record {
  room = refl;
  first = refl;
  reached = first_sound c.args.routers.now c.args.links.now (set (replicate 64 false) 0 true) only_first;
}

pub marking-preserved : goal.marking-preserved
marking-preserved c =
    let reached = c.marking.reached in
    let place = c.in-Some.place in
    let inside : place < length reached = omega (arith, c.in-Some.ensures.0, c.requires.few, c.marking.array_long) in
    record {
      room = omega (arith, length-set reached place true, c.marking.array_long);
      first = mark_stays reached place 0 inside c.marking.invariant.first;
      reached = mark_sound c.args.routers.now c.args.links.now reached place inside c.marking.invariant.reached c.in-Some.ensures;
    }

pub returns : goal.returns
returns c = (
  λ t. all_joined c.args.routers.now c.args.links.now c.marking.reached c.marking.invariant.reached (c.are_marked.ensures.0 t),
  λ connected. c.are_marked.ensures.1 (all_marked c.args.routers.now c.args.links.now c.marking.reached c.requires.rising c.in_default.ensures c.marking.invariant.first connected),
)
