use Rattle.std.proofs.Common.{◌≡◌, ◌∙◌, arith, false, get_or, subst, sym}
use Rattle.std.proofs.lemmas.Grind.{common_steps}
use Rattle.std.proofs.lemmas.List.{get_or_default}
use Rattle.prefix_lanes.specs.Bits.{is_prefix}
use Rattle.ranked_policy.specs.declared.network.Origin.{Origin}
use Rattle.schedule_text.proofs.BufferLemmas.{kept_before}
use Rattle.schedule_text.proofs.PathLemmas.{before_apart}
use Rattle.schedule_text.proofs.parts.put_part.Goals as goal

pub loop-origin-preserved : goal.loop-origin-preserved
loop-origin-preserved c =
    let origins = c.args.origins.now in
    let i = c.loop-origin.origin-index in
    let inside = c.loop-origin-test.true in
    record {
      put = grind (arith, common_steps);
      left = λ j d l m.
          let is : get_or origins i d ≡ c.origin-item.result = get_or_default origins i d c.origin-item.result inside ∙ sym c.origin-item.is in
          let other =
          subst (λ (o : Origin). is_prefix o.prefix (get_or origins j d).prefix ≡ false) is
          (before_apart (get_or origins i d).prefix (get_or origins j d).prefix (c.requires i j d (omega (arith, l)) m)) in
          c.next_path-path.ensures.others (get_or origins j d).prefix other ∙ c.loop-origin.invariant.left j d (omega (arith, l)) m;
      kept = kept_before _ _ _ _ c.loop-origin.invariant.kept c.in_ok-route_line.ensures.ok;
    }
