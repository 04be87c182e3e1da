use Rattle.std.proofs.Common.{◌≡◌, ◌++◌, ◌/◌, arith, length, List, take, drop, ap, sym, ◌∙◌}
use Rattle.std.proofs.lemmas.List.{take-append-drop}
use Rattle.std.proofs.lemmas.Result.{err_from_is_err_and}
use Rattle.world_core.specs.declared.schedule.Event.{Event}
use Rattle.world_core.proofs.Flagging.{flags_first, both_played, first_refused, later_refused}
use Rattle.world_core.proofs.flags.play_halves.Goals as goal

pub returns-in_err-play_on : goal.returns-in_err-play_on
returns-in_err-play_on c =
    let new = flags_first c.args.network.now c.args.number c.in-Ok-new.world c.new-inside.result.items c.in-Ok-new.ensures.opens c.new-inside.ensures.items in
    let first : c.as_slice.result.now ≡ take (c.len-half.result / 2) c.args.events.items = c.as_slice.ensures.value ∙ c.in-Ok.ensures.items in
    let parts : c.args.events.items ≡ c.as_slice.result.now ++ c.in-Ok.later.items =
    sym (ap (λ (k : List Event). k ++ c.in-Ok.later.items) first ∙ ap (λ (k : List Event). take (c.len-half.result / 2) c.args.events.items ++ k) c.in-Ok.ensures.tail ∙ take-append-drop (c.len-half.result / 2) c.args.events.items) in
    let p = err_from_is_err_and c.from_residual.result c.from_residual.ensures.1 in
    rw (p.1, p.2)
    (first_refused c.args.network.now c.args.events.items c.as_slice.result.now c.in-Ok.later.items c.args.number c.in-Ok-new.world c.play_on.new.world c.play_on.new.world c.new-inside.result.items c.play_on.new.inside.items
    c.play_on.new.inside.items parts new c.in_err-play_on.field-0.0 c.in_err-play_on.ensures.plays)

pub returns-in-Ok-play_on : goal.returns-in-Ok-play_on
returns-in-Ok-play_on c =
    let new = flags_first c.args.network.now c.args.number c.in-Ok-new.world c.new-inside.result.items c.in-Ok-new.ensures.opens c.new-inside.ensures.items in
    let first : c.as_slice.result.now ≡ take (c.len-half.result / 2) c.args.events.items = c.as_slice.ensures.value ∙ c.in-Ok.ensures.items in
    let later : c.as_slice-2.result.now ≡ drop (c.len-half.result / 2) c.args.events.items = c.as_slice-2.ensures.value ∙ c.in-Ok.ensures.tail in
    let parts : c.args.events.items ≡ c.as_slice.result.now ++ c.as_slice-2.result.now =
    sym (ap (λ (k : List Event). k ++ c.as_slice-2.result.now) first ∙ ap (λ (k : List Event). take (c.len-half.result / 2) c.args.events.items ++ k) later ∙ take-append-drop (c.len-half.result / 2) c.args.events.items) in
    both_played c.args.network.now c.args.events.items c.as_slice.result.now c.as_slice-2.result.now c.args.number c.in-Ok-new.world c.play_on.new.world c.play_on-2.new.world c.new-inside.result.items c.play_on.new.inside.items
    c.play_on-2.new.inside.items parts new c.in_ok-play_on.ensures.plays c.in-Ok-play_on.ensures.plays

pub returns : goal.returns
returns c =
    let new = flags_first c.args.network.now c.args.number c.in-Ok-new.world c.new-inside.result.items c.in-Ok-new.ensures.opens c.new-inside.ensures.items in
    let first : c.as_slice.result.now ≡ take (c.len-half.result / 2) c.args.events.items = c.as_slice.ensures.value ∙ c.in-Ok.ensures.items in
    let later : c.as_slice-2.result.now ≡ drop (c.len-half.result / 2) c.args.events.items = c.as_slice-2.ensures.value ∙ c.in-Ok.ensures.tail in
    let parts : c.args.events.items ≡ c.as_slice.result.now ++ c.as_slice-2.result.now =
    sym (ap (λ (k : List Event). k ++ c.as_slice-2.result.now) first ∙ ap (λ (k : List Event). take (c.len-half.result / 2) c.args.events.items ++ k) later ∙ take-append-drop (c.len-half.result / 2) c.args.events.items) in
    let long : length c.as_slice.result.now ≡ c.len-half.result / 2 = omega (arith, c.as_slice.ensures.len, c.in-Ok.ensures.len) in
    later_refused c.args.network.now c.args.events.items c.as_slice.result.now c.as_slice-2.result.now c.args.number c.in-Ok-new.world c.play_on.new.world c.play_on-2.new.world c.new-inside.result.items c.play_on.new.inside.items
    c.play_on-2.new.inside.items parts new (c.len-half.result / 2) c.in-Err-play_on.field-0 long c.in_ok-play_on.ensures.plays c.in-Err-play_on.ensures.plays
