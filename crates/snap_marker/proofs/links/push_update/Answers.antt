use Rattle.std.proofs.Common.{◌∙◌, ◌-◌, ap, refl, sym, subst, arith, true, [], ◌∷◌, ◌++◌}
use Rattle.std.proofs.lemmas.List.{map-append}
use Rattle.bgp_codec.specs.declared.message.Message.TheVariants.{UpdateMsg}
use Rattle.std.specs.Vec.{vec_len, vec_capacity}
use Rattle.snap_marker.specs.declared.part.Channel.{Channel}
use Rattle.snap_marker.specs.Parts.{messages, IsAt}
use Rattle.snap_marker.proofs.Places.{has_found, link_changed, link_kept, peers_kept}
use Rattle.snap_marker.proofs.links.push_update.Goals as goal

pub push_reserved-requires : goal.push_reserved-requires
push_reserved-requires c =
    let p = c.index_mut.result.now in
    let at = subst (λ cs. IsAt cs c.args.peer c.in-Some.place) c.deref.ensures.value c.in-Some.ensures.1 in
    let room = has_found 0 (λ x. vec_capacity x.updates - vec_len x.updates) c.args.channels.now.items c.args.peer c.in-Some.place p at c.index_mut.ensures.value in
    omega (arith, room, c.requires.room)

pub returns-in-Some : goal.returns-in-Some
returns-in-Some c =
    let p = c.index_mut.result.now in
    let q : Channel = record p { updates = c.push_reserved.new.self } in
    let cs = c.args.channels.now.items in
    let v = c.args.peer in
    let i = c.in-Some.place in
    let at = subst (λ cs. IsAt cs v i) c.deref.ensures.value c.in-Some.ensures.1 in
    let here = c.index_mut.ensures.value in
    let was = has_found [] (λ x. messages x.updates.items) cs v i p at here in
    let more = ap messages c.push_reserved.ensures.items ∙ map-append UpdateMsg p.updates.items (c.args.update ∷ []) ∙ ap (λ ms. ms ++ UpdateMsg c.args.update ∷ []) (sym was) in
    record {
      channels = link_changed [] (λ x. messages x.updates.items) cs v i p q _ at here refl more;
      waits = link_kept true (λ x. x.is_open) cs v i p q at here refl refl;
      epochs = link_kept 0 (λ x. x.epoch) cs v i p q at here refl refl;
      peers = peers_kept cs v i p q at here refl;
    }
