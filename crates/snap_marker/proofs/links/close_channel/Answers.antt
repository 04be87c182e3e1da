use Rattle.std.proofs.Common.{refl, subst, false, true, []}
use Rattle.snap_marker.specs.declared.part.Channel.{Channel}
use Rattle.snap_marker.specs.Parts.{messages, IsAt}
use Rattle.snap_marker.proofs.Places.{link_changed, link_kept, peers_kept}
use Rattle.snap_marker.proofs.links.close_channel.Goals as goal

pub returns-in-Some : goal.returns-in-Some
returns-in-Some c =
    let p = c.index_mut.result.now in
    let q : Channel = record p { is_open = false } in
    let cs = c.args.channels.now.items in
    let v = c.args.peer in
    let i = c.in-Some.place in
    let at = subst (λ cs. IsAt cs v i) c.deref.ensures.value c.in-Some.ensures.1 in
    let here = c.index_mut.ensures.value in
    record {
      waits = link_changed true (λ x. x.is_open) cs v i p q false at here refl refl;
      epochs = link_kept 0 (λ x. x.epoch) cs v i p q at here refl refl;
      channels = link_kept [] (λ x. messages x.updates.items) cs v i p q at here refl refl;
      peers = peers_kept cs v i p q at here refl;
    }
