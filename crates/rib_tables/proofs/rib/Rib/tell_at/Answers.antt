use Rattle.std.proofs.Common.{◌≡◌, ℕ, List, length, set, subst, ap, ◌∙◌, arith, rules}
use Rattle.std.proofs.lemmas.Option.{slice_get_within, get_or_from_slice_get}
use Rattle.rib_tables.specs.declared.word.Word.TheVariants.{Sequence}
use Rattle.rib_tables.specs.declared.row.Row.{Row}
use Rattle.rib_tables.specs.Owners.{RibView, TellsKept}
use Rattle.rib_tables.specs.Rows.{telling, view_of}
use Rattle.rib_tables.proofs.ChangeLemmas.{place_fits}
use Rattle.rib_tables.proofs.RibLemmas.{fit_of, peer_at_place, place_in}
use Rattle.rib_tables.proofs.AskingLemmas.{waits_at}
use Rattle.rib_tables.proofs.OneRowLemmas.{key_at_place, row_at_place, tell_keeps_rib, tells_view}
use Rattle.rib_tables.proofs.rib.Rib.tell_at.Goals as goal

pub index-requires : goal.index-requires
index-requires c =
    let s = c.self.inside in
    let x = row_at_place s.network.now s.router s.peers.items s.keys.keys s.rows.items c.self.invariant.whole c.args.self.now c.self.view_is c.args.prefix.now c.args.prefix_at c.requires.named in
    let lt = slice_get_within s.rows.items c.args.prefix_at x.0 x.1 in
    let len : length s.rows.items ≡ s.rows.len = search rules in
    omega (arith, lt, len)

pub tell_at-requires-clause-within : goal.tell_at-requires-clause-within
tell_at-requires-clause-within c =
    let s = c.self.inside in
    let x = row_at_place s.network.now s.router s.peers.items s.keys.keys s.rows.items c.self.invariant.whole c.args.self.now c.self.view_is c.args.prefix.now c.args.prefix_at c.requires.named in
    slice_get_within s.rows.items c.args.prefix_at x.0 x.1

pub tell_at-requires-clause-words : goal.tell_at-requires-clause-words
tell_at-requires-clause-words c = λ r at.
    let s = c.self.inside in
    let lt = place_in s.network.now s.router s.peers.items s.keys.keys s.rows.items c.self.invariant.whole c.args.peer c.args.self.now c.self.view_is c.args.peer_at c.requires.stands in
    let size = (c.self.invariant.whole.each c.args.prefix_at r at).sent in
    omega (arith, lt, size)

pub index_mut-waiting-requires : goal.index_mut-waiting-requires
index_mut-waiting-requires c =
    let s = c.self.inside in
    let lt = place_in s.network.now s.router s.peers.items s.keys.keys s.rows.items c.self.invariant.whole c.args.peer c.args.self.now c.self.view_is c.args.peer_at c.requires.stands in
    let long = c.self.invariant.told.long in
    let len : length s.waits.items ≡ s.waits.len = search rules in
    omega (arith, lt, long, len)

pub take_out-requires : goal.take_out-requires
take_out-requires c =
    let s = c.self.inside in
    let key = key_at_place s.network.now s.router s.peers.items s.keys.keys s.rows.items c.self.invariant.whole c.args.self.now c.self.view_is c.args.prefix.now c.args.prefix_at c.requires.named in
    (place_fits s.keys.keys (length s.peers.items) s.rows.items (fit_of s.network.now s.router s.peers.items s.keys.keys s.rows.items c.self.invariant.whole) c.args.prefix.now c.args.prefix_at key).1

pub invariant_of-self : goal.invariant_of-self
invariant_of-self c =
    let s = c.self.inside in
    let q = c.args.prefix.now in
    let place = c.args.prefix_at in
    let to = c.args.peer_at in
    let here = peer_at_place s.network.now s.router s.peers.items s.keys.keys s.rows.items c.self.invariant.whole c.args.peer c.args.self.now c.self.view_is c.args.peer_at c.requires.stands in
    let x = row_at_place s.network.now s.router s.peers.items s.keys.keys s.rows.items c.self.invariant.whole c.args.self.now c.self.view_is q place c.requires.named in
    let row : c.index.result.now ≡ x.0 = c.index.ensures ∙ get_or_from_slice_get s.rows.items place x.0 c.index.result.now x.1 in
    let path : c.in_ok-path.path ≡ x.0.kept = c.in_ok-path.ensures.ok ∙ c.as_slice.ensures ∙ ap (λ (r : Row). r.kept) row in
    let new : c.tell_at.new.rows.items ≡ set s.rows.items place (telling to (Sequence x.0.kept) x.0) =
    c.tell_at.ensures x.0 x.1 ∙ ap (λ (p : List ℕ). set s.rows.items place (telling to (Sequence p) x.0)) path in
    let was = waits_at s.network.now s.router s.peers.items s.keys.keys s.rows.items s.dirty s.waits.items c.self.invariant to here.0 c.index_mut-waiting.result.now here.1 c.index_mut-waiting.ensures.value in
    tell_keeps_rib s.network.now s.router s.peers.items s.keys.keys s.rows.items c.self.invariant.whole q place x.0 x.1 x.2 to here.0 here.1 s.dirty s.waits.items c.self.invariant c.tell_at.new.rows.items new
    c.index_mut-waiting.result.now c.take_out.new.self was c.take_out.ensures.here c.take_out.ensures.others

pub returns-clause-ok : goal.returns-clause-ok
returns-clause-ok c =
    let s = c.self.inside in
    let q = c.args.prefix.now in
    let place = c.args.prefix_at in
    let to = c.args.peer_at in
    let here = peer_at_place s.network.now s.router s.peers.items s.keys.keys s.rows.items c.self.invariant.whole c.args.peer c.args.self.now c.self.view_is c.args.peer_at c.requires.stands in
    let x = row_at_place s.network.now s.router s.peers.items s.keys.keys s.rows.items c.self.invariant.whole c.args.self.now c.self.view_is q place c.requires.named in
    let row : c.index.result.now ≡ x.0 = c.index.ensures ∙ get_or_from_slice_get s.rows.items place x.0 c.index.result.now x.1 in
    let path : c.in_ok-path.path ≡ x.0.kept = c.in_ok-path.ensures.ok ∙ c.as_slice.ensures ∙ ap (λ (r : Row). r.kept) row in
    let new : c.tell_at.new.rows.items ≡ set s.rows.items place (telling to (Sequence x.0.kept) x.0) =
    c.tell_at.ensures x.0 x.1 ∙ ap (λ (p : List ℕ). set s.rows.items place (telling to (Sequence p) x.0)) path in
    let seen = tells_view s.network.now s.router s.peers.items s.keys.keys s.rows.items c.self.invariant.whole q place x.0 x.1 x.2 to here.0 here.1 c.tell_at.new.rows.items new in
    subst (λ (v : RibView). TellsKept v (view_of s.network.now s.router s.peers.items c.tell_at.new.rows.items) c.args.peer q) c.self.view_is
    (subst (λ (n : ℕ). TellsKept (view_of s.network.now s.router s.peers.items s.rows.items) (view_of s.network.now s.router s.peers.items c.tell_at.new.rows.items) n q) here.2 seen)
