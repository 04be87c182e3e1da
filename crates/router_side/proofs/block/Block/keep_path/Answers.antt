use Rattle.std.proofs.Common.{◌≡◌, ◌++◌, ◌∷◌, ◌∙◌, ◌+◌, ℕ, List, [], true, false, length, drop, sym, ap, subst, refl, arith}
use Rattle.std.proofs.Math.Seq.{drop-append_seam}
use Rattle.bgp_codec.specs.declared.message.Message.TheVariants.{UpdateMsg}
use Rattle.bgp_codec.specs.Header.{IsFrame}
use Rattle.bgp_codec.specs.Faults.{reading}
use Rattle.bgp_codec.specs.Spelling.{written}
use Rattle.run_model.specs.Octets.{octets_of}
use Rattle.router_side.specs.declared.block.Stored.{Stored}
use Rattle.router_side.specs.Histories.{history, told_stored, AreStored, IsStored}
use Rattle.router_side.specs.Sayings.{nobody}
use Rattle.router_side.proofs.Kept.{stored_on, one_stored, written_kept, history_stored, spelt_length, put_behind, Behind}
use Rattle.router_side.proofs.block.Block.keep_path.Goals as goal

-- ---- an announcement: its front is left out

behind_front : (c : goal.After-push_reserved) → Behind c.in-Some.front (written c.args.width (UpdateMsg c.args.told.now)) c.args.self.now.octets.items c.put.new.out.items c.split_at.result.1.now
behind_front c =
    let os = c.args.self.now.octets.items in
    let before : c.len-before.result ≡ length os = omega (arith, c.len-before.ensures, c.args.self.now.octets.ok.0) in
    put_behind c.in-Some.front (written c.args.width (UpdateMsg c.args.told.now)) os c.put.new.out.items c.split_at.result.1.now c.in-Some.ensures
    (c.split_at.ensures.back ∙ ap (λ (xs : List ℕ). drop c.len-before.result xs) c.deref.ensures.value ∙ ap (λ (n : ℕ). drop n c.put.new.out.items) before)

abbrev short_place : (c : goal.After-push_reserved) → Stored
short_place c = record { epoch = c.args.epoch; len = 29 + length c.split_at.result.1.now; short = true }

short_stored : (c : goal.After-push_reserved) → IsStored (short_place c) c.split_at.result.1.now
short_stored c =
    let rest = c.split_at.result.1.now in
    let w = written_kept c.args.width c.written_is_read.ensures (written c.args.width (UpdateMsg c.args.told.now)) c.args.told.now c.requires.sayable refl in
    (subst IsFrame (sym (behind_front c).spells) w.0, sym (spelt_length true (29 + length rest) rest))

pub returns-in-Some-clause-kept : goal.returns-in-Some-clause-kept
returns-in-Some-clause-kept c =
    let ps = c.args.self.now.places.items in
    let all = stored_on ps c.args.self.now.octets.items c.split_at.result.1.now (short_place c) c.requires.kept (one_stored (short_place c) c.split_at.result.1.now (short_stored c)) in
    subst (λ (xs : List Stored). AreStored xs c.put.new.out.items) (sym c.push_reserved.ensures.items)
    (subst (λ (xs : List ℕ). AreStored (ps ++ short_place c ∷ []) xs) (sym (behind_front c).is) all)

pub returns-in-Some-clause-told : goal.returns-in-Some-clause-told
returns-in-Some-clause-told c =
    let u = c.args.told.now in
    let width = c.args.width in
    let ps = c.args.self.now.places.items in
    let w = written_kept width c.written_is_read.ensures (written width (UpdateMsg u)) u c.requires.sayable refl in
    ap history (ap (λ (xs : List Stored). told_stored width xs c.put.new.out.items) c.push_reserved.ensures.items
    ∙ ap (λ (xs : List ℕ). told_stored width (ps ++ short_place c ∷ []) xs) (behind_front c).is)
    ∙ history_stored width ps c.args.self.now.octets.items c.split_at.result.1.now (short_place c) u c.requires.kept (short_stored c) (ap (reading (nobody width)) (behind_front c).spells ∙ w.1)

-- what waits has the front too
pub returns-in-Some-clause-passing : goal.returns-in-Some-clause-passing
returns-in-Some-clause-passing c = c.push_parts.ensures.passing ∙ ap (λ (xs : List ℕ). c.args.outbox.now.passing ++ octets_of c.args.epoch xs) (behind_front c).joined

-- ---- a withdrawal: all its octets stand behind those of the others

put_is : (c : goal.After-push_reserved-in-None) → c.split_at-in-None.result.1.now ≡ written c.args.width (UpdateMsg c.args.told.now)
put_is c =
    let new = written c.args.width (UpdateMsg c.args.told.now) in
    let os = c.args.self.now.octets.items in
    let before : c.len-before.result ≡ length os = omega (arith, c.len-before.ensures, c.args.self.now.octets.ok.0) in
    c.split_at-in-None.ensures.back ∙ ap (λ (xs : List ℕ). drop c.len-before.result xs) c.deref-in-None.ensures.value ∙ ap (λ (n : ℕ). drop n c.put.new.out.items) before
    ∙ ap (λ (xs : List ℕ). drop (length os) xs) c.in-None.ensures ∙ drop-append_seam os new

abbrev whole_place : (c : goal.After-push_reserved-in-None) → Stored
whole_place c = record { epoch = c.args.epoch; len = length c.split_at-in-None.result.1.now; short = false }

whole_stored : (c : goal.After-push_reserved-in-None) → IsStored (whole_place c) (written c.args.width (UpdateMsg c.args.told.now))
whole_stored c =
    let w = written_kept c.args.width c.written_is_read.ensures (written c.args.width (UpdateMsg c.args.told.now)) c.args.told.now c.requires.sayable refl in
    (w.0, ap length (put_is c))

pub returns-in-None-clause-kept : goal.returns-in-None-clause-kept
returns-in-None-clause-kept c =
    let new = written c.args.width (UpdateMsg c.args.told.now) in
    let ps = c.args.self.now.places.items in
    let all = stored_on ps c.args.self.now.octets.items new (whole_place c) c.requires.kept (one_stored (whole_place c) new (whole_stored c)) in
    subst (λ (xs : List Stored). AreStored xs c.put.new.out.items) (sym c.push_reserved-in-None.ensures.items)
    (subst (λ (xs : List ℕ). AreStored (ps ++ whole_place c ∷ []) xs) (sym c.in-None.ensures) all)

pub returns-in-None-clause-told : goal.returns-in-None-clause-told
returns-in-None-clause-told c =
    let u = c.args.told.now in
    let width = c.args.width in
    let new = written width (UpdateMsg u) in
    let ps = c.args.self.now.places.items in
    let w = written_kept width c.written_is_read.ensures new u c.requires.sayable refl in
    ap history (ap (λ (xs : List Stored). told_stored width xs c.put.new.out.items) c.push_reserved-in-None.ensures.items
    ∙ ap (λ (xs : List ℕ). told_stored width (ps ++ whole_place c ∷ []) xs) c.in-None.ensures)
    ∙ history_stored width ps c.args.self.now.octets.items new (whole_place c) u c.requires.kept (whole_stored c) w.1

-- what is told has a header, at least
pub push_octets-requires-clause-some : goal.push_octets-requires-clause-some
push_octets-requires-clause-some c =
    let new = written c.args.width (UpdateMsg c.args.told.now) in
    let os = c.args.self.now.octets.items in
    let before : c.len-before.result ≡ length os = omega (arith, c.len-before.ensures, c.args.self.now.octets.ok.0) in
    let put : c.split_at-in-None.result.1.now ≡ new =
    c.split_at-in-None.ensures.back ∙ ap (λ (xs : List ℕ). drop c.len-before.result xs) c.deref-in-None.ensures.value ∙ ap (λ (n : ℕ). drop n c.put.new.out.items) before
    ∙ ap (λ (xs : List ℕ). drop (length os) xs) c.in-None.ensures ∙ drop-append_seam os new in
    omega (arith, ap length put, c.written_has_a_header.ensures c.args.width (UpdateMsg c.args.told.now))
