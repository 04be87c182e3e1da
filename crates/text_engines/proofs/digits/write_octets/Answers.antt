use Rattle.std.proofs.Common.{◌≡◌, arith, sym, ap, ◌∙◌, length, ◌+◌, ◌-◌, ◌*◌, ◌≤◌, ◌&&◌, ◌++◌, Bool, Ok, ℕ, List, take, drop, slice_index}
use Rattle.std.proofs.lemmas.List.{length-take, length-drop}
use Rattle.text_engines.proofs.DigitLemmas.{written_none, written_block, written_last}
use Rattle.text_engines.proofs.digits.write_octets.Goals as goal

pub pieces-init : goal.pieces-init
pieces-init c = written_none c.args.digits.now c.args.octets.now c.requires

pub pieces-preserved : goal.pieces-preserved
pieces-preserved c =
    let chunk = c.in-Some.ensures.cases in
    let fits : 2 * c.pieces.i + 32 ≤ length c.args.digits.now
    = omega (arith, chunk.enough, ap length c.split_at.ensures.back, length-drop (2 * c.pieces.i) c.args.digits.now)
    in
    let room : length c.copy_from_slice.new.self ≡ 16
    = c.copy_from_slice.ensures.len ∙ length-take (c.pieces.i + 16 - c.pieces.i) (drop c.pieces.i c.pieces.octets) ∙ omega (arith, fits, c.pieces.invariant.3, length-drop c.pieces.i c.pieces.octets)
    in
    written_block c.args.digits.now c.pieces.octets c.in-Some.block.now c.values_of-values.result c.copy_from_slice.new.self c.pieces.i (c.pieces.i + 16 - c.pieces.i) c.are_small-are_hex.result c.pieces.are_hex
    fits room (chunk.same ∙ ap (take 32) c.split_at.ensures.back) c.values_of-values.ensures c.are_small-are_hex.ensures (λ k lt. ap (λ (l : List ℕ). slice_index l k) c.copy_from_slice.ensures.after ∙ c.pairs_of.ensures k lt) (omega arith) c.pieces.invariant

pub returns : goal.returns
returns c =
    let are_hex = c.pieces.are_hex in
    let parts = c.split_at_mut-room in
    let size : length parts.result.1.now ≡ length c.pieces.octets - c.pieces.i = omega (arith, parts.ensures.back_len) in
    let read = written_last c.args.digits.now c.pieces.octets c.split_at-2.result.1.now c.decode_to_slice.new.out c.pieces.i (length parts.result.1.now) are_hex c.decode_to_slice.result
    c.split_at-2.ensures.back size c.decode_to_slice.ensures.value c.pieces.invariant
    in
    record {
      are_digits = ap (λ (b : Bool). are_hex && b) c.is_ok.ensures.value ∙ read.0;
      octets = λ yes. read.1 (ap (λ (b : Bool). are_hex && b) (sym c.is_ok.ensures.value) ∙ yes) ∙ ap (λ (l : List ℕ). Ok (l ++ c.decode_to_slice.new.out)) (sym parts.ensures.front);
    }
