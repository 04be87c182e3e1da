use Rattle.std.proofs.Common.{arith, ◌∙◌, sym, ap, not, refl}
use Rattle.text_engines.proofs.BlankLemmas.{moved_on, stayed, octet_kept, octet_dropped}
use Rattle.text_engines.proofs.blanks.pack.Goals.{then-kept-at, else-kept-at, then-not-is_blank, else-not-is_blank}
use Rattle.text_engines.proofs.blanks.pack.Goals as goal

pub blanks-init : goal.blanks-init
blanks-init c =
    let run = c.run_in_front-run in
    elim c.if-kept-at.branch [
      | then-kept-at w ↦ (moved_on _ _ run.result c.runs.invariant c.split_at.ensures.back (omega (arith, c.runs-test.true)) run.ensures.bound run.ensures.clean (w.text-is ∙ w.copy_within.ensures.after), omega arith)
      | else-kept-at w ↦ (stayed _ _ run.result c.runs.invariant c.split_at.ensures.back (omega (arith, c.runs-test.true)) run.ensures.bound run.ensures.clean w.text-is w.if-kept-at.false, omega arith)
    ]

pub blanks-preserved : goal.blanks-preserved
blanks-preserved c = (
  octet_dropped _ _ c.blanks.invariant.0 (omega (arith, c.blanks-test.true)) (ap not (sym c.is_blank.ensures ∙ c.if-is_blank.true)) refl refl,
  omega (arith, c.blanks.invariant.1),
)

pub octets-preserved : goal.octets-preserved
octets-preserved c = elim c.if-not-is_blank.branch [
  | then-not-is_blank w ↦ (
    octet_kept _ _ c.octets.invariant.0 (omega (arith, c.octets-test.true, c.octets.invariant.1)) (ap not (sym c.is_blank-in-octets.ensures ∙ w.if-not-is_blank.true)) w.text-is w.kept-is,
    omega (arith, c.octets.invariant.1, c.if-not-is_blank.auto.text),
  )
  | else-not-is_blank w ↦ (
    octet_dropped _ _ c.octets.invariant.0 (omega (arith, c.octets-test.true, c.octets.invariant.1)) (ap not (sym c.is_blank-in-octets.ensures ∙ w.if-not-is_blank.false)) w.text-is w.kept-is,
    omega (arith, c.octets.invariant.1, c.if-not-is_blank.auto.text),
  )
]
