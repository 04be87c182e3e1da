use Rattle.std.proofs.Common.{◌∙◌, refl, sym}
use Rattle.offer_board.proofs.same.same_update.Goals as goal

pub returns : goal.returns
returns c =
    λ yes.
    let withdrawn = sym c.as_slice.ensures ∙ c.if-not-same_prefixes.ensures refl ∙ c.as_slice-2.ensures in
    let nlri = sym c.as_slice-3.ensures ∙ c.same_prefixes-2.ensures yes ∙ c.as_slice-4.ensures in
    λ i. record { withdrawn = withdrawn i; attrs = c.if-not-same_attributes.ensures refl i; nlri = nlri i }
