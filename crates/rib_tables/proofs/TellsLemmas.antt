-- An UPDATE that tells a path of one prefix.
use Rattle.std.proofs.Common.{◌≡◌, ◌∙◌, ℕ, false, List, [], ◌∷◌, map, refl, sym, ap, inl, inr, Some, None}
use Rattle.prefix_lanes.specs.Bits.{PrefixView}
use Rattle.bgp_codec.specs.declared.path.SegmentKind.TheVariants.{AsSequence}
use Rattle.bgp_codec.specs.declared.update.Update.{Update}
use Rattle.rib_tables.specs.declared.row.Row.{Row}
use Rattle.rib_tables.specs.declared.word.Word.{Word}
use Rattle.rib_tables.specs.declared.word.Word.TheVariants.{Sequence}
use Rattle.rib_tables.specs.Words.{TellsPath, announced_word, nothing}
use Rattle.rib_tables.specs.Rows.{on, hearing, hearing_all, hearing_update}
use Rattle.rib_tables.proofs.ChangeLemmas.{hears_single}

-- an UPDATE that announces the path
pub telling_update : PrefixView → List ℕ → Update
telling_update q path = record {
  withdrawn = [];
  attrs = record { origin = None; path = Some (record { kind = AsSequence; numbers = path } ∷ []); next_hop = None; med = None; local_pref = None; atomic = false; aggregator = None; other = [] };
  nlri = q ∷ [];
}

pub it_tells : (q : PrefixView) (path : List ℕ) → TellsPath (telling_update q path) q path
unfolding telling_update
it_tells q path = inl (refl, refl, refl)

-- rows that hear the path hear it as they hear any UPDATE that tells it
module _ (k : ℕ) (rows : List Row) where
  hearing_parts : List PrefixView → List PrefixView → Word → List Row
  hearing_parts withdrawn nlri a = map (λ r. hearing_all nlri k a (hearing_all withdrawn k nothing r)) rows

  pub hears_told : (q : PrefixView) (path said : List ℕ) (new : List Row) (u : Update) → TellsPath u q path → said ≡ path → new ≡ map (on q (hearing k (Sequence said))) rows → new ≡ map (hearing_update k u) rows
  unfolding hearing_parts
  hears_told q path said new u tells same is =
      is ∙ hears_single k (Sequence said) rows q ∙ ap (λ (p : List ℕ). map (hearing_all (q ∷ []) k (Sequence p)) rows) same
      ∙ elim tells [
        | inl told ↦
            ap (λ (ps : List PrefixView). hearing_parts ps (q ∷ []) (Sequence path)) (sym told.0) ∙ ap (λ (ps : List PrefixView). hearing_parts u.withdrawn ps (Sequence path)) (sym told.1)
            ∙ ap (hearing_parts u.withdrawn u.nlri) (sym told.2)
        | inr told ↦
            ap (λ (p : List ℕ). map (hearing_all (q ∷ []) k (Sequence p)) rows) told.2
            ∙ ap (λ (ps : List PrefixView). hearing_parts ps [] (announced_word u.attrs)) (sym told.0) ∙ ap (λ (ps : List PrefixView). hearing_parts u.withdrawn ps (announced_word u.attrs)) (sym told.1)
      ]
