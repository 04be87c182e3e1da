-- What changes of the links of a part make of the recording that it is.
use Rattle.std.proofs.Common.{◌==◌, subst, ◌≡◌, ℕ, Bool, true, false, List, ◌++◌, ◌∷◌, [], cond, refl, ap, sym, ◌∙◌, Option, Some, None}
use Rattle.bgp_codec.specs.declared.message.Message.{Message}
use Rattle.bgp_codec.specs.declared.message.Message.TheVariants.{UpdateMsg}
use Rattle.bgp_codec.specs.declared.update.Update.{Update}
use Rattle.snap_marker.specs.declared.part.Part.{Part}
use Rattle.snap_marker.specs.declared.part.Offer.{Offer}
use Rattle.std.proofs.lemmas.Bool.{eqb-true}
use Rattle.std.proofs.lemmas.Option.{none-some}
use Rattle.std.specs.List.{AllByRecursion}
use Rattle.std.specs.Option.{unwrap_or}
use Rattle.std.proofs.Math.Path.{fun_ext}
use Rattle.snap_marker.specs.Recordings.{Recording, joins_channel}
use Rattle.snap_marker.proofs.Places.{heard_is, heard_as}
use Rattle.snap_marker.specs.Parts.{router_of, is_heard, is_heard_in, IsLink, copy_for, with_link, recording_in, recording_of, waits_for_marker, epoch_in, channel_in, kept_in, originated_in}

-- a recording whose links have these incarnations, channels and missing markers
abbrev pub with_links : Part → (ℕ → ℕ) → (ℕ → List Message) → (ℕ → Bool) → Recording
with_links p epochs channels waits = record {
  number = p.number;
  part = record { kept = kept_in p.kept.items; originated = originated_in p.originated.items; incarnation = epochs; pending = p.pending; channel = channels };
  waits = waits;
}

pub links_alike : (p : Part) (e f : ℕ → ℕ) (c d : ℕ → List Message) (w x : ℕ → Bool) → e ≡ f → c ≡ d → w ≡ x → with_links p e c w ≡ with_links p f d x
links_alike p e f c d w x ef cd wx = λ i. with_links p (ef i) (cd i) (wx i)

-- ---- an UPDATE that joins a channel

joined_at : (f : ℕ → List Message) (ms : List Message) (v y : ℕ) (b : Bool) → (y == v) ≡ b → cond b (f v ++ ms) (f y) ≡ cond b (f y ++ ms) (f y)
joined_at f ms v y true e = ap (λ n. f n ++ ms) (sym (eqb-true y v e))
joined_at f ms v y false e = refl

joined : (f : ℕ → List Message) (ms : List Message) (v : ℕ) → with_link v (f v ++ ms) f ≡ (λ y. cond (y == v) (f y ++ ms) (f y))
joined f ms v = fun_ext (λ y. joined_at f ms v y (y == v) refl)

unheard_by : (b : Bool) (p : Part) (v : ℕ) (u : Update) → waits_for_marker p.channels.items v ≡ b → None ≡ cond b (Some u) None
    → Some (recording_of p) ≡ joins_channel v (UpdateMsg u) (Some (recording_of p))
unheard_by true p v u w e = absurd (none-some _ e)
unheard_by false p v u w e = rw w refl

-- one that is not copied joins none
pub not_heard : (o : Option Part) (v : ℕ) (u : Update) → IsLink o v → None ≡ copy_for o v u → recording_in o ≡ joins_channel v (UpdateMsg u) (recording_in o)
not_heard None v u link e = refl
not_heard (Some p) v u link e =
    let same = heard_as p.channels.items v link in
    unheard_by (waits_for_marker p.channels.items v) p v u refl (subst (λ b. None ≡ cond b (Some u) None) same e)

-- one that is copied joins the channel of its peer
pub heard : (p q : Part) (v : ℕ) (u : Update) → is_heard_in p.channels.items v ≡ true
    → recording_of q ≡ with_links p (epoch_in q.channels.items) (channel_in q.channels.items) (waits_for_marker q.channels.items)
    → epoch_in q.channels.items ≡ epoch_in p.channels.items
    → channel_in q.channels.items ≡ with_link v (channel_in p.channels.items v ++ UpdateMsg u ∷ []) (channel_in p.channels.items)
    → waits_for_marker q.channels.items ≡ waits_for_marker p.channels.items
    → Some (recording_of q) ≡ joins_channel v (UpdateMsg u) (Some (recording_of p))
heard p q v u h is es cs ws =
    let still = (heard_is p.channels.items v h).1 in
    rw still (ap Some (is ∙ links_alike p _ _ _ _ _ _ es (cs ∙ joined (channel_in p.channels.items) (UpdateMsg u ∷ []) v) ws))

-- ---- a marker that ends a channel

pub ended : (p q : Part) (v : ℕ)
    → recording_of q ≡ with_links p (epoch_in q.channels.items) (channel_in q.channels.items) (waits_for_marker q.channels.items)
    → epoch_in q.channels.items ≡ epoch_in p.channels.items → channel_in q.channels.items ≡ channel_in p.channels.items
    → waits_for_marker q.channels.items ≡ with_link v false (waits_for_marker p.channels.items)
    → recording_of q ≡ record (recording_of p) { waits = λ y. cond (y == v) false (waits_for_marker p.channels.items y) }
ended p q v is es cs ws = is ∙ links_alike p _ _ _ _ _ _ es cs ws

-- ---- an offer that is queued

pub all_of : (u : ℕ) (os : List Offer) (o : Offer) → AllByRecursion (λ w. router_of w ≡ u) os → router_of o ≡ u → AllByRecursion (λ w. router_of w ≡ u) (os ++ o ∷ [])
all_of u [] o h e = (e, tt)
all_of u (x ∷ xs) o h e = (h.0, all_of u xs o h.1 e)
