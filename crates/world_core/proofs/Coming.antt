-- What a router takes next from a peer.
use Rattle.std.proofs.Common.{◌≡◌, ◌∙◌, ℕ, ◌<◌, ◌≤◌, List, length, get_or, ap, inl, Bor}
use Rattle.std.specs.Prelude.{Option, Some, None, slice_get, IfSome, MatchOption}
use Rattle.outbox.specs.declared.item.Item.{Item}
use Rattle.world_core.specs.Views.{WorldView, pipes_of, comes_next, NothingComes}
use Rattle.world_core.proofs.Quiet.{empty_is}
use Rattle.world_core.proofs.RouterAnswers.{front_is}

first_of : (items : List Item) (r : Option (Bor Item)) (P : Bor Item → Type 0) → IfSome r (λ i. i.now ≡ get_or items 0 i.now) → MatchOption r (length items ≤ 0) (λ i. (0 < length items) × P i)
    → MatchOption r (slice_get items 0 ≡ None) (λ i. slice_get items 0 ≡ Some i.now)
first_of items None P is at = ap (λ (all : List Item). slice_get all 0) (empty_is items at)
first_of items (Some i) P is at = front_is items i.now at.0 is

coming_by : (x : WorldView) (u v : ℕ) (items : List Item) (r : Option (Bor Item)) → pipes_of x.inboxes v u ≡ items → MatchOption r (slice_get items 0 ≡ None) (λ i. slice_get items 0 ≡ Some i.now)
    → MatchOption r (NothingComes x u v) (λ i. comes_next x u v ≡ Some i.now)
coming_by x u v items None are h = inl (ap (λ (all : List Item). slice_get all 0) are ∙ h)
coming_by x u v items (Some i) are h = ap (λ (all : List Item). slice_get all 0) are ∙ h

-- the front of the pipe from a peer comes next
pub coming : (x : WorldView) (u v : ℕ) (items : List Item) (r : Option (Bor Item)) (P : Bor Item → Type 0) → pipes_of x.inboxes v u ≡ items → IfSome r (λ i. i.now ≡ get_or items 0 i.now)
    → MatchOption r (length items ≤ 0) (λ i. (0 < length items) × P i) → MatchOption r (NothingComes x u v) (λ i. comes_next x u v ≡ Some i.now)
coming x u v items r P are is at = coming_by x u v items r are (first_of items r P is at)
