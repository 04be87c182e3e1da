-- Kept paths by their look-up.
use Rattle.std.proofs.Common.{◌≡◌, true, false, [], ◌∷◌, refl}
use Rattle.std.proofs.lemmas.Bool.{cond-true, cond-false}
use Rattle.prefix_lanes.specs.Bits.{PrefixView, is_prefix}
use Rattle.rib_tables.specs.Tables.{Kept}
use Rattle.rib_tables.specs.Tables.{Paths, path_of}

pub path_of-first : (k : Kept) (ks : Paths) (q : PrefixView) → is_prefix k.prefix q ≡ true → path_of (k ∷ ks) q ≡ k.path
unfolding path_of
path_of-first k ks q t = cond-true (is_prefix k.prefix q) k.path (path_of ks q) t

pub path_of-next : (k : Kept) (ks : Paths) (q : PrefixView) → is_prefix k.prefix q ≡ false → path_of (k ∷ ks) q ≡ path_of ks q
unfolding path_of
path_of-next k ks q f = cond-false (is_prefix k.prefix q) k.path (path_of ks q) f

pub path_of-nil : (q : PrefixView) → path_of [] q ≡ []
unfolding path_of
path_of-nil q = refl
