-- Prefixes of which one comes before the other are not the same.
use Rattle.std.proofs.Common.{◌≡◌, ◌==◌, arith, inl, inr, Bool, true, false, ◌&&◌, refl}
use Rattle.std.proofs.lemmas.Bool.{ne_eqb, true≢false}
use Rattle.prefix_lanes.specs.Bits.{PrefixView, is_prefix}
use Rattle.ranked_policy.specs.Plans.{IsBefore}

no_front : (b c : Bool) → b ≡ false → (b && c) ≡ false
no_front true c h = absurd (true≢false h)
no_front false c h = refl

no_behind : (b c : Bool) → c ≡ false → (b && c) ≡ false
no_behind true c h = h
no_behind false c h = refl

pub before_apart : (p q : PrefixView) → IsBefore p q → is_prefix p q ≡ false
before_apart p q (inl below) = no_front (p.addr == q.addr) (p.len == q.len) (ne_eqb p.addr q.addr (λ e. absurd (omega (arith, e, below))))
before_apart p q (inr level) = let shorter = level.1 in no_behind (p.addr == q.addr) (p.len == q.len) (ne_eqb p.len q.len (λ e. absurd (omega (arith, e, shorter))))
