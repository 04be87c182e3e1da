-- When two recordings of routers are the same.
use Rattle.std.specs.Prelude.{◌≡◌, true, Bool}

-- the answer is yes only if the two are equal
abbrev pub Tells : {A : Type 0} → Bool → A → A → Type 0
Tells answer x y = answer ≡ true → x ≡ y
