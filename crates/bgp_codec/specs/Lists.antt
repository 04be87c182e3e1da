-- The items of a list, wherever they lie.
use Rattle.std.specs.Prelude.{List}
use Rattle.bgp_codec.specs.declared.items.Room.{Room}
use Rattle.bgp_codec.specs.declared.items.Room.TheVariants.{One, Block}

module _ {T : Type 0} where
  abbrev pub items_in : Room T → List T
  items_in (One items) = items
  items_in (Block items) = items.items

  -- whether the items lie in a block of memory
  abbrev pub IsBlock : Room T → Type 0
  IsBlock (One items) = ⊥
  IsBlock (Block items) = Unit {0}
