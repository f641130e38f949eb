-- What the server holds of a table. No public contract cites this file.
use Rattle.std.specs.Prelude.{◌≡◌, ℕ, ◌+◌, Some, None, [], ◌∷◌, ◌++◌}
use Rattle.std.specs.Arc.{arc_value}
use Rattle.pj_part.specs.declared.part.Part.{Part}
use Rattle.pj_part.specs.declared.part.PieceId.TheVariants.{Base}
use Rattle.pj_part.specs.declared.draft.PartDraft.{PartDraft}
use Rattle.pj_part.specs.Laid.{laid_of}
use Rattle.pj_server.specs.declared.store.Store.{Store}

module _ {B : Type 0} where
  -- the part that an INSERT makes of a draft: of one block, never merged, without mutations, mask or copies
  pub record IsInserted (draft : PartDraft B) (number block : ℕ) (part : Part B) : Type 0 where
    pub number_is : part.number ≡ number
    pub home : (arc_value part.base).home ≡ number
    pub id : (arc_value part.base).id ≡ Base
    pub min : part.min ≡ block
    pub max : part.max ≡ block
    pub level : part.level ≡ 0
    pub field : part.field ≡ 0
    pub base : draft.base ≡ Some (laid_of part).base
    pub unmasked : part.mask ≡ None
    pub copies : part.sides ≡ []

  -- a store with one part more, and the next number after it
  pub record IsAppended (part : Part B) (old new : Store B) : Type 0 where
    pub parts_are : new.parts.items ≡ old.parts.items ++ part ∷ []
    pub next_is : new.next ≡ old.next + 1

  -- a store whose parts and next number stayed
  pub record IsSame (old new : Store B) : Type 0 where
    pub parts_are : new.parts.items ≡ old.parts.items
    pub next_is : new.next ≡ old.next
