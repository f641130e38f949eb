-- What a part consists of, live or not: its base, its mask and its copies.
use Rattle.std.specs.Prelude.{◌≡◌, ℕ, ◌==◌, Option, Some, None, List, [], ◌++◌, filter, filter_map, Any}
use Rattle.std.specs.Prelude.{option_map, unwrap_or}
use Rattle.std.specs.List.{list_any}
use Rattle.std.specs.Arc.{arc_value}
use Rattle.std.specs.declared.sync.Arc.{Arc}
use Rattle.pj_part.specs.declared.part.Sorted.{Sorted}
use Rattle.pj_part.specs.declared.part.Piece.{Piece}
use Rattle.pj_part.specs.declared.part.PieceId.{PieceId}
use Rattle.pj_part.specs.declared.part.PieceId.TheVariants as ids
use Rattle.pj_part.specs.declared.part.Part.{Part}
use Rattle.pj_part.specs.declared.draft.MaskChange.{MaskChange}
use Rattle.pj_part.specs.declared.draft.MaskChange.TheVariants as masks
use Rattle.pj_part.specs.declared.draft.NewSide.{NewSide}
use Rattle.pj_part.specs.declared.draft.PartDraft.{PartDraft}

-- the sorted rows of a part
pub record Laid (B : Type 0) : Type 0 where
  pub base : Sorted B
  pub mask : Option (Sorted B)
  pub sides : List (NewSide B)

module _ {B : Type 0} where
  -- sorted rows as a copy, where their piece is one
  abbrev pub copy_of : PieceId → Sorted B → Option (NewSide B)
  copy_of ids.Base sorted = None
  copy_of ids.Mask sorted = None
  copy_of (ids.Side id) sorted = Some (record { id = id; sorted = sorted })

  -- the piece of a part that is shared
  abbrev pub piece_in : {Z : Type 0} → Arc (Piece B) Z → Piece B
  piece_in shared = arc_value shared

  -- what a part consists of
  abbrev pub laid_of : Part B → Laid B
  laid_of part = record {
    base = (piece_in part.base).sorted;
    mask = option_map (λ mask. (piece_in mask).sorted) part.mask;
    sides = filter_map (λ side. copy_of (piece_in side).id (piece_in side).sorted) part.sides;
  }

  -- a part has a copy of the projection with this number
  abbrev pub HasSide : Part B → ℕ → Type 0
  HasSide part id = Any (λ side. (piece_in side).id ≡ ids.Side id) part.sides

  -- a base alone
  abbrev pub alone : Sorted B → Laid B
  alone base = record { base = base; mask = None; sides = [] }

  -- the mask after a change
  abbrev pub mask_after : MaskChange B → Option (Sorted B) → Option (Sorted B)
  mask_after masks.Same mask = mask
  mask_after masks.Gone mask = None
  mask_after (masks.New fresh) mask = Some fresh

  -- a draft, laid over its source
  abbrev pub laid_over : Laid B → PartDraft B → Laid B
  laid_over source draft = record {
    base = unwrap_or draft.base source.base;
    mask = mask_after draft.mask source.mask;
    sides = filter (λ side. list_any (λ id. id == side.id) draft.kept) source.sides ++ draft.built;
  }
