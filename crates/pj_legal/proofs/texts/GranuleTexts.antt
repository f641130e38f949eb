-- The texts of parts and of damaged granules: they are lines, and tell what they are of.
use Rattle.std.proofs.Common.{◌≡◌, ℕ, ◌<◌, ◌^◌, ◌++◌, zero, suc, List, ◌∷◌, sym, refl, ap, ◌∙◌, arith}
use Rattle.std.proofs.Common.{append-nil, append_assoc}
use Rattle.std.specs.Prelude.{codes, slice_index}
use Rattle.std.specs.Fmt.{decimal}
use Rattle.std.proofs.lemmas.List.{append_cancel_left}
use Rattle.std.proofs.lemmas.Fmt.{decimal_injective}
use Rattle.pj_bind.specs.declared.types.PartName.{PartName}
use Rattle.pj_bind.specs.declared.types.SourceName.{SourceName}
use Rattle.pj_bind.specs.declared.types.SourceName.TheVariants as sources
use Rattle.pj_bind.specs.declared.types.Refusal.TheVariants.{Damaged}
use Rattle.pj_legal.specs.Texts.{name_number, name_field, part_text, source_text}
use Rattle.pj_legal.specs.Laws.{IsSmallName, HasSmallOffset}
use Rattle.pj_legal.proofs.texts.FreeTexts.{IsNoDigit, IsFree, IsFree-append, IsFree-number, IsFree-decimal}
use Rattle.pj_legal.proofs.texts.FreeTexts.{IsFree-high, parts_are_same, one_is_free}

-- ---- no line feed, and no blank in a name

-- what parts the numbers of a part's name is no digit
no_digit : IsNoDigit 95
no_digit b first last same = omega (arith, last, same)

-- no byte below the letters and digits in the name of a part
IsFree-name_number : (c n : ℕ) → c < 48 → IsFree c (name_number n)
IsFree-name_number c n low = ((λ same. omega (arith, low, same)), IsFree-decimal c n low)

IsFree-name_field : (c n : ℕ) → c < 48 → IsFree c (name_field n)
IsFree-name_field c zero low = tt
IsFree-name_field c (suc n) low = IsFree-name_number c (suc n) low

IsFree-part : (c : ℕ) (part : PartName) → c < 48 → IsFree c (part_text part)
IsFree-part c part low =
    IsFree-append c
    (((codes "all" ++ name_number part.min) ++ name_number part.max) ++ name_number part.level)
    (name_field part.field)
    (IsFree-append c ((codes "all" ++ name_number part.min) ++ name_number part.max) (name_number part.level)
    (IsFree-append c (codes "all" ++ name_number part.min) (name_number part.max)
    (IsFree-append c (codes "all") (name_number part.min) (IsFree-high c (codes "all") low (omega arith))
    (IsFree-name_number c part.min low))
    (IsFree-name_number c part.max low))
    (IsFree-name_number c part.level low))
    (IsFree-name_field c part.field low)

-- nor in that of a piece
IsFree-source : (c : ℕ) (source : SourceName) → c < 48 → IsFree c (source_text source)
IsFree-source c sources.Base low = IsFree-high c (codes "base") low (omega arith)
IsFree-source c sources.Mask low = IsFree-high c (codes "mask") low (omega arith)

-- what tells a granule: its part, its piece, its column, its number, and an offset
abbrev pub granule_text : PartName → SourceName → ℕ → ℕ → ℕ → List ℕ
granule_text part source column granule at =
    part_text part ++
    (32
    ∷ (source_text source ++ (32 ∷ (decimal column ++ (32 ∷ (decimal granule ++ (32 ∷ decimal at)))))))

pub IsFree-granule : (part : PartName) (source : SourceName) (column granule at : ℕ)
    → IsFree 10 (granule_text part source column granule at)
IsFree-granule part source column granule at =
    IsFree-append 10 (part_text part) _ (IsFree-part 10 part low) (
      omega arith,
      IsFree-append 10 (source_text source) _ (IsFree-source 10 source low) (
        omega arith,
        IsFree-append 10 (decimal column) _ (IsFree-decimal 10 column low) (
          omega arith,
          IsFree-append 10 (decimal granule) _ (IsFree-decimal 10 granule low)
              (omega arith, IsFree-decimal 10 at low),
        ),
      ),
    )
  where
    low : 10 < 48
    low = omega arith

-- ---- they tell what they are of

-- the end of a part's name tells its level and its field
level_same : (l m f g : ℕ) → l < 2 ^ 64 → m < 2 ^ 64 → f < 2 ^ 64 → g < 2 ^ 64
    → decimal l ++ name_field f ≡ decimal m ++ name_field g → (l ≡ m) × (f ≡ g)
level_same l m zero zero few many small low same = (
  decimal_injective l m few many (sym (append-nil (decimal l)) ∙ same ∙ append-nil (decimal m)),
  refl,
)
level_same l m zero (suc g) few many small low same =
    absurd (one_is_free 95 (decimal l) (decimal m) (decimal (suc g)) (IsFree-number 95 l no_digit)
    (sym (append-nil (decimal l)) ∙ same))
level_same l m (suc f) zero few many small low same =
    absurd (one_is_free 95 (decimal m) (decimal l) (decimal (suc f)) (IsFree-number 95 m no_digit)
    (sym (append-nil (decimal m)) ∙ sym same))
level_same l m (suc f) (suc g) few many small low same =
    let parts = parts_are_same 95 (decimal l) (decimal m) (decimal (suc f)) (decimal (suc g))
    (IsFree-number 95 l no_digit) (IsFree-number 95 m no_digit) same in
    (decimal_injective l m few many parts.0, decimal_injective (suc f) (suc g) small low parts.1)

-- a part's name from its level on, and from its last block on
abbrev from_level : PartName → List ℕ
from_level part = decimal part.level ++ name_field part.field

abbrev from_max : PartName → List ℕ
from_max part = decimal part.max ++ (95 ∷ from_level part)

part_text-parts : (part : PartName)
    → part_text part ≡ codes "all_" ++ (decimal part.min ++ (95 ∷ from_max part))
part_text-parts part =
    in_five (codes "all") (name_number part.min) (name_number part.max) (name_number part.level)
    (name_field part.field)
  where
    in_five : (a b c d e : List ℕ) → (((a ++ b) ++ c) ++ d) ++ e ≡ a ++ (b ++ (c ++ (d ++ e)))
    in_five a b c d e = simp append_assoc

-- the name of a part tells it
part_text-same : (part other : PartName) → IsSmallName part → IsSmallName other
    → part_text part ≡ part_text other → part ≡ other
part_text-same part other few many same =
    let mins = parts_are_same 95 (decimal part.min) (decimal other.min) (from_max part) (from_max other)
    (IsFree-number 95 part.min no_digit) (IsFree-number 95 other.min no_digit)
    (append_cancel_left (codes "all_") (decimal part.min ++ (95 ∷ from_max part))
    (decimal other.min ++ (95 ∷ from_max other))
    (sym (part_text-parts part) ∙ same ∙ part_text-parts other)) in
    let maxs = parts_are_same 95 (decimal part.max) (decimal other.max) (from_level part) (from_level other)
    (IsFree-number 95 part.max no_digit) (IsFree-number 95 other.max no_digit) mins.1 in
    let ends = level_same part.level other.level part.field other.field few.level many.level few.field
    many.field maxs.1 in
    let min : part.min ≡ other.min = decimal_injective part.min other.min few.min many.min mins.0 in
    let max : part.max ≡ other.max = decimal_injective part.max other.max few.max many.max maxs.0 in
    (λ i. record { min = min i; max = max i; level = ends.0 i; field = ends.1 i })

-- the name of a piece tells it, by its first byte
source_text-same : (source other : SourceName) → source_text source ≡ source_text other → source ≡ other
source_text-same sources.Base sources.Base same = refl
source_text-same sources.Mask sources.Mask same = refl
source_text-same source other same = absurd (omega (arith, ap (λ text. slice_index text 0) same))

-- what tells a granule fixes all of it
pub granule_text-same : (part part' : PartName) (source source' : SourceName)
    (column column' granule granule' at at' : ℕ)
    → HasSmallOffset (Damaged part source column granule at)
    → HasSmallOffset (Damaged part' source' column' granule' at')
    → granule_text part source column granule at ≡ granule_text part' source' column' granule' at'
    → Damaged part source column granule at ≡ Damaged part' source' column' granule' at'
granule_text-same part part' source source' column column' granule granule' at at' few many same =
    let parts = parts_are_same 32 (part_text part) (part_text part') _ _ (IsFree-part 32 part low)
    (IsFree-part 32 part' low) same in
    let names = parts_are_same 32 (source_text source) (source_text source') _ _
    (IsFree-source 32 source low) (IsFree-source 32 source' low) parts.1 in
    let columns = parts_are_same 32 (decimal column) (decimal column') _ _
    (IsFree-decimal 32 column low) (IsFree-decimal 32 column' low) names.1 in
    let granules = parts_are_same 32 (decimal granule) (decimal granule') (decimal at) (decimal at')
    (IsFree-decimal 32 granule low) (IsFree-decimal 32 granule' low) columns.1 in
    let first : part ≡ part' = part_text-same part part' few.0 many.0 parts.0 in
    let name : source ≡ source' = source_text-same source source' names.0 in
    let place : column ≡ column' = decimal_injective column column' few.1 many.1 columns.0 in
    let number : granule ≡ granule' = decimal_injective granule granule' few.2 many.2 granules.0 in
    let offset : at ≡ at' = decimal_injective at at' few.3 many.3 granules.1 in
    (λ i. Damaged (first i) (name i) (place i) (number i) (offset i))
  where
    low : 32 < 48
    low = omega arith

-- what stands behind `old` once what tells a granule is put there piece by piece
pub granule_text-put : (old words part blank source column granule at : List ℕ)
    → ((((((old ++ words) ++ part) ++ blank) ++ source) ++ column) ++ granule) ++ at
    ≡ old ++ (words ++ (part ++ (blank ++ (source ++ (column ++ (granule ++ at))))))
granule_text-put old words part blank source column granule at = simp append_assoc
