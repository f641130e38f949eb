-- Which values the states of aggregates keep, as they are laid out. What a state keeps is said in these words
-- (AggStates.antt), and so public contracts cite this file.
use Rattle.std.specs.Prelude.{Option, Some, None, List, map}
use Rattle.pj_value.specs.declared.value.Kind.{Kind}
use Rattle.pj_value.specs.declared.value.Kind.TheVariants as kinds
use Rattle.pj_value.specs.declared.value.Value.{Value}
use Rattle.pj_value.specs.declared.value.Value.TheVariants as values
use Rattle.pj_value.specs.Aggregates.{lesser, greater}
use Rattle.pj_agg.specs.declared.kept.Kept.{Kept}
use Rattle.pj_agg.specs.declared.kept.Kept.TheVariants as kept
use Rattle.pj_agg.specs.declared.kept.End.{End}
use Rattle.pj_agg.specs.declared.kept.End.TheVariants as ends
use Rattle.pj_agg.specs.declared.piles.Piles.{Piles}
use Rattle.pj_agg.specs.declared.piles.Piles.TheVariants as piles

-- ---- the least and the greatest value

-- the value of two that goes first or last in the order
abbrev pub chosen : End → Value → Value → Value
chosen ends.Least = lesser
chosen ends.Greatest = greater

-- what there is, chosen from what there was and one more
abbrev pub with_value : (Value → Value → Value) → Option Value → Value → Option Value
with_value choose None v = Some v
with_value choose (Some w) v = Some (choose w v)

-- what there is, chosen from what there was on either side
abbrev pub with_either : (Value → Value → Value) → Option Value → Option Value → Option Value
with_either choose o None = o
with_either choose o (Some v) = with_value choose o v

-- the kind of the values that one is kept of
abbrev pub kept_kind : Kept → Kind
kept_kind (kept.Num held) = kinds.Num
kept_kind (kept.Text held) = kinds.Text

-- the value that is kept
abbrev pub kept_value : Kept → Option Value
kept_value (kept.Num None) = None
kept_value (kept.Num (Some n)) = Some (values.Num n)
kept_value (kept.Text None) = None
kept_value (kept.Text (Some t)) = Some (values.Text t)

-- ---- distinct values

-- the kind of the values that are kept
abbrev pub piles_kind : Piles → Kind
piles_kind (piles.Num pile) = kinds.Num
piles_kind (piles.Text pile) = kinds.Text

-- the values that are kept, some of them more than once
abbrev pub piles_values : Piles → List Value
piles_values (piles.Num pile) = map (λ n. values.Num n) pile.items.items
piles_values (piles.Text pile) = map (λ t. values.Text t) pile.items.items
