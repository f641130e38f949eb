-- How the groups of rows become those of further rows too. No public contract cites this file.
use Rattle.std.specs.Prelude.{◌≡◌, ◌+◌, List, ◌++◌, length}
use Rattle.pj_expr.specs.declared.query.Item.{Item}
use Rattle.pj_expr.specs.declared.query.Query.{Query}
use Rattle.pj_answer.specs.Answers.{Row}
use Rattle.pj_group.specs.declared.forms.Form.{Form}
use Rattle.pj_group.specs.declared.numbers.Numbers.{Numbers}
use Rattle.pj_group.specs.Standing.{HoldsGroups}
use Rattle.pj_group.specs.Slots.{AreWithin, Grow, IsItemOf}

-- these numbers say of which groups the further rows are
pub record Regroups (q : Query) (numbers : Numbers) (kept more : List Row) (old : List (List Row)) (form : Form)
    : Type 0 where
  pub groups : List (List Row)
  pub divided : HoldsGroups q (kept ++ more) form groups
  pub grow : Grow q numbers more old groups
  pub len : length groups ≡ length old + length numbers.openings.items
  pub within : (item : Item) → IsItemOf q item → AreWithin (length groups) (length more) item numbers
