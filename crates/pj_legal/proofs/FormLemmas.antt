-- What the forms of a statement have in common.
use Rattle.std.proofs.Common.{◌≡◌, Bool, List, map, sym, refl, subst, inl, inr}
use Rattle.std.specs.List.{AllByRecursion}
use Rattle.pj_journal.specs.declared.entry.What.{What}
use Rattle.pj_journal.specs.declared.entry.Entry.{Entry}
use Rattle.pj_journal.specs.Moves.{Move}
use Rattle.pj_bind.specs.declared.types.Bound.{Bound}
use Rattle.pj_bind.specs.declared.types.Bound.TheVariants as bounds
use Rattle.pj_legal.specs.Statements.{Request}
use Rattle.pj_legal.specs.Forms.{Course, entry_of, BoundForm}
use Rattle.pj_legal.specs.Forms.{IsLeftOpen, HasOneMove, StopsAfter, Form}

-- each entry is a move of the statement
abbrev pub AreOf : Request → List Entry → Type 0
AreOf request es = AllByRecursion (λ e. e ≡ entry_of request e.what) es

-- each of the moves is of the statement
abbrev pub MovesAreOf : Request → List Move → Type 0
MovesAreOf request ms = AreOf request (map (λ m. m.entry) ms)

MovesAreOf-bound : (told : Bool) (place : List Entry) (request : Request) (bound : Bound) (course : Course)
    → BoundForm told place request bound course → MovesAreOf request course.moves
MovesAreOf-bound told place request (bounds.Create table) course form =
    subst (MovesAreOf request) (sym form.0) (refl, tt)
MovesAreOf-bound told place request (bounds.Insert table rows) course form =
    subst (MovesAreOf request) (sym form.2) (refl, (refl, tt))
MovesAreOf-bound told place request (bounds.Select table query) course form =
    subst (MovesAreOf request) (sym form.3) (refl, tt)

MovesAreOf-one : (sort : Bound → What → Type 0) (request : Request) (course : Course)
    → HasOneMove sort request course → MovesAreOf request course.moves
MovesAreOf-one sort request course one = subst (MovesAreOf request) (sym one.5) (refl, tt)

MovesAreOf-stops : (sort : Bound → What → Type 0) (request : Request) (course : Course)
    → StopsAfter sort request course → MovesAreOf request course.moves
MovesAreOf-stops sort request course (inl none) = subst (MovesAreOf request) (sym none) tt
MovesAreOf-stops sort request course (inr one) = MovesAreOf-one sort request course one

MovesAreOf-open : (request : Request) (course : Course) → IsLeftOpen request course
    → MovesAreOf request course.moves
MovesAreOf-open request course left = elim left.stopped [
  | inl refused ↦ subst (MovesAreOf request) (sym refused.3) (refl, tt)
  | inr stops ↦ MovesAreOf-stops _ request course stops
]

-- the moves of a statement are its own
pub MovesAreOf-form : (told : Bool) (request : Request) (course : Course) → Form told request course
    → MovesAreOf request course.moves
MovesAreOf-form told request course (inl refused) =
    subst (MovesAreOf request) (sym refused.moves) (refl, tt)
MovesAreOf-form told request course (inr (inl done)) =
    MovesAreOf-bound told done.place request done.bound course done.form
MovesAreOf-form told request course (inr (inr (inl starved))) =
    MovesAreOf-stops _ request course starved.stopped
MovesAreOf-form told request course (inr (inr (inr (inl out)))) =
    MovesAreOf-stops _ request course out.stopped
MovesAreOf-form told request course (inr (inr (inr (inr (inl faulted))))) =
    MovesAreOf-one _ request course faulted.stopped
MovesAreOf-form told request course (inr (inr (inr (inr (inr (inl damaged)))))) =
    subst (MovesAreOf request) (sym damaged.moves) (refl, tt)
MovesAreOf-form told request course (inr (inr (inr (inr (inr (inr left)))))) =
    MovesAreOf-open request course left
