-- Moves, and those that an actor makes for a line.
use Rattle.std.proofs.Common.{◌≡◌, ℕ, ◌<◌, ◌≤◌, ◌++◌, Bool, true, false, cond, List, [], ◌∷◌, map}
use Rattle.std.proofs.Common.{sym, refl, ap, ◌∙◌, arith, append-nil, append_assoc}
use Rattle.std.specs.Prelude.{◌==◌, filter}
use Rattle.std.specs.List.{AllByRecursion}
use Rattle.std.proofs.lemmas.Bool.{eq-eqb, ne_eqb}
use Rattle.std.proofs.lemmas.List.Elements.{filter-append}
use Rattle.pj_journal.specs.declared.entry.Actor.{Actor}
use Rattle.pj_journal.specs.declared.entry.Entry.{Entry}
use Rattle.pj_journal.specs.Moves.{Move, moves_from, is_by, moves_by, for_line}
use Rattle.pj_legal.specs.Shares.{NeverFall, lines_of}
use Rattle.pj_legal.specs.Joining.{AreNotBy}

-- each entry is on the line
abbrev pub AreOn : ℕ → List Entry → Type 0
AreOn line es = AllByRecursion (λ e. e.line ≡ line) es

-- no entry is on the line
abbrev pub AreOff : ℕ → List Entry → Type 0
AreOff line es = AllByRecursion (λ e. e.line ≡ line → ⊥) es

-- each entry is on this line or one before it
abbrev pub AreUpTo : ℕ → List Entry → Type 0
AreUpTo low es = AllByRecursion (λ e. e.line ≤ low) es

-- each entry is on a line behind this one
abbrev pub AreBehind : ℕ → List Entry → Type 0
AreBehind low es = AllByRecursion (λ e. low < e.line) es

-- each entry is of the actor
abbrev pub AreBy : Actor → List Entry → Type 0
AreBy actor es = AllByRecursion (λ e. is_by actor e ≡ true) es

-- the lines of entries
abbrev pub lines : List Entry → List ℕ
lines es = map (λ e. e.line) es

-- whether a move is of the actor
abbrev pub moved_by : Actor → Move → Bool
moved_by actor move = is_by actor move.entry

-- ---- lists of moves

pub moves_from-append : (place xs ys : List Entry)
    → moves_from place (xs ++ ys) ≡ moves_from place xs ++ moves_from (place ++ xs) ys
moves_from-append place [] ys = ap (λ p. moves_from p ys) (sym (append-nil place))
moves_from-append place (x ∷ xs) ys =
    let here : Move = record { place = place; entry = x } in
    let next : List Entry = place ++ x ∷ [] in
    ap (λ (ms : List Move). here ∷ ms)
    (moves_from-append next xs ys
    ∙ ap (λ (p : List Entry). moves_from next xs ++ moves_from p ys) (append_assoc place (x ∷ []) xs))

-- the entries of moves
pub entries-moves_from : (place es : List Entry) → map (λ m. m.entry) (moves_from place es) ≡ es
entries-moves_from place [] = refl
entries-moves_from place (e ∷ es) = ap (λ xs. e ∷ xs) (entries-moves_from (place ++ e ∷ []) es)

-- the moves of an actor are those in a prefix, and those behind it
pub moves_by-append : (actor : Actor) (h more : List Entry)
    → moves_by actor (h ++ more) ≡ moves_by actor h ++ filter (moved_by actor) (moves_from h more)
moves_by-append actor h more =
    ap (filter (moved_by actor)) (moves_from-append [] h more)
    ∙ filter-append (moved_by actor) (moves_from [] h) (moves_from h more)

-- there are none where no entry is of the actor
pub filter-not_by : (actor : Actor) (place es : List Entry) → AreNotBy actor es
    → filter (moved_by actor) (moves_from place es) ≡ []
filter-not_by actor place [] none = refl
filter-not_by actor place (e ∷ es) none =
    let here : Move = record { place = place; entry = e } in
    let rest : List Move = filter (moved_by actor) (moves_from (place ++ e ∷ []) es) in
    ap (λ b. cond b (here ∷ rest) rest) none.0 ∙ filter-not_by actor (place ++ e ∷ []) es none.1

-- and all where each is
pub filter-by : (actor : Actor) (place es : List Entry) → AreBy actor es
    → filter (moved_by actor) (moves_from place es) ≡ moves_from place es
filter-by actor place [] all = refl
filter-by actor place (e ∷ es) all =
    let here : Move = record { place = place; entry = e } in
    let rest : List Move = filter (moved_by actor) (moves_from (place ++ e ∷ []) es) in
    ap (λ b. cond b (here ∷ rest) rest) all.0
    ∙ ap (λ (ms : List Move). here ∷ ms) (filter-by actor (place ++ e ∷ []) es all.1)

-- a longer history has the same moves of an actor who makes no more
pub moves_by-more : (actor : Actor) (h more : List Entry) → AreNotBy actor more
    → moves_by actor (h ++ more) ≡ moves_by actor h
moves_by-more actor h more none =
    moves_by-append actor h more
    ∙ ap (λ (ms : List Move). moves_by actor h ++ ms) (filter-not_by actor h more none)
    ∙ append-nil (moves_by actor h)

-- ---- moves for a line

for_line-step : (line : ℕ) (m : Move) (b : Bool) (ms : List Move) → (m.entry.line ≡ line → ⊥)
    → for_line line ms ≡ [] → for_line line (cond b (m ∷ ms) ms) ≡ []
for_line-step line m true ms off none =
    ap (λ b. cond b (m ∷ for_line line ms) (for_line line ms)) (ne_eqb m.entry.line line off) ∙ none
for_line-step line m false ms off none = none

-- none is for a line where no entry is on it
pub for_line-off : (line : ℕ) (actor : Actor) (place es : List Entry) → AreOff line es
    → for_line line (filter (moved_by actor) (moves_from place es)) ≡ []
for_line-off line actor place [] off = refl
for_line-off line actor place (e ∷ es) off =
    let here : Move = record { place = place; entry = e } in
    for_line-step line here (moved_by actor here)
    (filter (moved_by actor) (moves_from (place ++ e ∷ []) es)) off.0
    (for_line-off line actor (place ++ e ∷ []) es off.1)

-- all are where each is on it
for_line-on : (line : ℕ) (place es : List Entry) → AreOn line es
    → for_line line (moves_from place es) ≡ moves_from place es
for_line-on line place [] on = refl
for_line-on line place (e ∷ es) on =
    let here : Move = record { place = place; entry = e } in
    let rest : List Move = for_line line (moves_from (place ++ e ∷ []) es) in
    ap (λ b. cond b (here ∷ rest) rest) (eq-eqb e.line line on.0)
    ∙ ap (λ (ms : List Move). here ∷ ms) (for_line-on line (place ++ e ∷ []) es on.1)

-- an actor's moves for a line, among entries that are off it
pub for_line-middle : (line : ℕ) (actor : Actor) (place added new h : List Entry) → AreOff line place
    → AreOn line added → AreBy actor added → AreOff line new → h ≡ (place ++ added) ++ new
    → for_line line (moves_by actor h) ≡ moves_from place added
for_line-middle line actor place added new h before on by behind grown =
    ap (λ (es : List Entry). for_line line (moves_by actor es)) grown
    ∙ ap (for_line line) (moves_by-append actor (place ++ added) new)
    ∙ filter-append test (moves_by actor (place ++ added)) last
    ∙ ap (λ (ms : List Move). for_line line (moves_by actor (place ++ added)) ++ ms)
    (for_line-off line actor (place ++ added) new behind)
    ∙ append-nil (for_line line (moves_by actor (place ++ added)))
    ∙ ap (for_line line) (moves_by-append actor place added)
    ∙ filter-append test (moves_by actor place) (filter (moved_by actor) (moves_from place added))
    ∙ ap (λ (ms : List Move). ms ++ for_line line (filter (moved_by actor) (moves_from place added)))
    (for_line-off line actor [] place before)
    ∙ ap (for_line line) (filter-by actor place added by)
    ∙ for_line-on line place added on
  where
    test : Move → Bool
    test move = move.entry.line == line

    last : List Move
    last = filter (moved_by actor) (moves_from (place ++ added) new)

-- ---- entries by their lines

pub AreOff-up_to : (low line : ℕ) (es : List Entry) → low < line → AreUpTo low es → AreOff line es
AreOff-up_to low line [] below all = tt
AreOff-up_to low line (e ∷ es) below all =
    ((λ same. omega (arith, all.0)), AreOff-up_to low line es below all.1)

pub AreOff-behind : (line : ℕ) (es : List Entry) → AreBehind line es → AreOff line es
AreOff-behind line [] all = tt
AreOff-behind line (e ∷ es) all = ((λ same. omega (arith, all.0)), AreOff-behind line es all.1)

pub AreUpTo-append : (low line : ℕ) (xs ys : List Entry) → low ≤ line → AreUpTo low xs → AreOn line ys
    → AreUpTo line (xs ++ ys)
AreUpTo-append low line [] [] le all on = tt
AreUpTo-append low line [] (y ∷ ys) le all on =
    (omega (arith, on.0), AreUpTo-append low line [] ys le all on.1)
AreUpTo-append low line (x ∷ xs) ys le all on =
    (omega (arith, all.0), AreUpTo-append low line xs ys le all.1 on)

pub AreBehind-append : (low line : ℕ) (xs ys : List Entry) → low < line → AreOn line xs → AreBehind line ys
    → AreBehind low (xs ++ ys)
AreBehind-append low line [] [] lt on all = tt
AreBehind-append low line [] (y ∷ ys) lt on all =
    (omega (arith, all.0), AreBehind-append low line [] ys lt on all.1)
AreBehind-append low line (x ∷ xs) ys lt on all =
    (omega (arith, on.0), AreBehind-append low line xs ys lt on.1 all)

-- ---- lines that never fall

NeverFall-weaken : (low line : ℕ) (ls : List ℕ) → low ≤ line → NeverFall line ls → NeverFall low ls
NeverFall-weaken low line [] le falls = tt
NeverFall-weaken low line (l ∷ ls) le falls = (omega (arith, falls.0), falls.1)

-- entries on a line, and more whose lines never fall from it on
pub NeverFall-append : (low line : ℕ) (xs ys : List Entry) → low ≤ line → AreOn line xs
    → NeverFall line (lines ys) → NeverFall low (lines (xs ++ ys))
NeverFall-append low line [] ys le on falls = NeverFall-weaken low line (lines ys) le falls
NeverFall-append low line (x ∷ xs) ys le on falls =
    (omega (arith, on.0), NeverFall-append x.line line xs ys (omega (arith, on.0)) on.1 falls)

NeverFall-step : (low : ℕ) (m : Move) (b : Bool) (ms : List Move) → low ≤ m.entry.line
    → NeverFall m.entry.line (lines_of ms) → NeverFall low (lines_of (cond b (m ∷ ms) ms))
NeverFall-step low m true ms le falls = (le, falls)
NeverFall-step low m false ms le falls = NeverFall-weaken low m.entry.line (lines_of ms) le falls

-- the lines of an actor's moves never fall where those of all entries don't
pub NeverFall-filter : (low : ℕ) (actor : Actor) (place es : List Entry) → NeverFall low (lines es)
    → NeverFall low (lines_of (filter (moved_by actor) (moves_from place es)))
NeverFall-filter low actor place [] falls = tt
NeverFall-filter low actor place (e ∷ es) falls =
    let here : Move = record { place = place; entry = e } in
    NeverFall-step low here (moved_by actor here)
    (filter (moved_by actor) (moves_from (place ++ e ∷ []) es)) falls.0
    (NeverFall-filter e.line actor (place ++ e ∷ []) es falls.1)
