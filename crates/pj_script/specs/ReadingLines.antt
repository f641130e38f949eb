-- How script lines are read. No public contract cites this file.
use Rattle.std.specs.Prelude.{◌≡◌, ℕ, ◌+◌, ◌-◌, Bool, true, false, ◌||◌, ◌&&◌, not, List, [], ◌∷◌}
use Rattle.std.specs.Prelude.{◌++◌, length, take, drop, Option, Some, None, Result, Ok, Err, nat_lt}
use Rattle.std.specs.Prelude.{◌==◌, if◌then◌else◌, codes, position, option_to_list, bytes_eq}
use Rattle.std.specs.List.{prefix_len, suffix_len}
use Rattle.pj_script.specs.declared.types.ScriptMode.{ScriptMode}
use Rattle.pj_script.specs.declared.types.Act.TheVariants.{Whole}
use Rattle.pj_script.specs.declared.types.ScriptLine.{ScriptLine}
use Rattle.pj_script.specs.declared.types.Script.{Script}
use Rattle.pj_script.specs.declared.lines.ScriptFault.{ScriptFault}
use Rattle.pj_script.specs.declared.lines.ScriptFault.TheVariants.{BadLine, NoMemory}
use Rattle.pj_lex.specs.Bytes.{is_blank, is_small, after_blanks}
use Rattle.pj_script.specs.Lines.{pieces, is_name_byte, names_limit}

infixl 10 ◌>>=◌
-- one reader after another, up to the first bad line
abbrev pub ◌>>=◌ : {A B : Type 0} → Result A ℕ → (A → Result B ℕ) → Result B ℕ
(Ok x) >>= f = f x
(Err n) >>= f = Err n

-- what a function refused is what reading refuses, unless it was out of memory
abbrev pub Fails : {Y : Type 0} → ScriptFault → Result Y ℕ → Type 0
Fails (BadLine n) read = read ≡ Err n
Fails NoMemory read = Unit {0}

-- what a function returned, seen by view, is what reading gives, unless it was out of memory
abbrev pub Gives : {X Y : Type 0} → (X → Y) → Result X ScriptFault → Result Y ℕ → Type 0
Gives view (Ok x) read = read ≡ Ok (view x)
Gives view (Err fault) read = Fails fault read

-- the value, or the number of a bad line
abbrev pub or_bad : {A : Type 0} → ℕ → Option A → Result A ℕ
or_bad at None = Err at
or_bad at (Some x) = Ok x

-- the bytes before the blanks at the end
abbrev pub before_blanks : List ℕ → List ℕ
before_blanks bytes = take (length bytes - suffix_len is_blank bytes) bytes

-- nothing, or a comment
abbrev pub is_empty_or_comment : List ℕ → Bool
is_empty_or_comment [] = true
is_empty_or_comment (b ∷ bs) = b == 35

-- whether a piece is skipped
abbrev pub is_skipped : List ℕ → Bool
is_skipped piece = is_empty_or_comment (after_blanks piece)

-- whether bytes that may stand in a name are one
abbrev pub is_name : List ℕ → Bool
is_name [] = false
is_name (b ∷ bs) = is_small b && nat_lt (length bs) 32

-- the rest behind a colon, with the name before it
abbrev pub behind_colon : List ℕ → List ℕ → Option (List ℕ × List ℕ)
behind_colon name [] = None
behind_colon name (b ∷ bs) = if b == 58 then Some (name, bs) else None

-- the name that bytes begin with, and the rest behind its colon
unfoldable pub name_and_rest : List ℕ → Option (List ℕ × List ℕ)
name_and_rest bytes =
    let word = take (prefix_len is_name_byte bytes) bytes in
    let behind = after_blanks (drop (prefix_len is_name_byte bytes) bytes) in
    if is_name word then behind_colon word behind else None

-- nothing, or a blank and more
abbrev pub is_empty_or_blank : List ℕ → Bool
is_empty_or_blank [] = true
is_empty_or_blank (b ∷ bs) = is_blank b

-- whether the bytes are `start`, alone or with a blank behind it
abbrev pub begins_start : List ℕ → Bool
begins_start bytes = bytes_eq (take 5 bytes) (codes "start") && is_empty_or_blank (drop 5 bytes)

-- whether bytes without blanks at their ends are a body
abbrev pub is_body : List ℕ → Bool
is_body bytes = not (length bytes == 0 || bytes_eq bytes (codes "finish") || begins_start bytes)

-- the body that a rest has between its blanks
unfoldable pub body_of : List ℕ → Option (List ℕ)
body_of rest =
    let body = before_blanks (after_blanks rest) in
    if is_body body then Some body else None

-- the names with this one, and its number, by the index where it stands
abbrev pub number_by : ScriptMode → ℕ → List (List ℕ) → List ℕ → Option ℕ → Result (List (List ℕ) × ℕ) ℕ
number_by mode at names name (Some known) = Ok (names, known)
number_by mode at names name None =
    if nat_lt (length names) (names_limit mode) then Ok (names ++ name ∷ [], length names) else Err at

-- the names with this one, and its number
unfoldable pub numbered : ScriptMode → ℕ → List (List ℕ) → List ℕ → Result (List (List ℕ) × ℕ) ℕ
numbered mode at names name = number_by mode at names name (position (λ known. bytes_eq known name) names)

-- the names behind a piece, and its line, if it isn't skipped
unfoldable pub line_at : ScriptMode → ℕ → List (List ℕ) → List ℕ
    → Result (List (List ℕ) × Option ScriptLine) ℕ
line_at mode at names piece = if is_skipped piece then Ok (names, None) else (do
  x ← or_bad at (name_and_rest (after_blanks piece))
  body ← or_bad at (body_of x.1)
  n ← numbered mode at names x.0
  Ok (n.0, Some (record { line = at; name = n.1; act = Whole body })))

-- the names behind pieces, and their lines
unfoldable pub lines_at : ScriptMode → ℕ → List (List ℕ) → List (List ℕ)
    → Result (List (List ℕ) × List ScriptLine) ℕ
lines_at mode at names [] = Ok (names, [])
lines_at mode at names (piece ∷ more) = do
  x ← line_at mode at names piece
  y ← lines_at mode (at + 1) x.0 more
  Ok (y.0, option_to_list x.1 ++ y.1)

-- the script that the bytes spell
unfoldable pub script_of : ScriptMode → List ℕ → Result Script ℕ
script_of mode bytes = do
  x ← lines_at mode 1 [] (pieces bytes)
  Ok (record { names = x.0; lines = x.1 })
