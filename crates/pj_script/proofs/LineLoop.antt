-- Reading lines one after the other, as the loop does.
use Rattle.std.proofs.Common.{◌≡◌, ℕ, ◌+◌, List, [], ◌∷◌, ◌++◌, Option, option_to_list}
use Rattle.std.proofs.Common.{Result, Ok, Err, refl, sym, ap, ◌∙◌, append_assoc}
use Rattle.std.proofs.lemmas.List.{append-nil}
use Rattle.pj_script.specs.declared.types.ScriptMode.{ScriptMode}
use Rattle.pj_script.specs.declared.types.ScriptLine.{ScriptLine}
use Rattle.pj_script.specs.declared.lines.ScriptFault.{ScriptFault}
use Rattle.pj_script.specs.declared.lines.ScriptFault.TheVariants as faults
use Rattle.pj_script.specs.Lines.{pieces}
use Rattle.pj_script.specs.ReadingLines.{◌>>=◌, Fails, line_at, lines_at, script_of}

-- the names behind pieces, and their lines
abbrev pub Read : Type 0
Read = Result (List (List ℕ) × List ScriptLine) ℕ

-- the lines that were read before, and what is still read
abbrev pub with_prefix : List ScriptLine → Read → Read
with_prefix prefix read = read >>= λ x. Ok (x.0, prefix ++ x.1)

pub with_prefix-nil : (read : Read) → with_prefix [] read ≡ read
with_prefix-nil (Ok x) = refl
with_prefix-nil (Err n) = refl

with_prefix-append : (prefix more : List ScriptLine) (read : Read)
    → with_prefix prefix (read >>= λ y. Ok (y.0, more ++ y.1)) ≡ with_prefix (prefix ++ more) read
with_prefix-append prefix more (Ok x) =
    ap (λ (ls : List ScriptLine). Ok (x.0, ls)) (sym (append_assoc prefix more x.1))
with_prefix-append prefix more (Err n) = refl

-- a piece is read
pub with_prefix-read : (mode : ScriptMode) (at : ℕ) (names after : List (List ℕ)) (prefix : List ScriptLine)
    (rest piece behind : List ℕ) (line : Option ScriptLine) (whole : Read)
    → with_prefix prefix (lines_at mode at names (pieces rest)) ≡ whole → pieces rest ≡ piece ∷ pieces behind
    → line_at mode at names piece ≡ Ok (after, line)
    → with_prefix (prefix ++ option_to_list line) (lines_at mode (at + 1) after (pieces behind)) ≡ whole
unfolding lines_at
with_prefix-read mode at names after prefix rest piece behind line whole so_far cut read =
    let one : with_prefix prefix (lines_at mode at names (pieces rest))
    ≡ with_prefix prefix
    (lines_at mode (at + 1) after (pieces behind) >>= λ y. Ok (y.0, option_to_list line ++ y.1)) =
    rw (cut, read) refl in
    sym (with_prefix-append prefix (option_to_list line) (lines_at mode (at + 1) after (pieces behind)))
    ∙ sym one ∙ so_far

-- a piece is refused
pub fails_at_piece : (mode : ScriptMode) (at : ℕ) (names : List (List ℕ)) (prefix : List ScriptLine)
    (bytes rest piece behind : List ℕ) (fault : ScriptFault)
    → with_prefix prefix (lines_at mode at names (pieces rest)) ≡ lines_at mode 1 [] (pieces bytes)
    → pieces rest ≡ piece ∷ pieces behind → Fails fault (line_at mode at names piece)
    → Fails fault (script_of mode bytes)
unfolding lines_at script_of
fails_at_piece mode at names prefix bytes rest piece behind (faults.BadLine n) so_far cut refused =
    let one : lines_at mode 1 [] (pieces bytes) ≡ Err n = sym so_far ∙ rw (cut, refused) refl in
    rw one refl
fails_at_piece mode at names prefix bytes rest piece behind faults.NoMemory so_far cut refused = tt

-- no piece is left
pub reads_all : (mode : ScriptMode) (at : ℕ) (names : List (List ℕ)) (prefix : List ScriptLine)
    (bytes rest : List ℕ)
    → with_prefix prefix (lines_at mode at names (pieces rest)) ≡ lines_at mode 1 [] (pieces bytes) → rest
    ≡ []
    → script_of mode bytes ≡ Ok (record {
      names = names;
      lines = prefix;
    })
unfolding lines_at script_of
reads_all mode at names prefix bytes rest so_far none =
    let one : lines_at mode 1 [] (pieces bytes) ≡ Ok (names, prefix) =
    sym so_far ∙ rw none (ap (λ (ls : List ScriptLine). Ok (names, ls)) (append-nil prefix)) in
    rw one refl
