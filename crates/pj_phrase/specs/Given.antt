-- What the code of a reader gives, beside what the parser on lists does. Of public contracts those of
-- `pj_phrase` and `pj_sentence` alone cite it.
use Rattle.std.specs.Prelude.{◌≡◌, List, [], ◌∷◌, Option, Some, None, Result, Ok, Err}
use Rattle.pj_phrase.specs.declared.tokens.rest.Next.{Next}
use Rattle.pj_phrase.specs.declared.tokens.rest.Next.TheVariants as nexts
use Rattle.pj_phrase.specs.declared.tokens.rest.Fault.{Fault}
use Rattle.pj_phrase.specs.declared.tokens.rest.Fault.TheVariants as faults
use Rattle.pj_grammar.specs.Lexemes.{Lexeme, word, number, text, symbol}
use Rattle.pj_grammar.specs.parsing.Parser.{Answer}

-- the lexeme without where its bytes lie
abbrev pub seen : Next → Lexeme
seen (nexts.Word bytes) = word bytes.now
seen (nexts.Number n) = number n
seen (nexts.Text t) = text t.now
seen (nexts.Symbol s) = symbol s

-- the next lexeme, with those behind it
abbrev pub IsNext : Option (Next × List Lexeme) → List Lexeme → Type 0
IsNext None ts = ts ≡ []
IsNext (Some x) ts = ts ≡ seen x.0 ∷ x.1

-- a parser is stuck where the code is; where it is out of memory it may do anything
abbrev pub Fails : {A : Type 0} → Fault → Answer A → Type 0
Fails (faults.Stuck rest) read = read ≡ Err rest
Fails faults.NoMemory read = Unit {0}

-- what a function returned, seen by view, is what the parser reads
abbrev pub Gives : {X A : Type 0} → (X → A × List Lexeme) → Result X Fault → Answer A → Type 0
Gives view (Ok x) read = read ≡ Ok (view x)
Gives view (Err fault) read = Fails fault read

-- what is left, where the parser gives no value
abbrev pub nothing_and : List Lexeme → Unit {0} × List Lexeme
nothing_and rest = (tt, rest)

-- two values that the code gives apart
abbrev pub both_and : {A B : Type 0} → A × B × List Lexeme → (A × B) × List Lexeme
both_and x = ((x.0, x.1), x.2)
