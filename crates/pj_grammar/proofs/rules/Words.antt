-- The rules of words, signs, numbers, texts and lists are read exactly.
use Prim.Native.String.{String}
use Rattle.std.proofs.Common.{◌≡◌, ℕ, Bool, true, false, ◌+◌, List, [], map, ltb, refl}
use Rattle.std.specs.Prelude.{codes, ◌&&◌, nat_le}
use Rattle.std.proofs.lemmas.Bool.{and_parts, eq-eqb}
use Rattle.pj_lex.specs.Bytes.{upper}
use Rattle.pj_lex.specs.declared.token.Symbol.{Symbol}
use Rattle.pj_grammar.specs.Lexemes.{word, number, text, symbol, no_value, bytes_of, number_of, same, is_word}
use Rattle.pj_grammar.specs.Lexemes.{is_number, is_symbol, may_name, may_name_list, may_name_but_if}
use Rattle.pj_grammar.specs.Lexemes.{may_name_list_but_if, is_keyword, is_exactly, is_function_name}
use Rattle.pj_grammar.specs.Lexemes.{is_any_number, is_any_text, is_text_exactly}
use Rattle.pj_grammar.specs.grammar.Ebnf.{Grammar}
use Rattle.pj_grammar.specs.parsing.Parser.{Parser}
use Rattle.pj_grammar.specs.grammar.Words as rules
use Rattle.pj_grammar.specs.parsing.Words as parsers
use Rattle.pj_grammar.proofs.kinds.Sets as kinds
use Rattle.pj_grammar.proofs.kinds.Sets.{Kinds, keywords, modes, none}
use Rattle.pj_grammar.proofs.kinds.Words.{same_is, is_one_of, is_exact}
use Rattle.pj_grammar.proofs.kinds.Tests.{keyword_kind, exactly_kind, text_exactly_kind, sign_kind, name_kind}
use Rattle.pj_grammar.proofs.kinds.Tests.{list_name_kind, name_but_if_kind, list_name_but_if_kind}
use Rattle.pj_grammar.proofs.kinds.Tests.{function_name_kind, number_kind, positive_kind, text_kind}
use Rattle.pj_grammar.proofs.kinds.Tests.{some_name, some_list_name, some_name_but_if, some_list_name_but_if}
use Rattle.pj_grammar.proofs.kinds.Tests.{some_function}
use Rattle.pj_grammar.proofs.reads.Reads.{Reads}
use Rattle.pj_grammar.proofs.reads.One.{one_reads}

-- a rule and its parser of lists of at most so many lexemes
abbrev pub Exactly : {A : Type 0} → Kinds → Kinds → Bool → ℕ → Grammar A → Parser A → Type 0
Exactly first more empty n rule parser = Reads first more empty n rule rule parser

-- a keyword that is written in capitals, and so spells itself
abbrev pub is_capital_keyword : List ℕ → Bool
is_capital_keyword w = is_one_of keywords w && same (map upper w) w

module _ (n : ℕ) where
  -- a keyword
  pub keyword_reads : (capitals : String) → is_capital_keyword (codes capitals) ≡ true
      → Exactly (kinds.keyword capitals) none false n
      (rules.keyword (codes capitals)) (parsers.keyword_at (codes capitals))
  keyword_reads capitals known =
      let w = codes capitals in
      let parts = and_parts (is_one_of keywords w) (same (map upper w) w) known in
      one_reads (is_keyword w) no_value (kinds.keyword capitals) (keyword_kind capitals parts.0)
      (word w) parts.1 n

  -- a word exactly
  pub exactly_reads : (bytes : String) → is_exact (codes bytes) ≡ true
      → Exactly (kinds.exactly bytes) none false n
      (rules.exactly (codes bytes)) (parsers.exactly_at (codes bytes))
  exactly_reads bytes known =
      one_reads (is_exactly (codes bytes)) no_value (kinds.exactly bytes)
      (exactly_kind bytes known)
      (word (codes bytes)) (same_is (codes bytes) (codes bytes) refl) n

  -- a text exactly
  pub text_exactly_reads : (bytes : String) → is_one_of modes (codes bytes) ≡ true
      → Exactly (kinds.text_exactly bytes) none false n
      (rules.text_exactly (codes bytes)) (parsers.text_exactly_at (codes bytes))
  text_exactly_reads bytes known =
      one_reads (is_text_exactly (codes bytes)) no_value (kinds.text_exactly bytes)
      (text_exactly_kind bytes known)
      (text (codes bytes)) (same_is (codes bytes) (codes bytes) refl) n

  -- a symbol
  pub sign_reads : (s : Symbol) → Exactly (kinds.sign s) none false n (rules.sign s) (parsers.sign_at s)
  sign_reads s =
      one_reads (is_symbol s) no_value (kinds.sign s) (sign_kind s) (symbol s) (eq-eqb _ _ refl) n

  -- names
  pub name_reads : Exactly kinds.name none false n rules.name parsers.name_at
  name_reads = one_reads (is_word may_name) bytes_of kinds.name name_kind (word (codes "a")) some_name n

  pub list_name_reads : Exactly kinds.list_name none false n rules.list_name parsers.list_name_at
  list_name_reads =
      one_reads (is_word may_name_list) bytes_of kinds.list_name list_name_kind
      (word (codes "a")) some_list_name n

  pub name_but_if_reads : Exactly kinds.name_but_if none false n rules.name_but_if parsers.name_but_if_at
  name_but_if_reads =
      one_reads (is_word may_name_but_if) bytes_of kinds.name_but_if name_but_if_kind
      (word (codes "a")) some_name_but_if n

  pub list_name_but_if_reads : Exactly kinds.list_name_but_if none false n rules.list_name_but_if
      parsers.list_name_but_if_at
  list_name_but_if_reads =
      one_reads (is_word may_name_list_but_if) bytes_of kinds.list_name_but_if
      list_name_but_if_kind
      (word (codes "a")) some_list_name_but_if n

  pub function_name_reads : Exactly kinds.function_name none false n rules.function_name
      parsers.function_name_at
  function_name_reads =
      one_reads is_function_name bytes_of kinds.function_name function_name_kind
      (word (codes "SUM")) some_function n

  -- numbers and texts
  pub number_reads : Exactly kinds.number none false n rules.number parsers.number_at
  number_reads = one_reads is_any_number number_of kinds.number number_kind (number 0) refl n

  pub positive_reads : Exactly kinds.positive none false n rules.positive parsers.positive_at
  positive_reads =
      one_reads (is_number (λ m. nat_le 1 m)) number_of kinds.positive positive_kind (number 1) refl n

  pub text_reads : Exactly kinds.text none false n rules.text parsers.text_at
  text_reads = one_reads is_any_text bytes_of kinds.text text_kind (text []) refl n
