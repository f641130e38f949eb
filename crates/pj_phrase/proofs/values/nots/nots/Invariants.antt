use Rattle.std.proofs.Common.{◌≡◌, ◌++◌, ◌-◌, replicate}
use Rattle.std.specs.Prelude.{codes}
use Rattle.pj_grammar.specs.parsing.Parser.{many_with}
use Rattle.pj_grammar.specs.Lexemes.{is_keyword}
use Rattle.pj_grammar.specs.parsing.Words.{keyword_at}
use Rattle.pj_grammar.specs.parsing.Values.{nots_at}
use Rattle.pj_phrase.proofs.ManyLoop.{going}
use Rattle.pj_phrase.proofs.values.nots.nots.Given as goal

abbrev pub invariant-nots : goal.invariant-nots
invariant-nots l = record {
  count : l.count ≡ l._i;
  read :
      going (λ more. replicate l.count tt ++ more)
      (many_with (l._i-end - l._i) (is_keyword (codes "NOT")) (keyword_at (codes "NOT")) l.rest)
      ≡ nots_at l.fn.rest;
}
