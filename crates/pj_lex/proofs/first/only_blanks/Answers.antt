use Rattle.std.proofs.Common.{◌≡◌, length, sym, ap, ◌∙◌, arith}
use Rattle.std.proofs.lemmas.List.{nil_from_length}
use Rattle.std.proofs.lemmas.Bool.Decides.{nat_tests}
use Rattle.pj_lex.proofs.BodyTokens.{all_blank}
use Rattle.pj_lex.proofs.BodyLaws.{blank-only}
use Rattle.pj_lex.proofs.first.only_blanks.Goals as goal

pub returns : goal.returns
returns c = (
  λ is.
      let none : length c.skip_blanks.result.now ≡ 0 = grind (arith, nat_tests) in
      all_blank c.args.bytes.now
      (sym c.skip_blanks.ensures ∙ nil_from_length c.skip_blanks.result.now none),
  λ blank.
      let none : length c.skip_blanks.result.now ≡ 0 =
      ap length (c.skip_blanks.ensures ∙ blank-only c.args.bytes.now blank) in
      grind (arith, nat_tests),
)
