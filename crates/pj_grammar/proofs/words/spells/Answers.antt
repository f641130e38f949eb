use Rattle.std.proofs.Common.{ℕ, eqb, rules, tests, ◌∙◌}
use Rattle.std.specs.Iterator.Adapters.{zip_first, zip_second}
use Rattle.std.proofs.lemmas.Iterator.{YieldsList-from_slice, YieldsList-from_zip}
use Rattle.std.proofs.lemmas.Iterator.Search.{all_from_yields_List}
use Rattle.pj_lex.specs.Bytes.{upper}
use Rattle.pj_grammar.proofs.WordSpelling.{spells-zip}
use Rattle.pj_grammar.proofs.words.spells.Goals as goal

pub returns-then-word-capitals : goal.returns-then-word-capitals
returns-then-word-capitals c =
    all_from_yields_List (λ (p : ℕ × ℕ). eqb (upper p.0) p.1) c.all.new.self _ _ c.all.ensures.ran
    (YieldsList-from_zip (YieldsList-from_slice {s = zip_first c.zip.result} c.args.word.now (cc))
    (YieldsList-from_slice {s = zip_second c.zip.result} c.args.capitals.now (cc)))
    (λ x b q k. search (rules, tests))
    ∙ spells-zip c.args.word.now c.args.capitals.now c.if-word-capitals.true
