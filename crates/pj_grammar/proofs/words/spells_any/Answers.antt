use Rattle.std.proofs.Common.{ℕ, List, rules, tests}
use Rattle.std.specs.Borrow.{Bor}
use Rattle.std.proofs.lemmas.Iterator.{YieldsList-from_slice}
use Rattle.std.proofs.lemmas.Iterator.Search.{any_from_yields_List}
use Rattle.pj_grammar.specs.Lexemes.{spells}
use Rattle.pj_grammar.proofs.words.spells_any.Goals as goal

pub returns : goal.returns
returns c =
    any_from_yields_List
    (λ (x : Bor (List ℕ)). spells x.now c.args.word.now) _ _ c.any.result c.any.ensures.ran
    (YieldsList-from_slice {s = c.iter.result} c.args.words.now (cc))
    (λ x b q k. search (rules, tests))
