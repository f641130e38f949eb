use Rattle.std.proofs.Common.{◌≡◌, true, false, refl, rules}
use Rattle.std.specs.Prelude.{codes}
use Rattle.pj_grammar.specs.Lexemes.{is_keyword}
use Rattle.pj_grammar.specs.parsing.Parser.{begins}
use Rattle.pj_grammar.specs.parsing.Statements.{action_at}
use Rattle.pj_sentence.proofs.actions.action.Goals as goal

-- MATERIALIZE, which is neither ADD nor DROP
pub returns-then-begins_keyword-3 : goal.returns-then-begins_keyword-3
unfolding action_at
returns-then-begins_keyword-3 c =
    let no_add : begins (is_keyword (codes "ADD")) c.args.rest ≡ false = search rules in
    let no_drop : begins (is_keyword (codes "DROP")) c.args.rest ≡ false = search rules in
    let begun : begins (is_keyword (codes "MATERIALIZE")) c.args.rest ≡ true = search rules in
    rw (no_add, no_drop, begun, c.in_ok-if_there-2.ensures) refl
