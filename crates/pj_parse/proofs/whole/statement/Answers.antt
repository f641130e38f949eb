use Rattle.std.proofs.Common.{◌≡◌, ℕ, ◌-◌, length, drop, sym, ap, subst, ◌∙◌, arith}
use Rattle.pj_grammar.specs.Lexemes.{lexemes}
use Rattle.pj_grammar.specs.SyntaxErrors.{offset_of, IsSyntaxError}
use Rattle.pj_parse.proofs.TokenOffsets.{lie_in}
use Rattle.pj_grammar.proofs.WholeSentence.{whole_found}
use Rattle.pj_parse.proofs.SyntaxOffsets.{left_within, place_from_end}
use Rattle.pj_parse.proofs.whole.statement.Goals as goal

pub new-rest-requires : goal.new-rest-requires
new-rest-requires c = lie_in c.args.body.now c.args.tokens.now c.requires

pub offset_of-at-requires : goal.offset_of-at-requires
offset_of-at-requires c =
    let stuck = rw (c.new-rest.ensures, c.in-Err-Stuck.field-0-is) at c.in-Err-Stuck.ensures in
    omega (arith, c.len.ensures, left_within c.args.body.now c.args.tokens.now c.in-Err-Stuck.rest stuck)

pub returns-in-Ok-clause-found : goal.returns-in-Ok-clause-found
returns-in-Ok-clause-found c =
    whole_found (lexemes c.args.body.now c.args.tokens.now) c.in-Ok.statement
    (rw c.new-rest.ensures at c.in-Ok.ensures)

pub returns-in-Err-Stuck-clause-syntax : goal.returns-in-Err-Stuck-clause-syntax
returns-in-Err-Stuck-clause-syntax c at e =
    let stuck = rw (c.new-rest.ensures, c.in-Err-Stuck.field-0-is) at c.in-Err-Stuck.ensures in
    let there : offset_of c.args.body.now
    (drop (length c.args.tokens.now - length c.in-Err-Stuck.rest) c.args.tokens.now)
    ≡ at =
    ap (λ (k : ℕ). offset_of c.args.body.now (drop (length c.args.tokens.now - k) c.args.tokens.now))
    (sym c.len.ensures)
    ∙ sym c.offset_of-at.ensures ∙ cc in
    subst (λ (k : ℕ). IsSyntaxError c.args.body.now c.args.tokens.now k) there
    (place_from_end c.args.body.now c.args.tokens.now c.in-Err-Stuck.rest stuck)
