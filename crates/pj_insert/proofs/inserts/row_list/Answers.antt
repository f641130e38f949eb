use Rattle.std.proofs.Common.{◌≡◌, ◌++◌, ◌∷◌, [], ap, ◌∙◌}
use Rattle.pj_lex.specs.declared.token.Symbol.TheVariants.{Comma}
use Rattle.pj_lex.specs.declared.token.TokenKind.TheVariants as kinds
use Rattle.pj_grammar.specs.RowLayout.{WithBegun}
use Rattle.pj_insert.specs.Inserts.{SpellsPrefix}
use Rattle.pj_grammar.specs.grammar.Statements.{row}
use Rattle.pj_insert.proofs.PrefixLemmas.{listed_one, listed_more, shorter}
use Rattle.pj_insert.proofs.inserts.row_list.Goals as goal

pub rows-init : goal.rows-init
rows-init c =
    let first : SpellsPrefix c.args.most row c.args.bytes.now c.row.new.rows.begun c.in-Some.behind.now =
    rw c.in-Some.is at c.in_ok-behind.ensures.read in
    let none : c.row.new.rows.whole ≡ [] =
    c.in_ok-behind.ensures.whole ∙ ap (λ (r : WithBegun). r.whole) c.new-rows.ensures in
    let one : c.end_row.new.self.whole ≡ c.row.new.rows.begun ∷ [] =
    ap (λ (r : WithBegun). r.whole) c.in_ok-end_row.ensures
    ∙ ap (λ rows. rows ++ c.row.new.rows.begun ∷ []) none in
    record {
      read = rw one (listed_one first);
      begun = ap (λ (r : WithBegun). r.begun) c.in_ok-end_row.ensures;
    }

pub rows-smaller : goal.rows-smaller
rows-smaller c =
    let one : SpellsPrefix c.args.most row c.in-Some-first_comma.behind.now
    c.row-in-Some-first_comma.new.rows.begun c.in-Some-2.behind.now =
    rw c.in-Some-2.is at c.in_ok-behind-2.ensures.read in
    shorter c.args.most (kinds.Symbol Comma) c.rows.rest.now c.in-Some-first_comma.behind.now
    c.in-Some-2.behind.now c.row-in-Some-first_comma.new.rows.begun c.in-Some-first_comma.ensures one

pub rows-preserved : goal.rows-preserved
rows-preserved c =
    let one : SpellsPrefix c.args.most row c.in-Some-first_comma.behind.now
    c.row-in-Some-first_comma.new.rows.begun c.in-Some-2.behind.now =
    rw c.in-Some-2.is at c.in_ok-behind-2.ensures.read in
    let whole : c.end_row-in-Some-first_comma.new.self.whole
    ≡ c.rows.rows.whole ++ c.row-in-Some-first_comma.new.rows.begun ∷ [] =
    ap (λ (r : WithBegun). r.whole) c.in_ok-end_row-2.ensures
    ∙ ap (λ rows. rows ++ c.row-in-Some-first_comma.new.rows.begun ∷ []) c.in_ok-behind-2.ensures.whole in
    record {
      read = rw whole (listed_more c.rows.invariant.read c.in-Some-first_comma.ensures one);
      begun = ap (λ (r : WithBegun). r.begun) c.in_ok-end_row-2.ensures;
    }
