use Rattle.std.proofs.Common.{◌≡◌, ◌++◌, ◌+◌, ◌-◌, length, take, drop, ap, ◌∙◌, arith}
use Rattle.std.proofs.lemmas.Result.{err_from_is_err_and}
use Rattle.std.proofs.lemmas.List.{take_rest}
use Rattle.pj_value.proofs.EscapingLemmas.{escaped-part, escaped-run}
use Rattle.pj_value.proofs.escaping.escape_pieces.Goals as goal

pub returns-in_err-extend_from_slice-clause-err : goal.returns-in_err-extend_from_slice-clause-err
returns-in_err-extend_from_slice-clause-err c =
    let p = err_from_is_err_and c.from_residual.result c.from_residual.ensures.1 in
    rw p.1 (escaped-part c.args.text.now c.args.out.now.items _ c.pieces.at
    (c.in_err-extend_from_slice.ensures.items ∙ c.pieces.invariant.written))

pub pieces-preserved-then-at-end : goal.pieces-preserved-then-at-end
pieces-preserved-then-at-end c =
    let text = c.args.text.now in
    let at = c.pieces.at in
    let rest : take (length text - at) (drop at text) ≡ drop at text = take_rest text at in
    let len : at + c.plain_len.result - at ≡ c.plain_len.result = omega arith in
    let run : c.extend_from_slice.new.self.items ≡ c.pieces.out.items ++ take c.plain_len.result
    (drop at text) =
    c.in_ok-extend_from_slice.ensures.items
    ∙ ap (λ k. c.pieces.out.items ++ take k (drop at text)) len in
    record {
      inside = omega (arith, c.plain_len.ensures.within);
      written = run
          ∙ escaped-run text c.args.out.now.items c.pieces.out.items at c.plain_len.result
          c.pieces.invariant.written (rw rest at c.plain_len.ensures.plain);
    }

pub returns-in_err-escape_byte-clause-err : goal.returns-in_err-escape_byte-clause-err
returns-in_err-escape_byte-clause-err c =
    let p = err_from_is_err_and c.from_residual-in_err-escape_byte.result
    c.from_residual-in_err-escape_byte.ensures.1 in
    rw p.1 (escaped-part c.args.text.now c.args.out.now.items _ c.pieces.at
    (c.in_err-escape_byte.ensures.err ∙ c.pieces.invariant.written))
