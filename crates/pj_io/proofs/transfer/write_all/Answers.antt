use Rattle.std.proofs.Common.{◌≡◌, ℕ, ◌-◌, List, ◌++◌, rules, length, take, drop}
use Rattle.std.proofs.Common.{sym, ap, ◌∙◌, append_assoc, take-append-drop}
use Rattle.std.proofs.lemmas.List.{take_rest}
use Rattle.std.proofs.lemmas.Result.{err_from_is_err_and}
use Rattle.std.proofs.KnownBytes.{Appends-trans, Appends-kept}
use Rattle.pj_io.proofs.TransferLemmas.{AppendsPart-prefix}
use Rattle.pj_io.proofs.transfer.write_all.Goals as goal

moves_front : (all done rest : List ℕ) (n : ℕ) → all ≡ done ++ rest
    → all ≡ (done ++ take n rest) ++ take (length rest - n) (drop n rest)
moves_front all done rest n e =
    e ∙ ap (λ l. done ++ l) (sym (take-append-drop n rest))
    ∙ sym (append_assoc done (take n rest) (drop n rest))
    ∙ ap (λ l. (done ++ take n rest) ++ l) (sym (take_rest rest n))

pub returns-in_err-count-clause-part : goal.returns-in_err-count-clause-part
returns-in_err-count-clause-part g c =
    let (done, split, appended) = c.pieces.invariant.appended in
    let p = err_from_is_err_and c.from_residual.result c.from_residual.ensures.1 in
    let kept = Appends-kept _ _ _ _ appended c.in_err-count.ensures.bytes in
    rw p.1 (AppendsPart-prefix _ _ _ done _ split (search rules) kept)

pub pieces-preserved : goal.pieces-preserved
pieces-preserved g c =
    let (done, split, appended) = c.pieces.invariant.appended in
    record {
      appended = (
        done ++ take c.in_ok-count.count c.pieces.rest.now,
        moves_front _ done _ _ split,
        Appends-trans _ _ _ _ _ appended c.in_ok-count.ensures.bytes,
      );
      calm = c.in_ok-count.ensures.calm (search rules) ∙ c.pieces.invariant.calm;
    }
