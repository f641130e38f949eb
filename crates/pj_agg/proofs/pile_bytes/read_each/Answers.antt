use Rattle.std.proofs.Common.{◌≡◌, ◌<◌, ◌==◌, ℕ, List, length, map, take, drop, Err, sym, ap, ◌∙◌, arith}
use Rattle.std.proofs.Common.{true≢false, take-append-drop}
use Rattle.std.proofs.lemmas.Result.{err_from_is_err_and}
use Rattle.pj_agg.specs.declared.state.StateFault.TheVariants as faults
use Rattle.pj_agg.proofs.ReadLemmas.{none-left, none-above}
use Rattle.pj_agg.proofs.pile_bytes.read_each.Goals as goal

pub returns-in-None-clause-damaged : goal.returns-in-None-clause-damaged
returns-in-None-clause-damaged g c = λ e found h f.
    let bytes = c.args.bytes.now in
    let short : length bytes < 18446744073709551616 = omega arith in
    none-left g.T.Item.kind (map g.T.Valued.value c.rest.items.items) found c.rest.rest.now bytes
    c.rest.invariant.kinds h.1 short c.rest.invariant.read f
    (λ n. true≢false (sym (c.rest-test.ensures ∙ ap (λ (bs : List ℕ). length bs == 0) n))) c.in-None.ensures

pub returns-in_err-push_read-clause-damaged : goal.returns-in_err-push_read-clause-damaged
returns-in_err-push_read-clause-damaged g c = λ e found h f.
    let bytes = c.args.bytes.now in
    let rest = c.rest.rest.now in
    let len = c.in-Some.len in
    let front = c.in-Some.ensures in
    let short : length bytes < 18446744073709551616 = omega arith in
    let p = err_from_is_err_and c.from_residual.result c.from_residual.ensures.1 in
    let was = c.in_err-push_read.was in
    let fault : c.push_read.result ≡ Err faults.Damaged = cc (was, p.1, p.2) in
    none-above g.T.Item.kind (map g.T.Valued.value c.rest.items.items) found rest bytes (take len rest) front.1
    c.rest.invariant.kinds h.1 h.0 short c.rest.invariant.read f
    (λ n. true≢false (sym (c.rest-test.ensures ∙ ap (λ (bs : List ℕ). length bs == 0) n))) front.2 front.3
    (drop len rest) (take-append-drop len rest) (c.push_read.ensures.damaged fault)
