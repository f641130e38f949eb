use Rattle.std.proofs.Common.{◌≡◌, ◌+◌, ◌*◌, ◌-◌, ◌/◌, ◌%◌, min, ◌++◌, ◌∷◌, [], length, take}
use Rattle.std.proofs.Common.{sym, ap, subst, ◌∙◌, arith, length-append}
use Rattle.std.specs.List.{AllByRecursion}
use Rattle.pj_layout.specs.Granules.{granule, HasGranule}
use Rattle.pj_layout.specs.Blobs.{column_range, chunk_count, chunk, chunks, blob, marks}
use Rattle.pj_layout.proofs.ByteLemmas.{All-push}
use Rattle.pj_layout.proofs.ChunkLemmas.{chunks-next, chunks-written, chunk_stands}
use Rattle.pj_layout.proofs.ChunkLemmas.{column_range-chunk, length-column_range}
use Rattle.pj_layout.proofs.MarkLemmas.{blob-push, marks-push, mark_of-made}
use Rattle.pj_layout.proofs.blob.write_column.Goals as goal

pub granules-preserved : goal.granules-preserved
granules-preserved c =
    let g = c.args.granularity in
    let column = c.args.column.now in
    let k = c.granules.index in
    let from = k * g in
    let to = from + c.min.result in
    let all = chunks g column in
    let piece = chunk g column k in
    let count : c.div_ceil-count.result ≡ chunk_count g column.values =
    c.div_ceil-count.ensures ∙ ap (λ n. n / g + min 1 (n % g)) c.len-len.ensures in
    let stands = chunk_stands g k column.values c.requires.some (omega (arith, count)) in
    let there : column_range column from to ≡ piece =
    column_range-chunk g column k to (omega (arith, c.min.ensures, c.len-len.ensures)) in
    let next = chunks-next g column k (omega (arith, count)) in
    let wrote = c.in_ok-write_granule.ensures.bytes ∙ (λ i. c.granules.invariant.bytes i ++ granule (there i)) in
    let long = ap length wrote ∙ length-append (blob (take k all)) (granule piece) in
    let at : c.len-at.result ≡ length (blob (take k all)) =
    omega (arith, c.len-at.ensures, ap length c.granules.invariant.bytes, c.granules.bytes.ok.0) in
    let size : c.len.result - c.len-at.result ≡ length (granule piece) =
    omega (arith, c.len.ensures, long, at, c.write_granule.new.out.ok.0) in
    let rows : to - from ≡ length piece.values =
    sym (length-column_range column from to (omega (arith, c.min.ensures, c.len-len.ensures, stands)))
    ∙ ap (λ p. length p.values) there in
    let mark =
    mark_of-made (length (blob (take k all))) c.len-at.result (c.len.result - c.len-at.result) (to - from) piece at
    size rows in
    record {
      bytes = wrote ∙ sym (blob-push (take k all) piece) ∙ ap blob (sym next);
      marks = c.in_ok-push.ensures.items
          ∙ (λ i. c.granules.invariant.marks i ++ sym mark i ∷ [])
          ∙ sym (marks-push (take k all) piece) ∙ ap marks (sym next);
      whole = subst (AllByRecursion HasGranule) (sym next)
          (All-push HasGranule (take k all) piece c.granules.invariant.whole
          (subst HasGranule there c.in_ok-write_granule.ensures.whole));
    }

pub returns-clause-bytes : goal.returns-clause-bytes
returns-clause-bytes c =
    let all =
    chunks-written c.args.granularity c.args.column.now c.len-len.result c.granules.index c.len-len.ensures
    (omega (arith, c.div_ceil-count.ensures)) in
    c.from_vec.ensures ∙ c.granules.invariant.bytes ∙ ap blob all

pub returns-clause-marks : goal.returns-clause-marks
returns-clause-marks c =
    let all =
    chunks-written c.args.granularity c.args.column.now c.len-len.result c.granules.index c.len-len.ensures
    (omega (arith, c.div_ceil-count.ensures)) in
    c.from_vec-2.ensures ∙ c.granules.invariant.marks ∙ ap marks all

pub returns-clause-whole : goal.returns-clause-whole
returns-clause-whole c =
    let all =
    chunks-written c.args.granularity c.args.column.now c.len-len.result c.granules.index c.len-len.ensures
    (omega (arith, c.div_ceil-count.ensures)) in
    subst (AllByRecursion HasGranule) all c.granules.invariant.whole
