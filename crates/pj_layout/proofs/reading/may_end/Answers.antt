use Rattle.std.proofs.Common.{◌≡◌, ◌<◌, ◌-◌, length, sym, ◌∙◌, arith}
use Rattle.std.proofs.lemmas.List.{get_or_default}
use Rattle.std.proofs.lemmas.List.Sorted.{non_decreasing_from_is_sorted}
use Rattle.pj_layout.specs.Damage.{last_end}
use Rattle.pj_layout.proofs.RisingLemmas.{never_fall-tested, last_end-by_index, are_ends-by_order, are_ends-by_last}
use Rattle.pj_layout.proofs.reading.may_end.Goals as goal

pub returns-then-last-len : goal.returns-then-last-len
returns-then-last-len c =
    let ends = c.args.ends.now in
    let last = c.in-Some.last.now in
    let there = c.in-Some.ensures.item in
    let some : 0 < length ends = omega (arith, there.3.0) in
    let read : last_end 0 ends ≡ last =
    last_end-by_index 0 ends some ∙ get_or_default ends (length ends - 1) 0 last (omega (arith, some))
    ∙ sym there.1 in
    are_ends-by_order ends c.args.len c.is_sorted.result (read ∙ c.if-last-len.true)
    (never_fall-tested ends c.is_sorted.result
    (non_decreasing_from_is_sorted ends c.is_sorted.result c.is_sorted.ensures.cases))

pub returns-else-last-len : goal.returns-else-last-len
returns-else-last-len c =
    let ends = c.args.ends.now in
    let last = c.in-Some.last.now in
    let there = c.in-Some.ensures.item in
    let some : 0 < length ends = omega (arith, there.3.0) in
    let read : last_end 0 ends ≡ last =
    last_end-by_index 0 ends some ∙ get_or_default ends (length ends - 1) 0 last (omega (arith, some))
    ∙ sym there.1 in
    are_ends-by_last ends last c.args.len read c.if-last-len.false
