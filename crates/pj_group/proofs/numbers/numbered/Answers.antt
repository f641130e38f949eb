use Rattle.std.proofs.Common.{◌≡◌, ◌≢◌, ◌+◌, Vec, Global, ℕ, length, sym, ap, ◌∙◌, arith}
use Rattle.std.specs.List.{position_or_len}
use Rattle.std.proofs.lemmas.List.FromFn.{length-map-range_with_len}
use Rattle.pj_answer.specs.Answers.{Row, same_row}
use Rattle.pj_group.specs.declared.numbers.Numbers.{Numbers}
use Rattle.pj_group.specs.Keyed.{key_at}
use Rattle.pj_group.specs.Numbers.{keys_of_rows, with_key, AreNumbers}
use Rattle.pj_group.proofs.NumbersLemmas.{length-openings, AreNumbers-none, AreNumbers-opens, AreNumbers-stays}
use Rattle.pj_group.proofs.NumbersLemmas.{keys_of_rows-more}
use Rattle.pj_group.proofs.numbers.numbered.Goals as goal
use Rattle.pj_group.proofs.numbers.numbered.Goals.{then-number-known+in_ok-push, else-number-known}

pub loop-at-init : goal.loop-at-init
loop-at-init c = (
  AreNumbers-none c.args.keys.now.keys
      (record { groups = c.in_ok-groups.groups; openings = c.new-openings.result }) c.len-known.ensures.unique
      c.in_ok-groups.ensures.items c.new-openings.ensures.items,
  c.len-known.ensures.len,
)

pub loop-at-preserved : goal.loop-at-preserved
loop-at-preserved c =
    let columns = c.args.columns.now in
    let at = c.loop-at.at in
    let old = c.args.keys.now.keys in
    let rows = keys_of_rows columns at in
    let new = c.loop-at.keys.keys in
    let held : Numbers = record { groups = c.loop-at.groups; openings = c.loop-at.openings } in
    let next : Numbers = record { groups = c.push-in-loop-at.new.self; openings = c.if-number-known.openings } in
    let key = key_at columns at in
    let n = c.in_ok-number.number in
    let more = c.number_of.new.keys.keys in
    let h : AreNumbers old rows new held = c.loop-at.invariant.0 in
    let many : length old + length c.loop-at.openings.items ≡ length new = length-openings old rows new held h in
    let place : n ≡ position_or_len (same_row key) new =
    c.in_ok-number.ensures.number ∙ ap (λ (k : Row). position_or_len (same_row k) new) c.new.ensures in
    let keys : more ≡ with_key new key =
    c.in_ok-number.ensures.keys ∙ ap (λ (k : Row). with_key new k) c.new.ensures in
    let long : at ≡ length rows = sym (length-map-range_with_len (key_at columns) 0 at) in (
      rw (keys_of_rows-more columns at)
          (elim c.if-number-known.branch [
            | then-number-known+in_ok-push w ↦
                let last : n ≡ length new =
                omega (arith, w.if-number-known.true, c.len.ensures, c.loop-at.invariant.1, many) in
                AreNumbers-opens old rows new held h key n at more next place keys last long
                c.in_ok-push-2.ensures.items
                (ap (λ (v : Vec ℕ Global). v.items) w.openings-is ∙ w.in_ok-push.ensures.items)
            | else-number-known w ↦
                let inner : n ≢ length new = λ e. w.if-number-known.false
                (omega (arith, e, c.len.ensures, c.loop-at.invariant.1, many)) in
                AreNumbers-stays old rows new held h key n more next place keys inner
                c.in_ok-push-2.ensures.items (ap (λ (v : Vec ℕ Global). v.items) w.openings-is)
          ]),
      c.loop-at.invariant.1,
    )
