use Rattle.std.proofs.Common.{◌≡◌, ℕ, length, map}
use Rattle.std.proofs.lemmas.Result.{IfOk-weaker}
use Rattle.pj_block.specs.declared.numbers.Part.TheVariants as parts
use Rattle.pj_block.specs.Blocks.{block_rows, numbers_of, of_parts}
use Rattle.pj_block.proofs.RowLemmas.{numbers-Num, numbers-Add, numbers-Mul}
use Rattle.pj_block.proofs.RowLemmas.{numbers-IntDiv, numbers-Mod}
use Rattle.pj_block.proofs.evaluation.+numbers_block.Goals as goal

pub returns-in-Num : goal.returns-in-Num
returns-in-Num t c = rw c.in-Num.is (numbers-Num (block_rows c.args.block) c.in-Num.number)

pub returns-in_ok-second-in-Add : goal.returns-in_ok-second-in-Add
returns-in_ok-second-in-Add t c =
    let rows = block_rows c.args.block in
    rw (
      c.in-Add.is,
      ← numbers-Add rows c.in-Add.a c.in-Add.b
          (numbers_of (length rows) c.in_ok-first-in-Add.first)
          (numbers_of (length rows) c.in_ok-second-in-Add.second)
          (rw c.get.ensures at c.in_ok-first-in-Add.ensures)
          (rw c.get-in-Add.ensures at c.in_ok-second-in-Add.ensures),
    )
    (rw c.len.ensures at c.computed.ensures)

pub returns-in_ok-second-in-Mul : goal.returns-in_ok-second-in-Mul
returns-in_ok-second-in-Mul t c =
    let rows = block_rows c.args.block in
    rw (
      c.in-Mul.is,
      ← numbers-Mul rows c.in-Mul.a c.in-Mul.b
          (numbers_of (length rows) c.in_ok-first-in-Mul.first)
          (numbers_of (length rows) c.in_ok-second-in-Mul.second)
          (rw c.get-in-Mul.ensures at c.in_ok-first-in-Mul.ensures)
          (rw c.get-in-Mul-2.ensures at c.in_ok-second-in-Mul.ensures),
    )
    (rw c.len-in-Mul.ensures at c.computed-in-Mul.ensures)

pub returns-in_ok-numbers-in-IntDiv : goal.returns-in_ok-numbers-in-IntDiv
returns-in_ok-numbers-in-IntDiv t c =
    let rows = block_rows c.args.block in
    let d = c.in-IntDiv.divisor in
    let ns = c.in_ok-numbers-in-IntDiv.numbers in
    rw (
      c.in-IntDiv.is,
      ← numbers-IntDiv rows c.in-IntDiv.a d (numbers_of (length rows) ns)
          (rw c.get-in-IntDiv.ensures at c.in_ok-numbers-in-IntDiv.ensures),
    )
    (IfOk-weaker c.divided.result
    (λ out. (len : ℕ) → numbers_of len out ≡ map (λ n. of_parts parts.Quotient n d) (numbers_of len ns))
    (λ out. numbers_of (length rows) out
    ≡ map (λ n. of_parts parts.Quotient n d) (numbers_of (length rows) ns))
    (λ out h. h (length rows)) c.divided.ensures)

pub returns-in_ok-numbers-in-Mod : goal.returns-in_ok-numbers-in-Mod
returns-in_ok-numbers-in-Mod t c =
    let rows = block_rows c.args.block in
    let d = c.in-Mod.divisor in
    let ns = c.in_ok-numbers-in-Mod.numbers in
    rw (
      c.in-Mod.is,
      ← numbers-Mod rows c.in-Mod.a d (numbers_of (length rows) ns)
          (rw c.get-in-Mod.ensures at c.in_ok-numbers-in-Mod.ensures),
    )
    (IfOk-weaker c.divided-in-Mod.result
    (λ out. (len : ℕ) → numbers_of len out ≡ map (λ n. of_parts parts.Remainder n d) (numbers_of len ns))
    (λ out. numbers_of (length rows) out
    ≡ map (λ n. of_parts parts.Remainder n d) (numbers_of (length rows) ns))
    (λ out h. h (length rows)) c.divided-in-Mod.ensures)
